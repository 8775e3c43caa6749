pub mod LoadLemmas
pub mod RunLemmas
pub mod SegmentLemmas
pub mod SelfLemmas
pub mod SelfNumbers
pub mod StatusLemmas
pub mod TextJobs
pub mod TopLemmas
