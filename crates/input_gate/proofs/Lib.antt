pub mod GateLaws
pub mod Reading
pub mod LaneLaws
pub mod RoundLaws
pub mod SegmentLaws
pub mod TurnLaws
