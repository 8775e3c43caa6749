pub mod Lengths
pub mod Parts
pub mod SpanLemmas
pub mod PieceLemmas
