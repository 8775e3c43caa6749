pub mod AccountLaws
pub mod Asking
pub mod EndLaws
pub mod EntryLaws
pub mod MessageLaws
pub mod PlaceLaws
pub mod RoundLaws
pub mod TurnLaws
