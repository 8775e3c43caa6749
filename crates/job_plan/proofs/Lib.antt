pub mod CountLemmas
pub mod RowLemmas
pub mod LinesLemmas
pub mod JoinLemmas
