mod TableLemmas
mod HeadLemmas
pub mod IllegalLemmas
mod WordLemmas
