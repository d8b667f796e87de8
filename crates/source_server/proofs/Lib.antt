pub mod LineLemmas
pub mod ServedPieces
pub mod ServedEnds
