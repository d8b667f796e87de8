pub mod WholeCall
pub mod Example
