pub mod Expr
pub mod Name
pub mod Form
pub mod Word
pub mod Token
pub mod Operand
pub mod Statement
pub mod Source
