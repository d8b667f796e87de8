pub mod ReadBack
pub mod ReportFile
pub mod ReportLine
pub mod VerdictLine
pub mod RequestLine
