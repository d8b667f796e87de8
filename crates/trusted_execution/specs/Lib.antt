pub mod TrustedCall
pub mod FlagCase
