pub mod AddedText
pub mod Faults
pub mod Parties
pub mod PacketPieces
pub mod Talks
pub mod Interrupts
