pub mod PacketLaws
mod Search
pub mod Streams
