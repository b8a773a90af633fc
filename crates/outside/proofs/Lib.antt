pub mod ShelvesLemmas
pub mod SinkLemmas
pub mod SourceLemmas
