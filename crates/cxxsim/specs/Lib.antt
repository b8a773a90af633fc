pub mod Words
pub mod TraceText
pub mod Printed
pub mod Outside
pub mod Trace
pub mod Solo
pub mod Answers
pub mod Outcome
