pub mod Pieces
pub mod SourceState
pub mod SinkState
pub mod Device
pub mod MemorySource
pub mod MemorySink
pub mod StdView
pub mod Whole
