pub mod RowEvent
pub mod ToFile
pub mod Progress
pub mod Data
