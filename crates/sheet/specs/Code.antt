pub mod Seen
pub mod Cell
pub mod Row
pub mod Walk
