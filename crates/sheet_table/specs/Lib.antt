pub mod Cut
pub mod Table
pub mod TableAnswer
pub mod TableReadings
pub mod Ways
pub mod WaysReadings
pub mod Code
