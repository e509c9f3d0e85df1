-- What the answer about a line says.
pub mod Name
pub mod Row
pub mod Table
pub mod TextState
pub mod Column
pub mod Line
pub mod InTurn
