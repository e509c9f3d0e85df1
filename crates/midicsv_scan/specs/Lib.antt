-- What the scanner's answers say of a line.
pub mod Unquoted
pub mod FieldAt
pub mod Part
pub mod Cut
