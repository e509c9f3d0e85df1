pub mod Line
pub mod ToText
