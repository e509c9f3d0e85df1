pub mod Search
pub mod Row
pub mod Stand
pub mod Look
