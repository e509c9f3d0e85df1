pub mod Fold
pub mod Order
pub mod FoldAnswer
pub mod FoldClaims
pub mod Example
