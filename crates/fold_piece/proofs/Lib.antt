pub mod OrderLaws
pub mod GapLaws
pub mod TrackLaws
pub mod WideLaws
pub mod FoldLaws
pub mod StepLaws
pub mod FreeLaws
pub mod AnswerLaws
mod RowsLaws
pub mod FoldClaims
pub mod Example
