pub mod ReadLaws
pub mod ShownLaws
