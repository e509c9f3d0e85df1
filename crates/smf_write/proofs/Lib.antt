pub mod TidyLaws
pub mod FileLaws
pub mod AnswerLaws
pub mod TwiceLaws
pub mod RoomLaws
