pub mod UnquotedLaws
pub mod RunLaws
mod NumberLaws
mod TextLaws
mod EndLaws
pub mod FieldLaws
mod FieldsLaws
pub mod CutLaws
pub mod FrameLaws
