pub mod TableLaws
mod ColumnLaws
pub mod TextLaws
mod WordLaws
mod FieldInLaws
mod OtherFieldLaws
mod FiveLaws
mod InTurnLaws
pub mod BodyLaws
mod SizeLaws
mod LineLaws
mod NameLaws
mod RecordLaws
mod RefusalLaws
mod AgreeLaws
