mod SeenLaws
mod BlankLaws
mod CutLaws
mod CellLaws
mod FieldLaws
pub mod SeparatorLaws
pub mod TableLeftLaws
pub mod SheetAnswerLaws
mod FieldsInLaws
mod PlaceLaws
mod QuoteLaws
mod WalkLaws
mod LoneLaws
mod RowBoundLaws
mod RowLaws
mod NameCellLaws
mod PartLaws
mod StandLaws
