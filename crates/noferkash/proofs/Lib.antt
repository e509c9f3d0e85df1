pub mod PackedLaws
pub mod Demand2
pub mod FoldCalls
pub mod SheetCalls
pub mod FourGone
pub mod TidyCalls
