pub mod WriteLaws
pub mod BytesLaws
pub mod PatchLaws
pub mod NumberLaws
pub mod HeadLaws
pub mod DataLaws
pub mod Sizes
