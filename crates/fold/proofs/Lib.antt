mod RowLaws
mod StandLaws
mod MergeLaws
mod EndLaws
mod StartLaws
mod ScanLaws
mod TopLaws
