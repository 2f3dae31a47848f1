pub mod LayoutLaws
pub mod ListLaws
pub mod PageLaws
pub mod Promises
pub mod TablesLaws
pub mod SweepLaws
