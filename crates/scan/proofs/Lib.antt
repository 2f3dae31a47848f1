pub mod Laws
pub mod RangeLaws
pub mod Outcomes
