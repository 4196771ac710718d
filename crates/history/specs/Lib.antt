pub mod Model
pub mod Run
pub mod External
pub mod Theorem
pub mod ReadBack
pub mod Term
pub mod Former
pub mod Fronts
