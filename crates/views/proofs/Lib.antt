pub mod PlaceLaws
pub mod ProtectedLaws
pub mod OpenLaws
pub mod FitLaws
pub mod FlagLaws
pub mod VersionLaws
