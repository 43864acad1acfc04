pub mod Exceptions
pub mod Points
pub mod Refusals
pub mod SiteWords
pub mod Texts
