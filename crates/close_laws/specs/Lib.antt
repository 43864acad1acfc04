pub mod Layouts
pub mod Lower
pub mod Close
pub mod Plan
pub mod Text
