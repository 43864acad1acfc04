pub mod Having
mod Numbered
pub mod Below
