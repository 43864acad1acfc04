pub mod Spellings
mod Members
mod Whole
mod Known
mod Alike
mod Orders
mod Lines
mod Renamed
mod OneText
