pub mod PairLaws
pub mod Fitting
pub mod Lists
pub mod Standing
pub mod Growing
