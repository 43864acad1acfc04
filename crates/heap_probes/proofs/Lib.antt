mod Told
mod Folds
mod Parts
mod Greatest
