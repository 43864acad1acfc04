mod Ranges
mod Parts
mod Fuel
