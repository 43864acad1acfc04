mod Sets
mod Adding
mod Walking
mod Counting
