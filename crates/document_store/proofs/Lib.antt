mod Ascending
mod Filling
