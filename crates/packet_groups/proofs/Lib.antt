mod Bounds
mod OneDivision
mod Placing
mod Sums
