mod Floors
mod Roots
mod Powers
