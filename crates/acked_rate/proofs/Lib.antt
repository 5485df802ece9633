mod Rings
mod Windows
