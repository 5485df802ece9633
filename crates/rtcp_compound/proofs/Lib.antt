pub mod SoFar
pub mod OneCutting
