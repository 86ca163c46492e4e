pub mod Sets
pub mod Rule
pub mod Cells
pub mod Asked
pub mod Keeping
pub mod Standing
