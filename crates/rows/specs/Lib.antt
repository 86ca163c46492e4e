pub mod World
pub mod Named
