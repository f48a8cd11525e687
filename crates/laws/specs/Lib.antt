pub mod Bounds
pub mod Cabinets
pub mod Every
pub mod Extends
pub mod Labelling
pub mod Reached
pub mod Recorded
pub mod Recursion
