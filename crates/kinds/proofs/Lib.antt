pub mod Buffers
pub mod Ends
pub mod Likely
pub mod Makes
pub mod Places
pub mod Ranges
pub mod Tells
