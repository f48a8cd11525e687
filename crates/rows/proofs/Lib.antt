pub mod Adding
pub mod Fits
pub mod Heading
pub mod Showing
pub mod Linking
