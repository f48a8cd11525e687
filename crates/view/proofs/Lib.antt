pub mod Examples
pub mod Keeping
pub mod Listings
pub mod Numbering
pub mod Showing
