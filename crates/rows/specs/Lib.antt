pub mod Growing
pub mod Heads
pub mod Links
pub mod Listing
pub mod Printed
pub mod Rows
pub mod RowsCases
pub mod RowsLaw
