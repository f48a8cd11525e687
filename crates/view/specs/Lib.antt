pub mod Cases
pub mod Faults
pub mod Laws
pub mod Numbers
pub mod View
