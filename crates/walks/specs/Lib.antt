pub mod Chains
pub mod Reach
pub mod Tables
pub mod Visits
