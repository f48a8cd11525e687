pub mod Chains
pub mod Marking
pub mod Members
pub mod Reaching
pub mod Tables
pub mod Walking
