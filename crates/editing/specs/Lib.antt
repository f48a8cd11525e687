pub mod Cases
pub mod Drafts
pub mod Editor
pub mod Law
pub mod Machine
pub mod Model
pub mod Refusals
