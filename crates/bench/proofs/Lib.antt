pub mod DraftEdits
pub mod Stored
