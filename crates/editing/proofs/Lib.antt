pub mod Cases
pub mod Editing
pub mod Editor
pub mod Histories
pub mod Relabelling
pub mod RowLabels
pub mod Simulation
