-- The loop over machine lines.
pub mod MachineSection
