-- `Parts`: the part of the text that Name hands back, and its refusal.
pub mod Parts
