-- Names as the drawings spell them.
pub mod Examples
