-- `Written`: the sheet that rows of numbers give. `Rows`: the same of rows that are lent one by one. `Lengths`, `Within`: what the inner functions promise of
-- lengths and of the buffer.
pub mod Written
pub mod Rows
pub mod Lengths
pub mod Within
