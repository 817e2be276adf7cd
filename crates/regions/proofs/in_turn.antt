-- Machine by machine: what the marks of 8 and 9 say, the scan for 10, and the loop over the machines.
pub mod Marks
pub mod Scan
pub mod Checking
