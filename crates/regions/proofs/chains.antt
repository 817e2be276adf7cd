-- The chains of transitions: how they are made, what stands between one transition and the next, and a walk along one, for both scans for 10.
pub mod Indexing
pub mod Links
pub mod Walks
