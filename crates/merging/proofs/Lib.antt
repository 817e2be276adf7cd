-- The laws behind Merge.

-- the theory: one machine among others; which of its places bar each other, and that this decides 11 and 12; places in groups; the machine whose places are the
-- groups; which two groups can be merged; lists in rising order; each place that a group takes is the next merge; what the pass over one machine leaves
pub mod Middle
pub mod Barring
pub mod Parting
pub mod Joined
pub mod Pairs
pub mod Rising
pub mod Growing
pub mod Grouping
-- the rows: the states common to pre-places on later machines; places that bar each other
pub mod Later
pub mod Pairing
-- the numbers of groups, and the rows with them
pub mod Taking
pub mod Gathering
pub mod Numbering
pub mod Renumbering
pub mod Uniting
-- machine by machine
pub mod Telling
pub mod Others
pub mod Passing
pub mod Turns
pub mod Judging
