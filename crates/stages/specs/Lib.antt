-- `Order`: refusals 4 to 10 in the fixed order. `Stages`: what is known of a text once it is read, once it is past 7, past 10, and past 12.
pub mod Order
pub mod Stages
