-- `Listed`: a name of a list, looked up. `Boards`: a list of names on the machines of a sheet.
pub mod Listed
pub mod Boards
