-- what a call leaves of what is lent
pub mod Lent
-- what the paths ensure
pub mod Quick
