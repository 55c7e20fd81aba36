-- each answer's numbers, and what a size leaves; what a call leaves is one_stroke's Lent
pub mod Answer
-- what a refusal is printed as
pub mod Text
-- what the private functions ensure
pub mod Turn
pub mod Follow
