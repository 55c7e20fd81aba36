pub mod Header
pub mod Payload
pub mod Reader
pub mod Rows
pub mod Step
pub mod Setting
pub mod Look
