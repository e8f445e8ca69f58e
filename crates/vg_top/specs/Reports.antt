-- The reports of commands.
pub mod Check
pub mod Run
pub mod State
