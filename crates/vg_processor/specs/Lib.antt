pub mod IsaOf
pub mod Held
pub mod RoleNumbers
pub mod AbiFrom
pub mod Outcome
pub mod Instruction
