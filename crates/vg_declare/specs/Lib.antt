pub mod FieldCover
pub mod Mask
pub mod FieldValue
pub mod Named
pub mod AbiRole
pub mod AbiPart
pub mod Registers
pub mod Limit
