pub mod Words
pub mod Loops
pub mod Recursion
pub mod Causes
pub mod Forms
pub mod Values
