pub mod BitValue
