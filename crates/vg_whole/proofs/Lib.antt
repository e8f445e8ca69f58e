pub mod BindingLemmas
pub mod JudgedLemmas
pub mod StatementLemmas
pub mod Agreement
pub mod Constants
