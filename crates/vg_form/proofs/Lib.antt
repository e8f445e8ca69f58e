pub mod FormTyping
pub mod FormWrites
pub mod FormLemmas
pub mod ShapeLemmas
pub mod PairLemmas
