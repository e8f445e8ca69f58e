pub mod First
pub mod BitLemmas
pub mod RangeLemmas
pub mod Remaining
pub mod Apart
pub mod FieldLemmas
pub mod EncodingLemmas
pub mod MaskLemmas
