pub mod MaskLemmas
pub mod RangeLemmas
pub mod FieldLemmas
pub mod NarrowLemmas
pub mod EncodingLemmas
pub mod DifferLemmas
pub mod AbiLemmas
