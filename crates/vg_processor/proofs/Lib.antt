mod LoopLemmas
mod WidthLemmas
mod NumberLemmas
mod FileLemmas
pub mod AbiLemmas
mod TargetLemmas
mod ReadLemmas
mod OutcomeLemmas
mod InstrLemmas
mod WholeLemmas
