mod TreeLemmas
mod Loops
mod CallLemmas
mod Filling
mod FindLemmas
mod InlineLemmas
mod StateLemmas
mod Picture
mod Steps
mod FieldLemmas
mod Within
mod StatePicture
mod EffectWithin
mod Greatest
mod Below
pub mod WholeBehaviours
pub mod Few
pub mod Making
mod Lacking
