pub mod ReadingInitial
pub mod ExactInitial
pub mod ReadingGlobal
pub mod ExactGlobal
pub mod ReadingStructure
pub mod ExactStructure
pub mod ReadingSkipped
pub mod ExactSkipped
