pub mod StageOrder
pub mod StageMet
pub mod Earliest
pub mod IndexFound
pub mod StageLack
