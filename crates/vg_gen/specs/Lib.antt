pub mod Drawing
pub mod ModuleText
