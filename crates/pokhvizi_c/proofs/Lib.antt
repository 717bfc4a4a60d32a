pub mod DeedNumbers
pub mod StepNumbers
