pub mod Stacks
pub mod Contents
pub mod StepWithTexts
pub mod Directives
pub mod Putting
pub mod Agreeing
