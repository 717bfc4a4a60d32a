pub mod Escape
pub mod FieldTexts
pub mod EventText
pub mod FaultText
pub mod DocumentText
pub mod Refusal
