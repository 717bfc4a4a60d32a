pub mod Children
mod Handing
pub mod Tops
pub mod exported
