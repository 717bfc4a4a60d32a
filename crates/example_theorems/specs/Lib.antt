pub mod Answer
pub mod Letters
pub mod LettersLaws
