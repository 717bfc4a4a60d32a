pub mod HandleLemmas
pub mod SourceErrors
pub mod TextLemmas
