pub mod Limited
pub mod LimitedLaws
