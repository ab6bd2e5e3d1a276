pub mod StandingLaws
pub mod Laws
