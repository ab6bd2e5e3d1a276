pub mod RuleLaws
pub mod NodeLaws
pub mod NodeLists
pub mod Passing
pub mod Front
