-- What clients were told is what targets served.
pub mod Gots
pub mod MoreLaws
pub mod GotLaws
pub mod HearGots
pub mod StepGots
pub mod TargetGots
pub mod Right
pub mod RightLaws
pub mod FormLaws
pub mod ToldLaws
