pub mod Cuts
pub mod StopLaws
pub mod CutLaws
pub mod OpenLaws
pub mod DecideLaws
pub mod Resting
pub mod EpochLaws
pub mod Laws
