pub mod Periods
pub mod PeriodLaws
pub mod MemState
pub mod MemLaws
pub mod FusedState
pub mod MemRackState
