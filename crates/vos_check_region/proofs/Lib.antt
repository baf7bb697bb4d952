mod Zeros
mod RangeSteps
mod Judging
mod Faults
