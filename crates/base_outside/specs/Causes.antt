-- Counts that only rise, and the answers that a rise stands for.
use Rattle.std.specs.Prelude.{◌≡◌, ℕ, ◌+◌, ◌-◌, ◌^◌, ◌<◌, ◌≤◌, ◌⊎◌, min, List, length, Result, OnErr, IfOk}

-- one more, where the range of a u64 has one more
abbrev pub one_more : ℕ → ℕ
one_more n = min (n + 1) (2 ^ 64 - 1)

-- a count rose, or stands at the end of its range
abbrev pub Rose : ℕ → ℕ → Type 0
Rose before now = one_more before ≤ now

-- a count never falls, and an error comes only where it rose
pub record HasCause {T E : Type 0} (before now : ℕ) (result : Result T E) : Type 0 where
  pub later : before ≤ now
  pub failed : OnErr result (Rose before now)

-- neither count falls, and an error comes only where one of them rose
pub record HasEitherCause {T E : Type 0} (faults_before faults_now burns_before burns_now : ℕ) (result : Result T E) : Type 0 where
  pub later_faults : faults_before ≤ faults_now
  pub later_burns : burns_before ≤ burns_now
  pub failed : OnErr result (Rose faults_before faults_now ⊎ Rose burns_before burns_now)

-- a count never falls, rises where nothing was taken of a piece that isn't empty, and stays at any
-- other answer
pub record CountsStalls {E : Type 0} (before now : ℕ) (result : Result ℕ E) (piece : List ℕ) : Type 0 where
  pub later : before ≤ now
  pub stalled : IfOk result (λ taken. taken ≡ 0 → 0 < length piece → Rose before now)
  pub taken : IfOk result (λ taken. 0 < taken → now ≡ before)
  pub empty : length piece ≡ 0 → now ≡ before
  pub failed : OnErr result (now ≡ before)

-- where nothing was taken of a piece that isn't empty, the count is one more
abbrev pub StallsOnce : {E : Type 0} → ℕ → ℕ → Result ℕ E → List ℕ → Type 0
StallsOnce before now result piece = IfOk result (λ taken. taken ≡ 0 → 0 < length piece → now ≡ one_more before)
