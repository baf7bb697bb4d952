-- What holds of every list of words.
use Rattle.std.specs.Prelude.{◌≡◌, ◌≢◌, ℕ, ◌≤◌, ◌<◌, true, List, ◌++◌, length, Ok, Err}
use Rattle.base_types.specs.declared.fault.WordFault.{WordFault}
use Rattle.base_types.specs.declared.fault.WordKind.TheVariants.{NoValue, BadTarget}
use Rattle.base_types.specs.declared.job.Job.{Job}
use Rattle.base_types.specs.declared.job.Task.{Task}
use Rattle.base_types.specs.declared.job.Task.TheVariants.{Run, Load, Rebuild, Dfs, Audit}
use Rattle.daos_words.specs.Words.{job_of}

-- a number lies in a range
abbrev pub IsWithin : ℕ → ℕ → ℕ → Type 0
IsWithin lo hi n = (lo ≤ n) × (n ≤ hi)

-- a task that words can stand for, on so many targets: 1 to 10,000 commands, or a target but the first
abbrev pub IsTask : ℕ → Task → Type 0
IsTask targets Run = Unit {0}
IsTask targets (Load count) = IsWithin 1 10000 count
IsTask targets (Rebuild target) = (0 < target) × (target < targets)
IsTask targets Dfs = Unit {0}
IsTask targets Audit = Unit {0}

-- a job that words can stand for: each number in its range, and no order of turns with threads
pub record IsInForm (j : Job) : Type 0 where
  pub task : IsTask j.targets j.task
  pub targets : IsWithin 1 64 j.targets
  pub size : IsWithin 2 32 j.size_mib
  pub attempts : IsWithin 1 100 j.attempts
  pub epsilon : j.epsilon ≤ 1000000
  pub apart : j.threads ≡ true → j.order ≡ 0

-- words stand for jobs in form, and are few; a fault at a word stays whatever words follow, but for a value that is missing, and for
-- a target that isn't one of so many
pub record WordsLaw : Type 0 where
  pub form : (ws : List (List ℕ)) (j : Job) → job_of ws ≡ Ok j → IsInForm j
  pub few : (ws : List (List ℕ)) (j : Job) → job_of ws ≡ Ok j → length ws ≤ 12
  pub stays : (ws more : List (List ℕ)) (f : WordFault) → job_of ws ≡ Err f → f.place < length ws → f.kind ≢ NoValue → f.kind ≢ BadTarget → job_of (ws ++ more) ≡ Err f
