-- Which words are run so far, and where others ask for more.
use Rattle.std.specs.Prelude.{◌≡◌, ℕ, Bool, true, false, ◌&&◌, ◌||◌, not, nat_eq, List, codes, Result, Ok, Err, if◌then◌else◌}
use Rattle.std.specs.Str.{bytes_eq}
use Rattle.std.specs.List.{position_or_len, starts_with}
use Rattle.base_types.specs.declared.fault.WordFault.{WordFault}
use Rattle.base_types.specs.declared.fault.WordKind.TheVariants.{NotYet}
use Rattle.base_types.specs.declared.job.Job.{Job}
use Rattle.base_types.specs.declared.job.Task.{Task}
use Rattle.base_types.specs.declared.job.Task.TheVariants.{Run, Load, Rebuild, Dfs, Audit}
use Rattle.base_text.specs.Results.{◌>>=◌}
use Rattle.daos_words.specs.declared.fault.WordNo.{WordNo}
use Rattle.daos_words.specs.declared.fault.WordNo.TheVariants.{Fault, Memory}
use Rattle.daos_words.specs.Words.{job_of}

-- a task that is run so far
abbrev pub is_run_task : Task → Bool
is_run_task Run = true
is_run_task (Load count) = true
is_run_task (Rebuild target) = false
is_run_task Dfs = false
is_run_task Audit = false

-- a job that is run so far: a script or a load, without threads
abbrev pub is_run : Job → Bool
is_run j = is_run_task j.task && not j.threads

-- a word of a job that is this option, with or without its value
abbrev pub is_option : List ℕ → List ℕ → Bool
is_option w name = starts_with nat_eq w name

-- the word of a job that isn't run so far
abbrev pub is_later_job : List ℕ → Bool
is_later_job w = bytes_eq w (codes "rebuild") || bytes_eq w (codes "dfs") || bytes_eq w (codes "audit")

-- a word that asks for what isn't run so far
abbrev pub asks_more : List ℕ → Bool
asks_more w = is_option w (codes "--threads") || is_later_job w

-- where words first ask for more than is run
abbrev pub place_of_more : List (List ℕ) → ℕ
place_of_more ws = position_or_len asks_more ws

-- a job that is run so far, or the refusal of one that isn't
abbrev pub run_or_not_yet : List (List ℕ) → Job → Result Job WordFault
run_or_not_yet ws j = if is_run j then Ok j else Err (record { place = place_of_more ws; kind = NotYet })

-- the job that words ask for, where it is run so far; or their first fault, or where they ask for more
unfoldable pub run_job_of : List (List ℕ) → Result Job WordFault
run_job_of ws = job_of ws >>= run_or_not_yet ws

-- why words are not run: their first fault, or where they ask for more; reading them takes no memory
abbrev pub IsRefusedFor : List (List ℕ) → WordNo → Type 0
IsRefusedFor ws (Fault fault) = run_job_of ws ≡ Err fault
IsRefusedFor ws Memory = ⊥
