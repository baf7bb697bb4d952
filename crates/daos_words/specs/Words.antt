-- What the words of a command line ask for, or the first fault in them. Words are read from the left, each with what the
-- words before it gave; places are counted from 0.
use Rattle.std.specs.Prelude.{ℕ, ◌+◌, Bool, true, false, ◌&&◌, ◌==◌, nat_lt, is_some, List, length, take, drop, position, codes, slice_index, Option, Some, None, Result, Ok, Err, if◌then◌else◌, unwrap_or}
use Rattle.std.specs.Str.{bytes_eq}
use Rattle.base_types.specs.declared.fault.WordFault.{WordFault}
use Rattle.base_types.specs.declared.fault.WordKind.{WordKind}
use Rattle.base_types.specs.declared.fault.WordKind.TheVariants.{BadJob, BadCount, ExtraWord, UnknownOption, Twice, Clash, NoValue, BadValue, NoJob, NoCount, BadTarget, NoTarget}
use Rattle.base_types.specs.declared.job.Job.{Job}
use Rattle.base_types.specs.declared.job.Task.{Task}
use Rattle.base_types.specs.declared.job.Task.TheVariants as task
use Rattle.base_text.specs.Number.{number_in}
use Rattle.base_text.specs.Results.{◌>>=◌}
use Rattle.base_text.specs.Steps.{steps}
use Rattle.daos_words.specs.declared.fault.WordNo.{WordNo}
use Rattle.daos_words.specs.declared.fault.WordNo.TheVariants.{Fault}
use Rattle.daos_words.specs.declared.given.Given.{Given}
use Rattle.daos_words.specs.declared.given.JobWord.{JobWord}
use Rattle.daos_words.specs.declared.given.JobWord.TheVariants.{Run, Load, Rebuild, Dfs, Audit}
use Rattle.daos_words.specs.declared.given.Lost.{Lost}
use Rattle.daos_words.specs.declared.given.Setting.{Setting}
use Rattle.daos_words.specs.declared.given.Setting.TheVariants.{Targets, Size, Attempts, Epsilon, Order}

abbrev pub fault : {A : Type 0} → ℕ → WordKind → Result A WordFault
fault at kind = Err (record { place = at; kind = kind })

-- ---- options with a value

-- the option of this name
abbrev pub setting_named : List ℕ → Option Setting
setting_named w =
    if bytes_eq w (codes "--targets") then Some Targets else if bytes_eq w (codes "--size") then Some Size
    else if bytes_eq w (codes "--attempts") then Some Attempts else if bytes_eq w (codes "--epsilon") then Some Epsilon
    else if bytes_eq w (codes "--order") then Some Order else None

-- the least and the greatest value of an option
abbrev pub lowest : Setting → ℕ
lowest Targets = 1
lowest Size = 2
lowest Attempts = 1
lowest Epsilon = 0
lowest Order = 0

abbrev pub highest : Setting → ℕ
highest Targets = 64
highest Size = 32
highest Attempts = 100
highest Epsilon = 1000000
highest Order = 18446744073709551615

abbrev pub is_order : Setting → Bool
is_order Targets = false
is_order Size = false
is_order Attempts = false
is_order Epsilon = false
is_order Order = true

-- an option has its value
abbrev pub holds : Setting → Given → Bool
holds Targets g = is_some g.targets
holds Size g = is_some g.size
holds Attempts g = is_some g.attempts
holds Epsilon g = is_some g.epsilon
holds Order g = is_some g.order

abbrev pub with_number : Given → Setting → ℕ → Given
with_number g Targets n = record g { targets = Some n }
with_number g Size n = record g { size = Some n }
with_number g Attempts n = record g { attempts = Some n }
with_number g Epsilon n = record g { epsilon = Some n }
with_number g Order n = record g { order = Some n }

abbrev pub with_value_of : ℕ → Given → Setting → Option ℕ → Result Given WordFault
with_value_of at g o None = fault at BadValue
with_value_of at g o (Some n) = Ok (with_number g o n)

-- an option gets the value that a word at this place spells
unfoldable pub with_value : ℕ → Given → Setting → List ℕ → Result Given WordFault
with_value at g o w = with_value_of at g o (number_in (lowest o) (highest o) w)

-- a value that is joined to its option; where none is, it is the next word
abbrev pub with_joined : ℕ → Given → Setting → Option (List ℕ) → Result Given WordFault
with_joined at g o None = Ok (record g { awaits = Some (at, o) })
with_joined at g o (Some w) = with_value at g o w

-- an option by its name: it is unknown, or stood before, or does not go with `--threads`, or gets its value
abbrev pub with_name : ℕ → Given → Option Setting → Option (List ℕ) → Result Given WordFault
with_name at g None w = fault at UnknownOption
with_name at g (Some o) w =
    if holds o g then fault at Twice else if is_order o && g.threads then fault at Clash else with_joined at g o w

-- ---- words

-- a name up to the first `=`, and the value behind it
abbrev pub with_parts : ℕ → Given → List ℕ → Option ℕ → Result Given WordFault
with_parts at g w None = with_name at g (setting_named w) None
with_parts at g w (Some i) = with_name at g (setting_named (take i w)) (Some (drop (i + 1) w))

abbrev pub with_threads : ℕ → Given → Result Given WordFault
with_threads at g =
    if g.threads then fault at Twice else if is_some g.order then fault at Clash else Ok (record g { threads = true })

-- a word that begins with a dash
unfoldable pub with_option : ℕ → Given → List ℕ → Result Given WordFault
with_option at g w =
    if bytes_eq w (codes "--threads") then with_threads at g else with_parts at g w (position (λ b. b == 61) w)

-- the job of this name, with nothing behind it yet
abbrev pub job_named : List ℕ → Option JobWord
job_named w =
    if bytes_eq w (codes "run") then Some Run else if bytes_eq w (codes "load") then Some (Load None)
    else if bytes_eq w (codes "rebuild") then Some (Rebuild None) else if bytes_eq w (codes "dfs") then Some Dfs
    else if bytes_eq w (codes "audit") then Some Audit else None

-- the first other word is the job
abbrev pub with_job : ℕ → Given → Option JobWord → Result Given WordFault
with_job at g None = fault at BadJob
with_job at g (Some job) = Ok (record g { job = Some job })

abbrev pub with_count : ℕ → Given → Option ℕ → Result Given WordFault
with_count at g None = fault at BadCount
with_count at g (Some n) = Ok (record g { job = Some (Load (Some n)) })

-- the next one is the count of a load, or the target of a rebuild: how many targets there are may come to be known later
abbrev pub with_more : ℕ → Given → JobWord → List ℕ → Result Given WordFault
with_more at g Run w = fault at ExtraWord
with_more at g (Load None) w = with_count at g (number_in 1 10000 w)
with_more at g (Load (Some n)) w = fault at ExtraWord
with_more at g (Rebuild None) w = Ok (record g { job = Some (Rebuild (Some (record { place = at; target = number_in 1 63 w }))) })
with_more at g (Rebuild (Some lost)) w = fault at ExtraWord
with_more at g Dfs w = fault at ExtraWord
with_more at g Audit w = fault at ExtraWord

abbrev pub with_plain_after : ℕ → Given → Option JobWord → List ℕ → Result Given WordFault
with_plain_after at g None w = with_job at g (job_named w)
with_plain_after at g (Some job) w = with_more at g job w

-- a word that does not begin with a dash
unfoldable pub with_plain : ℕ → Given → List ℕ → Result Given WordFault
with_plain at g w = with_plain_after at g g.job w

-- a word is the value of the option before it, if that waits for one
abbrev pub with_word_after : ℕ → Given → Option (ℕ × Setting) → List ℕ → Result Given WordFault
with_word_after at g None w = if slice_index w 0 == 45 then with_option at g w else with_plain at g w
with_word_after at g (Some p) w = with_value at (record g { awaits = None }) p.1 w

-- one more word
unfoldable pub with_word : ℕ → Given → List ℕ → Result Given WordFault
with_word at g w = with_word_after at g g.awaits w

-- ---- the end

-- the task to rebuild a target, which is one of so many, but not the first
abbrev pub rebuild_if : ℕ → ℕ → Option ℕ → Result Task WordFault
rebuild_if at targets None = fault at BadTarget
rebuild_if at targets (Some target) = if nat_lt target targets then Ok (task.Rebuild target) else fault at BadTarget

abbrev pub rebuild_of : ℕ → Lost → Result Task WordFault
rebuild_of targets lost = rebuild_if lost.place targets lost.target

-- the task of the job, on so many targets; what is missing is told behind the last word
abbrev pub task_of : ℕ → ℕ → Option JobWord → Result Task WordFault
task_of at targets None = fault at NoJob
task_of at targets (Some Run) = Ok task.Run
task_of at targets (Some (Load None)) = fault at NoCount
task_of at targets (Some (Load (Some n))) = Ok (task.Load n)
task_of at targets (Some (Rebuild None)) = fault at NoTarget
task_of at targets (Some (Rebuild (Some lost))) = rebuild_of targets lost
task_of at targets (Some Dfs) = Ok task.Dfs
task_of at targets (Some Audit) = Ok task.Audit

-- how many targets are asked for
abbrev pub targets_of : Given → ℕ
targets_of g = unwrap_or g.targets 4

-- what is given, with the defaults of what is not
abbrev pub job_with : Task → Given → Job
job_with task g = record {
  task = task;
  targets = targets_of g;
  size_mib = unwrap_or g.size 4;
  attempts = unwrap_or g.attempts 8;
  epsilon = unwrap_or g.epsilon 0;
  threads = g.threads;
  order = unwrap_or g.order 0;
}

-- the job of what is given
abbrev pub job_after : ℕ → Given → Result Job WordFault
job_after at g = task_of at (targets_of g) g.job >>= λ task. Ok (job_with task g)

-- an option that still waits for its value is told at its own place
abbrev pub ended_after : ℕ → Given → Option (ℕ × Setting) → Result Job WordFault
ended_after at g None = job_after at g
ended_after at g (Some p) = fault p.0 NoValue

-- no further word stands
unfoldable pub ended : ℕ → Given → Result Job WordFault
ended at g = ended_after at g g.awaits

abbrev pub nothing_given : Given
nothing_given = record {
  job = None;
  targets = None;
  size = None;
  attempts = None;
  epsilon = None;
  order = None;
  threads = false;
  awaits = None;
}

-- the job that words stand for, or the first fault in them
unfoldable pub job_of : List (List ℕ) → Result Job WordFault
job_of ws = steps with_word 0 nothing_given ws >>= λ g. ended (length ws) g

-- the answer
abbrev pub answered : Result Job WordFault → Result Job WordNo
answered (Ok j) = Ok j
answered (Err f) = Err (Fault f)
