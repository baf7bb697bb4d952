-- Entries of a log that are settled or pruned by their moments.
use Rattle.std.specs.Prelude.{◌&&◌, ℕ, Bool, not, List, Option}
use Rattle.base_types.specs.declared.entry.Settle.{Settle}
use Rattle.base_types.specs.declared.id.AttemptId.{AttemptId}
use Rattle.pmem_pages.specs.Blocks.{Blocks, Budget}
use Rattle.vos_values.specs.declared.keys.Moment.{Moment}
use Rattle.vos_values.specs.declared.values.LogMark.{LogMark}
use Rattle.vos_moments.specs.vos_levels.declared.change.Change.{Change}
use Rattle.vos_moments.specs.vos_levels.Changes.{changed_by, freed_by, keeps, same_attempt, sum_those, takes}
use Rattle.vos_moments.specs.vos_levels.Levels.{things, without_those}
use Rattle.vos_moments.specs.vos_punches.Moments.{has_moment}
use Rattle.vos_moments.specs.Steps.{change_of}
use Rattle.vos_moments.specs.Taking.{Took, takes_one}
use Rattle.vos_ilog.specs.declared.ilog.LogEntry.{LogEntry}
use Rattle.vos_ilog.specs.Logs.{Log, done_entry, log_owner, moment_of, one_block}

-- the unsettled entries of an attempt, of some moments
abbrev pub is_settled_at : AttemptId → List Moment → LogEntry → Bool
is_settled_at a ms v = has_moment (moment_of v) ms && (same_attempt v.by a && not v.done)

-- the entries after these were settled: done, or gone; and the blocks of those that went
abbrev pub settled_at : AttemptId → List Moment → Settle → List LogEntry → List LogEntry
settled_at a ms s vs = changed_by (keeps (change_of a s)) (is_settled_at a ms) done_entry vs

abbrev pub settled_freed : AttemptId → List Moment → Settle → List LogEntry → ℕ
settled_freed a ms s vs = freed_by (keeps (change_of a s)) (is_settled_at a ms) one_block vs

-- the done entries of some moments
abbrev pub is_pruned_at : List Moment → LogEntry → Bool
is_pruned_at ms v = has_moment (moment_of v) ms && v.done

abbrev pub pruned_at : List Moment → List LogEntry → List LogEntry
pruned_at ms vs = without_those (is_pruned_at ms) vs

abbrev pub pruned_freed : List Moment → List LogEntry → ℕ
pruned_freed ms vs = sum_those (is_pruned_at ms) one_block vs

-- those that a change takes, of some moments
abbrev pub is_taken_at : Change → List Moment → LogEntry → Bool
is_taken_at c ms v = has_moment (moment_of v) ms && takes c v.by v.done

-- those that pass a test were settled or pruned by a change
abbrev pub TookEntries : Change → (LogEntry → Bool) → Blocks → Log → Budget → Blocks → ℕ → Budget → Type 0
TookEntries c taken m g before n at after = Took log_owner things (keeps c) taken done_entry one_block 0 m g before n at after

-- what a change takes by what an entry says
abbrev pub takes_mark : Change → Option LogMark → Bool
takes_mark c o = takes_one (λ k. takes c k.by k.done) o
