-- How an attempt ended, in words.
use Rattle.std.specs.Prelude.{[], ◌∷◌, ◌++◌, codes}
use Rattle.std.specs.Fmt.{decimal}
use Rattle.base_types.specs.declared.epoch.Epoch.{Epoch}
use Rattle.base_types.specs.declared.id.AttemptId.{AttemptId}
use Rattle.base_types.specs.declared.path.Path.{Path}
use Rattle.base_types.specs.declared.outcome.Cause.{Cause}
use Rattle.base_types.specs.declared.outcome.Cause.TheVariants as cause
use Rattle.base_types.specs.declared.outcome.FloorWhy.{FloorWhy}
use Rattle.base_types.specs.declared.outcome.FloorWhy.TheVariants as floor
use Rattle.base_types.specs.declared.outcome.Outcome.{Outcome}
use Rattle.base_types.specs.declared.outcome.Outcome.TheVariants as outcome
use Rattle.base_types.specs.declared.script.Script.{Script}
use Rattle.base_text.specs.Rows.{Words}
use Rattle.report_writer.specs.Names.{path_word}
use Rattle.report_writer.specs.Words.{attempt_words}

-- another attempt's access: the attempt, its epoch and the path
abbrev pub access_words : Script → AttemptId → Epoch → Path → Words
access_words s by epoch path = attempt_words by ++ decimal epoch.0 ∷ path_word s path ∷ []

-- what set a floor; one from before the run stands in no cause
abbrev pub floor_words : FloorWhy → Words
floor_words floor.Opening = codes "opening" ∷ []
floor_words (floor.Restart number) = codes "restart" ∷ decimal number ∷ []
floor_words (floor.Snapshot epoch) = codes "snapshot" ∷ decimal epoch.0 ∷ []
floor_words (floor.Aggregate number) = codes "aggregate" ∷ decimal number ∷ []

-- why an attempt was told to restart
abbrev pub cause_words : Script → Cause → Words
cause_words s (cause.ReadLater by epoch path) = codes "readlater" ∷ access_words s by epoch path
cause_words s (cause.WriteLater by epoch path) = codes "writelater" ∷ access_words s by epoch path
cause_words s (cause.Unresolved by) = codes "unresolved" ∷ attempt_words by
cause_words s (cause.Floor target epoch why) = codes "floor" ∷ decimal target ∷ decimal epoch.0 ∷ floor_words why

abbrev pub outcome_words : Script → Outcome → Words
outcome_words s outcome.Committed = codes "committed" ∷ []
outcome_words s (outcome.CondFailed op) = codes "condfailed" ∷ decimal op ∷ []
outcome_words s (outcome.Restart why) = codes "restart" ∷ cause_words s why
outcome_words s (outcome.NoSpace target need free) = codes "nospace" ∷ decimal target ∷ decimal need ∷ decimal free ∷ []
outcome_words s outcome.EpochsSpent = codes "spent" ∷ []
outcome_words s outcome.NoSnapshot = codes "nosnap" ∷ []
outcome_words s (outcome.Unknown target) = codes "unknown" ∷ decimal target ∷ []
