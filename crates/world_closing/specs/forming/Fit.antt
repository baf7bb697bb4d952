-- What is asked of a script and of lines so that a report's text determines them; and then floors and places for snapshots that outcomes name are such.
use Rattle.std.specs.Prelude.{ℕ, ◌≡◌, ◌<◌, ◌+◌, ◌^◌, true, false, List, ◌∷◌, Any, Contains, Option, Some, None, refl}
use Rattle.std.specs.List.{range_with_len}
use Rattle.std.proofs.Common.{zero, suc, inl, inr, sym, subst, arith}
use Rattle.base_types.specs.declared.epoch.Epoch.{Epoch}
use Rattle.base_types.specs.declared.id.AttemptId.{AttemptId}
use Rattle.base_types.specs.declared.id.ContId.{ContId}
use Rattle.base_types.specs.declared.outcome.FloorWhy.{FloorWhy}
use Rattle.base_types.specs.declared.outcome.FloorWhy.TheVariants as why
use Rattle.base_types.specs.declared.report.Attempt.{Attempt}
use Rattle.base_types.specs.declared.report.Line.{Line}
use Rattle.base_types.specs.declared.report.Line.TheVariants as line
use Rattle.base_types.specs.declared.script.Command.{Command}
use Rattle.base_types.specs.declared.script.Command.TheVariants as command
use Rattle.base_types.specs.declared.script.Script.{Script}
use Rattle.base_types.specs.Scripts.{IsInForm}
use Rattle.daos_model.specs.Accesses.{attempt_targets, option_targets}
use Rattle.daos_model.specs.Attempts.{tries}
use Rattle.daos_model.specs.CausesShown.{ShowsFloor, is_snap}
use Rattle.daos_model.specs.Opening.{Given}
use Rattle.daos_model.specs.Transactions.{command_of}
use Rattle.model_laws.specs.Members.{Has, has-from_contains, has-right}
use Rattle.model_reports.specs.Lines.{line-of}
use Rattle.report_writer.specs.Forms.{IsAttemptId, IsEpoch, IsEpochOrNone, IsFloorOf, IsLineOf, IsNoSpace}
use Rattle.script_traits.specs.Keyed.{ScriptHasKeys}
use Rattle.world_answers.specs.world_causes.causes.Causes.{is_try}

-- What is asked of a script and of lines: the script is in form for some targets, and has keys; attempts have small numbers and epochs, and what
-- else lines tell is in form.
pub record AreLinesFit (g : Given) (lines : List Line) : Type 0 where
  pub form : IsInForm g.script.targets g.script
  pub some : 0 < g.script.targets
  pub few : g.script.targets < 2 ^ 8
  pub keys : ScriptHasKeys g.script
  pub ids : (a : Attempt) → Has a (tries lines) → IsAttemptId a.id
  pub epochs : (a : Attempt) → Has a (tries lines) → IsEpochOrNone a.epoch
  pub others : (l : Line) → Has l lines → is_try l ≡ false → IsLineOf g.script l

-- an attempt that is told of has its line
pub its-line : (lines : List Line) (a : Attempt) → Has a (tries lines) → Has (line.Try a) lines
its-line lines a i = let k = line-of lines a i in subst (Has (line.Try a)) (sym k.among) (has-right k.before (line.Try a ∷ k.after) (line.Try a) (inl refl))

range-below : (a n t : ℕ) → Has t (range_with_len a n) → t < a + n
range-below a zero t i = absurd i
range-below a (suc n) t (inl same) = omega (arith, same)
range-below a (suc n) t (inr i) = let rest = range-below (a + 1) n t i in omega (arith, rest)

-- a target of a command that makes a snapshot is one of all
snapped-at : (number targets t : ℕ) (o : Option Command) → is_snap o ≡ true → Contains (option_targets number targets o) t → t < targets
snapped-at number targets t None is i = let no : ⊥ = cc in absurd no
snapped-at number targets t (Some (command.Run ops skips snapshot)) is i = let no : ⊥ = cc in absurd no
snapped-at number targets t (Some (command.Snap name cont)) is i = let low = range-below 0 targets t (has-from_contains (range_with_len 0 targets) t i) in omega (arith, low)
snapped-at number targets t (Some (command.Aggregate cont)) is i = let no : ⊥ = cc in absurd no
snapped-at number targets t (Some (command.Tell client)) is i = let no : ⊥ = cc in absurd no
snapped-at number targets t (Some (command.Skip turns)) is i = let no : ⊥ = cc in absurd no

-- one place for a snapshot is lacked
pub place-form : (s : Script) (x : AttemptId) (t need free : ℕ) → s.targets < 2 ^ 8 → is_snap (command_of s x) ≡ true → Contains (attempt_targets s x) t → need ≡ 1 → free ≡ 0 → IsNoSpace t need free
place-form s x t need free few snaps among one none =
    let low = snapped-at x.command s.targets t (command_of s x) snaps among in
    record { number = omega (arith, low, few); wanted = omega (arith, one); found = omega (arith, none) }

module _ (g : Given) (lines : List Line) (k : AreLinesFit g lines) where
  -- a floor has the line that tells of it: of a restart, of a freeze, or of an aggregation
  pub floor-form : (t : ℕ) (floor : Epoch) (cont : ContId) (reason : FloorWhy) → Any (ShowsFloor t floor cont reason) lines → IsFloorOf t floor reason
  floor-form t floor cont reason shown = by reason shown.4
    where
      told : (l : Line) → shown.1 ≡ l → is_try l ≡ false → IsLineOf g.script l
      told l same other = k.others l (subst (λ m. Has m lines) same (has-from_contains lines shown.1 (shown.0, shown.2, shown.3))) other

      by : (reason : FloorWhy) → ShowsFloor t floor cont reason shown.1 → IsFloorOf t floor reason
      by why.Opening is = absurd is
      by (why.Restart n) is = let f = told (line.Restart n t is.0 floor) is.1 refl in record { number = f.of_target; issued = f.issued; cause = f.which }
      by (why.Snapshot e) is = let f = told (line.Freeze t cont e) is.0 refl in record { number = f.of_target; issued = subst IsEpoch is.1 f.issued; cause = f.issued }
      by (why.Aggregate n) is = let f = told (line.Aggregate n t cont floor) is refl in record { number = f.of_target; issued = f.issued; cause = f.which }
