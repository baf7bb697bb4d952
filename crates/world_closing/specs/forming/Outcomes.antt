-- An outcome that shows its cause at its moment is such as a report's text determines, also where snapshots are made and read: an attempt that a cause
-- names has an epoch that was issued to it.
use Rattle.std.specs.Prelude.{ℕ, ◌≡◌, Bool, true, false, is_some, List, [], ◌∷◌, Any, All, Contains, Option, Some, None, refl}
use Rattle.std.proofs.Common.{inl, sym, ap, subst, arith}
use Rattle.base_types.specs.declared.epoch.Epoch.{Epoch}
use Rattle.base_types.specs.declared.id.AttemptId.{AttemptId}
use Rattle.base_types.specs.declared.id.ContId.{ContId}
use Rattle.base_types.specs.declared.operation.Op.{Op}
use Rattle.base_types.specs.declared.outcome.Cause.{Cause}
use Rattle.base_types.specs.declared.outcome.Cause.TheVariants as cause
use Rattle.base_types.specs.declared.outcome.FloorWhy.{FloorWhy}
use Rattle.base_types.specs.declared.outcome.Outcome.{Outcome}
use Rattle.base_types.specs.declared.outcome.Outcome.TheVariants as outcome
use Rattle.base_types.specs.declared.path.Path.{Path}
use Rattle.base_types.specs.declared.report.Attempt.{Attempt}
use Rattle.base_types.specs.declared.report.Line.{Line}
use Rattle.base_types.specs.declared.report.Line.TheVariants as line
use Rattle.base_types.specs.Operations.{write_path}
use Rattle.base_types.specs.declared.operation.MinorWrite.{MinorWrite}
use Rattle.daos_model.specs.Accesses.{minor_writes, op_path}
use Rattle.daos_model.specs.Attempts.{snapshot_of}
use Rattle.daos_model.specs.CausesShown.{AsksAt, ShowsFloor, is_snap}
use Rattle.daos_model.specs.Durables.{same_attempt}
use Rattle.daos_model.specs.Opening.{Given}
use Rattle.daos_model.specs.Transactions.{attempt_ops, command_of}
use Rattle.model_laws.specs.DecidedLaws.{has-all}
use Rattle.model_laws.specs.EntryLaws.{same-attempt}
use Rattle.model_laws.specs.Lists.{any-all, any-of}
use Rattle.model_laws.specs.Members.{Has, has-from_contains, has-right}
use Rattle.model_reports.specs.Lines.{one-of-any}
use Rattle.report_writer.specs.Forms.{IsAttemptId, IsCauseOf, IsCond, IsNoSpace, IsOutcomeOf, IsPathOf}
use Rattle.world_answers.specs.world_causes.causes.Causes.{Dated, Stored}
use Rattle.world_answers.specs.world_causes.causes.Shown.{CauseStands, LacksSpace, MeetsUnresolved, OutcomeStands}
use Rattle.world_answers.specs.world_causes.handing.Places.{snapshots-read}
use Rattle.world_upheld.specs.below.Legal.{AreShort}
use Rattle.world_letters.specs.clients.Answered.{EndsWell}
use Rattle.world_letters.specs.clients.Snapshots.{is_at_snapshot}
use Rattle.world_closing.specs.forming.SpaceForms.{space-form}
use Rattle.world_closing.specs.forming.PathForms.{attempt-paths, attempt-writes}
use Rattle.world_closing.specs.Rules.{rules_of}
use Rattle.world_closing.specs.forming.Fit.{AreLinesFit, floor-form, place-form}

-- What counts as the epoch of an attempt that reads at no snapshot was issued to it.
abbrev pub AreOwn : Given → Dated → Dated → Type 0
AreOwn g dated issued = (x : AttemptId) (e : Epoch) → is_at_snapshot (rules_of g) x ≡ false → Contains dated (x, e) → Contains issued (x, e)

-- so was that of a later read that a cause names
abbrev pub NamesOwnRead : Dated → Outcome → Type 0
NamesOwnRead issued how = (by : AttemptId) (epoch : Epoch) (path : Path) → how ≡ outcome.Restart (cause.ReadLater by epoch path) → Contains issued (by, epoch)

module _ (g : Given) (stored : Stored) (dated issued : Dated) (lines : List Line) (fit : AreLinesFit g lines) (short : AreShort issued) (own : AreOwn g dated issued) where
  -- an attempt that writes reads at no snapshot
  writes-own : (x : AttemptId) (m : MinorWrite) → Contains (minor_writes 0 (attempt_ops g.script x)) m → is_at_snapshot (rules_of g) x ≡ false
  writes-own x m i = by (snapshot_of g.script x) refl
    where
      by : (o : Option (List ℕ)) → snapshot_of g.script x ≡ o → is_at_snapshot (rules_of g) x ≡ false
      by None at = ap is_some at
      by (Some name) at =
          absurd (subst (Has m) (snapshots-read (rules_of g) g.script.targets fit.form x name at) (has-from_contains (minor_writes 0 (attempt_ops g.script x)) m i))

  -- a floor of which a line before tells
  early-floor : (before : List Line) (t : ℕ) (floor : Epoch) (cont : ContId) (reason : FloorWhy) → ((l : Line) → Has l before → Has l lines) → Any (ShowsFloor t floor cont reason) before → Any (ShowsFloor t floor cont reason) lines
  early-floor before t floor cont reason among shown = let k = one-of-any (ShowsFloor t floor cont reason) before shown in any-of (ShowsFloor t floor cont reason) lines k.0 (among k.0 k.1) k.2

  unresolved-form : (before : List Line) (x by : AttemptId) → IsAttemptId x → (b : Bool) → same_attempt by x ≡ b → MeetsUnresolved b (rules_of g) dated before x by → IsAttemptId by
  unresolved-form before x by its true same k = subst IsAttemptId (sym (same-attempt by x same)) its
  unresolved-form before x by its false other k =
      let m = k.0 in
      short.id by m.other (own by m.other (writes-own by m.overlap.1 (m.overlap.0, m.overlap.2, m.overlap.3)) m.others)

  cause-form : (before : List Line) (x : AttemptId) (reason : Cause) → ((l : Line) → Has l before → Has l lines) → NamesOwnRead issued (outcome.Restart reason) → CauseStands (rules_of g) dated before x reason → IsCauseOf g.script reason
  cause-form before x (cause.ReadLater by epoch path) among named k =
      let i = named by epoch path refl in
      record {
        id = short.id by epoch i;
        issued = short.epoch by epoch i;
        named = subst (IsPathOf g.script) k.asks.4.1 (any-all (λ op. IsPathOf g.script (op_path op)) (AsksAt path) (attempt_ops g.script by) (attempt-paths g.script by fit.form fit.keys) k.asks);
      }
  cause-form before x (cause.WriteLater by epoch path) among named k =
      let i = own by epoch (writes-own by k.writes.1 (k.writes.0, k.writes.2, k.writes.3)) k.writer in
      record {
        id = short.id by epoch i;
        issued = short.epoch by epoch i;
        named = subst (IsPathOf g.script) k.writes.4
            (any-all (λ w. IsPathOf g.script (write_path w.write)) (λ w. write_path w.write ≡ path) (minor_writes 0 (attempt_ops g.script by)) (attempt-writes g.script by fit.form fit.keys) k.writes);
      }
  cause-form before x (cause.Unresolved by) among named k = absurd k
  cause-form before x (cause.Floor target epoch reason) among named k = floor-form g lines fit target epoch k.cont reason (early-floor before target epoch k.cont reason among k.shown)

  lacks-form : (x : AttemptId) (t need free : ℕ) → (b : Bool) → is_snap (command_of g.script x) ≡ b → LacksSpace b (rules_of g) g.opening stored dated x t need free → IsNoSpace t need free
  lacks-form x t need free true snaps k = place-form g.script x t need free fit.few snaps k.target k.need_is k.free_is
  lacks-form x t need free false off k = let few = fit.few in space-form g.script x t need free fit.form fit.some (omega (arith, few)) k.wanting k.need_is

  pub stands-form : (before : List Line) (a : Attempt) (how : Outcome) (ops : List Op) → ((l : Line) → Has l before → Has l lines) → IsAttemptId a.id → All IsCond a.conds → EndsWell ops a how → NamesOwnRead issued how
      → OutcomeStands (rules_of g) g.opening stored dated before a.id how → IsOutcomeOf g.script how
  stands-form before a outcome.Committed ops among its conds ends named k = tt
  stands-form before a (outcome.CondFailed op) ops among its conds ends named k =
      has-all IsCond a.conds (op, ends.there) conds (subst (Has (op, ends.there)) (sym ends.told) (has-right ends.held ((op, ends.there) ∷ []) (op, ends.there) (inl refl)))
  stands-form before a (outcome.Restart (cause.ReadLater by epoch path)) ops among its conds ends named k = cause-form before a.id (cause.ReadLater by epoch path) among named k
  stands-form before a (outcome.Restart (cause.WriteLater by epoch path)) ops among its conds ends named k = cause-form before a.id (cause.WriteLater by epoch path) among named k
  stands-form before a (outcome.Restart (cause.Unresolved by)) ops among its conds ends named k = unresolved-form before a.id by its (same_attempt by a.id) refl k
  stands-form before a (outcome.Restart (cause.Floor target epoch reason)) ops among its conds ends named k = cause-form before a.id (cause.Floor target epoch reason) among named k
  stands-form before a (outcome.NoSpace target need free) ops among its conds ends named k = lacks-form a.id target need free (is_snap (command_of g.script a.id)) refl k
  stands-form before a outcome.EpochsSpent ops among its conds ends named k = tt
  stands-form before a outcome.NoSnapshot ops among its conds ends named k = tt
  stands-form before a (outcome.Unknown target) ops among its conds ends named k = fit.others (line.Down target) (among (line.Down target) (has-from_contains before (line.Down target) k.1)) refl
