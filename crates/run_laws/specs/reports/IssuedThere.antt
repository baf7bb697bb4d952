-- Where the opening keeps no snapshot, each epoch of a legal report lies above the opening, and so one of the targets issued it.
use Rattle.std.specs.Prelude.{ℕ, ◌≡◌, ◌<◌, ◌++◌, not, find, is_some, Any, Bool, true, false, List, [], ◌∷◌, Option, Some, None, refl, if◌then◌else◌}
use Rattle.std.proofs.Common.{inl, inr, sym, ◌∙◌, ap, subst}
use Rattle.base_types.specs.declared.epoch.Epoch.{Epoch}
use Rattle.base_types.specs.declared.id.AttemptId.{AttemptId}
use Rattle.base_types.specs.declared.report.Attempt.{Attempt}
use Rattle.base_types.specs.declared.report.Line.{Line}
use Rattle.base_types.specs.declared.report.Line.TheVariants as line
use Rattle.base_types.specs.declared.report.Report.{Report}
use Rattle.base_types.specs.declared.script.OldDecl.{OldDecl}
use Rattle.base_types.specs.declared.script.Script.{Script}
use Rattle.daos_model.specs.Attempts.{epoch_or_none, has_own_epoch, is_of_client, own_epochs, snapshot_of, snapshot_or_none, tries, tries_of}
use Rattle.daos_model.specs.Headline.{Headline}
use Rattle.daos_model.specs.Opening.{Given, Outside, kept_map, top}
use Rattle.daos_model.specs.ReadsLegal.{is_named}
use Rattle.daos_model.specs.Snapshots.{IsCreated, Made, NoneLegal}
use Rattle.model_laws.specs.DecidedLaws.{has-all}
use Rattle.model_laws.specs.Members.{Has, has-from_contains, has-from_filter, has-left, has-right}
use Rattle.model_reports.specs.Alone.{stands-before}
use Rattle.model_reports.specs.Lines.{StandsAt, line-of, one-of-any}
use Rattle.run_laws.specs.reports.Reports.{AreIssuedSince}
use Rattle.run_laws.specs.ends.Comes.{AreIssuedThere}

-- the epoch of an attempt that reads at no snapshot is among the own ones
epoch-among : (s : Script) (xs : List Attempt) (a : Attempt) (e : Epoch) → snapshot_of s a.id ≡ None → Has a xs → a.epoch ≡ Some e → Has e.0 (own_epochs s xs)
unfolding own_epochs
epoch-among s [] a e own i at = absurd i
epoch-among s (b ∷ xs) a e own (inl same) at =
    has-left (if has_own_epoch s b then epoch_or_none b.epoch else []) (own_epochs s xs) e.0 (by (has_own_epoch s b) (sym (ap (λ c. has_own_epoch s c) same) ∙ ap (λ o. not (is_some o)) own))
  where
    by : (t : Bool) → t ≡ true → Has e.0 (if t then epoch_or_none b.epoch else [])
    by true is = subst (λ o. Has e.0 (epoch_or_none o)) (sym at ∙ ap (λ c. c.epoch) same) (inl refl)
    by false is = let no : ⊥ = cc in absurd no
epoch-among s (b ∷ xs) a e own (inr i) at = has-right (if has_own_epoch s b then epoch_or_none b.epoch else []) (own_epochs s xs) e.0 (epoch-among s xs a e own i at)

module _ (g : Given) (o : Outside) (resolved : AttemptId → Bool) (q : Report) (none : g.opening.stand.snaps ≡ []) (legal : Headline g o resolved q) where
  own-above : (a : Attempt) (e : Epoch) → snapshot_of g.script a.id ≡ None → Has a (tries q.lines) → a.epoch ≡ Some e → top g.opening < e.0
  own-above a e own i at = has-all (λ n. top g.opening < n) (own_epochs g.script (tries q.lines)) e.0 legal.outcomes.issued.above (epoch-among g.script (tries q.lines) a e own i at)

  -- a snapshot at which an attempt reads was made before it, so its epoch lies above the opening too
  made-above : (before after : List Line) (a : Attempt) (name : List ℕ) (e : Epoch) → q.lines ≡ before ++ line.Try a ∷ after → Any (Made g.script name e) (tries_of a.id.client before) → top g.opening < e.0
  made-above before after a name e among some =
      let m = one-of-any (Made g.script name e) (tries_of a.id.client before) some in
      let i = (has-from_filter (is_of_client a.id.client) (tries before) m.0 m.1).0 in
      own-above m.0 e (ap snapshot_or_none m.2.snaps.command) (subst (λ ls. Has m.0 (tries ls)) (sym among) (stands-before before after a m.0 i)) m.2.snaps.issued

  created-above : (before after : List Line) (a : Attempt) (name : List ℕ) (e : Epoch) → q.lines ≡ before ++ line.Try a ∷ after → (d : Option OldDecl) → IsCreated g.script g.opening.stand (tries_of a.id.client before) name d e → top g.opening < e.0
  created-above before after a name e among None made = made-above before after a name e among made
  created-above before after a name e among (Some d) kept =
      let is : is_some (kept_map d.cont d.epoch.0 []) ≡ true = subst (λ ks. is_some (kept_map d.cont d.epoch.0 ks) ≡ true) none kept.0 in
      let no : ⊥ = cc in absurd no

  all-above : (a : Attempt) (e : Epoch) → Has a (tries q.lines) → a.epoch ≡ Some e → top g.opening < e.0
  all-above a e i at = by (snapshot_of g.script a.id) refl (legal.outcomes.snapshots.none z.before a z.after z.among)
    where
      z : StandsAt q.lines a
      z = line-of q.lines a i

      by : (name : Option (List ℕ)) → snapshot_of g.script a.id ≡ name → NoneLegal g.script g.opening.stand (tries_of a.id.client z.before) a name → top g.opening < e.0
      by None own reads = own-above a e own i at
      by (Some name) is reads = created-above z.before z.after a name e z.among (find (is_named name) g.script.olds) ((reads.epoch e).0 at)

pub all-issued : (g : Given) (o : Outside) (resolved : AttemptId → Bool) (q : Report) → g.opening.stand.snaps ≡ [] → Headline g o resolved q → AreIssuedSince (top g.opening) q → AreIssuedThere q
all-issued g o resolved q none legal issued a e i at = issued a e i at (all-above g o resolved q none legal a e (has-from_contains (tries q.lines) a i) at)
