-- What a legal report tells of the only client, where no attempt is told to restart.
use Rattle.std.specs.Prelude.{ℕ, ◌≡◌, Bool, true, false, is_some, List, [], Option, Some, None, refl}
use Rattle.std.proofs.Common.{sym, subst}
use Rattle.base_types.specs.declared.id.AttemptId.{AttemptId}
use Rattle.base_types.specs.declared.outcome.Outcome.{Outcome}
use Rattle.base_types.specs.declared.outcome.Outcome.TheVariants as outcome
use Rattle.base_types.specs.declared.report.Attempt.{Attempt}
use Rattle.base_types.specs.declared.report.Report.{Report}
use Rattle.model_laws.specs.DecidedLaws.{all-from_has, has-all}
use Rattle.model_laws.specs.Members.{Has, has-from_contains}
use Rattle.daos_model.specs.Attempts.{is_lost, is_restart, is_unknown, is_unsure, snapshot_of, tries, tries_of}
use Rattle.daos_model.specs.BoolLaws.{or_left}
use Rattle.daos_model.specs.Headline.{Headline}
use Rattle.daos_model.specs.Opening.{Given, Outside}
use Rattle.daos_model.specs.Order.{EpochIsBelow}
use Rattle.daos_model.specs.Snapshots.{NoneLegal}
use Rattle.daos_model.specs.Stops.{stop_numbers}
use Rattle.model_reports.specs.Alone.{is-after, is-sure, stands-before}
use Rattle.model_reports.specs.Lines.{line-of}
use Rattle.model_reports.specs.Lone.{EachIsTriedOnce, HasOneClient, NeverRestarts}
use Rattle.model_reports.specs.Once.{each-once}
use Rattle.model_lone.specs.Only.{EndSurely, OnlyClientsTellSo, OwnEpochsRise, ReadersMissSnapshots, ends_surely}
use Rattle.model_lone.specs.Unstopped.{none-stopped}

module _ (g : Given) (o : Outside) (resolved : AttemptId → Bool) (q : Report) (one : HasOneClient g.script) (unstopped : stop_numbers q.lines ≡ []) (never : NeverRestarts q) (h : Headline g o resolved q) where
  not-restarted : (a : Attempt) → Has a (tries q.lines) → is_restart a.outcome ≡ false
  not-restarted a i = has-all (λ b. is_restart b.outcome ≡ false) (tries q.lines) a never i

  once : EachIsTriedOnce g.script q
  once = each-once g o resolved q one h not-restarted

  -- ---- what became of attempts

  sure : (a : Attempt) → Has a (tries q.lines) → is_unsure a ≡ false
  sure = is-sure g o resolved q (none-stopped q.lines unstopped) h

  is-known : (a : Attempt) → Has a (tries q.lines) → is_unknown a.outcome ≡ false
  is-known a i = or_left (is_unknown a.outcome) (is_lost a.id a.outcome) (sure a i)

  surely : EndSurely q
  surely = all-from_has (λ a. ends_surely a.outcome ≡ true) (tries q.lines) (λ a i. by a.outcome (not-restarted a i) (is-known a i))
    where
      by : (how : Outcome) → is_restart how ≡ false → is_unknown how ≡ false → ends_surely how ≡ true
      by outcome.Committed r u = refl
      by (outcome.CondFailed op) r u = refl
      by (outcome.Restart c) r u = let no : ⊥ = cc in absurd no
      by (outcome.NoSpace target need free) r u = refl
      by outcome.EpochsSpent r u = refl
      by outcome.NoSnapshot r u = refl
      by (outcome.Unknown target) r u = let no : ⊥ = cc in absurd no

  missing : ReadersMissSnapshots g.script q
  missing a i how = let z = line-of q.lines a (has-from_contains (tries q.lines) a i) in by (tries_of a.id.client z.before) (snapshot_of g.script a.id) (h.outcomes.snapshots.none z.before a z.after z.among)
    where
      by : (earlier : List Attempt) (name : Option (List ℕ)) → NoneLegal g.script g.opening.stand earlier a name → is_some name ≡ true
      by earlier None k = absurd (k how)
      by earlier (Some name) k = refl

  -- ---- epochs

  rising : OwnEpochsRise g.script q
  rising before a after among own b e f i its at is =
      subst (EpochIsBelow f.0) at ((is-after g o resolved q one h before after a b f among own earlier is).sure its (sure b (subst (λ ls. Has b (tries ls)) (sym among) (stands-before before after a b earlier))))
    where
      earlier : Has b (tries before)
      earlier = has-from_contains (tries before) b i

pub only-clients-tell_so : OnlyClientsTellSo
only-clients-tell_so g o resolved q one unstopped never h = record {
  never_restarted = never;
  one_attempt = once g o resolved q one unstopped never h;
  rising = rising g o resolved q one unstopped never h;
  surely = surely g o resolved q one unstopped never h;
  missing = missing g o resolved q one unstopped never h;
}
