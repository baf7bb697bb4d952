-- What became of attempts, in any run: at each moment a history goes on in which just those are decided that the targets hold resolved; and where
-- all clients are done each of them has its line.
use Rattle.std.specs.Prelude.{ℕ, ◌≡◌, ◌⊎◌, ◌++◌, Bool, true, List, [], ◌∷◌, filter, slice_get, Contains, Option, Some, None, refl}
use Rattle.std.proofs.Common.{inl, inr, sym, ◌∙◌, ap, subst}
use Rattle.base_types.specs.declared.entry.Entry.{Entry}
use Rattle.base_types.specs.declared.epoch.Epoch.{Epoch}
use Rattle.base_types.specs.declared.id.AttemptId.{AttemptId}
use Rattle.base_types.specs.declared.outcome.Outcome.{Outcome}
use Rattle.base_types.specs.declared.outcome.Outcome.TheVariants as outcome
use Rattle.base_types.specs.declared.report.Attempt.{Attempt}
use Rattle.model_laws.specs.Lists.{has-at, place-of}
use Rattle.model_laws.specs.Members.{Has, contains-from_has, has-cases, has-filter, has-from_contains, has-from_filter, has-left, has-right}
use Rattle.daos_model.specs.declared.durable.Durable.{Durable}
use Rattle.daos_model.specs.declared.durable.Version.{Version}
use Rattle.daos_model.specs.Attempts.{is_unknown, tries}
use Rattle.daos_model.specs.BoolLaws.{false_of}
use Rattle.daos_model.specs.Durables.{entry_of}
use Rattle.daos_model.specs.Family.{resolved}
use Rattle.daos_model.specs.Opening.{Opening, top}
use Rattle.dtx_base.specs.Leading.{entry_attempt}
use Rattle.world_commit.specs.attempts.Attempts.{IsItsEntry, entry_at, entry_in, leader_of}
use Rattle.world_commit.specs.attempts.History.{Decided, History}
use Rattle.world_commit.specs.attempts.Stored.{row-found, found-attempt}
use Rattle.world_base.specs.declared.target.TargetState.{TargetState}
use Rattle.world_base.specs.declared.world.World.{World}
use Rattle.world_base.specs.Events.{Rules}
use Rattle.world_commit.specs.fates.Facts.{Attempts}
use Rattle.world_upheld.specs.below.Legal.{from-durables, durables_of}
use Rattle.world_letters.specs.epochs.Epochs.{Epochs, HasLine, IsPresent}
use Rattle.world_answers.specs.world_causes.hearing.Deciding.{AreEnded, MayEnd, end-all}
use Rattle.world_answers.specs.world_causes.hearing.Going.{EntriesWrite}
use Rattle.world_letters.specs.lines.LastLines.{AreDone}
use Rattle.world_answers.specs.world_causes.outcomes.Outcomes.{Outcomes, is_failed, HasWrites}
use Rattle.world_answers.specs.world_contents.reads.ChangeLaws.{entry-among}
use Rattle.world_answers.specs.world_contents.reads.Given.{Given}
use Rattle.world_answers.specs.world_contents.reads.Reads.{Reads}
use Rattle.world_answers.specs.world_contents.reads.Versions.{Versions}
use Rattle.world_upheld.specs.below.Legal.{AreHeld, Concluded, HasEntries, IsResolved, IsToldOf, Resolves, decided-held, durable-at, held-at, held-resolved, resolved-held}
use Rattle.world_upheld.specs.upheld.Begins.{AreRulesInForm, AreBefore}
use Rattle.world_upheld.specs.upheld.Heard.{all-heard_right}
use Rattle.world_upheld.specs.upheld.Upheld.{Upheld}

-- ---- what this stands on

-- What is heard is right; what becomes of attempts, which entries there may be, and each entry's attempt writes something; epochs, and how
-- attempts end; and what targets keep and answered stands for what is decided.
pub record AttemptsAreKnown (r : Rules) (o : Opening) (held : ℕ → List Version) (h : History) (v : World) : Type 0 where
  pub given : Given r o held v
  pub entries : HasEntries r h v
  pub attempts : Attempts r h v
  pub epochs : Epochs r (top o) v
  pub versions : Versions r o held h v
  pub reads : Reads r o h v
  pub writes : EntriesWrite r v
  pub outcomes : Outcomes r h v

-- so it is of all that is upheld
abbrev pub UpheldAreKnown : Type 0
UpheldAreKnown = (r : Rules) (o : Opening) (held : ℕ → List Version) (h : History) (v : World) → AreRulesInForm r → AreBefore o held → Upheld r o held h v → AttemptsAreKnown r o held h v

-- at any moment a history goes on in which just the resolved attempts are decided
abbrev pub KnownResolve : Type 0
KnownResolve = (r : Rules) (o : Opening) (held : ℕ → List Version) (h : History) (v : World) → AttemptsAreKnown r o held h v → Resolves r o held h v

-- and where all clients are done it is known what became of them
abbrev pub KnownConclude : Type 0
KnownConclude = (r : Rules) (o : Opening) (held : ℕ → List Version) (h : History) (v : World) → AttemptsAreKnown r o held h v → AreDone r v → Concluded r o held h v

pub upheld-known : UpheldAreKnown
upheld-known r o held h v A before k = record {
  given = all-heard_right r o held h v before k.grounds.heard;
  entries = record { targets = k.grounds.heard.many; some = A.some_target; few = A.few_targets; entries = λ x. (k.grounds.heard.attempts.on.each x).entries };
  attempts = k.grounds.heard.attempts;
  epochs = k.grounds.heard.epochs;
  versions = k.contents.versions;
  reads = k.contents.reads;
  writes = k.grounds.writes;
  outcomes = k.grounds.outcomes;
}

-- ---- the entries of all targets

abbrev entries_in : List Durable → List Entry
entries_in [] = []
entries_in (d ∷ ds) = d.entries ++ entries_in ds

into-all : (ds : List Durable) (d : Durable) (e : Entry) → Has d ds → Has e d.entries → Has e (entries_in ds)
into-all [] d e i j = absurd i
into-all (c ∷ ds) d e (inl same) j = has-left c.entries (entries_in ds) e (subst (λ z. Has e z.entries) same j)
into-all (c ∷ ds) d e (inr i) j = has-right c.entries (entries_in ds) e (into-all ds d e i j)

from-all : (ds : List Durable) (e : Entry) → Has e (entries_in ds) → (d : Durable) × Has d ds × Has e d.entries
from-all [] e i = absurd i
from-all (c ∷ ds) e i = elim (has-cases c.entries (entries_in ds) e i) [
  | inl j ↦ (c, inl refl, j)
  | inr j ↦ (let z = from-all ds e j in (z.0, inr z.1, z.2))
]

-- a target keeps an entry
record IsKept (v : World) (e : Entry) : Type 0 where
  t : ℕ
  s : TargetState
  here : slice_get v.targets t ≡ Some s
  among : Has e s.durable.entries

kept-by : (v : World) (e : Entry) → Has e (entries_in (durables_of v)) → IsKept v e
kept-by v e i =
    let z = from-all (durables_of v) e i in
    let p = place-of (durables_of v) z.0 z.1 in
    let s = from-durables v.targets p.0 z.0 p.1 in
    record { t = p.0; s = s.0; here = s.1; among = subst (λ d. Has e d.entries) (sym s.2) z.2 }

abbrev is_of_resolved : World → Entry → Bool
is_of_resolved v e = resolved (durables_of v) e.attempt

-- those of resolved attempts
abbrev entries_resolved : World → List Entry
entries_resolved v = filter (is_of_resolved v) (entries_in (durables_of v))

-- ---- what is resolved is decided

module _ (r : Rules) (o : Opening) (held : ℕ → List Version) (h : History) (v : World) (k : AttemptsAreKnown r o held h v) where
  one-epoch : (x : AttemptId) (e f : Epoch) → Has (x, e) v.issued → Has (x, f) v.issued → e ≡ f
  one-epoch x e f i j = k.epochs.one x e f (contains-from_has v.issued (x, e) i) (contains-from_has v.issued (x, f) j)

  found-at : (e : Entry) (z : IsKept v e) → entry_at v z.t e.attempt ≡ Some e
  unfolding entry_of
  found-at e z = ap (λ y. entry_in y e.attempt) z.here ∙ row-found entry_attempt z.s.durable.entries e (k.attempts.on.ordered z.t z.s z.here).entries z.among

  its-own : (e : Entry) (z : IsKept v e) → IsItsEntry r v e.attempt z.t e
  its-own e z = (k.entries.entries e.attempt).one z.t e (found-at e z)

  may-be_decided : (e : Entry) → Has e (entries_resolved v) → MayEnd r v e
  may-be_decided e i = record {
    held = record {
      holds = λ u at. (let y = held-at r h v k.entries e.attempt u held-all at in record { entry = y.entry; found = y.found; epoch = one-epoch e.attempt y.entry.epoch e.epoch ((k.entries.entries e.attempt).one u y.entry y.found).issued (its-own e z).issued });
      place = λ u q at. ((k.entries.entries e.attempt).one u q at).place;
    };
    issued = contains-from_has v.issued (e.attempt, e.epoch) (its-own e z).issued;
    some = k.writes z.t z.s e z.here z.among;
  }
    where
      f : Has e (entries_in (durables_of v)) × IsResolved v e.attempt
      f = has-from_filter (is_of_resolved v) (entries_in (durables_of v)) e i

      z : IsKept v e
      z = kept-by v e f.0

      held-all : AreHeld r v e.attempt
      held-all = resolved-held r h v k.entries e.attempt f.1

  pub decided : AreEnded r o held h v (entries_resolved v)
  decided = end-all r o held h v k.given one-epoch k.versions k.reads (entries_resolved v) may-be_decided

  pub decided-resolved : (x : AttemptId) (e : Epoch) → Decided decided.later x e → IsResolved v x
  decided-resolved x e d = elim (decided.only x e d) [
    | inl was ↦ held-resolved r h v k.entries x (decided-held r h v k.entries x e was)
    | inr z ↦ subst (IsResolved v) (sym z.2) (has-from_filter (is_of_resolved v) (entries_in (durables_of v)) z.0 z.1).1
  ]

  pub resolved-decided : (x : AttemptId) → IsResolved v x → (e : Epoch) × Decided decided.later x e
  resolved-decided x is = by (slice_get v.targets (leader_of r x)) refl
    where
      y : AreHeld r v x
      y = resolved-held r h v k.entries x is

      by : (s : Option TargetState) → slice_get v.targets (leader_of r x) ≡ s → (e : Epoch) × Decided decided.later x e
      by None none = let no : ⊥ = cc (sym y.leader.found ∙ ap (λ z. entry_in z x) none) in absurd no
      by (Some s) here = (y.leader.entry.epoch, subst (λ z. Decided decided.later z y.leader.entry.epoch) own (decided.all y.leader.entry (has-filter (is_of_resolved v) (entries_in (durables_of v)) y.leader.entry among (subst (IsResolved v) (sym own) is))))
        where
          found-here : entry_of s.durable x ≡ Some y.leader.entry
          found-here = sym (ap (λ z. entry_in z x) here) ∙ y.leader.found

          own : y.leader.entry.attempt ≡ x
          own = found-attempt s.durable x y.leader.entry found-here

          among : Has y.leader.entry (entries_in (durables_of v))
          among = into-all (durables_of v) s.durable y.leader.entry (has-at (durables_of v) (leader_of r x) s.durable (durable-at r h v k.entries (leader_of r x) s here)) (has-from_contains s.durable.entries y.leader.entry (entry-among s.durable x y.leader.entry found-here))

  unfoldable pub resolves-on : Resolves r o held h v
  resolves-on = record {
    later = decided.later;
    grew = decided.before;
    served = decided.served;
    versions = decided.kept.0;
    reads = decided.kept.1;
    only = decided-resolved;
    all = resolved-decided;
  }

  -- ---- and told

  -- one that is resolved isn't told to have failed
  not-failed : (a : Attempt) → Contains (tries v.lines) a → HasWrites r a.id → is_failed a.outcome ≡ true → IsResolved v a.id → ⊥
  not-failed a i some failed is =
      let none : entry_at v (leader_of r a.id) a.id ≡ None = (k.outcomes.lines a i some).failed failed in
      let held-by = (resolved-held r h v k.entries a.id is).leader.found in
      (let no : ⊥ = cc (none, held-by) in no)

  -- one that didn't fail is committed, or it is unknown what became of it
  fate : (how : Outcome) → (is_failed how ≡ true → ⊥) → (how ≡ outcome.Committed) ⊎ (is_unknown how ≡ true)
  fate outcome.Committed off = inl refl
  fate (outcome.Unknown t) off = inr refl
  fate (outcome.CondFailed op) off = absurd (off refl)
  fate (outcome.Restart why) off = absurd (off refl)
  fate (outcome.NoSpace t need free) off = absurd (off refl)
  fate outcome.EpochsSpent off = absurd (off refl)
  fate outcome.NoSnapshot off = absurd (off refl)

  module _ (done : AreDone r v) where
    -- an attempt with an epoch has its line
    pub issued-has_line : (x : AttemptId) (e : Epoch) → Contains v.issued (x, e) → HasLine v x e
    issued-has_line x e i = by (k.epochs.line x e i)
      where
        by : IsPresent r v x ⊎ HasLine v x e → HasLine v x e
        by (inl p) = let none = (done x.client p.c p.here).1 in let at = p.at in let no : ⊥ = cc (none, at) in absurd no
        by (inr l) = l

    told : (x : AttemptId) (e : Epoch) → Decided decided.later x e → IsToldOf v x e
    told x e d =
        let l = issued-has_line x e (decided.kept.0.issued x e d) in
        record { a = l.0; among = l.1; of_it = l.2; at = l.3; how = fate l.0.outcome (λ failed. not-failed l.0 l.1 (subst (HasWrites r) (sym l.2) (decided.kept.0.written x e d)) failed (subst (IsResolved v) (sym l.2) (decided-resolved x e d))) }

    concluded-so : Concluded r o held h v
    unfolding resolves-on
    concluded-so = record {
      so = resolves-on;
      told = told;
      committed = λ a i how some. (k.outcomes.lines a i some).committed how;
      failed = λ a i some how. false_of (resolved (durables_of v) a.id) (λ is. not-failed a i some how is);
    }

pub known-resolve : KnownResolve
known-resolve r o held h v k = resolves-on r o held h v k

pub known-conclude : KnownConclude
known-conclude r o held h v k done = concluded-so r o held h v k done
