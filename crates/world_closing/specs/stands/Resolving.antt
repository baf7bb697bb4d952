-- At each moment of any run a history goes on in which just those attempts are decided that the targets hold resolved.
use Rattle.std.specs.Prelude.{ℕ, ◌≡◌, ◌<◌, Bool, ◌++◌, List, [], ◌∷◌, filter, slice_get, Option, Some, None, refl}
use Rattle.std.proofs.Common.{inl, inr, sym, ◌∙◌, ap, subst}
use Rattle.base_types.specs.declared.entry.Entry.{Entry}
use Rattle.base_types.specs.declared.epoch.Epoch.{Epoch}
use Rattle.base_types.specs.declared.id.AttemptId.{AttemptId}
use Rattle.model_laws.specs.Lists.{has-at, place-of}
use Rattle.model_laws.specs.Members.{Has, contains-from_has, has-cases, has-filter, has-from_contains, has-from_filter, has-left, has-right}
use Rattle.daos_model.specs.declared.durable.Version.{Version}
use Rattle.daos_model.specs.Durables.{entry_of}
use Rattle.daos_model.specs.Family.{resolved}
use Rattle.daos_model.specs.Opening.{Opening}
use Rattle.dtx_base.specs.Leading.{entry_attempt}
use Rattle.world_commit.specs.attempts.Attempts.{IsItsEntry, entry_at, entry_in, leader_of}
use Rattle.world_commit.specs.attempts.History.{Decided, History}
use Rattle.world_commit.specs.attempts.Stored.{row-found, found-attempt}
use Rattle.world_base.specs.declared.target.TargetState.{TargetState}
use Rattle.world_base.specs.declared.world.World.{World}
use Rattle.world_base.specs.Events.{Rules}
use Rattle.world_answers.specs.world_causes.hearing.Deciding.{AreEnded, MayEnd, end-all}
use Rattle.world_answers.specs.world_contents.reads.ChangeLaws.{entry-among}
use Rattle.world_answers.specs.world_contents.reads.Given.{Given}
use Rattle.world_upheld.specs.below.Legal.{durables_of}
use Rattle.world_upheld.specs.below.Legal.{AreHeld, HasEntries, IsResolved, Resolves, decided-held, held-at, held-resolved, resolved-held}
use Rattle.world_upheld.specs.upheld.Heard.{all-heard_right}
use Rattle.world_upheld.specs.upheld.Upheld.{Upheld}
use Rattle.world_upheld.specs.upheld.Begins.{AreBefore}

-- ---- the entries of some targets

abbrev entries_in : List TargetState → List Entry
entries_in [] = []
entries_in (s ∷ ss) = s.durable.entries ++ entries_in ss

kept-in : (ss : List TargetState) (s : TargetState) (e : Entry) → Has s ss → Has e s.durable.entries → Has e (entries_in ss)
kept-in [] s e i j = absurd i
kept-in (z ∷ ss) s e (inl same) j = has-left z.durable.entries (entries_in ss) e (subst (λ y. Has e y.durable.entries) same j)
kept-in (z ∷ ss) s e (inr i) j = has-right z.durable.entries (entries_in ss) e (kept-in ss s e i j)

keeper-of : (ss : List TargetState) (e : Entry) → Has e (entries_in ss) → (s : TargetState) × Has s ss × Has e s.durable.entries
keeper-of [] e i = absurd i
keeper-of (z ∷ ss) e i = elim (has-cases z.durable.entries (entries_in ss) e i) [
  | inl j ↦ (z, inl refl, j)
  | inr j ↦ (let k = keeper-of ss e j in (k.0, inr k.1, k.2))
]

-- those of resolved attempts
abbrev is_resolved_in : World → Entry → Bool
is_resolved_in v e = resolved (durables_of v) e.attempt

abbrev resolved_entries : World → List Entry
resolved_entries v = filter (is_resolved_in v) (entries_in v.targets)

-- ---- what is resolved is decided

module _ (r : Rules) (o : Opening) (held : ℕ → List Version) (h : History) (v : World) (some : 0 < r.script.targets) (before : AreBefore o held) (k : Upheld r o held h v) where
  pub has-entries : HasEntries r h v
  has-entries = record { targets = k.grounds.heard.many; some = some; few = k.grounds.heard.few; entries = λ x. (k.grounds.heard.attempts.on.each x).entries }

  pub given : Given r o held v
  given = all-heard_right r o held h v before k.grounds.heard

  pub one-epoch : (x : AttemptId) (e f : Epoch) → Has (x, e) v.issued → Has (x, f) v.issued → e ≡ f
  one-epoch x e f i j = k.grounds.heard.epochs.one x e f (contains-from_has v.issued (x, e) i) (contains-from_has v.issued (x, f) j)

  -- an entry that a target keeps is of its attempt
  pub its : (t : ℕ) (s : TargetState) (e : Entry) → slice_get v.targets t ≡ Some s → Has e s.durable.entries → IsItsEntry r v e.attempt t e
  unfolding entry_of
  its t s e here i = (has-entries.entries e.attempt).one t e found
    where
      found : entry_at v t e.attempt ≡ Some e
      found = ap (λ y. entry_in y e.attempt) here ∙ row-found entry_attempt s.durable.entries e (k.grounds.heard.attempts.on.ordered t s here).entries i

  may-end : (e : Entry) → Has e (resolved_entries v) → MayEnd r v e
  may-end e i = record {
    held = record {
      holds = λ u at. (
          let y = held-at r h v has-entries e.attempt u held-all at in
          record { entry = y.entry; found = y.found; epoch = one-epoch e.attempt y.entry.epoch e.epoch ((has-entries.entries e.attempt).one u y.entry y.found).issued own.issued });
      place = λ u q at. ((has-entries.entries e.attempt).one u q at).place;
    };
    issued = contains-from_has v.issued (e.attempt, e.epoch) own.issued;
    some = k.grounds.writes t.0 z.0 e t.1 z.2;
  }
    where
      f : Has e (entries_in v.targets) × IsResolved v e.attempt
      f = has-from_filter (is_resolved_in v) (entries_in v.targets) e i

      z : (s : TargetState) × Has s v.targets × Has e s.durable.entries
      z = keeper-of v.targets e f.0

      t : (n : ℕ) × (slice_get v.targets n ≡ Some z.0)
      t = place-of v.targets z.0 z.1

      own : IsItsEntry r v e.attempt t.0 e
      own = its t.0 z.0 e t.1 z.2

      held-all : AreHeld r v e.attempt
      held-all = resolved-held r h v has-entries e.attempt f.1

  pub ended : AreEnded r o held h v (resolved_entries v)
  ended = end-all r o held h v given one-epoch k.contents.versions k.contents.reads (resolved_entries v) may-end

  pub only-resolved : (x : AttemptId) (e : Epoch) → Decided ended.later x e → IsResolved v x
  only-resolved x e d = elim (ended.only x e d) [
    | inl was ↦ held-resolved r h v has-entries x (decided-held r h v has-entries x e was)
    | inr z ↦ subst (IsResolved v) (sym z.2) (has-from_filter (is_resolved_in v) (entries_in v.targets) z.0 z.1).1
  ]

  pub all-resolved : (x : AttemptId) → IsResolved v x → (e : Epoch) × Decided ended.later x e
  all-resolved x is = by (slice_get v.targets (leader_of r x)) refl
    where
      y : AreHeld r v x
      y = resolved-held r h v has-entries x is

      by : (s : Option TargetState) → slice_get v.targets (leader_of r x) ≡ s → (e : Epoch) × Decided ended.later x e
      by None none = let no : ⊥ = cc (sym y.leader.found ∙ ap (λ z. entry_in z x) none) in absurd no
      by (Some s) here = (y.leader.entry.epoch, subst (λ z. Decided ended.later z y.leader.entry.epoch) own (ended.all y.leader.entry (has-filter (is_resolved_in v) (entries_in v.targets) y.leader.entry among (subst (IsResolved v) (sym own) is))))
        where
          found-here : entry_of s.durable x ≡ Some y.leader.entry
          found-here = sym (ap (λ z. entry_in z x) here) ∙ y.leader.found

          own : y.leader.entry.attempt ≡ x
          own = found-attempt s.durable x y.leader.entry found-here

          among : Has y.leader.entry (entries_in v.targets)
          among = kept-in v.targets s y.leader.entry (has-at v.targets (leader_of r x) s here) (has-from_contains s.durable.entries y.leader.entry (entry-among s.durable x y.leader.entry found-here))

  unfoldable pub resolves : Resolves r o held h v
  resolves = record {
    later = ended.later;
    grew = ended.before;
    served = ended.served;
    versions = ended.kept.0;
    reads = ended.kept.1;
    only = only-resolved;
    all = all-resolved;
  }
