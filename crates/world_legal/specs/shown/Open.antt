-- An attempt that its leader keeps open, and doesn't know as decided, is open to any other; and so is one whose leader stopped since it began.
use Rattle.std.specs.Prelude.{ℕ, ◌≡◌, ◌⊎◌, ◌||◌, Bool, true, false, List, slice_get, Option, Some, None, refl, if◌then◌else◌}
use Rattle.std.specs.List.{list_any}
use Rattle.std.proofs.Common.{inl, inr, sym, ◌∙◌, ap, subst}
use Rattle.base_types.specs.declared.entry.Entry.{Entry}
use Rattle.base_types.specs.declared.entry.Verdict.TheVariants as verdicts
use Rattle.base_types.specs.declared.id.AttemptId.{AttemptId}
use Rattle.base_types.specs.declared.outcome.Outcome.{Outcome}
use Rattle.base_types.specs.declared.outcome.Outcome.TheVariants as outcome
use Rattle.base_types.specs.declared.report.Attempt.{Attempt}
use Rattle.base_types.specs.declared.report.Line.{Line}
use Rattle.daos_model.specs.Attempts.{is_unknown, tries}
use Rattle.daos_model.specs.Durables.{entry_of, same_attempt}
use Rattle.daos_model.specs.EntryLaws.{same_attempt-itself}
use Rattle.dtx_base.specs.LeaderLaws.{same-is}
use Rattle.dtx_base.specs.Leading.{entry_led, query_answer, verdict_on}
use Rattle.dtx_base.specs.Rows.{is_among}
use Rattle.model_laws.specs.Lists.{any-of}
use Rattle.model_laws.specs.Members.{Has, any-has, contains-from_has, has-any}
use Rattle.world_standing.specs.world_commit.attempts.Attempts.{entry_at, entry_in, is_known_at, is_known_in, leader_of}
use Rattle.world_standing.specs.world_commit.attempts.History.{History}
use Rattle.world_standing.specs.world_commit.attempts.Stored.{led-found}
use Rattle.world_base.specs.declared.target.TargetState.{TargetState}
use Rattle.world_base.specs.declared.world.World.{World}
use Rattle.world_base.specs.Events.{Rules, target_plan}
use Rattle.world_base.specs.Roles.{leader_at}
use Rattle.world_standing.specs.world_causes.causes.ReadTurns.{unended-open}
use Rattle.world_standing.specs.world_causes.causes.Shown.{IsOpenToAll, IsUnknown, LeaderStopped}
use Rattle.world_standing.specs.world_causes.causes.Turns.{HasNoLine}
use Rattle.world_legal.specs.doubts.Doubts.{Doubts, InLines, IsInDoubt, ItsLeaderStopped}
use Rattle.world_legal.specs.doubts.Recounting.{entry-writes}
use Rattle.world_standing.specs.world_commit.fates.Facts.{Attempts}
use Rattle.world_standing.specs.world_causes.hearing.Going.{EntriesWrite}
use Rattle.world_standing.specs.world_causes.outcomes.Outcomes.{Outcomes, is_failed, HasWrites}
use Rattle.world_standing.specs.world_letters.lives.Adding.{try-at}

-- ---- lines

-- a line tells of an attempt, or none does
abbrev is_its : AttemptId → Attempt → Bool
is_its x b = same_attempt b.id x

line-or_none : (ls : List Line) (x : AttemptId) → ((b : Attempt) × Has b (tries ls) × (b.id ≡ x)) ⊎ HasNoLine ls x
line-or_none ls x = by (list_any (is_its x) (tries ls)) refl
  where
    by : (b : Bool) → list_any (is_its x) (tries ls) ≡ b → ((b : Attempt) × Has b (tries ls) × (b.id ≡ x)) ⊎ HasNoLine ls x
    by true is = let z = has-any (is_its x) (tries ls) is in inl (z.0, z.1, same-is z.0.id x z.2)
    by false off = inr (λ b i same. let is = any-has (is_its x) (tries ls) b i (ap (λ y. same_attempt y x) same ∙ same_attempt-itself x) in let no : ⊥ = cc (is, off) in no)

-- ---- attempts that are open

module _ (r : Rules) (h : History) (w : World) (x : AttemptId) where
  its-stop : (b : Attempt) → Has b (tries w.lines) → b.id ≡ x → ItsLeaderStopped r w x → IsOpenToAll r.script w.lines x
  its-stop b i own k y = let z = try-at w.lines b i in LeaderStopped z.0 z.1 b own z.2 (k.told z.0 b z.1 z.2 own)

  -- one whose leader stopped since it began
  pub stopped-open : ItsLeaderStopped r w x → IsOpenToAll r.script w.lines x
  stopped-open k = elim (line-or_none w.lines x) [ inl z ↦ its-stop z.0 z.1 z.2 k | inr none ↦ unended-open r.script w.lines x none ]

  -- one that is in doubt
  pub doubt-open : Attempts r h w → Outcomes r h w → EntriesWrite r w → Doubts r h w → IsInDoubt r w x → IsOpenToAll r.script w.lines x
  doubt-open attempts outcomes writes doubts d = elim (line-or_none w.lines x) [ inl z ↦ told z.0 z.1 z.2 | inr none ↦ unended-open r.script w.lines x none ]
    where
      told : (b : Attempt) → Has b (tries w.lines) → b.id ≡ x → IsOpenToAll r.script w.lines x
      told b i own = by b.outcome refl
        where
          failed : is_failed b.outcome ≡ true → ⊥
          failed is =
              let none = (outcomes.lines b (contains-from_has (tries w.lines) b i) (subst (HasWrites r) (sym own) (entry-writes r w writes (leader_of r x) x d.entry d.found))).failed is in
              let some : entry_at w (leader_of r b.id) b.id ≡ Some d.entry = ap (λ y. entry_at w (leader_of r y) y) own ∙ d.found in
              let no : ⊥ = cc (none, some) in no

          by : (how : Outcome) → b.outcome ≡ how → IsOpenToAll r.script w.lines x
          by outcome.Committed says = its-stop b i own (doubts.doubtful x d (InLines b (contains-from_has (tries w.lines) b i) own says))
          by (outcome.Unknown t) says = λ y. IsUnknown (any-of (λ (a : Attempt). (a.id ≡ x) × (is_unknown a.outcome ≡ true)) (tries w.lines) b i (own, ap is_unknown says))
          by (outcome.CondFailed op) says = absurd (failed (ap is_failed says))
          by (outcome.Restart why) says = absurd (failed (ap is_failed says))
          by (outcome.NoSpace t need free) says = absurd (failed (ap is_failed says))
          by outcome.EpochsSpent says = absurd (failed (ap is_failed says))
          by outcome.NoSnapshot says = absurd (failed (ap is_failed says))

-- ---- what a target keeps open

module _ (r : Rules) (h : History) (w : World) (attempts : Attempts r h w) (outcomes : Outcomes r h w) (writes : EntriesWrite r w) (doubts : Doubts r h w) (t : ℕ) (s : TargetState) (here : slice_get w.targets t ≡ Some s) where
  -- an entry that it leads, and that isn't committed, of an attempt that it doesn't know as decided
  pub led-open : (x : AttemptId) (e : Entry) → t ≡ leader_of r x → entry_of s.durable x ≡ Some e → e.committed ≡ false → is_among x s.memory.leader.decided ≡ false → IsOpenToAll r.script w.lines x
  led-open x e leads found prepared unknown = doubt-open r h w x attempts outcomes writes doubts (record {
    entry = e;
    found = subst (λ n. entry_at w n x ≡ Some e) leads (ap (λ o. entry_in o x) here ∙ found);
    prepared = prepared;
    unknown = subst (λ n. is_known_at w n x ≡ false) leads (ap (λ o. is_known_in o x) here ∙ unknown);
  })

  -- where it answers as a leader that an attempt isn't decided, that is open to any other
  pub query-open : (a : AttemptId) → query_answer a (leader_at (target_plan r t) s.memory s.durable) ≡ verdicts.Undecided → IsOpenToAll r.script w.lines a
  unfolding query_answer
  query-open a undecided = by (entry_led a (leader_at (target_plan r t) s.memory s.durable)) refl undecided
    where
      by : (z : Option Entry) → entry_led a (leader_at (target_plan r t) s.memory s.durable) ≡ z → verdict_on z (is_among a s.memory.leader.decided) ≡ verdicts.Undecided → IsOpenToAll r.script w.lines a
      by None led e = let no : ⊥ = cc in absurd no
      by (Some k) led e = open' k.committed refl (is_among a s.memory.leader.decided) refl e
        where
          found : (entry_of s.durable a ≡ Some k) × (k.leader ≡ t)
          found = led-found (target_plan r t) s.memory s.durable a k (attempts.on.ordered t s here).entries led

          leads : t ≡ leader_of r a
          leads = sym found.1 ∙ ((attempts.on.each a).entries.one t k (ap (λ o. entry_in o a) here ∙ found.0)).leader

          open' : (b : Bool) → k.committed ≡ b → (c : Bool) → is_among a s.memory.leader.decided ≡ c → (if b || c then verdicts.Committed else verdicts.Undecided) ≡ verdicts.Undecided → IsOpenToAll r.script w.lines a
          open' true is c dec g = let no : ⊥ = cc in absurd no
          open' false is true dec g = let no : ⊥ = cc in absurd no
          open' false is false dec g = led-open a k leads found.0 is dec
