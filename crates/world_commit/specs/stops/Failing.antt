-- An opening that fails keeps the facts of attempts, whether the incarnation was raised or not.
use Rattle.std.specs.Prelude.{ℕ, ◌≡◌, ◌⊎◌, ◌+◌, true, slice_get, Some, None, refl}
use Rattle.std.proofs.Common.{sym, ◌∙◌, ap, subst, arith, inl, inr}
use Rattle.std.proofs.Math.ListN.{set}
use Rattle.base_types.specs.declared.id.AttemptId.{AttemptId}
use Rattle.model_laws.specs.Members.{Has}
use Rattle.daos_model.specs.Changes.{reopened}
use Rattle.daos_model.specs.Durables.{entry_key, entry_of}
use Rattle.daos_model.specs.Ordered.{is_rising}
use Rattle.daos_model.specs.declared.durable.Durable.{Durable}
use Rattle.dtx_base.specs.declared.leading.Undecided.{Undecided}
use Rattle.dtx_base.specs.Leading.{undecided_attempt}
use Rattle.dtx_base.specs.Members.{has_target}
use Rattle.dtx_base.specs.Rows.{row_of}
use Rattle.world_commit.specs.attempts.Attempts.{IsOrdered, count, entry_at, entry_in, inc_at, inc_in, is_known_at, is_known_in, leader_of, one_if, row_at, row_in}
use Rattle.world_commit.specs.attempts.History.{History}
use Rattle.world_commit.specs.attempts.Turning.{one-or_another}
use Rattle.world_commit.specs.fates.Facts.{Attempts, Awaited, IsQuiet, Rows, RunsAt, down_in, is_talk, is_try, knows_down, refuses_for, talking}
use Rattle.world_commit.specs.fates.Frames.{asked-on, one-unless, said-on}
use Rattle.world_commit.specs.stops.Parts.{KeepsEntries, all-now, entries-stay, grows-still, held-stays, now-here, now-same, now-there, open-stays}
use Rattle.world_commit.specs.stops.Earlier.{refusing-earlier}
use Rattle.world_commit.specs.stops.Questions.{reopened-entries, reopened-entry, reopened-incarnation}
use Rattle.world_base.specs.declared.target.Life.{Life}
use Rattle.world_base.specs.declared.target.Life.TheVariants.{Running, Stopped}
use Rattle.world_base.specs.declared.target.TargetState.{TargetState}
use Rattle.world_base.specs.declared.world.World.{World}
use Rattle.world_base.specs.Events.{Rules}
use Rattle.world_base.specs.Stops.{OpeningFails, no_memory}

-- what a failed opening leaves of what was kept
record LeftSo (d e : Durable) : Type 0 where
  entries : e.entries ≡ d.entries
  entry : (x : AttemptId) → entry_of e x ≡ entry_of d x
  incarnation : (e.incarnation ≡ d.incarnation) ⊎ (e.incarnation ≡ d.incarnation + 1)

left-so : (d e : Durable) → (e ≡ d) ⊎ (e ≡ reopened d) → LeftSo d e
left-so d e (inl same) = record { entries = ap (λ x. x.entries) same; entry = λ x. ap (λ y. entry_of y x) same; incarnation = inl (ap (λ x. x.incarnation) same) }
left-so d e (inr up) = record { entries = ap (λ x. x.entries) up ∙ reopened-entries d; entry = λ x. ap (λ y. entry_of y x) up ∙ reopened-entry d x; incarnation = inr (ap (λ x. x.incarnation) up ∙ reopened-incarnation d) }

module _ (r : Rules) (h : History) (w v : World) (g : OpeningFails r w v) (k : Attempts r h w) where
  abbrev z : TargetState
  z = record g.s { durable = g.k.durable; free = g.k.free }

  left : LeftSo g.s.durable g.k.durable
  left = left-so g.s.durable g.k.durable g.left

  targets : v.targets ≡ set w.targets g.t z
  targets = ap (λ u. u.targets) g.after

  messages : v.messages ≡ w.messages
  messages = ap (λ u. u.messages) g.after

  asked : v.asked ≡ w.asked
  asked = ap (λ u. u.asked) g.after

  memory : g.s.memory ≡ no_memory
  memory = k.on.quiet g.t g.s g.here (stopped-not g.s.life g.stopped)
    where
      stopped-not : (l : Life) → l ≡ Stopped → l ≡ Running → ⊥
      stopped-not l p q = let bad : Stopped ≡ Running = sym p ∙ q in (let no : ⊥ = cc in no)

  entry : (u : ℕ) (x : AttemptId) → entry_at v u x ≡ entry_at w u x
  entry u x = now-same w v g.t g.s z g.here targets (λ o. entry_in o x) (left.entry x) u

  row-same : (u : ℕ) (x : AttemptId) → row_at v u x ≡ row_at w u x
  row-same u x = now-same w v g.t g.s z g.here targets (λ o. row_in o x) refl u

  known-same : (u : ℕ) (x : AttemptId) → is_known_at v u x ≡ is_known_at w u x
  known-same u x = now-same w v g.t g.s z g.here targets (λ o. is_known_in o x) refl u

  down-same : (u m : ℕ) → knows_down v u m ≡ knows_down w u m
  down-same u m = now-same w v g.t g.s z g.here targets (λ o. down_in o m) refl u

  -- an incarnation is as it was, or it is one more, and its target knows nothing
  inc-now : (u : ℕ) → (inc_at v u ≡ inc_at w u) ⊎ ((inc_at v u ≡ inc_at w u + 1) × ((x : AttemptId) (q : Undecided) → row_at w u x ≡ Some q → ⊥))
  inc-now u = elim (one-or_another u g.t) [
    | inr off ↦ inl (now-there w v g.t g.s z g.here targets inc_in u off)
    | inl is ↦
        let now : inc_at v u ≡ g.k.durable.incarnation = ap (inc_at v) is ∙ now-here w v g.t g.s z g.here targets inc_in in
        let was : inc_at w u ≡ g.s.durable.incarnation = ap (inc_at w) is ∙ ap inc_in g.here in
        elim left.incarnation [
          | inl same ↦ inl (now ∙ same ∙ sym was)
          | inr up ↦ inr (
            now ∙ up ∙ ap (λ y. y + 1) (sym was),
            λ x q at.
                let none : row_at w u x ≡ None = ap (λ y. row_at w y x) is ∙ ap (λ o. row_in o x) g.here ∙ ap (λ m. row_of undecided_attempt x m.leader.undecided) memory in
                (let no : ⊥ = cc (none, at) in no),
          )
        ]
  ]

  keeps : KeepsEntries w v
  keeps = record {
    entry = entry;
    issued = λ x e i. subst (Has (x, e)) (sym (ap (λ u. u.issued) g.after)) i;
    incarnation = λ u. elim (inc-now u) [ inl same ↦ omega (arith, same) | inr up ↦ let one = up.0 in omega (arith, one) ];
  }

  runs-before : (u : ℕ) → RunsAt v u → RunsAt w u
  runs-before u runs y at = elim (one-or_another u g.t) [
    | inl is ↦
        let found : slice_get v.targets u ≡ Some z = ap (slice_get v.targets) is ∙ now-here w v g.t g.s z g.here targets (λ o. o) in
        let life = runs z found in
        let bad : Stopped ≡ Running = sym g.stopped ∙ life in
        (let no : ⊥ = cc in absurd no)
    | inr off ↦ runs y (now-there w v g.t g.s z g.here targets (λ o. o) u off ∙ at)
  ]

  rows-on : (x : AttemptId) → Rows r h w x → Rows r h v x
  unfolding open-stays
  rows-on x i = record {
    undecided = λ u q at. let o = i.undecided u q (sym (row-same u x) ∙ at) in record { here = open-stays r h w v keeps u x o.here; unknown = known-same u x ∙ o.unknown; client = o.client };
    unsettled = λ u known. let o = i.unsettled u (sym (known-same u x) ∙ known) in record { here = open-stays r h w v keeps u x o.here; decided = o.decided };
    either = λ e runs at prepared. elim (i.either e (runs-before (leader_of r x) runs) (sym (entry (leader_of r x) x) ∙ at) prepared) [
      | inl known ↦ inl (known-same (leader_of r x) x ∙ known)
      | inr q ↦ inr (q.0, row-same (leader_of r x) x ∙ q.1)
    ];
  }

  talks : (i m : ℕ) (x : AttemptId) → talking r i v x m ≡ talking r i w x m
  talks i m x = ap (λ ls. count (is_talk r i x m) ls) messages

  awaited-on : (x : AttemptId) → Awaited r h w x → Awaited r h v x
  awaited-on x i = record {
    once = λ m u o at.
        let before = sym (row-same (leader_of r x) x) ∙ at in
        elim (inc-now (leader_of r x)) [
          | inl same ↦
              one-unless (down-same (leader_of r x) m) (ap (λ n. n + one_if (has_target u.counted m)) (ap (λ j. talking r j v x m) same ∙ talks (inc_at w (leader_of r x)) m x)) (i.once m u o before)
          | inr up ↦ absurd (up.1 x u before)
        ];
    few = λ j m o. let same = talks j m x in let few = i.few j m o in omega (arith, same, few);
    tries = λ m o. let same : count (is_try r x m) v.messages ≡ count (is_try r x m) w.messages = ap (count (is_try r x m)) messages in let few = i.tries m o in omega (arith, same, few);
    before = λ m l among is. entry m x ∙ i.before m l (subst (Has l) messages among) is;
    counted = λ m u o at has. held-stays r h w v keeps m x (i.counted m u o (sym (row-same (leader_of r x) x) ∙ at) has);
    firm = λ l e among is d. elim (inc-now (leader_of r x)) [
      | inl same ↦ i.firm l e (subst (Has l) messages among) (subst (λ y. refuses_for y x l.message ≡ true) same is) d
      | inr up ↦ refusing-earlier r h w x l.from l.to l.message (k.on.letters l (subst (Has l) messages among)) (subst (λ y. refuses_for y x l.message ≡ true) up.0 is)
    ];
  }

  pub failing-keeps : Attempts r h v
  failing-keeps = record {
    on = record {
      each = λ x. record { entries = entries-stay r h w v keeps x (k.on.each x).entries; rows = rows-on x (k.on.each x).rows; awaited = awaited-on x (k.on.each x).awaited };
      letters = λ l i. said-on r h h w v (grows-still r h w v keeps) l.from l.to l.message (k.on.letters l (subst (Has l) messages i));
      asked = λ l i. asked-on r h h w v (grows-still r h w v keeps) l.from l.to l.message (k.on.asked l (subst (Has l) asked i));
      ordered = all-now w v g.t g.s z g.here targets IsOrdered (record {
        entries = subst (λ es. is_rising entry_key es ≡ true) (sym left.entries) (k.on.ordered g.t g.s g.here).entries;
        decided = (k.on.ordered g.t g.s g.here).decided;
      }) k.on.ordered;
      quiet = all-now w v g.t g.s z g.here targets IsQuiet (λ off. memory) k.on.quiet;
    };
    prompt = λ p wide. ap (count p) asked ∙ k.prompt p wide ∙ sym (ap (count p) messages);
  }
