-- The attempts that a leader remembers stay prepared here and led by it, whatever it begins, hears and tells.
use Rattle.std.proofs.Common.{ℕ, ◌≡◌, inl, inr, refl, sym, ◌∙◌, ap, subst, Bool, true, false, not, List, ◌++◌, map, Option, Some, None}
use Rattle.std.specs.Prelude.{◌==◌, ◌≢◌, if◌then◌else◌}
use Rattle.base_types.specs.declared.entry.Entry.{Entry}
use Rattle.base_types.specs.declared.id.AttemptId.{AttemptId}
use Rattle.base_types.specs.declared.outcome.Outcome.{Outcome}
use Rattle.base_types.specs.declared.outcome.Outcome.TheVariants.{Committed}
use Rattle.world_contents.specs.model_laws.DecidedLaws.{all-from_has}
use Rattle.world_contents.specs.model_laws.EntryLaws.{found-has, has-put, key-is}
use Rattle.world_contents.specs.model_laws.Members.{Has, has-from_filter, has-from_map}
use Rattle.base_messages.specs.declared.actor.ActorId.{ActorId}
use Rattle.daos_model.specs.declared.durable.Durable.{Durable}
use Rattle.daos_model.specs.BoolLaws.{clash}
use Rattle.daos_model.specs.Durables.{attempt_key, same_attempt}
use Rattle.daos_model.specs.EntryLaws.{same_attempt-itself}
use Rattle.daos_model.specs.OrderLaws.{rising-put}
use Rattle.dtx_base.specs.declared.leading.LeaderMemory.{LeaderMemory}
use Rattle.dtx_base.specs.declared.leading.Naming.{Naming}
use Rattle.dtx_base.specs.declared.leading.Undecided.{Undecided}
use Rattle.dtx_base.specs.LeaderLaws.{same-is}
use Rattle.dtx_base.specs.Leading.{LeaderOf, LeaderStep, ack_heard, answer_heard, answer_if_awaited, counted_at, decided, ended, entry_led, naming_to, new_undecided, quietly, undecided_attempt, undecided_of, with_undecided}
use Rattle.dtx_base.specs.Members.{are_all_counted, is_other_member, other_members, with_target}
use Rattle.dtx_base.specs.RowLaws.{row-is}
use Rattle.dtx_base.specs.Rows.{is_row_of, itself, row_key, with_row, without_row}
use Rattle.dtx_leader.specs.dtx_table.declared.seat.Seat.{Seat}
use Rattle.dtx_leader.specs.dtx_table.Seats.{leader_of}
use Rattle.target_parts.specs.Knowing.{AreRowsOpen, IsOpenHere}

-- ---- attempts

-- ---- rows

module _ (me : ℕ) (m : LeaderMemory) (d : Durable) (r : AreRowsOpen me m d) where
  -- other names in Marks are nothing to them
  pub rows-named : (named : List Naming) → AreRowsOpen me (record m { named = named }) d
  rows-named named = record { order = r.order; decided = r.decided; undecided = r.undecided; apart = r.apart }

  -- an attempt that is open here begins
  pub rows-begun : (a : AttemptId) (client : Option ActorId) → IsOpenHere me a d → (Has a m.decided → ⊥) → AreRowsOpen me (record m { undecided = with_row undecided_attempt (new_undecided a client) m.undecided }) d
  rows-begun a client here apart = record {
    order = r.order;
    decided = r.decided;
    undecided = λ u i. elim (has-put (row_key undecided_attempt) (new_undecided a client) m.undecided u i) [
      | inl same ↦ subst (λ x. IsOpenHere me x.attempt d) (sym same) here
      | inr j ↦ r.undecided u j
    ];
    apart = λ u i j. elim (has-put (row_key undecided_attempt) (new_undecided a client) m.undecided u i) [
      | inl same ↦ apart (subst (λ x. Has x.attempt m.decided) same j)
      | inr k ↦ r.apart u k j
    ];
  }

  -- one that is open here, and of which no row is left, is decided
  pub rows-decided : (a : AttemptId) (us : List Undecided) → IsOpenHere me a d → (Has a m.decided → ⊥) → ((u : Undecided) → Has u us → Has u m.undecided × (u.attempt ≡ a → ⊥))
      → AreRowsOpen me (record m { undecided = us; decided = with_row itself a m.decided }) d
  rows-decided a us here apart left = record {
    order = rising-put attempt_key a m.decided (all-from_has (λ b. attempt_key b ≢ attempt_key a) m.decided (λ b i same. apart (subst (λ x. Has x m.decided) (key-is b a same) i))) r.order;
    decided = λ b i. elim (has-put attempt_key a m.decided b i) [
      | inl same ↦ subst (λ x. IsOpenHere me x d) (sym same) here
      | inr j ↦ r.decided b j
    ];
    undecided = λ u i. r.undecided u (left u i).0;
    apart = λ u i j. elim (has-put attempt_key a m.decided u.attempt j) [
      | inl same ↦ (left u i).1 same
      | inr k ↦ r.apart u (left u i).0 k
    ];
  }

  -- what else is remembered of the undecided ones is nothing to them
  pub rows-mapped : (f : Undecided → Undecided) → ((u : Undecided) → (f u).attempt ≡ u.attempt) → AreRowsOpen me (record m { undecided = map f m.undecided }) d
  rows-mapped f same = record {
    order = r.order;
    decided = r.decided;
    undecided = λ u i. let o = has-from_map f m.undecided u i in subst (λ x. IsOpenHere me x d) (sym (same o.0) ∙ ap (λ x. x.attempt) o.2) (r.undecided o.0 o.1);
    apart = λ u i j. let o = has-from_map f m.undecided u i in r.apart o.0 o.1 (subst (λ x. Has x m.decided) (sym (ap (λ x. x.attempt) o.2) ∙ same o.0) j);
  }

  -- one more is counted
  pub rows-counted : (a : AttemptId) (t : ℕ) → AreRowsOpen me (record m { undecided = map (counted_at a t) m.undecided }) d
  rows-counted a t = rows-mapped (counted_at a t) counted-same
    where
      counted-same : (u : Undecided) → (counted_at a t u).attempt ≡ u.attempt
      counted-same u = elim (same_attempt u.attempt a) as (λ b. (if b then record u { counted = with_target u.counted t } else u).attempt ≡ u.attempt) [ true ↦ refl | false ↦ refl ]

-- what is left without an attempt is of others
pub without-apart : (a : AttemptId) (us : List Undecided) (u : Undecided) → Has u (without_row undecided_attempt a us) → Has u us × (u.attempt ≡ a → ⊥)
without-apart a us u i =
    let o = has-from_filter _ us u i in
    (o.0, λ same. clash (same_attempt u.attempt a) (subst (λ x. same_attempt x a ≡ true) (sym same) (same_attempt-itself a)) (not-true (same_attempt u.attempt a) o.1))
  where
    not-true : (b : Bool) → not b ≡ true → b ≡ false
    not-true true h = let no : ⊥ = cc in absurd no
    not-true false h = refl

module _ (s : Seat) (es : List Entry) (m : LeaderMemory) (d : Durable) (r : AreRowsOpen s.me m d) where
  abbrev l : LeaderOf
  l = leader_of s es m

  -- an undecided attempt is open here, and isn't decided
  pub undecided-open : (a : AttemptId) (u : Undecided) → undecided_of a l ≡ Some u → IsOpenHere s.me a d × (Has a m.decided → ⊥)
  undecided-open a u found =
      let among : Has u m.undecided = found-has (is_row_of undecided_attempt a) m.undecided u found in
      let its : u.attempt ≡ a = same-is u.attempt a (row-is undecided_attempt a m.undecided u found) in
      (subst (λ x. IsOpenHere s.me x d) its (r.undecided u among), λ i. r.apart u among (subst (λ x. Has x m.decided) (sym its) i))

  without-undecided : (a : AttemptId) (named : List Naming) → AreRowsOpen s.me (record m { undecided = without_row undecided_attempt a m.undecided; named = named }) d
  without-undecided a named = record {
    order = r.order;
    decided = r.decided;
    undecided = λ u i. r.undecided u (without-apart a m.undecided u i).0;
    apart = λ u i j. r.apart u (without-apart a m.undecided u i).0 j;
  }

  abbrev or_quiet : Bool → LeaderStep → LeaderStep
  or_quiet b s = if b then s else quietly l

  abbrev AreOpenAfter : LeaderStep → Type 0
  AreOpenAfter x = AreRowsOpen s.me x.leader.memory d

  if-open : (b : Bool) (x : LeaderStep) → AreOpenAfter x → AreOpenAfter (or_quiet b x)
  if-open true x open-after = open-after
  if-open false x open-after = r

  abbrev ok_step : Bool → ℕ → AttemptId → Entry → Undecided → LeaderStep
  ok_step b t a e u = if b then record { leader = decided a l; posts = ended u.client a e.epoch Committed } else quietly (with_undecided (map (counted_at a t) m.undecided) l)

  ok-open : (b : Bool) (t : ℕ) (a : AttemptId) (e : Entry) (u : Undecided) → undecided_of a l ≡ Some u → AreOpenAfter (ok_step b t a e u)
  ok-open true t a e u found = let here = undecided-open a u found in rows-decided s.me m d r a (without_row undecided_attempt a m.undecided) here.0 here.1 (without-apart a m.undecided)
  ok-open false t a e u found = rows-counted s.me m d r a t

  answer-open : (t : ℕ) (a : AttemptId) (refusal : Option Outcome) (e : Entry) (u : Undecided) → undecided_of a l ≡ Some u → AreOpenAfter (answer_heard t a refusal e u l)
  answer-open t a None e u found = ok-open (are_all_counted e (with_target u.counted t)) t a e u found
  answer-open t a (Some how) e u found = without-undecided a (m.named ++ map (naming_to s.incarnation a) (other_members e))

  awaited-open : (t : ℕ) (a : AttemptId) (refusal : Option Outcome) (eo : Option Entry) (uo : Option Undecided) → undecided_of a l ≡ uo → AreOpenAfter (answer_if_awaited t a refusal eo uo l)
  awaited-open t a refusal None uo found = r
  awaited-open t a refusal (Some e) None found = r
  awaited-open t a refusal (Some e) (Some u) found = if-open (is_other_member e t) (answer_heard t a refusal e u l) (answer-open t a refusal e u found)

  -- whatever an Ack says
  pub ack-rows : (t : ℕ) (a : AttemptId) (inc : ℕ) (refusal : Option Outcome) → AreRowsOpen s.me (ack_heard t a inc refusal l).leader.memory d
  unfolding ack_heard
  ack-rows t a inc refusal = if-open (inc == s.incarnation) (answer_if_awaited t a refusal (entry_led a l) (undecided_of a l) l) (awaited-open t a refusal (entry_led a l) (undecided_of a l) refl)
