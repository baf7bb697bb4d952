-- What a turn leaves in which a target hears what another one tells or asks it, or does its idle work.
use Rattle.std.proofs.Common.{ℕ, ◌≡◌, refl, sym, ◌∙◌, ap, subst, List, [], ◌∷◌, ◌++◌, Bool, true, false, Option, Some, None}
use Rattle.std.specs.Prelude.{if◌then◌else◌}
use Rattle.base_types.specs.declared.entry.Settle.TheVariants.{Abort, Commit, Confirm}
use Rattle.base_types.specs.declared.id.AttemptId.{AttemptId}
use Rattle.base_types.specs.declared.outcome.Outcome.{Outcome}
use Rattle.base_messages.specs.declared.actor.ActorId.{ActorId}
use Rattle.base_messages.specs.declared.message.Message.{Message}
use Rattle.base_messages.specs.declared.message.Message.TheVariants as message
use Rattle.base_messages.specs.declared.message.Post.{Post}
use Rattle.daos_model.specs.declared.durable.Durable.{Durable}
use Rattle.daos_model.specs.BoolLaws.{clash}
use Rattle.daos_model.specs.Changes.{settled}
use Rattle.dtx_base.specs.Leading.{LeaderStep, ack_heard, attempts_of, marked_heard, may_confirm}
use Rattle.world_base.specs.declared.did.Did.{Did}
use Rattle.world_base.specs.declared.target.TargetMemory.{TargetMemory}
use Rattle.world_base.specs.declared.target.TargetPlan.{TargetPlan}
use Rattle.world_base.specs.declared.target.TargetState.{TargetState}
use Rattle.world_base.specs.Acks as ack
use Rattle.world_base.specs.Changes.{Change, Kept, Settles}
use Rattle.world_base.specs.Idle.{AllSettled, IdleEnds, IdleNext, SettlesFirst, batch_of, idle_memory, idle_told, inquiry_of}
use Rattle.world_base.specs.Marks.{AllMarked, MarkEnds, MarkNext, PassesBy, SettlesMarked, marked_step}
use Rattle.world_base.specs.Requests.{nothing_follows, says, sends}
use Rattle.world_base.specs.Roles.{is_prepared, joins_on, leader_at, leads_on, told_of_all}
use Rattle.world_base.specs.Verdicts.{Answers, IsAnswered, IsAsked, IsTold, QueryEnds, QueryNext, QueryStage, verdict_message}
use Rattle.replay_base.specs.declared.leases.Covered.{Covered}
use Rattle.replay_base.specs.declared.told.Left.{Left}
use Rattle.replay_base.specs.Leaving.{Comes, HearsAs, IdlesAs, IsLeftIf}
use Rattle.world_base.specs.Turns.{Whole}
use Rattle.replay_base.specs.Onward.{Iff, keeps}
use Rattle.replay_base.proofs.Chains.{OneStep, change_iff, comes_whole, end_comes, silent_iff}
use Rattle.replay_base.proofs.Starts.{iff_both}
use Rattle.replay_dtx.specs.Dtx.{all_confirmed, all_marked, all_settled, answered_memory, changed_to, leads, led_in}

-- what is kept, and this is known and follows
abbrev pub left_at : Covered → TargetMemory × Did → Left
left_at k r = record { durable = k.durable; changed = k.changed; memory = r.0; did = r.1 }

-- ---- what is left, part by part

abbrev pub left_parts : Durable → Bool → TargetMemory → Did → Left
left_parts d changed m did = record { durable = d; changed = changed; memory = m; did = did }

pub left_same : (d d' : Durable) (b b' : Bool) (m m' : TargetMemory) (did did' : Did) → d ≡ d' → b ≡ b' → m ≡ m' → did ≡ did' → left_parts d b m did ≡ left_parts d' b' m' did'
left_same d d' b b' m m' did did' p q r u = ap (λ x. left_parts x b m did) p ∙ ap (λ x. left_parts d' x m did) q ∙ ap (λ x. left_parts d' b' x did) r ∙ ap (left_parts d' b' m') u

-- ---- an Ack

module _ (t : TargetPlan) (m : TargetMemory) (member : ℕ) (a : AttemptId) (inc : ℕ) (refusal : Option Outcome) (d : Durable) where
  abbrev AckN : ack.AckStage → Kept → Option Change → ack.AckStage → Type 0
  AckN = ack.AckNext t m member a inc refusal

  abbrev step : LeaderStep
  step = ack_heard member a inc refusal (leader_at t m d)

  abbrev answer : TargetMemory × Did
  answer = (leads_on step m, sends step.posts None)

  abbrev refused : Bool
  refused = ack.is_refusing member a inc refusal (leader_at t m d)

  data AckStep (k : Kept) (o : Option Change) (u : ack.AckStage) : Type 0 where
    Refuses : ack.is_refusing member a inc refusal (leader_at t m k.durable) ≡ true → o ≡ Some (Settles a Abort) → u ≡ ack.Followed (ack_heard member a inc refusal (leader_at t m k.durable)) → AckStep k o u
    Goes : ack.is_refusing member a inc refusal (leader_at t m k.durable) ≡ false → o ≡ None → u ≡ ack.Followed (ack_heard member a inc refusal (leader_at t m k.durable)) → AckStep k o u

  abbrev AckAt : ack.AckStage → Kept → Option Change → ack.AckStage → Type 0
  AckAt ack.Heard k o u = AckStep k o u
  AckAt (ack.Followed s) k o u = ⊥

  ack_at : (s : ack.AckStage) (k : Kept) (o : Option Change) (u : ack.AckStage) → AckN s k o u → AckAt s k o u
  ack_at s k o u (ack.Aborts j is) = Refuses is refl refl
  ack_at s k o u (ack.Counts j is) = Goes is refl refl

  abbrev AckEnd : ack.AckStage → TargetMemory × Did → Type 0
  AckEnd ack.Heard left = ⊥
  AckEnd (ack.Followed s) left = left ≡ (leads_on s m, sends s.posts None)

  ack_end : (s : ack.AckStage) (k : Kept) (left : TargetMemory × Did) → ack.AckEnds m s k left → AckEnd s left
  ack_end s k left (ack.IsFollowed j z l is) = is

  followed : (e : Durable) (changed : Bool) → Comes AckN (ack.AckEnds m) (ack.Followed step) e changed (Some (left_at (record { durable = e; changed = changed }) answer))
  followed e changed = end_comes AckN (ack.AckEnds m) (ack.Followed step) e changed (left_at (record { durable = e; changed = changed }) answer) refl refl (record {
    there = λ free. ack.IsFollowed (keeps e free) step answer refl;
    alone = λ free x ends. ack_end (ack.Followed step) (keeps e free) x ends;
    stays = λ free p u next. ack_at (ack.Followed step) (keeps e free) p u next;
  })

  aborts : refused ≡ true → OneStep AckN (ack.AckEnds m) ack.Heard d (Some (Settles a Abort)) (ack.Followed step)
  aborts is = record {
    there = λ free. ack.Aborts (keeps d free) is;
    alone = λ free p u next. by p u (ack_at ack.Heard (keeps d free) p u next);
    goes = λ free r ends. ack_end ack.Heard (keeps d free) r ends;
  }
    where
      by : {free : ℕ} (p : Option Change) (u : ack.AckStage) → AckStep (keeps d free) p u → (p ≡ Some (Settles a Abort)) × (u ≡ ack.Followed step)
      by p u (Refuses does o_is u_is) = (o_is, u_is)
      by p u (Goes doesnt o_is u_is) = clash refused is doesnt

  counts : refused ≡ false → OneStep AckN (ack.AckEnds m) ack.Heard d None (ack.Followed step)
  counts is = record {
    there = λ free. ack.Counts (keeps d free) is;
    alone = λ free p u next. by p u (ack_at ack.Heard (keeps d free) p u next);
    goes = λ free r ends. ack_end ack.Heard (keeps d free) r ends;
  }
    where
      by : {free : ℕ} (p : Option Change) (u : ack.AckStage) → AckStep (keeps d free) p u → (p ≡ None) × (u ≡ ack.Followed step)
      by p u (Refuses does o_is u_is) = clash refused does is
      by p u (Goes doesnt o_is u_is) = (o_is, u_is)

  ack_comes : (b : Bool) → refused ≡ b → Comes AckN (ack.AckEnds m) ack.Heard d false (Some (left_at (record { durable = if b then settled a Abort d else d; changed = b }) answer))
  ack_comes true is free new left =
      iff_both (change_iff AckN (ack.AckEnds m) ack.Heard (ack.Followed step) d (Settles a Abort) refl (aborts is) false free new left) (followed (settled a Abort d) true free new left)
  ack_comes false is free new left = iff_both (silent_iff AckN (ack.AckEnds m) ack.Heard (ack.Followed step) d (counts is) false free new left) (followed d false free new left)

pub ack_leaves : (t : TargetPlan) (from : ActorId) (a : AttemptId) (inc : ℕ) (refusal : Option Outcome) (s : TargetState) (l : Left)
    → l ≡ left_at (record { durable = if ack.is_refusing from.number a inc refusal (leader_at t s.memory s.durable) then settled a Abort s.durable else s.durable; changed = ack.is_refusing from.number a inc refusal (leader_at t s.memory s.durable) })
    (answer t s.memory from.number a inc refusal s.durable) → HearsAs t from (message.Ack a inc refusal) s (Some l)
ack_leaves t from a inc refusal s l is reading new left =
    subst (λ x. Iff (Whole (ack.AckNext t s.memory from.number a inc refusal) (ack.AckEnds s.memory) ack.Heard (keeps s.durable s.free) new left) (IsLeftIf (Some x) s.free new left)) (sym is)
    (comes_whole (ack.AckNext t s.memory from.number a inc refusal) (ack.AckEnds s.memory) ack.Heard s.durable (Some (left_at (record { durable = if refused t s.memory from.number a inc refusal s.durable then settled a Abort s.durable else s.durable; changed = refused t s.memory from.number a inc refusal s.durable }) (answer t s.memory from.number a inc refusal s.durable))) s.free new left (ack_comes t s.memory from.number a inc refusal s.durable (refused t s.memory from.number a inc refusal s.durable) refl))

pub ack_found : (t : TargetPlan) (from : ActorId) (a : AttemptId) (inc : ℕ) (refusal : Option Outcome) (s : TargetState) (member : ℕ) (r : TargetMemory × List Post) (b : Bool) (d0 d : Durable) (did : Did) (m : TargetMemory) → member ≡ from.number
    → r ≡ leads (ack_heard member a inc refusal (leader_at t s.memory s.durable)) s.memory → b ≡ ack.is_refusing member a inc refusal (leader_at t s.memory s.durable) → d0 ≡ s.durable → d ≡ (if b then settled a Abort d0 else d0)
    → did ≡ sends r.1 None → m ≡ r.0 → HearsAs t from (message.Ack a inc refusal) s (Some (left_parts d b m did))
ack_found t from a inc refusal s member r b d0 d did m same knows tested kept aborts says at = ack_leaves t from a inc refusal s (left_parts d b m did) (left_same d _ b _ m _ did _ durable refuses memory follows)
  where
    refuses : b ≡ ack.is_refusing from.number a inc refusal (leader_at t s.memory s.durable)
    refuses = tested ∙ ap (λ n. ack.is_refusing n a inc refusal (leader_at t s.memory s.durable)) same

    durable : d ≡ (if ack.is_refusing from.number a inc refusal (leader_at t s.memory s.durable) then settled a Abort s.durable else s.durable)
    durable = aborts ∙ ap (λ x. if b then settled a Abort x else x) kept ∙ ap (λ (y : Bool). if y then settled a Abort s.durable else s.durable) refuses

    heard : r ≡ leads (ack_heard from.number a inc refusal (leader_at t s.memory s.durable)) s.memory
    heard = knows ∙ ap (λ n. leads (ack_heard n a inc refusal (leader_at t s.memory s.durable)) s.memory) same

    memory : m ≡ leads_on (ack_heard from.number a inc refusal (leader_at t s.memory s.durable)) s.memory
    memory = at ∙ ap (λ x. x.0) heard

    follows : did ≡ sends (ack_heard from.number a inc refusal (leader_at t s.memory s.durable)).posts None
    follows = says ∙ ap (λ x. sends x.1 None) heard

-- ---- a Mark

module _ (m : TargetMemory) (from : ActorId) (inc : ℕ) (marks : List (AttemptId × Bool)) where
  abbrev MarkE : List (AttemptId × Bool) → Kept → TargetMemory × Did → Type 0
  MarkE = MarkEnds m from inc marks

  abbrev pub told : TargetMemory × Did
  told = (m, says from (message.Marked inc (attempts_of marks)) None)

  data MarkStep (x : AttemptId × Bool) (xs : List (AttemptId × Bool)) (k : Kept) (o : Option Change) (u : List (AttemptId × Bool)) : Type 0 where
    Names : is_prepared x.0 k.durable ≡ true → o ≡ Some (Settles x.0 (marked_step x.1)) → u ≡ xs → MarkStep x xs k o u
    Skips : is_prepared x.0 k.durable ≡ false → o ≡ None → u ≡ xs → MarkStep x xs k o u

  abbrev MarkAt : List (AttemptId × Bool) → Kept → Option Change → List (AttemptId × Bool) → Type 0
  MarkAt [] k o u = ⊥
  MarkAt (x ∷ xs) k o u = MarkStep x xs k o u

  mark_at : (s : List (AttemptId × Bool)) (k : Kept) (o : Option Change) (u : List (AttemptId × Bool)) → MarkNext is_prepared s k o u → MarkAt s k o u
  mark_at s k o u (SettlesMarked j a committed rest is) = Names is refl refl
  mark_at s k o u (PassesBy j a committed rest is) = Skips is refl refl

  abbrev MarkEnd : List (AttemptId × Bool) → TargetMemory × Did → Type 0
  MarkEnd [] left = left ≡ told
  MarkEnd (x ∷ xs) left = ⊥

  mark_end : (s : List (AttemptId × Bool)) (k : Kept) (left : TargetMemory × Did) → MarkE s k left → MarkEnd s left
  mark_end s k left (AllMarked j l is) = is

  module _ (x : AttemptId × Bool) (xs : List (AttemptId × Bool)) (d : Durable) where
    names : is_prepared x.0 d ≡ true → OneStep (MarkNext is_prepared) MarkE (x ∷ xs) d (Some (Settles x.0 (marked_step x.1))) xs
    names is = record {
      there = λ free. SettlesMarked (keeps d free) x.0 x.1 xs is;
      alone = λ free p u next. by p u (mark_at (x ∷ xs) (keeps d free) p u next);
      goes = λ free r ends. mark_end (x ∷ xs) (keeps d free) r ends;
    }
      where
        by : {free : ℕ} (p : Option Change) (u : List (AttemptId × Bool)) → MarkStep x xs (keeps d free) p u → (p ≡ Some (Settles x.0 (marked_step x.1))) × (u ≡ xs)
        by p u (Names does o_is u_is) = (o_is, u_is)
        by p u (Skips doesnt o_is u_is) = clash (is_prepared x.0 d) is doesnt

    skips : is_prepared x.0 d ≡ false → OneStep (MarkNext is_prepared) MarkE (x ∷ xs) d None xs
    skips is = record {
      there = λ free. PassesBy (keeps d free) x.0 x.1 xs is;
      alone = λ free p u next. by p u (mark_at (x ∷ xs) (keeps d free) p u next);
      goes = λ free r ends. mark_end (x ∷ xs) (keeps d free) r ends;
    }
      where
        by : {free : ℕ} (p : Option Change) (u : List (AttemptId × Bool)) → MarkStep x xs (keeps d free) p u → (p ≡ None) × (u ≡ xs)
        by p u (Names does o_is u_is) = clash (is_prepared x.0 d) does is
        by p u (Skips doesnt o_is u_is) = (o_is, u_is)

  mark_more : (x : AttemptId × Bool) (xs : List (AttemptId × Bool)) (k : Covered) → ((l : Covered) → Comes (MarkNext is_prepared) MarkE xs l.durable l.changed (Some (left_at (all_marked xs l) told)))
      → (b : Bool) → is_prepared x.0 k.durable ≡ b
      → Comes (MarkNext is_prepared) MarkE (x ∷ xs) k.durable k.changed (Some (left_at (all_marked xs (if b then changed_to (settled x.0 (marked_step x.1) k.durable) else k)) told))
  mark_more x xs k rest true is free new left =
      iff_both (change_iff (MarkNext is_prepared) MarkE (x ∷ xs) xs k.durable (Settles x.0 (marked_step x.1)) refl (names x xs k.durable is) k.changed free new left) (rest (changed_to (settled x.0 (marked_step x.1) k.durable)) free new left)
  mark_more x xs k rest false is free new left = iff_both (silent_iff (MarkNext is_prepared) MarkE (x ∷ xs) xs k.durable (skips x xs k.durable is) k.changed free new left) (rest k free new left)

  mark_comes : (xs : List (AttemptId × Bool)) (k : Covered) → Comes (MarkNext is_prepared) MarkE xs k.durable k.changed (Some (left_at (all_marked xs k) told))
  mark_comes [] k = end_comes (MarkNext is_prepared) MarkE [] k.durable k.changed (left_at k told) refl refl (record {
    there = λ free. AllMarked (keeps k.durable free) told refl;
    alone = λ free x ends. mark_end [] (keeps k.durable free) x ends;
    stays = λ free p u next. mark_at [] (keeps k.durable free) p u next;
  })
  mark_comes (x ∷ xs) k = mark_more x xs k (mark_comes xs) (is_prepared x.0 k.durable) refl

-- where a turn begins
abbrev pub start : Durable → Covered
start d = record { durable = d; changed = false }

pub mark_leaves : (t : TargetPlan) (from : ActorId) (inc : ℕ) (marks : List (AttemptId × Bool)) (s : TargetState) (l : Left)
    → l ≡ left_at (all_marked marks (start s.durable)) (told (told_of_all (attempts_of marks) s.memory) from inc marks) → HearsAs t from (message.Mark inc marks) s (Some l)
mark_leaves t from inc marks s l is reading new left =
    let m : TargetMemory = told_of_all (attempts_of marks) s.memory in
    subst (λ x. Iff (Whole (MarkNext is_prepared) (MarkEnds m from inc marks) marks (keeps s.durable s.free) new left) (IsLeftIf (Some x) s.free new left)) (sym is)
    (comes_whole (MarkNext is_prepared) (MarkEnds m from inc marks) marks s.durable (Some (left_at (all_marked marks (start s.durable)) (told m from inc marks))) s.free new left (mark_comes m from inc marks marks (start s.durable)))

-- ---- a Marked

module _ (t : TargetPlan) (m : TargetMemory) (member inc : ℕ) (ids : List AttemptId) where
  abbrev MarkedN : List AttemptId → Kept → Option Change → List AttemptId → Type 0
  MarkedN = ack.MarkedNext t m member

  abbrev MarkedE : List AttemptId → Kept → TargetMemory × Did → Type 0
  MarkedE = ack.MarkedEnds t m member inc ids

  abbrev pub answered_so : TargetMemory × Did
  answered_so = (answered_memory member inc ids m, nothing_follows)

  answered_is : (d : Durable) → leads_on (marked_heard member inc ids (leader_at t m d)) m ≡ answered_memory member inc ids m
  unfolding marked_heard
  answered_is d = refl

  data MarkedStep (a : AttemptId) (rest : List AttemptId) (k : Kept) (o : Option Change) (u : List AttemptId) : Type 0 where
    IsConfirmed : may_confirm member (led_in t a k.durable) ≡ true → o ≡ Some (Settles a (Confirm member)) → u ≡ rest → MarkedStep a rest k o u
    IsSkipped : may_confirm member (led_in t a k.durable) ≡ false → o ≡ None → u ≡ rest → MarkedStep a rest k o u

  abbrev MarkedAt : List AttemptId → Kept → Option Change → List AttemptId → Type 0
  MarkedAt [] k o u = ⊥
  MarkedAt (a ∷ rest) k o u = MarkedStep a rest k o u

  marked_at : (s : List AttemptId) (k : Kept) (o : Option Change) (u : List AttemptId) → MarkedN s k o u → MarkedAt s k o u
  marked_at s k o u (ack.Confirms j a rest is) = IsConfirmed is refl refl
  marked_at s k o u (ack.PassesBy j a rest is) = IsSkipped is refl refl

  abbrev MarkedEnd : List AttemptId → TargetMemory × Did → Type 0
  MarkedEnd [] left = left ≡ answered_so
  MarkedEnd (a ∷ rest) left = ⊥

  marked_end : (s : List AttemptId) (k : Kept) (left : TargetMemory × Did) → MarkedE s k left → MarkedEnd s left
  marked_end s k left (ack.AllConfirmed j l is) = is ∙ ap (λ x. (x, nothing_follows)) (answered_is k.durable)

  module _ (a : AttemptId) (rest : List AttemptId) (d : Durable) where
    confirms : may_confirm member (led_in t a d) ≡ true → OneStep MarkedN MarkedE (a ∷ rest) d (Some (Settles a (Confirm member))) rest
    confirms is = record {
      there = λ free. ack.Confirms (keeps d free) a rest is;
      alone = λ free p u next. by p u (marked_at (a ∷ rest) (keeps d free) p u next);
      goes = λ free r ends. marked_end (a ∷ rest) (keeps d free) r ends;
    }
      where
        by : {free : ℕ} (p : Option Change) (u : List AttemptId) → MarkedStep a rest (keeps d free) p u → (p ≡ Some (Settles a (Confirm member))) × (u ≡ rest)
        by p u (IsConfirmed here o_is u_is) = (o_is, u_is)
        by p u (IsSkipped here o_is u_is) = clash (may_confirm member (led_in t a d)) is here

    unconfirmed : may_confirm member (led_in t a d) ≡ false → OneStep MarkedN MarkedE (a ∷ rest) d None rest
    unconfirmed is = record {
      there = λ free. ack.PassesBy (keeps d free) a rest is;
      alone = λ free p u next. by p u (marked_at (a ∷ rest) (keeps d free) p u next);
      goes = λ free r ends. marked_end (a ∷ rest) (keeps d free) r ends;
    }
      where
        by : {free : ℕ} (p : Option Change) (u : List AttemptId) → MarkedStep a rest (keeps d free) p u → (p ≡ None) × (u ≡ rest)
        by p u (IsConfirmed here o_is u_is) = clash (may_confirm member (led_in t a d)) here is
        by p u (IsSkipped here o_is u_is) = (o_is, u_is)

  marked_more : (a : AttemptId) (rest : List AttemptId) (k : Covered) → ((l : Covered) → Comes MarkedN MarkedE rest l.durable l.changed (Some (left_at (all_confirmed t member rest l) answered_so)))
      → (b : Bool) → may_confirm member (led_in t a k.durable) ≡ b
      → Comes MarkedN MarkedE (a ∷ rest) k.durable k.changed (Some (left_at (all_confirmed t member rest (if b then changed_to (settled a (Confirm member) k.durable) else k)) answered_so))
  marked_more a rest k goes true is free new left =
      iff_both (change_iff MarkedN MarkedE (a ∷ rest) rest k.durable (Settles a (Confirm member)) refl (confirms a rest k.durable is) k.changed free new left) (goes (changed_to (settled a (Confirm member) k.durable)) free new left)
  marked_more a rest k goes false is free new left = iff_both (silent_iff MarkedN MarkedE (a ∷ rest) rest k.durable (unconfirmed a rest k.durable is) k.changed free new left) (goes k free new left)

  marked_comes : (xs : List AttemptId) (k : Covered) → Comes MarkedN MarkedE xs k.durable k.changed (Some (left_at (all_confirmed t member xs k) answered_so))
  marked_comes [] k = end_comes MarkedN MarkedE [] k.durable k.changed (left_at k answered_so) refl refl (record {
    there = λ free. ack.AllConfirmed (keeps k.durable free) answered_so (sym (ap (λ x. (x, nothing_follows)) (answered_is k.durable)));
    alone = λ free x ends. marked_end [] (keeps k.durable free) x ends;
    stays = λ free p u next. marked_at [] (keeps k.durable free) p u next;
  })
  marked_comes (a ∷ rest) k = marked_more a rest k (marked_comes rest) (may_confirm member (led_in t a k.durable)) refl

pub marked_leaves : (t : TargetPlan) (from : ActorId) (inc : ℕ) (ids : List AttemptId) (s : TargetState) (l : Left)
    → l ≡ left_at (all_confirmed t from.number (ack.to_confirm inc ids s.durable) (start s.durable)) (answered_so t s.memory from.number inc ids) → HearsAs t from (message.Marked inc ids) s (Some l)
marked_leaves t from inc ids s l is reading new left =
    subst (λ x. Iff (Whole (ack.MarkedNext t s.memory from.number) (ack.MarkedEnds t s.memory from.number inc ids) (ack.to_confirm inc ids s.durable) (keeps s.durable s.free) new left) (IsLeftIf (Some x) s.free new left)) (sym is)
    (comes_whole (ack.MarkedNext t s.memory from.number) (ack.MarkedEnds t s.memory from.number inc ids) (ack.to_confirm inc ids s.durable) s.durable (Some (left_at (all_confirmed t from.number (ack.to_confirm inc ids s.durable) (start s.durable)) (answered_so t s.memory from.number inc ids))) s.free new left
    (marked_comes t s.memory from.number inc ids (ack.to_confirm inc ids s.durable) (start s.durable)))

-- ---- a Query

module _ (t : TargetPlan) (m : TargetMemory) (from : ActorId) (a : AttemptId) (ask : Option AttemptId) (d : Durable) where
  abbrev QueryE : QueryStage → Kept → TargetMemory × Did → Type 0
  QueryE = QueryEnds t m from a ask

  abbrev pub query_told : TargetMemory × Did
  query_told = (m, says from (verdict_message t m a ask d) None)

  abbrev QueryAt : QueryStage → Option Change → QueryStage → Type 0
  QueryAt IsAsked o u = (o ≡ None) × (u ≡ IsAnswered)
  QueryAt IsAnswered o u = ⊥

  query_at : (s : QueryStage) (k : Kept) (o : Option Change) (u : QueryStage) → QueryNext s k o u → QueryAt s o u
  query_at s k o u (Answers j) = (refl, refl)

  abbrev QueryEnd : QueryStage → Kept → TargetMemory × Did → Type 0
  QueryEnd IsAsked k left = ⊥
  QueryEnd IsAnswered k left = left ≡ (m, says from (verdict_message t m a ask k.durable) None)

  query_end : (s : QueryStage) (k : Kept) (left : TargetMemory × Did) → QueryE s k left → QueryEnd s k left
  query_end s k left (IsTold j l is) = is

  query_comes : Comes QueryNext QueryE IsAsked d false (Some (left_at (start d) query_told))
  query_comes free new left =
      iff_both
      (silent_iff QueryNext QueryE IsAsked IsAnswered d (record { there = λ f. Answers (keeps d f); alone = λ f p u next. query_at IsAsked (keeps d f) p u next; goes = λ f r ends. query_end IsAsked (keeps d f) r ends }) false free new left)
      (end_comes QueryNext QueryE IsAnswered d false (left_at (start d) query_told) refl refl
      (record { there = λ f. IsTold (keeps d f) query_told refl; alone = λ f x ends. query_end IsAnswered (keeps d f) x ends; stays = λ f p u next. query_at IsAnswered (keeps d f) p u next }) free new left)

pub query_leaves : (t : TargetPlan) (from : ActorId) (a : AttemptId) (ask : Option AttemptId) (s : TargetState) (l : Left) → l ≡ left_at (start s.durable) (query_told t s.memory from a ask s.durable) → HearsAs t from (message.Query a ask) s (Some l)
query_leaves t from a ask s l is reading new left =
    subst (λ x. Iff (Whole QueryNext (QueryEnds t s.memory from a ask) IsAsked (keeps s.durable s.free) new left) (IsLeftIf (Some x) s.free new left)) (sym is)
    (comes_whole QueryNext (QueryEnds t s.memory from a ask) IsAsked s.durable (Some (left_at (start s.durable) (query_told t s.memory from a ask s.durable))) s.free new left (query_comes t s.memory from a ask s.durable))

-- ---- idle work

module _ (settling : Bool) (t : TargetPlan) (m : TargetMemory) where
  abbrev IdleE : List AttemptId → Kept → TargetMemory × Did → Type 0
  IdleE = IdleEnds settling t m

  abbrev pub idle_left : Durable → TargetMemory × Did
  idle_left d = (idle_memory settling t m d, idle_told settling t m d)

  abbrev IdleAt : List AttemptId → Option Change → List AttemptId → Type 0
  IdleAt [] o u = ⊥
  IdleAt (a ∷ rest) o u = (o ≡ Some (Settles a Commit)) × (u ≡ rest)

  idle_at : (s : List AttemptId) (k : Kept) (o : Option Change) (u : List AttemptId) → IdleNext s k o u → IdleAt s o u
  idle_at s k o u (SettlesFirst j a rest) = (refl, refl)

  abbrev IdleEnd : List AttemptId → Kept → TargetMemory × Did → Type 0
  IdleEnd [] k left = left ≡ idle_left k.durable
  IdleEnd (a ∷ rest) k left = ⊥

  idle_end : (s : List AttemptId) (k : Kept) (left : TargetMemory × Did) → IdleE s k left → IdleEnd s k left
  idle_end s k left (AllSettled j l is) = is

  idle_comes : (xs : List AttemptId) (k : Covered) → Comes IdleNext IdleE xs k.durable k.changed (Some (left_at (all_settled xs k) (idle_left (all_settled xs k).durable)))
  idle_comes [] k = end_comes IdleNext IdleE [] k.durable k.changed (left_at k (idle_left k.durable)) refl refl (record {
    there = λ free. AllSettled (keeps k.durable free) (idle_left k.durable) refl;
    alone = λ free x ends. idle_end [] (keeps k.durable free) x ends;
    stays = λ free p u next. idle_at [] (keeps k.durable free) p u next;
  })
  idle_comes (a ∷ rest) k = λ free new left.
      iff_both
      (change_iff IdleNext IdleE (a ∷ rest) rest k.durable (Settles a Commit) refl
      (record { there = λ f. SettlesFirst (keeps k.durable f) a rest; alone = λ f p u next. idle_at (a ∷ rest) (keeps k.durable f) p u next; goes = λ f r ends. idle_end (a ∷ rest) (keeps k.durable f) r ends })
      k.changed free new left)
      (idle_comes rest (changed_to (settled a Commit k.durable)) free new left)

pub idle_leaves : (settling : Bool) (t : TargetPlan) (s : TargetState) (l : Left)
    → l ≡ left_at (all_settled s.memory.leader.decided (start s.durable)) (idle_left settling t s.memory (all_settled s.memory.leader.decided (start s.durable)).durable) → IdlesAs settling t s (Some l)
idle_leaves settling t s l is new left =
    subst (λ x. Iff (Whole IdleNext (IdleEnds settling t s.memory) s.memory.leader.decided (keeps s.durable s.free) new left) (IsLeftIf (Some x) s.free new left)) (sym is)
    (comes_whole IdleNext (IdleEnds settling t s.memory) s.memory.leader.decided s.durable (Some (left_at (all_settled s.memory.leader.decided (start s.durable)) (idle_left settling t s.memory (all_settled s.memory.leader.decided (start s.durable)).durable))) s.free new left (idle_comes settling t s.memory s.memory.leader.decided (start s.durable)))

-- ---- as the code says it

pub mark_found : (t : TargetPlan) (from : ActorId) (inc : ℕ) (marks : List (AttemptId × Bool)) (s : TargetState) (k0 k : Covered) (m0 m : TargetMemory) (ids : List AttemptId) (did : Did) → k0 ≡ start s.durable → k ≡ all_marked marks k0 → ids ≡ attempts_of marks
    → m0 ≡ s.memory → m ≡ told_of_all ids m0 → did ≡ says from (message.Marked inc ids) None → HearsAs t from (message.Mark inc marks) s (Some (left_parts k.durable k.changed m did))
mark_found t from inc marks s k0 k m0 m ids did begins is named at tells answers =
    let here : k ≡ all_marked marks (start s.durable) = is ∙ ap (all_marked marks) begins in
    let knows : m ≡ told_of_all (attempts_of marks) s.memory = tells ∙ ap (told_of_all ids) at ∙ ap (λ x. told_of_all x s.memory) named in
    mark_leaves t from inc marks s (left_parts k.durable k.changed m did)
    (left_same k.durable _ k.changed _ m _ did _ (ap (λ x. x.durable) here) (ap (λ x. x.changed) here) knows (answers ∙ ap (λ x. says from (message.Marked inc x) None) named))

pub marked_found : (t : TargetPlan) (from : ActorId) (inc : ℕ) (ids : List AttemptId) (s : TargetState) (member : ℕ) (k0 k : Covered) (m : TargetMemory) (did : Did) → member ≡ from.number → k0 ≡ start s.durable → k ≡ all_confirmed t member (ack.to_confirm inc ids k0.durable) k0
    → m ≡ answered_memory member inc ids s.memory → did ≡ nothing_follows → HearsAs t from (message.Marked inc ids) s (Some (left_parts k.durable k.changed m did))
marked_found t from inc ids s member k0 k m did same begins is at nothing =
    let here : k ≡ all_confirmed t from.number (ack.to_confirm inc ids s.durable) (start s.durable) =
    is ∙ ap (λ x. all_confirmed t member (ack.to_confirm inc ids x.durable) x) begins ∙ ap (λ n. all_confirmed t n (ack.to_confirm inc ids s.durable) (start s.durable)) same in
    marked_leaves t from inc ids s (left_parts k.durable k.changed m did)
    (left_same k.durable _ k.changed _ m _ did _ (ap (λ x. x.durable) here) (ap (λ x. x.changed) here) (at ∙ ap (λ n. answered_memory n inc ids s.memory) same) nothing)

pub query_found : (t : TargetPlan) (from : ActorId) (a : AttemptId) (ask : Option AttemptId) (s : TargetState) (k : Covered) (m : TargetMemory) (answer : Message) (did : Did) → k ≡ start s.durable → m ≡ s.memory → answer ≡ verdict_message t s.memory a ask s.durable
    → did ≡ says from answer None → HearsAs t from (message.Query a ask) s (Some (left_parts k.durable k.changed m did))
query_found t from a ask s k m answer did begins at is says_it =
    query_leaves t from a ask s (left_parts k.durable k.changed m did)
    (left_same k.durable _ k.changed _ m _ did _ (ap (λ x. x.durable) begins) (ap (λ x. x.changed) begins) at (says_it ∙ ap (λ x. says from x None) is))

-- what a member asks depends on nothing that it knows as a leader
asks_same : (settling : Bool) (t : TargetPlan) (m : TargetMemory) (d : Durable)
    → ◌≡◌ {A = TargetMemory × List Post} (joins_on (inquiry_of settling t (leads (batch_of t m d) m).0 d).member (leads (batch_of t m d) m).0, (inquiry_of settling t (leads (batch_of t m d) m).0 d).freed.posts) (idle_memory settling t m d, (inquiry_of settling t m d).freed.posts)
asks_same true t m d = refl
asks_same false t m d = refl

pub idle_found : (settling : Bool) (t : TargetPlan) (s : TargetState) (xs : List AttemptId) (k0 k : Covered) (m0 : TargetMemory) (b : TargetMemory × List Post) (i : TargetMemory × List Post) (posts : List Post) (did : Did) → xs ≡ s.memory.leader.decided → k0 ≡ start s.durable → k ≡ all_settled xs k0
    → m0 ≡ s.memory → b ≡ leads (batch_of t m0 k.durable) m0 → i ≡ (joins_on (inquiry_of settling t b.0 k.durable).member b.0, (inquiry_of settling t b.0 k.durable).freed.posts) → posts ≡ b.1 ++ i.1 → did ≡ sends posts None
    → IdlesAs settling t s (Some (left_parts k.durable k.changed i.0 did))
idle_found settling t s xs k0 k m0 b i posts did own begins is at batched asked all says_it =
    idle_leaves settling t s (left_parts k.durable k.changed i.0 did) (left_same k.durable _ k.changed _ i.0 _ did _ (ap (λ x. x.durable) here) (ap (λ x. x.changed) here) memory follows)
  where
    here : k ≡ all_settled s.memory.leader.decided (start s.durable)
    here = is ∙ ap (λ x. all_settled x k0) own ∙ ap (all_settled s.memory.leader.decided) begins

    leads_so : b ≡ leads (batch_of t s.memory (all_settled s.memory.leader.decided (start s.durable)).durable) s.memory
    leads_so = batched ∙ ap (λ x. leads (batch_of t x k.durable) x) at ∙ ap (λ x. leads (batch_of t s.memory x.durable) s.memory) here

    joins_so : i ≡ (idle_memory settling t s.memory (all_settled s.memory.leader.decided (start s.durable)).durable, (inquiry_of settling t s.memory (all_settled s.memory.leader.decided (start s.durable)).durable).freed.posts)
    joins_so =
        asked ∙ ap (λ x. (joins_on (inquiry_of settling t x.0 k.durable).member x.0, (inquiry_of settling t x.0 k.durable).freed.posts)) leads_so
        ∙ ap (λ x. (
          joins_on (inquiry_of settling t (leads (batch_of t s.memory (all_settled s.memory.leader.decided (start s.durable)).durable) s.memory).0 x.durable).member (leads (batch_of t s.memory (all_settled s.memory.leader.decided (start s.durable)).durable) s.memory).0,
          (inquiry_of settling t (leads (batch_of t s.memory (all_settled s.memory.leader.decided (start s.durable)).durable) s.memory).0 x.durable).freed.posts,
        )) here
        ∙ asks_same settling t s.memory (all_settled s.memory.leader.decided (start s.durable)).durable

    memory : i.0 ≡ idle_memory settling t s.memory (all_settled s.memory.leader.decided (start s.durable)).durable
    memory = ap (λ x. x.0) joins_so

    follows : did ≡ idle_told settling t s.memory (all_settled s.memory.leader.decided (start s.durable)).durable
    follows = says_it ∙ ap (λ x. sends x None) (all ∙ ap (λ x. x.1 ++ i.1) leads_so ∙ ap (λ x. (batch_of t s.memory (all_settled s.memory.leader.decided (start s.durable)).durable).posts ++ x.1) joins_so)
