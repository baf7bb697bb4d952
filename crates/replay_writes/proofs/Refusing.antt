-- Writes are refused for a cause, or end in one of the ways, as the code tests it.
use Rattle.std.proofs.Common.{ℕ, ◌≡◌, ◌<◌, refl, sym, ◌∙◌, ap, subst, Bool, true, false, ◌&&◌, Option, Some, None, List, nat_lt, arith}
use Rattle.std.specs.Bool.{Decides}
use Rattle.std.proofs.lemmas.Bool.Decides.{Decides-and, nat_tests}
use Rattle.base_types.specs.declared.epoch.Epoch.{Epoch}
use Rattle.base_types.specs.declared.operation.MinorWrite.{MinorWrite}
use Rattle.base_types.specs.declared.outcome.Cause.{Cause}
use Rattle.base_types.specs.declared.outcome.Cause.TheVariants.{ReadLater, WriteLater, Unresolved, Floor}
use Rattle.base_types.specs.declared.outcome.FloorWhy.{FloorWhy}
use Rattle.base_types.specs.declared.outcome.Outcome.{Outcome}
use Rattle.base_types.specs.declared.outcome.Outcome.TheVariants as outcome
use Rattle.base_types.specs.declared.shown.Shown.{Shown}
use Rattle.daos_model.specs.declared.durable.Durable.{Durable}
use Rattle.daos_model.specs.Blocks.{blocks}
use Rattle.daos_model.specs.Changes.{prepared}
use Rattle.world_base.specs.declared.did.Did.{Did}
use Rattle.world_base.specs.declared.target.TargetMemory.{TargetMemory}
use Rattle.world_base.specs.declared.target.TargetPlan.{TargetPlan}
use Rattle.world_base.specs.declared.target.TargetState.{TargetState}
use Rattle.world_base.specs.Commits.{ByFloor, ByRead, ByWrite, IsAllowed, IsRefusedBy, first_floor}
use Rattle.world_base.specs.Requests.{with_ticks}
use Rattle.replay_base.specs.Onward.{FreeAfter}
use Rattle.replay_base.specs.declared.leases.Covered.{Covered}
use Rattle.replay_writes.specs.Refused.{IsRefusedAbove}
use Rattle.replay_writes.specs.Ways.{EndsAs, LacksSpaceSo, RefusesSo, StoresFree, StoresSo, is_no_space, outcome_of, refusal_told, restart_of}
use Rattle.replay_writes.specs.declared.ways.Storing.{Storing}

module _ (t : TargetPlan) (opening : Epoch × FloorWhy) (first : Option Epoch) (e : Epoch) (d : Durable) (stamps : List Shown) (ws : List MinorWrite) where
  abbrev By : Cause → Type 0
  By c = IsRefusedBy t opening first e d stamps ws c

  floor_of_it : (f c : Cause) → first_floor t opening e d ws ≡ Some f → By c → c ≡ f
  floor_of_it f c is (ByFloor here) = cc
  floor_of_it f c is (ByRead none r shown same) = let bad : ⊥ = cc in absurd bad
  floor_of_it f c is (ByWrite none clear w later same) = let bad : ⊥ = cc in absurd bad

  pub by_floor : (o : Option Cause) (f c : Cause) (test : Bool) → o ≡ first_floor t opening e d ws → o ≡ Some f → Decides test (c ≡ f) → Decides test (By c)
  by_floor o f c test is some same =
      let here : first_floor t opening e d ws ≡ Some f = sym is ∙ some in
      (λ h. ByFloor (here ∙ ap Some (sym (same.0 h))), λ b. same.1 (floor_of_it f c here b))

  above_of : (c : Cause) → first_floor t opening e d ws ≡ None → By c → IsRefusedAbove t first e d stamps ws c
  above_of c none (ByFloor here) = let bad : ⊥ = cc in absurd bad
  above_of c none (ByRead _ r shown same) = subst (IsRefusedAbove t first e d stamps ws) (sym same) shown
  above_of c none (ByWrite _ clear w later same) = subst (IsRefusedAbove t first e d stamps ws) (sym same) (clear, later)

  of_above : (c : Cause) → first_floor t opening e d ws ≡ None → IsRefusedAbove t first e d stamps ws c → By c
  of_above (ReadLater by at path) none shown = ByRead none (record { by = by; epoch = at; path = path }) shown refl
  of_above (WriteLater by at path) none both = ByWrite none both.0 (record { by = by; epoch = at; path = path }) both.1 refl
  of_above (Unresolved by) none h = absurd h
  of_above (Floor target at why) none h = absurd h

  pub by_above : (o : Option Cause) (c : Cause) (test : Bool) → o ≡ first_floor t opening e d ws → o ≡ None → Decides test (IsRefusedAbove t first e d stamps ws c) → Decides test (By c)
  by_above o c test is none same =
      let here : first_floor t opening e d ws ≡ None = sym is ∙ none in
      (λ h. of_above c here (same.0 h), λ b. same.1 (above_of c here b))

-- ---- the ways

pub less_decides : (a b : ℕ) → Decides (nat_lt a b) (a < b)
less_decides a b = (λ h. grind (arith, nat_tests), λ h. grind (arith, nat_tests))

both_are : (P Q R : Type 0) (a b test : Bool) → test ≡ (a && b) → Decides a P → Decides b Q → (P → Q → R) → (R → P) → (R → Q) → Decides test R
both_are P Q R a b test is one two made left right =
    let two_of = Decides-and a b one two in
    (λ h. (let p = two_of.0 (sym is ∙ h) in made p.0 p.1), λ r. is ∙ two_of.1 (left r, right r))

pair_is : (m m' : TargetMemory) (a b : Did) → m ≡ m' → a ≡ b → ◌≡◌ {A = TargetMemory × Did} (m, a) (m', b)
pair_is m m' a b one two = ap (λ x. (x, a)) one ∙ ap (λ x. (m', x)) two

module _ (t : TargetPlan) (x : Storing) (ws : List MinorWrite) (start : Covered) (s new : TargetState) (did : Did) where
  abbrev Left : TargetMemory → Did → Type 0
  Left m told = (new.durable ≡ start.durable) × (FreeAfter start.changed s.free new.free × (◌≡◌ {A = TargetMemory × Did} (new.memory, did) (m, told)))

  pub refuses_decides : (c : Cause) (stamps : List Shown) (m : TargetMemory) (told : Did) (refused left test : Bool) → stamps ≡ s.memory.stamps → m ≡ with_ticks x.entry.epoch s.memory → told ≡ refusal_told x.tells (outcome.Restart c)
      → Decides refused (IsRefusedBy t s.opening x.first x.entry.epoch start.durable stamps ws c) → Decides left (Left m told) → test ≡ (refused && left) → Decides test (RefusesSo t x ws start s new did c)
  refuses_decides c stamps m told refused left test stamps_is knows says one two is =
      let same = pair_is m (with_ticks x.entry.epoch s.memory) told (refusal_told x.tells (outcome.Restart c)) knows says in
      let one' : Decides refused (IsRefusedBy t s.opening x.first x.entry.epoch start.durable s.memory.stamps ws c) = subst (λ xs. Decides refused (IsRefusedBy t s.opening x.first x.entry.epoch start.durable xs ws c)) stamps_is one in
      both_are (IsRefusedBy t s.opening x.first x.entry.epoch start.durable s.memory.stamps ws c) (Left m told) (RefusesSo t x ws start s new did c) refused left test is one' two
      (λ r l. record { refused = r; durable = l.0; free = l.1.0; left = l.1.1 ∙ same }) (λ h. h.refused) (λ h. (h.durable, (h.free, h.left ∙ sym same)))

  pub lacks_decides : (need : ℕ) (m : TargetMemory) (told : Did) (how : Outcome) (allowed lacks left two test : Bool) → need ≡ blocks ws → m ≡ with_ticks x.entry.epoch s.memory → told ≡ refusal_told x.tells how → how ≡ outcome.NoSpace t.me need new.free
      → Decides allowed (IsAllowed t s.opening x.first x.entry.epoch start.durable s.memory.stamps ws) → Decides lacks (new.free < need) → Decides left (Left m told) → two ≡ (allowed && lacks) → test ≡ (two && left) → Decides test (LacksSpaceSo t x ws start s new did)
  lacks_decides need m told how allowed lacks left two test need_is knows says how_is ok short kept both all =
      let says' : told ≡ refusal_told x.tells (outcome.NoSpace t.me (blocks ws) new.free) = says ∙ ap (refusal_told x.tells) how_is ∙ ap (λ n. refusal_told x.tells (outcome.NoSpace t.me n new.free)) need_is in
      let same = pair_is m (with_ticks x.entry.epoch s.memory) told (refusal_told x.tells (outcome.NoSpace t.me (blocks ws) new.free)) knows says' in
      let two_hold : Decides two (IsAllowed t s.opening x.first x.entry.epoch start.durable s.memory.stamps ws × (new.free < need)) = (let d = Decides-and allowed lacks ok short in (λ h. d.0 (sym both ∙ h), λ p. both ∙ d.1 p)) in
      both_are (IsAllowed t s.opening x.first x.entry.epoch start.durable s.memory.stamps ws × (new.free < need)) (Left m told) (LacksSpaceSo t x ws start s new did) two left test all two_hold kept
      (λ r l. record { allowed = r.0; durable = l.0; free = l.1.0; lacks = subst (λ n. new.free < n) need_is r.1; left = l.1.1 ∙ same })
      (λ h. (h.allowed, subst (λ n. new.free < n) (sym need_is) h.lacks)) (λ h. (h.durable, (h.free, h.left ∙ sym same)))

  pub stores_decides : (done : TargetMemory × Did) (need : ℕ) (d : Durable) (changed allowed left test : Bool) → need ≡ blocks ws → d ≡ prepared x.entry ws start.durable → changed ≡ start.changed
      → Decides allowed (IsAllowed t s.opening x.first x.entry.epoch start.durable s.memory.stamps ws)
      → Decides left ((new.durable ≡ d) × (StoresFree changed need s.free new.free × (◌≡◌ {A = TargetMemory × Did} (new.memory, did) (done.0, done.1)))) → test ≡ (allowed && left) → Decides test (StoresSo t x ws done start s new did)
  stores_decides done need d changed allowed left test need_is stored was ok kept all =
      both_are (IsAllowed t s.opening x.first x.entry.epoch start.durable s.memory.stamps ws) ((new.durable ≡ d) × (StoresFree changed need s.free new.free × (◌≡◌ {A = TargetMemory × Did} (new.memory, did) (done.0, done.1)))) (StoresSo t x ws done start s new did)
      allowed left test all ok kept
      (λ r l. record {
        allowed = r;
        durable = l.0 ∙ stored;
        free = subst (λ b. StoresFree b (blocks ws) s.free new.free) was (subst (λ n. StoresFree changed n s.free new.free) need_is l.1.0);
        left = l.1.1;
      })
      (λ h. h.allowed)
      (λ h. (h.durable ∙ sym stored, (subst (λ n. StoresFree changed n s.free new.free) (sym need_is) (subst (λ b. StoresFree b (blocks ws) s.free new.free) (sym was) h.free), h.left)))

  pub told_arm : (done : TargetMemory × Did) (o how : Option Outcome) (test : Bool) → o ≡ outcome_of did.posts → o ≡ how → Decides test (EndsAs t x ws done start s new did how) → Decides test (EndsAs t x ws done start s new did (outcome_of did.posts))
  told_arm done o how test told is same = subst (λ y. Decides test (EndsAs t x ws done start s new did y)) (sym is ∙ told) same

  abbrev As : TargetMemory × Did → Outcome → Type 0
  As done how = EndsAs t x ws done start s new did (Some how)

  pub restart_arm : (done : TargetMemory × Did) (how : Outcome) (c : Cause) (o : Option Cause) (test : Bool) → o ≡ restart_of how → o ≡ Some c → Decides test (RefusesSo t x ws start s new did c) → Decides test (As done how)
  restart_arm done how c o test is some same = by how (sym is ∙ some)
    where
      by : (how : Outcome) → restart_of how ≡ Some c → Decides test (As done how)
      by outcome.Committed e = let bad : ⊥ = cc in absurd bad
      by (outcome.CondFailed op) e = let bad : ⊥ = cc in absurd bad
      by (outcome.Restart d) e = (let its : c ≡ d = cc in subst (λ y. Decides test (RefusesSo t x ws start s new did y)) its same)
      by (outcome.NoSpace target need free) e = let bad : ⊥ = cc in absurd bad
      by outcome.EpochsSpent e = let bad : ⊥ = cc in absurd bad
      by outcome.NoSnapshot e = let bad : ⊥ = cc in absurd bad
      by (outcome.Unknown target) e = let bad : ⊥ = cc in absurd bad

  pub space_arm : (done : TargetMemory × Did) (how : Outcome) (b test : Bool) → b ≡ is_no_space how → b ≡ true → Decides test (LacksSpaceSo t x ws start s new did) → Decides test (As done how)
  space_arm done how b test is so same = by how (sym is ∙ so)
    where
      by : (how : Outcome) → is_no_space how ≡ true → Decides test (As done how)
      by outcome.Committed e = let bad : ⊥ = cc in absurd bad
      by (outcome.CondFailed op) e = let bad : ⊥ = cc in absurd bad
      by (outcome.Restart d) e = let bad : ⊥ = cc in absurd bad
      by (outcome.NoSpace target need free) e = same
      by outcome.EpochsSpent e = let bad : ⊥ = cc in absurd bad
      by outcome.NoSnapshot e = let bad : ⊥ = cc in absurd bad
      by (outcome.Unknown target) e = let bad : ⊥ = cc in absurd bad

  pub stored_arm : (done : TargetMemory × Did) (how : Outcome) (o : Option Cause) (b test : Bool) → o ≡ restart_of how → o ≡ None → b ≡ is_no_space how → b ≡ false → Decides test (StoresSo t x ws done start s new did) → Decides test (As done how)
  stored_arm done how o b test is none was other same = by how (sym is ∙ none) (sym was ∙ other)
    where
      by : (how : Outcome) → restart_of how ≡ None → is_no_space how ≡ false → Decides test (As done how)
      by outcome.Committed e f = same
      by (outcome.CondFailed op) e f = same
      by (outcome.Restart d) e f = let bad : ⊥ = cc in absurd bad
      by (outcome.NoSpace target need free) e f = let bad : ⊥ = cc in absurd bad
      by outcome.EpochsSpent e f = same
      by outcome.NoSnapshot e f = same
      by (outcome.Unknown target) e f = same
