-- How a turn ends in which writes are checked and stored, once the lease covers their epoch.
use Rattle.std.proofs.Common.{ℕ, ◌≡◌, ◌≤◌, ◌<◌, ◌+◌, refl, sym, ◌∙◌, ap, subst, Bool, true, false, Option, Some, None, List, arith}
use Rattle.std.specs.Prelude.{max}
use Rattle.std.specs.Bool.{Decides}
use Rattle.base_types.specs.declared.operation.MinorWrite.{MinorWrite}
use Rattle.base_types.specs.declared.outcome.Cause.{Cause}
use Rattle.base_types.specs.declared.outcome.Outcome.{Outcome}
use Rattle.base_types.specs.declared.outcome.Outcome.TheVariants as outcome
use Rattle.daos_model.specs.declared.durable.Durable.{Durable}
use Rattle.daos_model.specs.Blocks.{blocks}
use Rattle.daos_model.specs.Changes.{prepared}
use Rattle.world_base.specs.declared.did.Did.{Did}
use Rattle.world_base.specs.declared.target.TargetMemory.{TargetMemory}
use Rattle.world_base.specs.declared.target.TargetPlan.{TargetPlan}
use Rattle.world_base.specs.declared.target.TargetState.{TargetState}
use Rattle.world_base.specs.Changes.{Change, Kept, Prepares, Steps}
use Rattle.world_base.specs.Commits.{IsAllowed, IsRefusedBy}
use Rattle.world_base.specs.Requests.{with_ticks}
use Rattle.world_base.specs.Turns.{Whole}
use Rattle.replay_base.specs.Onward.{FreeAfter, Onward, keeps}
use Rattle.replay_base.specs.declared.leases.Covered.{Covered}
use Rattle.replay_base.proofs.Starts.{AtOnce, First, Later, at_once, change_first, durable_is, first}
use Rattle.replay_writes.specs.Ways.{EndsAs, StoresFree, StoresSo, is_stored, outcome_of, refusal_told}
use Rattle.replay_writes.specs.declared.ways.Storing.{Storing}
use Rattle.replay_writes.specs.declared.ways.Tells.{Tells}
use Rattle.replay_writes.specs.declared.ways.Tells.TheVariants as tells

-- ---- free blocks

free_stored : (changed : Bool) (need before mid after : ℕ) → FreeAfter changed before mid → need ≤ mid → mid ≤ after + need → StoresFree changed need before after
free_stored true need before mid after may space taken = omega (arith, may, taken)
free_stored false need before mid after may space taken = (subst (λ n. need ≤ n) may space, subst (λ n. n ≤ after + need) may taken)

stored_free : (changed : Bool) (need before after : ℕ) → StoresFree changed need before after → (mid : ℕ) × (FreeAfter changed before mid × ((need ≤ mid) × (mid ≤ after + need)))
stored_free true need before after le = (max before need, (omega arith, (omega arith, omega (arith, le))))
stored_free false need before after le = (before, (refl, (le.0, le.1)))

-- ---- what is told

told_refusal : (x : Tells) (how : Outcome) → outcome_of (refusal_told x how).posts ≡ Some how
told_refusal (tells.Client to a e issued) how = refl
told_refusal (tells.Leader leader a inc) how = refl

-- ---- the ways

module _ {S : Type 0} (Next : S → Kept → Option Change → S → Type 0) (Ends : S → Kept → TargetMemory × Did → Type 0) (checking stored : S) (t : TargetPlan) (x : Storing) (ws : List MinorWrite) (s : TargetState) (done : Durable → TargetMemory × Did) where
  abbrev pub Allowed : Durable → Type 0
  Allowed d = IsAllowed t s.opening x.first x.entry.epoch d s.memory.stamps ws

  abbrev pub Refused : Durable → Cause → Type 0
  Refused d c = IsRefusedBy t s.opening x.first x.entry.epoch d s.memory.stamps ws c

  abbrev pub refused : Cause → TargetMemory × Did
  refused c = (with_ticks x.entry.epoch s.memory, refusal_told x.tells (outcome.Restart c))

  abbrev pub spaceless : ℕ → TargetMemory × Did
  spaceless free = (with_ticks x.entry.epoch s.memory, refusal_told x.tells (outcome.NoSpace t.me (blocks ws) free))

  pub record StoresAll (k : Kept) (o : Option Change) (u : S) : Type 0 where
    pub allowed : Allowed k.durable
    pub space : blocks ws ≤ k.free
    pub change : o ≡ Some (Prepares x.entry ws)
    pub there : u ≡ stored

  pub data Turned (k : Kept) (left : TargetMemory × Did) : Type 0 where
    ByRefusal : (c : Cause) → Refused k.durable c → left ≡ refused c → Turned k left
    ForSpace : Allowed k.durable → k.free < blocks ws → left ≡ spaceless k.free → Turned k left

  -- what the stages are
  pub record Stages : Type 0 where
    pub next_is : (k : Kept) (o : Option Change) (u : S) → Next checking k o u → StoresAll k o u
    pub next : (k : Kept) → Allowed k.durable → blocks ws ≤ k.free → Next checking k (Some (Prepares x.entry ws)) stored
    pub ends_is : (k : Kept) (left : TargetMemory × Did) → Ends checking k left → Turned k left
    pub refuses : (k : Kept) (c : Cause) → Refused k.durable c → Ends checking k (refused c)
    pub lacks : (k : Kept) → Allowed k.durable → k.free < blocks ws → Ends checking k (spaceless k.free)
    pub stays : (k : Kept) (o : Option Change) (u : S) → Next stored k o u → ⊥
    pub end_is : (k : Kept) (left : TargetMemory × Did) → Ends stored k left → left ≡ done k.durable
    pub end : (k : Kept) → Ends stored k (done k.durable)

  module _ (G : Stages) where
    -- a turn from here on, by the way in which it ends
    data Way (d : Durable) (changed : Bool) (free : ℕ) (new : Kept) (left : TargetMemory × Did) : Type 0 where
      ByCause : (c : Cause) → Refused d c → new.durable ≡ d → FreeAfter changed free new.free → left ≡ refused c → Way d changed free new left
      BySpace : Allowed d → new.durable ≡ d → FreeAfter changed free new.free → new.free < blocks ws → left ≡ spaceless new.free → Way d changed free new left
      ByStoring : Allowed d → new.durable ≡ prepared x.entry ws d → StoresFree changed (blocks ws) free new.free → left ≡ done (prepared x.entry ws d) → Way d changed free new left

    -- behind the storing nothing but the end is left
    stored_end : (k new : Kept) (left : TargetMemory × Did) → Whole Next Ends stored k new left → (new ≡ k) × (left ≡ done k.durable)
    stored_end k new left w = by (first Next Ends stored k new left w)
      where
        by : First Next Ends stored k new left → (new ≡ k) × (left ≡ done k.durable)
        by (AtOnce same ends) = (same, G.end_is k left ends)
        by (Later o u n next taken rest) = absurd (G.stays k o u next)

    way_of : (d : Durable) (changed : Bool) (free : ℕ) (new : Kept) (left : TargetMemory × Did) → Onward Next Ends checking d changed free new left → Way d changed free new left
    way_of d changed free new left w = by (first Next Ends checking (keeps d w.blocks) new left w.turn)
      where
        turns : new ≡ keeps d w.blocks → Turned (keeps d w.blocks) left → Way d changed free new left
        turns same (ByRefusal c why is) = ByCause c why (ap (λ k. k.durable) same) (subst (FreeAfter changed free) (sym (ap (λ k. k.free) same)) w.may) is
        turns same (ForSpace allowed lacks is) =
            BySpace allowed (ap (λ k. k.durable) same) (subst (FreeAfter changed free) (sym (ap (λ k. k.free) same)) w.may) (subst (λ n. n < blocks ws) (sym (ap (λ k. k.free) same)) lacks)
            (is ∙ ap spaceless (sym (ap (λ k. k.free) same)))

        stores : (o : Option Change) (u : S) (n : Kept) → StoresAll (keeps d w.blocks) o u → Steps o (keeps d w.blocks) n → Whole Next Ends u n new left → Way d changed free new left
        stores o u n z taken rest =
            let made = subst (λ y. Steps y (keeps d w.blocks) n) z.change taken in
            let end = stored_end n new left (subst (λ y. Whole Next Ends y n new left) z.there rest) in
            let durable : new.durable ≡ prepared x.entry ws d = ap (λ k. k.durable) end.0 ∙ made.0 in
            let free_is : n.free ≡ new.free = sym (ap (λ k. k.free) end.0) in
            let more : w.blocks ≤ new.free + blocks ws = subst (λ y. w.blocks ≤ y + blocks ws) free_is made.1 in
            ByStoring z.allowed durable (free_stored changed (blocks ws) free w.blocks new.free w.may z.space more) (end.1 ∙ ap done made.0)

        by : First Next Ends checking (keeps d w.blocks) new left → Way d changed free new left
        by (AtOnce same ends) = turns same (G.ends_is (keeps d w.blocks) left ends)
        by (Later o u n next taken rest) = stores o u n (G.next_is (keeps d w.blocks) o u next) taken rest

    ended_at : (d : Durable) (changed : Bool) (free : ℕ) (new : Kept) (left left' : TargetMemory × Did) → new.durable ≡ d → FreeAfter changed free new.free → left ≡ left' → Ends checking (keeps d new.free) left'
        → Onward Next Ends checking d changed free new left
    ended_at d changed free new left left' durable may is ends = record {
      blocks = new.free;
      may = may;
      turn = subst (λ y. Whole Next Ends checking (keeps d new.free) y left) (sym (durable_is new d durable))
          (subst (Whole Next Ends checking (keeps d new.free) (keeps d new.free)) (sym is) (at_once Next Ends checking (keeps d new.free) left' ends));
    }

    of_way : (d : Durable) (changed : Bool) (free : ℕ) (new : Kept) (left : TargetMemory × Did) → Way d changed free new left → Onward Next Ends checking d changed free new left
    of_way d changed free new left (ByCause c why durable may is) = ended_at d changed free new left (refused c) durable may is (G.refuses (keeps d new.free) c why)
    of_way d changed free new left (BySpace allowed durable may lacks is) = ended_at d changed free new left (spaceless new.free) durable may is (G.lacks (keeps d new.free) allowed lacks)
    of_way d changed free new left (ByStoring allowed durable may is) =
        let mid = stored_free changed (blocks ws) free new.free may in
        let end : Whole Next Ends stored new new (done new.durable) = at_once Next Ends stored new (done new.durable) (G.end new) in
        record {
          blocks = mid.0;
          may = mid.1.0;
          turn = change_first Next Ends checking stored (keeps d mid.0) new new left (Prepares x.entry ws) (G.next (keeps d mid.0) allowed mid.1.1.0) durable mid.1.1.1
              (subst (Whole Next Ends stored new new) (ap done durable ∙ sym is) end);
        }

    -- ---- by the outcome that is told

    module _ (start : Covered) (new : TargetState) (did : Did) (plain : is_stored (outcome_of (done (prepared x.entry ws start.durable)).1.posts) ≡ true) where
      abbrev Turn : Type 0
      Turn = Way start.durable start.changed s.free (keeps new.durable new.free) (new.memory, did)

      abbrev As : Option Outcome → Type 0
      As how = EndsAs t x ws (done (prepared x.entry ws start.durable)) start s new did how

      stored_as : (how : Option Outcome) → is_stored how ≡ true → StoresSo t x ws (done (prepared x.entry ws start.durable)) start s new did → As how
      stored_as None is so = so
      stored_as (Some outcome.Committed) is so = so
      stored_as (Some (outcome.CondFailed op)) is so = so
      stored_as (Some (outcome.Restart c)) is so = let bad : ⊥ = cc in absurd bad
      stored_as (Some (outcome.NoSpace target need free)) is so = let bad : ⊥ = cc in absurd bad
      stored_as (Some outcome.EpochsSpent) is so = so
      stored_as (Some outcome.NoSnapshot) is so = so
      stored_as (Some (outcome.Unknown target)) is so = so

      told : (how : Outcome) → did ≡ refusal_told x.tells how → outcome_of did.posts ≡ Some how
      told how is = ap (λ y. outcome_of y.posts) is ∙ told_refusal x.tells how

      as_told : Turn → As (outcome_of did.posts)
      as_told (ByCause c why durable may is) = subst As (sym (told (outcome.Restart c) (ap (λ y. y.1) is))) (record { refused = why; durable = durable; free = may; left = is })
      as_told (BySpace allowed durable may lacks is) =
          subst As (sym (told (outcome.NoSpace t.me (blocks ws) new.free) (ap (λ y. y.1) is))) (record { allowed = allowed; durable = durable; free = may; lacks = lacks; left = is })
      as_told (ByStoring allowed durable may is) =
          stored_as (outcome_of did.posts) (ap (λ y. is_stored (outcome_of y.1.posts)) is ∙ plain) (record { allowed = allowed; durable = durable; free = may; left = is })

      of_stored : StoresSo t x ws (done (prepared x.entry ws start.durable)) start s new did → Turn
      of_stored h = ByStoring h.allowed h.durable h.free h.left

      of_told : (how : Option Outcome) → As how → Turn
      of_told None h = of_stored h
      of_told (Some outcome.Committed) h = of_stored h
      of_told (Some (outcome.CondFailed op)) h = of_stored h
      of_told (Some (outcome.Restart c)) h = ByCause c h.refused h.durable h.free h.left
      of_told (Some (outcome.NoSpace target need free)) h = BySpace h.allowed h.durable h.free h.lacks h.left
      of_told (Some outcome.EpochsSpent) h = of_stored h
      of_told (Some outcome.NoSnapshot) h = of_stored h
      of_told (Some (outcome.Unknown target)) h = of_stored h

      pub told_decides : (test : Bool) → Decides test (As (outcome_of did.posts)) → Decides test (Onward Next Ends checking start.durable start.changed s.free (keeps new.durable new.free) (new.memory, did))
      told_decides test same = (
        λ h. of_way start.durable start.changed s.free (keeps new.durable new.free) (new.memory, did) (of_told (outcome_of did.posts) (same.0 h)),
        λ o. same.1 (as_told (way_of start.durable start.changed s.free (keeps new.durable new.free) (new.memory, did) o)),
      )
