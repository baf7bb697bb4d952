-- A turn begins with the epoch of its request, which is its own or one that some reading of the clock leads to.
use Rattle.std.proofs.Common.{ℕ, ◌≡◌, sym, ◌∙◌, ap, subst, List, Bool, false, Option, Some, None, inl, inr}
use Rattle.std.specs.Bool.{Decides}
use Rattle.base_types.specs.declared.epoch.Epoch.{Epoch}
use Rattle.base_types.specs.declared.id.AttemptId.{AttemptId}
use Rattle.world_base.specs.declared.did.Did.{Did}
use Rattle.world_base.specs.declared.target.TargetMemory.{TargetMemory}
use Rattle.world_base.specs.Changes.{Change, Kept, Steps}
use Rattle.world_base.specs.Requests.{issued_for}
use Rattle.world_base.specs.Turns.{Here, More, Path, Whole}
use Rattle.replay_base.specs.Onward.{Onward}
use Rattle.replay_base.specs.Requested.{AsksAt, IsToldEpoch, SpentSo}
use Rattle.replay_base.proofs.Starts.{AtOnce, First, Later, at_once, first, silent_first, whole_onward}

-- what each step keeps, holds at the last stage
pub keeps_on : {S : Type 0} (Next : S → Kept → Option Change → S → Type 0) (P : S → Type 0) → ((s : S) (k : Kept) (o : Option Change) (u : S) → P s → Next s k o u → P u)
    → (s : S) (k : Kept) (did : List Change) (t : S) (l : Kept) → Path Next s k did t l → P s → P t
keeps_on Next P keeps s k did t l Here p = p
keeps_on Next P keeps s k did u m (More before t l o _ _ path next steps) p = keeps t l o u (keeps_on Next P keeps s k before t l path p) next

-- the one first step, to where the epoch is known
pub record Begins {S : Type 0} (asks : Option Epoch) (known : Epoch → S) (o : Option Change) (u : S) : Type 0 where
  pub epoch : Epoch
  pub asked : asks ≡ Some epoch
  pub silent : o ≡ None
  pub there : u ≡ known epoch

module _ {S : Type 0} (request : ℕ → Option Epoch) (Next : ℕ → S → Kept → Option Change → S → Type 0) (Ends : ℕ → S → Kept → TargetMemory × Did → Type 0) (asked : S) (known : Epoch → S)
    (x : AttemptId) (ep : Option Epoch) (spent : TargetMemory × Did)
    (own : (reading : ℕ) (e : Epoch) → ep ≡ Some e → request reading ≡ Some e)
    (next_is : (reading : ℕ) (k : Kept) (o : Option Change) (u : S) → Next reading asked k o u → Begins (request reading) known o u)
    (next : (reading : ℕ) (k : Kept) (e : Epoch) → request reading ≡ Some e → Next reading asked k None (known e))
    (ends_is : (reading : ℕ) (k : Kept) (r : TargetMemory × Did) → Ends reading asked k r → (request reading ≡ None) × (r ≡ spent))
    (ends : (reading : ℕ) (k : Kept) → request reading ≡ None → Ends reading asked k spent)
    (unissued : spent.1.issued ≡ None)
    (issues : (reading : ℕ) (e : Epoch) (k new : Kept) (r : TargetMemory × Did) → Whole (Next reading) (Ends reading) (known e) k new r → r.1.issued ≡ issued_for x ep e) where
  abbrev pub HearsSo : Kept → Kept → TargetMemory × Did → Type 0
  HearsSo k new r = (reading : ℕ) × Whole (Next reading) (Ends reading) asked k new r

  -- the epoch that a turn began with is the one that is told
  same_epoch : (e f : Epoch) (r : TargetMemory × Did) (reading : ℕ) → IsToldEpoch ep r.1.issued e → request reading ≡ Some f → r.1.issued ≡ issued_for x ep f → f ≡ e
  same_epoch e f r reading (inl is) asks issued = (let o : request reading ≡ Some e = own reading e is in cc)
  same_epoch e f r reading (inr told) asks issued =
      let here : issued_for x ep f ≡ Some (x, f) = ap (λ y. issued_for x y f) told.0 in
      let both : ◌≡◌ {A = Option (AttemptId × Epoch)} (Some (told.1.0, e)) (Some (x, f)) = sym told.1.1 ∙ issued ∙ here in
      let pair : ◌≡◌ {A = AttemptId × Epoch} (told.1.0, e) (x, f) = cc in
      sym (ap (λ p. p.1) pair)

  begun : (e : Epoch) (k new : Kept) (r : TargetMemory × Did) (reading : ℕ) → IsToldEpoch ep r.1.issued e → Whole (Next reading) (Ends reading) asked k new r
      → (request reading ≡ Some e) × Whole (Next reading) (Ends reading) (known e) k new r
  begun e k new r reading told w = by (first (Next reading) (Ends reading) asked k new r w)
    where
      goes : (o : Option Change) (u : S) (m : Kept) → Begins (request reading) known o u → Steps o k m → Whole (Next reading) (Ends reading) u m new r
          → (request reading ≡ Some e) × Whole (Next reading) (Ends reading) (known e) k new r
      goes o u m b taken rest =
          let still : m ≡ k = subst (λ y. Steps y k m) b.silent taken in
          let on : Whole (Next reading) (Ends reading) (known b.epoch) k new r = subst (λ y. Whole (Next reading) (Ends reading) (known b.epoch) y new r) still (subst (λ y. Whole (Next reading) (Ends reading) y m new r) b.there rest) in
          let same : b.epoch ≡ e = same_epoch e b.epoch r reading told b.asked (issues reading b.epoch k new r on) in
          (subst (λ y. request reading ≡ Some y) same b.asked, subst (λ y. Whole (Next reading) (Ends reading) (known y) k new r) same on)

      spends : (request reading ≡ None) × (r ≡ spent) → IsToldEpoch ep r.1.issued e → (request reading ≡ Some e) × Whole (Next reading) (Ends reading) (known e) k new r
      spends s (inl is) = (let o : request reading ≡ Some e = own reading e is in let n = s.0 in let bad : ⊥ = cc in absurd bad)
      spends s (inr t) = (let here : ◌≡◌ {A = Option (AttemptId × Epoch)} None (Some (t.1.0, e)) = sym unissued ∙ ap (λ y. y.1.issued) (sym s.1) ∙ t.1.1 in let bad : ⊥ = cc in absurd bad)

      by : First (Next reading) (Ends reading) asked k new r → (request reading ≡ Some e) × Whole (Next reading) (Ends reading) (known e) k new r
      by (AtOnce same end) = spends (ends_is reading k r end) told
      by (Later o u m step taken rest) = goes o u m (next_is reading k o u step) taken rest

  -- a turn is one from where its epoch is known, where that can be its epoch
  pub known_decides : (e : Epoch) (k new : Kept) (r : TargetMemory × Did) (test : Bool) → IsToldEpoch ep r.1.issued e → AsksAt request e
      → ((reading : ℕ) → Decides test (Onward (Next reading) (Ends reading) (known e) k.durable false k.free new r)) → Decides test (HearsSo k new r)
  known_decides e k new r test told asks at = (
    λ is. (
      asks.0,
      silent_first (Next asks.0) (Ends asks.0) asked (known e) k new r (next asks.0 k e asks.1)
          ((whole_onward (Next asks.0) (Ends asks.0) (known e) k new r).1 ((at asks.0).0 is)),
    ),
    λ w. (at w.0).1 ((whole_onward (Next w.0) (Ends w.0) (known e) k new r).0 (begun e k new r w.0 told w.1).1),
  )

  -- there is none where it can't
  pub known_not : (e : Epoch) (k new : Kept) (r : TargetMemory × Did) → IsToldEpoch ep r.1.issued e → (AsksAt request e → ⊥) → HearsSo k new r → ⊥
  known_not e k new r told asks w = asks (w.0, (begun e k new r w.0 told w.1).0)

  -- where no epoch is known or issued, no ticks were left
  spent_only : (k new : Kept) (r : TargetMemory × Did) → ep ≡ None → r.1.issued ≡ None → HearsSo k new r → ((reading : ℕ) × (request reading ≡ None)) × ((new ≡ k) × (r ≡ spent))
  spent_only k new r none unsaid w = by (first (Next w.0) (Ends w.0) asked k new r w.1)
    where
      by : First (Next w.0) (Ends w.0) asked k new r → ((reading : ℕ) × (request reading ≡ None)) × ((new ≡ k) × (r ≡ spent))
      by (AtOnce same end) = (let s = ends_is w.0 k r end in ((w.0, s.0), (same, s.1)))
      by (Later o u m step taken rest) =
          let b = next_is w.0 k o u step in
          let on : Whole (Next w.0) (Ends w.0) (known b.epoch) m new r = subst (λ y. Whole (Next w.0) (Ends w.0) y m new r) b.there rest in
          let issued : r.1.issued ≡ Some (x, b.epoch) = issues w.0 b.epoch m new r on ∙ ap (λ y. issued_for x y b.epoch) none in
          let bad : ⊥ = cc in absurd bad

  pub spent_decides : (k new : Kept) (r : TargetMemory × Did) (test : Bool) → ep ≡ None → r.1.issued ≡ None → Decides test (SpentSo request k new spent r) → Decides test (HearsSo k new r)
  spent_decides k new r test none unsaid same = (
    λ h.
        let s = same.0 h in
        let end : Whole (Next s.none.0) (Ends s.none.0) asked k k spent = at_once (Next s.none.0) (Ends s.none.0) asked k spent (ends s.none.0 k s.none.1) in
        (s.none.0, subst (λ y. Whole (Next s.none.0) (Ends s.none.0) asked k y r) (sym s.kept) (subst (Whole (Next s.none.0) (Ends s.none.0) asked k k) (sym s.rest) end)),
    λ w. (let s = spent_only k new r none unsaid w in same.1 (record { none = s.0; kept = s.1.0; rest = s.1.1 })),
  )
