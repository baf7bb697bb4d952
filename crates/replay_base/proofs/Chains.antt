-- A turn step by step, where from each stage there is one step alone, or one end.
use Rattle.std.proofs.Common.{ℕ, ◌≡◌, ◌≤◌, ◌+◌, refl, sym, ◌∙◌, ap, subst, Bool, true, false, Option, Some, None, arith}
use Rattle.std.specs.Bool.{Decides}
use Rattle.daos_model.specs.declared.durable.Durable.{Durable}
use Rattle.world_base.specs.declared.did.Did.{Did}
use Rattle.world_base.specs.declared.target.TargetMemory.{TargetMemory}
use Rattle.world_base.specs.Changes.{Change, Kept, Steps, cost, made}
use Rattle.world_base.specs.Turns.{Whole}
use Rattle.replay_base.specs.declared.told.Left.{Left}
use Rattle.replay_base.specs.Leaving.{Comes, IsLeftIf}
use Rattle.replay_base.specs.Onward.{FreeAfter, Iff, Onward, keeps}
use Rattle.replay_base.proofs.Starts.{AtOnce, First, Later, at_once, change_first, durable_is, first, free_least, free_more, iff_both, silent_first, whole_onward}

pub decides_on : {P Q : Type 0} (test : Bool) → Iff P Q → Decides test Q → Decides test P
decides_on test iff same = (λ h. iff.1 (same.0 h), λ p. same.1 (iff.0 p))

module _ {S : Type 0} (Next : S → Kept → Option Change → S → Type 0) (Ends : S → Kept → TargetMemory × Did → Type 0) where
  -- from a stage, with this kept, there is one step alone, and no end
  pub record OneStep (s : S) (d : Durable) (o : Option Change) (t : S) : Type 0 where
    pub there : (free : ℕ) → Next s (keeps d free) o t
    pub alone : (free : ℕ) (p : Option Change) (u : S) → Next s (keeps d free) p u → (p ≡ o) × (u ≡ t)
    pub goes : (free : ℕ) (r : TargetMemory × Did) → Ends s (keeps d free) r → ⊥

  -- or one end, and no step
  pub record OneEnd (s : S) (d : Durable) (r : TargetMemory × Did) : Type 0 where
    pub there : (free : ℕ) → Ends s (keeps d free) r
    pub alone : (free : ℕ) (x : TargetMemory × Did) → Ends s (keeps d free) x → x ≡ r
    pub stays : (free : ℕ) (p : Option Change) (u : S) → Next s (keeps d free) p u → ⊥

  -- or neither
  pub record NoWay (s : S) (d : Durable) : Type 0 where
    pub stays : (free : ℕ) (p : Option Change) (u : S) → Next s (keeps d free) p u → ⊥
    pub goes : (free : ℕ) (r : TargetMemory × Did) → Ends s (keeps d free) r → ⊥

  abbrev On : S → Durable → Bool → ℕ → Kept → TargetMemory × Did → Type 0
  On s d changed free new left = Onward Next Ends s d changed free new left

  -- ---- a silent step

  silent_on : (s t : S) (d : Durable) → OneStep s d None t → (changed : Bool) (free : ℕ) (new : Kept) (left : TargetMemory × Did) → On s d changed free new left → On t d changed free new left
  silent_on s t d one changed free new left w = by (first Next Ends s (keeps d w.blocks) new left w.turn)
    where
      by : First Next Ends s (keeps d w.blocks) new left → On t d changed free new left
      by (AtOnce same ends) = absurd (one.goes w.blocks left ends)
      by (Later p u m next taken rest) =
          let a = one.alone w.blocks p u next in
          let still : m ≡ keeps d w.blocks = subst (λ x. Steps x (keeps d w.blocks) m) a.0 taken in
          record { blocks = w.blocks; may = w.may; turn = subst (λ x. Whole Next Ends t x new left) still (subst (λ x. Whole Next Ends x m new left) a.1 rest) }

  pub silent_iff : (s t : S) (d : Durable) → OneStep s d None t → (changed : Bool) (free : ℕ) (new : Kept) (left : TargetMemory × Did) → Iff (On s d changed free new left) (On t d changed free new left)
  silent_iff s t d one changed free new left = (
    silent_on s t d one changed free new left,
    λ w. record { blocks = w.blocks; may = w.may; turn = silent_first Next Ends s t (keeps d w.blocks) new left (one.there w.blocks) w.turn },
  )

  -- ---- a change that takes no free blocks

  changed_on : (s t : S) (d : Durable) (c : Change) → cost c ≡ 0 → OneStep s d (Some c) t → (changed : Bool) (free : ℕ) (new : Kept) (left : TargetMemory × Did) → On s d changed free new left → On t (made c d) true free new left
  changed_on s t d c nothing one changed free new left w = by (first Next Ends s (keeps d w.blocks) new left w.turn)
    where
      goes : (m : Kept) → m.durable ≡ made c d → w.blocks ≤ m.free + cost c → Whole Next Ends t m new left → On t (made c d) true free new left
      goes m durable more rest =
          let more' : w.blocks ≤ m.free = omega (arith, more, nothing) in
          record { blocks = m.free; may = free_more changed free w.blocks m.free w.may more'; turn = subst (λ x. Whole Next Ends t x new left) (durable_is m (made c d) durable) rest }

      by : First Next Ends s (keeps d w.blocks) new left → On t (made c d) true free new left
      by (AtOnce same ends) = absurd (one.goes w.blocks left ends)
      by (Later p u m next taken rest) =
          let a = one.alone w.blocks p u next in
          let made_so = subst (λ x. Steps x (keeps d w.blocks) m) a.0 taken in
          goes m made_so.0 made_so.1 (subst (λ x. Whole Next Ends x m new left) a.1 rest)

  pub change_iff : (s t : S) (d : Durable) (c : Change) → cost c ≡ 0 → OneStep s d (Some c) t → (changed : Bool) (free : ℕ) (new : Kept) (left : TargetMemory × Did) → Iff (On s d changed free new left) (On t (made c d) true free new left)
  change_iff s t d c nothing one changed free new left = (
    changed_on s t d c nothing one changed free new left,
    λ w.
        let least = free_least changed free w.blocks w.may in
        let fewer : least.0 ≤ w.blocks + cost c = (let l = least.1.1 in omega (arith, l)) in
        record { blocks = least.0; may = least.1.0; turn = change_first Next Ends s t (keeps d least.0) (keeps (made c d) w.blocks) new left c (one.there least.0) refl fewer w.turn },
  )

  -- ---- the end

  pub end_iff : (s : S) (d : Durable) (changed : Bool) (r : TargetMemory × Did) → OneEnd s d r → (free : ℕ) (new : Kept) (left : TargetMemory × Did)
      → Iff (On s d changed free new left) ((new.durable ≡ d) × (FreeAfter changed free new.free × (left ≡ r)))
  end_iff s d changed r one free new left = (
    λ w. by w (first Next Ends s (keeps d w.blocks) new left w.turn),
    λ so. record {
      blocks = new.free;
      may = so.1.0;
      turn = subst (λ x. Whole Next Ends s (keeps d new.free) x left) (sym (durable_is new d so.0))
          (subst (Whole Next Ends s (keeps d new.free) (keeps d new.free)) (sym so.1.1) (at_once Next Ends s (keeps d new.free) r (one.there new.free)));
    },
  )
    where
      by : (w : On s d changed free new left) → First Next Ends s (keeps d w.blocks) new left → (new.durable ≡ d) × (FreeAfter changed free new.free × (left ≡ r))
      by w (AtOnce same ends) = (ap (λ k. k.durable) same, (subst (FreeAfter changed free) (sym (ap (λ k. k.free) same)) w.may, one.alone w.blocks left ends))
      by w (Later p u m next taken rest) = absurd (one.stays w.blocks p u next)

  pub end_comes : (s : S) (d : Durable) (changed : Bool) (l : Left) → l.durable ≡ d → l.changed ≡ changed → OneEnd s d (l.memory, l.did) → Comes Next Ends s d changed (Some l)
  end_comes s d changed l kept was one free new left =
      let iff = end_iff s d changed (l.memory, l.did) one free new left in (
        λ w. (let p = iff.0 w in record { durable = p.0 ∙ sym kept; may = subst (λ b. FreeAfter b free new.free) (sym was) p.1.0; rest = p.1.1 }),
        λ p. iff.1 (p.durable ∙ kept, (subst (λ b. FreeAfter b free new.free) was p.may, p.rest)),
      )

  pub nowhere_comes : (s : S) (d : Durable) (changed : Bool) → NoWay s d → Comes Next Ends s d changed None
  nowhere_comes s d changed none free new left = (λ w. by w (first Next Ends s (keeps d w.blocks) new left w.turn), λ bad. absurd bad)
    where
      by : (w : On s d changed free new left) → First Next Ends s (keeps d w.blocks) new left → ⊥
      by w (AtOnce same ends) = none.goes w.blocks left ends
      by w (Later p u m next taken rest) = none.stays w.blocks p u next

  -- ---- a turn as a whole

  pub comes_whole : (s : S) (d : Durable) (o : Option Left) (free : ℕ) (new : Kept) (left : TargetMemory × Did) → Comes Next Ends s d false o → Iff (Whole Next Ends s (keeps d free) new left) (IsLeftIf o free new left)
  comes_whole s d o free new left comes = iff_both (whole_onward Next Ends s (keeps d free) new left) (comes free new left)
