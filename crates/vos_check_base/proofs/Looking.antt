-- Reads after one another.
use Rattle.std.proofs.Common.{◌≡◌, ℕ, ◌≤◌, ◌||◌, Bool, true, false, refl, sym, ap, ◌∙◌, arith, inl, inr}
use Rattle.base_outside.specs.Causes.{Rose}
use Rattle.vos_check_base.specs.Health.{Fares, Health, IsRead}

same_or : (b : Bool) → (b || false) ≡ b
same_or true = refl
same_or false = refl

rose_before : (a b c : ℕ) → a ≤ b → Rose b c → Rose a c
rose_before a b c h r = omega arith

rose_after : (a b c : ℕ) → Rose a b → b ≤ c → Rose a c
rose_after a b c r h = omega arith

fares_none : (a : Health) → Fares a a false
fares_none a = record { later_faults = omega arith; later_burns = omega arith; stopped = sym (same_or a.stopped); cause = λ h. absurd (let no : ⊥ = cc in no) }

fares_then : (a b c : Health) (t : Bool) → Fares a b false → Fares b c t → Fares a c t
fares_then a b c t p q =
    let same = p.stopped ∙ same_or a.stopped in
    record {
      later_faults = omega (arith, p.later_faults, q.later_faults);
      later_burns = omega (arith, p.later_burns, q.later_burns);
      stopped = q.stopped ∙ ap (λ z. z || t) same;
      cause = λ h. elim (q.cause h) [
        | inl was ↦ inl (sym same ∙ was)
        | inr (inl r) ↦ inr (inl (rose_before _ _ _ p.later_faults r))
        | inr (inr r) ↦ inr (inr (rose_before _ _ _ p.later_burns r))
      ];
    }

-- no read
pub read_none : {S : Type 0} (h : S → Health) (l : S → S → Type 0) → ((s : S) → l s s) → (a : S) → IsRead h l a a false
read_none h l none a = record { fares = fares_none (h a); looks = none a }

-- one call of reads after another
pub read_then : {S : Type 0} (h : S → Health) (l : S → S → Type 0) → ((s t u : S) → l s t → l t u → l s u) → (a b c : S) (t : Bool) → IsRead h l a b false → IsRead h l b c t → IsRead h l a c t
read_then h l on a b c t p q = record { fares = fares_then (h a) (h b) (h c) t p.fares q.fares; looks = on a b c p.looks q.looks }
