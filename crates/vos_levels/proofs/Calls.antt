-- One call after another.
use Rattle.std.proofs.Common.{ℕ, Bool, arith, inl, inr}
use Rattle.std.specs.Prelude.{IfOk, OnOk, Result, Ok, Err}
use Rattle.pmem_tree.specs.pmem_tree_base.Calls.{Goes}

pub goes_same : {S : Type 0} (stopped : S → Bool) (faults burns : S → ℕ) (a : S) → Goes stopped faults burns a a
goes_same stopped faults burns a = record { later_faults = omega arith; later_burns = omega arith; once = λ h. h; cause = λ h. inl h }

pub goes_then : {S : Type 0} (stopped : S → Bool) (faults burns : S → ℕ) (a b c : S) → Goes stopped faults burns a b → Goes stopped faults burns b c → Goes stopped faults burns a c
goes_then stopped faults burns a b c x y = record {
  later_faults = omega (arith, x.later_faults, y.later_faults);
  later_burns = omega (arith, x.later_burns, y.later_burns);
  once = λ h. y.once (x.once h);
  cause = λ h. elim (y.cause h) [
    | inl before ↦ elim (x.cause before) [
      | inl first ↦ inl first
      | inr rose ↦ inr (elim rose [ inl f ↦ inl (omega (arith, f, y.later_faults)) | inr f ↦ inr (omega (arith, f, y.later_burns)) ])
    ]
    | inr rose ↦ inr (elim rose [ inl f ↦ inl (omega (arith, f, x.later_faults)) | inr f ↦ inr (omega (arith, f, x.later_burns)) ])
  ];
}

-- what holds at Ok, and what follows from it
pub on_ok_then : {T E P Q : Type 0} (r : Result T E) → (P → Q) → OnOk r P → OnOk r Q
on_ok_then (Ok x) f h = f h
on_ok_then (Err e) f h = h

pub if_ok_then : {T E : Type 0} {P Q : T → Type 0} (r : Result T E) → ((x : T) → P x → Q x) → IfOk r P → IfOk r Q
if_ok_then (Ok x) f h = f x h
if_ok_then (Err e) f h = h
