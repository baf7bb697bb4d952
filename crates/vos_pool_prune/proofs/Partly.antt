-- Changes that may be cut, one after another.
use Rattle.std.proofs.Common.{◌≡◌, Bool, false, Option, Some, None, Result, Ok, Err, option_map, refl, sym, ap, ◌∙◌, inl, inr}
use Rattle.std.specs.Prelude.{OnOk}
use Rattle.daos_model.specs.BoolLaws.{clash}
use Rattle.daos_model.specs.declared.durable.Durable.{Durable}
use Rattle.vos_pool_settle.proofs.Removed.{some_is}
use Rattle.vos_store.specs.Calls.{Makes, MakesPartly}
use Rattle.vos_store.specs.declared.refusal.Stopped.{Stopped}
use Rattle.vos_store.specs.Refusals.{always_stop, refuses}

never_refused : (r : Result (Unit {0}) Stopped) → refuses always_stop r ≡ false
never_refused (Ok z) = refl
never_refused (Err z) = refl

-- one that is made whole or not at all
pub whole_makes : (stopped : Bool) (change : Durable → Durable) (r : Result (Unit {0}) Stopped) (old new : Option Durable) (may may' : Durable → Type 0) → Makes stopped always_stop change r old new may may' → MakesPartly stopped always_stop change (λ d x. x ≡ change d) r old new may may'
whole_makes stopped change r old new may may' m = record {
  told = m.told;
  done = m.done;
  refused = m.refused;
  left = λ x d found is. elim (m.left x found) [ inl was ↦ inl was | inr made ↦ inr (made.0, some_is x (change d) (made.1 ∙ ap (option_map change) is)) ];
}

-- one after another
module _ (stopped mid : Bool) (change step : Durable → Durable) (Cut Then Both : Durable → Durable → Type 0) (r : Result (Unit {0}) Stopped) (old now new : Option Durable) (may may' may'' : Durable → Type 0) where
  pub makes_then : MakesPartly {T = Unit {0}} stopped always_stop change Cut (Ok (tt {0})) old now may may' → MakesPartly mid always_stop step Then r now new may' may'' → mid ≡ stopped
      → ((d x : Durable) → Cut d x → Both d x) → ((d x : Durable) → Then (change d) x → Both d x) → MakesPartly stopped always_stop (λ d. step (change d)) Both r old new may may''
  makes_then m k same first later = record {
    told = k.told ∙ m.told;
    done = by r k.done;
    refused = λ bad. clash (refuses always_stop r) bad (never_refused r);
    left = λ x d found is.
        elim (k.left x (change d) found (m.done ∙ ap (option_map change) is)) [
          | inl was ↦ elim (m.left x d was is) [ inl before ↦ inl before | inr cut ↦ inr (cut.0, first d x cut.1) ]
          | inr cut ↦ inr (sym same ∙ cut.0, later d x cut.1)
        ];
  }
    where
      twice : (o : Option Durable) → option_map step (option_map change o) ≡ option_map (λ d. step (change d)) o
      twice None = refl
      twice (Some d) = refl

      by : (r : Result (Unit {0}) Stopped) → OnOk r (new ≡ option_map step now) → OnOk r (new ≡ option_map (λ d. step (change d)) old)
      by (Ok z) e = e ∙ (ap (option_map step) m.done ∙ twice old)
      by (Err z) e = tt

-- the same said of what is kept
pub makes_as : (stopped : Bool) (change other : Durable → Durable) (Cut Other : Durable → Durable → Type 0) (r : Result (Unit {0}) Stopped) (old new : Option Durable) (may may' : Durable → Type 0) → OnOk r (stopped ≡ false) → (stopped ≡ false → (d : Durable) → old ≡ Some d → change d ≡ other d)
    → (stopped ≡ false → (d x : Durable) → old ≡ Some d → Cut d x → Other d x) → MakesPartly stopped always_stop change Cut r old new may may' → MakesPartly stopped always_stop other Other r old new may may'
makes_as stopped change other Cut Other r old new may may' going same cut m = record {
  told = m.told;
  done = by r old refl going m.done;
  refused = m.refused;
  left = λ x d found is. elim (m.left x d found is) [ inl was ↦ inl was | inr k ↦ inr (k.0, cut k.0 d x is k.1) ];
}
  where
    by : (r : Result (Unit {0}) Stopped) (o : Option Durable) → old ≡ o → OnOk r (stopped ≡ false) → OnOk r (new ≡ option_map change old) → OnOk r (new ≡ option_map other old)
    by (Ok z) None is on e = e ∙ (ap (option_map change) is ∙ sym (ap (option_map other) is))
    by (Ok z) (Some d) is on e = e ∙ (ap (option_map change) is ∙ (ap Some (same on d is) ∙ sym (ap (option_map other) is)))
    by (Err z) o is on e = tt

-- where it stopped, whatever was to be made
pub makes_stopped : (stopped : Bool) (change other : Durable → Durable) (Cut Other : Durable → Durable → Type 0) (z : Stopped) (old new : Option Durable) (may may' : Durable → Type 0) → ((d x : Durable) → Cut d x → Other d x)
    → MakesPartly {T = Unit {0}} stopped always_stop change Cut (Err z) old new may may' → MakesPartly {T = Unit {0}} stopped always_stop other Other (Err z) old new may may'
makes_stopped stopped change other Cut Other z old new may may' cut m = record {
  told = m.told;
  done = tt;
  refused = m.refused;
  left = λ x d found is. elim (m.left x d found is) [ inl was ↦ inl was | inr k ↦ inr (k.0, cut d x k.1) ];
}
