-- What the calls of a store over lists say, from what they made.
use Rattle.std.proofs.Common.{◌≡◌, ℕ, inr, Bool, true, false, not, List, Some, Err, Ok, refl, sym, ◌∙◌, ap, subst}
use Rattle.std.specs.Prelude.{filter}
use Rattle.std.proofs.lemmas.Option.{same_Some}
use Rattle.base_types.specs.declared.epoch.Epoch.{Epoch}
use Rattle.base_types.specs.declared.id.ContId.{ContId}
use Rattle.daos_model.specs.declared.durable.Durable.{Durable}
use Rattle.daos_model.specs.declared.durable.Version.{Version}
use Rattle.daos_model.specs.BoolLaws.{not_false}
use Rattle.daos_model.specs.Changes.{discarded, is_in_range, pruned}
use Rattle.daos_model.specs.Prunes.{Partly, is_going, is_staying}
use Rattle.vos_store.specs.Calls.{CutDiscard, CutPrune, Makes, MakesPartly}

-- a change that was made
pub makes : {E : Type 0} (stop : E → Bool) (f : Durable → Durable) (was : Bool) (y z : Durable) → was ≡ false → z ≡ f y → Makes {T = Unit {0}} was stop f (Ok tt) (Some y) (Some z) (λ x. x ≡ y) (λ x. x ≡ z)
makes stop f was y z run e = record {
  told = refl;
  done = ap (λ w. Some w) e;
  refused = λ h. absurd (let n : ⊥ = cc in n);
  left = λ x m. inr (run, ap (λ w. Some w) (m ∙ e));
}

-- and one after which the store stopped
pub makes_stopped : {E : Type 0} (stop : E → Bool) (f : Durable → Durable) (was : Bool) (s : E) (y z : Durable) → stop s ≡ true → was ≡ false → z ≡ f y → Makes {T = Unit {0}} was stop f (Err s) (Some y) (Some z) (λ x. x ≡ y) (λ x. x ≡ z)
makes_stopped stop f was s y z is run e = record {
  told = refl;
  done = tt;
  refused = λ h. absurd (let k : not true ≡ true = sym (ap not is) ∙ h in let n : ⊥ = cc in n);
  left = λ x m. inr (run, ap (λ w. Some w) (m ∙ e));
}

pub makes_partly : {E : Type 0} (stop : E → Bool) (f : Durable → Durable) (Cut : Durable → Durable → Type 0) (was : Bool) (y z : Durable) → was ≡ false → z ≡ f y → ((d : Durable) → Cut d (f d)) → MakesPartly {T = Unit {0}} was stop f Cut (Ok tt) (Some y) (Some z) (λ x. x ≡ y) (λ x. x ≡ z)
makes_partly stop f Cut was y z run e whole = record {
  told = refl;
  done = ap (λ w. Some w) e;
  refused = λ h. absurd (let n : ⊥ = cc in n);
  left = λ x d m is. inr (run, subst (Cut d) (sym (m ∙ e ∙ ap f (same_Some y d is))) (whole d));
}

pub makes_partly_stopped : {E : Type 0} (stop : E → Bool) (f : Durable → Durable) (Cut : Durable → Durable → Type 0) (was : Bool) (s : E) (y z : Durable) → stop s ≡ true → was ≡ false → z ≡ f y → ((d : Durable) → Cut d (f d)) → MakesPartly {T = Unit {0}} was stop f Cut (Err s) (Some y) (Some z) (λ x. x ≡ y) (λ x. x ≡ z)
makes_partly_stopped stop f Cut was s y z is run e whole = record {
  told = refl;
  done = tt;
  refused = λ h. absurd (let k : not true ≡ true = sym (ap not is) ∙ h in let n : ⊥ = cc in n);
  left = λ x d m at. inr (run, subst (Cut d) (sym (m ∙ e ∙ ap f (same_Some y d at))) (whole d));
}

-- the whole of what goes is one of what a cut may leave
all_gone : (vs : List Version) (going : Version → Bool) → Partly vs going (filter (λ v. not (going v)) vs)
all_gone vs going = record {
  stays = λ v. not (going v);
  left = refl;
  planned = λ v e. not_false (going v) e;
  punches = λ p u gone punch update le over goes. ap not goes;
}

pub whole_prune : (c : ContId) (upto : Epoch) (n : ℕ) (d : Durable) → CutPrune c upto n d (pruned c upto n d)
unfolding pruned
whole_prune c upto n d = (filter (is_staying c upto d) d.versions, all_gone d.versions (is_going c upto d.versions d.snaps), refl)

pub whole_discard : (c : ContId) (lo hi : Epoch) (d : Durable) → CutDiscard c lo hi d (discarded c lo hi d)
unfolding discarded
whole_discard c lo hi d = (filter (λ v. not (is_in_range c lo hi v)) d.versions, all_gone d.versions (is_in_range c lo hi), refl)
