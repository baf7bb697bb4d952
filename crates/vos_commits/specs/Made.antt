-- Commits that make a change, as a store's call makes it.
use Rattle.std.specs.Prelude.{ℕ, ◌≡◌, ◌⊎◌, Bool, true, false, not, List, OnOk, Option, Some, None, Result, Ok, Err, is_ok, is_some, refl}
use Rattle.std.specs.Option.{option_map}
use Rattle.std.proofs.Common.{ap, sym, ◌∙◌, subst, inl, inr}
use Rattle.base_outside.specs.Images.{Image, Range}
use Rattle.daos_model.specs.declared.durable.Durable.{Durable}
use Rattle.daos_model.specs.BoolLaws.{clash}
use Rattle.vos_commits.specs.Found.{commit-finds, commit-keeps}
use Rattle.vos_commits.specs.Kept.{IsCommit, MayFind, Reading, kept_in, kept_over}
use Rattle.vos_commits.specs.Laws.{CommitsMake, QuietAfterStays, QuietBeforeStays, StepsArePartOfAChange, StoppedBeforeMakesNone}
use Rattle.vos_store.specs.Calls.{Makes, MakesPartly}
use Rattle.vos_store.specs.Refusals.{refuses, says}

-- what holds where a result is Ok holds at Ok
pub on-ok : {T E : Type 0} (P : Type 0) (result : Result T E) → (is_ok result ≡ true → P) → OnOk result P
on-ok P (Ok x) h = h refl
on-ok P (Err e) h = tt

pub from-ok : {T E : Type 0} (P : Type 0) (result : Result T E) → OnOk result P → is_ok result ≡ true → P
from-ok P (Ok x) h is = h
from-ok P (Err e) h is = absurd (clash false is refl)

pub commit-makes : CommitsMake
commit-makes T E stop change result reading size ranges f g old new k asked makes = record {
  told = refl;
  done = on-ok (Some (kept_in reading size g) ≡ Some (change (kept_in reading size f))) result (λ ok. ap (λ z. Some z) (commit-keeps reading size ranges (is_ok result) f g old new k ok ∙ makes));
  refused = λ no. absurd (clash (refuses stop result) no asked);
  left = λ x may. elim (commit-finds reading size ranges (is_ok result) f g old new x k may) [
    | inl before ↦ inl before
    | inr after ↦ inr (refl, ap (λ z. Some z) (after ∙ makes))
  ];
}

pub quiet-before : QuietBeforeStays
quiet-before T E stop change result kept new may before after first m = record {
  told = m.told;
  done = m.done;
  refused = m.refused;
  left = λ x found. elim (m.left x found) [
    | inl earlier ↦ inl (first x earlier)
    | inr after ↦ inr after
  ];
}

pub quiet-after : QuietAfterStays
quiet-after T U E F stop stop' change made result old kept new may between after ok m quiet same asked told = record {
  told = told ∙ m.told;
  done = on-ok (new ≡ option_map change old) result (λ done. from-ok (new ≡ kept) result same done ∙ from-ok (kept ≡ option_map change old) made m.done ok);
  refused = λ no. absurd (clash (refuses stop' result) no asked);
  left = λ x found. m.left x (quiet x found);
}

some-is : {d e : Durable} → Some d ≡ Some e → d ≡ e
some-is is = cc

-- what a step leaves, of what is kept at the beginning under whichever name
before-or-cut : (may : Durable → Type 0) (Cut : Durable → Durable → Type 0) (d e x : Durable) → Some d ≡ Some e → may x ⊎ Cut d x → may x ⊎ ((false ≡ false) × Cut e x)
before-or-cut may Cut d e x is (inl before) = inl before
before-or-cut may Cut d e x is (inr cut) = inr (refl, subst (λ z. Cut z x) (some-is is) cut)

pub step-is-part : StepsArePartOfAChange
step-is-part T E stop change Cut result reading size ranges d f g may old left so_far k cut asked whole = record {
  told = refl;
  done = on-ok (Some (kept_in reading size g) ≡ Some (change d)) result (λ ok. ap (λ z. Some z) (commit-keeps reading size ranges (is_ok result) f g old left k ok ∙ from-ok (kept_over reading f ranges ≡ change d) result whole ok));
  refused = λ no. absurd (clash (refuses stop result) no asked);
  left = λ x e found is. before-or-cut (MayFind reading size may) Cut d e x is (elim (commit-finds reading size ranges (is_ok result) f g old left x k found) [
    | inl before ↦ so_far x before
    | inr after ↦ inr (subst (Cut d) (sym after) cut)
  ]);
}

-- what stopped is no other refusal, and isn't Ok
not-refused : {T E : Type 0} (stop : E → Bool) (result : Result T E) → says stop result ≡ true → refuses stop result ≡ true → ⊥
not-refused stop (Ok x) stopped refused = clash false stopped refl
not-refused stop (Err e) stopped refused = clash (stop e) stopped (by (stop e) refused)
  where
    by : (b : Bool) → not b ≡ true → b ≡ false
    by true h = let no : ⊥ = cc in absurd no
    by false h = refl

not-ok : {T E : Type 0} (P : Type 0) (stop : E → Bool) (result : Result T E) → says stop result ≡ true → OnOk result P
not-ok P stop (Ok x) stopped = absurd (clash false stopped refl)
not-ok P stop (Err e) stopped = tt

pub stopped-makes : StoppedBeforeMakesNone
stopped-makes T E stop change was_stopped result kept new may after stopped quiet told = record {
  told = told;
  done = not-ok (new ≡ option_map change kept) stop result stopped;
  refused = λ no. absurd (not-refused stop result stopped no);
  left = λ x found. inl (quiet x found);
}
