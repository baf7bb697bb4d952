-- Decided attempts are settled, one by one.
use Rattle.std.proofs.Common.{◌≡◌, ◌<◌, refl, sym, ◌∙◌, ap, subst, Bool, true, false, not, List, [], ◌∷◌, length, get_or, Option, arith}
use Rattle.std.specs.Prelude.{◌==◌, if◌then◌else◌}
use Rattle.std.proofs.lemmas.Bool.Decides.{nat_tests}
use Rattle.base_types.specs.declared.entry.Settle.TheVariants.{Commit}
use Rattle.base_types.specs.declared.id.AttemptId.{AttemptId}
use Rattle.model_laws.specs.Lists.{filter-all}
use Rattle.model_laws.specs.Members.{Has}
use Rattle.model_laws.specs.RisingLaws.{after-has}
use Rattle.daos_model.specs.declared.durable.Durable.{Durable}
use Rattle.daos_model.specs.Answers.{is_before}
use Rattle.daos_model.specs.BoolLaws.{and_left, clash, false_of}
use Rattle.daos_model.specs.Durables.{attempt_key, same_attempt}
use Rattle.daos_model.specs.EntryLaws.{same_attempt-itself}
use Rattle.daos_model.specs.FormLaws.{length-filter}
use Rattle.daos_model.specs.Ordered.{all_after, is_rising}
use Rattle.daos_model.specs.OrderLaws.{before-itself}
use Rattle.dtx_base.specs.LeaderLaws.{same-is}
use Rattle.dtx_base.specs.Rows.{is_other_row, itself, without_row}
use Rattle.vos_store.specs.Calls.{State}
use Rattle.world_base.specs.Changes.{Kept, Settles, made}
use Rattle.world_base.specs.Idle.{IdleNext, SettlesFirst}
use Rattle.world_base.specs.Turns.{CutShort, Reached}
use Rattle.target_parts.specs.Parts.{Did, Now, WasCut, kept}
use Rattle.target_parts.specs.Turning.{cut_in_change, reached_change}

-- of attempts in order, those without the first are the rest
without-head : (a : AttemptId) (rest : List AttemptId) → is_rising attempt_key (a ∷ rest) ≡ true → without_row itself a (a ∷ rest) ≡ rest
without-head a rest rising =
    ap (λ (b : Bool). if not b then a ∷ without_row itself a rest else without_row itself a rest) (same_attempt-itself a)
    ∙ filter-all _ rest (λ x i. ap not (other x i))
  where
    other : (x : AttemptId) → Has x rest → same_attempt x a ≡ false
    other x i = false_of (same_attempt x a) (λ same. clash (is_before (attempt_key a) (attempt_key a)) (subst (λ y. is_before (attempt_key a) (attempt_key y) ≡ true) (same-is x a same) (after x i)) (before-itself (attempt_key a)))
      where
        after : (x : AttemptId) → Has x rest → is_before (attempt_key a) (attempt_key x) ≡ true
        after x i = after-has attempt_key (attempt_key a) rest x (and_left (all_after attempt_key (attempt_key a) rest) (is_rising attempt_key rest) rising) i

shorter : (a : AttemptId) (rest : List AttemptId) → length (without_row itself a (a ∷ rest)) < length (a ∷ rest)
shorter a rest =
    subst (λ (b : Bool). length (if not b then a ∷ without_row itself a rest else without_row itself a rest) < length (a ∷ rest)) (sym (same_attempt-itself a))
    (let few = length-filter (is_other_row itself a) rest in omega (arith, few))

module _ (all : List AttemptId) (old : Kept) (a : AttemptId) (rest : List AttemptId) (d : Durable) (h : State) (rising : is_rising attempt_key (a ∷ rest) ≡ true) (reached : Reached IdleNext all old (a ∷ rest) (kept d h)) where
  settles-on : (k : State) (new : Option Durable) → Did (Settles a Commit) d h new k → Now new k (λ l. Reached IdleNext all old (without_row itself a (a ∷ rest)) l)
  settles-on k new did = record {
    durable = made (Settles a Commit) d;
    kept_is = did.kept_is;
    holds = subst (λ xs. Reached IdleNext all old xs (kept (made (Settles a Commit) d) k)) (sym (without-head a rest rising))
        (reached_change IdleNext all old (a ∷ rest) (kept d h) (Settles a Commit) rest (kept (made (Settles a Commit) d) k) reached (SettlesFirst (kept d h) a rest) refl did.free);
  }

  settles-cut : (finds : Kept → Type 0) → WasCut (Settles a Commit) (kept d h) finds → CutShort IdleNext all old finds
  settles-cut finds cut = cut_in_change IdleNext all old (a ∷ rest) (kept d h) (Settles a Commit) rest finds reached (SettlesFirst (kept d h) a rest) cut

-- the attempts that are left, as the code sees them
abbrev pub no_attempt : AttemptId
no_attempt = record { client = 0; command = 0; attempt = 0 }

module _ (xs : List AttemptId) (a : AttemptId) (some : (length xs == 0) ≡ false) (first : a ≡ get_or xs 0 no_attempt) where
  pub fewer-then : length (without_row itself a xs) < length xs
  fewer-then = by xs some first
    where
      by : (xs : List AttemptId) → (length xs == 0) ≡ false → a ≡ get_or xs 0 no_attempt → length (without_row itself a xs) < length xs
      by [] some first = let no : ⊥ = cc in absurd no
      by (x ∷ rest) some first = subst (λ y. length (without_row itself y (x ∷ rest)) < length (x ∷ rest)) (sym first) (shorter x rest)

  module _ (all : List AttemptId) (old : Kept) (d : Durable) (h k : State) (new : Option Durable) (finds : Kept → Type 0) (rising : is_rising attempt_key xs ≡ true) (reached : Reached IdleNext all old xs (kept d h)) where
    pub settles-more : Did (Settles a Commit) d h new k → Now new k (λ l. Reached IdleNext all old (without_row itself a xs) l)
    settles-more did = by xs some first rising reached
      where
        by : (xs : List AttemptId) → (length xs == 0) ≡ false → a ≡ get_or xs 0 no_attempt → is_rising attempt_key xs ≡ true → Reached IdleNext all old xs (kept d h) → Now new k (λ l. Reached IdleNext all old (without_row itself a xs) l)
        by [] some first rising reached = let no : ⊥ = cc in absurd no
        by (x ∷ rest) some first rising reached = subst (λ y. Did (Settles y Commit) d h new k → Now new k (λ l. Reached IdleNext all old (without_row itself y (x ∷ rest)) l)) (sym first) (settles-on all old x rest d h rising reached k new) did

    pub settles-stop : WasCut (Settles a Commit) (kept d h) finds → CutShort IdleNext all old finds
    settles-stop cut = by xs some first rising reached
      where
        by : (xs : List AttemptId) → (length xs == 0) ≡ false → a ≡ get_or xs 0 no_attempt → is_rising attempt_key xs ≡ true → Reached IdleNext all old xs (kept d h) → CutShort IdleNext all old finds
        by [] some first rising reached = let no : ⊥ = cc in absurd no
        by (x ∷ rest) some first rising reached = subst (λ y. WasCut (Settles y Commit) (kept d h) finds → CutShort IdleNext all old finds) (sym first) (settles-cut all old x rest d h rising reached finds) cut

pub none-more : (xs : List AttemptId) → (length xs == 0) ≡ true → xs ≡ []
none-more [] empty = refl
none-more (x ∷ xs) empty = let none : length (x ∷ xs) ≡ 0 = grind (arith, nat_tests) in absurd (omega (arith, none))
