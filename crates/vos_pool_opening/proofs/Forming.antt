-- Entries that rise stand in their order.
use Rattle.std.specs.Prelude.{◌≡◌, ℕ, All, Bool, true, false, List, [], ◌∷◌, if◌then◌else◌}
use Rattle.std.specs.List.{list_all}
use Rattle.std.proofs.Common.{refl, sym, ap, ◌∙◌, subst}
use Rattle.std.proofs.lemmas.List.Elements.{All-cons, All-head, All-tail}
use Rattle.daos_model.specs.Answers.{is_before}
use Rattle.base_types.specs.declared.entry.Entry.{Entry}
use Rattle.daos_model.specs.BoolLaws.{and_left, and_right, both}
use Rattle.daos_model.specs.declared.durable.Version.{Version}
use Rattle.daos_model.specs.Durables.{IsInForm, entry_key, is_version_in_form, version_key}
use Rattle.daos_model.specs.OrderLaws.{before-asym, in_order-puts}
use Rattle.daos_model.specs.Ordered.{all_after, in_order, is_in_order, is_rising, put, puts}
use Rattle.vos_pool_held.specs.vos_pool_base.vos_places.Tables.{Table}
use Rattle.vos_pool_held.specs.vos_pool_base.vos_tables.Kept.{kept_with}
use Rattle.vos_pool_held.specs.vos_pool_base.vos_tables.Laws.{IsKeptInForm}

module _ {T : Type 0} (key : T → List ℕ) where
  put-first : (v : T) (us : List T) → all_after key (key v) us ≡ true → put key v us ≡ v ∷ us
  put-first v [] after = refl
  put-first v (u ∷ us) after = ap (λ (t : Bool). if t then u ∷ put key v us else v ∷ u ∷ us) (before-asym (key v) (key u) (and_left (is_before (key v) (key u)) (all_after key (key v) us) after))

  puts-rising : (us : List T) → is_rising key us ≡ true → puts key us [] ≡ us
  puts-rising [] rises = refl
  puts-rising (v ∷ us) rises =
      ap (put key v) (puts-rising us (and_right (all_after key (key v) us) (is_rising key us) rises)) ∙ put-first v us (and_left (all_after key (key v) us) (is_rising key us) rises)

  pub rising-stays : (us : List T) → is_rising key us ≡ true → is_rising key (in_order key us) ≡ true
  unfolding in_order
  rising-stays us rises = subst (λ (vs : List T). is_rising key vs ≡ true) (sym (puts-rising us rises)) rises

-- what holds of all holds of them in order
put-all : {T : Type 0} (key : T → List ℕ) (t : T → Bool) (v : T) (us : List T) → t v ≡ true → list_all t us ≡ true → list_all t (put key v us) ≡ true
put-all key t v [] this rest = both (t v) true this refl
put-all key t v (u ∷ us) this rest = elim (is_before (key u) (key v)) as (λ b. list_all t (if b then u ∷ put key v us else v ∷ u ∷ us) ≡ true) [
  | true ↦ both (t u) (list_all t (put key v us)) (and_left (t u) (list_all t us) rest) (put-all key t v us this (and_right (t u) (list_all t us) rest))
  | false ↦ both (t v) (list_all t (u ∷ us)) this rest
]

puts-all : {T : Type 0} (key : T → List ℕ) (t : T → Bool) (vs : List T) → list_all t vs ≡ true → list_all t (puts key vs []) ≡ true
puts-all key t [] all = refl
puts-all key t (v ∷ vs) all = put-all key t v (puts key vs []) (and_left (t v) (list_all t vs) all) (puts-all key t vs (and_right (t v) (list_all t vs) all))

pub all-in-order : {T : Type 0} (key : T → List ℕ) (t : T → Bool) (vs : List T) → list_all t vs ≡ true → list_all t (in_order key vs) ≡ true
unfolding in_order
all-in-order key t vs all = puts-all key t vs all

pub stands-in-order : {T : Type 0} (key : T → List ℕ) (vs : List T) → is_in_order key (in_order key vs) ≡ true
unfolding in_order
stands-in-order key vs = in_order-puts key vs [] refl

-- what places keep with versions and entries is in form
pub is-formed : (t : Table) (vs : List Version) (es : List Entry) → IsKeptInForm t → list_all is_version_in_form vs ≡ true → is_rising entry_key es ≡ true → IsInForm (kept_with t (in_order version_key vs) (in_order entry_key es))
is-formed t vs es formed form rises = formed (in_order version_key vs) (in_order entry_key es) (stands-in-order version_key vs) (all-in-order version_key is_version_in_form vs form) (rising-stays entry_key es rises)

put-each : {T : Type 0} (key : T → List ℕ) (P : T → Type 0) (v : T) (us : List T) → P v → All P us → All P (put key v us)
put-each key P v [] this rest = All-cons P v [] this rest
put-each key P v (u ∷ us) this rest = elim (is_before (key u) (key v)) as (λ b. All P (if b then u ∷ put key v us else v ∷ u ∷ us)) [
  | true ↦ All-cons P u (put key v us) (All-head P u us rest) (put-each key P v us this (All-tail P u us rest))
  | false ↦ All-cons P v (u ∷ us) this rest
]

puts-each : {T : Type 0} (key : T → List ℕ) (P : T → Type 0) (vs : List T) → All P vs → All P (puts key vs [])
puts-each key P [] all = all
puts-each key P (v ∷ vs) all = put-each key P v (puts key vs []) (All-head P v vs all) (puts-each key P vs (All-tail P v vs all))

pub each-in-order : {T : Type 0} (key : T → List ℕ) (P : T → Type 0) (vs : List T) → All P vs → All P (in_order key vs)
unfolding in_order
each-in-order key P vs all = puts-each key P vs all
