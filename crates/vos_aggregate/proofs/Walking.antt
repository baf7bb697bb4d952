-- What is left of versions where those that can't count are passed over.
use Rattle.std.proofs.Common.{◌≡◌, ◌≢◌, ℕ, zero, suc, ◌+◌, ◌<◌, ◌≤◌, Bool, true, false, ◌&&◌, ◌||◌, List, [], ◌∷◌, length, get_or, drop, map, refl, sym, ◌∙◌, ap, add-one, drop-cons, arith}
use Rattle.std.specs.Prelude.{◌==◌, nat_lt}
use Rattle.std.specs.List.{list_any}
use Rattle.std.proofs.lemmas.Bool.Decides.{nat_tests}
use Rattle.std.proofs.lemmas.List.{get_or-map}
use Rattle.daos_model.specs.declared.cell.Cell.{Cell}
use Rattle.daos_model.specs.declared.durable.Version.{Version}
use Rattle.daos_model.specs.Answers.{is_before}
use Rattle.daos_model.specs.BoolLaws.{and_left, and_right, false_of}
use Rattle.daos_model.specs.Durables.{object_key, version_key}
use Rattle.daos_model.specs.Ordered.{all_after, is_rising}
use Rattle.daos_model.specs.Prunes.{touches}
use Rattle.daos_model.specs.Versions.{sees, version_path}
use Rattle.vos_aggregate.specs.Buckets.{bucket_by}
use Rattle.vos_aggregate.specs.Saying.{says, says_in}

-- from a place on it is the element there, and then the rest
pub any-at : (t : Version → Bool) (vs : List Version) (i : ℕ) (d : Version) → i < length vs → list_any t (drop i vs) ≡ (t (get_or vs i d) || list_any t (drop (i + 1) vs))
any-at t vs i d lt = rw (add-one, drop-cons vs i d) refl

drop-none : (n : ℕ) → drop {A = Version} n [] ≡ []
drop-none zero = refl
drop-none (suc n) = refl

-- a key that is before another one doesn't begin with a greater number
pub first-least : (x y : ℕ) (rest : Bool) → (nat_lt x y || (x == y && rest)) ≡ true → x ≤ y
first-least x y true h = grind (arith, nat_tests)
first-least x y false h = grind (arith, nat_tests)

no-part : (a d x t : Bool) → x ≡ false → (a && (d && x && t)) ≡ false
no-part true true x t e = ap (λ b. b && t) e
no-part true false x t e = refl
no-part false d x t e = refl

all-parts : (a d x t : Bool) → a ≡ true → x ≡ true → (d && t) ≡ true → (a && (d && x && t)) ≡ true
all-parts true true true t e f h = h
all-parts true false true t e f h = h
all-parts true d false t e f h = absurd (let n : ⊥ = cc in n)
all-parts false d x t e f h = absurd (let n : ⊥ = cc in n)

not-all : (a d x t : Bool) → (d && t) ≡ false → (a && (d && x && t)) ≡ false
not-all true true true t h = h
not-all true true false t h = refl
not-all true false x t h = refl
not-all false d x t h = refl

-- places of other buckets are passed over
module _ (f : Version → ℕ) (t : Version → Bool) (b : ℕ) (only : (w : Version) → t w ≡ true → f w ≡ b) where
  not-here : (v : Version) → f v ≢ b → t v ≡ false
  not-here v ne = false_of (t v) (λ e. ne (only v e))

  pub passed : (vs : List Version) (i j : ℕ) → i ≤ j → ((k : ℕ) → i ≤ k → k < j → get_or (map f vs) k 0 ≢ b) → list_any t (drop j vs) ≡ list_any t (drop i vs)
  passed vs zero zero le none = refl
  passed [] i j le none = ap (list_any t) (drop-none j ∙ sym (drop-none i))
  passed (v ∷ vs) zero (suc j) le none =
      passed vs 0 j (omega arith) (λ k ge lt. none (suc k) (omega arith) (omega arith))
      ∙ sym (ap (λ x. x || list_any t (drop 0 vs)) (not-here v (none 0 (omega arith) (omega arith))))
  passed (v ∷ vs) (suc i) zero le none = absurd (omega arith)
  passed (v ∷ vs) (suc i) (suc j) le none = passed vs i j (omega arith) (λ k ge lt. none (suc k) (omega arith) (omega arith))

-- behind a version that can't count for its epoch none does
module _ (t : Version → Bool) (s : ℕ) (never : (w : Version) → s ≤ w.epoch.0 → t w ≡ false) where
  none-after : (v : Version) (vs : List Version) → s ≤ v.epoch.0 → all_after version_key (version_key v) vs ≡ true → list_any t vs ≡ false
  none-after v [] ge after = refl
  none-after v (w ∷ vs) ge after =
      let next : is_before (version_key v) (version_key w) ≡ true = and_left (is_before (version_key v) (version_key w)) (all_after version_key (version_key v) vs) after in
      let epochs : v.epoch.0 ≤ w.epoch.0 =
      first-least v.epoch.0 w.epoch.0 (is_before (v.minor ∷ object_key (version_path v).cont (version_path v).obj) (w.minor ∷ object_key (version_path w).cont (version_path w).obj)) next in
      let above : s ≤ w.epoch.0 = omega arith in
      ap (λ x. x || list_any t vs) (never w above)
      ∙ none-after v vs ge (and_right (is_before (version_key v) (version_key w)) (all_after version_key (version_key v) vs) after)

  pub none-from : (vs : List Version) (i : ℕ) (d : Version) → is_rising version_key vs ≡ true → i < length vs → s ≤ (get_or vs i d).epoch.0 → list_any t (drop i vs) ≡ false
  none-from [] i d rising lt ge = absurd (omega arith)
  none-from (v ∷ vs) zero d rising lt ge =
      ap (λ x. x || list_any t vs) (never v ge) ∙ none-after v vs ge (and_left (all_after version_key (version_key v) vs) (is_rising version_key vs) rising)
  none-from (v ∷ vs) (suc i) d rising lt ge = none-from vs i d (and_right (all_after version_key (version_key v) vs) (is_rising version_key vs) rising) (omega arith) ge

says_in-only : (m b s : ℕ) (c : Cell) (w : Version) → says_in m b s c w ≡ true → bucket_by m w ≡ b
says_in-only m b s c w h = let e : (bucket_by m w == b) ≡ true = and_left (bucket_by m w == b) (says s c w) h in grind (arith, nat_tests)

says_in-never : (m b s : ℕ) (c : Cell) (w : Version) → s ≤ w.epoch.0 → says_in m b s c w ≡ false
unfolding says sees
says_in-never m b s c w ge = no-part (bucket_by m w == b) w.done (nat_lt w.epoch.0 s) (touches c w.write) (grind (arith, nat_tests))

-- of the versions that say what a cell holds in a bucket
module _ (m b s : ℕ) (c : Cell) (vs : List Version) where
  pub said-passed : (i j : ℕ) → i ≤ j → ((k : ℕ) → i ≤ k → k < j → get_or (map (bucket_by m) vs) k 0 ≢ b) → list_any (says_in m b s c) (drop j vs) ≡ list_any (says_in m b s c) (drop i vs)
  said-passed = passed (bucket_by m) (says_in m b s c) b (says_in-only m b s c) vs

  pub said-none : (i : ℕ) (d : Version) → is_rising version_key vs ≡ true → i < length vs → s ≤ (get_or vs i d).epoch.0 → list_any (says_in m b s c) (drop i vs) ≡ false
  said-none = none-from (says_in m b s c) s (says_in-never m b s c) vs

  pub said-here : (i : ℕ) (d : Version) → i < length vs → get_or (map (bucket_by m) vs) i 0 ≡ b → (get_or vs i d).epoch.0 < s → ((get_or vs i d).done && touches c (get_or vs i d).write) ≡ true → list_any (says_in m b s c) (drop i vs) ≡ true
  unfolding says sees
  said-here i d lt is below yes' =
      let v : Version = get_or vs i d in
      let here : bucket_by m v ≡ b = sym (get_or-map (bucket_by m) vs i d 0 lt) ∙ is in
      let test : (bucket_by m v == b) ≡ true = grind (arith, nat_tests) in
      let seen : nat_lt v.epoch.0 s ≡ true = grind (arith, nat_tests) in
      any-at (says_in m b s c) vs i d lt
      ∙ ap (λ x. x || list_any (says_in m b s c) (drop (i + 1) vs)) (all-parts (bucket_by m v == b) v.done (nat_lt v.epoch.0 s) (touches c v.write) test seen yes')

  pub said-next : (i : ℕ) (d : Version) → i < length vs → ((get_or vs i d).done && touches c (get_or vs i d).write) ≡ false → list_any (says_in m b s c) (drop i vs) ≡ list_any (says_in m b s c) (drop (i + 1) vs)
  unfolding says sees
  said-next i d lt idle =
      let v : Version = get_or vs i d in
      any-at (says_in m b s c) vs i d lt
      ∙ ap (λ x. x || list_any (says_in m b s c) (drop (i + 1) vs)) (not-all (bucket_by m v == b) v.done (nat_lt v.epoch.0 s) (touches c v.write) idle)
