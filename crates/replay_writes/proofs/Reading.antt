-- Tests of every element of a list, and of the first read that stands against writes.
use Rattle.std.proofs.Common.{ℕ, suc, zero, ◌≡◌, ◌<◌, ◌≤◌, ◌+◌, ◌++◌, refl, sym, ◌∙◌, ap, subst, Bool, true, false, List, [], ◌∷◌, length, get_or, map, All, Contains, ◌⊎◌, inl, inr, not, arith, slice_index}
use Rattle.std.specs.Prelude.{◌||◌}
use Rattle.std.specs.Bool.{Decides}
use Rattle.std.specs.List.{list_any}
use Rattle.std.specs.List.Sorted.{IsStrictlyIncreasing}
use Rattle.std.proofs.lemmas.Bool.{cases_order}
use Rattle.std.proofs.lemmas.List.{get_or-map}
use Rattle.std.proofs.lemmas.List.Elements.{All-cons}
use Rattle.std.proofs.lemmas.List.Folds.{list_any_none}
use Rattle.base_types.specs.declared.epoch.Epoch.{Epoch}
use Rattle.base_types.specs.declared.operation.MinorWrite.{MinorWrite}
use Rattle.base_types.specs.declared.shown.Shown.{Shown}
use Rattle.base_types.specs.Operations.{write_path}
use Rattle.model_laws.specs.Lists.{item-holds}
use Rattle.daos_model.specs.BoolLaws.{clash}
use Rattle.daos_model.specs.FormLaws.{length-map}
use Rattle.daos_model.specs.Forms.{minor_of}
use Rattle.vos_stamp.specs.Stamps.{IsShown, NoneAgainst}
use Rattle.world_base.specs.Commits.{FirstRead}

-- ---- no element passes a test

any_false : {X : Type 0} (t : X → Bool) (xs : List X) → list_any t xs ≡ false → All (λ x. t x ≡ false) xs
any_false t [] h = λ k d lt. absurd (omega arith)
any_false t (x ∷ xs) h =
    elim (t x) as (λ b. t x ≡ b → (b || list_any t xs) ≡ false → All (λ x. t x ≡ false) (x ∷ xs)) [
      | true ↦ λ is bad. absurd (let bad : ⊥ = cc in bad)
      | false ↦ λ is rest. All-cons (λ x. t x ≡ false) x xs is (any_false t xs rest)
    ] refl h

pub none_decides : {X : Type 0} (t : X → Bool) (xs : List X) (some : Bool) → some ≡ list_any t xs → Decides (not some) (All (λ x. t x ≡ false) xs)
none_decides t xs true is = (λ e. let bad : ⊥ = cc in absurd bad, λ all. (let none = list_any_none t xs all in let bad : ⊥ = cc in absurd bad))
none_decides t xs false is = (λ e. any_false t xs (sym is), λ all. refl)

-- ---- a loop over all elements

pub not_all : {X : Type 0} (P : X → Type 0) (xs : List X) (i : ℕ) (x : X) (found : Bool) → Decides found (P x) → found ≡ false → i < length xs → x ≡ get_or xs i x → All P xs → ⊥
not_all P xs i x found same bad lt is all = clash found (same.1 (item-holds P xs i x all lt is)) bad

-- ---- a loop that looks for an element

abbrev pub NoneYet : {X : Type 0} → (X → Type 0) → List X → ℕ → Type 0
NoneYet {X} P xs i = (k : ℕ) (x : X) → k < i → x ≡ get_or xs k x → P x → ⊥

none_at : {X : Type 0} (P : X → Type 0) (xs : List X) (i : ℕ) (x y : X) (found : Bool) → Decides found (P x) → found ≡ false → i < length xs → x ≡ get_or xs i x → y ≡ get_or xs i y → P y → ⊥
none_at P xs i x y found same bad lt at_x at_y p =
    let one : y ≡ x = at_y ∙ same_item xs i x y lt ∙ sym at_x in
    clash found (same.1 (subst P one p)) bad
  where
    same_item : {X : Type 0} (us : List X) (j : ℕ) (a b : X) → j < length us → get_or us j b ≡ get_or us j a
    same_item [] j a b less = absurd (omega arith)
    same_item (u ∷ us) zero a b less = refl
    same_item (u ∷ us) (suc j) a b less = same_item us j a b (omega arith)

pub none_more : {X : Type 0} (P : X → Type 0) (xs : List X) (i : ℕ) (x : X) (found : Bool) → Decides found (P x) → found ≡ false → i < length xs → x ≡ get_or xs i x → NoneYet P xs i → NoneYet P xs (i + 1)
none_more P xs i x found same bad lt is before k y within at_y p = by (cases_order k i)
  where
    by : (k ≡ i) ⊎ ((k < i) ⊎ (i < k)) → ⊥
    by (inl here) = none_at P xs i x y found same bad lt is (subst (λ n. y ≡ get_or xs n y) here at_y) p
    by (inr (inl earlier)) = before k y earlier at_y p
    by (inr (inr later)) = let past : ⊥ = omega (arith, within, later) in past

pub nothing_yet : {X : Type 0} (P : X → Type 0) (xs : List X) → NoneYet P xs 0
nothing_yet P xs k x lt at p = let bad : ⊥ = omega (arith, lt) in bad

pub never_there : {X : Type 0} (xs : List X) (x : X) (i : ℕ) → length xs ≤ i → NoneYet (λ y. y ≡ x) xs i → Contains xs x → ⊥
never_there xs x i le none there = (let less : there.0 < i = (let l = there.1 in omega (arith, l, le)) in none there.0 x less (sym there.2) refl)

-- ---- the first read

module _ (e : Epoch) (stamps : List Shown) (r : Shown) where
  abbrev pub Shows : MinorWrite → Type 0
  Shows w = IsShown (write_path w.write) e.0 stamps r

  abbrev Clear : MinorWrite → Type 0
  Clear w = NoneAgainst (write_path w.write) e.0 stamps

  item_between : (before : List MinorWrite) (w : MinorWrite) (after : List MinorWrite) → w ≡ get_or (before ++ w ∷ after) (length before) w
  item_between [] w after = refl
  item_between (b ∷ before) w after = item_between before w after

  within : (before : List MinorWrite) (w : MinorWrite) (after : List MinorWrite) → length before < length (before ++ w ∷ after)
  within [] w after = omega arith
  within (b ∷ before) w after = (let rest = within before w after in omega (arith, rest))

  item_before : (before : List MinorWrite) (w : MinorWrite) (after : List MinorWrite) (i : ℕ) (x : MinorWrite) → i < length before → x ≡ get_or (before ++ w ∷ after) i x → x ≡ get_or before i x
  item_before [] w after i x lt is = absurd (omega arith)
  item_before (b ∷ before) w after zero x lt is = is
  item_before (b ∷ before) w after (suc i) x lt is = item_before before w after i x (omega arith) is

  -- it isn't shown where none of the writes up to one that a read stands against shows it
  pub not_first : (ws : List MinorWrite) (i : ℕ) (x : MinorWrite) → NoneYet Shows ws (i + 1) → i < length ws → x ≡ get_or ws i x → (Clear x → ⊥) → FirstRead e stamps ws r → ⊥
  not_first ws i x none lt is against f = by (cases_order (length f.before) i)
    where
      there : f.w ≡ get_or ws (length f.before) f.w
      there = subst (λ us. f.w ≡ get_or us (length f.before) f.w) (sym f.among) (item_between f.before f.w f.after)

      by : (length f.before ≡ i) ⊎ ((length f.before < i) ⊎ (i < length f.before)) → ⊥
      by (inl here) = (let less : length f.before < i + 1 = omega (arith, here) in none (length f.before) f.w less there f.shown)
      by (inr (inl earlier)) = (let less : length f.before < i + 1 = omega (arith, earlier) in none (length f.before) f.w less there f.shown)
      by (inr (inr later)) = against (item-holds Clear f.before i x f.none_before later (item_before f.before f.w f.after i x later (subst (λ us. x ≡ get_or us i x) f.among is)))

  -- nor where none of all writes does
  pub never_first : (ws : List MinorWrite) (i : ℕ) → NoneYet Shows ws i → length ws ≤ i → FirstRead e stamps ws r → ⊥
  never_first ws i none le f =
      let there : f.w ≡ get_or ws (length f.before) f.w = subst (λ us. f.w ≡ get_or us (length f.before) f.w) (sym f.among) (item_between f.before f.w f.after) in
      let short : length f.before < length ws = subst (λ us. length f.before < length us) (sym f.among) (within f.before f.w f.after) in
      let less : length f.before < i = omega (arith, short, le) in
      none (length f.before) f.w less there f.shown

-- ---- rising numbers

-- the numbers up to an index rise
abbrev pub RisesTo : List MinorWrite → ℕ → Type 0
RisesTo ws i = (k : ℕ) → k + 1 < i → k + 1 < length ws → slice_index (map minor_of ws) k < slice_index (map minor_of ws) (k + 1)

minor_at : (ws : List MinorWrite) (k : ℕ) (x : MinorWrite) → k < length ws → x ≡ get_or ws k x → slice_index (map minor_of ws) k ≡ x.minor
minor_at ws k x lt is = get_or-map minor_of ws k x 0 lt ∙ ap minor_of (sym is)

rise_at : (ws : List MinorWrite) (k i : ℕ) (x y : MinorWrite) → k + 1 ≡ i → i < length ws → x ≡ get_or ws k x → y ≡ get_or ws i y → x.minor < y.minor → slice_index (map minor_of ws) k < slice_index (map minor_of ws) (k + 1)
rise_at ws k i x y next lt at_x at_y less =
    let before : k < length ws = omega (arith, next, lt) in
    let one = minor_at ws k x before at_x in
    let two = minor_at ws i y lt at_y in
    subst (λ n. slice_index (map minor_of ws) k < slice_index (map minor_of ws) n) (sym next) (subst (λ n. slice_index (map minor_of ws) k < n) (sym two) (subst (λ n. n < y.minor) (sym one) less))

pub rises_more : (ws : List MinorWrite) (i j : ℕ) (x y : MinorWrite) → 1 ≤ i → j + 1 ≡ i → i < length ws → x ≡ get_or ws j x → y ≡ get_or ws i y → x.minor < y.minor → RisesTo ws i → RisesTo ws (i + 1)
rises_more ws i j x y some next lt at_x at_y less before k within short = by (cases_order (k + 1) i)
  where
    by : (k + 1 ≡ i) ⊎ ((k + 1 < i) ⊎ (i < k + 1)) → slice_index (map minor_of ws) k < slice_index (map minor_of ws) (k + 1)
    by (inl here) = (let same : j ≡ k = omega (arith, here, next) in rise_at ws k i x y here lt (subst (λ n. x ≡ get_or ws n x) same at_x) at_y less)
    by (inr (inl earlier)) = before k earlier short
    by (inr (inr later)) = let past : ⊥ = omega (arith, within, later) in absurd past

pub rises_all : (ws : List MinorWrite) (i : ℕ) → RisesTo ws i → length ws ≤ i → IsStrictlyIncreasing (map minor_of ws)
rises_all ws i rises le k short =
    let same = length-map minor_of ws in
    rises k (omega (arith, short, same, le)) (omega (arith, short, same))

pub rises_not : (ws : List MinorWrite) (i j : ℕ) (x y : MinorWrite) → j + 1 ≡ i → i < length ws → x ≡ get_or ws j x → y ≡ get_or ws i y → y.minor ≤ x.minor → IsStrictlyIncreasing (map minor_of ws) → ⊥
rises_not ws i j x y next lt at_x at_y le rises =
    let same = length-map minor_of ws in
    let before : j < length ws = omega (arith, next, lt) in
    let short : j + 1 < length (map minor_of ws) = omega (arith, next, lt, same) in
    let one = minor_at ws j x before at_x in
    let two : slice_index (map minor_of ws) (j + 1) ≡ y.minor = subst (λ n. slice_index (map minor_of ws) n ≡ y.minor) (sym next) (minor_at ws i y lt at_y) in
    let step : slice_index (map minor_of ws) j < slice_index (map minor_of ws) (j + 1) = rises j short in
    omega (arith, step, one, two, le)
