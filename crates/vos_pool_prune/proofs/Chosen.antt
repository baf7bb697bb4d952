-- Those of a list whose marks are set.
use Rattle.std.proofs.Common.{◌≡◌, ℕ, ◌+◌, ◌<◌, ◌&&◌, Bool, true, false, cond, List, [], ◌∷◌, ◌++◌, drop, get_or, length, take, take-append-drop, sym, refl, ap, ◌∙◌, arith}
use Rattle.std.specs.Prelude.{filter, map, min}
use Rattle.std.proofs.lemmas.List.{length-take, take_more}
use Rattle.std.proofs.lemmas.List.Elements.{filter-append}
use Rattle.daos_model.specs.declared.durable.Version.{Version}
use Rattle.vos_pool_prune.specs.Order.{chosen, is_of, those_of}

pub chosen-append : {A : Type 0} (ms ns : List Bool) (xs ys : List A) → length ms ≡ length xs → chosen (ms ++ ns) (xs ++ ys) ≡ chosen ms xs ++ chosen ns ys
chosen-append [] ns [] ys e = refl
chosen-append [] ns (x ∷ xs) ys e = absurd (omega (arith, e))
chosen-append (m ∷ ms) ns [] ys e = absurd (omega (arith, e))
chosen-append (true ∷ ms) ns (x ∷ xs) ys e = ap (λ z. x ∷ z) (chosen-append ms ns xs ys (omega (arith, e)))
chosen-append (false ∷ ms) ns (x ∷ xs) ys e = chosen-append ms ns xs ys (omega (arith, e))

-- where a test sets the marks they are those that pass it
pub chosen-map : {A : Type 0} (p : A → Bool) (xs : List A) → chosen (map p xs) xs ≡ filter p xs
chosen-map p [] = refl
chosen-map p (x ∷ xs) = ap (λ zs. cond (p x) (x ∷ zs) zs) (chosen-map p xs)

-- ---- of one kind, one after another

same_length : {A : Type 0} (ms : List Bool) (xs : List A) (i : ℕ) → length ms ≡ length xs → length (take i ms) ≡ length (take i xs)
same_length ms xs i each = length-take i ms ∙ (ap (min i) each ∙ sym (length-take i xs))

-- those of a kind before a place
abbrev pub those_before : Bool → List Bool → List Version → ℕ → List Version
those_before b ms us i = those_of b (chosen (take i ms) (take i us))

one_more : (b m t : Bool) (u : Version) → (m && is_of b u) ≡ t → those_of b (cond m (u ∷ []) []) ≡ cond t (u ∷ []) []
one_more b true t u is = ap (λ (z : Bool). cond z (u ∷ []) []) is
one_more b false t u is = ap (λ (z : Bool). cond z (u ∷ []) []) is

module _ (b : Bool) (ms : List Bool) (us : List Version) (i : ℕ) (each : length ms ≡ length us) where
  pub those_more : (u : Version) (t : Bool) → i < length us → u ≡ get_or us i u → (get_or ms i false && is_of b u) ≡ t → those_before b ms us (i + 1) ≡ those_before b ms us i ++ cond t (u ∷ []) []
  those_more u t low at is =
      ap (λ z. those_of b (chosen z (take (i + 1) us))) (take_more ms i false (omega (arith, each, low)))
      ∙ (ap (λ z. those_of b (chosen (take i ms ++ get_or ms i false ∷ []) z)) (take_more us i u low ∙ ap (λ v. take i us ++ v ∷ []) (sym at))
      ∙ (ap (those_of b) (chosen-append (take i ms) (get_or ms i false ∷ []) (take i us) (u ∷ []) (same_length ms us i each))
      ∙ (filter-append (is_of b) (chosen (take i ms) (take i us)) (cond (get_or ms i false) (u ∷ []) [])
      ∙ ap (λ z. those_before b ms us i ++ z) (one_more b (get_or ms i false) t u is))))

  pub those_all : those_of b (chosen ms us) ≡ those_before b ms us i ++ those_of b (chosen (drop i ms) (drop i us))
  those_all =
      ap (λ z. those_of b (chosen z us)) (sym (take-append-drop i ms))
      ∙ (ap (λ z. those_of b (chosen (take i ms ++ drop i ms) z)) (sym (take-append-drop i us))
      ∙ (ap (those_of b) (chosen-append (take i ms) (drop i ms) (take i us) (drop i us) (same_length ms us i each))
      ∙ filter-append (is_of b) (chosen (take i ms) (take i us)) (chosen (drop i ms) (drop i us))))
