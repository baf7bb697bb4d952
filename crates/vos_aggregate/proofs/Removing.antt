-- One version more among those that a plan removes.
use Rattle.std.proofs.Common.{◌≡◌, ℕ, ◌+◌, ◌<◌, Bool, true, false, List, [], ◌∷◌, ◌++◌, length, get_or, drop, filter, map, sym, ◌∙◌, ap, append_assoc}
use Rattle.std.specs.Prelude.{if◌then◌else◌}
use Rattle.std.proofs.lemmas.List.{drop_more, get_or-map}
use Rattle.daos_model.specs.declared.durable.Version.{Version}

module _ (g : Version → Bool) (vs xs : List Version) (i : ℕ) (v : Version) (lt : i < length vs) (is : v ≡ get_or vs i v) where
  due : (b : Bool) → g v ≡ b → filter g (drop i vs) ≡ (if b then v ∷ filter g (drop (i + 1) vs) else filter g (drop (i + 1) vs))
  due b e =
      ap (filter g) (drop_more vs i v lt ∙ ap (λ x. x ∷ drop (i + 1) vs) (sym is))
      ∙ ap (λ (c : Bool). if c then v ∷ filter g (drop (i + 1) vs) else filter g (drop (i + 1) vs)) e

  pub removed-more : (ys all : List Version) (m : Bool) → m ≡ g v → ys ≡ (if m then xs ++ v ∷ [] else xs) → xs ++ filter g (drop i vs) ≡ all → ys ++ filter g (drop (i + 1) vs) ≡ all
  removed-more ys all true e new so =
      ap (λ zs. zs ++ filter g (drop (i + 1) vs)) new ∙ append_assoc xs (v ∷ []) (filter g (drop (i + 1) vs)) ∙ sym (ap (λ zs. xs ++ zs) (due true (sym e))) ∙ so
  removed-more ys all false e new so =
      ap (λ zs. zs ++ filter g (drop (i + 1) vs)) new ∙ sym (ap (λ zs. xs ++ zs) (due false (sym e))) ∙ so

-- what a plan's mark says
pub mark-says : (g : Version → Bool) (vs : List Version) (ms : List Bool) (i : ℕ) (v : Version) → ms ≡ map g vs → i < length vs → v ≡ get_or vs i v → get_or ms i false ≡ g v
mark-says g vs ms i v e lt is = ap (λ xs. get_or xs i false) e ∙ get_or-map g vs i v false lt ∙ ap g (sym is)
