-- A punch in place: what stands outside a path, newest last and newest first.
use Rattle.std.proofs.Common.{◌≡◌, true, false, not, List, [], ◌∷◌, ◌++◌, filter, reverse, refl, sym, ◌∙◌, ap, if◌then◌else◌}
use Rattle.std.proofs.lemmas.List.{reverse-append}
use Rattle.base_types.specs.Paths.{leads_to}
use Rattle.base_types.specs.declared.path.Path.{Path}
use Rattle.daos_model.specs.declared.cell.CellValue.{CellValue}
use Rattle.daos_model.specs.Effect.{is_outside, without}

pub without-append : (p : Path) (m n : List CellValue) → without p (m ++ n) ≡ without p m ++ without p n
without-append p [] n = refl
without-append p (v ∷ m) n =
    elim (leads_to p v.cell.path) as (λ b. (if b then without p (m ++ n) else v ∷ without p (m ++ n)) ≡ (if b then without p m else v ∷ without p m) ++ without p n) [
      | true ↦ without-append p m n
      | false ↦ ap (λ (xs : List CellValue). v ∷ xs) (without-append p m n)
    ]

-- what a punch leaves of one cell
pub without-lone : (p : Path) (v : CellValue) → without p (v ∷ []) ≡ reverse (filter (is_outside p) (v ∷ []))
without-lone p v =
    elim (leads_to p v.cell.path) as (λ b. (if b then [] else v ∷ []) ≡ reverse (if not b then v ∷ [] else [])) [ true ↦ refl | false ↦ refl ]

pub filter-cons : (p : Path) (v : CellValue) (m : List CellValue) → filter (is_outside p) (v ∷ m) ≡ filter (is_outside p) (v ∷ []) ++ filter (is_outside p) m
filter-cons p v m =
    elim (leads_to p v.cell.path) as (λ b. (if not b then v ∷ filter (is_outside p) m else filter (is_outside p) m) ≡ (if not b then v ∷ [] else []) ++ filter (is_outside p) m) [ true ↦ refl | false ↦ refl ]

-- the cells outside a path, newest last, are those that a punch leaves of them newest first
pub without-reverse : (p : Path) (m : List CellValue) → without p (reverse m) ≡ reverse (filter (is_outside p) m)
without-reverse p [] = refl
without-reverse p (v ∷ m) =
    ap (without p) (reverse-append (v ∷ []) m) ∙ without-append p (reverse m) (v ∷ [])
    ∙ ap (λ (xs : List CellValue). xs ++ without p (v ∷ [])) (without-reverse p m)
    ∙ ap (λ (xs : List CellValue). reverse (filter (is_outside p) m) ++ xs) (without-lone p v)
    ∙ sym (reverse-append (filter (is_outside p) (v ∷ [])) (filter (is_outside p) m)) ∙ ap reverse (sym (filter-cons p v m))
