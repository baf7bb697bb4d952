-- What a write makes of one cell.
use Rattle.std.specs.Prelude.{ℕ, ◌≡◌, Bool, true, false, ◌||◌, List, [], ◌∷◌, ◌++◌, Option, Some, None, if◌then◌else◌, refl}
use Rattle.std.specs.List.{list_any}
use Rattle.std.proofs.Common.{sym, ◌∙◌, ap}
use Rattle.base_types.specs.declared.operation.Write.{Write}
use Rattle.base_types.specs.declared.operation.Write.TheVariants.{Single, Extent, PunchObject, PunchDkey, PunchAkey}
use Rattle.base_types.specs.declared.path.Path.{Path}
use Rattle.base_types.specs.Paths.{leads_to}
use Rattle.daos_model.specs.declared.cell.Cell.{Cell}
use Rattle.daos_model.specs.declared.cell.CellValue.{CellValue}
use Rattle.daos_model.specs.BoolLaws.{clash}
use Rattle.daos_model.specs.Cells.{is_of, same_cell, single_cell, value_at}
use Rattle.daos_model.specs.Effect.{effect, effects, extent_cells, without}
use Rattle.daos_model.specs.Prunes.{touches, values_of}
use Rattle.daos_model.specs.Sameness.{same_cell-Decides}

-- what a cell holds after a write, by what it held before: what the write says, or else the same
abbrev pub after_write : Cell → Write → Option (List ℕ) → Option (List ℕ)
after_write c w held = if touches c w then value_at (values_of w) c else held

-- a write tells what each cell holds after it, by what that cell held before
abbrev pub WritesActOnCells : Type 0
WritesActOnCells = (c : Cell) (w : Write) (m : List CellValue) → value_at (effect w m) c ≡ after_write c w (value_at m c)

-- of two parts of a list the first decides the cells that it has
value-append : (xs m : List CellValue) (c : Cell) → value_at (xs ++ m) c ≡ (if list_any (is_of c) xs then value_at xs c else value_at m c)
value-append [] m c = refl
value-append (v ∷ xs) m c =
    elim (same_cell v.cell c) as (λ b. (if b then Some v.bytes else value_at (xs ++ m) c) ≡ (if b || list_any (is_of c) xs then (if b then Some v.bytes else value_at xs c) else value_at m c)) [
      | true ↦ refl
      | false ↦ value-append xs m c
    ]

-- a punch leaves nothing at the cells under its path
value-without : (p : Path) (m : List CellValue) (c : Cell) → value_at (without p m) c ≡ (if leads_to p c.path then None else value_at m c)
value-without p [] c = nothing (leads_to p c.path)
  where
    nothing : (b : Bool) → value_at [] c ≡ (if b then None else value_at [] c)
    nothing true = refl
    nothing false = refl
value-without p (v ∷ m) c = by (leads_to p v.cell.path) (same_cell v.cell c) (leads_to p c.path) refl refl refl (value-without p m c)
  where
    at_cell : same_cell v.cell c ≡ true → leads_to p v.cell.path ≡ leads_to p c.path
    at_cell e = ap (λ d. leads_to p d.path) ((same_cell-Decides v.cell c).0 e)

    by : (a s t : Bool) → leads_to p v.cell.path ≡ a → same_cell v.cell c ≡ s → leads_to p c.path ≡ t → value_at (without p m) c ≡ (if t then None else value_at m c)
        → value_at (if a then without p m else v ∷ without p m) c ≡ (if t then None else (if s then Some v.bytes else value_at m c))
    by true true true e f g h = h
    by true true false e f g h = clash (leads_to p v.cell.path) e (at_cell f ∙ g)
    by true false true e f g h = h
    by true false false e f g h = h
    by false true true e f g h = clash (leads_to p c.path) g (sym (at_cell f) ∙ e)
    by false true false e f g h = ap (λ b. if b then Some v.bytes else value_at (without p m) c) f
    by false false true e f g h = ap (λ b. if b then Some v.bytes else value_at (without p m) c) f ∙ h
    by false false false e f g h = ap (λ b. if b then Some v.bytes else value_at (without p m) c) f ∙ h

pub value-effect : WritesActOnCells
unfolding touches
value-effect c (Single p bytes) m = value-append (record { cell = single_cell p; bytes = bytes } ∷ []) m c
value-effect c (Extent p low bytes) m = value-append (extent_cells p low bytes) m c
value-effect c (PunchObject p) m = value-without p m c
value-effect c (PunchDkey p) m = value-without p m c
value-effect c (PunchAkey p) m = value-without p m c

-- writes run in parts
pub effects-append : (ws us : List Write) (m : List CellValue) → effects (ws ++ us) m ≡ effects us (effects ws m)
effects-append [] us m = refl
effects-append (w ∷ ws) us m = effects-append ws us (effect w m)

-- what a cell holds after writes depends on what it held before
pub effects-same : (ws : List Write) (m n : List CellValue) (c : Cell) → value_at m c ≡ value_at n c → value_at (effects ws m) c ≡ value_at (effects ws n) c
effects-same [] m n c e = e
effects-same (w ∷ ws) m n c e = effects-same ws (effect w m) (effect w n) c (value-effect c w m ∙ ap (after_write c w) e ∙ sym (value-effect c w n))
