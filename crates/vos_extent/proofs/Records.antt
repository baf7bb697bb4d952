-- The records that indexes hold, one more at a time.
use Rattle.std.proofs.Common.{◌≡◌, ℕ, ◌+◌, ◌<◌, ◌==◌, Bool, true, List, [], ◌∷◌, ◌++◌, length, get_or, take, Option, Some, None, refl, sym, ap, ◌∙◌, arith}
use Rattle.std.specs.Prelude.{IfSome, if◌then◌else◌}
use Rattle.std.proofs.lemmas.Bool.Decides.{nat_tests}
use Rattle.std.proofs.lemmas.List.{map-append, take_more}
use Rattle.daos_model.specs.Answers.{record_of}
use Rattle.vos_extent.specs.declared.cells.Cell.{Cell}
use Rattle.vos_extent.specs.Looks.{record_of_cell, records_of}

pub records_more : (unit : ℕ) (cells : List (Option Cell)) (i : ℕ) → i < length cells → records_of unit (take (i + 1) cells) ≡ records_of unit (take i cells) ++ record_of_cell unit (get_or cells i None) ∷ []
records_more unit cells i lt = ap (records_of unit) (take_more cells i None lt) ∙ map-append (record_of_cell unit) (take i cells) (get_or cells i None ∷ [])

same_true : (a b : ℕ) → a ≡ b → (a == b) ≡ true
same_true a b h = grind (arith, nat_tests)

-- a record of the size is one
pub sized_record : (unit : ℕ) (o x : Option (List ℕ)) → x ≡ o → IfSome x (λ r. length r ≡ unit) → record_of unit o ≡ o
sized_record unit None x e h = refl
sized_record unit (Some r) None e h = absurd (let n : ⊥ = cc in n)
sized_record unit (Some r) (Some s) e h =
    let same : s ≡ r = cc in
    ap (λ (t : Bool). if t then Some r else None) (same_true (length r) unit (ap length (sym same) ∙ h))
