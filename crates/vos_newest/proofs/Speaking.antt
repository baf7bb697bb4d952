-- What a cell holds is what the newest version says that touches it.
use Rattle.std.proofs.Common.{◌≡◌, ℕ, Bool, true, false, ◌&&◌, List, [], ◌∷◌, Option, Some, None, refl, sym, ap, ◌∙◌}
use Rattle.std.specs.Prelude.{if◌then◌else◌, is_some}
use Rattle.daos_model.specs.Cells.{value_at}
use Rattle.daos_model.specs.Durables.{version_key}
use Rattle.daos_model.specs.Ordered.{in_order}
use Rattle.daos_model.specs.Prunes.{is_punch, touches, values_of}
use Rattle.daos_model.specs.Versions.{map_below, sees}
use Rattle.daos_model.specs.declared.cell.Cell.{Cell}
use Rattle.daos_model.specs.declared.durable.Version.{Version}
use Rattle.base_types.specs.declared.operation.Write.{Write}
use Rattle.base_types.specs.Operations.{write_path}
use Rattle.base_types.specs.Paths.{leads_to}
use Rattle.daos_model.proofs.Said.{Word, or_before, or_else as or_word, said, some_bytes, value_at-map_below, word, word-none, word-punch, word-some}
use Rattle.vos_newest.specs.Newest.{if_passes, newest, speaks, told}
use Rattle.vos_newest.proofs.Greatest.{last_in_order, last_of, or_else}

-- the word of a version, if there is one
abbrev word_of : Cell → Option Version → Word
word_of c None = None
word_of c (Some v) = word c v.write

-- a write that doesn't touch a cell has no word of it, and one that does has one
silent : (c : Cell) (w : Write) → touches c w ≡ false → word c w ≡ None
silent c w h = by (is_punch w) refl
  where
    by : (k : Bool) → is_punch w ≡ k → word c w ≡ None
    by true e = word-punch c w e ∙ ap (λ (b : Bool). if b then Some None else None) h
    by false e = word-none c w e h

loud : (c : Cell) (w : Write) (x : Word) → touches c w ≡ true → or_word (word c w) x ≡ word c w
loud c w x h = by (is_punch w) refl
  where
    some : (y : Word) → is_some y ≡ true → or_word y x ≡ y
    some None e = absurd (let n : ⊥ = cc in n)
    some (Some z) e = refl

    by : (k : Bool) → is_punch w ≡ k → or_word (word c w) x ≡ word c w
    by true e = let is = word-punch c w e ∙ ap (λ (b : Bool). if b then Some None else None) h in some (word c w) (ap is_some is)
    by false e = some (word c w) (word-some c w e h)

no_more : (y : Word) → or_word y None ≡ y
no_more None = refl
no_more (Some z) = refl

-- the last that speaks touches the cell
last_touches : (e : ℕ) (c : Cell) (vs : List Version) (u : Version) → last_of (speaks e c) vs ≡ Some u → touches c u.write ≡ true
last_touches e c [] u h = absurd (let n : ⊥ = cc in n)
last_touches e c (v ∷ vs) u h = by (last_of (speaks e c) vs) (sees e v) (touches c v.write) refl h (last_touches e c vs u)
  where
    inside : (a b : Version) → Some a ≡ Some b → a ≡ b
    inside a b q = cc

    by : (x : Option Version) (s t : Bool) → touches c v.write ≡ t → or_else x (if s && t then Some v else None) ≡ Some u → (x ≡ Some u → touches c u.write ≡ true) → touches c u.write ≡ true
    by (Some y) s t k f r = r f
    by None true true k f r = ap (λ z. touches c z.write) (sym (inside v u f)) ∙ k
    by None true false k f r = absurd (let n : ⊥ = cc in n)
    by None false t k f r = absurd (let n : ⊥ = cc in n)

last_said : (e : ℕ) (c : Cell) (vs : List Version) → said (sees e) c vs ≡ word_of c (last_of (speaks e c) vs)
last_said e c [] = refl
last_said e c (v ∷ vs) = by (sees e v) (touches c v.write) refl (last_said e c vs)
  where
    keep : (x : Option Version) → or_word (word_of c x) None ≡ word_of c (or_else x None)
    keep None = refl
    keep (Some u) = no_more (word c u.write)

    heard : (x : Option Version) → touches c v.write ≡ true → (e2 : (u : Version) → x ≡ Some u → touches c u.write ≡ true) → or_word (word_of c x) (word c v.write) ≡ word_of c (or_else x (Some v))
    heard None h e2 = refl
    heard (Some u) h e2 = loud c u.write (word c v.write) (e2 u refl)

    by : (s t : Bool) → touches c v.write ≡ t → said (sees e) c vs ≡ word_of c (last_of (speaks e c) vs) → (if s then or_word (said (sees e) c vs) (word c v.write) else said (sees e) c vs) ≡ word_of c (or_else (last_of (speaks e c) vs) (if s && t then Some v else None))
    by false t h r = r ∙ (sym (no_more (word_of c (last_of (speaks e c) vs))) ∙ keep (last_of (speaks e c) vs))
    by true false h r = ap (λ z. or_word (said (sees e) c vs) z) (silent c v.write h) ∙ (no_more (said (sees e) c vs) ∙ (r ∙ (sym (no_more (word_of c (last_of (speaks e c) vs))) ∙ keep (last_of (speaks e c) vs))))
    by true true h r = ap (λ z. or_word z (word c v.write)) r ∙ heard (last_of (speaks e c) vs) h (λ u f. last_touches e c vs u f)

word_update : (c : Cell) (w : Write) → is_punch w ≡ false → word c w ≡ some_bytes (value_at (values_of w) c)
unfolding word
word_update c w k = ap (λ (b : Bool). if b then (if leads_to (write_path w) c.path then Some None else None) else some_bytes (value_at (values_of w) c)) k

told_is : (c : Cell) (x : Option Version) → ((u : Version) → x ≡ Some u → touches c u.write ≡ true) → or_before (word_of c x) None ≡ told c x
told_is c None h = refl
told_is c (Some v) h = by (is_punch v.write) refl
  where
    back : (y : Option (List ℕ)) → or_before (some_bytes y) None ≡ y
    back None = refl
    back (Some b) = refl

    by : (k : Bool) → is_punch v.write ≡ k → or_before (word c v.write) None ≡ (if k then None else value_at (values_of v.write) c)
    by true e = ap (λ z. or_before z None) (word-punch c v.write e ∙ ap (λ (b : Bool). if b then Some None else None) (h v refl))
    by false e = ap (λ z. or_before z None) (word_update c v.write e) ∙ back (value_at (values_of v.write) c)

pub cell_holds : (vs : List Version) (e : ℕ) (c : Cell) → value_at (map_below (in_order version_key vs) e) c ≡ told c (newest version_key (speaks e c) vs)
cell_holds vs e c =
    value_at-map_below (in_order version_key vs) e c
    ∙ (ap (λ z. or_before z None) (last_said e c (in_order version_key vs))
    ∙ (told_is c (last_of (speaks e c) (in_order version_key vs)) (λ u f. last_touches e c (in_order version_key vs) u f)
    ∙ ap (told c) (last_in_order version_key (speaks e c) vs)))
