-- What a set of names of prepared entries tells of versions.
use Rattle.std.proofs.Common.{◌≡◌, ℕ, ◌+◌, ◌<◌, ◌&&◌, ◌||◌, eqb, Bool, true, false, not, cond, List, [], ◌∷◌, length, drop, get_or, refl, sym, ap, ◌∙◌, arith, drop-cons, add-one}
use Rattle.std.specs.List.{list_any}
use Rattle.std.specs.HashSet.{HashSet, contains}
use Rattle.std.proofs.lemmas.Bool.Decides.{nat_tests}
use Rattle.base_types.specs.declared.entry.Entry.{Entry}
use Rattle.daos_model.specs.declared.durable.Version.{Version}
use Rattle.daos_model.specs.Durables.{same_attempt}
use Rattle.vos_check_entries.specs.declared.entry.EntryRow.{EntryRow}
use Rattle.vos_counting.specs.Counting.{EntryName, HasPrepared, entries_of, entry_name, is_prepared_as, same_entry_name, version_name}
use Rattle.vos_image.specs.Kept.{counts, is_prepared_for}

eqb_swap : (a b : ℕ) → eqb a b ≡ eqb b a
eqb_swap a b = grind (arith, nat_tests)

name_swap : (a b : EntryName) → same_entry_name a b ≡ same_entry_name b a
name_swap a b = let p = eqb_swap a.0.0 b.0.0 in let q = eqb_swap a.0.1 b.0.1 in let r = eqb_swap a.1.0 b.1.0 in let s = eqb_swap a.1.1 b.1.1 in rw (p, q, r, s) refl

-- ---- a set of names

-- a set has names, and the rows that are left make all
abbrev pub NamesSoFar : (EntryName → Bool) → List EntryRow → List EntryRow → Type 0
NamesSoFar has rest all = (k : EntryName) → (has k || list_any (is_prepared_as k) (entries_of rest)) ≡ list_any (is_prepared_as k) (entries_of all)

pub names_start : (has : EntryName → Bool) (all : List EntryRow) → ((k : EntryName) → has k ≡ false) → NamesSoFar has all all
names_start has all none k = ap (λ t. t || list_any (is_prepared_as k) (entries_of all)) (none k)

-- a committed entry adds none
pub names_same : (has : EntryName → Bool) (row : EntryRow) (rest all : List EntryRow) → row.entry.committed ≡ true → NamesSoFar has (row ∷ rest) all → NamesSoFar has rest all
names_same has row rest all done so_far k =
    sym (ap (λ t. has k || ((not t && same_entry_name k (entry_name row.entry.attempt row.entry.epoch)) || list_any (is_prepared_as k) (entries_of rest))) done) ∙ so_far k

moved_in : (h s t : Bool) → (cond s true h || t) ≡ (h || (s || t))
moved_in true true t = refl
moved_in true false t = refl
moved_in false true t = refl
moved_in false false t = refl

-- a prepared one adds its own
pub names_more : (has more : EntryName → Bool) (row : EntryRow) (rest all : List EntryRow) → row.entry.committed ≡ false
    → ((q : EntryName) → more q ≡ cond (same_entry_name (entry_name row.entry.attempt row.entry.epoch) q) true (has q)) → NamesSoFar has (row ∷ rest) all → NamesSoFar more rest all
names_more has more row rest all prepared added so_far k =
    let name = entry_name row.entry.attempt row.entry.epoch in
    let others = list_any (is_prepared_as k) (entries_of rest) in
    ap (λ t. t || others) (added k ∙ ap (λ t. cond t true (has k)) (name_swap name k))
    ∙ (moved_in (has k) (same_entry_name k name) others
    ∙ (sym (ap (λ t. has k || ((not t && same_entry_name k name) || others)) prepared) ∙ so_far k))

or_none : (t : Bool) → (t || false) ≡ t
or_none true = refl
or_none false = refl

pub names_all : (has : EntryName → Bool) (all : List EntryRow) → NamesSoFar has [] all → (k : EntryName) → has k ≡ list_any (is_prepared_as k) (entries_of all)
names_all has all so_far k = sym (or_none (has k)) ∙ so_far k

pub next_row : {A : Type 0} (rows : List A) (i : ℕ) (d : A) → i < length rows → drop i rows ≡ get_or rows i d ∷ drop (i + 1) rows
next_row rows i d lt = rw (drop-cons rows i d lt, add-one) refl

pub next_item : {A : Type 0} (xs : List A) (i : ℕ) (x : A) → i < length xs → x ≡ get_or xs i x → drop i xs ≡ x ∷ drop (i + 1) xs
next_item xs i x lt is = next_row xs i x lt ∙ ap (λ y. y ∷ drop (i + 1) xs) (sym is)

-- ---- versions

by_fields : (p c m t e : Bool) → (p && ((c && m) && (t && e))) ≡ (((c && m) && t) && (e && p))
by_fields true true true t true = ends t
  where
    ends : (t : Bool) → (t && true) ≡ (t && true)
    ends t = refl
by_fields true true true t false = ends t
  where
    ends : (t : Bool) → (t && false) ≡ (t && false)
    ends t = refl
by_fields true true false t e = refl
by_fields true false m t e = refl
by_fields false c m t e = never ((c && m) && t) e
  where
    never : (x e : Bool) → false ≡ (x && (e && false))
    never true true = refl
    never true false = refl
    never false e = refl

one_prepared : (v : Version) (e : Entry) → is_prepared_as (version_name v) e ≡ is_prepared_for v e
unfolding same_attempt
one_prepared v e =
    let p = eqb_swap v.by.client e.attempt.client in
    let q = eqb_swap v.by.command e.attempt.command in
    let r = eqb_swap v.by.attempt e.attempt.attempt in
    let s = eqb_swap v.epoch.0 e.epoch.0 in
    rw (p, q, r, s) (by_fields (not e.committed) (eqb e.attempt.client v.by.client) (eqb e.attempt.command v.by.command) (eqb e.attempt.attempt v.by.attempt) (eqb e.epoch.0 v.epoch.0))

some_prepared : (v : Version) (es : List Entry) → list_any (is_prepared_as (version_name v)) es ≡ list_any (is_prepared_for v) es
some_prepared v [] = refl
some_prepared v (e ∷ es) = ap (λ t. t || list_any (is_prepared_as (version_name v)) es) (one_prepared v e) ∙ ap (λ t. is_prepared_for v e || t) (some_prepared v es)

-- with the names of the prepared entries those count that are done or have one of the names
pub counts_so : {H : Type 0} (names : HashSet EntryName H) (es : List Entry) → HasPrepared names es → (v : Version) → (v.done || contains same_entry_name names (version_name v)) ≡ counts es v
unfolding counts
counts_so names es has v = ap (λ t. v.done || t) (has (version_name v) ∙ some_prepared v es)
