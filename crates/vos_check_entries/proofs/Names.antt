-- What sets have after one more.
use Rattle.std.proofs.Common.{◌≡◌, ℕ, ◌+◌, ◌<◌, ◌==◌, ◌&&◌, ◌||◌, eqb, Bool, true, false, cond, List, [], ◌∷◌, ◌++◌, length, drop, get_or, refl, sym, ap, ◌∙◌, arith, drop-cons, add-one}
use Rattle.std.specs.Prelude.{map}
use Rattle.std.specs.List.{list_any}
use Rattle.std.proofs.lemmas.Bool.Decides.{nat_tests}
use Rattle.daos_model.specs.Durables.{same_attempt}
use Rattle.vos_check.specs.vos_image.Nodes.{is_of}
use Rattle.vos_check.specs.vos_image.Steps.{is_among}
use Rattle.vos_check.specs.declared.node.NodeRow.{NodeRow}
use Rattle.vos_check_entries.specs.declared.entry.Lister.{Lister}
use Rattle.vos_check_entries.specs.Nodes.{NodeName, is_node, node_in, node_name, same_node_name}

-- ---- names

eqb_swap : (a b : ℕ) → eqb a b ≡ eqb b a
eqb_swap a b = grind (arith, nat_tests)

name_swap : (a b : NodeName) → same_node_name a b ≡ same_node_name b a
name_swap a b = let p = eqb_swap a.0.0 b.0.0 in let q = eqb_swap a.0.1 b.0.1 in let r = eqb_swap a.1.0.0 b.1.0.0 in let s = eqb_swap a.1.0.1 b.1.0.1 in let t = eqb_swap a.1.1 b.1.1 in rw (p, q, r, s, t) refl

-- a set has names, and those that are left make all
abbrev pub NamesSoFar : (NodeName → Bool) → List NodeRow → List NodeRow → Type 0
NamesSoFar has rest all = (k : NodeName) → (has k || list_any (same_node_name k) (map node_name rest)) ≡ list_any (same_node_name k) (map node_name all)

pub names_start : (has : NodeName → Bool) (all : List NodeRow) → ((k : NodeName) → has k ≡ false) → NamesSoFar has all all
names_start has all none k = ap (λ t. t || list_any (same_node_name k) (map node_name all)) (none k)

moved_in : (h s t : Bool) → (cond s true h || t) ≡ (h || (s || t))
moved_in true true t = refl
moved_in true false t = refl
moved_in false true t = refl
moved_in false false t = refl

pub names_more : (has more : NodeName → Bool) (row : NodeRow) (rest all : List NodeRow) → ((q : NodeName) → more q ≡ cond (same_node_name (node_name row) q) true (has q)) → NamesSoFar has (row ∷ rest) all → NamesSoFar more rest all
names_more has more row rest all added so_far k =
    ap (λ t. t || list_any (same_node_name k) (map node_name rest)) (added k ∙ ap (λ t. cond t true (has k)) (name_swap (node_name row) k))
    ∙ (moved_in (has k) (same_node_name k (node_name row)) (list_any (same_node_name k) (map node_name rest)) ∙ so_far k)

or_none : (t : Bool) → (t || false) ≡ t
or_none true = refl
or_none false = refl

pub names_all : (has : NodeName → Bool) (all : List NodeRow) → NamesSoFar has [] all → (k : NodeName) → has k ≡ list_any (same_node_name k) (map node_name all)
names_all has all so_far k = sym (or_none (has k)) ∙ so_far k

pub next_row : (rows : List NodeRow) (i : ℕ) (d : NodeRow) → i < length rows → drop i rows ≡ get_or rows i d ∷ drop (i + 1) rows
next_row rows i d lt = rw (drop-cons rows i d lt, add-one) refl

-- ---- nodes

by_fields : (b e c m t : Bool) → ((b && e) && ((c && m) && t)) ≡ (b && (((c && m) && t) && e))
by_fields true e c m t = swap e ((c && m) && t)
  where
    swap : (x y : Bool) → (x && y) ≡ (y && x)
    swap true true = refl
    swap true false = refl
    swap false true = refl
    swap false false = refl
by_fields false e c m t = refl

same_node : (of : Lister) (b : ℕ) (r : NodeRow) → same_node_name (node_name (record { block = b; by = of.attempt; epoch = of.epoch })) (node_name r) ≡ is_of of.attempt of.epoch b (node_in r)
unfolding same_attempt
same_node of b r =
    let p = eqb_swap b r.block in
    let q = eqb_swap of.epoch.0 r.epoch.0 in
    let s = eqb_swap of.attempt.client r.by.client in
    let t = eqb_swap of.attempt.command r.by.command in
    let u = eqb_swap of.attempt.attempt r.by.attempt in
    rw (p, q, s, t, u) (by_fields (eqb r.block b) (eqb r.epoch.0 of.epoch.0) (eqb r.by.client of.attempt.client) (eqb r.by.command of.attempt.command) (eqb r.by.attempt of.attempt.attempt))

pub node_there : (of : Lister) (b : ℕ) (rows : List NodeRow) → list_any (same_node_name (node_name (record { block = b; by = of.attempt; epoch = of.epoch }))) (map node_name rows) ≡ is_node (map node_in rows) of b
node_there of b [] = refl
node_there of b (r ∷ rows) = ap (λ t. t || list_any (same_node_name (node_name (record { block = b; by = of.attempt; epoch = of.epoch }))) (map node_name rows)) (same_node of b r) ∙ ap (λ t. is_of of.attempt of.epoch b (node_in r) || t) (node_there of b rows)

-- ---- numbers

pub among_more : (k n : ℕ) (xs : List ℕ) → is_among k (xs ++ n ∷ []) ≡ cond (n == k) true (is_among k xs)
among_more k n [] = by (k == n) (n == k) (eqb_swap k n)
  where
    by : (s t : Bool) → s ≡ t → (s || false) ≡ cond t true false
    by true t e = rw (sym e) refl
    by false t e = rw (sym e) refl
among_more k n (x ∷ xs) = ap (λ t. (k == x) || t) (among_more k n xs) ∙ by (k == x) (n == k) (is_among k xs)
  where
    by : (s t a : Bool) → (s || cond t true a) ≡ cond t true (s || a)
    by true true a = refl
    by true false a = refl
    by false true a = refl
    by false false a = refl
