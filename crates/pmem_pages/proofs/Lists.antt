-- Lists of entries: how often a block stands in them, and keys that rise.
use Rattle.std.proofs.Common.{◌≡◌, ◌≢◌, ℕ, ◌+◌, List, [], ◌∷◌, ◌++◌, length, Option, Some, None, refl, sym, ap, ◌∙◌, arith, ◌⊎◌, inl, inr}
use Rattle.std.specs.declared.cmp.Ordering.{Ordering}
use Rattle.std.specs.declared.cmp.Ordering.TheVariants.{Less, Equal, Greater}
use Rattle.std.specs.Ordering.{ordering_reverse}
use Rattle.std.specs.Cmp.{IsTotalOrder}
use Rattle.std.proofs.lemmas.Cmp.{nat_list_cmp_total, on_total, alike_right}
use Rattle.pmem_pages.specs.Owners.{times, times-append}
use Rattle.pmem_pages.specs.Counts.{times_none, times_one, times_own, times_other}
use Rattle.pmem_pages.specs.declared.node.TreeKey.{TreeKey}
use Rattle.pmem_pages.specs.declared.node.Value.{Value}
use Rattle.pmem_pages.specs.Node.{key_cmp, key_text}
use Rattle.pmem_pages.specs.Owned.{blocks-append}
use Rattle.pmem_pages.specs.Shape.{Entry, blocks_of, count, AllBelow, AllAbove, Rises, chosen, entry_at, first_above, last_under, or_this, inserted, removed, valued}

pub count-append : (q : ℕ) (xs ys : List Entry) → count q (xs ++ ys) ≡ count q xs + count q ys
unfolding count
count-append q xs ys = ap (times q) (blocks-append xs ys) ∙ times-append q (blocks_of xs) (blocks_of ys)

pub count_none : (q : ℕ) → count q [] ≡ 0
unfolding count
count_none q = times_none q

pub count_one : (q : ℕ) (e : Entry) (es : List Entry) → count q (e ∷ es) ≡ count q (e ∷ []) + count q es
unfolding count
count_one q e es = times_one q e.block (blocks_of es)

pub count_own : (e : Entry) → count e.block (e ∷ []) ≡ 1
unfolding count
count_own e = times_own e.block

pub count_other : (q : ℕ) (e : Entry) → q ≢ e.block → count q (e ∷ []) ≡ 0
unfolding count
count_other q e ne = times_other q e.block ne

-- the whole, by its parts
pub count_parts : (q : ℕ) (xs : List Entry) (e : Entry) (ys : List Entry) → count q (xs ++ e ∷ ys) ≡ count q xs + (count q (e ∷ []) + count q ys)
count_parts q xs e ys = omega (arith, count-append q xs (e ∷ ys), count_one q e ys)

pub length_blocks : (es : List Entry) → length (blocks_of es) ≡ length es
length_blocks [] = refl
length_blocks (e ∷ es) = omega (arith, length_blocks es)

pub key_total : IsTotalOrder key_cmp
unfolding key_cmp
key_total = on_total key_text nat_list_cmp_total

pub below_flip : (a b : TreeKey) → key_cmp a b ≡ Greater → key_cmp b a ≡ Less
below_flip a b h = key_total.antisymm b a ∙ ap ordering_reverse h

pub AllBelow-front : (k : TreeKey) (xs ys : List Entry) → AllBelow k (xs ++ ys) → AllBelow k xs
AllBelow-front k [] ys h = tt
AllBelow-front k (x ∷ xs) ys h = (h.0, AllBelow-front k xs ys h.1)

pub AllAbove-front : (k : TreeKey) (xs ys : List Entry) → AllAbove k (xs ++ ys) → AllAbove k xs
AllAbove-front k [] ys h = tt
AllAbove-front k (x ∷ xs) ys h = (h.0, AllAbove-front k xs ys h.1)

pub AllAbove-back : (k : TreeKey) (xs ys : List Entry) → AllAbove k (xs ++ ys) → AllAbove k ys
AllAbove-back k [] ys h = h
AllAbove-back k (x ∷ xs) ys h = AllAbove-back k xs ys h.1

pub AllAbove-lower : (j k : TreeKey) (xs : List Entry) → key_cmp j k ≡ Less → AllAbove k xs → AllAbove j xs
AllAbove-lower j k [] b h = tt
AllAbove-lower j k (x ∷ xs) b h = (key_total.trans j k x.key b h.0, AllAbove-lower j k xs b h.1)

pub Rises-front : (xs ys : List Entry) → Rises (xs ++ ys) → Rises xs
Rises-front [] ys h = tt
Rises-front (x ∷ xs) ys h = (AllAbove-front x.key xs ys h.0, Rises-front xs ys h.1)

pub Rises-back : (xs ys : List Entry) → Rises (xs ++ ys) → Rises ys
Rises-back [] ys h = h
Rises-back (x ∷ xs) ys h = Rises-back xs ys h.1

-- what stands before an entry is below it
pub Rises-below : (xs : List Entry) (e : Entry) (ys : List Entry) → Rises (xs ++ e ∷ ys) → AllBelow e.key xs
Rises-below [] e ys h = tt
Rises-below (x ∷ xs) e ys h = ((AllAbove-back x.key xs (e ∷ ys) h.0).0, Rises-below xs e ys h.1)

-- a look-up and an insert go to the side where the key belongs
pub entry_at_left : (k : TreeKey) (xs : List Entry) (e : Entry) (ys : List Entry) → key_cmp k e.key ≡ Less → entry_at k (xs ++ e ∷ ys) ≡ entry_at k xs
entry_at_left k [] e ys h = rw h refl
entry_at_left k (x ∷ xs) e ys h = ap (λ v. chosen (key_cmp k x.key) None (Some x) v) (entry_at_left k xs e ys h)

pub entry_at_past : (k : TreeKey) (xs ys : List Entry) → AllBelow k xs → entry_at k (xs ++ ys) ≡ entry_at k ys
entry_at_past k [] ys b = refl
entry_at_past k (x ∷ xs) ys b = rw (key_total.antisymm k x.key ∙ ap ordering_reverse b.0) (entry_at_past k xs ys b.1)

pub inserted_left : (x : Entry) (xs : List Entry) (e : Entry) (ys : List Entry) → key_cmp x.key e.key ≡ Less → inserted x (xs ++ e ∷ ys) ≡ inserted x xs ++ e ∷ ys
inserted_left x [] e ys h = rw h refl
inserted_left x (f ∷ xs) e ys h =
    elim (key_cmp x.key f.key) as (λ o. chosen o (x ∷ f ∷ (xs ++ e ∷ ys)) (f ∷ (xs ++ e ∷ ys)) (f ∷ inserted x (xs ++ e ∷ ys)) ≡ chosen o (x ∷ f ∷ xs) (f ∷ xs) (f ∷ inserted x xs) ++ e ∷ ys) [
      | Less ↦ refl
      | Equal ↦ refl
      | Greater ↦ ap (λ l. f ∷ l) (inserted_left x xs e ys h)
    ]

pub inserted_past : (x : Entry) (xs ys : List Entry) → AllBelow x.key xs → inserted x (xs ++ ys) ≡ xs ++ inserted x ys
inserted_past x [] ys b = refl
inserted_past x (f ∷ xs) ys b = rw (key_total.antisymm x.key f.key ∙ ap ordering_reverse b.0) (ap (λ l. f ∷ l) (inserted_past x xs ys b.1))

-- what is below a lower key is below a higher one
pub AllBelow-higher : (j k : TreeKey) (xs : List Entry) → key_cmp j k ≡ Less → AllBelow j xs → AllBelow k xs
AllBelow-higher j k [] b h = tt
AllBelow-higher j k (x ∷ xs) b h = (key_total.trans x.key j k h.0 b, AllBelow-higher j k xs b h.1)

pub AllBelow-alike : (j k : TreeKey) (xs : List Entry) → key_cmp j k ≡ Equal → AllBelow j xs → AllBelow k xs
AllBelow-alike j k [] e h = tt
AllBelow-alike j k (x ∷ xs) e h = (sym (alike_right key_total j k x.key e) ∙ h.0, AllBelow-alike j k xs e h.1)

-- a new key adds its block
pub count_inserted : (q : ℕ) (x : Entry) (xs : List Entry) → entry_at x.key xs ≡ None → count q (inserted x xs) ≡ count q (x ∷ []) + count q xs
count_inserted q x [] h = omega (arith, count_none q)
count_inserted q x (f ∷ xs) h =
    elim (key_cmp x.key f.key) as (λ o. chosen o None (Some f) (entry_at x.key xs) ≡ None → count q (chosen o (x ∷ f ∷ xs) (f ∷ xs) (f ∷ inserted x xs)) ≡ count q (x ∷ []) + count q (f ∷ xs)) [
      | Less ↦ λ n. count_one q x (f ∷ xs)
      | Equal ↦ λ n. absurd (cc)
      | Greater ↦ λ n. omega (arith, count_one q f (inserted x xs), count_one q f xs, count_inserted q x xs n)
    ] h

-- the first above a key that is below an entry
pub first_above_left : (k : TreeKey) (xs : List Entry) (e : Entry) (ys : List Entry) → key_cmp k e.key ≡ Less → first_above k (xs ++ e ∷ ys) ≡ Some (or_this (first_above k xs) e)
first_above_left k [] e ys h = rw h refl
first_above_left k (x ∷ xs) e ys h =
    elim (key_cmp k x.key) as (λ o. chosen o (Some x) (first_above k (xs ++ e ∷ ys)) (first_above k (xs ++ e ∷ ys)) ≡ Some (or_this (chosen o (Some x) (first_above k xs) (first_above k xs)) e)) [
      | Less ↦ refl
      | Equal ↦ first_above_left k xs e ys h
      | Greater ↦ first_above_left k xs e ys h
    ]

-- .. and that is above all before
pub first_above_past : (k : TreeKey) (xs ys : List Entry) → AllBelow k xs → first_above k (xs ++ ys) ≡ first_above k ys
first_above_past k [] ys b = refl
first_above_past k (x ∷ xs) ys b = rw (key_total.antisymm k x.key ∙ ap ordering_reverse b.0) (first_above_past k xs ys b.1)

-- the last below a key that is above an entry
pub last_under_past : (k : TreeKey) (xs : List Entry) (e : Entry) (ys : List Entry) → AllBelow k xs → key_cmp k e.key ≡ Greater → last_under k (xs ++ e ∷ ys) ≡ Some (or_this (last_under k ys) e)
last_under_past k [] e ys b h = rw h refl
last_under_past k (x ∷ xs) e ys b h = rw (key_total.antisymm k x.key ∙ ap ordering_reverse b.0, last_under_past k xs e ys b.1 h) refl

-- .. and that is not above it
pub last_under_left : (k : TreeKey) (xs : List Entry) (e : Entry) (ys : List Entry) → ((key_cmp k e.key ≡ Less) ⊎ (key_cmp k e.key ≡ Equal)) → last_under k (xs ++ e ∷ ys) ≡ last_under k xs
last_under_left k [] e ys (inl h) = rw h refl
last_under_left k [] e ys (inr h) = rw h refl
last_under_left k (x ∷ xs) e ys h = ap (λ (v : Option Entry). chosen (key_cmp k x.key) None None (Some (or_this v x))) (last_under_left k xs e ys h)

-- another value at a key
pub valued_left : (k : TreeKey) (v : Value) (xs : List Entry) (e : Entry) (ys : List Entry) → key_cmp k e.key ≡ Less → valued k v (xs ++ e ∷ ys) ≡ valued k v xs ++ e ∷ ys
valued_left k v [] e ys h = rw h refl
valued_left k v (f ∷ xs) e ys h =
    elim (key_cmp k f.key) as (λ o. chosen o (f ∷ (xs ++ e ∷ ys)) (record { block = f.block; key = f.key; value = v } ∷ (xs ++ e ∷ ys)) (f ∷ valued k v (xs ++ e ∷ ys)) ≡ chosen o (f ∷ xs) (record { block = f.block; key = f.key; value = v } ∷ xs) (f ∷ valued k v xs) ++ e ∷ ys) [
      | Less ↦ refl
      | Equal ↦ refl
      | Greater ↦ ap (λ l. f ∷ l) (valued_left k v xs e ys h)
    ]

pub valued_past : (k : TreeKey) (v : Value) (xs ys : List Entry) → AllBelow k xs → valued k v (xs ++ ys) ≡ xs ++ valued k v ys
valued_past k v [] ys b = refl
valued_past k v (f ∷ xs) ys b = rw (key_total.antisymm k f.key ∙ ap ordering_reverse b.0) (ap (λ l. f ∷ l) (valued_past k v xs ys b.1))

pub blocks_valued : (k : TreeKey) (v : Value) (es : List Entry) → blocks_of (valued k v es) ≡ blocks_of es
blocks_valued k v [] = refl
blocks_valued k v (f ∷ es) =
    elim (key_cmp k f.key) as (λ o. blocks_of (chosen o (f ∷ es) (record { block = f.block; key = f.key; value = v } ∷ es) (f ∷ valued k v es)) ≡ f.block ∷ blocks_of es) [
      | Less ↦ refl
      | Equal ↦ refl
      | Greater ↦ ap (λ (bs : List ℕ). f.block ∷ bs) (blocks_valued k v es)
    ]

-- keys rise as before where one has another value
above_valued : (j k : TreeKey) (v : Value) (es : List Entry) → AllAbove j es → AllAbove j (valued k v es)
above_valued j k v [] h = tt
above_valued j k v (f ∷ es) h =
    elim (key_cmp k f.key) as (λ o. AllAbove j (chosen o (f ∷ es) (record { block = f.block; key = f.key; value = v } ∷ es) (f ∷ valued k v es))) [
      | Less ↦ h
      | Equal ↦ h
      | Greater ↦ (h.0, above_valued j k v es h.1)
    ]

pub rises_valued : (k : TreeKey) (v : Value) (es : List Entry) → Rises es → Rises (valued k v es)
rises_valued k v [] h = tt
rises_valued k v (f ∷ es) h =
    elim (key_cmp k f.key) as (λ o. Rises (chosen o (f ∷ es) (record { block = f.block; key = f.key; value = v } ∷ es) (f ∷ valued k v es))) [
      | Less ↦ h
      | Equal ↦ h
      | Greater ↦ (above_valued f.key k v es h.0, rises_valued k v es h.1)
    ]

-- .. or where one is new
above_inserted : (j : TreeKey) (x : Entry) (es : List Entry) → key_cmp j x.key ≡ Less → AllAbove j es → AllAbove j (inserted x es)
above_inserted j x [] b h = (b, tt)
above_inserted j x (f ∷ es) b h =
    elim (key_cmp x.key f.key) as (λ o. AllAbove j (chosen o (x ∷ f ∷ es) (f ∷ es) (f ∷ inserted x es))) [
      | Less ↦ (b, h)
      | Equal ↦ h
      | Greater ↦ (h.0, above_inserted j x es b h.1)
    ]

rises_by : (x f : Entry) (es : List Entry) → Rises (f ∷ es) → Rises (inserted x es) → (o : Ordering) → key_cmp x.key f.key ≡ o → Rises (chosen o (x ∷ f ∷ es) (f ∷ es) (f ∷ inserted x es))
rises_by x f es h rest Less e = ((e, AllAbove-lower x.key f.key es e h.0), h)
rises_by x f es h rest Equal e = h
rises_by x f es h rest Greater e = (above_inserted f.key x es (below_flip x.key f.key e) h.0, rest)

pub rises_inserted : (x : Entry) (es : List Entry) → Rises es → Rises (inserted x es)
rises_inserted x [] h = (tt, tt)
rises_inserted x (f ∷ es) h = rises_by x f es h (rises_inserted x es h.1) (key_cmp x.key f.key) refl

-- .. or where one is gone
above_removed : (j k : TreeKey) (es : List Entry) → AllAbove j es → AllAbove j (removed k es)
above_removed j k [] h = tt
above_removed j k (f ∷ es) h =
    elim (key_cmp k f.key) as (λ o. AllAbove j (chosen o (f ∷ es) es (f ∷ removed k es))) [
      | Less ↦ h
      | Equal ↦ h.1
      | Greater ↦ (h.0, above_removed j k es h.1)
    ]

pub rises_removed : (k : TreeKey) (es : List Entry) → Rises es → Rises (removed k es)
rises_removed k [] h = tt
rises_removed k (f ∷ es) h =
    elim (key_cmp k f.key) as (λ o. Rises (chosen o (f ∷ es) es (f ∷ removed k es))) [
      | Less ↦ h
      | Equal ↦ h.1
      | Greater ↦ (above_removed f.key k es h.0, rises_removed k es h.1)
    ]

pub removed_left : (k : TreeKey) (xs : List Entry) (e : Entry) (ys : List Entry) → key_cmp k e.key ≡ Less → removed k (xs ++ e ∷ ys) ≡ removed k xs ++ e ∷ ys
removed_left k [] e ys h = rw h refl
removed_left k (f ∷ xs) e ys h =
    elim (key_cmp k f.key) as (λ o. chosen o (f ∷ (xs ++ e ∷ ys)) (xs ++ e ∷ ys) (f ∷ removed k (xs ++ e ∷ ys)) ≡ chosen o (f ∷ xs) xs (f ∷ removed k xs) ++ e ∷ ys) [
      | Less ↦ refl
      | Equal ↦ refl
      | Greater ↦ ap (λ l. f ∷ l) (removed_left k xs e ys h)
    ]

pub removed_past : (k : TreeKey) (xs ys : List Entry) → AllBelow k xs → removed k (xs ++ ys) ≡ xs ++ removed k ys
removed_past k [] ys b = refl
removed_past k (f ∷ xs) ys b = rw (key_total.antisymm k f.key ∙ ap ordering_reverse b.0) (ap (λ l. f ∷ l) (removed_past k xs ys b.1))

-- a key that is gone takes its block with it
pub count_removed : (q : ℕ) (k : TreeKey) (e : Entry) (es : List Entry) → entry_at k es ≡ Some e → count q es ≡ count q (e ∷ []) + count q (removed k es)
count_removed q k e [] h = absurd (cc)
count_removed q k e (f ∷ es) h =
    elim (key_cmp k f.key) as (λ o. chosen o None (Some f) (entry_at k es) ≡ Some e → count q (f ∷ es) ≡ count q (e ∷ []) + count q (chosen o (f ∷ es) es (f ∷ removed k es))) [
      | Less ↦ λ n. absurd (cc)
      | Equal ↦ λ n. let same : f ≡ e = cc in count_one q f es ∙ ap (λ (x : Entry). count q (x ∷ []) + count q es) same
      | Greater ↦ λ n. omega (arith, count_one q f es, count_one q f (removed k es), count_removed q k e es n)
    ] h
