-- Where an entry goes, or stands: a list of what the values of a tree lead to falls into the same parts.
use Rattle.std.proofs.Common.{◌≡◌, List, [], ◌∷◌, Some, None, refl, ap}
use Rattle.std.specs.declared.cmp.Ordering.TheVariants.{Less, Equal, Greater}
use Rattle.pmem_pages.specs.declared.node.TreeKey.{TreeKey}
use Rattle.pmem_pages.specs.declared.node.Value.{Value}
use Rattle.pmem_pages.specs.Node.{key_cmp}
use Rattle.pmem_pages.specs.Shape.{Entry, entry_at, inserted, removed, valued, chosen}
use Rattle.pmem_pages.specs.Parts.{Between, Replaced}

between_later : (x f : Entry) (es fs : List Entry) → Between x es fs → Between x (f ∷ es) (f ∷ fs)
between_later x f es fs b = record { front = f ∷ b.front; back = b.back; without_is = ap (λ l. f ∷ l) b.without_is; with_is = ap (λ l. f ∷ l) b.with_is }

replaced_later : (x y f : Entry) (es fs : List Entry) → Replaced x y es fs → Replaced x y (f ∷ es) (f ∷ fs)
replaced_later x y f es fs b = record { front = f ∷ b.front; back = b.back; before_is = ap (λ l. f ∷ l) b.before_is; after_is = ap (λ l. f ∷ l) b.after_is }

-- an entry with a new key goes in
pub inserted_between : (x : Entry) (es : List Entry) → entry_at x.key es ≡ None → Between x es (inserted x es)
inserted_between x [] h = record { front = []; back = []; without_is = refl; with_is = refl }
inserted_between x (f ∷ es) h =
    elim (key_cmp x.key f.key) as (λ o. chosen o None (Some f) (entry_at x.key es) ≡ None → Between x (f ∷ es) (chosen o (x ∷ f ∷ es) (f ∷ es) (f ∷ inserted x es))) [
      | Less ↦ λ n. record { front = []; back = f ∷ es; without_is = refl; with_is = refl }
      | Equal ↦ λ n. absurd (cc)
      | Greater ↦ λ n. between_later x f es (inserted x es) (inserted_between x es n)
    ] h

-- the entry at a key goes out
pub removed_between : (k : TreeKey) (e : Entry) (es : List Entry) → entry_at k es ≡ Some e → Between e (removed k es) es
removed_between k e [] h = absurd (cc)
removed_between k e (f ∷ es) h =
    elim (key_cmp k f.key) as (λ o. chosen o None (Some f) (entry_at k es) ≡ Some e → Between e (chosen o (f ∷ es) es (f ∷ removed k es)) (f ∷ es)) [
      | Less ↦ λ n. absurd (cc)
      | Equal ↦ λ n. let same : f ≡ e = cc in record { front = []; back = es; without_is = refl; with_is = ap (λ (x : Entry). x ∷ es) same }
      | Greater ↦ λ n. between_later e f (removed k es) es (removed_between k e es n)
    ] h

-- the entry at a key has another value
pub valued_replaced : (k : TreeKey) (v : Value) (e : Entry) (es : List Entry) → entry_at k es ≡ Some e → Replaced e (record { block = e.block; key = e.key; value = v }) es (valued k v es)
valued_replaced k v e [] h = absurd (cc)
valued_replaced k v e (f ∷ es) h =
    elim (key_cmp k f.key) as (λ o. chosen o None (Some f) (entry_at k es) ≡ Some e → Replaced e (record { block = e.block; key = e.key; value = v }) (f ∷ es) (chosen o (f ∷ es) (record { block = f.block; key = f.key; value = v } ∷ es) (f ∷ valued k v es))) [
      | Less ↦ λ n. absurd (cc)
      | Equal ↦ λ n. let same : f ≡ e = cc in record { front = []; back = es; before_is = ap (λ (x : Entry). x ∷ es) same; after_is = ap (λ (x : Entry). record { block = x.block; key = x.key; value = v } ∷ es) same }
      | Greater ↦ λ n. replaced_later e (record { block = e.block; key = e.key; value = v }) f es (valued k v es) (valued_replaced k v e es n)
    ] h
