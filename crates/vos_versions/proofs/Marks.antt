-- The version at a key in a tree.
use Rattle.std.proofs.Common.{◌≡◌, ℕ, ◌+◌, ◌*◌, ◌<◌, ◌≤◌, ◌&&◌, ◌==◌, drop, Bool, true, false, Option, Some, None, List, refl, sym, ap, ◌∙◌, subst, arith, inl, inr}
use Rattle.std.specs.Prelude.{Err, IsErrOf, IfSome, if◌then◌else◌}
use Rattle.std.specs.Option.{option_and_then}
use Rattle.std.proofs.lemmas.Bool.{cases_lt}
use Rattle.std.proofs.lemmas.Bool.Decides.{nat_tests}
use Rattle.pmem_pages.specs.Blocks.{Blocks, Budget, IsSpent}
use Rattle.pmem_pages.specs.Counts.{times_none}
use Rattle.pmem_pages.specs.Owned.{tree_taken}
use Rattle.pmem_pages.specs.Owners.{times}
use Rattle.pmem_pages.specs.Node.{IsKind, IsValue}
use Rattle.pmem_pages.specs.Shape.{Entry, IsTree, Shape, blocks_of, entries, entry_at}
use Rattle.pmem_pages.specs.declared.node.TreeKey.{TreeKey}
use Rattle.pmem_pages.specs.declared.node.Value.{Value}
use Rattle.pmem_pages.proofs.Owning.{not_free}
use Rattle.pmem_pages.proofs.Shapes.{is_tree_on}
use Rattle.vos_chain.specs.pmem_tree.Calls.{IsShort, StagesAtMost, TooFew}
use Rattle.vos_chain.specs.pmem_tree.Changes.{Puts, Removes}
use Rattle.vos_chain.specs.pmem_tree_base.Find.{value_of}
use Rattle.vos_chain.specs.vos_values.declared.values.VersionMark.{VersionMark}
use Rattle.vos_chain.specs.vos_values.Values.{is_length, is_state, version_in, version_value}
use Rattle.byteorder.specs.Endian.{big_number}
use Rattle.vos_chain.proofs.vos_values.Reading.{chosen_is, chosen_test, then_holds}
use Rattle.vos_chain.specs.vos_levels.declared.change.Change.{Change}
use Rattle.vos_chain.specs.vos_levels.Changes.{keeps, takes}
use Rattle.vos_chain.specs.Chains.{chain_owner}
use Rattle.vos_chain.specs.Made.{HasFewer, IsChainAt, MadeChain, chain_blocks}
use Rattle.vos_versions.specs.Marks.{ByTest, Changes, Drops, HasBytes, IsVersionKind, Same, StagesFor, StagesLess, TooFewFor, done_mark, freed_of, mark_at}

pub kind_is : (kind : ℕ) → IsVersionKind kind → IsKind kind
kind_is kind h = elim h [ inl a ↦ record { least = omega (arith, a); most = omega (arith, a) } | inr a ↦ record { least = omega (arith, a); most = omega (arith, a) } ]

pub value_is : (kind : ℕ) (v : Value) → IsVersionKind kind → IsValue 5 v → IsValue 6 v → IsValue kind v
value_is kind v h a b = elim h [ inl e ↦ subst (λ k. IsValue k v) (sym e) a | inr e ↦ subst (λ k. IsValue k v) (sym e) b ]

-- a version has at most 1,024 bytes
pub mark_short : (v : Value) (k : VersionMark) → version_in v ≡ Some k → k.length ≤ 1024
unfolding version_in
mark_short v k e =
    let front = (v.len == 14) && is_state (big_number 1 v.bytes) in
    let l = is_length (big_number 2 (drop 8 v.bytes)) in
    let test = chosen_test (front && l) _ k e in
    let long : is_length k.length ≡ true = subst (λ (z : VersionMark). is_length z.length ≡ true) (chosen_is _ _ k e) (then_holds front l test) in
    grind (arith, nat_tests)

pub some_short : (o : Option Value) (r : Option VersionMark) → r ≡ option_and_then version_in o → IfSome r (λ k. k.length ≤ 1024)
some_short o None e = tt
some_short (Some v) (Some k) e = mark_short v k (sym e)
some_short None (Some k) e = absurd (let n : ⊥ = cc in n)

-- where the tree says something at a key, it has the key
pub has_key : (key : TreeKey) (es : List Entry) (k : VersionMark) → mark_at key es ≡ Some k → (e : Entry) × (entry_at key es ≡ Some e)
has_key key es k h = by (entry_at key es) refl h
  where
    by : (x : Option Entry) → entry_at key es ≡ x → option_and_then version_in (value_of x) ≡ Some k → (e : Entry) × (entry_at key es ≡ Some e)
    by None e h = absurd (let n : ⊥ = cc in n)
    by (Some x) e h = (x, e)

-- the chain of a version stands where the version went from the tree
pub bytes_left : (m n : Blocks) (kind : ℕ) (t : Shape) (key : TreeKey) (e : Entry) (root : ℕ) (mark : VersionMark) → (b : HasBytes m t mark) → Removes m kind t key e n root → IsChainAt n mark.chain mark.length b.chain
bytes_left m n kind t key e root mark b p =
    let mine = b.stands.holds in
    let same : (q : ℕ) → 0 < times q b.chain.blocks → n q ≡ m q = λ q own.
    let none = b.apart q own in
    elim (cases_lt 0 (times q (blocks_of (entries p.tree)))) [
      | inl new ↦ absurd (not_free m q (chain_owner.is_taken m b.chain mine.here q own) (p.changed.taken q none new))
      | inr out ↦ p.changed.outside q none (omega arith)
    ] in
    record { holds = record { here = chain_owner.frame m n b.chain same mine.here; apart = mine.apart }; first_is = b.stands.first_is; count_is = b.stands.count_is }

-- the tree stands where a chain was made
pub tree_stays : (m n : Blocks) (kind at : ℕ) (t : Shape) (bytes : List ℕ) (first : ℕ) → MadeChain m bytes n first → IsTree m kind at t → IsTree n kind at t
tree_stays m n kind at t bytes first c tree =
    is_tree_on m n kind at t (λ q own. elim (cases_lt 0 (times q c.blocks)) [
      | inl new ↦ absurd (not_free m q (tree_taken m kind t tree.stands q own) (c.changed.taken q (omega (arith, times_none q)) new))
      | inr none ↦ c.changed.outside q (omega (arith, times_none q)) (omega arith)
    ]) tree

-- ---- what a change makes

-- what a test that is true, or false, leads to
by_true : (X Y : Type 0) (s : Bool) → s ≡ true → X → ByTest s X Y
by_true X Y s e x = subst (λ z. ByTest z X Y) (sym e) x

by_false : (X Y : Type 0) (s : Bool) → s ≡ false → Y → ByTest s X Y
by_false X Y s e y = subst (λ z. ByTest z X Y) (sym e) y

pub changes_none : (c : Change) (m : Blocks) (kind : ℕ) (t : Shape) (key : TreeKey) (o : Blocks) (root : ℕ) (x : Option VersionMark) → x ≡ None → Same m t o root → Changes c x m kind t key o root
changes_none c m kind t key o root x e s = subst (λ z. Changes c z m kind t key o root) (sym e) s

pub not_taken : (c : Change) (m : Blocks) (kind : ℕ) (t : Shape) (key : TreeKey) (o : Blocks) (root : ℕ) (k : VersionMark) → mark_at key (entries t) ≡ Some k → takes c k.by k.done ≡ false → Same m t o root → Changes c (mark_at key (entries t)) m kind t key o root
not_taken c m kind t key o root k says other s = subst (λ z. Changes c z m kind t key o root) (sym says) (by_false _ _ (takes c k.by k.done) other s)

-- the tree was found as it was, and then changed
pub taken_kept : (c : Change) (m n : Blocks) (kind : ℕ) (t : Shape) (key : TreeKey) (o : Blocks) (root : ℕ) (k : VersionMark) → mark_at key (entries t) ≡ Some k → takes c k.by k.done ≡ true → keeps c ≡ true → n ≡ m
    → ((e : Entry) → entry_at key (entries t) ≡ Some e → Puts n kind t key (version_value (done_mark k)) o root) → Changes c (mark_at key (entries t)) m kind t key o root
taken_kept c m n kind t key o root k says taken kept same puts =
    subst (λ z. Changes c z m kind t key o root) (sym says) (by_true _ _ (takes c k.by k.done) taken (by_true _ _ (keeps c) kept (λ e at. subst (λ b. Puts b kind t key (version_value (done_mark k)) o root) same (puts e at))))

pub taken_gone : (c : Change) (m n : Blocks) (kind : ℕ) (t : Shape) (key : TreeKey) (o : Blocks) (root : ℕ) (k : VersionMark) → mark_at key (entries t) ≡ Some k → takes c k.by k.done ≡ true → keeps c ≡ false → n ≡ m
    → ((e : Entry) → entry_at key (entries t) ≡ Some e → Drops n kind t key k e o root) → Changes c (mark_at key (entries t)) m kind t key o root
taken_gone c m n kind t key o root k says taken other same drops =
    subst (λ z. Changes c z m kind t key o root) (sym says) (by_true _ _ (takes c k.by k.done) taken (by_false _ _ (keeps c) other (λ e at. subst (λ b. Drops b kind t key k e o root) same (drops e at))))

-- ---- the blocks given back

pub freed_is : (c : Change) (x : Option VersionMark) (k : VersionMark) (s : Bool) → x ≡ Some k → takes c k.by k.done ≡ s → freed_of c x ≡ (if s then (if keeps c then 0 else chain_blocks k.length + 1) else 0)
freed_is c x k s e a = ap (freed_of c) e ∙ ap (λ (z : Bool). if z then (if keeps c then 0 else chain_blocks k.length + 1) else 0) a

pub freed_kept : (c : Change) (k : VersionMark) → keeps c ≡ true → (if keeps c then 0 else chain_blocks k.length + 1) ≡ 0
freed_kept c k e = ap (λ (z : Bool). if z then 0 else chain_blocks k.length + 1) e

pub freed_gone : (c : Change) (k : VersionMark) → keeps c ≡ false → (if keeps c then 0 else chain_blocks k.length + 1) ≡ chain_blocks k.length + 1
freed_gone c k e = ap (λ (z : Bool). if z then 0 else chain_blocks k.length + 1) e

pub freed_none : (c : Change) (x : Option VersionMark) → x ≡ None → freed_of c x ≡ 0
freed_none c x e = ap (freed_of c) e

-- ---- sums

pub few_then : (n : ℕ) (t : Shape) (b c : Budget) → n ≤ 1024 → StagesAtMost 8 16 t b c → HasFewer (chain_blocks n) (chain_blocks n) c → TooFew t b
few_then n t b c short s h d few =
    let r = s d few in
    elim h [ inl x ↦ inl (omega (arith, x, short, r.ranges_most)) | inr x ↦ inr (omega (arith, x, short, r.bytes_most)) ]

pub stages_then : (n : ℕ) (t : Shape) (a b c : Budget) → n ≤ 1024 → StagesAtMost 8 16 t a b → IsSpent (chain_blocks n) (chain_blocks n) b c → StagesLess t a c
stages_then n t a b c short r s d few =
    let x = r d few in
    record { ranges_most = omega (arith, s.ranges_most, x.ranges_most, short); ranges_least = omega (arith, s.ranges_least, x.ranges_least); bytes_most = omega (arith, s.bytes_most, x.bytes_most, short); bytes_least = omega (arith, s.bytes_least, x.bytes_least) }

pub stages_put : (t : Shape) (b a : Budget) → IsSpent 1 256 b a → StagesLess t b a
stages_put t b a s d n = record { ranges_most = omega (arith, s.ranges_most); ranges_least = s.ranges_least; bytes_most = omega (arith, s.bytes_most); bytes_least = s.bytes_least }

pub stages_none : (t : Shape) (b a : Budget) → a ≡ b → StagesLess t b a
stages_none t b a e d n = let r = ap (λ (z : Budget). z.ranges) e in let s = ap (λ (z : Budget). z.bytes) e in record { ranges_most = omega (arith, r); ranges_least = omega (arith, r); bytes_most = omega (arith, s); bytes_least = omega (arith, s) }

pub too_few_first : (n : ℕ) (t : Shape) (b : Budget) → HasFewer (2 * n) (257 * n) b → TooFewFor n t b
too_few_first n t b h d few = elim h [ inl r ↦ inl (omega (arith, r)) | inr r ↦ inr (omega (arith, r)) ]

pub too_few_then : (n : ℕ) (t : Shape) (b c : Budget) → IsSpent (2 * n) (257 * n) b c → TooFew t c → TooFewFor n t b
too_few_then n t b c s h d few = elim (h d few) [ inl r ↦ inl (omega (arith, r, s.ranges_most)) | inr r ↦ inr (omega (arith, r, s.bytes_most)) ]

-- where not even one block can be staged, any tree may want more
pub short_any : (r y d : ℕ) (b : Budget) → r ≤ 1 → y ≤ 256 → HasFewer r y b → IsShort d b
short_any r y d b one block h = elim h [ inl x ↦ inl (omega (arith, x, one)) | inr x ↦ inr (omega (arith, x, block)) ]

pub stages_for : (n : ℕ) (t : Shape) (a b c : Budget) → IsSpent (2 * n) (257 * n) a b → StagesAtMost 4 8 t b c → StagesFor n t a c
stages_for n t a b c s h d few =
    let r = h d few in
    record { ranges_most = omega (arith, s.ranges_most, r.ranges_most); ranges_least = omega (arith, s.ranges_least, r.ranges_least); bytes_most = omega (arith, s.bytes_most, r.bytes_most); bytes_least = omega (arith, s.bytes_least, r.bytes_least) }

-- an error of one call is that of another
inside_err : {T E : Type 0} (a b : E) → IsErrOf {T = T} {E = E} (Err a) b → a ≡ b
inside_err a b h = cc

pub err_other : {T U E : Type 0} (a b : E) → IsErrOf {T = T} {E = E} (Err a) b → IsErrOf {T = U} {E = E} (Err a) b
err_other {T = T} {U = U} {E = E} a b h = let e = inside_err {T = T} {E = E} a b h in ap (λ (z : E). Err z) e
