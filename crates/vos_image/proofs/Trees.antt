-- A tree that stands is read, with what its values lead to.
use Rattle.std.proofs.Common.{◌≡◌, ◌≢◌, ℕ, zero, suc, ◌+◌, ◌*◌, ◌≤◌, max, ◌==◌, ◌&&◌, Bool, true, false, List, [], ◌∷◌, ◌++◌, drop, Option, Some, None, Ok, refl, sym, ap, ◌∙◌, subst, arith}
use Rattle.std.specs.Prelude.{if◌then◌else◌, slice_index, All}
use Rattle.std.proofs.lemmas.Bool.{ne_eqb}
use Rattle.std.proofs.lemmas.Bool.Decides.{nat_tests}
use Rattle.std.proofs.lemmas.List.{get_or-drop}
use Rattle.std.proofs.lemmas.List.Elements.{All-cons, All-head, All-nil, All-tail}
use Rattle.byteorder.specs.Endian.{big_bytes, big_number}
use Rattle.byteorder.specs.Numbers.{big_number-reads_back}
use Rattle.pmem_pages.specs.Blocks.{Blocks}
use Rattle.pmem_pages.specs.Counts.{times_none, times_one}
use Rattle.pmem_pages.specs.Owned.{blocks-append}
use Rattle.pmem_pages.specs.Owners.{Holds, owned_each, stands_each, times, times-append}
use Rattle.pmem_pages.specs.declared.node.Node.{Node}
use Rattle.pmem_pages.specs.declared.node.TreeKey.{TreeKey}
use Rattle.pmem_pages.specs.Node.{IsNode, IsKey, ZeroFrom, node_bytes, node_of}
use Rattle.pmem_pages.specs.Shape.{AllAbove, AllBelow, Balanced, Entry, Fork, Leaf, Rises, Shape, Stands, blocks_of, entries, height, node_at, root_of}
use Rattle.pmem_pages.proofs.Lists.{Rises-back, Rises-below, Rises-front}
use Rattle.pmem_pages.proofs.Nodes.{node_again}
use Rattle.pmem_pages.proofs.Shapes.{node_fits, root_fits}
use Rattle.vos_entries.specs.vos_levels.Levels.{Hung, LeadToAll, LeadsTo, Level, hung}
use Rattle.vos_image.specs.Content.{Content, block, is_taken, link, shown}
use Rattle.vos_image.specs.Trees.{Kind, is_above, is_below, is_height, read_below, read_fields, read_tree, stored_height}
use Rattle.vos_image.proofs.Steps.{Passes, Tally, beside, given, kept, linked, none, recounted, root_tally, ruled, shown_there, go_on, zeros_hold}

-- ---- a node

-- A kind of trees reads a level: what is read of a thing's key and value, and the thing itself, where it stands.
pub record Takes {N V A : Type 0} (K : Kind N V A) (L : Level A) (c : Content) (Fits : A → Type 0) (name : A → N) (value : A → V) (roots : A → List ℕ) : Type 0 where
  pub kind : K.kind ≡ L.kind
  pub length : (a : A) → L.Good a → Fits a → K.is_length c (L.key a).len ≡ true
  pub key : (a : A) → L.Good a → Fits a → (at : ℕ) (led : List ℕ) → K.name c at (L.key a) led ≡ Ok (name a, led)
  pub leads : (a : A) → L.Good a → Fits a → Holds L.owner (shown c) a → (at : ℕ) → Passes (K.value c at (name a) (L.value a)) (value a) none (λ q. times q (roots a))
  pub below : (a : A) → L.Good a → Fits a → Holds L.owner (shown c) a → Passes (K.thing c (name a) (value a)) a (λ q. times q (roots a)) (λ q. times q (L.owner.owned a))

kind_byte : (kind : ℕ) (n : Node) → slice_index (node_bytes kind n) 0 ≡ kind
unfolding node_bytes
kind_byte kind n = refl

pub height_byte : (kind : ℕ) (n : Node) → slice_index (node_bytes kind n) 1 ≡ n.height
unfolding node_bytes
height_byte kind n = refl

length_bytes : (kind : ℕ) (n : Node) → IsKey n.key → big_number 2 (drop 2 (node_bytes kind n)) ≡ n.key.len
unfolding node_bytes
length_bytes kind n h = big_number-reads_back 2 n.key.len (big_bytes 4 n.left ++ (big_bytes 4 n.right ++ (n.key.bytes ++ n.value.bytes))) (let f = h.fits in omega arith)

same : (a b : ℕ) → a ≡ b → (a == b) ≡ true
same a b e = grind (arith, nat_tests)

zero_behind : (at : ℕ) (bs : List ℕ) → ZeroFrom at bs → (i : ℕ) → slice_index (drop at bs) i ≡ 0
zero_behind at bs h i = get_or-drop at bs i 0 ∙ h (at + i) (omega arith)

-- the blocks that the fields of a node lead to
abbrev pub links_tally : ℕ → ℕ → List ℕ → Tally
links_tally l r roots q = root_tally l q + (root_tally r q + times q roots)

fields_read : {N V A : Type 0} (K : Kind N V A) (L : Level A) (c : Content) (Fits : A → Type 0) (name : A → N) (value : A → V) (roots : A → List ℕ) → Takes K L c Fits name value roots
    → (b : ℕ) (n : Node) (a : A) (low high : Option TreeKey)
    → block c b ≡ node_bytes L.kind n
    → IsNode L.kind n
    → n.key ≡ L.key a
    → n.value ≡ L.value a
    → L.Good a
    → Fits a
    → Holds L.owner (shown c) a
    → (is_above low n.key && is_below high n.key) ≡ true
    → (n.left ≢ 0 → is_taken c n.left ≡ true)
    → (n.right ≢ 0 → is_taken c n.right ≡ true)
    → ((q : ℕ) → links_tally n.left n.right (roots a) q ≤ 1)
    → Passes (read_fields K c b low high) (record { node = n; name = name a; value = value a }) none (links_tally n.left n.right (roots a))
unfolding read_fields
fields_read K L c Fits name value roots takes b n a low high stands node key_is value_is good fits held between left right apart =
    let at = 256 * b in
    let bytes = node_bytes L.kind n in
    let node_is : node_of K.kind bytes ≡ n = ap (λ k. node_of k bytes) takes.kind ∙ node_again L.kind n node in
    let kind_is : (slice_index bytes 0 == K.kind) ≡ true = same (slice_index bytes 0) K.kind (kind_byte L.kind n ∙ sym takes.kind) in
    let len_is : K.is_length c (big_number 2 (drop 2 bytes)) ≡ true = ap (K.is_length c) (length_bytes L.kind n node.key ∙ ap (λ (k : TreeKey). k.len) key_is) ∙ takes.length a good fits in
    let mid : Tally = root_tally n.left in
    let more : Tally = λ q. root_tally n.left q + root_tally n.right q in
    let to : Tally = links_tally n.left n.right (roots a) in
    let second = beside (link c (at + 8) n.right) tt none (root_tally n.right) mid more mid (linked c (at + 8) n.right right) (λ q. omega arith) (λ q. omega arith) (λ q. omega (arith, apart q)) in
    let third = beside (K.value c (at + 76) (name a) n.value) (value a) none (λ q. times q (roots a)) more to more
    (subst (λ z. Passes (K.value c (at + 76) (name a) z) (value a) none (λ q. times q (roots a))) (sym value_is) (takes.leads a good fits held (at + 76))) (λ q. omega arith) (λ q. omega arith) apart in
    let named = λ (led : List ℕ). ap (λ z. K.name c (at + 12) z led) key_is ∙ takes.key a good fits (at + 12) led in
    let ends = given (record { node = n; name = name a; value = value a }) to in
    rw (stands, node_is)
    (ruled _ _ _ _ _ _ kind_is
    (ruled _ _ _ _ _ _ len_is
    (go_on _ _ _ _ _ mid _ (linked c (at + 4) n.left left)
    (go_on _ _ _ _ _ more _ second
    (ruled _ _ _ _ _ _ between
    (kept _ _ (name a) _ _ _ named
    (kept _ _ tt _ _ _ (zeros_hold (at + 12 + n.key.len) (drop n.key.len n.key.bytes) (zero_behind n.key.len n.key.bytes node.key.rest))
    (go_on _ _ (value a) _ _ to _ third
    (kept _ _ tt _ _ _ (zeros_hold (at + 76 + n.value.len) (drop n.value.len n.value.bytes) (zero_behind n.value.len n.value.bytes node.value.rest))
    ends)))))))))

-- ---- keys between two others

abbrev pub Within : Option TreeKey → Option TreeKey → List Entry → Type 0
Within low high [] = Unit {0}
Within low high (e ∷ es) = ((is_above low e.key && is_below high e.key) ≡ true) × Within low high es

pub first_of_two : (a b : Bool) → (a && b) ≡ true → a ≡ true
first_of_two true b h = refl
first_of_two false b h = let no : ⊥ = cc in absurd no

pub second_of_two : (a b : Bool) → (a && b) ≡ true → b ≡ true
second_of_two true b h = h
second_of_two false b h = let no : ⊥ = cc in absurd no

within_front : (low high : Option TreeKey) (xs ys : List Entry) → Within low high (xs ++ ys) → Within low high xs
within_front low high [] ys h = tt
within_front low high (x ∷ xs) ys h = (h.0, within_front low high xs ys h.1)

within_back : (low high : Option TreeKey) (xs ys : List Entry) → Within low high (xs ++ ys) → Within low high ys
within_back low high [] ys h = h
within_back low high (x ∷ xs) ys h = within_back low high xs ys h.1

within_left : (low high : Option TreeKey) (e : Entry) (xs : List Entry) → Within low high xs → AllBelow e.key xs → Within low (Some e.key) xs
within_left low high e [] h k = tt
within_left low high e (x ∷ xs) h k = (let first = first_of_two (is_above low x.key) (is_below high x.key) h.0 in rw (first, k.0) refl, within_left low high e xs h.1 k.1)

within_right : (low high : Option TreeKey) (e : Entry) (xs : List Entry) → Within low high xs → AllAbove e.key xs → Within (Some e.key) high xs
within_right low high e [] h k = tt
within_right low high e (x ∷ xs) h k = (let next = second_of_two (is_above low x.key) (is_below high x.key) h.0 in rw (k.0, next) refl, within_right low high e xs h.1 k.1)

pub within_all : (xs : List Entry) → Within None None xs
within_all [] = tt
within_all (x ∷ xs) = (refl, within_all xs)

-- ---- a tree

-- how often a block stands in a tree and in what it leads to
abbrev pub hung_tally : {A : Type 0} → Level A → Shape → List A → Tally
hung_tally L t xs q = times q (blocks_of (entries t)) + times q (owned_each L.owner xs)

times_each : {A : Type 0} (L : Level A) (q : ℕ) (xs ys : List A) → times q (owned_each L.owner (xs ++ ys)) ≡ times q (owned_each L.owner xs) + times q (owned_each L.owner ys)
times_each L q [] ys = omega (arith, times_none q)
times_each L q (a ∷ xs) ys = omega (arith, times-append q (L.owner.owned a) (owned_each L.owner (xs ++ ys)), times-append q (L.owner.owned a) (owned_each L.owner xs), times_each L q xs ys)

pub fork_tally : {A : Type 0} (L : Level A) (q : ℕ) (l : Shape) (e : Entry) (r : Shape) (xs : List A) (a : A) (ys : List A)
    → hung_tally L (Fork l e r) (xs ++ a ∷ ys) q ≡ times q (e.block ∷ []) + (hung_tally L l xs q + (hung_tally L r ys q + times q (L.owner.owned a)))
fork_tally L q l e r xs a ys =
    omega (
      arith,
      ap (times q) (blocks-append (entries l) (e ∷ entries r)),
      times-append q (blocks_of (entries l)) (e.block ∷ blocks_of (entries r)),
      times_one q e.block (blocks_of (entries r)),
      times_each L q xs (a ∷ ys),
      times-append q (L.owner.owned a) (owned_each L.owner ys),
    )

-- its root is one of its blocks
root_counted : (q : ℕ) (t : Shape) → root_tally (root_of t) q ≤ times q (blocks_of (entries t))
root_counted q Leaf = omega (arith, times_none q)
root_counted q (Fork l e r) =
    let all = times-append q (blocks_of (entries l)) (e.block ∷ blocks_of (entries r)) in
    let whole = ap (times q) (blocks-append (entries l) (e ∷ entries r)) in
    let head = times_one q e.block (blocks_of (entries r)) in
    elim (e.block == 0) as (λ z. times q (if z then [] else e.block ∷ []) ≤ times q (blocks_of (entries l ++ e ∷ entries r))) [
      | true ↦ omega (arith, times_none q)
      | false ↦ omega (arith, all, whole, head)
    ]

-- a root that isn't 0 is taken, and says the height of its tree
pub root_shown : (c : Content) (kind : ℕ) (t : Shape) → Stands (shown c) kind t → root_of t ≢ 0 → is_taken c (root_of t) ≡ true
root_shown c kind Leaf s ne = absurd (ne refl)
root_shown c kind (Fork l e r) s ne = (shown_there c e.block (node_bytes kind (node_at l e r)) s.0.block).taken

pub height_shown : (c : Content) (kind : ℕ) (t : Shape) → Stands (shown c) kind t → stored_height c (root_of t) ≡ height t
height_shown c kind Leaf s = refl
height_shown c kind (Fork l e r) s =
    let there = shown_there c e.block (node_bytes kind (node_at l e r)) s.0.block in
    let ne : (e.block == 0) ≡ false = ne_eqb e.block 0 (λ z. let low = s.0.entry.low in omega (arith, z, low)) in
    rw (ne, there.bytes_are) (height_byte kind (node_at l e r))

height_right : (l r : ℕ) → l ≤ r + 1 → r ≤ l + 1 → is_height (max l r + 1) l r ≡ true
height_right l r a b = grind (arith, nat_tests)

-- the things of a fork: those of the left tree, its own, and those of the right one
pub record Parted {A : Type 0} (L : Level A) (m : Blocks) (Fits : A → Type 0) (es : List Entry) (e : Entry) (fs : List Entry) (xs : List A) : Type 0 where
  pub left : List A
  pub own : A
  pub right : List A
  pub is : xs ≡ left ++ own ∷ right
  pub left_leads : LeadToAll L es left
  pub own_leads : LeadsTo L e own
  pub right_leads : LeadToAll L fs right
  pub left_fit : All Fits left
  pub own_fits : Fits own
  pub right_fit : All Fits right
  pub left_stand : stands_each L.owner m left
  pub own_stands : L.owner.stands m own
  pub right_stand : stands_each L.owner m right

parted : {A : Type 0} (L : Level A) (m : Blocks) (Fits : A → Type 0) (es : List Entry) (e : Entry) (fs : List Entry) (xs : List A) → LeadToAll L (es ++ e ∷ fs) xs → All Fits xs → stands_each L.owner m xs → Parted L m Fits es e fs xs
parted L m Fits [] e fs [] p f s = absurd p
parted L m Fits [] e fs (a ∷ xs) p f s = record { left = []; own = a; right = xs; is = refl; left_leads = tt; own_leads = p.0; right_leads = p.1; left_fit = All-nil Fits; own_fits = All-head Fits a xs f; right_fit = All-tail Fits a xs f; left_stand = tt; own_stands = s.0; right_stand = s.1 }
parted L m Fits (d ∷ es) e fs [] p f s = absurd p
parted L m Fits (d ∷ es) e fs (a ∷ xs) p f s =
    let r = parted L m Fits es e fs xs p.1 (All-tail Fits a xs f) s.1 in
    record { left = a ∷ r.left; own = r.own; right = r.right; is = ap (λ z. a ∷ z) r.is; left_leads = (p.0, r.left_leads); own_leads = r.own_leads; right_leads = r.right_leads; left_fit = All-cons Fits a r.left (All-head Fits a xs f) r.left_fit; own_fits = r.own_fits; right_fit = r.right_fit; left_stand = (s.0, r.left_stand); own_stands = r.own_stands; right_stand = r.right_stand }

-- a fork is read, where its trees and its thing are
fork_read : {N V A : Type 0} (K : Kind N V A) (L : Level A) (c : Content) (Fits : A → Type 0) (name : A → N) (value : A → V) (roots : A → List ℕ) → Takes K L c Fits name value roots
    → (h : ℕ) (l : Shape) (e : Entry) (r : Shape) (xs : List A) (a : A) (ys : List A) (low high : Option TreeKey)
    → Stands (shown c) L.kind (Fork l e r)
    → Balanced (Fork l e r)
    → (is_above low e.key && is_below high e.key) ≡ true
    → LeadsTo L e a
    → Fits a
    → L.owner.stands (shown c) a
    → ((q : ℕ) → hung_tally L (Fork l e r) (xs ++ a ∷ ys) q ≤ 1)
    → Passes (read_below K c h (root_of l) low (Some e.key)) (l, xs) (root_tally (root_of l)) (hung_tally L l xs)
    → Passes (read_below K c h (root_of r) (Some e.key) high) (r, ys) (root_tally (root_of r)) (hung_tally L r ys)
    → Passes (read_below K c (suc h) e.block low high) (Fork l e r, xs ++ a ∷ ys) (root_tally e.block) (hung_tally L (Fork l e r) (xs ++ a ∷ ys))
fork_read K L c Fits name value roots takes h l e r xs a ys low high s balanced between leads fits here apart left right =
    let n = node_at l e r in
    let there = shown_there c e.block (node_bytes L.kind n) s.0.block in
    let ne : (e.block == 0) ≡ false = ne_eqb e.block 0 (λ z. let least = s.0.entry.low in omega (arith, z, least)) in
    let sum = λ (q : ℕ). fork_tally L q l e r xs a ys in
    let held : Holds L.owner (shown c) a = record { here = here; apart = λ q. omega (arith, apart q, sum q) } in
    let below = takes.below a leads.good fits held in
    let rl = λ (q : ℕ). root_counted q l in
    let rr = λ (q : ℕ). root_counted q r in
    let node = node_fits (shown c) L.kind l e r s.0 (root_fits (shown c) L.kind l s.1) (root_fits (shown c) L.kind r s.2) in
    let fields = fields_read K L c Fits name value roots takes e.block n a low high there.bytes_are node leads.key leads.value leads.good fits held between (root_shown c L.kind l s.1) (root_shown c L.kind r s.2)
    (λ q. omega (arith, apart q, sum q, rl q, rr q, below.more q)) in
    let t0 : Tally = λ q. times q (e.block ∷ []) in
    let t1 : Tally = λ q. t0 q + links_tally (root_of l) (root_of r) (roots a) q in
    let t2 : Tally = λ q. t0 q + (hung_tally L l xs q + (root_tally (root_of r) q + times q (roots a))) in
    let t3 : Tally = λ q. t0 q + (hung_tally L l xs q + (root_tally (root_of r) q + times q (L.owner.owned a))) in
    let t4 : Tally = hung_tally L (Fork l e r) (xs ++ a ∷ ys) in
    let step1 = beside _ _ none (links_tally (root_of l) (root_of r) (roots a)) t0 t1 t0 fields (λ q. omega arith) (λ q. omega arith) (λ q. omega (arith, apart q, sum q, rl q, rr q, below.more q)) in
    let step2 = beside _ _ (root_tally (root_of l)) (hung_tally L l xs) t1 t2 (λ q. t0 q + (root_tally (root_of r) q + times q (roots a))) left (λ q. omega arith) (λ q. omega arith) (λ q. omega (arith, apart q, sum q, rr q, below.more q)) in
    let step3 = beside _ _ (λ q. times q (roots a)) (λ q. times q (L.owner.owned a)) t2 t3 (λ q. t0 q + (hung_tally L l xs q + root_tally (root_of r) q)) below (λ q. omega arith) (λ q. omega arith) (λ q. omega (arith, apart q, sum q, rr q)) in
    let step4 = beside _ _ (root_tally (root_of r)) (hung_tally L r ys) t3 t4 (λ q. t0 q + (hung_tally L l xs q + times q (L.owner.owned a))) right (λ q. omega arith) (λ q. omega (arith, sum q)) apart in
    let heights : is_height n.height (stored_height c (root_of l)) (stored_height c (root_of r)) ≡ true = rw (height_shown c L.kind l s.1, height_shown c L.kind r s.2) (height_right (height l) (height r) balanced.0.left balanced.0.right) in
    let whole : Passes (read_below K c (suc h) e.block low high) (Fork l e r, xs ++ a ∷ ys) t0 t4 =
    rw ne (go_on _ _ _ _ t0 t1 t4 step1 (ruled _ _ _ _ _ _ heights (go_on _ _ _ _ t1 t2 t4 step2 (go_on _ _ _ _ t2 t3 t4 step3 (go_on _ _ _ _ t3 t4 t4 step4 (given _ t4)))))) in
    recounted _ _ t0 t4 _ _ whole (λ q. rw ne refl) (λ q. refl)

pub below_read : {N V A : Type 0} (K : Kind N V A) (L : Level A) (c : Content) (Fits : A → Type 0) (name : A → N) (value : A → V) (roots : A → List ℕ) → Takes K L c Fits name value roots
    → (h : ℕ) (t : Shape) (xs : List A) (low high : Option TreeKey)
    → height t ≤ h
    → Stands (shown c) L.kind t
    → Balanced t
    → Rises (entries t)
    → Within low high (entries t)
    → LeadToAll L (entries t) xs
    → All Fits xs
    → stands_each L.owner (shown c) xs
    → ((q : ℕ) → hung_tally L t xs q ≤ 1)
    → Passes (read_below K c h (root_of t) low high) (t, xs) (root_tally (root_of t)) (hung_tally L t xs)
below_read K L c Fits name value roots takes h Leaf (a ∷ xs) low high hi s balanced rises within leads fits here apart = absurd leads
below_read K L c Fits name value roots takes zero Leaf [] low high hi s balanced rises within leads fits here apart = recounted _ _ none none _ _ (given (Leaf, []) none) (λ q. omega (arith, times_none q)) (λ q. omega (arith, times_none q))
below_read K L c Fits name value roots takes (suc h) Leaf [] low high hi s balanced rises within leads fits here apart = recounted _ _ none none _ _ (given (Leaf, []) none) (λ q. omega (arith, times_none q)) (λ q. omega (arith, times_none q))
below_read K L c Fits name value roots takes zero (Fork l e r) xs low high hi s balanced rises within leads fits here apart = absurd (omega (arith, hi))
below_read {A = A} K L c Fits name value roots takes (suc h) (Fork l e r) xs low high hi s balanced rises within leads fits here apart =
    let p = parted L (shown c) Fits (entries l) e (entries r) xs leads fits here in
    let back = within_back low high (entries l) (e ∷ entries r) within in
    let risen = Rises-back (entries l) (e ∷ entries r) rises in
    let apart2 : (q : ℕ) → hung_tally L (Fork l e r) (p.left ++ p.own ∷ p.right) q ≤ 1 = subst (λ z. (q : ℕ) → hung_tally L (Fork l e r) z q ≤ 1) p.is apart in
    let sum = λ (q : ℕ). fork_tally L q l e r p.left p.own p.right in
    let left = below_read K L c Fits name value roots takes h l p.left low (Some e.key) (omega (arith, hi)) s.1 balanced.1 (Rises-front (entries l) (e ∷ entries r) rises)
    (within_left low high e (entries l) (within_front low high (entries l) (e ∷ entries r) within) (Rises-below (entries l) e (entries r) rises)) p.left_leads p.left_fit p.left_stand (λ q. omega (arith, apart2 q, sum q)) in
    let right = below_read K L c Fits name value roots takes h r p.right (Some e.key) high (omega (arith, hi)) s.2 balanced.2 risen.1
    (within_right low high e (entries r) back.1 risen.0) p.right_leads p.right_fit p.right_stand (λ q. omega (arith, apart2 q, sum q)) in
    subst (λ z. Passes (read_below K c (suc h) e.block low high) (Fork l e r, z) (root_tally e.block) (hung_tally L (Fork l e r) z)) (sym p.is)
    (fork_read K L c Fits name value roots takes h l e r p.left p.own p.right low high s balanced back.0 p.own_leads p.own_fits p.own_stands apart2 left right)

-- A level that stands is read below its root, and then all of its blocks were led to.
pub tree_read : {N V A : Type 0} (K : Kind N V A) (L : Level A) (c : Content) (Fits : A → Type 0) (name : A → N) (value : A → V) (roots : A → List ℕ) → Takes K L c Fits name value roots
    → (g : Hung A) → Holds (hung L) (shown c) g → All Fits g.1 → Passes (read_tree K c (root_of g.0)) g (root_tally (root_of g.0)) (λ q. times q ((hung L).owned g))
unfolding read_tree
tree_read K L c Fits name value roots takes g held fits =
    let split = λ (q : ℕ). times-append q (blocks_of (entries g.0)) (owned_each L.owner g.1) in
    recounted _ _ (root_tally (root_of g.0)) (hung_tally L g.0 g.1) _ _
    (below_read K L c Fits name value roots takes (stored_height c (root_of g.0)) g.0 g.1 None None (let e = height_shown c L.kind g.0 held.here.0.0 in omega (arith, e)) held.here.0.0 held.here.1.balanced held.here.1.rises (within_all (entries g.0)) held.here.1.leads fits held.here.0.1 (λ q. omega (arith, held.apart q, split q)))
    (λ q. omega arith) (λ q. omega (arith, split q))
