-- A tree that is read stands, with what its values lead to.
use Rattle.std.proofs.Common.{◌≡◌, ◌≢◌, ℕ, zero, suc, ◌+◌, ◌-◌, ◌*◌, ◌≤◌, ◌<◌, ◌^◌, max, ◌==◌, ◌&&◌, Bool, true, false, List, [], ◌∷◌, ◌++◌, length, drop, Option, Some, None, refl, sym, ap, ◌∙◌, subst, arith, inl, inr}
use Rattle.std.specs.Prelude.{if◌then◌else◌, slice_index, All}
use Rattle.std.specs.declared.cmp.Ordering.{Ordering}
use Rattle.std.specs.declared.cmp.Ordering.TheVariants.{Less, Equal, Greater}
use Rattle.std.proofs.lemmas.Bool.{cases_lt}
use Rattle.std.proofs.lemmas.Bool.Decides.{nat_tests}
use Rattle.std.proofs.lemmas.List.{get_or-drop, get_or_past, length-drop, length-take}
use Rattle.std.proofs.lemmas.List.Elements.{All-cons, All-head, All-nil, All-tail}
use Rattle.base_outside.specs.Images.{bytes_at}
use Rattle.base_outside.specs.ImageLaws.{get_or-bytes_at, length-bytes_at}
use Rattle.pmem_pages.specs.Counts.{times_none}
use Rattle.pmem_pages.specs.Owners.{owned_each, stands_each, times, times-append}
use Rattle.pmem_pages.specs.declared.node.Node.{Node}
use Rattle.pmem_pages.specs.declared.node.TreeKey.{TreeKey}
use Rattle.pmem_pages.specs.declared.node.Value.{Value}
use Rattle.pmem_pages.specs.Node.{IsKey, IsValue, ZeroFrom, key_cmp, node_bytes, node_of}
use Rattle.pmem_pages.specs.Shape.{AllAbove, AllBelow, Balanced, Entry, Fork, Leaf, Rises, Shape, Stands, blocks_of, chosen, entries, height, node_at, root_of}
use Rattle.pmem_pages.proofs.Compared.{take_bytes}
use Rattle.pmem_pages.proofs.Lists.{AllAbove-lower, key_total}
use Rattle.pmem_pages.proofs.Nodes.{node_back}
use Rattle.vos_values.specs.Fields.{AreBytes, IsByteKey, IsByteValue}
use Rattle.vos_values.proofs.Orders.{drop_bytes}
use Rattle.vos_entries.specs.vos_levels.Levels.{Hung, LeadToAll, LeadsTo, Level, hung}
use Rattle.vos_image.specs.Steps.{Step, ◌>>=◌, fail, give, rule}
use Rattle.vos_image.specs.Laws.{IsOfBytes}
use Rattle.vos_image.specs.Content.{Content, block, is_taken, shown}
use Rattle.vos_image.specs.Trees.{Fields, Kind, is_above, is_below, is_height, read_below, read_fields, read_tree, stored_height}
use Rattle.vos_image.proofs.Reading.{AreZero, IsLink, Tells, tells_given, tells_linked, tells_none, tells_quiet, tells_ruled, tells_then, tells_too, tells_zeros, zero_test}
use Rattle.vos_image.proofs.Steps.{Tally, none, root_tally}
use Rattle.vos_image.proofs.Trees.{Within, first_of_two, fork_tally, hung_tally, second_of_two}

-- ---- blocks

pub block_bytes : (c : Content) (b : ℕ) → IsOfBytes c.bytes → AreBytes (block c b)
unfolding block
block_bytes c b h i = elim (cases_lt i 256) [
  | inl low ↦ let e = get_or-bytes_at c.bytes (256 * b) 256 i low in let small = h (256 * b + i) in omega (arith, e, small)
  | inr high ↦ let e = get_or_past (bytes_at c.bytes (256 * b) 256) i 0 (omega (arith, length-bytes_at c.bytes (256 * b) 256, high)) in omega (arith, e)
]

pub block_room : (c : Content) (b : ℕ) → length (block c b) ≡ 256
unfolding block
block_room c b = length-bytes_at c.bytes (256 * b) 256

pub taken_low : (c : Content) (b : ℕ) → is_taken c b ≡ true → 1264 ≤ b
unfolding is_taken
taken_low c b h = grind (arith, nat_tests)

pub taken_high : (c : Content) (b : ℕ) → is_taken c b ≡ true → b < 2 ^ 32
unfolding is_taken
taken_high c b h = let small : b < 131072 = grind (arith, nat_tests) in omega (arith, small)

pub shown_is : (c : Content) (b : ℕ) (bytes : List ℕ) → is_taken c b ≡ true → bytes ≡ block c b → shown c b ≡ Some bytes
unfolding shown
shown_is c b bytes t e = rw (t, e) refl

-- ---- a node

-- a thing that a key and a value lead to
pub record Made {A : Type 0} (L : Level A) (c : Content) (Fits : A → Type 0) (k : TreeKey) (v : Value) (a : A) : Type 0 where
  pub key : k ≡ L.key a
  pub value : v ≡ L.value a
  pub good : L.Good a
  pub fits : Fits a
  pub here : L.owner.stands (shown c) a

-- A kind of trees gives a level: what is read of a key and a value is what they were made of, and the thing stands.
pub record Gives {N V A : Type 0} (K : Kind N V A) (L : Level A) (c : Content) (Fits : A → Type 0) (Named : N → TreeKey → Type 0) (Valued : N → V → Value → Type 0) (roots : V → Tally) : Type 0 where
  pub kind : K.kind ≡ L.kind
  pub short : (n : ℕ) → K.is_length c n ≡ true → n ≤ 64
  pub name : (at : ℕ) (k : TreeKey) → Tells (K.name c at k) (λ n. IsByteKey k → Named n k) none (λ _. none)
  pub value : (at : ℕ) (n : N) (v : Value) → Tells (K.value c at n v) (λ x. IsByteValue K.kind v → Valued n x v) none roots
  pub thing : (n : N) (x : V) (k : TreeKey) (v : Value) → Named n k → Valued n x v → Tells (K.thing c n x) (Made L c Fits k v) (roots x) (λ a q. times q (L.owner.owned a))

-- what the fields of a node that were read are
record AreFields {N V A : Type 0} (K : Kind N V A) (c : Content) (Named : N → TreeKey → Type 0) (Valued : N → V → Value → Type 0) (b : ℕ) (low high : Option TreeKey) (f : Fields N V) : Type 0 where
  bytes : node_bytes K.kind f.node ≡ block c b
  key : IsKey f.node.key
  value : IsValue K.kind f.node.value
  left : IsLink c f.node.left
  right : IsLink c f.node.right
  between : (is_above low f.node.key && is_below high f.node.key) ≡ true
  named : Named f.name f.node.key
  valued : Valued f.name f.value f.node.value

-- how often a block is the left one, the right one, or one that the value leads to
abbrev links_by : ℕ → ℕ → Tally → Tally
links_by l r more q = root_tally l q + (root_tally r q + more q)

zero_from : (n : ℕ) (bs : List ℕ) → AreZero (drop n bs) → ZeroFrom n bs
zero_from n bs h i le = let e : n + (i - n) ≡ i = omega (arith, le) in ap (slice_index bs) (sym e) ∙ (sym (get_or-drop n bs (i - n) 0) ∙ h (i - n))

same_of : (a b : ℕ) → (a == b) ≡ true → a ≡ b
same_of a b h = grind (arith, nat_tests)

module _ {N V A : Type 0} (K : Kind N V A) (L : Level A) (c : Content) (Fits : A → Type 0) (Named : N → TreeKey → Type 0) (Valued : N → V → Value → Type 0) (roots : V → Tally) (gives : Gives K L c Fits Named Valued roots) (of_bytes : IsOfBytes c.bytes) where
  byte_key : (b : ℕ) → AreZero (drop (node_of K.kind (block c b)).key.len (node_of K.kind (block c b)).key.bytes) → IsByteKey (node_of K.kind (block c b)).key
  unfolding node_of
  byte_key b z = record {
    key = record { fits = omega arith; room = length-take 64 (drop 12 (block c b)) ∙ omega (arith, length-drop 12 (block c b), block_room c b); rest = zero_from _ _ z };
    are_bytes = take_bytes 64 (drop 12 (block c b)) (drop_bytes 12 (block c b) (block_bytes c b of_bytes));
  }

  byte_value : (b : ℕ) → AreZero (drop (node_of K.kind (block c b)).value.len (node_of K.kind (block c b)).value.bytes) → IsByteValue K.kind (node_of K.kind (block c b)).value
  unfolding node_of
  byte_value b z = record {
    value = record { fits = refl; room = length-take 180 (drop 76 (block c b)) ∙ omega (arith, length-drop 76 (block c b), block_room c b); rest = zero_from _ _ z };
    are_bytes = take_bytes 180 (drop 76 (block c b)) (drop_bytes 76 (block c b) (block_bytes c b of_bytes));
  }

  fields_stand : (b : ℕ) (low high : Option TreeKey) → Tells (read_fields K c b low high) (AreFields K c Named Valued b low high) none (λ f. links_by f.node.left f.node.right (roots f.value))
  unfolding read_fields
  fields_stand b low high =
      let n = node_of K.kind (block c b) in
      tells_ruled _ _ _ _ _ _ (λ kind.
      tells_ruled _ _ _ _ _ _ (λ long.
      tells_linked c _ n.left _ _ _ _ (λ left.
      tells_linked c _ n.right _ _ _ _ (λ right.
      tells_ruled _ _ _ _ _ _ (λ between.
      tells_quiet _ _ _ _ _ _ (gives.name (256 * b + 12) n.key) (λ name named.
      tells_zeros _ _ _ _ _ _ (λ zero_key.
      tells_then _ _ _ _ none roots _ _ (λ q. root_tally n.right q + root_tally n.left q) (gives.value (256 * b + 76) name n.value) (λ q. omega arith) (λ value valued.
      tells_zeros _ _ _ _ _ _ (λ zero_value.
      tells_given _ _ _ _
      (record {
        bytes = node_back K.kind (block c b) (record { room = block_room c b; are_bytes = block_bytes c b of_bytes; kind_is = same_of _ _ kind; key_fits = gives.short _ long });
        key = (byte_key b zero_key).key;
        value = (byte_value b zero_value).value;
        left = left;
        right = right;
        between = between;
        named = named (byte_key b zero_key);
        valued = valued (byte_value b zero_value);
      })
      (λ q. omega arith))))))))))

-- ---- keys between two others

above_is : (low k : TreeKey) → is_above (Some low) k ≡ true → key_cmp low k ≡ Less
above_is low k h = by (key_cmp low k) refl h
  where
    by : (o : Ordering) → key_cmp low k ≡ o → chosen o true false false ≡ true → key_cmp low k ≡ Less
    by Less e t = e
    by Equal e t = absurd (let no : ⊥ = cc in no)
    by Greater e t = absurd (let no : ⊥ = cc in no)

below_is : (high k : TreeKey) → is_below (Some high) k ≡ true → key_cmp k high ≡ Less
below_is high k h = by (key_cmp k high) refl h
  where
    by : (o : Ordering) → key_cmp k high ≡ o → chosen o true false false ≡ true → key_cmp k high ≡ Less
    by Less e t = e
    by Equal e t = absurd (let no : ⊥ = cc in no)
    by Greater e t = absurd (let no : ⊥ = cc in no)

all_below : (low : Option TreeKey) (k : TreeKey) (xs : List Entry) → Within low (Some k) xs → AllBelow k xs
all_below low k [] h = tt
all_below low k (x ∷ xs) h = (below_is k x.key (second_of_two (is_above low x.key) (is_below (Some k) x.key) h.0), all_below low k xs h.1)

all_above : (high : Option TreeKey) (k : TreeKey) (xs : List Entry) → Within (Some k) high xs → AllAbove k xs
all_above high k [] h = tt
all_above high k (x ∷ xs) h = (above_is k x.key (first_of_two (is_above (Some k) x.key) (is_below high x.key) h.0), all_above high k xs h.1)

below_further : (high : Option TreeKey) (k x : TreeKey) → key_cmp x k ≡ Less → is_below high k ≡ true → is_below high x ≡ true
below_further None k x e h = refl
below_further (Some high) k x e h = let less = key_total.trans x k high e (below_is high k h) in rw less refl

above_further : (low : Option TreeKey) (k x : TreeKey) → key_cmp k x ≡ Less → is_above low k ≡ true → is_above low x ≡ true
above_further None k x e h = refl
above_further (Some low) k x e h = let less = key_total.trans low k x (above_is low k h) e in rw less refl

left_within : (low high : Option TreeKey) (k : TreeKey) (xs : List Entry) → is_below high k ≡ true → Within low (Some k) xs → Within low high xs
left_within low high k [] t h = tt
left_within low high k (x ∷ xs) t h =
    let first = first_of_two (is_above low x.key) (is_below (Some k) x.key) h.0 in
    let next = below_further high k x.key (below_is k x.key (second_of_two (is_above low x.key) (is_below (Some k) x.key) h.0)) t in
    (rw (first, next) refl, left_within low high k xs t h.1)

right_within : (low high : Option TreeKey) (k : TreeKey) (xs : List Entry) → is_above low k ≡ true → Within (Some k) high xs → Within low high xs
right_within low high k [] t h = tt
right_within low high k (x ∷ xs) t h =
    let first = above_further low k x.key (above_is k x.key (first_of_two (is_above (Some k) x.key) (is_below high x.key) h.0)) t in
    let next = second_of_two (is_above (Some k) x.key) (is_below high x.key) h.0 in
    (rw (first, next) refl, right_within low high k xs t h.1)

within_both : (low high : Option TreeKey) (xs ys : List Entry) → Within low high xs → Within low high ys → Within low high (xs ++ ys)
within_both low high [] ys h k = k
within_both low high (x ∷ xs) ys h k = (h.0, within_both low high xs ys h.1 k)

above_both : (k : TreeKey) (xs : List Entry) (e : Entry) (ys : List Entry) → AllAbove k xs → key_cmp k e.key ≡ Less → AllAbove e.key ys → AllAbove k (xs ++ e ∷ ys)
above_both k [] e ys h less more = (less, AllAbove-lower k e.key ys less more)
above_both k (x ∷ xs) e ys h less more = (h.0, above_both k xs e ys h.1 less more)

rises_both : (xs : List Entry) (e : Entry) (ys : List Entry) → Rises xs → AllBelow e.key xs → AllAbove e.key ys → Rises ys → Rises (xs ++ e ∷ ys)
rises_both [] e ys h below above more = (above, more)
rises_both (x ∷ xs) e ys h below above more = (above_both x.key xs e ys h.0 below.0 above, rises_both xs e ys h.1 below.1 above more)

-- ---- a tree

-- what a tree that was read is
pub record Grown {A : Type 0} (L : Level A) (kind : ℕ) (c : Content) (Fits : A → Type 0) (b : ℕ) (low high : Option TreeKey) (g : Hung A) : Type 0 where
  pub root : root_of g.0 ≡ b
  pub stands : Stands (shown c) kind g.0
  pub high_is : height g.0 ≡ stored_height c b
  pub balanced : Balanced g.0
  pub rises : Rises (entries g.0)
  pub within : Within low high (entries g.0)
  pub leads : LeadToAll L (entries g.0) g.1
  pub fit : All Fits g.1
  pub here : stands_each L.owner (shown c) g.1

lead_both : {A : Type 0} (L : Level A) (es : List Entry) (e : Entry) (fs : List Entry) (xs : List A) (a : A) (ys : List A) → LeadToAll L es xs → LeadsTo L e a → LeadToAll L fs ys → LeadToAll L (es ++ e ∷ fs) (xs ++ a ∷ ys)
lead_both L [] e fs [] a ys h one more = (one, more)
lead_both L [] e fs (x ∷ xs) a ys h one more = absurd h
lead_both L (d ∷ es) e fs [] a ys h one more = absurd h
lead_both L (d ∷ es) e fs (x ∷ xs) a ys h one more = (h.0, lead_both L es e fs xs a ys h.1 one more)

pub all_both : {A : Type 0} (Fits : A → Type 0) (xs : List A) (a : A) (ys : List A) → All Fits xs → Fits a → All Fits ys → All Fits (xs ++ a ∷ ys)
all_both Fits [] a ys h one more = All-cons Fits a ys one more
all_both Fits (x ∷ xs) a ys h one more = All-cons Fits x (xs ++ a ∷ ys) (All-head Fits x xs h) (all_both Fits xs a ys (All-tail Fits x xs h) one more)

each_both : {A : Type 0} (L : Level A) (c : Content) (xs : List A) (a : A) (ys : List A) → stands_each L.owner (shown c) xs → L.owner.stands (shown c) a → stands_each L.owner (shown c) ys → stands_each L.owner (shown c) (xs ++ a ∷ ys)
each_both L c [] a ys h one more = (one, more)
each_both L c (x ∷ xs) a ys h one more = (h.0, each_both L c xs a ys h.1 one more)

-- what a height that is right says
record IsHigh (h l r : ℕ) : Type 0 where
  is : h ≡ max l r + 1
  left : l ≤ r + 1
  right : r ≤ l + 1

high_right : (h l r : ℕ) → is_height h l r ≡ true → IsHigh h l r
high_right h l r t = record { is = grind (arith, nat_tests); left = grind (arith, nat_tests); right = grind (arith, nat_tests) }

node_of_two : (n : Node) (l : Shape) (b : ℕ) (r : Shape) → n.height ≡ max (height l) (height r) + 1 → n.left ≡ root_of l → n.right ≡ root_of r → n ≡ node_at l (record { block = b; key = n.key; value = n.value }) r
node_of_two n l b r e f g = λ i. record { height = e i; left = f i; right = g i; key = n.key; value = n.value }

height_byte_of : (kind : ℕ) (n : Node) → slice_index (node_bytes kind n) 1 ≡ n.height
unfolding node_bytes
height_byte_of kind n = refl

module _ {N V A : Type 0} (K : Kind N V A) (L : Level A) (c : Content) (Fits : A → Type 0) (Named : N → TreeKey → Type 0) (Valued : N → V → Value → Type 0) where
  grown_fork : (b : ℕ) (low high : Option TreeKey) (f : Fields N V) (l : Hung A) (a : A) (r : Hung A)
      → (b == 0) ≡ false → is_taken c b ≡ true
      → AreFields K c Named Valued b low high f
      → is_height f.node.height (stored_height c f.node.left) (stored_height c f.node.right) ≡ true
      → Grown L K.kind c Fits f.node.left low (Some f.node.key) l
      → Made L c Fits f.node.key f.node.value a
      → Grown L K.kind c Fits f.node.right (Some f.node.key) high r
      → Grown L K.kind c Fits b low high (Fork l.0 (record { block = b; key = f.node.key; value = f.node.value }) r.0, l.1 ++ a ∷ r.1)
  grown_fork b low high f l a r ne taken fields right_high left made right =
      let e : Entry = record { block = b; key = f.node.key; value = f.node.value } in
      let tall = high_right f.node.height (stored_height c f.node.left) (stored_height c f.node.right) right_high in
      let lh = left.high_is in
      let rh = right.high_is in
      let tall_is = tall.is in
      let one = tall.left in
      let two = tall.right in
      let is_high : f.node.height ≡ max (height l.0) (height r.0) + 1 = omega (arith, lh, rh, tall_is) in
      let node_is = node_of_two f.node l.0 b r.0 is_high (sym left.root) (sym right.root) in
      let first = first_of_two (is_above low f.node.key) (is_below high f.node.key) fields.between in
      let next = second_of_two (is_above low f.node.key) (is_below high f.node.key) fields.between in
      let byte : slice_index (block c b) 1 ≡ f.node.height = ap (λ z. slice_index z 1) (sym fields.bytes) ∙ height_byte_of K.kind f.node in
      record {
        root = refl;
        stands = (
          record {
            entry = record { low = taken_low c b taken; high = taken_high c b taken; key = fields.key; value = fields.value };
            block = shown_is c b (node_bytes K.kind (node_at l.0 e r.0)) taken (ap (node_bytes K.kind) (sym node_is) ∙ fields.bytes);
          },
          left.stands,
          right.stands,
        );
        high_is = rw ne (sym is_high ∙ sym byte);
        balanced = (record { left = omega (arith, lh, rh, one); right = omega (arith, lh, rh, two) }, left.balanced, right.balanced);
        rises = rises_both (entries l.0) e (entries r.0) left.rises (all_below low e.key (entries l.0) left.within) (all_above high e.key (entries r.0) right.within) right.rises;
        within = within_both low high (entries l.0) (e ∷ entries r.0) (left_within low high e.key (entries l.0) next left.within) (fields.between, right_within low high e.key (entries r.0) first right.within);
        leads = lead_both L (entries l.0) e (entries r.0) l.1 a r.1 left.leads (record { key = made.key; value = made.value; good = made.good }) right.leads;
        fit = all_both Fits l.1 a r.1 left.fit made.fits right.fit;
        here = each_both L c l.1 a r.1 left.here made.here right.here;
      }

  grown_leaf : (b : ℕ) (low high : Option TreeKey) → (b == 0) ≡ true → Grown L K.kind c Fits b low high (Leaf, [])
  grown_leaf b low high e = record { root = sym (zero_test b e); stands = tt; high_is = rw e refl; balanced = tt; rises = tt; within = tt; leads = tt; fit = All-nil Fits; here = tt }

-- a tree of this root stands, with what its values lead to, as the layout asks
pub record StandsRead {A : Type 0} (L : Level A) (c : Content) (Fits : A → Type 0) (b : ℕ) (g : Hung A) : Type 0 where
  pub root : root_of g.0 ≡ b
  pub here : (hung L).stands (shown c) g
  pub fit : All Fits g.1

-- A tree that is read below a block stands there, with what its values lead to.
module _ {N V A : Type 0} (K : Kind N V A) (L : Level A) (c : Content) (Fits : A → Type 0) (Named : N → TreeKey → Type 0) (Valued : N → V → Value → Type 0) (roots : V → Tally) (gives : Gives K L c Fits Named Valued roots) (of_bytes : IsOfBytes c.bytes) where
  abbrev AsRead : (h b : ℕ) (low high : Option TreeKey) → Type 0
  AsRead h b low high = IsLink c b → Tells (read_below K c h b low high) (Grown L K.kind c Fits b low high) (root_tally b) (λ g. hung_tally L g.0 g.1)

  -- a fork, where its trees are read to a height
  abbrev read_fork : (h b : ℕ) (low high : Option TreeKey) → Step (Hung A)
  read_fork h b low high =
      read_fields K c b low high
      >>= λ f. rule (256 * b + 1) (is_height f.node.height (stored_height c f.node.left) (stored_height c f.node.right))
      >>= λ _. read_below K c h f.node.left low (Some f.node.key)
      >>= λ l. K.thing c f.name f.value
      >>= λ a. read_below K c h f.node.right (Some f.node.key) high
      >>= λ r. give (Fork l.0 (record { block = b; key = f.node.key; value = f.node.value }) r.0, l.1 ++ a ∷ r.1)

  leaf_read : (b : ℕ) (low high : Option TreeKey) → (b == 0) ≡ true → Tells (give {A = Hung A} (Leaf, [])) (Grown L K.kind c Fits b low high) (λ q. times q []) (λ g. hung_tally L g.0 g.1)
  leaf_read b low high e = tells_given _ _ _ _ (grown_leaf K L c Fits Named Valued b low high e) (λ q. omega (arith, times_none q))

  fork_reads : (h b : ℕ) (low high : Option TreeKey) → ((b : ℕ) (low high : Option TreeKey) → AsRead h b low high) → (b == 0) ≡ false → is_taken c b ≡ true
      → Tells (read_fork h b low high) (Grown L K.kind c Fits b low high) (λ q. times q (b ∷ [])) (λ g. hung_tally L g.0 g.1)
  fork_reads h b low high below ne taken =
      tells_then _ _ _ _ none (λ f. links_by f.node.left f.node.right (roots f.value)) _ _ (λ q. times q (b ∷ [])) (fields_stand K L c Fits Named Valued roots gives of_bytes b low high) (λ q. omega arith) (λ f fields.
      tells_ruled _ _ _ _ _ _ (λ right_high.
      tells_then _ _ _ _ (root_tally f.node.left) (λ g. hung_tally L g.0 g.1) _ _ (λ q. root_tally f.node.right q + (roots f.value q + times q (b ∷ []))) (below f.node.left low (Some f.node.key) fields.left) (λ q. omega arith) (λ l left.
      tells_then _ _ _ _ (roots f.value) (λ a q. times q (L.owner.owned a)) _ _ (λ q. hung_tally L l.0 l.1 q + (root_tally f.node.right q + times q (b ∷ []))) (gives.thing f.name f.value f.node.key f.node.value fields.named fields.valued) (λ q. omega arith) (λ a made.
      tells_then _ _ _ _ (root_tally f.node.right) (λ g. hung_tally L g.0 g.1) _ _ (λ q. times q (L.owner.owned a) + (hung_tally L l.0 l.1 q + times q (b ∷ []))) (below f.node.right (Some f.node.key) high fields.right) (λ q. omega arith) (λ r right.
      tells_given _ _ _ _ (grown_fork K L c Fits Named Valued b low high f l a r ne taken fields right_high left made right)
      (λ q. omega (arith, fork_tally L q l.0 (record { block = b; key = f.node.key; value = f.node.value }) r.0 l.1 a r.1)))))))

  not_zero : (b : ℕ) → (b == 0) ≡ false → b ≢ 0
  not_zero b e z = let no : ⊥ = grind (arith, nat_tests) in no

  below_stands : (h b : ℕ) (low high : Option TreeKey) → AsRead h b low high
  below_stands zero b low high link = by (b == 0) refl
    where
      by : (t : Bool) → (b == 0) ≡ t → Tells (if t then give (Leaf, []) else (read_fields K c b low high >>= λ _. fail (256 * b + 1))) (Grown L K.kind c Fits b low high) (λ q. times q (if t then [] else b ∷ [])) (λ g. hung_tally L g.0 g.1)
      by true e = leaf_read b low high e
      by false e = tells_then _ _ _ _ none (λ f. links_by f.node.left f.node.right (roots f.value)) _ _ (λ q. times q (b ∷ [])) (fields_stand K L c Fits Named Valued roots gives of_bytes b low high) (λ q. omega arith) (λ f fields. tells_none _ _ _ _)
  below_stands (suc h) b low high link = by (below_stands h) (b == 0) refl
    where
      by : ((b : ℕ) (low high : Option TreeKey) → AsRead h b low high) → (t : Bool) → (b == 0) ≡ t → Tells (if t then give (Leaf, []) else (read_fork h b low high)) (Grown L K.kind c Fits b low high) (λ q. times q (if t then [] else b ∷ [])) (λ g. hung_tally L g.0 g.1)
      by below true e = leaf_read b low high e
      by below false e = fork_reads h b low high below e (link (not_zero b e))

  -- all of a tree that was read
  pub tree_stands : (b : ℕ) → IsLink c b → Tells (read_tree K c b) (StandsRead L c Fits b) (root_tally b) (λ g q. times q ((hung L).owned g))
  unfolding read_tree
  tree_stands b link =
      tells_too _ _ _ _ (λ g. hung_tally L g.0 g.1) _ _ (below_stands (stored_height c b) b None None link)
      (λ g grown. record {
        root = grown.root;
        here = ((subst (λ k. Stands (shown c) k g.0) gives.kind grown.stands, grown.here), record { balanced = grown.balanced; rises = grown.rises; leads = grown.leads });
        fit = grown.fit;
      })
      (λ g grown q. omega (arith, times-append q (blocks_of (entries g.0)) (owned_each L.owner g.1)))
