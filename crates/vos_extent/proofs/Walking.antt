-- A walk up over the extents that may reach into a stretch of indexes.
use Rattle.std.proofs.Common.{◌≡◌, ℕ, suc, ◌+◌, ◌-◌, ◌*◌, ◌/◌, ◌<◌, ◌≤◌, ◌^◌, ◌&&◌, ◌||◌, Bool, true, false, nat_le, nat_lt, List, [], ◌∷◌, ◌++◌, length, map, get_or, Option, Some, None, refl, sym, ap, ◌∙◌, subst, arith, append_assoc}
use Rattle.std.specs.Prelude.{if◌then◌else◌, not}
use Rattle.std.proofs.lemmas.List.{append-nil, length-append, nil_from_length}
use Rattle.byteorder.specs.Endian.{big_bytes}
use Rattle.daos_model.specs.Pieces.{pieces_of}
use Rattle.std.specs.List.{list_any}
use Rattle.std.specs.Option.{option_and_then, option_map}
use Rattle.std.proofs.lemmas.Bool.Decides.{nat_tests}
use Rattle.std.proofs.Math.Nat.{div-le_self, mul-le-mul_right}
use Rattle.std.specs.Ordering.{nat_cmp, ordering_then}
use Rattle.std.specs.declared.cmp.Ordering.{Ordering}
use Rattle.std.specs.declared.cmp.Ordering.TheVariants.{Less, Equal, Greater}
use Rattle.pmem_pages.specs.Blocks.{Blocks}
use Rattle.pmem_pages.specs.Node.{key_cmp}
use Rattle.pmem_pages.specs.Owners.{Holds, each}
use Rattle.pmem_pages.specs.Parts.{above}
use Rattle.pmem_pages.specs.Shape.{AllAbove, Entry, Rises, chosen, entries, first_above}
use Rattle.pmem_pages.specs.declared.node.TreeKey.{TreeKey}
use Rattle.pmem_pages.proofs.Lists.{AllAbove-lower}
use Rattle.pmem_pages.proofs.Walks.{above_next, above_none}
use Rattle.vos_moments.specs.pmem_tree_base.Find.{pair_of}
use Rattle.vos_values.specs.declared.keys.ExtentKey.{ExtentKey}
use Rattle.vos_values.specs.declared.keys.Moment.{Moment}
use Rattle.vos_values.specs.Fields.{key_of, packed}
use Rattle.vos_values.specs.Keys.{IsExtentKey, extent_fields, extent_key, name_key}
use Rattle.vos_values.specs.Values.{version_value}
use Rattle.vos_values.proofs.KeyLaws.{extents_exact, extents_order, keys_cmp}
use Rattle.vos_values.proofs.Orders.{packed_cmp}
use Rattle.vos_values.proofs.Reading.{first_holds, then_holds}
use Rattle.vos_values.proofs.ValueLaws.{singles_exact}
use Rattle.vos_moments.specs.vos_levels.Levels.{LeadToAll, pair_of_thing, things}
use Rattle.vos_moments.proofs.vos_levels.Changing.{holds_each, holds_spot}
use Rattle.vos_moments.proofs.vos_levels.Testing.{few_things}
use Rattle.vos_moments.specs.vos_levels.Moments.{is_earlier}
use Rattle.vos_versions.specs.vos_chain.Made.{IsChainAt}
use Rattle.vos_extent.specs.declared.cells.Cell.{Cell}
use Rattle.vos_extent.specs.declared.extent.ExtentVersion.{ExtentVersion}
use Rattle.vos_extent.specs.declared.pieces.Look.{Look}
use Rattle.vos_extent.specs.declared.pieces.Placed.{Placed}
use Rattle.vos_extent.specs.Cells.{Dated, dated_in, painted}
use Rattle.vos_extent.specs.Looks.{Lays, Painted, is_about, moment_at, record_of_cell, records_of, shows_at, view}
use Rattle.vos_extent.specs.Extents.{Extents, IsStored, Stored, chain_of, extent_level, extent_of, extent_owner, extents, key_of_stored, mark_of, place_of, placed_in_pair, placed_of, placed_when, placed_with}
use Rattle.vos_extent.specs.Shown.{covers, greatest, hides, is_hidden, is_near, moment_of, near, pieces_at, record_at, record_in, records_from, shows, start_key}
use Rattle.vos_extent.proofs.Greatest.{greatest_append, greatest_none, painted_seen, record_is, shows_not_covers, shows_not_hidden, shows_not_seen, view_same}

-- ---- keys

-- the key of an index alone lies below those of the extents from it on, and above the others
pub start_order : (low : ℕ) (x : ExtentKey) → low < 2 ^ 32 → IsExtentKey x → key_cmp (start_key low) (extent_key x) ≡ ordering_then (nat_cmp low x.low) Less
unfolding extent_key start_key name_key
start_order low x h g =
    ap (λ z. key_cmp (key_of z) (key_of (packed (extent_fields x)))) (sym (append-nil (big_bytes 4 low)))
    ∙ keys_cmp (packed ((4, low) ∷ [])) (packed (extent_fields x))
    ∙ packed_cmp ((4, low) ∷ []) (extent_fields x) (omega arith, h, tt) (omega arith, g.low, (omega arith, g.epoch, (omega arith, let k = g.minor in omega arith, tt))) (refl, tt)

low_after : (low x : ℕ) → (ordering_then (nat_cmp low x) Less ≡ Less → ⊥) → x < low
low_after low x h = by (nat_lt x low) refl
  where
    by : (t : Bool) → nat_lt x low ≡ t → x < low
    by true e = grind (arith, nat_tests)
    by false e = absurd (h (grind (arith, nat_tests)))

start_before : (low : ℕ) (s : Stored) → low < 2 ^ 32 → IsStored s → (key_cmp (start_key low) (key_of_stored s) ≡ Less → ⊥) → s.extent.low < low
start_before low s h g other = low_after low s.extent.low (λ e. other (start_order low (place_of s.extent) h g.place ∙ e))

low_from : (low x : ℕ) → ordering_then (nat_cmp low x) Less ≡ Less → low ≤ x
low_from low x h = grind (arith, nat_tests)

start_behind : (low : ℕ) (s : Stored) → low < 2 ^ 32 → IsStored s → key_cmp (start_key low) (key_of_stored s) ≡ Less → low ≤ s.extent.low
start_behind low s h g less = low_from low s.extent.low (sym (start_order low (place_of s.extent) h g.place) ∙ less)

three_low : (a b c x y z : ℕ) → ordering_then (nat_cmp a x) (ordering_then (nat_cmp b y) (ordering_then (nat_cmp c z) Equal)) ≡ Less → a ≤ x
three_low a b c x y z h = grind (arith, nat_tests)

place_behind : (s x : Stored) → IsStored s → IsStored x → key_cmp (key_of_stored s) (key_of_stored x) ≡ Less → s.extent.low ≤ x.extent.low
place_behind s x g h less =
    let p = place_of s.extent in
    let q = place_of x.extent in
    three_low p.low p.epoch.0 p.minor q.low q.epoch.0 q.minor (sym (extents_order p q g.place h.place) ∙ less)

-- ---- the extents above a key

above_all : (k : TreeKey) (es : List Entry) → AllAbove k es → above k es ≡ es
above_all k [] a = refl
above_all k (e ∷ es) a = rw a.0 (ap (λ l. e ∷ l) (above_all k es a.1))

above_are : (k : TreeKey) (es : List Entry) → AllAbove k (above k es)
above_are k [] = tt
above_are k (e ∷ es) = by (key_cmp k e.key) refl (above_are k es)
  where
    by : (o : Ordering) → key_cmp k e.key ≡ o → AllAbove k (above k es) → AllAbove k (chosen o (e ∷ above k es) (above k es) (above k es))
    by Less c r = (c, r)
    by Equal c r = r
    by Greater c r = r

-- none of these lies above the key
abbrev NoneAbove : TreeKey → List Stored → Type 0
NoneAbove k [] = Unit {0}
NoneAbove k (s ∷ xs) = (IsStored s × (key_cmp k (key_of_stored s) ≡ Less → ⊥)) × NoneAbove k xs

record Split (k : TreeKey) (es : List Entry) (xs : List Stored) : Type 0 where
  left : List Stored
  right : List Stored
  all : xs ≡ left ++ right
  lower : NoneAbove k left
  leads : LeadToAll extent_level (above k es) right

split : (k : TreeKey) (es : List Entry) (xs : List Stored) → LeadToAll extent_level es xs → Rises es → Split k es xs
split k [] [] p r = record { left = []; right = []; all = refl; lower = tt; leads = tt }
split k [] (s ∷ xs) p r = absurd p
split k (e ∷ es) [] p r = absurd p
split k (e ∷ es) (s ∷ xs) p r = by (key_cmp k e.key) refl (split k es xs p.1 r.1)
  where
    later : (o : Ordering) → key_cmp k e.key ≡ o → (o ≡ Less → ⊥) → chosen o (e ∷ above k es) (above k es) (above k es) ≡ above k es → Split k es xs → Split k (e ∷ es) (s ∷ xs)
    later o c other is t = record {
      left = s ∷ t.left;
      right = t.right;
      all = ap (λ z. s ∷ z) t.all;
      lower = ((p.0.good, λ less. other (sym c ∙ (ap (key_cmp k) p.0.key ∙ less))), t.lower);
      leads = subst (λ z. LeadToAll extent_level z t.right) (sym (ap (λ z. chosen z (e ∷ above k es) (above k es) (above k es)) c ∙ is)) t.leads;
    }

    by : (o : Ordering) → key_cmp k e.key ≡ o → Split k es xs → Split k (e ∷ es) (s ∷ xs)
    by Less c t = record {
      left = [];
      right = s ∷ xs;
      all = refl;
      lower = tt;
      leads = subst (λ z. LeadToAll extent_level z (s ∷ xs)) (sym (ap (λ z. chosen z (e ∷ above k es) (above k es) (above k es)) c)) (p.0, subst (λ z. LeadToAll extent_level z xs) (sym (above_all k es (AllAbove-lower k e.key es c r.0))) p.1);
    }
    by Equal c t = later Equal c (λ n. let z : ⊥ = cc in z) refl t
    by Greater c t = later Greater c (λ n. let z : ⊥ = cc in z) refl t

-- what a key and a value of an extent say
pub placed_again : (s : Stored) → IsStored s → placed_in_pair (pair_of_thing extent_level s) ≡ Some (placed_of s)
placed_again s h =
    ap (placed_when (version_value (mark_of s))) (extents_exact.again (place_of s.extent) h.place)
    ∙ ap (placed_with (place_of s.extent)) (singles_exact.again (mark_of s) h.mark)

-- the first extent above a key
record First (k : TreeKey) (es : List Entry) (rest : List Stored) (placed : Placed) : Type 0 where
  stored : Stored
  behind : List Stored
  rest_is : rest ≡ stored ∷ behind
  good : IsStored stored
  placed_is : placed_of stored ≡ placed
  leads : LeadToAll extent_level (above (key_of_stored stored) es) behind

inside : (x y : Placed) → Some x ≡ Some y → x ≡ y
inside x y h = cc

first_here : (k : TreeKey) (es : List Entry) (rest : List Stored) (placed : Placed) (e : Entry) → Some placed ≡ option_and_then placed_in_pair (pair_of (Some e)) → LeadToAll extent_level (e ∷ above e.key es) rest → First k es rest placed
first_here k es [] placed e found p = absurd p
first_here k es (s ∷ behind) placed e found p =
    let pair : option_and_then placed_in_pair (pair_of (Some e)) ≡ Some (placed_of s) = (λ i. placed_in_pair (record { key = p.0.key i; value = p.0.value i })) ∙ placed_again s p.0.good in
    record {
      stored = s;
      behind = behind;
      rest_is = refl;
      good = p.0.good;
      placed_is = sym (inside placed (placed_of s) (found ∙ pair));
      leads = subst (λ z. LeadToAll extent_level (above z es) behind) p.0.key p.1;
    }

first_over : (k : TreeKey) (es : List Entry) (rest : List Stored) (placed : Placed) → Rises es → LeadToAll extent_level (above k es) rest → Some placed ≡ option_and_then placed_in_pair (pair_of (first_above k es)) → First k es rest placed
first_over k es rest placed r p found = by (first_above k es) refl found
  where
    by : (x : Option Entry) → first_above k es ≡ x → Some placed ≡ option_and_then placed_in_pair (pair_of x) → First k es rest placed
    by None e f = absurd (let n : ⊥ = cc in n)
    by (Some x) e f = first_here k es rest placed x f (subst (λ z. LeadToAll extent_level z rest) (above_next k x es r e) p)

none_leads : (rest : List Stored) → LeadToAll extent_level [] rest → rest ≡ []
none_leads [] p = refl
none_leads (s ∷ rest) p = absurd p

none_over : (k : TreeKey) (es : List Entry) (rest : List Stored) → Rises es → LeadToAll extent_level (above k es) rest → None ≡ option_and_then placed_in_pair (pair_of (first_above k es)) → rest ≡ []
none_over k es rest r p found = by (first_above k es) refl found
  where
    some : (x : Entry) → first_above k es ≡ Some x → None ≡ option_and_then placed_in_pair (pair_of (Some x)) → (xs : List Stored) → LeadToAll extent_level (x ∷ above x.key es) xs → xs ≡ []
    some x e f [] q = refl
    some x e f (s ∷ xs) q =
        let pair : option_and_then placed_in_pair (pair_of (Some x)) ≡ Some (placed_of s) = (λ i. placed_in_pair (record { key = q.0.key i; value = q.0.value i })) ∙ placed_again s q.0.good in
        absurd (let n = f ∙ pair in let z : ⊥ = cc in z)

    by : (x : Option Entry) → first_above k es ≡ x → None ≡ option_and_then placed_in_pair (pair_of x) → rest ≡ []
    by None e f = none_leads rest (subst (λ z. LeadToAll extent_level z rest) (above_none k es e) p)
    by (Some x) e f = some x e f rest (subst (λ z. LeadToAll extent_level z rest) (above_next k x es r e) p)

-- ---- what the indexes hold on the way

-- none of these begins before an index
abbrev AllFrom : ℕ → List Stored → Type 0
AllFrom low [] = Unit {0}
AllFrom low (s ∷ xs) = (low ≤ s.extent.low + 1023) × AllFrom low xs

map_append : (xs ys : List Stored) → map extent_of (xs ++ ys) ≡ map extent_of xs ++ map extent_of ys
map_append [] ys = refl
map_append (x ∷ xs) ys = ap (λ z. extent_of x ∷ z) (map_append xs ys)

near_append : (low high : ℕ) (vs ws : List ExtentVersion) → near low high (vs ++ ws) ≡ near low high vs + near low high ws
near_append low high [] ws = omega arith
near_append low high (v ∷ vs) ws = omega (arith, near_append low high vs ws)

near_most : (low high : ℕ) (vs : List ExtentVersion) → near low high vs ≤ length vs
near_most low high [] = omega arith
near_most low high (v ∷ vs) = by (is_near low high v) (near_most low high vs)
  where
    by : (t : Bool) → near low high vs ≤ length vs → (if t then 1 else 0) + near low high vs ≤ suc (length vs)
    by true h = omega arith
    by false h = omega arith

near_one : (low high : ℕ) (v : ExtentVersion) → low ≤ v.low + 1023 → v.low < high → ◌≡◌ {A = ℕ} (if is_near low high v then 1 else 0) 1
near_one low high v h k = let t : is_near low high v ≡ true = grind (arith, nat_tests) in ap {B = ℕ} (λ (z : Bool). if z then 1 else 0) t

length_map : (xs : List Stored) → length (map extent_of xs) ≡ length xs
length_map [] = refl
length_map (x ∷ xs) = ap suc (length_map xs)

-- a version reaches at most 1,023 indexes behind its first
covers_not_before : (unit i : ℕ) (v : ExtentVersion) → length v.bytes ≤ 1024 → v.low + 1024 ≤ i → covers unit i v ≡ false
covers_not_before unit i v short far =
    let most = div-le_self (length v.bytes) unit in
    grind (arith, nat_tests)

covers_not_behind : (unit i : ℕ) (v : ExtentVersion) → i < v.low → covers unit i v ≡ false
covers_not_behind unit i v h = grind (arith, nat_tests)

stored_short : (s : Stored) → IsStored s → length s.extent.bytes ≤ 1024
stored_short s h = let test = h.mark.length in grind (arith, nat_tests)

either_false : (s t : Bool) → s ≡ false → t ≡ false → (s || t) ≡ false
either_false true t h k = absurd (let n : ⊥ = cc in n)
either_false false t h k = k

module _ (l : Look) where
  none_left : (from : ℕ) (i : ℕ) → from < 2 ^ 32 → l.low ≤ from + 1023 → l.low ≤ i → (from ≡ l.low - 1023) → (xs : List Stored) → NoneAbove (start_key from) xs → list_any (shows l.unit l.start l.punched i) (map extent_of xs) ≡ false
  none_left from i small reach inside is [] n = refl
  none_left from i small reach inside is (s ∷ xs) n =
      let before = start_before from s small n.0.0 n.0.1 in
      either_false (shows l.unit l.start l.punched i s.extent) (list_any (shows l.unit l.start l.punched i) (map extent_of xs))
      (shows_not_covers l.unit l.start l.punched i s.extent (covers_not_before l.unit i s.extent (stored_short s n.0.0) (omega (arith, before, is, inside))))
      (none_left from i small reach inside is xs n.1)

  none_right : (high i : ℕ) (s : Stored) → IsStored s → high ≤ s.extent.low → i < high → (es : List Entry) (xs : List Stored) → LeadToAll extent_level es xs → AllAbove (key_of_stored s) es → list_any (shows l.unit l.start l.punched i) (map extent_of xs) ≡ false
  none_right high i s g far inside [] [] p a = refl
  none_right high i s g far inside [] (x ∷ xs) p a = absurd p
  none_right high i s g far inside (e ∷ es) [] p a = absurd p
  none_right high i s g far inside (e ∷ es) (x ∷ xs) p a =
      let behind = place_behind s x g p.0.good (ap (key_cmp (key_of_stored s)) (sym p.0.key) ∙ a.0) in
      either_false (shows l.unit l.start l.punched i x.extent) (list_any (shows l.unit l.start l.punched i) (map extent_of xs))
      (shows_not_covers l.unit l.start l.punched i x.extent (covers_not_behind l.unit i x.extent (omega (arith, behind, far, inside))))
      (none_right high i s g far inside es xs p.1 a.1)

  all_from : (from : ℕ) → from < 2 ^ 32 → l.low ≤ from + 1023 → (es : List Entry) (xs : List Stored) → LeadToAll extent_level es xs → AllAbove (start_key from) es → AllFrom l.low xs
  all_from from small reach [] [] p a = tt
  all_from from small reach [] (x ∷ xs) p a = absurd p
  all_from from small reach (e ∷ es) [] p a = absurd p
  all_from from small reach (e ∷ es) (x ∷ xs) p a =
      let behind = start_behind from x small p.0.good (ap (key_cmp (start_key from)) (sym p.0.key) ∙ a.0) in
      (omega (arith, behind, reach), all_from from small reach es xs p.1 a.1)

  -- The extents up to a key were laid over the indexes, and those above it are still to come.
  pub record Ahead (g : Extents) (key : TreeKey) (cells : List (Option Cell)) (passed : ℕ) : Type 0 where
    pub seen : List Stored
    pub rest : List Stored
    pub all : things g ≡ seen ++ rest
    pub leads : LeadToAll extent_level (above key (entries g.0)) rest
    pub from : AllFrom l.low rest
    pub count : passed ≤ near l.low l.high (map extent_of seen)
    pub shown : Painted l cells (map extent_of seen)

  pub ahead_first : (m : Blocks) (g : Extents) (cells : List (Option Cell)) (from : ℕ) → Holds extent_owner m g → from < 2 ^ 32 → from ≡ l.low - 1023 → ((i : ℕ) → i < length cells → get_or cells i None ≡ None) → Ahead g (start_key from) cells 0
  ahead_first m g cells from h small is blank =
      let s = split (start_key from) (entries g.0) g.1 h.here.1.leads h.here.1.rises in
      record {
        seen = s.left;
        rest = s.right;
        all = s.all;
        leads = s.leads;
        from = all_from from small (omega (arith, is)) (above (start_key from) (entries g.0)) s.right s.leads (above_are (start_key from) (entries g.0));
        count = omega arith;
        shown = λ i inside.
            ap (dated_in l.unit) (blank i inside)
            ∙ ap (view l.unit (l.low + i)) (sym (greatest_none None (shows l.unit l.start l.punched (l.low + i)) (map extent_of s.left) (none_left from (l.low + i) small (omega (arith, is)) (omega arith) is s.left s.lower)));
      }

  -- the first of those still to come
  pub record Coming (m : Blocks) (g : Extents) (key : TreeKey) (cells : List (Option Cell)) (passed : ℕ) (placed : Placed) : Type 0 where
    pub stored : Stored
    pub placed_is : placed_of stored ≡ placed
    pub short : placed.mark.length ≤ 1024
    pub chain : IsChainAt m placed.mark.chain placed.mark.length (chain_of stored)
    pub far : l.high ≤ placed.at.low → Painted l cells (extents g) × (passed ≤ near l.low l.high (extents g))
    pub on : (now : List (Option Cell)) → placed.at.low < l.high → length now ≡ length cells → length cells ≤ l.high - l.low → Lays l stored cells now → Ahead g (extent_key placed.at) now (passed + 1)

  stands_at : (m : Blocks) (xs left : List Stored) (s : Stored) (right : List Stored) → xs ≡ left ++ s ∷ right → Holds (each extent_level.owner) m xs → Holds extent_level.owner m s
  stands_at m xs left s right is h = holds_spot extent_level.owner m left s right (subst (λ z. Holds (each extent_level.owner) m z) is h)

  -- all there is was laid over the indexes
  over_all : (g : Extents) (cells : List (Option Cell)) (seen rest : List Stored) (passed : ℕ) → things g ≡ seen ++ rest → passed ≤ near l.low l.high (map extent_of seen) → Painted l cells (map extent_of seen) → ((i : ℕ) → i < length cells → list_any (shows l.unit l.start l.punched (l.low + i)) (map extent_of rest) ≡ false)
      → Painted l cells (extents g) × (passed ≤ near l.low l.high (extents g))
  over_all g cells seen rest passed all count shown none =
      let parts : extents g ≡ map extent_of seen ++ map extent_of rest = ap (map extent_of) all ∙ map_append seen rest in (
        λ i inside.
            shown i inside
            ∙ ap (view l.unit (l.low + i)) (sym (ap (greatest (shows l.unit l.start l.punched (l.low + i))) parts
            ∙ (greatest_append None (shows l.unit l.start l.punched (l.low + i)) (map extent_of seen) (map extent_of rest)
            ∙ greatest_none (greatest (shows l.unit l.start l.punched (l.low + i)) (map extent_of seen)) (shows l.unit l.start l.punched (l.low + i)) (map extent_of rest) (none i inside)))),
        omega (arith, count, near_append l.low l.high (map extent_of seen) (map extent_of rest), ap (near l.low l.high) parts),
      )

  pub ahead_none : (m : Blocks) (g : Extents) (key : TreeKey) (cells : List (Option Cell)) (passed : ℕ) → Holds extent_owner m g → Ahead g key cells passed → None ≡ option_and_then placed_in_pair (pair_of (first_above key (entries g.0))) → Painted l cells (extents g) × (passed ≤ near l.low l.high (extents g))
  ahead_none m g key cells passed h a none =
      let e = none_over key (entries g.0) a.rest h.here.1.rises a.leads none in
      over_all g cells a.seen a.rest passed a.all a.count a.shown (λ i inside. ap (λ z. list_any (shows l.unit l.start l.punched (l.low + i)) (map extent_of z)) e)

  -- as many as there may be
  pub ahead_over : (m : Blocks) (g : Extents) (key : TreeKey) (cells : List (Option Cell)) (passed : ℕ) → Holds extent_owner m g → Ahead g key cells passed → 2 ^ 32 ≤ passed → Painted l cells (extents g) × (passed ≤ near l.low l.high (extents g))
  ahead_over m g key cells passed h a over =
      let few = few_things extent_level m g h in
      let long : length (things g) ≡ length a.seen + length a.rest = ap length a.all ∙ length-append a.seen a.rest in
      let none : a.rest ≡ [] = nil_from_length a.rest (omega (arith, few, long, over, a.count, near_most l.low l.high (map extent_of a.seen), length_map a.seen)) in
      over_all g cells a.seen a.rest passed a.all a.count a.shown (λ i inside. ap (λ z. list_any (shows l.unit l.start l.punched (l.low + i)) (map extent_of z)) none)

  pub passed_near : (g : Extents) (key : TreeKey) (cells : List (Option Cell)) (passed : ℕ) → Ahead g key cells passed → passed ≤ near l.low l.high (extents g)
  passed_near g key cells passed a =
      let parts : extents g ≡ map extent_of a.seen ++ map extent_of a.rest = ap (map extent_of) a.all ∙ map_append a.seen a.rest in
      omega (arith, a.count, near_append l.low l.high (map extent_of a.seen) (map extent_of a.rest), ap (near l.low l.high) parts)

  pub coming : (m : Blocks) (g : Extents) (key : TreeKey) (cells : List (Option Cell)) (passed : ℕ) (placed : Placed) → Holds extent_owner m g → length cells ≤ l.high - l.low → Ahead g key cells passed → Some placed ≡ option_and_then placed_in_pair (pair_of (first_above key (entries g.0))) → Coming m g key cells passed placed
  coming m g key cells passed placed h fits a found =
      let f = first_over key (entries g.0) a.rest placed h.here.1.rises a.leads found in
      let s = f.stored in
      let is : things g ≡ a.seen ++ s ∷ f.behind = a.all ∙ ap (λ z. a.seen ++ z) f.rest_is in
      let mine = stands_at m g.1 a.seen s f.behind is (holds_each extent_level m g h) in
      let froms : AllFrom l.low (s ∷ f.behind) = subst (λ z. AllFrom l.low z) f.rest_is a.from in
      record {
        stored = s;
        placed_is = f.placed_is;
        short = subst (λ (z : Placed). z.mark.length ≤ 1024) f.placed_is (stored_short s f.good);
        chain = subst (λ (z : Placed). IsChainAt m z.mark.chain z.mark.length (chain_of s)) f.placed_is (record { holds = record { here = mine.here; apart = mine.apart }; first_is = refl; count_is = refl });
        far = λ high.
            let behind : l.high ≤ s.extent.low = subst (λ (z : Placed). l.high ≤ z.at.low) (sym f.placed_is) high in
            over_all g cells a.seen a.rest passed a.all a.count a.shown (λ i inside.
            let within : l.low + i < l.high = omega (arith, inside, fits) in
            ap (λ z. list_any (shows l.unit l.start l.punched (l.low + i)) (map extent_of z)) f.rest_is
            ∙ either_false (shows l.unit l.start l.punched (l.low + i) s.extent) (list_any (shows l.unit l.start l.punched (l.low + i)) (map extent_of f.behind))
            (shows_not_covers l.unit l.start l.punched (l.low + i) s.extent (covers_not_behind l.unit (l.low + i) s.extent (omega (arith, behind, within))))
            (none_right l.high (l.low + i) s f.good behind within (above (key_of_stored s) (entries g.0)) f.behind f.leads (above_are (key_of_stored s) (entries g.0))));
        on = λ now less long within lays.
            let first : s.extent.low < l.high = subst (λ (z : Placed). z.at.low < l.high) (sym f.placed_is) less in
            let parts : map extent_of (a.seen ++ s ∷ []) ≡ map extent_of a.seen ++ s.extent ∷ [] = map_append a.seen (s ∷ []) in
            record {
              seen = a.seen ++ s ∷ [];
              rest = f.behind;
              all = is ∙ sym (append_assoc a.seen (s ∷ []) f.behind);
              leads = subst (λ (z : Placed). LeadToAll extent_level (above (extent_key z.at) (entries g.0)) f.behind) f.placed_is f.leads;
              from = froms.1;
              count = omega (arith, a.count, ap (near l.low l.high) parts, near_append l.low l.high (map extent_of a.seen) (s.extent ∷ []), near_one l.low l.high s.extent froms.0 first);
              shown = λ i inside.
                  lays i (omega (arith, inside, long)) (greatest (shows_at l i) (map extent_of a.seen)) (a.shown i (omega (arith, inside, long)))
                  ∙ ap (view l.unit (l.low + i)) (sym (ap (greatest (shows_at l i)) parts ∙ greatest_append None (shows_at l i) (map extent_of a.seen) (s.extent ∷ [])));
            };
      }

-- ---- what was laid, as pieces

records_same : (unit : ℕ) (start : Moment) (punched : Option Moment) (i : ℕ) (c : Option Cell) (vs : List ExtentVersion) → dated_in unit c ≡ view unit i (greatest (shows unit start punched i) vs) → record_of_cell unit c ≡ record_at unit start punched i vs
records_same unit start punched i c vs h = of_cell c ∙ (ap (option_map (λ (d : Dated). d.1)) h ∙ (of_view (greatest (shows unit start punched i) vs) ∙ sym (record_is unit start punched i vs)))
  where
    of_cell : (x : Option Cell) → record_of_cell unit x ≡ option_map (λ (d : Dated). d.1) (dated_in unit x)
    of_cell None = refl
    of_cell (Some x) = refl

    of_view : (x : Option ExtentVersion) → option_map (λ (d : Dated). d.1) (view unit i x) ≡ option_map (record_in unit i) x
    of_view None = refl
    of_view (Some x) = refl

records_all : (unit : ℕ) (start : Moment) (punched : Option Moment) (i : ℕ) (cells : List (Option Cell)) (vs : List ExtentVersion) → ((j : ℕ) → j < length cells → dated_in unit (get_or cells j None) ≡ view unit (i + j) (greatest (shows unit start punched (i + j)) vs))
    → records_of unit cells ≡ records_from unit start punched i (length cells) vs
records_all unit start punched i [] vs h = refl
records_all unit start punched i (c ∷ cells) vs h =
    let zero_is : i + 0 ≡ i = omega arith in
    let head : dated_in unit c ≡ view unit i (greatest (shows unit start punched i) vs) = subst (λ k. dated_in unit c ≡ view unit k (greatest (shows unit start punched k) vs)) zero_is (h 0 (omega arith)) in
    let tail = records_all unit start punched (i + 1) cells vs (λ j less.
    let next : i + suc j ≡ i + 1 + j = omega arith in
    subst (λ k. dated_in unit (get_or cells j None) ≡ view unit k (greatest (shows unit start punched k) vs)) next (h (suc j) (omega (arith, less)))) in
    ap (λ z. z ∷ records_of unit cells) (records_same unit start punched i c vs head) ∙ ap (λ z. record_at unit start punched i vs ∷ z) tail

pub pieces_painted : (l : Look) (n : ℕ) (cells : List (Option Cell)) (vs : List ExtentVersion) → length cells ≡ n → Painted l cells vs → pieces_of l.unit (records_of l.unit cells) ≡ pieces_at l.unit l.start l.punched l.low n vs
pieces_painted l n cells vs is h = ap (pieces_of l.unit) (records_all l.unit l.start l.punched l.low cells vs h ∙ ap (λ k. records_from l.unit l.start l.punched l.low k vs) is)

not_true : (t : Bool) → not t ≡ true → t ≡ false
not_true true h = absurd (let n : ⊥ = cc in n)
not_true false h = refl

-- ---- an extent that is asked for, or isn't

pub lays_seen : (l : Look) (s : Stored) (placed : Placed) (bytes : List ℕ) (old now : List (Option Cell)) → placed_of s ≡ placed → bytes ≡ s.extent.bytes → is_about l placed ≡ true
    → ((i : ℕ) → i < length old → dated_in l.unit (get_or now i None) ≡ painted l.unit (l.low + i) placed.at.low (moment_at placed) bytes (dated_in l.unit (get_or old i None))) → Lays l s old now
lays_seen l s placed bytes old now is held about paints i inside best before =
    let front = nat_lt l.low (placed.at.low + placed.mark.length / l.unit) && is_earlier (moment_at placed) l.start in
    let one : front ≡ true = first_holds front (not (hides l.punched (moment_at placed))) about in
    let seen : is_earlier (moment_of s.extent) l.start ≡ true = subst (λ (z : Placed). is_earlier (moment_at z) l.start ≡ true) (sym is) (then_holds (nat_lt l.low (placed.at.low + placed.mark.length / l.unit)) (is_earlier (moment_at placed) l.start) one) in
    let open_ : is_hidden l.punched s.extent ≡ false = subst (λ (z : Placed). hides l.punched (moment_at z) ≡ false) (sym is) (not_true (hides l.punched (moment_at placed)) (then_holds front (not (hides l.punched (moment_at placed))) about)) in
    paints i inside
    ∙ (ap (λ (z : Placed). painted l.unit (l.low + i) z.at.low (moment_at z) bytes (dated_in l.unit (get_or old i None))) (sym is)
    ∙ (ap (λ b. painted l.unit (l.low + i) s.extent.low (moment_of s.extent) b (dated_in l.unit (get_or old i None))) held
    ∙ (ap (painted l.unit (l.low + i) s.extent.low (moment_of s.extent) s.extent.bytes) before
    ∙ painted_seen l.unit l.start l.punched (l.low + i) best s.extent seen open_)))

-- which of three fails
data OneFails (a b c : Bool) : Type 0 where
  FirstFails : a ≡ false → OneFails a b c
  SecondFails : b ≡ false → OneFails a b c
  ThirdHolds : c ≡ true → OneFails a b c

one_fails : (a b c : Bool) → ((a && b) && not c) ≡ false → OneFails a b c
one_fails false b c h = FirstFails refl
one_fails true false c h = SecondFails refl
one_fails true true true h = ThirdHolds refl
one_fails true true false h = absurd (let n : ⊥ = cc in n)

short_of : (low i from end : ℕ) → nat_lt low end ≡ false → low ≤ i → (nat_le from i && nat_lt i end) ≡ false
short_of low i from end h k = grind (arith, nat_tests)

not_about : (l : Look) (s : Stored) (i : ℕ) → is_about l (placed_of s) ≡ false → shows_at l i s.extent ≡ false
not_about l s i h = by (one_fails (nat_lt l.low (s.extent.low + length s.extent.bytes / l.unit)) (is_earlier (moment_of s.extent) l.start) (is_hidden l.punched s.extent) h)
  where
    by : OneFails (nat_lt l.low (s.extent.low + length s.extent.bytes / l.unit)) (is_earlier (moment_of s.extent) l.start) (is_hidden l.punched s.extent) → shows_at l i s.extent ≡ false
    by (FirstFails e) = shows_not_covers l.unit l.start l.punched (l.low + i) s.extent (short_of l.low (l.low + i) s.extent.low (s.extent.low + length s.extent.bytes / l.unit) e (omega arith))
    by (SecondFails e) = shows_not_seen l.unit l.start l.punched (l.low + i) s.extent e
    by (ThirdHolds e) = shows_not_hidden l.unit l.start l.punched (l.low + i) s.extent e

pub lays_none : (l : Look) (s : Stored) (placed : Placed) (cells : List (Option Cell)) → placed_of s ≡ placed → is_about l placed ≡ false → Lays l s cells cells
lays_none l s placed cells is other i inside best before = before ∙ view_same l.unit (l.low + i) best (shows_at l i) s.extent (not_about l s i (ap (is_about l) is ∙ other))

-- ---- steps

pub steps_more : (k b s0 s1 s2 : ℕ) → s1 ≤ s0 + k * b → s2 ≤ s1 + b → s2 ≤ s0 + (k + 1) * b
steps_more k b s0 s1 s2 h j = let e : (k + 1) * b ≡ k * b + b = omega arith in omega (arith, h, j, e)

pub steps_all : (k n b s0 s : ℕ) → k ≤ n → s ≤ s0 + k * b → s ≤ s0 + (n + 1) * b
steps_all k n b s0 s h j = let a : k * b ≤ (n + 1) * b = mul-le-mul_right b (omega (arith, h)) in omega (arith, a, j)

pub steps_then : (k n b s0 s1 s2 : ℕ) → k ≤ n → s1 ≤ s0 + k * b → s2 ≤ s1 + b → s2 ≤ s0 + (n + 1) * b
steps_then k n b s0 s1 s2 h j r = steps_all_more (k + 1) (n + 1) b s0 s2 (omega (arith, h)) (steps_more k b s0 s1 s2 j r)
  where
    steps_all_more : (k n b s0 s : ℕ) → k ≤ n → s ≤ s0 + k * b → s ≤ s0 + n * b
    steps_all_more k n b s0 s h j = let a : k * b ≤ n * b = mul-le-mul_right b h in omega (arith, a, j)
