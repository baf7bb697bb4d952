-- Keys of extents lie to one another as their places do.
use Rattle.std.proofs.Common.{◌≡◌, ℕ, ◌==◌, ◌&&◌, ◌||◌, nat_lt, true, false, List, [], ◌∷◌, sym, ap, ◌∙◌, arith, subst}
use Rattle.std.proofs.lemmas.Bool.Decides.{nat_tests}
use Rattle.std.specs.Ordering.{nat_cmp, ordering_then}
use Rattle.std.specs.declared.cmp.Ordering.TheVariants.{Less, Equal}
use Rattle.pmem_pages.specs.Blocks.{Blocks}
use Rattle.pmem_pages.specs.Node.{key_cmp}
use Rattle.pmem_pages.specs.Owners.{Holds}
use Rattle.pmem_pages.specs.Shape.{AllAbove, Entry, IsTree, Rises, chosen}
use Rattle.pmem_pages.specs.declared.node.TreeKey.{TreeKey}
use Rattle.vos_values.specs.declared.keys.ExtentKey.{ExtentKey}
use Rattle.vos_values.specs.Keys.{IsExtentKey, extent_key}
use Rattle.vos_values.proofs.KeyLaws.{extents_order}
use Rattle.vos_moments.specs.vos_levels.Levels.{LeadToAll, TellsKey, hung_root}
use Rattle.vos_moments.proofs.vos_levels.Changing.{hung_tree}
use Rattle.vos_extent.specs.Extents.{AllBehind, Extents, IsStored, Rise, Stored, extent_level, extent_owner, is_at, is_before, place_of}

three_level : (a b c x y z : ℕ) → ((x == a) && (y == b) && (z == c)) ≡ chosen (ordering_then (nat_cmp a x) (ordering_then (nat_cmp b y) (ordering_then (nat_cmp c z) Equal))) false true false
three_level a b c x y z = grind (arith, nat_tests)

three_less : (a b c x y z : ℕ) → ordering_then (nat_cmp a x) (ordering_then (nat_cmp b y) (ordering_then (nat_cmp c z) Equal)) ≡ Less → (nat_lt a x || ((a == x) && (nat_lt b y || ((b == y) && nat_lt c z)))) ≡ true
three_less a b c x y z h = grind (arith, nat_tests)

pub tells_at : (p : ExtentKey) → IsExtentKey p → TellsKey extent_level (extent_key p) (is_at p)
tells_at p h s good =
    let q = place_of s.extent in
    three_level p.low p.epoch.0 p.minor q.low q.epoch.0 q.minor ∙ ap (λ o. chosen o false true false) (sym (extents_order p q h good.place))

pub place_before : (p q : ExtentKey) → IsExtentKey p → IsExtentKey q → key_cmp (extent_key p) (extent_key q) ≡ Less → is_before p q ≡ true
place_before p q hp hq h = three_less p.low p.epoch.0 p.minor q.low q.epoch.0 q.minor (sym (extents_order p q hp hq) ∙ h)

-- an extents' tree
pub extent_tree : (m : Blocks) (kind root : ℕ) (g : Extents) → kind ≡ 6 → Holds extent_owner m g → root ≡ hung_root g → IsTree m kind root g.0
extent_tree m kind root g e h at = subst (λ k. IsTree m k root g.0) (sym e) (hung_tree extent_level m root g h at)

all_behind : (k : TreeKey) (s : Stored) → IsStored s → k ≡ extent_key (place_of s.extent) → (es : List Entry) (xs : List Stored) → LeadToAll extent_level es xs → AllAbove k es → AllBehind (place_of s.extent) xs
all_behind k s g is [] [] p h = tt
all_behind k s g is [] (x ∷ xs) p h = absurd p
all_behind k s g is (e ∷ es) [] p h = absurd p
all_behind k s g is (e ∷ es) (x ∷ xs) p h =
    let less : key_cmp (extent_key (place_of s.extent)) (extent_key (place_of x.extent)) ≡ Less = ap (λ z. key_cmp z (extent_key (place_of x.extent))) (sym is) ∙ (ap (key_cmp k) (sym p.0.key) ∙ h.0) in
    (place_before (place_of s.extent) (place_of x.extent) g.place p.0.good.place less, all_behind k s g is es xs p.1 h.1)

pub places_rise : (es : List Entry) (xs : List Stored) → LeadToAll extent_level es xs → Rises es → Rise xs
places_rise [] [] p h = tt
places_rise [] (x ∷ xs) p h = absurd p
places_rise (e ∷ es) [] p h = absurd p
places_rise (e ∷ es) (x ∷ xs) p h = (all_behind e.key x p.0.good p.0.key es xs p.1 h.0, places_rise es xs p.1 h.1)
