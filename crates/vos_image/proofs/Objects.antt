-- Akeys, dkeys and objects are read, with all that is below them.
use Rattle.std.proofs.Common.{◌≡◌, ℕ, ◌+◌, ◌≤◌, List, ◌++◌, refl, arith}
use Rattle.std.specs.Prelude.{All}
use Rattle.pmem_pages.specs.Owners.{Holds, both, times, times-append}
use Rattle.vos_values.specs.Keys.{IsName}
use Rattle.vos_values.specs.Values.{roots_value}
use Rattle.vos_entries.specs.vos_levels.Levels.{Hung, Level, hung, hung_root, things}
use Rattle.vos_path.specs.vos_ilog.Logs.{Log, log_owner}
use Rattle.vos_path.specs.vos_single.Singles.{mark_of as single_mark, moment_of as single_moment, single_level, single_owner}
use Rattle.vos_path.specs.vos_extent.Extents.{extent_level, extent_owner, mark_of as extent_mark, place_of}
use Rattle.vos_entries.specs.vos_chain.Chains.{first_of}
use Rattle.vos_path.specs.Objects.{Akey, Below, Dkey, Object, Objects, Values, akey_level, below_owner, below_roots, dkey_level, object_level, objects_owner, values_owner, values_roots}
use Rattle.vos_image.specs.Steps.{Step, ◌>>=◌, give}
use Rattle.vos_image.specs.Content.{Content, shown}
use Rattle.vos_image.specs.Fits.{AkeyFits, DkeyFits, ExtentFits, LogFits, ObjectFits, SingleFits}
use Rattle.vos_image.specs.Kinds.{akeys, dkeys, extents, logs, objects, read_roots, singles}
use Rattle.vos_image.specs.Trees.{read_tree}
use Rattle.vos_image.proofs.Codecs.{akey_roots_read, name_length, name_read, object_length, object_read, roots_read}
use Rattle.vos_image.proofs.Levels.{below_blocks, below_split, below_tally, both_read, extents_taken, first_holds, log_read, root_small, root_taken, second_holds, singles_taken}
use Rattle.vos_image.proofs.Steps.{Passes, Tally, beside, none, recounted, root_tally, some_block, go_on}
use Rattle.vos_image.proofs.Trees.{Takes, tree_read}

-- ---- akeys

values_blocks : Values → List ℕ
values_blocks v = some_block (values_roots v).log ++ (some_block (values_roots v).singles ++ some_block (values_roots v).extents)

values_split : (v : Values) (q : ℕ) → times q (values_blocks v) ≡ root_tally (values_roots v).log q + (root_tally (values_roots v).singles q + root_tally (values_roots v).extents q)
unfolding values_blocks
values_split v q = omega (arith, times-append q (some_block (values_roots v).log) (some_block (values_roots v).singles ++ some_block (values_roots v).extents), times-append q (some_block (values_roots v).singles) (some_block (values_roots v).extents))

module _ (c : Content) (unit : ℕ) (a : Akey) (fits : AkeyFits c unit a) (held : Holds values_owner (shown c) a.holds) where
  rest : Holds (both single_owner extent_owner) (shown c) a.holds.1
  rest = second_holds _ _ c a.holds held

  log : Passes (read_tree logs c (hung_root a.holds.0)) a.holds.0 (root_tally (hung_root a.holds.0)) (λ q. times q (log_owner.owned a.holds.0))
  log = log_read c a.holds.0 (first_holds _ _ c a.holds held) fits.log

  one : Passes (read_tree singles c (hung_root a.holds.1.0)) a.holds.1.0 (root_tally (hung_root a.holds.1.0)) (λ q. times q (single_owner.owned a.holds.1.0))
  one = tree_read singles single_level c (SingleFits c) single_moment single_mark (λ s. some_block (first_of s.blocks)) (singles_taken c) a.holds.1.0 (first_holds _ _ c a.holds.1 rest) fits.singles

  many : Passes (read_tree (extents unit) c (hung_root a.holds.1.1)) a.holds.1.1 (root_tally (hung_root a.holds.1.1)) (λ q. times q (extent_owner.owned a.holds.1.1))
  many = tree_read (extents unit) extent_level c (ExtentFits c unit) (λ s. place_of s.extent) extent_mark (λ s. some_block (first_of s.blocks)) (extents_taken c unit) a.holds.1.1 (second_holds _ _ c a.holds.1 rest) fits.extents

  values_read : Passes ((akeys unit).thing c a.name (values_roots a.holds)) a (λ q. times q (values_blocks a.holds)) (λ q. times q (values_owner.owned a.holds))
  values_read =
      let inner = both_read single_owner extent_owner c (read_tree singles c (hung_root a.holds.1.0)) (λ u. read_tree (extents unit) c (hung_root a.holds.1.1)) (λ u v. record { name = a.name; holds = (a.holds.0, (u, v)) }) a.holds.1.0 a.holds.1.1 _ _ rest one many in
      let split = λ (q : ℕ). times-append q (log_owner.owned a.holds.0) ((both single_owner extent_owner).owned a.holds.1) in
      let s : Tally = λ q. root_tally (hung_root a.holds.1.0) q + root_tally (hung_root a.holds.1.1) q in
      let t0 : Tally = λ q. times q (values_blocks a.holds) in
      let t1 : Tally = λ q. times q (log_owner.owned a.holds.0) + s q in
      let t2 : Tally = λ q. times q (values_owner.owned a.holds) in
      let first = beside _ _ (root_tally (hung_root a.holds.0)) (λ q. times q (log_owner.owned a.holds.0)) t0 t1 s log (λ q. values_split a.holds q) (λ q. refl) (λ q. omega (arith, held.apart q, split q, inner.more q)) in
      let second = beside _ _ s (λ q. times q ((both single_owner extent_owner).owned a.holds.1)) t1 t2 (λ q. times q (log_owner.owned a.holds.0)) inner (λ q. omega arith) (λ q. omega (arith, split q)) held.apart in
      go_on _ _ a.holds.0 a t0 t1 t2 first second

  values_led : IsName a.name → (at : ℕ) → Passes ((akeys unit).value c at a.name (akey_level.value a)) (values_roots a.holds) none (λ q. times q (values_blocks a.holds))
  values_led good at =
      let g = a.holds in
      let first = first_holds _ _ c g held in
      let second = first_holds _ _ c g.1 rest in
      let third = second_holds _ _ c g.1 rest in
      recounted _ _ none (λ q. root_tally (hung_root g.0) q + (root_tally (hung_root g.1.0) q + root_tally (hung_root g.1.1) q)) none _
      (akey_roots_read c at a.name (values_roots g) (record { log = root_small _ c g.0 first; singles = root_small _ c g.1.0 second; extents = root_small _ c g.1.1 third })
      (root_taken _ c g.0 first) (root_taken _ c g.1.0 second) (root_taken _ c g.1.1 third) (λ q. omega (arith, held.apart q, values_split g q, values_read.more q)))
      (λ q. refl) (λ q. values_split g q)

akeys_taken : (c : Content) (unit : ℕ) → Takes (akeys unit) akey_level c (AkeyFits c unit) (λ a. a.name) (λ a. values_roots a.holds) (λ a. values_blocks a.holds)
akeys_taken c unit = record {
  kind = refl;
  length = λ a good fits. name_length c a.name good;
  key = λ a good fits at led. name_read c at a.name good led;
  leads = λ a good fits held at. values_led c unit a fits (record { here = held.here; apart = held.apart }) good at;
  below = λ a good fits held. values_read c unit a fits (record { here = held.here; apart = held.apart });
}

-- ---- what has a log and a tree of further things

module _ {N A : Type 0} (L : Level A) (c : Content) (name : N) (b : Below A) (held : Holds (below_owner L) (shown c) b) where
  log_held : Holds log_owner (shown c) b.0
  log_held = first_holds _ _ c b held

  tree_held : Holds (hung L) (shown c) b.1
  tree_held = second_holds _ _ c b held

  below_led : (at : ℕ) → ((q : ℕ) → below_tally b q ≤ 1) → Passes (read_roots c at name (roots_value (below_roots b))) (below_roots b) none (λ q. times q (below_blocks b))
  below_led at apart =
      recounted _ _ none (below_tally b) none _
      (roots_read c at name (below_roots b) (record { log = root_small _ c b.0 log_held; below = root_small _ c b.1 tree_held }) (root_taken _ c b.0 log_held) (root_taken _ c b.1 tree_held) apart)
      (λ q. refl) (λ q. below_split b q)

  below_found : {R : Type 0} (x : Step (Hung A)) (f : Log → Hung A → R) → All (LogFits c) (things b.0) → Passes x b.1 (root_tally (hung_root b.1)) (λ q. times q ((hung L).owned b.1))
      → Passes (read_tree logs c (hung_root b.0) >>= λ log. x >>= λ tree. give (f log tree)) (f b.0 b.1) (λ q. times q (below_blocks b)) (λ q. times q ((below_owner L).owned b))
  below_found x f fits tree =
      recounted _ _ (below_tally b) (λ q. times q ((below_owner L).owned b)) _ _
      (both_read log_owner (hung L) c (read_tree logs c (hung_root b.0)) (λ u. x) f b.0 b.1 _ _ held (log_read c b.0 log_held fits) tree)
      (λ q. below_split b q) (λ q. refl)

-- ---- dkeys

dkey_tree : (c : Content) (unit : ℕ) (d : Dkey) → DkeyFits c unit d → Holds (below_owner akey_level) (shown c) d.holds
    → Passes ((dkeys unit).thing c d.name (below_roots d.holds)) d (λ q. times q (below_blocks d.holds)) (λ q. times q ((below_owner akey_level).owned d.holds))
dkey_tree c unit d fits held =
    below_found akey_level c d.name d.holds held (read_tree (akeys unit) c (hung_root d.holds.1)) (λ log tree. record { name = d.name; holds = (log, tree) }) fits.log
    (tree_read (akeys unit) akey_level c (AkeyFits c unit) (λ a. a.name) (λ a. values_roots a.holds) (λ a. values_blocks a.holds) (akeys_taken c unit) d.holds.1 (second_holds _ _ c d.holds held) fits.akeys)

dkeys_taken : (c : Content) (unit : ℕ) → Takes (dkeys unit) dkey_level c (DkeyFits c unit) (λ d. d.name) (λ d. below_roots d.holds) (λ d. below_blocks d.holds)
dkeys_taken c unit = record {
  kind = refl;
  length = λ d good fits. name_length c d.name good;
  key = λ d good fits at led. name_read c at d.name good led;
  leads = λ d good fits held at.
      let h : Holds (below_owner akey_level) (shown c) d.holds = record { here = held.here; apart = held.apart } in
      let tree = dkey_tree c unit d fits h in
      below_led akey_level c d.name d.holds h at (λ q. omega (arith, held.apart q, below_split d.holds q, tree.more q));
  below = λ d good fits held. dkey_tree c unit d fits (record { here = held.here; apart = held.apart });
}

-- ---- objects

object_tree : (c : Content) (o : Object) → ObjectFits c o → Holds (below_owner dkey_level) (shown c) o.holds
    → Passes (objects.thing c o.name (below_roots o.holds)) o (λ q. times q (below_blocks o.holds)) (λ q. times q ((below_owner dkey_level).owned o.holds))
object_tree c o fits held =
    below_found dkey_level c o.name o.holds held (read_tree (dkeys o.name.obj.unit) c (hung_root o.holds.1)) (λ log tree. record { name = o.name; holds = (log, tree) }) fits.log
    (tree_read (dkeys o.name.obj.unit) dkey_level c (DkeyFits c o.name.obj.unit) (λ d. d.name) (λ d. below_roots d.holds) (λ d. below_blocks d.holds) (dkeys_taken c o.name.obj.unit) o.holds.1 (second_holds _ _ c o.holds held) fits.dkeys)

objects_taken : (c : Content) → Takes objects object_level c (ObjectFits c) (λ o. o.name) (λ o. below_roots o.holds) (λ o. below_blocks o.holds)
objects_taken c = record {
  kind = refl;
  length = λ o good fits. object_length c o.name good fits.size;
  key = λ o good fits at led. object_read c at o.name good fits.size led;
  leads = λ o good fits held at.
      let h : Holds (below_owner dkey_level) (shown c) o.holds = record { here = held.here; apart = held.apart } in
      let tree = object_tree c o fits h in
      below_led dkey_level c o.name o.holds h at (λ q. omega (arith, held.apart q, below_split o.holds q, tree.more q));
  below = λ o good fits held. object_tree c o fits (record { here = held.here; apart = held.apart });
}

-- Objects that stand are read below their root, with all that is below them.
pub objects_read : (c : Content) (g : Objects) → Holds objects_owner (shown c) g → All (ObjectFits c) (things g) → Passes (read_tree objects c (hung_root g)) g (root_tally (hung_root g)) (λ q. times q (objects_owner.owned g))
objects_read c g held fits = tree_read objects object_level c (ObjectFits c) (λ o. o.name) (λ o. below_roots o.holds) (λ o. below_blocks o.holds) (objects_taken c) g held fits
