-- What keys and values say of the things that they lead to, and the key that lies below all of them.
use Rattle.std.proofs.Common.{◌≡◌, ℕ, ◌≤◌, nat_le, Bool, true, List, [], ◌∷◌, length, Option, Some, None, refl, sym, ap, ◌∙◌, arith}
use Rattle.std.specs.Prelude.{IfSome, if◌then◌else◌, is_none}
use Rattle.std.specs.Option.{option_and_then}
use Rattle.std.specs.declared.cmp.Ordering.TheVariants.{Less}
use Rattle.std.proofs.lemmas.Bool.Decides.{nat_tests}
use Rattle.base_types.specs.Keys.{key_fault}
use Rattle.base_types.specs.declared.epoch.Epoch.{Epoch}
use Rattle.pmem_pages.specs.Blocks.{Blocks}
use Rattle.pmem_pages.specs.Node.{key_cmp, key_text}
use Rattle.pmem_pages.specs.Owners.{Holds}
use Rattle.pmem_pages.specs.Shape.{entries, last_under}
use Rattle.pmem_pages.specs.declared.node.TreeKey.{TreeKey}
use Rattle.pmem_tree_base.specs.Find.{pair_of}
use Rattle.vos_values.specs.declared.keys.Layout.TheVariants.{Two}
use Rattle.vos_values.specs.declared.keys.Moment.{Moment}
use Rattle.vos_values.specs.Fields.{key_of, packed}
use Rattle.vos_values.specs.Keys.{IsMoment, IsName, IsObjectKey, extent_fields, extent_key, moment_key, name_in, name_key, object_key}
use Rattle.vos_values.specs.Values.{akey_in, roots_in, version_value}
use Rattle.vos_values.proofs.KeyLaws.{extents_exact, keys_cmp, moments_exact, names_exact}
use Rattle.vos_values.proofs.Orders.{packed_cmp}
use Rattle.vos_values.proofs.ObjectLaws.{objects_exact}
use Rattle.vos_values.proofs.ValueLaws.{akeys_exact, roots_exact, singles_exact}
use Rattle.vos_levels.specs.Levels.{TellsAbove, find_last, hung, pair_of_thing, things}
use Rattle.vos_levels.proofs.Moments.{moment_below}
use Rattle.vos_levels.proofs.Spots.{last_found}
use Rattle.vos_levels.proofs.Testing.{all_good, last_good, read_option}
use Rattle.vos_ilog.specs.Logs.{log_level, log_owner}
use Rattle.vos_path.specs.vos_single.Singles.{Singles, is_under, moment_of as moment_of_single, single_level, single_owner}
use Rattle.vos_extent.specs.Extents.{IsStored, Stored, extent_level, key_of_stored, mark_of, place_of, placed_in_pair, placed_of, placed_when, placed_with}
use Rattle.vos_path.specs.Objects.{Akey, Dkey, Object, akey_level, below_owner, below_roots, dkey_level, object_level, values_owner, values_roots}
use Rattle.vos_path.proofs.Finding.{hung_low}
use Rattle.vos_path.proofs.Naming.{name_short}
use Rattle.vos_path.proofs.Written.{holds_extent, holds_first, holds_log, holds_second, holds_single}
use Rattle.vos_reads.specs.Ways.{start_of}
use Rattle.vos_lists.specs.declared.entry.AkeyEntry.{AkeyEntry}
use Rattle.vos_lists.specs.declared.entry.DkeyEntry.{DkeyEntry}
use Rattle.vos_lists.specs.declared.entry.ObjectEntry.{ObjectEntry}
use Rattle.vos_lists.specs.Entries.{akey_entry, akey_in_pair, dkey_entry, dkey_in_pair, moment_in_pair, name_of, object_entry, object_in_pair}
use Rattle.vos_lists.specs.Stands.{newest_at}

-- ---- the least key

pub least_extent : (x : Stored) → IsStored x → key_cmp (name_key []) (key_of_stored x) ≡ Less
unfolding extent_key name_key
least_extent s h =
    let x = place_of s.extent in
    let g = h.place in
    keys_cmp [] (packed (extent_fields x)) ∙ packed_cmp [] (extent_fields x) tt (omega arith, g.low, (omega arith, g.epoch, (omega arith, let k = g.minor in omega arith, tt))) tt

pub least_name : (name : List ℕ) → IsName name → key_cmp (name_key []) (name_key name) ≡ Less
unfolding name_key
least_name [] h = absurd (let n : ⊥ = cc in n)
least_name (x ∷ xs) h = keys_cmp [] (x ∷ xs)

-- ---- names

name_is : (k : TreeKey) (name : List ℕ) → name_in k ≡ Some name → IsName name
unfolding name_in
name_is k name h = by (key_fault (key_text k)) refl h
  where
    by : (x : Option _) → key_fault (key_text k) ≡ x → (if is_none x then Some (key_text k) else None) ≡ Some name → IsName name
    by None e f = let same : key_text k ≡ name = cc in sym (ap key_fault same) ∙ e
    by (Some b) e f = absurd (let n : ⊥ = cc in n)

pub said_short : (k : TreeKey) (x : Option (List ℕ)) → x ≡ name_in k → IfSome x (λ name. length name ≤ 64)
said_short k None h = tt
said_short k (Some name) h = name_short name (name_is k name (sym h))

name_again : (name : List ℕ) → IsName name → name_of (name_key name) ≡ Some name
unfolding name_key key_of
name_again name h =
    let short = name_short name h in
    let test : nat_le (length name) 64 ≡ true = grind (arith, nat_tests) in
    ap (λ (b : Bool). if b then name_in (name_key name) else None) test ∙ names_exact.again name h

-- what a key says of the thing that it leads to
pub name_said : (k : TreeKey) (name : List ℕ) → k ≡ name_key name → IsName name → name_of k ≡ Some name
name_said k name e h = ap name_of e ∙ name_again name h

-- ---- what pairs say of things

pub extent_again : (m : Blocks) (s : Stored) → IsStored s → Holds extent_level.owner m s → placed_in_pair (pair_of_thing extent_level s) ≡ Some (placed_of s)
extent_again m s h held =
    ap (placed_when (version_value (mark_of s))) (extents_exact.again (place_of s.extent) h.place)
    ∙ ap (placed_with (place_of s.extent)) (singles_exact.again (mark_of s) h.mark)

abbrev pub akey_shown : Akey → AkeyEntry
akey_shown a = record { key = name_key a.name; roots = values_roots a.holds }

abbrev pub dkey_shown : Dkey → DkeyEntry
dkey_shown d = record { key = name_key d.name; roots = below_roots d.holds }

-- a thing that stands in a part of it
pub values_in : (m : Blocks) (a : Akey) → Holds akey_level.owner m a → Holds values_owner m a.holds
values_in m a h = record { here = h.here; apart = h.apart }

pub below_in : (m : Blocks) (d : Dkey) → Holds dkey_level.owner m d → Holds (below_owner akey_level) m d.holds
below_in m d h = record { here = h.here; apart = h.apart }

pub akey_again : (m : Blocks) (a : Akey) → IsName a.name → Holds akey_level.owner m a → akey_in_pair (pair_of_thing akey_level a) ≡ Some (akey_shown a)
akey_again m a name held =
    let h = values_in m a held in
    let roots : akey_in (akey_level.value a) ≡ Some (values_roots a.holds) = akeys_exact.again (values_roots a.holds) (record {
      log = hung_low log_level m a.holds.0 (holds_log m a.holds h);
      singles = hung_low single_level m a.holds.1.0 (holds_single m a.holds h);
      extents = hung_low extent_level m a.holds.1.1 (holds_extent m a.holds h);
    }) in
    ap (λ z. akey_entry z (akey_in (akey_level.value a))) (name_again a.name name) ∙ ap (akey_entry (Some a.name)) roots

pub dkey_again : (m : Blocks) (d : Dkey) → IsName d.name → Holds dkey_level.owner m d → dkey_in_pair (pair_of_thing dkey_level d) ≡ Some (dkey_shown d)
dkey_again m d name held =
    let h = below_in m d held in
    let roots : roots_in (dkey_level.value d) ≡ Some (below_roots d.holds) = roots_exact.again (below_roots d.holds) (record {
      log = hung_low log_level m d.holds.0 (holds_first log_owner (hung akey_level) m d.holds h);
      below = hung_low akey_level m d.holds.1 (holds_second log_owner (hung akey_level) m d.holds h);
    }) in
    ap (λ z. dkey_entry z (roots_in (dkey_level.value d))) (name_again d.name name) ∙ ap (dkey_entry (Some d.name)) roots

abbrev pub object_shown : Object → ObjectEntry
object_shown x = record { name = x.name; key = object_key x.name; roots = below_roots x.holds }

pub dkeys_in : (m : Blocks) (x : Object) → Holds object_level.owner m x → Holds (below_owner dkey_level) m x.holds
dkeys_in m x h = record { here = h.here; apart = h.apart }

pub object_again : (m : Blocks) (x : Object) → IsObjectKey Two x.name → Holds object_level.owner m x → object_in_pair (pair_of_thing object_level x) ≡ Some (object_shown x)
object_again m x name held =
    let h = dkeys_in m x held in
    let roots : roots_in (object_level.value x) ≡ Some (below_roots x.holds) = roots_exact.again (below_roots x.holds) (record {
      log = hung_low log_level m x.holds.0 (holds_first log_owner (hung dkey_level) m x.holds h);
      below = hung_low dkey_level m x.holds.1 (holds_second log_owner (hung dkey_level) m x.holds h);
    }) in
    ap (λ z. object_entry z (roots_in (object_level.value x))) ((objects_exact Two).again x.name name) ∙ ap (object_entry (Some x.name)) roots

-- ---- the newest single version

tells_under : (m : Moment) → IsMoment m → TellsAbove single_level (moment_key m) (is_under m)
tells_under m h v good = moment_below m (moment_of_single v) h good.moment

pub newest_found : (m : Blocks) (g : Singles) (e : Epoch) (key : TreeKey) → Holds single_owner m g → IsMoment (start_of e) → key ≡ moment_key (start_of e)
    → option_and_then moment_in_pair (pair_of (last_under key (entries g.0))) ≡ newest_at e g
newest_found m g e key h good is =
    let leads = h.here.1.leads in
    let found = last_found single_level (moment_key (start_of e)) (is_under (start_of e)) (tells_under (start_of e) good) (entries g.0) g.1 leads h.here.1.rises in
    ap (λ k. option_and_then moment_in_pair (pair_of (last_under k (entries g.0)))) is
    ∙ (ap (option_and_then moment_in_pair) found
    ∙ read_option (find_last (is_under (start_of e)) (things g)) (pair_of_thing single_level) moment_in_pair moment_of_single (λ v f. moments_exact.again (moment_of_single v) (last_good single_level (is_under (start_of e)) g.1 v (all_good single_level (entries g.0) g.1 leads) f).moment))
