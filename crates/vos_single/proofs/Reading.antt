-- What is found among the versions of a single value.
use Rattle.std.proofs.Common.{◌≡◌, ℕ, Option, Some, None, List, refl, sym, ap, ◌∙◌, subst}
use Rattle.std.specs.Option.{option_and_then, option_map}
use Rattle.pmem_pages.specs.Blocks.{Blocks}
use Rattle.pmem_pages.specs.Owners.{Holds, each}
use Rattle.pmem_pages.specs.Shape.{IsTree, entries, last_under}
use Rattle.pmem_pages.specs.declared.node.TreeKey.{TreeKey}
use Rattle.vos_moments.specs.pmem_tree_base.Find.{pair_of}
use Rattle.vos_values.specs.declared.keys.Moment.{Moment}
use Rattle.vos_values.specs.Keys.{IsMoment, moment_key}
use Rattle.vos_values.specs.Values.{version_value}
use Rattle.vos_values.proofs.KeyLaws.{moments_exact}
use Rattle.vos_values.proofs.ValueLaws.{singles_exact}
use Rattle.vos_moments.specs.vos_levels.Levels.{TellsAbove, TellsKey, find_last, hung_root, pair_of_thing, things}
use Rattle.vos_moments.proofs.vos_levels.Changing.{holds_each, holds_spot, hung_tree}
use Rattle.vos_moments.proofs.vos_levels.Moments.{moment_below, moment_level}
use Rattle.vos_moments.proofs.vos_levels.Spots.{last_found}
use Rattle.vos_moments.proofs.vos_levels.Testing.{all_good, last_at, last_good, read_option}
use Rattle.vos_versions.specs.vos_chain.Made.{IsChainAt}
use Rattle.vos_single.specs.declared.single.Placed.{Placed}
use Rattle.vos_single.specs.Singles.{IsStored, Singles, Stored, chain_of, is_at, is_under, mark_of, moment_of, placed_in_pair, placed_of, placed_when, placed_with, single_level, single_owner, version_of}

pub single_tree : (m : Blocks) (kind root : ℕ) (g : Singles) → kind ≡ 5 → Holds single_owner m g → root ≡ hung_root g → IsTree m kind root g.0
single_tree m kind root g e h at = subst (λ k. IsTree m k root g.0) (sym e) (hung_tree single_level m root g h at)

pub tells_at : (m : Moment) → IsMoment m → TellsKey single_level (moment_key m) (is_at m)
tells_at m h v good = moment_level m (moment_of v) h good.moment

tells_under : (m : Moment) → IsMoment m → TellsAbove single_level (moment_key m) (is_under m)
tells_under m h v good = moment_below m (moment_of v) h good.moment

placed_again : (s : Stored) → IsStored s → placed_in_pair (pair_of_thing single_level s) ≡ Some (placed_of s)
placed_again s h =
    ap (placed_when (version_value (mark_of s))) (moments_exact.again (moment_of s) h.moment)
    ∙ ap (placed_with (moment_of s)) (singles_exact.again (mark_of s) h.mark)

pub placed_found : (m : Blocks) (g : Singles) (at : Moment) (key : TreeKey) → Holds single_owner m g → IsMoment at → key ≡ moment_key at
    → option_and_then placed_in_pair (pair_of (last_under key (entries g.0))) ≡ option_map placed_of (find_last (is_under at) (things g))
placed_found m g at key h good is =
    let leads = h.here.1.leads in
    let found = last_found single_level (moment_key at) (is_under at) (tells_under at good) (entries g.0) g.1 leads h.here.1.rises in
    ap (λ k. option_and_then placed_in_pair (pair_of (last_under k (entries g.0)))) is
    ∙ (ap (option_and_then placed_in_pair) found
    ∙ read_option (find_last (is_under at) (things g)) (pair_of_thing single_level) placed_in_pair placed_of (λ v e. placed_again v (last_good single_level (is_under at) g.1 v (all_good single_level (entries g.0) g.1 leads) e)))

-- ---- the chain of the version that is found

pub record FoundAt (m : Blocks) (placed : Placed) (g : Singles) (at : Moment) : Type 0 where
  pub stored : Stored
  pub found : find_last (is_under at) (things g) ≡ Some stored
  pub moment_is : placed.moment ≡ moment_of stored
  pub mark_is : placed.mark ≡ mark_of stored
  pub chain : IsChainAt m placed.mark.chain placed.mark.length (chain_of stored)

inside : (x y : Placed) → Some x ≡ Some y → x ≡ y
inside x y h = cc

pub found_at : (m : Blocks) (g : Singles) (at : Moment) (placed : Placed) → Holds single_owner m g → Some placed ≡ option_map placed_of (find_last (is_under at) (things g)) → FoundAt m placed g at
found_at m g at placed h e = by (find_last (is_under at) (things g)) refl e
  where
    by : (x : Option Stored) → find_last (is_under at) (things g) ≡ x → Some placed ≡ option_map placed_of x → FoundAt m placed g at
    by None f e = absurd (let n : ⊥ = cc in n)
    by (Some s) f e =
        let is = inside placed (placed_of s) e in
        let spot = last_at (is_under at) (things g) s f in
        let all = subst (λ z. Holds (each single_level.owner) m z) spot.is (holds_each single_level m g h) in
        let mine = holds_spot single_level.owner m spot.left s spot.right all in
        record {
          stored = s;
          found = f;
          moment_is = ap (λ (z : Placed). z.moment) is;
          mark_is = ap (λ (z : Placed). z.mark) is;
          chain = record { holds = record { here = mine.here; apart = mine.apart }; first_is = ap (λ (z : Placed). z.mark.chain) is; count_is = ap (λ (z : Placed). z.mark.length) is };
        }

-- the version with its bytes
pub version_found : (m : Blocks) (g : Singles) (at : Moment) (placed : Placed) (bytes : List ℕ) → (f : FoundAt m placed g at) → bytes ≡ (chain_of f.stored).bytes
    → Some (record { epoch = placed.moment.epoch; minor = placed.moment.minor; by = placed.mark.by; done = placed.mark.done; bytes = bytes }) ≡ option_map version_of (find_last (is_under at) (things g))
version_found m g at placed bytes f e =
    (λ i. Some (record { epoch = (f.moment_is i).epoch; minor = (f.moment_is i).minor; by = (f.mark_is i).by; done = (f.mark_is i).done; bytes = e i }))
    ∙ ap (option_map version_of) (sym f.found)

pub none_found : (g : Singles) (at : Moment) → None ≡ option_map placed_of (find_last (is_under at) (things g)) → None ≡ option_map version_of (find_last (is_under at) (things g))
none_found g at e = by (find_last (is_under at) (things g)) e
  where
    by : (x : Option Stored) → None ≡ option_map placed_of x → None ≡ option_map version_of x
    by None e = refl
    by (Some s) e = absurd (let n : ⊥ = cc in n)
