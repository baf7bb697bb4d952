-- What is found in a log.
use Rattle.std.proofs.Common.{◌≡◌, ℕ, ◌+◌, ◌*◌, ◌≤◌, ◌^◌, true, false, Some, None, length, refl, sym, ap, ◌∙◌, subst, arith}
use Rattle.std.proofs.Math.Nat.{mul-le-mul_right}
use Rattle.std.specs.List.{find}
use Rattle.std.specs.Option.{option_and_then, option_map}
use Rattle.pmem_pages.specs.Blocks.{Blocks}
use Rattle.pmem_pages.specs.Owners.{Holds}
use Rattle.pmem_pages.specs.Shape.{IsTree, entries, entry_at, last_under}
use Rattle.pmem_pages.specs.declared.node.TreeKey.{TreeKey}
use Rattle.vos_moments.specs.pmem_tree_base.Find.{pair_of, value_of}
use Rattle.vos_values.specs.declared.keys.Moment.{Moment}
use Rattle.vos_values.specs.Keys.{IsMoment, moment_key}
use Rattle.vos_values.specs.Values.{log_in, log_value}
use Rattle.vos_values.proofs.KeyLaws.{moments_exact}
use Rattle.vos_values.proofs.ValueLaws.{logs_exact}
use Rattle.vos_moments.specs.vos_levels.Levels.{TellsAbove, find_last, hung_root, pair_of_thing, things}
use Rattle.vos_moments.proofs.vos_levels.Changing.{hung_tree}
use Rattle.vos_moments.proofs.vos_levels.Moments.{moment_below}
use Rattle.vos_moments.proofs.vos_levels.Spots.{last_found, value_found}
use Rattle.vos_moments.proofs.vos_levels.Testing.{all_good, count_most, count_of, few_things, found_good, last_good, map_same, none_counts, none_wanted_there, read_option, walk_end, walk_found, walk_less, walk_on}
use Rattle.vos_ilog.specs.declared.ilog.LogEntry.{LogEntry}
use Rattle.vos_ilog.specs.Logs.{IsLogEntry, Log, entry_in_pair, entry_when, entry_with, is_at, is_punch_below, is_under, log_level, log_owner, mark_of, moment_of, value_of_entry}
use Rattle.vos_ilog.proofs.Adding.{tells_at}

-- a log's tree
pub log_tree : (m : Blocks) (kind root : ℕ) (g : Log) → kind ≡ 4 → Holds log_owner m g → root ≡ hung_root g → IsTree m kind root g.0
log_tree m kind root g e h at = subst (λ k. IsTree m k root g.0) (sym e) (hung_tree log_level m root g h at)

pub tells_under : (m : Moment) → IsMoment m → TellsAbove log_level (moment_key m) (is_under m)
tells_under m h v good = moment_below m (moment_of v) h good.moment

-- an entry is read back of its key and its value
entry_again : (v : LogEntry) → IsLogEntry v → entry_in_pair (pair_of_thing log_level v) ≡ Some v
entry_again v h =
    ap (entry_when (log_value (mark_of v))) (moments_exact.again (moment_of v) h.moment)
    ∙ ap (entry_with (moment_of v)) (logs_exact.again (mark_of v) (record { by = h.by }))

pub mark_found : (m : Blocks) (g : Log) (at : Moment) (key : TreeKey) → Holds log_owner m g → IsMoment at → key ≡ moment_key at
    → option_and_then log_in (value_of (entry_at key (entries g.0))) ≡ option_map mark_of (find (is_at at) (things g))
mark_found m g at key h good is =
    let leads = h.here.1.leads in
    let found = value_found log_level (moment_key at) (is_at at) (tells_at at good) (entries g.0) g.1 leads h.here.1.rises in
    ap (λ k. option_and_then log_in (value_of (entry_at k (entries g.0)))) is
    ∙ (ap (option_and_then log_in) found
    ∙ read_option (find (is_at at) (things g)) value_of_entry log_in mark_of (λ v e. logs_exact.again (mark_of v) (record { by = (found_good log_level (is_at at) g.1 v (all_good log_level (entries g.0) g.1 leads) e).by })))

pub entry_found : (m : Blocks) (g : Log) (at : Moment) (key : TreeKey) → Holds log_owner m g → IsMoment at → key ≡ moment_key at
    → option_and_then entry_in_pair (pair_of (last_under key (entries g.0))) ≡ find_last (is_under at) (things g)
entry_found m g at key h good is =
    let leads = h.here.1.leads in
    let found = last_found log_level (moment_key at) (is_under at) (tells_under at good) (entries g.0) g.1 leads h.here.1.rises in
    ap (λ k. option_and_then entry_in_pair (pair_of (last_under k (entries g.0)))) is
    ∙ (ap (option_and_then entry_in_pair) found
    ∙ (read_option (find_last (is_under at) (things g)) (pair_of_thing log_level) entry_in_pair (λ v. v) (λ v e. entry_again v (last_good log_level (is_under at) g.1 v (all_good log_level (entries g.0) g.1 leads) e))
    ∙ map_same (find_last (is_under at) (things g))))

-- ---- the walk down to a punch

-- the punch below a moment is the one that is looked for, and so many entries were passed by
pub record Walks (m : Blocks) (start at : Moment) (passed : ℕ) (g : Log) : Type 0 where
  pub same : find_last (is_punch_below at) (things g) ≡ find_last (is_punch_below start) (things g)
  pub room : passed + count_of (is_under at) (things g) ≤ length (things g)

pub walks_first : (m : Blocks) (start : Moment) (g : Log) → Walks m start start 0 g
walks_first m start g = record { same = refl; room = omega (arith, count_most (is_under start) (things g)) }

pub walks_on : (m : Blocks) (start at : Moment) (passed : ℕ) (g : Log) (v : LogEntry) → Holds log_owner m g → IsMoment at → Walks m start at passed g → Some v ≡ find_last (is_under at) (things g) → v.punch ≡ false → Walks m start (moment_of v) (passed + 1) g
walks_on m start at passed g v h good w found fails =
    let leads = h.here.1.leads in
    let mine = last_good log_level (is_under at) g.1 v (all_good log_level (entries g.0) g.1 leads) (sym found) in
    let on = walk_on log_level (moment_key at) (is_under at) (tells_under at good) (entries g.0) g.1 leads h.here.1.rises (λ x. x.punch) v (sym found) (is_under (moment_of v)) (tells_under (moment_of v) mine.moment) fails in
    let less = walk_less log_level (moment_key at) (is_under at) (tells_under at good) (entries g.0) g.1 leads h.here.1.rises (λ x. x.punch) v (sym found) (is_under (moment_of v)) (tells_under (moment_of v) mine.moment) in
    record { same = sym on ∙ w.same; room = omega (arith, w.room, less) }

pub walks_found : (m : Blocks) (start at : Moment) (passed : ℕ) (g : Log) (v : LogEntry) → Holds log_owner m g → IsMoment at → Walks m start at passed g → Some v ≡ find_last (is_under at) (things g) → v.punch ≡ true → Some v ≡ find_last (is_punch_below start) (things g)
walks_found m start at passed g v h good w found passes =
    sym (walk_found log_level (moment_key at) (is_under at) (tells_under at good) (entries g.0) g.1 h.here.1.leads h.here.1.rises (λ x. x.punch) v (sym found) passes) ∙ w.same

pub walks_end : (m : Blocks) (start at : Moment) (passed : ℕ) (g : Log) → Holds log_owner m g → IsMoment at → Walks m start at passed g → None ≡ find_last (is_under at) (things g) → None ≡ find_last (is_punch_below start) (things g)
walks_end m start at passed g h good w found =
    sym (walk_end log_level (moment_key at) (is_under at) (tells_under at good) (entries g.0) g.1 h.here.1.leads h.here.1.rises (λ x. x.punch) (sym found)) ∙ w.same

-- after as many steps as there may be entries none is left
pub walks_over : (m : Blocks) (start at : Moment) (passed : ℕ) (g : Log) → Holds log_owner m g → Walks m start at passed g → 2 ^ 32 ≤ passed → None ≡ find_last (is_punch_below start) (things g)
walks_over m start at passed g h w over =
    let few = few_things log_level m g h in
    let none = none_counts (is_under at) (things g) (omega (arith, w.room, few, over)) in
    sym (none_wanted_there (λ x. x.punch) (is_under at) (things g) none) ∙ w.same

-- what the look-ups read so far, and one more
pub walks_steps : (m : Blocks) (start at : Moment) (passed : ℕ) (g : Log) (d s0 s1 s2 : ℕ) → Walks m start at passed g → s1 ≤ s0 + passed * (2 * d) → s2 ≤ s1 + (2 * d + 0) → s2 ≤ s0 + (length (things g) + 1) * (2 * d)
walks_steps m start at passed g d s0 s1 s2 w so_far more = let a : passed * (2 * d) ≤ length (things g) * (2 * d) = mul-le-mul_right (2 * d) (omega (arith, w.room)) in omega (arith, a, so_far, more)
