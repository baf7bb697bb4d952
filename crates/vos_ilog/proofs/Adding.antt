-- An entry goes into a log.
use Rattle.std.proofs.Common.{◌≡◌, ℕ, false, None, subst, inl, inr}
use Rattle.pmem_pages.specs.Blocks.{Blocks}
use Rattle.pmem_pages.specs.Owners.{Holds}
use Rattle.pmem_pages.specs.Shape.{entries, entry_at}
use Rattle.pmem_pages.specs.declared.node.TreeKey.{TreeKey}
use Rattle.pmem_pages.specs.declared.node.Value.{Value}
use Rattle.vos_moments.specs.pmem_tree.Changes.{Inserts}
use Rattle.vos_values.specs.declared.keys.Moment.{Moment}
use Rattle.vos_values.specs.Keys.{IsMoment, moment_key}
use Rattle.vos_moments.specs.vos_levels.Calls.{Becomes}
use Rattle.vos_moments.specs.vos_levels.Levels.{HasMore, TellsKey, hung_root, things}
use Rattle.vos_moments.proofs.vos_levels.Changing.{hung_more, none_made}
use Rattle.vos_moments.proofs.vos_levels.Moments.{moment_level}
use Rattle.vos_moments.proofs.vos_levels.Spots.{look, some_not_none}
use Rattle.vos_ilog.specs.declared.ilog.LogEntry.{LogEntry}
use Rattle.vos_ilog.specs.Logs.{IsLogEntry, Log, has_entry_at, is_at, key_of_entry, log_level, log_owner, moment_of, value_of_entry}

pub tells_at : (m : Moment) → IsMoment m → TellsKey log_level (moment_key m) (is_at m)
tells_at m h v good = moment_level m (moment_of v) h good.moment

-- where no entry is of the moment, the tree has not its key
pub missing_at : (m : Moment) (g : Log) (b : Blocks) → IsMoment m → Holds log_owner b g → has_entry_at m (things g) ≡ false → entry_at (moment_key m) (entries g.0) ≡ None
missing_at m g b h held none =
    elim (look log_level (moment_key m) (is_at m) (tells_at m h) (entries g.0) g.1 held.here.1.leads held.here.1.rises) [
      | inl s ↦ absurd (some_not_none (is_at m) g.1 s.1.1.left s.1.0 s.1.1.right s.1.1.things_are s.1.1.passes none)
      | inr n ↦ n.at
    ]

pub log_more : (m o : Blocks) (g : Log) (v : LogEntry) (root : ℕ) → IsLogEntry v → Holds log_owner m g → has_entry_at (moment_of v) (things g) ≡ false
    → Inserts m 4 g.0 (key_of_entry v) (value_of_entry v) o root → Becomes log_owner hung_root things m g o root (HasMore v)
log_more m o g v root good held none i = hung_more log_level m m o g v root held (none_made m v) good (missing_at (moment_of v) g m good.moment held none) i

pub log_added : (m o : Blocks) (g : Log) (v : LogEntry) (root kind : ℕ) (key : TreeKey) (value : Value) → kind ≡ 4 → key ≡ key_of_entry v → value ≡ value_of_entry v → IsLogEntry v → Holds log_owner m g → has_entry_at (moment_of v) (things g) ≡ false
    → Inserts m kind g.0 key value o root → Becomes log_owner hung_root things m g o root (HasMore v)
log_added m o g v root kind key value a b d good held none i =
    log_more m o g v root good held none (subst (λ z. Inserts m 4 g.0 (key_of_entry v) z o root) d (subst (λ z. Inserts m 4 g.0 z value o root) b (subst (λ z. Inserts m z g.0 key value o root) a i)))
