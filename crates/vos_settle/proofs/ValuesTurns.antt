-- A write of an akey is settled or pruned.
use Rattle.std.proofs.Common.{◌≡◌, ℕ, ◌+◌, sym, ap, ◌∙◌, arith}
use Rattle.pmem_pages.specs.Blocks.{Blocks}
use Rattle.pmem_pages.specs.Owners.{Holds, both}
use Rattle.vos_values.specs.declared.values.AkeyRoots.{AkeyRoots}
use Rattle.vos_levels.specs.Calls.{Becomes}
use Rattle.vos_levels.specs.Levels.{hung_root, things}
use Rattle.vos_ilog.specs.Logs.{log_owner}
use Rattle.vos_path.specs.vos_single.Singles as single
use Rattle.vos_path.specs.vos_extent.Extents as extent
use Rattle.vos_path.specs.Objects.{Values, values_owner, values_roots}
use Rattle.vos_path.proofs.Written.{both_change, extent_changes, first_changes, single_changes}
use Rattle.vos_settle.specs.declared.task.Task.{Task}
use Rattle.vos_settle.specs.declared.task.Which.TheVariants.{Punch, Creation}
use Rattle.vos_settle.specs.declared.task.WriteKind.TheVariants as kind
use Rattle.vos_settle.specs.Tasks.{extents_by, log_after, log_freed, place_at, singles_by, which_of}
use Rattle.vos_settle.specs.Nodes.{Turned, ValuesTurn, values_count, values_freed}
use Rattle.vos_settle.proofs.LogTurns.{LogTurn}

pub single_turned : (m n o : Blocks) (g : Values) (roots : AkeyRoots) (t : Task) (singles log : ℕ) → t.kind ≡ kind.Single → Holds values_owner m g → roots ≡ values_roots g
    → Becomes single.single_owner hung_root single.versions m g.1.0 n singles (single.IsChangedAt t.change t.at) → Turned log_owner hung_root n g.0 o log (LogTurn (Creation t.by) t.change t.at)
    → Turned values_owner values_roots m g o (record { log = log; singles = singles; extents = roots.extents }) (ValuesTurn t)
single_turned m n o g roots t singles log k h at b l = record {
  now = (l.now, (b.now, g.1.1));
  changed = both_change log_owner (both single.single_owner extent.extent_owner) m n o g l.now (b.now, g.1.1) h (single_changes m n g b.now h b.changed) l.changed;
  roots_are = λ i. record { log = l.roots_are i; singles = b.root_is i; extents = ap (λ r. r.extents) at i };
  so = record {
    log = l.so ∙ ap (λ z. log_after (which_of z t.by) t.change t.at (things g.0)) (sym k);
    singles = b.shown_is ∙ ap (λ z. singles_by z t (single.versions g.1.0)) (sym k);
    extents = ap (λ z. extents_by z t (extent.extents g.1.1)) (sym k);
  };
}

pub extent_turned : (m n o : Blocks) (g : Values) (roots : AkeyRoots) (t : Task) (low extents log : ℕ) → t.kind ≡ kind.Extent low → Holds values_owner m g → roots ≡ values_roots g
    → Becomes extent.extent_owner hung_root extent.extents m g.1.1 n extents (extent.IsChangedAt t.change (place_at t.at low)) → Turned log_owner hung_root n g.0 o log (LogTurn (Creation t.by) t.change t.at)
    → Turned values_owner values_roots m g o (record { log = log; singles = roots.singles; extents = extents }) (ValuesTurn t)
extent_turned m n o g roots t low extents log k h at b l = record {
  now = (l.now, (g.1.0, b.now));
  changed = both_change log_owner (both single.single_owner extent.extent_owner) m n o g l.now (g.1.0, b.now) h (extent_changes m n g b.now h b.changed) l.changed;
  roots_are = λ i. record { log = l.roots_are i; singles = ap (λ r. r.singles) at i; extents = b.root_is i };
  so = record {
    log = l.so ∙ ap (λ z. log_after (which_of z t.by) t.change t.at (things g.0)) (sym k);
    singles = ap (λ z. singles_by z t (single.versions g.1.0)) (sym k);
    extents = b.shown_is ∙ ap (λ z. extents_by z t (extent.extents g.1.1)) (sym k);
  };
}

pub punch_turned : (m o : Blocks) (g : Values) (roots : AkeyRoots) (t : Task) (log : ℕ) → t.kind ≡ kind.Punch → Holds values_owner m g → roots ≡ values_roots g
    → Turned log_owner hung_root m g.0 o log (LogTurn Punch t.change t.at) → Turned values_owner values_roots m g o (record { log = log; singles = roots.singles; extents = roots.extents }) (ValuesTurn t)
punch_turned m o g roots t log k h at l = record {
  now = (l.now, g.1);
  changed = first_changes log_owner (both single.single_owner extent.extent_owner) m o g l.now h l.changed;
  roots_are = λ i. record { log = l.roots_are i; singles = ap (λ r. r.singles) at i; extents = ap (λ r. r.extents) at i };
  so = record {
    log = l.so ∙ ap (λ z. log_after (which_of z t.by) t.change t.at (things g.0)) (sym k);
    singles = ap (λ z. singles_by z t (single.versions g.1.0)) (sym k);
    extents = ap (λ z. extents_by z t (extent.extents g.1.1)) (sym k);
  };
}

-- ---- the blocks that go

pub single_freed : (t : Task) (g : Values) → t.kind ≡ kind.Single → values_freed t g ≡ single.freed_at t.change t.at (single.versions g.1.0) + log_freed (Creation t.by) t.change t.at (things g.0)
single_freed t g k = ap (λ z. values_count z t g + log_freed (which_of z t.by) t.change t.at (things g.0)) k

pub extent_freed : (t : Task) (low : ℕ) (g : Values) → t.kind ≡ kind.Extent low → values_freed t g ≡ extent.freed_at t.change (place_at t.at low) (extent.extents g.1.1) + log_freed (Creation t.by) t.change t.at (things g.0)
extent_freed t low g k = ap (λ z. values_count z t g + log_freed (which_of z t.by) t.change t.at (things g.0)) k

pub punch_freed : (t : Task) (g : Values) → t.kind ≡ kind.Punch → values_freed t g ≡ log_freed Punch t.change t.at (things g.0)
punch_freed t g k = let e : values_freed t g ≡ 0 + log_freed Punch t.change t.at (things g.0) = ap (λ z. values_count z t g + log_freed (which_of z t.by) t.change t.at (things g.0)) k in omega (arith, e)
