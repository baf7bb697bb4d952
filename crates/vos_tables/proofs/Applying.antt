-- What a change that fits makes of a table that places can hold.
use Rattle.std.proofs.Common.{ℕ, Some, None, ◌∙◌}
use Rattle.std.proofs.lemmas.List.{length-set}
use Rattle.base_types.specs.declared.snapshot.Snap.{Snap}
use Rattle.daos_model.specs.declared.durable.ContRow.{ContRow}
use Rattle.vos_places.specs.Codec.{IsContUnder, IsSnap}
use Rattle.vos_places.specs.Laws.{covered_by, with_cont, with_snap}
use Rattle.vos_places.specs.Tables.{Table}
use Rattle.vos_tables.specs.declared.change.Change.TheVariants.{Cont, Snapshot, Unused}
use Rattle.vos_tables.specs.Changes.{Fits}
use Rattle.vos_tables.specs.Tables.{IsTable}
use Rattle.vos_tables.proofs.Places.{All_those-set, All_those-unset}

pub cont_applied : (t : Table) (i : ℕ) (r : ContRow) → IsTable t → Fits t (Cont i r) → IsTable (with_cont i r t)
cont_applied t i r h f = record {
  many_conts = length-set t.conts i (Some r) ∙ h.many_conts;
  many_snaps = h.many_snaps;
  apart = f.2;
  rows = All_those-set (IsContUnder (covered_by t.header)) t.conts i r f.1 h.rows;
  held = h.held;
  counters = h.counters;
}

pub snap_applied : (t : Table) (i : ℕ) (s : Snap) → IsTable t → Fits t (Snapshot i s) → IsTable (with_snap i (Some s) t)
snap_applied t i s h f = record {
  many_conts = h.many_conts;
  many_snaps = length-set t.snaps i (Some s) ∙ h.many_snaps;
  apart = f.2;
  rows = h.rows;
  held = All_those-set IsSnap t.snaps i s f.1 h.held;
  counters = h.counters;
}

pub unused_applied : (t : Table) (i : ℕ) → IsTable t → Fits t (Unused i) → IsTable (with_snap i None t)
unused_applied t i h f = record {
  many_conts = h.many_conts;
  many_snaps = length-set t.snaps i None ∙ h.many_snaps;
  apart = f.1;
  rows = h.rows;
  held = All_those-unset IsSnap t.snaps i h.held;
  counters = h.counters;
}
