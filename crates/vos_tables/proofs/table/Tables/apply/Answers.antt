use Rattle.std.proofs.Common.{Some, None, sym, subst, slice_set}
use Rattle.vos_tables.specs.declared.change.Change.TheVariants.{Cont, Snapshot, Unused}
use Rattle.vos_tables.specs.Changes.{Fits}
use Rattle.vos_tables.specs.Tables.{IsTable, table_of}
use Rattle.vos_tables.proofs.Applying.{cont_applied, snap_applied, unused_applied}
use Rattle.vos_tables.proofs.table.Tables.apply.Goals as goal

pub invariant_of-self : goal.invariant_of-self
invariant_of-self c =
    let t = table_of c.self.inside.identity c.self.inside.counters c.self.inside.conts.items c.self.inside.snaps.items in
    let f : Fits t (Cont c.in-Cont.at c.in-Cont.row) = subst (Fits t) c.in-Cont.is (subst (λ u. Fits u c.args.change) (sym c.self.view_is) c.requires) in
    subst (λ n. IsTable (table_of c.self.inside.identity c.self.inside.counters (slice_set c.self.inside.conts.items n (Some c.in-Cont.row)) c.self.inside.snaps.items)) (sym c.from.ensures) (cont_applied t c.in-Cont.at c.in-Cont.row c.self.invariant f)

pub invariant_of-self-in-Snapshot : goal.invariant_of-self-in-Snapshot
invariant_of-self-in-Snapshot c =
    let t = table_of c.self.inside.identity c.self.inside.counters c.self.inside.conts.items c.self.inside.snaps.items in
    let f : Fits t (Snapshot c.in-Snapshot.at c.in-Snapshot.snap) = subst (Fits t) c.in-Snapshot.is (subst (λ u. Fits u c.args.change) (sym c.self.view_is) c.requires) in
    subst (λ n. IsTable (table_of c.self.inside.identity c.self.inside.counters c.self.inside.conts.items (slice_set c.self.inside.snaps.items n (Some c.in-Snapshot.snap)))) (sym c.from-in-Snapshot.ensures) (snap_applied t c.in-Snapshot.at c.in-Snapshot.snap c.self.invariant f)

pub invariant_of-self-in-Unused : goal.invariant_of-self-in-Unused
invariant_of-self-in-Unused c =
    let t = table_of c.self.inside.identity c.self.inside.counters c.self.inside.conts.items c.self.inside.snaps.items in
    let f : Fits t (Unused c.in-Unused.at) = subst (Fits t) c.in-Unused.is (subst (λ u. Fits u c.args.change) (sym c.self.view_is) c.requires) in
    subst (λ n. IsTable (table_of c.self.inside.identity c.self.inside.counters c.self.inside.conts.items (slice_set c.self.inside.snaps.items n None))) (sym c.from-in-Unused.ensures) (unused_applied t c.in-Unused.at c.self.invariant f)
