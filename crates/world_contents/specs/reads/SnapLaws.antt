-- What keeps the maps of frozen snapshots where they are.
use Rattle.std.specs.Prelude.{ℕ, ◌≡◌, ◌≤◌, ◌/◌, true, Contains, ◌||◌, ◌==◌}
use Rattle.std.proofs.Common.{sym, ◌∙◌, ap, subst, arith}
use Rattle.base_types.specs.declared.id.ContId.{ContId}
use Rattle.base_types.specs.declared.epoch.Epoch.{Epoch}
use Rattle.base_types.specs.declared.snapshot.Snap.{Snap}
use Rattle.model_laws.specs.Dated.{dated_of}
use Rattle.model_laws.specs.MatchLaws.{same-maps}
use Rattle.model_laws.specs.Members.{contains-from_has, has-any}
use Rattle.model_laws.specs.TargetLaws.{number_same}
use Rattle.daos_model.specs.declared.durable.Durable.{Durable}
use Rattle.daos_model.specs.BoolLaws.{and_left, and_right}
use Rattle.daos_model.specs.Durables.{is_frozen, is_snap_at, row_of}
use Rattle.daos_model.specs.Opening.{Opening}
use Rattle.world_commit.specs.attempts.History.{History}
use Rattle.world_commit.specs.world_base.Events.{Rules}
use Rattle.world_contents.specs.reads.Transactions.{counts_by}
use Rattle.world_contents.specs.reads.Versions.{SnapshotsStand}
use Rattle.base_types.specs.declared.path.Path.{Path}
use Rattle.base_types.specs.Paths.{leads_to, overlaps}
use Rattle.model_laws.specs.PlaceLaws.{overlaps-container}

-- a change that leaves snapshots, containers and the writes that count as they are, and lowers no lease
pub snapshots-stay : (r : Rules) (o : Opening) (h : History) (t : ℕ) (d e : Durable) → e.snaps ≡ d.snaps → ((c : ContId) → row_of e c ≡ row_of d c) → d.lease ≤ e.lease
    → dated_of (counts_by h) d.versions ≡ dated_of (counts_by h) e.versions → SnapshotsStand r o h t d → SnapshotsStand r o h t e
snapshots-stay r o h t d e snaps rows lease writes k = record {
  floored = λ s i. subst (λ y. s.epoch.0 ≤ y.floor.0) (sym (rows s.cont)) (k.floored s (was s i));
  leased = λ s i. let low : s.epoch.0 / 256 ≤ d.lease = k.leased s (was s i) in omega (arith, low, lease);
  kept = λ s m i low is c own. sym (same-maps (counts_by h) (counts_by h) d.versions e.versions s.epoch.0 writes c) ∙ k.kept s m (was s i) low is c own;
  given = λ s i above c own. sym (same-maps (counts_by h) (counts_by h) d.versions e.versions s.epoch.0 writes c) ∙ k.given s (was s i) above c own;
}
  where
    was : (s : Snap) → Contains e.snaps s → Contains d.snaps s
    was s i = subst (λ ss. Contains ss s) snaps i

-- one that is found frozen is among those that are kept
pub frozen-among : (d : Durable) (cont : ContId) (e : Epoch) → is_frozen d cont e ≡ true → (s : Snap) × Contains d.snaps s × (s.cont ≡ cont) × (s.epoch ≡ e)
unfolding is_frozen
frozen-among d cont e is =
    let z = has-any (is_snap_at cont e) d.snaps is in (
      z.0,
      contains-from_has d.snaps z.0 z.1,
      ap cont_of (number_same z.0.cont.0 cont.0 (and_left (z.0.cont.0 == cont.0) (z.0.epoch.0 == e.0) z.2)),
      ap epoch_of (number_same z.0.epoch.0 e.0 (and_right (z.0.cont.0 == cont.0) (z.0.epoch.0 == e.0) z.2)),
    )
  where
    cont_of : ℕ → ContId
    cont_of n = record { 0 = n }

    epoch_of : ℕ → Epoch
    epoch_of n = record { 0 = n }

-- a path leads to cells of its container
pub leads-container : (p q : Path) → leads_to p q ≡ true → p.cont.0 ≡ q.cont.0
unfolding overlaps
leads-container p q is = overlaps-container p q (ap (λ c. c || leads_to q p) is)
