-- The world of targets that start over stores which were opened for a run of any script, and of its clients: a run begins with it.
use Rattle.world_closing.specs.Below.{HoldNoMoreSnapshots, KeepsSnapshots, RunBeginsWith, begins-well, kept-no-more, snaps_held, without_snaps, durables_of, OpensWith, StartsWith, first_tracker, no_joining, no_leading}
use Rattle.std.specs.Prelude.{ℕ, ◌≡◌, ◌≤◌, ◌<◌, List, [], length, map, slice_get, Some}
use Rattle.std.proofs.Common.{sym, ◌∙◌, ap, subst, arith}
use Rattle.base_types.specs.declared.script.Command.{Command}
use Rattle.base_types.specs.declared.snapshot.Snap.{Snap}
use Rattle.daos_model.specs.declared.durable.Durable.{Durable}
use Rattle.daos_model.specs.Finals.{opening_of}
use Rattle.daos_model.specs.Opening.{Opening, top}
use Rattle.model_laws.specs.Lists.{at-within}
use Rattle.world_base.specs.declared.target.Life.TheVariants.{Running}
use Rattle.world_base.specs.declared.target.TargetState.{TargetState}
use Rattle.world_base.specs.declared.world.World.{World}
use Rattle.world_base.specs.ClientTurns.{at_first}
use Rattle.world_base.specs.Events.{Rules}
use Rattle.world_closing.specs.stands.Lasting.{BeginsKept}
use Rattle.world_closing.specs.stands.Stands.{HoldsOpenings}
use Rattle.run_starts.specs.Begins.{many, opened-stores-begin, there}
use Rattle.run_starts.specs.Starts.{AllBegin, AreHeldFirst, begun_family}

-- ---- the statement

-- A target that has just started: it runs, with so many blocks free, its clock is at its lease, and it has heard nothing yet.
pub record IsNew (o : Opening) (t : ℕ) (z : TargetState) : Type 0 where
  pub free : o.free t ≤ z.free
  pub floor : z.opening.0.0 ≤ top o
  pub runs : z.life ≡ Running
  pub ticks : z.memory.ticks ≤ z.durable.lease
  pub stamps : z.memory.stamps ≡ []
  pub leader : z.memory.leader ≡ no_leading
  pub member : z.memory.member ≡ no_joining
  pub collecting : z.memory.collecting ≡ []

-- A world before its first event: its targets have just started, its clients know which snapshots of earlier runs they may read, as these are held,
-- and nothing is in flight, issued or told of.
pub record IsNewWorld (r : Rules) (o : Opening) (held : List Snap) (w : World) : Type 0 where
  pub targets : (t : ℕ) (z : TargetState) → slice_get w.targets t ≡ Some z → IsNew o t z
  pub clients : w.clients ≡ map (λ (list : List Command). at_first r.script held (first_tracker o)) r.script.clients
  pub messages : w.messages ≡ []
  pub asked : w.asked ≡ []
  pub issued : w.issued ≡ []
  pub lines : w.lines ≡ []

-- A run begins with a world, over an opening; no target holds more snapshots than the opening keeps maps of, and they hold all that it stands for.
pub record BeginsOver (r : Rules) (o : Opening) (w : World) : Type 0 where
  pub begins : RunBeginsWith r o w
  pub few : HoldNoMoreSnapshots o w
  pub holds : HoldsOpenings o w

-- So a run of any script begins with a new world in which the targets keep what stores keep that were opened for it, and target 0 holds these
-- snapshots. Its opening is what the stores stood for, but for the snapshots that the script drops.
abbrev pub OpenedRunsBegin : Type 0
OpenedRunsBegin =
    (r : Rules) (B : List Durable) (free : ℕ → ℕ) (held : List Snap) (w : World) → 0 < r.script.targets → length B ≡ r.script.targets → AllBegin r.script B → AreHeldFirst (begun_family r.script B) held
    → durables_of w ≡ begun_family r.script B → IsNewWorld r (opening_of r.script B free) held w → BeginsOver r (opening_of r.script B free) w

-- ---- the law

module _ (r : Rules) (B : List Durable) (free : ℕ → ℕ) (held : List Snap) (w : World) (some : 0 < r.script.targets) (as_many : length B ≡ r.script.targets) (k : AllBegin r.script B) (holds : AreHeldFirst (begun_family r.script B) held)
    (keep : durables_of w ≡ begun_family r.script B) (new : IsNewWorld r (opening_of r.script B free) held w) where
  abbrev o : Opening
  o = opening_of r.script B free

  some-kept : 0 < length B
  some-kept = subst (λ n. 0 < n) (sym as_many) some

  kept : BeginsKept o w
  kept = (opened-stores-begin r.script B free w some-kept k keep).1

  targets : length w.targets ≡ r.script.targets
  targets = many r.script B free w some-kept k keep ∙ as_many

  starts : (t : ℕ) (z : TargetState) → slice_get w.targets t ≡ Some z → StartsWith r.script.targets t o (without_snaps z)
  starts t z here =
      let f = new.targets t z here in
      let opens : OpensWith r.script.targets t o (without_snaps z).durable = subst (λ n. OpensWith n t o (without_snaps z).durable) targets (kept.opens t z here) in
      let low : z.durable.lease ≤ o.lease = opens.lease in
      let within : z.memory.ticks ≤ z.durable.lease = f.ticks in
      record { opens = opens; free = f.free; floor = f.floor; runs = f.runs; ticks = omega (arith, low, within); stamps = f.stamps; leader = f.leader; member = f.member; collecting = f.collecting }

  -- these are the snapshots that target 0 holds
  held-there : held ≡ snaps_held (slice_get w.targets 0)
  held-there =
      let z = at-within w.targets 0 (subst (λ n. 0 < n) (sym targets) some) in
      holds z.0.durable (there r.script B free w some-kept k keep 0 z.0 z.1) ∙ sym (ap snaps_held z.1)

  begins : RunBeginsWith r o w
  begins = record {
    targets = targets;
    starts = starts;
    snapshots = λ t z here. subst (λ n. KeepsSnapshots n t o z.durable) targets (kept.snapshots t z here);
    frozen = kept.frozen;
    kept = kept.kept;
    enlisted = λ t z here. (k.each t z.durable (there r.script B free w some-kept k keep t z here)).enlisted;
    clients = new.clients ∙ ap (λ snaps. map (λ (list : List Command). at_first r.script snaps (first_tracker o)) r.script.clients) held-there;
    messages = new.messages;
    asked = new.asked;
    issued = new.issued;
    lines = new.lines;
  }

  pub begins-over : BeginsOver r o w
  begins-over = record { begins = begins; few = kept-no-more r o w (begins-well r o w begins) kept.known; holds = kept.held }

pub opened-runs-begin : OpenedRunsBegin
opened-runs-begin r B free held w some as_many k holds keep new = begins-over r B free held w some as_many k holds keep new
