-- What fails in a run is a target's that is there.
use Rattle.std.specs.Prelude.{ℕ, ◌≡◌, ◌≤◌, ◌<◌, ◌==◌, Bool, true, false, length, slice_get, Option, Some, None, refl, if◌then◌else◌}
use Rattle.std.proofs.Common.{ap, ◌∙◌, arith}
use Rattle.std.proofs.lemmas.Bool.Decides.{nat_tests}
use Rattle.std.proofs.lemmas.Option.{slice_get_within}
use Rattle.run_laws.specs.turns.Faults.{cuts_and_failures, fault_in, once_for}
use Rattle.world_base.specs.declared.target.TargetState.{TargetState}
use Rattle.world_base.specs.declared.world.World.{World}
use Rattle.world_base.specs.Events.{Rules}
use Rattle.world_base.specs.Stops.{Begins, Fails, Goes, Happening, IsCut, WorldRun}

not-once : (u t : ℕ) → u < t → once_for (Some u) t ≡ 0
not-once u t less =
    let off : (u == t) ≡ false = grind (arith, nat_tests) in
    ap (λ (b : Bool). if b then 1 else 0) off

event-fails_none : (r : Rules) (w v : World) (t : ℕ) (e : Happening r w v) → length w.targets ≤ t → once_for (fault_in e) t ≡ 0
event-fails_none r w v t (IsCut g) few = not-once g.t t (let low = slice_get_within w.targets g.t g.s g.here in omega (arith, low, few))
event-fails_none r w v t (Fails g) few = not-once g.t t (let low = slice_get_within w.targets g.t g.s g.here in omega (arith, low, few))
event-fails_none r w v t e few = refl

-- nothing is cut, and no opening fails, of a target that isn't there
pub fails-none_beyond : (r : Rules) (w v : World) (t : ℕ) (run : WorldRun r w v) → ((x : World) → WorldRun r w x → length x.targets ≤ t) → cuts_and_failures t run ≡ 0
fails-none_beyond r w v t Begins few = refl
fails-none_beyond r w v t (Goes u x run e) few =
    let before = fails-none_beyond r w u t run few in
    let one = event-fails_none r u e.u t e.happens (few u run) in
    omega (arith, before, one)
