use Rattle.std.proofs.Common.{◌≡◌, ◌≤◌, false, refl, arith}
use Rattle.vos_plain.proofs.plain.PlainStoreStore.extend_lease.Goals as goal

pub invariant_of-self : goal.invariant_of-self
invariant_of-self c =
    let run : c.args.self.now.stops.stopped ≡ false = cc in
    let on : c.args.self.now.contents.kept.lease ≤ c.args.ticks = c.requires.on run _ refl in
    record { covered = omega (arith, on, c.args.self.now.covered, c.extend.ensures.lease) }

pub invariant_of-self-in-StopAfter : goal.invariant_of-self-in-StopAfter
invariant_of-self-in-StopAfter c =
    let run : c.args.self.now.stops.stopped ≡ false = cc in
    let on : c.args.self.now.contents.kept.lease ≤ c.args.ticks = c.requires.on run _ refl in
    record { covered = omega (arith, on, c.args.self.now.covered, c.extend-in-StopAfter.ensures.lease) }
