-- What one more write took follows what was taken before.
use Rattle.std.proofs.Common.{◌≡◌, ◌-◌, length, take, drop, take-add, arith}
use Rattle.std.proofs.KnownBytes.{Appends-trans}
use Rattle.std.proofs.lemmas.Grind.{common_steps}
use Rattle.base_outside.proofs.sink.write_all.Goals as goal

pub loop-done-preserved : goal.loop-done-preserved
loop-done-preserved g c =
    let bytes = c.args.bytes.now in
    let done = c.loop-done.done in
    let rest : take (length bytes - done) (drop done bytes) ≡ drop done bytes = grind (arith, common_steps) in
    record {
      within = omega (arith, c.in-Ok.ensures.bound);
      bytes = rw take-add (Appends-trans _ _ _ _ _ c.loop-done.invariant.bytes (rw rest at c.in-Ok.ensures.bytes));
      later = omega (arith, c.in-Ok.ensures.cause.later);
      stalls = omega (arith, c.in-Ok.ensures.stall.taken);
    }
