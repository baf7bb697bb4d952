use Rattle.std.specs.Prelude.{◌≡◌, replicate}
use Rattle.world_base.specs.declared.target.Life.TheVariants.{Running}
use Rattle.run_watch.proofs.watch.all_running.Given as goal

-- so many run by now
abbrev pub invariant-loop : goal.invariant-loop
invariant-loop l = l.lives.items ≡ replicate l.counter Running
