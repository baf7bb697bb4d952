use Rattle.std.specs.Prelude.{◌≡◌, slice_get, Option, Some}
use Rattle.std.proofs.Common.{◌∙◌, sym}
use Rattle.world_base.specs.declared.target.Life.{Life}
use Rattle.world_base.specs.declared.target.Life.TheVariants.{Running, Stopped}
use Rattle.run_stage.proofs.stage.Stage.target_turn.Goals as goal

-- one that is stopped hears none of its letters
not-running : (o : Option Life) → o ≡ Some Stopped → o ≡ Some Running → ⊥
not-running o stopped runs = let both : Some Stopped ≡ Some Running = sym stopped ∙ runs in cc

pub reopen-requires-clause-able : goal.reopen-requires-clause-able
reopen-requires-clause-able g c x at =
    let able = c.requires.able x at in
    record { opened = able.opened; running = able.running; hears = λ runs. absurd (not-running (slice_get c.args.self.now.watch.lives c.args.t) c.in-Stopped.ensures runs); counted = able.counted; covered = able.covered }
