use Rattle.std.proofs.Common.{refl, rules}
use Rattle.world_contents.specs.world_base.Changes.{Settles}
use Rattle.world_contents.specs.world_base.Roles.{is_prepared}
use Rattle.target_parts.specs.KeepingLaws.{forgotten-apart, leads-forgotten}
use Rattle.target_parts.specs.Knowing.{memory_of}
use Rattle.target_parts.specs.MadeLaws.{leads-after_step, made-did, made-not}
use Rattle.target_parts.specs.Running.{runs_first}
use Rattle.target_parts.specs.Standing.{by_ok}
use Rattle.target_parts.proofs.Prepared.{ending-is_step, prepared-ends, prepared-known}
use Rattle.target_parts.proofs.kept.settle_prepared.Goals as goal

pub returns-then-not-is_prepared-clause-made : goal.returns-then-not-is_prepared-clause-made
returns-then-not-is_prepared-clause-made g c d at =
    made-not _ (Settles c.args.attempt c.args.step) d _ _ _ (prepared-known c.args.attempt c.args.knows.now.entries.items d _ (c.requires.leads d at).entries (search rules)) at

pub settle-requires-clause-step : goal.settle-requires-clause-step
settle-requires-clause-step g c = ending-is_step c.args.step c.requires.step

pub settle-requires-clause-can : goal.settle-requires-clause-can
settle-requires-clause-can g c = λ d at.
    prepared-ends c.args.attempt c.args.step d c.requires.step (prepared-known c.args.attempt c.args.knows.now.entries.items d _ (c.requires.leads d at).entries (search rules))

pub returns-clause-made : goal.returns-clause-made
returns-clause-made g c d at =
    made-did (is_prepared c.args.attempt d) (Settles c.args.attempt c.args.step) d _ _ _ _ _
    (prepared-known c.args.attempt c.args.knows.now.entries.items d _ (c.requires.leads d at).entries (search rules)) (c.settle.ensures.made d at)

pub returns-then-not-is_prepared-clause-keeps : goal.returns-then-not-is_prepared-clause-keeps
returns-then-not-is_prepared-clause-keeps g c = record {
  runs = runs_first (g.S.Store.state c.args.store.now) (g.S.Store.durable c.args.store.now) c.requires.running;
  beside = record { hlc = refl; stamps = refl; member = refl };
  leads = λ _ d at. leads-forgotten c.args.plan c.args.attempt (memory_of c.args.knows.now) c.forget.new.self c.args.knows.now.entries.items d c.forget.ensures (c.requires.leads d at);
}

pub returns-clause-keeps : goal.returns-clause-keeps
returns-clause-keeps g c = record {
  runs = c.settle.ensures.runs;
  beside = record { hlc = refl; stamps = refl; member = refl };
  leads = by_ok c.settle.result _
      (leads-after_step c.args.plan c.args.attempt c.args.step (record (memory_of c.args.knows.now) { leader = c.forget.new.self }) c.args.knows.now.entries.items _ _ _ (g.S.Store.durable c.args.store.now) _ _ _ c.settle.ensures.runs.told c.settle.ensures.entries c.settle.ensures.made (λ d at. forgotten-apart c.args.plan c.args.attempt c.args.knows.now.leader c.forget.new.self c.forget.ensures) (λ d at. leads-forgotten c.args.plan c.args.attempt (memory_of c.args.knows.now) c.forget.new.self c.args.knows.now.entries.items d c.forget.ensures (c.requires.leads d at)));
}
