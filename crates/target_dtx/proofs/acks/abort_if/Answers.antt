use Rattle.std.proofs.Common.{refl, rules}
use Rattle.base_types.specs.declared.entry.Settle.TheVariants.{Abort}
use Rattle.target_parts.specs.Knowing.{memory_of}
use Rattle.target_parts.specs.MadeLaws.{leads-after_step}
use Rattle.target_parts.specs.Standing.{by_ok}
use Rattle.target_dtx.proofs.acks.abort_if.Goals as goal

pub returns-clause-keeps : goal.returns-clause-keeps
returns-clause-keeps g c = record {
  runs = c.settle.ensures.runs;
  beside = record { hlc = refl; stamps = refl; member = refl };
  leads = by_ok c.settle.result _
      (leads-after_step c.args.plan c.args.attempt Abort (memory_of c.args.knows.now) c.args.knows.now.entries.items _ _ _ (g.S.Store.durable c.args.store.now) _ _ _ c.settle.ensures.runs.told c.settle.ensures.entries c.settle.ensures.made (λ d at. c.requires.apart d at (search rules)) c.requires.leads);
}
