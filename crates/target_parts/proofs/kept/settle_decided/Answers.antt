use Rattle.std.proofs.Common.{ap, refl}
use Rattle.base_types.specs.declared.entry.Settle.TheVariants.{Commit}
use Rattle.daos_model.specs.Changes.{settled}
use Rattle.target_parts.specs.KeepingLaws.{leads-decided_settled, leads-same, open-commits}
use Rattle.target_parts.specs.Knowing.{LeadsWell, memory_of}
use Rattle.target_parts.specs.Running.{for_some_on}
use Rattle.target_parts.proofs.kept.settle_decided.Goals as goal

pub settle-requires-clause-can : goal.settle-requires-clause-can
settle-requires-clause-can g c x at = open-commits c.args.plan.me c.args.attempt x ((c.requires.leads x at).rows.decided c.args.attempt c.requires.decided)

pub returns-clause-keeps : goal.returns-clause-keeps
returns-clause-keeps g c = record {
  runs = c.in_ok-settle.ensures.runs;
  beside = record { hlc = refl; stamps = refl; member = refl };
  leads = λ _.
      for_some_on (g.S.Store.durable c.args.store.now) _ (LeadsWell c.args.plan _ _) c.in_ok-settle.ensures.runs.told (λ d at.
      let did = c.in_ok-settle.ensures.made d at in (
        settled c.args.attempt Commit d,
        did.kept_is,
        leads-same c.args.plan _ _ _ _ (settled c.args.attempt Commit d) (ap (λ l. record (memory_of c.args.knows.now) { leader = l }) c.settled.ensures) c.in_ok-settle.ensures.entries
            (leads-decided_settled c.args.plan c.args.attempt (memory_of c.args.knows.now) c.args.knows.now.entries.items d c.requires.decided (c.requires.leads d at)),
      ));
}
