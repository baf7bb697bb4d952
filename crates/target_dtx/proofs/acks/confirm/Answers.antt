use Rattle.std.proofs.Common.{◌∙◌, refl, sym}
use Rattle.base_types.specs.declared.entry.Settle.TheVariants.{Confirm}
use Rattle.target_parts.specs.Knowing.{memory_of}
use Rattle.target_parts.specs.MadeLaws.{leads-after_step}
use Rattle.target_parts.specs.Standing.{by_ok}
use Rattle.target_dtx.proofs.Confirming.{confirm-apart, confirm-can}
use Rattle.target_dtx.proofs.acks.confirm.Goals as goal

pub settle-requires-clause-can : goal.settle-requires-clause-can
settle-requires-clause-can g c d at =
    confirm-can c.args.plan.me c.args.member c.args.attempt c.args.knows.now.entries.items d c.in-Some.entry (c.requires.leads d at).entries (g.met.S.Store.formed _ c.requires.running d at).entries
    (sym c.entry_led.ensures ∙ c.in-Some.is) c.if-entry.true (sym c.has_number.ensures.has ∙ c.if-has_number.true)

pub returns-then-has_number-clause-keeps : goal.returns-then-has_number-clause-keeps
returns-then-has_number-clause-keeps g c = record {
  runs = c.settle.ensures.runs;
  beside = record { hlc = refl; stamps = refl; member = refl };
  leads = by_ok c.settle.result _
      (leads-after_step c.args.plan c.args.attempt (Confirm c.args.member) (memory_of c.args.knows.now) c.args.knows.now.entries.items _ _ _ (g.S.Store.durable c.args.store.now) _ _ _ c.settle.ensures.runs.told c.settle.ensures.entries c.settle.ensures.made (λ d at. confirm-apart c.args.plan.me c.args.member c.args.attempt c.args.knows.now.entries.items d c.in-Some.entry (c.requires.leads d at).entries (g.met.S.Store.formed _ c.requires.running d at).entries (sym c.entry_led.ensures ∙ c.in-Some.is) c.if-entry.true c.args.plan c.args.knows.now.leader (c.requires.leads d at).rows) c.requires.leads);
}
