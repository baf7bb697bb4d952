use Rattle.std.proofs.Common.{◌≡◌, ◌∙◌, ap, sym, subst}
use Rattle.std.specs.Prelude.{true, filter}
use Rattle.daos_model.specs.Durables.{entry_key}
use Rattle.daos_model.specs.Ordered.{is_rising}
use Rattle.daos_model.specs.OrderLaws.{rising-filter}
use Rattle.dtx_base.specs.Leading.{is_led}
use Rattle.dtx_leader.proofs.Led.{passed-again}
use Rattle.dtx_leader.proofs.leader.Leader.new.Goals as goal

pub of_rows-requires : goal.of_rows-requires
of_rows-requires c = subst (λ es. is_rising entry_key es ≡ true) (sym (c.in_ok-led.ensures ∙ ap (filter (is_led c.args.me)) c.as_slice.ensures)) (rising-filter entry_key (is_led c.args.me) c.args.entries.now c.requires.order)

pub invariant_of-result : goal.invariant_of-result
invariant_of-result c = subst (λ es. filter (is_led c.args.me) es ≡ es) (sym (c.of_rows.ensures ∙ c.in_ok-led.ensures)) (passed-again (is_led c.args.me) c.as_slice.result.now)
