use Rattle.std.proofs.Common.{inl, subst, sym}
use Rattle.target_core.specs.Targets.{HasForm}
use Rattle.target_tests.proofs.Overtaking.{fetch_in_form}
use Rattle.target_tests.proofs.overtaken.hear_fetch.Goals as goal

pub hear-requires-clause-form : goal.hear-requires-clause-form
hear-requires-clause-form g c = inl (subst (HasForm c.args.target.now.plan) (sym c.in_ok-message.ensures) (fetch_in_form c.args.target.now.plan))
