use Rattle.std.proofs.Common.{inl}
use Rattle.target_tests.proofs.Owning.{begun_form, begun_heard, begun_not_held}
use Rattle.target_tests.proofs.own.hear_told.Goals as goal

pub hear-requires-clause-form : goal.hear-requires-clause-form
hear-requires-clause-form g c = inl (begun_form c.args.target.now.plan c.args.message c.requires.told)

pub hear-requires-clause-here : goal.hear-requires-clause-here
hear-requires-clause-here g c d at = begun_heard c.args.target.now.plan c.args.message d c.requires.told

pub hear-requires-clause-sender : goal.hear-requires-clause-sender
hear-requires-clause-sender g c held = absurd (begun_not_held c.args.message c.requires.told held)
