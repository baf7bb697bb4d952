use Rattle.std.proofs.Common.{◌∙◌, ap, subst, sym}
use Rattle.target_tests.specs.Rows.{IsBlank, IsHere}
use Rattle.target_tests.proofs.Keeping.{blank_enlisted, blank_heard, here_enlisted, mapped}
use Rattle.target_tests.proofs.steps.start_at.Goals as goal

pub new-requires-clause-opened : goal.new-requires-clause-opened
new-requires-clause-opened g c x at =
    let was = mapped _ (g.S.Store.durable c.args.store) x (sym c.in_ok-enlist.ensures.kept.done ∙ at) in
    blank_heard x (subst IsBlank was.2 (blank_enlisted was.0 (c.requires.new.blank was.0 was.1)))

pub new-requires-clause-empty : goal.new-requires-clause-empty
new-requires-clause-empty g c x at =
    let was = mapped _ (g.S.Store.durable c.args.store) x (sym c.in_ok-enlist.ensures.kept.done ∙ at) in
    (subst IsBlank was.2 (blank_enlisted was.0 (c.requires.new.blank was.0 was.1))).entries

pub returns-in-Ok-clause-here : goal.returns-in-Ok-clause-here
returns-in-Ok-clause-here g c x at =
    let was = mapped _ (g.S.Store.durable c.args.store) x (sym c.in_ok-enlist.ensures.kept.done ∙ sym (ap g.S.Store.durable c.in-Ok.ensures.store) ∙ at) in
    subst IsHere was.2 (here_enlisted was.0 (c.requires.new.conts was.0 was.1))

pub returns-in-Ok-clause-blank : goal.returns-in-Ok-clause-blank
returns-in-Ok-clause-blank g c x at =
    let was = mapped _ (g.S.Store.durable c.args.store) x (sym c.in_ok-enlist.ensures.kept.done ∙ sym (ap g.S.Store.durable c.in-Ok.ensures.store) ∙ at) in
    subst IsBlank was.2 (blank_enlisted was.0 (c.requires.new.blank was.0 was.1))
