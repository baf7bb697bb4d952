use Rattle.std.proofs.Common.{◌∙◌, ap, subst, sym}
use Rattle.target_parts.specs.Covers.{CoverCut, Covers, heard_of}
use Rattle.target_parts.specs.KnowsLaws.{with_clock}
use Rattle.target_parts.specs.Parts.{left_by}
use Rattle.target_parts.specs.Standing.{target-heard, target-unheard}
use Rattle.target_parts.proofs.epochs.ready.Goals as goal

pub returns-in_ok-cover-in-Some-clause-ready : goal.returns-in_ok-cover-in-Some-clause-ready
returns-in_ok-cover-in-Some-clause-ready g c =
    let r = c.request_epoch.ensures.epoch in (
      r.0,
      r.1,
      λ d at. (
        sym r.2 ∙ c.in-Some.is,
        subst (λ n. Covers n d (g.S.Store.state c.args.store.now) (g.S.Store.durable c.cover.new.store) (g.S.Store.state c.cover.new.store)) c.ticks.ensures (c.in_ok-cover-in-Some.ensures.covered d at),
      ),
    )

pub returns-in_ok-cover-in-Some-clause-target : goal.returns-in_ok-cover-in-Some-clause-target
returns-in_ok-cover-in-Some-clause-target g c =
    target-heard c.args.plan c.in-Some.epoch _ (g.S.Store.state c.args.store.now) (g.S.Store.state c.cover.new.store) (g.S.Store.durable c.args.store.now) (g.S.Store.durable c.cover.new.store) (g.S.Store.may c.cover.new.store) c.args.knows.now (with_clock c.request_epoch.new.hlc c.args.knows.now) c.requires.target c.requires.running
    c.in_ok-cover-in-Some.ensures.runs
    (ap (λ x. with_clock x c.args.knows.now) (c.request_epoch.ensures.heard ∙ ap (λ o. heard_of o c.args.knows.now.hlc) c.in-Some.is))
    (λ d at. subst (λ n. Covers n d (g.S.Store.state c.args.store.now) (g.S.Store.durable c.cover.new.store) (g.S.Store.state c.cover.new.store)) c.ticks.ensures (c.in_ok-cover-in-Some.ensures.covered d at))

pub returns-in_err-cover-in-Some-clause-target : goal.returns-in_err-cover-in-Some-clause-target
returns-in_err-cover-in-Some-clause-target g c =
    target-heard c.args.plan c.in-Some.epoch _ (g.S.Store.state c.args.store.now) (g.S.Store.state c.cover.new.store) (g.S.Store.durable c.args.store.now) (g.S.Store.durable c.cover.new.store) (g.S.Store.may c.cover.new.store) c.args.knows.now (with_clock c.request_epoch.new.hlc c.args.knows.now) c.requires.target c.requires.running
    c.in_err-cover-in-Some.ensures.runs
    (ap (λ x. with_clock x c.args.knows.now) (c.request_epoch.ensures.heard ∙ ap (λ o. heard_of o c.args.knows.now.hlc) c.in-Some.is))
    (λ d at. subst (λ n. CoverCut n d (g.S.Store.state c.args.store.now) (left_by (g.S.Store.state c.cover.new.store) (g.S.Store.may c.cover.new.store))) c.ticks.ensures (c.in_err-cover-in-Some.ensures.covered d at))

pub returns-in-None-clause-target : goal.returns-in-None-clause-target
returns-in-None-clause-target g c =
    target-unheard c.args.plan (g.S.Store.state c.args.store.now) (g.S.Store.durable c.args.store.now) c.args.knows.now (with_clock c.request_epoch.new.hlc c.args.knows.now) c.requires.target
    (ap (λ x. with_clock x c.args.knows.now) (c.request_epoch.ensures.heard ∙ ap (λ o. heard_of o c.args.knows.now.hlc) c.in-None.is))
