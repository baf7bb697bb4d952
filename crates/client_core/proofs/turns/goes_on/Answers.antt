use Rattle.client_core.specs.Clients.{move_of}
use Rattle.client_core.proofs.TurnSteps.{kept_last, lighter_on, lighter_quiet, so_far_first, so_far_last, so_far_more, so_far_quiet}
use Rattle.client_core.proofs.turns.goes_on.Goals as goal

pub loop-state-init : goal.loop-state-init
loop-state-init c = so_far_first c.args.plan.now c.args.start c.requires.issued c.requires.place

pub returns-then-over-clause-turn : goal.returns-then-over-clause-turn
returns-then-over-clause-turn c =
    so_far_last c.args.plan.now c.args.start c.loop-state.did c.in_ok-did.did c.loop-state.state (move_of c.in_ok-post.field-0) c.loop-state.invariant c.in_ok-post.ensures c.if-over.true
    (record { posts = c.in_ok-did.ensures.posts; lines = c.in_ok-did.ensures.lines; issued = c.in_ok-did.ensures.issued })

pub returns-then-over-clause-place : goal.returns-then-over-clause-place
returns-then-over-clause-place c = kept_last c.args.plan.now c.loop-state.state (move_of c.in_ok-post.field-0) c.loop-state.invariant.place c.in_ok-post.ensures

pub loop-state-smaller : goal.loop-state-smaller
loop-state-smaller c = lighter_on c.args.plan.now c.loop-state.state (move_of c.in_ok-post.field-0) c.requires.fits c.in_ok-post.ensures c.if-over.false

pub loop-state-preserved : goal.loop-state-preserved
loop-state-preserved c =
    so_far_more c.args.plan.now c.args.start c.loop-state.did c.in_ok-did.did c.loop-state.state (move_of c.in_ok-post.field-0) c.loop-state.invariant c.in_ok-post.ensures c.if-over.false
    (record { posts = c.in_ok-did.ensures.posts; lines = c.in_ok-did.ensures.lines; issued = c.in_ok-did.ensures.issued })

pub loop-state-smaller-then-is_quiet : goal.loop-state-smaller-then-is_quiet
loop-state-smaller-then-is_quiet c =
    lighter_quiet c.args.plan.now c.loop-state.state c.stage_on.new.state c.requires.fits c.stage_on.ensures (c.is_quiet.ensures.quiet c.if-is_quiet.true)

pub loop-state-preserved-then-is_quiet : goal.loop-state-preserved-then-is_quiet
loop-state-preserved-then-is_quiet c =
    so_far_quiet c.args.plan.now c.args.start c.loop-state.did c.loop-state.state c.stage_on.new.state c.loop-state.invariant c.stage_on.ensures
    (c.is_quiet.ensures.quiet c.if-is_quiet.true)
