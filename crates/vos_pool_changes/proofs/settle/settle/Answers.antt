use Rattle.std.proofs.Common.{◌∙◌, arith, refl, sym}
use Rattle.daos_model.specs.Changes.{settled}
use Rattle.vos_pool_held.specs.vos_contents.Contents.{contents_of}
use Rattle.vos_store.specs.Refusals.{always_stop}
use Rattle.vos_pool_changes.proofs.After.{after_done, after_stopped, of_done, says_stopped, turned}
use Rattle.vos_pool_changes.proofs.Named.{named_as, settled_named}
use Rattle.vos_pool_changes.proofs.settle.settle.Goals as goal

pub invariant_of-result : goal.invariant_of-result
invariant_of-result g c =
    let h = c.args.held in
    let k = c.settle-opened.ensures in
    record {
      held = after_stopped g.R.Region.tells g.R.Region.extent g.R.Region.image g.R.Region.may_leave g.R.Region.count g.R.Region.burns 0 h.opened c.settle-opened.result.0 (contents_of h.contents) (contents_of h.contents) h.free h.free h.floor.0 h.target h.targets h.held c.settle-opened.result.1 k.stops k.size k.left refl c.known.ensures.named (sym c.is_err.ensures.value ∙ c.if-is_err.true) (omega arith);
    }

pub returns-then-is_err-clause-call : goal.returns-then-is_err-clause-call
returns-then-is_err-clause-call g c =
    let h = c.args.held in
    let run = sym c.is_stopped.ensures ∙ c.if-is_stopped.false in
    turned g.R.Region.count g.R.Region.burns g.R.Region.can_burn 0 always_stop c.settle-opened.result.1 h.opened c.settle-opened.result.0 h.free h.free h.targets (h.floor, h.why) g.met.R.Region.unburnt run c.settle-opened.result.1 (says_stopped c.settle-opened.result.1) refl c.settle-opened.ensures.stops (omega arith)

pub invariant_of-result-2 : goal.invariant_of-result-2
invariant_of-result-2 g c =
    let h = c.args.held in
    let k = c.settle-opened.ensures in
    let f = c.free_blocks-free.ensures in
    let run = sym c.is_stopped.ensures ∙ c.if-is_stopped.false in
    let done = sym c.is_err.ensures.value ∙ c.if-is_err.false in
    record {
      held = after_done g.R.Region.tells g.R.Region.extent g.R.Region.image g.R.Region.may_leave g.R.Region.count g.R.Region.burns 0 h.opened c.settle-opened.result.0 (contents_of h.contents) (contents_of c.settle.new.self) h.free c.free_blocks-free.result h.floor.0 h.target h.targets h.held c.settle-opened.result.1 k.stops k.size k.left c.settle.ensures.lease
          (named_as (contents_of c.settle.new.self) (settled c.args.attempt c.args.step (contents_of h.contents)) c.settle.ensures.kept (settled_named c.args.attempt c.args.step (contents_of h.contents) c.known.ensures.named)) (settled c.args.attempt c.args.step) done run k.kept.done (λ tell. c.known.ensures.kept tell run) (λ tell. c.settle.ensures.kept)
          (of_done c.settle-opened.result.1 done k.tidy c.known.ensures.tidy) f.rests f.unstaged f.holds f.free;
    }

pub returns-clause-call : goal.returns-clause-call
returns-clause-call g c =
    let h = c.args.held in
    let run = sym c.is_stopped.ensures ∙ c.if-is_stopped.false in
    let was = c.known.ensures.free run in
    let now = c.free_blocks-free.ensures.free in
    let more = c.settle-opened.ensures.free in
    turned g.R.Region.count g.R.Region.burns g.R.Region.can_burn 0 always_stop c.settle-opened.result.1 h.opened c.settle-opened.result.0 h.free c.free_blocks-free.result h.targets (h.floor, h.why) g.met.R.Region.unburnt run c.settle-opened.result.1 (says_stopped c.settle-opened.result.1) refl c.settle-opened.ensures.stops (omega (arith, was, now, more))
