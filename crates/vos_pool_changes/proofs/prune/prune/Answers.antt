use Rattle.std.proofs.Common.{◌∙◌, ap, arith, refl, sym}
use Rattle.daos_model.specs.Changes.{pruned}
use Rattle.daos_model.specs.declared.durable.Durable.{Durable}
use Rattle.vos_pool_base.specs.Pool.{kept_of}
use Rattle.vos_pool_held.specs.vos_contents.Contents.{contents_of}
use Rattle.vos_store.specs.Refusals.{always_stop}
use Rattle.vos_pool_changes.proofs.After.{after_done, after_stopped, of_done, says_stopped, turned}
use Rattle.vos_pool_changes.proofs.Going.{going_told, space_told}
use Rattle.vos_pool_changes.proofs.Named.{named_as, pruned_named}
use Rattle.vos_pool_changes.proofs.prune.prune.Goals as goal

pub prune-opened-requires-clause-all : goal.prune-opened-requires-clause-all
prune-opened-requires-clause-all g c tell run d is =
    let h = c.args.held in
    going_told c.args.cont c.args.upto c.marks.result.now c.versions.result.now (contents_of h.contents) d (kept_of g.R.Region.tells g.R.Region.extent g.R.Region.image h.opened)
    (c.marks.ensures ∙ c.plan.ensures.marks) (c.versions.ensures ∙ ap (λ (x : Durable). x.versions) c.plan.ensures.kept) (c.known.ensures.kept tell run) is

pub invariant_of-result : goal.invariant_of-result
invariant_of-result g c =
    let h = c.args.held in
    let k = c.prune-opened.ensures.pruned in
    record {
      held = after_stopped g.R.Region.tells g.R.Region.extent g.R.Region.image g.R.Region.may_leave g.R.Region.count g.R.Region.burns 0 h.opened c.prune-opened.result.0 (contents_of h.contents) (contents_of c.plan.new.self) h.free h.free h.floor.0 h.target h.targets h.held c.prune-opened.result.1 k.stops k.size k.left c.plan.ensures.lease
          (named_as (contents_of c.plan.new.self) (contents_of h.contents) c.plan.ensures.kept c.known.ensures.named) (sym c.is_err.ensures.value ∙ c.if-is_err.true) (omega arith);
    }

pub returns-then-is_err-clause-call : goal.returns-then-is_err-clause-call
returns-then-is_err-clause-call g c =
    let h = c.args.held in
    let run = sym c.is_stopped.ensures ∙ c.if-is_stopped.false in
    turned g.R.Region.count g.R.Region.burns g.R.Region.can_burn 0 always_stop c.prune-opened.result.1 h.opened c.prune-opened.result.0 h.free h.free h.targets (h.floor, h.why) g.met.R.Region.unburnt run c.prune-opened.result.1 (says_stopped c.prune-opened.result.1) refl c.prune-opened.ensures.pruned.stops (omega arith)

pub invariant_of-result-2 : goal.invariant_of-result-2
invariant_of-result-2 g c =
    let h = c.args.held in
    let k = c.prune-opened.ensures.pruned in
    let f = c.free_blocks-free.ensures in
    let run = sym c.is_stopped.ensures ∙ c.if-is_stopped.false in
    let done = sym c.is_err.ensures.value ∙ c.if-is_err.false in
    let change = pruned c.args.cont c.args.upto c.args.number in
    let is = c.prune.ensures.kept ∙ ap change c.plan.ensures.kept in
    record {
      held = after_done g.R.Region.tells g.R.Region.extent g.R.Region.image g.R.Region.may_leave g.R.Region.count g.R.Region.burns 0 h.opened c.prune-opened.result.0 (contents_of h.contents) (contents_of c.prune.new.self) h.free c.free_blocks-free.result h.floor.0 h.target h.targets h.held c.prune-opened.result.1 k.stops k.size k.left (c.prune.ensures.lease ∙ c.plan.ensures.lease)
          (named_as (contents_of c.prune.new.self) (change (contents_of h.contents)) is (pruned_named c.args.cont c.args.upto c.args.number (contents_of h.contents) c.known.ensures.named)) change done run k.kept.done (λ tell. c.known.ensures.kept tell run) (λ tell. is)
          (of_done c.prune-opened.result.1 done k.tidy c.known.ensures.tidy) f.rests f.unstaged f.holds f.free;
    }

pub returns-clause-call : goal.returns-clause-call
returns-clause-call g c =
    let h = c.args.held in
    let run = sym c.is_stopped.ensures ∙ c.if-is_stopped.false in
    let was = c.known.ensures.free run in
    let now = c.free_blocks-free.ensures.free in
    let more = c.prune-opened.ensures.pruned.free in
    turned g.R.Region.count g.R.Region.burns g.R.Region.can_burn 0 always_stop c.prune-opened.result.1 h.opened c.prune-opened.result.0 h.free c.free_blocks-free.result h.targets (h.floor, h.why) g.met.R.Region.unburnt run c.prune-opened.result.1 (says_stopped c.prune-opened.result.1) refl c.prune-opened.ensures.pruned.stops (omega (arith, was, now, more))

pub returns-clause-space : goal.returns-clause-space
returns-clause-space g c =
    let h = c.args.held in
    let run = sym c.is_stopped.ensures ∙ c.if-is_stopped.false in
    space_told g.R.Region.extent g.R.Region.tells g.R.Region.image c.args.cont c.args.upto h.opened c.prune-opened.result.0 h.free c.free_blocks-free.result c.prune-opened.result.1 run (c.known.ensures.free run) c.free_blocks-free.ensures.free c.prune-opened.ensures.space
