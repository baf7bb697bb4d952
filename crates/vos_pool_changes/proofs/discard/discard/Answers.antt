use Rattle.std.proofs.Common.{◌∙◌, Err, Ok, ap, arith, map, refl, sym}
use Rattle.daos_model.specs.Changes.{discarded, is_in_range}
use Rattle.vos_pool_base.specs.Pool.{kept_of}
use Rattle.vos_pool_held.specs.Laws.{told}
use Rattle.vos_pool_held.specs.vos_contents.Contents.{contents_of}
use Rattle.vos_store.specs.Answers.{discards}
use Rattle.vos_store.specs.declared.refusal.DiscardNo.TheVariants as discard
use Rattle.vos_store.specs.Refusals.{discard_stop}
use Rattle.vos_pool_changes.proofs.After.{after_done, after_stopped, of_done, turned}
use Rattle.vos_pool_changes.proofs.Going.{range_done, range_told}
use Rattle.vos_pool_changes.proofs.Named.{discarded_named, named_as}
use Rattle.vos_pool_changes.proofs.discard.discard.Goals as goal

pub returns-in-Err-clause-answer : goal.returns-in-Err-clause-answer
returns-in-Err-clause-answer g c d is closed =
    let h = c.args.held in
    let run = sym c.is_stopped.ensures ∙ c.if-is_stopped.false in
    c.in-Err.ensures.answer ∙ ap (discards c.args.cont c.args.lo c.args.hi) (sym (told g.R.Region.tells g.R.Region.extent g.R.Region.image g.R.Region.may_leave h.opened (contents_of h.contents) h.free h.floor.0 h.target h.targets h.held run d is))

pub discard-opened-requires-clause-done : goal.discard-opened-requires-clause-done
discard-opened-requires-clause-done g c =
    range_done c.args.cont c.args.lo c.args.hi c.deref.result.now c.versions-2.result.now (contents_of c.args.held.contents) c.in_default.field-0 c.in_default.ensures.answer
    (c.deref.ensures.value ∙ (c.in-Ok.ensures ∙ ap (map (is_in_range c.args.cont c.args.lo c.args.hi)) c.versions.ensures)) c.versions-2.ensures

pub discard-opened-requires-clause-all : goal.discard-opened-requires-clause-all
discard-opened-requires-clause-all g c tell run d is =
    let h = c.args.held in
    range_told c.args.cont c.args.lo c.args.hi c.deref.result.now c.versions-2.result.now (contents_of h.contents) d (kept_of g.R.Region.tells g.R.Region.extent g.R.Region.image h.opened)
    (c.deref.ensures.value ∙ (c.in-Ok.ensures ∙ ap (map (is_in_range c.args.cont c.args.lo c.args.hi)) c.versions.ensures)) c.versions-2.ensures (c.known.ensures.kept tell run) is

pub invariant_of-result : goal.invariant_of-result
invariant_of-result g c =
    let h = c.args.held in
    let k = c.discard-opened.ensures in
    record {
      held = after_stopped g.R.Region.tells g.R.Region.extent g.R.Region.image g.R.Region.may_leave g.R.Region.count g.R.Region.burns 0 h.opened c.discard-opened.result.0 (contents_of h.contents) (contents_of h.contents) h.free h.free h.floor.0 h.target h.targets h.held c.discard-opened.result.1 k.stops k.size k.left refl c.known.ensures.named (sym c.is_err.ensures.value ∙ c.if-is_err.true) (omega arith);
    }

pub returns-then-is_err-clause-call : goal.returns-then-is_err-clause-call
returns-then-is_err-clause-call g c =
    let h = c.args.held in
    let run = sym c.is_stopped.ensures ∙ c.if-is_stopped.false in
    let stopped = sym c.is_err.ensures.value ∙ c.if-is_err.true in
    turned g.R.Region.count g.R.Region.burns g.R.Region.can_burn 0 discard_stop (Err discard.Stopped) h.opened c.discard-opened.result.0 h.free h.free h.targets (h.floor, h.why) g.met.R.Region.unburnt run c.discard-opened.result.1 (sym stopped) (sym stopped) c.discard-opened.ensures.stops (omega arith)

pub invariant_of-result-2 : goal.invariant_of-result-2
invariant_of-result-2 g c =
    let h = c.args.held in
    let k = c.discard-opened.ensures in
    let f = c.free_blocks-free.ensures in
    let run = sym c.is_stopped.ensures ∙ c.if-is_stopped.false in
    let done = sym c.is_err.ensures.value ∙ c.if-is_err.false in
    let change = discarded c.args.cont c.args.lo c.args.hi in
    record {
      held = after_done g.R.Region.tells g.R.Region.extent g.R.Region.image g.R.Region.may_leave g.R.Region.count g.R.Region.burns 0 h.opened c.discard-opened.result.0 (contents_of h.contents) (contents_of c.discard.new.self) h.free c.free_blocks-free.result h.floor.0 h.target h.targets h.held c.discard-opened.result.1 k.stops k.size k.left c.discard.ensures.lease
          (named_as (contents_of c.discard.new.self) (change (contents_of h.contents)) c.discard.ensures.kept (discarded_named c.args.cont c.args.lo c.args.hi (contents_of h.contents) c.known.ensures.named)) change done run k.kept.done (λ tell. c.known.ensures.kept tell run) (λ tell. c.discard.ensures.kept)
          (of_done c.discard-opened.result.1 done k.tidy c.known.ensures.tidy) f.rests f.unstaged f.holds f.free;
    }

pub returns-clause-call : goal.returns-clause-call
returns-clause-call g c =
    let h = c.args.held in
    let run = sym c.is_stopped.ensures ∙ c.if-is_stopped.false in
    let done = sym c.is_err.ensures.value ∙ c.if-is_err.false in
    let was = c.known.ensures.free run in
    let now = c.free_blocks-free.ensures.free in
    let more = c.discard-opened.ensures.free in
    turned g.R.Region.count g.R.Region.burns g.R.Region.can_burn 0 discard_stop (Ok tt) h.opened c.discard-opened.result.0 h.free c.free_blocks-free.result h.targets (h.floor, h.why) g.met.R.Region.unburnt run c.discard-opened.result.1 (sym done) (sym done) c.discard-opened.ensures.stops (omega (arith, was, now, more))
