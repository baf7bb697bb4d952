use Rattle.std.proofs.Common.{◌≡◌, ◌∙◌, Err, Ok, false, refl, rules, subst}
use Rattle.daos_model.specs.Changes.{enlisted}
use Rattle.vos_contents.specs.Contents.{contents_of}
use Rattle.vos_pool_held.specs.Laws.{held_told}
use Rattle.vos_pool_rows.proofs.Written.{written_answers, written_holds}
use Rattle.vos_store.specs.Answers.{enlists}
use Rattle.vos_store.specs.Refusals.{enlist_open, says}
use Rattle.vos_pool_rows.proofs.enlisting.make.Goals as goal

pub invariant_of-held-2 : goal.invariant_of-held-2
invariant_of-held-2 g c =
    let k = c.write.ensures in
    record {
      held = written_holds g.R.Region.tells g.R.Region.extent g.R.Region.image g.R.Region.may_leave c.args.held.now.opened c.write.new.opened (contents_of c.args.held.now.contents) (contents_of c.enlist.new.self) c.args.held.now.free c.args.held.now.floor.0 c.args.held.now.target c.args.held.now.targets
          c.args.conts.now c.write.result _ _ _ _ k.stopped k.stops c.args.held.now.held c.requires.running k.size k.left k.free k.tidy k.rests (k.makes (enlisted c.args.conts.now) (λ _. c.requires.makes)) c.in_ok-enlist.ensures.kept;
    }

pub returns-in_err-enlist-clause-answer : goal.returns-in_err-enlist-clause-answer
returns-in_err-enlist-clause-answer g c d is free =
    let same : c.from_residual.result ≡ Err c.in_err-enlist.field-0.0 = search rules in
    let asked = c.in_err-enlist.ensures.answer (subst (λ r. says {T = Unit {0}} enlist_open r ≡ false) same free) in
    same ∙ subst (λ x. Err c.in_err-enlist.field-0.0 ≡ enlists c.args.conts.now x) (held_told g.R.Region.count g.R.Region.burns g.R.Region.can_burn c.args.held.now c.requires.running d is) asked

pub returns-clause-answer : goal.returns-clause-answer
returns-clause-answer g c d is free =
    let asked = c.in_ok-enlist.ensures.answer refl in
    written_answers c.write.result (enlists c.args.conts.now d) c.write.ensures.stopped (subst (λ x. Ok tt ≡ enlists c.args.conts.now x) (held_told g.R.Region.count g.R.Region.burns g.R.Region.can_burn c.args.held.now c.requires.running d is) asked) free

pub returns-clause-kept : goal.returns-clause-kept
returns-clause-kept g c = c.write.ensures.makes (enlisted c.args.conts.now) (λ _. c.requires.makes)
