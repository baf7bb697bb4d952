use Rattle.std.proofs.Common.{◌≡◌, ◌∙◌, Err, false, refl, rules, subst, sym}
use Rattle.daos_model.specs.Changes.{frozen}
use Rattle.vos_contents.specs.Contents.{contents_of}
use Rattle.vos_pool_held.specs.Laws.{held_told}
use Rattle.vos_pool_rows.proofs.Keeping.{changed_holds, frozen_keeps, refused_holds}
use Rattle.vos_store.specs.Answers.{freezes}
use Rattle.vos_pool_rows.proofs.snapshots.freeze.Goals as goal

pub returns-in_err-can_freeze-clause-answer : goal.returns-in_err-can_freeze-clause-answer
returns-in_err-can_freeze-clause-answer g c d is free =
    let run : c.args.held.now.opened.blocks.undo.stopped ≡ false = sym c.is_stopped.ensures ∙ c.if-is_stopped.false in
    let same : c.from_residual.result ≡ Err c.in_err-can_freeze.field-0.0 = search rules in
    same ∙ subst (λ x. Err c.in_err-can_freeze.field-0.0 ≡ freezes c.args.cont c.args.s x) (held_told g.R.Region.count g.R.Region.burns g.R.Region.can_burn c.args.held.now run d is) c.in_err-can_freeze.ensures.answer

pub invariant_of-held : goal.invariant_of-held
invariant_of-held g c =
    let k = c.in_err-freeze.ensures in
    let run : c.args.held.now.opened.blocks.undo.stopped ≡ false = sym c.is_stopped.ensures ∙ c.if-is_stopped.false in
    record {
      held = refused_holds g.R.Region.tells g.R.Region.extent g.R.Region.image g.R.Region.may_leave c.args.held.now.opened c.freeze.new.self (contents_of c.args.held.now.contents) (contents_of c.args.held.now.contents) c.args.held.now.free c.args.held.now.floor.0 c.args.held.now.target c.args.held.now.targets c.args.held.now.held (λ _. run) k.size k.left k.free
          (λ t kept on. let refused = k.answer (contents_of c.args.held.now.contents) kept (sym k.stops.stopped ∙ on) in let may = c.in_ok-can_freeze.ensures.answer in let no : ⊥ = cc (refused, may) in no) refl refl;
    }

pub invariant_of-held-2 : goal.invariant_of-held-2
invariant_of-held-2 g c =
    let k = c.in_ok-freeze.ensures in
    let run : c.args.held.now.opened.blocks.undo.stopped ≡ false = sym c.is_stopped.ensures ∙ c.if-is_stopped.false in
    record {
      held = changed_holds g.R.Region.tells g.R.Region.extent g.R.Region.image g.R.Region.may_leave c.args.held.now.opened c.freeze.new.self (contents_of c.args.held.now.contents) (contents_of c.freeze-2.new.self) c.args.held.now.free c.args.held.now.floor.0 c.args.held.now.target c.args.held.now.targets (frozen c.args.cont c.args.s) (frozen_keeps c.args.cont c.args.s) c.args.held.now.held run k.size k.left k.free k.kept.done k.tidy c.free_blocks-free.ensures.rests
          c.freeze-2.ensures.kept;
    }
