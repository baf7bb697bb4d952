use Rattle.std.proofs.Common.{Err, ◌≡◌, ◌∙◌, refl, rules, sym}
use Rattle.std.specs.Prelude.{take}
use Rattle.vos_moments.proofs.vos_levels.Calls.{goes_same, goes_then}
use Rattle.vos_moments.proofs.Forms.{few_next, lacked_next, took_first, took_more}
use Rattle.vos_ilog.specs.Settling.{is_taken_at}
use Rattle.vos_ilog.proofs.Settling.{log_form}
use Rattle.vos_ilog.proofs.ilog.Ilog.change_those.Goals as goal

pub loop-at-init : goal.loop-at-init
loop-at-init g c = record {
  kind = c.requires.kind;
  took = λ told x held at. took_first log_form c.args.change (g.P.Pages.blocks c.args.pages.now) x (g.P.Pages.budget c.args.pages.now) c.args.self.now.tree.root held at;
  goes = goes_same g.P.Pages.stopped g.P.Pages.count g.P.Pages.burns c.args.pages.now;
  went_on = refl;
}

pub returns-in_err-change_taken-clause-too_much : goal.returns-in_err-change_taken-clause-too_much
returns-in_err-change_taken-clause-too_much g c few told x held at =
    let s = c.loop-at.invariant.took told x held at in
    let is : c.from_residual.result ≡ Err c.in_err-change_taken.field-0.0 = search rules in
    let left = c.change_taken.ensures.too_much (c.in_err-change_taken.was ∙ (sym is ∙ few)) told s.becomes.now s.becomes.changed.holds s.becomes.root_is in
    lacked_next log_form c.args.change c.args.which.now c.loop-at.at-index (g.P.Pages.blocks c.args.pages.now) x (g.P.Pages.budget c.args.pages.now) (g.P.Pages.blocks c.loop-at.pages) c.loop-at.self.tree.root (g.P.Pages.budget c.loop-at.pages) held s left

pub returns-in_err-change_taken-clause-few_left : goal.returns-in_err-change_taken-clause-few_left
returns-in_err-change_taken-clause-few_left g c few told x held at =
    let s = c.loop-at.invariant.took told x held at in
    let is : c.from_residual.result ≡ Err c.in_err-change_taken.field-0.0 = search rules in
    let left = c.change_taken.ensures.few_left (c.in_err-change_taken.was ∙ (sym is ∙ few)) told s.becomes.now s.becomes.changed.holds s.becomes.root_is in
    few_next log_form (is_taken_at c.args.change (take c.loop-at.at-index c.args.which.now)) c.args.change (g.P.Pages.blocks c.args.pages.now) x (g.P.Pages.budget c.args.pages.now) (g.P.Pages.blocks c.loop-at.pages) c.loop-at.self.tree.root (g.P.Pages.budget c.loop-at.pages) (g.P.Pages.budget c.change_taken.new.pages) held s left

pub loop-at-preserved : goal.loop-at-preserved
loop-at-preserved g c =
    let i = c.loop-at.invariant in
    let p = c.in_ok-change_taken.ensures in
    record {
      kind = c.change_taken.ensures.kind;
      took = λ told x held at.
          let s = i.took told x held at in
          took_more log_form c.args.change c.args.which.now c.loop-at.at-index (record { epoch = record { 0 = 0 }; minor = 0 }) c.loop-at-test.true (g.P.Pages.blocks c.args.pages.now) x (g.P.Pages.budget c.args.pages.now) (g.P.Pages.blocks c.loop-at.pages) c.loop-at.self.tree.root (g.P.Pages.budget c.loop-at.pages) (g.P.Pages.blocks c.change_taken.new.pages) c.change_taken.new.self.tree.root (g.P.Pages.budget c.change_taken.new.pages) held s
          (p.took told s.becomes.now s.becomes.changed.holds s.becomes.root_is);
      goes = goes_then g.P.Pages.stopped g.P.Pages.count g.P.Pages.burns c.args.pages.now c.loop-at.pages c.change_taken.new.pages i.goes c.change_taken.ensures.goes;
      went_on = p.went_on ∙ i.went_on;
    }
