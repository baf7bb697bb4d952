use Rattle.std.proofs.Common.{◌≡◌, ◌∙◌, ◌<◌, ap, sym, refl, subst, arith, Some, None}
use Rattle.std.specs.Prelude.{IfSome}
use Rattle.pmem_pages.specs.Owners.{Holds}
use Rattle.vos_moments.specs.vos_levels.Levels.{find_last, things}
use Rattle.vos_moments.proofs.vos_levels.Calls.{goes_same, goes_then}
use Rattle.vos_ilog.specs.Logs.{is_under, log_owner, start_of}
use Rattle.vos_ilog.proofs.Reading.{Walks, walks_end, walks_first, walks_found, walks_on, walks_over, walks_steps}
use Rattle.vos_ilog.proofs.ilog.Ilog.covering_punch.Goals as goal

pub loop-init : goal.loop-init
loop-init g c = record {
  walks = λ told x held at. subst (λ z. Walks (g.P.Pages.blocks c.args.pages.now) (start_of c.args.below) z 0 x) (sym c.start_of-at.ensures) (walks_first (g.P.Pages.blocks c.args.pages.now) (start_of c.args.below) x);
  minor = let e = ap (λ z. z.minor) c.start_of-at.ensures in omega (arith, e);
  steps = λ told x held at d few. omega arith;
  kept = λ told. refl;
  budget = refl;
  goes = goes_same g.P.Pages.stopped g.P.Pages.count g.P.Pages.burns c.args.pages.now;
  went_on = refl;
}

pub returns-in_default-clause-found : goal.returns-in_default-clause-found
returns-in_default-clause-found g c told x held at =
    let i = c.loop.invariant in
    let here = subst (λ b. Holds log_owner b x) (sym (i.kept told)) held in
    let none : None ≡ find_last (is_under c.loop.at) (things x) = let f = c.in_ok-entry.ensures.found told x here at in let n = c.in_default.is in cc in
    walks_end (g.P.Pages.blocks c.args.pages.now) (start_of c.args.below) c.loop.at c.loop.counter x held c.last_under.ensures.moment (i.walks told x held at) none

pub returns-then-entry-clause-found : goal.returns-then-entry-clause-found
returns-then-entry-clause-found g c told x held at =
    let i = c.loop.invariant in
    let here = subst (λ b. Holds log_owner b x) (sym (i.kept told)) held in
    let found : Some c.in-Some.entry ≡ find_last (is_under c.loop.at) (things x) = sym c.in-Some.is ∙ c.in_ok-entry.ensures.found told x here at in
    walks_found (g.P.Pages.blocks c.args.pages.now) (start_of c.args.below) c.loop.at c.loop.counter x c.in-Some.entry held c.last_under.ensures.moment (i.walks told x held at) found c.if-entry.true

pub loop-preserved : goal.loop-preserved
loop-preserved g c =
    let i = c.loop.invariant in
    let p = c.last_under.ensures in
    record {
      walks = λ told x held at.
          let here = subst (λ b. Holds log_owner b x) (sym (i.kept told)) held in
          let found : Some c.in-Some.entry ≡ find_last (is_under c.loop.at) (things x) = sym c.in-Some.is ∙ c.in_ok-entry.ensures.found told x here at in
          walks_on (g.P.Pages.blocks c.args.pages.now) (start_of c.args.below) c.loop.at c.loop.counter x c.in-Some.entry held p.moment (i.walks told x held at) found c.if-entry.false;
      minor = subst (λ z. IfSome z (λ e. e.minor < 64)) c.in-Some.is c.in_ok-entry.ensures.minor;
      steps = λ told x held at d few.
          let so_far = i.steps told x held at d few in
          let more = p.steps told x (subst (λ b. Holds log_owner b x) (sym (i.kept told)) held) at d few in
          omega arith;
      kept = λ told. p.kept told ∙ i.kept told;
      budget = p.budget ∙ i.budget;
      goes = goes_then g.P.Pages.stopped g.P.Pages.count g.P.Pages.burns c.args.pages.now c.loop.pages c.last_under.new.pages i.goes p.goes;
      went_on = c.in_ok-entry.ensures.went_on ∙ i.went_on;
    }

pub returns-clause-found : goal.returns-clause-found
returns-clause-found g c told x held at =
    let i = c.loop.invariant in
    walks_over (g.P.Pages.blocks c.args.pages.now) (start_of c.args.below) c.loop.at c.loop.counter x held (i.walks told x held at) (let over = c.loop-test.false in omega arith)

pub returns-in_err-entry-clause-steps : goal.returns-in_err-entry-clause-steps
returns-in_err-entry-clause-steps g c told x held at d few =
    let i = c.loop.invariant in
    walks_steps (g.P.Pages.blocks c.args.pages.now) (start_of c.args.below) c.loop.at c.loop.counter x d _ _ _ (i.walks told x held at) (i.steps told x held at d few) (c.last_under.ensures.steps told x (subst (λ b. Holds log_owner b x) (sym (i.kept told)) held) at d few)

pub returns-in_default-clause-steps : goal.returns-in_default-clause-steps
returns-in_default-clause-steps g c told x held at d few =
    let i = c.loop.invariant in
    walks_steps (g.P.Pages.blocks c.args.pages.now) (start_of c.args.below) c.loop.at c.loop.counter x d _ _ _ (i.walks told x held at) (i.steps told x held at d few) (c.last_under.ensures.steps told x (subst (λ b. Holds log_owner b x) (sym (i.kept told)) held) at d few)

pub returns-then-entry-clause-steps : goal.returns-then-entry-clause-steps
returns-then-entry-clause-steps g c told x held at d few =
    let i = c.loop.invariant in
    walks_steps (g.P.Pages.blocks c.args.pages.now) (start_of c.args.below) c.loop.at c.loop.counter x d _ _ _ (i.walks told x held at) (i.steps told x held at d few) (c.last_under.ensures.steps told x (subst (λ b. Holds log_owner b x) (sym (i.kept told)) held) at d few)

pub returns-clause-steps : goal.returns-clause-steps
returns-clause-steps g c told x held at d few =
    let i = c.loop.invariant in
    walks_steps (g.P.Pages.blocks c.args.pages.now) (start_of c.args.below) c.loop.at c.loop.counter x d _ _ _ (i.walks told x held at) (i.steps told x held at d few) (omega arith)
