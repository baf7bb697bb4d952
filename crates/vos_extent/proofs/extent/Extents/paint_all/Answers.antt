use Rattle.std.proofs.Common.{◌≡◌, ◌+◌, ◌-◌, ◌*◌, ◌≤◌, ◌∙◌, length, Some, None, refl, sym, subst, arith}
use Rattle.std.specs.Option.{option_and_then}
use Rattle.pmem_pages.specs.Owners.{Holds}
use Rattle.pmem_pages.specs.Shape.{entries, first_above}
use Rattle.vos_moments.specs.pmem_tree_base.Find.{pair_of}
use Rattle.vos_versions.specs.vos_chain.Made.{IsChainAt}
use Rattle.vos_moments.proofs.vos_levels.Calls.{goes_same, goes_then}
use Rattle.vos_extent.specs.Extents.{chain_of, extent_owner, extents, placed_in_pair}
use Rattle.vos_extent.specs.Shown.{near}
use Rattle.vos_extent.proofs.Walking.{Ahead, ahead_first, ahead_none, ahead_over, coming, passed_near, steps_all, steps_more, steps_then}
use Rattle.vos_extent.proofs.extent.Extents.paint_all.Goals as goal

pub loop-init : goal.loop-init
loop-init g c = record {
  ahead = λ told x held at. subst (λ k. Ahead c.args.look.now x k c.args.cells.now 0) (sym c.start_key-key.ensures.key) (ahead_first c.args.look.now (g.P.Pages.blocks c.args.pages.now) x c.args.cells.now c.saturating_sub.result held (omega arith) (omega arith) c.requires.blank);
  key = c.start_key-key.ensures.is;
  long = refl;
  steps = λ told x held at d few. omega arith;
  kept = λ told. refl;
  budget = refl;
  goes = goes_same g.P.Pages.stopped g.P.Pages.count g.P.Pages.burns c.args.pages.now;
  went_on = refl;
}

pub next_over-requires-clause-here : goal.next_over-requires-clause-here
next_over-requires-clause-here g c told =
    let s = c.requires.here told in
    (s.0, (subst (λ b. Holds extent_owner b s.0) (sym (c.loop.invariant.kept told)) s.1.0, s.1.1))

pub returns-in_default-clause-painted : goal.returns-in_default-clause-painted
returns-in_default-clause-painted g c told x held at =
    let i = c.loop.invariant in
    let here = subst (λ b. Holds extent_owner b x) (sym (i.kept told)) held in
    let none : None ≡ option_and_then placed_in_pair (pair_of (first_above c.loop.key (entries x.0))) = let f = c.in_ok-placed.ensures.found told x here at in let n = c.in_default.is in cc in
    (ahead_none c.args.look.now (g.P.Pages.blocks c.args.pages.now) x c.loop.key c.loop.cells c.loop.counter held (i.ahead told x held at) none).0

pub returns-then-placed-look-clause-painted : goal.returns-then-placed-look-clause-painted
returns-then-placed-look-clause-painted g c told x held at =
    let i = c.loop.invariant in
    let here = subst (λ b. Holds extent_owner b x) (sym (i.kept told)) held in
    let found : Some c.in-Some.placed ≡ option_and_then placed_in_pair (pair_of (first_above c.loop.key (entries x.0))) = sym c.in-Some.is ∙ c.in_ok-placed.ensures.found told x here at in
    let next = coming c.args.look.now (g.P.Pages.blocks c.args.pages.now) x c.loop.key c.loop.cells c.loop.counter c.in-Some.placed held (let a = i.long in let b = c.requires.stretch in omega (arith, a, b)) (i.ahead told x held at) found in
    (next.far c.if-placed-look.true).0

pub lay-requires-clause-chain : goal.lay-requires-clause-chain
lay-requires-clause-chain g c told =
    let i = c.loop.invariant in
    let s = c.requires.here told in
    let here = subst (λ b. Holds extent_owner b s.0) (sym (i.kept told)) s.1.0 in
    let found : Some c.in-Some.placed ≡ option_and_then placed_in_pair (pair_of (first_above c.loop.key (entries s.0.0))) = sym c.in-Some.is ∙ c.in_ok-placed.ensures.found told s.0 here s.1.1.0 in
    let next = coming c.args.look.now (g.P.Pages.blocks c.args.pages.now) s.0 c.loop.key c.loop.cells c.loop.counter c.in-Some.placed s.1.0 (let a = i.long in let b = c.requires.stretch in omega (arith, a, b)) (i.ahead told s.0 s.1.0 s.1.1.0) found in
    (chain_of next.stored, subst (λ b. IsChainAt b c.in-Some.placed.mark.chain c.in-Some.placed.mark.length (chain_of next.stored)) (sym (c.next_over.ensures.kept told ∙ i.kept told)) next.chain)

pub loop-preserved : goal.loop-preserved
loop-preserved g c =
    let i = c.loop.invariant in
    let p = c.next_over.ensures in
    let q = c.lay.ensures in
    record {
      ahead = λ told x held at.
          let here = subst (λ b. Holds extent_owner b x) (sym (i.kept told)) held in
          let found : Some c.in-Some.placed ≡ option_and_then placed_in_pair (pair_of (first_above c.loop.key (entries x.0))) = sym c.in-Some.is ∙ c.in_ok-placed.ensures.found told x here at in
          let fits : length c.loop.cells ≤ c.args.look.now.high - c.args.look.now.low = let a = i.long in let b = c.requires.stretch in omega (arith, a, b) in
          let next = coming c.args.look.now (g.P.Pages.blocks c.args.pages.now) x c.loop.key c.loop.cells c.loop.counter c.in-Some.placed held fits (i.ahead told x held at) found in
          let chain = subst (λ b. IsChainAt b c.in-Some.placed.mark.chain c.in-Some.placed.mark.length (chain_of next.stored)) (sym (p.kept told ∙ i.kept told)) next.chain in
          let lays = c.in_ok-lay.ensures.laid told next.stored next.placed_is chain in
          subst (λ k. Ahead c.args.look.now x k c.lay.new.cells (c.loop.counter + 1)) (sym c.key_at-key.ensures.key) (next.on c.lay.new.cells (let far = c.if-placed-look.false in omega (arith, far)) q.long fits lays);
      key = c.key_at-key.ensures.is;
      long = q.long ∙ i.long;
      steps = λ told x held at d few.
          let here = subst (λ b. Holds extent_owner b x) (sym (i.kept told)) held in
          let a = p.steps told x here at d few in
          let b = q.steps in
          steps_more c.loop.counter (2 * d + 5) c.args.steps.now c.loop.steps c.lay.new.steps (i.steps told x held at d few) (omega (arith, a, b));
      kept = λ told. q.kept told ∙ (p.kept told ∙ i.kept told);
      budget = q.budget ∙ (p.budget ∙ i.budget);
      goes = goes_then g.P.Pages.stopped g.P.Pages.count g.P.Pages.burns c.args.pages.now c.next_over.new.pages c.lay.new.pages (goes_then g.P.Pages.stopped g.P.Pages.count g.P.Pages.burns c.args.pages.now c.loop.pages c.next_over.new.pages i.goes p.goes) q.goes;
      went_on = c.in_ok-lay.ensures.went_on ∙ (c.in_ok-placed.ensures.went_on ∙ i.went_on);
    }

pub returns-clause-painted : goal.returns-clause-painted
returns-clause-painted g c told x held at =
    let i = c.loop.invariant in
    (ahead_over c.args.look.now (g.P.Pages.blocks c.args.pages.now) x c.loop.key c.loop.cells c.loop.counter held (i.ahead told x held at) (let over = c.loop-test.false in omega arith)).0

-- ---- steps

pub returns-in_err-placed-clause-steps : goal.returns-in_err-placed-clause-steps
returns-in_err-placed-clause-steps g c told x held at d few =
    let i = c.loop.invariant in
    let here = subst (λ b. Holds extent_owner b x) (sym (i.kept told)) held in
    let a = c.next_over.ensures.steps told x here at d few in
    steps_then c.loop.counter (near c.args.look.now.low c.args.look.now.high (extents x)) (2 * d + 5) c.args.steps.now c.loop.steps c.next_over.new.steps (passed_near c.args.look.now x c.loop.key c.loop.cells c.loop.counter (i.ahead told x held at)) (i.steps told x held at d few) (omega (arith, a))

pub returns-in_default-clause-steps : goal.returns-in_default-clause-steps
returns-in_default-clause-steps g c told x held at d few =
    let i = c.loop.invariant in
    let here = subst (λ b. Holds extent_owner b x) (sym (i.kept told)) held in
    let a = c.next_over.ensures.steps told x here at d few in
    steps_then c.loop.counter (near c.args.look.now.low c.args.look.now.high (extents x)) (2 * d + 5) c.args.steps.now c.loop.steps c.next_over.new.steps (passed_near c.args.look.now x c.loop.key c.loop.cells c.loop.counter (i.ahead told x held at)) (i.steps told x held at d few) (omega (arith, a))

pub returns-then-placed-look-clause-steps : goal.returns-then-placed-look-clause-steps
returns-then-placed-look-clause-steps g c told x held at d few =
    let i = c.loop.invariant in
    let here = subst (λ b. Holds extent_owner b x) (sym (i.kept told)) held in
    let a = c.next_over.ensures.steps told x here at d few in
    steps_then c.loop.counter (near c.args.look.now.low c.args.look.now.high (extents x)) (2 * d + 5) c.args.steps.now c.loop.steps c.next_over.new.steps (passed_near c.args.look.now x c.loop.key c.loop.cells c.loop.counter (i.ahead told x held at)) (i.steps told x held at d few) (omega (arith, a))

pub returns-in_err-lay-clause-steps : goal.returns-in_err-lay-clause-steps
returns-in_err-lay-clause-steps g c told x held at d few =
    let i = c.loop.invariant in
    let here = subst (λ b. Holds extent_owner b x) (sym (i.kept told)) held in
    let a = c.next_over.ensures.steps told x here at d few in
    let b = c.lay.ensures.steps in
    steps_then c.loop.counter (near c.args.look.now.low c.args.look.now.high (extents x)) (2 * d + 5) c.args.steps.now c.loop.steps c.lay.new.steps (passed_near c.args.look.now x c.loop.key c.loop.cells c.loop.counter (i.ahead told x held at)) (i.steps told x held at d few) (omega (arith, a, b))

pub returns-clause-steps : goal.returns-clause-steps
returns-clause-steps g c told x held at d few =
    let i = c.loop.invariant in
    steps_all c.loop.counter (near c.args.look.now.low c.args.look.now.high (extents x)) (2 * d + 5) c.args.steps.now c.loop.steps (passed_near c.args.look.now x c.loop.key c.loop.cells c.loop.counter (i.ahead told x held at)) (i.steps told x held at d few)
