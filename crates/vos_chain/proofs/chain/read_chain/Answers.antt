use Rattle.std.proofs.Common.{◌≡◌, ◌-◌, ◌∙◌, min, sym, ap, subst, arith}
use Rattle.vos_levels.specs.vos_values.Links.{link_bytes}
use Rattle.vos_chain.proofs.Reading.{Rest, rest_first}
use Rattle.vos_levels.proofs.Calls.{goes_then}
use Rattle.vos_chain.proofs.chain.read_chain.Goals as goal

pub read_link-requires-clause-taken : goal.read_link-requires-clause-taken
read_link-requires-clause-taken g c told =
    let i = c.loop-left.invariant in
    let some = c.requires.chain told in
    let f = rest_first (g.P.Pages.blocks c.args.pages.now) some.0 c.loop-left.block c.loop-left.left c.loop-left.bytes.items (i.rest told some.0 some.1) c.loop-left-test.true in
    record { bytes = link_bytes f.next f.part; holds = ap (λ m. m c.loop-left.block) (i.kept told) ∙ f.here }

pub loop-left-preserved : goal.loop-left-preserved
loop-left-preserved g c =
    let i = c.loop-left.invariant in
    let p = c.in_ok-block.ensures in
    let least : c.min-here.result ≡ min c.loop-left.left 248 = c.min-here.ensures in
    record {
      rest = λ told x h.
          let f = rest_first (g.P.Pages.blocks c.args.pages.now) x c.loop-left.block c.loop-left.left c.loop-left.bytes.items (i.rest told x h) c.loop-left-test.true in
          let r = p.read told f.next f.part (ap (λ m. m c.loop-left.block) (i.kept told) ∙ f.here) f.low (f.long ∙ sym least) in
          subst (λ k. Rest (g.P.Pages.blocks c.args.pages.now) x c.in_ok-block.block (c.loop-left.left - k) c.read_link.new.to.items) (sym least) (f.after c.in_ok-block.block c.read_link.new.to.items r.0 r.1);
      kept = λ told. c.read_link.ensures.kept told ∙ i.kept told;
      budget = c.read_link.ensures.budget ∙ i.budget;
      steps = let some = c.loop-left-test.true in omega (arith, i.steps, c.read_link.ensures.steps, least, some);
      goes = goes_then g.P.Pages.stopped g.P.Pages.count g.P.Pages.burns c.args.pages.now c.loop-left.pages c.read_link.new.pages i.goes c.read_link.ensures.goes;
      went_on = p.went_on ∙ i.went_on;
    }
