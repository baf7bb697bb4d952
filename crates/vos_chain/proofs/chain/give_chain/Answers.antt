use Rattle.std.proofs.Common.{◌≡◌, ◌-◌, ◌∙◌, min, sym, subst, arith}
use Rattle.vos_levels.specs.vos_values.Links.{link_bytes}
use Rattle.vos_chain.proofs.Reading.{Left, left_first}
use Rattle.vos_levels.proofs.Calls.{goes_then}
use Rattle.vos_chain.proofs.chain.give_chain.Goals as goal

pub give_link-requires-clause-taken : goal.give_link-requires-clause-taken
give_link-requires-clause-taken g c told =
    let i = c.loop-left.invariant in
    let some = c.requires.chain told in
    let f = left_first (g.P.Pages.blocks c.args.pages.now) some.0 (g.P.Pages.blocks c.loop-left.pages) c.loop-left.block c.loop-left.left (i.rest told some.0 some.1) c.loop-left-test.true in
    record { bytes = link_bytes f.next f.part; holds = f.here }

pub loop-left-preserved : goal.loop-left-preserved
loop-left-preserved g c =
    let i = c.loop-left.invariant in
    let p = c.in_ok-block.ensures in
    let q = c.give_link.ensures in
    let some = c.loop-left-test.true in
    let least : c.min-here.result ≡ min c.loop-left.left 248 = c.min-here.ensures in
    record {
      rest = λ told x h.
          let f = left_first (g.P.Pages.blocks c.args.pages.now) x (g.P.Pages.blocks c.loop-left.pages) c.loop-left.block c.loop-left.left (i.rest told x h) c.loop-left-test.true in
          let r = p.read told f.next f.part f.here f.low (f.long ∙ sym least) in
          subst (λ k. Left (g.P.Pages.blocks c.args.pages.now) x (g.P.Pages.blocks c.give_link.new.pages) c.in_ok-block.block (c.loop-left.left - k)) (sym least) (f.after c.in_ok-block.block (g.P.Pages.blocks c.give_link.new.pages) r (p.given told));
      free = λ told. let a = i.free told in let b = p.free told in omega (arith, a, b, least, some);
      ranges_most = omega (arith, i.ranges_most, q.staged.ranges_most, least, some);
      ranges_least = omega (arith, i.ranges_least, q.staged.ranges_least);
      bytes_most = omega (arith, i.bytes_most, q.staged.bytes_most, least, some);
      bytes_least = omega (arith, i.bytes_least, q.staged.bytes_least);
      steps = omega (arith, i.steps, q.steps, least, some);
      goes = goes_then g.P.Pages.stopped g.P.Pages.count g.P.Pages.burns c.args.pages.now c.loop-left.pages c.give_link.new.pages i.goes q.goes;
      went_on = p.went_on ∙ i.went_on;
    }
