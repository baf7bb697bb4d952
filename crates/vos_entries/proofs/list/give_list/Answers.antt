use Rattle.std.proofs.Common.{rules, ◌≡◌, ◌∙◌, refl, subst, arith, inl, inr, Err, IsErrOf}
use Rattle.vos_versions.specs.pmem_tree_base.declared.refusal.TreeNo.TheVariants.{TooMuch}
use Rattle.vos_versions.proofs.Marks.{err_other}
use Rattle.vos_versions.proofs.vos_levels.Calls.{goes_same, goes_then}
use Rattle.vos_entries.proofs.Lists.{all_counted, first_there, more_to_go, never_so_many, so_far_more, so_far_whole}
use Rattle.vos_values.specs.Links.{link_bytes}
use Rattle.vos_entries.proofs.list.give_list.Goals as goal

pub loop-init : goal.loop-init
loop-init g c = record {
  so_far = λ told x h. so_far_whole (g.P.Pages.blocks c.args.pages.now) c.args.first x h;
  free = λ told. omega arith;
  ranges_most = omega arith;
  ranges_least = omega arith;
  bytes_most = omega arith;
  bytes_least = omega arith;
  steps = omega arith;
  goes = goes_same g.P.Pages.stopped g.P.Pages.count g.P.Pages.burns c.args.pages.now;
  went_on = refl;
}

pub returns-then-block-eq0-clause-free : goal.returns-then-block-eq0-clause-free
returns-then-block-eq0-clause-free g c told x h =
    let i = c.loop.invariant in
    omega (arith, i.free told, all_counted (g.P.Pages.blocks c.args.pages.now) x (g.P.Pages.blocks c.loop.pages) c.loop.block c.loop.counter (i.so_far told x h) c.if-block-eq0.true)

pub give_first-requires : goal.give_first-requires
give_first-requires g c = record {
  taken = λ told.
      let s = c.requires.list told in
      let f = first_there (g.P.Pages.blocks c.args.pages.now) s.0 (g.P.Pages.blocks c.loop.pages) c.loop.block c.loop.counter (c.loop.invariant.so_far told s.0 s.1) c.if-block-eq0.false in
      record { bytes = link_bytes f.next f.part; holds = f.here };
}

pub returns-in_err-block-clause-too_much : goal.returns-in_err-block-clause-too_much
returns-in_err-block-clause-too_much g c h told x at =
    let i = c.loop.invariant in
    let more = more_to_go (g.P.Pages.blocks c.args.pages.now) x (g.P.Pages.blocks c.loop.pages) c.loop.block c.loop.counter (i.so_far told x at) c.if-block-eq0.false in
    let is : c.from_residual.result ≡ Err c.in_err-block.field-0.0 = search rules in
    elim (c.in_err-block.ensures.too_much (err_other c.in_err-block.field-0.0 TooMuch (subst (λ z. IsErrOf z TooMuch) is h))) [
      | inl few ↦ inl (omega (arith, few, i.ranges_most, more))
      | inr few ↦ inr (omega (arith, few, i.bytes_most, more))
    ]

pub returns-in_err-block-clause-staged : goal.returns-in_err-block-clause-staged
returns-in_err-block-clause-staged g c told x at =
    let i = c.loop.invariant in
    let s = c.give_first.ensures.staged in
    let more = more_to_go (g.P.Pages.blocks c.args.pages.now) x (g.P.Pages.blocks c.loop.pages) c.loop.block c.loop.counter (i.so_far told x at) c.if-block-eq0.false in
    record {
      ranges_most = omega (arith, i.ranges_most, s.ranges_most, more);
      ranges_least = omega (arith, i.ranges_least, s.ranges_least);
      bytes_most = omega (arith, i.bytes_most, s.bytes_most, more);
      bytes_least = omega (arith, i.bytes_least, s.bytes_least);
    }

pub returns-in_err-block-clause-steps : goal.returns-in_err-block-clause-steps
returns-in_err-block-clause-steps g c told x at =
    let i = c.loop.invariant in
    let more = more_to_go (g.P.Pages.blocks c.args.pages.now) x (g.P.Pages.blocks c.loop.pages) c.loop.block c.loop.counter (i.so_far told x at) c.if-block-eq0.false in
    omega (arith, i.steps, c.give_first.ensures.steps, more)

pub loop-preserved : goal.loop-preserved
loop-preserved g c =
    let i = c.loop.invariant in
    let p = c.in_ok-block.ensures in
    let q = c.give_first.ensures in
    record {
      so_far = λ told x h. so_far_more (g.P.Pages.blocks c.args.pages.now) x (g.P.Pages.blocks c.loop.pages) (g.P.Pages.blocks c.give_first.new.pages) c.loop.block c.in_ok-block.block c.loop.counter (i.so_far told x h) c.if-block-eq0.false (p.read told) (p.given told);
      free = λ told. let a = i.free told in let b = p.free told in omega (arith, a, b);
      ranges_most = omega (arith, i.ranges_most, q.staged.ranges_most);
      ranges_least = omega (arith, i.ranges_least, q.staged.ranges_least);
      bytes_most = omega (arith, i.bytes_most, q.staged.bytes_most);
      bytes_least = omega (arith, i.bytes_least, q.staged.bytes_least);
      steps = omega (arith, i.steps, q.steps);
      goes = goes_then g.P.Pages.stopped g.P.Pages.count g.P.Pages.burns c.args.pages.now c.loop.pages c.give_first.new.pages i.goes q.goes;
      went_on = p.went_on ∙ i.went_on;
    }

pub returns-clause-given : goal.returns-clause-given
returns-clause-given g c told x h =
    let many = never_so_many (g.P.Pages.blocks c.args.pages.now) c.args.first x (g.P.Pages.blocks c.loop.pages) c.loop.block c.loop.counter h (c.loop.invariant.so_far told x h) in
    absurd (let t = c.loop-test.false in omega (arith, t, many))

pub returns-clause-free : goal.returns-clause-free
returns-clause-free g c told x h =
    let many = never_so_many (g.P.Pages.blocks c.args.pages.now) c.args.first x (g.P.Pages.blocks c.loop.pages) c.loop.block c.loop.counter h (c.loop.invariant.so_far told x h) in
    absurd (let t = c.loop-test.false in omega (arith, t, many))
