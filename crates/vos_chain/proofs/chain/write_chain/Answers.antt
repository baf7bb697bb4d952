use Rattle.std.proofs.Common.{◌≡◌, ◌+◌, ◌-◌, ◌*◌, ◌/◌, ◌⊎◌, ◌∙◌, length, refl, sym, subst, arith, inl, inr}
use Rattle.std.proofs.Math.Seq.{drop-length}
use Rattle.vos_chain.proofs.Links.{MadeSo, made_none, chain_step}
use Rattle.vos_chain.proofs.chain.write_chain.Goals as goal

pub loop-left-init : goal.loop-left-init
loop-left-init g c = record {
  most = omega arith;
  parts = inl refl;
  made = λ told. subst (λ z. MadeSo (g.P.Pages.blocks c.args.pages.now) z (g.P.Pages.blocks c.args.pages.now) 0) (sym (drop-length c.args.bytes.now)) (made_none (g.P.Pages.blocks c.args.pages.now));
  free = refl;
  ranges_most = omega arith;
  ranges_least = omega arith;
  bytes_most = omega arith;
  bytes_least = omega arith;
  rests = record { stopped_as = refl; faults_as = refl; burns_as = refl };
}

pub loop-left-preserved : goal.loop-left-preserved
loop-left-preserved g c =
    let left = c.loop-left.left in
    let i = c.loop-left.invariant in
    let most = i.most in
    let some = c.loop-left-test.true in
    let ends : (left ≡ (left - 1) / 248 * 248 + 248) ⊎ (left ≡ length c.args.bytes.now) = elim i.parts [
      | inl e ↦ inr e
      | inr e ↦ inl (let k = e.1 in omega (arith, k, some))
    ] in
    let p = c.in_ok-first.ensures in
    record {
      most = omega (arith, most);
      parts = inr ((left - 1) / 248, omega arith);
      made = λ told. chain_step _ _ _ c.args.bytes.now ((left - 1) / 248 * 248) left c.loop-left.first c.in_ok-first.first (omega (arith, some)) most (omega (arith, some)) ends (i.made told) p.first.0 p.first.1 (p.was_free told) (p.made told);
      free = omega (arith, i.free, p.free, some);
      ranges_most = omega (arith, i.ranges_most, c.put_link.ensures.staged.ranges_most, some);
      ranges_least = omega (arith, i.ranges_least, c.put_link.ensures.staged.ranges_least);
      bytes_most = omega (arith, i.bytes_most, c.put_link.ensures.staged.bytes_most, some);
      bytes_least = omega (arith, i.bytes_least, c.put_link.ensures.staged.bytes_least);
      rests = record { stopped_as = c.put_link.ensures.rests.stopped_as ∙ i.rests.stopped_as; faults_as = c.put_link.ensures.rests.faults_as ∙ i.rests.faults_as; burns_as = c.put_link.ensures.rests.burns_as ∙ i.rests.burns_as };
    }
