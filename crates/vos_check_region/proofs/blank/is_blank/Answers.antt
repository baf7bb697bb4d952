use Rattle.std.proofs.Common.{◌≡◌, ◌*◌, true, false, sym, ◌∙◌, subst, arith, inl, inr}
use Rattle.std.specs.List.{list_all}
use Rattle.std.proofs.lemmas.Bool.{cases_lt}
use Rattle.base_outside.specs.Images.{Image, bytes_at}
use Rattle.pmem_undo.proofs.Moments.{looks_then}
use Rattle.vos_check_region.specs.Blank.{is_zero}
use Rattle.vos_check_region.proofs.Zeros.{all_zero, some_zero}
use Rattle.vos_check_region.proofs.blank.is_blank.Goals as goal

pub loop-piece-preserved : goal.loop-piece-preserved
loop-piece-preserved g c =
    let l = c.loop-piece in
    let v = l.invariant in
    let f = g.R.Region.image c.args.region.now in
    record {
      extent = c.are_zeros_at.ensures.extent ∙ v.extent;
      faults = omega (arith, v.faults, c.are_zeros_at.ensures.cause.later_faults);
      burns = omega (arith, v.burns, c.are_zeros_at.ensures.cause.later_burns);
      looks = λ t. looks_then _ _ _ _ _ _ _ _ _ _ _ _ (v.looks t) (c.are_zeros_at.ensures.looks t);
      zeros = λ t i low inside. elim (cases_lt i (16384 * l.piece)) [
        | inl before ↦ v.zeros t i before inside
        | inr here ↦
            let said = sym (c.in_ok-is_blank.ensures.zeros t) ∙ c.if-not-is_blank.false in
            let all = subst (λ (z : Image). list_all is_zero (bytes_at z (l.piece * 16384) c.min-length.result) ≡ true) (v.looks t).image said in
            all_zero f c.min-length.result (l.piece * 16384) i all (omega arith) (omega arith)
      ];
    }

pub returns-then-not-is_blank-clause-blank : goal.returns-then-not-is_blank-clause-blank
returns-then-not-is_blank-clause-blank g c t = (
  λ no. absurd (let off : ⊥ = cc in off),
  λ blank.
      let l = c.loop-piece in
      let v = l.invariant in
      let f = g.R.Region.image c.args.region.now in
      let size : c.size-size.result ≡ g.R.Region.extent c.args.region.now = c.size-size.ensures.size in
      let zeros = some_zero f c.min-length.result (l.piece * 16384) (λ i low high. blank i (omega (arith, high, size))) in
      let said = sym (c.in_ok-is_blank.ensures.zeros t) ∙ c.if-not-is_blank.true in
      let none = subst (λ (z : Image). list_all is_zero (bytes_at z (l.piece * 16384) c.min-length.result) ≡ false) (v.looks t).image said in
      absurd (let off : ⊥ = cc in off),
)
