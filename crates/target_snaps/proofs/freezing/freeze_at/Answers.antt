use Rattle.std.proofs.Common.{◌≡◌, ◌∙◌, refl, sym, subst, false, nat_le, arith}
use Rattle.std.proofs.lemmas.Bool.Decides.{nat_tests}
use Rattle.target_snaps.proofs.Freezed.{freezes-full}
use Rattle.target_snaps.proofs.freezing.freeze_at.Goals as goal

pub returns-then-there-2-clause-froze : goal.returns-then-there-2-clause-froze
returns-then-there-2-clause-froze g c d at =
    let tested : nat_le c.args.epoch.0 c.aggregated.result.0 ≡ false = (let above = c.if-epoch-aggregated.false in grind (arith, nat_tests)) in (
      freezes-full c.args.cont c.args.epoch d (subst (λ e. nat_le c.args.epoch.0 e.0 ≡ false) (c.aggregated.ensures c.requires.running d at) tested)
          (sym (c.in_ok-there.ensures.frozen d at) ∙ c.if-there.false) (sym (c.in_ok-there.ensures.full d at) ∙ c.if-there-2.true),
      record { kept_is = at; free = refl },
    )
