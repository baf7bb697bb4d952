use Rattle.std.proofs.Common.{◌≡◌, ◌≢◌, ◌∙◌, ap, sym, List, ℕ, ◌++◌, ◌∷◌, [], length, eqb, false, arith}
use Rattle.std.proofs.lemmas.Bool.Decides.{nat_tests}
use Rattle.base_text.specs.Parts.{parts_of, ended_parts}
use Rattle.base_text.specs.RowLaws.{ended_parts-nil, ended_parts-ended, ended_parts-unended}
use Rattle.base_text.proofs.parts.without_end.Goals as goal

empty_text : (mark : ℕ) (bytes : List ℕ) → length bytes ≡ 0 → [] ≡ ended_parts mark bytes
empty_text mark [] e = sym (ended_parts-nil mark)
empty_text mark (b ∷ bs) e = absurd (omega arith)

unequal : (b mark : ℕ) → b ≢ mark → eqb b mark ≡ false
unequal b mark ne = grind (arith, nat_tests)

pub returns-in_default : goal.returns-in_default
returns-in_default c = empty_text c.args.mark c.args.bytes.now c.in_default.ensures.cases

pub returns-then-last-mark : goal.returns-then-last-mark
returns-then-last-mark c =
    let mark = c.args.mark in
    let e = c.in-Some.ensures.cases.0 in
    sym (ap (ended_parts mark) (e ∙ ap (λ b. c.in-Some.front.now ++ b ∷ []) c.if-last-mark.true) ∙ ended_parts-ended mark c.in-Some.front.now)

pub returns-else-last-mark : goal.returns-else-last-mark
returns-else-last-mark c =
    let mark = c.args.mark in
    let e = c.in-Some.ensures.cases.0 in
    sym (ap (ended_parts mark) e ∙ ended_parts-unended mark c.in-Some.front.now c.in-Some.last.now (unequal c.in-Some.last.now mark c.if-last-mark.false) ∙ ap (parts_of mark) (sym e))
