use Rattle.std.proofs.Common.{◌≡◌, ◌/◌, ◌&&◌, nat_le, nat_lt, Bool, true, false, sym, refl, ◌∙◌, arith}
use Rattle.std.specs.Prelude.{min}
use Rattle.std.proofs.lemmas.Bool.Decides.{nat_tests}
use Rattle.vos_image.specs.Content.{content_of, is_taken}
use Rattle.vos_check_places.proofs.Bits.{mapped, taken_is}
use Rattle.vos_check_places.proofs.blocks.is_taken.Goals as goal
use Rattle.vos_check_places.proofs.blocks.is_taken.Goals.{then-block-lt-FIRST-via-then-block-lt-FIRST, then-block-lt-FIRST-via-else-block-lt-FIRST+then-end_of-block}

pub returns-then-block-lt-FIRST : goal.returns-then-block-lt-FIRST
unfolding is_taken
returns-then-block-lt-FIRST c f is = elim c.then-block-lt-FIRST.branch [
  | then-block-lt-FIRST-via-then-block-lt-FIRST w ↦ let low : nat_le 1264 c.args.block ≡ false = grind (arith, nat_tests, w.if-block-lt-FIRST.true) in rw low refl
  | then-block-lt-FIRST-via-else-block-lt-FIRST+then-end_of-block w ↦
      let high : nat_lt c.args.block (min (c.args.size / 256) 131072) ≡ false = grind (arith, nat_tests, w.end_of.ensures, w.if-end_of-block.true) in
      rw high (none (nat_le 1264 c.args.block))
]
  where
    none : (t : Bool) → false ≡ (t && false)
    none true = refl
    none false = refl

pub returns : goal.returns
returns c f is =
    let b = c.args.block in
    let end : c.end_of.result ≡ min (c.args.size / 256) 131072 = c.end_of.ensures in
    let low : nat_le 1264 b ≡ true = grind (arith, nat_tests, c.if-block-lt-FIRST.false) in
    let high : nat_lt b (min (c.args.size / 256) 131072) ≡ true = grind (arith, nat_tests, end, c.if-end_of-block.false) in
    let there = mapped f c.args.map.now (b / 8) is (omega arith) in
    c.is_set.ensures ∙ sym (taken_is (content_of c.args.size f) b _ there ∙ rw (low, high) refl)
