use Rattle.std.proofs.Common.{◌≡◌, ◌*◌, false, true, [], sym, ◌∙◌, arith, below_more}
use Rattle.vos_image.specs.Content.{content_of}
use Rattle.vos_image.specs.Places.{are_bits_right}
use Rattle.vos_check_places.specs.Parts.{map_reading}
use Rattle.vos_check_places.proofs.Bits.{map_fails, map_holds, mapped}
use Rattle.vos_check_places.proofs.blocks.read_map.Goals as goal

pub returns-then-not-are_bits_right-clause-foreign : goal.returns-then-not-are_bits_right-clause-foreign
unfolding map_reading
returns-then-not-are_bits_right-clause-foreign c f is led =
    let d = content_of c.args.size f in
    let at = c.loop-at.at in
    let there = mapped f c.args.map.now at is (omega arith) in
    let wrong : c.are_bits_right.result ≡ false = c.if-not-are_bits_right.true in
    record {
      stops = map_fails d 0 16384 at led (omega arith) (omega arith) (λ k low high. c.loop-at.invariant f is k high) (sym (c.are_bits_right.ensures d there (sym c.end_of-end.ensures)) ∙ wrong);
      shown = sym there;
    }

pub loop-at-preserved : goal.loop-at-preserved
loop-at-preserved c f is =
    let d = content_of c.args.size f in
    let at = c.loop-at.at in
    let there = mapped f c.args.map.now at is (omega arith) in
    let right : c.are_bits_right.result ≡ true = c.if-not-are_bits_right.false in
    below_more (λ k. are_bits_right d (8 * k) 8 ≡ true) at (c.loop-at.invariant f is) (sym (c.are_bits_right.ensures d there (sym c.end_of-end.ensures)) ∙ right)

pub returns-clause-read : goal.returns-clause-read
unfolding map_reading
returns-clause-read c f is = map_holds (content_of c.args.size f) 0 16384 [] (λ k low high. c.loop-at.invariant f is k (omega (arith, high)))
