use Rattle.std.proofs.Common.{◌≡◌, ◌+◌, ◌∷◌, ◌++◌, [], refl, sym, ap, ◌∙◌, arith}
use Rattle.base_outside.specs.Images.{bytes_at}
use Rattle.vos_fresh.specs.Fresh.{map_byte, map_bytes}
use Rattle.vos_fresh.proofs.Zeros.{bytes_more, no_bytes}
use Rattle.vos_fresh.proofs.fresh.map_bytes.Goals as goal

pub loop-at-init : goal.loop-at-init
loop-at-init c = c.in_ok-bytes.ensures.items ∙ sym (no_bytes (map_byte c.args.size) 0)

pub loop-at-preserved : goal.loop-at-preserved
loop-at-preserved c =
    let f = map_byte c.args.size in
    let e : 0 + c.loop-at.at ≡ c.loop-at.at = omega arith in
    c.in_ok-push.ensures.items
    ∙ (ap (λ bs. bs ++ c.map_byte.result ∷ []) c.loop-at.invariant
    ∙ (ap (λ b. bytes_at f 0 c.loop-at.at ++ b ∷ []) (c.map_byte.ensures ∙ ap f (sym e))
    ∙ sym (bytes_more f 0 c.loop-at.at (c.loop-at.at + 1) refl)))

pub returns : goal.returns
unfolding map_bytes
returns c =
    let all : c.loop-at.at ≡ 16384 = omega arith in
    c.from_vec.ensures ∙ (c.loop-at.invariant ∙ ap (bytes_at (map_byte c.args.size) 0) all)
