use Rattle.std.proofs.Common.{◌≡◌, ◌∙◌, ◌++◌, ap, take, drop, ◌+◌, ◌-◌, arith}
use Rattle.std.specs.Option.{unwrap_or}
use Rattle.vos_chain.proofs.Reading.{link_of, next_of, part_of}
use Rattle.vos_chain.proofs.chain.read_link.Goals as goal

pub returns-clause-read : goal.returns-clause-read
returns-clause-read g c told n part here low long =
    let is = link_of (g.P.Pages.blocks c.args.pages.now) c.args.block n part c.read_block.new.to (c.in_ok-read_block.ensures.bytes told) here in
    let a = next_of c.args.count n part c.read_block.new.to is low long c.requires.few in
    let b = part_of c.args.count n part c.read_block.new.to is long in
    let x = c.read_next.ensures in
    let y = c.unwrap_or.ensures in
    let z = c.in_ok-extend_from_slice.ensures.items in
    let few : 8 + c.args.count - 8 ≡ c.args.count = omega arith in
    (y ∙ ap (λ z. unwrap_or z 0) (x ∙ a), z ∙ ap (λ w. c.args.to.now.items ++ w) (ap (λ k. take k (drop 8 c.read_block.new.to)) few ∙ b))
