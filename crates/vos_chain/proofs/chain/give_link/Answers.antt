use Rattle.std.proofs.Common.{◌∙◌, ap}
use Rattle.std.specs.Option.{unwrap_or}
use Rattle.vos_chain.proofs.Reading.{link_of, next_of}
use Rattle.vos_chain.proofs.chain.give_link.Goals as goal

pub returns-clause-read : goal.returns-clause-read
returns-clause-read g c told n part here low long =
    let is = link_of (g.P.Pages.blocks c.args.pages.now) c.args.block n part c.read_block.new.to (c.in_ok-read_block.ensures.bytes told) here in
    let a = next_of c.args.count n part c.read_block.new.to is low long c.requires.few in
    let x = c.read_next.ensures in
    let y = c.unwrap_or.ensures in
    y ∙ ap (λ z. unwrap_or z 0) (x ∙ a)
