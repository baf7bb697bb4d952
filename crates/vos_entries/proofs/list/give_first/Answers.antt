use Rattle.std.proofs.Common.{◌∙◌, ap}
use Rattle.std.specs.Option.{unwrap_or}
use Rattle.vos_values.specs.Links.{next_in}
use Rattle.vos_versions.proofs.vos_chain.Reading.{link_of}
use Rattle.vos_entries.proofs.Lists.{next_there}
use Rattle.vos_entries.proofs.list.give_first.Goals as goal

pub returns-clause-read : goal.returns-clause-read
returns-clause-read g c told n part here low few =
    let is = link_of (g.P.Pages.blocks c.args.pages.now) c.args.block n part c.read_block.new.to (c.in_ok-read_block.ensures.bytes told) here in
    let x = c.read_next.ensures in
    let y = c.unwrap_or.ensures in
    y ∙ ap (λ z. unwrap_or z 0) (x ∙ (ap (next_in 248) is ∙ next_there n part low few))
