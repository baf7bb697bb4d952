use Rattle.std.proofs.Common.{◌++◌, ◌∙◌, ap, length}
use Rattle.std.proofs.lemmas.List.{drop-replicate}
use Rattle.vos_values.proofs.links.padded.Goals as goal

pub returns : goal.returns
returns c = c.put_front.ensures ∙ ap (λ z. c.args.part.now ++ z) (drop-replicate (length c.args.part.now) 248 0)
