use Rattle.std.proofs.Common.{◌++◌, ◌∙◌, ap, length}
use Rattle.std.proofs.lemmas.List.{drop-replicate}
use Rattle.vos_values.proofs.keys.padded.Goals as goal

pub returns : goal.returns
returns c = c.put_front.ensures ∙ ap (λ z. c.args.name.now ++ z) (drop-replicate (length c.args.name.now) 64 0)
