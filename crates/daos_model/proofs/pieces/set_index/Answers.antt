use Rattle.std.proofs.Common.{◌≡◌, ◌-◌, Some, true, set, sym, ◌∙◌, ap, if◌then◌else◌, arith}
use Rattle.std.specs.Prelude.{nat_le}
use Rattle.std.specs.Option.{option_copied}
use Rattle.std.proofs.lemmas.Bool.Decides.{nat_tests}
use Rattle.std.proofs.lemmas.List.{map-set}
use Rattle.daos_model.specs.Pieces.{lent, with_index}
use Rattle.daos_model.proofs.pieces.set_index.Goals as goal

pub returns-then-place-len : goal.returns-then-place-len
returns-then-place-len c =
    let up : nat_le c.args.low c.in-Some.index ≡ true = grind (arith, nat_tests) in
    map-set option_copied c.args.held.now.items (c.in-Some.index - c.args.low) (Some c.args.bytes)
    ∙ sym (ap (λ t. if t then set (lent c.args.held.now.items) (c.in-Some.index - c.args.low) (Some c.args.bytes.now) else lent c.args.held.now.items) up)
    ∙ sym (ap (λ o. with_index o c.args.low c.args.bytes.now (lent c.args.held.now.items)) c.in-Some.is)
