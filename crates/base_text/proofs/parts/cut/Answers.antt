use Rattle.std.proofs.Common.{◌≡◌, ◌+◌, ◌-◌, take, drop, length, arith}
use Rattle.std.proofs.lemmas.List.{length-drop, take_all}
use Rattle.base_text.proofs.Cuts.{parts_of-marked, parts_of-unmarked}
use Rattle.base_text.proofs.parts.cut.Goals as goal

pub returns-in-Some : goal.returns-in-Some
returns-in-Some c =
    let i = c.in-Some.at in
    let bytes = c.args.bytes.now in
    let whole : take (length bytes - (i + 1)) (drop (i + 1) bytes) ≡ drop (i + 1) bytes = take_all (length bytes - (i + 1)) (drop (i + 1) bytes) (omega (arith, length-drop (i + 1) bytes)) in
    rw whole (parts_of-marked c.args.mark i bytes c.in-Some.ensures.exact)

pub returns-in-None : goal.returns-in-None
returns-in-None c = parts_of-unmarked c.args.mark c.args.bytes.now c.in-None.ensures.exact
