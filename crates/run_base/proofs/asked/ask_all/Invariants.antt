use Rattle.std.proofs.Common.{◌≡◌, drop}
use Rattle.world_base.specs.Letters.{asked_after}
use Rattle.run_base.proofs.asked.ask_all.Given as goal

-- the letters that are left lead to what all lead to
abbrev pub invariant-loop-letter : goal.invariant-loop-letter
invariant-loop-letter l = asked_after l.asked.items (drop l.letter-index l.sent) ≡ asked_after l.initial.asked.items l.sent
