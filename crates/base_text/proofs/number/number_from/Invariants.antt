use Rattle.std.proofs.Common.{◌≡◌, ◌≤◌, drop}
use Rattle.base_text.specs.Number.{number_from}
use Rattle.base_text.proofs.number.number_from.Given as goal

abbrev pub invariant-loop-byte : goal.invariant-loop-byte
invariant-loop-byte l = (number_from l.most l.value (drop l.byte-index l.word) ≡ number_from l.most 0 l.word) × (l.value ≤ l.most)
