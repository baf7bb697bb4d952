use Rattle.std.proofs.Common.{◌≡◌, ◌+◌, map, drop, string_bytes}
use Rattle.std.specs.List.{position_or_len}
use Rattle.daos_app.specs.Words.{asks_more}
use Rattle.daos_app.proofs.words.place_of_more.Given as goal

abbrev pub invariant-loop-place : goal.invariant-loop-place
invariant-loop-place l = l.place + position_or_len asks_more (map string_bytes (drop l.place l.words)) ≡ position_or_len asks_more (map string_bytes l.words)
