use Rattle.std.proofs.Common.{◌≡◌, ◌≤◌, drop, map, string_bytes}
use Rattle.base_text.specs.Steps.{steps}
use Rattle.daos_words.specs.Words.{with_word, nothing_given}
use Rattle.daos_words.proofs.Sound.{said, IsSound}
use Rattle.daos_words.proofs.words.job_of.Given as goal

abbrev pub invariant-loop-word : goal.invariant-loop-word
invariant-loop-word l = record {
  here : l.place ≡ l.word-index;
  few : l.place ≤ said l.given;
  sound : IsSound l.given;
  so_far : steps with_word l.word-index l.given (map string_bytes (drop l.word-index l.words)) ≡ steps with_word 0 nothing_given (map string_bytes l.words);
}
