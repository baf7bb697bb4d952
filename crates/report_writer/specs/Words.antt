-- Words that stand for numbers, epochs and attempts.
use Rattle.std.specs.Prelude.{ℕ, List, [], ◌∷◌, ◌++◌, Option, Some, None, codes}
use Rattle.std.specs.Fmt.{decimal}
use Rattle.base_types.specs.declared.epoch.Epoch.{Epoch}
use Rattle.base_types.specs.declared.id.AttemptId.{AttemptId}
use Rattle.base_text.specs.Rows.{Words}

-- words, each behind a space
abbrev pub spaced : Words → List ℕ
spaced [] = []
spaced (word ∷ words) = 32 ∷ word ++ spaced words

-- an epoch, or a dash where there is none
abbrev pub epoch_word : Option Epoch → List ℕ
epoch_word None = codes "-"
epoch_word (Some epoch) = decimal epoch.0

-- an attempt: its client, its command and its number
abbrev pub attempt_words : AttemptId → Words
attempt_words id = decimal id.client ∷ decimal id.command ∷ decimal id.attempt ∷ []
