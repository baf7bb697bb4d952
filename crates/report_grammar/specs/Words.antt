-- Words that stand for numbers, keys, epochs and attempts.
use Rattle.std.specs.Prelude.{ℕ, is_none, List, [], ◌∷◌, Option, Some, None, codes, if◌then◌else◌}
use Rattle.std.specs.Str.{bytes_eq}
use Rattle.base_types.specs.declared.epoch.Epoch.{Epoch}
use Rattle.base_types.specs.declared.id.AttemptId.{AttemptId}
use Rattle.base_types.specs.Keys.{key_fault}
use Rattle.base_text.specs.Number.{number_in}
use Rattle.base_text.specs.Rows.{Words}
use Rattle.report_grammar.specs.Reads.{◌>>=◌, Taken}

-- the next word
abbrev pub word_at : Words → Taken (List ℕ)
word_at [] = None
word_at (w ∷ ws) = Some (w, ws)

-- no further word
abbrev pub nothing_at : Words → Option (Unit {0})
nothing_at [] = Some tt
nothing_at (w ∷ ws) = None

unfoldable pub number_at : ℕ → ℕ → Words → Taken ℕ
number_at lo hi ws = do
  w ← word_at ws
  n ← number_in lo hi w.0
  Some (n, w.1)

abbrev pub key_of : List ℕ → Option (List ℕ)
key_of w = if is_none (key_fault w) then Some w else None

unfoldable pub key_at : Words → Taken (List ℕ)
key_at ws = do
  w ← word_at ws
  k ← key_of w.0
  Some (k, w.1)

abbrev pub epoch_numbered : ℕ → Epoch
epoch_numbered n = record { 0 = n }

unfoldable pub epoch_at : Words → Taken Epoch
epoch_at ws = do
  n ← number_at 0 18446744073709551615 ws
  Some (epoch_numbered n.0, n.1)

abbrev pub some_epoch : ℕ → Option Epoch
some_epoch n = Some (epoch_numbered n)

abbrev pub epoch_of : List ℕ → Option (Option Epoch)
epoch_of w = if bytes_eq w (codes "-") then Some None else (number_in 0 18446744073709551615 w >>= λ n. Some (some_epoch n))

-- an epoch, or a dash where there is none
unfoldable pub epoch_or_none_at : Words → Taken (Option Epoch)
epoch_or_none_at ws = do
  w ← word_at ws
  e ← epoch_of w.0
  Some (e, w.1)

unfoldable pub attempt_id_at : Words → Taken AttemptId
attempt_id_at ws = do
  client ← number_at 0 65535 ws
  command ← number_at 0 4294967295 client.1
  attempt ← number_at 0 255 command.1
  Some (record { client = client.0; command = command.0; attempt = attempt.0 }, attempt.1)
