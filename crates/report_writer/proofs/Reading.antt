-- How the rows of a report are read: a word at a time, a row at a time.
use Rattle.std.specs.Prelude.{ℕ, ◌+◌, ◌-◌, ◌*◌, Bool, true, false, ◌==◌, nat_lt, List, [], ◌∷◌, ◌++◌, Option, Some, None, codes, if◌then◌else◌}
use Rattle.std.specs.Option.{option_map, option_to_list}
use Rattle.std.specs.Str.{bytes_eq}
use Rattle.base_types.specs.declared.answer.Answer.{Answer}
use Rattle.base_types.specs.declared.answer.Answer.TheVariants as answer
use Rattle.base_types.specs.declared.answer.Piece.{Piece}
use Rattle.base_types.specs.declared.answer.Piece.TheVariants as piece
use Rattle.base_types.specs.declared.epoch.Epoch.{Epoch}
use Rattle.base_types.specs.declared.id.AttemptId.{AttemptId}
use Rattle.base_types.specs.declared.id.ContId.{ContId}
use Rattle.base_types.specs.declared.outcome.Cause.{Cause}
use Rattle.base_types.specs.declared.outcome.Cause.TheVariants as cause
use Rattle.base_types.specs.declared.outcome.FloorWhy.{FloorWhy}
use Rattle.base_types.specs.declared.outcome.FloorWhy.TheVariants as floor
use Rattle.base_types.specs.declared.outcome.Outcome.{Outcome}
use Rattle.base_types.specs.declared.outcome.Outcome.TheVariants as outcome
use Rattle.base_types.specs.declared.path.Path.{Path}
use Rattle.base_types.specs.declared.report.Attempt.{Attempt}
use Rattle.base_types.specs.declared.report.Line.{Line}
use Rattle.base_types.specs.declared.report.Line.TheVariants as line
use Rattle.base_types.specs.declared.script.ContDecl.{ContDecl}
use Rattle.base_types.specs.declared.script.ObjDecl.{ObjDecl}
use Rattle.base_types.specs.declared.script.Script.{Script}
use Rattle.base_types.specs.Keys.{same_key}
use Rattle.base_text.specs.Number.{number_in}
use Rattle.base_text.specs.Parts.{parts_of}
use Rattle.base_text.specs.Rows.{Words}

infixl 10 ◌>>=◌
abbrev pub ◌>>=◌ : {A B : Type 0} → Option A → (A → Option B) → Option B
(Some x) >>= f = f x
None >>= f = None

-- what was read, and the words behind it
abbrev pub Taken : Type 0 → Type 0
Taken A = Option (A × Words)

-- one word, by what reads it
abbrev pub one : {A : Type 0} → (List ℕ → Option A) → Words → Taken A
one of [] = None
one of (word ∷ words) = of word >>= λ x. Some (x, words)

-- a value, where no word is left
abbrev pub ends : {A : Type 0} → A → Words → Option A
ends x [] = Some x
ends x (word ∷ words) = None

-- each word
abbrev pub each : {A : Type 0} → (List ℕ → Option A) → Words → Option (List A)
each of [] = Some []
each of (word ∷ words) = of word >>= λ x. each of words >>= λ xs. Some (x ∷ xs)

-- ---- numbers, epochs, attempts

-- a number of 8, 16, 32 or 64 bits
abbrev pub u8 : List ℕ → Option ℕ
u8 word = number_in 0 255 word

abbrev pub u16 : List ℕ → Option ℕ
u16 word = number_in 0 65535 word

abbrev pub u32 : List ℕ → Option ℕ
u32 word = number_in 0 4294967295 word

abbrev pub u64 : List ℕ → Option ℕ
u64 word = number_in 0 18446744073709551615 word

abbrev pub epoch_numbered : ℕ → Epoch
epoch_numbered n = record { 0 = n }

abbrev pub epoch_of : List ℕ → Option Epoch
epoch_of word = u64 word >>= λ n. Some (epoch_numbered n)

abbrev pub epoch_or_none_of : List ℕ → Option (Option Epoch)
epoch_or_none_of word = if bytes_eq word (codes "-") then Some None else epoch_of word >>= λ e. Some (Some e)

unfoldable pub attempt_id_at : Words → Taken AttemptId
attempt_id_at words = do
  client ← one u16 words
  command ← one u32 client.1
  attempt ← one u8 command.1
  Some (record { client = client.0; command = command.0; attempt = attempt.0 }, attempt.1)

-- ---- values and answers

abbrev pub hex_value : ℕ → ℕ
hex_value digit = if nat_lt digit 58 then digit - 48 else digit - 87

abbrev pub hex_bytes : List ℕ → Option (List ℕ)
hex_bytes [] = Some []
hex_bytes (high ∷ []) = None
hex_bytes (high ∷ low ∷ digits) = hex_bytes digits >>= λ bytes. Some ((hex_value high * 16 + hex_value low) ∷ bytes)

abbrev pub value_of : List ℕ → Option (List ℕ)
value_of [] = None
value_of (mark ∷ bytes) = if mark == 61 then Some bytes else if mark == 35 then hex_bytes bytes else None

abbrev pub piece_of : List ℕ → Option Piece
piece_of [] = None
piece_of (mark ∷ bytes) =
    if mark == 126 then (u32 bytes >>= λ n. Some (piece.Hole n)) else (value_of (mark ∷ bytes) >>= λ value. Some (piece.Bytes value))

unfoldable pub answer_of : Words → Option Answer
answer_of [] = None
answer_of (word ∷ words) =
    if bytes_eq word (codes "value") then (one value_of words >>= λ value. ends (answer.Bytes value.0) value.1)
    else if bytes_eq word (codes "parts") then (each piece_of words >>= λ pieces. Some (answer.Parts pieces))
    else if bytes_eq word (codes "names") then Some (answer.Names words)
    else if bytes_eq word (codes "yes") then ends answer.Yes words
    else if bytes_eq word (codes "no") then ends answer.No words
    else if bytes_eq word (codes "absent") then ends answer.Absent words
    else None

-- ---- names and paths

abbrev pub cont_of : List ContDecl → List ℕ → Option ContId
cont_of [] name = None
cont_of (decl ∷ decls) name = if same_key decl.name name then Some decl.id else cont_of decls name

-- an object's declaration, by its name
abbrev pub decl_of : List ObjDecl → List ℕ → Option ObjDecl
decl_of [] name = None
decl_of (decl ∷ decls) name = if same_key decl.name name then Some decl else decl_of decls name

abbrev pub no_key : Option (List ℕ)
no_key = None

-- the path in a container, by the names behind the container's
abbrev pub path_in : Script → ContId → Words → Option Path
path_in s cont [] = Some (record { cont = cont; obj = None; dkey = no_key; akey = no_key })
path_in s cont (obj ∷ []) = decl_of s.objs obj >>= λ decl. Some (record { cont = cont; obj = Some decl.id; dkey = no_key; akey = no_key })
path_in s cont (obj ∷ dkey ∷ []) = decl_of s.objs obj >>= λ decl. Some (record { cont = cont; obj = Some decl.id; dkey = Some dkey; akey = no_key })
path_in s cont (obj ∷ dkey ∷ akey ∷ rest) =
    decl_of s.objs obj >>= λ decl. ends (record { cont = cont; obj = Some decl.id; dkey = Some dkey; akey = Some akey }) rest

abbrev pub path_of_names : Script → Words → Option Path
path_of_names s [] = None
path_of_names s (cont ∷ names) = cont_of s.conts cont >>= λ id. path_in s id names

unfoldable pub path_of : Script → List ℕ → Option Path
path_of s word = path_of_names s (parts_of 47 word)

-- ---- outcomes

unfoldable pub floor_of : Words → Option FloorWhy
floor_of [] = None
floor_of (word ∷ words) =
    if bytes_eq word (codes "restart") then (one u32 words >>= λ number. ends (floor.Restart number.0) number.1)
    else if bytes_eq word (codes "snapshot") then (one epoch_of words >>= λ epoch. ends (floor.Snapshot epoch.0) epoch.1)
    else if bytes_eq word (codes "aggregate") then (one u32 words >>= λ number. ends (floor.Aggregate number.0) number.1)
    else None

-- another attempt's access
unfoldable pub access_of : Script → Words → Option (AttemptId × Epoch × Path)
access_of s words = do
  by ← attempt_id_at words
  epoch ← one epoch_of by.1
  path ← one (path_of s) epoch.1
  ends (by.0, epoch.0, path.0) path.1

abbrev pub floor_cause_of : Words → Option Cause
floor_cause_of words = do
  target ← one u8 words
  epoch ← one epoch_of target.1
  why ← floor_of epoch.1
  Some (cause.Floor target.0 epoch.0 why)

unfoldable pub cause_of : Script → Words → Option Cause
cause_of s [] = None
cause_of s (word ∷ words) =
    if bytes_eq word (codes "readlater") then (access_of s words >>= λ a. Some (cause.ReadLater a.0 a.1 a.2))
    else if bytes_eq word (codes "writelater") then (access_of s words >>= λ a. Some (cause.WriteLater a.0 a.1 a.2))
    else if bytes_eq word (codes "unresolved") then (attempt_id_at words >>= λ by. ends (cause.Unresolved by.0) by.1)
    else if bytes_eq word (codes "floor") then floor_cause_of words
    else None

abbrev pub no_space_of : Words → Option Outcome
no_space_of words = do
  target ← one u8 words
  need ← one u32 target.1
  free ← one u32 need.1
  ends (outcome.NoSpace target.0 need.0 free.0) free.1

unfoldable pub outcome_of : Script → Words → Option Outcome
outcome_of s [] = None
outcome_of s (word ∷ words) =
    if bytes_eq word (codes "committed") then ends outcome.Committed words
    else if bytes_eq word (codes "condfailed") then (one u8 words >>= λ op. ends (outcome.CondFailed op.0) op.1)
    else if bytes_eq word (codes "restart") then (cause_of s words >>= λ cause. Some (outcome.Restart cause))
    else if bytes_eq word (codes "nospace") then no_space_of words
    else if bytes_eq word (codes "spent") then ends outcome.EpochsSpent words
    else if bytes_eq word (codes "nosnap") then ends outcome.NoSnapshot words
    else if bytes_eq word (codes "unknown") then (one u8 words >>= λ target. ends (outcome.Unknown target.0) target.1)
    else None

-- ---- rows, each without its first word

unfoldable pub attempt_of : Script → Words → Option Attempt
attempt_of s words = do
  id ← attempt_id_at words
  epoch ← one epoch_or_none_of id.1
  outcome ← outcome_of s epoch.1
  Some (record { id = id.0; epoch = epoch.0; conds = []; gots = []; outcome = outcome })

abbrev pub yes_of : List ℕ → Option Bool
yes_of word = if bytes_eq word (codes "yes") then Some true else if bytes_eq word (codes "no") then Some false else None

unfoldable pub cond_of : Words → Option (ℕ × Bool)
cond_of words = do
  op ← one u8 words
  holds ← one yes_of op.1
  ends (op.0, holds.0) holds.1

unfoldable pub got_of : Words → Option (ℕ × Answer)
got_of words = do
  op ← one u8 words
  answer ← answer_of op.1
  Some (op.0, answer)

unfoldable pub stop_of : Words → Option Line
stop_of words = do
  number ← one u32 words
  target ← one u8 number.1
  ends (line.Stop number.0 target.0) target.1

unfoldable pub restart_of : Words → Option Line
restart_of words = do
  number ← one u32 words
  target ← one u8 number.1
  incarnation ← one u64 target.1
  floor ← one epoch_of incarnation.1
  ends (line.Restart number.0 target.0 incarnation.0 floor.0) floor.1

unfoldable pub freeze_of : Script → Words → Option Line
freeze_of s words = do
  target ← one u8 words
  cont ← one (cont_of s.conts) target.1
  epoch ← one epoch_of cont.1
  ends (line.Freeze target.0 cont.0 epoch.0) epoch.1

unfoldable pub snapshot_of : Script → Words → Option Line
snapshot_of s words = do
  name ← one Some words
  cont ← one (cont_of s.conts) name.1
  epoch ← one epoch_of cont.1
  ends (line.Snapshot name.0 cont.0 epoch.0) epoch.1

unfoldable pub aggregate_of : Script → Words → Option Line
aggregate_of s words = do
  number ← one u32 words
  target ← one u8 number.1
  cont ← one (cont_of s.conts) target.1
  upto ← one epoch_of cont.1
  ends (line.Aggregate number.0 target.0 cont.0 upto.0) upto.1

unfoldable pub down_of : Words → Option Line
down_of words = one u8 words >>= λ target. ends (line.Down target.0) target.1

-- a line of one row
unfoldable pub line_of : Script → List ℕ → Words → Option Line
line_of s word words =
    if bytes_eq word (codes "stop") then stop_of words
    else if bytes_eq word (codes "restart") then restart_of words
    else if bytes_eq word (codes "freeze") then freeze_of s words
    else if bytes_eq word (codes "snapshot") then snapshot_of s words
    else if bytes_eq word (codes "aggregate") then aggregate_of s words
    else if bytes_eq word (codes "down") then down_of words
    else None

-- ---- one row after the other

-- the lines that are whole, and an attempt of which more may be told
pub record Read : Type 0 where
  pub done : List Line
  pub last : Option Attempt

abbrev pub lines_of : Read → List Line
lines_of r = r.done ++ option_to_list (option_map line.Try r.last)

abbrev pub with_attempt : Read → Attempt → Read
with_attempt r a = record { done = lines_of r; last = Some a }

abbrev pub with_line : Read → Line → Read
with_line r l = record { done = lines_of r ++ l ∷ []; last = None }

abbrev pub with_cond : List Line → Option Attempt → ℕ × Bool → Option Read
with_cond done None cond = None
with_cond done (Some a) cond = Some (record { done = done; last = Some (record a { conds = a.conds ++ cond ∷ [] }) })

abbrev pub with_got : List Line → Option Attempt → ℕ × Answer → Option Read
with_got done None got = None
with_got done (Some a) got = Some (record { done = done; last = Some (record a { gots = a.gots ++ got ∷ [] }) })

unfoldable pub with_row : Script → Read → Words → Option Read
with_row s r [] = None
with_row s r (word ∷ words) =
    if bytes_eq word (codes "try") then (attempt_of s words >>= λ a. Some (with_attempt r a))
    else if bytes_eq word (codes "cond") then (cond_of words >>= λ cond. with_cond r.done r.last cond)
    else if bytes_eq word (codes "got") then (got_of words >>= λ got. with_got r.done r.last got)
    else (line_of s word words >>= λ l. Some (with_line r l))

unfoldable pub read_rows : Script → Read → List Words → Option Read
read_rows s r [] = Some r
read_rows s r (row ∷ rows) = with_row s r row >>= λ t. read_rows s t rows

abbrev pub nothing_read : Read
nothing_read = record { done = []; last = None }
