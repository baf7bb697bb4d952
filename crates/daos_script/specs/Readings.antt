-- What a text stands for as a script, read line by line, or its first fault.
use Rattle.std.specs.Prelude.{ℕ, ◌+◌, Bool, true, ◌&&◌, ◌||◌, ◌==◌, nat_le, nat_lt, List, [], ◌∷◌, length, take, count_by, find, Option, Some, None, Result, Ok, Err, if◌then◌else◌}
use Rattle.std.specs.List.{list_all}
use Rattle.std.specs.Option.{option_map}
use Rattle.base_types.specs.declared.fault.Why.TheVariants.{BadBlock, BadName, NotAscii, TooLong}
use Rattle.base_types.specs.declared.fault.ScriptFault.{ScriptFault}
use Rattle.base_types.specs.declared.script.Script.{Script}
use Rattle.base_text.specs.Parts.{parts_of}
use Rattle.base_text.specs.Results.{◌>>=◌}
use Rattle.base_text.specs.Steps.{steps}
use Rattle.script_lines.specs.declared.line.Line.{Line}
use Rattle.script_lines.specs.Lines.{line_at}
use Rattle.script_words.specs.Reads.{Read}
use Rattle.base_types.specs.declared.script.Command.{Command}
use Rattle.script_words.specs.declared.decls.Decls.{Decls}
use Rattle.daos_script.specs.declared.lists.Lists.{Lists}
use Rattle.daos_script.specs.declared.lists.Told.{Told}
use Rattle.daos_script.specs.declared.tx.Tx.{Tx}
use Rattle.daos_script.specs.Lists.{all_lists}
use Rattle.daos_script.specs.Steps.{tx_of, within_of}
use Rattle.daos_script.specs.declared.reading.Reading.{Reading}
use Rattle.daos_script.specs.Located.{located}
use Rattle.daos_script.specs.Puts.{add_line, nothing_read}

-- ---- lines

-- a byte that a line may have
abbrev pub is_shown : ℕ → Bool
is_shown b = nat_le 32 b && nat_le b 126

-- a line that is passed over: it is empty, or begins with `#`
abbrev pub is_passed : List ℕ → Bool
is_passed [] = true
is_passed (b ∷ bs) = b == 35

-- what a line says: its bytes come first, then its words
unfoldable pub said : Reading → List ℕ → Read Line
said r text = if list_all is_shown text then line_at r.decls (within_of r.lists.present.client) (parts_of 32 text) else Err NotAscii

-- what the line of this number says is added, if it may stand there
unfoldable pub read_line : ℕ → Reading → List ℕ → Read Reading
read_line at r text = said r text >>= λ l. add_line at r l

-- the line of this number; nothing is read of the one in which the text becomes too long
unfoldable pub with_line : ℕ → ℕ → Reading → List ℕ → Result Reading ScriptFault
with_line long at r text =
    if at == long then Err (record { line = at; why = TooLong 16777216 })
    else if is_passed text then Ok r else located at (read_line at r text)

-- the number of the line in which the first byte past 16 MiB stands, or 0 where there is none
unfoldable pub long_line : List ℕ → ℕ
long_line bytes = if nat_lt 16777216 (length bytes) then count_by (λ b. b == 10) (take 16777216 bytes) + 1 else 0

-- the lines of the first 16 MiB
abbrev pub text_lines : List ℕ → List (List ℕ)
text_lines bytes = parts_of 10 (take 16777216 bytes)

-- ---- the end

-- a client is told that isn't there, or itself
abbrev pub is_bad : ℕ → Told → Bool
is_bad clients t = (t.to == t.client) || nat_le clients t.to

-- the line of the first such
abbrev pub bad_tell : ℕ → List Told → Option ℕ
bad_tell clients tells = option_map (λ t. t.line) (find (is_bad clients) tells)

abbrev pub unless_bad : Option ℕ → List (List Command) → Result (List (List Command)) ScriptFault
unless_bad None lists = Ok lists
unless_bad (Some line) lists = Err (record { line = line; why = BadName })

-- the line on which a transaction began that isn't ended
abbrev pub open_line : Option Tx → Option ℕ
open_line None = None
open_line (Some t) = Some t.line

abbrev pub unless_open : Option ℕ → Result (List (List Command)) ScriptFault → Result (List (List Command)) ScriptFault
unless_open None made = made
unless_open (Some line) made = Err (record { line = line; why = BadBlock })

-- the lists of all clients, unless a transaction isn't ended, or a client is told that isn't there
unfoldable pub ended_lists : Lists → Result (List (List Command)) ScriptFault
ended_lists l = unless_open (open_line (tx_of l.present.client)) (unless_bad (bad_tell (length (all_lists l)) l.tells) (all_lists l))

-- the script of what is declared and these lists
abbrev pub script_with : Decls → List (List Command) → Script
script_with decls clients = record { targets = decls.targets; conts = decls.conts; objs = decls.objs; olds = decls.olds; drops = decls.drops; stops = decls.stops; clients = clients }

unfoldable pub ended : Reading → Result Script ScriptFault
ended r = ended_lists r.lists >>= λ lists. Ok (script_with r.decls lists)

-- ---- a text

-- the script that a text stands for, for so many targets, or its first fault
unfoldable pub script_of : ℕ → List ℕ → Result Script ScriptFault
script_of targets bytes = steps (with_line (long_line bytes)) 1 (nothing_read targets) (text_lines bytes) >>= λ r. ended r
