-- The grammar of scripts: which texts stand for which scripts, and what is wrong with the others.
use Rattle.std.specs.Prelude.{◌≡◌, ℕ, ◌≤◌, true, List, ◌∷◌, ◌++◌, length, Ok, Err}
use Rattle.base_types.specs.declared.fault.ScriptFault.{ScriptFault}
use Rattle.base_types.specs.declared.script.Script.{Script}
use Rattle.base_text.specs.Parts.{parts_of}
use Rattle.base_text.specs.Steps.{steps}
use Rattle.daos_script.specs.declared.reading.Reading.{Reading}
use Rattle.daos_script.specs.Puts.{nothing_read}
use Rattle.daos_script.specs.Readings.{is_passed, script_of, with_line}

-- a text stands for this script, for so many targets
abbrev pub IsScriptText : ℕ → List ℕ → Script → Type 0
IsScriptText targets bytes s = script_of targets bytes ≡ Ok s

-- a text stands for none, and this is its first fault
abbrev pub HasFault : ℕ → List ℕ → ScriptFault → Type 0
HasFault targets bytes fault = script_of targets bytes ≡ Err fault

-- ---- laws

-- lines have this first fault, whatever follows them
abbrev pub LinesHaveFault : ℕ → List (List ℕ) → ScriptFault → Type 0
LinesHaveFault targets lines fault = steps (with_line 0) 1 (nothing_read targets) lines ≡ Err fault

-- a fault of the first lines of a text is the text's: later lines change nothing of it
abbrev pub FaultsStand : Type 0
FaultsStand = (targets : ℕ) (bytes : List ℕ) (front rest : List (List ℕ)) (fault : ScriptFault)
    → length bytes ≤ 16777216 → parts_of 10 bytes ≡ front ++ rest → LinesHaveFault targets front fault → HasFault targets bytes fault

-- an empty line or a comment may be any other: nothing but the number of later lines depends on it
abbrev pub CommentsSayNothing : Type 0
CommentsSayNothing = (long at : ℕ) (r : Reading) (front : List (List ℕ)) (c d : List ℕ) (rest : List (List ℕ))
    → is_passed c ≡ true → is_passed d ≡ true → steps (with_line long) at r (front ++ c ∷ rest) ≡ steps (with_line long) at r (front ++ d ∷ rest)

-- a text of more than 16 MiB stands for no script
abbrev pub TextsAreShort : Type 0
TextsAreShort = (targets : ℕ) (bytes : List ℕ) (s : Script) → IsScriptText targets bytes s → length bytes ≤ 16777216
