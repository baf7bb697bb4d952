-- What is read of a source, and why no script was read.
use Rattle.std.specs.Prelude.{ℕ, ◌≡◌, List, length, Option, ◌⊎◌}
use Rattle.std.specs.Io.KnownBytes.{Consumes, IsAtEnd}
use Rattle.base_types.specs.declared.fault.ScriptFault.{ScriptFault}
use Rattle.base_types.specs.declared.script.Script.{Script}
use Rattle.daos_app.specs.declared.input.InputNo.{InputNo}
use Rattle.daos_app.specs.declared.input.InputNo.TheVariants.{Fault, Refused, Memory}
use Rattle.daos_script.specs.Grammar.{HasFault, IsScriptText}

-- the bytes read, to the source's end, are a text of the script for so many targets
pub record IsRead (targets : ℕ) (left left_now : Option (List ℕ)) (script : Script) : Type 0 where
  pub bytes : List ℕ
  pub consumed : Consumes left left_now bytes
  pub at_end : IsAtEnd left_now
  pub grammar : IsScriptText targets bytes script

-- the bytes read are all that there were, or one more than 16 MiB; and they have this first fault
pub record IsRefused (targets : ℕ) (left left_now : Option (List ℕ)) (fault : ScriptFault) : Type 0 where
  pub bytes : List ℕ
  pub consumed : Consumes left left_now bytes
  pub all : (length bytes ≡ 16777217) ⊎ IsAtEnd left_now
  pub why : HasFault targets bytes fault

-- a text is refused for its first fault
abbrev pub IsScriptRefused : ℕ → List ℕ → InputNo → Type 0
IsScriptRefused targets bytes Fault = ⊥
IsScriptRefused targets bytes (Refused fault) = HasFault targets bytes fault
IsScriptRefused targets bytes Memory = Unit {0}

-- the bytes that were read are
abbrev pub RefusesFor : ℕ → Option (List ℕ) → Option (List ℕ) → InputNo → Type 0
RefusesFor targets left left_now Fault = Unit {0}
RefusesFor targets left left_now (Refused fault) = IsRefused targets left left_now fault
RefusesFor targets left left_now Memory = Unit {0}
