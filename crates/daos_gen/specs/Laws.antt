-- What holds of every generated script.
use Rattle.std.specs.Prelude.{ℕ, ◌≡◌, []}
use Rattle.daos_gen.specs.Scripts.{script_of}
use Rattle.script_traits.specs.Plain.{IsPlain}
use Rattle.script_traits.specs.Keyed.{ScriptHasKeys}

-- its names and its keys are keys
abbrev pub GeneratedScriptsHaveKeys : Type 0
GeneratedScriptsHaveKeys = (targets count : ℕ) → ScriptHasKeys (script_of targets count)

-- it is one without snapshots
abbrev pub GeneratedScriptsArePlain : Type 0
GeneratedScriptsArePlain = (targets count : ℕ) → IsPlain (script_of targets count)

-- it asks for no stop
abbrev pub GeneratedScriptsAskNoStop : Type 0
GeneratedScriptsAskNoStop = (targets count : ℕ) → (script_of targets count).stops ≡ []
