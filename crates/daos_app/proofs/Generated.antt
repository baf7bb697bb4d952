-- The generated script for some targets has keys.
use Rattle.std.proofs.Common.{◌≡◌, ℕ, Result, Ok, Err, IfOk, sym, subst}
use Rattle.base_types.specs.declared.script.Script.{Script}
use Rattle.daos_gen.specs.Scripts.{script_of}
use Rattle.script_traits.specs.Keyed.{ScriptHasKeys}

pub generated_has_keys : {E : Type 0} (targets count : ℕ) (made : Result Script E) → IfOk made (λ s. s ≡ script_of targets count) → ScriptHasKeys (script_of targets count) → IfOk made ScriptHasKeys
generated_has_keys targets count (Ok s) is keys = subst ScriptHasKeys (sym is) keys
generated_has_keys targets count (Err e) is keys = tt
