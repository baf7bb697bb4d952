-- Which writes objects can take.
use Rattle.std.specs.Prelude.{ℕ, Bool, true, ◌&&◌, List, is_none, Option, Some, None}
use Rattle.base_types.specs.declared.operation.MinorWrite.{MinorWrite}
use Rattle.base_types.specs.declared.path.Path.{Path}
use Rattle.base_types.specs.Keys.{key_fault}
use Rattle.base_types.specs.Operations.{write_path}
use Rattle.base_types.specs.Paths.{record_size}
use Rattle.daos_model.specs.Forms.{is_unit}

abbrev pub is_key : List ℕ → Bool
is_key bytes = is_none (key_fault bytes)

abbrev pub is_key_or_none : Option (List ℕ) → Bool
is_key_or_none None = true
is_key_or_none (Some bytes) = is_key bytes

-- a path below an object that there can be: its record size is from 1 to 64, and its keys are keys
abbrev pub may_hold : Path → Bool
may_hold p = is_unit (record_size p) && (is_key_or_none p.dkey && is_key_or_none p.akey)

abbrev pub can_be_taken : MinorWrite → Bool
can_be_taken w = may_hold (write_path w.write)
