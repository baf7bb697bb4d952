-- The numbers by which the entities of paths are found.
use Rattle.std.specs.Prelude.{ℕ, List, Option, Some, None}
use Rattle.base_types.specs.declared.id.ObjId.{ObjId}
use Rattle.base_types.specs.declared.path.Path.{Path}
use Rattle.base_types.specs.Hash.{fnv1a, hash_step}
use Rattle.base_types.specs.Paths.{class_number, cont_bytes}

-- the parts of a path are hashed one after another, as words of 64 bits
abbrev pub object_tag : ℕ → Option ObjId → ℕ
object_tag tag None = tag
object_tag tag (Some o) = hash_step (hash_step (hash_step tag (class_number o.class)) o.unit) o.number

abbrev pub key_tag : ℕ → Option (List ℕ) → ℕ
key_tag tag None = tag
key_tag tag (Some k) = hash_step tag (fnv1a k)

unfoldable pub tag : Path → ℕ
tag p = key_tag (key_tag (object_tag (fnv1a (cont_bytes p.cont)) p.obj) p.dkey) p.akey
