-- Containers and paths by the names that a script gives them.
use Rattle.std.specs.Prelude.{ℕ, ◌&&◌, ◌==◌, List, [], ◌∷◌, Option, Some, None, if◌then◌else◌}
use Rattle.base_types.specs.declared.id.ContId.{ContId}
use Rattle.base_types.specs.declared.id.ObjId.{ObjId}
use Rattle.base_types.specs.declared.path.Path.{Path}
use Rattle.base_types.specs.declared.script.ContDecl.{ContDecl}
use Rattle.base_types.specs.declared.script.ObjDecl.{ObjDecl}
use Rattle.base_types.specs.declared.script.Script.{Script}
use Rattle.base_types.specs.Keys.{same_key}
use Rattle.base_text.specs.Parts.{parts_of}
use Rattle.base_text.specs.Rows.{Words}
use Rattle.report_grammar.specs.Reads.{◌>>=◌, Taken}
use Rattle.report_grammar.specs.Words.{word_at, nothing_at, key_of}

-- the first container of this name, and the first object of this name in a container
abbrev pub cont_of : List ContDecl → List ℕ → Option ContId
cont_of [] name = None
cont_of (decl ∷ decls) name = if same_key decl.name name then Some decl.id else cont_of decls name

abbrev pub obj_of : List ObjDecl → ContId → List ℕ → Option ObjId
obj_of [] cont name = None
obj_of (decl ∷ decls) cont name = if (decl.cont.0 == cont.0) && same_key decl.name name then Some decl.id else obj_of decls cont name

unfoldable pub cont_at : Script → Words → Taken ContId
cont_at s ws = do
  w ← word_at ws
  id ← cont_of s.conts w.0
  Some (id, w.1)

abbrev pub some_obj : ObjId → Option ObjId
some_obj id = Some id

-- an object, or a key, where a further part of a path stands
abbrev pub obj_or_none_at : Script → ContId → Words → Taken (Option ObjId)
obj_or_none_at s cont [] = Some (None, [])
obj_or_none_at s cont (w ∷ ws) = obj_of s.objs cont w >>= λ id. Some (some_obj id, ws)

abbrev pub some_key : List ℕ → Option (List ℕ)
some_key key = Some key

abbrev pub key_or_none_at : Words → Taken (Option (List ℕ))
key_or_none_at [] = Some (None, [])
key_or_none_at (w ∷ ws) = key_of w >>= λ key. Some (some_key key, ws)

-- the path that a word spells: its parts are joined by slashes
unfoldable pub path_of : Script → List ℕ → Option Path
path_of s word = do
  cont ← cont_at s (parts_of 47 word)
  obj ← obj_or_none_at s cont.0 cont.1
  dkey ← key_or_none_at obj.1
  akey ← key_or_none_at dkey.1
  end ← nothing_at akey.1
  Some (record { cont = cont.0; obj = obj.0; dkey = dkey.0; akey = akey.0 })

unfoldable pub path_at : Script → Words → Taken Path
path_at s ws = do
  w ← word_at ws
  path ← path_of s w.0
  Some (path, w.1)
