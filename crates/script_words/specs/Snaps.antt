-- The names of snapshots: one name space over those of earlier runs and those that clients make.
use Rattle.std.specs.Prelude.{ℕ, Bool, ◌||◌, is_some, List, Option, Some, None}
use Rattle.std.specs.List.{list_any}
use Rattle.base_types.specs.declared.id.ContId.{ContId}
use Rattle.base_types.specs.Keys.{same_key}
use Rattle.base_names.specs.Names.{named}
use Rattle.script_words.specs.declared.decls.Decls.{Decls}
use Rattle.script_words.specs.Lookups.{old_named}

-- whether a snapshot has this name: one of an earlier run, or one that a client makes
unfoldable pub is_snap : Decls → List ℕ → Bool
is_snap decls name = is_some (old_named decls.olds name) || is_some (named decls.made name) || is_some (named decls.own name)

-- whether the snapshot of this name is dropped
unfoldable pub is_dropped : Decls → List ℕ → Bool
is_dropped decls name = list_any (λ dropped. same_key dropped name) decls.drops

-- what is found, or else the other
abbrev pub or_else : Option ContId → Option ContId → Option ContId
or_else (Some cont) other = Some cont
or_else None other = other

-- the container of a snapshot that the present client may read: one of an earlier run, or one that it makes itself
unfoldable pub snap_named : Decls → List ℕ → Option ContId
snap_named decls name = or_else (old_named decls.olds name) (named decls.own name)
