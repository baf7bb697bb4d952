-- Words that are read as keys and names are keys, and so are those of the paths of operations.
use Rattle.std.specs.Prelude.{ℕ, ◌≡◌, Bool, true, false, is_none, is_some, List, [], ◌∷◌, length, ◌==◌, Option, Some, None, Ok, Err, refl, if◌then◌else◌}
use Rattle.std.proofs.Common.{sym, subst}
use Rattle.base_types.specs.Keys.{IsKey, key_fault}
use Rattle.base_types.specs.Paths.{record_size}
use Rattle.base_types.specs.Operations.{act_path, write_path}
use Rattle.base_types.specs.declared.fault.Why.{Why}
use Rattle.base_types.specs.declared.fault.Why.TheVariants.{BadKey, BadName, MissingWord}
use Rattle.base_types.specs.declared.id.ContId.{ContId}
use Rattle.base_types.specs.declared.id.ObjId.{ObjId}
use Rattle.base_types.specs.declared.key.KeyNo.{KeyNo}
use Rattle.base_types.specs.declared.operation.Act.{Act}
use Rattle.base_types.specs.declared.operation.Write.TheVariants as write
use Rattle.base_types.specs.declared.path.Path.{Path}
use Rattle.script_lines.specs.declared.verbs.OpVerb.{OpVerb}
use Rattle.script_lines.specs.declared.verbs.OpVerb.TheVariants as op
use Rattle.script_lines.specs.Ops.{act_by, akeys_at, cell_at, dkey_at, dkeys_at, get_at, has_at, object_at, path_at, path_of, path_on, piece_at, punch_at, punch_of, put_at, range_at, read_at, write_at}
use Rattle.script_words.specs.declared.decls.Decls.{Decls}
use Rattle.script_words.specs.Lookups.{cont_named, obj_named}
use Rattle.script_words.specs.Reads.{Taken}
use Rattle.script_words.specs.Snaps.{is_snap}
use Rattle.script_words.specs.Words.{key_at, key_of, more_key_at, name_of, new_cont_at, new_obj_at, new_snap_at, obj_at, value_at, word_at}
use Rattle.daos_script.specs.Reading.{OnRead, on-bind, on-then, on-unless}
use Rattle.script_traits.specs.Keyed.{HasKeys, IsKeyOrNone}

-- ---- keys and names

key-unless : (w : List ℕ) (why : Why) → OnRead IsKey (if is_none (key_fault w) then Ok w else Err why)
key-unless w why = by (key_fault w) refl
  where
    by : (o : Option KeyNo) → key_fault w ≡ o → OnRead IsKey (if is_none o then Ok w else Err why)
    by None e = e
    by (Some fault) e = tt

-- what is taken first of words has a property
abbrev pub First : {A : Type 0} → (A → Type 0) → A × List (List ℕ) → Type 0
First P t = P t.0

abbrev pub OnTaken : {A : Type 0} → (A → Type 0) → Taken A → Type 0
OnTaken P r = OnRead (First P) r

key-at : (ws : List (List ℕ)) → OnTaken IsKey (key_at ws)
unfolding key_at
key-at ws = on-then (First IsKey) (word_at ws) _ (λ w. on-bind IsKey (First IsKey) (key_of w.0) _ (key-unless w.0 BadKey) (λ key k. k))

more-key-at : (ws : List (List ℕ)) → OnTaken IsKeyOrNone (more_key_at ws)
unfolding more_key_at
more-key-at [] = tt
more-key-at (w ∷ ws) = on-unless (First IsKeyOrNone) (length w == 0) MissingWord _ (on-bind IsKey (First IsKeyOrNone) (key_of w) _ (key-unless w BadKey) (λ key k. k))

pub new-cont-at : (decls : Decls) (ws : List (List ℕ)) → OnTaken IsKey (new_cont_at decls ws)
unfolding new_cont_at
new-cont-at decls ws = on-then (First IsKey) (word_at ws) _ (λ w. on-bind IsKey (First IsKey) (name_of w.0) _ (key-unless w.0 BadName) (λ name k. on-unless (First IsKey) (is_some (cont_named decls.conts name)) BadName (Ok (name, w.1)) k))

pub new-obj-at : (decls : Decls) (ws : List (List ℕ)) → OnTaken IsKey (new_obj_at decls ws)
unfolding new_obj_at
new-obj-at decls ws = on-then (First IsKey) (word_at ws) _ (λ w. on-bind IsKey (First IsKey) (name_of w.0) _ (key-unless w.0 BadName) (λ name k. on-unless (First IsKey) (is_some (obj_named decls.objs name)) BadName (Ok (name, w.1)) k))

pub new-snap-at : (decls : Decls) (ws : List (List ℕ)) → OnTaken IsKey (new_snap_at decls ws)
unfolding new_snap_at
new-snap-at decls ws = on-then (First IsKey) (word_at ws) _ (λ w. on-bind IsKey (First IsKey) (name_of w.0) _ (key-unless w.0 BadName) (λ name k. on-unless (First IsKey) (is_snap decls name) BadName (Ok (name, w.1)) k))

-- ---- paths

object-at : (decls : Decls) (within : Option ContId) (ws : List (List ℕ)) → OnTaken HasKeys (object_at decls within ws)
unfolding object_at
object-at decls within ws = on-then (First HasKeys) (obj_at decls within ws) _ (λ o. record { dkey = tt; akey = tt })

dkey-at : (decls : Decls) (within : Option ContId) (ws : List (List ℕ)) → OnTaken HasKeys (dkey_at decls within ws)
unfolding dkey_at
dkey-at decls within ws = on-then (First HasKeys) (obj_at decls within ws) _ (λ o. on-bind (First IsKey) (First HasKeys) (key_at o.1) _ (key-at o.1) (λ dkey k. record { dkey = k; akey = tt }))

cell-at : (decls : Decls) (within : Option ContId) (ws : List (List ℕ)) → OnTaken HasKeys (cell_at decls within ws)
unfolding cell_at
cell-at decls within ws =
    on-then (First HasKeys) (obj_at decls within ws) _ (λ o. on-bind (First IsKey) (First HasKeys) (key_at o.1) _ (key-at o.1) (λ dkey k. on-bind (First IsKey) (First HasKeys) (key_at dkey.1) _ (key-at dkey.1) (λ akey h. record { dkey = k; akey = h })))

path-on : (o : ContId × ObjId) (dkey : Option (List ℕ)) (ws : List (List ℕ)) → IsKeyOrNone dkey → OnTaken HasKeys (path_on o dkey ws)
path-on o None ws k = record { dkey = tt; akey = tt }
path-on o (Some dkey) ws k = on-bind (First IsKeyOrNone) (First HasKeys) (more_key_at ws) (λ akey. Ok (path_of o (Some dkey) akey.0, akey.1)) (more-key-at ws) (λ akey h. record { dkey = k; akey = h })

path-at : (decls : Decls) (within : Option ContId) (ws : List (List ℕ)) → OnTaken HasKeys (path_at decls within ws)
unfolding path_at
path-at decls within ws = on-then (First HasKeys) (obj_at decls within ws) _ (λ o. on-bind (First IsKeyOrNone) (First HasKeys) (more_key_at o.1) _ (more-key-at o.1) (λ dkey k. path-on o.0 dkey.0 dkey.1 k))

-- ---- operations

abbrev pub ActHasKeys : Act → Type 0
ActHasKeys act = HasKeys (act_path act)

punch-path : (p : Path) → write_path (punch_of p) ≡ p
punch-path p = by (is_some p.akey) (is_some p.dkey)
  where
    by : (a d : Bool) → write_path (if a then write.PunchAkey p else if d then write.PunchDkey p else write.PunchObject p) ≡ p
    by true d = refl
    by false true = refl
    by false false = refl

put-at : (decls : Decls) (within : Option ContId) (ws : List (List ℕ)) → OnTaken ActHasKeys (put_at decls within ws)
unfolding put_at
put-at decls within ws = on-bind (First HasKeys) (First ActHasKeys) (cell_at decls within ws) _ (cell-at decls within ws) (λ cell k. on-then (First ActHasKeys) (value_at cell.1) _ (λ value. k))

get-at : (decls : Decls) (within : Option ContId) (ws : List (List ℕ)) → OnTaken ActHasKeys (get_at decls within ws)
unfolding get_at
get-at decls within ws = on-bind (First HasKeys) (First ActHasKeys) (cell_at decls within ws) _ (cell-at decls within ws) (λ cell k. k)

write-at : (decls : Decls) (within : Option ContId) (ws : List (List ℕ)) → OnTaken ActHasKeys (write_at decls within ws)
unfolding write_at
write-at decls within ws = on-bind (First HasKeys) (First ActHasKeys) (cell_at decls within ws) _ (cell-at decls within ws) (λ cell k. on-then (First ActHasKeys) (piece_at (record_size cell.0) cell.1) _ (λ piece. k))

read-at : (decls : Decls) (within : Option ContId) (ws : List (List ℕ)) → OnTaken ActHasKeys (read_at decls within ws)
unfolding read_at
read-at decls within ws = on-bind (First HasKeys) (First ActHasKeys) (cell_at decls within ws) _ (cell-at decls within ws) (λ cell k. on-then (First ActHasKeys) (range_at (record_size cell.0) cell.1) _ (λ range. k))

dkeys-at : (decls : Decls) (within : Option ContId) (ws : List (List ℕ)) → OnTaken ActHasKeys (dkeys_at decls within ws)
unfolding dkeys_at
dkeys-at decls within ws = on-bind (First HasKeys) (First ActHasKeys) (object_at decls within ws) _ (object-at decls within ws) (λ object k. k)

akeys-at : (decls : Decls) (within : Option ContId) (ws : List (List ℕ)) → OnTaken ActHasKeys (akeys_at decls within ws)
unfolding akeys_at
akeys-at decls within ws = on-bind (First HasKeys) (First ActHasKeys) (dkey_at decls within ws) _ (dkey-at decls within ws) (λ dkey k. k)

has-at : (decls : Decls) (within : Option ContId) (ws : List (List ℕ)) → OnTaken ActHasKeys (has_at decls within ws)
unfolding has_at
has-at decls within ws = on-bind (First HasKeys) (First ActHasKeys) (path_at decls within ws) _ (path-at decls within ws) (λ path k. k)

punch-at : (decls : Decls) (within : Option ContId) (ws : List (List ℕ)) → OnTaken ActHasKeys (punch_at decls within ws)
unfolding punch_at
punch-at decls within ws = on-bind (First HasKeys) (First ActHasKeys) (path_at decls within ws) _ (path-at decls within ws) (λ path k. subst HasKeys (sym (punch-path path.0)) k)

-- the words after any verb
pub act-by : (decls : Decls) (within : Option ContId) (v : OpVerb) (ws : List (List ℕ)) → OnTaken ActHasKeys (act_by decls within v ws)
act-by decls within op.Put ws = put-at decls within ws
act-by decls within op.Get ws = get-at decls within ws
act-by decls within op.Write ws = write-at decls within ws
act-by decls within op.Read ws = read-at decls within ws
act-by decls within op.Dkeys ws = dkeys-at decls within ws
act-by decls within op.Akeys ws = akeys-at decls within ws
act-by decls within op.Has ws = has-at decls within ws
act-by decls within op.Punch ws = punch-at decls within ws
