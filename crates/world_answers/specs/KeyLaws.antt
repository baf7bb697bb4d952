-- What a script with keys writes leaves keys in a map, so what is read there as names are keys.
use Rattle.std.specs.Prelude.{ℕ, ◌≡◌, ◌+◌, Bool, true, false, nat_le, nat_lt, List, [], ◌∷◌, slice_get, All, Option, Some, None, refl, if◌then◌else◌}
use Rattle.std.proofs.lemmas.List.Elements.{All-append, All-cons, All-filter, All-head, All-nil, All-tail}
use Rattle.base_types.specs.declared.id.AttemptId.{AttemptId}
use Rattle.base_types.specs.declared.operation.Write.{Write}
use Rattle.base_types.specs.declared.operation.Write.TheVariants as write
use Rattle.base_types.specs.declared.path.Path.{Path}
use Rattle.base_types.specs.declared.script.Command.{Command}
use Rattle.base_types.specs.declared.script.Script.{Script}
use Rattle.base_types.specs.Keys.{IsKey}
use Rattle.base_types.specs.Paths.{leads_to, record_size}
use Rattle.base_types.specs.Scripts.{is_numbered}
use Rattle.model_laws.specs.Lists.{all-at}
use Rattle.daos_model.specs.declared.cell.CellValue.{CellValue}
use Rattle.daos_model.specs.declared.stand.Stand.{Stand}
use Rattle.daos_model.specs.declared.stand.Taken.{Taken}
use Rattle.daos_model.specs.Answers.{akey_under, akeys_below, dkey_under, dkeys_below, in_byte_order, is_before, name_among, option_before}
use Rattle.daos_model.specs.AsOf.{as_of, below, in_order, put_in, run_all}
use Rattle.daos_model.specs.Effect.{effect, effects, extent_cells, index_value, record_cells, records_of, without}
use Rattle.daos_model.specs.Transactions.{attempt_ops, command_of, numbered, ops_or_none}
use Rattle.script_traits.specs.Keyed.{CellHasKeys, CommandHasKeys, HasKeys, IsKeyOrNone, MapHasKeys, OpHasKeys, ScriptHasKeys, TakenHasKeys, WriteHasKeys}

-- ---- attempts

-- where the operations of an attempt have their accesses
pub attempt-keys : (s : Script) (x : AttemptId) → ScriptHasKeys s → All OpHasKeys (attempt_ops s x)
unfolding command_of
attempt-keys s x k = by (slice_get s.clients x.client) refl
  where
    of_list : (list : List Command) → All CommandHasKeys list → (o : Option Command) → slice_get (numbered list) x.command ≡ o → All OpHasKeys (ops_or_none o)
    of_list list all None at = All-nil OpHasKeys
    of_list list all (Some d) at = all-at CommandHasKeys (numbered list) x.command d (All-filter is_numbered CommandHasKeys list all) at

    by : (o : Option (List Command)) → slice_get s.clients x.client ≡ o → All OpHasKeys (attempt_ops s x)
    by None at = rw at (All-nil OpHasKeys)
    by (Some list) at = rw at (of_list list (all-at (λ l. All CommandHasKeys l) s.clients x.client list k.commands at) (slice_get (numbered list) x.command) refl)

-- ---- effects

records-keys : (p : Path) (i : ℕ) (rs : List (List ℕ)) → HasKeys p → MapHasKeys (record_cells p i rs)
records-keys p i [] k = All-nil CellHasKeys
records-keys p i (r ∷ rs) k = All-cons CellHasKeys (index_value p i r) (record_cells p (i + 1) rs) k (records-keys p (i + 1) rs k)

without-keys : (p : Path) (m : List CellValue) → MapHasKeys m → MapHasKeys (without p m)
without-keys p [] k = k
without-keys p (v ∷ m) k =
    let rest = without-keys p m (All-tail CellHasKeys v m k) in
    elim (leads_to p v.cell.path) as (λ b. MapHasKeys (if b then without p m else v ∷ without p m)) [
      | true ↦ rest
      | false ↦ All-cons CellHasKeys v (without p m) (All-head CellHasKeys v m k) rest
    ]

effect-keys : (w : Write) (m : List CellValue) → WriteHasKeys w → MapHasKeys m → MapHasKeys (effect w m)
effect-keys (write.Single p bytes) m h k = All-cons CellHasKeys (record { cell = record { path = p; index = None }; bytes = bytes }) m h k
effect-keys (write.Extent p low bytes) m h k = All-append CellHasKeys (extent_cells p low bytes) m (records-keys p low (records_of (record_size p) bytes) h) k
effect-keys (write.PunchObject p) m h k = without-keys p m k
effect-keys (write.PunchDkey p) m h k = without-keys p m k
effect-keys (write.PunchAkey p) m h k = without-keys p m k

pub effects-keys : (ws : List Write) (m : List CellValue) → All WriteHasKeys ws → MapHasKeys m → MapHasKeys (effects ws m)
effects-keys [] m h k = k
effects-keys (w ∷ ws) m h k = effects-keys ws (effect w m) (All-tail WriteHasKeys w ws h) (effect-keys w m (All-head WriteHasKeys w ws h) k)

-- ---- transactions in the order of their epochs

below-keys : (e : ℕ) (ts : List Taken) → All TakenHasKeys ts → All TakenHasKeys (below e ts)
below-keys e [] k = k
below-keys e (t ∷ ts) k =
    let rest = below-keys e ts (All-tail TakenHasKeys t ts k) in
    elim (nat_lt t.epoch.0 e) as (λ b. All TakenHasKeys (if b then t ∷ below e ts else below e ts)) [
      | true ↦ All-cons TakenHasKeys t (below e ts) (All-head TakenHasKeys t ts k) rest
      | false ↦ rest
    ]

put_in-keys : (t : Taken) (us : List Taken) → TakenHasKeys t → All TakenHasKeys us → All TakenHasKeys (put_in t us)
put_in-keys t [] h k = All-cons TakenHasKeys t [] h k
put_in-keys t (u ∷ us) h k =
    let rest = put_in-keys t us h (All-tail TakenHasKeys u us k) in
    elim (nat_le t.epoch.0 u.epoch.0) as (λ b. All TakenHasKeys (if b then t ∷ u ∷ us else u ∷ put_in t us)) [
      | true ↦ All-cons TakenHasKeys t (u ∷ us) h k
      | false ↦ All-cons TakenHasKeys u (put_in t us) (All-head TakenHasKeys u us k) rest
    ]

in_order-keys : (ts : List Taken) → All TakenHasKeys ts → All TakenHasKeys (in_order ts)
in_order-keys [] k = k
in_order-keys (t ∷ ts) k = put_in-keys t (in_order ts) (All-head TakenHasKeys t ts k) (in_order-keys ts (All-tail TakenHasKeys t ts k))

run-keys : (ts : List Taken) (m : List CellValue) → All TakenHasKeys ts → MapHasKeys m → MapHasKeys (run_all ts m)
run-keys [] m h k = k
run-keys (t ∷ ts) m h k = run-keys ts (effects t.writes m) (All-tail TakenHasKeys t ts h) (effects-keys t.writes m (All-head TakenHasKeys t ts h) k)

-- the map as of an epoch
pub as_of-keys : (opening : Stand) (T : List Taken) (e : ℕ) → MapHasKeys opening.now → All TakenHasKeys T → MapHasKeys (as_of opening T e)
unfolding as_of
as_of-keys opening T e k h = run-keys (in_order (below e T)) opening.now (in_order-keys (below e T) (below-keys e T h)) k

-- ---- names

before-keys : (o : Option (List ℕ)) (ks : List (List ℕ)) → IsKeyOrNone o → All IsKey ks → All IsKey (option_before o ks)
before-keys None ks h k = k
before-keys (Some key) ks h k = All-cons IsKey key ks h k

under-keys : (b : Bool) (o : Option (List ℕ)) → IsKeyOrNone o → IsKeyOrNone (if b then o else None)
under-keys true o k = k
under-keys false o k = tt

dkeys-keys : (p : Path) (m : List CellValue) → MapHasKeys m → All IsKey (dkeys_below p m)
unfolding dkeys_below
dkeys-keys p [] k = All-nil IsKey
dkeys-keys p (v ∷ m) k =
    before-keys (dkey_under p v) (dkeys_below p m) (under-keys (leads_to p v.cell.path) v.cell.path.dkey (All-head CellHasKeys v m k).dkey) (dkeys-keys p m (All-tail CellHasKeys v m k))

akeys-keys : (p : Path) (m : List CellValue) → MapHasKeys m → All IsKey (akeys_below p m)
unfolding akeys_below
akeys-keys p [] k = All-nil IsKey
akeys-keys p (v ∷ m) k =
    before-keys (akey_under p v) (akeys_below p m) (under-keys (leads_to p v.cell.path) v.cell.path.akey (All-head CellHasKeys v m k).akey) (akeys-keys p m (All-tail CellHasKeys v m k))

among-keys : (key : List ℕ) (ns : List (List ℕ)) → IsKey key → All IsKey ns → All IsKey (name_among key ns)
among-keys key [] h k = All-cons IsKey key [] h k
among-keys key (n ∷ ns) h k =
    let rest = among-keys key ns h (All-tail IsKey n ns k) in
    elim (is_before key n) as (λ b. All IsKey (if b then key ∷ n ∷ ns else if is_before n key then n ∷ name_among key ns else n ∷ ns)) [
      | true ↦ All-cons IsKey key (n ∷ ns) h k
      | false ↦ elim (is_before n key) as (λ b. All IsKey (if b then n ∷ name_among key ns else n ∷ ns)) [
        | true ↦ All-cons IsKey n (name_among key ns) (All-head IsKey n ns k) rest
        | false ↦ k
      ]
    ]

pub in_byte_order-keys : (ks : List (List ℕ)) → All IsKey ks → All IsKey (in_byte_order ks)
unfolding in_byte_order
in_byte_order-keys [] k = k
in_byte_order-keys (key ∷ ks) k = among-keys key (in_byte_order ks) (All-head IsKey key ks k) (in_byte_order-keys ks (All-tail IsKey key ks k))

-- the dkeys and the akeys below a path of such a map are keys
pub dkey-names : (p : Path) (m : List CellValue) → MapHasKeys m → All IsKey (in_byte_order (dkeys_below p m))
dkey-names p m k = in_byte_order-keys (dkeys_below p m) (dkeys-keys p m k)

pub akey-names : (p : Path) (m : List CellValue) → MapHasKeys m → All IsKey (in_byte_order (akeys_below p m))
akey-names p m k = in_byte_order-keys (akeys_below p m) (akeys-keys p m k)
