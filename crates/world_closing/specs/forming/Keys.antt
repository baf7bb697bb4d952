-- The maps that attempts read have keys, as of their epochs and those of snapshots that earlier runs made.
use Rattle.std.specs.Prelude.{ℕ, ◌≡◌, ◌+◌, find, map, List, [], ◌∷◌, All, Option, Some, None}
use Rattle.std.proofs.Common.{sym, subst}
use Rattle.std.proofs.lemmas.List.{map-append}
use Rattle.std.proofs.lemmas.List.Elements.{All-append, All-cons, All-head, All-nil, All-tail}
use Rattle.base_types.specs.declared.epoch.Epoch.{Epoch}
use Rattle.base_types.specs.declared.id.AttemptId.{AttemptId}
use Rattle.base_types.specs.declared.operation.Act.{Act}
use Rattle.base_types.specs.declared.operation.Act.TheVariants.{Change, Fetch}
use Rattle.base_types.specs.declared.operation.Op.{Op}
use Rattle.base_types.specs.declared.report.Attempt.{Attempt}
use Rattle.base_types.specs.declared.script.OldDecl.{OldDecl}
use Rattle.base_types.specs.declared.script.Script.{Script}
use Rattle.base_types.specs.Operations.{act_path}
use Rattle.daos_model.specs.declared.cell.CellValue.{CellValue}
use Rattle.daos_model.specs.declared.stand.SnapMap.{SnapMap}
use Rattle.daos_model.specs.declared.stand.Stand.{Stand}
use Rattle.daos_model.specs.declared.stand.Taken.{Taken}
use Rattle.daos_model.specs.Accesses.{minor_write, minor_writes}
use Rattle.daos_model.specs.AsOf.{as_of}
use Rattle.daos_model.specs.Attempts.{snapshot_of}
use Rattle.daos_model.specs.ReadsLegal.{is_named, map_at, map_read, old_map}
use Rattle.daos_model.specs.Transactions.{attempt_ops}
use Rattle.model_laws.specs.Decided.{taken_in, write_of}
use Rattle.model_laws.specs.DecidedLaws.{has-all}
use Rattle.script_traits.specs.Keyed.{HasKeys, MapHasKeys, OpHasKeys, ScriptHasKeys, TakenHasKeys, WriteHasKeys}
use Rattle.world_answers.specs.world_contents.reads.Transactions.{decided_of}
use Rattle.world_answers.specs.KeyLaws.{attempt-keys}
use Rattle.world_closing.specs.forming.Forming.{StandHasKeys}
use Rattle.world_closing.specs.stands.Created.{kept-from}

-- ---- the map that an attempt reads

pub read-keys : (s : Script) (b : Stand) (T : List Taken) (a : Attempt) (o : Option Epoch) (m : List CellValue) → StandHasKeys b → ((e : ℕ) → MapHasKeys (as_of b T e)) → map_read s b T a o ≡ Some m → MapHasKeys m
read-keys s b T a None m k keys is = let no : ⊥ = cc in absurd no
read-keys s b T a (Some e) m k keys is = by (snapshot_of s a.id) is
  where
    now : Some (as_of b T e.0) ≡ Some m → MapHasKeys m
    now at = let same : as_of b T e.0 ≡ m = cc in subst MapHasKeys same (keys e.0)

    old : (d : Option OldDecl) → old_map b T e.0 d ≡ Some m → MapHasKeys m
    old None at = now at
    old (Some d) at = let z = kept-from b.snaps d.cont d.epoch.0 m at in subst MapHasKeys z.map (has-all (λ (y : SnapMap). MapHasKeys y.map) b.snaps z.k k.snaps z.among)

    by : (name : Option (List ℕ)) → map_at s b T e.0 name ≡ Some m → MapHasKeys m
    by None at = now at
    by (Some name) at = old (find (is_named name) s.olds) at

-- ---- what was decided

minor-keys : (n : ℕ) (a : Act) → HasKeys (act_path a) → All WriteHasKeys (map write_of (minor_write n a))
minor-keys n (Fetch r) k = All-nil WriteHasKeys
minor-keys n (Change w) k = All-cons WriteHasKeys w [] k (All-nil WriteHasKeys)

pub minors-keys : (n : ℕ) (ops : List Op) → All OpHasKeys ops → All WriteHasKeys (map write_of (minor_writes n ops))
unfolding minor_writes
minors-keys n [] k = All-nil WriteHasKeys
minors-keys n (op ∷ ops) k =
    subst (All WriteHasKeys) (sym (map-append write_of (minor_write n op.act) (minor_writes (n + 1) ops)))
    (All-append WriteHasKeys (map write_of (minor_write n op.act)) (map write_of (minor_writes (n + 1) ops)) (minor-keys n op.act (All-head OpHasKeys op ops k)) (minors-keys (n + 1) ops (All-tail OpHasKeys op ops k)))

-- it writes at keys
pub decided-keys : (s : Script) (ds : List (AttemptId × Epoch)) → ScriptHasKeys s → All TakenHasKeys (taken_in (map (decided_of s) ds))
decided-keys s [] k = All-nil TakenHasKeys
decided-keys s (d ∷ ds) k =
    All-cons TakenHasKeys (record { epoch = d.1; writes = map write_of (minor_writes 0 (attempt_ops s d.0)) }) (taken_in (map (decided_of s) ds)) (minors-keys 0 (attempt_ops s d.0) (attempt-keys s d.0 k)) (decided-keys s ds k)
