-- Lines of freezes, of snapshots and of aggregations are such as a report's text determines, where attempts make them.
use Rattle.std.specs.Prelude.{ℕ, ◌≡◌, ◌<◌, ◌^◌, List, Some}
use Rattle.base_types.specs.declared.epoch.Epoch.{Epoch}
use Rattle.base_types.specs.declared.id.AttemptId.{AttemptId}
use Rattle.base_types.specs.declared.id.ContId.{ContId}
use Rattle.base_types.specs.declared.script.Command.TheVariants as command
use Rattle.base_types.specs.declared.script.Script.{Script}
use Rattle.base_types.specs.Keys.{IsKey}
use Rattle.base_types.specs.Scripts as scripts
use Rattle.base_types.specs.Scripts.{IsInForm, SnapName, all_snaps}
use Rattle.daos_model.specs.Transactions.{command_of}
use Rattle.model_laws.specs.DecidedLaws.{has-all}
use Rattle.report_writer.specs.Forms.{IsAggregateOf, IsContOf, IsEpoch, IsFreezeOf, IsSnapshotOf}
use Rattle.script_traits.specs.Keyed.{ScriptHasKeys}
use Rattle.world_upheld.specs.upheld.Named.{command-knows, made-named}

module _ (s : Script) (form : IsInForm s.targets s) (keys : ScriptHasKeys s) where
  -- a declared container is named
  cont-form : (c : ContId) → scripts.IsContOf s.conts c → IsContOf s c
  cont-form c i = record {
    names = record { cont_keys = keys.conts; cont_names = form.declared.cont_names; obj_keys = keys.objs; obj_names = form.declared.obj_names };
    declared = i;
  }

  snapped-cont : (x : AttemptId) (name : List ℕ) (c : ContId) → command_of s x ≡ Some (command.Snap name c) → IsContOf s c
  snapped-cont x name c is = cont-form c (command-knows s x (command.Snap name c) form is).1

  aggregated-cont : (x : AttemptId) (c : ContId) → command_of s x ≡ Some (command.Aggregate c) → IsContOf s c
  aggregated-cont x c is = cont-form c (command-knows s x (command.Aggregate c) form is).1

  -- ---- lines

  pub freeze-form : (x : AttemptId) (name : List ℕ) (t : ℕ) (c : ContId) (e : Epoch) → command_of s x ≡ Some (command.Snap name c) → t < 2 ^ 8 → IsEpoch e → IsFreezeOf s t c e
  freeze-form x name t c e is low short = record { of_target = low; named = snapped-cont x name c is; issued = short }

  pub snapshot-form : (x : AttemptId) (name : List ℕ) (c : ContId) (e : Epoch) → command_of s x ≡ Some (command.Snap name c) → IsEpoch e → IsSnapshotOf s name c e
  snapshot-form x name c e is short =
      record { key = has-all (λ (k : SnapName). IsKey k.0) (all_snaps s.clients) (name, c) keys.snaps (made-named s x name c is); named = snapped-cont x name c is; issued = short }

  pub aggregate-form : (x : AttemptId) (n t : ℕ) (c : ContId) (upto : Epoch) → command_of s x ≡ Some (command.Aggregate c) → t < 2 ^ 8 → n < 2 ^ 32 → IsEpoch upto → IsAggregateOf s n t c upto
  aggregate-form x n t c upto is low few short = record { which = few; of_target = low; named = aggregated-cont x c is; issued = short }
