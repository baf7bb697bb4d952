-- What is known of a target when a turn of it begins; and a floor that refuses an access shows why.
use Rattle.std.specs.Prelude.{ℕ, ◌≡◌, ◌≤◌, ◌<◌, ◌/◌, Any, List, [], ◌∷◌, map, Contains, Option, Some, None}
use Rattle.std.proofs.Common.{inl, inr, sym, subst}
use Rattle.base_types.specs.declared.epoch.Epoch.{Epoch}
use Rattle.base_types.specs.declared.id.AttemptId.{AttemptId}
use Rattle.base_types.specs.declared.id.ContId.{ContId}
use Rattle.base_types.specs.declared.outcome.Cause.{Cause}
use Rattle.base_types.specs.declared.outcome.FloorWhy.{FloorWhy}
use Rattle.base_types.specs.declared.path.Path.{Path}
use Rattle.base_types.specs.declared.report.Line.{Line}
use Rattle.base_types.specs.declared.script.Command.{Command}
use Rattle.base_types.specs.declared.script.Command.TheVariants.{Run, Snap, Aggregate, Tell, Skip}
use Rattle.base_types.specs.declared.script.Script.{Script}
use Rattle.model_laws.specs.Members.{Has, contains-from_has, has-map}
use Rattle.daos_model.specs.Accesses.{access_paths, attempt_targets}
use Rattle.daos_model.specs.CausesShown.{ShowsFloor, containers_or_none}
use Rattle.daos_model.specs.Opening.{Opening, top}
use Rattle.daos_model.specs.Order.{told_by_cause}
use Rattle.daos_model.specs.Transactions.{attempt_ops, command_of, ops_or_none}
use Rattle.world_base.specs.Changes.{Kept}
use Rattle.world_base.specs.Events.{Rules}
use Rattle.world_causes.specs.causes.Causes.{Dated}
use Rattle.world_causes.specs.causes.Floors.{AreTold, IsFloorAt, has-line}
use Rattle.world_causes.specs.causes.Premises.{AreWritten}
use Rattle.world_causes.specs.causes.Shown.{CauseStands, IsTold, limit_over}

-- what is known of a target when a turn begins
pub record IsTarget (r : Rules) (o : Opening) (issued : Dated) (lines : List Line) (t : ℕ) (opening : Epoch × FloorWhy) (old : Kept) : Type 0 where
  pub floors : AreTold o lines t opening old.durable
  -- floors that lines tell of are within the limit, and so are epochs
  pub within : (floor : Epoch) (cont : ContId) (reason : FloorWhy) → Any (ShowsFloor t floor cont reason) lines → floor.0 / 256 ≤ limit_over o lines issued
  pub dates : (x : AttemptId) (e : Epoch) → Contains issued (x, e) → e.0 / 256 ≤ limit_over o lines issued
  pub written : AreWritten r issued (top o) old.durable.versions
  -- an attempt has one epoch at most
  pub once : (x : AttemptId) (e f : Epoch) → Contains issued (x, e) → Contains issued (x, f) → e ≡ f

-- an attempt has this target, where a line tells of a floor of it
abbrev pub HasTarget : Rules → List Line → AttemptId → ℕ → Type 0
HasTarget r lines x t = (floor : Epoch) (cont : ContId) (reason : FloorWhy) → Any (ShowsFloor t floor cont reason) lines → Contains (attempt_targets r.script x) t

-- the container of an access is one of the command's
accessed : (s : Script) (x : AttemptId) (p : Path) → Has p (access_paths (attempt_ops s x)) → Contains (containers_or_none (command_of s x)) p.cont
accessed s x p i = by (command_of s x) i
  where
    by : (d : Option Command) → Has p (access_paths (ops_or_none d)) → Contains (containers_or_none d) p.cont
    by None j = absurd j
    by (Some (Run ops skips snapshot)) j = contains-from_has (map (λ q. q.cont) (access_paths ops)) p.cont (has-map (λ q. q.cont) (access_paths ops) p j)
    by (Some (Snap name cont)) j = absurd j
    by (Some (Aggregate cont)) j = absurd j
    by (Some (Tell client)) j = absurd j
    by (Some (Skip turns)) j = absurd j

-- a floor that refuses an access shows why, and its epoch is within the limit
pub record IsFloorShown (r : Rules) (o : Opening) (issued now : Dated) (lines : List Line) (x : AttemptId) (c : Cause) : Type 0 where
  pub stands : CauseStands r now lines x c
  pub told : (n : ℕ) → Has n (told_by_cause c) → n / 256 ≤ limit_over o lines issued

pub floor-shown : (r : Rules) (o : Opening) (issued now : Dated) (lines : List Line) (t : ℕ) (opening : Epoch × FloorWhy) (old : Kept) (x : AttemptId) (e : Epoch) (p : Path) (floor : Epoch × FloorWhy) (c : Cause) → IsTarget r o issued lines t opening old
    → top o < e.0 → Contains now (x, e) → Has p (access_paths (attempt_ops r.script x)) → HasTarget r lines x t → IsTold o lines t p.cont floor.0 floor.1 → IsFloorAt t e.0 floor c → IsFloorShown r o issued now lines x c
floor-shown r o issued now lines t opening old x e p floor c T above its access target told k = subst (IsFloorShown r o issued now lines x) (sym k.is) (record {
  stands = record {
    own = e;
    its = its;
    reached = k.reached;
    target = target floor.0 p.cont floor.1 shown;
    cont = p.cont;
    accessed = accessed r.script x p access;
    shown = shown;
  };
  told = λ n i. one n i;
})
  where
    shown : Any (ShowsFloor t floor.0 p.cont floor.1) lines
    shown = has-line o lines t p.cont floor.0 floor.1 e.0 above k.reached told

    one : (n : ℕ) → Has n (floor.0.0 ∷ []) → n / 256 ≤ limit_over o lines issued
    one n (inl same) = subst (λ m. m / 256 ≤ limit_over o lines issued) (sym same) (T.within floor.0 p.cont floor.1 shown)
    one n (inr none) = absurd none
