-- A client from which the attempt is taken that it is at makes the same moves.
use Rattle.std.proofs.Common.{◌≡◌, ℕ, Bool, true, false, List, [], ◌∷◌, is_some, slice_get, Option, None, Some, refl, sym, ap}
use Rattle.base_types.specs.declared.operation.MinorWrite.{MinorWrite}
use Rattle.base_types.specs.declared.operation.Op.{Op}
use Rattle.base_types.specs.declared.operation.Read.{Read}
use Rattle.base_types.specs.declared.outcome.Outcome.{Outcome}
use Rattle.base_types.specs.declared.outcome.Outcome.TheVariants as outcome
use Rattle.base_types.specs.declared.script.Command.{Command}
use Rattle.base_types.specs.declared.script.Command.TheVariants.{Run, Snap, Aggregate, Tell, Skip}
use Rattle.base_types.specs.Scripts.{is_numbered}
use Rattle.daos_model.specs.Accesses.{minor_writes}
use Rattle.world_base.specs.declared.client.ClientPlan.{ClientPlan}
use Rattle.world_base.specs.declared.client.ClientState.{ClientState}
use Rattle.world_base.specs.declared.client.Present.{Present}
use Rattle.world_base.specs.declared.client.Stage.{Stage}
use Rattle.world_base.specs.declared.client.Stage.TheVariants as stage
use Rattle.world_base.specs.ClientTurns.{after_end, asks_or_goes, attempt_moves, command_at, commits, end_line, ends, op_moves, question, run_moves}
use Rattle.client_moves.specs.Moves.{at_none}

-- one that is at none stays as it is
pub none_taken : (c : ClientState) → c.present ≡ None → at_none c ≡ c
none_taken c none = ap (λ q. record c { present = q }) (sym none)

module _ (p : ClientPlan) (c : ClientState) (a : Present) where
  after_taken : (how : Outcome) (o : Option Command) → after_end p (at_none c) o a how ≡ after_end p c o a how
  after_taken how None = refl
  after_taken how (Some d) = refl

  pub ends_taken : (how : Outcome) → ends p (at_none c) a how ≡ ends p c a how
  ends_taken how = ap (λ s. record { post = None; line = Some (end_line p c a how); over = false; state = s }) (after_taken how (command_at p c))

  commits_taken : (ws : List MinorWrite) → commits p (at_none c) a ws ≡ commits p c a ws
  commits_taken [] = ends_taken outcome.Committed
  commits_taken (w ∷ ws) = refl

  asks_taken : (snapshot : Bool) (r : Option Read) → asks_or_goes p (at_none c) a snapshot r ≡ asks_or_goes p c a snapshot r
  asks_taken snapshot None = refl
  asks_taken snapshot (Some r) = refl

  op_taken : (ops : List Op) (snapshot : Bool) (o : Option Op) → op_moves p (at_none c) a ops snapshot o ≡ op_moves p c a ops snapshot o
  op_taken ops snapshot None = commits_taken (minor_writes 0 ops)
  op_taken ops snapshot (Some op) = asks_taken snapshot (question a.stage op)

  run_taken : (ops : List Op) (skips : List ℕ) (snapshot : Bool) (s : Stage) → run_moves p (at_none c) a ops skips snapshot s ≡ run_moves p c a ops skips snapshot s
  run_taken ops skips snapshot stage.Skip = refl
  run_taken ops skips snapshot stage.Cond = op_taken ops snapshot (slice_get ops a.op)
  run_taken ops skips snapshot stage.Act = op_taken ops snapshot (slice_get ops a.op)

  pub attempt_taken : (d : Command) → is_numbered d ≡ true → attempt_moves p (at_none c) a d ≡ attempt_moves p c a d
  attempt_taken (Run ops skips snapshot) numbered = run_taken ops skips (is_some snapshot) a.stage
  attempt_taken (Snap name cont) numbered = refl
  attempt_taken (Aggregate cont) numbered = refl
  attempt_taken (Tell client) numbered = let no : false ≡ true = numbered in absurd (cc)
  attempt_taken (Skip n) numbered = let no : false ≡ true = numbered in absurd (cc)
