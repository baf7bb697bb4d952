-- What a client's moves and hearing tell of committed attempts.
use Rattle.std.specs.Prelude.{ℕ, ◌≡◌, Bool, true, false, List, [], ◌∷◌, slice_get, is_some, Option, Some, None, refl, if◌then◌else◌}
use Rattle.base_types.specs.declared.epoch.Epoch.{Epoch}
use Rattle.base_types.specs.declared.operation.Cond.{Cond}
use Rattle.base_types.specs.declared.operation.MinorWrite.{MinorWrite}
use Rattle.base_types.specs.declared.operation.Op.{Op}
use Rattle.base_types.specs.declared.operation.Read.{Read}
use Rattle.base_types.specs.declared.outcome.Outcome.TheVariants as outcome
use Rattle.base_types.specs.declared.script.Command.{Command}
use Rattle.base_types.specs.declared.script.Command.TheVariants.{Run, Snap, Aggregate, Tell, Skip}
use Rattle.daos_model.specs.Accesses.{minor_writes}
use Rattle.daos_model.specs.Transactions.{ops_of}
use Rattle.world_base.specs.declared.client.ClientPlan.{ClientPlan}
use Rattle.world_base.specs.declared.client.ClientState.{ClientState}
use Rattle.world_base.specs.declared.client.Present.{Present}
use Rattle.world_base.specs.declared.client.Stage.{Stage}
use Rattle.world_base.specs.declared.client.Stage.TheVariants as stage
use Rattle.world_base.specs.ClientTurns.{Move, asks_or_goes, attempt_moves, begins_at, begun, command_at, command_moves, commits, ends, first_epoch, moved, moves_at, op_moves, question, rests, run_moves, waits}

-- what a move tells: nothing; that an attempt without writes is committed; or that one reads at a snapshot that isn't known
pub data MoveTells (p : ClientPlan) (c : ClientState) (m : Move) : Type 0 where
  Nothing : m.line ≡ None → MoveTells p c m
  AllRead : (d : Command) (a : Present) → command_at p c ≡ Some d → c.present ≡ Some a → minor_writes 0 (ops_of d) ≡ [] → m ≡ ends p c a outcome.Committed → MoveTells p c m
  NoSnap : c.present ≡ None → m ≡ ends p c (begun 0 None None) outcome.NoSnapshot → MoveTells p c m

commits-tells : (p : ClientPlan) (c : ClientState) (d : Command) (a : Present) (ws : List MinorWrite) → command_at p c ≡ Some d → c.present ≡ Some a → minor_writes 0 (ops_of d) ≡ ws → MoveTells p c (commits p c a ws)
commits-tells p c d a [] at here none = AllRead d a at here none refl
commits-tells p c d a (w ∷ ws) at here some = Nothing refl

asks-tells : (p : ClientPlan) (c : ClientState) (a : Present) (snapshot : Bool) (r : Option Read) → MoveTells p c (asks_or_goes p c a snapshot r)
asks-tells p c a snapshot None = Nothing refl
asks-tells p c a snapshot (Some r) = Nothing refl

op-tells : (p : ClientPlan) (c : ClientState) (d : Command) (a : Present) (snapshot : Bool) (o : Option Op) → command_at p c ≡ Some d → c.present ≡ Some a → MoveTells p c (op_moves p c a (ops_of d) snapshot o)
op-tells p c d a snapshot None at here = commits-tells p c d a (minor_writes 0 (ops_of d)) at here refl
op-tells p c d a snapshot (Some op) at here = asks-tells p c a snapshot (question a.stage op)

run-tells : (p : ClientPlan) (c : ClientState) (d : Command) (a : Present) (turns : List ℕ) (snapshot : Bool) (s : Stage) → command_at p c ≡ Some d → c.present ≡ Some a
    → MoveTells p c (run_moves p c a (ops_of d) turns snapshot s)
run-tells p c d a turns snapshot stage.Skip at here = Nothing refl
run-tells p c d a turns snapshot stage.Cond at here = op-tells p c d a snapshot (slice_get (ops_of d) a.op) at here
run-tells p c d a turns snapshot stage.Act at here = op-tells p c d a snapshot (slice_get (ops_of d) a.op) at here

attempt-tells : (p : ClientPlan) (c : ClientState) (d : Command) (a : Present) → command_at p c ≡ Some d → c.present ≡ Some a → MoveTells p c (attempt_moves p c a d)
attempt-tells p c (Run ops turns snapshot) a at here = run-tells p c (Run ops turns snapshot) a turns (is_some snapshot) a.stage at here
attempt-tells p c (Snap name cont) a at here = Nothing refl
attempt-tells p c (Aggregate cont) a at here = Nothing refl
attempt-tells p c (Tell client) a at here = Nothing refl
attempt-tells p c (Skip turns) a at here = Nothing refl

begins-tells : (p : ClientPlan) (c : ClientState) (snapshot : Option (List ℕ)) (e : Option Epoch) → c.present ≡ None → MoveTells p c (begins_at p c snapshot e)
begins-tells p c None e none = Nothing refl
begins-tells p c (Some name) None none = NoSnap none refl
begins-tells p c (Some name) (Some e) none = Nothing refl

command-tells : (p : ClientPlan) (c : ClientState) (d : Command) → c.present ≡ None → MoveTells p c (command_moves p c d)
command-tells p c (Run ops turns snapshot) none = begins-tells p c snapshot (first_epoch c.known snapshot) none
command-tells p c (Snap name cont) none = begins-tells p c None (first_epoch c.known None) none
command-tells p c (Aggregate cont) none = begins-tells p c None (first_epoch c.known None) none
command-tells p c (Tell client) none = Nothing refl
command-tells p c (Skip turns) none = Nothing refl

moves-at-tells : (p : ClientPlan) (c : ClientState) (o : Option Command) (present : Option Present) → command_at p c ≡ o → c.present ≡ present → MoveTells p c (moves_at p c o present)
moves-at-tells p c None present at here = Nothing refl
moves-at-tells p c (Some d) None at here = command-tells p c d here
moves-at-tells p c (Some d) (Some a) at here = attempt-tells p c d a at here

pub moved-tells : (p : ClientPlan) (c : ClientState) → MoveTells p c (moved p c)
unfolding moved
moved-tells p c = by (waits c)
  where
    by : (b : Bool) → MoveTells p c (if b then rests c else moves_at p c (command_at p c) c.present)
    by true = Nothing refl
    by false = moves-at-tells p c (command_at p c) c.present refl refl
