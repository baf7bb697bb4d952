-- A client that goes on comes nearer to the end of its commands.
use Rattle.std.proofs.Common.{◌≡◌, ℕ, ◌+◌, ◌-◌, ◌*◌, ◌<◌, ◌≤◌, Bool, true, false, List, [], ◌∷◌, length, slice_get, is_some, Option, None, Some, refl, ◌∙◌, ap, subst, arith, ◌⊎◌, inl, inr}
use Rattle.std.proofs.lemmas.Option.{slice_get_within}
use Rattle.base_types.specs.declared.epoch.Epoch.{Epoch}
use Rattle.base_types.specs.declared.operation.MinorWrite.{MinorWrite}
use Rattle.base_types.specs.declared.operation.Op.{Op}
use Rattle.base_types.specs.declared.operation.Read.{Read}
use Rattle.base_types.specs.declared.outcome.Outcome.TheVariants as outcome
use Rattle.base_types.specs.declared.script.Command.{Command}
use Rattle.base_types.specs.declared.script.Command.TheVariants.{Run, Snap, Aggregate, Tell, Skip}
use Rattle.daos_model.specs.Accesses.{minor_writes}
use Rattle.world_base.specs.declared.client.ClientPlan.{ClientPlan}
use Rattle.world_base.specs.declared.client.ClientState.{ClientState}
use Rattle.world_base.specs.declared.client.Present.{Present}
use Rattle.world_base.specs.declared.client.Stage.{Stage}
use Rattle.world_base.specs.declared.client.Stage.TheVariants as stage
use Rattle.world_base.specs.ClientTurns.{Move, after_end, asks_or_goes, attempt_moves, begins_at, command_at, command_moves, commits, ends, first_epoch, moved, next_stage, op_moves, question, run_moves, waits}
use Rattle.client_core.specs.Clients.{CommandFits, OpsFit, PlanFits}
use Rattle.client_moves.specs.Places.{command_fits, moved_begins, moved_done, moved_on, moved_waits, op_within}

-- how much is left of an operation
abbrev stage_weight : Stage → ℕ
stage_weight stage.Skip = 2
stage_weight stage.Cond = 1
stage_weight stage.Act = 0

-- how much is left of a command
abbrev present_weight : Option Present → ℕ
present_weight None = 200
present_weight (Some a) = 3 * (65 - a.op) + stage_weight a.stage

-- how much is left of all commands
abbrev pub weight : ClientPlan → ClientState → ℕ
weight p c = (length p.commands - c.place) * 201 + present_weight c.present

-- behind its command, or further in it
data Goes (c s : ClientState) : Type 0 where
  Next : s.place ≡ c.place + 1 → Goes c s
  Less : s.place ≡ c.place → present_weight s.present < present_weight c.present → Goes c s

stage_light : (s : Stage) → stage_weight s ≤ 2
stage_light stage.Skip = omega arith
stage_light stage.Cond = omega arith
stage_light stage.Act = omega arith

present_light : (q : Option Present) → present_weight q < 201
present_light None = omega arith
present_light (Some a) = omega (arith, stage_light a.stage)

lighter_from : (p : ClientPlan) (c s : ClientState) → c.place < length p.commands → Goes c s → weight p s < weight p c
lighter_from p c s lt (Next e) =
    let w : weight p s ≡ (length p.commands - (c.place + 1)) * 201 + present_weight s.present = ap (λ n. (length p.commands - n) * 201 + present_weight s.present) e in
    omega (arith, lt, w, present_light s.present)
lighter_from p c s lt (Less e l) =
    let w : weight p s ≡ (length p.commands - c.place) * 201 + present_weight s.present = ap (λ n. (length p.commands - n) * 201 + present_weight s.present) e in
    omega (arith, w, l)

committed_goes : (p : ClientPlan) (c : ClientState) (a : Present) → Goes c (ends p c a outcome.Committed).state
committed_goes p c a = by (command_at p c)
  where
    by : (o : Option Command) → Goes c (after_end p c o a outcome.Committed)
    by None = Next refl
    by (Some d) = Next refl

unknown_goes : (p : ClientPlan) (c : ClientState) (a : Present) → Goes c (ends p c a outcome.NoSnapshot).state
unknown_goes p c a = by (command_at p c)
  where
    by : (o : Option Command) → Goes c (after_end p c o a outcome.NoSnapshot)
    by None = Next refl
    by (Some d) = Next refl

begins_goes : (p : ClientPlan) (c : ClientState) (snapshot : Option (List ℕ)) (e : Option Epoch) → c.present ≡ None → Goes c (begins_at p c snapshot e).state
begins_goes p c None e none = Less refl (omega (arith, ap present_weight none))
begins_goes p c (Some name) None none = unknown_goes p c _
begins_goes p c (Some name) (Some e) none = Less refl (omega (arith, ap present_weight none))

command_goes : (p : ClientPlan) (c : ClientState) (d : Command) → c.present ≡ None → Goes c (command_moves p c d).state
command_goes p c (Run ops turns snapshot) none = begins_goes p c snapshot (first_epoch c.known snapshot) none
command_goes p c (Snap name cont) none = begins_goes p c None (first_epoch c.known None) none
command_goes p c (Aggregate cont) none = begins_goes p c None (first_epoch c.known None) none
command_goes p c (Tell client) none = Next refl
command_goes p c (Skip turns) none = Next refl

commits_goes : (p : ClientPlan) (c : ClientState) (a : Present) (ws : List MinorWrite) → (commits p c a ws).over ≡ false → Goes c (commits p c a ws).state
commits_goes p c a [] on = committed_goes p c a
commits_goes p c a (w ∷ ws) on = absurd (cc)

-- the next stage is nearer to the end of the operation, and the next operation nearer to that of all
next_light : (a : Present) (s : Stage) → a.op < 64 → present_weight (Some (next_stage s a)) < 3 * (65 - a.op) + stage_weight s ⊎ s ≡ stage.Skip
next_light a stage.Skip lt = inr refl
next_light a stage.Cond lt = inl (omega arith)
next_light a stage.Act lt = inl (omega (arith, lt))

asks_goes :
    (p : ClientPlan) (c : ClientState) (a : Present) (snapshot : Bool) (s : Stage) (r : Option Read)
    → c.present ≡ Some a → a.stage ≡ s → (s ≡ stage.Skip → ⊥) → a.op < 64 → (asks_or_goes p c a snapshot r).over ≡ false → Goes c (asks_or_goes p c a snapshot r).state
asks_goes p c a snapshot s None is at past lt on = Less refl (by (next_light a s lt))
  where
    by : present_weight (Some (next_stage s a)) < 3 * (65 - a.op) + stage_weight s ⊎ s ≡ stage.Skip → present_weight (Some (next_stage a.stage a)) < present_weight c.present
    by (inl l) =
        omega (arith, l, ap present_weight is, ap stage_weight at, ap (λ x. present_weight (Some (next_stage x a))) at)
    by (inr e) = absurd (past e)
asks_goes p c a snapshot s (Some r) is at past lt on = absurd (cc)

op_goes :
    (p : ClientPlan) (c : ClientState) (a : Present) (ops : List Op) (snapshot : Bool) (s : Stage) (o : Option Op)
    → OpsFit p.targets ops → slice_get ops a.op ≡ o → c.present ≡ Some a → a.stage ≡ s → (s ≡ stage.Skip → ⊥)
    → (op_moves p c a ops snapshot o).over ≡ false → Goes c (op_moves p c a ops snapshot o).state
op_goes p c a ops snapshot s None fits get is at past on = commits_goes p c a (minor_writes 0 ops) on
op_goes p c a ops snapshot s (Some op) fits get is at past on = asks_goes p c a snapshot s (question a.stage op) is at past (op_within p.targets ops a.op op fits get) on

run_goes :
    (p : ClientPlan) (c : ClientState) (a : Present) (ops : List Op) (turns : List ℕ) (snapshot : Bool) (s : Stage)
    → OpsFit p.targets ops → c.present ≡ Some a → a.stage ≡ s → (run_moves p c a ops turns snapshot s).over ≡ false → Goes c (run_moves p c a ops turns snapshot s).state
run_goes p c a ops turns snapshot stage.Skip fits is at on = Less refl (omega (arith, ap present_weight is, ap stage_weight at))
run_goes p c a ops turns snapshot stage.Cond fits is at on = op_goes p c a ops snapshot stage.Cond (slice_get ops a.op) fits refl is at (λ e. cc) on
run_goes p c a ops turns snapshot stage.Act fits is at on = op_goes p c a ops snapshot stage.Act (slice_get ops a.op) fits refl is at (λ e. cc) on

attempt_goes : (p : ClientPlan) (c : ClientState) (a : Present) (d : Command) → CommandFits p.targets d → c.present ≡ Some a → (attempt_moves p c a d).over ≡ false → Goes c (attempt_moves p c a d).state
attempt_goes p c a (Run ops turns snapshot) fits is on = run_goes p c a ops turns (is_some snapshot) a.stage fits is refl on
attempt_goes p c a (Snap name cont) fits is on = absurd (cc)
attempt_goes p c a (Aggregate cont) fits is on = absurd (cc)
attempt_goes p c a (Tell client) fits is on = absurd (cc)
attempt_goes p c a (Skip turns) fits is on = absurd (cc)

-- less is left behind a move that doesn't end the turn
pub lighter : (p : ClientPlan) (c : ClientState) → PlanFits p → (moved p c).over ≡ false → weight p (moved p c).state < weight p c
lighter p c fits on = by (waits c) (command_at p c) c.present refl refl refl
  where
    by : (b : Bool) (o : Option Command) (q : Option Present) → waits c ≡ b → command_at p c ≡ o → c.present ≡ q → weight p (moved p c).state < weight p c
    by true o q w i r = let wrong : true ≡ false = ap (λ (m : Move). m.over) (moved_waits p c w) ∙ on in absurd (cc)
    by false None q w i r = let wrong : true ≡ false = ap (λ (m : Move). m.over) (moved_done p c w i) ∙ on in absurd (cc)
    by false (Some d) None w i r =
        subst (λ m. weight p m.state < weight p c) (moved_begins p c d w i r)
        (lighter_from p c _ (slice_get_within p.commands c.place d i) (command_goes p c d r))
    by false (Some d) (Some a) w i r =
        subst (λ m. weight p m.state < weight p c) (moved_on p c d a w i r)
        (lighter_from p c _ (slice_get_within p.commands c.place d i)
        (attempt_goes p c a d (command_fits p c d fits i) r (ap (λ (m : Move). m.over) (moved_on p c d a w i r) ∙ on)))
