-- What a client is past stays so, and it is past an attempt that it ended.
use Rattle.std.specs.Prelude.{ℕ, ◌≡◌, ◌<◌, ◌+◌, ◌⊎◌, ◌++◌, Bool, true, false, ◌&&◌, nat_lt, List, [], ◌∷◌, slice_get, is_some, Option, Some, None, refl, if◌then◌else◌}
use Rattle.std.proofs.Common.{sym, ◌∙◌, ap, subst, arith, inl, inr}
use Rattle.base_types.specs.declared.answer.Answer.{Answer}
use Rattle.base_types.specs.declared.epoch.Epoch.{Epoch}
use Rattle.base_types.specs.declared.id.AttemptId.{AttemptId}
use Rattle.base_types.specs.declared.operation.Cond.{Cond}
use Rattle.base_types.specs.declared.operation.MinorWrite.{MinorWrite}
use Rattle.base_types.specs.declared.operation.Op.{Op}
use Rattle.base_types.specs.declared.operation.Read.{Read}
use Rattle.base_types.specs.declared.outcome.Outcome.{Outcome}
use Rattle.base_types.specs.declared.outcome.Outcome.TheVariants as outcome
use Rattle.base_types.specs.declared.script.Command.{Command}
use Rattle.base_types.specs.declared.script.Command.TheVariants.{Run, Snap, Aggregate, Tell, Skip}
use Rattle.daos_model.specs.Accesses.{minor_writes, op_path}
use Rattle.daos_model.specs.Attempts.{is_restart, snapshot_of_command}
use Rattle.daos_model.specs.Conditions.{holds_where}
use Rattle.world_base.specs.declared.client.ClientPlan.{ClientPlan}
use Rattle.world_base.specs.declared.client.ClientState.{ClientState}
use Rattle.world_base.specs.declared.client.Present.{Present}
use Rattle.world_base.specs.declared.client.Stage.{Stage}
use Rattle.world_base.specs.declared.client.Stage.TheVariants as stage
use Rattle.world_base.specs.ClientTurns.{Move, after_end, asks_or_goes, at_present, attempt_id, attempt_moves, begins_at, begun, command_at, command_moves, commits, condition_told, ends, first_epoch, goes, group_count, group_told, is_waiting, is_yes, joined, moved, moves_at, next_command, next_stage, op_moves, op_told, question, rests, run_moves, told_at, waits}
use Rattle.world_contents.specs.world_letters.epochs.Epochs.{IsPast}
use Rattle.world_contents.specs.world_letters.talks.AskLaws.{waiting-rests}
use Rattle.world_causes.specs.outcomes.Outcomes.{WaitsForEnd}

-- ---- what a client is past

-- it is at the same command, and at the same attempt of it
pub same-past : (c d : ClientState) (x : AttemptId) → d.command ≡ c.command → ((a : Present) → c.present ≡ Some a → (b : Present) × (d.present ≡ Some b) × (b.attempt ≡ a.attempt)) → IsPast c x → IsPast d x
same-past c d x command stays (inl less) = inl (subst (λ n. x.command < n) (sym command) less)
same-past c d x command stays (inr past) = let b = stays past.0 past.1 in inr (b.0, b.1, past.2 ∙ sym command, subst (λ n. x.attempt < n) (sym b.2) past.3)

next-past : (c : ClientState) (x : AttemptId) → IsPast c x → IsPast (next_command c) x
next-past c x (inl less) = inl (omega (arith, less))
next-past c x (inr past) = let same : x.command ≡ c.command = past.2 in inl (omega (arith, same))

-- its attempt is over
pub end-past : (p : ClientPlan) (c : ClientState) (o : Option Command) (a : Present) (how : Outcome) (x : AttemptId) → ((b : Present) → c.present ≡ Some b → b.attempt ≡ a.attempt) → IsPast c x → IsPast (after_end p c o a how) x
end-past p c None a how x same past = next-past c x past
end-past p c (Some d) a how x same past = by (is_restart how && nat_lt (a.attempt + 1) p.attempts) past
  where
    by : (b : Bool) → IsPast c x → IsPast (if b then at_present (begun (a.attempt + 1) a.first (first_epoch c.known (snapshot_of_command d))) c else next_command c) x
    by false past = next-past c x past
    by true (inl less) = inl less
    by true (inr k) =
        let one : k.0.attempt ≡ a.attempt = same k.0 k.1 in
        let less : x.attempt < k.0.attempt = k.3 in
        inr (begun (a.attempt + 1) a.first (first_epoch c.known (snapshot_of_command d)), refl, k.2, omega (arith, one, less))

pub end-own : (p : ClientPlan) (c : ClientState) (o : Option Command) (a : Present) (how : Outcome) → IsPast (after_end p c o a how) (attempt_id p c a)
end-own p c None a how = inl (omega arith)
end-own p c (Some d) a how = by (is_restart how && nat_lt (a.attempt + 1) p.attempts)
  where
    by : (b : Bool) → IsPast (if b then at_present (begun (a.attempt + 1) a.first (first_epoch c.known (snapshot_of_command d))) c else next_command c) (attempt_id p c a)
    by false = inl (omega arith)
    by true = inr (begun (a.attempt + 1) a.first (first_epoch c.known (snapshot_of_command d)), refl, refl, omega arith)

-- ---- moves

module _ (p : ClientPlan) (c : ClientState) (x : AttemptId) (past : IsPast c x) where
  -- it is at an attempt of the same number
  on-past : (a b : Present) (d : ClientState) → c.present ≡ Some a → d.command ≡ c.command → d.present ≡ Some b → b.attempt ≡ a.attempt → IsPast d x
  on-past a b d at command now same = same-past c d x command (λ f is. (b, now, same ∙ (let e : Some a ≡ Some f = sym at ∙ is in let one : a ≡ f = cc in ap (λ z. z.attempt) one))) past

  -- it was at none
  none-past : (d : ClientState) → c.present ≡ None → d.command ≡ c.command → IsPast d x
  none-past d none command = same-past c d x command (λ f is. let no : ⊥ = cc (none, is) in absurd no) past

  ends-past : (a : Present) (how : Outcome) → c.present ≡ Some a → IsPast (ends p c a how).state x
  ends-past a how at = end-past p c (command_at p c) a how x (λ b is. let e : Some b ≡ Some a = sym is ∙ at in let one : b ≡ a = cc in ap (λ z. z.attempt) one) past

  begins-past : (snapshot : Option (List ℕ)) (e : Option Epoch) → c.present ≡ None → IsPast (begins_at p c snapshot e).state x
  begins-past None e none = none-past (at_present (begun 0 None None) c) none refl
  begins-past (Some name) None none = end-past p c (command_at p c) (begun 0 None None) outcome.NoSnapshot x (λ b is. let no : ⊥ = cc (none, is) in absurd no) past
  begins-past (Some name) (Some e) none = none-past (at_present (begun 0 None (Some e)) c) none refl

  command-past : (d : Command) → c.present ≡ None → IsPast (command_moves p c d).state x
  command-past (Run ops turns snapshot) none = begins-past snapshot (first_epoch c.known snapshot) none
  command-past (Snap name cont) none = begins-past None (first_epoch c.known None) none
  command-past (Aggregate cont) none = begins-past None (first_epoch c.known None) none
  command-past (Tell client) none = none-past (command_moves p c (Tell client)).state none refl
  command-past (Skip turns) none = none-past (command_moves p c (Skip turns)).state none refl

  next-attempt : (s : Stage) (a : Present) → (next_stage s a).attempt ≡ a.attempt
  next-attempt stage.Skip a = refl
  next-attempt stage.Cond a = refl
  next-attempt stage.Act a = refl

  commits-past : (a : Present) (ws : List MinorWrite) → c.present ≡ Some a → IsPast (commits p c a ws).state x
  commits-past a [] at = ends-past a outcome.Committed at
  commits-past a (w ∷ ws) at = on-past a (record a { waits = true }) (commits p c a (w ∷ ws)).state at refl refl refl

  asks-past : (a : Present) (snapshot : Bool) (r : Option Read) → c.present ≡ Some a → IsPast (asks_or_goes p c a snapshot r).state x
  asks-past a snapshot None at = on-past a (next_stage a.stage a) (asks_or_goes p c a snapshot None).state at refl refl (next-attempt a.stage a)
  asks-past a snapshot (Some r) at = on-past a (record a { waits = true }) (asks_or_goes p c a snapshot (Some r)).state at refl refl refl

  op-past : (a : Present) (ops : List Op) (snapshot : Bool) (o : Option Op) → c.present ≡ Some a → IsPast (op_moves p c a ops snapshot o).state x
  op-past a ops snapshot None at = commits-past a (minor_writes 0 ops) at
  op-past a ops snapshot (Some op) at = asks-past a snapshot (question a.stage op) at

  run-past : (a : Present) (ops : List Op) (turns : List ℕ) (snapshot : Bool) (s : Stage) → c.present ≡ Some a → IsPast (run_moves p c a ops turns snapshot s).state x
  run-past a ops turns snapshot stage.Skip at = on-past a (next_stage stage.Skip a) (run_moves p c a ops turns snapshot stage.Skip).state at refl refl refl
  run-past a ops turns snapshot stage.Cond at = op-past a ops snapshot (slice_get ops a.op) at
  run-past a ops turns snapshot stage.Act at = op-past a ops snapshot (slice_get ops a.op) at

  attempt-past : (a : Present) (d : Command) → c.present ≡ Some a → IsPast (attempt_moves p c a d).state x
  attempt-past a (Run ops turns snapshot) at = run-past a ops turns (is_some snapshot) a.stage at
  attempt-past a (Snap name cont) at = on-past a (record a { waits = true }) (attempt_moves p c a (Snap name cont)).state at refl refl refl
  attempt-past a (Aggregate cont) at = on-past a (record a { waits = true }) (attempt_moves p c a (Aggregate cont)).state at refl refl refl
  attempt-past a (Tell client) at = past
  attempt-past a (Skip turns) at = past

  moves-past : (o : Option Command) (present : Option Present) → c.present ≡ present → IsPast (moves_at p c o present).state x
  moves-past None present here = past
  moves-past (Some d) None here = command-past d here
  moves-past (Some d) (Some a) here = attempt-past a d here

  pub moved-past : IsPast (moved p c).state x
  unfolding moved
  moved-past = by (waits c)
    where
      by : (b : Bool) → IsPast (if b then rests c else moves_at p c (command_at p c) c.present).state x
      by true = past
      by false = moves-past (command_at p c) c.present refl

-- a client that waits for an end rests
pub moved-how : (p : ClientPlan) (c : ClientState) (x : AttemptId) → IsPast c x ⊎ WaitsForEnd p c x → IsPast (moved p c).state x ⊎ WaitsForEnd p (moved p c).state x
moved-how p c x (inl past) = inl (moved-past p c x past)
moved-how p c x (inr k) = inr (subst (λ m. WaitsForEnd p m.state x) (sym (waiting-rests p c (ap is_waiting k.present ∙ k.waits))) k)

-- ---- an answer to a read

-- the attempt goes on, or ends since a condition doesn't hold
pub data AnswerDoes (p : ClientPlan) (c : ClientState) (a : Present) (m : Move) : Type 0 where
  OnWith : (b : Present) → b.attempt ≡ a.attempt → m ≡ goes (at_present b c) → AnswerDoes p c a m
  FailsWith : (b : Present) (op : ℕ) → b.attempt ≡ a.attempt → m ≡ ends p c b (outcome.CondFailed op) → AnswerDoes p c a m

module _ (p : ClientPlan) (c : ClientState) (a : Present) where
  condition-does : (cond : Cond) (there : Bool) → AnswerDoes p c a (condition_told p c a cond there)
  condition-does cond there = by (holds_where there cond)
    where
      by : (b : Bool) → AnswerDoes p c a (if b then goes (at_present (next_stage stage.Cond (record a { conds = a.conds ++ (a.op, there) ∷ [] })) c) else ends p c (record a { conds = a.conds ++ (a.op, there) ∷ [] }) (outcome.CondFailed a.op))
      by true = OnWith (next_stage stage.Cond (record a { conds = a.conds ++ (a.op, there) ∷ [] })) refl refl
      by false = FailsWith (record a { conds = a.conds ++ (a.op, there) ∷ [] }) a.op refl refl

  told-does : (cond : Cond) (s : Stage) (b : Answer) → AnswerDoes p c a (told_at p c a cond s b)
  told-does cond stage.Skip b = OnWith a refl refl
  told-does cond stage.Cond b = condition-does cond (is_yes b)
  told-does cond stage.Act b = OnWith _ refl refl

  group-does : (op : Op) (b : Answer) → AnswerDoes p c a (group_told p c a op b)
  group-does op b = by (nat_lt (a.group + 1) (group_count (op_path op).obj (op_path op).dkey p.targets))
    where
      by : (l : Bool) → AnswerDoes p c a (if l then goes (at_present (record a { group = a.group + 1; found = Some (joined a.found b) }) c) else told_at p c a op.cond a.stage (joined a.found b))
      by true = OnWith (record a { group = a.group + 1; found = Some (joined a.found b) }) refl refl
      by false = told-does op.cond a.stage (joined a.found b)

  pub op-does : (b : Answer) (o : Option Op) → AnswerDoes p c a (op_told p c a b o)
  op-does b None = OnWith a refl refl
  op-does b (Some op) = group-does op b
