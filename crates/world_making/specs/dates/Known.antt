-- What a client does and hears leaves the snapshots that it knows at their epochs.
use Rattle.std.specs.Prelude.{ℕ, ◌≡◌, ◌+◌, ◌++◌, ◌&&◌, is_some, Bool, true, false, nat_lt, List, [], ◌∷◌, slice_get, Option, Some, None, refl, if◌then◌else◌}
use Rattle.std.proofs.Common.{sym, ◌∙◌, ap, subst, inl, inr}
use Rattle.std.proofs.Math.ListN.{set}
use Rattle.base_types.specs.declared.answer.Answer.{Answer}
use Rattle.base_types.specs.declared.epoch.Epoch.{Epoch}
use Rattle.base_types.specs.declared.operation.Cond.{Cond}
use Rattle.base_types.specs.declared.operation.MinorWrite.{MinorWrite}
use Rattle.base_types.specs.declared.operation.Op.{Op}
use Rattle.base_types.specs.declared.operation.Read.{Read}
use Rattle.base_types.specs.declared.outcome.Cause.TheVariants.{Unresolved}
use Rattle.base_types.specs.declared.outcome.Outcome.{Outcome}
use Rattle.base_types.specs.declared.outcome.Outcome.TheVariants as outcome
use Rattle.base_types.specs.declared.script.Command.{Command}
use Rattle.base_types.specs.declared.script.Command.TheVariants.{Aggregate, Run, Skip, Snap, Tell}
use Rattle.base_messages.specs.declared.message.Message.{Message, more_of-Message}
use Rattle.base_messages.specs.declared.message.Message.TheVariants as message
use Rattle.base_messages.specs.declared.message.Reply.{Reply}
use Rattle.base_messages.specs.declared.message.Reply.TheVariants as reply
use Rattle.daos_model.specs.Accesses.{minor_writes, op_path}
use Rattle.daos_model.specs.Attempts.{is_restart, snapshot_of_command}
use Rattle.daos_model.specs.Conditions.{holds_where}
use Rattle.world_base.specs.declared.client.ClientPlan.{ClientPlan}
use Rattle.world_base.specs.declared.client.ClientState.{ClientState}
use Rattle.world_base.specs.declared.client.Present.{Present}
use Rattle.world_base.specs.declared.client.Stage.{Stage}
use Rattle.world_base.specs.declared.client.Stage.TheVariants as stage
use Rattle.world_base.specs.declared.world.World.{World}
use Rattle.world_base.specs.ClientTurns.{Move, about, after_end, answered, asks_or_goes, at_present, attempt_id, attempt_moves, begins_at, begun, command_at, command_moves, commits, condition_told, ended, ends, first_epoch, goes, group_count, group_told, heard, heard_at, hears_epochs, is_about, is_yes, joined, known_epoch, knows, moved, moves_at, next_command, next_stage, op_moves, op_of, op_told, question, replied, reset, reset_by, rests, run_moves, snaps_known, told_at, waits}
use Rattle.world_base.specs.Events.{ByClient, ByTarget, Rules, ToClient, ToTarget, client_plan}
use Rattle.world_base.specs.StepLaws.{by-hearing, by-next, set-here, set-there}
use Rattle.world_base.specs.Steps.{KeptByCounting, KeptByHearing, KeptByMoves}
use Rattle.world_base.specs.Stops.{Draws, Fails, Further, GivenUp, Happening, IsCut, Opens, Plainly}
use Rattle.world_letters.specs.epochs.Lists.{one-value, same-number}
use Rattle.world_making.specs.dates.Answering.{snaps-more}
use Rattle.world_making.specs.dates.Clients.{KeepsKnown}
use Rattle.world_making.specs.dates.Laws.{EventsKeepKnown}
use Rattle.world_making.specs.dates.Moves.{keeps-same}

-- ---- moves

module _ (p : ClientPlan) (c : ClientState) where
  -- a move leaves what is known
  abbrev Same : Move → Type 0
  Same m = m.state.known ≡ c.known

  after-same : (o : Option Command) (a : Present) (how : Outcome) → (after_end p c o a how).known ≡ c.known
  after-same None a how = refl
  after-same (Some d) a how = by (is_restart how && nat_lt (a.attempt + 1) p.attempts)
    where
      by : (b : Bool) → (if b then at_present (begun (a.attempt + 1) a.first (first_epoch c.known (snapshot_of_command d))) c else next_command c).known ≡ c.known
      by true = refl
      by false = refl

  ends-same : (a : Present) (how : Outcome) → Same (ends p c a how)
  ends-same a how = after-same (command_at p c) a how

  commits-same : (a : Present) (ws : List MinorWrite) → Same (commits p c a ws)
  commits-same a [] = ends-same a outcome.Committed
  commits-same a (w ∷ ws) = refl

  asks-same : (a : Present) (snapshot : Bool) (q : Option Read) → Same (asks_or_goes p c a snapshot q)
  asks-same a snapshot None = refl
  asks-same a snapshot (Some q) = refl

  op-same : (a : Present) (ops : List Op) (snapshot : Bool) (o : Option Op) → Same (op_moves p c a ops snapshot o)
  op-same a ops snapshot None = commits-same a (minor_writes 0 ops)
  op-same a ops snapshot (Some op) = asks-same a snapshot (question a.stage op)

  run-same : (a : Present) (ops : List Op) (turns : List ℕ) (snapshot : Bool) (s : Stage) → Same (run_moves p c a ops turns snapshot s)
  run-same a ops turns snapshot stage.Skip = refl
  run-same a ops turns snapshot stage.Cond = op-same a ops snapshot (slice_get ops a.op)
  run-same a ops turns snapshot stage.Act = op-same a ops snapshot (slice_get ops a.op)

  attempt-same : (a : Present) (d : Command) → Same (attempt_moves p c a d)
  attempt-same a (Run ops turns snapshot) = run-same a ops turns (is_some snapshot) a.stage
  attempt-same a (Snap name cont) = refl
  attempt-same a (Aggregate cont) = refl
  attempt-same a (Tell client') = refl
  attempt-same a (Skip turns) = refl

  begins-same : (s : Option (List ℕ)) (o : Option Epoch) → Same (begins_at p c s o)
  begins-same None o = refl
  begins-same (Some name) None = ends-same (begun 0 None None) outcome.NoSnapshot
  begins-same (Some name) (Some e) = refl

  command-same : (d : Command) → Same (command_moves p c d)
  command-same (Run ops turns snapshot) = begins-same snapshot (first_epoch c.known snapshot)
  command-same (Snap name cont) = refl
  command-same (Aggregate cont) = refl
  command-same (Tell client') = refl
  command-same (Skip turns) = refl

  moves-same : (o : Option Command) (present : Option Present) → Same (moves_at p c o present)
  moves-same None present = refl
  moves-same (Some d) None = command-same d
  moves-same (Some d) (Some a) = attempt-same a d

  moved-same : Same (moved p c)
  unfolding moved
  moved-same = by (waits c)
    where
      by : (b : Bool) → Same (if b then rests c else moves_at p c (command_at p c) c.present)
      by true = refl
      by false = moves-same (command_at p c) c.present

  -- ---- hearing

  condition-same : (a : Present) (cond : Cond) (there : Bool) → Same (condition_told p c a cond there)
  condition-same a cond there = by (holds_where there cond)
    where
      told : Present
      told = record a { conds = a.conds ++ (a.op, there) ∷ [] }

      by : (b : Bool) → Same (if b then goes (at_present (next_stage stage.Cond told) c) else ends p c told (outcome.CondFailed a.op))
      by true = refl
      by false = ends-same told (outcome.CondFailed a.op)

  told-same : (a : Present) (cond : Cond) (s : Stage) (b : Answer) → Same (told_at p c a cond s b)
  told-same a cond stage.Skip b = refl
  told-same a cond stage.Cond b = condition-same a cond (is_yes b)
  told-same a cond stage.Act b = refl

  group-same : (a : Present) (op : Op) (b : Answer) → Same (group_told p c a op b)
  group-same a op b = by (nat_lt (a.group + 1) (group_count (op_path op).obj (op_path op).dkey p.targets))
    where
      by : (l : Bool) → Same (if l then goes (at_present (record a { group = a.group + 1; found = Some (joined a.found b) }) c) else told_at p c a op.cond a.stage (joined a.found b))
      by true = refl
      by false = told-same a op.cond a.stage (joined a.found b)

  op-told-same : (a : Present) (b : Answer) (o : Option Op) → Same (op_told p c a b o)
  op-told-same a b None = refl
  op-told-same a b (Some op) = group-same a op b

  replied-same : (a : Present) (b : Reply) → Same (replied p c a b)
  replied-same a (reply.Answer b) = op-told-same a b (op_of (command_at p c) a.op)
  replied-same a (reply.Outcome how) = ends-same a how

  reset-same : (a : Present) (t : ℕ) (m : Message) → Same (reset p c a t m)
  reset-same a t (message.Commit x e first tracker ws) = refl
  reset-same a t (message.Ask x) = refl
  reset-same a t m = ends-same a (outcome.Restart (Unresolved (attempt_id p c a)))

  reset-by-same : (a : Present) (t : ℕ) (down : Bool) (m : Message) → Same (reset_by p c a t down m)
  reset-by-same a t false m = reset-same a t m
  reset-by-same a t true m = ends-same a (outcome.Unknown t)

-- what a client hears leaves it so, too
answered-keeps : (p : ClientPlan) (c : ClientState) (a : Present) (m : Message) → KeepsKnown c (answered p c a m).state
answered-keeps p c a (message.Fetched x op group o b) = keeps-same c (replied p c (knows o a) b).state (replied-same p c (knows o a) b)
answered-keeps p c a (message.Ended x o how) = λ name e h.
    keeps-same (record c { known = snaps_known (command_at p c) o how c.known }) (ended p c (knows o a) o how).state (ends-same p (record c { known = snaps_known (command_at p c) o how c.known }) (knows o a) how) name e
    (snaps-more (command_at p c) o how c.known name e h)
answered-keeps p c a (message.Reset' target down place (more_of-Message q rest)) = keeps-same c (reset_by p c (record a { waits = false }) target down q).state (reset-by-same p c (record a { waits = false }) target down q)
answered-keeps p c a m = λ name e h. h

heard-keeps : (p : ClientPlan) (c : ClientState) (m : Message) → KeepsKnown c (heard p c m).state
unfolding heard
heard-keeps p c m = by c.present
  where
    by : (o : Option Present) → KeepsKnown c (heard_at p (hears_epochs m c) m o).state
    by None = λ name e h. h
    by (Some a) = waited (a.waits && is_about (attempt_id p c a) (about m))
      where
        waited : (b : Bool) → KeepsKnown c (if b then answered p (hears_epochs m c) a m else goes (hears_epochs m c)).state
        waited true = λ name e h. answered-keeps p (hears_epochs m c) a m name e h
        waited false = λ name e h. h

-- ---- events

-- a client that knew a snapshot knows it now
abbrev StillKnow : World → World → Type 0
StillKnow w v = (n : ℕ) (c : ClientState) → slice_get w.clients n ≡ Some c → (d : ClientState) × (slice_get v.clients n ≡ Some d) × KeepsKnown c d

module _ (w : World) where
  one-knows : (v : World) (clients : List ClientState) (n : ℕ) (c d : ClientState) → clients ≡ set v.clients n d → slice_get v.clients n ≡ Some c → KeepsKnown c d → StillKnow w v
      → (m : ℕ) (b : ClientState) → slice_get w.clients m ≡ Some b → (z : ClientState) × (slice_get clients m ≡ Some z) × KeepsKnown b z
  one-knows v clients n c d same here keeps k m b at = elim (same-number m n) [
    | inl is ↦ (let z = k m b at in
        let one : z.0 ≡ c = one-value (slice_get v.clients n) z.0 c (subst (λ i. slice_get v.clients i ≡ Some z.0) is z.1) here in
        (d, ap (λ cs. slice_get cs m) same ∙ subst (λ i. slice_get (set v.clients n d) i ≡ Some d) (sym is) (set-here v.clients n c d here), λ name e h. keeps name e (subst (λ y. known_epoch y.known name ≡ Some e) one (z.2 name e h))))
    | inr off ↦ (let z = k m b at in (z.0, ap (λ cs. slice_get cs m) same ∙ set-there v.clients n m d off ∙ z.1, z.2))
  ]

  knows-moves : (r : Rules) → KeptByMoves r (StillKnow w)
  knows-moves r v n c here k = one-knows v (set v.clients n (moved (client_plan r n) c).state) n c (moved (client_plan r n) c).state refl here (keeps-same c (moved (client_plan r n) c).state (moved-same (client_plan r n) c)) k

  knows-hearing : (r : Rules) → KeptByHearing r (StillKnow w)
  knows-hearing r v n c l rest here awake takes to k = one-knows v (set v.clients n (heard (client_plan r n) c l.message).state) n c (heard (client_plan r n) c l.message).state refl here (heard-keeps (client_plan r n) c l.message) k

  knows-counting : KeptByCounting (StillKnow w)
  knows-counting v n i c here k = one-knows v (set v.clients n (record c { skip = i })) n c (record c { skip = i }) refl here (λ name e h. h) k

none-change : (w v : World) → v.clients ≡ w.clients → StillKnow w v
none-change w v same n c at = (c, ap (λ cs. slice_get cs n) same ∙ at, λ name e h. h)

happening-knows : (r : Rules) (w v : World) → Happening r w v → StillKnow w v
happening-knows r w v (Plainly (ByClient g) up) = by-next r (StillKnow w) (knows-moves w r) (knows-counting w) w v (none-change w w refl) g
happening-knows r w v (Plainly (ToClient g) up) = by-hearing r (StillKnow w) (knows-moves w r) (knows-hearing w r) w v (none-change w w refl) g
happening-knows r w v (Plainly (ToTarget g) up) = none-change w v (ap (λ u. u.clients) g.after)
happening-knows r w v (Plainly (ByTarget g) up) = none-change w v (ap (λ u. u.clients) g.after)
happening-knows r w v (Further g) = none-change w v (ap (λ u. u.clients) g.hears.after)
happening-knows r w v (IsCut g) = none-change w v (ap (λ u. u.clients) g.after)
happening-knows r w v (Opens g) = none-change w v (ap (λ u. u.clients) g.after)
happening-knows r w v (Fails g) = none-change w v (ap (λ u. u.clients) g.after)
happening-knows r w v (GivenUp g) = none-change w v (ap (λ u. u.clients) g.after)
happening-knows r w v (Draws g) = none-change w v (ap (λ u. u.clients) g.after)

pub events-know : EventsKeepKnown
events-know r w v e n c at = let z = happening-knows r w e.u e.happens n c at in (z.0, ap (λ u. slice_get u.clients n) e.after ∙ z.1, z.2)
