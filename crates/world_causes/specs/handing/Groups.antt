-- A client that has something to ask is at one of the groups of its path, whatever happens.
use Rattle.std.specs.Prelude.{ℕ, ◌≡◌, ◌⊎◌, ◌<◌, ◌+◌, ◌++◌, ◌&&◌, nat_lt, is_some, Bool, true, false, if◌then◌else◌, List, [], ◌∷◌, slice_get, Option, Some, None, refl}
use Rattle.std.proofs.Common.{sym, ◌∙◌, ap, subst, arith, inl, inr}
use Rattle.std.proofs.Math.ListN.{set}
use Rattle.std.proofs.lemmas.Bool.{cases_eq}
use Rattle.std.proofs.lemmas.Bool.Decides.{nat_tests}
use Rattle.base_types.specs.declared.answer.Answer.{Answer}
use Rattle.base_types.specs.declared.epoch.Epoch.{Epoch}
use Rattle.base_types.specs.declared.operation.Cond.{Cond}
use Rattle.base_types.specs.declared.operation.MinorWrite.{MinorWrite}
use Rattle.base_types.specs.declared.operation.Op.{Op}
use Rattle.base_types.specs.declared.operation.Read.{Read}
use Rattle.base_types.specs.declared.outcome.Outcome.{Outcome}
use Rattle.base_types.specs.declared.outcome.Outcome.TheVariants as outcome
use Rattle.base_types.specs.declared.script.Command.{Command}
use Rattle.base_types.specs.declared.script.Command.TheVariants as command
use Rattle.base_messages.specs.declared.message.Message.{Message, more_of-Message}
use Rattle.base_messages.specs.declared.message.Message.TheVariants as message
use Rattle.base_messages.specs.declared.message.Reply.{Reply}
use Rattle.base_messages.specs.declared.message.Reply.TheVariants as reply
use Rattle.daos_model.specs.Accesses.{minor_writes, op_path}
use Rattle.daos_model.specs.Attempts.{is_restart, snapshot_of_command}
use Rattle.daos_model.specs.Conditions.{holds_where}
use Rattle.world_base.specs.declared.client.ClientPlan.{ClientPlan}
use Rattle.world_base.specs.declared.client.ClientState.{ClientState}
use Rattle.world_base.specs.declared.client.Present.{Present}
use Rattle.world_base.specs.declared.client.Stage.{Stage}
use Rattle.world_base.specs.declared.client.Stage.TheVariants as stage
use Rattle.world_base.specs.declared.world.World.{World}
use Rattle.world_base.specs.ClientTurns.{about, after_end, answered, asks_or_goes, at_present, attempt_id, attempt_moves, begins_at, begun, command_at, command_moves, commits, ends, first_epoch, goes, group_count, group_told, heard, heard_at, hears_epochs, is_about, is_yes, joined, knows, moved, moves_at, next_command, next_stage, op_moves, op_of, op_told, question, replied, reset_by, rests, run_moves, told_at, waits}
use Rattle.world_base.specs.Events.{ByClient, ByTarget, Event, Rules, ToClient, ToTarget, client_plan}
use Rattle.world_base.specs.StepLaws.{by-hearing, by-next, set-is, set-there}
use Rattle.world_base.specs.Stops.{Draws, Fails, Further, GivenUp, Happening, IsCut, Opens, Plainly, WorldEvent}

-- ---- the fact

-- it asks about the first group, or about one of those of the operation's path
abbrev pub InGroup : ClientPlan → ClientState → Present → Type 0
InGroup p c a = (a.group ≡ 0) ⊎ ((op : Op) → op_of (command_at p c) a.op ≡ Some op → a.group < group_count (op_path op).obj (op_path op).dkey p.targets)

abbrev pub IsWithin : ClientPlan → ClientState → Option Present → Type 0
IsWithin p c None = Unit {0}
IsWithin p c (Some a) = InGroup p c a

-- so it is of all clients
abbrev pub ClientsAskWithin : Rules → World → Type 0
ClientsAskWithin r w = (n : ℕ) (c : ClientState) → slice_get w.clients n ≡ Some c → IsWithin (client_plan r n) c c.present

-- ---- a move

abbrev Within : ClientPlan → ClientState → Type 0
Within p c = IsWithin p c c.present

ends-within : (p : ClientPlan) (c : ClientState) (a : Present) (how : Outcome) → Within p (ends p c a how).state
ends-within p c a how = by (command_at p c)
  where
    by : (o : Option Command) → Within p (after_end p c o a how)
    by None = tt
    by (Some d) = again (is_restart how && nat_lt (a.attempt + 1) p.attempts)
      where
        again : (b : Bool) → Within p (if b then at_present (begun (a.attempt + 1) a.first (first_epoch c.known (snapshot_of_command d))) c else next_command c)
        again true = inl refl
        again false = tt

begins-within : (p : ClientPlan) (c : ClientState) (snapshot : Option (List ℕ)) (epoch : Option Epoch) → Within p (begins_at p c snapshot epoch).state
begins-within p c None epoch = inl refl
begins-within p c (Some name) None = ends-within p c (begun 0 None None) outcome.NoSnapshot
begins-within p c (Some name) (Some e) = inl refl

command-within : (p : ClientPlan) (c : ClientState) (d : Command) → c.present ≡ None → Within p (command_moves p c d).state
command-within p c (command.Run ops turns snapshot) none = begins-within p c snapshot (first_epoch c.known snapshot)
command-within p c (command.Snap name cont) none = begins-within p c None (first_epoch c.known None)
command-within p c (command.Aggregate cont) none = begins-within p c None (first_epoch c.known None)
command-within p c (command.Tell n) none = subst (IsWithin p (command_moves p c (command.Tell n)).state) (sym none) tt
command-within p c (command.Skip turns) none = subst (IsWithin p (command_moves p c (command.Skip turns)).state) (sym none) tt

module _ (p : ClientPlan) (c : ClientState) (a : Present) (h : InGroup p c a) where
  next-within : (s : Stage) → InGroup p c (next_stage s a)
  next-within stage.Skip = h
  next-within stage.Cond = inl refl
  next-within stage.Act = inl refl

  commits-within : (ws : List MinorWrite) → Within p (commits p c a ws).state
  commits-within [] = ends-within p c a outcome.Committed
  commits-within (w ∷ ws) = h

  read-within : (snapshot : Bool) (o : Option Read) → Within p (asks_or_goes p c a snapshot o).state
  read-within snapshot None = next-within a.stage
  read-within snapshot (Some rd) = h

  op-within : (ops : List Op) (snapshot : Bool) (o : Option Op) → Within p (op_moves p c a ops snapshot o).state
  op-within ops snapshot None = commits-within (minor_writes 0 ops)
  op-within ops snapshot (Some op) = read-within snapshot (question a.stage op)

  run-within : (ops : List Op) (turns : List ℕ) (snapshot : Bool) (s : Stage) → Within p (run_moves p c a ops turns snapshot s).state
  run-within ops turns snapshot stage.Skip = next-within stage.Skip
  run-within ops turns snapshot stage.Cond = op-within ops snapshot (slice_get ops a.op)
  run-within ops turns snapshot stage.Act = op-within ops snapshot (slice_get ops a.op)

  attempt-within : (d : Command) → c.present ≡ Some a → Within p (attempt_moves p c a d).state
  attempt-within (command.Run ops turns snapshot) at = run-within ops turns (is_some snapshot) a.stage
  attempt-within (command.Snap name cont) at = h
  attempt-within (command.Aggregate cont) at = h
  attempt-within (command.Tell n) at = subst (IsWithin p c) (sym at) h
  attempt-within (command.Skip turns) at = subst (IsWithin p c) (sym at) h

moved-within : (p : ClientPlan) (c : ClientState) → Within p c → Within p (moved p c).state
unfolding moved
moved-within p c h = by (waits c)
  where
    at : (o : Option Command) (present : Option Present) → c.present ≡ present → Within p (moves_at p c o present).state
    at None present is = h
    at (Some d) None is = command-within p c d is
    at (Some d) (Some a) is = attempt-within p c a (subst (IsWithin p c) is h) d is

    by : (b : Bool) → Within p (if b then rests c else moves_at p c (command_at p c) c.present).state
    by true = h
    by false = at (command_at p c) c.present refl

-- ---- hearing

told-within : (p : ClientPlan) (c : ClientState) (a : Present) (cond : Cond) (s : Stage) (b : Answer) → InGroup p c a → Within p (told_at p c a cond s b).state
told-within p c a cond stage.Skip b h = h
told-within p c a cond stage.Act b h = inl refl
told-within p c a cond stage.Cond b h = by (holds_where (is_yes b) cond)
  where
    by : (holds : Bool) → Within p (if holds then goes (at_present (next_stage stage.Cond (record a { conds = a.conds ++ (a.op, is_yes b) ∷ [] })) c) else ends p c (record a { conds = a.conds ++ (a.op, is_yes b) ∷ [] }) (outcome.CondFailed a.op)).state
    by true = inl refl
    by false = ends-within p c (record a { conds = a.conds ++ (a.op, is_yes b) ∷ [] }) (outcome.CondFailed a.op)

group-within : (p : ClientPlan) (c : ClientState) (a : Present) (op : Op) (b : Answer) → op_of (command_at p c) a.op ≡ Some op → InGroup p c a → Within p (group_told p c a op b).state
group-within p c a op b at h = by (nat_lt (a.group + 1) (group_count (op_path op).obj (op_path op).dkey p.targets)) refl
  where
    lower : nat_lt (a.group + 1) (group_count (op_path op).obj (op_path op).dkey p.targets) ≡ true → a.group + 1 < group_count (op_path op).obj (op_path op).dkey p.targets
    lower is = grind (arith, nat_tests)

    by : (more : Bool) → nat_lt (a.group + 1) (group_count (op_path op).obj (op_path op).dkey p.targets) ≡ more
        → Within p (if more then goes (at_present (record a { group = a.group + 1; found = Some (joined a.found b) }) c) else told_at p c a op.cond a.stage (joined a.found b)).state
    by true is = inr (λ z found. (let same : op ≡ z = some-same (sym at ∙ found) in subst (λ y. a.group + 1 < group_count (op_path y).obj (op_path y).dkey p.targets) same (lower is)))
      where
        some-same : {x y : Op} → Some x ≡ Some y → x ≡ y
        some-same e = cc
    by false is = told-within p c a op.cond a.stage (joined a.found b) h

replied-within : (p : ClientPlan) (c : ClientState) (a : Present) (b : Reply) → InGroup p c a → Within p (replied p c a b).state
replied-within p c a (reply.Outcome how) h = ends-within p c a how
replied-within p c a (reply.Answer b) h = by (op_of (command_at p c) a.op) refl
  where
    by : (o : Option Op) → op_of (command_at p c) a.op ≡ o → Within p (op_told p c a b o).state
    by None at = h
    by (Some op) at = group-within p c a op b at h

reset-within : (p : ClientPlan) (c : ClientState) (a : Present) (t : ℕ) (down : Bool) (m : Message) → InGroup p c a → Within p (reset_by p c a t down m).state
reset-within p c a t true m h = ends-within p c a (outcome.Unknown t)
reset-within p c a t false (message.Commit x e first tracker ws) h = h
reset-within p c a t false (message.Ask x) h = h
reset-within p c a t false m h = ends-within p c a _

answered-within : (p : ClientPlan) (c : ClientState) (a : Present) (m : Message) → c.present ≡ Some a → InGroup p c a → Within p (answered p c a m).state
answered-within p c a (message.Fetched x op group e b) at h = replied-within p c (knows e a) b h
answered-within p c a (message.Ended x e how) at h = ends-within p (record c { known = _ }) (knows e a) how
answered-within p c a (message.Reset' t down place (more_of-Message m rest)) at h = reset-within p c (record a { waits = false }) t down m h
answered-within p c a m at h = subst (IsWithin p c) (sym at) h

heard-within : (p : ClientPlan) (c : ClientState) (m : Message) → Within p c → Within p (heard p c m).state
unfolding heard
heard-within p c m h = by c.present refl
  where
    by : (o : Option Present) → c.present ≡ o → Within p (heard_at p (hears_epochs m c) m o).state
    by None at = h
    by (Some a) at = for-it (a.waits && is_about (attempt_id p (hears_epochs m c) a) (about m))
      where
        for-it : (b : Bool) → Within p (if b then answered p (hears_epochs m c) a m else goes (hears_epochs m c)).state
        for-it true = answered-within p (hears_epochs m c) a m at (subst (IsWithin p c) at h)
        for-it false = h

-- ---- everything

clients-set : (r : Rules) (w : World) (n : ℕ) (d : ClientState) → ClientsAskWithin r w → Within (client_plan r n) d → (m : ℕ) (c : ClientState) → slice_get (set w.clients n d) m ≡ Some c → Within (client_plan r m) c
clients-set r w n d k own m c at = by (cases_eq m n)
  where
    by : (m ≡ n) ⊎ ((m ≡ n) → ⊥) → Within (client_plan r m) c
    by (inl same) =
        let it : d ≡ c = set-is w.clients n d c (subst (λ j. slice_get (set w.clients n d) j ≡ Some c) same at) in
        subst (λ j. Within (client_plan r j) c) (sym same) (subst (Within (client_plan r n)) it own)
    by (inr apart) = k m c (sym (set-there w.clients n m d apart) ∙ at)

as-they-were : (r : Rules) (w v : World) → v.clients ≡ w.clients → ClientsAskWithin r w → ClientsAskWithin r v
as-they-were r w v same k n c at = k n c (ap (λ cs. slice_get cs n) (sym same) ∙ at)

module _ (r : Rules) (w v : World) (k : ClientsAskWithin r w) where
  plainly : Event r w v → ClientsAskWithin r v
  plainly (ByClient g) = by-next r (ClientsAskWithin r) (λ u n c here p. clients-set r u n (moved (client_plan r n) c).state p (moved-within (client_plan r n) c (p n c here))) (λ u n i c here p. clients-set r u n (record c { skip = i }) p (p n c here)) w v k g
  plainly (ToClient g) =
      by-hearing r (ClientsAskWithin r) (λ u n c here p. clients-set r u n (moved (client_plan r n) c).state p (moved-within (client_plan r n) c (p n c here)))
      (λ u n c l rest here awake takes to p. clients-set r u n (heard (client_plan r n) c l.message).state p (heard-within (client_plan r n) c l.message (p n c here))) w v k g
  plainly (ToTarget g) = as-they-were r w v (ap (λ x. x.clients) g.after) k
  plainly (ByTarget g) = as-they-were r w v (ap (λ x. x.clients) g.after) k

  pub groups-happen : Happening r w v → ClientsAskWithin r v
  groups-happen (Plainly e up) = plainly e
  groups-happen (Further g) = as-they-were r w v (ap (λ x. x.clients) g.hears.after) k
  groups-happen (IsCut g) = as-they-were r w v (ap (λ x. x.clients) g.after) k
  groups-happen (Opens g) = as-they-were r w v (ap (λ x. x.clients) g.after) k
  groups-happen (Fails g) = as-they-were r w v (ap (λ x. x.clients) g.after) k
  groups-happen (GivenUp g) = as-they-were r w v (ap (λ x. x.clients) g.after) k
  groups-happen (Draws g) = as-they-were r w v (ap (λ x. x.clients) g.after) k

pub groups-stay : (r : Rules) (w v : World) → WorldEvent r w v → ClientsAskWithin r w → ClientsAskWithin r v
groups-stay r w v e k = as-they-were r e.u v (ap (λ x. x.clients) e.after) (groups-happen r w e.u k e.happens)
