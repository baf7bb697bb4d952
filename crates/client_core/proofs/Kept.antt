-- A client stays in its place.
use Rattle.std.proofs.Common.{◌≡◌, ℕ, ◌+◌, Bool, true, false, List, [], ◌∷◌, ◌++◌, slice_get, drop, count_by, is_some, Option, None, Some, refl, sym, ◌∙◌, ap, subst, arith, if◌then◌else◌, nat_lt, ◌&&◌}
use Rattle.std.proofs.lemmas.Option.{get_or_from_slice_get, slice_get_within}
use Rattle.std.proofs.lemmas.List.{drop_more}
use Rattle.base_types.specs.declared.answer.Answer.{Answer}
use Rattle.base_types.specs.declared.epoch.Epoch.{Epoch}
use Rattle.base_types.specs.declared.operation.MinorWrite.{MinorWrite}
use Rattle.base_types.specs.declared.operation.Op.{Op}
use Rattle.base_types.specs.declared.operation.Read.{Read}
use Rattle.base_types.specs.declared.outcome.Outcome.{Outcome}
use Rattle.base_types.specs.declared.outcome.Outcome.TheVariants as outcome
use Rattle.base_types.specs.declared.script.Command.{Command}
use Rattle.base_types.specs.declared.script.Command.TheVariants.{Run, Snap, Aggregate, Tell, Skip}
use Rattle.base_types.specs.declared.operation.Cond.{Cond}
use Rattle.base_types.specs.Scripts.{is_numbered}
use Rattle.base_messages.specs.declared.message.Message.{Message, more_of-Message}
use Rattle.base_messages.specs.declared.message.Message.TheVariants as message
use Rattle.base_messages.specs.declared.message.Reply.{Reply}
use Rattle.base_messages.specs.declared.message.Reply.TheVariants as reply
use Rattle.daos_model.specs.Conditions.{holds_where}
use Rattle.daos_model.specs.Accesses.{minor_writes, op_path}
use Rattle.world_base.specs.declared.client.ClientPlan.{ClientPlan}
use Rattle.world_base.specs.declared.client.ClientState.{ClientState}
use Rattle.world_base.specs.declared.client.Present.{Present}
use Rattle.world_base.specs.declared.client.Stage.{Stage}
use Rattle.world_base.specs.declared.client.Stage.TheVariants as stage
use Rattle.world_base.specs.ClientTurns.{after_end, asks_or_goes, at_present, attempt_moves, begins_at, command_at, command_moves, commits, ends, first_epoch, moved, next_command, next_place, op_moves, question, run_moves}
use Rattle.client_core.specs.Clients.{IsInPlace, has_number}
use Rattle.client_moves.specs.Places.{count_numbered, count_other, moved_begins, moved_done, moved_on, moved_waits, numbered_at}
use Rattle.world_base.specs.ClientTurns.{about, answered, attempt_id, condition_told, goes, group_count, group_told, heard, heard_at, hears_epochs, is_about, is_yes, joined, knows, next_stage, op_of, op_told, replied, reset, reset_by, snaps_known, told_at, waits}

-- at the same command, or behind it
pub data Near (c s : ClientState) : Type 0 where
  Here : s.place ≡ c.place → s.command ≡ c.command → Near c s
  Behind : s.place ≡ c.place + 1 → s.command ≡ c.command + 1 → s.present ≡ None → Near c s

pub ends_near : (p : ClientPlan) (c : ClientState) (a : Present) (how : Outcome) → Near c (ends p c a how).state
ends_near p c a how = by (command_at p c)
  where
    either : (b : Bool) (x : Present) → Near c (if b then at_present x c else next_command c)
    either true x = Here refl refl
    either false x = Behind refl refl refl

    by : (o : Option Command) → Near c (after_end p c o a how)
    by None = Behind refl refl refl
    by (Some d) = either _ _

commits_near : (p : ClientPlan) (c : ClientState) (a : Present) (ws : List MinorWrite) → Near c (commits p c a ws).state
commits_near p c a [] = ends_near p c a outcome.Committed
commits_near p c a (w ∷ ws) = Here refl refl

asks_near : (p : ClientPlan) (c : ClientState) (a : Present) (snapshot : Bool) (r : Option Read) → Near c (asks_or_goes p c a snapshot r).state
asks_near p c a snapshot None = Here refl refl
asks_near p c a snapshot (Some r) = Here refl refl

op_near : (p : ClientPlan) (c : ClientState) (a : Present) (ops : List Op) (snapshot : Bool) (o : Option Op) → Near c (op_moves p c a ops snapshot o).state
op_near p c a ops snapshot None = commits_near p c a (minor_writes 0 ops)
op_near p c a ops snapshot (Some op) = asks_near p c a snapshot (question a.stage op)

run_near : (p : ClientPlan) (c : ClientState) (a : Present) (ops : List Op) (turns : List ℕ) (snapshot : Bool) (s : Stage) → Near c (run_moves p c a ops turns snapshot s).state
run_near p c a ops turns snapshot stage.Skip = Here refl refl
run_near p c a ops turns snapshot stage.Cond = op_near p c a ops snapshot (slice_get ops a.op)
run_near p c a ops turns snapshot stage.Act = op_near p c a ops snapshot (slice_get ops a.op)

attempt_near : (p : ClientPlan) (c : ClientState) (a : Present) (d : Command) → Near c (attempt_moves p c a d).state
attempt_near p c a (Run ops turns snapshot) = run_near p c a ops turns (is_some snapshot) a.stage
attempt_near p c a (Snap name cont) = Here refl refl
attempt_near p c a (Aggregate cont) = Here refl refl
attempt_near p c a (Tell client) = Here refl refl
attempt_near p c a (Skip turns) = Here refl refl

begins_near : (p : ClientPlan) (c : ClientState) (snapshot : Option (List ℕ)) (e : Option Epoch) → Near c (begins_at p c snapshot e).state
begins_near p c None e = Here refl refl
begins_near p c (Some name) None = ends_near p c _ outcome.NoSnapshot
begins_near p c (Some name) (Some e) = Here refl refl

count_here : (commands : List Command) (i : ℕ) (d : Command) → slice_get commands i ≡ Some d → count_by is_numbered (drop i commands) ≡ count_by is_numbered (d ∷ drop (i + 1) commands)
count_here commands i d is =
    ap (count_by is_numbered) (drop_more commands i d (slice_get_within commands i d is) ∙ ap (λ x. x ∷ drop (i + 1) commands) (get_or_from_slice_get commands i d d is))

in_place_near : (p : ClientPlan) (c s : ClientState) (d : Command) → IsInPlace p c → command_at p c ≡ Some d → is_numbered d ≡ true → Near c s → IsInPlace p s
in_place_near p c s d place is numbered (Here e f) = record {
  few =
      let same : s.command + count_by is_numbered (drop s.place p.commands) ≡ c.command + count_by is_numbered (drop c.place p.commands) =
      ap (λ n. s.command + count_by is_numbered (drop n p.commands)) e ∙ ap (λ n. n + count_by is_numbered (drop c.place p.commands)) f in
      omega (arith, same, place.few);
  numbered = λ there. ap (λ n. has_number (slice_get p.commands n)) e ∙ ap has_number is ∙ numbered;
}
in_place_near p c s d place is numbered (Behind e f g) = record {
  few =
      let same : s.command + count_by is_numbered (drop s.place p.commands) ≡ c.command + 1 + count_by is_numbered (drop (c.place + 1) p.commands) =
      ap (λ n. s.command + count_by is_numbered (drop n p.commands)) e ∙ ap (λ n. n + count_by is_numbered (drop (c.place + 1) p.commands)) f in
      omega (arith, same, place.few, count_here p.commands c.place d is, count_numbered d (drop (c.place + 1) p.commands) numbered);
  numbered = λ there. let wrong : false ≡ true = sym (ap is_some g) ∙ there in absurd (cc);
}

next_in_place : (p : ClientPlan) (c : ClientState) (d : Command) (turns : ℕ) → IsInPlace p c → command_at p c ≡ Some d → is_numbered d ≡ false → c.present ≡ None → IsInPlace p (record (next_place c) { skip = turns })
next_in_place p c d turns place is other none = record {
  few = omega (arith, place.few, count_here p.commands c.place d is, count_other d (drop (c.place + 1) p.commands) other);
  numbered = λ there. let wrong : false ≡ true = sym (ap is_some none) ∙ there in absurd (cc);
}

begun_kept : (p : ClientPlan) (c : ClientState) (d : Command) → IsInPlace p c → command_at p c ≡ Some d → c.present ≡ None → IsInPlace p (command_moves p c d).state
begun_kept p c (Run ops turns snapshot) place is none = in_place_near p c _ (Run ops turns snapshot) place is refl (begins_near p c snapshot (first_epoch c.known snapshot))
begun_kept p c (Snap name cont) place is none = in_place_near p c _ (Snap name cont) place is refl (begins_near p c None (first_epoch c.known None))
begun_kept p c (Aggregate cont) place is none = in_place_near p c _ (Aggregate cont) place is refl (begins_near p c None (first_epoch c.known None))
begun_kept p c (Tell client) place is none = next_in_place p c (Tell client) c.skip place is refl none
begun_kept p c (Skip turns) place is none = next_in_place p c (Skip turns) turns place is refl none

-- a move keeps a client in its place
pub moved_kept : (p : ClientPlan) (c : ClientState) → IsInPlace p c → IsInPlace p (moved p c).state
moved_kept p c place = by (waits c) (command_at p c) c.present refl refl refl
  where
    by : (b : Bool) (o : Option Command) (q : Option Present) → waits c ≡ b → command_at p c ≡ o → c.present ≡ q → IsInPlace p (moved p c).state
    by true o q w i r = subst (λ m. IsInPlace p m.state) (moved_waits p c w) place
    by false None q w i r = subst (λ m. IsInPlace p m.state) (moved_done p c w i) place
    by false (Some d) None w i r = subst (λ m. IsInPlace p m.state) (moved_begins p c d w i r) (begun_kept p c d place i r)
    by false (Some d) (Some a) w i r =
        subst (λ m. IsInPlace p m.state) (moved_on p c d a w i r) (in_place_near p c _ d place i (numbered_at p c d a place i r) (attempt_near p c a d))

-- ---- hearing

near_same : (c d s : ClientState) → d.place ≡ c.place → d.command ≡ c.command → Near d s → Near c s
near_same c d s e f (Here g h) = Here (g ∙ e) (h ∙ f)
near_same c d s e f (Behind g h i) = Behind (g ∙ ap (λ n. n + 1) e) (h ∙ ap (λ n. n + 1) f) i

condition_near : (p : ClientPlan) (c : ClientState) (a : Present) (cond : Cond) (there : Bool) → Near c (condition_told p c a cond there).state
condition_near p c a cond there = by (holds_where there cond)
  where
    by : (b : Bool) → Near c (if b then goes (at_present (next_stage stage.Cond (record a { conds = a.conds ++ (a.op, there) ∷ [] })) c) else ends p c (record a { conds = a.conds ++ (a.op, there) ∷ [] }) (outcome.CondFailed a.op)).state
    by true = Here refl refl
    by false = ends_near p c _ (outcome.CondFailed a.op)

told_near : (p : ClientPlan) (c : ClientState) (a : Present) (cond : Cond) (s : Stage) (b : Answer) → Near c (told_at p c a cond s b).state
told_near p c a cond stage.Skip b = Here refl refl
told_near p c a cond stage.Cond b = condition_near p c a cond (is_yes b)
told_near p c a cond stage.Act b = Here refl refl

group_near : (p : ClientPlan) (c : ClientState) (a : Present) (op : Op) (b : Answer) → Near c (group_told p c a op b).state
group_near p c a op b = by (nat_lt (a.group + 1) (group_count (op_path op).obj (op_path op).dkey p.targets))
  where
    by : (left : Bool) → Near c (if left then goes (at_present (record a { group = a.group + 1; found = Some (joined a.found b) }) c) else told_at p c a op.cond a.stage (joined a.found b)).state
    by true = Here refl refl
    by false = told_near p c a op.cond a.stage (joined a.found b)

op_told_near : (p : ClientPlan) (c : ClientState) (a : Present) (b : Answer) (o : Option Op) → Near c (op_told p c a b o).state
op_told_near p c a b None = Here refl refl
op_told_near p c a b (Some op) = group_near p c a op b

replied_near : (p : ClientPlan) (c : ClientState) (a : Present) (r : Reply) → Near c (replied p c a r).state
replied_near p c a (reply.Answer b) = op_told_near p c a b (op_of (command_at p c) a.op)
replied_near p c a (reply.Outcome how) = ends_near p c a how

reset_near : (p : ClientPlan) (c : ClientState) (a : Present) (target : ℕ) (m : Message) → Near c (reset p c a target m).state
reset_near p c a target (message.Commit x e first tracker ws) = Here refl refl
reset_near p c a target (message.Ask x) = Here refl refl
reset_near p c a target m = ends_near p c a _

reset_by_near : (p : ClientPlan) (c : ClientState) (a : Present) (target : ℕ) (down : Bool) (m : Message) → Near c (reset_by p c a target down m).state
reset_by_near p c a target false m = reset_near p c a target m
reset_by_near p c a target true m = ends_near p c a (outcome.Unknown target)

answered_near : (p : ClientPlan) (c : ClientState) (a : Present) (m : Message) → Near c (answered p c a m).state
answered_near p c a (message.Fetched x op group e r) = replied_near p c (knows e a) r
answered_near p c a (message.Ended x e how) = near_same c _ _ refl refl (ends_near p (record c { known = snaps_known (command_at p c) e how c.known }) (knows e a) how)
answered_near p c a (message.Reset' target down place (more_of-Message m rest)) = reset_by_near p c _ target down m
answered_near p c a m = Here refl refl

heard_at_near : (p : ClientPlan) (c : ClientState) (m : Message) (q : Option Present) → Near c (heard_at p c m q).state
heard_at_near p c m None = Here refl refl
heard_at_near p c m (Some a) = by (a.waits && is_about (attempt_id p c a) (about m))
  where
    by : (b : Bool) → Near c (if b then answered p c a m else goes c).state
    by true = answered_near p c a m
    by false = Here refl refl

-- hearing keeps a client in its place
pub heard_kept : (p : ClientPlan) (c : ClientState) (m : Message) → IsInPlace p c → IsInPlace p (heard p c m).state
unfolding heard
heard_kept p c m place = by c.present refl
  where
    heard_place : IsInPlace p (hears_epochs m c)
    heard_place = record { few = place.few; numbered = place.numbered }

    at : (a : Present) → c.present ≡ Some a → (o : Option Command) → command_at p c ≡ o → IsInPlace p (heard_at p (hears_epochs m c) m (Some a)).state
    at a is None none = let wrong : false ≡ true = sym (ap has_number none) ∙ place.numbered (ap is_some is) in absurd (cc)
    at a is (Some d) there = in_place_near p (hears_epochs m c) _ d heard_place there (numbered_at p c d a place there is) (heard_at_near p (hears_epochs m c) m (Some a))

    by : (q : Option Present) → c.present ≡ q → IsInPlace p (heard_at p (hears_epochs m c) m c.present).state
    by None is = subst (λ q. IsInPlace p (heard_at p (hears_epochs m c) m q).state) (sym is) heard_place
    by (Some a) is = subst (λ q. IsInPlace p (heard_at p (hears_epochs m c) m q).state) (sym is) (at a is (command_at p c) refl)
