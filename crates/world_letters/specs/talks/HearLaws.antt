-- What a client hears: a tracker is raised, or what it waits for has come.
use Rattle.std.specs.Prelude.{ℕ, ◌≡◌, ◌≤◌, ◌+◌, ◌++◌, max, Bool, true, false, ◌&&◌, nat_lt, List, [], ◌∷◌, slice_get, is_some, Option, Some, None, refl, if◌then◌else◌}
use Rattle.std.proofs.Common.{sym, ◌∙◌, ap, arith}
use Rattle.base_types.specs.declared.answer.Answer.{Answer}
use Rattle.base_types.specs.declared.epoch.Epoch.{Epoch}
use Rattle.base_types.specs.declared.id.AttemptId.{AttemptId}
use Rattle.base_types.specs.declared.operation.Cond.{Cond}
use Rattle.base_types.specs.declared.operation.MinorWrite.{MinorWrite}
use Rattle.base_types.specs.declared.operation.Op.{Op}
use Rattle.base_types.specs.declared.operation.Read.{Read}
use Rattle.base_types.specs.declared.outcome.Outcome.{Outcome}
use Rattle.base_types.specs.declared.outcome.Outcome.TheVariants as outcome
use Rattle.base_types.specs.declared.script.Command.{Command}
use Rattle.base_types.specs.declared.script.Command.TheVariants.{Run, Snap, Aggregate, Tell, Skip}
use Rattle.base_messages.specs.declared.message.Message.{Message}
use Rattle.base_messages.specs.declared.message.Message.TheVariants as message
use Rattle.base_messages.specs.declared.message.Reply.{Reply}
use Rattle.base_messages.specs.declared.message.Reply.TheVariants as reply
use Rattle.daos_model.specs.Accesses.{minor_writes, op_path}
use Rattle.daos_model.specs.Conditions.{holds_where}
use Rattle.daos_model.specs.EntryLaws.{same_attempt-itself}
use Rattle.world_base.specs.declared.client.ClientPlan.{ClientPlan}
use Rattle.world_base.specs.declared.client.ClientState.{ClientState}
use Rattle.world_base.specs.declared.client.Present.{Present}
use Rattle.world_base.specs.declared.client.Stage.{Stage}
use Rattle.world_base.specs.declared.client.Stage.TheVariants as stage
use Rattle.world_base.specs.ClientTurns.{Move, about, answered, asks_or_goes, at_present, attempt_id, attempt_moves, begins_at, command_at, command_moves, commits, condition_told, ended, ends, first_epoch, goes, greatest, group_count, group_told, heard, heard_at, hears_epochs, is_about, is_yes, joined, knows, moved, moves_at, next_stage, op_moves, op_of, op_told, question, replied, request_of, rests, run_moves, snaps_known, told_at, told_by_message, waits}
use Rattle.world_base.specs.Letters.{is_tell}
use Rattle.world_letters.specs.talks.AskLaws.{ends-goes}
use Rattle.world_letters.specs.talks.Conversation.{Answers}

-- ---- the tracker

pub greatest-above : (t : ℕ) (es : List ℕ) → t ≤ greatest t es
unfolding greatest
greatest-above t [] = omega arith
greatest-above t (e ∷ es) = let k : max t e ≤ greatest (max t e) es = greatest-above (max t e) es in omega (arith, k)

-- what a client hears doesn't lower its tracker
pub tracker-rises : (m : Message) (c : ClientState) → c.tracker.0 ≤ (hears_epochs m c).tracker.0
tracker-rises m c = greatest-above c.tracker.0 (told_by_message m)

-- ---- an answer ends the waiting

-- a move that sends nothing, after which the client doesn't wait
pub record IsSilent (m : Move) : Type 0 where
  pub goes_on : waits m.state ≡ false
  pub no_post : m.post ≡ None

ends-silent : (p : ClientPlan) (c : ClientState) (a : Present) (how : Outcome) → IsSilent (ends p c a how)
ends-silent p c a how = record { goes_on = ends-goes p c a how; no_post = refl }

condition-silent : (p : ClientPlan) (c : ClientState) (a : Present) (cond : Cond) (there : Bool) → a.waits ≡ false → IsSilent (condition_told p c a cond there)
condition-silent p c a cond there h = by (holds_where there cond)
  where
    told : Present
    told = record a { conds = a.conds ++ (a.op, there) ∷ [] }

    by : (b : Bool) → IsSilent (if b then goes (at_present (next_stage stage.Cond told) c) else ends p c told (outcome.CondFailed a.op))
    by true = record { goes_on = h; no_post = refl }
    by false = ends-silent p c told (outcome.CondFailed a.op)

told-at-silent : (p : ClientPlan) (c : ClientState) (a : Present) (cond : Cond) (s : Stage) (b : Answer) → a.waits ≡ false → IsSilent (told_at p c a cond s b)
told-at-silent p c a cond stage.Skip b h = record { goes_on = h; no_post = refl }
told-at-silent p c a cond stage.Cond b h = condition-silent p c a cond (is_yes b) h
told-at-silent p c a cond stage.Act b h = record { goes_on = h; no_post = refl }

group-silent : (p : ClientPlan) (c : ClientState) (a : Present) (op : Op) (b : Answer) → a.waits ≡ false → IsSilent (group_told p c a op b)
group-silent p c a op b h = by (nat_lt (a.group + 1) (group_count (op_path op).obj (op_path op).dkey p.targets))
  where
    more : Present
    more = record a { group = a.group + 1; found = Some (joined a.found b) }

    by : (l : Bool) → IsSilent (if l then goes (at_present more c) else told_at p c a op.cond a.stage (joined a.found b))
    by true = record { goes_on = h; no_post = refl }
    by false = told-at-silent p c a op.cond a.stage (joined a.found b) h

op-told-silent : (p : ClientPlan) (c : ClientState) (a : Present) (b : Answer) (o : Option Op) → a.waits ≡ false → IsSilent (op_told p c a b o)
op-told-silent p c a b None h = record { goes_on = h; no_post = refl }
op-told-silent p c a b (Some op) h = group-silent p c a op b h

pub replied-silent : (p : ClientPlan) (c : ClientState) (a : Present) (r : Reply) → a.waits ≡ false → IsSilent (replied p c a r)
replied-silent p c a (reply.Answer b) h = op-told-silent p c a b (op_of (command_at p c) a.op) h
replied-silent p c a (reply.Outcome how) h = ends-silent p c a how

pub ended-silent : (p : ClientPlan) (c : ClientState) (a : Present) (e : Option Epoch) (how : Outcome) → IsSilent (ended p c a e how)
ended-silent p c a e how = ends-silent p (record c { known = snaps_known (command_at p c) e how c.known }) a how

fetched-silent : (p : ClientPlan) (c : ClientState) (a : Present) (m : Message) (x : AttemptId) (op group : ℕ) (own : Option Epoch) (b : Reply) → m ≡ message.Fetched x op group own b → IsSilent (answered p c a m)
fetched-silent p c a m x op group own b e = rw e (replied-silent p c (knows own a) b refl)

ended-answer-silent : (p : ClientPlan) (c : ClientState) (a : Present) (m : Message) (x : AttemptId) (own : Option Epoch) (how : Outcome) → m ≡ message.Ended x own how → IsSilent (answered p c a m)
ended-answer-silent p c a m x own how e = rw e (ended-silent p c (knows own a) own how)

-- a message that answers a request: it is about the same attempt, isn't the tracker of another, and ends the waiting
pub record IsAnswer (q m : Message) : Type 0 where
  pub same_about : about m ≡ request_of q
  pub no_tell : is_tell m ≡ false
  pub ends_waiting : (p : ClientPlan) (c : ClientState) (a : Present) → IsSilent (answered p c a m)

fetched-is : (q m : Message) (x : AttemptId) (op group : ℕ) (own : Option Epoch) (b : Reply) → request_of q ≡ Some x → m ≡ message.Fetched x op group own b → IsAnswer q m
fetched-is q m x op group own b h e = record {
  same_about = ap about e ∙ sym h;
  no_tell = ap is_tell e;
  ends_waiting = λ p c a. fetched-silent p c a m x op group own b e;
}

ended-is : (q m : Message) (x : AttemptId) (own : Option Epoch) (how : Outcome) → request_of q ≡ Some x → m ≡ message.Ended x own how → IsAnswer q m
ended-is q m x own how h e = record {
  same_about = ap about e ∙ sym h;
  no_tell = ap is_tell e;
  ends_waiting = λ p c a. ended-answer-silent p c a m x own how e;
}

pub answer-is : (q m : Message) → Answers q m → IsAnswer q m
answer-is (message.Fetch x op group e first tracker r snapshot) m k = fetched-is (message.Fetch x op group e first tracker r snapshot) m x op group k.0 k.1 refl k.2
answer-is (message.Commit x e first tracker ws) m k = ended-is (message.Commit x e first tracker ws) m x k.0 k.1 refl k.2
answer-is (message.Ask x) m k = ended-is (message.Ask x) m x k.0 k.1 refl k.2
answer-is (message.Snap x cont name tracker) m k = ended-is (message.Snap x cont name tracker) m x k.0 k.1 refl k.2
answer-is (message.Prune x cont tracker e) m k = ended-is (message.Prune x cont tracker e) m x k.0 k.1 refl k.2
answer-is q m k = absurd k

-- ---- what is heard

-- a client that waits hears what it waits for
pub hears-answer : (p : ClientPlan) (c : ClientState) (a : Present) (m : Message) → c.present ≡ Some a → a.waits ≡ true → about m ≡ Some (attempt_id p c a) → heard p c m ≡ answered p (hears_epochs m c) a m
unfolding heard
hears-answer p c a m here h of_it =
    ap (heard_at p (hears_epochs m c) m) here ∙ ap (λ b. if b && is_about (attempt_id p c a) (about m) then answered p (hears_epochs m c) a m else goes (hears_epochs m c)) h
    ∙ ap (λ o. if is_about (attempt_id p c a) o then answered p (hears_epochs m c) a m else goes (hears_epochs m c)) of_it
    ∙ ap (λ b. if b then answered p (hears_epochs m c) a m else goes (hears_epochs m c)) (same_attempt-itself (attempt_id p c a))

tell-at : (p : ClientPlan) (c : ClientState) (k : Epoch) (present : Option Present) → heard_at p c (message.Tell k) present ≡ goes c
tell-at p c k None = refl
tell-at p c k (Some a) = by a.waits
  where
    by : (b : Bool) → (if b && false then answered p c a (message.Tell k) else goes c) ≡ goes c
    by true = refl
    by false = refl

-- a tracker that is told is raised alone
pub hears-tell : (p : ClientPlan) (c : ClientState) (m : Message) → is_tell m ≡ true → heard p c m ≡ goes (hears_epochs m c)
unfolding heard
hears-tell p c (message.Tell k) h = tell-at p (hears_epochs (message.Tell k) c) k c.present
hears-tell p c m h = let no : ⊥ = cc in absurd no

-- ---- turns that are skipped

-- what a client's next move sends doesn't depend on the turns that it skips
commits-alike : (p : ClientPlan) (c : ClientState) (n : ℕ) (a : Present) (ws : List MinorWrite) → (commits p (record c { skip = n }) a ws).post ≡ (commits p c a ws).post
commits-alike p c n a [] = refl
commits-alike p c n a (w ∷ ws) = refl

asks-alike : (p : ClientPlan) (c : ClientState) (n : ℕ) (a : Present) (snapshot : Bool) (r : Option Read) → (asks_or_goes p (record c { skip = n }) a snapshot r).post ≡ (asks_or_goes p c a snapshot r).post
asks-alike p c n a snapshot None = refl
asks-alike p c n a snapshot (Some r) = refl

op-alike : (p : ClientPlan) (c : ClientState) (n : ℕ) (a : Present) (ops : List Op) (snapshot : Bool) (o : Option Op) → (op_moves p (record c { skip = n }) a ops snapshot o).post ≡ (op_moves p c a ops snapshot o).post
op-alike p c n a ops snapshot None = commits-alike p c n a (minor_writes 0 ops)
op-alike p c n a ops snapshot (Some op) = asks-alike p c n a snapshot (question a.stage op)

run-alike : (p : ClientPlan) (c : ClientState) (n : ℕ) (a : Present) (ops : List Op) (turns : List ℕ) (snapshot : Bool) (s : Stage)
    → (run_moves p (record c { skip = n }) a ops turns snapshot s).post ≡ (run_moves p c a ops turns snapshot s).post
run-alike p c n a ops turns snapshot stage.Skip = refl
run-alike p c n a ops turns snapshot stage.Cond = op-alike p c n a ops snapshot (slice_get ops a.op)
run-alike p c n a ops turns snapshot stage.Act = op-alike p c n a ops snapshot (slice_get ops a.op)

attempt-alike : (p : ClientPlan) (c : ClientState) (n : ℕ) (a : Present) (d : Command) → (attempt_moves p (record c { skip = n }) a d).post ≡ (attempt_moves p c a d).post
attempt-alike p c n a (Run ops turns snapshot) = run-alike p c n a ops turns (is_some snapshot) a.stage
attempt-alike p c n a (Snap name cont) = refl
attempt-alike p c n a (Aggregate cont) = refl
attempt-alike p c n a (Tell k) = refl
attempt-alike p c n a (Skip turns) = refl

begins-alike : (p : ClientPlan) (c : ClientState) (n : ℕ) (snapshot : Option (List ℕ)) (e : Option Epoch) → (begins_at p (record c { skip = n }) snapshot e).post ≡ (begins_at p c snapshot e).post
begins-alike p c n None e = refl
begins-alike p c n (Some name) None = refl
begins-alike p c n (Some name) (Some e) = refl

command-alike : (p : ClientPlan) (c : ClientState) (n : ℕ) (d : Command) → (command_moves p (record c { skip = n }) d).post ≡ (command_moves p c d).post
command-alike p c n (Run ops turns snapshot) = begins-alike p c n snapshot (first_epoch c.known snapshot)
command-alike p c n (Snap name cont) = refl
command-alike p c n (Aggregate cont) = refl
command-alike p c n (Tell k) = refl
command-alike p c n (Skip turns) = refl

moves-alike : (p : ClientPlan) (c : ClientState) (n : ℕ) (o : Option Command) (present : Option Present) → (moves_at p (record c { skip = n }) o present).post ≡ (moves_at p c o present).post
moves-alike p c n None present = refl
moves-alike p c n (Some d) None = command-alike p c n d
moves-alike p c n (Some d) (Some a) = attempt-alike p c n a d

pub skipping-sends-the-same : (p : ClientPlan) (c : ClientState) (n : ℕ) → (moved p (record c { skip = n })).post ≡ (moved p c).post
unfolding moved
skipping-sends-the-same p c n = by (waits c)
  where
    by : (b : Bool)
        → (if b then rests (record c { skip = n }) else moves_at p (record c { skip = n }) (command_at p c) c.present).post ≡ (if b then rests c else moves_at p c (command_at p c) c.present).post
    by true = refl
    by false = moves-alike p c n (command_at p c) c.present
