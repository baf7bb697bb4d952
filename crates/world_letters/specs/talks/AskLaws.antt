-- Each move of a client that doesn't wait sends nothing, tells a tracker, or asks and waits.
use Rattle.std.specs.Prelude.{ℕ, ◌≡◌, ◌+◌, Bool, true, false, ◌&&◌, nat_lt, List, [], ◌∷◌, slice_get, is_some, Option, Some, None, refl, if◌then◌else◌}
use Rattle.std.proofs.Common.{sym, ◌∙◌, ap, subst}
use Rattle.base_types.specs.declared.epoch.Epoch.{Epoch}
use Rattle.base_types.specs.declared.operation.MinorWrite.{MinorWrite}
use Rattle.base_types.specs.declared.operation.Op.{Op}
use Rattle.base_types.specs.declared.operation.Read.{Read}
use Rattle.base_types.specs.declared.outcome.Outcome.{Outcome}
use Rattle.base_types.specs.declared.outcome.Outcome.TheVariants as outcome
use Rattle.base_types.specs.declared.script.Command.{Command}
use Rattle.base_types.specs.declared.script.Command.TheVariants.{Run, Snap, Aggregate, Tell, Skip}
use Rattle.base_types.specs.Operations.{read_path}
use Rattle.base_messages.specs.declared.message.Message.TheVariants as message
use Rattle.base_messages.specs.declared.message.Post.{Post}
use Rattle.daos_model.specs.Accesses.{minor_writes}
use Rattle.daos_model.specs.Attempts.{is_restart, snapshot_of_command}
use Rattle.world_base.specs.declared.client.ClientPlan.{ClientPlan}
use Rattle.world_base.specs.declared.client.ClientState.{ClientState}
use Rattle.world_base.specs.declared.client.Present.{Present}
use Rattle.world_base.specs.declared.client.Stage.{Stage}
use Rattle.world_base.specs.declared.client.Stage.TheVariants as stage
use Rattle.world_base.specs.declared.request.CommitRequest.{CommitRequest}
use Rattle.world_base.specs.declared.request.FetchRequest.{FetchRequest}
use Rattle.world_base.specs.ClientTurns.{after_end, asks_or_goes, at_present, attempt_id, attempt_moves, begins_at, begun, command_at, command_moves, commits, ends, first_epoch, is_waiting, moved, moves_at, next_command, next_stage, op_moves, question, request_of, rests, run_moves, waits}
use Rattle.world_base.specs.Letters.{client, is_tell, target}
use Rattle.world_letters.specs.talks.Asked.{ARead, ASnapshot, AnAggregation, Asked, AsksCommit, AsksRead, commit_of, Asking, IsMove, ItsWrites, Silent, Telling, group_of_read}
use Rattle.world_letters.specs.talks.Conversation.{before_waiting, request_sent}
use Rattle.world_base.specs.Requests.{fetch_message}

-- ---- an attempt ends

after-end-goes : (p : ClientPlan) (c : ClientState) (o : Option Command) (a : Present) (how : Outcome) → waits (after_end p c o a how) ≡ false
after-end-goes p c None a how = refl
after-end-goes p c (Some d) a how = by (is_restart how && nat_lt (a.attempt + 1) p.attempts)
  where
    by : (b : Bool) → waits (if b then at_present (begun (a.attempt + 1) a.first (first_epoch c.known (snapshot_of_command d))) c else next_command c) ≡ false
    by true = refl
    by false = refl

-- a client whose attempt ended doesn't wait
pub ends-goes : (p : ClientPlan) (c : ClientState) (a : Present) (how : Outcome) → waits (ends p c a how).state ≡ false
ends-goes p c a how = after-end-goes p c (command_at p c) a how

-- ---- an attempt goes on

-- a client that is at this attempt of this command, and doesn't wait
pub record IsBusy (p : ClientPlan) (c : ClientState) (d : Command) (a : Present) : Type 0 where
  pub at : command_at p c ≡ Some d
  pub here : c.present ≡ Some a
  pub goes : a.waits ≡ false

commits-is : (p : ClientPlan) (c : ClientState) (a : Present) (ops : List Op) (turns : List ℕ) (snapshot : Option (List ℕ)) (ws : List MinorWrite) → IsBusy p c (Run ops turns snapshot) a
    → slice_get ops a.op ≡ None → minor_writes 0 ops ≡ ws → IsMove p c (commits p c a ws)
commits-is p c a ops turns snapshot [] k last all = Silent (ends-goes p c a outcome.Committed) refl
commits-is p c a ops turns snapshot (w ∷ ws) k last all =
    Asking a (record { to = target _; message = message.Commit (attempt_id p c a) a.epoch a.first c.tracker (w ∷ ws) }) k.here (ItsWrites ops turns snapshot w ws k.at last all refl) refl refl

stage-goes : (s : Stage) (a : Present) → (next_stage s a).waits ≡ a.waits
stage-goes stage.Skip a = refl
stage-goes stage.Cond a = refl
stage-goes stage.Act a = refl

asks-is : (p : ClientPlan) (c : ClientState) (a : Present) (ops : List Op) (turns : List ℕ) (snapshot : Option (List ℕ)) (op : Op) (r : Option Read) → IsBusy p c (Run ops turns snapshot) a
    → slice_get ops a.op ≡ Some op → question a.stage op ≡ r → IsMove p c (asks_or_goes p c a (is_some snapshot) r)
asks-is p c a ops turns snapshot op None k at asked = Silent (stage-goes a.stage a ∙ k.goes) refl
asks-is p c a ops turns snapshot op (Some r) k at asked =
    Asking a (record { to = target _; message = message.Fetch (attempt_id p c a) a.op (group_of_read p a (read_path r)) a.epoch a.first c.tracker r (is_some snapshot) }) k.here
    (ARead ops turns snapshot op r k.at at asked refl) refl refl

op-is : (p : ClientPlan) (c : ClientState) (a : Present) (ops : List Op) (turns : List ℕ) (snapshot : Option (List ℕ)) (o : Option Op) → IsBusy p c (Run ops turns snapshot) a
    → slice_get ops a.op ≡ o → IsMove p c (op_moves p c a ops (is_some snapshot) o)
op-is p c a ops turns snapshot None k at = commits-is p c a ops turns snapshot (minor_writes 0 ops) k at refl
op-is p c a ops turns snapshot (Some op) k at = asks-is p c a ops turns snapshot op (question a.stage op) k at refl

run-is : (p : ClientPlan) (c : ClientState) (a : Present) (ops : List Op) (turns : List ℕ) (snapshot : Option (List ℕ)) (s : Stage) → IsBusy p c (Run ops turns snapshot) a
    → IsMove p c (run_moves p c a ops turns (is_some snapshot) s)
run-is p c a ops turns snapshot stage.Skip k = Silent k.goes refl
run-is p c a ops turns snapshot stage.Cond k = op-is p c a ops turns snapshot (slice_get ops a.op) k refl
run-is p c a ops turns snapshot stage.Act k = op-is p c a ops turns snapshot (slice_get ops a.op) k refl

still-goes : (p : ClientPlan) (c : ClientState) (d : Command) (a : Present) → IsBusy p c d a → waits c ≡ false
still-goes p c d a k = ap is_waiting k.here ∙ k.goes

attempt-is : (p : ClientPlan) (c : ClientState) (d : Command) (a : Present) → IsBusy p c d a → IsMove p c (attempt_moves p c a d)
attempt-is p c (Run ops turns snapshot) a k = run-is p c a ops turns snapshot a.stage k
attempt-is p c (Snap name cont) a k = Asking a (record { to = target 0; message = message.Snap (attempt_id p c a) cont name c.tracker }) k.here (ASnapshot name cont k.at refl) refl refl
attempt-is p c (Aggregate cont) a k = Asking a (record { to = target 0; message = message.Prune (attempt_id p c a) cont (Some c.tracker) None }) k.here (AnAggregation cont k.at refl) refl refl
attempt-is p c (Tell client) a k = Silent (still-goes p c (Tell client) a k) refl
attempt-is p c (Skip turns) a k = Silent (still-goes p c (Skip turns) a k) refl

-- ---- a command begins

begins-is : (p : ClientPlan) (c : ClientState) (snapshot : Option (List ℕ)) (e : Option Epoch) → IsMove p c (begins_at p c snapshot e)
begins-is p c None e = Silent refl refl
begins-is p c (Some name) None = Silent (ends-goes p c (begun 0 None None) outcome.NoSnapshot) refl
begins-is p c (Some name) (Some e) = Silent refl refl

command-is : (p : ClientPlan) (c : ClientState) (d : Command) → c.present ≡ None → IsMove p c (command_moves p c d)
command-is p c (Run ops turns snapshot) none = begins-is p c snapshot (first_epoch c.known snapshot)
command-is p c (Snap name cont) none = begins-is p c None (first_epoch c.known None)
command-is p c (Aggregate cont) none = begins-is p c None (first_epoch c.known None)
command-is p c (Tell n) none = Telling n none (ap is_waiting none) refl
command-is p c (Skip turns) none = Silent (ap is_waiting none) refl

-- ---- a move

moves-at-is : (p : ClientPlan) (c : ClientState) (o : Option Command) (present : Option Present) → waits c ≡ false → command_at p c ≡ o → c.present ≡ present → IsMove p c (moves_at p c o present)
moves-at-is p c None present goes at here = Silent goes refl
moves-at-is p c (Some d) None goes at here = command-is p c d here
moves-at-is p c (Some d) (Some a) goes at here = attempt-is p c d a (record { at = at; here = here; goes = sym (ap is_waiting here) ∙ goes })

-- a client that waits rests
pub waiting-rests : (p : ClientPlan) (c : ClientState) → waits c ≡ true → moved p c ≡ rests c
unfolding moved
waiting-rests p c h = ap (λ b. if b then rests c else moves_at p c (command_at p c) c.present) h

going-moves : (p : ClientPlan) (c : ClientState) → waits c ≡ false → moved p c ≡ moves_at p c (command_at p c) c.present
unfolding moved
going-moves p c h = ap (λ b. if b then rests c else moves_at p c (command_at p c) c.present) h

-- a client that doesn't wait makes a move of these
pub move-is : (p : ClientPlan) (c : ClientState) → waits c ≡ false → IsMove p c (moved p c)
move-is p c h = subst (IsMove p c) (sym (going-moves p c h)) (moves-at-is p c (command_at p c) c.present h refl refl)

-- ---- what was asked

-- a request goes to a target, is about the present attempt, and tells no tracker
pub record IsRequest (p : ClientPlan) (c : ClientState) (a : Present) (q : Post) : Type 0 where
  pub to_target : q.to.client ≡ false
  pub of_attempt : request_of q.message ≡ Some (attempt_id p c a)
  pub no_tell : is_tell q.message ≡ false

pub asked-is-request : (p : ClientPlan) (k : Epoch) (c : ClientState) (a : Present) (q : Post) → Asked p k c a q → IsRequest p c a q
asked-is-request p k c a q (ARead ops turns snapshot op r at is asked says) = rw says (record { to_target = refl; of_attempt = refl; no_tell = refl })
asked-is-request p k c a q (ItsWrites ops turns snapshot w ws at last all says) = rw says (record { to_target = refl; of_attempt = refl; no_tell = refl })
asked-is-request p k c a q (ASnapshot name cont at says) = rw says (record { to_target = refl; of_attempt = refl; no_tell = refl })
asked-is-request p k c a q (AnAggregation cont at says) = rw says (record { to_target = refl; of_attempt = refl; no_tell = refl })

-- what was asked by a Fetch
pub asked-read : (p : ClientPlan) (k : Epoch) (c : ClientState) (a : Present) (s : Post) (q : FetchRequest) → Asked p k c a s → s.message ≡ fetch_message q → AsksRead p k c a q
asked-read p k c a s q (ARead ops turns snapshot op r at here asked says) it =
    let same : message.Fetch (attempt_id p c a) a.op (group_of_read p a (read_path r)) a.epoch a.first k r (is_some snapshot) ≡ fetch_message q = sym (ap (λ x. x.message) says) ∙ it in
    let the_read : q.read ≡ r = cc (same) in
    record {
      attempt = cc (same);
      op = cc (same);
      group = cc (same, the_read);
      ep = cc (same);
      first = cc (same);
      tracker = cc (same);
      ops = ops;
      turns = turns;
      name = snapshot;
      o = op;
      at = at;
      here = here;
      asked = asked ∙ ap (λ x. Some x) (sym the_read);
      snapshot = cc (same);
    }
asked-read p k c a s q (ItsWrites ops turns snapshot w ws at last all says) it = let no : ⊥ = cc (ap (λ x. x.message) says, it) in absurd no
asked-read p k c a s q (ASnapshot name cont at says) it = let no : ⊥ = cc (ap (λ x. x.message) says, it) in absurd no
asked-read p k c a s q (AnAggregation cont at says) it = let no : ⊥ = cc (ap (λ x. x.message) says, it) in absurd no

-- and by a Commit
pub asked-commit : (p : ClientPlan) (k : Epoch) (c : ClientState) (a : Present) (s : Post) (q : CommitRequest) → Asked p k c a s → s.message ≡ commit_of q → AsksCommit p k c a q
asked-commit p k c a s q (ItsWrites ops turns snapshot w ws at last all says) it =
    let same : message.Commit (attempt_id p c a) a.epoch a.first k (w ∷ ws) ≡ commit_of q = sym (ap (λ x. x.message) says) ∙ it in
    record {
      attempt = cc (same);
      ep = cc (same);
      first = cc (same);
      tracker = cc (same);
      ops = ops;
      turns = turns;
      name = snapshot;
      at = at;
      last = last;
      writes = cc (same, all);
    }
asked-commit p k c a s q (ARead ops turns snapshot op r at here asked says) it = let no : ⊥ = cc (ap (λ x. x.message) says, it) in absurd no
asked-commit p k c a s q (ASnapshot name cont at says) it = let no : ⊥ = cc (ap (λ x. x.message) says, it) in absurd no
asked-commit p k c a s q (AnAggregation cont at says) it = let no : ⊥ = cc (ap (λ x. x.message) says, it) in absurd no

-- the state in which a client asked
abbrev asking : Epoch → ClientState → Present → ClientState
asking k c a = record c { tracker = k; present = Some (record a { waits = false }) }

waited-for : (p : ClientPlan) (k : Epoch) (c : ClientState) (a : Present) (q : Post) → Asked p k (asking k c a) (record a { waits = false }) q → Asked p k c a q
waited-for p k c a q (ARead ops turns snapshot op r at is asked says) = ARead ops turns snapshot op r at is asked says
waited-for p k c a q (ItsWrites ops turns snapshot w ws at last all says) = ItsWrites ops turns snapshot w ws at last all says
waited-for p k c a q (ASnapshot name cont at says) = ASnapshot name cont at says
waited-for p k c a q (AnAggregation cont at says) = AnAggregation cont at says

-- what a client asked that is at an attempt
pub sent-is-asked : (p : ClientPlan) (k : Epoch) (c : ClientState) (a : Present) (q : Post) → c.present ≡ Some a → request_sent p k c ≡ Some q → Asked p k c a q
sent-is-asked p k c a q here sent = by (move-is p (asking k c a) refl)
  where
    said : (moved p (asking k c a)).post ≡ Some q
    said = ap (λ o. (moved p (record c { tracker = k; present = before_waiting o })).post) (sym here) ∙ sent

    by : IsMove p (asking k c a) (moved p (asking k c a)) → Asked p k c a q
    by (Silent goes none) = let no : ⊥ = cc in absurd no
    by (Telling n none goes tells) = let no : ⊥ = cc (none) in absurd no
    by (Asking b r is asked says after) =
        let same : record a { waits = false } ≡ b = cc in
        let one : r ≡ q = cc in
        waited-for p k c a q (subst (λ s. Asked p k (asking k c a) (record a { waits = false }) s) one (subst (λ s. Asked p k (asking k c a) s r) (sym same) asked))

-- what a client asks as it begins to wait is what it then has asked
pub asks-what-it-asked : (p : ClientPlan) (c : ClientState) (a : Present) (q : Post) → waits c ≡ false → c.present ≡ Some a → (moved p c).post ≡ Some q
    → request_sent p c.tracker (at_present (record a { waits = true }) c) ≡ Some q
asks-what-it-asked p c a q goes here says = ap (λ s. (moved p s).post) same ∙ says
  where
    free : false ≡ a.waits
    free = sym goes ∙ ap is_waiting here

    as_before : Some (record a { waits = false }) ≡ c.present
    as_before = ap (λ b. Some (record a { waits = b })) free ∙ sym here

    same : record c { present = Some (record a { waits = false }) } ≡ c
    same = ap (λ o. record c { present = o }) as_before
