-- What an outcome shows it goes on to show, while lines are told, epochs issued and attempts stored.
use Rattle.std.specs.Prelude.{ℕ, ◌≡◌, ◌≤◌, ◌<◌, ◌+◌, ◌*◌, ◌++◌, ◌||◌, Any, Bool, true, false, List, [], ◌∷◌, filter, length, Some, None, refl, if◌then◌else◌}
use Rattle.std.specs.List.{list_any}
use Rattle.std.proofs.Common.{append-nil, sym, ◌∙◌, ap, subst, arith}
use Rattle.std.proofs.Math.Bool.{or-false}
use Rattle.std.proofs.lemmas.List.{append_assoc, length-append}
use Rattle.std.proofs.lemmas.List.Elements.{Contains-append_left, filter-append}
use Rattle.std.proofs.lemmas.List.Folds.{list_any-append}
use Rattle.base_types.specs.declared.epoch.Epoch.{Epoch}
use Rattle.base_types.specs.declared.id.AttemptId.{AttemptId}
use Rattle.base_types.specs.declared.id.ContId.{ContId}
use Rattle.base_types.specs.declared.outcome.Cause.{Cause}
use Rattle.base_types.specs.declared.outcome.Cause.TheVariants as cause
use Rattle.base_types.specs.declared.outcome.FloorWhy.{FloorWhy}
use Rattle.base_types.specs.declared.outcome.Outcome.{Outcome}
use Rattle.base_types.specs.declared.outcome.Outcome.TheVariants as outcome
use Rattle.base_types.specs.declared.report.Attempt.{Attempt}
use Rattle.base_types.specs.declared.report.Line.{Line}
use Rattle.base_types.specs.declared.report.Line.TheVariants as line
use Rattle.base_types.specs.declared.script.Script.{Script}
use Rattle.base_types.specs.Epochs.{last_ticks}
use Rattle.base_messages.specs.declared.message.Message.{Message}
use Rattle.base_messages.specs.declared.message.Message.TheVariants as message
use Rattle.base_messages.specs.declared.message.Reply.{Reply}
use Rattle.base_messages.specs.declared.message.Reply.TheVariants as reply
use Rattle.model_laws.specs.Lists.{any-of}
use Rattle.model_laws.specs.Members.{has-from_contains, has-left}
use Rattle.daos_model.specs.Accesses.{attempt_targets}
use Rattle.daos_model.specs.Attempts.{is_lost, is_of_client, is_unknown, tries, up_to_last_of}
use Rattle.daos_model.specs.CausesShown.{IsStopAt, ShowsFloor, StopsAfter, is_snap}
use Rattle.daos_model.specs.Durables.{same_attempt}
use Rattle.daos_model.specs.Laws.{tries-append}
use Rattle.daos_model.specs.Opening.{Opening}
use Rattle.daos_model.specs.Stops.{restart_numbers, restarted_number}
use Rattle.daos_model.specs.Transactions.{command_of}
use Rattle.world_base.specs.Events.{Rules}
use Rattle.world_causes.specs.causes.Causes.{Dated, EndsOf, IsUnanswered, Stored, blocks_of_stored, limit}
use Rattle.world_causes.specs.causes.Growth.{blocks-more, meets-more}
use Rattle.world_causes.specs.causes.Shown.{CauseStands, HasLine, IsFirstEpoch, IsOfBefore, IsOpenTo, IsTold, IsUnknown, LacksSpace, LeaderStopped, MeetsUnresolved, MessageStands, NotAnswered, OutcomeStands, RefusalStands, ReplyStands, WasLost, is_other_snap, limit_over}

-- ---- lines of other clients

-- lines that tell of no attempt of a client
abbrev pub AreOfOthers : ℕ → List Line → Type 0
AreOfOthers c more = list_any (is_of_client c) (tries more) ≡ false

pub silent-others : (c : ℕ) (more : List Line) → tries more ≡ [] → AreOfOthers c more
silent-others c more none = ap (list_any (is_of_client c)) none

up-to-none : (c : ℕ) (more : List Line) → AreOfOthers c more → up_to_last_of c more ≡ []
unfolding up_to_last_of
up-to-none c [] others = refl
up-to-none c (l ∷ ls) others = ap (λ b. if b then l ∷ up_to_last_of c ls else []) others

-- they change nothing of what stands up to the last line of the client
pub up-to-others : (c : ℕ) (lines more : List Line) → AreOfOthers c more → up_to_last_of c (lines ++ more) ≡ up_to_last_of c lines
unfolding up_to_last_of
up-to-others c [] more others = up-to-none c more others
up-to-others c (l ∷ ls) more others =
    ap (λ rest. if list_any (is_of_client c) (tries ((l ∷ ls) ++ more)) then l ∷ rest else []) (up-to-others c ls more others)
    ∙ ap (λ b. if b then l ∷ up_to_last_of c ls else [])
    (ap (list_any (is_of_client c)) (tries-append (l ∷ ls) more) ∙ list_any-append (is_of_client c) (tries (l ∷ ls)) (tries more) ∙ ap (λ b. list_any (is_of_client c) (tries (l ∷ ls)) || b) others ∙ or-false (list_any (is_of_client c) (tries (l ∷ ls))))

-- ---- what lines show

any-left : {T : Type 0} (P : T → Type 0) (xs ys : List T) → Any P xs → Any P (xs ++ ys)
any-left P xs ys k = any-of P (xs ++ ys) k.1 (has-left xs ys k.1 (has-from_contains xs k.1 (k.0, k.2, k.3))) k.4

any-try : (P : Attempt → Type 0) (lines more : List Line) → Any P (tries lines) → Any P (tries (lines ++ more))
any-try P lines more k = subst (Any P) (sym (tries-append lines more)) (any-left P (tries lines) (tries more) k)

pub lost-more : (lines more : List Line) (x : AttemptId) → WasLost lines x → WasLost (lines ++ more) x
lost-more lines more x k = any-try (λ b. (b.id ≡ x) × (is_lost b.id b.outcome ≡ true)) lines more k

pub first-more : (issued new : Dated) (lines more : List Line) (x : AttemptId) (f : Epoch) → IsFirstEpoch issued lines x f → IsFirstEpoch (issued ++ new) (lines ++ more) x f
first-more issued new lines more x f k = record {
  number = k.number;
  early = k.early;
  its = Contains-append_left issued new (record x { attempt = k.number }, f) k.its;
  lost = λ n low. lost-more lines more (record x { attempt = n }) (k.lost n low);
}

pub floor-more : (t : ℕ) (floor : Epoch) (cont : ContId) (reason : FloorWhy) (lines more : List Line) → Any (ShowsFloor t floor cont reason) lines → Any (ShowsFloor t floor cont reason) (lines ++ more)
floor-more t floor cont reason lines more k = any-left (ShowsFloor t floor cont reason) lines more k

pub told-more : (o : Opening) (lines more : List Line) (t : ℕ) (cont : ContId) (floor : Epoch) (reason : FloorWhy) → IsTold o lines t cont floor reason → IsTold o (lines ++ more) t cont floor reason
told-more o lines more t cont floor reason (IsOfBefore low) = IsOfBefore low
told-more o lines more t cont floor reason (HasLine i) = HasLine (floor-more t floor cont reason lines more i)

pub numbers-both : (lines more : List Line) → restart_numbers (lines ++ more) ≡ restart_numbers lines ++ restart_numbers more
numbers-both [] more = refl
numbers-both (l ∷ lines) more = ap (λ ns. restarted_number l ++ ns) (numbers-both lines more) ∙ sym (append_assoc (restarted_number l) (restart_numbers lines) (restart_numbers more))

pub limit-told : (o : Opening) (lines more : List Line) (issued : Dated) → limit_over o lines issued ≤ limit_over o (lines ++ more) issued
limit-told o lines more issued =
    by (limit o issued) (length (restart_numbers lines)) (length (restart_numbers more)) (length (restart_numbers (lines ++ more))) (ap length (numbers-both lines more) ∙ length-append (restart_numbers lines) (restart_numbers more))
  where
    by : (a b c d : ℕ) → d ≡ b + c → a + 65536 * b ≤ a + 65536 * d
    by a b c d e = omega (arith, e)

stops-more : (ts : List ℕ) (first lines more : List Line) → StopsAfter ts first lines → StopsAfter ts first (lines ++ more)
stops-more ts first lines more k = record {
  since = k.since ++ more;
  rest = ap (λ ls. ls ++ more) k.rest ∙ append_assoc first k.since more;
  stop = let one : Any (IsStopAt k.stop.1) k.since = k.stop.4 in any-of (λ t. Any (IsStopAt t) (k.since ++ more)) ts k.stop.1 (has-from_contains ts k.stop.1 (k.stop.0, k.stop.2, k.stop.3)) (any-left (IsStopAt k.stop.1) k.since more one);
}

-- what stopped since a client's last line
pub since-more : (ts : List ℕ) (c : ℕ) (lines more : List Line) → AreOfOthers c more → StopsAfter ts (up_to_last_of c lines) lines → StopsAfter ts (up_to_last_of c (lines ++ more)) (lines ++ more)
since-more ts c lines more others k = subst (λ first. StopsAfter ts first (lines ++ more)) (sym (up-to-others c lines more others)) (stops-more ts (up_to_last_of c lines) lines more k)

pub unanswered-more : (lines more : List Line) (x by : AttemptId) → AreOfOthers x.client more → IsUnanswered lines x by → IsUnanswered (lines ++ more) x by
unanswered-more lines more x by others u k = u (subst (λ ls. Any (λ b. b.id ≡ by) (tries ls)) (up-to-others x.client lines more others) k)

-- one that is open to another stays so
pub open-more : (s : Script) (lines more : List Line) (x by : AttemptId) → AreOfOthers x.client more → IsOpenTo s lines x by → IsOpenTo s (lines ++ more) x by
open-more s lines more x by others (NotAnswered u) = NotAnswered (unanswered-more lines more x by others u)
open-more s lines more x by others (IsUnknown k) = IsUnknown (any-try (λ b. (b.id ≡ by) × (is_unknown b.outcome ≡ true)) lines more k)
open-more s lines more x by others (LeaderStopped before after b its cut stops) =
    LeaderStopped before (after ++ more) b its (ap (λ ls. ls ++ more) cut ∙ append_assoc before (line.Try b ∷ after) more) (stops-more _ (up_to_last_of by.client before) lines more stops)

-- ---- what outcomes show

others-more : (p : AttemptId × Epoch → Bool) (issued more : Dated) → length (filter p issued) ≤ length (filter p (issued ++ more))
others-more p issued more = by (length (filter p issued)) (length (filter p more)) (length (filter p (issued ++ more))) (ap length (filter-append p issued more) ∙ length-append (filter p issued) (filter p more))
  where
    by : (a b c : ℕ) → c ≡ a + b → a ≤ c
    by a b c e = omega (arith, e)

module _ (r : Rules) (o : Opening) (new stored : Stored) (issued added : Dated) (lines more : List Line) where
  cause-more : (x : AttemptId) (why : Cause) → CauseStands r issued lines x why → CauseStands r (issued ++ added) (lines ++ more) x why
  cause-more x (cause.ReadLater by epoch path) k = record {
    own = k.own;
    its = Contains-append_left issued added (x, k.own) k.its;
    later = k.later;
    reader = Contains-append_left issued added (by, epoch) k.reader;
    asks = k.asks;
    near = k.near;
  }
  cause-more x (cause.WriteLater by epoch path) k = record {
    own = k.own;
    its = Contains-append_left issued added (x, k.own) k.its;
    later = k.later;
    first = k.first;
    begun = first-more issued added lines more x k.first k.begun;
    uncertain = k.uncertain;
    writer = Contains-append_left issued added (by, epoch) k.writer;
    writes = k.writes;
    near = k.near;
  }
  cause-more x (cause.Unresolved by) k = k
  cause-more x (cause.Floor target epoch why) k = record {
    own = k.own;
    its = Contains-append_left issued added (x, k.own) k.its;
    reached = k.reached;
    target = k.target;
    cont = k.cont;
    accessed = k.accessed;
    shown = floor-more target epoch k.cont why lines more k.shown;
  }

  lack-more : (snap : Bool) (x : AttemptId) (t need free : ℕ) → LacksSpace snap r o stored issued x t need free → LacksSpace snap r o (new ++ stored) (issued ++ added) x t need free
  lack-more true x t need free k = record {
    own = k.own;
    its = Contains-append_left issued added (x, k.own) k.its;
    target = k.target;
    need_is = k.need_is;
    free_is = k.free_is;
    full = sum (length o.stand.snaps) (length (filter (is_other_snap r.script x) issued)) (length (filter (is_other_snap r.script x) (issued ++ added))) k.full (others-more (is_other_snap r.script x) issued added);
  }
    where
      sum : (a b c : ℕ) → 256 ≤ a + b → b ≤ c → 256 ≤ a + c
      sum a b c p q = omega (arith, p, q)
  lack-more false x t need free k = record {
    own = k.own;
    its = Contains-append_left issued added (x, k.own) k.its;
    wanting = k.wanting;
    need_is = k.need_is;
    accounted =
        let p : o.free t ≤ free + blocks_of_stored r.script t stored = k.accounted in
        let q : blocks_of_stored r.script t stored ≤ blocks_of_stored r.script t (new ++ stored) = blocks-more r.script t new stored in
        omega (arith, p, q);
  }

  pub refusal-more : (x : AttemptId) (how : Outcome) → RefusalStands r o stored issued lines x how → RefusalStands r o (new ++ stored) (issued ++ added) (lines ++ more) x how
  refusal-more x outcome.Committed k = tt
  refusal-more x (outcome.CondFailed op) k = tt
  refusal-more x (outcome.Restart why) k = cause-more x why k
  refusal-more x (outcome.NoSpace target need free) k = lack-more (is_snap (command_of r.script x)) x target need free k
  refusal-more x outcome.EpochsSpent k = record {
    before = k.before;
    since = k.since ++ added;
    among = ap (λ is. is ++ added) k.among ∙ append_assoc k.before k.since added;
    none = k.none;
    spent = let low : last_ticks < limit_over o lines k.before + 1 = k.spent in let up : limit_over o lines k.before ≤ limit_over o (lines ++ more) k.before = limit-told o lines more k.before in sum (limit_over o lines k.before) (limit_over o (lines ++ more) k.before) low up;
  }
    where
      sum : (b c : ℕ) → last_ticks < b + 1 → b ≤ c → last_ticks < c + 1
      sum b c p q = omega (arith, p, q)
  refusal-more x outcome.NoSnapshot k = k
  refusal-more x (outcome.Unknown target) k = (k.0, Contains-append_left lines more (line.Down target) k.1)

  unresolved-more : (own : Bool) (x by : AttemptId) → AreOfOthers x.client more → MeetsUnresolved own r issued lines x by → MeetsUnresolved own r (issued ++ added) (lines ++ more) x by
  unresolved-more true x by others k = since-more (attempt_targets r.script x) x.client lines more others k
  unresolved-more false x by others k = (meets-more r issued added x by k.0, open-more r.script lines more x by others k.1)

  -- while no line is told of an attempt of its client
  pub outcome-more : (x : AttemptId) → AreOfOthers x.client more → (how : Outcome) → OutcomeStands r o stored issued lines x how → OutcomeStands r o (new ++ stored) (issued ++ added) (lines ++ more) x how
  outcome-more x others outcome.Committed k = tt
  outcome-more x others (outcome.CondFailed op) k = tt
  outcome-more x others (outcome.Restart (cause.ReadLater by epoch path)) k = cause-more x (cause.ReadLater by epoch path) k
  outcome-more x others (outcome.Restart (cause.WriteLater by epoch path)) k = cause-more x (cause.WriteLater by epoch path) k
  outcome-more x others (outcome.Restart (cause.Unresolved by)) k = unresolved-more (same_attempt by x) x by others k
  outcome-more x others (outcome.Restart (cause.Floor target epoch why)) k = cause-more x (cause.Floor target epoch why) k
  outcome-more x others (outcome.NoSpace target need free) k = refusal-more x (outcome.NoSpace target need free) k
  outcome-more x others outcome.EpochsSpent k = refusal-more x outcome.EpochsSpent k
  outcome-more x others outcome.NoSnapshot k = k
  outcome-more x others (outcome.Unknown target) k = refusal-more x (outcome.Unknown target) k

  reply-more : (x : AttemptId) → AreOfOthers x.client more → (b : Reply) → ReplyStands r o stored issued lines x b → ReplyStands r o (new ++ stored) (issued ++ added) (lines ++ more) x b
  reply-more x others (reply.Answer b) k = tt
  reply-more x others (reply.Outcome how) k = outcome-more x others how k

  pub message-more : (m : Message) → ((x : AttemptId) → EndsOf m x → AreOfOthers x.client more) → MessageStands r o stored issued lines m → MessageStands r o (new ++ stored) (issued ++ added) (lines ++ more) m
  message-more (message.Fetched x op group e b) others k = reply-more x (others x refl) b k
  message-more (message.Ended x e how) others k = outcome-more x (others x refl) how k
  message-more (message.Ack x inc (Some how)) others k = refusal-more x how k
  message-more (message.Ack x inc None) others k = tt
  message-more m others k = tt

-- what a refusal shows it shows where more was stored
pub stored-more : (r : Rules) (o : Opening) (new stored : Stored) (issued : Dated) (lines : List Line) (x : AttemptId) (how : Outcome) → RefusalStands r o stored issued lines x how → RefusalStands r o (new ++ stored) issued lines x how
stored-more r o new stored issued lines x how k =
    subst (λ is. RefusalStands r o (new ++ stored) is lines x how) (append-nil issued) (subst (λ ls. RefusalStands r o (new ++ stored) (issued ++ []) ls x how) (append-nil lines) (refusal-more r o new stored issued [] lines [] x how k))

-- a member's refusal is what its attempt's outcome shows, wherever its line stands
pub refusal-shows : (r : Rules) (o : Opening) (stored : Stored) (issued : Dated) (lines : List Line) (x : AttemptId) (how : Outcome) → RefusalStands r o stored issued lines x how → OutcomeStands r o stored issued lines x how
refusal-shows r o stored issued lines x outcome.Committed k = tt
refusal-shows r o stored issued lines x (outcome.CondFailed op) k = tt
refusal-shows r o stored issued lines x (outcome.Restart (cause.ReadLater by epoch path)) k = k
refusal-shows r o stored issued lines x (outcome.Restart (cause.WriteLater by epoch path)) k = k
refusal-shows r o stored issued lines x (outcome.Restart (cause.Unresolved by)) k = absurd k
refusal-shows r o stored issued lines x (outcome.Restart (cause.Floor target epoch why)) k = k
refusal-shows r o stored issued lines x (outcome.NoSpace target need free) k = k
refusal-shows r o stored issued lines x outcome.EpochsSpent k = k
refusal-shows r o stored issued lines x outcome.NoSnapshot k = k
refusal-shows r o stored issued lines x (outcome.Unknown target) k = k
