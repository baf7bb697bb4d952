-- A target's turn is determined by its plan and opening, what it knows and keeps, what it hears and when, but for what is open.
use Rattle.std.specs.Prelude.{ℕ, ◌≡◌, ◌++◌, Bool, List, filter, Some, None, refl}
use Rattle.std.proofs.Common.{sym, ◌∙◌, ap, subst}
use Rattle.base_types.specs.declared.entry.Verdict.{Verdict}
use Rattle.base_types.specs.declared.entry.Verdict.TheVariants as verdict
use Rattle.base_types.specs.declared.epoch.Epoch.{Epoch}
use Rattle.base_types.specs.declared.id.AttemptId.{AttemptId}
use Rattle.base_types.specs.declared.outcome.FloorWhy.{FloorWhy}
use Rattle.base_messages.specs.declared.actor.ActorId.{ActorId}
use Rattle.base_messages.specs.declared.message.Message.{Message, more_of-Message}
use Rattle.base_messages.specs.declared.message.Message.TheVariants as message
use Rattle.daos_model.specs.declared.durable.Durable.{Durable}
use Rattle.daos_model.specs.Durables.{entry_of}
use Rattle.dtx_base.specs.Asking.{ask_heard}
use Rattle.dtx_base.specs.Leading.{attempts_of, reset_heard}
use Rattle.dtx_base.specs.Rows.{is_other_row, itself}
use Rattle.model_laws.specs.Members.{contains-from_has, has-from_contains, has-from_filter}
use Rattle.world_base.specs.declared.did.Did.{Did}
use Rattle.world_base.specs.declared.target.TargetMemory.{TargetMemory}
use Rattle.world_base.specs.declared.target.TargetPlan.{TargetPlan}
use Rattle.world_base.specs.Acks as ack
use Rattle.world_base.specs.Changes.{Kept}
use Rattle.world_base.specs.Further.{HearsFurther, reset_by}
use Rattle.world_base.specs.Requests.{says, sends}
use Rattle.world_base.specs.Roles.{is_prepared, joins_on, leader_at, leads_on, told_by, told_of_all}
use Rattle.world_base.specs.Statuses.{ask_left, reset_joins, reset_left, state_of, status_left, status_refusal}
use Rattle.world_base.specs.TargetTurns.{Hears, IdlesWhole, commit_request, fetch_request, prepare_request}
use Rattle.world_base.specs.Turns.{Whole}
use Rattle.world_determined.specs.Commits.{commits_are_one, downs_are_one}
use Rattle.world_determined.specs.Fetches.{NoneLedElsewhere, fetches_are_one}
use Rattle.world_determined.specs.Makings.{aggregates_are_one, freezes_are_one, helds_are_one, prunes_are_one, snaps_are_one}
use Rattle.world_determined.specs.Open.{Look, all_of_it, but_shown, did-seen, left_open, none_of_it, seen_did, seen_left}
use Rattle.world_determined.specs.Prepares.{prepares_are_one}
use Rattle.world_determined.specs.Settlings.{GoesByKept, acks_are_one, at_once_are_one, idle_is_one, marked_are_one, marks_are_one, queries_are_one}
use Rattle.world_determined.specs.Verdicts.{verdicts_are_one}
use Rattle.world_determined.specs.Wholes.{OneTurn}

-- ---- the statements

-- A turn in which a target hears a message is determined, where no other target leads what it decided and hasn't settled, and the same is told
-- of what is left open. That is nothing but in the turn of a Commit and of a Prepare.
abbrev pub HearingIsOne : Type 0
HearingIsOne =
    (t : TargetPlan) (opening : Epoch × FloorWhy) (m : TargetMemory) (reading : ℕ) (from : ActorId) (q : Message) (old old' new new' : Kept) (left left' : TargetMemory × Did)
    → NoneLedElsewhere t m.leader.decided old.durable → old.durable ≡ old'.durable → left_open q left.1 ≡ left_open q left'.1
    → Hears t opening m reading from q old new left → Hears t opening m reading from q old' new' left' → OneTurn new new' left left'

-- two turns are alike: they come to one, whichever later read is shown and however many blocks are free
pub record AlikeTurns (new new' : Kept) (left left' : TargetMemory × Did) : Type 0 where
  pub kept_same : new.durable ≡ new'.durable
  pub known_same : left.0 ≡ left'.0
  pub told_alike : but_shown left.1 ≡ but_shown left'.1

-- Where two turns are refused by a later read, whichever it is, or both for want of space, however many blocks are free, or neither is, they are
-- alike.
abbrev pub HearingIsAlike : Type 0
HearingIsAlike =
    (t : TargetPlan) (opening : Epoch × FloorWhy) (m : TargetMemory) (reading : ℕ) (from : ActorId) (q : Message) (old old' new new' : Kept) (left left' : TargetMemory × Did)
    → NoneLedElsewhere t m.leader.decided old.durable → old.durable ≡ old'.durable → left_open q (but_shown left.1) ≡ left_open q (but_shown left'.1)
    → Hears t opening m reading from q old new left → Hears t opening m reading from q old' new' left' → AlikeTurns new new' left left'

-- so is one in which it hears what comes of stops, or what makes snapshots and aggregates; nothing of that is open
abbrev pub FurtherIsOne : Type 0
FurtherIsOne =
    (number : ℕ) (t : TargetPlan) (opening : Epoch × FloorWhy) (m : TargetMemory) (reading : ℕ) (from : ActorId) (q : Message) (old old' new new' : Kept) (left left' : TargetMemory × Did)
    → old.durable ≡ old'.durable → HearsFurther number t opening m reading from q old new left → HearsFurther number t opening m reading from q old' new' left' → OneTurn new new' left left'

-- so is idle work
abbrev pub IdlingIsOne : Type 0
IdlingIsOne =
    (settling : Bool) (t : TargetPlan) (m : TargetMemory) (old old' new new' : Kept) (left left' : TargetMemory × Did)
    → old.durable ≡ old'.durable → IdlesWhole settling t m old new left → IdlesWhole settling t m old' new' left' → OneTurn new new' left left'

-- ---- what a Verdict leaves decided

led-fewer : (t : TargetPlan) (a : AttemptId) (decided : List AttemptId) (d : Durable) → NoneLedElsewhere t decided d → NoneLedElsewhere t (filter (is_other_row itself a) decided) d
led-fewer t a decided d led b among = led b (contains-from_has decided b (has-from_filter (is_other_row itself a) decided b (has-from_contains (filter (is_other_row itself a) decided) b among)).0)

pub led-told : (t : TargetPlan) (v : Verdict) (a : AttemptId) (m : TargetMemory) (d : Durable) → NoneLedElsewhere t m.leader.decided d → NoneLedElsewhere t (told_by v a m).leader.decided d
led-told t verdict.Committed a m d led = led-fewer t a m.leader.decided d led
led-told t verdict.Aborted a m d led = led-fewer t a m.leader.decided d led
led-told t verdict.Undecided a m d led = led

-- ---- hearing

one-seen : (look : Look) (new new' : Kept) (left left' : TargetMemory × Did) → OneTurn new new' left left' → OneTurn new new' (seen_left look left) (seen_left look left')
one-seen look new new' left left' one = record { kept_same = one.kept_same; left_same = ap (seen_left look) one.left_same }

-- what is seen of a turn is determined by what is seen of what it tells of what is open
hearing-seen :
    (look : Look) (t : TargetPlan) (opening : Epoch × FloorWhy) (m : TargetMemory) (reading : ℕ) (from : ActorId) (q : Message) (old old' new new' : Kept) (left left' : TargetMemory × Did)
    → NoneLedElsewhere t m.leader.decided old.durable → old.durable ≡ old'.durable → left_open q (seen_did look left.1) ≡ left_open q (seen_did look left'.1)
    → Hears t opening m reading from q old new left → Hears t opening m reading from q old' new' left' → OneTurn new new' (seen_left look left) (seen_left look left')
hearing-seen look t opening m reading from (message.Fetch x op group ep first tracker r snapshot) old old' new new' left left' led same told h h' =
    one-seen look new new' left left' (fetches_are_one t m reading (fetch_request x op group ep first tracker r snapshot) from old old' new new' left left' led same h h')
hearing-seen look t opening m reading from (message.Commit x ep first tracker ws) old old' new new' left left' led same told h h' =
    commits_are_one t opening m reading (commit_request x ep first tracker ws) from look old old' new new' left left' same told h h'
hearing-seen look t opening m reading from (message.Prepare e first ws inc) old old' new new' left left' led same told h h' =
    prepares_are_one t opening m (prepare_request e first ws inc) look old old' new new' left left' same told h h'
hearing-seen look t opening m reading from (message.Ack x inc refusal) old old' new new' left left' led same told h h' =
    one-seen look new new' left left' (acks_are_one t m from.number x inc refusal old old' new new' left left' same h h')
hearing-seen look t opening m reading from (message.Mark inc marks) old old' new new' left left' led same told h h' =
    one-seen look new new' left left' (marks_are_one is_prepared (told_of_all (attempts_of marks) m) from inc marks old old' new new' left left' same h h')
hearing-seen look t opening m reading from (message.Marked inc ids) old old' new new' left left' led same told h h' =
    one-seen look new new' left left' (marked_are_one t m from.number inc ids (ack.to_confirm inc ids old.durable) old old' new new' left left' same h
    (subst (λ d. Whole (ack.MarkedNext t m from.number) (ack.MarkedEnds t m from.number inc ids) (ack.to_confirm inc ids d) old' new' left') (sym same) h'))
hearing-seen look t opening m reading from (message.Query x ask) old old' new new' left left' led same told h h' =
    one-seen look new new' left left' (queries_are_one t m from x ask old old' new new' left left' same h h')
hearing-seen look t opening m reading from (message.Verdict x ask inc v) old old' new new' left left' led same told h h' =
    one-seen look new new' left left' (verdicts_are_one is_prepared t (told_by v x m) reading x ask v old old' new new' left left' (led-told t v x m old.durable led) same h h')
hearing-seen look t opening m reading from q old old' new new' left left' led same told h h' = absurd h

pub hearing-is_one : HearingIsOne
hearing-is_one t opening m reading from q old old' new new' left left' led same told h h' =
    let tells : left_open q (seen_did all_of_it left.1) ≡ left_open q (seen_did all_of_it left'.1) = ap (left_open q) (did-seen left.1) ∙ told ∙ sym (ap (left_open q) (did-seen left'.1)) in
    let one = hearing-seen all_of_it t opening m reading from q old old' new new' left left' led same tells h h' in
    record {
      kept_same = one.kept_same;
      left_same = sym (ap (λ (did : Did). (left.0, did)) (did-seen left.1)) ∙ one.left_same ∙ ap (λ (did : Did). (left'.0, did)) (did-seen left'.1);
    }

pub hearing-is_alike : HearingIsAlike
hearing-is_alike t opening m reading from q old old' new new' left left' led same told h h' =
    let one = hearing-seen none_of_it t opening m reading from q old old' new new' left left' led same told h h' in
    record { kept_same = one.kept_same; known_same = ap (λ (x : TargetMemory × Did). x.0) one.left_same; told_alike = ap (λ (x : TargetMemory × Did). x.1) one.left_same }

-- ---- further

asks-by_kept : (t : TargetPlan) (m : TargetMemory) (from : ActorId) (x : AttemptId) → GoesByKept (ask_left t m from x)
asks-by_kept t m from x k l same = ap (λ d. (leads_on (ask_heard x from (leader_at t m d)) m, sends (ask_heard x from (leader_at t m d)).posts None)) same

statuses-by_kept : (m : TargetMemory) (from : ActorId) (x : AttemptId) (inc : ℕ) → GoesByKept (status_left m from x inc)
statuses-by_kept m from x inc k l same = ap (λ d. (m, says from (message.StatusIs x inc (state_of (entry_of d x))) None)) same

lost-by_kept : (t : TargetPlan) (m : TargetMemory) (by : ℕ) (down : Bool) (asked : Message) → GoesByKept (reset_left t m by down asked)
lost-by_kept t m by down asked k l same =
    ap (λ d. (joins_on (reset_joins t m down asked).member (leads_on (reset_heard by down asked (leader_at t m d)) m), sends ((reset_heard by down asked (leader_at t m d)).posts ++ (reset_joins t m down asked).freed.posts) None)) same

resets-by_kept : (t : TargetPlan) (m : TargetMemory) (by : ℕ) (down : Bool) (asked : Message) → GoesByKept (reset_by t m by down asked)
resets-by_kept t m by down (message.Freeze x c s) k l same = refl
resets-by_kept t m by down (message.Prune x c tracker e) k l same = refl
resets-by_kept t m by down asked k l same = lost-by_kept t m by down asked k l same

pub further-is_one : FurtherIsOne
further-is_one number t opening m reading from (message.Commit x ep first tracker ws) old old' new new' left left' same h h' =
    downs_are_one t opening m reading (commit_request x ep first tracker ws) from old old' new new' left left' same h h'
further-is_one number t opening m reading from (message.Ask x) old old' new new' left left' same h h' = at_once_are_one (ask_left t m from x) (asks-by_kept t m from x) old old' new new' left left' same h h'
further-is_one number t opening m reading from (message.Status x inc) old old' new new' left left' same h h' =
    at_once_are_one (status_left m from x inc) (statuses-by_kept m from x inc) old old' new new' left left' same h h'
further-is_one number t opening m reading from (message.StatusIs x inc how) old old' new new' left left' same h h' =
    acks_are_one t m from.number x inc (status_refusal x how) old old' new new' left left' same h h'
further-is_one number t opening m reading from (message.Snap x c called tracker) old old' new new' left left' same h h' = snaps_are_one t m reading tracker c x called from old old' new new' left left' same h h'
further-is_one number t opening m reading from (message.Freeze x c s) old old' new new' left left' same h h' = freezes_are_one t m reading s c (Some s) x from old old' new new' left left' same h h'
further-is_one number t opening m reading from (message.Held x refusal) old old' new new' left left' same h h' = helds_are_one t m from.number x refusal old old' new new' left left' same h h'
further-is_one number t opening m reading from (message.Prune x c (Some tracker) None) old old' new new' left left' same h h' =
    aggregates_are_one t m reading tracker c number x from old old' new new' left left' same h h'
further-is_one number t opening m reading from (message.Prune x c None (Some g)) old old' new new' left left' same h h' = prunes_are_one t m reading g c number x from (Some g) old old' new new' left left' same h h'
further-is_one number t opening m reading from (message.Reset' by down place (more_of-Message asked rest)) old old' new new' left left' same h h' =
    at_once_are_one (reset_by t m by down asked) (resets-by_kept t m by down asked) old old' new new' left left' same h h'
further-is_one number t opening m reading from q old old' new new' left left' same h h' = absurd h

-- ---- idle work

pub idling-is_one : IdlingIsOne
idling-is_one settling t m old old' new new' left left' same w v = idle_is_one settling t m m.leader.decided old old' new new' left left' same w v
