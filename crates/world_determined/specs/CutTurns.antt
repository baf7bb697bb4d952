-- A target's turn that was cut is determined by its place.
use Rattle.std.specs.Prelude.{ℕ, ◌≡◌, Bool, Some, None}
use Rattle.std.proofs.Common.{subst}
use Rattle.base_types.specs.declared.epoch.Epoch.{Epoch}
use Rattle.base_types.specs.declared.id.AttemptId.{AttemptId}
use Rattle.base_types.specs.declared.outcome.FloorWhy.{FloorWhy}
use Rattle.base_messages.specs.declared.actor.ActorId.{ActorId}
use Rattle.base_messages.specs.declared.message.Message.{Message}
use Rattle.base_messages.specs.declared.message.Message.TheVariants as message
use Rattle.daos_model.specs.declared.durable.Durable.{Durable}
use Rattle.world_base.specs.declared.request.CommitRequest.{CommitRequest}
use Rattle.world_base.specs.declared.target.TargetMemory.{TargetMemory}
use Rattle.world_base.specs.declared.target.TargetPlan.{TargetPlan}
use Rattle.world_base.specs.Acks as ack
use Rattle.world_base.specs.Changes.{Kept}
use Rattle.world_base.specs.CutTurns.{Before, CommitIsCut, CutTurn, Cutting, HearingIsCut, IdleWorkIsCut, NoneIsDown, OneIsDown, UnstoredNext, issued_by_commit, issued_by_fetch, issued_by_freeze, issued_by_prune, none_issued}
use Rattle.world_base.specs.Commits as commit
use Rattle.world_base.specs.Prepares as prepare
use Rattle.world_base.specs.Reads as read
use Rattle.world_base.specs.Roles.{told_by}
use Rattle.world_base.specs.Snapshots as snap
use Rattle.world_base.specs.Statuses.{Looking, status_refusal}
use Rattle.world_base.specs.TargetTurns.{commit_request, fetch_request, prepare_request}
use Rattle.world_base.specs.Verdicts as verdict
use Rattle.world_determined.specs.Commits.{commits-one}
use Rattle.world_determined.specs.Cuts.{CutPlace, OneCut, cut-one, place_of}
use Rattle.world_determined.specs.Fetches.{NoneLedElsewhere, ReadFits, fetches-on, fetches-one}
use Rattle.world_determined.specs.Makings.{freezes-one, helds-one, prunes-one}
use Rattle.world_determined.specs.Paths.{HasOneStep}
use Rattle.world_determined.specs.Prepares.{prepares-one}
use Rattle.world_determined.specs.Settlings.{Always, acks-one, always-on, at_once-one, idle-one, marked-one, marks-one, queries-one}
use Rattle.world_determined.specs.Turns.{led-told}
use Rattle.world_determined.specs.Verdicts.{VerdictFits, verdicts-on, verdicts-one}

-- ---- the statements

-- where a Commit was cut
abbrev pub commit_place : {t : TargetPlan} {opening : Epoch × FloorWhy} {m : TargetMemory} {reading : ℕ} {q : CommitRequest} {old : Kept} {cut : Cutting} → CommitIsCut t opening m reading q old cut → CutPlace
commit_place (NoneIsDown none c) = place_of c
commit_place (OneIsDown e by is c) = place_of c

-- where a turn was cut in which a message was heard
abbrev pub hearing_place :
    (is_due : AttemptId → Durable → Bool) (number : ℕ) (t : TargetPlan) (opening : Epoch × FloorWhy) (m : TargetMemory) (reading : ℕ) (from : ActorId) (q : Message) (old : Kept) (cut : Cutting)
    → HearingIsCut is_due number t opening m reading from q old cut → CutPlace
hearing_place is_due number t opening m reading from (message.Fetch x op group ep first tracker r snapshot) old cut c = place_of c
hearing_place is_due number t opening m reading from (message.Commit x ep first tracker ws) old cut c = commit_place c
hearing_place is_due number t opening m reading from (message.Prepare e first ws inc) old cut c = place_of c
hearing_place is_due number t opening m reading from (message.Ack x inc refusal) old cut c = place_of c
hearing_place is_due number t opening m reading from (message.StatusIs x inc how) old cut c = place_of c
hearing_place is_due number t opening m reading from (message.Mark inc marks) old cut c = place_of c
hearing_place is_due number t opening m reading from (message.Marked inc ids) old cut c = place_of c
hearing_place is_due number t opening m reading from (message.Verdict x ask inc v) old cut c = place_of c
hearing_place is_due number t opening m reading from (message.Snap x c name tracker) old cut k = place_of k
hearing_place is_due number t opening m reading from (message.Freeze x c s) old cut k = place_of k
hearing_place is_due number t opening m reading from (message.Held x refusal) old cut c = place_of c
hearing_place is_due number t opening m reading from (message.Prune x c (Some tracker) None) old cut k = place_of k
hearing_place is_due number t opening m reading from (message.Prune x c None (Some g)) old cut k = place_of k
hearing_place is_due number t opening m reading from (message.Query x ask) old cut c = place_of c
hearing_place is_due number t opening m reading from (message.Ask x) old cut c = place_of c
hearing_place is_due number t opening m reading from (message.Status x inc) old cut c = place_of c
hearing_place is_due number t opening m reading from (message.Reset' by down place asked) old cut c = place_of c
hearing_place is_due number t opening m reading from q old cut c = absurd c

-- A turn that was cut in which a message was heard is determined by its place, where no other target leads what its target decided and hasn't
-- settled.
abbrev pub CutHearingIsOne : Type 0
CutHearingIsOne =
    (is_due : AttemptId → Durable → Bool) (number : ℕ) (t : TargetPlan) (opening : Epoch × FloorWhy) (m : TargetMemory) (reading : ℕ) (from : ActorId) (q : Message) (old old' : Kept) (cut cut' : Cutting)
    → NoneLedElsewhere t m.leader.decided old.durable → old.durable ≡ old'.durable
    → (c : HearingIsCut is_due number t opening m reading from q old cut) (d : HearingIsCut is_due number t opening m reading from q old' cut')
    → hearing_place is_due number t opening m reading from q old cut c ≡ hearing_place is_due number t opening m reading from q old' cut' d → OneCut cut cut'

-- so is idle work that was cut
abbrev pub CutIdlingIsOne : Type 0
CutIdlingIsOne =
    (me : ℕ) (m : TargetMemory) (old old' : Kept) (cut cut' : Cutting) → old.durable ≡ old'.durable
    → (c : IdleWorkIsCut me m old cut) (d : IdleWorkIsCut me m old' cut') → place_of c ≡ place_of d → OneCut cut cut'

-- ---- a Commit

module _ (t : TargetPlan) (opening : Epoch × FloorWhy) (m : TargetMemory) (reading : ℕ) (q : CommitRequest) where
  unstored-one : HasOneStep (UnstoredNext t opening m reading q) Always
  unstored-one s k l o p u v fits same (Before _ _ _ _ next unstored) (Before _ _ _ _ next' unstored') = commits-one t opening m reading q s k l o p u v fits same next next'

  cut-commits_are_one : (old old' : Kept) (cut cut' : Cutting) → old.durable ≡ old'.durable → (c : CommitIsCut t opening m reading q old cut) (d : CommitIsCut t opening m reading q old' cut') → commit_place c ≡ commit_place d → OneCut cut cut'
  cut-commits_are_one old old' cut cut' same (NoneIsDown none c) (NoneIsDown none' d) place = cut-one _ Always (commits-one t opening m reading q) (always-on _) (issued_by_commit q) t.me commit.Asked old old' cut cut' tt same c d place
  cut-commits_are_one old old' cut cut' same (NoneIsDown none c) (OneIsDown e' by' is' d) place = let no : ⊥ = cc (none e') in absurd no
  cut-commits_are_one old old' cut cut' same (OneIsDown e by is c) (NoneIsDown none' d) place = let no : ⊥ = cc (none' e) in absurd no
  cut-commits_are_one old old' cut cut' same (OneIsDown e by is c) (OneIsDown e' by' is' d) place = cut-one _ Always unstored-one (always-on _) (issued_by_commit q) t.me commit.Asked old old' cut cut' tt same c d place

-- ---- every kind of turn

pub cut-hearing_is_one : CutHearingIsOne
cut-hearing_is_one is_due number t opening m reading from (message.Fetch x op group ep first tracker r snapshot) old old' cut cut' led same c d place =
    let q = fetch_request x op group ep first tracker r snapshot in
    cut-one _ (ReadFits t m) (fetches-one t m reading q) (fetches-on t m reading q) (issued_by_fetch q) t.me read.Asked old old' cut cut' led same c d place
cut-hearing_is_one is_due number t opening m reading from (message.Commit x ep first tracker ws) old old' cut cut' led same c d place =
    cut-commits_are_one t opening m reading (commit_request x ep first tracker ws) old old' cut cut' same c d place
cut-hearing_is_one is_due number t opening m reading from (message.Prepare e first ws inc) old old' cut cut' led same c d place =
    cut-one _ Always (prepares-one t opening m (prepare_request e first ws inc)) (always-on _) none_issued t.me prepare.Heard old old' cut cut' tt same c d place
cut-hearing_is_one is_due number t opening m reading from (message.Ack x inc refusal) old old' cut cut' led same c d place =
    cut-one _ Always (acks-one t m from.number x inc refusal) (always-on _) none_issued t.me ack.Heard old old' cut cut' tt same c d place
cut-hearing_is_one is_due number t opening m reading from (message.StatusIs x inc how) old old' cut cut' led same c d place =
    cut-one _ Always (acks-one t m from.number x inc (status_refusal x how)) (always-on _) none_issued t.me ack.Heard old old' cut cut' tt same c d place
cut-hearing_is_one is_due number t opening m reading from (message.Mark inc marks) old old' cut cut' led same c d place =
    cut-one _ Always (marks-one is_due) (always-on _) none_issued t.me marks old old' cut cut' tt same c d place
cut-hearing_is_one is_due number t opening m reading from (message.Marked inc ids) old old' cut cut' led same c d place =
    subst (λ (x : Durable). (e : CutTurn (ack.MarkedNext t m from.number) none_issued t.me (ack.to_confirm inc ids x) old' cut') → place_of c ≡ place_of e → OneCut cut cut') same
    (λ e at. cut-one _ Always (marked-one t m from.number) (always-on _) none_issued t.me (ack.to_confirm inc ids old.durable) old old' cut cut' tt same c e at) d place
cut-hearing_is_one is_due number t opening m reading from (message.Verdict x ask inc v) old old' cut cut' led same c d place =
    cut-one _ (VerdictFits is_due t (told_by v x m) reading x ask v) (verdicts-one is_due t (told_by v x m) reading x ask v) (verdicts-on is_due t (told_by v x m) reading x ask v) none_issued t.me verdict.Heard
    old old' cut cut' (led-told t v x m old.durable led) same c d place
cut-hearing_is_one is_due number t opening m reading from (message.Snap x c name tracker) old old' cut cut' led same k l place =
    cut-one _ Always (freezes-one t m reading tracker c None (snap.is_held_by_all t 0)) (always-on _) (issued_by_freeze x None) t.me snap.Asked old old' cut cut' tt same k l place
cut-hearing_is_one is_due number t opening m reading from (message.Freeze x c s) old old' cut cut' led same k l place =
    cut-one _ Always (freezes-one t m reading s c (Some s) _) (always-on _) (issued_by_freeze x (Some s)) t.me snap.Asked old old' cut cut' tt same k l place
cut-hearing_is_one is_due number t opening m reading from (message.Held x refusal) old old' cut cut' led same c d place =
    cut-one _ Always (helds-one t m from.number x refusal) (always-on _) none_issued t.me snap.Heard old old' cut cut' tt same c d place
cut-hearing_is_one is_due number t opening m reading from (message.Prune x c (Some tracker) None) old old' cut cut' led same k l place =
    cut-one _ Always (prunes-one t m reading tracker c number None) (always-on _) (issued_by_prune x None) t.me snap.Asked old old' cut cut' tt same k l place
cut-hearing_is_one is_due number t opening m reading from (message.Prune x c None (Some g)) old old' cut cut' led same k l place =
    cut-one _ Always (prunes-one t m reading g c number (Some g)) (always-on _) (issued_by_prune x (Some g)) t.me snap.Asked old old' cut cut' tt same k l place
cut-hearing_is_one is_due number t opening m reading from (message.Query x ask) old old' cut cut' led same c d place = cut-one _ Always queries-one (always-on _) none_issued t.me verdict.IsAsked old old' cut cut' tt same c d place
cut-hearing_is_one is_due number t opening m reading from (message.Ask x) old old' cut cut' led same c d place = cut-one _ Always at_once-one (always-on _) none_issued t.me Looking old old' cut cut' tt same c d place
cut-hearing_is_one is_due number t opening m reading from (message.Status x inc) old old' cut cut' led same c d place = cut-one _ Always at_once-one (always-on _) none_issued t.me Looking old old' cut cut' tt same c d place
cut-hearing_is_one is_due number t opening m reading from (message.Reset' by down place asked) old old' cut cut' led same c d at = cut-one _ Always at_once-one (always-on _) none_issued t.me Looking old old' cut cut' tt same c d at
cut-hearing_is_one is_due number t opening m reading from q old old' cut cut' led same c d place = absurd c

pub cut-idling_is_one : CutIdlingIsOne
cut-idling_is_one me m old old' cut cut' same c d place = cut-one _ Always idle-one (always-on _) none_issued me m.leader.decided old old' cut cut' tt same c d place
