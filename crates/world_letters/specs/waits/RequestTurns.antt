-- A target hears a Fetch or a Commit of a client.
use Rattle.std.specs.Prelude.{ℕ, ◌≡◌, ◌==◌, Bool, true, false, if◌then◌else◌, [], ◌∷◌, filter, map, Option, Some, refl}
use Rattle.std.proofs.Common.{sym, ◌∙◌, ap, subst}
use Rattle.base_types.specs.declared.epoch.Epoch.{Epoch}
use Rattle.base_types.specs.declared.outcome.FloorWhy.{FloorWhy}
use Rattle.base_messages.specs.declared.actor.ActorId.{ActorId}
use Rattle.base_messages.specs.declared.message.Message.TheVariants as message
use Rattle.base_messages.specs.declared.message.Post.{Post}
use Rattle.base_messages.specs.declared.message.Reply.{Reply}
use Rattle.world_base.specs.dtx_base.Leading.{new_undecided, undecided_attempt}
use Rattle.world_base.specs.dtx_base.Rows.{row_key}
use Rattle.world_base.specs.model_laws.TargetLaws.{same_number}
use Rattle.world_base.specs.declared.did.Did.{Did}
use Rattle.world_base.specs.declared.request.CommitRequest.{CommitRequest}
use Rattle.world_base.specs.declared.request.FetchRequest.{FetchRequest}
use Rattle.world_base.specs.declared.target.TargetMemory.{TargetMemory}
use Rattle.world_base.specs.declared.target.TargetPlan.{TargetPlan}
use Rattle.world_base.specs.Changes.{Kept}
use Rattle.world_base.specs.Commits as commit
use Rattle.world_base.specs.Further as further
use Rattle.world_base.specs.Letters.{client, target}
use Rattle.world_base.specs.Reads as read
use Rattle.world_base.specs.Reads.{fetch_at}
use Rattle.world_base.specs.Requests.{fetch_message, with_ticks}
use Rattle.world_letters.specs.talks.Asked.{commit_of}
use Rattle.world_letters.specs.talks.Conversation as carrier
use Rattle.world_letters.specs.talks.Conversation.{Answers}
use Rattle.world_letters.specs.talks.LeaveLaws.{CommitLeaves, FetchLeaves, HasBegun, IsEnded}
use Rattle.world_letters.specs.talks.LeaveLaws as leave
use Rattle.world_letters.specs.waits.Parts.{LeavesOut, filter-last_off, filter-last_on, filter-put_off, filter-put_on, held-parts, holds-on, no-map, no-parts, open_part, parked_part, collected_part, told-one_off, told-one_on}
use Rattle.world_letters.specs.waits.Passing.{Goes, IsKept, IsTold, told-none, told_to}
use Rattle.world_letters.specs.waits.Waits.{ARead, HoldsIt, ItsWrites, OpenAt, ParkedAt, held_by, is_open_of, is_parked_of, open_at, parked_at}

-- ---- a Fetch

-- A Fetch stands for a question: what answers it answers that, and where it waits, at an epoch, that is held.
pub record StandsFor (s : Post) (t : ℕ) (q : FetchRequest) : Type 0 where
  pub answers : (own : Option Epoch) (b : Reply) → Answers s.message (message.Fetched q.attempt q.op q.group own b)
  pub waits : (e : Epoch) → ((o : Epoch) → q.ep ≡ Some o → o ≡ e) → HoldsIt s (ParkedAt t (fetch_at q e))

-- it stands for itself
pub stands-itself : (s : Post) (t : ℕ) (q : FetchRequest) → s.to ≡ target t → s.message ≡ fetch_message q → StandsFor s t q
stands-itself s t q to is = record {
  answers = λ own b. subst (λ m. Answers m (message.Fetched q.attempt q.op q.group own b)) (sym is) (own, b, refl);
  waits = λ e own. ARead t (fetch_at q e) q e to is own refl;
}

known-collects : (q : FetchRequest) (e : Epoch) (m : TargetMemory) → (read.ticks_known q e m).collecting ≡ m.collecting
known-collects q e m = by q.snapshot
  where
    by : (b : Bool) → (if b then m else with_ticks e m).collecting ≡ m.collecting
    by true = refl
    by false = refl

pub fetch-collects : (t : TargetPlan) (m : TargetMemory) (reading : ℕ) (q : FetchRequest) (from : ActorId) (s : read.FetchStage) (k : Kept) (left : TargetMemory × Did) → read.FetchEnds t m reading q from s k left → left.0.collecting ≡ m.collecting
fetch-collects t m reading q from s k left (read.IsSpent k2 left2 live none says) = ap (λ o. o.0.collecting) says
fetch-collects t m reading q from s k left (read.IsRefused k2 e decided c left2 why says) = ap (λ o. o.0.collecting) says ∙ known-collects q e m
fetch-collects t m reading q from s k left (read.MeetsUnresolved k2 e decided a left2 free unsettled undecided other says) = ap (λ o. o.0.collecting) says ∙ known-collects q e m
fetch-collects t m reading q from s k left (read.IsParked k2 e decided a leader left2 free unsettled other says) = ap (λ o. o.0.collecting) says ∙ known-collects q e m
fetch-collects t m reading q from s k left (read.IsServed k2 e decided b left2 free served says) = ap (λ o. o.0.collecting) says ∙ known-collects q e m

module _ (t j : ℕ) (q : FetchRequest) (m : TargetMemory) (left : TargetMemory × Did) (own : q.attempt.client ≡ j) (collects : left.0.collecting ≡ m.collecting) where
  -- it is of no other client
  pub fetch-off : (n : ℕ) → (j == n) ≡ false → FetchLeaves q (client j) m left → LeavesOut n t m left.0 left.1.posts
  fetch-off n off (leave.IsReplied e b posts same) = record { told = told-one_off n left.1.posts _ posts off; held = holds-on n t m left.0 same collects }
  fetch-off n off (leave.IsKept e on leader has posts parked undecided) = record {
    told = told-one_off n left.1.posts _ posts refl;
    held = held-parts n t left.0 (parked_part n t m.member.parked) (open_part n t m.leader.undecided) (collected_part n t m.collecting)
        (ap (parked_part n t) parked ∙ ap (map (parked_at t)) (filter-last_off (is_parked_of n) (record { on = on; leader = leader; ask = fetch_at q e }) m.member.parked (ap (λ i. i == n) own ∙ off)))
        (ap (open_part n t) undecided) (ap (collected_part n t) collects);
  }

  -- and it goes on for its own
  pub fetch-on : (s : Post) → StandsFor s t q → held_by j t m ≡ [] → FetchLeaves q (client j) m left → Goes s (told_to j left.1.posts) (held_by j t left.0)
  fetch-on s stands none (leave.IsReplied e b posts same) = IsTold _ (told-one_on j left.1.posts _ posts (same_number j)) (holds-on j t m left.0 same collects ∙ none) (stands.answers e b)
  fetch-on s stands none (leave.IsKept e on leader has posts parked undecided) =
      let parts = no-parts j t m none in
      IsKept (ParkedAt t (fetch_at q e)) (told-one_off j left.1.posts _ posts refl)
      (held-parts j t left.0 (ParkedAt t (fetch_at q e) ∷ []) [] []
      (ap (parked_part j t) parked ∙ ap (map (parked_at t)) (filter-last_on (is_parked_of j) (record { on = on; leader = leader; ask = fetch_at q e }) m.member.parked (ap (λ i. i == j) own ∙ same_number j) (no-map (parked_at t) (filter (is_parked_of j) m.member.parked) parts.parked)))
      (ap (open_part j t) undecided ∙ parts.opened) (ap (collected_part j t) collects ∙ parts.collected)) (stands.waits e has)

-- ---- a Commit

pub commit-collects : (t : TargetPlan) (opening : Epoch × FloorWhy) (m : TargetMemory) (reading : ℕ) (q : CommitRequest) (from : ActorId) (s : commit.CommitStage) (k : Kept) (left : TargetMemory × Did)
    → commit.CommitEnds t opening m reading q from s k left → left.0.collecting ≡ m.collecting
commit-collects t opening m reading q from s k left (commit.IsSpent k2 left2 none says) = ap (λ o. o.0.collecting) says
commit-collects t opening m reading q from s k left (commit.IsRefused k2 e c left2 why says) = ap (λ o. o.0.collecting) says
commit-collects t opening m reading q from s k left (commit.HasNoSpace k2 e left2 allowed full says) = ap (λ o. o.0.collecting) says
commit-collects t opening m reading q from s k left (commit.HasBegun k2 e left2 says) = ap (λ o. o.0.collecting) says

-- one with a member that is known to be down ends
pub down-leaves : (t : TargetPlan) (m : TargetMemory) (reading : ℕ) (q : CommitRequest) (from : ActorId) (s : commit.CommitStage) (k : Kept) (left : TargetMemory × Did) → further.CommitDown t m reading q from s k left
    → CommitLeaves q from m left × (left.0.collecting ≡ m.collecting)
down-leaves t m reading q from s k left (further.IsSpent k2 e down left2 none is says) =
    (IsEnded _ _ (ap (λ o. o.1.posts) says) (record { parked = ap (λ o. o.0.member.parked) says; undecided = λ i. ap (λ o. map (carrier.open_at i) o.0.leader.undecided) says }), ap (λ o. o.0.collecting) says)
down-leaves t m reading q from s k left (further.IsUnknown k2 e down left2 is says) =
    (IsEnded _ _ (ap (λ o. o.1.posts) says) (record { parked = ap (λ o. o.0.member.parked) says; undecided = λ i. ap (λ o. map (carrier.open_at i) o.0.leader.undecided) says }), ap (λ o. o.0.collecting) says)

module _ (t j : ℕ) (q : CommitRequest) (m : TargetMemory) (left : TargetMemory × Did) (collects : left.0.collecting ≡ m.collecting) where
  pub commit-off : (n : ℕ) → (j == n) ≡ false → CommitLeaves q (client j) m left → LeavesOut n t m left.0 left.1.posts
  commit-off n off (IsEnded e how posts same) = record { told = told-one_off n left.1.posts _ posts off; held = holds-on n t m left.0 same collects }
  commit-off n off (HasBegun to parked undecided) = record {
    told = told-none n left.1.posts (λ p i. (to p i).0);
    held = held-parts n t left.0 (parked_part n t m.member.parked) (open_part n t m.leader.undecided) (collected_part n t m.collecting) (ap (parked_part n t) parked)
        (ap (open_part n t) undecided ∙ ap (map (open_at t)) (filter-put_off (is_open_of n) (row_key undecided_attempt) (new_undecided q.attempt (Some (client j))) m.leader.undecided off)) (ap (collected_part n t) collects);
  }

  pub commit-on : (s : Post) → s.to ≡ target t → s.message ≡ commit_of q → held_by j t m ≡ [] → CommitLeaves q (client j) m left → Goes s (told_to j left.1.posts) (held_by j t left.0)
  commit-on s to is none (IsEnded e how posts same) =
      IsTold _ (told-one_on j left.1.posts _ posts (same_number j)) (holds-on j t m left.0 same collects ∙ none) (subst (λ z. Answers z (message.Ended q.attempt e how)) (sym is) (e, how, refl))
  commit-on s to is none (HasBegun others parked undecided) =
      let parts = no-parts j t m none in
      IsKept (OpenAt t q.attempt) (told-none j left.1.posts (λ p i. (others p i).0))
      (held-parts j t left.0 [] (OpenAt t q.attempt ∷ []) [] (ap (parked_part j t) parked ∙ parts.parked)
      (ap (open_part j t) undecided ∙ ap (map (open_at t)) (filter-put_on (is_open_of j) (row_key undecided_attempt) (new_undecided q.attempt (Some (client j))) m.leader.undecided (same_number j) (no-map (open_at t) (filter (is_open_of j) m.leader.undecided) parts.opened)))
      (ap (collected_part j t) collects ∙ parts.collected)) (ItsWrites t q to is)
