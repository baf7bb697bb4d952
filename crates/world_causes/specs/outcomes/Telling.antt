-- What a Commit and an Ack end with tells of attempts' ends.
use Rattle.std.specs.Prelude.{ℕ, ◌≡◌, ◌==◌, ◌++◌, Bool, true, false, ◌&&◌, not, List, [], ◌∷◌, map, Option, Some, None, refl, if◌then◌else◌}
use Rattle.std.proofs.Common.{sym, ◌∙◌, ap, subst, inl, inr}
use Rattle.base_types.specs.declared.entry.Entry.{Entry}
use Rattle.base_types.specs.declared.epoch.Epoch.{Epoch}
use Rattle.base_types.specs.declared.id.AttemptId.{AttemptId}
use Rattle.base_types.specs.declared.operation.MinorWrite.{MinorWrite}
use Rattle.base_types.specs.declared.outcome.FloorWhy.{FloorWhy}
use Rattle.base_types.specs.declared.outcome.Outcome.{Outcome}
use Rattle.base_types.specs.declared.outcome.Outcome.TheVariants as outcome
use Rattle.model_laws.specs.Members.{Has, has-cases, has-from_map}
use Rattle.base_messages.specs.declared.actor.ActorId.{ActorId}
use Rattle.base_messages.specs.declared.message.Message.{Message}
use Rattle.base_messages.specs.declared.message.Message.TheVariants as message
use Rattle.base_messages.specs.declared.message.Post.{Post}
use Rattle.daos_model.specs.declared.durable.Durable.{Durable}
use Rattle.dtx_base.specs.declared.leading.Undecided.{Undecided}
use Rattle.dtx_base.specs.Leading.{LeaderOf, abort_to, ack_heard, answer_heard, answer_if_awaited, begun, begun_alone, begun_with_others, counted_at, decided, ended, entry_led, prepare_to, quietly, undecided_attempt, undecided_of, with_undecided}
use Rattle.dtx_base.specs.Members.{are_all_counted, is_other_member, other_members, with_target}
use Rattle.dtx_base.specs.Rows.{is_empty, row_of}
use Rattle.world_contents.specs.world_commit.attempts.History.{Tells}
use Rattle.world_base.specs.declared.did.Did.{Did}
use Rattle.world_base.specs.declared.request.CommitRequest.{CommitRequest}
use Rattle.world_base.specs.declared.target.TargetMemory.{TargetMemory}
use Rattle.world_base.specs.declared.target.TargetPlan.{TargetPlan}
use Rattle.world_base.specs.Acks.{Aborts, AckEnds, AckNext, AckStage, Counts, Followed, Heard, IsFollowed}
use Rattle.world_base.specs.Changes.{Change, Kept, Steps}
use Rattle.world_base.specs.Commits.{CommitEnds, CommitStage, HasBegun, HasNoSpace, IsRefused, IsSpent, led_entry}
use Rattle.world_base.specs.PathLaws.{path-keeps}
use Rattle.world_base.specs.Roles.{leader_at}
use Rattle.world_base.specs.Turns.{Reached}
use Rattle.world_contents.specs.world_commit.fates.Told.{refused_end, silent_end, told_end}

-- ---- an end that is told

-- it is of this attempt, and has its epoch where it is told as committed
pub record IsEndOf (a x : AttemptId) (own : Option Epoch) (how : Outcome) : Type 0 where
  pub same : x ≡ a
  pub dated : how ≡ outcome.Committed → (e : Epoch) × (own ≡ Some e)

-- an attempt's end is told to an actor
abbrev pub end_to : ActorId → AttemptId → Option Epoch → Outcome → Post
end_to to x own how = record { to = to; message = message.Ended x own how }

abbrev pub post_to : ActorId → Message → Post
post_to to m = record { to = to; message = m }

-- each end that some posts tell of is of this attempt
abbrev pub AreEndsOf : AttemptId → List Post → Type 0
AreEndsOf a posts = (x : AttemptId) (own : Option Epoch) (how : Outcome) → Tells posts x own how → IsEndOf a x own how

pub none-end : (a : AttemptId) → AreEndsOf a []
none-end a x own how tells = absurd tells.sent

-- one message
pub single : (to : ActorId) (m : Message) (x : AttemptId) (own : Option Epoch) (how : Outcome) → Tells (post_to to m ∷ []) x own how → m ≡ message.Ended x own how
single to m x own how tells = by tells.sent
  where
    by : Has (end_to tells.to x own how) (post_to to m ∷ []) → m ≡ message.Ended x own how
    by (inl same) = sym (ap (λ q. q.message) same)
    by (inr none) = absurd none

-- an end with its epoch
pub dated-end : (to : ActorId) (a : AttemptId) (e : Epoch) (end : Outcome) → AreEndsOf a (end_to to a (Some e) end ∷ [])
dated-end to a e end x own how tells =
    let said : message.Ended a (Some e) end ≡ message.Ended x own how = single to (message.Ended a (Some e) end) x own how tells in
    let is-x : a ≡ x = cc in
    let is-own : Some e ≡ own = cc in
    record { same = sym is-x; dated = λ is. (e, sym is-own) }

-- one that isn't told as committed
pub failed-end : (to : ActorId) (a : AttemptId) (own2 : Option Epoch) (end : Outcome) → (end ≡ outcome.Committed → ⊥) → AreEndsOf a (end_to to a own2 end ∷ [])
failed-end to a own2 end off x own how tells =
    let said : message.Ended a own2 end ≡ message.Ended x own how = single to (message.Ended a own2 end) x own how tells in
    let is-x : a ≡ x = cc in
    let is-how : end ≡ how = cc in
    record { same = sym is-x; dated = λ is. absurd (off (is-how ∙ is)) }

pub both-ends : (a : AttemptId) (ps qs : List Post) → AreEndsOf a ps → AreEndsOf a qs → AreEndsOf a (ps ++ qs)
both-ends a ps qs k n x own how tells = elim (has-cases ps qs (end_to tells.to x own how) tells.sent) [
  | inl j ↦ k x own how (record { to = tells.to; sent = j })
  | inr j ↦ n x own how (record { to = tells.to; sent = j })
]

-- who waits is told an end with its epoch
pub ended-ends : (o : Option ActorId) (a : AttemptId) (e : Epoch) (end : Outcome) → AreEndsOf a (ended o a e end)
ended-ends None a e end = none-end a
ended-ends (Some c) a e end = dated-end c a e end

-- posts that tell no end
pub mapped-untold : {A : Type 0} (a : AttemptId) (f : A → Post) → ((y : A) (x : AttemptId) (own : Option Epoch) (how : Outcome) → (f y).message ≡ message.Ended x own how → ⊥) → (ys : List A) → AreEndsOf a (map f ys)
mapped-untold a f off ys x own how tells =
    let y = has-from_map f ys (end_to tells.to x own how) tells.sent in
    absurd (off y.0 x own how (ap (λ q. q.message) y.2))

-- ---- a Commit

begun-ends : (e : Entry) (first : Option Epoch) (from : ActorId) (ws : List MinorWrite) (l : LeaderOf) → AreEndsOf e.attempt (begun e first from ws l).posts
unfolding begun
begun-ends e first from ws l = by (is_empty (other_members e))
  where
    by : (b : Bool) → AreEndsOf e.attempt (if b then begun_alone e from l else begun_with_others e first from ws l).posts
    by true = dated-end from e.attempt e.epoch outcome.Committed
    by false = mapped-untold e.attempt (prepare_to l.targets l.incarnation e first ws) (λ y x own how is. let no : ⊥ = cc in no) (other_members e)

pub commit-ends : (t : TargetPlan) (opening : Epoch × FloorWhy) (m : TargetMemory) (reading : ℕ) (q : CommitRequest) (from : ActorId) (stage : CommitStage) (k : Kept) (left : TargetMemory × Did)
    → CommitEnds t opening m reading q from stage k left → AreEndsOf q.attempt left.1.posts
commit-ends t opening m reading q from stage k left (IsSpent k2 left2 none ends) = subst (λ i. AreEndsOf q.attempt i.1.posts) (sym ends) (failed-end from q.attempt None outcome.EpochsSpent (λ is. let no : ⊥ = cc in no))
commit-ends t opening m reading q from stage k left (IsRefused k2 e c left2 why ends) = subst (λ i. AreEndsOf q.attempt i.1.posts) (sym ends) (dated-end from q.attempt e (outcome.Restart c))
commit-ends t opening m reading q from stage k left (HasNoSpace k2 e left2 allowed full ends) = subst (λ i. AreEndsOf q.attempt i.1.posts) (sym ends) (dated-end from q.attempt e _)
commit-ends t opening m reading q from stage k left (HasBegun k2 e left2 ends) = subst (λ i. AreEndsOf q.attempt i.1.posts) (sym ends) (begun-ends (led_entry t q e) q.first from q.writes (leader_at t m k2.durable))

-- ---- an Ack, or a StatusIs

-- what is told is of an attempt with a row
pub record IsOfRow (m : TargetMemory) (a x : AttemptId) (own : Option Epoch) (how : Outcome) : Type 0 where
  pub end : IsEndOf a x own how
  pub u : Undecided
  pub row : row_of undecided_attempt a m.leader.undecided ≡ Some u

abbrev pub AreOfRow : TargetMemory → AttemptId → List Post → Type 0
AreOfRow m a posts = (x : AttemptId) (own : Option Epoch) (how : Outcome) → Tells posts x own how → IsOfRow m a x own how

module _ (p : TargetPlan) (m : TargetMemory) (d : Durable) (t : ℕ) (a : AttemptId) where
  abbrev l : LeaderOf
  l = leader_at p m d

  answered-ends : (refusal : Option Outcome) (e : Entry) (u : Undecided) → AreEndsOf a (answer_heard t a refusal e u l).posts
  answered-ends None e u = by (are_all_counted e (with_target u.counted t))
    where
      by : (b : Bool) → AreEndsOf a (if b then record { leader = decided a l; posts = ended u.client a e.epoch outcome.Committed } else quietly (with_undecided (map (counted_at a t) l.memory.undecided) l)).posts
      by true = ended-ends u.client a e.epoch outcome.Committed
      by false = none-end a
  answered-ends (Some how) e u = both-ends a (ended u.client a e.epoch how) (map (abort_to l.incarnation a) (other_members e)) (ended-ends u.client a e.epoch how) (mapped-untold a (abort_to l.incarnation a) (λ y x own how2 is. let no : ⊥ = cc in no) (other_members e))

  pub ack-ends : (inc : ℕ) (refusal : Option Outcome) → AreOfRow m a (ack_heard t a inc refusal l).posts
  unfolding ack_heard
  ack-ends inc refusal x own how = by (inc == l.incarnation)
    where
      awaited : (o : Option Entry) (q : Option Undecided) → undecided_of a l ≡ q → Tells (answer_if_awaited t a refusal o q l).posts x own how → IsOfRow m a x own how
      awaited None q row tells = absurd tells.sent
      awaited (Some e) None row tells = absurd tells.sent
      awaited (Some e) (Some u) row tells = other (is_other_member e t) tells
        where
          other : (b : Bool) → Tells (if b then answer_heard t a refusal e u l else quietly l).posts x own how → IsOfRow m a x own how
          other true tells = record { end = answered-ends refusal e u x own how tells; u = u; row = row }
          other false tells = absurd tells.sent

      by : (b : Bool) → Tells (if b then answer_if_awaited t a refusal (entry_led a l) (undecided_of a l) l else quietly l).posts x own how → IsOfRow m a x own how
      by true tells = awaited (entry_led a l) (undecided_of a l) refl tells
      by false tells = absurd tells.sent

-- once what follows is known
abbrev pub FollowsSo : TargetMemory → AttemptId → AckStage → Kept → Type 0
FollowsSo m a Heard k = Unit {0}
FollowsSo m a (Followed s) k = AreOfRow m a s.posts

ack-step : (p : TargetPlan) (m : TargetMemory) (member : ℕ) (a : AttemptId) (inc : ℕ) (refusal : Option Outcome) (s : AckStage) (k : Kept) (o : Option Change) (u : AckStage) (n : Kept) → AckNext p m member a inc refusal s k o u → Steps o k n → FollowsSo m a s k → FollowsSo m a u n
ack-step p m member a inc refusal s k o u n (Aborts k2 on) steps so_far = ack-ends p m k.durable member a inc refusal
ack-step p m member a inc refusal s k o u n (Counts k2 off) steps so_far = ack-ends p m k.durable member a inc refusal

pub ack-tells : (p : TargetPlan) (m : TargetMemory) (member : ℕ) (a : AttemptId) (inc : ℕ) (refusal : Option Outcome) (old new : Kept) (last : AckStage) (left : TargetMemory × Did) → Reached (AckNext p m member a inc refusal) Heard old last new → AckEnds m last new left → AreOfRow m a left.1.posts
ack-tells p m member a inc refusal old new last left reached ends = by last new left ends (path-keeps (AckNext p m member a inc refusal) (FollowsSo m a) (ack-step p m member a inc refusal) Heard old reached.did last new reached.path tt)
  where
    by : (last : AckStage) (new : Kept) (left : TargetMemory × Did) → AckEnds m last new left → FollowsSo m a last new → AreOfRow m a left.1.posts
    by last new left (IsFollowed k2 s left2 is) so_far = subst (λ i. AreOfRow m a i.1.posts) (sym is) so_far

-- ---- what nobody is told

-- it is of an attempt that had an entry
pub record IsOfEntry (o : Option Entry) (a x : AttemptId) (own : Option Epoch) (how : Outcome) : Type 0 where
  pub end : IsEndOf a x own how
  pub entry : Entry
  pub found : o ≡ Some entry

pub silent-tells : (a : AttemptId) (refusal : Option Outcome) (o : Option Entry) (before after kept : Bool) (x : AttemptId) (own : Option Epoch) (how : Outcome) → Tells (silent_end a refusal o before after kept) x own how → IsOfEntry o a x own how
silent-tells a refusal None before after kept x own how tells = absurd tells.sent
silent-tells a refusal (Some e) before after kept x own how tells = record { end = by (after && not before) tells; entry = e; found = refl }
  where
    refused : (refusal : Option Outcome) → AreEndsOf a (refused_end a e.epoch refusal)
    refused None = none-end a
    refused (Some end) = dated-end (told_end a (Some e.epoch) end).to a e.epoch end

    gone : (b : Bool) → AreEndsOf a (if b then [] else refused_end a e.epoch refusal)
    gone true = none-end a
    gone false = refused refusal

    by : (b : Bool) → Tells (if b then told_end a (Some e.epoch) outcome.Committed ∷ [] else (if kept then [] else refused_end a e.epoch refusal)) x own how → IsEndOf a x own how
    by true = dated-end (told_end a (Some e.epoch) outcome.Committed).to a e.epoch outcome.Committed x own how
    by false = gone kept x own how
