-- Which messages of a target answer nothing that a target asked another.
use Rattle.std.specs.Prelude.{ℕ, ◌≡◌, ◌⊎◌, Bool, true, false, List, [], ◌∷◌, ◌++◌, map, Option, Some, None, refl, if◌then◌else◌}
use Rattle.std.proofs.Common.{sym, subst, inl, inr}
use Rattle.base_types.specs.declared.entry.Entry.{Entry}
use Rattle.base_types.specs.declared.epoch.Epoch.{Epoch}
use Rattle.base_types.specs.declared.id.AttemptId.{AttemptId}
use Rattle.base_types.specs.declared.operation.MinorWrite.{MinorWrite}
use Rattle.base_types.specs.declared.outcome.FloorWhy.{FloorWhy}
use Rattle.base_types.specs.declared.outcome.Outcome.{Outcome}
use Rattle.base_types.specs.declared.outcome.Outcome.TheVariants.{Committed, EpochsSpent, NoSpace, Restart}
use Rattle.model_laws.specs.Members.{has-cases, has-from_map}
use Rattle.base_messages.specs.declared.actor.ActorId.{ActorId}
use Rattle.base_messages.specs.declared.message.Message.{Message}
use Rattle.base_messages.specs.declared.message.Message.TheVariants as message
use Rattle.base_messages.specs.declared.message.Post.{Post}
use Rattle.daos_model.specs.Blocks.{blocks}
use Rattle.dtx_base.specs.Leading.{LeaderOf, abort_to, begun, begun_alone, begun_with_others, ended, prepare_to}
use Rattle.dtx_base.specs.Members.{other_members}
use Rattle.dtx_base.specs.Rows.{is_empty}
use Rattle.world_commit.specs.fates.Facts.{is_prompt_kind}
use Rattle.world_commit.specs.fates.Prompts.{AreSpoken, IsSpoken}
use Rattle.world_commit.specs.fates.Working.{ArePlain, is_plain}
use Rattle.world_base.specs.declared.did.Did.{Did}
use Rattle.world_base.specs.declared.request.CommitRequest.{CommitRequest}
use Rattle.world_base.specs.declared.target.TargetMemory.{TargetMemory}
use Rattle.world_base.specs.declared.target.TargetPlan.{TargetPlan}
use Rattle.world_base.specs.Changes.{Kept}
use Rattle.world_base.specs.Commits.{CommitEnds, CommitStage, HasBegun, HasNoSpace, IsRefused, IsSpent, led_entry, own_writes}
use Rattle.world_base.specs.Letters.{is_answerable, is_reply}
use Rattle.world_base.specs.Roles.{leader_at}

fetched-speaks : (x : AttemptId) (op group : ℕ) (own : Option Epoch) (b : _) (q : Message) → is_reply (message.Fetched x op group own b) q ≡ true → is_prompt_kind q ≡ false
fetched-speaks x op group own b (message.Fetch y op2 group2 ep first tracker read snapshot) is = refl
fetched-speaks x op group own b q is = let no : ⊥ = cc in absurd no

plain-kind : (m : Message) → is_plain m ≡ true → (is_answerable m ≡ true) ⊎ ((q : Message) → is_reply m q ≡ true → is_prompt_kind q ≡ false)
plain-kind (message.Fetched x op group own b) is = inr (fetched-speaks x op group own b)
plain-kind (message.Tell tracker) is = inr (λ q on. let no : ⊥ = cc in absurd no)
plain-kind (message.Ended x own how) is = let no : ⊥ = cc in absurd no
plain-kind (message.Ack x inc refusal) is = let no : ⊥ = cc in absurd no
plain-kind (message.Marked inc ids) is = let no : ⊥ = cc in absurd no
plain-kind (message.Verdict x ask inc v) is = let no : ⊥ = cc in absurd no
plain-kind (message.StatusIs x inc how) is = let no : ⊥ = cc in absurd no
plain-kind (message.Held x refusal) is = let no : ⊥ = cc in absurd no
plain-kind (message.Reset' t down place more) is = let no : ⊥ = cc in absurd no
plain-kind m is = inl refl

pub plain-spoken : (posts : List Post) → ArePlain posts → AreSpoken posts
plain-spoken posts plain p i = elim (plain-kind p.message (plain p i)) [ inl on ↦ inl on | inr off ↦ inr (λ q is. inl (off q is)) ]

-- an attempt's end is told to a client
pub ended-spoken : (to : ActorId) (x : AttemptId) (own : Option Epoch) (how : Outcome) → to.client ≡ true → IsSpoken (record { to = to; message = message.Ended x own how })
ended-spoken to x own how is = inr (λ q reply. inr is)

pub one-spoken : (s : Post) → IsSpoken s → AreSpoken (s ∷ [])
one-spoken s k p (inl same) = subst IsSpoken (sym same) k
one-spoken s k p (inr none) = absurd none

pub ended-alone : (to : ActorId) (x : AttemptId) (own : Option Epoch) (how : Outcome) → to.client ≡ true → AreSpoken (record { to = to; message = message.Ended x own how } ∷ [])
ended-alone to x own how is = one-spoken (record { to = to; message = message.Ended x own how }) (ended-spoken to x own how is)

-- what follows an answer to a leader: who waits is a client
pub ended-some : (o : Option ActorId) (x : AttemptId) (own : Epoch) (how : Outcome) → ((c : ActorId) → o ≡ Some c → c.client ≡ true) → AreSpoken (ended o x own how)
ended-some None x own how client p i = absurd i
ended-some (Some c) x own how client p (inl same) = subst IsSpoken (sym same) (ended-spoken c x (Some own) how (client c refl))
ended-some (Some c) x own how client p (inr none) = absurd none

pub aborts-spoken : (inc : ℕ) (a : AttemptId) (ns : List ℕ) → AreSpoken (map (abort_to inc a) ns)
aborts-spoken inc a ns p i = let y = has-from_map (abort_to inc a) ns p i in subst IsSpoken y.2 (inl refl)

pub both-spoken : (ps qs : List Post) → AreSpoken ps → AreSpoken qs → AreSpoken (ps ++ qs)
both-spoken ps qs k n p i = elim (has-cases ps qs p i) [ inl j ↦ k p j | inr j ↦ n p j ]

-- a Commit of a client
begun-spoken : (e : Entry) (first : Option Epoch) (from : ActorId) (ws : List MinorWrite) (l : LeaderOf) → from.client ≡ true → AreSpoken (begun e first from ws l).posts
unfolding begun
begun-spoken e first from ws l is = by (is_empty (other_members e))
  where
    by : (b : Bool) → AreSpoken (if b then begun_alone e from l else begun_with_others e first from ws l).posts
    by true = one-spoken (record { to = from; message = message.Ended e.attempt (Some e.epoch) Committed }) (ended-spoken from e.attempt (Some e.epoch) Committed is)
    by false = λ p i. let y = has-from_map (prepare_to l.targets l.incarnation e first ws) (other_members e) p i in subst IsSpoken y.2 (inl refl)

pub commit-spoken : (t : TargetPlan) (opening : Epoch × FloorWhy) (m : TargetMemory) (reading : ℕ) (q : CommitRequest) (from : ActorId) (stage : CommitStage) (k : Kept) (left : TargetMemory × Did) → from.client ≡ true → CommitEnds t opening m reading q from stage k left → AreSpoken left.1.posts
commit-spoken t opening m reading q from stage k left is (IsSpent k2 left2 none ends) = subst (λ i. AreSpoken i.1.posts) (sym ends) (ended-alone from q.attempt None EpochsSpent is)
commit-spoken t opening m reading q from stage k left is (IsRefused k2 e c left2 why ends) = subst (λ i. AreSpoken i.1.posts) (sym ends) (ended-alone from q.attempt (Some e) (Restart c) is)
commit-spoken t opening m reading q from stage k left is (HasNoSpace k2 e left2 allowed full ends) = subst (λ i. AreSpoken i.1.posts) (sym ends) (ended-alone from q.attempt (Some e) (NoSpace t.me (blocks (own_writes t q.writes)) k2.free) is)
commit-spoken t opening m reading q from stage k left is (HasBegun k2 e left2 ends) = subst (λ i. AreSpoken i.1.posts) (sym ends) (begun-spoken (led_entry t q e) q.first from q.writes (leader_at t m k2.durable) is)
