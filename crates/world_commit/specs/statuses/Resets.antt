-- A target hears that what it asked got no answer.
use Rattle.std.specs.Prelude.{ℕ, ◌≡◌, ◌++◌, Bool, false, List, [], refl}
use Rattle.std.proofs.Common.{sym, ◌∙◌, ap, subst, inl}
use Rattle.base_types.specs.declared.id.AttemptId.{AttemptId}
use Rattle.model_laws.specs.Members.{Has, has-from_map, has-left}
use Rattle.base_messages.specs.declared.message.Message.{Message}
use Rattle.base_messages.specs.declared.message.Post.{Post}
use Rattle.dtx_base.specs.Joining as member
use Rattle.dtx_base.specs.Leading.{LeaderOf, LeaderStep, knowing, reset_of, undecided_attempt}
use Rattle.dtx_base.specs.Members.{has_target}
use Rattle.dtx_base.specs.Rows.{row_of}
use Rattle.world_commit.specs.attempts.History.{History}
use Rattle.world_commit.specs.fates.Concerns.{IsDull, asks_of, concerns, no-talk}
use Rattle.world_commit.specs.fates.Facts.{IsAskedSo, IsSaidSo, Ongoing, PromptsFly, answers_for, asks_for, is_prompt_kind}
use Rattle.world_commit.specs.fates.Frames.{asked-on}
use Rattle.world_commit.specs.fates.Overs.{Over}
use Rattle.world_commit.specs.fates.Prompts.{AreSpoken}
use Rattle.world_commit.specs.fates.Working.{PostsSo, work-begins}
use Rattle.world_commit.specs.statuses.Listening as listening
use Rattle.world_commit.specs.statuses.Listening.{MailFalls, RowGoesOn}
use Rattle.world_commit.specs.statuses.ResetSteps.{ResetLeaves, knowing-decided, knowing-more, knowing-undecided}
use Rattle.world_commit.specs.statuses.Turns.{Looked, hears-flies, hears-over, hears-spoken}
use Rattle.world_commit.specs.stops.Parts.{KeepsEntries, grows-still}
use Rattle.world_base.specs.declared.letter.Letter.{Letter}
use Rattle.world_base.specs.declared.world.World.{World}
use Rattle.world_base.specs.Events.{Rules, TargetHearsBy, kept, target_after, target_plan}
use Rattle.world_base.specs.Further.{HearsFurther}
use Rattle.world_base.specs.Letters.{letter_of, letters_of, target}
use Rattle.world_base.specs.Roles.{leader_at, member_at}
use Rattle.world_base.specs.Statuses.{reset_left}

-- a letter tells who asked this that it gets no answer
pub record IsResetOf (l : Letter) (q : Message) : Type 0 where
  pub said : (r : Rules) (h : History) (w : World) → IsSaidSo r h w l.from l.to l.message → IsAskedSo r h w l.to l.from q
  pub asks : (i : ℕ) (x : AttemptId) → asks_for i x l.message ≡ false
  pub answers : (i : ℕ) (x : AttemptId) → answers_for i x l.message ≡ asks_for i x q
  pub concerned : (x : AttemptId) → concerns x l.message ≡ asks_of x q
  pub no_prompt : is_prompt_kind l.message ≡ false

-- messages that concern no attempt between targets, say what is so, and answer nothing that a target asked
pub record AreQuiet (r : Rules) (h : History) (v : World) (t : ℕ) (posts : List Post) : Type 0 where
  pub dull : (p : Post) → Has p posts → IsDull p.message
  pub so : PostsSo r h v t posts
  pub spoken : AreSpoken posts

-- nothing is sent
pub none-quiet : (r : Rules) (h : History) (v : World) (t : ℕ) (posts : List Post) → posts ≡ [] → AreQuiet r h v t posts
none-quiet r h v t posts none = record {
  dull = λ p i. absurd (subst (Has p) none i);
  so = λ p i. absurd (subst (Has p) none i);
  spoken = λ p i. absurd (subst (Has p) none i);
}

module _ (number : ℕ) (r : Rules) (h : History) (w v : World) (k : Ongoing r h w) (g : TargetHearsBy (HearsFurther number) r w v) (by : ℕ) (down : Bool) (q : Message) (is : IsResetOf g.l q)
    (left : Looked (reset_left (target_plan r g.t) g.s.memory by down q) (kept g.s) g.new (g.memory, g.did)) where
  abbrev pub L : LeaderOf
  L = leader_at (target_plan r g.t) g.s.memory g.s.durable

  abbrev pub st : LeaderStep
  st = reset_of by down q (leader_at (target_plan r g.t) g.s.memory g.s.durable)

  abbrev pub freed : List Post
  freed = (member.reset_heard down q (member_at (target_plan r g.t) g.s.memory)).freed.posts

  pub leader : g.memory.leader ≡ (knowing by down st.leader).memory
  leader = ap (λ i. i.0.leader) left.follows

  pub sent : g.did.posts ≡ st.posts ++ freed
  sent = ap (λ i. i.1.posts) left.follows

  durable : g.new.durable ≡ g.s.durable
  durable = ap (λ i. i.durable) left.same

  pub over : Over w v g.t (target_after g.s g.new g.memory) g.l g.rest (letters_of (target g.t) g.did.posts)
  over = hears-over number r w v g

  abbrev pub V : World
  V = listening.V r h w v g.t g.s (target_after g.s g.new g.memory) g.here g.l g.rest (letters_of (target g.t) g.did.posts) over

  pub begins : Ongoing r h V
  begins = work-begins r h w g.t g.s g.here k

  -- what was asked is so, and stays so
  pub asked : IsAskedSo r h V g.l.to g.l.from q
  asked = is.said r h V (begins.letters g.l (has-left w.messages [] g.l (hears-flies number r w v g)))

  keeps : KeepsEntries V v
  keeps = listening.over-keeps r h w v g.t g.s (target_after g.s g.new g.memory) g.here g.l g.rest (letters_of (target g.t) g.did.posts) over durable

  pub asked-now : IsAskedSo r h v g.l.to g.l.from q
  asked-now = asked-on r h h V v (grows-still r h V v keeps) g.l.to g.l.from q asked

  pub reset-ends : ResetLeaves L st → ((x : AttemptId) → MailFalls r h V v x) → PostsSo r h v g.t g.did.posts → Ongoing r h v
  reset-ends leaves mail so =
      listening.ends r h w v g.t g.s (target_after g.s g.new g.memory) g.here g.l g.rest (letters_of (target g.t) g.did.posts) over g.runs refl durable
      (ap (λ n. n.decided) leader ∙ knowing-decided by down st.leader ∙ leaves.decided)
      (λ m has. ap (λ n. has_target n.down m) leader ∙ knowing-more by down st.leader m (ap (λ d. has_target d m) leaves.down ∙ has))
      (λ x. subst (RowGoesOn x (row_of undecided_attempt x g.s.memory.leader.undecided)) (sym (ap (λ n. row_of undecided_attempt x n.undecided) leader ∙ ap (row_of undecided_attempt x) (knowing-undecided by down st.leader))) (leaves.rows x))
      mail
      (listening.come-so r h w v g.t g.s (target_after g.s g.new g.memory) g.here g.l g.rest (letters_of (target g.t) g.did.posts) over
      (λ n i. let y = has-from_map (letter_of (target g.t)) g.did.posts n i in subst (λ p. IsSaidSo r h v p.from p.to p.message) y.2 (so y.0 y.1)))
      begins

  -- letters that concern no attempt
  pub spare : ((p : Post) → Has p g.did.posts → IsDull p.message) → (x : AttemptId) (n : Letter) → Has n (letters_of (target g.t) g.did.posts) → concerns x n.message ≡ false
  spare dull x n i = let y = has-from_map (letter_of (target g.t)) g.did.posts n i in subst (λ p. concerns x p.message ≡ false) y.2 (dull y.0 y.1 x)

  -- where what was asked concerns no attempt
  pub quiet-keeps : ((x : AttemptId) → asks_of x q ≡ false) → ResetLeaves L st → AreQuiet r h v g.t g.did.posts → Ongoing r h v
  quiet-keeps off leaves quiet =
      reset-ends leaves
      (λ x. listening.taken-falls r h w v g.t g.s (target_after g.s g.new g.memory) g.here g.l g.rest (letters_of (target g.t) g.did.posts) over x (spare quiet.dull x) (λ m. inl (no-talk r x g.l (is.concerned x ∙ off x) _ m)))
      quiet.so

  pub reset-prompts : AreSpoken g.did.posts → PromptsFly w → PromptsFly v
  reset-prompts spoken fly = hears-spoken number r w v g is.no_prompt spoken fly
