-- What leaders and members post after stops has its form.
use Rattle.std.specs.Prelude.{ℕ, ◌≡◌, ◌==◌, Bool, true, false, List, [], ◌∷◌, filter, map, Option, Some, None, refl, if◌then◌else◌}
use Rattle.std.proofs.Common.{◌∙◌, ap}
use Rattle.base_types.specs.declared.entry.Entry.{Entry}
use Rattle.base_types.specs.declared.entry.Verdict.TheVariants as verdict
use Rattle.base_types.specs.declared.id.AttemptId.{AttemptId}
use Rattle.base_types.specs.declared.outcome.Outcome.TheVariants.{Unknown}
use Rattle.model_laws.specs.EntryLaws.{found-has}
use Rattle.model_laws.specs.Members.{has-from_map}
use Rattle.base_messages.specs.declared.actor.ActorId.{ActorId}
use Rattle.base_messages.specs.declared.message.Message.{Message}
use Rattle.base_messages.specs.declared.message.Message.TheVariants as message
use Rattle.daos_model.specs.Durables.{same_attempt}
use Rattle.world_commit.specs.dtx_base.declared.leading.Undecided.{Undecided}
use Rattle.world_commit.specs.dtx_base.Joining as member
use Rattle.world_commit.specs.dtx_base.Joining.{MemberOf}
use Rattle.world_commit.specs.dtx_base.Leading.{LeaderOf, LeaderStep, down_told, entry_led, first_memory, is_open, knowing, mark_reset, prepare_reset, quietly, reopened_undecided, reset_heard, reset_of, status_asked, to_target, undecided_attempt, undecided_of, unwaited_at}
use Rattle.world_commit.specs.dtx_base.Members.{other_members}
use Rattle.world_commit.specs.dtx_base.Rows.{is_row_of}
use Rattle.world_commit.specs.world_base.Statuses.{status_to, statuses_for}
use Rattle.world_contents.specs.posts.Forms.{ClientsWait, Follows, IsOfTarget, PostsInForm, TargetPosts}
use Rattle.world_contents.specs.posts.Posting.{both-posted, ended-told, map-posted, mark-told, none-posted, one-posted, to-other, verdicts-post-in-form, waits-on}

-- ---- the statements

-- a leader hears that a message to a target got no answer
abbrev pub ResetsPostInForm : Type 0
ResetsPostInForm = (targets t : ℕ) (down : Bool) (m : Message) (l : LeaderOf) → PostsInForm targets l.memory (reset_heard t down m l).leader.memory (reset_heard t down m l).posts

-- and so does a member
abbrev pub ResetMembersPostInForm : Type 0
ResetMembersPostInForm = (targets : ℕ) (down : Bool) (m : Message) (s : MemberOf) → TargetPosts targets (member.reset_heard down m s).freed.posts

-- a leader that opened again asks members what they hold of some entries, and nobody waits for what it remembers
abbrev pub OpeningsPostInForm : Type 0
OpeningsPostInForm = (targets inc : ℕ) (led asked : List Entry) → Follows targets (first_memory led) (statuses_for inc asked)

-- ---- a Reset

status-told : (targets inc : ℕ) (a : AttemptId) (t : ℕ) → IsOfTarget targets (to_target t (message.Status a inc))
status-told targets inc a t = to-other targets (record { client = false; number = t }) (message.Status a inc) refl tt

module _ (targets t : ℕ) (l : LeaderOf) where
  abbrev Posts : LeaderStep → Type 0
  Posts s = PostsInForm targets l.memory s.leader.memory s.posts

  quiet : Posts (quietly l)
  quiet = waits-on targets l.memory l.memory [] refl (none-posted targets)

  -- who waits for an attempt of which a member is down is told
  client-before : (b : Bool) (u v : Undecided) (c : ActorId) → (if b then record u { client = None } else u) ≡ v → v.client ≡ Some c → u.client ≡ Some c
  client-before true u v c is at = let none : None ≡ Some c = ap (λ (z : Undecided). z.client) is ∙ at in let no : ⊥ = cc in absurd no
  client-before false u v c is at = ap (λ (z : Undecided). z.client) is ∙ at

  down-posts : (a : AttemptId) (e : Option Entry) (u : Option Undecided) → undecided_of a l ≡ u → Posts (down_told t a e u l)
  down-posts a None u is = quiet
  down-posts a (Some e) None is = quiet
  down-posts a (Some e) (Some u) is = λ waits. record {
    form = ended-told targets u.client a e.epoch (Unknown t) (λ c at. waits u c (found-has (is_row_of undecided_attempt a) l.memory.undecided u is) at);
    waiting = λ v c i at.
        let o = has-from_map (unwaited_at a) l.memory.undecided v i in
        waits o.0 c o.1 (client-before (same_attempt o.0.attempt a) o.0 v c o.2 at);
  }

  status-posts : (a : AttemptId) (inc : ℕ) → Posts (status_asked t a inc l)
  status-posts a inc = by (inc == l.incarnation)
    where
      by : (b : Bool) → Posts (if b then record { leader = l; posts = to_target t (message.Status a inc) ∷ [] } else quietly l)
      by true = waits-on targets l.memory l.memory (to_target t (message.Status a inc) ∷ []) refl (one-posted targets _ (status-told targets inc a t))
      by false = quiet

  prepare-posts : (down : Bool) (a : AttemptId) (inc : ℕ) → Posts (prepare_reset t down a inc l)
  unfolding prepare_reset
  prepare-posts true a inc = down-posts a (entry_led a l) (undecided_of a l) refl
  prepare-posts false a inc = status-posts a inc

  mark-posts : (down : Bool) (inc : ℕ) (marks : List (AttemptId × Bool)) → Posts (mark_reset t down inc marks l)
  unfolding mark_reset
  mark-posts true inc marks = waits-on targets l.memory (mark_reset t true inc marks l).leader.memory [] refl (none-posted targets)
  mark-posts false inc marks = waits-on targets l.memory (mark_reset t false inc marks l).leader.memory (to_target t (message.Mark inc marks) ∷ []) refl (one-posted targets _ (mark-told targets t inc marks))

  of-posts : (down : Bool) (m : Message) → Posts (reset_of t down m l)
  of-posts down (message.Prepare e first ws inc) = prepare-posts down e.attempt inc
  of-posts down (message.Status a inc) = prepare-posts down a inc
  of-posts down (message.Mark inc marks) = mark-posts down inc marks
  of-posts down _ = quiet

  -- which targets are down is nothing to who waits
  waits-knowing : (down : Bool) (k : LeaderOf) → ClientsWait k.memory → ClientsWait (knowing t down k).memory
  waits-knowing true k waits = waits
  waits-knowing false k waits = waits

pub resets-post-in-form : ResetsPostInForm
resets-post-in-form targets t down m l waits =
    let k = of-posts targets t l down m waits in
    record { form = k.form; waiting = waits-knowing targets t l down (reset_of t down m l).leader k.waiting }

pub reset-members-post-in-form : ResetMembersPostInForm
reset-members-post-in-form targets down (message.Query a (Some x)) s = verdicts-post-in-form targets a (Some x) verdict.Undecided s
reset-members-post-in-form targets down (message.Query a None) s = none-posted targets
reset-members-post-in-form targets down _ s = none-posted targets

-- ---- an opening

statuses-posted : (targets inc : ℕ) (es : List Entry) → TargetPosts targets (statuses_for inc es)
statuses-posted targets inc [] = none-posted targets
statuses-posted targets inc (e ∷ es) =
    both-posted targets (map (status_to inc e.attempt) (other_members e)) (statuses_for inc es) (map-posted targets (status_to inc e.attempt) (other_members e) (λ t i. status-told targets inc e.attempt t)) (statuses-posted targets inc es)

pub openings-post-in-form : OpeningsPostInForm
openings-post-in-form targets inc led asked = record {
  form = statuses-posted targets inc asked;
  waiting = λ u c i at.
      let o = has-from_map reopened_undecided (filter is_open led) u i in
      let none : None ≡ Some c = ap (λ (z : Undecided). z.client) o.2 ∙ at in
      let no : ⊥ = cc in absurd no;
}
