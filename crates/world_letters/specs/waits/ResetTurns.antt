-- A target is told that what it asked as a leader, or as a member, got no answer.
use Rattle.std.specs.Prelude.{ℕ, ◌≡◌, ◌==◌, Bool, true, false, if◌then◌else◌, List, [], ◌∷◌, map, Option, Some, None, refl}
use Rattle.std.proofs.Common.{append-nil, sym, ◌∙◌, ap, subst, inl, inr}
use Rattle.base_types.specs.declared.entry.Entry.{Entry}
use Rattle.base_types.specs.declared.epoch.Epoch.{Epoch}
use Rattle.base_types.specs.declared.id.AttemptId.{AttemptId}
use Rattle.base_types.specs.declared.outcome.Outcome.{Outcome}
use Rattle.base_messages.specs.declared.message.Message.{Message}
use Rattle.base_messages.specs.declared.message.Message.TheVariants as message
use Rattle.daos_model.specs.Ordered.{is_rising}
use Rattle.world_base.specs.dtx_base.declared.leading.Undecided.{Undecided}
use Rattle.world_base.specs.dtx_base.Joining.{unresolved}
use Rattle.world_base.specs.dtx_base.Leading.{LeaderOf, LeaderStep, down_told, ended, entry_led, knowing, mark_reset, prepare_reset, quietly, reset_of, status_asked, to_target, undecided_attempt, undecided_of, unwaited_at}
use Rattle.world_base.specs.dtx_base.Rows.{row_key}
use Rattle.world_base.specs.declared.did.Did.{Did}
use Rattle.world_base.specs.declared.target.TargetMemory.{TargetMemory}
use Rattle.world_base.specs.declared.target.TargetPlan.{TargetPlan}
use Rattle.world_base.specs.Changes.{Kept}
use Rattle.world_base.specs.Roles.{leader_at}
use Rattle.world_base.specs.Statuses.{reset_left}
use Rattle.world_letters.specs.waits.LeaderTurns.{NoneWaits, row-unwaited, tells-end}
use Rattle.world_letters.specs.waits.Parts.{Holding, Leaves, Passes, holds-same}
use Rattle.world_letters.specs.waits.Passing.{told-none, told_to}
use Rattle.world_letters.specs.waits.TargetLaws.{AreBetween}
use Rattle.world_letters.specs.waits.VerdictTurns.{tells-unresolved}

-- ---- a leader

-- nothing is told, or who waits for an attempt is told that a member is down
pub data ResetIs (l : LeaderOf) (s : LeaderStep) : Type 0 where
  Stays : AreBetween s.posts → s.leader.memory.undecided ≡ l.memory.undecided → ResetIs l s
  EndsWait : (a : AttemptId) (u : Undecided) (e : Epoch) (how : Outcome) → undecided_of a l ≡ Some u → s.posts ≡ ended u.client a e how → s.leader.memory.undecided ≡ map (unwaited_at a) l.memory.undecided → ResetIs l s

quiet-is : (l : LeaderOf) → ResetIs l (quietly l)
quiet-is l = Stays (λ q i. absurd i) refl

one-to_target : (t : ℕ) (m : Message) → AreBetween (to_target t m ∷ [])
one-to_target t m q (inl same) = ap (λ x. x.to.client) same
one-to_target t m q (inr none) = absurd none

down-is : (t : ℕ) (a : AttemptId) (e : Option Entry) (u : Option Undecided) (l : LeaderOf) → undecided_of a l ≡ u → ResetIs l (down_told t a e u l)
down-is t a None u l found = quiet-is l
down-is t a (Some e) None l found = quiet-is l
down-is t a (Some e) (Some u) l found = EndsWait a u e.epoch _ found refl refl

asks-is : (t : ℕ) (a : AttemptId) (inc : ℕ) (l : LeaderOf) → ResetIs l (status_asked t a inc l)
asks-is t a inc l = by (inc == l.incarnation)
  where
    by : (b : Bool) → ResetIs l (if b then record { leader = l; posts = to_target t (message.Status a inc) ∷ [] } else quietly l)
    by true = Stays (one-to_target t (message.Status a inc)) refl
    by false = quiet-is l

prepare-is : (t : ℕ) (down : Bool) (a : AttemptId) (inc : ℕ) (l : LeaderOf) → ResetIs l (prepare_reset t down a inc l)
unfolding prepare_reset
prepare-is t true a inc l = down-is t a (entry_led a l) (undecided_of a l) l refl
prepare-is t false a inc l = asks-is t a inc l

mark-is : (t : ℕ) (down : Bool) (inc : ℕ) (marks : List (AttemptId × Bool)) (l : LeaderOf) → ResetIs l (mark_reset t down inc marks l)
unfolding mark_reset
mark-is t true inc marks l = Stays (λ q i. absurd i) refl
mark-is t false inc marks l = Stays (one-to_target t (message.Mark inc marks)) refl

pub reset-is : (t : ℕ) (down : Bool) (asked : Message) (l : LeaderOf) → ResetIs l (reset_of t down asked l)
reset-is t down (message.Prepare e first ws inc) l = prepare-is t down e.attempt inc l
reset-is t down (message.Status a inc) l = prepare-is t down a inc l
reset-is t down (message.Mark inc marks) l = mark-is t down inc marks l
reset-is t down m l = quiet-is l

knowing-same : (t : ℕ) (down : Bool) (l : LeaderOf) → (knowing t down l).memory.undecided ≡ l.memory.undecided
knowing-same t true l = refl
knowing-same t false l = refl

-- ---- a target

module _ (n t : ℕ) (p : TargetPlan) (m : TargetMemory) (by-it : ℕ) (down : Bool) (k : Kept) (rising : is_rising (row_key undecided_attempt) m.leader.undecided ≡ true) (h : Holding n t m) where
  abbrev step : Message → LeaderStep
  step asked = reset_of by-it down asked (leader_at p m k.durable)

  abbrev then-left : Message → TargetMemory × Did
  then-left asked = reset_left p m by-it down asked k

  undecided-now : (asked : Message) → (then-left asked).0.leader.undecided ≡ (step asked).leader.memory.undecided
  undecided-now asked = knowing-same by-it down (step asked).leader

  -- where a member's part is nothing
  leader-passes : (asked : Message) → (then-left asked).1.posts ≡ (step asked).posts → (then-left asked).0.member.parked ≡ m.member.parked → Passes n t m (then-left asked).0 (then-left asked).1.posts
  leader-passes asked says parked = by (reset-is by-it down asked (leader_at p m k.durable))
    where
      by : ResetIs (leader_at p m k.durable) (step asked) → Passes n t m (then-left asked).0 (then-left asked).1.posts
      by (Stays between same) = Leaves (record { told = ap (told_to n) says ∙ told-none n (step asked).posts between; held = holds-same n t m (then-left asked).0 parked (undecided-now asked ∙ same) refl })
      by (EndsWait a u e how found posts undecided) = tells-end n t a m (then-left asked).0 (then-left asked).1.posts (record {
        u = u;
        found = found;
        e = e;
        how = how;
        more = [];
        says = says ∙ posts ∙ sym (append-nil (ended u.client a e how));
        between = λ q i. absurd i;
        parked = parked;
        collecting = refl;
        rows = subst (NoneWaits a m.leader.undecided) (sym (undecided-now asked ∙ undecided)) (row-unwaited a m.leader.undecided);
      }) rising h

  -- a Query
  query-passes : (a : AttemptId) (ask : Option AttemptId) → Passes n t m (then-left (message.Query a ask)).0 (then-left (message.Query a ask)).1.posts
  unfolding unresolved
  query-passes a (Some x) = tells-unresolved n t a x m (then-left (message.Query a (Some x))).0 (then-left (message.Query a (Some x))).1.posts (record { says = refl; parked = refl; undecided = undecided-now (message.Query a (Some x)); collecting = refl }) h
  query-passes a None = Leaves (record { told = refl; held = holds-same n t m (then-left (message.Query a None)).0 refl (undecided-now (message.Query a None)) refl })

  pub reset-passes : (asked : Message) → Passes n t m (then-left asked).0 (then-left asked).1.posts
  reset-passes (message.Query a ask) = query-passes a ask
  reset-passes asked = leader-passes asked (append-nil (step asked).posts) refl
