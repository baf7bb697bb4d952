-- What a Reset leaves of a leader: rows, but for who waits, and what is decided; and what it knows to be down may grow.
use Rattle.std.specs.Prelude.{ℕ, ◌≡◌, ◌⊎◌, ◌==◌, Bool, true, false, List, [], ◌∷◌, map, Option, Some, None, refl, if◌then◌else◌}
use Rattle.std.proofs.Common.{sym, ◌∙◌, ap, subst, inl, inr}
use Rattle.base_types.specs.declared.entry.Entry.{Entry}
use Rattle.base_types.specs.declared.id.AttemptId.{AttemptId}
use Rattle.base_types.specs.declared.outcome.Outcome.TheVariants.{Unknown}
use Rattle.model_laws.specs.Members.{Has}
use Rattle.base_messages.specs.declared.actor.ActorId.{ActorId}
use Rattle.base_messages.specs.declared.message.Message.TheVariants as message
use Rattle.base_messages.specs.declared.message.Post.{Post}
use Rattle.daos_model.specs.Durables.{same_attempt}
use Rattle.dtx_base.specs.declared.leading.Undecided.{Undecided}
use Rattle.dtx_base.specs.Leading.{LeaderOf, LeaderStep, down_told, ended, entry_led, knowing, mark_reset, prepare_reset, quietly, to_target, undecided_attempt, undecided_of, unwaited_at}
use Rattle.dtx_base.specs.Members.{has_target}
use Rattle.dtx_base.specs.Rows.{row_of}
use Rattle.world_commit.specs.attempts.MemberBits.{has-with, has-with_other}
use Rattle.world_commit.specs.attempts.Turning.{one-or_another}
use Rattle.world_commit.specs.statuses.Listening as listening
use Rattle.world_commit.specs.statuses.Listening.{RowGoesOn}

-- ---- who is down

pub knowing-undecided : (t : ℕ) (down : Bool) (l : LeaderOf) → (knowing t down l).memory.undecided ≡ l.memory.undecided
knowing-undecided t true l = refl
knowing-undecided t false l = refl

pub knowing-decided : (t : ℕ) (down : Bool) (l : LeaderOf) → (knowing t down l).memory.decided ≡ l.memory.decided
knowing-decided t true l = refl
knowing-decided t false l = refl

pub knowing-more : (t : ℕ) (down : Bool) (l : LeaderOf) (m : ℕ) → has_target l.memory.down m ≡ true → has_target (knowing t down l).memory.down m ≡ true
knowing-more t false l m has = has
knowing-more t true l m has = elim (one-or_another m t) [
  | inl same ↦ subst (λ n. has_target (knowing t true l).memory.down n ≡ true) (sym same) (has-with l.memory.down t)
  | inr apart ↦ has-with_other l.memory.down t m apart ∙ has
]

pub knowing-it : (t : ℕ) (l : LeaderOf) → has_target (knowing t true l).memory.down t ≡ true
knowing-it t l = has-with l.memory.down t

-- ---- steps

pub record ResetLeaves (l : LeaderOf) (st : LeaderStep) : Type 0 where
  pub rows : (x : AttemptId) → RowGoesOn x (row_of undecided_attempt x l.memory.undecided) (row_of undecided_attempt x st.leader.memory.undecided)
  pub decided : st.leader.memory.decided ≡ l.memory.decided
  pub down : st.leader.memory.down ≡ l.memory.down

-- the leader goes on as it was, whatever it sends and names
leaves-rows : (l : LeaderOf) (st : LeaderStep) → st.leader.memory.undecided ≡ l.memory.undecided → st.leader.memory.decided ≡ l.memory.decided → st.leader.memory.down ≡ l.memory.down → ResetLeaves l st
leaves-rows l st undecided decided down = record {
  rows = λ x. listening.row-same x (row_of undecided_attempt x l.memory.undecided) (row_of undecided_attempt x st.leader.memory.undecided) (ap (row_of undecided_attempt x) undecided);
  decided = decided;
  down = down;
}

pub quiet-leaves : (l : LeaderOf) → ResetLeaves l (quietly l)
quiet-leaves l = leaves-rows l (quietly l) refl refl refl

-- ---- of a Mark

pub mark-leaves : (t : ℕ) (down : Bool) (inc : ℕ) (marks : List (AttemptId × Bool)) (l : LeaderOf) → ResetLeaves l (mark_reset t down inc marks l)
unfolding mark_reset
mark-leaves t true inc marks l = leaves-rows l (mark_reset t true inc marks l) refl refl refl
mark-leaves t false inc marks l = leaves-rows l (mark_reset t false inc marks l) refl refl refl

-- it is sent again, or nothing is
pub mark-again : (t : ℕ) (down : Bool) (inc : ℕ) (marks : List (AttemptId × Bool)) (l : LeaderOf) (p : Post) → Has p (mark_reset t down inc marks l).posts → p ≡ to_target t (message.Mark inc marks)
unfolding mark_reset
mark-again t true inc marks l p i = absurd i
mark-again t false inc marks l p (inl same) = same
mark-again t false inc marks l p (inr none) = absurd none

-- ---- of a Prepare, or of a Status

-- nobody waits any more
unwaited-row : (a : AttemptId) (us : List Undecided) (x : AttemptId) → RowGoesOn x (row_of undecided_attempt x us) (row_of undecided_attempt x (map (unwaited_at a) us))
unwaited-row a us x = listening.rows-go_on (unwaited_at a) us x (λ u. attempt (same_attempt u.attempt a) u) (λ u. counted (same_attempt u.attempt a) u) (λ u c its on. inr (waits (same_attempt u.attempt a) u c on))
  where
    attempt : (b : Bool) (u : Undecided) → undecided_attempt (if b then record u { client = None } else u) ≡ undecided_attempt u
    attempt true u = refl
    attempt false u = refl

    counted : (b : Bool) (u : Undecided) → (if b then record u { client = None } else u).counted ≡ u.counted
    counted true u = refl
    counted false u = refl

    waits : (b : Bool) (u : Undecided) (c : ActorId) → (if b then record u { client = None } else u).client ≡ Some c → u.client ≡ Some c
    waits false u c on = on
    waits true u c on = let no : ⊥ = cc in absurd no

told-leaves : (t : ℕ) (a : AttemptId) (o : Option Entry) (n : Option Undecided) (l : LeaderOf) → ResetLeaves l (down_told t a o n l)
told-leaves t a None n l = quiet-leaves l
told-leaves t a (Some e) None l = quiet-leaves l
told-leaves t a (Some e) (Some u) l = record { rows = unwaited-row a l.memory.undecided; decided = refl; down = refl }

asked-leaves : (b : Bool) (t : ℕ) (a : AttemptId) (inc : ℕ) (l : LeaderOf) → ResetLeaves l (if b then record { leader = l; posts = to_target t (message.Status a inc) ∷ [] } else quietly l)
asked-leaves true t a inc l = leaves-rows l (record { leader = l; posts = to_target t (message.Status a inc) ∷ [] }) refl refl refl
asked-leaves false t a inc l = quiet-leaves l

pub prepare-leaves : (t : ℕ) (down : Bool) (a : AttemptId) (inc : ℕ) (l : LeaderOf) → ResetLeaves l (prepare_reset t down a inc l)
unfolding prepare_reset
prepare-leaves t true a inc l = told-leaves t a (entry_led a l) (undecided_of a l) l
prepare-leaves t false a inc l = asked-leaves (inc == l.incarnation) t a inc l

-- where the member is down, the client that waits is told, if one does
pub record TellsWho (a : AttemptId) (l : LeaderOf) (t : ℕ) (posts : List Post) : Type 0 where
  pub u : Undecided
  pub row : undecided_of a l ≡ Some u
  pub e : Entry
  pub told : posts ≡ ended u.client a e.epoch (Unknown t)

pub prepare-told : (t : ℕ) (a : AttemptId) (inc : ℕ) (l : LeaderOf) → ((prepare_reset t true a inc l).posts ≡ []) ⊎ TellsWho a l t (prepare_reset t true a inc l).posts
unfolding prepare_reset
prepare-told t a inc l = by (entry_led a l) (undecided_of a l) refl
  where
    by : (o : Option Entry) (n : Option Undecided) → undecided_of a l ≡ n → ((down_told t a o n l).posts ≡ []) ⊎ TellsWho a l t (down_told t a o n l).posts
    by None n at = inl refl
    by (Some e) None at = inl refl
    by (Some e) (Some u) at = inr (record { u = u; row = at; e = e; told = refl })

-- a member that stopped is asked again by the incarnation that asked it, and by no later one
pub prepare-asks : (t : ℕ) (a : AttemptId) (inc : ℕ) (l : LeaderOf)
    → ((prepare_reset t false a inc l).posts ≡ to_target t (message.Status a inc) ∷ []) ⊎ (((prepare_reset t false a inc l).posts ≡ []) × ((inc == l.incarnation) ≡ false))
unfolding prepare_reset
prepare-asks t a inc l = by (inc == l.incarnation) refl
  where
    by : (b : Bool) → (inc == l.incarnation) ≡ b
        → ((if b then record { leader = l; posts = to_target t (message.Status a inc) ∷ [] } else quietly l).posts ≡ to_target t (message.Status a inc) ∷ []) ⊎ (((if b then record { leader = l; posts = to_target t (message.Status a inc) ∷ [] } else quietly l).posts ≡ []) × ((inc == l.incarnation) ≡ false))
    by true on = inl refl
    by false off = inr (refl, off)
