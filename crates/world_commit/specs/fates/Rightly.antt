-- What goes to a target tells of others' attempts alone: so every event is a right one.
use Rattle.std.specs.Prelude.{ℕ, ◌≡◌, Bool, true, false, Option, Some, None, slice_get, refl}
use Rattle.std.proofs.Common.{sym, ◌∙◌, ap, subst}
use Rattle.base_types.specs.declared.id.AttemptId.{AttemptId}
use Rattle.model_laws.specs.Members.{Has}
use Rattle.base_messages.specs.declared.actor.ActorId.{ActorId}
use Rattle.base_messages.specs.declared.message.Message.{Message}
use Rattle.base_messages.specs.declared.message.Message.TheVariants.{Mark, Verdict}
use Rattle.dtx_base.specs.declared.leading.Undecided.{Undecided}
use Rattle.dtx_base.specs.Leading.{undecided_attempt}
use Rattle.dtx_base.specs.Rows.{is_among, row_of}
use Rattle.world_commit.specs.attempts.Attempts.{IsFromLeader, IsOther, entry_in, is_known_in, leader_of, row_in}
use Rattle.world_commit.specs.attempts.Counting.{has-taken}
use Rattle.world_commit.specs.attempts.History.{History}
use Rattle.world_commit.specs.attempts.MemberBits.{other-no_leader}
use Rattle.world_commit.specs.fates.Facts.{Attempts, IsSaidSo}
use Rattle.world_base.specs.declared.letter.Letter.{Letter}
use Rattle.world_base.specs.declared.target.TargetState.{TargetState}
use Rattle.world_base.specs.declared.world.World.{World}
use Rattle.world_base.specs.Events.{Event, RightEvent, Rules, right-event}
use Rattle.world_base.specs.Letters.{target}
use Rattle.world_base.specs.RightTurns.{IsOfOthers, TellsOfOthers}

-- ---- the statement

-- a letter to a target tells what became of others' attempts alone
abbrev pub LettersTellOfOthers : Type 0
LettersTellOfOthers =
    (r : Rules) (h : History) (w : World) → Attempts r h w → (l : Letter) (t : ℕ) (s : TargetState) → Has l w.messages → l.to ≡ target t → slice_get w.targets t ≡ Some s
    → TellsOfOthers t s.memory.leader s.durable l.message

-- so each event is a right one
abbrev pub EventsAreRight : Type 0
EventsAreRight = (r : Rules) (h : History) (w v : World) → Attempts r h w → Event r w v → RightEvent r w v

-- ---- the law

module _ (r : Rules) (h : History) (w : World) (k : Attempts r h w) (t : ℕ) (s : TargetState) (here : slice_get w.targets t ≡ Some s) where
  -- an attempt of which another target is told by its leader is of others there
  of-others : (x : AttemptId) (from to : ActorId) → to ≡ target t → IsFromLeader r x from to → IsOfOthers t s.memory.leader s.durable x
  of-others x from to at way = record {
    elsewhere = λ e found mine.
        let its = (k.on.each x).entries.one t e (ap (λ o. entry_in o x) here ∙ sym (let same : Some e ≡ entry_in (Some s) x = cc in same)) in
        not-leader (sym mine ∙ its.leader);
    undecided = no-row (row_of undecided_attempt x s.memory.leader.undecided) refl;
    decided = not-known (is_among x s.memory.leader.decided) refl;
  }
    where
      not-leader : t ≡ leader_of r x → ⊥
      not-leader leads =
          let same : way.member ≡ t = ap (λ a. a.number) (sym way.receiver ∙ at) in
          other-no_leader r x t (subst (IsOther r x) same way.other) leads

      no-row : (o : Option Undecided) → row_of undecided_attempt x s.memory.leader.undecided ≡ o → row_of undecided_attempt x s.memory.leader.undecided ≡ None
      no-row None is = is
      no-row (Some u) is = absurd (not-leader ((k.on.each x).rows.undecided t u (ap (λ o. row_in o x) here ∙ is)).here.leads)

      not-known : (b : Bool) → is_among x s.memory.leader.decided ≡ b → is_among x s.memory.leader.decided ≡ false
      not-known false is = is
      not-known true is = absurd (not-leader ((k.on.each x).rows.unsettled t (ap (λ o. is_known_in o x) here ∙ is)).here.leads)

  tells : (l : Letter) → Has l w.messages → l.to ≡ target t → TellsOfOthers t s.memory.leader s.durable l.message
  tells l among to = by l.message refl
    where
      says : (m : Message) → l.message ≡ m → IsSaidSo r h w l.from l.to m
      says m is = subst (IsSaidSo r h w l.from l.to) is (k.on.letters l among)

      by : (m : Message) → l.message ≡ m → TellsOfOthers t s.memory.leader s.durable m
      by (Mark inc marks) is = λ x committed i. of-others x l.from l.to to (says (Mark inc marks) is x committed i).way
      by (Verdict x ask inc v) is = of-others x l.from l.to to (says (Verdict x ask inc v) is).way
      by m is = tt

pub letters-tell : LettersTellOfOthers
letters-tell r h w k l t s among to here = tells r h w k t s here l among to

pub events-are-right : EventsAreRight
events-are-right r h w v k e = right-event r w v (λ g. letters-tell r h w k g.l g.t g.s (has-taken w.messages g.l g.rest g.takes) g.to_it g.here) e
