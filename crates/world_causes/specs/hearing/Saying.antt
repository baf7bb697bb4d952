-- What a target says that hears what comes after stops: an Ask, a Status, or a Reset of what leaders and members ask.
use Rattle.std.specs.Prelude.{ℕ, ◌≡◌, ◌++◌, Bool, List, filter, Option, Some, None}
use Rattle.std.proofs.Common.{sym, ap, subst, inl, inr}
use Rattle.base_types.specs.declared.entry.Entry.{Entry}
use Rattle.base_types.specs.declared.entry.EntryState.{EntryState}
use Rattle.base_types.specs.declared.epoch.Epoch.{Epoch}
use Rattle.base_types.specs.declared.id.AttemptId.{AttemptId}
use Rattle.base_types.specs.declared.operation.Read.{Read}
use Rattle.base_types.specs.declared.outcome.Cause.TheVariants.{Unresolved}
use Rattle.base_types.specs.declared.outcome.Outcome.{Outcome}
use Rattle.base_types.specs.declared.outcome.Outcome.TheVariants.{Committed, Restart, Unknown}
use Rattle.base_messages.specs.declared.actor.ActorId.{ActorId}
use Rattle.base_messages.specs.declared.message.Message.{Message}
use Rattle.base_messages.specs.declared.message.Message.TheVariants as message
use Rattle.base_messages.specs.declared.message.Post.{Post}
use Rattle.base_messages.specs.declared.message.Reply.TheVariants as reply
use Rattle.model_laws.specs.EntryLaws.{found-has, found-passes}
use Rattle.model_laws.specs.Members.{Has, has-cases, has-from_filter}
use Rattle.daos_model.specs.declared.durable.Durable.{Durable}
use Rattle.daos_model.specs.Durables.{is_entry_of}
use Rattle.model_laws.specs.EntryLaws.{same-attempt}
use Rattle.dtx_base.specs.declared.member.Parked.{Parked}
use Rattle.dtx_base.specs.Asking.{ask_heard}
use Rattle.dtx_base.specs.Joining as member
use Rattle.dtx_base.specs.Leading.{entry_led, is_led, reset_of}
use Rattle.world_base.specs.declared.target.TargetMemory.{TargetMemory}
use Rattle.world_base.specs.declared.target.TargetPlan.{TargetPlan}
use Rattle.world_base.specs.Roles.{leader_at, member_at}
use Rattle.world_contents.specs.world_letters.endings.Answers as follows
use Rattle.world_contents.specs.world_letters.endings.Answers.{AnswersAsk, SaysCommitted, SaysUnknown, SaysUnresolved, ask-answers, joins-follow, leads-follow}

-- ---- the statement

-- It ends an attempt of which it has an entry, at the entry's epoch; or says of one without an entry that it is unresolved itself. It tells or
-- asks what is held of one, sends a Mark again, or answers a Fetch that waited that it met an unresolved attempt.
pub data SaysFurther (d : Durable) (parked : List Parked) (m : Message) : Type 0 where
  EndsHeld : (e : Entry) (how : Outcome) → Has e d.entries → m ≡ message.Ended e.attempt (Some e.epoch) how → SaysFurther d parked m
  EndsLost : (x : AttemptId) → m ≡ message.Ended x None (Restart (Unresolved x)) → SaysFurther d parked m
  TellsState : (x : AttemptId) (inc : ℕ) (how : EntryState) → m ≡ message.StatusIs x inc how → SaysFurther d parked m
  AsksState : (x : AttemptId) (inc : ℕ) → m ≡ message.Status x inc → SaysFurther d parked m
  MarksAgain : (inc : ℕ) (marks : List (AttemptId × Bool)) → m ≡ message.Mark inc marks → SaysFurther d parked m
  MetUnresolved : (p : Parked) (x : AttemptId) (op group : ℕ) (ep first : Option Epoch) (tracker : Epoch) (q : Read) (snapshot : Bool) (a : AttemptId) → Has p parked → p.ask ≡ message.Fetch x op group ep first tracker q snapshot
      → m ≡ message.Fetched x op group ep (reply.Outcome (Restart (Unresolved a))) → SaysFurther d parked m

abbrev pub AllSay : Durable → List Parked → List Post → Type 0
AllSay d parked posts = (p : Post) → Has p posts → SaysFurther d parked p.message

-- ---- the law

module _ (t : TargetPlan) (m : TargetMemory) (d : Durable) (parked : List Parked) where
  -- an entry that is found is kept, and the attempt's
  record IsKeptOf (x : AttemptId) (e : Entry) : Type 0 where
    among : Has e d.entries
    its : e.attempt ≡ x

  led-kept : (x : AttemptId) (e : Entry) → entry_led x (leader_at t m d) ≡ Some e → IsKeptOf x e
  led-kept x e found = record {
    among = (has-from_filter (is_led t.me) d.entries e (found-has (is_entry_of x) (filter (is_led t.me) d.entries) e found)).0;
    its = same-attempt e.attempt x (found-passes (is_entry_of x) (filter (is_led t.me) d.entries) e found);
  }

  ends-held : (x : AttemptId) (e : Entry) (how : Outcome) → IsKeptOf x e → SaysFurther d parked (message.Ended x (Some e.epoch) how)
  ends-held x e how k = EndsHeld e how k.among (ap (λ y. message.Ended y (Some e.epoch) how) (sym k.its))

  pub ask-says : (x : AttemptId) (from : ActorId) → AllSay d parked (ask_heard x from (leader_at t m d)).posts
  ask-says x from p i = by (ask-answers (leader_at t m d) x from p i)
    where
      by : AnswersAsk (leader_at t m d) x from p → SaysFurther d parked p.message
      by (SaysCommitted e led known is) = subst (SaysFurther d parked) (sym (ap (λ z. z.message) is)) (ends-held x e Committed (led-kept x e led))
      by (SaysUnknown e down led is) = subst (SaysFurther d parked) (sym (ap (λ z. z.message) is)) (ends-held x e (Unknown down) (led-kept x e led))
      by (SaysUnresolved none is) = EndsLost x (ap (λ z. z.message) is)

-- what is sent for a Reset of what leaders and members ask
pub reset-says : (t : TargetPlan) (m : TargetMemory) (d : Durable) (by : ℕ) (down : Bool) (q : Message)
    → AllSay d m.member.parked ((reset_of by down q (leader_at t m d)).posts ++ (member.reset_heard down q (member_at t m)).freed.posts)
reset-says t m d by down q p i = elim (has-cases (reset_of by down q (leader_at t m d)).posts (member.reset_heard down q (member_at t m)).freed.posts p i) [
  | inl j ↦ each (leads-follow (leader_at t m d) m.member.parked by down q p j)
  | inr j ↦ each (joins-follow (leader_at t m d) m.member.parked by down q (member_at t m) (λ z h. h) p j)
]
  where
    each : follows.FollowsReset (leader_at t m d) m.member.parked by p.message → SaysFurther d m.member.parked p.message
    each (follows.EndsUnknown x e led is) = subst (SaysFurther d m.member.parked) (sym is) (ends-held t m d m.member.parked x e (Unknown by) (led-kept t m d m.member.parked x e led))
    each (follows.AsksState x inc is) = AsksState x inc is
    each (follows.MarksAgain inc marks is) = MarksAgain inc marks is
    each (follows.MetUnresolved w x op group ep first tracker r snapshot a among asks is) = MetUnresolved w x op group ep first tracker r snapshot a among asks is
