-- What answers an Ask, and what is sent for a Reset of what leaders and members ask.
use Rattle.std.specs.Prelude.{ℕ, ◌≡◌, ◌||◌, ◌==◌, Bool, true, false, List, [], ◌∷◌, filter, Option, Some, None, refl, if◌then◌else◌}
use Rattle.std.proofs.Common.{sym, ap, subst, inl, inr}
use Rattle.base_types.specs.declared.entry.Entry.{Entry}
use Rattle.base_types.specs.declared.epoch.Epoch.{Epoch}
use Rattle.base_types.specs.declared.id.AttemptId.{AttemptId}
use Rattle.base_types.specs.declared.operation.Read.{Read}
use Rattle.base_types.specs.declared.outcome.Cause.TheVariants.{Unresolved}
use Rattle.base_types.specs.declared.outcome.Outcome.TheVariants.{Committed, Restart, Unknown}
use Rattle.base_messages.specs.declared.actor.ActorId.{ActorId}
use Rattle.base_messages.specs.declared.message.Message.{Message}
use Rattle.base_messages.specs.declared.message.Message.TheVariants as message
use Rattle.base_messages.specs.declared.message.Post.{Post}
use Rattle.base_messages.specs.declared.message.Reply.TheVariants as reply
use Rattle.world_base.specs.model_laws.Members.{Has, has-cases, has-from_filter}
use Rattle.world_base.specs.dtx_base.declared.leading.Undecided.{Undecided}
use Rattle.world_base.specs.dtx_base.declared.member.Parked.{Parked}
use Rattle.world_base.specs.dtx_base.Asking.{ask_heard, asked_of, asked_open, tells_end}
use Rattle.world_base.specs.dtx_base.Joining as member
use Rattle.world_base.specs.dtx_base.Leading.{LeaderOf, down_told, ended, entry_led, first_down, mark_reset, prepare_reset, quietly, reset_of, to_target, undecided_of}
use Rattle.world_base.specs.dtx_base.Rows.{is_among}
use Rattle.world_base.specs.declared.target.TargetMemory.{TargetMemory}
use Rattle.world_base.specs.declared.target.TargetPlan.{TargetPlan}
use Rattle.world_base.specs.Changes.{Kept}
use Rattle.world_base.specs.Roles.{leader_at, member_at}
use Rattle.world_base.specs.Statuses.{reset_left}

one-is : {q : Post} (p : Post) → Has p (q ∷ []) → p ≡ q
one-is p (inl same) = same
one-is p (inr none) = absurd none

-- ---- an Ask

-- The attempt is committed; a target of it that is down leaves it unknown; or its leader knows nothing of it.
pub data AnswersAsk (l : LeaderOf) (x : AttemptId) (from : ActorId) (p : Post) : Type 0 where
  SaysCommitted : (e : Entry) → entry_led x l ≡ Some e → (e.committed || is_among x l.memory.decided) ≡ true → p ≡ record { to = from; message = message.Ended x (Some e.epoch) Committed } → AnswersAsk l x from p
  SaysUnknown : (e : Entry) (down : ℕ) → entry_led x l ≡ Some e → p ≡ record { to = from; message = message.Ended x (Some e.epoch) (Unknown down) } → AnswersAsk l x from p
  SaysUnresolved : entry_led x l ≡ None → p ≡ record { to = from; message = message.Ended x None (Restart (Unresolved x)) } → AnswersAsk l x from p

module _ (l : LeaderOf) (x : AttemptId) (from : ActorId) where
  still-open : (e : Entry) → entry_led x l ≡ Some e → (o : Option ℕ) (p : Post) → Has p (asked_open x from e o l).posts → AnswersAsk l x from p
  still-open e led None p i = absurd i
  still-open e led (Some down) p i = SaysUnknown e down led (one-is p i)

  entry-answers : (e : Entry) → entry_led x l ≡ Some e → (b : Bool) → (e.committed || is_among x l.memory.decided) ≡ b → (p : Post)
      → Has p (if b then record { leader = l; posts = tells_end from x (Some e.epoch) Committed } else asked_open x from e (first_down e.members l.memory.down) l).posts → AnswersAsk l x from p
  entry-answers e led true is p i = SaysCommitted e led is (one-is p i)
  entry-answers e led false is p i = still-open e led (first_down e.members l.memory.down) p i

  found-answers : (o : Option Entry) → entry_led x l ≡ o → (p : Post) → Has p (asked_of x from o (is_among x l.memory.decided) l).posts → AnswersAsk l x from p
  found-answers None led p i = SaysUnresolved led (one-is p i)
  found-answers (Some e) led p i = entry-answers e led (e.committed || is_among x l.memory.decided) refl p i

  pub ask-answers : (p : Post) → Has p (ask_heard x from l).posts → AnswersAsk l x from p
  unfolding ask_heard
  ask-answers p i = found-answers (entry_led x l) refl p i

-- ---- a Reset

-- Where the target that was asked is down, an attempt's end isn't known; else what a member holds is asked, or a Mark sent, again. A Fetch that
-- waited met an attempt that isn't resolved.
pub data FollowsReset (l : LeaderOf) (parked : List Parked) (by : ℕ) (m : Message) : Type 0 where
  EndsUnknown : (x : AttemptId) (e : Entry) → entry_led x l ≡ Some e → m ≡ message.Ended x (Some e.epoch) (Unknown by) → FollowsReset l parked by m
  AsksState : (x : AttemptId) (inc : ℕ) → m ≡ message.Status x inc → FollowsReset l parked by m
  MarksAgain : (inc : ℕ) (marks : List (AttemptId × Bool)) → m ≡ message.Mark inc marks → FollowsReset l parked by m
  MetUnresolved : (p : Parked) (x : AttemptId) (op group : ℕ) (ep first : Option Epoch) (tracker : Epoch) (q : Read) (snapshot : Bool) (a : AttemptId) → Has p parked → p.ask ≡ message.Fetch x op group ep first tracker q snapshot
      → m ≡ message.Fetched x op group ep (reply.Outcome (Restart (Unresolved a))) → FollowsReset l parked by m

module _ (l : LeaderOf) (parked : List Parked) (by : ℕ) where
  abbrev AllFollow : List Post → Type 0
  AllFollow posts = (p : Post) → Has p posts → FollowsReset l parked by p.message

  none-follow : AllFollow []
  none-follow p i = absurd i

  one-follows : (q : Post) → FollowsReset l parked by q.message → AllFollow (q ∷ [])
  one-follows q k p i = subst (FollowsReset l parked by) (sym (ap (λ z. z.message) (one-is p i))) k

  prepare-follows : (down : Bool) (a : AttemptId) (inc : ℕ) → AllFollow (prepare_reset by down a inc l).posts
  unfolding prepare_reset
  prepare-follows true a inc = told (entry_led a l) refl (undecided_of a l)
    where
      ended-follows : (e : Entry) → entry_led a l ≡ Some e → (c : Option ActorId) → AllFollow (ended c a e.epoch (Unknown by))
      ended-follows e led None = none-follow
      ended-follows e led (Some c) = one-follows _ (EndsUnknown a e led refl)

      told : (o : Option Entry) → entry_led a l ≡ o → (u : Option Undecided) → AllFollow (down_told by a o u l).posts
      told None led u = none-follow
      told (Some e) led None = none-follow
      told (Some e) led (Some u) = ended-follows e led u.client
  prepare-follows false a inc = asks (inc == l.incarnation)
    where
      asks : (b : Bool) → AllFollow (if b then record { leader = l; posts = to_target by (message.Status a inc) ∷ [] } else quietly l).posts
      asks true = one-follows _ (AsksState a inc refl)
      asks false = none-follow

  mark-follows : (down : Bool) (inc : ℕ) (marks : List (AttemptId × Bool)) → AllFollow (mark_reset by down inc marks l).posts
  unfolding mark_reset
  mark-follows true inc marks = none-follow
  mark-follows false inc marks = one-follows _ (MarksAgain inc marks refl)

  -- what a leader sends
  pub leads-follow : (down : Bool) (q : Message) → AllFollow (reset_of by down q l).posts
  leads-follow down (message.Prepare e first ws inc) = prepare-follows down e.attempt inc
  leads-follow down (message.Status a inc) = prepare-follows down a inc
  leads-follow down (message.Mark inc marks) = mark-follows down inc marks
  leads-follow down q = none-follow

  unresolved-follows : (a : AttemptId) (p : Parked) → Has p parked → (q : Message) → p.ask ≡ q → AllFollow (member.unresolved_told a q)
  unresolved-follows a p i (message.Fetch x op group ep first tracker r snapshot) is = one-follows _ (MetUnresolved p x op group ep first tracker r snapshot a i is refl)
  unresolved-follows a p i q is = none-follow

  all-unresolved : (a : AttemptId) (ps : List Parked) → ((p : Parked) → Has p ps → Has p parked) → AllFollow (member.all_unresolved_told a ps)
  all-unresolved a [] from z j = absurd j
  all-unresolved a (p ∷ ps) from z j = elim (has-cases (member.unresolved_told a p.ask) (member.all_unresolved_told a ps) z j) [
    | inl k ↦ unresolved-follows a p (from p (inl refl)) p.ask refl z k
    | inr k ↦ all-unresolved a ps (λ q i. from q (inr i)) z k
  ]

  -- and a member
  pub joins-follow : (down : Bool) (q : Message) (s : member.MemberOf) → ((p : Parked) → Has p s.memory.parked → Has p parked) → AllFollow (member.reset_heard down q s).freed.posts
  unfolding member.unresolved
  joins-follow down (message.Query a None) s from = none-follow
  joins-follow down (message.Query a (Some x)) s from = all-unresolved a (filter (member.is_waiting a x) s.memory.parked) (λ p i. from p (has-from_filter (member.is_waiting a x) s.memory.parked p i).0)
  joins-follow down q s from = none-follow

-- what a target sends as both
pub left-follows : (t : TargetPlan) (m : TargetMemory) (by : ℕ) (down : Bool) (q : Message) (k : Kept) (p : Post) → Has p (reset_left t m by down q k).1.posts → FollowsReset (leader_at t m k.durable) m.member.parked by p.message
left-follows t m by down q k p i = elim (has-cases (reset_of by down q (leader_at t m k.durable)).posts (member.reset_heard down q (member_at t m)).freed.posts p i) [
  | inl j ↦ leads-follow (leader_at t m k.durable) m.member.parked by down q p j
  | inr j ↦ joins-follow (leader_at t m k.durable) m.member.parked by down q (member_at t m) (λ z h. h) p j
]
