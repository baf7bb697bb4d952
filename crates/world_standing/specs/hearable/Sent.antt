-- A Reset tells of one of the targets, and a tracker is told to a client.
use Rattle.std.specs.Prelude.{ℕ, ◌≡◌, ◌<◌, ◌++◌, ◌==◌, Bool, true, false, not, List, [], ◌∷◌, filter, length, map, Option, Some, None, refl}
use Rattle.std.proofs.Common.{inl, inr, zero, suc, sym, ◌∙◌, ap, subst, arith}
use Rattle.std.proofs.lemmas.Bool.Decides.{nat_tests}
use Rattle.base_types.specs.declared.entry.Entry.{Entry}
use Rattle.base_types.specs.declared.epoch.Epoch.{Epoch}
use Rattle.base_types.specs.declared.entry.EntryState.{EntryState}
use Rattle.base_types.specs.declared.entry.EntryState.TheVariants as state
use Rattle.base_types.specs.declared.id.AttemptId.{AttemptId}
use Rattle.base_messages.specs.declared.actor.ActorId.{ActorId}
use Rattle.base_messages.specs.declared.message.Message.{Message, more_of-Message}
use Rattle.base_messages.specs.declared.message.Message.TheVariants as message
use Rattle.base_messages.specs.declared.message.Post.{Post}
use Rattle.daos_model.specs.BoolLaws.{and_right}
use Rattle.daos_model.specs.declared.durable.Durable.{Durable}
use Rattle.world_base.specs.dtx_base.declared.member.Parked.{Parked}
use Rattle.world_base.specs.dtx_base.Leading.{is_led, is_open}
use Rattle.world_base.specs.dtx_base.Members.{other_members}
use Rattle.model_laws.specs.Members.{Has, has-cases, has-from_filter, has-from_map}
use Rattle.world_base.specs.declared.client.ClientPlan.{ClientPlan}
use Rattle.world_base.specs.declared.client.ClientState.{ClientState}
use Rattle.world_base.specs.declared.client.Present.{Present}
use Rattle.world_base.specs.declared.did.Did.{Did}
use Rattle.world_base.specs.declared.letter.Letter.{Letter}
use Rattle.world_base.specs.declared.request.CommitRequest.{CommitRequest}
use Rattle.world_base.specs.declared.target.TargetMemory.{TargetMemory}
use Rattle.world_base.specs.declared.target.TargetPlan.{TargetPlan}
use Rattle.world_base.specs.declared.target.TargetState.{TargetState}
use Rattle.world_base.specs.declared.world.World.{World}
use Rattle.world_base.specs.Changes.{Kept}
use Rattle.world_base.specs.ClientTurns.{Move, heard, listed, moved, waits}
use Rattle.world_base.specs.Commits as commit
use Rattle.world_base.specs.Events.{Rules, TargetHearsBy, kept, target_plan}
use Rattle.world_base.specs.Further.{CommitDown, HearsFurther, IsSpent, IsUnknown}
use Rattle.world_base.specs.Letters.{client, letter_of, letters_of}
use Rattle.world_base.specs.Statuses.{opening_posts, status_refusal, status_to, statuses_for, statuses_of}
use Rattle.world_base.specs.Stops.{HearsMore, is_down_at, is_not_to, is_not_to_down, is_to, is_to_down, reset_letter, resets, swept}
use Rattle.world_base.specs.TargetTurns.{commit_request}
use Rattle.world_causes.specs.world_letters.endings.Clients.{IsQuestion, heard-asks}
use Rattle.world_causes.specs.hearing.Listening.{is_listened, listens}
use Rattle.world_causes.specs.hearing.Saying.{AsksState, EndsHeld, EndsLost, MarksAgain, MetUnresolved, SaysFurther, TellsState}
use Rattle.world_causes.specs.world_letters.lines.EndingLaws.{all-hear-tell}
use Rattle.world_causes.specs.world_letters.lines.Lines.{MayEnd, TellsPlainly}
use Rattle.world_standing.specs.standing.Unsnapped.{is_of_snapshots, tells_of_snapshots}
use Rattle.world_causes.specs.world_letters.talks.AskLaws.{move-is, waiting-rests}
use Rattle.world_causes.specs.world_letters.talks.Asked.{ARead, ASnapshot, AnAggregation, Asked, Asking, IsMove, ItsWrites, Silent, Telling}

-- ---- the statements

-- who tells it is one of so many targets; a tracker goes to a client
abbrev pub IsSentSo : ℕ → ActorId → Message → Type 0
IsSentSo n to (message.Reset' by down place more) = by < n
IsSentSo n to (message.Tell tracker) = to.client ≡ true
IsSentSo n to m = Unit {0}

-- so it is of all that is in flight
pub record AreSentSo (n : ℕ) (w : World) : Type 0 where
  pub targets : length w.targets ≡ n
  pub letters : (l : Letter) → Has l w.messages → IsSentSo n l.to l.message

-- ---- messages

abbrev pub Posts : ℕ → List Post → Type 0
Posts n posts = (q : Post) → Has q posts → IsSentSo n q.to q.message

pub plainly-so : (n : ℕ) (to : ActorId) (m : Message) → TellsPlainly m → IsSentSo n to m
plainly-so n to (message.Reset' by down place more) h = absurd h
plainly-so n to (message.Tell tracker) h = absurd h
plainly-so n to m h = tt

further-so : (n : ℕ) (to : ActorId) (d : Durable) (parked : List Parked) (m : Message) → SaysFurther d parked m → IsSentSo n to m
further-so n to d parked m (EndsHeld e how i is) = subst (IsSentSo n to) (sym is) tt
further-so n to d parked m (EndsLost x is) = subst (IsSentSo n to) (sym is) tt
further-so n to d parked m (TellsState x inc how is) = subst (IsSentSo n to) (sym is) tt
further-so n to d parked m (AsksState x inc is) = subst (IsSentSo n to) (sym is) tt
further-so n to d parked m (MarksAgain inc marks is) = subst (IsSentSo n to) (sym is) tt
further-so n to d parked m (MetUnresolved p x op group ep first tracker q snapshot a i asks is) = subst (IsSentSo n to) (sym is) tt

-- ---- what clients send

asked-so : (n : ℕ) (p : ClientPlan) (k : Epoch) (c : ClientState) (a : Present) (q : Post) → Asked p k c a q → IsSentSo n q.to q.message
asked-so n p k c a q (ARead ops turns snapshot op r at here asks says) = subst (λ z. IsSentSo n z.to z.message) (sym says) tt
asked-so n p k c a q (ItsWrites ops turns snapshot w ws at last all says) = subst (λ z. IsSentSo n z.to z.message) (sym says) tt
asked-so n p k c a q (ASnapshot name cont at says) = subst (λ z. IsSentSo n z.to z.message) (sym says) tt
asked-so n p k c a q (AnAggregation cont at says) = subst (λ z. IsSentSo n z.to z.message) (sym says) tt

abbrev SaysSo : ℕ → Option Post → Type 0
SaysSo n None = Unit {0}
SaysSo n (Some q) = IsSentSo n q.to q.message

pub move-so : (n : ℕ) (p : ClientPlan) (c : ClientState) → SaysSo n (moved p c).post
move-so n p c = by (waits c) refl
  where
    is-a : (m : Move) → IsMove p c m → SaysSo n m.post
    is-a m (Silent free none) = subst (SaysSo n) (sym none) tt
    is-a m (Telling to none free says) = subst (SaysSo n) (sym says) refl
    is-a m (Asking a q at asked says state) = subst (SaysSo n) (sym says) (asked-so n p c.tracker c a q asked)

    by : (b : Bool) → waits c ≡ b → SaysSo n (moved p c).post
    by true h = subst (λ m. SaysSo n m.post) (sym (waiting-rests p c h)) tt
    by false h = is-a (moved p c) (move-is p c h)

pub heard-so : (n : ℕ) (p : ClientPlan) (c : ClientState) (m : Message) → SaysSo n (heard p c m).post
heard-so n p c m = by (heard p c m).post (heard-asks p c m)
  where
    by : (o : Option Post) → IsQuestion o → SaysSo n o
    by None k = tt
    by (Some q) k = subst (IsSentSo n q.to) (sym k.1) tt

-- ---- letters

abbrev pub AreSo : ℕ → List Letter → Type 0
AreSo n ls = (l : Letter) → Has l ls → IsSentSo n l.to l.message

pub both-so : (n : ℕ) (ls ms : List Letter) → AreSo n ls → AreSo n ms → AreSo n (ls ++ ms)
both-so n ls ms k j l i = elim (has-cases ls ms l i) [ inl x ↦ k l x | inr x ↦ j l x ]

pub posts-so : (n : ℕ) (from : ActorId) (posts : List Post) → Posts n posts → AreSo n (letters_of from posts)
posts-so n from posts k l i = let z = has-from_map (letter_of from) posts l i in subst (λ x. IsSentSo n x.to x.message) z.2 (k z.0 z.1)

pub client-so : (n c : ℕ) (o : Option Post) → SaysSo n o → AreSo n (letters_of (client c) (listed o))
client-so n c None says l i = absurd i
client-so n c (Some q) says l (inl same) = subst (λ x. IsSentSo n x.to x.message) (sym same) says
client-so n c (Some q) says l (inr none) = absurd none

resets-so : (n : ℕ) (down : Bool) (p : Letter → Bool) (asked : List Letter) → ((q : Letter) → p q ≡ true → q.to.number < n) → AreSo n (map (reset_letter down) (filter p asked))
resets-so n down p asked within l i =
    let y = has-from_map (reset_letter down) (filter p asked) l i in
    subst (λ x. IsSentSo n x.to x.message) y.2 (within y.0 (has-from_filter p asked y.0 y.1).1)

filter-so : (n : ℕ) (p : Letter → Bool) (ls : List Letter) → AreSo n ls → AreSo n (filter p ls)
filter-so n p ls k l i = k l (has-from_filter p ls l i).0

-- a target that is given up is there
down-within : (ss : List TargetState) (t : ℕ) → is_down_at ss t ≡ true → t < length ss
down-within [] t is = let no : ⊥ = cc in absurd no
down-within (s ∷ ss) zero is = omega arith
down-within (s ∷ ss) (suc t) is = let low : t < length ss = down-within ss t is in omega (arith, low)

pub lost-so : (n t : ℕ) (down : Bool) (w : World) → t < n → AreSo n w.messages → AreSo n (filter (is_not_to t) w.messages ++ resets t down w.asked)
lost-so n t down w low k =
    both-so n (filter (is_not_to t) w.messages) (resets t down w.asked) (filter-so n (is_not_to t) w.messages k)
    (resets-so n down (is_to t) w.asked (λ q is. let same : (q.to.number == t) ≡ true = and_right (not q.to.client) (q.to.number == t) is in subst (λ u. u < n) (let one : t ≡ q.to.number = grind (arith, nat_tests) in one) low))

-- ---- what targets send

state-may : (x : AttemptId) (how : EntryState) → MayEnd (status_refusal x how)
state-may x state.Absent = refl
state-may x state.Prepared = tt
state-may x state.Committed = tt

one-so : (n : ℕ) (to : ActorId) (m : Message) (posts : List Post) → posts ≡ record { to = to; message = m } ∷ [] → IsSentSo n to m → Posts n posts
one-so n to m posts is k q i = by (subst (Has q) is i)
  where
    by : Has q (record { to = to; message = m } ∷ []) → IsSentSo n q.to q.message
    by (inl same) = subst (λ z. IsSentSo n z.to z.message) (sym same) k
    by (inr other) = absurd other

down-so : (n : ℕ) (t : TargetPlan) (m : TargetMemory) (reading : ℕ) (q : CommitRequest) (from : ActorId) (s : commit.CommitStage) (k : Kept) (left : TargetMemory × Did) → CommitDown t m reading q from s k left → Posts n left.1.posts
down-so n t m reading q from s k left (IsSpent k2 e d left2 none known says) = one-so n from _ left2.1.posts (ap (λ o. o.1.posts) says) tt
down-so n t m reading q from s k left (IsUnknown k2 e d left2 known says) = one-so n from _ left2.1.posts (ap (λ o. o.1.posts) says) tt

statuses-so : (n inc : ℕ) (es : List Entry) → Posts n (statuses_for inc es)
statuses-so n inc [] q i = absurd i
statuses-so n inc (e ∷ es) q i = elim (has-cases (statuses_of inc e) (statuses_for inc es) q i) [
  | inl j ↦ (let z = has-from_map (status_to inc e.attempt) (other_members e) q j in subst (λ x. IsSentSo n x.to x.message) z.2 tt)
  | inr j ↦ statuses-so n inc es q j
]

pub opening-so : (n : ℕ) (t : TargetPlan) (d : Durable) → Posts n (opening_posts t d)
unfolding opening_posts
opening-so n t d = statuses-so n d.incarnation (filter is_open (filter (is_led t.me) d.entries))

module _ (r : Rules) (n : ℕ) (w v : World) (f : HearsMore r w v) where
  abbrev g : TargetHearsBy (HearsFurther f.number) r w v
  g = f.hears

  listened : is_listened g.l.message ≡ true → Posts n g.did.posts
  listened is q i =
      further-so n q.to g.s.durable g.s.memory.member.parked q.message ((listens f.number (target_plan r g.t) g.s.opening g.s.memory g.reading g.l.from g.l.message (kept g.s) g.new (g.memory, g.did) is g.turn).says q i)

  pub more-so : (m : Message) → g.l.message ≡ m → tells_of_snapshots m ≡ false → HearsFurther f.number (target_plan r g.t) g.s.opening g.s.memory g.reading g.l.from m (kept g.s) g.new (g.memory, g.did) → Posts n g.did.posts
  more-so (message.Commit x ep first tracker ws) is off turn = down-so n (target_plan r g.t) g.s.memory g.reading (commit_request x ep first tracker ws) g.l.from turn.last g.new (g.memory, g.did) turn.ends
  more-so (message.StatusIs x inc how) is off turn =
      λ q i. plainly-so n q.to q.message ((all-hear-tell (target_plan r g.t) g.s.opening g.s.memory g.reading g.l.from (message.Ack x inc (status_refusal x how)) (kept g.s) g.new (g.memory, g.did) (state-may x how) turn).0 q i)
  more-so (message.Ask x) is off turn = listened (ap is_listened is)
  more-so (message.Status x inc) is off turn = listened (ap is_listened is)
  more-so (message.Reset' by down place (more_of-Message q rest)) is off turn = listened (ap is_listened is ∙ no-collecting q off)
    where
      no-collecting : (q : Message) → is_of_snapshots q ≡ false → is_listened (message.Reset' by down place (more_of-Message q rest)) ≡ true
      no-collecting (message.Freeze x c s) none = let bad : ⊥ = cc in absurd bad
      no-collecting (message.Prune x c tracker e) none = let bad : ⊥ = cc in absurd bad
      no-collecting q none = refl
  more-so (message.Snap x c called tracker) is off turn = let no : ⊥ = cc in absurd no
  more-so (message.Freeze x c s) is off turn = let no : ⊥ = cc in absurd no
  more-so (message.Held x refusal) is off turn = let no : ⊥ = cc in absurd no
  more-so (message.Prune x c tracker e) is off turn = let no : ⊥ = cc in absurd no
  more-so m is off turn = absurd turn

-- ---- events

pub swept-so : (n : ℕ) (w : World) → length w.targets ≡ n → AreSo n w.messages → AreSo n (swept w).messages
swept-so n w many k =
    filter-so n (is_not_to_down w.targets) (w.messages ++ map (reset_letter true) (filter (is_to_down w.targets) w.asked))
    (both-so n w.messages (map (reset_letter true) (filter (is_to_down w.targets) w.asked)) k
    (resets-so n true (is_to_down w.targets) w.asked (λ q is. subst (λ m. q.to.number < m) many (down-within w.targets q.to.number (and_right (not q.to.client) (is_down_at w.targets q.to.number) is)))))
