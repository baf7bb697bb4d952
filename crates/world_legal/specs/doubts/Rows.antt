-- What a leader's turn leaves of the rows of attempts, and which attempts it tells as committed: of these no row is left.
use Rattle.std.specs.Prelude.{ℕ, ◌≡◌, ◌⊎◌, ◌||◌, ◌++◌, Bool, true, false, List, [], ◌∷◌, map, Option, Some, None, refl, if◌then◌else◌}
use Rattle.std.specs.Option.{option_map}
use Rattle.std.proofs.Common.{inl, inr, sym, ◌∙◌, ap, subst}
use Rattle.base_types.specs.declared.entry.Entry.{Entry}
use Rattle.base_types.specs.declared.epoch.Epoch.{Epoch}
use Rattle.base_types.specs.declared.id.AttemptId.{AttemptId}
use Rattle.base_types.specs.declared.outcome.Outcome.TheVariants as outcome
use Rattle.base_messages.specs.declared.actor.ActorId.{ActorId}
use Rattle.base_messages.specs.declared.message.Message.{Message}
use Rattle.base_messages.specs.declared.message.Message.TheVariants as message
use Rattle.base_messages.specs.declared.message.Post.{Post}
use Rattle.daos_model.specs.Durables.{same_attempt}
use Rattle.daos_model.specs.EntryLaws.{same_attempt-itself}
use Rattle.dtx_base.specs.declared.leading.Undecided.{Undecided}
use Rattle.dtx_base.specs.declared.member.Parked.{Parked}
use Rattle.dtx_base.specs.Asking.{ask_heard, asked_of, asked_open, waits_at}
use Rattle.dtx_base.specs.Joining as member
use Rattle.dtx_base.specs.Leading.{LeaderOf, LeaderStep, ended, entry_led, first_down, new_undecided, undecided_attempt, unwaited_at}
use Rattle.dtx_base.specs.RowLaws.{row-map, row-with, row-without}
use Rattle.dtx_base.specs.Rows.{is_among, row_of, with_row, without_row}
use Rattle.model_laws.specs.Members.{Has, has-cases}
use Rattle.world_standing.specs.world_commit.attempts.History.{Tells}
use Rattle.world_standing.specs.world_commit.attempts.Stored.{row-gone}
use Rattle.world_standing.specs.world_commit.attempts.Turning.{one-or_other}
use Rattle.world_base.specs.declared.request.CommitRequest.{CommitRequest}
use Rattle.world_base.specs.declared.did.Did.{Did}
use Rattle.world_base.specs.declared.target.TargetMemory.{TargetMemory}
use Rattle.world_standing.specs.world_causes.outcomes.Outcomes.{commits}
use Rattle.world_standing.specs.world_causes.outcomes.Telling.{end_to, post_to, single}
use Rattle.world_standing.specs.world_letters.talks.Conversation as carrier
use Rattle.world_standing.specs.world_letters.talks.LeaveLaws as leave
use Rattle.world_standing.specs.world_letters.talks.LeaveLaws.{AckIs, CommitLeaves, ToTargets}
use Rattle.world_standing.specs.world_letters.waits.Premises.{is_end}
use Rattle.world_standing.specs.world_letters.waits.ResetTurns.{EndsWait, ResetIs, Stays}
use Rattle.world_standing.specs.world_letters.endings.Answers as follows
use Rattle.world_standing.specs.world_letters.endings.Answers.{left-follows}
use Rattle.world_base.specs.declared.target.TargetPlan.{TargetPlan}
use Rattle.world_base.specs.Changes.{Kept}
use Rattle.world_base.specs.Roles.{leader_at}
use Rattle.world_base.specs.Statuses.{reset_left}

-- ---- what is told

-- none of these posts tells that an attempt is committed
abbrev pub NoneCommitted : List Post → Type 0
NoneCommitted posts = (x : AttemptId) (own : Option Epoch) → Tells posts x own outcome.Committed → ⊥

pub none-sent : NoneCommitted []
none-sent x own tells = tells.sent

pub one-other : (to : ActorId) (m : Message) → ((x : AttemptId) (own : Option Epoch) → m ≡ message.Ended x own outcome.Committed → ⊥) → NoneCommitted (post_to to m ∷ [])
one-other to m off x own tells = off x own (single to m x own outcome.Committed tells)

-- whoever is told an end is a client
abbrev pub EndsGoToClients : List Post → Type 0
EndsGoToClients posts = (q : Post) → Has q posts → is_end q.message ≡ true → q.to.client ≡ true

-- so what goes to targets tells none
pub to-targets_none : (posts : List Post) → EndsGoToClients posts → ToTargets posts → NoneCommitted posts
to-targets_none posts goes targets x own tells =
    let bad : false ≡ true = sym (targets (end_to tells.to x own outcome.Committed) tells.sent).0 ∙ goes (end_to tells.to x own outcome.Committed) tells.sent refl in
    let no : ⊥ = cc in no

-- ---- rows

-- a row of an attempt
abbrev pub HasRow : AttemptId → List Undecided → Type 0
HasRow x us = (u : Undecided) × (row_of undecided_attempt x us ≡ Some u)

-- rows of the same attempts
row-alike : (x : AttemptId) (us vs : List Undecided) → map (carrier.open_at 0) vs ≡ map (carrier.open_at 0) us → HasRow x vs → HasRow x us
row-alike x [] [] same at = at
row-alike x [] (v ∷ vs) same at = let no : ⊥ = cc in absurd no
row-alike x (u ∷ us) [] same at = let no : ⊥ = cc in absurd no
row-alike x (u ∷ us) (v ∷ vs) same at = by (same_attempt u.attempt x) refl (λ k. row-alike x us vs rest k)
  where
    it : v.attempt ≡ u.attempt
    it = cc

    rest : map (carrier.open_at 0) vs ≡ map (carrier.open_at 0) us
    rest = cc

    by : (b : Bool) → same_attempt u.attempt x ≡ b → (HasRow x vs → HasRow x us) → HasRow x (u ∷ us)
    by true is later = (u, ap (λ (c : Bool). if c then Some u else row_of undecided_attempt x us) is)
    by false off later =
        let was : row_of undecided_attempt x vs ≡ Some at.0 = sym (ap (λ (c : Bool). if c then Some v else row_of undecided_attempt x vs) (ap (λ y. same_attempt y x) it ∙ off)) ∙ at.1 in
        let k = later (at.0, was) in
        (k.0, ap (λ (c : Bool). if c then Some u else row_of undecided_attempt x us) off ∙ k.1)

-- rows that are changed, but for whose they are
row-mapped : (x : AttemptId) (f : Undecided → Undecided) → ((u : Undecided) → (f u).attempt ≡ u.attempt) → (us : List Undecided) → HasRow x (map f us) → HasRow x us
row-mapped x f same us at = by (row_of undecided_attempt x us) refl (sym (row-map undecided_attempt f same x us) ∙ at.1)
  where
    by : (o : Option Undecided) → row_of undecided_attempt x us ≡ o → option_map f (row_of undecided_attempt x us) ≡ Some at.0 → HasRow x us
    by None is mapped = let no : ⊥ = cc (is, mapped) in absurd no
    by (Some u) is mapped = (u, is)

row-left : (x a : AttemptId) (us : List Undecided) → HasRow x (without_row undecided_attempt a us) → (HasRow x us) × (x ≡ a → ⊥)
row-left x a us at = (elim (one-or_other x a) [ inl same ↦ absurd (off same) | inr apart ↦ (at.0, sym (row-without undecided_attempt x a us apart) ∙ at.1) ], off)
  where
    off : x ≡ a → ⊥
    off same =
        let none : row_of undecided_attempt x (without_row undecided_attempt a us) ≡ None = ap (λ y. row_of undecided_attempt y (without_row undecided_attempt a us)) same ∙ row-gone undecided_attempt a us in
        let some = at.1 in
        let no : ⊥ = cc (none, some) in no

-- What a turn leaves: each row was there, or is of an attempt that the message heard hands over; and an attempt that is told as committed is one
-- that the target leads, and of it there is no row.
pub record LeavesRows (Leads : AttemptId → Type 0) (q : Message) (us vs : List Undecided) (posts : List Post) : Type 0 where
  pub rows : (x : AttemptId) → HasRow x vs → HasRow x us ⊎ (commits x q ≡ true)
  pub led : (x : AttemptId) (own : Option Epoch) → Tells posts x own outcome.Committed → Leads x
  pub told : (x : AttemptId) (own : Option Epoch) → Tells posts x own outcome.Committed → HasRow x vs → ⊥

pub rows-same : (Leads : AttemptId → Type 0) (q : Message) (us vs : List Undecided) (posts : List Post) → vs ≡ us → NoneCommitted posts → LeavesRows Leads q us vs posts
rows-same Leads q us vs posts same none = record { rows = λ x at. inl (subst (HasRow x) same at); led = λ x own tells. absurd (none x own tells); told = λ x own tells at. none x own tells }

-- ---- a Commit

commit-own : (x : AttemptId) (q : CommitRequest) → x ≡ q.attempt → commits x (message.Commit q.attempt q.ep q.first q.tracker q.writes) ≡ true
commit-own x q same = ap (same_attempt q.attempt) same ∙ same_attempt-itself q.attempt

pub commit-rows : (Leads : AttemptId → Type 0) (q : CommitRequest) (from : ActorId) (m : TargetMemory) (left : TargetMemory × Did) → Leads q.attempt → row_of undecided_attempt q.attempt m.leader.undecided ≡ None → EndsGoToClients left.1.posts → CommitLeaves q from m left
    → LeavesRows Leads (message.Commit q.attempt q.ep q.first q.tracker q.writes) m.leader.undecided left.0.leader.undecided left.1.posts
commit-rows Leads q from m left lead none goes (leave.IsEnded own how posts same) = record {
  led = λ x own2 tells. subst Leads (its x own2 (subst (λ ps. Tells ps x own2 outcome.Committed) posts tells)) lead;
  rows = λ x at. inl (row-alike x m.leader.undecided left.0.leader.undecided (same.undecided 0) at);
  told = λ x own2 tells at. unrowed x own2 (subst (λ ps. Tells ps x own2 outcome.Committed) posts tells) (row-alike x m.leader.undecided left.0.leader.undecided (same.undecided 0) at);
}
  where
    its : (x : AttemptId) (own2 : Option Epoch) → Tells (post_to from (message.Ended q.attempt own how) ∷ []) x own2 outcome.Committed → q.attempt ≡ x
    its x own2 tells = let said : message.Ended q.attempt own how ≡ message.Ended x own2 outcome.Committed = single from (message.Ended q.attempt own how) x own2 outcome.Committed tells in cc

    unrowed : (x : AttemptId) (own2 : Option Epoch) → Tells (post_to from (message.Ended q.attempt own how) ∷ []) x own2 outcome.Committed → HasRow x m.leader.undecided → ⊥
    unrowed x own2 tells at =
        let same : q.attempt ≡ x = its x own2 tells in
        let some : row_of undecided_attempt q.attempt m.leader.undecided ≡ Some at.0 = ap (λ y. row_of undecided_attempt y m.leader.undecided) same ∙ at.1 in
        let no : ⊥ = cc (none, some) in no
commit-rows Leads q from m left lead none goes (leave.HasBegun to parked undecided) = record {
  led = λ x own tells. absurd (to-targets_none left.1.posts goes to x own tells);
  rows = λ x at. begun x (subst (HasRow x) undecided at);
  told = λ x own tells at. to-targets_none left.1.posts goes to x own tells;
}
  where
    begun : (x : AttemptId) → HasRow x (with_row undecided_attempt (new_undecided q.attempt (Some from)) m.leader.undecided) → HasRow x m.leader.undecided ⊎ (commits x (message.Commit q.attempt q.ep q.first q.tracker q.writes) ≡ true)
    begun x at = elim (one-or_other x q.attempt) [
      | inl same ↦ inr (commit-own x q same)
      | inr apart ↦ inl (at.0, sym (row-with undecided_attempt x (new_undecided q.attempt (Some from)) m.leader.undecided apart) ∙ at.1)
    ]

-- ---- an Ack

pub ack-rows : (Leads : AttemptId → Type 0) (q : Message) (a : AttemptId) (l : LeaderOf) (s : LeaderStep) → Leads a → EndsGoToClients s.posts → AckIs a l s → LeavesRows Leads q l.memory.undecided s.leader.memory.undecided s.posts
ack-rows Leads q a l s lead goes (leave.Stays none same) = record {
  led = λ x own tells. absurd (subst (λ ps. Has (end_to tells.to x own outcome.Committed) ps) none tells.sent);
  rows = λ x at. inl (row-alike x l.memory.undecided s.leader.memory.undecided (same 0) at);
  told = λ x own tells at. absurd (subst (λ ps. Has (end_to tells.to x own outcome.Committed) ps) none tells.sent);
}
ack-rows Leads q a l s lead goes (leave.Ends u e how more found says to undecided) = record {
  rows = λ x at. inl (row-left x a l.memory.undecided (subst (HasRow x) undecided at)).0;
  led = λ x own tells. subst Leads (sym (its x own tells)) lead;
  told = λ x own tells at. (row-left x a l.memory.undecided (subst (HasRow x) undecided at)).1 (its x own tells);
}
  where
    its-end : (c : Option ActorId) (x : AttemptId) (own : Option Epoch) (to2 : ActorId) → Has (end_to to2 x own outcome.Committed) (ended c a e how) → x ≡ a
    its-end None x own to2 i = absurd i
    its-end (Some c) x own to2 (inl same) = let said : message.Ended x own outcome.Committed ≡ message.Ended a (Some e) how = ap (λ p. p.message) same in cc
    its-end (Some c) x own to2 (inr none) = absurd none

    of-it : (x : AttemptId) (own : Option Epoch) (to2 : ActorId) → Has (end_to to2 x own outcome.Committed) (ended u.client a e how ++ more) → to2.client ≡ true → x ≡ a
    of-it x own to2 i client = elim (has-cases (ended u.client a e how) more (end_to to2 x own outcome.Committed) i) [
      | inl j ↦ its-end u.client x own to2 j
      | inr j ↦ let bad : false ≡ true = sym (to (end_to to2 x own outcome.Committed) j).0 ∙ client in (let no : ⊥ = cc in absurd no)
    ]

    its : (x : AttemptId) (own : Option Epoch) → Tells s.posts x own outcome.Committed → x ≡ a
    its x own tells = of-it x own tells.to (subst (Has (end_to tells.to x own outcome.Committed)) says tells.sent) (goes (end_to tells.to x own outcome.Committed) tells.sent refl)

-- ---- an Ask

pub ask-rows : (Leads : AttemptId → Type 0) (q : Message) (x : AttemptId) (from : ActorId) (l : LeaderOf) → Leads x → ((e : Entry) (u : Undecided) → entry_led x l ≡ Some e → row_of undecided_attempt x l.memory.undecided ≡ Some u → (e.committed || is_among x l.memory.decided) ≡ false)
    → LeavesRows Leads q l.memory.undecided (ask_heard x from l).leader.memory.undecided (ask_heard x from l).posts
unfolding ask_heard
ask-rows Leads q x from l lead unsettled = by (entry_led x l) refl
  where
    Leaves : LeaderStep → Type 0
    Leaves s = LeavesRows Leads q l.memory.undecided s.leader.memory.undecided s.posts

    its : (e : Entry) (y : AttemptId) (own : Option Epoch) → Tells (post_to from (message.Ended x (Some e.epoch) outcome.Committed) ∷ []) y own outcome.Committed → x ≡ y
    its e y own tells = let said : message.Ended x (Some e.epoch) outcome.Committed ≡ message.Ended y own outcome.Committed = single from (message.Ended x (Some e.epoch) outcome.Committed) y own outcome.Committed tells in cc

    waiting : (u : Undecided) (b : Bool) → (if b then record u { client = Some from } else u).attempt ≡ u.attempt
    waiting u true = refl
    waiting u false = refl

    open' : (e : Entry) (o : Option ℕ) → Leaves (asked_open x from e o l)
    open' e None = record { rows = λ y at. inl (row-mapped y (waits_at x from) (λ u. waiting u (same_attempt u.attempt x)) l.memory.undecided at); led = λ y own tells. absurd tells.sent; told = λ y own tells at. none-sent y own tells }
    open' e (Some down) = rows-same Leads q l.memory.undecided l.memory.undecided _ refl (one-other from (message.Ended x (Some e.epoch) (outcome.Unknown down)) (λ y own is. let no : ⊥ = cc in no))

    found : (e : Entry) → entry_led x l ≡ Some e → (b : Bool) → (e.committed || is_among x l.memory.decided) ≡ b
        → Leaves (if b then record { leader = l; posts = post_to from (message.Ended x (Some e.epoch) outcome.Committed) ∷ [] } else asked_open x from e (first_down e.members l.memory.down) l)
    found e led true known = record {
      rows = λ y at. inl at;
      led = λ y own tells. subst Leads (its e y own tells) lead;
      told = λ y own tells at.
          let same : x ≡ y = its e y own tells in
          let off = unsettled e at.0 led (ap (λ z. row_of undecided_attempt z l.memory.undecided) same ∙ at.1) in
          (let no : ⊥ = cc (known, off) in no);
    }
    found e led false off = open' e (first_down e.members l.memory.down)

    by : (o : Option Entry) → entry_led x l ≡ o → Leaves (asked_of x from o (is_among x l.memory.decided) l)
    by None led = rows-same Leads q l.memory.undecided l.memory.undecided _ refl (one-other from (message.Ended x None (outcome.Restart _)) (λ y own is. let no : ⊥ = cc in no))
    by (Some e) led = found e led (e.committed || is_among x l.memory.decided) refl

-- ---- a Reset

-- nothing that is sent tells that an attempt is committed
follows-untold : (l : LeaderOf) (parked : List Parked) (t : ℕ) (posts : List Post) → ((p : Post) → Has p posts → follows.FollowsReset l parked t p.message) → NoneCommitted posts
follows-untold l parked t posts all x own tells = each (all (end_to tells.to x own outcome.Committed) tells.sent)
  where
    each : follows.FollowsReset l parked t (message.Ended x own outcome.Committed) → ⊥
    each (follows.EndsUnknown y e led said) = let no : ⊥ = cc in no
    each (follows.AsksState y inc said) = let no : ⊥ = cc in no
    each (follows.MarksAgain inc marks said) = let no : ⊥ = cc in no
    each (follows.MetUnresolved p y op group ep first tracker r snapshot a among asks said) = let no : ⊥ = cc in no

pub left-untold : (t : TargetPlan) (m : TargetMemory) (by : ℕ) (down : Bool) (asked : Message) (k : Kept) → NoneCommitted (reset_left t m by down asked k).1.posts
left-untold t m by down asked k = follows-untold (leader_at t m k.durable) m.member.parked by (reset_left t m by down asked k).1.posts (left-follows t m by down asked k)

pub reset-rows : (x : AttemptId) (l : LeaderOf) (s : LeaderStep) → ResetIs l s → HasRow x s.leader.memory.undecided → HasRow x l.memory.undecided
reset-rows x l s (Stays between same) at = subst (HasRow x) same at
reset-rows x l s (EndsWait a u e how found posts undecided) at = row-mapped x (unwaited_at a) (λ v. by v (same_attempt v.attempt a)) l.memory.undecided (subst (HasRow x) undecided at)
  where
    by : (v : Undecided) (b : Bool) → (if b then record v { client = None } else v).attempt ≡ v.attempt
    by v true = refl
    by v false = refl
