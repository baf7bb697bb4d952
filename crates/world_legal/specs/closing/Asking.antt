-- Whatever happens keeps that each other member of an attempt for which a client waits is asked, or about to answer, unless it is counted.
use Rattle.std.specs.Prelude.{ℕ, ◌≡◌, ◌⊎◌, ◌≤◌, ◌<◌, ◌+◌, ◌==◌, ◌&&◌, ◌++◌, not, Bool, true, false, List, filter, length, slice_get, Option, Some, None, refl}
use Rattle.std.proofs.Common.{sym, ◌∙◌, ap, subst, arith, inl, inr}
use Rattle.std.proofs.Math.ListN.{set}
use Rattle.base_types.specs.declared.entry.Entry.{Entry}
use Rattle.base_types.specs.declared.epoch.Epoch.{Epoch}
use Rattle.base_types.specs.declared.id.AttemptId.{AttemptId}
use Rattle.base_types.specs.declared.operation.MinorWrite.{MinorWrite}
use Rattle.base_types.specs.declared.outcome.Outcome.{Outcome}
use Rattle.base_types.specs.declared.report.Line.TheVariants as line
use Rattle.base_types.specs.Placement.{writes_members}
use Rattle.base_messages.specs.declared.actor.ActorId.{ActorId}
use Rattle.base_messages.specs.declared.message.Message.{Message, more_of-Message}
use Rattle.base_messages.specs.declared.message.Message.TheVariants as message
use Rattle.daos_model.specs.BoolLaws.{and_left, and_right, clash, false_of}
use Rattle.daos_model.specs.Durables.{entry_of, same_attempt}
use Rattle.dtx_base.specs.declared.leading.Undecided.{Undecided}
use Rattle.dtx_base.specs.LeaderLaws.{same-is}
use Rattle.dtx_base.specs.Asking.{ask_heard}
use Rattle.dtx_base.specs.Leading.{LeaderOf, ack_heard, entry_led, first_down, reset_heard, undecided_attempt}
use Rattle.dtx_base.specs.Members.{all_targets, has_target, is_other_member, other_members}
use Rattle.dtx_base.specs.Rows.{row_of}
use Rattle.model_laws.specs.Lists.{at-within}
use Rattle.model_laws.specs.Members.{Has, has-filter, has-from_filter, has-left}
use Rattle.model_laws.specs.TargetLaws.{number_same, same_number}
use Rattle.world_standing.specs.world_letters.apart.Staying.{events-keep-targets}
use Rattle.world_standing.specs.world_commit.asks.Moving.{TargetMoves, all-stay, goes-moves, heard-moves, hears-moves, idle-moves, same-there}
use Rattle.world_standing.specs.world_commit.asks.RowsKept.{IsFresh, IsNewRow, RowsAfter, hears-rows}
use Rattle.world_standing.specs.world_commit.attempts.Attempts.{IsOther, entry_at, entry_in, first_entry, inc_at, inc_in, is_target, leader_of, members_of, one_if, row_at, row_in}
use Rattle.world_standing.specs.world_commit.attempts.Counting.{count-some, has-taken}
use Rattle.world_standing.specs.world_commit.attempts.History.{History}
use Rattle.world_standing.specs.world_commit.attempts.Stored.{found-led, led-found}
use Rattle.world_standing.specs.world_commit.attempts.MemberBits.{has-none, is-other_same, other-no_leader}
use Rattle.world_standing.specs.world_commit.attempts.Turning.{one-or_another}
use Rattle.world_base.specs.declared.letter.Letter.{Letter}
use Rattle.world_base.specs.declared.target.Life.TheVariants.{Down, Running, Stopped}
use Rattle.world_base.specs.declared.target.TargetPlan.{TargetPlan}
use Rattle.world_base.specs.declared.target.TargetState.{TargetState}
use Rattle.world_base.specs.declared.world.World.{World}
use Rattle.world_base.specs.ChangeLaws.{incarnation-made}
use Rattle.world_base.specs.Commits.{bits_of}
use Rattle.world_base.specs.Events.{ByClient, ByTarget, Event, Rules, TargetHearsBy, TargetHearsRightly, TargetIdles, ToClient, ToTarget, kept, target_after, target_plan, rightly}
use Rattle.world_base.specs.Further.{HearsFurther, KnowsNoneDown, reset_by}
use Rattle.world_base.specs.Letters.{letter_of, target}
use Rattle.world_base.specs.MemoryLaws.{idle-leaves}
use Rattle.world_base.specs.RightTurns.{HearsRightly}
use Rattle.world_base.specs.Roles.{leader_at}
use Rattle.world_base.specs.Statuses.{ask_left, reset_joins, reset_leads, reset_left, status_left, status_refusal}
use Rattle.world_base.specs.Stops.{Draws, Fails, Further, GivenUp, Happening, HearsMore, IsCut, NoneDown, Opens, Plainly, WorldEvent, is_not_to, opened_at, stopped_at}
use Rattle.world_base.specs.TargetTurns.{Hearing}
use Rattle.world_standing.specs.world_commit.fates.Asked.{AskedRight}
use Rattle.world_standing.specs.world_commit.fates.Facts.{Attempts, IsOneUnless, answers_for, asks_for, down_in, is_talk, knows_down, talking}
use Rattle.world_standing.specs.world_commit.fates.Rightly.{letters-tell}
use Rattle.world_standing.specs.world_letters.lives.Lives.{Lives}
use Rattle.world_standing.specs.world_commit.questions.Hearing.{commit-knows, ends-as, is_of_collections, reset-plain}
use Rattle.world_standing.specs.world_commit.questions.Sending.{more-down}
use Rattle.world_legal.specs.reasons.Knowing.{DownsAreKnown}
use Rattle.world_standing.specs.world_commit.requests.Rows.{CommitsFindNoRow}
use Rattle.world_standing.specs.world_commit.statuses.Events.{HappensWithoutSnapshots}
use Rattle.world_standing.specs.world_commit.statuses.Heard.{is_of_attempts}
use Rattle.world_standing.specs.world_commit.statuses.ResetTurns.{is_collecting}
use Rattle.world_standing.specs.world_commit.statuses.Senders.{IsSentRightly, SendersAreRight}
use Rattle.world_standing.specs.world_commit.stops.Parts.{now-here, now-there}
use Rattle.world_standing.specs.world_commit.stops.Questions.{opening-down}
use Rattle.world_legal.specs.closing.Gone.{NoneGoesToGivenUp}
use Rattle.world_legal.specs.closing.Holding.{other-there}
use Rattle.world_legal.specs.closing.Kept.{further-part}
use Rattle.world_legal.specs.closing.Rowed.{AskedRow, IsAskedFor, LostRow, NobodyWaits, StaysThere, WaitsNow, WasRow, WasThere, ack-follows, ack-was, ask-rows, asked-again, looks-same, lost-down, lost-up, none-down, was-same}
use Rattle.world_legal.specs.closing.Waited.{Answers, Asks, TalkWay, WaitersAreAsked, from-way, own-target, row-runs, some-counted, sweeping-asked, target-is, told-down, way-of}

-- ---- what this stands on

-- before what happens, and after it but before what goes to targets that are given up is lost
pub record AreAsking (r : Rules) (h later : History) (w u : World) : Type 0 where
  pub some : 0 < r.script.targets
  pub targets : length w.targets ≡ r.script.targets
  pub targets_then : length u.targets ≡ r.script.targets
  pub attempts : Attempts r h w
  pub attempts_then : Attempts r later u
  pub right : AskedRight r h w
  pub senders : SendersAreRight w
  pub commits : CommitsFindNoRow w
  pub gone : NoneGoesToGivenUp w
  pub lives : Lives w
  pub lives_then : Lives u
  pub downs : DownsAreKnown w
  pub downs_then : DownsAreKnown u
  pub asked : WaitersAreAsked r w

not-to : (t n : ℕ) (a : ActorId) → (n ≡ t → ⊥) → a ≡ target n → not (not a.client && (a.number == t)) ≡ true
not-to t n a apart is = ap (λ b. not (not b.client && (b.number == t))) is ∙ ap not (false_of (n == t) (λ on. apart (number_same n t on)))

-- what a Reset tells of was asked for the attempt
asked-is : (inc : ℕ) (x : AttemptId) (q : Message) → asks_for inc x q ≡ true → IsAskedFor q x
asked-is inc x (message.Prepare e first ws i) is = sym (same-is e.attempt x (and_left (same_attempt e.attempt x) (i == inc) is))
asked-is inc x (message.Status a i) is = sym (same-is a x (and_left (same_attempt a x) (i == inc) is))
asked-is inc x q is = let no : ⊥ = cc in absurd no

no-collections : (q : Message) → not (is_collecting q) ≡ true → not (is_of_collections q) ≡ true
no-collections (message.Freeze y c e) is = let no : ⊥ = cc in absurd no
no-collections (message.Prune y c tracker e) is = let no : ⊥ = cc in absurd no
no-collections q is = refl

module _ (r : Rules) (h later : History) (w u : World) (k : AreAsking r h later w u) where
  -- ---- one row

  module _ (x : AttemptId) (m : ℕ) (other : IsOther r x m) where
    abbrev leader : ℕ
    leader = leader_of r x

    -- it is asked then, or about to answer
    abbrev IsOn : Type 0
    IsOn = 1 ≤ talking r (inc_at u leader) u x m

    member-among : Has m all_targets
    unfolding other_members
    member-among = (has-from_filter (is_other_member (first_entry r x (record { 0 = 0 }))) all_targets m other).0

    member-there : (v : World) → length v.targets ≡ r.script.targets → (s : TargetState) × (slice_get v.targets m ≡ Some s)
    member-there v many = let low : m < r.script.targets = other-there r x m k.some other in at-within v.targets m (let same : length v.targets ≡ r.script.targets = many in omega (arith, low, same))

    -- Where a client waited before, and the member is given up, its answer stays on its way, unless it is heard.
    still : (q : Undecided) (c : ActorId) → row_at w leader x ≡ Some q → q.client ≡ Some c → has_target q.counted m ≡ false → inc_at u leader ≡ inc_at w leader → (s : TargetState) → slice_get w.targets m ≡ Some s → s.life ≡ Down
        → ((l : Letter) → Has l w.messages → is_target leader l.to ≡ true → is_target m l.from ≡ true → answers_for (inc_at w leader) x l.message ≡ true → Has l u.messages ⊎ IsOn) → IsOn
    still q c row client off inc s here down stays = by (some-counted (is_talk r (inc_at w leader) x m) w.messages (k.asked x m q c other row client off))
      where
        by : (l : Letter) × Has l w.messages × (is_talk r (inc_at w leader) x m l ≡ true) → IsOn
        by l = at (way-of r (inc_at w leader) x m l.0 l.2)
          where
            on : Has l.0 u.messages ⊎ IsOn → IsOn
            on (inl i) = subst (λ n. 1 ≤ talking r n u x m) (sym inc) (count-some (is_talk r (inc_at w leader) x m) u.messages l.0 i l.2)
            on (inr is) = is

            at : TalkWay r (inc_at w leader) x m l.0 → IsOn
            at (Asks to asks) = absurd (k.gone l.0 m s l.1 (target-is m l.0.to to) here down)
            at (Answers to from answers) = on (stays l.0 l.1 to from answers)

    module _ (v : Undecided) (c : ActorId) (row : row_at u leader x ≡ Some v) (client : v.client ≡ Some c) (off : has_target v.counted m ≡ false) (down : knows_down u leader m ≡ true) where
      -- where the leader is as it was
      untouched : slice_get u.targets leader ≡ slice_get w.targets leader → ((l : Letter) → Has l w.messages → is_target leader l.to ≡ true → Has l u.messages) → IsOn
      untouched same stays =
          let s = member-there w k.targets in
          still v c (ap (λ o. row_in o x) (sym same) ∙ row) client off (ap inc_in same) s.0 s.1 (told-down w k.lives m s.0 s.1 (known-was (ap (λ o. down_in o m) (sym same) ∙ down)))
          (λ l i to from answers. inl (stays l i to))
        where
          known-was : knows_down w leader m ≡ true → Has (line.Down m) w.lines
          known-was is = by (slice_get w.targets leader) refl is
            where
              by : (o : Option TargetState) → slice_get w.targets leader ≡ o → down_in o m ≡ true → Has (line.Down m) w.lines
              by None none on = let no : ⊥ = cc in absurd no
              by (Some y) here on = k.downs leader m y here on

      -- the member is given up, and was so before where only the leader changes
      given-up : (z : TargetState) → slice_get u.targets m ≡ Some z → z.life ≡ Down
      given-up z here = told-down u k.lives_then m z here (by (slice_get u.targets leader) refl down)
        where
          by : (o : Option TargetState) → slice_get u.targets leader ≡ o → down_in o m ≡ true → Has (line.Down m) u.lines
          by None none on = let no : ⊥ = cc in absurd no
          by (Some y) at on = k.downs_then leader m y at on

      -- ---- where the leader does something

      row-there : (y : TargetState) × (slice_get u.targets leader ≡ Some y)
      row-there = by (slice_get u.targets leader) refl row
        where
          by : (o : Option TargetState) → slice_get u.targets leader ≡ o → row_in o x ≡ Some v → (y : TargetState) × (slice_get u.targets leader ≡ Some y)
          by None none at = let no : ⊥ = cc in absurd no
          by (Some y) is at = (y, is)

      module _ (t : ℕ) (leads : leader ≡ t) (s z : TargetState) (here : slice_get w.targets t ≡ Some s) (targets : u.targets ≡ set w.targets t z) where
        its-row : row_of undecided_attempt x z.memory.leader.undecided ≡ Some v
        its-row = sym (now-here w u t s z here targets (λ o. row_in o x)) ∙ ap (λ n. row_at u n x) (sym leads) ∙ row

        its-down : has_target z.memory.leader.down m ≡ true
        its-down = sym (now-here w u t s z here targets (λ o. down_in o m)) ∙ ap (λ n. knows_down u n m) (sym leads) ∙ down

        -- it has to run
        not-off : (z.life ≡ Running → ⊥) → IsOn
        not-off stopped = absurd (row-runs r later u k.attempts_then leader z x v (ap (λ n. slice_get u.targets n) leads ∙ now-here w u t s z here targets (λ o. o)) row stopped)

        was-given_up : (y : TargetState) × (slice_get w.targets m ≡ Some y) × (y.life ≡ Down)
        was-given_up =
            let y = member-there u k.targets_then in
            (y.0, sym (now-there w u t s z here targets (λ o. o) m (λ same. other-no_leader r x m other (same ∙ sym leads))) ∙ y.1, given-up y.0 y.1)

        -- the row was there before, for which a client waited
        was-there : WasRow s.memory.leader.undecided x v → inc_at u leader ≡ inc_at w leader
            → ((l : Letter) → Has l w.messages → is_target leader l.to ≡ true → is_target m l.from ≡ true → answers_for (inc_at w leader) x l.message ≡ true → Has l u.messages ⊎ IsOn) → IsOn
        was-there q inc stays =
            let y = was-given_up in
            still q.q c (ap (λ n. row_at w n x) leads ∙ ap (λ o. row_in o x) here ∙ q.was) (sym q.client ∙ client) (q.counted m off) inc y.0 y.1 y.2 stays

        inc-was : inc_at w leader ≡ s.durable.incarnation
        inc-was = ap (inc_at w) leads ∙ ap inc_in here

        -- its entry has the member
        record ItsEntry : Type 0 where
          entry : Entry
          led : entry_led x (leader_at (target_plan r t) s.memory s.durable) ≡ Some entry
          member : is_other_member entry m ≡ true

        its-entry : (q : Undecided) → row_of undecided_attempt x s.memory.leader.undecided ≡ Some q → ItsEntry
        its-entry q was =
            let open' = ((k.attempts.on.each x).rows.undecided t q (ap (λ o. row_in o x) here ∙ was)).here in
            let own = (k.attempts.on.each x).entries.one t open'.entry open'.found in
            record {
              entry = open'.entry;
              led = found-led (target_plan r t) s.memory s.durable x open'.entry (k.attempts.on.ordered t s here).entries (ap (λ o. entry_in o x) (sym here) ∙ open'.found) (own.leader ∙ leads);
              member = is-other_same r x open'.entry m own.leader own.members other;
            }

        -- of each entry of it that it leads
        led-member : (e : Entry) → entry_led x (leader_at (target_plan r t) s.memory s.durable) ≡ Some e → is_other_member e m ≡ true
        led-member e led =
            let found = led-found (target_plan r t) s.memory s.durable x e (k.attempts.on.ordered t s here).entries led in
            let own = (k.attempts.on.each x).entries.one t e (ap (λ o. entry_in o x) here ∙ found.0) in
            is-other_same r x e m own.leader own.members other

        -- it doesn't know none of these members to be down
        not-none : (e : Entry) → is_other_member e m ≡ true → first_down e.members s.memory.leader.down ≡ None → has_target s.memory.leader.down m ≡ true → ⊥
        unfolding is_other_member
        not-none e is none known =
            clash (has_target s.memory.leader.down m) known
            (none-down e.members s.memory.leader.down m none member-among (and_left (has_target e.members m) (not (m == e.leader)) is))

      -- it does its idle work
      idled : (g : TargetIdles r w u) → leader ≡ g.t → inc_at u leader ≡ inc_at w leader → IsOn
      idled g leads inc =
          let same = (idle-leaves g.settling (target_plan r g.t) g.s.memory g.turn.last g.new (g.memory, g.did) g.turn.ends).undecided in
          let z = target_after g.s g.new g.memory in
          let targets : u.targets ≡ set w.targets g.t z = ap (λ y. y.targets) g.after in
          was-there g.t leads g.s z g.here targets (was-same g.s.memory.leader.undecided x v (ap (row_of undecided_attempt x) (sym same) ∙ its-row g.t leads g.s z g.here targets)) inc
          (λ l i to from answers. inl (all-stay w u g.t g.s z g.did.posts (idle-moves r w u g) l i))

      -- ---- it hears a letter

      module _ (Turn : Hearing) (g : TargetHearsBy Turn r w u) (leads : leader ≡ g.t) (inc : inc_at u leader ≡ inc_at w leader) where
        abbrev z : TargetState
        z = target_after g.s g.new g.memory

        moves : TargetMoves w u g.t g.s z (Some g.l) g.did.posts
        moves = heard-moves r w u g

        row-then : row_of undecided_attempt x g.memory.leader.undecided ≡ Some v
        row-then = its-row g.t leads g.s z g.here moves.targets

        -- the row was there, and what is heard doesn't answer for it, or it goes on
        goes-on : WasRow g.s.memory.leader.undecided x v → (is_target m g.l.from ≡ true → answers_for (inc_at w leader) x g.l.message ≡ true → IsOn) → IsOn
        goes-on q heard = was-there g.t leads g.s z g.here moves.targets q inc (λ l i to from answers. elim (moves.stays l i) [
          | inl same ↦ inr (let one : g.l ≡ l = cc in heard (ap (λ n. is_target m n.from) one ∙ from) (ap (λ n. answers_for (inc_at w leader) x n.message) one ∙ answers))
          | inr j ↦ inl j
        ])

        -- what is no answer
        quietly : (q : Message) → g.l.message ≡ q → answers_for (inc_at w leader) x q ≡ false → row_of undecided_attempt x g.s.memory.leader.undecided ≡ Some v → IsOn
        quietly q is no_answer was = goes-on (was-same g.s.memory.leader.undecided x v was) (λ from answers. clash (answers_for (inc_at w leader) x q) (ap (answers_for (inc_at w leader) x) (sym is) ∙ answers) no_answer)

        -- an Ack, or what is heard as one
        acked : (a : AttemptId) (i : ℕ) (refusal : Option Outcome) → (answers_for (inc_at w leader) x g.l.message ≡ true → (same_attempt a x && (i == inc_at w leader)) ≡ true)
            → row_of undecided_attempt x (ack_heard g.l.from.number a i refusal (leader_at (target_plan r g.t) g.s.memory g.s.durable)).leader.memory.undecided ≡ Some v → IsOn
        acked a i refusal own at = goes-on was.0 heard
          where
            l : LeaderOf
            l = leader_at (target_plan r g.t) g.s.memory g.s.durable

            was : WasRow g.s.memory.leader.undecided x v × ((e : Entry) → (i == l.incarnation) ≡ true → entry_led a l ≡ Some e → is_other_member e g.l.from.number ≡ true → x ≡ a → has_target v.counted g.l.from.number ≡ true)
            was = ack-was g.l.from.number a i refusal l x v at

            heard : is_target m g.l.from ≡ true → answers_for (inc_at w leader) x g.l.message ≡ true → IsOn
            heard from answers =
                let both' = own answers in
                let same : a ≡ x = same-is a x (and_left (same_attempt a x) (i == inc_at w leader) both') in
                let now : (i == l.incarnation) ≡ true = ap (λ n. i == n) (sym (inc-was g.t leads g.s z g.here moves.targets)) ∙ and_right (same_attempt a x) (i == inc_at w leader) both' in
                let number : g.l.from.number ≡ m = ap (λ y. y.number) (target-is m g.l.from from) in
                let e = its-entry g.t leads g.s z g.here moves.targets was.0.q was.0.was in
                let counted : has_target v.counted g.l.from.number ≡ true = was.1 e.entry now (ap (λ y. entry_led y l) same ∙ e.led) (ap (is_other_member e.entry) number ∙ e.member) (sym same) in
                clash (has_target v.counted m) (ap (has_target v.counted) (sym number) ∙ counted) off

      -- it hears a message as without stops
      module _ (g : TargetHearsRightly r w u) (up : KnowsNoneDown (target_plan r g.t) g.s.memory g.l.message) (leads : leader ≡ g.t) (inc : inc_at u leader ≡ inc_at w leader) where
        abbrev p : TargetPlan
        p = target_plan r g.t

        then' : (q : Message) → g.l.message ≡ q → answers_for (inc_at w leader) x q ≡ false → RowsAfter p g.s.memory g.s.durable q g.memory → ((e : Entry) → IsNewRow p g.s.memory g.s.durable x e q → ⊥) → IsOn
        then' q is none rows new = elim (rows.rows x v (row-then HearsRightly g leads inc)) [ inl was ↦ quietly HearsRightly g leads inc q is none was | inr k2 ↦ absurd (new k2.0 k2.1) ]

        after : (q : Message) → HearsRightly p g.s.opening g.s.memory g.reading g.l.from q (kept g.s) g.new (g.memory, g.did) → IsFresh g.s.memory q → RowsAfter p g.s.memory g.s.durable q g.memory
        after q turn fresh = hears-rows p g.s.opening g.s.memory g.reading g.l.from q (kept g.s) g.new (g.memory, g.did) turn fresh

        begins : (y : AttemptId) (ep first : Option Epoch) (tracker : Epoch) (ws : List MinorWrite) → g.l.message ≡ message.Commit y ep first tracker ws → KnowsNoneDown p g.s.memory (message.Commit y ep first tracker ws) → g.memory.leader.down ≡ g.s.memory.leader.down
            → (e : Entry) → IsNewRow p g.s.memory g.s.durable x e (message.Commit y ep first tracker ws) → ⊥
        begins y ep first tracker ws is none same e new =
            let own = k.right.commits g.l y ep first tracker ws (has-taken w.messages g.l g.rest g.takes) is in
            let members : e.members ≡ members_of r x = ap (λ n. n.members) new.1.1 ∙ ap (λ n. bits_of (writes_members n r.script.targets)) own.writes ∙ ap (members_of r) (sym new.0) in
            let leads_it : e.leader ≡ leader_of r x = ap (λ n. n.leader) new.1.1 ∙ sym leads in
            let none_down : first_down e.members g.s.memory.leader.down ≡ None = ap (λ n. first_down n.members g.s.memory.leader.down) new.1.1 ∙ none new.1.0 in
            let targets : u.targets ≡ set w.targets g.t (target_after g.s g.new g.memory) = ap (λ n. n.targets) g.after in
            not-none g.t leads g.s (target_after g.s g.new g.memory) g.here targets e (is-other_same r x e m leads_it members other) none_down
            (ap (λ d. has_target d m) (sym same) ∙ its-down g.t leads g.s (target_after g.s g.new g.memory) g.here targets)

        plain-by : (q : Message) → g.l.message ≡ q → KnowsNoneDown p g.s.memory q → HearsRightly p g.s.opening g.s.memory g.reading g.l.from q (kept g.s) g.new (g.memory, g.did) → IsOn
        plain-by (message.Fetch y op group ep first tracker rr snapshot) is none turn = let q = message.Fetch y op group ep first tracker rr snapshot in then' q is refl (after q turn tt) (λ e new. new)
        plain-by (message.Commit y ep first tracker ws) is none turn =
            let q = message.Commit y ep first tracker ws in
            let fresh : row_of undecided_attempt y g.s.memory.leader.undecided ≡ None = ap (λ o. row_in o y) (sym g.here) ∙ k.commits g.l y ep first tracker ws g.t (has-taken w.messages g.l g.rest g.takes) is g.to_it in
            let rows = after q turn fresh in
            then' q is refl rows (begins y ep first tracker ws is none rows.down)
        plain-by (message.Prepare e first ws i) is none turn = let q = message.Prepare e first ws i in then' q is refl (after q turn tt) (λ e new. new)
        plain-by (message.Ack a i refusal) is none turn =
            acked HearsRightly g leads inc a i refusal (λ answers. ap (answers_for (inc_at w leader) x) (sym is) ∙ answers)
            (ap (row_of undecided_attempt x) (sym (ack-follows p g.s.memory g.l.from.number a i refusal (kept g.s) g.new (g.memory, g.did) turn)) ∙ row-then HearsRightly g leads inc)
        plain-by (message.Mark i marks) is none turn = let q = message.Mark i marks in then' q is refl (after q turn tt) (λ e new. new)
        plain-by (message.Marked i ids) is none turn = let q = message.Marked i ids in then' q is refl (after q turn tt) (λ e new. new)
        plain-by (message.Query y ask) is none turn = let q = message.Query y ask in then' q is refl (after q turn tt) (λ e new. new)
        plain-by (message.Verdict y ask i verdict) is none turn = let q = message.Verdict y ask i verdict in then' q is refl (after q turn tt) (λ e new. new)
        plain-by q is none turn = absurd turn

        plain-heard : IsOn
        plain-heard = plain-by g.l.message refl up g.turn

      -- it hears what comes of stops
      module _ (f : HearsMore r w u) (ours : is_of_attempts f.hears.l.message ≡ true) (leads : leader ≡ f.hears.t) where
        abbrev g : TargetHearsBy (HearsFurther f.number) r w u
        g = f.hears

        abbrev far : TargetPlan
        far = target_plan r g.t

        targets : u.targets ≡ set w.targets g.t (target_after g.s g.new g.memory)
        targets = ap (λ n. n.targets) g.after

        inc : inc_at u leader ≡ inc_at w leader
        inc =
            ap (inc_at u) leads ∙ now-here w u g.t g.s (target_after g.s g.new g.memory) g.here targets inc_in
            ∙ further-part (λ d. d.incarnation) (λ c2 d plain. incarnation-made c2 d) far g.s.opening g.s.memory g.reading g.l.from (kept g.s) f.number g.l.message g.new (g.memory, g.did) ours g.turn
            ∙ sym (inc-was g.t leads g.s (target_after g.s g.new g.memory) g.here targets)

        its : row_of undecided_attempt x g.memory.leader.undecided ≡ Some v
        its = row-then (HearsFurther f.number) g leads inc

        known : has_target g.memory.leader.down m ≡ true
        known = its-down g.t leads g.s (target_after g.s g.new g.memory) g.here targets

        same-row : (q : Message) → g.l.message ≡ q → answers_for (inc_at w leader) x q ≡ false → g.memory.leader.undecided ≡ g.s.memory.leader.undecided → IsOn
        same-row q is none same = quietly (HearsFurther f.number) g leads inc q is none (ap (row_of undecided_attempt x) (sym same) ∙ its)

        -- a client asks
        asks : (a : AttemptId) → g.l.message ≡ message.Ask a → (g.new ≡ kept g.s) → (g.memory, g.did) ≡ ask_left far g.s.memory g.l.from a g.new → (has_target g.memory.leader.down m ≡ true → has_target g.s.memory.leader.down m ≡ true) → IsOn
        asks a is same left was = at (ask-rows a g.l.from (leader_at far g.s.memory g.s.durable) x v (ap (row_of undecided_attempt x) (sym rows) ∙ its))
          where
            rows : g.memory.leader.undecided ≡ (ask_heard a g.l.from (leader_at far g.s.memory g.s.durable)).leader.memory.undecided
            rows = ap (λ y. y.0.leader.undecided) left ∙ ap (λ n. (ask_heard a g.l.from (leader_at far g.s.memory n.durable)).leader.memory.undecided) same

            at : AskedRow (leader_at far g.s.memory g.s.durable) x v → IsOn
            at (WasThere old) = quietly (HearsFurther f.number) g leads inc (message.Ask a) is refl old
            at (WaitsNow e led none) = absurd (not-none g.t leads g.s (target_after g.s g.new g.memory) g.here targets e (led-member g.t leads g.s (target_after g.s g.new g.memory) g.here targets e led) none (was known))

        -- a question of its got no answer
        module _ (member : ℕ) (q : Message) (own : answers_for (inc_at w leader) x g.l.message ≡ true → asks_for (inc_at w leader) x q ≡ true) (sender : g.l.from ≡ target member) (same : g.new ≡ kept g.s) where
          abbrev l : LeaderOf
          l = leader_at far g.s.memory g.s.durable

          -- its entry is as it was
          its-led : (e : Entry) × (entry_led x l ≡ Some e)
          its-led =
              let open' = ((k.attempts_then.on.each x).rows.undecided leader v row).here in
              let own2 = (k.attempts_then.on.each x).entries.one leader open'.entry open'.found in
              let found : entry_of g.s.durable x ≡ Some open'.entry = ap (λ n. entry_of n.durable x) (sym same) ∙ sym (now-here w u g.t g.s (target_after g.s g.new g.memory) g.here targets (λ o. entry_in o x)) ∙ ap (λ n. entry_at u n x) (sym leads) ∙ open'.found in
              (open'.entry, found-led far g.s.memory g.s.durable x open'.entry (k.attempts.on.ordered g.t g.s g.here).entries found (own2.leader ∙ leads))

          rows : (down' : Bool) → (g.memory, g.did) ≡ reset_left far g.s.memory member down' q g.new → row_of undecided_attempt x (reset_heard member down' q l).leader.memory.undecided ≡ Some v
          rows down' left = ap (row_of undecided_attempt x) (sym (ap (λ y. y.0.leader.undecided) left ∙ ap (λ n. (reset_heard member down' q (leader_at far g.s.memory n.durable)).leader.memory.undecided) same)) ∙ its

          -- and the member is down
          for-good : (g.memory, g.did) ≡ reset_left far g.s.memory member true q g.new → IsOn
          for-good left = at (lost-down member l x its-led.0 its-led.1 v q (rows true left))
            where
              at : LostRow l (IsAskedFor q) x v → IsOn
              at (NobodyWaits none) = let no : ⊥ = cc (none, client) in absurd no
              at (StaysThere old other') = goes-on (HearsFurther f.number) g leads inc (was-same g.s.memory.leader.undecided x v old) (λ from answers. absurd (other' (asked-is (inc_at w leader) x q (own answers))))

          -- or it only stopped, and is asked again
          again : (g.memory, g.did) ≡ reset_left far g.s.memory member false q g.new → IsOn
          again left = goes-on (HearsFurther f.number) g leads inc (was-same g.s.memory.leader.undecided x v (lost-up member l x its-led.0 its-led.1 v q (rows false left))) asked
            where
              asked : is_target m g.l.from ≡ true → answers_for (inc_at w leader) x g.l.message ≡ true → IsOn
              asked from answers =
                  let now : (inc_at w leader == l.incarnation) ≡ true = ap (λ n. inc_at w leader == n) (sym (inc-was g.t leads g.s (target_after g.s g.new g.memory) g.here targets)) ∙ same_number (inc_at w leader) in
                  let post = asked-again member x (inc_at w leader) q l (own answers) now in
                  let member_is : member ≡ m = ap (λ y. y.number) (sym sender ∙ target-is m g.l.from from) in
                  let all : g.did.posts ≡ (reset_leads far g.s.memory member false q (kept g.s)).posts ++ (reset_joins far g.s.memory false q).freed.posts = ap (λ y. y.1.posts) left ∙ ap (λ n. (reset_left far g.s.memory member false q n).1.posts) same in
                  let i : Has post.0 g.did.posts = subst (Has post.0) (sym all) (has-left (reset_leads far g.s.memory member false q (kept g.s)).posts (reset_joins far g.s.memory false q).freed.posts post.0 post.1) in
                  let to : is_target m post.0.to ≡ true = ap (is_target m) (post.2 ∙ ap target member_is) ∙ own-target m in
                  let some : 1 ≤ talking r (inc_at w leader) u x m = count-some (is_talk r (inc_at w leader) x m) u.messages (letter_of (target g.t) post.0) ((heard-moves r w u g).posted post.0 i) (from-way r (inc_at w leader) x m (letter_of (target g.t) post.0) (Asks to post.3)) in
                  subst (λ n. 1 ≤ talking r n u x m) (sym inc) some

          lost : (down' : Bool) → (g.memory, g.did) ≡ reset_left far g.s.memory member down' q g.new → IsOn
          lost true left = for-good left
          lost false left = again left

        further-by : (q : Message) → g.l.message ≡ q → is_of_attempts q ≡ true → HearsFurther f.number far g.s.opening g.s.memory g.reading g.l.from q (kept g.s) g.new (g.memory, g.did) → IsOn
        further-by (message.Commit y ep first tracker ws) is ours2 turn =
            same-row (message.Commit y ep first tracker ws) is refl (ap (λ n. n.undecided) (commit-knows far g.s.memory g.reading y ep first tracker ws g.l.from turn.last g.new (g.memory, g.did) turn.ends).0)
        further-by (message.Ask a) is ours2 turn =
            asks a is (looks-same (ask_left far g.s.memory g.l.from a) (kept g.s) g.new (g.memory, g.did) turn) (ends-as (ask_left far g.s.memory g.l.from a) turn.last g.new (g.memory, g.did) turn.ends)
            (λ now. elim ((more-down f.number far g.s.opening g.s.memory g.reading g.l.from (message.Ask a) (kept g.s) g.new (g.memory, g.did) refl turn).only m now) [ inl was ↦ was | inr none ↦ absurd none ])
        further-by (message.Status y i) is ours2 turn = same-row (message.Status y i) is refl (ap (λ n. n.0.leader.undecided) (ends-as (status_left g.s.memory g.l.from y i) turn.last g.new (g.memory, g.did) turn.ends))
        further-by (message.StatusIs y i how) is ours2 turn =
            acked (HearsFurther f.number) g leads inc y i (status_refusal y how) (λ answers. ap (answers_for (inc_at w leader) x) (sym is) ∙ answers)
            (ap (row_of undecided_attempt x) (sym (ack-follows far g.s.memory g.l.from.number y i (status_refusal y how) (kept g.s) g.new (g.memory, g.did) turn)) ∙ its)
        further-by (message.Reset' member down' place (more_of-Message q rest)) is ours2 turn =
            lost member q (λ answers. ap (answers_for (inc_at w leader) x) (sym is) ∙ answers) (subst (IsSentRightly g.l.from) is (k.senders g.l (has-taken w.messages g.l g.rest g.takes)))
            (looks-same (reset_by far g.s.memory member down' q) (kept g.s) g.new (g.memory, g.did) turn) down'
            (ends-as (reset_by far g.s.memory member down' q) turn.last g.new (g.memory, g.did) turn.ends ∙ reset-plain far g.s.memory member down' q g.new (no-collections q ours2))
        further-by (message.Snap y cont called tracker) is ours2 turn = let no : ⊥ = cc in absurd no
        further-by (message.Freeze y cont e) is ours2 turn = let no : ⊥ = cc in absurd no
        further-by (message.Held y refusal) is ours2 turn = let no : ⊥ = cc in absurd no
        further-by (message.Prune y cont tracker e) is ours2 turn = let no : ⊥ = cc in absurd no
        further-by q is ours2 turn = absurd turn

        further-heard : IsOn
        further-heard = further-by g.l.message refl ours g.turn

      -- ---- all that happens

      -- another target hears a letter
      heard-apart : (Turn : Hearing) (g : TargetHearsBy Turn r w u) → (leader ≡ g.t → ⊥) → IsOn
      heard-apart Turn g apart = untouched (same-there w u g.t g.s (target_after g.s g.new g.memory) (Some g.l) g.did.posts (heard-moves r w u g) leader apart) (λ l i to. elim ((heard-moves r w u g).stays l i) [
        | inl same ↦ absurd (apart (let one : g.l ≡ l = cc in ap (λ y. y.number) (sym (target-is leader l.to to) ∙ ap (λ n. n.to) (sym one) ∙ g.to_it)))
        | inr j ↦ j
      ])

      inc-kept : Event r w u → inc_at u leader ≡ inc_at w leader
      inc-kept e = let p = events-keep-targets r w u e leader row-there.0 row-there.1 in ap inc_in row-there.1 ∙ p.2.keeps.incarnation ∙ sym (ap inc_in p.1)

      plainly : (e : Event r w u) → NoneDown r e → IsOn
      plainly (ByClient g) up = untouched (ap (λ ts. slice_get ts leader) (goes-moves r w u g).targets) (λ l i to. (goes-moves r w u g).stays l leader i (target-is leader l.to to))
      plainly (ToClient g) up = untouched (ap (λ ts. slice_get ts leader) (hears-moves r w u g).targets) (λ l i to. (hears-moves r w u g).stays l leader i (target-is leader l.to to))
      plainly (ToTarget g) up = elim (one-or_another leader g.t) [
        | inl leads ↦ plain-heard (rightly r w u g (letters-tell r h w k.attempts g.l g.t g.s (has-taken w.messages g.l g.rest g.takes) g.to_it g.here)) up leads (inc-kept (ToTarget g))
        | inr apart ↦ heard-apart _ g apart
      ]
      plainly (ByTarget g) up = elim (one-or_another leader g.t) [
        | inl leads ↦ idled g leads (inc-kept (ByTarget g))
        | inr apart ↦
            untouched (same-there w u g.t g.s (target_after g.s g.new g.memory) None g.did.posts (idle-moves r w u g) leader apart)
            (λ l i to. all-stay w u g.t g.s (target_after g.s g.new g.memory) g.did.posts (idle-moves r w u g) l i)
      ]

      -- another target stops or is given up, by which what goes to it is lost
      lost-apart : (t : ℕ) (s z : TargetState) (more : List Letter) → slice_get w.targets t ≡ Some s → u.targets ≡ set w.targets t z → u.messages ≡ filter (is_not_to t) w.messages ++ more → (leader ≡ t → ⊥) → IsOn
      lost-apart t s z more here targets messages apart = untouched (now-there w u t s z here targets (λ o. o) leader apart)
          (λ l i to. subst (Has l) (sym messages) (has-left (filter (is_not_to t) w.messages) more l (has-filter (is_not_to t) w.messages l i (not-to t leader l.to apart (target-is leader l.to to)))))

      happens-on : (e : Happening r w u) → HappensWithoutSnapshots e → IsOn
      happens-on (Plainly e up) ours = plainly e up
      happens-on (Further f) ours = elim (one-or_another leader f.hears.t) [ inl leads ↦ further-heard f ours leads | inr apart ↦ heard-apart (HearsFurther f.number) f.hears apart ]
      happens-on (IsCut g) ours =
          let z = stopped_at g.s g.cut.left in
          let targets : u.targets ≡ set w.targets g.t z = ap (λ y. y.targets) g.after in
          elim (one-or_another leader g.t) [
            | inl leads ↦ not-off g.t leads g.s z g.here targets (λ runs. let no : ⊥ = cc in no)
            | inr apart ↦ lost-apart g.t g.s z _ g.here targets (ap (λ y. y.messages) g.after) apart
          ]
      happens-on (Opens g) ours =
          let z = opened_at r g.t g.number g.s g.free in
          let targets : u.targets ≡ set w.targets g.t z = ap (λ y. y.targets) g.after in
          elim (one-or_another leader g.t) [
            | inl leads ↦ clash (has_target z.memory.leader.down m) (its-down g.t leads g.s z g.here targets) (ap (λ d. has_target d m) (opening-down r g.t g.s.durable) ∙ has-none m)
            | inr apart ↦ untouched (now-there w u g.t g.s z g.here targets (λ o. o) leader apart) (λ l i to. subst (λ y. Has l y.messages) (sym g.after) (has-left w.messages _ l i))
          ]
      happens-on (Fails g) ours =
          let z : TargetState = record g.s { durable = g.k.durable; free = g.k.free } in
          let targets : u.targets ≡ set w.targets g.t z = ap (λ y. y.targets) g.after in
          elim (one-or_another leader g.t) [
            | inl leads ↦ not-off g.t leads g.s z g.here targets (λ runs. let stopped : Stopped ≡ Running = sym g.stopped ∙ runs in let no : ⊥ = cc in no)
            | inr apart ↦ untouched (now-there w u g.t g.s z g.here targets (λ o. o) leader apart) (λ l i to. subst (λ y. Has l y.messages) (sym g.after) i)
          ]
      happens-on (GivenUp g) ours =
          let z : TargetState = record g.s { life = Down } in
          let targets : u.targets ≡ set w.targets g.t z = ap (λ y. y.targets) g.after in
          elim (one-or_another leader g.t) [
            | inl leads ↦ not-off g.t leads g.s z g.here targets (λ runs. let no : ⊥ = cc in no)
            | inr apart ↦ lost-apart g.t g.s z _ g.here targets (ap (λ y. y.messages) g.after) apart
          ]
      happens-on (Draws g) ours = untouched (ap (λ y. slice_get y.targets leader) g.after) (λ l i to. subst (λ y. Has l y.messages) (sym g.after) i)

  -- so it is of every row
  asked-then : (e : Happening r w u) → HappensWithoutSnapshots e → WaitersAreAsked r u
  asked-then e ours x m v c other row client off = by ((k.attempts_then.on.each x).awaited.once m v other row)
    where
      by : IsOneUnless (knows_down u (leader_of r x) m) (talking r (inc_at u (leader_of r x)) u x m + one_if (has_target v.counted m)) → 1 ≤ talking r (inc_at u (leader_of r x)) u x m
      by (inl one) = let none : one_if (has_target v.counted m) ≡ 0 = ap one_if off in omega (arith, one, none)
      by (inr down) = happens-on x m other v c row client off down.1 e ours

-- ---- events

-- and what goes to targets that are given up is lost
pub events-ask : (r : Rules) (h later : History) (w v : World) (e : WorldEvent r w v) → HappensWithoutSnapshots e.happens → AreAsking r h later w e.u → WaitersAreAsked r v
events-ask r h later w v e ours k = subst (WaitersAreAsked r) (sym e.after) (sweeping-asked r later e.u k.attempts_then (asked-then r h later w e.u k e.happens ours))
