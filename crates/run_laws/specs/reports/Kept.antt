-- What is left where a run has ended in which targets may stop.
use Rattle.world_closing.specs.Below.{AccountedFor, AreAll, AreRulesInForm, IsOver, RunBeginsWell, RunBeginsWith, begins-well, leader-there, other-there, runs-are_accounted, stored_over, told-down}
use Rattle.std.specs.Prelude.{ℕ, ◌≡◌, ◌<◌, ◌==◌, ◌&&◌, Bool, true, false, not, filter, is_none, List, [], ◌∷◌, Contains, length, slice_get, Option, Some, None, refl, ◌≤◌}
use Rattle.std.specs.List.{list_any}
use Rattle.std.proofs.Common.{inl, inr, sym, ◌∙◌, ap, subst, arith}
use Rattle.std.proofs.lemmas.Bool.Decides.{nat_tests}
use Rattle.std.proofs.lemmas.Option.{slice_get_within}
use Rattle.base_types.specs.declared.entry.Entry.{Entry}
use Rattle.base_types.specs.declared.epoch.Epoch.{Epoch}
use Rattle.base_types.specs.declared.id.AttemptId.{AttemptId}
use Rattle.base_types.specs.declared.report.Line.{Line}
use Rattle.base_types.specs.declared.report.Line.TheVariants as line
use Rattle.base_messages.specs.declared.message.Message.TheVariants as message
use Rattle.model_laws.specs.EntryLaws.{found-has, found-passes}
use Rattle.model_laws.specs.JoinLaws.{has-range}
use Rattle.model_laws.specs.Lists.{at-within}
use Rattle.model_laws.specs.Members.{Has, any-has, has-filter, has-from_contains, has-from_filter, has-from_map}
use Rattle.model_laws.specs.TargetLaws.{number_same}
use Rattle.daos_model.specs.BoolLaws.{both, clash}
use Rattle.daos_model.specs.Durables.{entry_of, is_entry_of}
use Rattle.daos_model.specs.Opening.{Given, Opening}
use Rattle.daos_model.specs.Stops as lived
use Rattle.daos_model.specs.Stops.{Standing, after, after_all, is_at, lines_at}
use Rattle.dtx_base.specs.declared.leading.Naming.{Naming}
use Rattle.dtx_base.specs.declared.leading.Undecided.{Undecided}
use Rattle.dtx_base.specs.declared.member.Inquiry.{Inquiry}
use Rattle.dtx_base.specs.declared.member.QueryState.{QueryState}
use Rattle.dtx_base.specs.declared.member.QueryState.TheVariants as state
use Rattle.dtx_base.specs.Joining.{inquiry_attempt, is_to_inquire}
use Rattle.dtx_base.specs.LeaderLaws.{same-is}
use Rattle.dtx_base.specs.Leading.{attempts_of, entry_attempt, is_batch_due, is_due_to, is_led, is_named, is_owed, marked_attempt, undecided_attempt}
use Rattle.dtx_base.specs.Members.{all_targets, has_target, is_other_member, other_members}
use Rattle.dtx_base.specs.Rows.{is_among, is_row_of, row_of}
use Rattle.world_commit.specs.asks.Asks.{ByLeader, ByMark, IsMark, IsMarked, IsQuery, IsQueryOf, IsVerdict, NoneHere}
use Rattle.world_commit.specs.attempts.Attempts.{Entries, IsHeld, IsItsEntry, IsOther, entry_at, entry_in, first_entry, is_known_at, is_known_in, leader_of, row_at, row_in, IsMember}
use Rattle.world_commit.specs.attempts.History.{Aborted, Decided, History}
use Rattle.world_commit.specs.attempts.MemberBits.{is-other_same, other-from_test, other-no_leader}
use Rattle.world_commit.specs.attempts.Stored.{row-found}
use Rattle.world_base.specs.declared.letter.Letter.{Letter}
use Rattle.world_base.specs.declared.target.Life.TheVariants.{Down, Running}
use Rattle.world_base.specs.declared.target.TargetState.{TargetState}
use Rattle.world_base.specs.declared.world.World.{World}
use Rattle.world_base.specs.Ended.{HasEnded}
use Rattle.world_base.specs.Events.{Rules}
use Rattle.world_base.specs.Letters.{target}
use Rattle.world_base.specs.Stops.{WorldRun}
use Rattle.world_closing.specs.world_causes.causes.Causes.{Stored}
use Rattle.world_commit.specs.fates.Facts.{IsSaidSo, down_in}
use Rattle.world_letters.specs.lives.Lives.{standing_of}
use Rattle.world_commit.specs.questions.Facts.{IsAsked, IsNamed, IsOnNaming, IsOnQuery, IsTold, IsToldOrStopped, LeaderStopped}
use Rattle.world_commit.specs.questions.Facts as fact
use Rattle.world_closing.specs.asked.Runs.{ended-all_over, runs-have_all, still-all_over}
use Rattle.world_closing.specs.Rules.{rules_of}
use Rattle.run_laws.specs.reports.Legal as legal
use Rattle.run_laws.specs.reports.Middle.{HasMiddle, middle-settled, middle-still, orders-have-middle}
use Rattle.run_laws.specs.reports.Reports.{GoesInOrder, IsSettledOrLeft, LacksMember, LeavesInTheEnd, OrdersLeaveInTheEnd}
use Rattle.run_laws.specs.reports.Settling.{IsKnown, Settles, runs-settle}

-- ---- lists

pub empty-of : {T : Type 0} (xs : List T) → ((x : T) → Has x xs → ⊥) → xs ≡ []
empty-of [] none = refl
empty-of (x ∷ xs) none = absurd (none x (inl refl))

none-passes : {T : Type 0} (p : T → Bool) (xs : List T) (x : T) → list_any p xs ≡ false → Has x xs → p x ≡ false
none-passes p xs x none i = by (p x) refl
  where
    by : (b : Bool) → p x ≡ b → b ≡ false
    by true is = clash (list_any p xs) (any-has p xs x i is) none
    by false is = refl

-- ---- what tests say

-- what an entry names, and isn't its leader, is another member
is-other : (m : ℕ) (e : Entry) → has_target e.members m ≡ true → (m == e.leader) ≡ false → is_other_member e m ≡ true
unfolding is_other_member
is-other m e named off = both (has_target e.members m) (not (m == e.leader)) named (ap not off)

-- a member that isn't known to be down is to be told of a commit that it hasn't confirmed, where no Mark names it
is-owed : (m : ℕ) (named : List Naming) (e : Entry) → e.committed ≡ true → is_other_member e m ≡ true → has_target e.confirmed m ≡ false → named ≡ [] → is_owed m named e ≡ true
unfolding is_owed is_named
is-owed m named e committed other unconfirmed none =
    both (e.committed && is_other_member e m && not (has_target e.confirmed m)) (not (is_named m e.attempt named))
    (both (e.committed && is_other_member e m) (not (has_target e.confirmed m)) (both e.committed (is_other_member e m) committed other) (ap not unconfirmed)) (ap (λ ns. not (is_named m e.attempt ns)) none)

asked-row : (me : ℕ) (qs : List Inquiry) (e : Entry) → is_to_inquire me qs e ≡ false → e.committed ≡ false → (e.leader == me) ≡ false → (q : Inquiry) × (row_of inquiry_attempt e.attempt qs ≡ Some q)
unfolding is_to_inquire
asked-row me qs e off open' led = by (row_of inquiry_attempt e.attempt qs) refl
  where
    by : (o : Option Inquiry) → row_of inquiry_attempt e.attempt qs ≡ o → (q : Inquiry) × (o ≡ Some q)
    by None is = let some : is_none (row_of inquiry_attempt e.attempt qs) ≡ true = ap is_none is in let no : ⊥ = cc (some, off, open', led) in absurd no
    by (Some q) is = (q, refl)

-- what Marks name, one of them tells of
attempt-marked : (marks : List (AttemptId × Bool)) (a : AttemptId) → Has a (attempts_of marks) → (committed : Bool) × Has (a, committed) marks
attempt-marked marks a i = let y = has-from_map marked_attempt marks a i in (y.0.1, subst (λ z. Has (z, y.0.1) marks) y.2 y.1)

-- a target whose lines end where it is given up has the line that tells so
next-down : (x : Standing) (l : Line) (y : Standing) → after x l ≡ Some y → y ≡ lived.Down → (u : ℕ) × (l ≡ line.Down u)
next-down lived.Stopped (line.Down u) y e down = (u, refl)
next-down lived.Stopped (line.Stop n u) y e down = let no : ⊥ = cc in absurd no
next-down lived.Stopped (line.Restart n u incarnation floor) y e down = let no : ⊥ = cc in absurd no
next-down lived.Running (line.Stop n u) y e down = let no : ⊥ = cc in absurd no
next-down lived.Running (line.Freeze u cont epoch) y e down = let no : ⊥ = cc in absurd no
next-down lived.Running (line.Aggregate n u cont upto) y e down = let no : ⊥ = cc in absurd no
next-down x l y e down = let no : ⊥ = cc in absurd no

ends-down : (x : Standing) (ls : List Line) → (x ≡ lived.Down → ⊥) → after_all (Some x) ls ≡ Some lived.Down → (u : ℕ) × Has (line.Down u) ls
ends-down x [] up e = let down : x ≡ lived.Down = cc in absurd (up down)
ends-down x (l ∷ ls) up e = on (λ y still k. ends-down y ls still k) (after x l) refl e
  where
    on : ((y : Standing) → (y ≡ lived.Down → ⊥) → after_all (Some y) ls ≡ Some lived.Down → (u : ℕ) × Has (line.Down u) ls) → (o : Option Standing) → after x l ≡ o → after_all o ls ≡ Some lived.Down → (u : ℕ) × Has (line.Down u) (l ∷ ls)
    on rest None at ends = let no : ⊥ = cc in absurd no
    on rest (Some lived.Down) at ends = let z = next-down x l lived.Down at refl in (z.0, inl (sym z.1))
    on rest (Some lived.Running) at ends = let z = rest lived.Running (λ same. let no : ⊥ = cc (same) in no) ends in (z.0, inr z.1)
    on rest (Some lived.Stopped) at ends = let z = rest lived.Stopped (λ same. let no : ⊥ = cc (same) in no) ends in (z.0, inr z.1)

-- ---- the world

-- of each target that runs no decided attempt is left to settle
abbrev NoneIsUnsettled : World → Type 0
NoneIsUnsettled v = (t : ℕ) (s : TargetState) → slice_get v.targets t ≡ Some s → s.life ≡ Running → s.memory.leader.decided ≡ []

module _ (r : Rules) (o : Opening) (h : History) (stored : Stored) (v : World) (A : AreRulesInForm r) (k : AccountedFor r o h stored v) (settled : NoneIsUnsettled v) (over : IsOver r v) (many : length v.targets ≡ r.script.targets) where
  within : (t : ℕ) (s : TargetState) → slice_get v.targets t ≡ Some s → t < r.script.targets
  within t s here = let low : t < length v.targets = slice_get_within v.targets t s here in omega (arith, low, many)

  -- nothing is in flight to a target that is there
  none-to : (l : Letter) (t : ℕ) → Has l v.messages → t < r.script.targets → l.to ≡ target t → ⊥
  none-to l t i low to = (over.silent l i).target t low to

  none-to_leader : (l : Letter) (x : AttemptId) → Has l v.messages → l.to ≡ target (leader_of r x) → ⊥
  none-to_leader l x i to = none-to l (leader_of r x) i (leader-there r x A.some_target) to

  said : (l : Letter) → Has l v.messages → IsSaidSo r h v l.from l.to l.message
  said l i = k.grounds.heard.attempts.on.letters l i

  -- so no question is on its way
  none-asked : (t : ℕ) (s : TargetState) (x : AttemptId) (ask : Option AttemptId) → slice_get v.targets t ≡ Some s → IsOnQuery v t x ask → ⊥
  none-asked t s x ask here (IsAsked f) = by f.2
    where
      by : IsQueryOf t x ask f.0 → ⊥
      by (IsQuery leader says from to) =
          let so : IsSaidSo r h v f.0.from f.0.to (message.Query x ask) = subst (IsSaidSo r h v f.0.from f.0.to) says (said f.0 f.1) in
          none-to_leader f.0 x f.1 so.way.receiver
      by (IsVerdict inc verdict says to) = none-to f.0 t f.1 (within t s here) to
  none-asked t s x ask here (fact.IsReset f) = none-to f.0 t f.1 (within t s here) f.2.to

  module _ (t : ℕ) (s : TargetState) (here : slice_get v.targets t ≡ Some s) where
    found : (e : Entry) → Has e s.durable.entries → entry_at v t e.attempt ≡ Some e
    unfolding entry_of
    found e i = ap (λ z. entry_in z e.attempt) here ∙ row-found entry_attempt s.durable.entries e (k.grounds.heard.attempts.on.ordered t s here).entries i

    its : (e : Entry) → Has e s.durable.entries → IsItsEntry r v e.attempt t e
    its e i = (k.grounds.heard.attempts.on.each e.attempt).entries.one t e (found e i)

    -- a target that is given up has its line
    gone : s.life ≡ Down → Has (line.Down t) v.lines
    gone down =
        let u = ends-down lived.Running (lines_at t v.lines) (λ e. let no : ⊥ = cc (e) in no) ((k.grounds.lives.told t s here).stands ∙ ap (λ l. Some (standing_of l)) down) in
        let z = has-from_filter (is_at t) v.lines (line.Down u.0) u.1 in
        subst (λ n. Has (line.Down n) v.lines) (number_same u.0 t z.1) z.0

    -- ---- what it leads

    -- it named no attempt to a member of which it awaits the answer
    none-named : s.memory.leader.named ≡ []
    none-named = empty-of s.memory.leader.named (λ n i. on n (k.grounds.heard.questions.named t s n here i))
      where
        on : (n : Naming) → IsOnNaming v t n → ⊥
        on n (fact.IsReset f) = none-to f.0 t f.1 (within t s here) f.2.to
        on n (IsNamed (l, i, IsMarked ids is from to names)) = none-to l t i (within t s here) to
        on n (IsNamed (l, i, IsMark marks is from to names)) =
            let so : IsSaidSo r h v l.from l.to (message.Mark n.inc marks) = subst (IsSaidSo r h v l.from l.to) is (said l i) in
            let one = attempt-marked marks n.attempt names in
            let way = (so n.attempt one.0 one.1).way in
            none-to l way.member i (other-there r n.attempt way.member A.some_target way.other) way.receiver

  -- what a leader that runs hasn't committed lacks a member
  module _ (x : AttemptId) (s : TargetState) (here : slice_get v.targets (leader_of r x) ≡ Some s) (runs : s.life ≡ Running) where
    not-known : is_known_at v (leader_of r x) x ≡ true → ⊥
    not-known known =
        let some : is_known_in (Some s) x ≡ true = ap (λ z. is_known_in z x) (sym here) ∙ known in
        let empty : is_among x [] ≡ true = ap (is_among x) (sym (settled (leader_of r x) s here runs)) ∙ some in
        (let no : ⊥ = cc in no)

    row-lacks : (u : Undecided) → row_at v (leader_of r x) x ≡ Some u → LacksMember r v x
    row-lacks u at =
        let row : row_of undecided_attempt x s.memory.leader.undecided ≡ Some u = sym (ap (λ z. row_in z x) here) ∙ at in
        let among = found-has (is_row_of undecided_attempt x) s.memory.leader.undecided u row in
        let same = same-is u.attempt x (found-passes (is_row_of undecided_attempt x) s.memory.leader.undecided u row) in
        let z = (over.rest (leader_of r x) s here runs).lacks u among in
        record { member = z.0; its = inr (subst (λ y. IsOther r y z.0) same z.1); down = z.2 }

    led-open : (e : Entry) → entry_at v (leader_of r x) x ≡ Some e → e.committed ≡ false → LacksMember r v x
    led-open e at open' = elim ((k.grounds.heard.attempts.on.each x).rows.either e running at open') [
      | inl known ↦ absurd (not-known known)
      | inr row ↦ row-lacks row.0 row.1
    ]
      where
        running : (z : TargetState) → slice_get v.targets (leader_of r x) ≡ Some z → z.life ≡ Running
        running z at' = let same : s ≡ z = (let one : Some s ≡ Some z = sym here ∙ at' in cc) in subst (λ y. y.life ≡ Running) same runs

  -- so it is known of whatever a leader keeps an entry of
  pub held-known : (x : AttemptId) → IsHeld v (leader_of r x) x → IsKnown r h v x
  held-known x k2 = by k2.entry.committed refl
    where
      open-lacks : k2.entry.committed ≡ false → LacksMember r v x
      open-lacks open' =
          let s = at-within v.targets (leader_of r x) (let low : leader_of r x < r.script.targets = leader-there r x A.some_target in omega (arith, low, many)) in
          elim (over.targets (leader_of r x) s.0 s.1) [
            | inl runs ↦ led-open x s.0 s.1 runs k2.entry k2.found open'
            | inr down ↦ record { member = leader_of r x; its = inl refl; down = gone (leader_of r x) s.0 s.1 down }
          ]

      by : (b : Bool) → k2.entry.committed ≡ b → IsKnown r h v x
      by true is = inr (k2.entry.epoch, (k.grounds.heard.attempts.on.each x).entries.committed (leader_of r x) k2.entry k2.found is)
      by false is = inl (open-lacks is)

  -- ---- where the run has ended, and it is known of what a member was told isn't decided

  module _ (ended : HasEnded r v) (known : (m : ℕ) (s : TargetState) (q : Inquiry) → slice_get v.targets m ≡ Some s → Has q s.memory.member.inquiries → q.state ≡ state.Undecided → IsKnown r h v q.attempt) where
    -- what it has committed each other member that runs has confirmed
    module _ (x : AttemptId) (s : TargetState) (here : slice_get v.targets (leader_of r x) ≡ Some s) (runs : s.life ≡ Running) (t : ℕ) (z : TargetState) (there : slice_get v.targets t ≡ Some z) (up : z.life ≡ Running) (other : IsOther r x t) where
      unknown-down : has_target s.memory.leader.down t ≡ true → ⊥
      unknown-down known =
          let line = k.knows (leader_of r x) t s here known in
          let down : z.life ≡ Down = told-down v k.grounds.lives t z there line in
          let bad : Running ≡ Down = sym up ∙ down in
          let no : ⊥ = cc in no

      told-all : (e : Entry) → entry_at v (leader_of r x) x ≡ Some e → e.committed ≡ true → has_target e.confirmed t ≡ false → ⊥
      unfolding is_batch_due other_members entry_of
      told-all e at committed unconfirmed = by (has_target s.memory.leader.down t) refl
        where
          kept : entry_of s.durable x ≡ Some e
          kept = sym (ap (λ y. entry_in y x) here) ∙ at

          among : Has e s.durable.entries
          among = found-has (is_entry_of x) s.durable.entries e kept

          one : IsItsEntry r v x (leader_of r x) e
          one = (k.grounds.heard.attempts.on.each x).entries.one (leader_of r x) e at

          led : is_led (leader_of r x) e ≡ true
          led = ap (λ n. n == leader_of r x) one.leader ∙ (let same : (leader_of r x == leader_of r x) ≡ true = grind (arith, nat_tests) in same)

          number : Has t all_targets
          number = (has-from_filter (is_other_member (first_entry r x (record { 0 = 0 }))) all_targets t other).0

          owed : list_any (is_owed t s.memory.leader.named) (filter (is_led (leader_of r x)) s.durable.entries) ≡ true
          owed =
              any-has (is_owed t s.memory.leader.named) (filter (is_led (leader_of r x)) s.durable.entries) e (has-filter (is_led (leader_of r x)) s.durable.entries e among led)
              (is-owed t s.memory.leader.named e committed (is-other_same r x e t one.leader one.members other) unconfirmed (none-named (leader_of r x) s here))

          due : is_due_to s.memory.leader.down s.memory.leader.named (filter (is_led (leader_of r x)) s.durable.entries) t ≡ false
          due = none-passes (is_due_to s.memory.leader.down s.memory.leader.named (filter (is_led (leader_of r x)) s.durable.entries)) all_targets t (ended.told (leader_of r x) s here runs) number

          by : (b : Bool) → has_target s.memory.leader.down t ≡ b → ⊥
          by true is = unknown-down is
          by false is =
              clash (is_due_to s.memory.leader.down s.memory.leader.named (filter (is_led (leader_of r x)) s.durable.entries) t)
              (ap (λ b. not b && list_any (is_owed t s.memory.leader.named) (filter (is_led (leader_of r x)) s.durable.entries)) is ∙ owed) due

    -- ---- what a target that runs hasn't committed

    not-both : (x : AttemptId) (f : Epoch) → Aborted h x → Decided h x f → ⊥
    not-both x f aborted decided =
        let none = (k.grounds.heard.attempts.on.each x).entries.aborted aborted in
        let held2 = ((k.grounds.heard.attempts.on.each x).entries.held_by_leader f decided).found in
        (let no : ⊥ = cc (none, held2) in no)

    module _ (t : ℕ) (s : TargetState) (here : slice_get v.targets t ≡ Some s) (runs : s.life ≡ Running) (e : Entry) (i : Has e s.durable.entries) (open' : e.committed ≡ false) where
      abbrev Left : Type 0
      Left = LacksMember r v e.attempt

      as-leader : t ≡ leader_of r e.attempt → Left
      as-leader leads =
          led-open e.attempt s (ap (slice_get v.targets) (sym leads) ∙ here) runs e (ap (λ n. entry_at v n e.attempt) (sym leads) ∙ found t s here e i) open'

      module _ (other : IsOther r e.attempt t) where
        -- where its leader runs, it has asked that
        module _ (z : TargetState) (there : slice_get v.targets (leader_of r e.attempt) ≡ Some z) (up : z.life ≡ Running) where
          told : (q : Inquiry) → q.attempt ≡ e.attempt → IsKnown r h v q.attempt → IsToldOrStopped r h v t q.attempt → Left
          told q same so (IsTold (NoneHere settled)) = clash e.committed (settled e (ap (entry_at v t) same ∙ found t s here e i)) open'
          told q same so (IsTold (ByMark f)) = absurd (none-to f.0 t f.1 (within t s here) f.2.to)
          told q same so (LeaderStopped aborted stop) = subst (LacksMember r v) same (elim so [ inl lacks ↦ lacks | inr d ↦ absurd (not-both q.attempt d.0 aborted d.1) ])
          told q same so (IsTold (ByLeader u)) = by u.entry.committed refl
            where
              at : entry_at v (leader_of r e.attempt) e.attempt ≡ Some u.entry
              at = subst (λ y. entry_at v (leader_of r y) y ≡ Some u.entry) same u.found

              by : (b : Bool) → u.entry.committed ≡ b → Left
              by true is = absurd (told-all e.attempt z there up t s here runs other u.entry at is u.unconfirmed)
              by false is = led-open e.attempt z there up u.entry at is

          led : (e.leader == t) ≡ false
          led = off (e.leader == t) refl
            where
              off : (b : Bool) → (e.leader == t) ≡ b → b ≡ false
              off true is = let same : e.leader ≡ t = grind (arith, nat_tests) in absurd (other-no_leader r e.attempt t other (sym same ∙ (its t s here e i).leader))
              off false is = refl

          asked : Left
          asked = by row.0.state refl
            where
              row : (q : Inquiry) × (row_of inquiry_attempt e.attempt s.memory.member.inquiries ≡ Some q)
              row = asked-row t s.memory.member.inquiries e (none-passes (is_to_inquire t s.memory.member.inquiries) s.durable.entries e (ended.inquired t s here runs) i) open' led

              among : Has row.0 s.memory.member.inquiries
              among = found-has (is_row_of inquiry_attempt e.attempt) s.memory.member.inquiries row.0 row.1

              same : row.0.attempt ≡ e.attempt
              same = same-is row.0.attempt e.attempt (found-passes (is_row_of inquiry_attempt e.attempt) s.memory.member.inquiries row.0 row.1)

              downs : (n : ℕ) → down_in (Some s) n ≡ true → Has (line.Down n) v.lines
              downs n is = k.knows t n s here is

              by : (c : QueryState) → row.0.state ≡ c → Left
              by state.Unanswered is = absurd (none-asked t s row.0.attempt None here ((k.grounds.heard.questions.inquiries.rows t s row.0 here among).unanswered is))
              by state.Undecided is = told row.0 same (known t s row.0 here among is) ((k.grounds.heard.questions.inquiries.rows t s row.0 here among).undecided is)
              by state.Down is =
                  let down = (k.grounds.heard.questions.inquiries.rows t s row.0 here among).down is in
                  record { member = leader_of r e.attempt; its = inl refl; down = downs (leader_of r e.attempt) (ap (λ y. down_in y (leader_of r e.attempt)) (sym here) ∙ ap (λ y. down_in (slice_get v.targets t) (leader_of r y)) (sym same) ∙ down) }

        as-other : Left
        as-other =
            let z = at-within v.targets (leader_of r e.attempt) (let low : leader_of r e.attempt < r.script.targets = leader-there r e.attempt A.some_target in omega (arith, low, many)) in
            elim (over.targets (leader_of r e.attempt) z.0 z.1) [
              | inl up ↦ asked z.0 z.1 up
              | inr down ↦ record { member = leader_of r e.attempt; its = inl refl; down = gone (leader_of r e.attempt) z.0 z.1 down }
            ]

      left : Left
      left = elim (its t s here e i).place [ inl leads ↦ as-leader leads | inr other ↦ as-other other ]

    -- ---- what a leader has committed

    -- each other member that runs has confirmed
    all-confirm : (t m : ℕ) (s z : TargetState) (e : Entry) → slice_get v.targets t ≡ Some s → s.life ≡ Running → Contains s.durable.entries e → e.committed ≡ true → e.leader ≡ t → IsOther r e.attempt m → slice_get v.targets m ≡ Some z → z.life ≡ Running
        → has_target e.confirmed m ≡ true
    all-confirm t m s z e here runs i committed leads other there up = by (has_target e.confirmed m) refl
      where
        among : Has e s.durable.entries
        among = has-from_contains s.durable.entries e i

        same : t ≡ leader_of r e.attempt
        same = sym leads ∙ (its t s here e among).leader

        by : (b : Bool) → has_target e.confirmed m ≡ b → b ≡ true
        by true is = refl
        by false is = absurd (told-all e.attempt s (ap (slice_get v.targets) (sym same) ∙ here) runs m z there up other e (ap (λ n. entry_at v n e.attempt) (sym same) ∙ found t s here e among) committed is)

    -- ---- all

    settled-or_left : (t : ℕ) (s : TargetState) (e : Entry) → slice_get v.targets t ≡ Some s → s.life ≡ Running → Contains s.durable.entries e → IsSettledOrLeft r v e
    settled-or_left t s e here runs i = by e.committed refl
      where
        by : (b : Bool) → e.committed ≡ b → IsSettledOrLeft r v e
        by true is = inl is
        by false is = inr (left t s here runs e (has-from_contains s.durable.entries e i) is)

    held-by : (t : ℕ) (s : TargetState) (e : Entry) → slice_get v.targets t ≡ Some s → Contains s.durable.entries e → e.committed ≡ true → (m : ℕ) → IsMember r e.attempt m → IsHeld v m e.attempt
    held-by t s e here i committed m member = by member
      where
        f : Entries r h v e.attempt
        f = (k.grounds.heard.attempts.on.each e.attempt).entries

        decided : Decided h e.attempt e.epoch
        decided = f.committed t e (found t s here e (has-from_contains s.durable.entries e i)) committed

        by : IsMember r e.attempt m → IsHeld v m e.attempt
        by (inl leads) = let z = f.held_by_leader e.epoch decided in record { entry = z.entry; found = ap (λ n. entry_at v n e.attempt) leads ∙ z.found }
        by (inr other) = let z = f.held_by_others e.epoch m decided other in record { entry = z.entry; found = z.found }

    -- a target that an entry names is a member
    named-member : (t m : ℕ) (s z : TargetState) (e : Entry) → slice_get v.targets t ≡ Some s → Contains s.durable.entries e → slice_get v.targets m ≡ Some z → has_target e.members m ≡ true → IsMember r e.attempt m
    named-member t m s z e here i there named = by (m == e.leader) refl
      where
        one : IsItsEntry r v e.attempt t e
        one = its t s here e (has-from_contains s.durable.entries e i)

        by : (b : Bool) → (m == e.leader) ≡ b → IsMember r e.attempt m
        by true is = let same : m ≡ e.leader = grind (arith, nat_tests) in inl (same ∙ one.leader)
        by false is = inr (other-from_test r e.attempt e m one.leader one.members among (is-other m e named is))
          where
            among : Has m all_targets
            among = let low : m < r.script.targets = within m z there in let few : r.script.targets ≤ 64 = A.few_targets in has-range 0 64 m (omega arith) (omega (arith, low, few))

    pub leaves : LeavesInTheEnd r v
    leaves = record { targets = over.targets; entries = settled-or_left; held = held-by; confirmed = all-confirm; named = named-member }

-- ---- the run

module _ (g : Given) (w v : World) (k : GoesInOrder g w v) where
  abbrev r : Rules
  r = rules_of g

  form : AreRulesInForm r
  form = k.begins.form

  begins : RunBeginsWith r g.opening w
  begins = k.begins.begins

  well : RunBeginsWell r g.opening w
  well = begins-well r g.opening w begins

  run : WorldRun r w v
  run = legal.events g w v k

  -- where it begins to settle
  mid : HasMiddle r g.opening w form begins v
  mid = orders-have-middle r g.opening w form begins g.job.order v k.run

  there : AreAll r mid.middle
  there = runs-have_all r g.opening w mid.middle well mid.run

  mid-over : IsOver r mid.middle
  mid-over = (still-all_over r g.opening w mid.middle form well mid.run (middle-still r mid.middle there.clients mid.quiet)).over

  so-far : (h : History) × AccountedFor r g.opening h (stored_over r mid.run) mid.middle
  so-far = runs-are_accounted r g.opening w mid.middle form well mid.run

  settles : Settles r g.opening (stored_over r mid.run) so-far.0 mid.middle
  settles = record {
    accounted = so-far.1;
    done = mid-over.done;
    fate = held-known r g.opening so-far.0 (stored_over r mid.run) mid.middle form so-far.1 (middle-settled r mid.middle there.clients mid.quiet) mid-over there.targets;
    rows = λ m s q here i undecided. absurd (mid.none.rows m s q here i);
    letters = λ m x f. absurd (mid.none.letters m x f.0 f.1 (IsVerdict f.2.inc _ f.2.says f.2.to));
  }

  -- where it has ended
  ended : HasEnded r v
  ended = legal.ended g w v k

  pub end-over : IsOver r v
  end-over = (ended-all_over r g.opening w v form well run ended).over

  pub all-there : length v.targets ≡ r.script.targets
  all-there = (runs-have_all r g.opening w v well run).targets

  left-so : LeavesInTheEnd r v
  left-so =
      let z = runs-settle r g.opening (stored_over r mid.run) so-far.0 mid.middle v form settles mid.rest in
      leaves r g.opening z.h z.stored v form z.so.accounted ended.settled end-over all-there ended z.so.rows

  -- each target that was given up has its line
  pub downs-have_lines : (t : ℕ) (s : TargetState) → slice_get v.targets t ≡ Some s → s.life ≡ Down → Has (line.Down t) v.lines
  downs-have_lines t s here down =
      let a = runs-are_accounted r g.opening w v form well run in
      gone r g.opening a.0 (stored_over r run) v form a.1 ended.settled end-over all-there t s here down

pub orders-leave : OrdersLeaveInTheEnd
orders-leave g w v k = left-so g w v k
