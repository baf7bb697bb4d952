-- A leader that waits for an attempt's end waits for a member, whatever happens.
use Rattle.std.specs.Prelude.{ℕ, ◌≡◌, ◌⊎◌, ◌==◌, ◌||◌, Bool, true, false, not, List, [], ◌∷◌, filter, map, slice_get, Option, Some, None, refl, if◌then◌else◌}
use Rattle.std.specs.List.{list_all}
use Rattle.std.proofs.Common.{sym, ◌∙◌, ap, subst, inl, inr}
use Rattle.std.proofs.Math.ListN.{set}
use Rattle.base_types.specs.declared.entry.Entry.{Entry}
use Rattle.base_types.specs.declared.epoch.Epoch.{Epoch}
use Rattle.base_types.specs.declared.id.AttemptId.{AttemptId}
use Rattle.base_types.specs.declared.outcome.FloorWhy.{FloorWhy}
use Rattle.base_types.specs.declared.outcome.Outcome.TheVariants.{Committed}
use Rattle.model_laws.specs.Members.{Has, has-from_filter, has-from_map}
use Rattle.base_messages.specs.declared.actor.ActorId.{ActorId}
use Rattle.base_messages.specs.declared.message.Message.{Message, more_of-Message}
use Rattle.base_messages.specs.declared.message.Message.TheVariants as message
use Rattle.daos_model.specs.declared.durable.Durable.{Durable}
use Rattle.daos_model.specs.BoolLaws.{and_right, not_true}
use Rattle.daos_model.specs.Durables.{entry_of, same_attempt}
use Rattle.dtx_base.specs.declared.leading.Undecided.{Undecided}
use Rattle.dtx_base.specs.Asking.{ask_heard, asked_of, asked_open, tells_end, waits_at}
use Rattle.dtx_base.specs.LeaderLaws.{same-is}
use Rattle.dtx_base.specs.Leading.{LeaderOf, down_told, entry_attempt, entry_led, first_down, is_led, is_open, knowing, mark_reset, prepare_reset, quietly, reopened_undecided, reset_heard, reset_of, status_asked, to_target, undecided_attempt, undecided_of, unwaited_at}
use Rattle.dtx_base.specs.Members.{has_target, other_members}
use Rattle.dtx_base.specs.RowLaws.{row-is, row-map}
use Rattle.dtx_base.specs.Rows.{is_among, is_empty, row_of}
use Rattle.world_commit.specs.asks.Asks.{RowsLack}
use Rattle.world_commit.specs.asks.Entries.{mapped}
use Rattle.world_commit.specs.asks.Moving.{heard-moves}
use Rattle.world_commit.specs.asks.Rows.{IsLacking, none-counted-yet}
use Rattle.world_commit.specs.asks.RowsKept.{acks-rows, lacks-kept, led-others, target-rows}
use Rattle.world_commit.specs.attempts.Attempts.{entry_in, others_of, row_at, row_in}
use Rattle.world_commit.specs.attempts.History.{History}
use Rattle.world_commit.specs.attempts.MemberBits.{others-same}
use Rattle.world_commit.specs.attempts.Stored.{row-found}
use Rattle.world_commit.specs.attempts.Turning.{one-or_another}
use Rattle.world_commit.specs.fates.Asked.{AskedRight}
use Rattle.world_commit.specs.fates.Facts.{Attempts}
use Rattle.world_commit.specs.fates.Rightly.{events-are-right}
use Rattle.world_commit.specs.questions.Flying.{IsWithoutCollections}
use Rattle.world_commit.specs.questions.Hearing.{commit-knows, ends-as, is_of_stops, reset-plain}
use Rattle.world_commit.specs.questions.Known.{commits-new, knows-fates}
use Rattle.world_commit.specs.stops.Parts.{now-here, now-there}
use Rattle.world_commit.specs.stops.Questions.{opening-undecided, reopened_rows, row-among}
use Rattle.world_base.specs.declared.did.Did.{Did}
use Rattle.world_base.specs.declared.target.Life.TheVariants.{Down}
use Rattle.world_base.specs.declared.target.TargetMemory.{TargetMemory}
use Rattle.world_base.specs.declared.target.TargetPlan.{TargetPlan}
use Rattle.world_base.specs.declared.target.TargetState.{TargetState}
use Rattle.world_base.specs.declared.world.World.{World}
use Rattle.world_base.specs.Changes.{Kept}
use Rattle.world_base.specs.Events.{Rules, TargetHearsBy, kept, target_after, target_plan}
use Rattle.world_base.specs.Further.{HearsFurther, reset_by}
use Rattle.world_base.specs.Roles.{leader_at}
use Rattle.world_base.specs.Statuses.{ask_left, status_left, status_refusal}
use Rattle.world_base.specs.Stops.{Draws, Fails, Further, GivenUp, Happening, HearsMore, IsCut, Opens, Plainly, TargetOpens, opened_at, stopped_at, swept}

-- ---- what is heard of stops

-- a row after such a turn counts who was counted, or it is of an entry that the leader keeps, and lacks a member
abbrev pub RowsOn : TargetPlan → TargetMemory → Durable → List Undecided → Type 0
RowsOn t m d rows = (x : AttemptId) (u : Undecided) → row_of undecided_attempt x rows ≡ Some u
    → ((z : Undecided) × (row_of undecided_attempt x m.leader.undecided ≡ Some z) × (u.counted ≡ z.counted)) ⊎ ((e : Entry) × (entry_led x (leader_at t m d) ≡ Some e) × IsLacking e u)

rows-as : (t : TargetPlan) (m : TargetMemory) (d : Durable) (rows : List Undecided) → rows ≡ m.leader.undecided → RowsOn t m d rows
rows-as t m d rows same x u at = inl (u, ap (row_of undecided_attempt x) (sym same) ∙ at, refl)

-- rows that change who waits alone
rows-mapped : (t : TargetPlan) (m : TargetMemory) (d : Durable) (f : Undecided → Undecided) → ((u : Undecided) → (f u).attempt ≡ u.attempt) → ((u : Undecided) → (f u).counted ≡ u.counted) → RowsOn t m d (map f m.leader.undecided)
rows-mapped t m d f attempt counted x u at =
    let z = mapped f (row_of undecided_attempt x m.leader.undecided) u (sym (row-map undecided_attempt f attempt x m.leader.undecided) ∙ at) in
    inl (z.0, z.1, ap (λ y. y.counted) (sym z.2) ∙ counted z.0)

unwaited-attempt : (a : AttemptId) (u : Undecided) → (unwaited_at a u).attempt ≡ u.attempt
unwaited-attempt a u = by (same_attempt u.attempt a)
  where
    by : (b : Bool) → (if b then record u { client = None } else u).attempt ≡ u.attempt
    by true = refl
    by false = refl

unwaited-counted : (a : AttemptId) (u : Undecided) → (unwaited_at a u).counted ≡ u.counted
unwaited-counted a u = by (same_attempt u.attempt a)
  where
    by : (b : Bool) → (if b then record u { client = None } else u).counted ≡ u.counted
    by true = refl
    by false = refl

waits-attempt : (a : AttemptId) (c : ActorId) (u : Undecided) → (waits_at a c u).attempt ≡ u.attempt
waits-attempt a c u = by (same_attempt u.attempt a)
  where
    by : (b : Bool) → (if b then record u { client = Some c } else u).attempt ≡ u.attempt
    by true = refl
    by false = refl

waits-counted : (a : AttemptId) (c : ActorId) (u : Undecided) → (waits_at a c u).counted ≡ u.counted
waits-counted a c u = by (same_attempt u.attempt a)
  where
    by : (b : Bool) → (if b then record u { client = Some c } else u).counted ≡ u.counted
    by true = refl
    by false = refl

module _ (t : TargetPlan) (m : TargetMemory) (d now : Durable) where
  abbrev leads : LeaderOf
  leads = leader_at t m now

  down-rows : (by : ℕ) (a : AttemptId) (e : Option Entry) (u : Option Undecided) → RowsOn t m d (down_told by a e u leads).leader.memory.undecided
  down-rows by a None u = rows-as t m d m.leader.undecided refl
  down-rows by a (Some e) None = rows-as t m d m.leader.undecided refl
  down-rows by a (Some e) (Some u) = rows-mapped t m d (unwaited_at a) (unwaited-attempt a) (unwaited-counted a)

  status-rows : (by : ℕ) (a : AttemptId) (inc : ℕ) → (status_asked by a inc leads).leader.memory.undecided ≡ m.leader.undecided
  status-rows by a inc = cases (inc == leads.incarnation)
    where
      cases : (b : Bool) → (if b then record { leader = leads; posts = to_target by (message.Status a inc) ∷ [] } else quietly leads).leader.memory.undecided ≡ m.leader.undecided
      cases true = refl
      cases false = refl

  prepare-rows : (by : ℕ) (down : Bool) (a : AttemptId) (inc : ℕ) → RowsOn t m d (prepare_reset by down a inc leads).leader.memory.undecided
  unfolding prepare_reset
  prepare-rows by true a inc = down-rows by a (entry_led a leads) (undecided_of a leads)
  prepare-rows by false a inc = rows-as t m d _ (status-rows by a inc)

  mark-rows : (by : ℕ) (down : Bool) (inc : ℕ) (marks : List (AttemptId × Bool)) → (mark_reset by down inc marks leads).leader.memory.undecided ≡ m.leader.undecided
  unfolding mark_reset
  mark-rows by true inc marks = refl
  mark-rows by false inc marks = refl

  lost-rows : (by : ℕ) (down : Bool) (q : Message) → RowsOn t m d (reset_of by down q leads).leader.memory.undecided
  lost-rows by down (message.Mark inc marks) = rows-as t m d _ (mark-rows by down inc marks)
  lost-rows by down (message.Prepare e first ws inc) = prepare-rows by down e.attempt inc
  lost-rows by down (message.Status a inc) = prepare-rows by down a inc
  lost-rows by down q = rows-as t m d m.leader.undecided refl

  known-rows : (by : ℕ) (down : Bool) (l : LeaderOf) → (knowing by down l).memory.undecided ≡ l.memory.undecided
  known-rows by true l = refl
  known-rows by false l = refl

  reset-rows : (by : ℕ) (down : Bool) (q : Message) → RowsOn t m d (reset_heard by down q leads).leader.memory.undecided
  reset-rows by down q = subst (RowsOn t m d) (sym (known-rows by down (reset_of by down q leads).leader)) (lost-rows by down q)

  ask-rows : (x : AttemptId) (from : ActorId) → RowsOn t m d (ask_heard x from leads).leader.memory.undecided
  unfolding ask_heard
  ask-rows x from = cases (entry_led x leads) (is_among x m.leader.decided)
    where
      open' : (e : Entry) (o : Option ℕ) → RowsOn t m d (asked_open x from e o leads).leader.memory.undecided
      open' e None = rows-mapped t m d (waits_at x from) (waits-attempt x from) (waits-counted x from)
      open' e (Some down) = rows-as t m d m.leader.undecided refl

      known : (e : Entry) (b : Bool) → RowsOn t m d (if b then record { leader = leads; posts = tells_end from x (Some e.epoch) Committed } else asked_open x from e (first_down e.members m.leader.down) leads).leader.memory.undecided
      known e true = rows-as t m d m.leader.undecided refl
      known e false = open' e (first_down e.members m.leader.down)

      cases : (e : Option Entry) (decided : Bool) → RowsOn t m d (asked_of x from e decided leads).leader.memory.undecided
      cases None decided = rows-as t m d m.leader.undecided refl
      cases (Some e) decided = known e (e.committed || decided)

pub more-rows : (number : ℕ) (t : TargetPlan) (opening : Epoch × FloorWhy) (m : TargetMemory) (reading : ℕ) (from : ActorId) (q : Message) (old new : Kept) (left : TargetMemory × Did)
    → is_of_stops q ≡ true → HearsFurther number t opening m reading from q old new left → RowsOn t m old.durable left.0.leader.undecided
more-rows number t opening m reading from (message.Commit x ep first tracker ws) old new left ours h =
    rows-as t m old.durable left.0.leader.undecided (ap (λ l. l.undecided) (commit-knows t m reading x ep first tracker ws from h.last new left h.ends).0)
more-rows number t opening m reading from (message.Ask x) old new left ours h =
    subst (RowsOn t m old.durable) (sym (ap (λ z. z.0.leader.undecided) (ends-as (ask_left t m from x) h.last new left h.ends))) (ask-rows t m old.durable new.durable x from)
more-rows number t opening m reading from (message.Status x inc) old new left ours h =
    rows-as t m old.durable left.0.leader.undecided (ap (λ z. z.0.leader.undecided) (ends-as (status_left m from x inc) h.last new left h.ends))
more-rows number t opening m reading from (message.StatusIs x inc how) old new left ours h =
    λ y u at. elim ((acks-rows t m from.number x inc (status_refusal x how) old new left h).rows y u at) [ inl k ↦ inl (u, k, refl) | inr k ↦ inr k ]
more-rows number t opening m reading from (message.Reset' by down place (more_of-Message q rest)) old new left ours h =
    subst (RowsOn t m old.durable) (sym (ap (λ z. z.0.leader.undecided) (ends-as (reset_by t m by down q) h.last new left h.ends ∙ reset-plain t m by down q new ours))) (reset-rows t m old.durable new.durable by down q)
more-rows number t opening m reading from q old new left ours h = let no : ⊥ = cc in absurd no

module _ (r : Rules) (h : History) (w v : World) (A : Attempts r h w) (g : HearsMore r w v) (ours : is_of_stops g.hears.l.message ≡ true) where
  abbrev a : TargetHearsBy (HearsFurther g.number) r w v
  a = g.hears

  more-lack : RowsLack r w → RowsLack r v
  more-lack k = target-rows r w v a.t a.s (target_after a.s a.new a.memory) (Some a.l) a.did.posts (heard-moves r w v a) by k
    where
      by : (x : AttemptId) (u : Undecided) → row_of undecided_attempt x a.memory.leader.undecided ≡ Some u → (row_of undecided_attempt x a.s.memory.leader.undecided ≡ Some u) ⊎ (list_all (has_target u.counted) (others_of r x) ≡ false)
      by x u at =
          elim (more-rows g.number (target_plan r a.t) a.s.opening a.s.memory a.reading a.l.from a.l.message (kept a.s) a.new (a.memory, a.did) ours a.turn x u at) [
            | inl z ↦ inr (ap (λ n. list_all (has_target n) (others_of r x)) z.2 ∙ k a.t x z.0 (ap (λ o. row_in o x) a.here ∙ z.1))
            | inr e ↦ inr (ap (list_all (has_target u.counted)) (sym (led-others r h w (knows-fates r h w A) a.t a.s a.here x e.0 e.1)) ∙ e.2)
          ]

-- ---- stops and openings

-- where one target changes
module _ (r : Rules) (w v : World) (t : ℕ) (s z : TargetState) (here : slice_get w.targets t ≡ Some s) (targets : v.targets ≡ set w.targets t z) where
  turn-lack : ((x : AttemptId) (u : Undecided) → row_of undecided_attempt x z.memory.leader.undecided ≡ Some u → (row_of undecided_attempt x s.memory.leader.undecided ≡ Some u) ⊎ (list_all (has_target u.counted) (others_of r x) ≡ false))
      → RowsLack r w → RowsLack r v
  turn-lack rows k u x q at = elim (one-or_another u t) [
    | inl same ↦
        elim (rows x q (sym (now-here w v t s z here targets (λ o. row_in o x)) ∙ ap (λ n. row_at v n x) (sym same) ∙ at)) [
          | inl old ↦ k t x q (ap (λ o. row_in o x) here ∙ old)
          | inr lacks ↦ lacks
        ]
    | inr other ↦ k u x q (sym (now-there w v t s z here targets (λ o. row_in o x) u other) ∙ at)
  ]

no-row : (x : AttemptId) (u : Undecided) → row_of undecided_attempt x [] ≡ Some u → ⊥
no-row x u at = let no : ⊥ = cc in no

-- a leader that opened again has counted nobody yet
module _ (r : Rules) (h : History) (w v : World) (A : Attempts r h w) (g : TargetOpens r w v) where
  opened-lacks : (x : AttemptId) (u : Undecided) → row_of undecided_attempt x (map reopened_undecided (reopened_rows g.t g.s.durable)) ≡ Some u → list_all (has_target u.counted) (others_of r x) ≡ false
  unfolding entry_of
  opened-lacks x u at = by m.0 m.1 m.2
    where
      m : (e : Entry) × Has e (reopened_rows g.t g.s.durable) × (reopened_undecided e ≡ u)
      m = has-from_map reopened_undecided (reopened_rows g.t g.s.durable) u (row-among undecided_attempt x (map reopened_undecided (reopened_rows g.t g.s.durable)) u at)

      own : u.attempt ≡ x
      own = same-is u.attempt x (row-is undecided_attempt x (map reopened_undecided (reopened_rows g.t g.s.durable)) u at)

      by : (e : Entry) → Has e (reopened_rows g.t g.s.durable) → reopened_undecided e ≡ u → list_all (has_target u.counted) (others_of r x) ≡ false
      by e i same =
          let f = has-from_filter is_open (filter (is_led g.t) g.s.durable.entries) e i in
          let l = has-from_filter (is_led g.t) g.s.durable.entries e f.0 in
          let found = ap (λ o. entry_in o e.attempt) g.here ∙ row-found entry_attempt g.s.durable.entries e (A.on.ordered g.t g.s g.here).entries l.0 in
          let its = (A.on.each e.attempt).entries.one g.t e found in
          let others : other_members e ≡ others_of r x = others-same r e.attempt e its.leader its.members ∙ ap (others_of r) (ap (λ y. y.attempt) same ∙ own) in
          ap (λ n. list_all (has_target n) (others_of r x)) (sym (ap (λ y. y.counted) same)) ∙ ap (list_all (has_target 0)) (sym others)
          ∙ none-counted-yet (other_members e) (not_true (is_empty (other_members e)) (and_right (not e.committed) (not (is_empty (other_members e))) f.1))

  opening-lacks : RowsLack r w → RowsLack r v
  opening-lacks k = turn-lack r w v g.t g.s (opened_at r g.t g.number g.s g.free) g.here (ap (λ u. u.targets) g.after) (λ x u at. inr (opened-lacks x u (ap (row_of undecided_attempt x) (sym (opening-undecided r g.t g.s.durable)) ∙ at))) k

module _ (r : Rules) (h : History) (w v : World) (right : AskedRight r h w) (A : Attempts r h w) where
  pub rows-happen : (e : Happening r w v) → IsWithoutCollections e → RowsLack r w → RowsLack r v
  rows-happen (Plainly e up) ours k = lacks-kept r h w v (commits-new r h w right) (knows-fates r h w A) k (events-are-right r h w v A e)
  rows-happen (Further g) ours k = more-lack r h w v A g ours k
  rows-happen (IsCut g) ours k = turn-lack r w v g.t g.s (stopped_at g.s g.cut.left) g.here (ap (λ u. u.targets) g.after) (λ x u at. absurd (no-row x u at)) k
  rows-happen (Opens g) ours k = opening-lacks r h w v A g k
  rows-happen (Fails g) ours k = turn-lack r w v g.t g.s (record g.s { durable = g.k.durable; free = g.k.free }) g.here (ap (λ u. u.targets) g.after) (λ x u at. inl at) k
  rows-happen (GivenUp g) ours k = turn-lack r w v g.t g.s (record g.s { life = Down }) g.here (ap (λ u. u.targets) g.after) (λ x u at. inl at) k
  rows-happen (Draws g) ours k = λ t x u at. k t x u (ap (λ ts. row_in (slice_get ts t) x) (sym (ap (λ y. y.targets) g.after)) ∙ at)

pub rows-swept : (r : Rules) (w : World) → RowsLack r w → RowsLack r (swept w)
rows-swept r w k = k
