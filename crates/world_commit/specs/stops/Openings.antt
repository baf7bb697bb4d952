-- A target that opens again asks after its undecided attempts, and decides those without other members. This keeps the facts of attempts.
use Rattle.std.specs.Prelude.{ℕ, ◌≡◌, ◌⊎◌, ◌+◌, ◌≤◌, ◌==◌, Bool, true, false, ◌&&◌, not, List, [], ◌∷◌, ◌++◌, filter, map, slice_get, Option, Some, None, refl}
use Rattle.std.proofs.Common.{sym, ◌∙◌, ap, subst, arith, inl, inr}
use Rattle.std.proofs.Math.ListN.{set}
use Rattle.std.proofs.lemmas.Bool.Decides.{nat_tests}
use Rattle.base_types.specs.declared.entry.Entry.{Entry}
use Rattle.base_types.specs.declared.epoch.Epoch.{Epoch}
use Rattle.base_types.specs.declared.id.AttemptId.{AttemptId}
use Rattle.base_types.specs.declared.outcome.Outcome.{Outcome}
use Rattle.base_types.specs.declared.outcome.Outcome.TheVariants.{Committed}
use Rattle.model_laws.specs.Members.{Has, has-cases, has-filter, has-from_filter, has-from_map, has-map}
use Rattle.base_messages.specs.declared.message.Message.TheVariants as message
use Rattle.base_messages.specs.declared.message.Post.{Post}
use Rattle.daos_model.specs.Answers.{is_before}
use Rattle.daos_model.specs.BoolLaws.{and_left, and_right, both, clash, false_of, not_true}
use Rattle.daos_model.specs.Changes.{reopened}
use Rattle.daos_model.specs.Durables.{entry_key, entry_of, same_attempt}
use Rattle.daos_model.specs.Ordered.{all_after, is_rising}
use Rattle.daos_model.specs.OrderLaws.{rising-filter}
use Rattle.daos_model.specs.declared.durable.Durable.{Durable}
use Rattle.dtx_base.specs.declared.leading.Undecided.{Undecided}
use Rattle.dtx_base.specs.LeaderLaws.{same-is}
use Rattle.dtx_base.specs.Leading.{entry_attempt, is_led, is_open, is_open_alone, reopened_undecided, undecided_attempt}
use Rattle.dtx_base.specs.Members.{has_target, other_members}
use Rattle.dtx_base.specs.RowLaws.{row-is}
use Rattle.dtx_base.specs.Rows.{is_among, is_empty, itself, row_key, row_of}
use Rattle.world_commit.specs.attempts.Attempts.{Entries, HoldsAt, IsBorn, IsOpenAt, IsOrdered, IsOther, IsSettled, count, entry_at, entry_in, inc_at, inc_in, is_known_at, is_known_in, is_prepare_to, leader_of, one_if, others_of, row_at, row_in}
use Rattle.world_commit.specs.attempts.Counting.{count-append, count-none, count-map, is_same, other-once}
use Rattle.world_commit.specs.attempts.History.{Aborted, Decided, GrowsBy, History, Tells}
use Rattle.world_commit.specs.attempts.MemberBits.{has-none, others-same}
use Rattle.world_commit.specs.attempts.Stored.{among-has, among-is, row-found}
use Rattle.world_commit.specs.attempts.Turning.{one-or_another}
use Rattle.world_commit.specs.fates.Facts.{Attempts, Awaited, IsAskedSo, IsQuiet, IsSaidSo, Rows, answers_for, asks_for, down_in, prepares_in_vain, prepares_it, is_talk, is_try, preparing, refuses_for, talking}
use Rattle.world_commit.specs.fates.Frames.{Grows, asked-on, one-unless, said-on}
use Rattle.world_commit.specs.fates.Told.{told_end}
use Rattle.world_commit.specs.stops.Parts.{KeepsEntries, all-now, held-stays, now-here, now-same, now-there, open-stays}
use Rattle.world_commit.specs.stops.Earlier.{none-earlier, not-between, refusing-earlier}
use Rattle.world_commit.specs.stops.Questions.{all-unanswered, is_question_of, no-question, one-question, opening-asks, opening-decided, opening-undecided, reopened-entries, reopened-entry, reopened-incarnation, reopened_rows, row-among, row-of_some, question-is}
use Rattle.world_base.specs.declared.letter.Letter.{Letter}
use Rattle.world_base.specs.declared.target.TargetState.{TargetState}
use Rattle.world_base.specs.declared.world.World.{World}
use Rattle.world_base.specs.Events.{Rules, target_plan}
use Rattle.world_base.specs.Letters.{asked_after, is_answerable, letter_of, letters_of, target}
use Rattle.world_base.specs.Statuses.{opening_posts, statuses_for}
use Rattle.world_base.specs.Stops.{after_opening, opened_at}

-- ---- what is decided at an opening

-- the prepared entries that a target leads and that have no other member
abbrev pub alone : ℕ → Durable → List Entry
alone t d = filter is_open_alone (filter (is_led t) d.entries)

abbrev pub committed_end : Entry → Post
committed_end e = told_end e.attempt (Some e.epoch) Committed

-- what it would tell of them if clients waited
abbrev pub opening_told : ℕ → Durable → List Post
opening_told t d = map committed_end (alone t d)

-- attempts stand in the order of their entries
rising-attempts : (es : List Entry) → is_rising entry_key es ≡ true → is_rising (row_key itself) (map entry_attempt es) ≡ true
rising-attempts es is = same es ∙ is
  where
    after : (k : List ℕ) (es : List Entry) → all_after (row_key itself) k (map entry_attempt es) ≡ all_after entry_key k es
    after k [] = refl
    after k (e ∷ es) = ap (λ b. is_before k (entry_key e) && b) (after k es)

    same : (es : List Entry) → is_rising (row_key itself) (map entry_attempt es) ≡ is_rising entry_key es
    same [] = refl
    same (e ∷ es) = ap (λ b. b && is_rising (row_key itself) (map entry_attempt es)) (after (entry_key e) es) ∙ ap (λ b. all_after entry_key (entry_key e) es && b) (same es)

module _ (r : Rules) (h later : History) (w v : World) (t n : ℕ) (s : TargetState) (free : ℕ) (here : slice_get w.targets t ≡ Some s) (follows : v ≡ after_opening r w t n s free)
    (g : GrowsBy h (opening_told t s.durable) later) (k : Attempts r h w) where
  abbrev z : TargetState
  z = opened_at r t n s free

  abbrev sent : List Letter
  sent = letters_of (target t) (statuses_for (s.durable.incarnation + 1) (reopened_rows t s.durable))

  posts-are : letters_of (target t) (opening_posts (target_plan r t) (reopened s.durable)) ≡ sent
  posts-are = ap (letters_of (target t)) (opening-asks r t s.durable)

  targets : v.targets ≡ set w.targets t z
  targets = ap (λ u. u.targets) follows

  messages : v.messages ≡ w.messages ++ sent
  messages = ap (λ u. u.messages) follows ∙ ap (λ ls. w.messages ++ ls) posts-are

  issued : (x : AttemptId) (e : Epoch) → Has (x, e) w.issued → Has (x, e) v.issued
  issued x e i = subst (Has (x, e)) (sym (ap (λ u. u.issued) follows)) i

  entry : (u : ℕ) (x : AttemptId) → entry_at v u x ≡ entry_at w u x
  entry u x = now-same w v t s z here targets (λ o. entry_in o x) (reopened-entry s.durable x) u

  inc-there : (u : ℕ) → (u ≡ t → ⊥) → inc_at v u ≡ inc_at w u
  inc-there u off = now-there w v t s z here targets inc_in u off

  inc-before : inc_at w t ≡ s.durable.incarnation
  inc-before = ap inc_in here

  inc-here : inc_at v t ≡ s.durable.incarnation + 1
  inc-here = now-here w v t s z here targets inc_in ∙ reopened-incarnation s.durable

  inc-up : (u : ℕ) → inc_at w u ≤ inc_at v u
  inc-up u = elim (one-or_another u t) [
    | inl is ↦ let p : inc_at v u ≡ s.durable.incarnation + 1 = ap (inc_at v) is ∙ inc-here in let q : inc_at w u ≡ s.durable.incarnation = ap (inc_at w) is ∙ inc-before in omega (arith, p, q)
    | inr off ↦ let same = inc-there u off in omega (arith, same)
  ]

  keeps : KeepsEntries w v
  keeps = record { entry = entry; issued = issued; incarnation = inc-up }

  -- ---- entries of this target

  rising : is_rising entry_key s.durable.entries ≡ true
  rising = (k.on.ordered t s here).entries

  led-is : (e : Entry) → is_led t e ≡ true → e.leader ≡ t
  led-is e is = grind (arith, nat_tests)

  found-here : (e : Entry) → Has e s.durable.entries → entry_at w t e.attempt ≡ Some e
  unfolding entry_of
  found-here e i = ap (λ o. entry_in o e.attempt) here ∙ row-found entry_attempt s.durable.entries e rising i

  -- one that it leads and that isn't committed
  record IsMine (x : AttemptId) (e : Entry) : Type 0 where
    its : e.attempt ≡ x
    found : entry_at w t x ≡ Some e
    prepared : e.committed ≡ false
    leads : t ≡ leader_of r x
    others : other_members e ≡ others_of r x

  mine : (e : Entry) → Has e (filter (is_led t) s.durable.entries) → not e.committed ≡ true → IsMine e.attempt e
  mine e i open' =
      let l = has-from_filter (is_led t) s.durable.entries e i in
      let found = found-here e l.0 in
      let its = (k.on.each e.attempt).entries.one t e found in
      record { its = refl; found = found; prepared = not_true e.committed open'; leads = sym (led-is e l.1) ∙ its.leader; others = others-same r e.attempt e its.leader its.members }

  mine-of : (x : AttemptId) (e : Entry) → e.attempt ≡ x → IsMine e.attempt e → IsMine x e
  mine-of x e same i = subst (λ y. IsMine y e) same i

  -- ---- what is decided

  record IsAlone (x : AttemptId) (e : Entry) : Type 0 where
    own : IsMine x e
    none : (m : ℕ) → IsOther r x m → ⊥

  alone-is : (x : AttemptId) (e : Entry) → Has e (alone t s.durable) → e.attempt ≡ x → IsAlone x e
  alone-is x e i same =
      let f = has-from_filter is_open_alone (filter (is_led t) s.durable.entries) e i in
      let own = mine-of x e same (mine e f.0 (and_left (not e.committed) (is_empty (other_members e)) f.1)) in
      record { own = own; none = λ m o. empty (other_members e) (and_right (not e.committed) (is_empty (other_members e)) f.1) m (subst (Has m) (sym own.others) o) }
    where
      empty : (ns : List ℕ) → is_empty ns ≡ true → (m : ℕ) → Has m ns → ⊥
      empty [] is m i = i
      empty (y ∷ ns) is m i = let no : ⊥ = grind (arith, nat_tests) in no

  told-is : (x : AttemptId) (own : Option Epoch) (how : Outcome) → Tells (opening_told t s.durable) x own how → (e : Entry) × IsAlone x e × (own ≡ Some e.epoch) × (how ≡ Committed)
  told-is x own how q =
      let y = has-from_map committed_end (alone t s.durable) (record { to = q.to; message = message.Ended x own how }) q.sent in
      let m : message.Ended y.0.attempt (Some y.0.epoch) Committed ≡ message.Ended x own how = ap (λ p. p.message) y.2 in
      (y.0, alone-is x y.0 y.1 (let same : y.0.attempt ≡ x = cc in same), (let same : own ≡ Some y.0.epoch = cc in same), (let same : how ≡ Committed = cc in same))

  -- a decided attempt was decided, or is this target's alone
  decided-was : (x : AttemptId) (f : Epoch) → Decided later x f → Decided h x f ⊎ ((e : Entry) × IsAlone x e × (f ≡ e.epoch))
  decided-was x f d = elim (g.only_decided x f d) [
    | inl before ↦ inl before
    | inr q ↦ let y = told-is x (Some f) Committed q in inr (y.0, y.1, (let same : f ≡ y.0.epoch = some y.2 in same))
  ]
    where
      some : {a b : Epoch} → Some a ≡ Some b → a ≡ b
      some e = cc

  aborted-was : (x : AttemptId) → Aborted later x → Aborted h x
  aborted-was x a = elim (g.only_aborted x a) [ inl before ↦ before | inr q ↦ let y = told-is x q.own q.how q.told in absurd (q.refused y.3) ]

  born-on : (x : AttemptId) → IsBorn r h w x → IsBorn r later v x
  born-on x (inl i) = inl (held-stays r h w v keeps (leader_of r x) x i)
  born-on x (inr a) = inr (g.aborted x a)

  settled-on : (u : ℕ) (x : AttemptId) → IsSettled w u x → IsSettled v u x
  settled-on u x i = record { entry = i.entry; found = entry u x ∙ i.found; committed = i.committed }

  holds-on : (u : ℕ) (x : AttemptId) (f : Epoch) → HoldsAt w u x f → HoldsAt v u x f
  holds-on u x f i = record { entry = i.entry; found = entry u x ∙ i.found; epoch = i.epoch }

  goes : Grows r h later w v
  goes = record {
    decided = g.decided;
    aborted = g.aborted;
    issued = issued;
    incarnation = inc-up;
    born = born-on;
    held = λ m x o i. inl (held-stays r h w v keeps m x i);
    settled = λ m x o i. inl (settled-on m x i);
  }

  entries-on : (x : AttemptId) → Entries r h w x → Entries r later v x
  entries-on x i = record {
    one = λ u e at. let q = i.one u e (sym (entry u x) ∙ at) in record { attempt = q.attempt; leader = q.leader; members = q.members; issued = issued x e.epoch q.issued; place = q.place };
    born = λ u e at. born-on x (i.born u e (sym (entry u x) ∙ at));
    committed = λ u e at c. g.decided x e.epoch (i.committed u e (sym (entry u x) ∙ at) c);
    confirmed = λ m e at o has. settled-on m x (i.confirmed m e (sym (entry (leader_of r x) x) ∙ at) o has);
    held_by_leader = λ f d. elim (decided-was x f d) [
      | inl before ↦ holds-on (leader_of r x) x f (i.held_by_leader f before)
      | inr q ↦ record { entry = q.0; found = subst (λ u. entry_at v u x ≡ Some q.0) q.1.own.leads (entry t x ∙ q.1.own.found); epoch = sym q.2 }
    ];
    held_by_others = λ f m d o. elim (decided-was x f d) [ inl before ↦ holds-on m x f (i.held_by_others f m before o) | inr q ↦ absurd (q.1.none m o) ];
    aborted = λ a. entry (leader_of r x) x ∙ i.aborted (aborted-was x a);
  }

  -- ---- rows

  rows-are : (x : AttemptId) → row_at v t x ≡ row_of undecided_attempt x (map reopened_undecided (reopened_rows t s.durable))
  rows-are x = now-here w v t s z here targets (λ o. row_in o x) ∙ ap (row_of undecided_attempt x) (opening-undecided r t s.durable)

  known-are : (x : AttemptId) → is_known_at v t x ≡ is_among x (map entry_attempt (alone t s.durable))
  known-are x = now-here w v t s z here targets (λ o. is_known_in o x) ∙ ap (is_among x) (opening-decided r t s.durable)

  -- a row is of an entry that has other members, and none is counted
  record IsReopened (x : AttemptId) (u : Undecided) : Type 0 where
    e : Entry
    among : Has e (reopened_rows t s.durable)
    own : IsMine x e
    some : is_empty (other_members e) ≡ false
    none : u.counted ≡ 0
    unwaited : u.client ≡ None

  row-is-of : (x : AttemptId) (u : Undecided) → row_at v t x ≡ Some u → IsReopened x u
  row-is-of x u at =
      let i = row-among undecided_attempt x (map reopened_undecided (reopened_rows t s.durable)) u (sym (rows-are x) ∙ at) in
      let m = has-from_map reopened_undecided (reopened_rows t s.durable) u i in
      let f = has-from_filter is_open (filter (is_led t) s.durable.entries) m.0 m.1 in
      let own : same_attempt u.attempt x ≡ true = row-is undecided_attempt x (map reopened_undecided (reopened_rows t s.durable)) u (sym (rows-are x) ∙ at) in
      let its : m.0.attempt ≡ x = ap (λ y. y.attempt) m.2 ∙ same-is u.attempt x own in
      record {
        e = m.0;
        among = m.1;
        own = mine-of x m.0 its (mine m.0 f.0 (and_left (not m.0.committed) (not (is_empty (other_members m.0))) f.1));
        some = not_true (is_empty (other_members m.0)) (and_right (not m.0.committed) (not (is_empty (other_members m.0))) f.1);
        none = ap (λ y. y.counted) (sym m.2);
        unwaited = ap (λ y. y.client) (sym m.2);
      }

  known-is-of : (x : AttemptId) → is_known_at v t x ≡ true → (e : Entry) × Has e (alone t s.durable) × IsAlone x e
  known-is-of x known =
      let m = has-from_map entry_attempt (alone t s.durable) x (among-is x (map entry_attempt (alone t s.durable)) (sym (known-are x) ∙ known)) in
      (m.0, m.1, alone-is x m.0 m.1 m.2)

  -- a prepared entry that it leads has a row, or is decided
  either-here : (x : AttemptId) (e : Entry) → t ≡ leader_of r x → entry_at w t x ≡ Some e → e.committed ≡ false → (is_known_at v t x ≡ true) ⊎ ((u : Undecided) × (row_at v t x ≡ Some u))
  unfolding entry_of
  either-here x e leads at prepared = by (is_empty (other_members e)) refl
    where
      found : row_of entry_attempt x s.durable.entries ≡ Some e
      found = sym (ap (λ o. entry_in o x) here) ∙ at

      its : same_attempt e.attempt x ≡ true
      its = row-is entry_attempt x s.durable.entries e found

      led : Has e (filter (is_led t) s.durable.entries)
      led = has-filter (is_led t) s.durable.entries e (row-among entry_attempt x s.durable.entries e found) (led-of e (((k.on.each x).entries.one t e at).leader ∙ sym leads))
        where
          led-of : (e : Entry) → e.leader ≡ t → is_led t e ≡ true
          led-of e is = grind (arith, nat_tests)

      by : (b : Bool) → is_empty (other_members e) ≡ b → (is_known_at v t x ≡ true) ⊎ ((u : Undecided) × (row_at v t x ≡ Some u))
      by true is =
          let i = has-filter is_open_alone (filter (is_led t) s.durable.entries) e led (both (not e.committed) (is_empty (other_members e)) (ap not prepared) is) in
          inl (known-are x ∙ among-has x (map entry_attempt (alone t s.durable)) (subst (λ y. Has y (map entry_attempt (alone t s.durable))) (same-is e.attempt x its) (has-map entry_attempt (alone t s.durable) e i)))
      by false off =
          let i = has-filter is_open (filter (is_led t) s.durable.entries) e led (both (not e.committed) (not (is_empty (other_members e))) (ap not prepared) (ap not off)) in
          let u = row-of_some undecided_attempt x (map reopened_undecided (reopened_rows t s.durable)) (reopened_undecided e) (has-map reopened_undecided (reopened_rows t s.durable) e i) its in
          inr (u.0, rows-are x ∙ u.1)

  -- one with a row isn't decided at the opening
  row-unknown : (x : AttemptId) (u : Undecided) → row_at v t x ≡ Some u → is_known_at v t x ≡ false
  row-unknown x u at = false_of (is_known_at v t x) (λ known.
      let p = row-is-of x u at in
      let q = known-is-of x known in
      let one : Some p.e ≡ Some q.0 = sym p.own.found ∙ q.2.own.found in
      let same : p.e ≡ q.0 = cc in
      let f = has-from_filter is_open_alone (filter (is_led t) s.durable.entries) q.0 q.1 in
      let empty : is_empty (other_members p.e) ≡ true = ap (λ e. is_empty (other_members e)) same ∙ and_right (not q.0.committed) (is_empty (other_members q.0)) f.1 in
      clash (is_empty (other_members p.e)) empty p.some)

  open-of : (x : AttemptId) (e : Entry) (u : ℕ) → u ≡ t → IsMine x e → IsOpenAt r v x u
  open-of x e u is own = record { leads = is ∙ own.leads; entry = e; found = subst (λ y. entry_at v y x ≡ Some e) (sym is) (entry t x ∙ own.found); prepared = own.prepared }

  rows-on : (x : AttemptId) → Rows r h w x → Rows r later v x
  unfolding open-stays open-of
  rows-on x i = record {
    undecided = λ u q at. elim (one-or_another u t) [
      | inl is ↦
          let p = row-is-of x q (subst (λ y. row_at v y x ≡ Some q) is at) in
          record {
            here = open-of x p.e u is p.own;
            unknown = ap (λ y. is_known_at v y x) is ∙ row-unknown x q (subst (λ y. row_at v y x ≡ Some q) is at);
            client = λ c waits. let none = p.unwaited in let no : ⊥ = cc (none, waits) in absurd no;
          }
      | inr off ↦
          let o = i.undecided u q (sym (now-there w v t s z here targets (λ o. row_in o x) u off) ∙ at) in
          record { here = open-stays r h w v keeps u x o.here; unknown = now-there w v t s z here targets (λ o. is_known_in o x) u off ∙ o.unknown; client = o.client }
    ];
    unsettled = λ u known. elim (one-or_another u t) [
      | inl is ↦
          let q = known-is-of x (subst (λ y. is_known_at v y x ≡ true) is known) in
          let own = q.2.own in
          let tells : Tells (opening_told t s.durable) q.0.attempt (Some q.0.epoch) Committed = record { to = (committed_end q.0).to; sent = has-map committed_end (alone t s.durable) q.0 q.1 } in
          record { here = open-of x q.0 u is own; decided = subst (λ y. Decided later y q.0.epoch) own.its (g.committed q.0.attempt q.0.epoch tells) }
      | inr off ↦
          let o = i.unsettled u (sym (now-there w v t s z here targets (λ o. is_known_in o x) u off) ∙ known) in record { here = open-stays r h w v keeps u x o.here; decided = g.decided x o.here.entry.epoch o.decided }
    ];
    either = λ e runs at prepared. elim (one-or_another (leader_of r x) t) [
      | inl is ↦
          elim (either-here x e (sym is) (subst (λ y. entry_at w y x ≡ Some e) is (sym (entry (leader_of r x) x) ∙ at)) prepared) [
            | inl known ↦ inl (ap (λ y. is_known_at v y x) is ∙ known)
            | inr q ↦ inr (q.0, ap (λ y. row_at v y x) is ∙ q.1)
          ]
      | inr off ↦
          elim (i.either e (λ y j. runs y (now-there w v t s z here targets (λ o. o) (leader_of r x) off ∙ j)) (sym (entry (leader_of r x) x) ∙ at) prepared) [
            | inl known ↦ inl (now-there w v t s z here targets (λ o. is_known_in o x) (leader_of r x) off ∙ known)
            | inr q ↦ inr (q.0, now-there w v t s z here targets (λ o. row_in o x) (leader_of r x) off ∙ q.1)
          ]
    ];
  }

  -- ---- letters

  -- what is sent is a Status of an attempt that is led here
  record IsAsking (l : Letter) : Type 0 where
    e : Entry
    own : IsMine e.attempt e
    member : ℕ
    other : IsOther r e.attempt member
    is : l ≡ record { from = target t; to = target member; message = message.Status e.attempt (s.durable.incarnation + 1) }

  sent-is : (l : Letter) → Has l sent → IsAsking l
  sent-is l i =
      let q = has-from_map (letter_of (target t)) (statuses_for (s.durable.incarnation + 1) (reopened_rows t s.durable)) l i in
      let u = question-is (s.durable.incarnation + 1) (reopened_rows t s.durable) q.0 q.1 in
      let f = has-from_filter is_open (filter (is_led t) s.durable.entries) u.e u.among in
      let own = mine u.e f.0 (and_left (not u.e.committed) (not (is_empty (other_members u.e))) f.1) in
      record { e = u.e; own = own; member = u.member; other = subst (Has u.member) own.others u.other; is = sym q.2 ∙ ap (letter_of (target t)) u.is }

  came : (l : Letter) → Has l v.messages → Has l w.messages ⊎ IsAsking l
  came l i = elim (has-cases w.messages sent l (subst (Has l) messages i)) [ inl old ↦ inl old | inr new ↦ inr (sent-is l new) ]

  said-new : (l : Letter) → IsAsking l → IsAskedSo r later v l.from l.to l.message
  said-new l a =
      let top : inc_at v (leader_of r a.e.attempt) ≡ s.durable.incarnation + 1 = ap (inc_at v) (sym a.own.leads) ∙ inc-here in
      subst (λ y. IsAskedSo r later v y.from y.to y.message) (sym a.is)
      (record {
        way = record { member = a.member; other = a.other; sender = ap target a.own.leads; receiver = refl };
        incarnation = omega (arith, top);
        born = inl (record { entry = a.e; found = ap (λ y. entry_at v y a.e.attempt) (sym a.own.leads) ∙ entry t a.e.attempt ∙ a.own.found });
      })

  unanswered : v.asked ≡ w.asked ++ sent
  unanswered = ap (λ u. u.asked) follows ∙ ap (asked_after w.asked) posts-are ∙ all-unanswered w.asked sent (λ l i. let a = sent-is l i in ap (λ y. is_answerable y.message) a.is)

  -- ---- who is asked

  rows-rising : is_rising entry_key (reopened_rows t s.durable) ≡ true
  rows-rising = rising-filter entry_key is_open (filter (is_led t) s.durable.entries) (rising-filter entry_key (is_led t) s.durable.entries rising)

  counts : (p : Letter → Bool) → count p v.messages ≡ count p w.messages + count p sent
  counts p = ap (count p) messages ∙ count-append p w.messages sent

  -- what is sent asks for an attempt as often as the questions of its entries do
  sent-counts : (i m : ℕ) (x : AttemptId) → count (is_talk r i x m) sent ≡ count (is_question_of r t i (leader_of r x) m x) (statuses_for (s.durable.incarnation + 1) (reopened_rows t s.durable))
  unfolding is_question_of
  sent-counts i m x = count-map (is_talk r i x m) (λ q. is_talk r i x m (letter_of (target t) q)) (letter_of (target t)) (statuses_for (s.durable.incarnation + 1) (reopened_rows t s.durable)) (λ q. refl)

  sent-one : (m : ℕ) (x : AttemptId) (u : Undecided) → IsOther r x m → IsReopened x u → count (is_talk r (s.durable.incarnation + 1) x m) sent ≡ 1
  sent-one m x u o p =
      sent-counts (s.durable.incarnation + 1) m x
      ∙ one-question r t (s.durable.incarnation + 1) (leader_of r x) m x (reopened_rows t s.durable) p.e rows-rising p.among p.own.its (ap (count (is_same m)) p.own.others ∙ other-once r x m o)

  sent-none : (m : ℕ) (x : AttemptId) → row_at v t x ≡ None → count (is_talk r (s.durable.incarnation + 1) x m) sent ≡ 0
  sent-none m x none = sent-counts (s.durable.incarnation + 1) m x ∙ no-question r t (s.durable.incarnation + 1) (leader_of r x) m x (reopened_rows t s.durable) off
    where
      off : (e : Entry) → Has e (reopened_rows t s.durable) → same_attempt e.attempt x ≡ false
      off e i = false_of (same_attempt e.attempt x) (λ its.
          let u = row-of_some undecided_attempt x (map reopened_undecided (reopened_rows t s.durable)) (reopened_undecided e) (has-map reopened_undecided (reopened_rows t s.durable) e i) its in
          let some : row_at v t x ≡ Some u.0 = rows-are x ∙ u.1 in
          (let no : ⊥ = cc (none, some) in no))

  sent-few : (m : ℕ) (x : AttemptId) → IsOther r x m → count (is_talk r (s.durable.incarnation + 1) x m) sent ≤ 1
  sent-few m x o = by (row_at v t x) refl
    where
      by : (q : Option Undecided) → row_at v t x ≡ q → count (is_talk r (s.durable.incarnation + 1) x m) sent ≤ 1
      by None none = let zero = sent-none m x none in omega (arith, zero)
      by (Some u) at = let one = sent-one m x u o (row-is-of x u at) in omega (arith, one)

  -- of an attempt that is led here no letter is of this incarnation yet
  none-yet : (m : ℕ) (x : AttemptId) → leader_of r x ≡ t → count (is_talk r (s.durable.incarnation + 1) x m) w.messages ≡ 0
  none-yet m x leads =
      subst (λ i. count (is_talk r i x m) w.messages ≡ 0) (ap (λ y. inc_at w y + 1) leads ∙ ap (λ y. y + 1) inc-before) (none-earlier r h w x m k.on.letters)

  talks-here : (m : ℕ) (x : AttemptId) (u : Undecided) → IsOther r x m → leader_of r x ≡ t → IsReopened x u → talking r (inc_at v (leader_of r x)) v x m ≡ 1
  talks-here m x u o leads p =
      let all = counts (is_talk r (s.durable.incarnation + 1) x m) in
      let none = none-yet m x leads in
      let one = sent-one m x u o p in
      ap (λ i. talking r i v x m) (ap (inc_at v) leads ∙ inc-here) ∙ omega (arith, all, none, one)

  talks-there : (i m : ℕ) (x : AttemptId) → (leader_of r x ≡ t → ⊥) → talking r i v x m ≡ talking r i w x m
  talks-there i m x off = let all = counts (is_talk r i x m) in let none = count-none (is_talk r i x m) sent (λ l j. quiet l (sent-is l j)) in omega (arith, all, none)
    where
      quiet : (l : Letter) → IsAsking l → is_talk r i x m l ≡ false
      quiet l a =
          let other : same_attempt a.e.attempt x ≡ false = false_of (same_attempt a.e.attempt x) (λ own. off (ap (leader_of r) (sym (same-is a.e.attempt x own)) ∙ sym a.own.leads)) in
          not-between r h w x (asks_for i x) (answers_for i x) (leader_of r x) m l (ap (λ y. asks_for i x y.message) a.is ∙ ap (λ b. b && ((s.durable.incarnation + 1) == i)) other) (ap (λ y. answers_for i x y.message) a.is)

  -- by each incarnation each member is asked at most once
  few-on : (i m : ℕ) (x : AttemptId) → IsOther r x m → talking r i w x m ≤ 1 → talking r i v x m ≤ 1
  few-on i m x o few = elim (one-or_another (leader_of r x) t) [
    | inl leads ↦ by leads ((s.durable.incarnation + 1) == i) refl
    | inr off ↦ let same = talks-there i m x off in omega (arith, same, few)
  ]
    where
      by : leader_of r x ≡ t → (b : Bool) → ((s.durable.incarnation + 1) == i) ≡ b → talking r i v x m ≤ 1
      by leads true is =
          let here2 : s.durable.incarnation + 1 ≡ i = grind (arith, nat_tests) in
          subst (λ j. talking r j v x m ≤ 1) here2
          (let all = counts (is_talk r (s.durable.incarnation + 1) x m) in let none = none-yet m x leads in let less = sent-few m x o in omega (arith, all, none, less))
      by leads false off2 =
          let all = counts (is_talk r i x m) in
          let none = count-none (is_talk r i x m) sent (λ l j. quiet l (sent-is l j)) in
          omega (arith, all, none, few)
        where
          quiet : (l : Letter) → IsAsking l → is_talk r i x m l ≡ false
          quiet l a = not-between r h w x (asks_for i x) (answers_for i x) (leader_of r x) m l (ap (λ y. asks_for i x y.message) a.is ∙ ap (λ b. same_attempt a.e.attempt x && b) off2 ∙ none2 (same_attempt a.e.attempt x)) (ap (λ y. answers_for i x y.message) a.is)
            where
              none2 : (b : Bool) → (b && false) ≡ false
              none2 true = refl
              none2 false = refl

  tries-on : (m : ℕ) (x : AttemptId) → preparing r v x m ≡ preparing r w x m
  tries-on m x = let all = counts (is_try r x m) in let none = count-none (is_try r x m) sent (λ l j. quiet l (sent-is l j)) in omega (arith, all, none)
    where
      quiet : (l : Letter) → IsAsking l → is_try r x m l ≡ false
      quiet l a = not-between r h w x (prepares_it x) (prepares_in_vain x) (leader_of r x) m l (ap (λ y. prepares_it x y.message) a.is) (ap (λ y. prepares_in_vain x y.message) a.is)

  no-prepare : (x : AttemptId) (m : ℕ) (l : Letter) → IsAsking l → is_prepare_to x m l ≡ true → ⊥
  unfolding is_prepare_to
  no-prepare x m l a is = let bad : false ≡ true = sym (ap (is_prepare_to x m) a.is) ∙ is in (let no : ⊥ = cc in no)

  no-refusal : (x : AttemptId) (i : ℕ) (l : Letter) → IsAsking l → refuses_for i x l.message ≡ true → ⊥
  no-refusal x i l a is = let bad : false ≡ true = sym (ap (λ y. refuses_for i x y.message) a.is) ∙ is in (let no : ⊥ = cc in no)

  awaited-on : (x : AttemptId) → Awaited r h w x → Awaited r later v x
  awaited-on x i = record {
    once = λ m u o at. elim (one-or_another (leader_of r x) t) [
      | inl is ↦
          let p = row-is-of x u (subst (λ y. row_at v y x ≡ Some u) is at) in
          let one = talks-here m x u o is p in
          let none : one_if (has_target u.counted m) ≡ 0 = ap (λ y. one_if (has_target y m)) p.none ∙ ap one_if (has-none m) in
          inl (omega (arith, one, none))
      | inr off ↦
          one-unless (now-there w v t s z here targets (λ o. down_in o m) (leader_of r x) off)
          (ap (λ n. n + one_if (has_target u.counted m)) (ap (λ j. talking r j v x m) (inc-there (leader_of r x) off) ∙ talks-there (inc_at w (leader_of r x)) m x off))
          (i.once m u o (sym (now-there w v t s z here targets (λ o. row_in o x) (leader_of r x) off) ∙ at))
    ];
    few = λ j m o. few-on j m x o (i.few j m o);
    tries = λ m o. let same = tries-on m x in let few = i.tries m o in omega (arith, same, few);
    before = λ m l among is. elim (came l among) [ inl old ↦ entry m x ∙ i.before m l old is | inr new ↦ absurd (no-prepare x m l new is) ];
    counted = λ m u o at has. elim (one-or_another (leader_of r x) t) [
      | inl is ↦
          let p = row-is-of x u (subst (λ y. row_at v y x ≡ Some u) is at) in
          let none : has_target u.counted m ≡ false = ap (λ y. has_target y m) p.none ∙ has-none m in
          (let no : ⊥ = cc (none, has) in absurd no)
      | inr off ↦ held-stays r h w v keeps m x (i.counted m u o (sym (now-there w v t s z here targets (λ o. row_in o x) (leader_of r x) off) ∙ at) has)
    ];
    firm = λ l e among is d. elim (came l among) [
      | inl old ↦ elim (one-or_another (leader_of r x) t) [
        | inl at ↦
            let j : inc_at v (leader_of r x) ≡ inc_at w (leader_of r x) + 1 = ap (inc_at v) at ∙ inc-here ∙ ap (λ y. y + 1) (sym inc-before) ∙ ap (λ y. inc_at w y + 1) (sym at) in
            refusing-earlier r h w x l.from l.to l.message (k.on.letters l old) (subst (λ y. refuses_for y x l.message ≡ true) j is)
        | inr off ↦ elim (decided-was x e d) [
          | inl before ↦ i.firm l e old (subst (λ y. refuses_for y x l.message ≡ true) (inc-there (leader_of r x) off) is) before
          | inr q ↦ off (sym q.1.own.leads)
        ]
      ]
      | inr new ↦ no-refusal x (inc_at v (leader_of r x)) l new is
    ];
  }

  -- a target that opens keeps the facts
  pub opening-keeps : Attempts r later v
  opening-keeps = record {
    on = record {
      each = λ x. record { entries = entries-on x (k.on.each x).entries; rows = rows-on x (k.on.each x).rows; awaited = awaited-on x (k.on.each x).awaited };
      letters = λ l i. elim (came l i) [
        | inl old ↦ said-on r h later w v goes l.from l.to l.message (k.on.letters l old)
        | inr new ↦ subst (λ y. IsSaidSo r later v y.from y.to y.message) (sym new.is) (subst (λ y. IsAskedSo r later v y.from y.to y.message) new.is (said-new l new))
      ];
      asked = λ l i. elim (has-cases w.asked sent l (subst (Has l) unanswered i)) [ inl old ↦ asked-on r h later w v goes l.from l.to l.message (k.on.asked l old) | inr new ↦ said-new l (sent-is l new) ];
      ordered = all-now w v t s z here targets IsOrdered (record {
        entries = subst (λ es. is_rising entry_key es ≡ true) (sym (reopened-entries s.durable)) rising;
        decided = subst (λ ids. is_rising (row_key itself) ids ≡ true) (sym (opening-decided r t s.durable))
            (rising-attempts (alone t s.durable) (rising-filter entry_key is_open_alone (filter (is_led t) s.durable.entries) (rising-filter entry_key (is_led t) s.durable.entries rising)));
      }) k.on.ordered;
      quiet = all-now w v t s z here targets IsQuiet (λ off. absurd (off refl)) k.on.quiet;
    };
    prompt = λ p wide.
        let left = ap (count p) unanswered ∙ count-append p w.asked sent in
        let right = counts p in
        let same = k.prompt p wide in
        omega (arith, left, right, same);
  }
