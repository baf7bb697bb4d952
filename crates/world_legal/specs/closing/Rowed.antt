-- What a leader's steps leave of the rows for which clients wait.
use Rattle.std.specs.Prelude.{ℕ, ◌≡◌, ◌==◌, ◌&&◌, ◌||◌, Bool, true, false, List, [], ◌∷◌, map, find, Option, Some, None, refl, if◌then◌else◌}
use Rattle.std.specs.Option.{option_map}
use Rattle.std.proofs.Common.{sym, ◌∙◌, ap, subst, inl, inr}
use Rattle.base_types.specs.declared.entry.Entry.{Entry}
use Rattle.base_types.specs.declared.id.AttemptId.{AttemptId}
use Rattle.base_types.specs.declared.outcome.Outcome.{Outcome}
use Rattle.base_types.specs.declared.outcome.Outcome.TheVariants.{Committed}
use Rattle.base_messages.specs.declared.actor.ActorId.{ActorId}
use Rattle.base_messages.specs.declared.message.Message.{Message}
use Rattle.base_messages.specs.declared.message.Message.TheVariants as message
use Rattle.base_messages.specs.declared.message.Post.{Post}
use Rattle.model_laws.specs.Members.{Has}
use Rattle.model_laws.specs.TargetLaws.{number_same}
use Rattle.daos_model.specs.BoolLaws.{and_right, both, clash, false_of}
use Rattle.daos_model.specs.Durables.{same_attempt}
use Rattle.daos_model.specs.EntryLaws.{same_attempt-itself}
use Rattle.dtx_base.specs.declared.leading.Undecided.{Undecided}
use Rattle.dtx_base.specs.Asking.{ask_heard, asked_of, asked_open, tells_end, waits_at}
use Rattle.dtx_base.specs.LeaderLaws.{same-is}
use Rattle.dtx_base.specs.Leading.{LeaderOf, ack_heard, answer_heard, answer_if_awaited, counted_at, decided, down_told, ended, entry_led, first_down, is_down_among, mark_reset, ok_heard, prepare_reset, quietly, reset_heard, status_asked, to_target, undecided_attempt, undecided_of, unwaited_at, with_undecided}
use Rattle.dtx_base.specs.Members.{all_targets, are_all_counted, has_target, is_other_member, with_target}
use Rattle.dtx_base.specs.RowLaws.{row-is, row-map, row-without}
use Rattle.dtx_base.specs.Rows.{is_among, row_of, without_row}
use Rattle.world_standing.specs.world_commit.attempts.MemberBits.{has-with, has-with_other, counted-same}
use Rattle.world_standing.specs.world_commit.attempts.Stored.{row-gone}
use Rattle.world_standing.specs.world_commit.attempts.Turning.{one-or_another, one-or_other}
use Rattle.world_base.specs.declared.did.Did.{Did}
use Rattle.world_base.specs.declared.target.TargetMemory.{TargetMemory}
use Rattle.world_base.specs.declared.target.TargetPlan.{TargetPlan}
use Rattle.world_base.specs.Acks as ack
use Rattle.world_base.specs.Changes.{Change, Kept, Steps}
use Rattle.world_base.specs.PathLaws.{reached-keeps}
use Rattle.world_base.specs.Roles.{leader_at}
use Rattle.world_base.specs.Statuses.{AtOnce, EndsAs, Looking, Looks, NoChange}
use Rattle.world_base.specs.Turns.{Whole}
use Rattle.world_standing.specs.world_commit.fates.Facts.{asks_for}

-- ---- rows

-- a row was there, with the same client, and counted no more
pub record WasRow (rows : List Undecided) (x : AttemptId) (u : Undecided) : Type 0 where
  pub q : Undecided
  pub was : row_of undecided_attempt x rows ≡ Some q
  pub client : u.client ≡ q.client
  pub counted : (m : ℕ) → has_target u.counted m ≡ false → has_target q.counted m ≡ false

pub was-same : (rows : List Undecided) (x : AttemptId) (u : Undecided) → row_of undecided_attempt x rows ≡ Some u → WasRow rows x u
was-same rows x u at = record { q = u; was = at; client = refl; counted = λ m off. off }

-- a row that goes leaves the others, and none of its attempt
gone-rows : (a : AttemptId) (rows : List Undecided) (x : AttemptId) (u : Undecided) → row_of undecided_attempt x (without_row undecided_attempt a rows) ≡ Some u → (row_of undecided_attempt x rows ≡ Some u) × (x ≡ a → ⊥)
gone-rows a rows x u at = elim (one-or_other x a) [
  | inl same ↦ absurd (none same)
  | inr apart ↦ (sym (row-without undecided_attempt x a rows apart) ∙ at, none)
]
  where
    none : x ≡ a → ⊥
    none same =
        let gone : row_of undecided_attempt x (without_row undecided_attempt a rows) ≡ None = ap (λ y. row_of undecided_attempt y (without_row undecided_attempt a rows)) same ∙ row-gone undecided_attempt a rows in
        let no : ⊥ = cc (at, gone) in no

mapped-row : (f : Undecided → Undecided) (o : Option Undecided) (u : Undecided) → option_map f o ≡ Some u → (z : Undecided) × (o ≡ Some z) × (f z ≡ u)
mapped-row f None u h = let no : ⊥ = cc in absurd no
mapped-row f (Some z) u h = (z, refl, cc)

-- ---- an Ack

-- one more member counts
counted-less : (set t m : ℕ) → has_target (with_target set t) m ≡ false → has_target set m ≡ false
counted-less set t m off = elim (one-or_another m t) [
  | inl same ↦ clash (has_target (with_target set t) m) (ap (has_target (with_target set t)) same ∙ has-with set t) off
  | inr apart ↦ sym (has-with_other set t m apart) ∙ off
]

module _ (t : ℕ) (a : AttemptId) where
  counted-was : (rows : List Undecided) (x : AttemptId) (u : Undecided) → row_of undecided_attempt x (map (counted_at a t) rows) ≡ Some u → WasRow rows x u
  counted-was rows x u at = by (same_attempt z.0.attempt a) z.2
    where
      z : (z : Undecided) × (row_of undecided_attempt x rows ≡ Some z) × (counted_at a t z ≡ u)
      z = mapped-row (counted_at a t) (row_of undecided_attempt x rows) u (sym (row-map undecided_attempt (counted_at a t) (counted-same a t) x rows) ∙ at)

      by : (b : Bool) → (if b then record z.0 { counted = with_target z.0.counted t } else z.0) ≡ u → WasRow rows x u
      by true same = record { q = z.0; was = z.1; client = ap (λ y. y.client) (sym same); counted = λ m off. counted-less z.0.counted t m (ap (λ y. has_target y.counted m) same ∙ off) }
      by false same = record { q = z.0; was = z.1; client = ap (λ y. y.client) (sym same); counted = λ m off. ap (λ y. has_target y.counted m) same ∙ off }

  -- in the row of its attempt it is counted
  counted-has : (rows : List Undecided) (u : Undecided) → row_of undecided_attempt a (map (counted_at a t) rows) ≡ Some u → has_target u.counted t ≡ true
  counted-has rows u at = by (same_attempt z.0.attempt a) (row-is undecided_attempt a rows z.0 z.1) z.2
    where
      z : (z : Undecided) × (row_of undecided_attempt a rows ≡ Some z) × (counted_at a t z ≡ u)
      z = mapped-row (counted_at a t) (row_of undecided_attempt a rows) u (sym (row-map undecided_attempt (counted_at a t) (counted-same a t) a rows) ∙ at)

      by : (b : Bool) → b ≡ true → (if b then record z.0 { counted = with_target z.0.counted t } else z.0) ≡ u → has_target u.counted t ≡ true
      by true is same = ap (λ y. has_target y.counted t) (sym same) ∙ has-with z.0.counted t
      by false is same = let no : ⊥ = cc in absurd no

  ok-was : (e : Entry) (own : Undecided) (l : LeaderOf) (x : AttemptId) (u : Undecided) → row_of undecided_attempt x (ok_heard t a e own l).leader.memory.undecided ≡ Some u → WasRow l.memory.undecided x u × (x ≡ a → has_target u.counted t ≡ true)
  ok-was e own l x u at = by (are_all_counted e (with_target own.counted t)) at
    where
      by : (b : Bool) → row_of undecided_attempt x (if b then record { leader = decided a l; posts = ended own.client a e.epoch Committed } else quietly (with_undecided (map (counted_at a t) l.memory.undecided) l)).leader.memory.undecided ≡ Some u
          → WasRow l.memory.undecided x u × (x ≡ a → has_target u.counted t ≡ true)
      by true h = let z = gone-rows a l.memory.undecided x u h in (was-same l.memory.undecided x u z.0, λ same. absurd (z.1 same))
      by false h = (counted-was l.memory.undecided x u h, λ same. counted-has l.memory.undecided u (ap (λ y. row_of undecided_attempt y (map (counted_at a t) l.memory.undecided)) (sym same) ∙ h))

  answer-was : (refusal : Option Outcome) (e : Entry) (own : Undecided) (l : LeaderOf) (x : AttemptId) (u : Undecided) → row_of undecided_attempt x (answer_heard t a refusal e own l).leader.memory.undecided ≡ Some u → WasRow l.memory.undecided x u × (x ≡ a → has_target u.counted t ≡ true)
  answer-was None e own l x u at = ok-was e own l x u at
  answer-was (Some how) e own l x u at = let z = gone-rows a l.memory.undecided x u at in (was-same l.memory.undecided x u z.0, λ same. absurd (z.1 same))

  -- where the attempt has an entry with this other member, it is counted from then on
  awaited-was : (refusal : Option Outcome) (o : Option Entry) (own : Option Undecided) (l : LeaderOf) → undecided_of a l ≡ own → (x : AttemptId) (u : Undecided) → row_of undecided_attempt x (answer_if_awaited t a refusal o own l).leader.memory.undecided ≡ Some u
      → WasRow l.memory.undecided x u × ((e : Entry) → o ≡ Some e → is_other_member e t ≡ true → x ≡ a → has_target u.counted t ≡ true)
  awaited-was refusal None own l row x u at = (was-same l.memory.undecided x u at, λ e is. let no : ⊥ = cc in absurd no)
  awaited-was refusal (Some e) None l row x u at = (was-same l.memory.undecided x u at, λ y is other same. (let found = ap (λ z. row_of undecided_attempt z l.memory.undecided) (sym same) ∙ at in let no : ⊥ = cc (row, found) in absurd no))
  awaited-was refusal (Some e) (Some own) l row x u at = by (is_other_member e t) refl at
    where
      by : (b : Bool) → is_other_member e t ≡ b → row_of undecided_attempt x (if b then answer_heard t a refusal e own l else quietly l).leader.memory.undecided ≡ Some u
          → WasRow l.memory.undecided x u × ((y : Entry) → Some e ≡ Some y → is_other_member y t ≡ true → x ≡ a → has_target u.counted t ≡ true)
      by true is h = let z = answer-was refusal e own l x u h in (z.0, λ y same other. z.1)
      by false off h = (was-same l.memory.undecided x u h, λ y same other here. clash (is_other_member e t) (let one : e ≡ y = cc in ap (λ z. is_other_member z t) one ∙ other) off)

  -- what an Ack leaves of rows; where it is of the present incarnation, and of an attempt with an entry that has this other member, the member counts
  pub ack-was : (inc : ℕ) (refusal : Option Outcome) (l : LeaderOf) (x : AttemptId) (u : Undecided) → row_of undecided_attempt x (ack_heard t a inc refusal l).leader.memory.undecided ≡ Some u
      → WasRow l.memory.undecided x u × ((e : Entry) → (inc == l.incarnation) ≡ true → entry_led a l ≡ Some e → is_other_member e t ≡ true → x ≡ a → has_target u.counted t ≡ true)
  unfolding ack_heard
  ack-was inc refusal l x u at = by (inc == l.incarnation) at
    where
      by : (b : Bool) → row_of undecided_attempt x (if b then answer_if_awaited t a refusal (entry_led a l) (undecided_of a l) l else quietly l).leader.memory.undecided ≡ Some u
          → WasRow l.memory.undecided x u × ((e : Entry) → b ≡ true → entry_led a l ≡ Some e → is_other_member e t ≡ true → x ≡ a → has_target u.counted t ≡ true)
      by true h = let z = awaited-was refusal (entry_led a l) (undecided_of a l) l refl x u h in (z.0, λ e is. z.1 e)
      by false h = (was-same l.memory.undecided x u h, λ e is. let no : ⊥ = cc in absurd no)

-- ---- an Ask

waits-attempt : (a : AttemptId) (c : ActorId) (u : Undecided) → (waits_at a c u).attempt ≡ u.attempt
waits-attempt a c u = by (same_attempt u.attempt a)
  where
    by : (b : Bool) → (if b then record u { client = Some c } else u).attempt ≡ u.attempt
    by true = refl
    by false = refl

-- a row was there; or a client waits from now on, at a leader that knows no member of its entry to be down
pub data AskedRow (l : LeaderOf) (x : AttemptId) (u : Undecided) : Type 0 where
  WasThere : row_of undecided_attempt x l.memory.undecided ≡ Some u → AskedRow l x u
  WaitsNow : (e : Entry) → entry_led x l ≡ Some e → first_down e.members l.memory.down ≡ None → AskedRow l x u

pub ask-rows : (a : AttemptId) (from : ActorId) (l : LeaderOf) (x : AttemptId) (u : Undecided) → row_of undecided_attempt x (ask_heard a from l).leader.memory.undecided ≡ Some u → AskedRow l x u
unfolding ask_heard
ask-rows a from l x u at = cases (entry_led a l) refl (is_among a l.memory.decided) at
  where
    waits : (e : Entry) → entry_led a l ≡ Some e → first_down e.members l.memory.down ≡ None → row_of undecided_attempt x (map (waits_at a from) l.memory.undecided) ≡ Some u → AskedRow l x u
    waits e led none h = by (same_attempt z.0.attempt a) refl z.2
      where
        z : (z : Undecided) × (row_of undecided_attempt x l.memory.undecided ≡ Some z) × (waits_at a from z ≡ u)
        z = mapped-row (waits_at a from) (row_of undecided_attempt x l.memory.undecided) u (sym (row-map undecided_attempt (waits_at a from) (waits-attempt a from) x l.memory.undecided) ∙ h)

        by : (b : Bool) → same_attempt z.0.attempt a ≡ b → (if b then record z.0 { client = Some from } else z.0) ≡ u → AskedRow l x u
        by true is same =
            let here : x ≡ a = sym (same-is z.0.attempt x (row-is undecided_attempt x l.memory.undecided z.0 z.1)) ∙ same-is z.0.attempt a is in
            WaitsNow e (ap (λ y. entry_led y l) here ∙ led) none
        by false off same = WasThere (z.1 ∙ ap (λ y. Some y) same)

    open' : (e : Entry) (o : Option ℕ) → entry_led a l ≡ Some e → first_down e.members l.memory.down ≡ o → row_of undecided_attempt x (asked_open a from e o l).leader.memory.undecided ≡ Some u → AskedRow l x u
    open' e None led none h = waits e led none h
    open' e (Some down) led is h = WasThere h

    known : (e : Entry) (b : Bool) → entry_led a l ≡ Some e
        → row_of undecided_attempt x (if b then record { leader = l; posts = tells_end from a (Some e.epoch) Committed } else asked_open a from e (first_down e.members l.memory.down) l).leader.memory.undecided ≡ Some u → AskedRow l x u
    known e true led h = WasThere h
    known e false led h = open' e (first_down e.members l.memory.down) led refl h

    cases : (o : Option Entry) → entry_led a l ≡ o → (d : Bool) → row_of undecided_attempt x (asked_of a from o d l).leader.memory.undecided ≡ Some u → AskedRow l x u
    cases None led d h = WasThere h
    cases (Some e) led d h = known e (e.committed || d) led h

-- ---- a Reset

unwaited-attempt : (a : AttemptId) (u : Undecided) → (unwaited_at a u).attempt ≡ u.attempt
unwaited-attempt a u = by (same_attempt u.attempt a)
  where
    by : (b : Bool) → (if b then record u { client = None } else u).attempt ≡ u.attempt
    by true = refl
    by false = refl

-- a row was there, and isn't of this attempt; or nobody waits for it any more
pub data LostRow (l : LeaderOf) (Its : AttemptId → Type 0) (x : AttemptId) (u : Undecided) : Type 0 where
  StaysThere : row_of undecided_attempt x l.memory.undecided ≡ Some u → (Its x → ⊥) → LostRow l Its x u
  NobodyWaits : u.client ≡ None → LostRow l Its x u

-- of an attempt with an entry nobody waits once a member is down
down-rows : (by : ℕ) (a : AttemptId) (l : LeaderOf) (o : Option Entry) (own : Option Undecided) → entry_led a l ≡ o → undecided_of a l ≡ own → (x : AttemptId) (e : Entry) → entry_led x l ≡ Some e → (u : Undecided)
    → row_of undecided_attempt x (down_told by a o own l).leader.memory.undecided ≡ Some u → LostRow l (λ y. y ≡ a) x u
down-rows by a l None own led row x e held u at = StaysThere at (λ same. (let found = ap (λ y. entry_led y l) (sym same) ∙ held in let no : ⊥ = cc (led, found) in no))
down-rows by a l (Some z) None led row x e held u at = StaysThere at (λ same. (let found = ap (λ y. row_of undecided_attempt y l.memory.undecided) (sym same) ∙ at in let no : ⊥ = cc (row, found) in no))
down-rows by a l (Some z) (Some own) led row x e held u at = cases (same_attempt y.0.attempt a) refl y.2
  where
    y : (y : Undecided) × (row_of undecided_attempt x l.memory.undecided ≡ Some y) × (unwaited_at a y ≡ u)
    y = mapped-row (unwaited_at a) (row_of undecided_attempt x l.memory.undecided) u (sym (row-map undecided_attempt (unwaited_at a) (unwaited-attempt a) x l.memory.undecided) ∙ at)

    own-attempt : y.0.attempt ≡ x
    own-attempt = same-is y.0.attempt x (row-is undecided_attempt x l.memory.undecided y.0 y.1)

    cases : (b : Bool) → same_attempt y.0.attempt a ≡ b → (if b then record y.0 { client = None } else y.0) ≡ u → LostRow l (λ z. z ≡ a) x u
    cases true is same = NobodyWaits (ap (λ z. z.client) (sym same))
    cases false off same = StaysThere (y.1 ∙ ap (λ z. Some z) same) (λ here. clash (same_attempt y.0.attempt a) (subst (λ z. same_attempt z a ≡ true) (sym (own-attempt ∙ here)) (itself a)) off)
      where
        itself : (z : AttemptId) → same_attempt z z ≡ true
        itself z = same_attempt-itself z

-- a Reset of what a leader asks for an attempt: a member is down, or it is asked what it holds
abbrev pub IsAskedFor : Message → AttemptId → Type 0
IsAskedFor (message.Prepare e first ws inc) x = x ≡ e.attempt
IsAskedFor (message.Status a inc) x = x ≡ a
IsAskedFor m x = ⊥

status-rows : (by : ℕ) (a : AttemptId) (inc : ℕ) (l : LeaderOf) → (status_asked by a inc l).leader.memory.undecided ≡ l.memory.undecided
status-rows by a inc l = cases (inc == l.incarnation)
  where
    cases : (b : Bool) → (if b then record { leader = l; posts = to_target by (message.Status a inc) ∷ [] } else quietly l).leader.memory.undecided ≡ l.memory.undecided
    cases true = refl
    cases false = refl

mark-rows : (by : ℕ) (down : Bool) (inc : ℕ) (marks : List (AttemptId × Bool)) (l : LeaderOf) → (mark_reset by down inc marks l).leader.memory.undecided ≡ l.memory.undecided
unfolding mark_reset
mark-rows by true inc marks l = refl
mark-rows by false inc marks l = refl

module _ (by : ℕ) (l : LeaderOf) (x : AttemptId) (e : Entry) (held : entry_led x l ≡ Some e) (u : Undecided) where
  -- where the member is down
  pub lost-down : (q : Message) → row_of undecided_attempt x (reset_heard by true q l).leader.memory.undecided ≡ Some u → LostRow l (IsAskedFor q) x u
  unfolding prepare_reset
  lost-down (message.Prepare k first ws inc) at = down-rows by k.attempt l (entry_led k.attempt l) (undecided_of k.attempt l) refl refl x e held u at
  lost-down (message.Status a inc) at = down-rows by a l (entry_led a l) (undecided_of a l) refl refl x e held u at
  lost-down (message.Mark inc marks) at = StaysThere (ap (row_of undecided_attempt x) (sym (mark-rows by true inc marks l)) ∙ at) (λ i. i)
  lost-down q at = StaysThere at (λ i. i)

  -- where it stopped alone, all rows stay
  pub lost-up : (q : Message) → row_of undecided_attempt x (reset_heard by false q l).leader.memory.undecided ≡ Some u → row_of undecided_attempt x l.memory.undecided ≡ Some u
  unfolding prepare_reset
  lost-up (message.Prepare k first ws inc) at = ap (row_of undecided_attempt x) (sym (status-rows by k.attempt inc l)) ∙ at
  lost-up (message.Status a inc) at = ap (row_of undecided_attempt x) (sym (status-rows by a inc l)) ∙ at
  lost-up (message.Mark inc marks) at = ap (row_of undecided_attempt x) (sym (mark-rows by false inc marks l)) ∙ at
  lost-up q at = at

-- and it is asked what it holds, by the present incarnation
status-sent : (by : ℕ) (a : AttemptId) (inc : ℕ) (l : LeaderOf) → (inc == l.incarnation) ≡ true → Has (to_target by (message.Status a inc)) (status_asked by a inc l).posts
status-sent by a inc l is = subst (λ b. Has (to_target by (message.Status a inc)) (if b then record { leader = l; posts = to_target by (message.Status a inc) ∷ [] } else quietly l).posts) (sym is) (inl refl)

pub asked-again : (by : ℕ) (x : AttemptId) (inc : ℕ) (q : Message) (l : LeaderOf) → asks_for inc x q ≡ true → (inc == l.incarnation) ≡ true → (p : Post) × Has p (reset_heard by false q l).posts × (p.to ≡ (to_target by q).to) × (asks_for inc x p.message ≡ true)
unfolding prepare_reset
asked-again by x inc (message.Prepare e first ws i) l asks now = again e.attempt i asks
  where
    again : (a : AttemptId) (i : ℕ) → (same_attempt a x && (i == inc)) ≡ true → (p : Post) × Has p (status_asked by a i l).posts × (p.to ≡ (to_target by (message.Status a i)).to) × (asks_for inc x p.message ≡ true)
    again a i is = (to_target by (message.Status a i), status-sent by a i l (ap (λ n. n == l.incarnation) (number_same i inc (and_right (same_attempt a x) (i == inc) is)) ∙ now), refl, is)
asked-again by x inc (message.Status a i) l asks now = (to_target by (message.Status a i), status-sent by a i l (ap (λ n. n == l.incarnation) (number_same i inc (and_right (same_attempt a x) (i == inc) asks)) ∙ now), refl, asks)
asked-again by x inc q l asks now = let no : ⊥ = cc in absurd no

-- ---- who is down

-- where no member is down of those that are known to be, none of these members is
find-none : {T : Type 0} (p : T → Bool) (xs : List T) (x : T) → find p xs ≡ None → Has x xs → p x ≡ false
find-none p [] x none i = absurd i
find-none p (y ∷ xs) x none i = cases (p y) refl none i (find-none p xs x)
  where
    cases : (b : Bool) → p y ≡ b → (if b then Some y else find p xs) ≡ None → Has x (y ∷ xs) → (find p xs ≡ None → Has x xs → p x ≡ false) → p x ≡ false
    cases true is h j rest = let no : ⊥ = cc in absurd no
    cases false off h (inl same) rest = ap p same ∙ off
    cases false off h (inr j) rest = rest h j

pub none-down : (members down m : ℕ) → first_down members down ≡ None → Has m all_targets → has_target members m ≡ true → has_target down m ≡ false
unfolding first_down
none-down members down m none among member = false_of (has_target down m) (λ is. clash (is_down_among members down m) (both (has_target members m) (has_target down m) member is) (find-none (is_down_among members down) all_targets m none among))

-- ---- turns

-- what an Ack leaves of rows is what follows of it from what was there before
abbrev AckStands : TargetPlan → TargetMemory → ℕ → AttemptId → ℕ → Option Outcome → Kept → ack.AckStage → Kept → Type 0
AckStands t m member a inc refusal old ack.Heard k = k ≡ old
AckStands t m member a inc refusal old (ack.Followed s) k = s ≡ ack_heard member a inc refusal (leader_at t m old.durable)

ack-step : (t : TargetPlan) (m : TargetMemory) (member : ℕ) (a : AttemptId) (inc : ℕ) (refusal : Option Outcome) (old : Kept) (s : ack.AckStage) (k : Kept) (o : Option Change) (u : ack.AckStage) (l : Kept)
    → ack.AckNext t m member a inc refusal s k o u → Steps o k l → AckStands t m member a inc refusal old s k → AckStands t m member a inc refusal old u l
ack-step t m member a inc refusal old s k o u l (ack.Aborts j is) steps h = ap (λ n. ack_heard member a inc refusal (leader_at t m n.durable)) h
ack-step t m member a inc refusal old s k o u l (ack.Counts j is) steps h = ap (λ n. ack_heard member a inc refusal (leader_at t m n.durable)) h

ack-ends : (t : TargetPlan) (m : TargetMemory) (member : ℕ) (a : AttemptId) (inc : ℕ) (refusal : Option Outcome) (old : Kept) (s : ack.AckStage) (k : Kept) (left : TargetMemory × Did)
    → AckStands t m member a inc refusal old s k → ack.AckEnds m s k left → left.0.leader.undecided ≡ (ack_heard member a inc refusal (leader_at t m old.durable)).leader.memory.undecided
ack-ends t m member a inc refusal old s k left stands (ack.IsFollowed j step z is) = ap (λ y. y.0.leader.undecided) is ∙ ap (λ y. y.leader.memory.undecided) stands

pub ack-follows : (t : TargetPlan) (m : TargetMemory) (member : ℕ) (a : AttemptId) (inc : ℕ) (refusal : Option Outcome) (old new : Kept) (left : TargetMemory × Did) → Whole (ack.AckNext t m member a inc refusal) (ack.AckEnds m) ack.Heard old new left
    → left.0.leader.undecided ≡ (ack_heard member a inc refusal (leader_at t m old.durable)).leader.memory.undecided
ack-follows t m member a inc refusal old new left h =
    ack-ends t m member a inc refusal old h.last new left (reached-keeps (ack.AckNext t m member a inc refusal) (AckStands t m member a inc refusal old) (ack-step t m member a inc refusal old) ack.Heard old h.last new h.reached refl) h.ends

-- a turn without a change leaves what was kept
looked : (old : Kept) (s : AtOnce) (k : Kept) (o : Option Change) (u : AtOnce) (l : Kept) → NoChange s k o u → Steps o k l → k ≡ old → l ≡ old
looked old s k o u l (Looks j) steps h = steps ∙ h

pub looks-same : (left_by : Kept → TargetMemory × Did) (old new : Kept) (left : TargetMemory × Did) → Whole NoChange (EndsAs left_by) Looking old new left → new ≡ old
looks-same left_by old new left h = reached-keeps NoChange (λ s k. k ≡ old) (looked old) Looking old h.last new h.reached refl
