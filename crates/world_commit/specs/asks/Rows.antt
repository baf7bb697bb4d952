-- An attempt that isn't decided waits for a member; and no member is known to be down.
use Rattle.std.specs.Prelude.{ℕ, ◌≡◌, ◌⊎◌, ◌==◌, ◌&&◌, Bool, true, false, map, List, [], ◌∷◌, Option, Some, None, refl, if◌then◌else◌}
use Rattle.std.specs.List.{list_all}
use Rattle.std.specs.Option.{option_map}
use Rattle.std.proofs.Common.{sym, ◌∙◌, ap, inl, inr, arith}
use Rattle.std.proofs.lemmas.Bool.Decides.{nat_tests}
use Rattle.base_types.specs.declared.entry.Entry.{Entry}
use Rattle.base_types.specs.declared.epoch.Epoch.{Epoch}
use Rattle.base_types.specs.declared.id.AttemptId.{AttemptId}
use Rattle.base_types.specs.declared.operation.MinorWrite.{MinorWrite}
use Rattle.base_types.specs.declared.outcome.Outcome.{Outcome}
use Rattle.base_types.specs.declared.outcome.Outcome.TheVariants as outcome
use Rattle.base_messages.specs.declared.actor.ActorId.{ActorId}
use Rattle.daos_model.specs.Durables.{same_attempt}
use Rattle.dtx_base.specs.declared.leading.Undecided.{Undecided}
use Rattle.dtx_base.specs.LeaderLaws.{same-is}
use Rattle.dtx_base.specs.Leading.{LeaderOf, LeaderStep, ack_heard, answer_heard, answer_if_awaited, begun, begun_alone, begun_with_others, counted_at, decided, ended, entry_led, new_undecided, ok_heard, quietly, undecided_attempt, undecided_of, with_undecided}
use Rattle.dtx_base.specs.Members.{are_all_counted, has_target, is_other_member, other_members, with_target}
use Rattle.dtx_base.specs.Rows.{is_empty, row_of, with_row, without_row}
use Rattle.dtx_base.specs.RowLaws.{row-is, row-map, row-with, row-without}
use Rattle.world_commit.specs.attempts.MemberBits.{has-none, counted-same}
use Rattle.world_commit.specs.attempts.Stored.{row-gone, row-new}
use Rattle.world_commit.specs.attempts.Turning.{one-or_other}

-- ---- one step of a leader

-- not all other members of an entry are counted in a row
abbrev pub IsLacking : Entry → Undecided → Type 0
IsLacking e u = list_all (has_target u.counted) (other_members e) ≡ false

-- what a step leaves: each row was there before, or it is of an entry that the leader keeps, and lacks a member; and who is down
pub record LeadsOn (l : LeaderOf) (s : LeaderStep) : Type 0 where
  pub rows : (x : AttemptId) (u : Undecided) → row_of undecided_attempt x s.leader.memory.undecided ≡ Some u → (row_of undecided_attempt x l.memory.undecided ≡ Some u) ⊎ ((e : Entry) × (entry_led x l ≡ Some e) × IsLacking e u)
  pub down : s.leader.memory.down ≡ l.memory.down

leads-same : (l : LeaderOf) → LeadsOn l (quietly l)
leads-same l = record { rows = λ x u at. inl at; down = refl }

-- a row that goes leaves the others
gone-rows : (a : AttemptId) (rows : List Undecided) (x : AttemptId) (u : Undecided) → row_of undecided_attempt x (without_row undecided_attempt a rows) ≡ Some u → row_of undecided_attempt x rows ≡ Some u
gone-rows a rows x u at = elim (one-or_other x a) [
  | inl same ↦
      let none : row_of undecided_attempt x (without_row undecided_attempt a rows) ≡ None = ap (λ y. row_of undecided_attempt y (without_row undecided_attempt a rows)) same ∙ row-gone undecided_attempt a rows in
      let no : ⊥ = cc (at, none) in absurd no
  | inr apart ↦ sym (row-without undecided_attempt x a rows apart) ∙ at
]

mapped-row : (f : Undecided → Undecided) (o : Option Undecided) (u : Undecided) → option_map f o ≡ Some u → (z : Undecided) × (o ≡ Some z) × (f z ≡ u)
mapped-row f None u h = let no : ⊥ = cc in absurd no
mapped-row f (Some z) u h = (z, refl, cc)

-- a member that counts: the row of its attempt has it, and the others stay
counted-rows : (t : ℕ) (a : AttemptId) (e : Entry) (own : Undecided) (l : LeaderOf) → entry_led a l ≡ Some e → undecided_of a l ≡ Some own → list_all (has_target (with_target own.counted t)) (other_members e) ≡ false
    → LeadsOn l (quietly (with_undecided (map (counted_at a t) l.memory.undecided) l))
counted-rows t a e own l led row lacks = record { rows = rows; down = refl }
  where
    at-row : (x : AttemptId) (u z : Undecided) → row_of undecided_attempt x l.memory.undecided ≡ Some z → (b : Bool) → same_attempt z.attempt a ≡ b → (if b then record z { counted = with_target z.counted t } else z) ≡ u
        → (row_of undecided_attempt x l.memory.undecided ≡ Some u) ⊎ ((e : Entry) × (entry_led x l ≡ Some e) × IsLacking e u)
    at-row x u z at true is same =
        let here : x ≡ a = sym (same-is z.attempt x (row-is undecided_attempt x l.memory.undecided z at)) ∙ same-is z.attempt a is in
        let one : Some z ≡ Some own = sym at ∙ ap (λ y. row_of undecided_attempt y l.memory.undecided) here ∙ row in
        let it : z ≡ own = cc in
        inr (
          e,
          ap (λ y. entry_led y l) here ∙ led,
          ap (λ y. list_all (has_target y.counted) (other_members e)) (sym same) ∙ ap (λ y. list_all (has_target (with_target y.counted t)) (other_members e)) it ∙ lacks,
        )
    at-row x u z at false is same = inl (at ∙ ap (λ y. Some y) same)

    rows : (x : AttemptId) (u : Undecided) → row_of undecided_attempt x (map (counted_at a t) l.memory.undecided) ≡ Some u
        → (row_of undecided_attempt x l.memory.undecided ≡ Some u) ⊎ ((e : Entry) × (entry_led x l ≡ Some e) × IsLacking e u)
    rows x u at =
        let m = mapped-row (counted_at a t) (row_of undecided_attempt x l.memory.undecided) u (sym (row-map undecided_attempt (counted_at a t) (counted-same a t) x l.memory.undecided) ∙ at) in
        at-row x u m.0 m.1 (same_attempt m.0.attempt a) refl m.2

ok-leads : (t : ℕ) (a : AttemptId) (e : Entry) (u : Undecided) (l : LeaderOf) → entry_led a l ≡ Some e → undecided_of a l ≡ Some u → LeadsOn l (ok_heard t a e u l)
unfolding are_all_counted
ok-leads t a e u l led row = by (list_all (has_target (with_target u.counted t)) (other_members e)) refl
  where
    by : (s : Bool) → list_all (has_target (with_target u.counted t)) (other_members e) ≡ s
        → LeadsOn l (if s then record { leader = decided a l; posts = ended u.client a e.epoch outcome.Committed } else quietly (with_undecided (map (counted_at a t) l.memory.undecided) l))
    by true all = record { rows = λ x q at. inl (gone-rows a l.memory.undecided x q at); down = refl }
    by false lacks = counted-rows t a e u l led row lacks

answer-leads : (t : ℕ) (a : AttemptId) (refusal : Option Outcome) (e : Entry) (u : Undecided) (l : LeaderOf) → entry_led a l ≡ Some e → undecided_of a l ≡ Some u → LeadsOn l (answer_heard t a refusal e u l)
answer-leads t a None e u l led row = ok-leads t a e u l led row
answer-leads t a (Some how) e u l led row = record { rows = λ x q at. inl (gone-rows a l.memory.undecided x q at); down = refl }

awaited-leads : (t : ℕ) (a : AttemptId) (refusal : Option Outcome) (e : Option Entry) (u : Option Undecided) (l : LeaderOf) → entry_led a l ≡ e → undecided_of a l ≡ u → LeadsOn l (answer_if_awaited t a refusal e u l)
awaited-leads t a refusal None u l led row = leads-same l
awaited-leads t a refusal (Some e) None l led row = leads-same l
awaited-leads t a refusal (Some e) (Some u) l led row = by (is_other_member e t)
  where
    by : (s : Bool) → LeadsOn l (if s then answer_heard t a refusal e u l else quietly l)
    by true = answer-leads t a refusal e u l led row
    by false = leads-same l

pub ack-leads : (t : ℕ) (a : AttemptId) (inc : ℕ) (refusal : Option Outcome) (l : LeaderOf) → LeadsOn l (ack_heard t a inc refusal l)
unfolding ack_heard
ack-leads t a inc refusal l = by (inc == l.incarnation)
  where
    by : (s : Bool) → LeadsOn l (if s then answer_if_awaited t a refusal (entry_led a l) (undecided_of a l) l else quietly l)
    by true = awaited-leads t a refusal (entry_led a l) (undecided_of a l) l refl refl
    by false = leads-same l

-- ---- an attempt begins

pub none-counted-yet : (ts : List ℕ) → is_empty ts ≡ false → list_all (has_target 0) ts ≡ false
none-counted-yet [] some = let no : ⊥ = grind (arith, nat_tests) in absurd no
none-counted-yet (t ∷ ts) some = ap (λ b. b && list_all (has_target 0) ts) (has-none t)

-- the row that comes lacks all other members
pub begun-rows : (e : Entry) (first : Option Epoch) (client : ActorId) (ws : List MinorWrite) (l : LeaderOf) → undecided_of e.attempt l ≡ None → (x : AttemptId) (u : Undecided)
    → row_of undecided_attempt x (begun e first client ws l).leader.memory.undecided ≡ Some u → (row_of undecided_attempt x l.memory.undecided ≡ Some u) ⊎ ((x ≡ e.attempt) × IsLacking e u)
unfolding begun
begun-rows e first client ws l none x u at = by (is_empty (other_members e)) refl at
  where
    row : Undecided
    row = new_undecided e.attempt (Some client)

    others : is_empty (other_members e) ≡ false → row_of undecided_attempt x (with_row undecided_attempt row l.memory.undecided) ≡ Some u → (row_of undecided_attempt x l.memory.undecided ≡ Some u) ⊎ ((x ≡ e.attempt) × IsLacking e u)
    others some found = elim (one-or_other x e.attempt) [
      | inl same ↦
          let one : Some u ≡ Some row = sym found ∙ ap (λ y. row_of undecided_attempt y (with_row undecided_attempt row l.memory.undecided)) same ∙ row-new undecided_attempt row l.memory.undecided none in
          let it : u ≡ row = cc in
          inr (same, ap (λ y. list_all (has_target y.counted) (other_members e)) it ∙ none-counted-yet (other_members e) some)
      | inr apart ↦ inl (sym (row-with undecided_attempt x row l.memory.undecided apart) ∙ found)
    ]

    by : (s : Bool) → is_empty (other_members e) ≡ s → row_of undecided_attempt x (if s then begun_alone e client l else begun_with_others e first client ws l).leader.memory.undecided ≡ Some u
        → (row_of undecided_attempt x l.memory.undecided ≡ Some u) ⊎ ((x ≡ e.attempt) × IsLacking e u)
    by true empty found = inl found
    by false some found = others some found
