-- Once a member has heard a Mark, nothing that it names and another target leads is prepared there.
use Rattle.std.specs.Prelude.{ℕ, ◌≡◌, ◌⊎◌, Bool, true, false, not, List, Option, Some, refl, if◌then◌else◌}
use Rattle.std.proofs.Common.{sym, ◌∙◌, ap, subst, inl, inr}
use Rattle.base_types.specs.declared.entry.Entry.{Entry}
use Rattle.base_types.specs.declared.entry.Settle.TheVariants.{Abort, Commit}
use Rattle.base_types.specs.declared.id.AttemptId.{AttemptId}
use Rattle.model_laws.specs.Members.{Has}
use Rattle.base_messages.specs.declared.actor.ActorId.{ActorId}
use Rattle.daos_model.specs.declared.durable.Durable.{Durable}
use Rattle.daos_model.specs.Changes.{committed_at, settled}
use Rattle.daos_model.specs.Durables.{entry_of, same_attempt}
use Rattle.dtx_base.specs.Leading.{attempts_of, entry_attempt}
use Rattle.dtx_base.specs.RowLaws.{row-is}
use Rattle.world_commit.specs.asks.Entries.{Unprepared, mapped, unprepared-step}
use Rattle.world_base.specs.declared.did.Did.{Did}
use Rattle.world_base.specs.declared.target.TargetMemory.{TargetMemory}
use Rattle.world_base.specs.Changes.{Change, Kept, Settles, Steps}
use Rattle.world_base.specs.DoubtLaws.{IsLedElsewhere, elsewhere-settled, undoubted-closed}
use Rattle.world_base.specs.EntryLaws.{entry-aborted, entry-committed}
use Rattle.world_base.specs.Marks.{AllMarked, MarkEnds, MarkNext, PassesBy, SettlesMarked, marked_step}
use Rattle.world_base.specs.PathLaws.{reached-keeps}
use Rattle.world_base.specs.Roles.{is_in_doubt, is_open_entry, is_prepared}
use Rattle.world_base.specs.Turns.{Whole}

-- an entry is its attempt's
entry-is : (d : Durable) (a : AttemptId) (e : Entry) → entry_of d a ≡ Some e → same_attempt e.attempt a ≡ true
unfolding entry_of
entry-is d a e found = row-is entry_attempt a d.entries e found

committed-own : (a : AttemptId) (e : Entry) → same_attempt e.attempt a ≡ true → (committed_at a e).committed ≡ true
committed-own a e is = ap (λ (b : Bool). (if b then record e { committed = true } else e).committed) is

-- what a Mark settles isn't prepared any more
settled-own : (a : AttemptId) (committed : Bool) (d : Durable) → Unprepared (settled a (marked_step committed) d) a
settled-own a true d e at =
    let o = mapped (committed_at a) (entry_of d a) e (sym (entry-committed a d a) ∙ at) in
    ap (λ z. z.committed) (sym o.2) ∙ committed-own a o.0 (entry-is d a o.0 o.1)
settled-own a false d e at = let no : ⊥ = cc (at, entry-aborted a d) in absurd no

-- nor is what isn't prepared before
unprepared-is : (a : AttemptId) (d : Durable) → is_prepared a d ≡ false → Unprepared d a
unfolding is_prepared
unprepared-is a d none e at = by e.committed (ap is_open_entry (sym at) ∙ none)
  where
    by : (b : Bool) → not b ≡ false → b ≡ true
    by true h = refl
    by false h = let no : ⊥ = cc in absurd no

-- an attempt that is named is still to be settled, and led elsewhere; or none of it is prepared
abbrev IsToSettle : ℕ → AttemptId → List (AttemptId × Bool) → Kept → Type 0
IsToSettle me x rest k = (Has x (attempts_of rest) × IsLedElsewhere me x k.durable) ⊎ Unprepared k.durable x

marks-stores_not : (x a : AttemptId) (committed : Bool) (k l : Kept) → Steps (Some (Settles a (marked_step committed))) k l → Unprepared k.durable x → Unprepared l.durable x
marks-stores_not x a true k l st h = unprepared-step x (Some (Settles a Commit)) k l st tt h
marks-stores_not x a false k l st h = unprepared-step x (Some (Settles a Abort)) k l st tt h

mark-step : (me : ℕ) (x : AttemptId) (s : List (AttemptId × Bool)) (k : Kept) (o : Option Change) (u : List (AttemptId × Bool)) (l : Kept) → MarkNext (is_in_doubt me) s k o u → Steps o k l → IsToSettle me x s k → IsToSettle me x u l
mark-step me x s k o u l (SettlesMarked j a committed rest is) st (inl (inl same, elsewhere)) =
    inr (subst (λ y. Unprepared l.durable y) (sym same) (subst (λ d. Unprepared d a) (sym st.0) (settled-own a committed k.durable)))
mark-step me x s k o u l (SettlesMarked j a committed rest is) st (inl (inr i, elsewhere)) = inl (i, subst (IsLedElsewhere me x) (sym st.0) (elsewhere-settled me x a committed k.durable elsewhere))
mark-step me x s k o u l (SettlesMarked j a committed rest is) st (inr h) = inr (marks-stores_not x a committed k l st h)
mark-step me x s k o u l (PassesBy j a committed rest is) st (inl (inl same, elsewhere)) =
    inr (subst (λ y. Unprepared l.durable y) (sym same)
    (subst (λ z. Unprepared z.durable a) (sym st) (unprepared-is a k.durable (undoubted-closed me a k.durable (subst (λ y. IsLedElsewhere me y k.durable) same elsewhere) is))))
mark-step me x s k o u l (PassesBy j a committed rest is) st (inl (inr i, elsewhere)) = inl (i, subst (λ z. IsLedElsewhere me x z.durable) (sym st) elsewhere)
mark-step me x s k o u l (PassesBy j a committed rest is) st (inr h) = inr (subst (λ z. Unprepared z.durable x) (sym st) h)

marks-over : (me : ℕ) (m : TargetMemory) (from : ActorId) (inc : ℕ) (marks s : List (AttemptId × Bool)) (k : Kept) (left : TargetMemory × Did) (x : AttemptId) → MarkEnds m from inc marks s k left → IsToSettle me x s k
    → Unprepared k.durable x
marks-over me m from inc marks s k left x (AllMarked j z is) (inl (i, elsewhere)) = absurd i
marks-over me m from inc marks s k left x (AllMarked j z is) (inr h) = h

pub marked-unprepared : (me : ℕ) (m : TargetMemory) (from : ActorId) (inc : ℕ) (marks : List (AttemptId × Bool)) (old new : Kept) (left : TargetMemory × Did) (x : AttemptId)
    → Whole (MarkNext (is_in_doubt me)) (MarkEnds m from inc marks) marks old new left → Has x (attempts_of marks) → IsLedElsewhere me x old.durable → Unprepared new.durable x
marked-unprepared me m from inc marks old new left x w i elsewhere =
    marks-over me m from inc marks w.last new left x w.ends (reached-keeps (MarkNext (is_in_doubt me)) (IsToSettle me x) (mark-step me x) marks old w.last new w.reached (inl (i, elsewhere)))
