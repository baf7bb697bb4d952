-- Which entry an attempt has after each change.
use Rattle.std.specs.Prelude.{◌^◌, ◌∷◌, ◌≡◌, Bool, List, None, Option, Some, [], ℕ, bit_or, false, filter, find, if◌then◌else◌, not, refl, true}
use Rattle.std.specs.Option.{option_map}
use Rattle.std.proofs.Common.{◌∙◌, ap}
use Rattle.base_types.specs.declared.entry.Entry.{Entry}
use Rattle.base_types.specs.declared.entry.Settle.TheVariants.{Abort, Commit, Confirm}
use Rattle.base_types.specs.declared.id.AttemptId.{AttemptId}
use Rattle.base_types.specs.declared.operation.MinorWrite.{MinorWrite}
use Rattle.daos_model.specs.declared.durable.Durable.{Durable}
use Rattle.daos_model.specs.Changes.{committed_at, confirmed_at, is_other, leased, prepared, settled}
use Rattle.daos_model.specs.Durables.{entry_of, is_entry_of, same_attempt}
use Rattle.dtx_base.specs.Leading.{entry_attempt}
use Rattle.dtx_base.specs.RowLaws.{row-map, row-with, row-without}
use Rattle.world_base.specs.declared.target.TargetPlan.{TargetPlan}
use Rattle.world_base.specs.Roles.{other_leader, other_leader_of}

-- ---- the lease

pub entry-leased : (ticks : ℕ) (d : Durable) (x : AttemptId) → entry_of (leased ticks d) x ≡ entry_of d x
unfolding entry_of leased
entry-leased ticks d x = refl

-- ---- an attempt is stored

-- another attempt's entry stays
pub entry-prepared_other : (e : Entry) (ws : List MinorWrite) (d : Durable) (x : AttemptId) → (x ≡ e.attempt → ⊥) → entry_of (prepared e ws d) x ≡ entry_of d x
unfolding entry_of prepared
entry-prepared_other e ws d x apart = row-with entry_attempt x e d.entries apart

-- ---- an attempt is settled

pub same-committed : (a : AttemptId) (e : Entry) → entry_attempt (committed_at a e) ≡ entry_attempt e
same-committed a e = by (same_attempt e.attempt a)
  where
    by : (s : Bool) → entry_attempt (if s then record e { committed = true } else e) ≡ entry_attempt e
    by true = refl
    by false = refl

pub same-confirmed : (a : AttemptId) (t : ℕ) (e : Entry) → entry_attempt (confirmed_at a t e) ≡ entry_attempt e
same-confirmed a t e = by (same_attempt e.attempt a)
  where
    by : (s : Bool) → entry_attempt (if s then record e { confirmed = bit_or e.confirmed (2 ^ t) } else e) ≡ entry_attempt e
    by true = refl
    by false = refl

pub entry-committed : (a : AttemptId) (d : Durable) (x : AttemptId) → entry_of (settled a Commit d) x ≡ option_map (committed_at a) (entry_of d x)
unfolding entry_of settled
entry-committed a d x = row-map entry_attempt (committed_at a) (same-committed a) x d.entries

pub entry-confirmed : (a : AttemptId) (t : ℕ) (d : Durable) (x : AttemptId) → entry_of (settled a (Confirm t) d) x ≡ option_map (confirmed_at a t) (entry_of d x)
unfolding entry_of settled
entry-confirmed a t d x = row-map entry_attempt (confirmed_at a t) (same-confirmed a t) x d.entries

-- what is aborted goes, and another attempt's entry stays
pub entry-aborted_other : (a : AttemptId) (d : Durable) (x : AttemptId) → (x ≡ a → ⊥) → entry_of (settled a Abort d) x ≡ entry_of d x
unfolding entry_of settled
entry-aborted_other a d x apart = row-without entry_attempt x a d.entries apart

none-of-others : (a : AttemptId) (es : List Entry) → find (is_entry_of a) (filter (is_other a) es) ≡ None
none-of-others a [] = refl
none-of-others a (e ∷ es) = by (none-of-others a es) (same_attempt e.attempt a) refl
  where
    by : find (is_entry_of a) (filter (is_other a) es) ≡ None → (s : Bool) → same_attempt e.attempt a ≡ s
        → find (is_entry_of a) (if not s then e ∷ filter (is_other a) es else filter (is_other a) es) ≡ None
    by rest true is = rest
    by rest false is = ap (λ (s : Bool). if s then Some e else find (is_entry_of a) (filter (is_other a) es)) is ∙ rest

pub entry-aborted : (a : AttemptId) (d : Durable) → entry_of (settled a Abort d) a ≡ None
unfolding entry_of settled
entry-aborted a d = none-of-others a d.entries

-- ---- which other target leads an attempt that has an entry

same-leader : (a : AttemptId) (me : ℕ) (o : Option Entry) → other_leader_of me (option_map (committed_at a) o) ≡ other_leader_of me o
same-leader a me None = refl
same-leader a me (Some e) = by (same_attempt e.attempt a)
  where
    by : (b : Bool) → other_leader_of me (Some (if b then record e { committed = true } else e)) ≡ other_leader_of me (Some e)
    by true = refl
    by false = refl

pub leader-committed : (t : TargetPlan) (a x : AttemptId) (d : Durable) → other_leader t x (settled a Commit d) ≡ other_leader t x d
unfolding other_leader
leader-committed t a x d = ap (other_leader_of t.me) (entry-committed a d x) ∙ same-leader a t.me (entry_of d x)

pub leader-aborted_other : (t : TargetPlan) (a x : AttemptId) (d : Durable) → (x ≡ a → ⊥) → other_leader t x (settled a Abort d) ≡ other_leader t x d
unfolding other_leader
leader-aborted_other t a x d apart = ap (other_leader_of t.me) (entry-aborted_other a d x apart)

pub leader-aborted : (t : TargetPlan) (a : AttemptId) (d : Durable) → other_leader t a (settled a Abort d) ≡ None
unfolding other_leader
leader-aborted t a d = ap (other_leader_of t.me) (entry-aborted a d)

pub leader-leased : (t : TargetPlan) (n : ℕ) (x : AttemptId) (d : Durable) → other_leader t x (leased n d) ≡ other_leader t x d
unfolding other_leader
leader-leased t n x d = ap (other_leader_of t.me) (entry-leased n d x)
