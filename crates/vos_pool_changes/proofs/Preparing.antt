-- What is asked where an entry and its writes are prepared, and what is kept then.
use Rattle.std.proofs.Common.{◌≡◌, ℕ, ◌<◌, ◌^◌, Bool, true, false, not, cond, List, [], ◌∷◌, Some, None, refl, sym, ap, subst}
use Rattle.std.specs.Prelude.{filter, find}
use Rattle.std.specs.List.{list_all}
use Rattle.std.proofs.lemmas.Option.{none-some}
use Rattle.base_types.specs.declared.entry.Entry.{Entry}
use Rattle.base_types.specs.declared.entry.Settle.TheVariants.{Forget}
use Rattle.base_types.specs.declared.id.AttemptId.{AttemptId}
use Rattle.base_types.specs.declared.operation.MinorWrite.{MinorWrite}
use Rattle.daos_model.specs.Changes.{is_other, settled}
use Rattle.daos_model.specs.declared.durable.Durable.{Durable}
use Rattle.daos_model.specs.Durables.{entry_of, is_entry_of, same_attempt}
use Rattle.vos_pool_changes.specs.Taking.{can_be_taken}
use Rattle.vos_pool_changes.proofs.Named.{all_staged}
use Rattle.vos_pool_write.specs.Asked.{IsUnwritten}
use Rattle.vos_pool_write.specs.Preparing.{MayBePrepared}
use Rattle.vos_store.specs.Calls.{State}
use Rattle.vos_store.specs.Conditions.{CanPrepare, IsPreparable}

-- ---- an attempt that has no entry

none_found : (a : AttemptId) (es : List Entry) → find (is_entry_of a) es ≡ None → filter (is_other a) es ≡ es
none_found a [] h = refl
none_found a (e ∷ es) h = by (same_attempt e.attempt a) h (none_found a es)
  where
    by : (b : Bool) → cond b (Some e) (find (is_entry_of a) es) ≡ None → (find (is_entry_of a) es ≡ None → filter (is_other a) es ≡ es) → cond (not b) (e ∷ filter (is_other a) es) (filter (is_other a) es) ≡ e ∷ es
    by true some rest = absurd (none-some e (sym some))
    by false none rest = ap (λ z. e ∷ z) (rest none)

none_left : (a : AttemptId) (es : List Entry) → find (is_entry_of a) (filter (is_other a) es) ≡ None
none_left a [] = refl
none_left a (e ∷ es) = by (same_attempt e.attempt a) refl (none_left a es)
  where
    by : (b : Bool) → same_attempt e.attempt a ≡ b → find (is_entry_of a) (filter (is_other a) es) ≡ None → find (is_entry_of a) (cond (not b) (e ∷ filter (is_other a) es) (filter (is_other a) es)) ≡ None
    by true is rest = rest
    by false is rest = rw is rest

-- to forget it changes nothing,
pub none_forgotten : (a : AttemptId) (d : Durable) → entry_of d a ≡ None → settled a Forget d ≡ d
unfolding settled entry_of
none_forgotten a d none = ap (λ es. record d { entries = es }) (none_found a d.entries none)

-- and once it is forgotten it has none
pub forgotten_absent : (a : AttemptId) (d : Durable) → entry_of (settled a Forget d) a ≡ None
unfolding settled entry_of
forgotten_absent a d = none_left a d.entries

-- ---- what is asked

pub are_unwritten : (s : State) (e : Entry) (ws : List MinorWrite) (d : Durable) → CanPrepare s e ws d → IsUnwritten e ws d
are_unwritten s e ws d h = record { absent = h.absent; new = λ k w low. (h.each k w low).new; leased = h.leased }

pub may_be_prepared : (s : State) (targets : ℕ) (e : Entry) (ws : List MinorWrite) → targets ≡ s.targets → IsPreparable s e ws → list_all can_be_taken ws ≡ true → MayBePrepared targets e ws
may_be_prepared s targets e ws same h taken = record {
  undecided = h.undecided;
  unconfirmed = h.unconfirmed;
  leader = subst (λ (n : ℕ). e.leader < n) (sym same) h.leader;
  members = subst (λ (n : ℕ). e.members < 2 ^ n) (sym same) h.members;
  few = h.form.count;
  writes = all_staged e ws h.form.each h.form.minors taken;
}
