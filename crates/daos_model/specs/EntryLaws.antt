-- Which entry an attempt has after a change.
use Rattle.std.proofs.Common.{◌≡◌, Bool, true, false, ◌&&◌, List, [], ◌∷◌, Some, None, ap, arith}
use Rattle.std.specs.Prelude.{◌==◌, find, if◌then◌else◌}
use Rattle.std.proofs.lemmas.Bool.Decides.{nat_tests}
use Rattle.base_types.specs.declared.entry.Entry.{Entry}
use Rattle.base_types.specs.declared.id.AttemptId.{AttemptId}
use Rattle.base_types.specs.declared.operation.MinorWrite.{MinorWrite}
use Rattle.daos_model.specs.declared.durable.Durable.{Durable}
use Rattle.daos_model.specs.Answers.{is_before}
use Rattle.daos_model.specs.BoolLaws.{both}
use Rattle.daos_model.specs.Changes.{prepared}
use Rattle.daos_model.specs.Durables.{entry_key, entry_of, is_entry_of, same_attempt}
use Rattle.daos_model.specs.Ordered.{put}

pub same_attempt-itself : (a : AttemptId) → same_attempt a a ≡ true
unfolding same_attempt
same_attempt-itself a =
    both ((a.client == a.client) && (a.command == a.command)) (a.attempt == a.attempt)
    (both (a.client == a.client) (a.command == a.command) (grind (arith, nat_tests)) (grind (arith, nat_tests))) (grind (arith, nat_tests))

-- an entry that was put where its attempt had none is found
found-put : (e : Entry) (es : List Entry) → find (is_entry_of e.attempt) es ≡ None → find (is_entry_of e.attempt) (put entry_key e es) ≡ Some e
found-put e [] h = ap (λ (b : Bool). if b then Some e else None) (same_attempt-itself e.attempt)
found-put e (x ∷ es) h =
    elim (is_before (entry_key x) (entry_key e)) as (λ b. find (is_entry_of e.attempt) (if b then x ∷ put entry_key e es else e ∷ x ∷ es) ≡ Some e) [
      | true ↦ later (is_entry_of e.attempt x) h (found-put e es)
      | false ↦ ap (λ (b : Bool). if b then Some e else find (is_entry_of e.attempt) (x ∷ es)) (same_attempt-itself e.attempt)
    ]
  where
    later : (b : Bool) → (if b then Some x else find (is_entry_of e.attempt) es) ≡ None → (find (is_entry_of e.attempt) es ≡ None → find (is_entry_of e.attempt) (put entry_key e es) ≡ Some e) → (if b then Some x else find (is_entry_of e.attempt) (put entry_key e es)) ≡ Some e
    later true none rest = absurd (let n : ⊥ = cc in n)
    later false none rest = rest none

-- after a prepare the attempt has the entry that was prepared
pub entry_of-prepared : (e : Entry) (ws : List MinorWrite) (d : Durable) → entry_of d e.attempt ≡ None → entry_of (prepared e ws d) e.attempt ≡ Some e
unfolding entry_of prepared
entry_of-prepared e ws d absent = found-put e d.entries absent
