-- Each move of a client keeps that its attempts end as they were answered.
use Rattle.std.specs.Prelude.{ℕ, ◌≡◌, ◌≤◌, ◌+◌, ◌++◌, List, [], ◌∷◌, length, take, slice_get, Some, None, if◌then◌else◌}
use Rattle.std.proofs.Common.{zero, suc, append-nil, sym, ◌∙◌, ap, arith}
use Rattle.std.proofs.lemmas.List.{append_assoc, take_all}
use Rattle.base_types.specs.declared.operation.Op.{Op}
use Rattle.daos_model.specs.Accesses.{is_condition}
use Rattle.daos_model.specs.Conditions.{condition_numbers}
use Rattle.daos_model.specs.Transactions.{number_of_read, read_numbers}

add_one : (n : ℕ) → suc n ≡ n + 1
add_one n = omega arith

-- ---- numbers of conditions and reads

abbrev pub condition_number : ℕ → Op → List ℕ
condition_number n op = if is_condition op.cond then n ∷ [] else []

conditions-suc : (n k : ℕ) (ops : List Op) (op : Op) → slice_get ops k ≡ Some op → condition_numbers n (take (suc k) ops) ≡ condition_numbers n (take k ops) ++ condition_number (n + k) op
unfolding condition_numbers
conditions-suc n k [] op h = let no : ⊥ = cc in absurd no
conditions-suc n zero (o ∷ ops) op h =
    let e : o ≡ op = cc in
    let z : n ≡ n + zero = omega arith in
    append-nil (condition_number n o) ∙ ap (λ p. condition_number n p) e ∙ ap (λ m. condition_number m op) z
conditions-suc n (suc k) (o ∷ ops) op h =
    let m : (n + 1) + k ≡ n + suc k = omega arith in
    ap (λ ns. condition_number n o ++ ns) (conditions-suc (n + 1) k ops op h)
    ∙ sym (append_assoc (condition_number n o) (condition_numbers (n + 1) (take k ops)) (condition_number ((n + 1) + k) op))
    ∙ ap (λ j. (condition_number n o ++ condition_numbers (n + 1) (take k ops)) ++ condition_number j op) m

-- an operation more
pub conditions-next : (k : ℕ) (ops : List Op) (op : Op) → slice_get ops k ≡ Some op → condition_numbers 0 (take (k + 1) ops) ≡ condition_numbers 0 (take k ops) ++ condition_number k op
conditions-next k ops op h =
    let z : 0 + k ≡ k = omega arith in
    ap (λ n. condition_numbers 0 (take n ops)) (sym (add_one k)) ∙ conditions-suc 0 k ops op h ∙ ap (λ n. condition_numbers 0 (take k ops) ++ condition_number n op) z

reads-suc : (n k : ℕ) (ops : List Op) (op : Op) → slice_get ops k ≡ Some op → read_numbers n (take (suc k) ops) ≡ read_numbers n (take k ops) ++ number_of_read (n + k) op.act
unfolding read_numbers
reads-suc n k [] op h = let no : ⊥ = cc in absurd no
reads-suc n zero (o ∷ ops) op h =
    let e : o ≡ op = cc in
    let z : n ≡ n + zero = omega arith in
    append-nil (number_of_read n o.act) ∙ ap (λ p. number_of_read n p.act) e ∙ ap (λ m. number_of_read m op.act) z
reads-suc n (suc k) (o ∷ ops) op h =
    let m : (n + 1) + k ≡ n + suc k = omega arith in
    ap (λ ns. number_of_read n o.act ++ ns) (reads-suc (n + 1) k ops op h)
    ∙ sym (append_assoc (number_of_read n o.act) (read_numbers (n + 1) (take k ops)) (number_of_read ((n + 1) + k) op.act))
    ∙ ap (λ j. (number_of_read n o.act ++ read_numbers (n + 1) (take k ops)) ++ number_of_read j op.act) m

pub reads-next : (k : ℕ) (ops : List Op) (op : Op) → slice_get ops k ≡ Some op → read_numbers 0 (take (k + 1) ops) ≡ read_numbers 0 (take k ops) ++ number_of_read k op.act
reads-next k ops op h =
    let z : 0 + k ≡ k = omega arith in
    ap (λ n. read_numbers 0 (take n ops)) (sym (add_one k)) ∙ reads-suc 0 k ops op h ∙ ap (λ n. read_numbers 0 (take k ops) ++ number_of_read n op.act) z

-- behind the last operation there are no more
pub past-end : (ops : List Op) (k : ℕ) → slice_get ops k ≡ None → length ops ≤ k
past-end [] k h = omega arith
past-end (o ∷ ops) zero h = let no : ⊥ = cc in absurd no
past-end (o ∷ ops) (suc k) h = let l : length ops ≤ k = past-end ops k h in omega (arith, l)

pub take-past : (ops : List Op) (k : ℕ) → slice_get ops k ≡ None → take k ops ≡ ops
take-past ops k h = take_all k ops (past-end ops k h)
