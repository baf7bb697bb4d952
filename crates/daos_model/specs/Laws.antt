-- What holds of every list of transactions: runs and their proofs stand on it.
use Rattle.std.specs.Prelude.{ℕ, suc, Bool, ◌+◌, ◌≡◌, ◌≤◌, ◌<◌, ◌++◌, true, false, nat_lt, nat_le, List, [], ◌∷◌, slice_index, All, if◌then◌else◌, refl}
use Rattle.std.specs.List.Sorted.{IsStrictlyIncreasing}
use Rattle.std.proofs.Common.{subst, sym, ◌∙◌, ap, append_assoc, arith}
use Rattle.std.proofs.lemmas.Bool.Decides.{nat_tests}
use Rattle.base_types.specs.declared.id.AttemptId.{AttemptId}
use Rattle.base_types.specs.declared.report.Attempt.{Attempt}
use Rattle.base_types.specs.declared.report.Line.{Line}
use Rattle.base_types.specs.declared.script.Script.{Script}
use Rattle.daos_model.specs.declared.cell.CellValue.{CellValue}
use Rattle.daos_model.specs.declared.stand.Stand.{Stand}
use Rattle.daos_model.specs.declared.stand.Taken.{Taken}
use Rattle.daos_model.specs.AsOf.{as_of, below, in_order, put_in, run_all, taken_epochs}
use Rattle.daos_model.specs.Effect.{effects}
use Rattle.daos_model.specs.Attempts.{tried, tries}
use Rattle.daos_model.specs.TookEffect.{all_taken, took, taken_by}

-- a transaction at or above an epoch changes nothing as of it, in whatever order the others stand
abbrev pub LaterChangesNothing : Type 0
LaterChangesNothing = (opening : Stand) (T : List Taken) (t : Taken) (e : ℕ) → e ≤ t.epoch.0 → as_of opening (T ++ t ∷ []) e ≡ as_of opening T e

-- transactions whose epochs rise, all below an epoch, run in their own order
abbrev pub RisingRunInOrder : Type 0
RisingRunInOrder =
    (opening : Stand) (T : List Taken) (e : ℕ) → IsStrictlyIncreasing (taken_epochs T) → All (λ n. n < e) (taken_epochs T) → as_of opening T e ≡ run_all T opening.now

-- what took effect by lines is what took effect by those before, then by those after
abbrev pub TookInParts : Type 0
TookInParts =
    (s : Script) (resolved : AttemptId → Bool) (before after : List Line) → took s resolved (before ++ after) ≡ took s resolved before ++ took s resolved after

-- running transactions is running those before, then those after
abbrev pub RunInParts : Type 0
RunInParts = (before after : List Taken) (m : List CellValue) → run_all (before ++ after) m ≡ run_all after (run_all before m)

-- attempts by lines are those by the lines before, then those by the lines after
pub tries-append : (before after : List Line) → tries (before ++ after) ≡ tries before ++ tries after
unfolding tries
tries-append [] after = refl
tries-append (l ∷ before) after = ap (λ ts. tried l ++ ts) (tries-append before after) ∙ sym (append_assoc (tried l) (tries before) (tries after))

all_taken-append : (s : Script) (resolved : AttemptId → Bool) (before after : List Attempt) → all_taken s resolved (before ++ after) ≡ all_taken s resolved before ++ all_taken s resolved after
all_taken-append s resolved [] after = refl
all_taken-append s resolved (a ∷ before) after =
    ap (λ ts. taken_by s resolved a ++ ts) (all_taken-append s resolved before after)
    ∙ sym (append_assoc (taken_by s resolved a) (all_taken s resolved before) (all_taken s resolved after))

pub took-append : TookInParts
unfolding took
took-append s resolved before after = ap (all_taken s resolved) (tries-append before after) ∙ all_taken-append s resolved (tries before) (tries after)

pub run_all-append : RunInParts
run_all-append [] after m = refl
run_all-append (t ∷ before) after m = run_all-append before after (effects t.writes m)

below-append_later : (T : List Taken) (t : Taken) (e : ℕ) → e ≤ t.epoch.0 → below e (T ++ t ∷ []) ≡ below e T
below-append_later [] t e le =
    let none : nat_lt t.epoch.0 e ≡ false = grind (arith, nat_tests) in
    ap (λ b. if b then t ∷ [] else []) none
below-append_later (u ∷ T) t e le =
    ap (λ ts. if nat_lt u.epoch.0 e then u ∷ ts else ts) (below-append_later T t e le)

pub as_of-later : LaterChangesNothing
unfolding as_of
as_of-later opening T t e le = ap (λ ts. run_all (in_order ts) opening.now) (below-append_later T t e le)

below-all : (T : List Taken) (e : ℕ) → All (λ n. n < e) (taken_epochs T) → below e T ≡ T
below-all [] e all = refl
below-all (t ∷ T) e all =
    let first : t.epoch.0 < e = all 0 0 (omega arith) in
    let now : nat_lt t.epoch.0 e ≡ true = grind (arith, nat_tests) in
    ap (λ b. if b then t ∷ below e T else below e T) now ∙ ap (λ ts. t ∷ ts) (below-all T e (λ k d lt. all (suc k) d (omega arith)))

put_in-front : (t : Taken) (T : List Taken) → IsStrictlyIncreasing (taken_epochs (t ∷ T)) → put_in t T ≡ t ∷ T
put_in-front t [] rises = refl
put_in-front t (u ∷ T) rises =
    let next : t.epoch.0 < u.epoch.0 = rises 0 (omega arith) in
    let before : nat_le t.epoch.0 u.epoch.0 ≡ true = grind (arith, nat_tests) in
    ap (λ b. if b then t ∷ u ∷ T else u ∷ put_in t T) before

rising-tail : (x : ℕ) (xs : List ℕ) → IsStrictlyIncreasing (x ∷ xs) → IsStrictlyIncreasing xs
rising-tail x xs rises k lt =
    let next : suc k + 1 ≡ suc (k + 1) = omega arith in
    let P : ℕ → Type 0 = λ n. slice_index xs k < slice_index (x ∷ xs) n in
    subst P next (rises (suc k) (omega arith))

in_order-rising : (T : List Taken) → IsStrictlyIncreasing (taken_epochs T) → in_order T ≡ T
in_order-rising [] rises = refl
in_order-rising (t ∷ T) rises =
    ap (put_in t) (in_order-rising T (rising-tail t.epoch.0 (taken_epochs T) rises)) ∙ put_in-front t T rises

pub as_of-rising : RisingRunInOrder
unfolding as_of
as_of-rising opening T e rises all =
    ap (λ ts. run_all (in_order ts) opening.now) (below-all T e all) ∙ ap (λ ts. run_all ts opening.now) (in_order-rising T rises)
