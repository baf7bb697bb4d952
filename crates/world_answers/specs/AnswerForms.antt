-- Answers of reads in form on a map with keys are such as a report's text determines.
use Rattle.std.specs.Prelude.{ℕ, zero, suc, ◌≡◌, ◌≤◌, ◌<◌, ◌+◌, ◌^◌, Bool, true, false, List, [], ◌∷◌, ◌++◌, length, slice_get, All, Option, Some, None, refl}
use Rattle.std.proofs.Common.{sym, ◌∙◌, ap, subst, arith}
use Rattle.std.proofs.lemmas.List.Elements.{All-cons, All-head, All-nil, All-tail, All-weaker}
use Rattle.std.proofs.lemmas.Option.{slice_get_within}
use Rattle.base_types.specs.declared.answer.Answer.{Answer}
use Rattle.base_types.specs.declared.answer.Piece.{Piece}
use Rattle.base_types.specs.declared.answer.Piece.TheVariants as piece
use Rattle.base_types.specs.declared.operation.Act.{Act}
use Rattle.base_types.specs.declared.operation.Act.TheVariants.{Fetch, Change}
use Rattle.base_types.specs.declared.operation.Op.{Op}
use Rattle.base_types.specs.declared.operation.Read.{Read}
use Rattle.base_types.specs.declared.operation.Read.TheVariants as read
use Rattle.base_types.specs.declared.path.Path.{Path}
use Rattle.base_types.specs.declared.report.Attempt.{Attempt}
use Rattle.base_types.specs.declared.script.ObjDecl.{ObjDecl}
use Rattle.base_types.specs.Scripts.{IsActInForm, IsOpInForm, IsReadInForm}
use Rattle.model_laws.specs.Lists.{all-at}
use Rattle.daos_model.specs.declared.cell.CellValue.{CellValue}
use Rattle.daos_model.specs.Answers.{answer, has_cell_below, hole_before, index_before, pieces, record_at, value_answer, yes_or_no}
use Rattle.daos_model.specs.Cells.{single_cell, value_at}
use Rattle.daos_model.specs.ReadsLegal.{IsRightAnswer, IsRightCondition, IsToldRight}
use Rattle.daos_model.specs.Transactions.{read_of, read_of_op}
use Rattle.report_writer.specs.Forms.{IsAnswer, IsCond, IsGot, IsPiece}
use Rattle.script_traits.specs.Keyed.{MapHasKeys}
use Rattle.world_answers.specs.KeyLaws.{akey-names, dkey-names}

-- ---- pieces

-- a hole is of so many indexes at most
abbrev IsWithin : ℕ → Piece → Type 0
IsWithin n (piece.Bytes bytes) = Unit {0}
IsWithin n (piece.Hole count) = count ≤ n

wider : (n : ℕ) (p : Piece) → IsWithin n p → IsWithin (suc n) p
wider n (piece.Bytes bytes) k = tt
wider n (piece.Hole count) k = omega (arith, k)

hole-within : (n : ℕ) (ps : List Piece) → All (IsWithin n) ps → All (IsWithin (suc n)) (hole_before ps)
hole-within n [] k = All-cons (IsWithin (suc n)) (piece.Hole 1) [] (omega arith) (All-nil (IsWithin (suc n)))
hole-within n (piece.Bytes bytes ∷ ps) k =
    All-cons (IsWithin (suc n)) (piece.Hole 1) (piece.Bytes bytes ∷ ps) (omega arith) (All-weaker (IsWithin n) (IsWithin (suc n)) (wider n) (piece.Bytes bytes ∷ ps) k)
hole-within n (piece.Hole count ∷ ps) k =
    let here : count ≤ n = All-head (IsWithin n) (piece.Hole count) ps k in
    All-cons (IsWithin (suc n)) (piece.Hole (count + 1)) ps (omega (arith, here)) (All-weaker (IsWithin n) (IsWithin (suc n)) (wider n) ps (All-tail (IsWithin n) (piece.Hole count) ps k))

index-within : (n : ℕ) (o : Option (List ℕ)) (ps : List Piece) → All (IsWithin n) ps → All (IsWithin (suc n)) (index_before o ps)
index-within n None ps k = hole-within n ps k
index-within n (Some r) [] k = All-cons (IsWithin (suc n)) (piece.Bytes r) [] tt (All-nil (IsWithin (suc n)))
index-within n (Some r) (piece.Bytes more ∷ ps) k =
    All-cons (IsWithin (suc n)) (piece.Bytes (r ++ more)) ps tt (All-weaker (IsWithin n) (IsWithin (suc n)) (wider n) ps (All-tail (IsWithin n) (piece.Bytes more) ps k))
index-within n (Some r) (piece.Hole count ∷ ps) k =
    All-cons (IsWithin (suc n)) (piece.Bytes r) (piece.Hole count ∷ ps) tt (All-weaker (IsWithin n) (IsWithin (suc n)) (wider n) (piece.Hole count ∷ ps) k)

pieces-within : (p : Path) (i n : ℕ) (m : List CellValue) → All (IsWithin n) (pieces p i n m)
unfolding pieces
pieces-within p i zero m = All-nil (IsWithin 0)
pieces-within p i (suc n) m = index-within n (record_at p i m) (pieces p (i + 1) n m) (pieces-within p (i + 1) n m)

short-piece : (n : ℕ) → n < 2 ^ 32 → (p : Piece) → IsWithin n p → IsPiece p
short-piece n few (piece.Bytes bytes) k = tt
short-piece n few (piece.Hole count) k = omega (arith, k, few)

-- ---- answers

value-form : (o : Option (List ℕ)) → IsAnswer (value_answer o)
value-form None = tt
value-form (Some bytes) = tt

yes-form : (b : Bool) → IsAnswer (yes_or_no b)
yes-form true = tt
yes-form false = tt

-- an array is read at fewer indexes than it has
abbrev pub IsShortRead : Read → Type 0
IsShortRead (read.Extent p low len) = len < 2 ^ 32
IsShortRead r = Unit {0}

pub answer-form : (r : Read) (m : List CellValue) → IsShortRead r → MapHasKeys m → IsAnswer (answer r m)
answer-form (read.Single p) m short k = value-form (value_at m (single_cell p))
answer-form (read.Extent p low len) m short k = All-weaker (IsWithin len) IsPiece (short-piece len short) (pieces p low len m) (pieces-within p low len m)
answer-form (read.Dkeys p) m short k = dkey-names p m k
answer-form (read.Akeys p) m short k = akey-names p m k
answer-form (read.Exists p) m short k = yes-form (has_cell_below p m)

-- so is each read of a script in form
short-read : (objs : List ObjDecl) (r : Read) → IsReadInForm objs r → IsShortRead r
short-read objs (read.Single p) f = tt
short-read objs (read.Extent p low len) f = let short : low + len < 2 ^ 32 = f.2 in omega (arith, short)
short-read objs (read.Dkeys p) f = tt
short-read objs (read.Akeys p) f = tt
short-read objs (read.Exists p) f = tt

-- ---- what an attempt was told

act-answer : (objs : List ObjDecl) (a : Act) (r : Read) (m : List CellValue) → IsActInForm objs a → read_of a ≡ Some r → MapHasKeys m → IsAnswer (answer r m)
act-answer objs (Fetch q) r m f is k = let same : q ≡ r = cc in answer-form r m (short-read objs r (subst (IsReadInForm objs) same f)) k
act-answer objs (Change w) r m f is k = let no : ⊥ = cc in absurd no

module _ (objs : List ObjDecl) (ops : List Op) (few : length ops ≤ 64) (forms : All (IsOpInForm objs) ops) (m : List CellValue) (k : MapHasKeys m) where
  got-form : (got : ℕ × Answer) → IsRightAnswer ops m got → IsGot got
  got-form got right = by (slice_get ops got.0) refl
    where
      by : (o : Option Op) → slice_get ops got.0 ≡ o → IsGot got
      by None at = let never : None ≡ Some right.0 = ap read_of_op (sym at) ∙ right.1 in let no : ⊥ = cc in absurd no
      by (Some op) at =
          let within : got.0 < length ops = slice_get_within ops got.0 op at in
          record {
            op = omega (arith, within, few);
            answer = subst IsAnswer (sym right.2) (act-answer objs op.act right.0 m (all-at (IsOpInForm objs) ops got.0 op forms at).act (ap read_of_op (sym at) ∙ right.1) k);
          }

  cond-form : (told : ℕ × Bool) → IsRightCondition ops m told → IsCond told
  cond-form told right = let within : told.0 < length ops = slice_get_within ops told.0 right.0 right.1 in omega (arith, within, few)

-- what is right on a map with keys, or nothing where there is no map
pub told-form : (objs : List ObjDecl) (ops : List Op) (o : Option (List CellValue)) (a : Attempt) → length ops ≤ 64 → All (IsOpInForm objs) ops → ((m : List CellValue) → o ≡ Some m → MapHasKeys m) → IsToldRight ops o a
    → All IsGot a.gots × All IsCond a.conds
told-form objs ops None a few forms k right = (subst (All IsGot) (sym right.0) (All-nil IsGot), subst (All IsCond) (sym right.1) (All-nil IsCond))
told-form objs ops (Some m) a few forms k right =
    (All-weaker (IsRightAnswer ops m) IsGot (got-form objs ops few forms m (k m refl)) a.gots right.0, All-weaker (IsRightCondition ops m) IsCond (cond-form objs ops few forms m (k m refl)) a.conds right.1)
