-- An answer of the kind of its read can be spelled.
use Rattle.std.specs.Prelude.{ℕ, zero, suc, ◌≡◌, ◌≤◌, ◌<◌, ◌+◌, ◌*◌, ◌/◌, ◌%◌, ◌&&◌, ◌==◌, Bool, true, false, not, nat_le, All, List, [], ◌∷◌, length, slice_get, Option, Some, None, refl}
use Rattle.std.specs.List.{list_all}
use Rattle.std.proofs.Common.{sym, ◌∙◌, ap, subst, arith}
use Rattle.std.proofs.lemmas.Bool.Decides.{nat_tests}
use Rattle.std.proofs.lemmas.List.Elements.{All-cons, All-head, All-nil, All-tail}
use Rattle.std.proofs.lemmas.Nat.{div-add-mod', mul-le}
use Rattle.std.proofs.Math.Nat.{div-le_self}
use Rattle.base_types.specs.declared.answer.Answer.{Answer}
use Rattle.base_types.specs.declared.answer.Answer.TheVariants as answer
use Rattle.base_types.specs.declared.answer.Piece.{Piece}
use Rattle.base_types.specs.declared.answer.Piece.TheVariants as piece
use Rattle.base_types.specs.declared.id.AttemptId.{AttemptId}
use Rattle.base_types.specs.declared.operation.Act.{Act}
use Rattle.base_types.specs.declared.operation.Act.TheVariants.{Fetch, Change}
use Rattle.base_types.specs.declared.operation.Op.{Op}
use Rattle.base_types.specs.declared.operation.Read.{Read}
use Rattle.base_types.specs.declared.operation.Read.TheVariants as read
use Rattle.base_types.specs.declared.script.ObjDecl.{ObjDecl}
use Rattle.base_types.specs.declared.script.Script.{Script}
use Rattle.base_types.specs.Operations.{act_path, read_path}
use Rattle.base_types.specs.Paths.{record_size}
use Rattle.base_types.specs.Scripts.{IsReadInForm}
use Rattle.daos_model.specs.BoolLaws.{and_left, and_right, both}
use Rattle.daos_model.specs.Kinds as kinds
use Rattle.daos_model.specs.Kinds.{are_joined, are_unlike, is_of_kind, is_piece, piece_length, pieces_length}
use Rattle.daos_model.specs.Transactions.{attempt_ops, read_at, read_of, read_of_op}
use Rattle.report_reader.specs.Law.{HasWholeValues, IsWholePiece}
use Rattle.report_reader.specs.Marks.{table_of}
use Rattle.report_reader.specs.Reading.{unit_at, unit_in}
use Rattle.report_reader.specs.Told.{answer_fits, is_hole, is_length, is_other, is_whole, piece_fits, pieces_fit}
use Rattle.report_round_trip.specs.Laws.{AnswersOfKindAreSpelled}
use Rattle.report_round_trip.specs.Values.{HasBytes, IsRunOfBytes}
use Rattle.report_round_trip.proofs.Marks.{op-mark}

-- ---- lengths

at-least-one : (n : ℕ) → nat_le 1 n ≡ true → 0 < n
at-least-one n h = grind (arith, nat_tests)

is-length : (n : ℕ) → 0 < n → n ≤ 1024 → is_length n ≡ true
is-length n some few = both (nat_le 1 n) (nat_le n 1024) (grind (arith, nat_tests)) (grind (arith, nat_tests))

whole-length : (size len n : ℕ) → n % size ≡ 0 → n / size ≤ len → len * size ≤ 1024 → n ≤ 1024
whole-length size len n whole low few =
    let is : n / size * size + n % size ≡ n = div-add-mod' n size in
    let more : n / size * size ≤ len * size = mul-le (n / size) size len size low (omega arith) in
    omega (arith, is, whole, more, few)

some-length : (size n : ℕ) → 0 < n / size → 0 < n
some-length size n some = let low : n / size ≤ n = div-le_self n size in omega (arith, low, some)

-- ---- the runs of an array

-- what is told of an array before a run is of another kind
follows : (last : Piece) (p : Piece) → are_unlike last p ≡ true → is_other (Some (is_hole last)) (is_hole p) ≡ true
follows (piece.Bytes a) (piece.Bytes b) h = let no : ⊥ = cc in absurd no
follows (piece.Bytes a) (piece.Hole n) h = refl
follows (piece.Hole m) (piece.Bytes b) h = refl
follows (piece.Hole m) (piece.Hole n) h = let no : ⊥ = cc in absurd no

module _ (size len : ℕ) (few : len * size ≤ 1024) where
  piece-fits : (last : Option Bool) (p : Piece) → is_other last (is_hole p) ≡ true → is_piece size p ≡ true → piece_length size p ≤ len → piece_fits size last p ≡ true
  piece-fits last (piece.Bytes bytes) other good low =
      let n = length bytes in
      let records = at-least-one (n / size) (and_left (nat_le 1 (n / size)) (n % size == 0) good) in
      let whole : (n % size == 0) ≡ true = and_right (nat_le 1 (n / size)) (n % size == 0) good in
      let none : n % size ≡ 0 = grind (arith, nat_tests) in
      both (is_length n && is_whole size n) (is_other last false) (both (is_length n) (is_whole size n) (is-length n (some-length size n records) (whole-length size len n none low few)) whole) other
  piece-fits last (piece.Hole count) other good low = other

  pieces-fit : (last : Option Bool) (ps : List Piece) → ((p : Piece) (more : List Piece) → ps ≡ p ∷ more → is_other last (is_hole p) ≡ true) → list_all (is_piece size) ps ≡ true → are_joined ps ≡ true → pieces_length size ps ≤ len
      → pieces_fit size last ps ≡ true
  pieces-fit last [] other good joined low = refl
  pieces-fit last (p ∷ []) other good joined low =
      both (piece_fits size last p) true (piece-fits last p (other p [] refl) (and_left (is_piece size p) true good) (omega (arith, low))) refl
  pieces-fit last (p ∷ q ∷ ps) other good joined low =
      both (piece_fits size last p) (pieces_fit size (Some (is_hole p)) (q ∷ ps))
      (piece-fits last p (other p (q ∷ ps) refl) (and_left (is_piece size p) (list_all (is_piece size) (q ∷ ps)) good) (omega (arith, low)))
      (pieces-fit (Some (is_hole p)) (q ∷ ps) (λ r more is. let same : q ≡ r = cc in subst (λ z. is_other (Some (is_hole p)) (is_hole z) ≡ true) same (follows p q (and_left (are_unlike p q) (are_joined (q ∷ ps)) joined)))
      (and_right (is_piece size p) (list_all (is_piece size) (q ∷ ps)) good) (and_right (are_unlike p q) (are_joined (q ∷ ps)) joined) (omega (arith, low)))

-- ---- answers

not-zero : (n : ℕ) → 0 < n → (n == 0) ≡ false
not-zero n some = grind (arith, nat_tests)

some-pieces : (size len : ℕ) (ps : List Piece) → pieces_length size ps ≡ len → 0 < len → not (length ps == 0) ≡ true
some-pieces size len [] is some = let no : ⊥ = omega (arith, is, some) in absurd no
some-pieces size len (p ∷ ps) is some = ap not (not-zero (suc (length ps)) (omega arith))

some-of : (a b : ℕ) → 0 < a * b → 0 < a
some-of zero b some = let no : ⊥ = omega (arith, some) in absurd no
some-of (suc a) b some = omega arith

parts-fit : (size len : ℕ) (ps : List Piece) → 0 < len * size → len * size ≤ 1024 → kinds.are_pieces size len ps ≡ true → answer_fits size (answer.Parts ps) ≡ true
parts-fit size len ps some few k =
    let counted : ((pieces_length size ps == len) && list_all (is_piece size) ps) ≡ true = and_left ((pieces_length size ps == len) && list_all (is_piece size) ps) (are_joined ps) k in
    let many : (pieces_length size ps == len) ≡ true = and_left (pieces_length size ps == len) (list_all (is_piece size) ps) counted in
    let is : pieces_length size ps ≡ len = grind (arith, nat_tests) in
    both (not (length ps == 0)) (pieces_fit size None ps) (some-pieces size len ps is (some-of len size some))
    (pieces-fit size len few None ps (λ p more e. refl) (and_right (pieces_length size ps == len) (list_all (is_piece size) ps) counted) (and_right ((pieces_length size ps == len) && list_all (is_piece size) ps) (are_joined ps) k) (omega (arith, is)))

fits : (objs : List ObjDecl) (r : Read) (b : Answer) → IsReadInForm objs r → is_of_kind r b ≡ true → answer_fits (record_size (read_path r)) b ≡ true
unfolding is_of_kind
fits objs (read.Single p) (answer.Bytes bytes) form k = k
fits objs (read.Extent p low len) (answer.Bytes bytes) form k = let no : ⊥ = cc in absurd no
fits objs (read.Dkeys p) (answer.Bytes bytes) form k = let no : ⊥ = cc in absurd no
fits objs (read.Akeys p) (answer.Bytes bytes) form k = let no : ⊥ = cc in absurd no
fits objs (read.Exists p) (answer.Bytes bytes) form k = let no : ⊥ = cc in absurd no
fits objs (read.Extent p low len) (answer.Parts ps) form k = parts-fit (record_size p) len ps form.1.0 form.1.1 k
fits objs (read.Single p) (answer.Parts ps) form k = let no : ⊥ = cc in absurd no
fits objs (read.Dkeys p) (answer.Parts ps) form k = let no : ⊥ = cc in absurd no
fits objs (read.Akeys p) (answer.Parts ps) form k = let no : ⊥ = cc in absurd no
fits objs (read.Exists p) (answer.Parts ps) form k = let no : ⊥ = cc in absurd no
fits objs r (answer.Names keys) form k = refl
fits objs r answer.Yes form k = refl
fits objs r answer.No form k = refl
fits objs r answer.Absent form k = refl

whole-pieces : (size : ℕ) (ps : List Piece) → list_all (is_piece size) ps ≡ true → All IsRunOfBytes ps → All IsWholePiece ps
whole-pieces size [] good k = All-nil IsWholePiece
whole-pieces size (p ∷ ps) good k =
    All-cons IsWholePiece p ps (by p (and_left (is_piece size p) (list_all (is_piece size) ps) good) (All-head IsRunOfBytes p ps k))
    (whole-pieces size ps (and_right (is_piece size p) (list_all (is_piece size) ps) good) (All-tail IsRunOfBytes p ps k))
  where
    by : (p : Piece) → is_piece size p ≡ true → IsRunOfBytes p → IsWholePiece p
    by (piece.Bytes bytes) good k = k
    by (piece.Hole count) good k = at-least-one count (and_left (nat_le 1 count) true good)

values : (r : Read) (b : Answer) → is_of_kind r b ≡ true → HasBytes b → HasWholeValues b
unfolding is_of_kind
values r (answer.Bytes bytes) k bytes' = bytes'
values (read.Extent p low len) (answer.Parts ps) k bytes' =
    let size = record_size p in
    whole-pieces size ps (and_right (pieces_length size ps == len) (list_all (is_piece size) ps) (and_left ((pieces_length size ps == len) && list_all (is_piece size) ps) (are_joined ps) k)) bytes'
values (read.Single p) (answer.Parts ps) k bytes' = let no : ⊥ = cc in absurd no
values (read.Dkeys p) (answer.Parts ps) k bytes' = let no : ⊥ = cc in absurd no
values (read.Akeys p) (answer.Parts ps) k bytes' = let no : ⊥ = cc in absurd no
values (read.Exists p) (answer.Parts ps) k bytes' = let no : ⊥ = cc in absurd no
values r (answer.Names keys) k bytes' = tt
values r answer.Yes k bytes' = tt
values r answer.No k bytes' = tt
values r answer.Absent k bytes' = tt

-- the record size of the object that a read is on
unit-of : (s : Script) (id : AttemptId) (n : ℕ) (r : Read) → read_at (attempt_ops s id) n ≡ Some r → unit_at (table_of s) id n ≡ record_size (read_path r)
unit-of s id n r is = by (slice_get (attempt_ops s id) n) refl
  where
    fetches : (act : Act) → read_of act ≡ Some r → record_size (act_path act) ≡ record_size (read_path r)
    fetches (Fetch q) e = let same : q ≡ r = cc in ap (λ z. record_size (read_path z)) same
    fetches (Change w) e = let no : ⊥ = cc in absurd no

    by : (o : Option Op) → slice_get (attempt_ops s id) n ≡ o → unit_at (table_of s) id n ≡ record_size (read_path r)
    by None e = let none : None ≡ Some r = ap read_of_op (sym e) ∙ is in let no : ⊥ = cc in absurd no
    by (Some op) e = ap unit_in (op-mark s id n op e) ∙ fetches op.act (ap read_of_op (sym e) ∙ is)

pub is-spelled : AnswersOfKindAreSpelled
is-spelled s id got r is form kind bytes = record {
  fits = subst (λ size. answer_fits size got.1 ≡ true) (sym (unit-of s id got.0 r is)) (fits s.objs r got.1 form kind);
  values = values r got.1 kind bytes;
}
