-- What is read of a row is in form: numbers fit their types, and names are a script's.
use Rattle.std.proofs.Common.{◌≡◌, ℕ, suc, ◌+◌, ◌-◌, ◌*◌, ◌^◌, ◌≤◌, ◌<◌, Bool, true, false, cond, leb, eqb, ◌&&◌, List, [], ◌∷◌, ◌++◌, Any, Option, Some, None, refl, sym, subst, arith, codes}
use Rattle.std.specs.Prelude.{is_none}
use Rattle.std.specs.List.{AllByRecursion}
use Rattle.std.specs.Str.{bytes_eq}
use Rattle.std.proofs.lemmas.Bool.{and_parts}
use Rattle.std.proofs.lemmas.Bool.Decides.{nat_tests}
use Rattle.std.proofs.lemmas.List.Elements.{All-from_recursion}
use Rattle.base_types.specs.declared.answer.Answer.{Answer}
use Rattle.base_types.specs.declared.answer.Answer.TheVariants as answer
use Rattle.base_types.specs.declared.answer.Piece.{Piece}
use Rattle.base_types.specs.declared.answer.Piece.TheVariants as piece
use Rattle.base_types.specs.declared.epoch.Epoch.{Epoch}
use Rattle.base_types.specs.declared.id.AttemptId.{AttemptId}
use Rattle.base_types.specs.declared.id.ContId.{ContId}
use Rattle.base_types.specs.declared.id.ObjId.{ObjId}
use Rattle.base_types.specs.declared.key.KeyNo.{KeyNo}
use Rattle.base_types.specs.declared.outcome.Cause.{Cause}
use Rattle.base_types.specs.declared.outcome.Cause.TheVariants as cause
use Rattle.base_types.specs.declared.outcome.FloorWhy.{FloorWhy}
use Rattle.base_types.specs.declared.outcome.FloorWhy.TheVariants as floor
use Rattle.base_types.specs.declared.outcome.Outcome.{Outcome}
use Rattle.base_types.specs.declared.outcome.Outcome.TheVariants as outcome
use Rattle.base_types.specs.declared.path.Path.{Path}
use Rattle.base_types.specs.declared.report.Line.TheVariants as line
use Rattle.base_types.specs.declared.script.ContDecl.{ContDecl}
use Rattle.base_types.specs.declared.script.ObjDecl.{ObjDecl}
use Rattle.base_types.specs.declared.script.Script.{Script}
use Rattle.base_types.specs.declared.shown.Shown.{Shown}
use Rattle.base_types.specs.Keys.{IsKey, key_fault, same_key}
use Rattle.base_text.specs.Number.{number_in}
use Rattle.base_text.specs.NumberLaws.{numbers_are_decimals}
use Rattle.base_text.specs.Parts.{parts_of}
use Rattle.base_text.specs.Rows.{Words}
use Rattle.report_writer.specs.Forms.{HasNames, IsAccessOf, IsAnswer, IsAttemptId, IsAttemptOf, IsCauseOf, IsCond, IsContOf, IsEpoch, IsEpochOrNone, IsFloorWhy, IsGot, IsLineOf, IsObjOf, IsOutcomeOf, IsPathOf, IsPiece}
use Rattle.report_writer.proofs.Inner.{all_append}
use Rattle.report_writer.proofs.NamesAgain.{same_cont}
use Rattle.report_grammar.specs.declared.rows.Told.{Told}
use Rattle.report_grammar.specs.declared.rows.Told.TheVariants.{Try, Cond, Got, Other}
use Rattle.report_grammar.specs.Answers.{answer_of, digit_of, hex_of, names_from, piece_of, pieces_from, plain_answer, plain_of, value_answer, value_of}
use Rattle.report_grammar.specs.Names.{cont_at, cont_of, key_or_none_at, obj_of, obj_or_none_at, path_at, path_of, some_key, some_obj}
use Rattle.report_grammar.specs.Outcomes.{access_of, cause_of, floor_by, floor_cause_of, floor_of, later_by, later_of, no_space_of, numbered_by, numbered_floor, numbered_of, outcome_by, outcome_of, snapshot_floor, unresolved_of}
use Rattle.report_grammar.specs.Outcomes as out
use Rattle.report_grammar.specs.Reads.{◌>>=◌}
use Rattle.report_grammar.specs.Rows.{aggregate_of, attempt_of, cond_of, down_of, freeze_of, got_of, restart_of, snapshot_of, stop_of, told_of, yes_at}
use Rattle.report_grammar.specs.Words.{attempt_id_at, epoch_at, epoch_of, epoch_or_none_at, key_at, key_of, nothing_at, number_at}
use Rattle.report_reader.specs.Law.{HasWholeValues, IsWholePiece}
use Rattle.report_reader.proofs.Sound.{then_some}

-- the steps of a reader that gave something were made
step : {A B : Type 0} {o : Option A} {f : A → Option B} {y : B} → (o >>= f) ≡ Some y → (x : A) × (o ≡ Some x) × (f x ≡ Some y)
step {o = o} {f = f} {y = y} e = then_some o f y e

same : {A : Type 0} {x y : A} → Some x ≡ Some y → x ≡ y
same e = cc

-- where no word was left, what is behind was given
done : {B : Type 0} (ws : Words) (given : Option B) (y : B) → (nothing_at ws >>= λ end. given) ≡ Some y → given ≡ Some y
done [] given y e = e
done (w ∷ ws) given y e = absurd cc

-- ---- numbers, epochs, attempts

-- a number in its range, and where all words are of bytes, so are those behind it
record Number (lo hi : ℕ) (ws : Words) (p : ℕ × Words) : Type 0 where
  least : lo ≤ p.0
  most : p.0 ≤ hi
  behind : AllByRecursion (λ w. AllByRecursion (λ b. b < 2 ^ 8) w) ws → AllByRecursion (λ w. AllByRecursion (λ b. b < 2 ^ 8) w) p.1

number_takes : (lo hi : ℕ) (ws : Words) (p : ℕ × Words) → hi < 2 ^ 64 → number_at lo hi ws ≡ Some p → Number lo hi ws p
unfolding number_at
number_takes lo hi [] p small e = absurd cc
number_takes lo hi (w ∷ ws) p small e =
    let a = then_some (number_in lo hi w) (λ n. Some (n, ws)) p e in
    let n = numbers_are_decimals.spelled lo hi a.0 w small a.1 in
    subst (Number lo hi (w ∷ ws)) (same a.2) (record { least = n.1; most = n.2; behind = λ h. h.1 })

u8_takes : (ws : Words) (p : ℕ × Words) → number_at 0 255 ws ≡ Some p → p.0 < 2 ^ 8
u8_takes ws p e = let n = number_takes 0 255 ws p (omega arith) e in omega (arith, n.most)

u32_takes : (ws : Words) (p : ℕ × Words) → number_at 0 4294967295 ws ≡ Some p → p.0 < 2 ^ 32
u32_takes ws p e = let n = number_takes 0 4294967295 ws p (omega arith) e in omega (arith, n.most)

u64_takes : (ws : Words) (p : ℕ × Words) → number_at 0 18446744073709551615 ws ≡ Some p → p.0 < 2 ^ 64
u64_takes ws p e = let n = number_takes 0 18446744073709551615 ws p (omega arith) e in omega (arith, n.most)

u16_takes : (ws : Words) (p : ℕ × Words) → number_at 0 65535 ws ≡ Some p → p.0 < 2 ^ 16
u16_takes ws p e = let n = number_takes 0 65535 ws p (omega arith) e in omega (arith, n.most)

epoch_takes : (ws : Words) (p : Epoch × Words) → epoch_at ws ≡ Some p → IsEpoch p.0
unfolding epoch_at
epoch_takes ws p e = let a = step e in subst (λ (q : Epoch × Words). IsEpoch q.0) (same a.2) (u64_takes ws a.0 a.1)

epoch_or_none_takes : (ws : Words) (p : Option Epoch × Words) → epoch_or_none_at ws ≡ Some p → IsEpochOrNone p.0
unfolding epoch_or_none_at
epoch_or_none_takes [] p e = absurd cc
epoch_or_none_takes (w ∷ ws) p e =
    let a = then_some (epoch_of w) (λ x. Some (x, ws)) p e in
    subst (λ (q : Option Epoch × Words). IsEpochOrNone q.0) (same a.2) (go a.0 (bytes_eq w (codes "-")) a.1)
  where
    some_number : (x : Option Epoch) → (number_in 0 18446744073709551615 w >>= λ n. Some (Some (record { 0 = n }))) ≡ Some x → IsEpochOrNone x
    some_number x e = let b = step e in let n = numbers_are_decimals.spelled 0 18446744073709551615 b.0 w (omega arith) b.1 in subst IsEpochOrNone (same b.2) (omega (arith, n.2))

    go : (x : Option Epoch) (b : Bool) → cond b (Some None) (number_in 0 18446744073709551615 w >>= λ n. Some (Some (record { 0 = n }))) ≡ Some x → IsEpochOrNone x
    go x true e = subst IsEpochOrNone (same e) tt
    go x false e = some_number x e

attempt_takes : (ws : Words) (p : AttemptId × Words) → attempt_id_at ws ≡ Some p → IsAttemptId p.0
unfolding attempt_id_at
attempt_takes ws p e =
    let a = step e in
    let b = step a.2 in
    let c = step b.2 in
    subst (λ (q : AttemptId × Words). IsAttemptId q.0) (same c.2) (record { client = u16_takes ws a.0 a.1; command = u32_takes a.0.1 b.0 b.1; attempt = u8_takes b.0.1 c.0 c.1 })

-- ---- names and paths

any-first : {A : Type 0} (P : A → Type 0) (x : A) (xs : List A) → P x → Any P (x ∷ xs)
any-first P x xs h = (0, x, omega arith, refl, h)

any-later : {A : Type 0} (P : A → Type 0) (x : A) (xs : List A) → Any P xs → Any P (x ∷ xs)
any-later P x xs (k, y, lt, is, h) = (suc k, y, omega (arith, lt), is, h)

cont_of_takes : (ds : List ContDecl) (name : List ℕ) (id : ContId) → cont_of ds name ≡ Some id → Any (λ d. d.id ≡ id) ds
cont_of_takes [] name id e = absurd cc
cont_of_takes (d ∷ ds) name id e = go (same_key d.name name) e (cont_of_takes ds name id)
  where
    go : (b : Bool) → cond b (Some d.id) (cont_of ds name) ≡ Some id → (cont_of ds name ≡ Some id → Any (λ d. d.id ≡ id) ds) → Any (λ d. d.id ≡ id) (d ∷ ds)
    go true e ih = any-first (λ d. d.id ≡ id) d ds (same e)
    go false e ih = any-later (λ d. d.id ≡ id) d ds (ih e)

obj_of_takes : (ds : List ObjDecl) (cont : ContId) (name : List ℕ) (id : ObjId) → obj_of ds cont name ≡ Some id → Any (λ d. (d.cont ≡ cont) × (d.id ≡ id)) ds
obj_of_takes [] cont name id e = absurd cc
obj_of_takes (d ∷ ds) cont name id e = go (eqb d.cont.0 cont.0 && same_key d.name name) refl e (obj_of_takes ds cont name id)
  where
    go : (b : Bool) → (eqb d.cont.0 cont.0 && same_key d.name name) ≡ b → cond b (Some d.id) (obj_of ds cont name) ≡ Some id
        → (obj_of ds cont name ≡ Some id → Any (λ d. (d.cont ≡ cont) × (d.id ≡ id)) ds) → Any (λ d. (d.cont ≡ cont) × (d.id ≡ id)) (d ∷ ds)
    go true i e ih = any-first (λ d. (d.cont ≡ cont) × (d.id ≡ id)) d ds (same_cont d.cont cont (and_parts (eqb d.cont.0 cont.0) (same_key d.name name) i).0, same e)
    go false i e ih = any-later (λ d. (d.cont ≡ cont) × (d.id ≡ id)) d ds (ih e)

key_takes : (w k : List ℕ) → key_of w ≡ Some k → IsKey k
key_takes w k e = go (key_fault w) refl e
  where
    go : (x : Option KeyNo) → key_fault w ≡ x → cond (is_none x) (Some w) None ≡ Some k → IsKey k
    go None i e = subst IsKey (same e) i
    go (Some f) i e = absurd cc

module _ (s : Script) (names : HasNames s) where
  cont_takes : (ws : Words) (p : ContId × Words) → cont_at s ws ≡ Some p → IsContOf s p.0
  unfolding cont_at
  cont_takes [] p e = absurd cc
  cont_takes (w ∷ ws) p e =
      let a = then_some (cont_of s.conts w) (λ id. Some (id, ws)) p e in
      subst (λ (q : ContId × Words). IsContOf s q.0) (same a.2) (record { names = names; declared = cont_of_takes s.conts w a.0 a.1 })

  abbrev path : ContId → Option ObjId → Option (List ℕ) → Option (List ℕ) → Path
  path cont obj dkey akey = record { cont = cont; obj = obj; dkey = dkey; akey = akey }

  abbrev ended : ContId → Option ObjId → Option (List ℕ) → Option (List ℕ) × Words → Option Path
  ended cont obj dkey akey = nothing_at akey.1 >>= λ end. Some (path cont obj dkey akey.0)

  abbrev with_akey : ContId → Option ObjId → Option (List ℕ) × Words → Option Path
  with_akey cont obj dkey = key_or_none_at dkey.1 >>= λ akey. ended cont obj dkey.0 akey

  abbrev with_dkey : ContId → Option ObjId × Words → Option Path
  with_dkey cont obj = key_or_none_at obj.1 >>= λ dkey. with_akey cont obj.0 dkey

  abbrev with_below : ContId → Words → Option Path
  with_below cont ws = obj_or_none_at s cont ws >>= λ obj. with_dkey cont obj

  obj_takes : (cont : ContId) (o : List ℕ) (ws : Words) (x : Option ObjId × Words) → obj_or_none_at s cont (o ∷ ws) ≡ Some x → (id : ObjId) × (x ≡ (Some id, ws)) × IsObjOf s cont id
  obj_takes cont o ws x e =
      let a = then_some (obj_of s.objs cont o) (λ id. Some (some_obj id, ws)) x e in
      (a.0, sym (same a.2), obj_of_takes s.objs cont o a.0 a.1)

  key_or_none_takes : (k : List ℕ) (ws : Words) (x : Option (List ℕ) × Words) → key_or_none_at (k ∷ ws) ≡ Some x → (key : List ℕ) × (x ≡ (Some key, ws)) × IsKey key
  key_or_none_takes k ws x e =
      let a = then_some (key_of k) (λ key. Some (some_key key, ws)) x e in
      (a.0, sym (same a.2), key_takes k a.0 a.1)

  akey_takes : (cont : ContId) (obj : ObjId) (dkey : List ℕ) (ws : Words) (p : Path) → IsContOf s cont → IsObjOf s cont obj → IsKey dkey → with_akey cont (Some obj) (Some dkey, ws) ≡ Some p → IsPathOf s p
  akey_takes cont obj dkey [] p c o d e = subst (IsPathOf s) {x = path cont (Some obj) (Some dkey) None} (same e) (record { cont = c; below = (o, d) })
  akey_takes cont obj dkey (w ∷ ws) p c o d e =
      let a = then_some (key_or_none_at (w ∷ ws)) (λ akey. ended cont (Some obj) (Some dkey) akey) p e in
      let k = key_or_none_takes w ws a.0 a.1 in
      go ws k.0 k.2 (subst (λ x. ended cont (Some obj) (Some dkey) x ≡ Some p) k.1 a.2)
    where
      go : (ws : Words) (akey : List ℕ) → IsKey akey → ended cont (Some obj) (Some dkey) (Some akey, ws) ≡ Some p → IsPathOf s p
      go [] akey k e = subst (IsPathOf s) {x = path cont (Some obj) (Some dkey) (Some akey)} (same e) (record { cont = c; below = (o, d, k) })
      go (v ∷ vs) akey k e = absurd cc

  dkey_takes : (cont : ContId) (obj : ObjId) (ws : Words) (p : Path) → IsContOf s cont → IsObjOf s cont obj → with_dkey cont (Some obj, ws) ≡ Some p → IsPathOf s p
  dkey_takes cont obj [] p c o e = subst (IsPathOf s) {x = path cont (Some obj) None None} (same e) (record { cont = c; below = o })
  dkey_takes cont obj (w ∷ ws) p c o e =
      let a = then_some (key_or_none_at (w ∷ ws)) (λ dkey. with_akey cont (Some obj) dkey) p e in
      let k = key_or_none_takes w ws a.0 a.1 in
      akey_takes cont obj k.0 ws p c o k.2 (subst (λ x. with_akey cont (Some obj) x ≡ Some p) k.1 a.2)

  below_takes : (cont : ContId) (ws : Words) (p : Path) → IsContOf s cont → with_below cont ws ≡ Some p → IsPathOf s p
  below_takes cont [] p c e = subst (IsPathOf s) {x = path cont None None None} (same e) (record { cont = c; below = tt })
  below_takes cont (w ∷ ws) p c e =
      let a = then_some (obj_or_none_at s cont (w ∷ ws)) (λ obj. with_dkey cont obj) p e in
      let o = obj_takes cont w ws a.0 a.1 in
      dkey_takes cont o.0 ws p c o.2 (subst (λ x. with_dkey cont x ≡ Some p) o.1 a.2)

  path_takes : (w : List ℕ) (p : Path) → path_of s w ≡ Some p → IsPathOf s p
  unfolding path_of
  path_takes w p e =
      let a = then_some (cont_at s (parts_of 47 w)) (λ c. with_below c.0 c.1) p e in
      below_takes a.0.0 a.0.1 p (cont_takes (parts_of 47 w) a.0 a.1) a.2

  path_at_takes : (ws : Words) (p : Path × Words) → path_at s ws ≡ Some p → IsPathOf s p.0
  unfolding path_at
  path_at_takes [] p e = absurd cc
  path_at_takes (w ∷ ws) p e = let a = then_some (path_of s w) (λ x. Some (x, ws)) p e in subst (λ (q : Path × Words). IsPathOf s q.0) (same a.2) (path_takes w a.0 a.1)

-- ---- values and answers

abbrev pub IsByte : ℕ → Type 0
IsByte b = b < 2 ^ 8

abbrev pub IsText : List ℕ → Type 0
IsText w = AllByRecursion (λ b. b < 2 ^ 8) w

digit_takes : (d n : ℕ) → digit_of d ≡ Some n → n < 16
digit_takes d n e = go (leb 48 d && leb d 57) (leb 97 d && leb d 102) refl refl e
  where
    go : (a b : Bool) → (leb 48 d && leb d 57) ≡ a → (leb 97 d && leb d 102) ≡ b → cond a (Some (d - 48)) (cond b (Some (d - 87)) None) ≡ Some n → n < 16
    go true b i j e = let is : d - 48 ≡ n = same e in grind (arith, nat_tests)
    go false true i j e = let is : d - 87 ≡ n = same e in grind (arith, nat_tests)
    go false false i j e = absurd cc

hex_takes : (bytes digits v : List ℕ) → IsText bytes → hex_of bytes digits ≡ Some v → IsText v
hex_takes bytes [] v h e = subst (λ w. IsText w) (same e) h
hex_takes bytes (high ∷ []) v h e = absurd cc
hex_takes bytes (high ∷ low ∷ digits) v h e =
    let a = then_some (digit_of high) (λ h. digit_of low >>= λ l. hex_of (bytes ++ (h * 16 + l) ∷ []) digits) v e in
    let b = then_some (digit_of low) (λ l. hex_of (bytes ++ (a.0 * 16 + l) ∷ []) digits) v a.2 in
    let byte : a.0 * 16 + b.0 < 2 ^ 8 = omega (arith, digit_takes high a.0 a.1, digit_takes low b.0 b.1) in
    hex_takes (bytes ++ (a.0 * 16 + b.0) ∷ []) digits v (all_append IsByte bytes ((a.0 * 16 + b.0) ∷ []) h (byte, tt)) b.2

value_takes : (w v : List ℕ) → IsText w → value_of w ≡ Some v → IsText v
value_takes [] v h e = absurd cc
value_takes (mark ∷ spelled) v h e = go (eqb mark 61) (eqb mark 35) e
  where
    go : (a b : Bool) → cond a (Some spelled) (cond b (hex_of [] spelled) None) ≡ Some v → IsText v
    go true b e = subst (λ w. IsText w) (same e) h.1
    go false true e = hex_takes [] spelled v tt e
    go false false e = absurd cc

abbrev IsGoodPiece : Piece → Type 0
IsGoodPiece p = IsPiece p × IsWholePiece p

piece_takes : (w : List ℕ) (p : Piece) → IsText w → piece_of w ≡ Some p → IsGoodPiece p
piece_takes [] p h e = absurd cc
piece_takes (mark ∷ spelled) p h e = go (eqb mark 126) e
  where
    hole : (number_in 1 4294967295 spelled >>= λ n. Some (piece.Hole n)) ≡ Some p → IsGoodPiece p
    hole e =
        let a = step e in
        let n = numbers_are_decimals.spelled 1 4294967295 a.0 spelled (omega arith) a.1 in
        subst (λ q. IsGoodPiece q) (same a.2) (omega (arith, n.2), omega (arith, n.1))

    bytes : (value_of (mark ∷ spelled) >>= λ v. Some (piece.Bytes v)) ≡ Some p → IsGoodPiece p
    bytes e =
        let a = then_some (value_of (mark ∷ spelled)) (λ v. Some (piece.Bytes v)) p e in
        subst (λ q. IsGoodPiece q) (same a.2) (tt, All-from_recursion (λ b. b < 2 ^ 8) a.0 (value_takes (mark ∷ spelled) a.0 h a.1))

    go : (b : Bool) → cond b (number_in 1 4294967295 spelled >>= λ n. Some (piece.Hole n)) (value_of (mark ∷ spelled) >>= λ v. Some (piece.Bytes v)) ≡ Some p → IsGoodPiece p
    go true e = hole e
    go false e = bytes e

abbrev AreTexts : Words → Type 0
AreTexts ws = AllByRecursion (λ w. AllByRecursion (λ b. b < 2 ^ 8) w) ws

pieces_take : (ps : List Piece) (ws : Words) (qs : List Piece) → AllByRecursion (λ p. IsPiece p × IsWholePiece p) ps → AreTexts ws → pieces_from ps ws ≡ Some qs → AllByRecursion (λ p. IsPiece p × IsWholePiece p) qs
pieces_take ps [] qs h k e = subst (AllByRecursion (λ p. IsPiece p × IsWholePiece p)) (same e) h
pieces_take ps (w ∷ ws) qs h k e =
    let a = then_some (piece_of w) (λ p. pieces_from (ps ++ p ∷ []) ws) qs e in
    pieces_take (ps ++ a.0 ∷ []) ws qs (all_append (λ p. IsPiece p × IsWholePiece p) ps (a.0 ∷ []) h (piece_takes w a.0 k.0 a.1, tt)) k.1 a.2

names_take : (ks : List (List ℕ)) (ws : Words) (ls : List (List ℕ)) → AllByRecursion IsKey ks → names_from ks ws ≡ Some ls → AllByRecursion IsKey ls
names_take ks [] ls h e = subst (AllByRecursion IsKey) (same e) h
names_take ks (w ∷ ws) ls h e =
    let a = then_some (key_of w) (λ k. names_from (ks ++ k ∷ []) ws) ls e in
    names_take (ks ++ a.0 ∷ []) ws ls (all_append IsKey ks (a.0 ∷ []) h (key_takes w a.0 a.1, tt)) a.2

abbrev IsGoodAnswer : Answer → Type 0
IsGoodAnswer a = IsAnswer a × HasWholeValues a

all_left : {A : Type 0} (P Q : A → Type 0) (xs : List A) → AllByRecursion (λ x. P x × Q x) xs → AllByRecursion P xs × AllByRecursion Q xs
all_left P Q [] h = (tt, tt)
all_left P Q (x ∷ xs) h = let rest = all_left P Q xs h.1 in ((h.0.0, rest.0), (h.0.1, rest.1))

answer_takes : (ws : Words) (x : Answer) → AreTexts ws → answer_of ws ≡ Some x → IsGoodAnswer x
unfolding answer_of
answer_takes [] x h e = absurd cc
answer_takes (w ∷ ws) x h e = go (bytes_eq w (codes "value")) (bytes_eq w (codes "parts")) (bytes_eq w (codes "names")) e
  where
    of_value : (us : Words) → AreTexts us → value_answer us ≡ Some x → IsGoodAnswer x
    of_value [] h e = absurd cc
    of_value (u ∷ us) h e =
        let a = then_some (value_of u) (λ v. nothing_at us >>= λ end. Some (answer.Bytes v)) x e in
        let b = then_some (nothing_at us) (λ end. Some (answer.Bytes a.0)) x a.2 in
        subst (λ y. IsGoodAnswer y) (same b.2) (tt, All-from_recursion (λ b. b < 2 ^ 8) a.0 (value_takes u a.0 h.0 a.1))

    of_parts : (pieces_from [] ws >>= λ ps. Some (answer.Parts ps)) ≡ Some x → IsGoodAnswer x
    of_parts e =
        let a = then_some (pieces_from [] ws) (λ ps. Some (answer.Parts ps)) x e in
        let good = all_left (λ p. IsPiece p) (λ p. IsWholePiece p) a.0 (pieces_take [] ws a.0 tt h.1 a.1) in
        subst (λ y. IsGoodAnswer y) (same a.2) (All-from_recursion IsPiece a.0 good.0, All-from_recursion IsWholePiece a.0 good.1)

    of_names : (names_from [] ws >>= λ ks. Some (answer.Names ks)) ≡ Some x → IsGoodAnswer x
    of_names e =
        let a = then_some (names_from [] ws) (λ ks. Some (answer.Names ks)) x e in
        subst (λ y. IsGoodAnswer y) (same a.2) (All-from_recursion IsKey a.0 (names_take [] ws a.0 tt a.1), tt)

    plain : (a b c : Bool) (y : Answer) → cond a (Some answer.Yes) (cond b (Some answer.No) (cond c (Some answer.Absent) None)) ≡ Some y → IsGoodAnswer y
    plain true b c y e = subst (λ z. IsGoodAnswer z) (same e) (tt, tt)
    plain false true c y e = subst (λ z. IsGoodAnswer z) (same e) (tt, tt)
    plain false false true y e = subst (λ z. IsGoodAnswer z) (same e) (tt, tt)
    plain false false false y e = absurd cc

    of_plain : plain_answer w ws ≡ Some x → IsGoodAnswer x
    of_plain e =
        let a = then_some (plain_of w) (λ y. nothing_at ws >>= λ end. Some y) x e in
        let b = then_some (nothing_at ws) (λ end. Some a.0) x a.2 in
        subst (λ y. IsGoodAnswer y) (same b.2) (plain (bytes_eq w (codes "yes")) (bytes_eq w (codes "no")) (bytes_eq w (codes "absent")) a.0 a.1)

    go : (a b c : Bool) → cond a (value_answer ws) (cond b (pieces_from [] ws >>= λ ps. Some (answer.Parts ps)) (cond c (names_from [] ws >>= λ ks. Some (answer.Names ks)) (plain_answer w ws))) ≡ Some x → IsGoodAnswer x
    go true b c e = of_value ws h.1 e
    go false true c e = of_parts e
    go false false true e = of_names e
    go false false false e = of_plain e

-- ---- outcomes

floor_takes : (ws : Words) (why : FloorWhy) → floor_of ws ≡ Some why → IsFloorWhy why
unfolding floor_of
floor_takes [] why e = absurd cc
floor_takes (w ∷ ws) why e = go (bytes_eq w (codes "snapshot")) e
  where
    by : (a b : Bool) (n : ℕ) → n < 2 ^ 32 → cond a (Some (floor.Restart n)) (cond b (Some (floor.Aggregate n)) None) ≡ Some why → IsFloorWhy why
    by true b n lt e = subst IsFloorWhy (same e) lt
    by false true n lt e = subst IsFloorWhy (same e) lt
    by false false n lt e = absurd cc

    go : (b : Bool) → cond b (snapshot_floor ws) (numbered_floor w ws) ≡ Some why → IsFloorWhy why
    go true e =
        let a = step e in
        subst IsFloorWhy {x = floor.Snapshot a.0.0} (same (done a.0.1 (Some (floor.Snapshot a.0.0)) why a.2)) (epoch_takes ws a.0 a.1)
    go false e =
        let a = step e in
        by (bytes_eq w (codes "restart")) (bytes_eq w (codes "aggregate")) a.0.0 (u32_takes ws a.0 a.1) (done a.0.1 (floor_by w a.0.0) why a.2)

module _ (s : Script) (names : HasNames s) where
  access_takes : (ws : Words) (a : Shown) → access_of s ws ≡ Some a → IsAccessOf s a.by a.epoch a.path
  unfolding access_of
  access_takes ws x e =
      let a = step e in
      let b = step a.2 in
      let c = step b.2 in
      let shown : Shown = record { by = a.0.0; epoch = b.0.0; path = c.0.0 } in
      subst (λ (y : Shown). IsAccessOf s y.by y.epoch y.path) {x = shown} (same (done c.0.1 (Some shown) x c.2)) (record { id = attempt_takes ws a.0 a.1; issued = epoch_takes a.0.1 b.0 b.1; named = path_at_takes s names b.0.1 c.0 c.1 })

  floor_cause_takes : (ws : Words) (why : Cause) → floor_cause_of ws ≡ Some why → IsCauseOf s why
  unfolding floor_cause_of
  floor_cause_takes ws why e =
      let a = step e in
      let b = step a.2 in
      let c = step b.2 in
      subst (IsCauseOf s) {x = cause.Floor a.0.0 b.0.0 c.0} (same c.2) (record { number = u8_takes ws a.0 a.1; issued = epoch_takes a.0.1 b.0 b.1; cause = floor_takes b.0.1 c.0 c.1 })

  cause_takes : (ws : Words) (why : Cause) → cause_of s ws ≡ Some why → IsCauseOf s why
  unfolding cause_of
  cause_takes [] why e = absurd cc
  cause_takes (w ∷ ws) why e = go (bytes_eq w (codes "floor")) (bytes_eq w (codes "unresolved")) e
    where
      by : (a b : Bool) (x : Shown) → IsAccessOf s x.by x.epoch x.path → cond a (Some (cause.ReadLater x.by x.epoch x.path)) (cond b (Some (cause.WriteLater x.by x.epoch x.path)) None) ≡ Some why → IsCauseOf s why
      by true b x h e = subst (IsCauseOf s) (same e) h
      by false true x h e = subst (IsCauseOf s) (same e) h
      by false false x h e = absurd cc

      go : (a b : Bool) → cond a (floor_cause_of ws) (cond b (unresolved_of ws) (later_of s w ws)) ≡ Some why → IsCauseOf s why
      go true b e = floor_cause_takes ws why e
      go false true e =
          let a = step e in
          subst (IsCauseOf s) {x = cause.Unresolved a.0.0} (same (done a.0.1 (Some (cause.Unresolved a.0.0)) why a.2)) (attempt_takes ws a.0 a.1)
      go false false e = let a = step e in by (bytes_eq w (codes "readlater")) (bytes_eq w (codes "writelater")) a.0 (access_takes ws a.0 a.1) a.2

  no_space_takes : (ws : Words) (o : Outcome) → no_space_of ws ≡ Some o → IsOutcomeOf s o
  unfolding no_space_of
  no_space_takes ws o e =
      let a = step e in
      let b = step a.2 in
      let c = step b.2 in
      let told = outcome.NoSpace a.0.0 b.0.0 c.0.0 in
      subst (IsOutcomeOf s) {x = told} (same (done c.0.1 (Some told) o c.2)) (record { number = u8_takes ws a.0 a.1; wanted = u32_takes a.0.1 b.0 b.1; found = u32_takes b.0.1 c.0 c.1 })

  numbered_takes : (w : List ℕ) (ws : Words) (o : Outcome) → numbered_of w ws ≡ Some o → IsOutcomeOf s o
  unfolding numbered_of
  numbered_takes w ws o e =
      let a = step e in
      by (bytes_eq w (codes "condfailed")) (bytes_eq w (codes "unknown")) a.0.0 (u8_takes ws a.0 a.1) (done a.0.1 (numbered_by w a.0.0) o a.2)
    where
      by : (a b : Bool) (n : ℕ) → n < 2 ^ 8 → cond a (Some (outcome.CondFailed n)) (cond b (Some (outcome.Unknown n)) None) ≡ Some o → IsOutcomeOf s o
      by true b n lt e = subst (IsOutcomeOf s) (same e) lt
      by false true n lt e = subst (IsOutcomeOf s) (same e) lt
      by false false n lt e = absurd cc

  outcome_takes : (ws : Words) (o : Outcome) → outcome_of s ws ≡ Some o → IsOutcomeOf s o
  unfolding outcome_of
  outcome_takes [] o e = absurd cc
  outcome_takes (w ∷ ws) o e = go (bytes_eq w (codes "restart")) (bytes_eq w (codes "nospace")) e
    where
      plain : (a b c : Bool) → out.plain_or_numbered w (cond a (Some outcome.Committed) (cond b (Some outcome.EpochsSpent) (cond c (Some outcome.NoSnapshot) None))) ws ≡ Some o → IsOutcomeOf s o
      plain true b c e = subst (IsOutcomeOf s) {x = outcome.Committed} (same (done ws (Some outcome.Committed) o e)) tt
      plain false true c e = subst (IsOutcomeOf s) {x = outcome.EpochsSpent} (same (done ws (Some outcome.EpochsSpent) o e)) tt
      plain false false true e = subst (IsOutcomeOf s) {x = outcome.NoSnapshot} (same (done ws (Some outcome.NoSnapshot) o e)) tt
      plain false false false e = numbered_takes w ws o e

      go : (a b : Bool) → cond a (out.restart_of s ws) (cond b (no_space_of ws) (out.plain_or_numbered w (out.plain_of w) ws)) ≡ Some o → IsOutcomeOf s o
      go true b e = let a = step e in subst (IsOutcomeOf s) {x = outcome.Restart a.0} (same a.2) (cause_takes ws a.0 a.1)
      go false true e = no_space_takes ws o e
      go false false e = plain (bytes_eq w (codes "committed")) (bytes_eq w (codes "spent")) (bytes_eq w (codes "nosnap")) e

  -- ---- rows

  -- what a row tells is in form
  abbrev pub IsGoodTold : Told → Type 0
  IsGoodTold (Try a) = IsAttemptOf s a
  IsGoodTold (Cond c) = IsCond c
  IsGoodTold (Got g) = IsGot g × HasWholeValues g.1
  IsGoodTold (Other l) = IsLineOf s l

  try_takes : (ws : Words) (t : Told) → attempt_of s ws ≡ Some t → IsGoodTold t
  unfolding attempt_of
  try_takes ws t e =
      let a = step e in
      let b = step a.2 in
      let c = step b.2 in
      subst (λ u. IsGoodTold u) {x = Try (record { id = a.0.0; epoch = b.0.0; conds = []; gots = []; outcome = c.0 })} (same c.2) (record {
        id = attempt_takes ws a.0 a.1;
        epoch = epoch_or_none_takes a.0.1 b.0 b.1;
        conds = All-from_recursion IsCond [] tt;
        gots = All-from_recursion IsGot [] tt;
        outcome = outcome_takes b.0.1 c.0 c.1;
      })

  cond_takes : (ws : Words) (t : Told) → cond_of ws ≡ Some t → IsGoodTold t
  unfolding cond_of
  cond_takes ws t e =
      let a = step e in
      let b = then_some (yes_at a.0.1) (λ holds. nothing_at holds.1 >>= λ end. Some (Cond (a.0.0, holds.0))) t a.2 in
      subst (λ u. IsGoodTold u) {x = Cond (a.0.0, b.0.0)} (same (done b.0.1 (Some (Cond (a.0.0, b.0.0))) t b.2)) (u8_takes ws a.0 a.1)

  got_takes : (ws : Words) (t : Told) → AreTexts ws → got_of ws ≡ Some t → IsGoodTold t
  unfolding got_of
  got_takes ws t h e =
      let a = then_some (number_at 0 255 ws) (λ op. answer_of op.1 >>= λ x. Some (Got (op.0, x))) t e in
      let b = then_some (answer_of a.0.1) (λ x. Some (Got (a.0.0, x))) t a.2 in
      let n = number_takes 0 255 ws a.0 (omega arith) a.1 in
      let good = answer_takes a.0.1 b.0 (n.behind h) b.1 in
      subst (λ u. IsGoodTold u) {x = Got (a.0.0, b.0)} (same b.2) (record { op = u8_takes ws a.0 a.1; answer = good.0 }, good.1)

  stop_takes : (ws : Words) (t : Told) → stop_of ws ≡ Some t → IsGoodTold t
  unfolding stop_of
  stop_takes ws t e =
      let a = step e in
      let b = step a.2 in
      subst (λ u. IsGoodTold u) {x = Other (line.Stop a.0.0 b.0.0)} (same (done b.0.1 (Some (Other (line.Stop a.0.0 b.0.0))) t b.2)) (u32_takes ws a.0 a.1, u8_takes a.0.1 b.0 b.1)

  restart_takes : (ws : Words) (t : Told) → restart_of ws ≡ Some t → IsGoodTold t
  unfolding restart_of
  restart_takes ws t e =
      let a = step e in
      let b = step a.2 in
      let c = step b.2 in
      let d = step c.2 in
      subst (λ u. IsGoodTold u) {x = Other (line.Restart a.0.0 b.0.0 c.0.0 d.0.0)} (same {x = Other (line.Restart a.0.0 b.0.0 c.0.0 d.0.0)} (done d.0.1 (Some (Other (line.Restart a.0.0 b.0.0 c.0.0 d.0.0))) t d.2)) (record { which = u32_takes ws a.0 a.1; of_target = u8_takes a.0.1 b.0 b.1; opening = u64_takes b.0.1 c.0 c.1; issued = epoch_takes c.0.1 d.0 d.1 })

  freeze_takes : (ws : Words) (t : Told) → freeze_of s ws ≡ Some t → IsGoodTold t
  unfolding freeze_of
  freeze_takes ws t e =
      let a = step e in
      let b = step a.2 in
      let c = step b.2 in
      subst (λ u. IsGoodTold u) {x = Other (line.Freeze a.0.0 b.0.0 c.0.0)} (same (done c.0.1 (Some (Other (line.Freeze a.0.0 b.0.0 c.0.0))) t c.2)) (record { of_target = u8_takes ws a.0 a.1; named = cont_takes s names a.0.1 b.0 b.1; issued = epoch_takes b.0.1 c.0 c.1 })

  key_at_takes : (ws : Words) (p : List ℕ × Words) → key_at ws ≡ Some p → IsKey p.0
  unfolding key_at
  key_at_takes [] p e = absurd cc
  key_at_takes (w ∷ ws) p e = let a = then_some (key_of w) (λ k. Some (k, ws)) p e in subst (λ (q : List ℕ × Words). IsKey q.0) (same a.2) (key_takes w a.0 a.1)

  snapshot_takes : (ws : Words) (t : Told) → snapshot_of s ws ≡ Some t → IsGoodTold t
  unfolding snapshot_of
  snapshot_takes ws t e =
      let a = step e in
      let b = step a.2 in
      let c = step b.2 in
      subst (λ u. IsGoodTold u) {x = Other (line.Snapshot a.0.0 b.0.0 c.0.0)} (same (done c.0.1 (Some (Other (line.Snapshot a.0.0 b.0.0 c.0.0))) t c.2)) (record { key = key_at_takes ws a.0 a.1; named = cont_takes s names a.0.1 b.0 b.1; issued = epoch_takes b.0.1 c.0 c.1 })

  aggregate_takes : (ws : Words) (t : Told) → aggregate_of s ws ≡ Some t → IsGoodTold t
  unfolding aggregate_of
  aggregate_takes ws t e =
      let a = step e in
      let b = step a.2 in
      let c = step b.2 in
      let d = step c.2 in
      subst (λ u. IsGoodTold u) {x = Other (line.Aggregate a.0.0 b.0.0 c.0.0 d.0.0)} (same {x = Other (line.Aggregate a.0.0 b.0.0 c.0.0 d.0.0)} (done d.0.1 (Some (Other (line.Aggregate a.0.0 b.0.0 c.0.0 d.0.0))) t d.2)) (record { which = u32_takes ws a.0 a.1; of_target = u8_takes a.0.1 b.0 b.1; named = cont_takes s names b.0.1 c.0 c.1; issued = epoch_takes c.0.1 d.0 d.1 })

  down_takes : (ws : Words) (t : Told) → down_of ws ≡ Some t → IsGoodTold t
  unfolding down_of
  down_takes ws t e =
      let a = step e in
      subst (λ u. IsGoodTold u) {x = Other (line.Down a.0.0)} (same (done a.0.1 (Some (Other (line.Down a.0.0))) t a.2)) (u8_takes ws a.0 a.1)

  pub told_takes : (ws : Words) (t : Told) → AreTexts ws → told_of s ws ≡ Some t → IsGoodTold t
  unfolding told_of
  told_takes [] t h e = absurd cc
  told_takes (w ∷ ws) t h e =
      go (bytes_eq w (codes "try")) (bytes_eq w (codes "cond")) (bytes_eq w (codes "got")) (bytes_eq w (codes "stop")) (bytes_eq w (codes "restart")) (bytes_eq w (codes "freeze"))
      (bytes_eq w (codes "snapshot")) (bytes_eq w (codes "aggregate")) (bytes_eq w (codes "down")) e
    where
      go : (a b c d f g k i j : Bool) → cond a (attempt_of s ws) (cond b (cond_of ws) (cond c (got_of ws) (cond d (stop_of ws) (cond f (restart_of ws) (cond g (freeze_of s ws)
          (cond k (snapshot_of s ws) (cond i (aggregate_of s ws) (cond j (down_of ws) None)))))))) ≡ Some t → IsGoodTold t
      go true b c d f g k i j e = try_takes ws t e
      go false true c d f g k i j e = cond_takes ws t e
      go false false true d f g k i j e = got_takes ws t h.1 e
      go false false false true f g k i j e = stop_takes ws t e
      go false false false false true g k i j e = restart_takes ws t e
      go false false false false false true k i j e = freeze_takes ws t e
      go false false false false false false true i j e = snapshot_takes ws t e
      go false false false false false false false true j e = aggregate_takes ws t e
      go false false false false false false false false true e = down_takes ws t e
      go false false false false false false false false false e = absurd cc
