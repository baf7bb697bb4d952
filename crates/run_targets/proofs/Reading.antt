-- Lines of a report, read one after another.
use Rattle.std.specs.Prelude.{ℕ, zero, suc, ◌≡◌, ◌<◌, ◌≤◌, All, List, [], ◌∷◌, drop, length, slice_get, take, Option, Some, None, refl}
use Rattle.std.proofs.Common.{inl, inr, sym, ◌∙◌, ap, subst, arith}
use Rattle.std.proofs.lemmas.Bool.{cases_eq}
use Rattle.std.proofs.lemmas.List.Elements.{All-cons, All-head, All-nil, All-tail}
use Rattle.std.proofs.lemmas.Option.{slice_get_within}
use Rattle.base_types.specs.declared.report.Line.{Line}
use Rattle.base_types.specs.declared.report.Line.TheVariants as line
use Rattle.daos_model.specs.Attempts.{tries}
use Rattle.daos_model.specs.Stops.{down_targets, least, least_with}
use Rattle.model_laws.specs.Lists.{place-of}
use Rattle.run_loop.specs.Below.{AreTyped, HasTypedNumbers}
use Rattle.report_round_trip.specs.Values.{AllTellBytes, HasByteAnswers, TellsBytes}
use Rattle.run_targets.proofs.Taken.{all-more, all-taken}

-- the least of what was found before and of what is found later
abbrev pub with_first : Option ℕ → Option ℕ → Option ℕ
with_first None later = later
with_first (Some n) later = least_with n later

-- The lines before a place were read. The least target of which these or later ones tell that it was given up is that of all; and numbers of those
-- before are as small as their types hold, and values bytes.
pub record AreReadTo (n : ℕ) (lines : List Line) (first : Option ℕ) : Type 0 where
  pub least : with_first first (least (down_targets (drop n lines))) ≡ least (down_targets lines)
  pub typed : (k : ℕ) (l : Line) → k < n → slice_get lines k ≡ Some l → HasTypedNumbers l
  pub bytes : All TellsBytes (take n lines)

drop-at : {T : Type 0} (xs : List T) (n : ℕ) (x : T) → slice_get xs n ≡ Some x → drop n xs ≡ x ∷ drop (suc n) xs
drop-at [] n x at = let no : ⊥ = cc in absurd no
drop-at (y ∷ xs) zero x at = let same : y ≡ x = cc in ap (λ z. z ∷ xs) same
drop-at (y ∷ xs) (suc n) x at = drop-at xs n x at

lower-first : (t : ℕ) (first later : Option ℕ) → with_first (least_with t first) later ≡ with_first first (least_with t later)
lower-first t None later = refl
lower-first t (Some k) None = ap (λ n. Some n) (omega arith)
lower-first t (Some k) (Some j) = ap (λ n. Some n) (omega arith)

typed-on : (n : ℕ) (lines : List Line) (l : Line) → slice_get lines n ≡ Some l → HasTypedNumbers l → ((k : ℕ) (m : Line) → k < n → slice_get lines k ≡ Some m → HasTypedNumbers m) → (k : ℕ) (m : Line) → k < suc n → slice_get lines k ≡ Some m → HasTypedNumbers m
typed-on n lines l at typed before k m low to = elim (cases_eq k n) as (λ c. HasTypedNumbers m) [
  | inl same ↦ (let one : l ≡ m = let e : Some l ≡ Some m = sym at ∙ subst (λ j. slice_get lines j ≡ Some m) same to in cc in subst HasTypedNumbers one typed)
  | inr apart ↦ before k m (omega (arith, low, apart)) to
]

-- a line that tells that a target was given up
pub down-read : (n : ℕ) (lines : List Line) (l : Line) (t : ℕ) (first now : Option ℕ) → slice_get lines n ≡ Some l → l ≡ line.Down t → now ≡ least_with t first → HasTypedNumbers l → TellsBytes l → AreReadTo n lines first → AreReadTo (suc n) lines now
down-read n lines l t first now at is lower typed bytes k = record {
  least =
      ap (λ m. with_first m (least (down_targets (drop (suc n) lines)))) lower ∙ lower-first t first (least (down_targets (drop (suc n) lines)))
      ∙ ap (λ ls. with_first first (least (down_targets ls))) (ap (λ m. m ∷ drop (suc n) lines) (sym is) ∙ sym (drop-at lines n l at)) ∙ k.least;
  typed = typed-on n lines l at typed k.typed;
  bytes = all-more TellsBytes n lines l at bytes k.bytes;
}

-- another line
pub other-read : (n : ℕ) (lines : List Line) (l : Line) (first : Option ℕ) → slice_get lines n ≡ Some l → ((t : ℕ) → l ≡ line.Down t → ⊥) → HasTypedNumbers l → TellsBytes l → AreReadTo n lines first → AreReadTo (suc n) lines first
other-read n lines l first at other typed bytes k = record {
  least = ap (λ ls. with_first first (least ls)) (sym (none l other) ∙ ap down_targets (sym (drop-at lines n l at))) ∙ k.least;
  typed = typed-on n lines l at typed k.typed;
  bytes = all-more TellsBytes n lines l at bytes k.bytes;
}
  where
    none : (m : Line) → ((t : ℕ) → m ≡ line.Down t → ⊥) → down_targets (m ∷ drop (suc n) lines) ≡ down_targets (drop (suc n) lines)
    none (line.Down t) apart = absurd (apart t refl)
    none (line.Try a) apart = refl
    none (line.Stop i t) apart = refl
    none (line.Restart i t incarnation floor) apart = refl
    none (line.Freeze t cont epoch) apart = refl
    none (line.Snapshot name cont epoch) apart = refl
    none (line.Aggregate i t cont upto) apart = refl

pub all-typed : (n : ℕ) (lines : List Line) (first : Option ℕ) → length lines ≤ n → AreReadTo n lines first → AreTyped lines
all-typed n lines first all k l i = let z = place-of lines l i in k.typed z.0 l (let low = slice_get_within lines z.0 l z.1 in omega (arith, low, all)) z.1

-- and their values are bytes
tries-bytes : (lines : List Line) → All TellsBytes lines → AllTellBytes lines
unfolding tries
tries-bytes [] k = All-nil HasByteAnswers
tries-bytes (line.Try a ∷ lines) k = All-cons HasByteAnswers a (tries lines) (All-head TellsBytes (line.Try a) lines k) (tries-bytes lines (All-tail TellsBytes (line.Try a) lines k))
tries-bytes (line.Stop i t ∷ lines) k = tries-bytes lines (All-tail TellsBytes (line.Stop i t) lines k)
tries-bytes (line.Restart i t incarnation floor ∷ lines) k = tries-bytes lines (All-tail TellsBytes (line.Restart i t incarnation floor) lines k)
tries-bytes (line.Freeze t cont epoch ∷ lines) k = tries-bytes lines (All-tail TellsBytes (line.Freeze t cont epoch) lines k)
tries-bytes (line.Snapshot name cont epoch ∷ lines) k = tries-bytes lines (All-tail TellsBytes (line.Snapshot name cont epoch) lines k)
tries-bytes (line.Aggregate i t cont upto ∷ lines) k = tries-bytes lines (All-tail TellsBytes (line.Aggregate i t cont upto) lines k)
tries-bytes (line.Down t ∷ lines) k = tries-bytes lines (All-tail TellsBytes (line.Down t) lines k)

pub all-bytes : (n : ℕ) (lines : List Line) (first : Option ℕ) → length lines ≤ n → AreReadTo n lines first → AllTellBytes lines
all-bytes n lines first all k = tries-bytes lines (all-taken TellsBytes n lines all k.bytes)
