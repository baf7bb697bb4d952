-- Commands seen so far.
use Rattle.std.proofs.Common.{◌≡◌, ℕ, ◌+◌, ◌<◌, Bool, true, false, cond, not, ◌||◌, ◌&&◌, eqb, List, [], ◌∷◌, ◌++◌, length, drop, get_or, Some, None, refl, sym, ap, ◌∙◌, arith, drop-cons, add-one}
use Rattle.std.specs.List.{list_any, filter_map}
use Rattle.std.proofs.lemmas.Bool.Decides.{nat_tests}
use Rattle.base_types.specs.declared.report.Line.{Line}
use Rattle.daos_summary.specs.Counts.{Numbered, same_command, command_of, count_new, commands_of}

-- a set has the commands so far, and their number and that of the new ones behind are all
pub record SoFar (has : Numbered → Bool) (len : ℕ) (rest : List Line) (all : ℕ) : Type 0 where
  pub before : List Numbered
  pub same : (c : Numbered) → has c ≡ list_any (same_command c) before
  pub count : len + count_new before (filter_map command_of rest) ≡ all

pub start : (has : Numbered → Bool) (len : ℕ) (lines : List Line) → ((c : Numbered) → has c ≡ false) → len ≡ 0 → SoFar has len lines (commands_of lines)
start has len lines h e = record { before = []; same = h; count = omega (arith, e) }

eqb_swap : (a b : ℕ) → eqb a b ≡ eqb b a
eqb_swap a b = grind (arith, nat_tests)

same_swap : (c d : Numbered) → same_command c d ≡ same_command d c
same_swap c d = ap (λ t. t && eqb c.1 d.1) (eqb_swap c.0 d.0) ∙ ap (λ t. eqb d.0 c.0 && t) (eqb_swap c.1 d.1)

any_push : (p : Numbered → Bool) (cs : List Numbered) (c : Numbered) → list_any p (cs ++ c ∷ []) ≡ cond (p c) true (list_any p cs)
any_push p [] c = go (p c)
  where
    go : (b : Bool) → (b || false) ≡ cond b true false
    go true = refl
    go false = refl
any_push p (d ∷ cs) c = ap (λ t. p d || t) (any_push p cs c) ∙ go (p d) (p c)
  where
    go : (a b : Bool) → (a || cond b true (list_any p cs)) ≡ cond b true (a || list_any p cs)
    go true true = refl
    go true false = refl
    go false true = refl
    go false false = refl

abbrev added_by : Bool → ℕ
added_by added = cond added 1 0

-- one command more
pub seen : (old new : Numbered → Bool) (len more : ℕ) (line : Line) (rest : List Line) (all : ℕ) (c : Numbered) (added : Bool) → command_of line ≡ Some c → added ≡ not (old c)
    → ((q : Numbered) → new q ≡ cond (same_command c q) true (old q)) → more ≡ len + cond added 1 0 → SoFar old len (line ∷ rest) all → SoFar new more rest all
seen old new len more line rest all c added e f g h s =
    let cs = filter_map command_of rest in
    let next = s.before ++ c ∷ [] in
    let told : len + count_new s.before (c ∷ cs) ≡ all = rw e at s.count in
    let test : added ≡ not (list_any (same_command c) s.before) = f ∙ ap not (s.same c) in
    record {
      before = next;
      same = λ q. g q ∙ ap (λ t. cond t true (old q)) (same_swap c q) ∙ ap (λ t. cond (same_command q c) true t) (s.same q) ∙ sym (any_push (same_command q) s.before c);
      count = go (list_any (same_command c) s.before) (count_new next cs) added test h told;
    }
  where
    go : (b : Bool) (k : ℕ) (added : Bool) → added ≡ not b → more ≡ len + cond added 1 0 → len + (cond b 0 1 + k) ≡ all → more + k ≡ all
    go true k a e h t = let z : added_by a ≡ 0 = ap added_by e in omega (arith, h, t, z)
    go false k a e h t = let z : added_by a ≡ 1 = ap added_by e in omega (arith, h, t, z)

-- a line that tells of none
pub passed : (has : Numbered → Bool) (len : ℕ) (line : Line) (rest : List Line) (all : ℕ) → command_of line ≡ None → SoFar has len (line ∷ rest) all → SoFar has len rest all
passed has len line rest all e s = record { before = s.before; same = s.same; count = rw e at s.count }

-- none is left
pub ended : (has : Numbered → Bool) (len all : ℕ) → SoFar has len [] all → len ≡ all
ended has len all s = omega (arith, s.count)

pub next_line : (lines : List Line) (i : ℕ) (line : Line) → i < length lines → line ≡ get_or lines i line → drop i lines ≡ line ∷ drop (i + 1) lines
next_line lines i line lt is = rw (drop-cons lines i line lt, ← is, add-one) refl
