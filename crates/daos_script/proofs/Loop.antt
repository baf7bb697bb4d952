-- The fold over the lines of a text, and where it ends.
use Rattle.std.proofs.Common.{◌≡◌, ℕ, ◌+◌, ◌≤◌, true, suc, List, [], ◌∷◌, length, take, Option, Some, None, Result, Ok, Err, refl, sym, ap, subst, ◌∙◌, arith, eqb}
use Rattle.std.proofs.lemmas.Bool.Decides.{nat_tests}
use Rattle.std.proofs.lemmas.List.{length-take}
use Rattle.std.proofs.lemmas.List.Splits.{length-slice_split}
use Rattle.std.proofs.lemmas.List.Sums.{count_by-le-length}
use Rattle.base_types.specs.Scripts.{IsInForm}
use Rattle.base_types.specs.declared.fault.ScriptFault.{ScriptFault}
use Rattle.base_types.specs.declared.fault.Why.TheVariants.{TooLong}
use Rattle.base_types.specs.declared.script.Command.{Command}
use Rattle.base_types.specs.declared.script.Script.{Script}
use Rattle.base_text.specs.Parts.{parts_of}
use Rattle.base_text.specs.Results.{◌>>=◌}
use Rattle.base_text.specs.Steps.{steps, steps-nil, steps-cons_err, steps-cons_ok}
use Rattle.daos_script.specs.declared.fault.ScriptNo.{ScriptNo}
use Rattle.daos_script.specs.declared.fault.ScriptNo.TheVariants as whole
use Rattle.daos_script.specs.declared.reading.Reading.{Reading}
use Rattle.daos_script.specs.Located.{FailsAt}
use Rattle.daos_script.specs.declared.lists.Lists.{Lists}
use Rattle.daos_script.specs.Lists.{all_lists}
use Rattle.daos_script.specs.Steps.{tx_of}
use Rattle.daos_script.specs.Puts.{nothing_read}
use Rattle.daos_script.specs.Readings.{bad_tell, ended, ended_lists, long_line, open_line, script_of, script_with, text_lines, unless_bad, unless_open, with_line}
use Rattle.daos_script.specs.SoFar.{IsSoFar}
use Rattle.daos_script.proofs.Binds.{bind_ok}
use Rattle.daos_script.proofs.Keeps.{nothing_so_far, read_for, so_far_form}

same_is : (m n : ℕ) → m ≡ n → eqb m n ≡ true
same_is m n e = grind (arith, nat_tests)

-- nothing is read of the line in which the text becomes too long
pub too_long : (long at : ℕ) (r : Reading) (text : List ℕ) → at ≡ long → with_line long at r text ≡ Err (record { line = at; why = TooLong 16777216 })
unfolding with_line
too_long long at r text e = rw (same_is at long e) refl

abbrev read_lines : ℕ → List ℕ → Result Reading ScriptFault
read_lines n bytes = steps (with_line (long_line bytes)) 1 (nothing_read n) (text_lines bytes)

-- a line's fault is the text's
pub fault_of : (n : ℕ) (bytes : List ℕ) (e : ScriptNo) (long at : ℕ) (r : Reading) (line : List ℕ) (lines : List (List ℕ)) → FailsAt e (with_line long at r line)
    → steps (with_line long) at r (line ∷ lines) ≡ read_lines n bytes → FailsAt e (script_of n bytes)
unfolding script_of
fault_of n bytes whole.Memory long at r line lines h e = tt
fault_of n bytes (whole.Fault fault) long at r line lines h e = ap (λ o. o >>= λ r. ended r) (sym e ∙ steps-cons_err (with_line long) at r line lines fault h)

-- after the last line
pub end_of : (n : ℕ) (bytes : List ℕ) (long at : ℕ) (r : Reading) → steps (with_line long) at r [] ≡ read_lines n bytes → script_of n bytes ≡ ended r
unfolding script_of
end_of n bytes long at r e = ap (λ o. o >>= λ r. ended r) (sym e ∙ steps-nil (with_line long) at r)

-- a text has no more lines than bytes, but one
pub few_lines : (bytes : List ℕ) → length (parts_of 10 bytes) ≤ length bytes + 1
few_lines bytes = omega (arith, length-slice_split (λ b. eqb b 10) bytes, count_by-le-length (λ b. eqb b 10) bytes)

ends_well : (o b : Option ℕ) (x y : List (List Command)) → unless_open o (unless_bad b x) ≡ Ok y → (b ≡ None) × (x ≡ y)
ends_well None None x y e = (refl, cc)
ends_well None (Some line) x y e = absurd cc
ends_well (Some line) b x y e = absurd cc

lists_end : (l : Lists) (lists : List (List Command)) → ended_lists l ≡ Ok lists → (bad_tell (length (all_lists l)) l.tells ≡ None) × (all_lists l ≡ lists)
unfolding ended_lists
lists_end l lists e = ends_well (open_line (tx_of l.present.client)) (bad_tell (length (all_lists l)) l.tells) (all_lists l) lists e

abbrev made : Script → Result Script ScriptFault
made s = Ok s

made_is : (x y : Script) → made x ≡ made y → x ≡ y
made_is x y e = cc

-- the script that was read is in form
pub ended_form : (targets at : ℕ) (r : Reading) (s : Script) → IsSoFar targets at r → ended r ≡ Ok s → IsInForm targets s
unfolding ended
ended_form targets at r s h e =
    let a = bind_ok (ended_lists r.lists) (λ lists. Ok (script_with r.decls lists)) s e in
    let ends = lists_end r.lists a.0 a.1 in
    subst (λ s. IsInForm targets s) (ap (script_with r.decls) ends.1 ∙ made_is (script_with r.decls a.0) s a.2) (so_far_form targets at r h ends.0)

-- ---- so far

-- the lines before this number are read, and these are left
pub record IsReadTo (n : ℕ) (bytes : List ℕ) (long at : ℕ) (r : Reading) (lines : List (List ℕ)) : Type 0 where
  pub so_far : steps (with_line long) at r lines ≡ read_lines n bytes
  pub count : at + length lines ≡ 1 + length (text_lines bytes)
  pub form : IsSoFar n at r

-- no line is read yet
pub none_read : (n : ℕ) (bytes first : List ℕ) (long : ℕ) (r : Reading) (lines : List (List ℕ)) → long ≡ long_line bytes → first ≡ take 16777216 bytes → lines ≡ parts_of 10 first → r ≡ nothing_read n
    → IsReadTo n bytes long 1 r lines
none_read n bytes first long r lines e f g h =
    let all : lines ≡ text_lines bytes = g ∙ ap (parts_of 10) f in
    record {
      so_far = ap (λ k. steps (with_line k) 1 r lines) e ∙ (ap (λ s. steps (with_line (long_line bytes)) 1 s lines) h ∙ ap (λ ls. steps (with_line (long_line bytes)) 1 (nothing_read n) ls) all);
      count = ap (λ (ls : List (List ℕ)). 1 + length ls) all;
      form = subst (λ s. IsSoFar n 1 s) (sym h) (nothing_so_far n);
    }

module _ (n : ℕ) (bytes : List ℕ) (long at : ℕ) (r : Reading) (lines : List (List ℕ)) (h : IsReadTo n bytes long at r lines) where
  -- it was read for as many targets as it says
  pub own_form : IsSoFar r.decls.targets at r
  own_form = subst (λ m. IsSoFar m at r) (sym (read_for n at r h.form)) h.form

  module _ (line : List ℕ) (rest : List (List ℕ)) (e : lines ≡ line ∷ rest) where
    -- one more line is read
    pub one_read : (t : Reading) → with_line long at r line ≡ Ok t → IsSoFar r.decls.targets (at + 1) t → IsReadTo n bytes long (at + 1) t rest
    one_read t made form = record {
      so_far = sym (steps-cons_ok (with_line long) at r line rest t made) ∙ (ap (steps (with_line long) at r) (sym e) ∙ h.so_far);
      count = moved at (length rest) (length (text_lines bytes)) (ap (λ (ls : List (List ℕ)). at + length ls) (sym e) ∙ h.count);
      form = subst (λ m. IsSoFar m (at + 1) t) (read_for n at r h.form) form;
    }
      where
        moved : (at m k : ℕ) → at + suc m ≡ 1 + k → at + 1 + m ≡ 1 + k
        moved at m k e = omega arith

    -- the number of a line
    pub at_most : at ≤ 16777217
    at_most = within at (length rest) (length (text_lines bytes)) (length (take 16777216 bytes)) 16777216 (ap (λ (ls : List (List ℕ)). at + length ls) (sym e) ∙ h.count) (few_lines (take 16777216 bytes)) (short 16777216 bytes)
      where
        short : (m : ℕ) (xs : List ℕ) → length (take m xs) ≤ m
        short m xs = omega (arith, length-take m xs)

        within : (at m len taken most : ℕ) → at + suc m ≡ 1 + len → len ≤ taken + 1 → taken ≤ most → at ≤ most + 1
        within at m len taken most e f g = omega arith

    -- this line has a fault
    pub line_fails : (why : ScriptNo) → FailsAt why (with_line long at r line) → FailsAt why (script_of n bytes)
    line_fails why f = fault_of n bytes why long at r line rest f (ap (steps (with_line long) at r) (sym e) ∙ h.so_far)

  -- no line is left
  pub all_read : lines ≡ [] → script_of n bytes ≡ ended r
  all_read e = end_of n bytes long at r (ap (steps (with_line long) at r) (sym e) ∙ h.so_far)

  pub end_fails : (why : ScriptNo) → lines ≡ [] → FailsAt why (ended r) → FailsAt why (script_of n bytes)
  end_fails why e f = subst (λ o. FailsAt why o) (sym (all_read e)) f
