-- Two lists that are the same as far as an index, and further.
use Rattle.std.proofs.Common.{arith, Bool, ℕ, ◌≡◌, ◌+◌, ◌<◌, ◌≤◌, ◌++◌, List, [], ◌∷◌, length, slice_index_or, suc, sym, ◌∙◌, ap}
use Rattle.std.proofs.Math.ListN.{take, drop}
use Rattle.std.proofs.Math.Seq.{take-suc}
use Rattle.std.proofs.lemmas.List.{drop_at, take-append-drop, take_all}
use Rattle.std.specs.Bool.{Decides}
use Rattle.std.proofs.lemmas.Bool.Decides.{Decides-like}

pub one_more : {A : Type 0} (one two : List A) (i : ℕ) (x y : A) → length one ≡ length two → i < length one → take i one ≡ take i two
    → x ≡ slice_index_or one i x → y ≡ slice_index_or two i y → x ≡ y → take (i + 1) one ≡ take (i + 1) two
one_more one two i x y same_length within so_far at_one at_two e =
    let within_two : i < length two = omega (arith, same_length, within) in
    let next : i + 1 ≡ suc i = omega arith in
    let left : take (suc i) one ≡ take i one ++ slice_index_or one i x ∷ [] = take-suc one i x within in
    let right : take (suc i) two ≡ take i two ++ slice_index_or two i y ∷ [] = take-suc two i y within_two in
    cc

pub whole : {A : Type 0} (one two : List A) (i : ℕ) → length one ≡ length two → length one ≤ i → take i one ≡ take i two → one ≡ two
whole one two i same_length past so_far =
    let past_two : length two ≤ i = omega (arith, same_length, past) in
    let left : take i one ≡ one = take_all i one past in
    let right : take i two ≡ two = take_all i two past_two in
    cc

-- A list is cut at an index. Where its beginning is a given one, it is that and then others exactly where its rest is the others.
pub joins : {A : Type 0} (all first others : List A) (n : ℕ) (head tail : List A) → length first ≡ n → head ≡ take n all → tail ≡ drop n all
    → head ≡ first → (r : Bool) → Decides r (tail ≡ others) → Decides r (all ≡ first ++ others)
joins all first others n head tail long at_head at_tail begins r same =
    Decides-like r
    (λ e. sym (take-append-drop n all) ∙ ap (λ x. x ++ drop n all) (sym at_head ∙ begins) ∙ ap (λ x. first ++ x) (sym at_tail ∙ e))
    (λ e. at_tail ∙ ap (drop n) e ∙ drop_at first others n long) same
