-- Names that are put among names, the last one first.
use Rattle.std.proofs.Common.{◌≡◌, ℕ, ◌+◌, ◌<◌, List, [], ◌∷◌, ◌++◌, length, get_or, drop, refl, sym, ◌∙◌, ap}
use Rattle.std.proofs.lemmas.List.{drop_more}
use Rattle.daos_model.specs.Answers.{in_byte_order, name_among}

in_order-more : (k : List ℕ) (ks : List (List ℕ)) → name_among k (in_byte_order ks) ≡ in_byte_order (k ∷ ks)
unfolding in_byte_order
in_order-more k ks = refl

pub in_order-none : in_byte_order [] ≡ []
unfolding in_byte_order
in_order-none = refl

-- the name at a place is put among those behind it
pub one_more_behind :
    (ks names : List (List ℕ)) (i : ℕ) (k : List ℕ) → i < length ks → k ≡ get_or ks i k → names ≡ in_byte_order (drop (i + 1) ks)
    → name_among k names ≡ in_byte_order (drop i ks)
one_more_behind ks names i k lt is are =
    ap (λ ns. name_among k ns) are
    ∙ in_order-more k (drop (i + 1) ks)
    ∙ ap in_byte_order (ap (λ x. x ∷ drop (i + 1) ks) is ∙ sym (drop_more ks i k lt))

-- and among those of a list behind it
pub one_more_before :
    (ks ls names : List (List ℕ)) (i : ℕ) (k : List ℕ) → i < length ks → k ≡ get_or ks i k → names ≡ in_byte_order (drop (i + 1) ks ++ ls)
    → name_among k names ≡ in_byte_order (drop i ks ++ ls)
one_more_before ks ls names i k lt is are =
    ap (λ ns. name_among k ns) are
    ∙ in_order-more k (drop (i + 1) ks ++ ls)
    ∙ ap (λ x. in_byte_order (x ++ ls)) (ap (λ x. x ∷ drop (i + 1) ks) is ∙ sym (drop_more ks i k lt))
