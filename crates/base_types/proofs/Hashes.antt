-- The hash of bytes is taken piece by piece.
use Rattle.std.proofs.Common.{ℕ, ◌≡◌, List, [], ◌∷◌, ◌++◌, refl, sym, ◌∙◌, ap}
use Rattle.base_types.specs.Hash.{fnv1a, hash_on, hash_start, hash_step}

pub hash_on-append : (hash : ℕ) (xs ys : List ℕ) → hash_on hash (xs ++ ys) ≡ hash_on (hash_on hash xs) ys
hash_on-append hash [] ys = refl
hash_on-append hash (x ∷ xs) ys = hash_on-append (hash_step hash x) xs ys

-- four pieces, one after another
pub hash_on-pieces : (a b c d : List ℕ) → hash_on (hash_on (hash_on (hash_on hash_start a) b) c) d ≡ fnv1a (a ++ b ++ c ++ d)
unfolding fnv1a
hash_on-pieces a b c d =
    sym
    (hash_on-append hash_start (a ++ b ++ c) d
    ∙ ap (λ h. hash_on h d) (hash_on-append hash_start (a ++ b) c)
    ∙ ap (λ h. hash_on (hash_on h c) d) (hash_on-append hash_start a b))
