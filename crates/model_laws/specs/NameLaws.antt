-- Names in byte order, each once: which names there are decides them.
use Rattle.std.specs.Prelude.{ℕ, ◌≡◌, Bool, true, false, List, [], ◌∷◌, if◌then◌else◌, refl}
use Rattle.std.proofs.Common.{◌∙◌, ap, inl, inr}
use Rattle.daos_model.specs.Answers.{in_byte_order, is_before, name_among}
use Rattle.daos_model.specs.OrderLaws.{before-total, rising-names}
use Rattle.model_laws.specs.Members.{Has}
use Rattle.model_laws.specs.RisingLaws.{rising-same}

abbrev itself : List ℕ → List ℕ
itself k = k

has-among : (k : List ℕ) (ns : List (List ℕ)) (x : List ℕ) → Has x (k ∷ ns) → Has x (name_among k ns)
has-among k [] x h = h
has-among k (n ∷ ns) x h = by (has-among k ns x) (is_before k n) (is_before n k) refl refl h
  where
    by : (Has x (k ∷ ns) → Has x (name_among k ns)) → (a b : Bool) → is_before k n ≡ a → is_before n k ≡ b → Has x (k ∷ n ∷ ns) → Has x (if a then k ∷ n ∷ ns else if b then n ∷ name_among k ns else n ∷ ns)
    by rest true b e f h = h
    by rest false true e f (inl same) = inr (rest (inl same))
    by rest false true e f (inr (inl same)) = inl same
    by rest false true e f (inr (inr i)) = inr (rest (inr i))
    by rest false false e f (inl same) = inl (same ∙ before-total k n e f)
    by rest false false e f (inr i) = i

has-from_among : (k : List ℕ) (ns : List (List ℕ)) (x : List ℕ) → Has x (name_among k ns) → Has x (k ∷ ns)
has-from_among k [] x h = h
has-from_among k (n ∷ ns) x h = by (has-from_among k ns x) (is_before k n) (is_before n k) h
  where
    deeper : Has x (k ∷ ns) → Has x (k ∷ n ∷ ns)
    deeper (inl same) = inl same
    deeper (inr i) = inr (inr i)

    by : (Has x (name_among k ns) → Has x (k ∷ ns)) → (a b : Bool) → Has x (if a then k ∷ n ∷ ns else if b then n ∷ name_among k ns else n ∷ ns) → Has x (k ∷ n ∷ ns)
    by rest true b h = h
    by rest false true (inl same) = inr (inl same)
    by rest false true (inr i) = deeper (rest i)
    by rest false false h = inr h

-- names in byte order are those that were given
pub has-names : (ks : List (List ℕ)) (x : List ℕ) → Has x ks → Has x (in_byte_order ks)
unfolding in_byte_order
has-names [] x h = h
has-names (k ∷ ks) x (inl same) = has-among k (in_byte_order ks) x (inl same)
has-names (k ∷ ks) x (inr h) = has-among k (in_byte_order ks) x (inr (has-names ks x h))

pub has-from_names : (ks : List (List ℕ)) (x : List ℕ) → Has x (in_byte_order ks) → Has x ks
unfolding in_byte_order
has-from_names [] x h = h
has-from_names (k ∷ ks) x h = by (has-from_names ks x) (has-from_among k (in_byte_order ks) x h)
  where
    by : (Has x (in_byte_order ks) → Has x ks) → Has x (k ∷ in_byte_order ks) → Has x (k ∷ ks)
    by rest (inl same) = inl same
    by rest (inr i) = inr (rest i)

-- the same names in whatever order, and however often
pub names-same : (ks ls : List (List ℕ)) → ((x : List ℕ) → Has x ks → Has x ls) → ((x : List ℕ) → Has x ls → Has x ks) → in_byte_order ks ≡ in_byte_order ls
names-same ks ls f g =
    rising-same itself (in_byte_order ks) (in_byte_order ls) (rising-names ks) (rising-names ls)
    (λ x i. has-names ls x (f x (has-from_names ks x i)))
    (λ x i. has-names ks x (g x (has-from_names ls x i)))
