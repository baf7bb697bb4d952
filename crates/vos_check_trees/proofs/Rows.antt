-- What is gathered of a tree is what is gathered of its parts.
use Rattle.std.proofs.Common.{◌≡◌, ℕ, List, [], ◌∷◌, ◌++◌, length, refl, sym, ap, ◌∙◌, append_assoc, arith, length-append, append-nil}
use Rattle.pmem_pages.specs.Shape.{Entry, Fork, Leaf, entries}
use Rattle.vos_levels.specs.Levels.{Hung}
use Rattle.vos_check_trees.specs.Found.{Gathers, rows_of}

rows_split : {A R : Type 0} (rows : ℕ → A → List R) (es fs : List Entry) (e : Entry) (xs ys : List A) (a : A) → length es ≡ length xs → rows_of rows (es ++ e ∷ fs) (xs ++ a ∷ ys) ≡ rows_of rows es xs ++ (rows e.block a ++ rows_of rows fs ys)
rows_split rows [] fs e [] ys a h = refl
rows_split rows [] fs e (x ∷ xs) ys a h = absurd (omega arith)
rows_split rows (d ∷ es) fs e [] ys a h = absurd (omega arith)
rows_split rows (d ∷ es) fs e (x ∷ xs) ys a h = ap (λ z. rows d.block x ++ z) (rows_split rows es fs e xs ys a (omega arith)) ∙ sym (append_assoc (rows d.block x) (rows_of rows es xs) (rows e.block a ++ rows_of rows fs ys))

pub gathers_none : {A R : Type 0} (rows : ℕ → A → List R) (out : List R) → Gathers rows out out (Leaf, [])
gathers_none rows out = record { paired = refl; gathered = sym (append-nil out) }

joined : {R : Type 0} (o0 o1 o2 o3 l m r : List R) → o1 ≡ o0 ++ l → o2 ≡ o1 ++ m → o3 ≡ o2 ++ r → o3 ≡ o0 ++ (l ++ (m ++ r))
joined o0 o1 o2 o3 l m r p q s = s ∙ (ap (λ z. z ++ r) (q ∙ ap (λ z. z ++ m) p) ∙ (append_assoc (o0 ++ l) m r ∙ append_assoc o0 l (m ++ r)))

pub gathers_fork : {A R : Type 0} (rows : ℕ → A → List R) (o0 o1 o2 o3 : List R) (l r : Hung A) (e : Entry) (a : A) → Gathers rows o0 o1 l → o2 ≡ o1 ++ rows e.block a → Gathers rows o2 o3 r → Gathers rows o0 o3 (Fork l.0 e r.0, l.1 ++ a ∷ r.1)
gathers_fork rows o0 o1 o2 o3 l r e a p q s =
    let left = p.paired in
    let right = s.paired in
    record {
      paired = omega (arith, left, right, length-append (entries l.0) (e ∷ entries r.0), length-append l.1 (a ∷ r.1));
      gathered = joined o0 o1 o2 o3 _ _ _ p.gathered q s.gathered ∙ ap (λ z. o0 ++ z) (sym (rows_split rows (entries l.0) (entries r.0) e l.1 r.1 a left));
    }
