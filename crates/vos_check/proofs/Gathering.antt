-- What is gathered of a thing is what is gathered of its trees.
use Rattle.std.proofs.Common.{◌≡◌, ℕ, List, [], ◌∷◌, ◌++◌, length, refl, sym, ap, ◌∙◌, append_assoc, arith}
use Rattle.std.specs.Prelude.{map}
use Rattle.pmem_pages.specs.Shape.{Entry, entries}
use Rattle.vos_levels.specs.Levels.{Hung}
use Rattle.vos_ilog.specs.declared.ilog.LogEntry.{LogEntry}
use Rattle.vos_image.specs.vos_single.Singles.{Stored as StoredSingle}
use Rattle.vos_image.specs.vos_extent.Extents.{Stored as StoredExtent}
use Rattle.vos_image.specs.vos_path.Objects.{together}
use Rattle.vos_image.specs.Nodes.{Node, extent_node, log_node, nodes_of, single_node, tree_nodes, values_nodes}
use Rattle.vos_check_trees.specs.Found.{Gathers, rows_of}
use Rattle.vos_check.specs.declared.node.NodeRow.{NodeRow}
use Rattle.vos_check.specs.Rows.{row_of}

abbrev pub rows_by : {A : Type 0} → (ℕ → A → Node) → ℕ → A → List NodeRow
rows_by f b a = row_of (f b a) ∷ []

abbrev pub rows_in : {A : Type 0} → (A → List Node) → ℕ → A → List NodeRow
rows_in f b a = map row_of (f a)

mapped : (xs ys : List Node) → map row_of (xs ++ ys) ≡ map row_of xs ++ map row_of ys
mapped [] ys = refl
mapped (x ∷ xs) ys = ap (λ z. row_of x ∷ z) (mapped xs ys)

by_node : {A : Type 0} (f : ℕ → A → Node) (es : List Entry) (xs : List A) → rows_of (rows_by f) es xs ≡ map row_of (nodes_of f es xs)
by_node f [] xs = refl
by_node f (e ∷ es) [] = refl
by_node f (e ∷ es) (a ∷ xs) = ap (λ z. row_of (f e.block a) ∷ z) (by_node f es xs)

by_thing : {A : Type 0} (f : A → List Node) (es : List Entry) (xs : List A) → length es ≡ length xs → rows_of (rows_in f) es xs ≡ map row_of (together f xs)
by_thing f [] [] h = refl
by_thing f [] (a ∷ xs) h = absurd (omega arith)
by_thing f (e ∷ es) [] h = absurd (omega arith)
by_thing f (e ∷ es) (a ∷ xs) h = ap (λ z. map row_of (f a) ++ z) (by_thing f es xs (omega arith)) ∙ sym (mapped (f a) (together f xs))

pub gathered_nodes : {A : Type 0} (f : ℕ → A → Node) (before after : List NodeRow) (t : Hung A) → Gathers (rows_by f) before after t → after ≡ before ++ map row_of (tree_nodes f t)
gathered_nodes f before after t h = h.gathered ∙ ap (λ z. before ++ z) (by_node f (entries t.0) t.1)

pub gathered_things : {A : Type 0} (f : A → List Node) (before after : List NodeRow) (t : Hung A) → Gathers (rows_in f) before after t → after ≡ before ++ map row_of (together f t.1)
gathered_things f before after t h = h.gathered ∙ ap (λ z. before ++ z) (by_thing f (entries t.0) t.1 h.paired)

two : (a b c : List NodeRow) (x y : List Node) → b ≡ a ++ map row_of x → c ≡ b ++ map row_of y → c ≡ a ++ map row_of (x ++ y)
two a b c x y p q = q ∙ (ap (λ z. z ++ map row_of y) p ∙ (append_assoc a (map row_of x) (map row_of y) ∙ ap (λ z. a ++ z) (sym (mapped x y))))

pub branch_gathers : {A : Type 0} (f : A → List Node) (o0 o1 o2 : List NodeRow) (l : Hung LogEntry) (t : Hung A) → Gathers (rows_by log_node) o0 o1 l → Gathers (rows_in f) o1 o2 t → o2 ≡ o0 ++ map row_of (tree_nodes log_node l ++ together f t.1)
branch_gathers f o0 o1 o2 l t p q = two o0 o1 o2 (tree_nodes log_node l) (together f t.1) (gathered_nodes log_node o0 o1 l p) (gathered_things f o1 o2 t q)

pub akey_gathers : (o0 o1 o2 o3 : List NodeRow) (l : Hung LogEntry) (s : Hung StoredSingle) (e : Hung StoredExtent) → Gathers (rows_by log_node) o0 o1 l → Gathers (rows_by single_node) o1 o2 s → Gathers (rows_by extent_node) o2 o3 e → o3 ≡ o0 ++ map row_of (values_nodes (l, (s, e)))
akey_gathers o0 o1 o2 o3 l s e p q r =
    two o0 o1 o3 (tree_nodes log_node l) (tree_nodes single_node s ++ tree_nodes extent_node e) (gathered_nodes log_node o0 o1 l p)
    (two o1 o2 o3 (tree_nodes single_node s) (tree_nodes extent_node e) (gathered_nodes single_node o1 o2 s q) (gathered_nodes extent_node o2 o3 e r))
