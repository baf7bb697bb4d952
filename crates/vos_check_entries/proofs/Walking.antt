-- A list, block by block.
use Rattle.std.proofs.Common.{◌≡◌, ◌≢◌, ℕ, zero, suc, ◌+◌, ◌*◌, ◌==◌, Bool, false, List, [], ◌∷◌, ◌++◌, length, Result, Ok, Err, refl, sym, ap, ◌∙◌, arith, append_assoc, subst}
use Rattle.std.proofs.lemmas.Bool.{ne_eqb}
use Rattle.vos_check.specs.vos_image.Steps.{Step, ◌>>=◌, give, onward}
use Rattle.vos_check.specs.vos_image.Content.{Content}
use Rattle.vos_check.specs.vos_image.Kinds.{Listed, read_list}
use Rattle.vos_check_base.specs.Sets.{Set}
use Rattle.vos_check_base.specs.Answers.{IsFault, MarksIn, Reads}
use Rattle.vos_check_base.specs.declared.refusal.CheckNo.{CheckNo}
use Rattle.vos_check_base.proofs.Steps.{assoc, off, on, under}
use Rattle.vos_check_base.proofs.Faults.{fault_by}
use Rattle.vos_check_entries.specs.Steps.{counts_nodes, read_front, read_list_block}

-- a list that goes on behind blocks
abbrev pub behind : List ℕ → Listed → Step Listed
behind blocks rest = give (record { nodes = rest.nodes; blocks = blocks ++ rest.blocks })

given : {A B : Type 0} (a : A) (f : A → Step B) (led : List ℕ) → (give a >>= f) led ≡ f a led
unfolding ◌>>=◌
given a f led = refl

-- one block, and the rest
list_is : (c : Content) (is_node : ℕ → Bool) (k b : ℕ) (so_far led : List ℕ) → b ≢ 0
    → read_list c is_node (suc k) b so_far led ≡ (read_list_block c is_node b so_far >>= λ x. read_list c is_node k x.0 x.1 >>= λ rest. behind (b ∷ []) rest) led
unfolding read_list_block read_front
list_is c is_node k b so_far led some =
    let z : (b == 0) ≡ false = ne_eqb b 0 some in
    rw z (sym (
    assoc _ _ _ led
    ∙ (assoc _ _ _ led
    ∙ under _ _ _ led (λ _ l1. assoc _ _ _ l1
    ∙ under _ _ _ l1 (λ _ l2. assoc _ _ _ l2
    ∙ under _ _ _ l2 (λ _ l3. assoc _ _ _ l3
    ∙ under _ _ _ l3 (λ _ l4. given _ _ l4
    ∙ (assoc _ _ _ l4
    ∙ under _ _ _ l4 (λ _ l5. given _ _ l5)))))))))

-- so far: some blocks were read, and the rest begins at one
pub record Walked (c : Content) (is_node : ℕ → Bool) (count first : ℕ) (before : List ℕ) (after : Set) (so_far : List ℕ) (at index : ℕ) : Type 0 where
  pub blocks : List ℕ
  pub led : List ℕ
  pub marks : MarksIn c after led
  pub left : ℕ
  pub many : left + index ≡ count
  pub is : read_list c is_node count first [] before ≡ (read_list c is_node left at so_far >>= behind blocks) led

again : (r : Result (Listed × List ℕ) ℕ) → r ≡ onward r (behind [])
again (Ok x) = refl
again (Err at) = refl

pub walk_begins : (c : Content) (is_node : ℕ → Bool) (count first : ℕ) (led : List ℕ) (s : Set) → MarksIn c s led → Walked c is_node count first led s [] first 0
unfolding ◌>>=◌
walk_begins c is_node count first led s m = record { blocks = []; led = led; marks = m; left = count; many = omega arith; is = again (read_list c is_node count first [] led) }

joined : (blocks : List ℕ) (b : ℕ) (x : Step Listed) (led : List ℕ) → ((x >>= behind (b ∷ [])) >>= behind blocks) led ≡ (x >>= behind (blocks ++ b ∷ [])) led
joined blocks b x led = assoc _ _ _ led ∙ under _ _ _ led (λ rest l. given _ _ l ∙ ap (λ z. Ok (record { nodes = rest.nodes; blocks = z }, l)) (sym (append_assoc blocks (b ∷ []) rest.blocks)))

one_on : (blocks : List ℕ) (x y : Step Listed) (led : List ℕ) → x led ≡ y led → (x >>= behind blocks) led ≡ (y >>= behind blocks) led
unfolding ◌>>=◌
one_on blocks x y led e = ap (λ z. onward z (behind blocks)) e

-- one block more
pub walk_goes : (c : Content) (is_node : ℕ → Bool) (count first : ℕ) (led0 : List ℕ) (s t : Set) (so_far more : List ℕ) (at next index : ℕ) → at ≢ 0 → (left : ℕ) → suc left + index ≡ count
    → (w : Walked c is_node count first led0 s so_far at index) → Reads c (read_list_block c is_node at so_far w.led) t (λ x. x ≡ (next, more)) → Walked c is_node count first led0 t more next (index + 1)
walk_goes c is_node count first led0 s t so_far more at next index some left many w r =
    let same : w.left ≡ suc left = omega (arith, w.many, many) in
    let here = subst (λ z. read_list c is_node count first [] led0 ≡ (read_list c is_node z at so_far >>= behind w.blocks) w.led) same w.is in
    let first_is = subst (λ z. read_list_block c is_node at so_far w.led ≡ Ok (z, r.gives.led)) r.shows r.gives.is in
    record {
      blocks = w.blocks ++ at ∷ [];
      led = r.gives.led;
      marks = r.gives.marks;
      left = left;
      many = omega (arith, many);
      is = here ∙ (one_on w.blocks _ _ w.led (list_is c is_node left at so_far w.led some) ∙ (assoc _ _ _ w.led ∙ (on _ _ w.led (next, more) r.gives.led _ first_is (joined w.blocks at (read_list c is_node left next more) r.gives.led))));
    }

-- a block is at fault
pub walk_off : (c : Content) (is_node : ℕ → Bool) (count first : ℕ) (led0 : List ℕ) (s : Set) (so_far : List ℕ) (at index : ℕ) (e : CheckNo) → at ≢ 0 → (left : ℕ) → suc left + index ≡ count
    → (w : Walked c is_node count first led0 s so_far at index) → IsFault c (read_list_block c is_node at so_far w.led) e → IsFault c (read_list c is_node count first [] led0) e
walk_off c is_node count first led0 s so_far at index e some left many w h =
    let same : w.left ≡ suc left = omega (arith, w.many, many) in
    let here = subst (λ z. read_list c is_node count first [] led0 ≡ (read_list c is_node z at so_far >>= behind w.blocks) w.led) same w.is in
    fault_by c _ _ e (λ place k. here ∙ off _ _ w.led place (list_is c is_node left at so_far w.led some ∙ off _ _ w.led place k)) h

-- no block is left
list_ends : (c : Content) (is_node : ℕ → Bool) (left at : ℕ) (so_far led : List ℕ) → at ≡ 0 → read_list c is_node left at so_far led ≡ Ok (record { nodes = so_far; blocks = [] }, led)
list_ends c is_node zero at so_far led none = rw none refl
list_ends c is_node (suc k) at so_far led none = rw none refl

pub walk_ends : (c : Content) (is_node : ℕ → Bool) (count first : ℕ) (led0 : List ℕ) (s : Set) (so_far : List ℕ) (at index n : ℕ) → at ≡ 0 → n ≡ length so_far → Walked c is_node count first led0 s so_far at index
    → Reads c (read_list c is_node count first [] led0) s (counts_nodes n)
walk_ends c is_node count first led0 s so_far at index n none many w = record {
  value = record { nodes = so_far; blocks = w.blocks ++ [] };
  gives = record { led = w.led; is = w.is ∙ on _ _ w.led _ w.led _ (list_ends c is_node w.left at so_far w.led none) refl; marks = w.marks };
  shows = many;
}

-- no more blocks may be read
list_stays : (c : Content) (is_node : ℕ → Bool) (left at : ℕ) (so_far led : List ℕ) → left ≡ 0 → at ≢ 0 → read_list c is_node left at so_far led ≡ Err (256 * at)
list_stays c is_node left at so_far led none some = let z : (at == 0) ≡ false = ne_eqb at 0 some in rw (none, z) refl

pub walk_stays : (c : Content) (is_node : ℕ → Bool) (count first : ℕ) (led0 : List ℕ) (s : Set) (so_far : List ℕ) (at index : ℕ) → at ≢ 0 → index ≡ count → Walked c is_node count first led0 s so_far at index
    → read_list c is_node count first [] led0 ≡ Err (256 * at)
walk_stays c is_node count first led0 s so_far at index some end w =
    let none : w.left ≡ 0 = omega (arith, w.many, end) in
    w.is ∙ off _ _ w.led _ (list_stays c is_node w.left at so_far w.led none some)
