-- The tree below a block: its node, what is left of it, what its value leads to, and what is right of it.
use Rattle.std.proofs.Common.{◌≡◌, ◌≢◌, ℕ, zero, suc, ◌+◌, ◌-◌, ◌*◌, ◌==◌, Bool, true, false, List, [], ◌∷◌, ◌++◌, Option, Some, Result, Ok, Err, refl, sym, ap, ◌∙◌, arith}
use Rattle.std.proofs.lemmas.Bool.{ne_eqb}
use Rattle.std.proofs.lemmas.Bool.Decides.{nat_tests}
use Rattle.pmem_pages.specs.declared.node.Links.{Links}
use Rattle.pmem_pages.specs.declared.node.Node.{Node}
use Rattle.pmem_pages.specs.declared.node.TreeKey.{TreeKey}
use Rattle.pmem_pages.specs.Node.{links_of}
use Rattle.pmem_pages.specs.Shape.{Entry, Fork, Leaf}
use Rattle.vos_levels.specs.Levels.{Hung}
use Rattle.vos_check_base.specs.vos_image.Steps.{Step, ◌>>=◌, fail, give, rule}
use Rattle.vos_check_base.specs.vos_image.Content.{Content}
use Rattle.vos_check_base.specs.vos_image.Trees.{Fields, Kind, is_height, read_below, read_fields, stored_height}
use Rattle.vos_check_base.specs.Sets.{Set}
use Rattle.vos_check_base.specs.Answers.{Answers, IsFault, MarksIn, Reads}
use Rattle.vos_check_base.specs.declared.refusal.CheckNo.{CheckNo}
use Rattle.vos_check_base.proofs.Steps.{off, on}
use Rattle.vos_check_base.proofs.Faults.{fault_by}
use Rattle.vos_check_trees.specs.declared.level.Found.{Found}
use Rattle.vos_check_trees.specs.Found.{Gathers, IsFound, enter}
use Rattle.vos_check_trees.proofs.NodeHeights.{fits_height}
use Rattle.vos_check_trees.proofs.Rows.{gathers_fork, gathers_none}

-- ---- the node

pub enter_on : {N V A : Type 0} (K : Kind N V A) (c : Content) (most b : ℕ) (low high : Option TreeKey) (led next : List ℕ) (f : Fields N V) → read_fields K c b low high led ≡ Ok (f, next) → fits_height c most (links_of f.node) ≡ true → enter K c most b low high led ≡ Ok (f, next)
unfolding enter ◌>>=◌ rule
enter_on K c most b low high led next f h t = rw (h, t) refl

pub enter_low : {N V A : Type 0} (K : Kind N V A) (c : Content) (most b : ℕ) (low high : Option TreeKey) (led next : List ℕ) (f : Fields N V) → read_fields K c b low high led ≡ Ok (f, next) → fits_height c most (links_of f.node) ≡ false → enter K c most b low high led ≡ Err (256 * b + 1)
unfolding enter ◌>>=◌ rule
enter_low K c most b low high led next f h t = rw (h, t) refl

pub enter_off : {N V A : Type 0} (K : Kind N V A) (c : Content) (most b : ℕ) (low high : Option TreeKey) (led : List ℕ) (e : CheckNo) → IsFault c (read_fields K c b low high led) e → IsFault c (enter K c most b low high led) e
unfolding enter
enter_off K c most b low high led e h = fault_by c _ _ e (λ at k. off _ _ led at k) h

-- ---- what comes after it

abbrev pub rest : {N V A : Type 0} → Kind N V A → Content → ℕ → Option TreeKey → Option TreeKey → ℕ → ℕ → TreeKey → N → V → Entry → Step (Hung A)
rest K c most low high left right key name value e =
    read_below K c most left low (Some key)
    >>= λ l. K.thing c name value
    >>= λ a. read_below K c most right (Some key) high
    >>= λ r. give (Fork l.0 e r.0, l.1 ++ a ∷ r.1)

abbrev pub entry_at : ℕ → Node → Entry
entry_at b n = record { block = b; key = n.key; value = n.value }

abbrev pub rest_of : {N V A : Type 0} → Kind N V A → Content → ℕ → Option TreeKey → Option TreeKey → ℕ → Fields N V → Step (Hung A)
rest_of K c most low high b f = rest K c most low high f.node.left f.node.right f.node.key f.name f.value (entry_at b f.node)

abbrev pub before : ℕ → ℕ
before zero = zero
before (suc n) = n

before_is : (n : ℕ) → before n ≡ n - 1
before_is zero = refl
before_is (suc n) = omega arith

zero_by : {N V A : Type 0} (K : Kind N V A) (c : Content) (b : ℕ) (low high : Option TreeKey) (led : List ℕ) (o : Result (Fields N V × List ℕ) ℕ) → read_fields K c b low high led ≡ o
    → (read_fields K c b low high >>= λ _. fail {A = Hung A} (256 * b + 1)) led ≡ (enter K c zero b low high >>= rest_of K c zero low high b) led
unfolding enter ◌>>=◌ rule
zero_by K c b low high led (Ok r) e = rw e refl
zero_by K c b low high led (Err at) e = rw e refl

height_by : {N V A : Type 0} (K : Kind N V A) (c : Content) (k b : ℕ) (low high : Option TreeKey) (led : List ℕ) (r : Fields N V × List ℕ) → read_fields K c b low high led ≡ Ok r
    → (t : Bool) → is_height r.0.node.height (stored_height c r.0.node.left) (stored_height c r.0.node.right) ≡ t
    → (read_fields K c b low high >>= λ f. rule (256 * b + 1) (is_height f.node.height (stored_height c f.node.left) (stored_height c f.node.right)) >>= λ _. rest_of K c k low high b f) led
    ≡ (enter K c (suc k) b low high >>= rest_of K c k low high b) led
unfolding enter ◌>>=◌ rule
height_by K c k b low high led r e true t = let z : (suc k == 0) ≡ false = grind (arith, nat_tests) in rw (e, z, t) refl
height_by K c k b low high led r e false t = let z : (suc k == 0) ≡ false = grind (arith, nat_tests) in rw (e, z, t) refl

suc_by : {N V A : Type 0} (K : Kind N V A) (c : Content) (k b : ℕ) (low high : Option TreeKey) (led : List ℕ) (o : Result (Fields N V × List ℕ) ℕ) → read_fields K c b low high led ≡ o
    → (read_fields K c b low high >>= λ f. rule (256 * b + 1) (is_height f.node.height (stored_height c f.node.left) (stored_height c f.node.right)) >>= λ _. rest_of K c k low high b f) led
    ≡ (enter K c (suc k) b low high >>= rest_of K c k low high b) led
unfolding enter ◌>>=◌ rule
suc_by K c k b low high led (Ok r) e = height_by K c k b low high led r e _ refl
suc_by K c k b low high led (Err at) e = rw e refl

below_is : {N V A : Type 0} (K : Kind N V A) (c : Content) (most b : ℕ) (low high : Option TreeKey) (led : List ℕ) → b ≢ 0 → read_below K c most b low high led ≡ (enter K c most b low high >>= rest_of K c (before most) low high b) led
below_is K c zero b low high led some = let e : (b == 0) ≡ false = ne_eqb b 0 some in rw e (zero_by K c b low high led _ refl)
below_is K c (suc k) b low high led some = let e : (b == 0) ≡ false = ne_eqb b 0 some in rw e (suc_by K c k b low high led _ refl)

-- where its node is at fault
pub below_off : {N V A : Type 0} (K : Kind N V A) (c : Content) (most b : ℕ) (low high : Option TreeKey) (led : List ℕ) (e : CheckNo) → b ≢ 0 → IsFault c (enter K c most b low high led) e → IsFault c (read_below K c most b low high led) e
below_off K c most b low high led e some h = fault_by c _ _ e (λ at k. below_is K c most b low high led some ∙ off _ _ led at k) h

rest_is : {M N V A : Type 0} (named : M → N) (K : Kind N V A) (c : Content) (most b : ℕ) (low high : Option TreeKey) (v : Found M V) (f : Fields N V) (led : List ℕ) → IsFound named v f
    → rest_of K c most low high b f led ≡ rest K c most low high v.links.left v.links.right v.key (named v.name) v.value (entry_at b f.node) led
rest_is named K c most b low high v f led h =
    let l : f.node.left ≡ v.links.left = ap (λ (k : Links). k.left) (sym h.links) in
    let r : f.node.right ≡ v.links.right = ap (λ (k : Links). k.right) (sym h.links) in
    let k : f.node.key ≡ v.key = sym h.key in
    by f.node.left f.node.right f.node.key f.name f.value l r k h.name h.value
  where
    by : (l r : ℕ) (k : TreeKey) (n : _) (w : _) → l ≡ v.links.left → r ≡ v.links.right → k ≡ v.key → n ≡ named v.name → w ≡ v.value
        → rest K c most low high l r k n w (entry_at b f.node) led ≡ rest K c most low high v.links.left v.links.right v.key (named v.name) v.value (entry_at b f.node) led
    by l r k n w p q s t u = rw (p, q, s, t, u) refl

-- where it was found
pub below_on : {M N V A : Type 0} (named : M → N) (K : Kind N V A) (c : Content) (most b : ℕ) (low high : Option TreeKey) (v : Found M V) (f : Fields N V) (led next : List ℕ) → b ≢ 0
    → enter K c most b low high led ≡ Ok (f, next) → IsFound named v f
    → read_below K c most b low high led ≡ rest K c (most - 1) low high v.links.left v.links.right v.key (named v.name) v.value (entry_at b f.node) next
below_on named K c most b low high v f led next some h is =
    below_is K c most b low high led some
    ∙ (on _ _ led f next _ h (ap (λ (k : ℕ). rest_of K c k low high b f next) (before_is most) ∙ rest_is named K c (most - 1) b low high v f next is))

pub below_none : {N V A : Type 0} (K : Kind N V A) (c : Content) (most b : ℕ) (low high : Option TreeKey) (led : List ℕ) → b ≡ 0 → read_below K c most b low high led ≡ Ok ((Leaf, []), led)
below_none K c zero b low high led h = rw h refl
below_none K c (suc k) b low high led h = rw h refl

-- ---- the parts

pub left_off : {N V A : Type 0} (K : Kind N V A) (c : Content) (most : ℕ) (low high : Option TreeKey) (left right : ℕ) (key : TreeKey) (name : N) (value : V) (x : Entry) (led : List ℕ) (o : Result (Hung A × List ℕ) ℕ) (e : CheckNo)
    → o ≡ rest K c most low high left right key name value x led → IsFault c (read_below K c most left low (Some key) led) e → IsFault c o e
left_off K c most low high left right key name value x led o e p h = fault_by c _ o e (λ at k. p ∙ off _ _ led at k) h

pub thing_off : {N V A : Type 0} (K : Kind N V A) (c : Content) (most : ℕ) (low high : Option TreeKey) (left right : ℕ) (key : TreeKey) (name : N) (value : V) (x : Entry) (led next : List ℕ) (l : Hung A) (o : Result (Hung A × List ℕ) ℕ) (e : CheckNo)
    → o ≡ rest K c most low high left right key name value x led → read_below K c most left low (Some key) led ≡ Ok (l, next) → IsFault c (K.thing c name value next) e → IsFault c o e
thing_off K c most low high left right key name value x led next l o e p q h = fault_by c _ o e (λ at k. p ∙ on _ _ led l next _ q (off _ _ next at k)) h

right_on : {N V A : Type 0} (K : Kind N V A) (c : Content) (most : ℕ) (low high : Option TreeKey) (left right : ℕ) (key : TreeKey) (name : N) (value : V) (x : Entry) (led next more : List ℕ) (l : Hung A) (a : A) (o : Result (Hung A × List ℕ) ℕ)
    → o ≡ rest K c most low high left right key name value x led → read_below K c most left low (Some key) led ≡ Ok (l, next) → K.thing c name value next ≡ Ok (a, more)
    → o ≡ (read_below K c most right (Some key) high >>= λ r. give (Fork l.0 x r.0, l.1 ++ a ∷ r.1)) more
right_on K c most low high left right key name value x led next more l a o p q h = p ∙ on _ _ led l next _ q (on _ _ next a more _ h refl)

-- what the right tree answers is what the tree answers
pub right_ends : {N V A R : Type 0} (rows : ℕ → A → List R) (K : Kind N V A) (c : Content) (most : ℕ) (high : Option TreeKey) (right : ℕ) (key : TreeKey) (x : Entry) (more : List ℕ) (l : Hung A) (a : A) (o : Result (Hung A × List ℕ) ℕ) (o0 o1 o2 o3 : List R) (s : Set)
    (r : Result (Unit {0}) CheckNo)
    → o ≡ (read_below K c most right (Some key) high >>= λ r. give (Fork l.0 x r.0, l.1 ++ a ∷ r.1)) more → Gathers rows o0 o1 l → o2 ≡ o1 ++ rows x.block a
    → Answers c (read_below K c most right (Some key) high more) s (λ _ t. Gathers rows o2 o3 t) r → Answers c o s (λ _ t. Gathers rows o0 o3 t) r
right_ends rows K c most high right key x more l a o o0 o1 o2 o3 s (Ok u) p g q h =
    record {
      value = (Fork l.0 x h.value.0, l.1 ++ a ∷ h.value.1);
      gives = record { led = h.gives.led; is = p ∙ on _ _ more h.value h.gives.led _ h.gives.is refl; marks = h.gives.marks };
      shows = gathers_fork rows o0 o1 o2 o3 l h.value x a g q h.shows;
    }
right_ends rows K c most high right key x more l a o o0 o1 o2 o3 s (Err e) p g q h = fault_by c _ o e (λ at k. p ∙ off _ _ more at k) h

pub right_goes : {N V A R : Type 0} (rows : ℕ → A → List R) (K : Kind N V A) (c : Content) (most : ℕ) (low high : Option TreeKey) (left right : ℕ) (key : TreeKey) (name : N) (value : V) (x : Entry) (led next more : List ℕ) (l : Hung A) (a : A) (o : Result (Hung A × List ℕ) ℕ) (o0 o1 o2 o3 : List R) (s : Set)
    (r : Result (Unit {0}) CheckNo)
    → o ≡ rest K c most low high left right key name value x led → read_below K c most left low (Some key) led ≡ Ok (l, next) → K.thing c name value next ≡ Ok (a, more)
    → Gathers rows o0 o1 l → o2 ≡ o1 ++ rows x.block a
    → Answers c (read_below K c most right (Some key) high more) s (λ _ t. Gathers rows o2 o3 t) r → Answers c o s (λ _ t. Gathers rows o0 o3 t) r
right_goes rows K c most low high left right key name value x led next more l a o o0 o1 o2 o3 s r p q h g w z =
    right_ends rows K c most high right key x more l a o o0 o1 o2 o3 s r (right_on K c most low high left right key name value x led next more l a o p q h) g w z

pub none_gathered : {N V A R : Type 0} (rows : ℕ → A → List R) (K : Kind N V A) (c : Content) (most b : ℕ) (low high : Option TreeKey) (led : List ℕ) (s : Set) (out : List R) → b ≡ 0 → MarksIn c s led → Reads c (read_below K c most b low high led) s (Gathers rows out out)
none_gathered rows K c most b low high led s out h m = record { value = (Leaf, []); gives = record { led = led; is = below_none K c most b low high led h; marks = m }; shows = gathers_none rows out }
