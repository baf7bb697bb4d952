-- The blocks of a chain, one by one.
use Rattle.std.proofs.Common.{◌≡◌, ◌≢◌, ℕ, zero, suc, ◌+◌, ◌-◌, ◌*◌, ◌==◌, not, min, Bool, false, List, [], ◌∷◌, ◌++◌, take, drop, Result, Ok, Err, refl, sym, subst, ◌∙◌, arith, inl, inr}
use Rattle.std.specs.Prelude.{if◌then◌else◌, slice_index}
use Rattle.std.proofs.lemmas.Bool.{ne_eqb}
use Rattle.std.proofs.lemmas.Bool.Decides.{eqb_tells}
use Rattle.byteorder.specs.Endian.{big_number}
use Rattle.vos_chain.specs.Chains.{Chain}
use Rattle.vos_image.specs.Steps.{Step, ◌>>=◌, give, rule, zeros}
use Rattle.vos_image.specs.Content.{Content, block, link}
use Rattle.vos_image.specs.Kinds.{read_links}
use Rattle.vos_check_base.specs.Sets.{Set}
use Rattle.vos_check_base.specs.Answers.{Answers, IsFault, MarksIn, Plain, Reads, nothing}
use Rattle.vos_check_base.specs.declared.refusal.CheckNo.{CheckNo}
use Rattle.vos_check_base.proofs.Steps.{assoc, off, on, under}
use Rattle.vos_check_base.proofs.Faults.{fault_by}
use Rattle.vos_check.specs.Steps.{is_nothing, read_link}

abbrev pub link_by : Content → ℕ → Bool → ℕ → Bool → ℕ → List ℕ → Step ℕ
link_by c b kind next tail part bytes =
    rule (256 * b + 0) kind
    >>= λ _. zeros (256 * b + 1) (take 3 (drop 1 bytes))
    >>= λ _. link c (256 * b + 4) next
    >>= λ _. rule (256 * b + 4) tail
    >>= λ _. zeros (256 * b + (8 + part)) (drop (8 + part) bytes)
    >>= λ _. give next

pub by_tests : (c : Content) (b : ℕ) (bytes : List ℕ) (last kind tail : Bool) (next part : ℕ) (led : List ℕ) → block c b ≡ bytes → next ≡ big_number 4 (drop 4 bytes) → kind ≡ (slice_index bytes 0 == 8)
    → tail ≡ (if last then next == 0 else not (next == 0)) → read_link c b last part led ≡ link_by c b kind next tail part bytes led
unfolding read_link
by_tests c b bytes last kind tail next part led h n k t =
    let z : 256 * b + 0 ≡ 256 * b = omega arith in
    let y : 256 * b + (8 + part) ≡ 256 * b + 8 + part = omega arith in
    rw (h, z, y, k, t, n) refl

pub zeros_moved : (b : List ℕ) (d e at place : ℕ) (led : List ℕ) (r : Result (Unit {0}) ℕ) → e ≡ d → place ≡ at → Plain (zeros (place + (8 + e)) (drop (8 + e) b) led) led nothing r → Plain (zeros (at + (8 + d)) (drop (8 + d) b) led) led nothing r
zeros_moved b d e at place led r p q h = subst (λ (x : ℕ). Plain (zeros (x + (8 + d)) (drop (8 + d) b) led) led nothing r) q (subst (λ (x : ℕ). Plain (zeros (place + (8 + x)) (drop (8 + x) b) led) led nothing r) p h)

-- ---- block by block

given : {A B : Type 0} (a : A) (f : A → Step B) (led : List ℕ) → (give a >>= f) led ≡ f a led
unfolding ◌>>=◌
given a f led = refl

abbrev rest_of : Content → ℕ → ℕ → ℕ → ℕ → Step Chain
rest_of c k b n next = read_links c k next (n - 248) >>= λ rest. give (record { blocks = b ∷ rest.blocks; bytes = take (min n 248) (drop 8 (block c b)) ++ rest.bytes })

links_is : (c : Content) (k b n : ℕ) (led : List ℕ) → read_links c (suc k) b n led ≡ (read_link c b (k == 0) (min n 248) >>= rest_of c k b n) led
unfolding read_link
links_is c k b n led =
    sym (assoc _ _ _ led ∙ under _ _ _ led (λ _ l1. assoc _ _ _ l1 ∙ under _ _ _ l1 (λ _ l2. assoc _ _ _ l2 ∙ under _ _ _ l2 (λ _ l3. assoc _ _ _ l3 ∙ under _ _ _ l3 (λ _ l4. assoc _ _ _ l4 ∙ under _ _ _ l4 (λ _ l5. given _ _ l5))))))

links_at : (c : Content) (count b n part : ℕ) (last : Bool) (led : List ℕ) → count ≢ 0 → last ≡ (count - 1 == 0) → part ≡ min n 248 → read_links c count b n led ≡ (read_link c b last part >>= rest_of c (count - 1) b n) led
links_at c zero b n part last led some l p = absurd (some refl)
links_at c (suc k) b n part last led some l p =
    let z : suc k - 1 ≡ k = omega arith in
    rw (l, p, z) (links_is c k b n led)

pub last_is : (n : ℕ) → n ≢ 0 → (n == 1) ≡ (n - 1 == 0)
last_is n some = elim (eqb_tells n 1) [
  | inl a ↦ let e : n ≡ 1 = a.1 in rw e refl
  | inr a ↦ let ne = a.1 in let t : (n == 1) ≡ false = ne_eqb n 1 ne in let u : (n - 1 == 0) ≡ false = ne_eqb (n - 1) 0 (λ h. ne (omega arith)) in t ∙ sym u
]

pub links_none : (c : Content) (count b n : ℕ) (led : List ℕ) (s : Set) → count ≡ 0 → MarksIn c s led → Reads c (read_links c count b n led) s (is_nothing tt)
links_none c count b n led s none m = record { value = record { blocks = []; bytes = [] }; gives = record { led = led; is = rw none refl; marks = m }; shows = tt }

pub links_off : (c : Content) (count b n part : ℕ) (last : Bool) (led : List ℕ) (e : CheckNo) → count ≢ 0 → last ≡ (count - 1 == 0) → part ≡ min n 248 → IsFault c (read_link c b last part led) e → IsFault c (read_links c count b n led) e
links_off c count b n part last led e some l p h = fault_by c _ _ e (λ at k. links_at c count b n part last led some l p ∙ off _ _ led at k) h

pub links_goes : (c : Content) (count b n part : ℕ) (last : Bool) (led more : List ℕ) (next left : ℕ) (s : Set) (r : Result (Unit {0}) CheckNo) → count ≢ 0 → last ≡ (count - 1 == 0) → part ≡ min n 248 → left ≡ n - 248
    → read_link c b last part led ≡ Ok (next, more) → Answers c (read_links c (count - 1) next left more) s is_nothing r → Answers c (read_links c count b n led) s is_nothing r
links_goes c count b n part last led more next left s (Ok u) some l p q h k =
    let j = subst (λ (x : ℕ). Reads c (read_links c (count - 1) next x more) s (is_nothing u)) q k in
    record {
      value = record { blocks = b ∷ j.value.blocks; bytes = take (min n 248) (drop 8 (block c b)) ++ j.value.bytes };
      gives = record { led = j.gives.led; is = links_at c count b n part last led some l p ∙ on _ _ led next more _ h (on _ _ more j.value j.gives.led _ j.gives.is refl); marks = j.gives.marks };
      shows = tt;
    }
links_goes c count b n part last led more next left s (Err e) some l p q h k =
    fault_by c _ _ e (λ at j. links_at c count b n part last led some l p ∙ on _ _ led next more _ h (off _ _ more at (subst (λ (x : ℕ). read_links c (count - 1) next x more ≡ Err at) q j))) k
