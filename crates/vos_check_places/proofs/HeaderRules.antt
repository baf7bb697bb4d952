-- What an image says of itself: its rules in a row are the reading of it.
use Rattle.std.proofs.Common.{◌≡◌, ◌≢◌, ℕ, zero, suc, ◌+◌, ◌<◌, ◌≤◌, ◌==◌, ◌&&◌, ◌||◌, not, nat_lt, Bool, true, false, List, [], ◌∷◌, ◌++◌, Result, Ok, Err, length, drop, get_or, refl, sym, ap, ◌∙◌, arith, inl, inr}
use Rattle.std.specs.Prelude.{if◌then◌else◌}
use Rattle.std.proofs.lemmas.Bool.{ne_eqb}
use Rattle.std.proofs.lemmas.Bool.Decides.{eqb_tells, nat_tests}
use Rattle.std.proofs.lemmas.List.{append-nil}
use Rattle.base_outside.specs.Images.{Image}
use Rattle.byteorder.specs.Endian.{big_number}
use Rattle.vos_image.proofs.Reading.{linked_by}
use Rattle.vos_image.proofs.Steps.{some_block}
use Rattle.vos_image.specs.Content.{Content, is_taken, link, number}
use Rattle.vos_image.specs.Laws.{root_blocks}
use Rattle.vos_image.specs.Places.{header_in, is_layout, magic, read_bytes, read_header, zeros_at}
use Rattle.vos_image.specs.Steps.{Step, ◌>>=◌, fail, give, is_among, onward, rule}
use Rattle.vos_check_places.specs.declared.fault.Fault.{Fault}
use Rattle.vos_check_places.specs.declared.header.Header.{Header}
use Rattle.vos_check_places.specs.declared.judge.Rule.{Rule}
use Rattle.vos_check_places.specs.Rules.{judged}
use Rattle.vos_check_places.specs.Fixed.{header_of}
use Rattle.vos_check_places.specs.Shown.{AreHeaderFields, IsShown, StopsAt}
use Rattle.vos_check_places.proofs.Shown.{number_shown}
use Rattle.vos_check_places.proofs.Steps.{AllHold, AllShown, ruled, rules_go, rules_stop, step_moves}

-- ---- the first eight bytes

pub bytes_hold : (f : Image) (at : ℕ) (bs : List ℕ) → ((k : ℕ) → k < length bs → f (at + k) ≡ get_or bs k 0) → read_bytes f at bs ≡ give tt
unfolding ◌>>=◌ rule
bytes_hold f at [] h = refl
bytes_hold f at (b ∷ bs) h =
    let here : at + 0 ≡ at = omega arith in
    let e : f at ≡ b = ap f (sym here) ∙ h 0 (omega arith) in
    let t : (f at == b) ≡ true = grind (arith, nat_tests) in
    rw t (bytes_hold f (at + 1) bs (λ k below. let next : at + 1 + k ≡ at + suc k = omega arith in ap f next ∙ h (suc k) (omega arith)))

pub bytes_fail : (f : Image) (at : ℕ) (bs : List ℕ) (i : ℕ) → i < length bs → ((k : ℕ) → k < i → f (at + k) ≡ get_or bs k 0) → f (at + i) ≢ get_or bs i 0 → read_bytes f at bs ≡ fail (at + i)
unfolding ◌>>=◌ rule
bytes_fail f at [] i below h wrong = absurd (omega arith)
bytes_fail f at (b ∷ bs) zero below h wrong =
    let here : at + 0 ≡ at = omega arith in
    let t : (f at == b) ≡ false = ne_eqb (f at) b (λ same. wrong (ap f here ∙ same)) in
    rw t (ap (λ (z : ℕ). fail z) (sym here))
bytes_fail f at (b ∷ bs) (suc i) below h wrong =
    let here : at + 0 ≡ at = omega arith in
    let next : at + 1 + i ≡ at + suc i = omega arith in
    let e : f at ≡ b = ap f (sym here) ∙ h 0 (omega arith) in
    let t : (f at == b) ≡ true = grind (arith, nat_tests) in
    rw t (bytes_fail f (at + 1) bs i (omega arith) (λ k under. let step : at + 1 + k ≡ at + suc k = omega arith in ap f step ∙ h (suc k) (omega arith)) (λ same. wrong (ap f (sym next) ∙ same))
    ∙ ap (λ (z : ℕ). fail z) next)

-- ---- roots

right_none : (t : Bool) → (t || false) ≡ t
right_none true = refl
right_none false = refl

among_is : (b o : ℕ) → (b == 0) ≡ false → is_among b (some_block o) ≡ (b == o)
among_is b o some = elim (eqb_tells o 0) [
  | inl a ↦ let e = a.1 in rw e (sym some)
  | inr a ↦ let e : (o == 0) ≡ false = ne_eqb o 0 a.1 in rw e (right_none (b == o))
]

link_by : (c : Content) (at b : ℕ) (led : List ℕ) → link c at b led ≡ linked_by at b led (b == 0) (is_taken c b) (is_among b led)
unfolding link
link_by c at b led = refl

on_link : {B : Type 0} (at b : ℕ) (led : List ℕ) (s k m : Bool) (x : Step B) → onward (linked_by at b led s k m) (λ _. x) ≡ (if s || (k && not m) then x ((if s then [] else b ∷ []) ++ led) else Err at)
on_link at b led true k m x = refl
on_link at b led false true true x = refl
on_link at b led false true false x = refl
on_link at b led false false m x = refl

on_rule : {B : Type 0} (at : ℕ) (t : Bool) (y : Step B) (led : List ℕ) → (rule at t >>= λ _. y) led ≡ (if t then y led else Err at)
unfolding ◌>>=◌ rule
on_rule at true y led = refl
on_rule at false y led = refl

after : {A B : Type 0} (s : Step A) (g : A → Step B) (led : List ℕ) → (s >>= g) led ≡ onward (s led) g
unfolding ◌>>=◌
after s g led = refl

same_test : (s k m n : Bool) → (s ≡ false → m ≡ n) → (s || (k && not m)) ≡ (s || (k && not n))
same_test true k m n h = refl
same_test false k m n h = let e = h refl in rw e refl

-- a link after a block, or after none, is a rule of its own
link_moves : {B : Type 0} (c : Content) (at b o : ℕ) (t : Bool) (x y : Step B) (led other : List ℕ) → t ≡ ((b == 0) || (is_taken c b && not (b == o))) → led ≡ some_block o → x (some_block b ++ led) ≡ y other
    → (link c at b >>= λ _. x) led ≡ (rule at t >>= λ _. y) other
link_moves {B = B} c at b o t x y led other is from e =
    let among : (b == 0) ≡ false → is_among b led ≡ (b == o) = λ some. ap (is_among b) from ∙ among_is b o some in
    let test : ((b == 0) || (is_taken c b && not (is_among b led))) ≡ t = same_test (b == 0) (is_taken c b) (is_among b led) (b == o) among ∙ sym is in
    after (link c at b) (λ _. x) led
    ∙ (ap (λ (z : Result (Unit {0} × List ℕ) ℕ). onward z (λ _. x)) (link_by c at b led)
    ∙ (on_link at b led (b == 0) (is_taken c b) (is_among b led) x
    ∙ (ap (λ (z : Bool). if z then x (some_block b ++ led) else Err at) test
    ∙ (ap (λ (z : Result (B × List ℕ) ℕ). if t then z else Err at) e
    ∙ sym (on_rule at t y other)))))

-- ---- all fields

abbrev pub header_rules : ℕ → ℕ → ℕ → Header → Rule → Rule → Rule → Bool → Bool → Bool → List Rule
header_rules target size sized h start gap rest layout first second =
    start ∷ record { 0 = 8; 1 = layout } ∷ record { 0 = 12; 1 = h.target == target } ∷ gap ∷ record { 0 = 16; 1 = sized == size } ∷ record { 0 = 32; 1 = nat_lt h.lease 72057594037927936 }
    ∷ record { 0 = 40; 1 = first } ∷ record { 0 = 44; 1 = second } ∷ rest ∷ []

-- what was found in bytes that a content has
pub record HeaderFound (c : Content) (bs : List ℕ) (sized : ℕ) (h : Header) (start gap rest : Rule) (layout first second : Bool) : Type 0 where
  pub shown : IsShown c.bytes bs 0 32768
  pub fields : AreHeaderFields c.bytes h
  pub start_high : start.0 < 8
  pub gap_low : 14 ≤ gap.0
  pub gap_high : gap.0 < 14 + 2
  pub rest_low : 48 ≤ rest.0
  pub rest_high : rest.0 < 48 + 4048
  pub start_is : read_bytes c.bytes 0 magic ≡ rule start.0 start.1
  pub gap_is : zeros_at c.bytes 14 2 ≡ rule gap.0 gap.1
  pub rest_is : zeros_at c.bytes 48 4048 ≡ rule rest.0 rest.1
  pub sized_is : number c.bytes 16 8 ≡ sized
  pub layout_is : layout ≡ is_layout h.layout
  pub first_is : first ≡ ((h.objects == 0) || (is_taken c h.objects && not (h.objects == 0)))
  pub second_is : second ≡ ((h.entries == 0) || (is_taken c h.entries && not (h.entries == h.objects)))

pub header_found : (c : Content) (bs : List ℕ) (sized : ℕ) (h : Header) (start gap rest : Rule) (layout first second : Bool) → IsShown c.bytes bs 0 32768 → AreHeaderFields c.bytes h
    → ((f : Image) → IsShown f bs 0 32768 → read_bytes f 0 magic ≡ rule start.0 start.1) → start.0 < 8
    → ((f : Image) → IsShown f bs 14 (14 + 2) → zeros_at f 14 2 ≡ rule gap.0 gap.1) → 14 ≤ gap.0 → gap.0 < 14 + 2
    → ((f : Image) → IsShown f bs 48 (48 + 4048) → zeros_at f 48 4048 ≡ rule rest.0 rest.1) → 48 ≤ rest.0 → rest.0 < 48 + 4048
    → sized ≡ big_number 8 (drop 16 bs) → layout ≡ is_layout h.layout
    → first ≡ ((h.objects == 0) || (is_taken c h.objects && not (h.objects == 0))) → second ≡ ((h.entries == 0) || (is_taken c h.entries && not (h.entries == h.objects))) → HeaderFound c bs sized h start gap rest layout first second
header_found c bs sized h start gap rest layout first second s fields m high near a b far l r size is one two = record {
  shown = s;
  fields = fields;
  start_high = high;
  gap_low = a;
  gap_high = b;
  rest_low = l;
  rest_high = r;
  start_is = m c.bytes s;
  gap_is = near c.bytes (λ i low top. s i (omega arith) (omega arith));
  rest_is = far c.bytes (λ i low top. s i (omega arith) (omega arith));
  sized_is = number_shown c.bytes bs 16 8 (λ i low top. s i (omega arith) (omega arith)) ∙ sym size;
  layout_is = is;
  first_is = one;
  second_is = two;
}

-- the reading of the header is by these rules
header_is : (target : ℕ) (c : Content) (bs : List ℕ) (sized : ℕ) (h : Header) (start gap rest : Rule) (layout first second : Bool) → HeaderFound c bs sized h start gap rest layout first second
    → read_header target c [] ≡ ruled (header_rules target c.size sized h start gap rest layout first second) (λ _. Ok (header_of h, root_blocks (header_of h))) []
unfolding read_header header_in
header_is target c bs sized h start gap rest layout first second k =
    let f = k.fields in
    let objects = some_block h.objects in
    let led : some_block h.entries ++ (objects ++ []) ≡ root_blocks (header_of h) = ap (λ (z : List ℕ). some_block h.entries ++ z) (append-nil objects) in
    rw (f.layout, f.target, f.targets, f.incarnation, f.lease, f.objects, f.entries, k.sized_is)
    (step_moves _ start _ _ [] [] k.start_is
    (step_moves _ (record { 0 = 8; 1 = layout }) _ _ [] [] (ap (rule 8) (sym k.layout_is))
    (step_moves _ (record { 0 = 12; 1 = h.target == target }) _ _ [] [] refl
    (step_moves _ gap _ _ [] [] k.gap_is
    (step_moves _ (record { 0 = 16; 1 = sized == c.size }) _ _ [] [] refl
    (step_moves _ (record { 0 = 32; 1 = nat_lt h.lease 72057594037927936 }) _ _ [] [] refl
    (link_moves c 40 h.objects 0 first _ _ [] [] k.first_is refl
    (link_moves c 44 h.entries h.objects second _ _ (objects ++ []) [] k.second_is (append-nil objects)
    (step_moves _ rest _ _ (some_block h.entries ++ (objects ++ [])) [] k.rest_is (ap (λ (z : List ℕ). Ok (header_of h, z)) led))))))))))

-- where they hold, this is read, and the two roots are led to
pub header_goes : (target : ℕ) (c : Content) (bs : List ℕ) (sized : ℕ) (h : Header) (start gap rest : Rule) (layout first second : Bool) → HeaderFound c bs sized h start gap rest layout first second
    → AllHold (header_rules target c.size sized h start gap rest layout first second) → read_header target c [] ≡ Ok (header_of h, root_blocks (header_of h))
header_goes target c bs sized h start gap rest layout first second k all =
    header_is target c bs sized h start gap rest layout first second k
    ∙ rules_go (header_rules target c.size sized h start gap rest layout first second) (λ _. Ok (header_of h, root_blocks (header_of h))) [] all

-- and the reading stops at the first that is broken
pub header_stops : (target : ℕ) (c : Content) (bs : List ℕ) (sized : ℕ) (h : Header) (start gap rest : Rule) (layout first second : Bool) (e : Fault) → HeaderFound c bs sized h start gap rest layout first second
    → judged bs (header_rules target c.size sized h start gap rest layout first second) ≡ Err e → StopsAt (read_header target c []) c.bytes e
header_stops target c bs sized h start gap rest layout first second e k broken =
    let s = k.shown in
    let rules = header_rules target c.size sized h start gap rest layout first second in
    let shown : AllShown c.bytes bs rules =
    (s start.0 (omega arith) (omega arith), (s 8 (omega arith) (omega arith), (s 12 (omega arith) (omega arith), (s gap.0 (omega arith) (omega arith), (s 16 (omega arith) (omega arith), (s 32 (omega arith) (omega arith), (s 40 (omega arith) (omega arith), (s 44 (omega arith) (omega arith), (s rest.0 (omega arith) (omega arith), tt)))))))))
    in
    rules_stop (read_header target c []) bs rules (λ _. Ok (header_of h, root_blocks (header_of h))) [] c.bytes e (header_is target c bs sized h start gap rest layout first second k) shown broken
