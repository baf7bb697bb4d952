-- What an image says of itself: the counters that were written are read, and the other fields as before.
use Rattle.std.proofs.Common.{◌≡◌, ◌≢◌, ℕ, ◌+◌, ◌<◌, ◌^◌, ◌==◌, ◌&&◌, not, nat_lt, Bool, true, false, List, [], ◌∷◌, ◌++◌, Result, Ok, Err, length, refl, sym, ap, subst, ◌∙◌, arith, inl, inr}
use Rattle.std.specs.Prelude.{if◌then◌else◌}
use Rattle.std.proofs.lemmas.Bool.{ne_eqb}
use Rattle.std.proofs.lemmas.Bool.Decides.{eqb_tells, nat_tests}
use Rattle.std.proofs.lemmas.List.{append-nil}
use Rattle.base_outside.specs.Images.{Image, bytes_at}
use Rattle.vos_image.proofs.Steps.{some_block}
use Rattle.vos_image.specs.Content.{Content, is_taken, link, number}
use Rattle.vos_image.specs.Laws.{root_blocks}
use Rattle.vos_image.specs.Places.{Header, header_in, is_layout, magic, read_bytes, read_header}
use Rattle.vos_image.specs.Steps.{Step, ◌>>=◌, is_among, rule}
use Rattle.vos_places.specs.declared.codec.Counters.{Counters}
use Rattle.vos_places.specs.Codec.{AreCounters, counter_bytes, with_counters}
use Rattle.vos_places.specs.Tables.{AreRoots}
use Rattle.vos_places.proofs.Bytes.{Agree, agreed_bytes, agreed_number, number_known}
use Rattle.vos_places.proofs.Conts.{below_test, same_read}
use Rattle.vos_places.proofs.Steps.{AreZeros, bound_was, first_was, rule_goes, rule_was, step_goes, zeros_go, zeros_were}

-- ---- the first eight bytes

abbrev Reads : Image → ℕ → List ℕ → Type 0
Reads f at bs = (led : List ℕ) → read_bytes f at bs led ≡ Ok (tt, led)

first_read : (f : Image) (at b : ℕ) (bs : List ℕ) → (f at == b) ≡ true → Reads f (at + 1) bs → Reads f at (b ∷ bs)
unfolding ◌>>=◌ rule
first_read f at b bs h more led = rw h (more led)

bytes_were : {B : Type 0} (f : Image) (at : ℕ) (bs : List ℕ) (g : Unit {0} → Step B) (led : List ℕ) (r : B × List ℕ) → (read_bytes f at bs >>= g) led ≡ Ok r → Reads f at bs × (g tt led ≡ Ok r)
unfolding ◌>>=◌
bytes_were f at [] g led r h = (λ l. refl, h)
bytes_were f at (b ∷ bs) g led r h =
    let one = first_was at (f at == b) (read_bytes f (at + 1) bs) g led r h in
    let rest = bytes_were f (at + 1) bs g led r one.1 in
    (first_read f at b bs one.0 rest.0, rest.1)

bytes_as : (f g : Image) (at : ℕ) (bs : List ℕ) → Agree f g at (at + length bs) → read_bytes g at bs ≡ read_bytes f at bs
bytes_as f g at [] a = refl
bytes_as f g at (b ∷ bs) a =
    ap (λ (x : ℕ). rule at (x == b) >>= λ _. read_bytes g (at + 1) bs) (a at (omega arith) (omega arith))
    ∙ ap (λ (x : Step (Unit {0})). rule at (f at == b) >>= λ _. x) (bytes_as f g (at + 1) bs (λ i low high. a i (omega arith) (omega arith)))

-- ---- roots

link_goes : (c : Content) (at b : ℕ) (led : List ℕ) → (b ≢ 0 → is_taken c b ≡ true) → (b ≢ 0 → is_among b led ≡ false) → link c at b led ≡ Ok (tt, some_block b ++ led)
unfolding link
link_goes c at b led taken new =
    elim (eqb_tells b 0) [
      | inl a ↦ let e = a.0 in rw e refl
      | inr a ↦ let e : (b == 0) ≡ false = ne_eqb b 0 a.1 in rw (e, taken a.1, new a.1) refl
    ]

-- what a link says of the block that it leads to
record Linked (c : Content) (b : ℕ) (led after : List ℕ) : Type 0 where
  taken : is_taken c b ≡ true
  new : is_among b led ≡ false
  after_is : after ≡ b ∷ led

abbrev led_on : Bool → Bool → ℕ → ℕ → List ℕ → Result (Unit {0} × List ℕ) ℕ
led_on taken among at b led = if taken && not among then Ok (tt, b ∷ led) else Err at

link_was : (c : Content) (at b : ℕ) (led after : List ℕ) → b ≢ 0 → link c at b led ≡ Ok (tt, after) → Linked c b led after
unfolding link
link_was c at b led after some h = by (is_taken c b) refl (is_among b led) refl (sym (rw e refl) ∙ h)
  where
    e : (b == 0) ≡ false
    e = ne_eqb b 0 some

    by : (t : Bool) → is_taken c b ≡ t → (u : Bool) → is_among b led ≡ u → led_on t u at b led ≡ Ok (tt, after) → Linked c b led after
    by true t false u k = record { taken = t; new = u; after_is = sym (ap (λ z. z.1) (same_read (tt, b ∷ led) (tt, after) k)) }
    by true t true u k = absurd (cc)
    by false t u v k = absurd (cc)

not_first : (b o : ℕ) → (o ≢ 0 → b ≢ o) → is_among b (some_block o) ≡ false
not_first b o h =
    elim (eqb_tells o 0) [
      | inl a ↦ let e = a.0 in rw e refl
      | inr a ↦ let e : (o == 0) ≡ false = ne_eqb o 0 a.1 in let n : (b == o) ≡ false = ne_eqb b o (h a.1) in rw (e, n) refl
    ]

-- ---- all fields

record HeaderRules (target : ℕ) (c : Content) : Type 0 where
  start : Reads c.bytes 0 magic
  layout : is_layout (number c.bytes 8 4) ≡ true
  target_is : (c.bytes 12 == target) ≡ true
  gap : AreZeros 14 (bytes_at c.bytes 14 2)
  size : (number c.bytes 16 8 == c.size) ≡ true
  lease : nat_lt (number c.bytes 32 8) (2 ^ 56) ≡ true
  rest : AreZeros 48 (bytes_at c.bytes 48 4048)

-- the blocks led to after each root
record RootsLed (c : Content) (h : Header) (after : List ℕ) : Type 0 where
  middle : List ℕ
  objects : link c 40 h.objects [] ≡ Ok (tt, middle)
  entries : link c 44 h.entries middle ≡ Ok (tt, after)

record HeaderRead (target : ℕ) (c : Content) (h : Header) (after : List ℕ) : Type 0 where
  rules : HeaderRules target c
  header : header_in c.bytes ≡ h
  roots : RootsLed c (header_in c.bytes) after

header_was : (target : ℕ) (c : Content) (h : Header) (after : List ℕ) → read_header target c [] ≡ Ok (h, after) → HeaderRead target c h after
unfolding read_header header_in
header_was target c h after is =
    let one = bytes_were c.bytes 0 magic _ [] (h, after) is in
    let two = rule_was _ _ _ [] (h, after) one.1 in
    let three = rule_was _ _ _ [] (h, after) two.1 in
    let four = zeros_were _ _ _ [] (h, after) three.1 in
    let five = rule_was _ _ _ [] (h, after) four.1 in
    let six = rule_was _ _ _ [] (h, after) five.1 in
    let seven = bound_was _ _ [] (h, after) six.1 in
    let eight = bound_was _ _ seven.after (h, after) seven.behind in
    let nine = zeros_were _ _ _ eight.after (h, after) eight.behind in
    let last = same_read _ (h, after) nine.1 in
    let after_is : eight.after ≡ after = ap (λ z. z.1) last in
    record {
      rules = record { start = one.0; layout = two.0; target_is = three.0; gap = four.0; size = five.0; lease = six.0; rest = nine.0 };
      header = ap (λ z. z.0) last;
      roots = record { middle = seven.after; objects = seven.first; entries = subst (λ (z : List ℕ). link c 44 (number c.bytes 44 4) seven.after ≡ Ok (tt, z)) after_is eight.first };
    }

header_goes : (target : ℕ) (c : Content) (middle after : List ℕ) → HeaderRules target c → link c 40 (number c.bytes 40 4) [] ≡ Ok (tt, middle) → link c 44 (number c.bytes 44 4) middle ≡ Ok (tt, after) → read_header target c [] ≡ Ok (header_in c.bytes, after)
unfolding read_header header_in
header_goes target c middle after k one two =
    step_goes (read_bytes c.bytes 0 magic) _ tt [] [] _ (k.start [])
    (rule_goes _ _ _ [] _ k.layout
    (rule_goes _ _ _ [] _ k.target_is
    (zeros_go _ _ _ [] _ k.gap
    (rule_goes _ _ _ [] _ k.size
    (rule_goes _ _ _ [] _ k.lease
    (step_goes _ _ tt [] middle _ one
    (step_goes _ _ tt middle after _ two
    (zeros_go _ _ _ after _ k.rest refl))))))))

-- ---- roots that are right are led to, and those that were led to are right

roots_go : (c : Content) (objects entries : ℕ) → AreRoots c objects entries → (link c 40 objects [] ≡ Ok (tt, some_block objects)) × (link c 44 entries (some_block objects) ≡ Ok (tt, some_block entries ++ some_block objects))
roots_go c objects entries r = (
  link_goes c 40 objects [] r.first (λ some. refl) ∙ ap (λ (z : List ℕ). Ok (tt, z)) (append-nil (some_block objects)),
  link_goes c 44 entries (some_block objects) r.second (λ some. not_first entries objects r.apart),
)

roots_were : (c : Content) (h : Header) (after : List ℕ) → RootsLed c h after → AreRoots c h.objects h.entries
roots_were c h after r = record {
  first = λ some. (link_was c 40 h.objects [] r.middle some r.objects).taken;
  second = λ some. (link_was c 44 h.entries r.middle after some r.entries).taken;
  apart = λ some same.
      let one = link_was c 40 h.objects [] r.middle some r.objects in
      let some_entry : h.entries ≢ 0 = λ none. some (sym same ∙ none) in
      let two = link_was c 44 h.entries r.middle after some_entry r.entries in
      let own : is_among h.entries (h.objects ∷ []) ≡ true = rw same (itself h.objects) in
      let no : true ≡ false = sym own ∙ (ap (is_among h.entries) (sym one.after_is) ∙ two.new) in
      absurd (cc);
}
  where
    itself : (b : ℕ) → is_among b (b ∷ []) ≡ true
    itself b = let e : (b == b) ≡ true = grind (arith, nat_tests) in rw e refl

-- the roots of an image, and its lease
pub roots_read : (target : ℕ) (c : Content) (h : Header) (after : List ℕ) → read_header target c [] ≡ Ok (h, after) → AreRoots c h.objects h.entries
roots_read target c h after is = let was = header_was target c h after is in subst (λ (z : Header). AreRoots c z.objects z.entries) was.header (roots_were c (header_in c.bytes) after was.roots)

pub lease_read : (target : ℕ) (c : Content) (h : Header) (after : List ℕ) → read_header target c [] ≡ Ok (h, after) → number c.bytes 32 8 ≡ h.lease
unfolding header_in
lease_read target c h after is = ap (λ (z : Header). z.lease) (header_was target c h after is).header

pub lease_small : (target : ℕ) (c : Content) (h : Header) (after : List ℕ) → read_header target c [] ≡ Ok (h, after) → number c.bytes 32 8 < 2 ^ 56
lease_small target c h after is = below_told (number c.bytes 32 8) (2 ^ 56) (header_was target c h after is).rules.lease
  where
    below_told : (a b : ℕ) → nat_lt a b ≡ true → a < b
    below_told a b t = grind (arith, nat_tests)

-- its layout, and the target that it is of
pub layout_read : (target : ℕ) (c : Content) (h : Header) (after : List ℕ) → read_header target c [] ≡ Ok (h, after) → is_layout h.layout ≡ true
unfolding header_in
layout_read target c h after is = let was = header_was target c h after is in subst (λ (z : Header). is_layout z.layout ≡ true) was.header was.rules.layout

pub target_read : (target : ℕ) (c : Content) (h : Header) (after : List ℕ) → read_header target c [] ≡ Ok (h, after) → h.target ≡ target
unfolding header_in
target_read target c h after is = let was = header_was target c h after is in subst (λ (z : Header). z.target ≡ target) was.header (same_told (c.bytes 12) target was.rules.target_is)
  where
    same_told : (a b : ℕ) → (a == b) ≡ true → a ≡ b
    same_told a b t = grind (arith, nat_tests)

-- ---- counters that are written are read

record CountersSaid (f : Image) (n : Counters) : Type 0 where
  incarnation : number f 24 8 ≡ n.incarnation
  lease : number f 32 8 ≡ n.lease
  objects : number f 40 4 ≡ n.objects
  entries : number f 44 4 ≡ n.entries

counters_said : (f : Image) (n : Counters) → AreCounters n → bytes_at f 24 24 ≡ counter_bytes n → CountersSaid f n
unfolding counter_bytes
counters_said f n u is =
    let bs = counter_bytes n in
    record {
      incarnation = number_known f 24 bs is 0 8 n.incarnation (omega arith) refl u.incarnation;
      lease = number_known f 24 bs is 8 8 n.lease (omega arith) refl (omega (arith, u.lease));
      objects = number_known f 24 bs is 16 4 n.objects (omega arith) refl u.objects;
      entries = number_known f 24 bs is 20 4 n.entries (omega arith) refl u.entries;
    }

-- all but the counters is as before
pub record SameBesides (c d : Content) : Type 0 where
  pub front : Agree c.bytes d.bytes 0 24
  pub rest : Agree c.bytes d.bytes 48 4096
  pub size : d.size ≡ c.size

rules_as : (target : ℕ) (c d : Content) → SameBesides c d → nat_lt (number d.bytes 32 8) (2 ^ 56) ≡ true → HeaderRules target c → HeaderRules target d
rules_as target c d s lease k =
    let at = λ (p w : ℕ). agreed_number c.bytes d.bytes 0 24 p w s.front in
    let layout : number d.bytes 8 4 ≡ number c.bytes 8 4 = at 8 4 (omega arith) (omega arith) in
    let size : number d.bytes 16 8 ≡ number c.bytes 16 8 = at 16 8 (omega arith) (omega arith) in
    let target_at : d.bytes 12 ≡ c.bytes 12 = s.front 12 (omega arith) (omega arith) in
    record {
      start = λ led. ap (λ (x : Step (Unit {0})). x led) (bytes_as c.bytes d.bytes 0 magic (λ i low high. s.front i low (omega arith))) ∙ k.start led;
      layout = rw layout k.layout;
      target_is = rw target_at k.target_is;
      gap = subst (λ (z : List ℕ). AreZeros 14 z) (sym (agreed_bytes c.bytes d.bytes 0 24 14 2 s.front (omega arith) (omega arith))) k.gap;
      size = rw (size, s.size) k.size;
      lease = lease;
      rest = subst (λ (z : List ℕ). AreZeros 48 z) (sym (agreed_bytes c.bytes d.bytes 48 4096 48 4048 s.rest (omega arith) (omega arith))) k.rest;
    }

header_said : (c d : Content) (n : Counters) → SameBesides c d → CountersSaid d.bytes n → header_in d.bytes ≡ with_counters n (header_in c.bytes)
unfolding header_in
header_said c d n s k =
    let layout : number d.bytes 8 4 ≡ number c.bytes 8 4 = agreed_number c.bytes d.bytes 0 24 8 4 s.front (omega arith) (omega arith) in
    let target_at : d.bytes 12 ≡ c.bytes 12 = s.front 12 (omega arith) (omega arith) in
    let targets_at : d.bytes 13 ≡ c.bytes 13 = s.front 13 (omega arith) (omega arith) in
    λ i. record { layout = layout i; target = target_at i; targets = targets_at i; incarnation = k.incarnation i; lease = k.lease i; objects = k.objects i; entries = k.entries i }

pub counters_read : (target : ℕ) (c d : Content) (h : Header) (n : Counters) (after : List ℕ) → read_header target c [] ≡ Ok (h, after) → SameBesides c d → AreCounters n → bytes_at d.bytes 24 24 ≡ counter_bytes n → AreRoots d n.objects n.entries
    → read_header target d [] ≡ Ok (with_counters n h, root_blocks (with_counters n h))
counters_read target c d h n after is s u bytes roots =
    let was = header_was target c h after is in
    let k = counters_said d.bytes n u bytes in
    let lease : nat_lt (number d.bytes 32 8) (2 ^ 56) ≡ true = rw k.lease (below_test n.lease (2 ^ 56) u.lease) in
    let led = roots_go d n.objects n.entries roots in
    let one : link d 40 (number d.bytes 40 4) [] ≡ Ok (tt, some_block n.objects) = rw k.objects led.0 in
    let two : link d 44 (number d.bytes 44 4) (some_block n.objects) ≡ Ok (tt, some_block n.entries ++ some_block n.objects) = rw k.entries led.1 in
    let said : header_in d.bytes ≡ with_counters n h = header_said c d n s k ∙ ap (with_counters n) was.header in
    header_goes target d (some_block n.objects) (some_block n.entries ++ some_block n.objects) (rules_as target c d s lease was.rules) one two
    ∙ ap (λ (z : Header). Ok (z, some_block n.entries ++ some_block n.objects)) said

-- and one of which nothing changes
pub header_stays : (target : ℕ) (c d : Content) (h : Header) (after : List ℕ) → read_header target c [] ≡ Ok (h, after) → Agree c.bytes d.bytes 0 4096 → d.size ≡ c.size → AreRoots d h.objects h.entries → read_header target d [] ≡ Ok (h, root_blocks h)
unfolding header_in
header_stays target c d h after is a size roots =
    let was = header_was target c h after is in
    let s : SameBesides c d = record { front = λ i low high. a i low (omega arith); rest = λ i low high. a i (omega arith) high; size = size } in
    let at = λ (p w : ℕ). agreed_number c.bytes d.bytes 0 4096 p w a in
    let lease : number d.bytes 32 8 ≡ number c.bytes 32 8 = at 32 8 (omega arith) (omega arith) in
    let incarnation : number d.bytes 24 8 ≡ h.incarnation = at 24 8 (omega arith) (omega arith) ∙ ap (λ (z : Header). z.incarnation) was.header in
    let objects : number d.bytes 40 4 ≡ h.objects = at 40 4 (omega arith) (omega arith) ∙ ap (λ (z : Header). z.objects) was.header in
    let entries : number d.bytes 44 4 ≡ h.entries = at 44 4 (omega arith) (omega arith) ∙ ap (λ (z : Header). z.entries) was.header in
    let layout : number d.bytes 8 4 ≡ h.layout = at 8 4 (omega arith) (omega arith) ∙ ap (λ (z : Header). z.layout) was.header in
    let target_at : d.bytes 12 ≡ h.target = a 12 (omega arith) (omega arith) ∙ ap (λ (z : Header). z.target) was.header in
    let targets_at : d.bytes 13 ≡ h.targets = a 13 (omega arith) (omega arith) ∙ ap (λ (z : Header). z.targets) was.header in
    let lease_at : number d.bytes 32 8 ≡ h.lease = lease ∙ ap (λ (z : Header). z.lease) was.header in
    let led = roots_go d h.objects h.entries roots in
    let one : link d 40 (number d.bytes 40 4) [] ≡ Ok (tt, some_block h.objects) = rw objects led.0 in
    let two : link d 44 (number d.bytes 44 4) (some_block h.objects) ≡ Ok (tt, root_blocks h) = rw entries led.1 in
    let said : header_in d.bytes ≡ h = λ i. record { layout = layout i; target = target_at i; targets = targets_at i; incarnation = incarnation i; lease = lease_at i; objects = objects i; entries = entries i } in
    header_goes target d (some_block h.objects) (root_blocks h) (rules_as target c d s (rw lease was.rules.lease) was.rules) one two
    ∙ ap (λ (z : Header). Ok (z, root_blocks h)) said
