-- A walk up over the things of a level, which takes the names of those that pass a test.
use Rattle.std.proofs.Common.{◌≡◌, ◌==◌, not, ℕ, suc, zero, ◌+◌, ◌≤◌, ◌^◌, ◌||◌, Bool, true, false, List, [], ◌∷◌, ◌++◌, length, map, take, Option, Some, None, refl, sym, ap, ◌∙◌, subst, arith, append_assoc, inl, inr}
use Rattle.std.specs.Prelude.{filter, if◌then◌else◌}
use Rattle.std.specs.List.{list_any}
use Rattle.std.specs.Option.{option_and_then}
use Rattle.std.specs.declared.cmp.Ordering.{Ordering}
use Rattle.std.specs.declared.cmp.Ordering.TheVariants.{Less, Equal, Greater}
use Rattle.std.proofs.Math.Seq.{take-append_seam}
use Rattle.std.proofs.lemmas.List.{append-nil, length-append, map-append, nil_from_length}
use Rattle.std.proofs.lemmas.List.Elements.{filter-append}
use Rattle.model_laws.specs.Members.{Has}
use Rattle.pmem_pages.specs.Blocks.{Blocks}
use Rattle.pmem_pages.specs.Node.{key_cmp}
use Rattle.pmem_pages.specs.Owners.{Holds, each}
use Rattle.pmem_pages.specs.Parts.{above}
use Rattle.pmem_pages.specs.Shape.{AllAbove, Entry, Rises, chosen, entries, first_above}
use Rattle.pmem_pages.specs.declared.node.Pair.{Pair}
use Rattle.pmem_pages.specs.declared.node.TreeKey.{TreeKey}
use Rattle.pmem_pages.proofs.Lists.{AllAbove-lower}
use Rattle.pmem_pages.proofs.Walks.{above_next, above_none}
use Rattle.pmem_tree_base.specs.Find.{pair_of}
use Rattle.vos_levels.specs.Levels.{Hung, LeadToAll, Level, hung, pair_of_thing, things}
use Rattle.vos_levels.proofs.Changing.{holds_each, holds_spot}
use Rattle.vos_levels.proofs.Testing.{few_things}
use Rattle.vos_lists.specs.Stands.{names_of}

-- ---- names of parts of a list

pub names_append : {A N : Type 0} (test : A → Bool) (name : A → N) (xs ys : List A) → names_of test name (xs ++ ys) ≡ names_of test name xs ++ names_of test name ys
names_append test name xs ys = ap (map name) (filter-append test xs ys) ∙ map-append name (filter test xs) (filter test ys)

name_one : {A N : Type 0} (test : A → Bool) (name : A → N) (a : A) → test a ≡ true → names_of test name (a ∷ []) ≡ name a ∷ []
name_one test name a h = ap (λ (b : Bool). map name (if b then a ∷ [] else [])) h

name_none : {A N : Type 0} (test : A → Bool) (name : A → N) (a : A) → test a ≡ false → names_of test name (a ∷ []) ≡ []
name_none test name a h = ap (λ (b : Bool). map name (if b then a ∷ [] else [])) h

take_whole : {N : Type 0} (n : ℕ) (xs : List N) → length xs ≤ n → take n xs ≡ xs
take_whole zero [] h = refl
take_whole zero (x ∷ xs) h = absurd (omega (arith, h))
take_whole (suc n) [] h = refl
take_whole (suc n) (x ∷ xs) h = ap (λ z. x ∷ z) (take_whole n xs (omega (arith, h)))

pub any_found : {A : Type 0} (test : A → Bool) (left : List A) (a : A) (right : List A) → test a ≡ true → list_any test (left ++ a ∷ right) ≡ true
any_found test [] a right h = ap (λ b. b || list_any test right) h
any_found test (x ∷ left) a right h = or_true (test x) (list_any test (left ++ a ∷ right)) (any_found test left a right h)
  where
    or_true : (s t : Bool) → t ≡ true → (s || t) ≡ true
    or_true true t k = refl
    or_true false t k = k

pub has_append : {T : Type 0} (left : List T) (x : T) (right : List T) → Has x (left ++ x ∷ right)
has_append [] x right = inl refl
has_append (y ∷ left) x right = inr (has_append left x right)

-- there are no names just where none passes
pub none_any : {A N : Type 0} (test : A → Bool) (name : A → N) (xs : List A) → names_of test name xs ≡ [] → list_any test xs ≡ false
none_any test name [] h = refl
none_any test name (x ∷ xs) h = by (test x) h (none_any test name xs)
  where
    by : (b : Bool) → map name (if b then x ∷ filter test xs else filter test xs) ≡ [] → (names_of test name xs ≡ [] → list_any test xs ≡ false) → (b || list_any test xs) ≡ false
    by true e r = absurd (let n : ⊥ = cc in n)
    by false e r = r e

-- ---- the things above a key

-- the first thing above a key, and those behind it
record First {A : Type 0} (L : Level A) (k : TreeKey) (es : List Entry) (rest : List A) (p : Pair) : Type 0 where
  thing : A
  behind : List A
  rest_is : rest ≡ thing ∷ behind
  good : L.Good thing
  over : key_cmp k (L.key thing) ≡ Less
  pair_is : p ≡ pair_of_thing L thing
  leads : LeadToAll L (above (L.key thing) es) behind

-- what stands above a key lies above it
above_are : (k : TreeKey) (es : List Entry) → AllAbove k (above k es)
above_are k [] = tt
above_are k (e ∷ es) = by (key_cmp k e.key) refl (above_are k es)
  where
    by : (o : Ordering) → key_cmp k e.key ≡ o → AllAbove k (above k es) → AllAbove k (chosen o (e ∷ above k es) (above k es) (above k es))
    by Less c r = (c, r)
    by Equal c r = r
    by Greater c r = r

module _ {A : Type 0} (L : Level A) where
  above_all : (k : TreeKey) (es : List Entry) → AllAbove k es → above k es ≡ es
  above_all k [] a = refl
  above_all k (e ∷ es) a = rw a.0 (ap (λ l. e ∷ l) (above_all k es a.1))

  none_leads : (xs : List A) → LeadToAll L [] xs → xs ≡ []
  none_leads [] p = refl
  none_leads (x ∷ xs) p = absurd p

  none_over : (k : TreeKey) (es : List Entry) (rest : List A) → LeadToAll L (above k es) rest → pair_of (first_above k es) ≡ None → rest ≡ []
  none_over k es rest p found = by (first_above k es) refl found
    where
      by : (x : Option Entry) → first_above k es ≡ x → pair_of x ≡ None → rest ≡ []
      by None e f = none_leads rest (subst (λ z. LeadToAll L z rest) (above_none k es e) p)
      by (Some x) e f = absurd (let n : ⊥ = cc in n)

  first_here : (k : TreeKey) (es : List Entry) (rest : List A) (e : Entry) (p : Pair) → pair_of (Some e) ≡ Some p → key_cmp k e.key ≡ Less → LeadToAll L (e ∷ above e.key es) rest → First L k es rest p
  first_here k es [] e p is over h = absurd h
  first_here k es (a ∷ behind) e p is over h = record {
    thing = a;
    behind = behind;
    rest_is = refl;
    good = h.0.good;
    over = ap (key_cmp k) (sym h.0.key) ∙ over;
    pair_is = sym (inside (record { key = e.key; value = e.value }) p is) ∙ (λ i. record { key = h.0.key i; value = h.0.value i });
    leads = subst (λ z. LeadToAll L (above z es) behind) h.0.key h.1;
  }
    where
      inside : (x y : Pair) → Some x ≡ Some y → x ≡ y
      inside x y h = cc

  first_over : (k : TreeKey) (es : List Entry) (rest : List A) (p : Pair) → Rises es → LeadToAll L (above k es) rest → pair_of (first_above k es) ≡ Some p → First L k es rest p
  first_over k es rest p r h found = by (first_above k es) refl found
    where
      by : (x : Option Entry) → first_above k es ≡ x → pair_of x ≡ Some p → First L k es rest p
      by None e f = absurd (let n : ⊥ = cc in n)
      by (Some x) e f =
          let is = above_next k x es r e in
          first_here k es rest x p f (subst (AllAbove k) is (above_are k es)).0 (subst (λ z. LeadToAll L z rest) is h)

-- ---- the walk

-- The things up to a key were looked at: the names of those that pass were taken. Those above it are still to come.
pub record Ahead {A N : Type 0} (L : Level A) (test : A → Bool) (name : A → N) (g : Hung A) (key : TreeKey) (got : List N) (passed : ℕ) : Type 0 where
  pub seen : List A
  pub rest : List A
  pub all : things g ≡ seen ++ rest
  pub leads : LeadToAll L (above key (entries g.0)) rest
  pub count : passed ≤ length seen
  pub got_is : got ≡ names_of test name seen

module _ {A X N : Type 0} (L : Level A) (test : A → Bool) (name : A → N) (parse : Pair → Option X) (shown : A → X) (m : Blocks) (again : (a : A) → L.Good a → Holds L.owner m a → parse (pair_of_thing L a) ≡ Some (shown a)) (g : Hung A) (held : Holds (hung L) m g) where
  -- those that don't lie above a key, and those that do
  record Split (k : TreeKey) (es : List Entry) (xs : List A) : Type 0 where
    left : List A
    right : List A
    all : xs ≡ left ++ right
    none : names_of test name left ≡ []
    leads : LeadToAll L (above k es) right

  split : (k : TreeKey) → ((a : A) → L.Good a → (key_cmp k (L.key a) ≡ Less → ⊥) → test a ≡ false) → (es : List Entry) (xs : List A) → LeadToAll L es xs → Rises es → Split k es xs
  split k fails [] [] p r = record { left = []; right = []; all = refl; none = refl; leads = tt }
  split k fails [] (x ∷ xs) p r = absurd p
  split k fails (e ∷ es) [] p r = absurd p
  split k fails (e ∷ es) (x ∷ xs) p r = by (key_cmp k e.key) refl (split k fails es xs p.1 r.1)
    where
      later : (o : Ordering) → key_cmp k e.key ≡ o → (o ≡ Less → ⊥) → chosen o (e ∷ above k es) (above k es) (above k es) ≡ above k es → Split k es xs → Split k (e ∷ es) (x ∷ xs)
      later o c other is t = record {
        left = x ∷ t.left;
        right = t.right;
        all = ap (λ z. x ∷ z) t.all;
        none = ap (λ (b : Bool). map name (if b then x ∷ filter test t.left else filter test t.left)) (fails x p.0.good (λ less. other (sym c ∙ (ap (key_cmp k) p.0.key ∙ less)))) ∙ t.none;
        leads = subst (λ z. LeadToAll L z t.right) (sym (ap (λ z. chosen z (e ∷ above k es) (above k es) (above k es)) c ∙ is)) t.leads;
      }

      by : (o : Ordering) → key_cmp k e.key ≡ o → Split k es xs → Split k (e ∷ es) (x ∷ xs)
      by Less c t = record {
        left = [];
        right = x ∷ xs;
        all = refl;
        none = refl;
        leads = subst (λ z. LeadToAll L z (x ∷ xs)) (sym (ap (λ z. chosen z (e ∷ above k es) (above k es) (above k es)) c)) (p.0, subst (λ z. LeadToAll L z xs) (sym (above_all L k es (AllAbove-lower k e.key es c r.0))) p.1);
      }
      by Equal c t = later Equal c (λ n. let z : ⊥ = cc in z) refl t
      by Greater c t = later Greater c (λ n. let z : ⊥ = cc in z) refl t

  -- a walk from a key on, where none passes that doesn't lie above it
  pub ahead_from : (k : TreeKey) → ((a : A) → L.Good a → (key_cmp k (L.key a) ≡ Less → ⊥) → test a ≡ false) → Ahead L test name g k [] 0
  ahead_from k fails =
      let s = split k fails (entries g.0) (things g) held.here.1.leads held.here.1.rises in
      record { seen = s.left; rest = s.right; all = s.all; leads = s.leads; count = omega arith; got_is = sym s.none }

  pub ahead_first : (k : TreeKey) → ((a : A) → L.Good a → key_cmp k (L.key a) ≡ Less) → Ahead L test name g k [] 0
  ahead_first k low = ahead_from k (λ a good no. absurd (no (low a good)))

  -- the first of those still to come
  pub record Coming (key : TreeKey) (got : List N) (passed : ℕ) (x : X) : Type 0 where
    pub thing : A
    pub among : Has thing (things g)
    pub good : L.Good thing
    pub holds : Holds L.owner m thing
    pub over : key_cmp key (L.key thing) ≡ Less
    pub shown_is : x ≡ shown thing
    pub hit : test thing ≡ true → list_any test (things g) ≡ true
    pub taken : test thing ≡ true → Ahead L test name g (L.key thing) (got ++ name thing ∷ []) (passed + 1)
    pub left_out : test thing ≡ false → Ahead L test name g (L.key thing) got (passed + 1)

  one_more : (seen behind : List A) (a : A) → things g ≡ seen ++ a ∷ behind → things g ≡ (seen ++ a ∷ []) ++ behind
  one_more seen behind a is = is ∙ sym (append_assoc seen (a ∷ []) behind)

  longer : (passed : ℕ) (seen : List A) (a : A) → passed ≤ length seen → passed + 1 ≤ length (seen ++ a ∷ [])
  longer passed seen a h = omega (arith, h, length-append seen (a ∷ []))

  come : (key : TreeKey) (got : List N) (passed : ℕ) (x : X) (p : Pair) → Ahead L test name g key got passed → pair_of (first_above key (entries g.0)) ≡ Some p → Some x ≡ parse p → Coming key got passed x
  come key got passed x p a found says =
      let f = first_over L key (entries g.0) a.rest p held.here.1.rises a.leads found in
      let is : things g ≡ a.seen ++ f.thing ∷ f.behind = a.all ∙ ap (λ z. a.seen ++ z) f.rest_is in
      let mine : Holds L.owner m f.thing = holds_spot L.owner m a.seen f.thing f.behind (subst (λ z. Holds (each L.owner) m z) is (holds_each L m g held)) in
      record {
        thing = f.thing;
        among = subst (Has f.thing) (sym is) (has_append a.seen f.thing f.behind);
        good = f.good;
        holds = mine;
        over = f.over;
        shown_is = inside x (shown f.thing) (says ∙ (ap parse f.pair_is ∙ again f.thing f.good mine));
        hit = λ yes. ap (list_any test) is ∙ any_found test a.seen f.thing f.behind yes;
        taken = λ yes. record {
          seen = a.seen ++ f.thing ∷ [];
          rest = f.behind;
          all = one_more a.seen f.behind f.thing is;
          leads = f.leads;
          count = longer passed a.seen f.thing a.count;
          got_is = ap (λ z. z ++ name f.thing ∷ []) a.got_is ∙ (ap (λ z. names_of test name a.seen ++ z) (sym (name_one test name f.thing yes)) ∙ sym (names_append test name a.seen (f.thing ∷ [])));
        };
        left_out = λ no. record {
          seen = a.seen ++ f.thing ∷ [];
          rest = f.behind;
          all = one_more a.seen f.behind f.thing is;
          leads = f.leads;
          count = longer passed a.seen f.thing a.count;
          got_is = a.got_is ∙ (sym (append-nil (names_of test name a.seen)) ∙ (ap (λ z. names_of test name a.seen ++ z) (sym (name_none test name f.thing no)) ∙ sym (names_append test name a.seen (f.thing ∷ []))));
        };
      }
    where
      inside : (u v : X) → Some u ≡ Some v → u ≡ v
      inside u v h = cc

  pub coming : (key : TreeKey) (got : List N) (passed : ℕ) (x : X) → Ahead L test name g key got passed → Some x ≡ option_and_then parse (pair_of (first_above key (entries g.0))) → Coming key got passed x
  coming key got passed x a says = by (pair_of (first_above key (entries g.0))) refl says
    where
      by : (p : Option Pair) → pair_of (first_above key (entries g.0)) ≡ p → Some x ≡ option_and_then parse p → Coming key got passed x
      by None e h = absurd (let n : ⊥ = cc in n)
      by (Some p) e h = come key got passed x p a e h

  over_all : (got : List N) (seen rest : List A) → things g ≡ seen ++ rest → got ≡ names_of test name seen → rest ≡ [] → got ≡ names_of test name (things g)
  over_all got seen rest all is none = is ∙ sym (ap (names_of test name) (all ∙ (ap (λ z. seen ++ z) none ∙ append-nil seen)))

  -- none is left
  pub ahead_none : (key : TreeKey) (got : List N) (passed : ℕ) → Ahead L test name g key got passed → None ≡ option_and_then parse (pair_of (first_above key (entries g.0))) → got ≡ names_of test name (things g)
  ahead_none key got passed a says = by (pair_of (first_above key (entries g.0))) refl says
    where
      some : (p : Pair) → pair_of (first_above key (entries g.0)) ≡ Some p → None ≡ parse p → ⊥
      some p e h =
          let f = first_over L key (entries g.0) a.rest p held.here.1.rises a.leads e in
          let is : things g ≡ a.seen ++ f.thing ∷ f.behind = a.all ∙ ap (λ z. a.seen ++ z) f.rest_is in
          let mine : Holds L.owner m f.thing = holds_spot L.owner m a.seen f.thing f.behind (subst (λ z. Holds (each L.owner) m z) is (holds_each L m g held)) in
          let n = h ∙ (ap parse f.pair_is ∙ again f.thing f.good mine) in
          let z : ⊥ = cc in
          z

      by : (p : Option Pair) → pair_of (first_above key (entries g.0)) ≡ p → None ≡ option_and_then parse p → got ≡ names_of test name (things g)
      by None e h = over_all got a.seen a.rest a.all a.got_is (none_over L key (entries g.0) a.rest a.leads e)
      by (Some p) e h = absurd (some p e h)

  -- as many were passed as there may be
  pub ahead_over : (key : TreeKey) (got : List N) (passed : ℕ) → Ahead L test name g key got passed → 2 ^ 32 ≤ passed → got ≡ names_of test name (things g)
  ahead_over key got passed a over =
      let few = few_things L m g held in
      let long : length (things g) ≡ length a.seen + length a.rest = ap length a.all ∙ length-append a.seen a.rest in
      over_all got a.seen a.rest a.all a.got_is (nil_from_length a.rest (omega (arith, few, long, over, a.count)))

  -- none passes that lies above a key
  none_above : (k : TreeKey) → ((a : A) → L.Good a → key_cmp k (L.key a) ≡ Less → test a ≡ false) → (es : List Entry) (xs : List A) → LeadToAll L es xs → AllAbove k es → names_of test name xs ≡ []
  none_above k fails [] [] p h = refl
  none_above k fails [] (x ∷ xs) p h = absurd p
  none_above k fails (e ∷ es) [] p h = absurd p
  none_above k fails (e ∷ es) (x ∷ xs) p h =
      ap (λ (b : Bool). map name (if b then x ∷ filter test xs else filter test xs)) (fails x p.0.good (ap (key_cmp k) (sym p.0.key) ∙ h.0))
      ∙ none_above k fails es xs p.1 h.1

  pub ahead_cut : (key : TreeKey) (got : List N) (passed : ℕ) → Ahead L test name g key got passed → ((a : A) → L.Good a → key_cmp key (L.key a) ≡ Less → test a ≡ false) → got ≡ names_of test name (things g)
  ahead_cut key got passed a fails =
      let none = none_above key fails (above key (entries g.0)) a.rest a.leads (above_are key (entries g.0)) in
      a.got_is ∙ (sym (append-nil (names_of test name a.seen)) ∙ (ap (λ z. names_of test name a.seen ++ z) (sym none) ∙ (sym (names_append test name a.seen a.rest) ∙ ap (names_of test name) (sym a.all))))

  -- as many were taken as are asked for
  pub ahead_full : (key : TreeKey) (got : List N) (passed most : ℕ) → Ahead L test name g key got passed → length got ≡ most → got ≡ take most (names_of test name (things g))
  ahead_full key got passed most a full =
      let front : take (length got) (got ++ names_of test name a.rest) ≡ got = take-append_seam got (names_of test name a.rest) in
      sym front
      ∙ (ap (λ n. take n (got ++ names_of test name a.rest)) full
      ∙ ap (take most) (ap (λ z. z ++ names_of test name a.rest) a.got_is ∙ (sym (names_append test name a.seen a.rest) ∙ ap (names_of test name) (sym a.all))))

names_few : {A N : Type 0} (test : A → Bool) (name : A → N) (xs : List A) → length (names_of test name xs) ≤ length xs
names_few test name [] = omega arith
names_few test name (x ∷ xs) = by (test x) (names_few test name xs)
  where
    by : (b : Bool) → length (names_of test name xs) ≤ length xs → length (map name (if b then x ∷ filter test xs else filter test xs)) ≤ suc (length xs)
    by true h = omega (arith, h)
    by false h = omega (arith, h)

-- all that there may be are asked for
pub all_taken : {A N : Type 0} (L : Level A) (test : A → Bool) (name : A → N) (m : Blocks) (g : Hung A) → Holds (hung L) m g → (n : ℕ) → 2 ^ 32 ≤ n → take n (names_of test name (things g)) ≡ names_of test name (things g)
all_taken L test name m g held n many = take_whole n (names_of test name (things g)) (omega (arith, many, names_few test name (things g), few_things L m g held))

-- all were taken, and they are no more than are asked for
pub whole_taken : {N : Type 0} (got all : List N) (most : ℕ) → got ≡ all → length got ≤ most → got ≡ take most all
whole_taken got all most is few = is ∙ sym (take_whole most all (omega (arith, few, ap length is)))

-- one is taken just where one passes
pub some_taken : {A N : Type 0} (test : A → Bool) (name : A → N) (xs : List A) (got : List N) → got ≡ take 1 (names_of test name xs) → not (length got == 0) ≡ list_any test xs
some_taken {A = A} test name xs got h = ap (λ z. not (length z == 0)) h ∙ by xs
  where
    by : (ys : List A) → not (length (take 1 (names_of test name ys)) == 0) ≡ list_any test ys
    by [] = refl
    by (y ∷ ys) = split (test y) (by ys)
      where
        split : (b : Bool) → not (length (take 1 (names_of test name ys)) == 0) ≡ list_any test ys → not (length (take 1 (map name (if b then y ∷ filter test ys else filter test ys))) == 0) ≡ (b || list_any test ys)
        split true r = refl
        split false r = r
