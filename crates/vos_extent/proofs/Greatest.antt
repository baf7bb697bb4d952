-- The greatest of extents, and what an index holds by it.
use Rattle.std.proofs.Common.{◌≡◌, ℕ, ◌&&◌, Bool, true, false, List, [], ◌∷◌, ◌++◌, Option, Some, None, refl, sym, ap, ◌∙◌, arith}
use Rattle.std.specs.Prelude.{if◌then◌else◌, not}
use Rattle.std.specs.List.{list_any}
use Rattle.std.specs.Option.{option_map}
use Rattle.std.proofs.lemmas.Bool.Decides.{nat_tests}
use Rattle.vos_values.specs.declared.keys.Moment.{Moment}
use Rattle.vos_moments.specs.vos_levels.Moments.{is_earlier}
use Rattle.vos_moments.proofs.vos_levels.Spots.{first_false, then_false}
use Rattle.vos_extent.specs.declared.extent.ExtentVersion.{ExtentVersion}
use Rattle.vos_extent.specs.Shown.{covers, greatest, greatest_with, if_passes, is_hidden, is_seen, later_of, moment_of, record_at, record_in, shown_of, shows}
use Rattle.vos_extent.specs.Cells.{dated_with, painted}
use Rattle.vos_extent.specs.Looks.{view}

pub later_none : (b : Option ExtentVersion) → later_of b None ≡ b
later_none None = refl
later_none (Some a) = refl

pub passes_not : (test : ExtentVersion → Bool) (v : ExtentVersion) → test v ≡ false → if_passes test v ≡ None
passes_not test v h = ap (λ (t : Bool). if t then Some v else None) h

pub greatest_append : (b : Option ExtentVersion) (test : ExtentVersion → Bool) (vs ws : List ExtentVersion) → greatest_with b test (vs ++ ws) ≡ greatest_with (greatest_with b test vs) test ws
greatest_append b test [] ws = refl
greatest_append b test (v ∷ vs) ws = greatest_append (later_of b (if_passes test v)) test vs ws

pub greatest_none : (b : Option ExtentVersion) (test : ExtentVersion → Bool) (vs : List ExtentVersion) → list_any test vs ≡ false → greatest_with b test vs ≡ b
greatest_none b test [] n = refl
greatest_none b test (v ∷ vs) n =
    ap (λ x. greatest_with (later_of b x) test vs) (passes_not test v (first_false (test v) (list_any test vs) n))
    ∙ (ap (λ x. greatest_with x test vs) (later_none b) ∙ greatest_none b test vs (then_false (test v) (list_any test vs) n))

-- ---- the punch

abbrev pub kept : Option Moment → Option ExtentVersion → Option ExtentVersion
kept punched None = None
kept punched (Some v) = if is_hidden punched v then None else Some v

-- which is later, by a test
abbrev later_by : Bool → Option ExtentVersion → Option ExtentVersion → Option ExtentVersion
later_by e None y = y
later_by e (Some a) None = Some a
later_by e (Some a) (Some b) = if e then Some a else Some b

by_moments : (x y : Option ExtentVersion) (a b : ExtentVersion) (s t : Bool) → x ≡ (if s then None else Some a) → y ≡ (if t then None else Some b) → later_of (if s then None else Some a) (if t then None else Some b) ≡ later_by (is_earlier (moment_of b) (moment_of a)) (if s then None else Some a) (if t then None else Some b)
by_moments x y a b true true e f = refl
by_moments x y a b true false e f = refl
by_moments x y a b false true e f = refl
by_moments x y a b false false e f = refl

kept_pick : (punched : Option Moment) (a b : ExtentVersion) (e : Bool) → kept punched (if e then Some a else Some b) ≡ (if (if e then is_hidden punched a else is_hidden punched b) then None else (if e then Some a else Some b))
kept_pick punched a b true = refl
kept_pick punched a b false = refl

picks : (a b : ExtentVersion) (e s t : Bool) → (e ≡ true → s ≡ true → t ≡ true) → (e ≡ false → t ≡ true → s ≡ true)
    → (if (if e then s else t) then None else (if e then Some a else Some b)) ≡ later_by e (if s then None else Some a) (if t then None else Some b)
picks a b true true true h k = refl
picks a b true true false h k = absurd (let n = h refl refl in let z : ⊥ = cc in z)
picks a b true false true h k = refl
picks a b true false false h k = refl
picks a b false true true h k = refl
picks a b false true false h k = refl
picks a b false false true h k = absurd (let n = k refl refl in let z : ⊥ = cc in z)
picks a b false false false h k = refl

down : (x y p : Moment) → is_earlier y x ≡ true → is_earlier x p ≡ true → is_earlier y p ≡ true
down x y p h k = grind (arith, nat_tests)

up : (x y p : Moment) → is_earlier y x ≡ false → is_earlier y p ≡ true → is_earlier x p ≡ true
up x y p h k = grind (arith, nat_tests)

hidden_down : (punched : Option Moment) (a b : ExtentVersion) → is_earlier (moment_of b) (moment_of a) ≡ true → is_hidden punched a ≡ true → is_hidden punched b ≡ true
hidden_down None a b h k = absurd (let n : ⊥ = cc in n)
hidden_down (Some p) a b h k = down (moment_of a) (moment_of b) p h k

hidden_up : (punched : Option Moment) (a b : ExtentVersion) → is_earlier (moment_of b) (moment_of a) ≡ false → is_hidden punched b ≡ true → is_hidden punched a ≡ true
hidden_up None a b h k = absurd (let n : ⊥ = cc in n)
hidden_up (Some p) a b h k = up (moment_of a) (moment_of b) p h k

kept_both : (punched : Option Moment) (a b : ExtentVersion) → kept punched (later_of (Some a) (Some b)) ≡ later_of (kept punched (Some a)) (kept punched (Some b))
kept_both punched a b =
    let e = is_earlier (moment_of b) (moment_of a) in
    kept_pick punched a b e
    ∙ (picks a b e (is_hidden punched a) (is_hidden punched b) (hidden_down punched a b) (hidden_up punched a b)
    ∙ sym (by_moments _ _ a b (is_hidden punched a) (is_hidden punched b) refl refl))

kept_later : (punched : Option Moment) (x y : Option ExtentVersion) → kept punched (later_of x y) ≡ later_of (kept punched x) (kept punched y)
kept_later punched None y = refl
kept_later punched (Some a) None = sym (later_none (kept punched (Some a)))
kept_later punched (Some a) (Some b) = kept_both punched a b

kept_passes : (punched : Option Moment) (test : ExtentVersion → Bool) (v : ExtentVersion) → kept punched (if_passes test v) ≡ if_passes (λ x. test x && not (is_hidden punched x)) v
kept_passes punched test v = by (test v) (is_hidden punched v) refl
  where
    by : (s t : Bool) → is_hidden punched v ≡ t → kept punched (if s then Some v else None) ≡ (if (s && not t) then Some v else None)
    by false t e = refl
    by true true e = ap (λ (z : Bool). if z then None else Some v) e
    by true false e = ap (λ (z : Bool). if z then None else Some v) e

pub kept_greatest : (punched : Option Moment) (test : ExtentVersion → Bool) (b : Option ExtentVersion) (vs : List ExtentVersion) → kept punched (greatest_with b test vs) ≡ greatest_with (kept punched b) (λ x. test x && not (is_hidden punched x)) vs
kept_greatest punched test b [] = refl
kept_greatest punched test b (v ∷ vs) =
    kept_greatest punched test (later_of b (if_passes test v)) vs
    ∙ ap (λ x. greatest_with x (λ y. test y && not (is_hidden punched y)) vs) (kept_later punched b (if_passes test v) ∙ ap (later_of (kept punched b)) (kept_passes punched test v))

shown_kept : (unit i : ℕ) (punched : Option Moment) (x : Option ExtentVersion) → shown_of unit punched i x ≡ option_map (record_in unit i) (kept punched x)
shown_kept unit i punched None = refl
shown_kept unit i punched (Some v) = by (is_hidden punched v)
  where
    by : (t : Bool) → (if t then None else Some (record_in unit i v)) ≡ option_map (record_in unit i) (if t then None else Some v)
    by true = refl
    by false = refl

-- what an index holds, by the greatest that shows there
pub record_is : (unit : ℕ) (start : Moment) (punched : Option Moment) (i : ℕ) (vs : List ExtentVersion) → record_at unit start punched i vs ≡ option_map (record_in unit i) (greatest (shows unit start punched i) vs)
record_is unit start punched i vs = shown_kept unit i punched (greatest (is_seen unit start i) vs) ∙ ap (option_map (record_in unit i)) (kept_greatest punched (is_seen unit start i) None vs)

-- ---- what is painted

view_later : (unit i : ℕ) (b : Option ExtentVersion) (v : ExtentVersion) → dated_with (view unit i b) (moment_of v, record_in unit i v) ≡ view unit i (later_of b (Some v))
view_later unit i None v = refl
view_later unit i (Some a) v = by (is_earlier (moment_of v) (moment_of a))
  where
    by : (t : Bool) → (if t then Some (moment_of a, record_in unit i a) else Some (moment_of v, record_in unit i v)) ≡ view unit i (if t then Some a else Some v)
    by true = refl
    by false = refl

-- an extent that is looked for
pub painted_seen : (unit : ℕ) (start : Moment) (punched : Option Moment) (i : ℕ) (b : Option ExtentVersion) (v : ExtentVersion) → is_earlier (moment_of v) start ≡ true → is_hidden punched v ≡ false → painted unit i v.low (moment_of v) v.bytes (view unit i b) ≡ view unit i (later_of b (if_passes (shows unit start punched i) v))
painted_seen unit start punched i b v seen open_ = by (covers unit i v) (is_earlier (moment_of v) start) (is_hidden punched v) seen open_
  where
    by : (s t h : Bool) → t ≡ true → h ≡ false → (if s then dated_with (view unit i b) (moment_of v, record_in unit i v) else view unit i b) ≡ view unit i (later_of b (if ((s && t) && not h) then Some v else None))
    by s false h e f = absurd (let n : ⊥ = cc in n)
    by s true true e f = absurd (let n : ⊥ = cc in n)
    by true true false e f = view_later unit i b v
    by false true false e f = ap (view unit i) (sym (later_none b))

-- one that isn't
pub shows_not_seen : (unit : ℕ) (start : Moment) (punched : Option Moment) (i : ℕ) (v : ExtentVersion) → is_earlier (moment_of v) start ≡ false → shows unit start punched i v ≡ false
shows_not_seen unit start punched i v h = by (covers unit i v) (is_earlier (moment_of v) start) (is_hidden punched v) h
  where
    by : (s t k : Bool) → t ≡ false → ((s && t) && not k) ≡ false
    by true true k e = absurd (let n : ⊥ = cc in n)
    by true false k e = refl
    by false t k e = refl

pub shows_not_hidden : (unit : ℕ) (start : Moment) (punched : Option Moment) (i : ℕ) (v : ExtentVersion) → is_hidden punched v ≡ true → shows unit start punched i v ≡ false
shows_not_hidden unit start punched i v h = by (covers unit i v) (is_earlier (moment_of v) start) (is_hidden punched v) h
  where
    by : (s t k : Bool) → k ≡ true → ((s && t) && not k) ≡ false
    by s t false e = absurd (let n : ⊥ = cc in n)
    by true true true e = refl
    by true false true e = refl
    by false t true e = refl

pub shows_not_covers : (unit : ℕ) (start : Moment) (punched : Option Moment) (i : ℕ) (v : ExtentVersion) → covers unit i v ≡ false → shows unit start punched i v ≡ false
shows_not_covers unit start punched i v h = by (covers unit i v) (is_earlier (moment_of v) start) (is_hidden punched v) h
  where
    by : (s t k : Bool) → s ≡ false → ((s && t) && not k) ≡ false
    by true t k e = absurd (let n : ⊥ = cc in n)
    by false t k e = refl

pub view_same : (unit i : ℕ) (b : Option ExtentVersion) (test : ExtentVersion → Bool) (v : ExtentVersion) → test v ≡ false → view unit i b ≡ view unit i (later_of b (if_passes test v))
view_same unit i b test v h = ap (view unit i) (sym (later_none b) ∙ ap (later_of b) (sym (passes_not test v h)))
