-- Tests of targets and entries: entry by entry, or target by target.
use Rattle.std.proofs.Common.{◌≡◌, ℕ, ◌<◌, ◌⊎◌, Bool, true, false, ◌&&◌, ◌||◌, not, List, [], ◌∷◌, ◌++◌, filter, map, refl, sym, ◌∙◌, ap, inl, inr, subst, arith}
use Rattle.std.specs.Prelude.{◌==◌, ◌^◌, bit_or, if◌then◌else◌, max, nat_lt}
use Rattle.std.specs.Int.{bit_at}
use Rattle.std.proofs.lemmas.Nat.Bits.{bit_at_or, bit_at-lt, bit_at-zero}
use Rattle.std.specs.List.{list_any}
use Rattle.std.proofs.lemmas.Bool.Decides.{nat_tests}
use Rattle.base_types.specs.declared.entry.Entry.{Entry}
use Rattle.daos_model.specs.BoolLaws.{and_left, and_right, clash}
use Rattle.dtx_base.specs.declared.leading.Naming.{Naming}
use Rattle.dtx_base.specs.LeaderLaws.{had_or_is}
use Rattle.dtx_base.specs.Leading.{entry_attempt, is_due_to, is_led, is_named, is_owed, mark_with, marks_for, names_for, naming, owed}
use Rattle.dtx_base.specs.Members.{all_targets, has_target, is_other_member}
use Rattle.dtx_table.specs.Due.{bit_of, is_owed_at, is_owed_somewhere, may_owe, with_members}

pub none-any : {T : Type 0} (p : T → Bool) (xs : List T) → ((x : T) → p x ≡ false) → list_any p xs ≡ false
none-any p [] none = refl
none-any p (x ∷ xs) none = ap (λ b. b || list_any p xs) (none x) ∙ none-any p xs none

same-any : {T : Type 0} (p q : T → Bool) (xs : List T) → ((x : T) → p x ≡ q x) → list_any p xs ≡ list_any q xs
same-any p q [] same = refl
same-any p q (x ∷ xs) same = ap (λ b. b || list_any p xs) (same x) ∙ ap (λ b. q x || b) (same-any p q xs same)

crossed : (a b c d : Bool) → ((a || b) || (c || d)) ≡ ((a || c) || (b || d))
crossed true b c d = refl
crossed false true true d = refl
crossed false true false d = refl
crossed false false c d = refl

any-or : {T : Type 0} (p q : T → Bool) (xs : List T) → list_any (λ x. p x || q x) xs ≡ (list_any p xs || list_any q xs)
any-or p q [] = refl
any-or p q (x ∷ xs) = ap (λ b. (p x || q x) || b) (any-or p q xs) ∙ crossed (p x) (q x) (list_any p xs) (list_any q xs)

both-or : (n a b : Bool) → ((n && a) || (n && b)) ≡ (n && (a || b))
both-or true a b = refl
both-or false a b = refl

never-both : (n : Bool) → (n && false) ≡ false
never-both true = refl
never-both false = refl

swapped : {T U : Type 0} (n : T → Bool) (o : T → U → Bool) (ts : List T) (us : List U) → list_any (λ u. list_any (λ t. n t && o t u) ts) us ≡ list_any (λ t. n t && list_any (o t) us) ts
swapped n o ts [] = sym (none-any (λ t. n t && false) ts (λ t. never-both (n t)))
swapped n o ts (u ∷ us) =
    ap (λ b. list_any (λ t. n t && o t u) ts || b) (swapped n o ts us)
    ∙ sym (any-or (λ t. n t && o t u) (λ t. n t && list_any (o t) us) ts)
    ∙ same-any (λ t. (n t && o t u) || (n t && list_any (o t) us)) (λ t. n t && (o t u || list_any (o t) us)) ts (λ t. both-or (n t) (o t u) (list_any (o t) us))

-- some target is to be told of some commit, whichever is sought first
pub due-somewhere : (down : ℕ) (named : List Naming) (es : List Entry) → list_any (is_owed_somewhere down named) es ≡ list_any (is_due_to down named es) all_targets
unfolding is_owed_somewhere
due-somewhere down named es = swapped (λ t. not (has_target down t)) (λ t e. is_owed t named e) all_targets es

-- a commit that is owed to nobody is so wherever one looks
nowhere : (down : ℕ) (named : List Naming) (e : Entry) → ((t : ℕ) → is_owed t named e ≡ false) → is_owed_somewhere down named e ≡ false
unfolding is_owed_somewhere
nowhere down named e none = none-any (is_owed_at down named e) all_targets (λ t. ap (λ b. not (has_target down t) && b) (none t) ∙ never-both (not (has_target down t)))

-- ---- entries of which no target is to be told

or-none : (set t : ℕ) → has_target (bit_or set 0) t ≡ true → has_target set t ≡ true
unfolding has_target
or-none set t has =
    let bits : bit_at (bit_or set 0) t ≡ max (bit_at set t) (bit_at 0 t) = bit_at_or set 0 t in
    let none : bit_at 0 t ≡ 0 = bit_at-zero t in
    let one : bit_at (bit_or set 0) t ≡ 1 = grind (arith, nat_tests) in
    let own : bit_at set t ≡ 1 = omega arith in
    rw own refl

-- a target that stands in a set with another one's bit is that one, or stands in the set
of-own-bit : (set me t : ℕ) → has_target (bit_or set (bit_of me)) t ≡ true → (t ≡ me) ⊎ (has_target set t ≡ true)
of-own-bit set me t has = by (nat_lt me 64) refl
  where
    by : (b : Bool) → nat_lt me 64 ≡ b → (t ≡ me) ⊎ (has_target set t ≡ true)
    by true low = had_or_is set me t (subst (λ (b : Bool). has_target (bit_or set (if b then 2 ^ me else 0)) t ≡ true) low has)
    by false high = inr (or-none set t (subst (λ (b : Bool). has_target (bit_or set (if b then 2 ^ me else 0)) t ≡ true) high has))

not-true : (b : Bool) → not b ≡ true → b ≡ false
not-true true h = let no : ⊥ = cc in absurd no
not-true false h = refl

-- where the members are a leader and those that have confirmed, all others have
others-confirmed : (e : Entry) → e.members ≡ bit_or e.confirmed (bit_of e.leader) → (t : ℕ) → is_other_member e t ≡ true → has_target e.confirmed t ≡ true
unfolding is_other_member
others-confirmed e same t other = elim (of-own-bit e.confirmed e.leader t (subst (λ m. has_target m t ≡ true) same (and_left (has_target e.members t) (not (t == e.leader)) other))) [
  | inl leads ↦ absurd (clash (t == e.leader) (grind (arith, nat_tests)) (not-true (t == e.leader) (and_right (has_target e.members t) (not (t == e.leader)) other)))
  | inr told ↦ told
]

all-three : (a b c : Bool) → a ≡ true → b ≡ true → c ≡ true → (a && b && c) ≡ true
all-three true true true one two three = refl
all-three true true false one two three = three
all-three true false c one two three = two
all-three false b c one two three = one

-- a commit of which a leader needs to tell nobody is owed to nobody
owes-none : (me : ℕ) (named : List Naming) (e : Entry) → is_led me e ≡ true → may_owe me e ≡ false → (t : ℕ) → is_owed t named e ≡ false
unfolding may_owe is_owed
owes-none me named e led none t = by (e.members == bit_or e.confirmed (bit_of me)) e.committed refl refl
  where
    of-others : e.members ≡ bit_or e.confirmed (bit_of me) → (c o f : Bool) → is_other_member e t ≡ o → has_target e.confirmed t ≡ f → (c && o && not f && not (is_named t e.attempt named)) ≡ false
    of-others same false o f other told = refl
    of-others same true false f other told = refl
    of-others same true true true other told = refl
    of-others same true true false other told =
        let leads : e.leader ≡ me = grind (arith, nat_tests) in
        absurd (clash (has_target e.confirmed t) (others-confirmed e (subst (λ m. e.members ≡ bit_or e.confirmed (bit_of m)) (sym leads) same) t other) told)

    by : (s c : Bool) → (e.members == bit_or e.confirmed (bit_of me)) ≡ s → e.committed ≡ c → (e.committed && is_other_member e t && not (has_target e.confirmed t) && not (is_named t e.attempt named)) ≡ false
    by true c same committed = of-others (grind (arith, nat_tests)) e.committed (is_other_member e t) (has_target e.confirmed t) refl refl
    by false false apart committed = ap (λ b. b && is_other_member e t && not (has_target e.confirmed t) && not (is_named t e.attempt named)) committed
    by false true apart committed = absurd (clash (may_owe me e) (all-three (not (e.members == bit_or e.confirmed (bit_of me))) (is_led me e) e.committed (ap not apart) led committed) none)

may_owe-led : (me : ℕ) (e : Entry) → may_owe me e ≡ true → is_led me e ≡ true
unfolding may_owe
may_owe-led me e may = and_right (not (e.members == bit_or e.confirmed (bit_of me))) (is_led me e) (and_left (not (e.members == bit_or e.confirmed (bit_of me)) && is_led me e) e.committed may)

-- ---- the entries of which others may have to be told stand for all those that are led

pub same-owed : (me t : ℕ) (named : List Naming) (es : List Entry) → filter (is_owed t named) (filter (may_owe me) es) ≡ filter (is_owed t named) (filter (is_led me) es)
same-owed me t named [] = refl
same-owed me t named (e ∷ es) = by (may_owe me e) (is_led me e) refl refl (same-owed me t named es)
  where
    rest : List Entry
    rest = filter (is_owed t named) (filter (is_led me) es)

    by : (m l : Bool) → may_owe me e ≡ m → is_led me e ≡ l → filter (is_owed t named) (filter (may_owe me) es) ≡ rest
        → filter (is_owed t named) (if m then e ∷ filter (may_owe me) es else filter (may_owe me) es) ≡ filter (is_owed t named) (if l then e ∷ filter (is_led me) es else filter (is_led me) es)
    by true true may led same = ap (λ r. if is_owed t named e then e ∷ r else r) same
    by true false may led same = absurd (clash (is_led me e) (may_owe-led me e may) led)
    by false true may led same = same ∙ sym (ap (λ (b : Bool). if b then e ∷ rest else rest) (owes-none me named e led may t))
    by false false may led same = same

pub owed-same : (me down t : ℕ) (named : List Naming) (es : List Entry) → owed down named (filter (may_owe me) es) t ≡ owed down named (filter (is_led me) es) t
unfolding owed
owed-same me down t named es = ap (λ r. if has_target down t then [] else map entry_attempt r) (same-owed me t named es)

pub marks_same : (me inc down : ℕ) (named : List Naming) (es : List Entry) (ts : List ℕ) → marks_for inc down named (filter (may_owe me) es) ts ≡ marks_for inc down named (filter (is_led me) es) ts
marks_same me inc down named es [] = refl
marks_same me inc down named es (t ∷ ts) =
    ap (λ ids. mark_with inc t ids ++ marks_for inc down named (filter (may_owe me) es) ts) (owed-same me down t named es)
    ∙ ap (λ ps. mark_with inc t (owed down named (filter (is_led me) es) t) ++ ps) (marks_same me inc down named es ts)

pub names_same : (me inc down : ℕ) (named : List Naming) (es : List Entry) (ts : List ℕ) → names_for inc down named (filter (may_owe me) es) ts ≡ names_for inc down named (filter (is_led me) es) ts
names_same me inc down named es [] = refl
names_same me inc down named es (t ∷ ts) =
    ap (λ ids. map (naming t inc) ids ++ names_for inc down named (filter (may_owe me) es) ts) (owed-same me down t named es)
    ∙ ap (λ ns. map (naming t inc) (owed down named (filter (is_led me) es) t) ++ ns) (names_same me inc down named es ts)

pub somewhere-same : (me down : ℕ) (named : List Naming) (es : List Entry) → list_any (is_owed_somewhere down named) (filter (may_owe me) es) ≡ list_any (is_owed_somewhere down named) (filter (is_led me) es)
somewhere-same me down named [] = refl
somewhere-same me down named (e ∷ es) = by (may_owe me e) (is_led me e) refl refl (somewhere-same me down named es)
  where
    rest : Bool
    rest = list_any (is_owed_somewhere down named) (filter (is_led me) es)

    by : (m l : Bool) → may_owe me e ≡ m → is_led me e ≡ l → list_any (is_owed_somewhere down named) (filter (may_owe me) es) ≡ rest
        → list_any (is_owed_somewhere down named) (if m then e ∷ filter (may_owe me) es else filter (may_owe me) es) ≡ list_any (is_owed_somewhere down named) (if l then e ∷ filter (is_led me) es else filter (is_led me) es)
    by true true may led same = ap (λ b. is_owed_somewhere down named e || b) same
    by true false may led same = absurd (clash (is_led me e) (may_owe-led me e may) led)
    by false true may led same = same ∙ sym (ap (λ b. b || rest) (nowhere down named e (owes-none me named e led may)))
    by false false may led same = same

-- ---- only members are to be told

or-lacks : (a b t : ℕ) → has_target (bit_or a b) t ≡ false → (has_target a t ≡ false) × (has_target b t ≡ false)
unfolding has_target
or-lacks a b t none =
    let bits : bit_at (bit_or a b) t ≡ max (bit_at a t) (bit_at b t) = bit_at_or a b t in
    let one : bit_at a t < 2 = bit_at-lt a t in
    let other : bit_at b t < 2 = bit_at-lt b t in
    let apart : bit_at (bit_or a b) t ≡ 0 = grind (arith, nat_tests) in
    (grind (arith, nat_tests), grind (arith, nat_tests))

lacks-owed : (t : ℕ) (named : List Naming) (e : Entry) → has_target e.members t ≡ false → is_owed t named e ≡ false
unfolding is_owed is_other_member
lacks-owed t named e none = by e.committed
  where
    by : (c : Bool) → (c && (has_target e.members t && not (t == e.leader)) && not (has_target e.confirmed t) && not (is_named t e.attempt named)) ≡ false
    by true = rw none refl
    by false = refl

others-owed : (t set : ℕ) (named : List Naming) (es : List Entry) → has_target (with_members set es) t ≡ false → (has_target set t ≡ false) × (filter (is_owed t named) es ≡ [])
others-owed t set named [] none = (none, refl)
others-owed t set named (e ∷ es) none =
    let more = others-owed t (bit_or set e.members) named es none in
    let both = or-lacks set e.members t more.0 in
    (both.0, ap (λ (b : Bool). if b then e ∷ filter (is_owed t named) es else filter (is_owed t named) es) (lacks-owed t named e both.1) ∙ more.1)

-- a target that is no member of any of these is to be told of none
pub none-owed : (down t : ℕ) (named : List Naming) (es : List Entry) → has_target (with_members 0 es) t ≡ false → owed down named es t ≡ []
unfolding owed
none-owed down t named es none = by (has_target down t) (others-owed t 0 named es none).1
  where
    by : (d : Bool) → filter (is_owed t named) es ≡ [] → (if d then [] else map entry_attempt (filter (is_owed t named) es)) ≡ []
    by true owes = refl
    by false owes = ap (map entry_attempt) owes
