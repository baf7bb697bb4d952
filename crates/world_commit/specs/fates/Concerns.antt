-- Messages that concern an attempt between its leader and its members, and what those that don't leave.
use Rattle.std.specs.Prelude.{ℕ, ◌≡◌, ◌⊎◌, ◌==◌, Bool, true, false, ◌&&◌, ◌||◌, List, ◌++◌, Some, refl}
use Rattle.std.proofs.Common.{sym, ◌∙◌, ap, subst, arith, inl, inr}
use Rattle.base_types.specs.declared.entry.EntryState.TheVariants as state
use Rattle.base_types.specs.declared.epoch.Epoch.{Epoch}
use Rattle.base_types.specs.declared.id.AttemptId.{AttemptId}
use Rattle.model_laws.specs.Members.{Has, has-cases, has-left, has-right}
use Rattle.base_messages.specs.declared.message.Message.{Message, more_of-Message}
use Rattle.base_messages.specs.declared.message.Message.TheVariants as message
use Rattle.daos_model.specs.BoolLaws.{and_left, clash, false_of}
use Rattle.daos_model.specs.Durables.{same_attempt}
use Rattle.world_commit.specs.attempts.Attempts.{count, is_asked_by, is_prepare_to, is_target, leader_of, one_if}
use Rattle.world_commit.specs.attempts.Counting.{count-append, count-none, count-taken, has-left_over}
use Rattle.world_commit.specs.attempts.History.{History}
use Rattle.world_commit.specs.fates.Facts.{answers_for, asks_for, is_between, is_talk, is_try, prepares_in_vain, prepares_it, refuses_for}
use Rattle.world_commit.specs.fates.Frames.{SameMail}
use Rattle.world_base.specs.declared.letter.Letter.{Letter}
use Rattle.world_base.specs.declared.world.World.{World}
use Rattle.world_base.specs.Events.{Rules}
use Rattle.world_base.specs.Letters.{Takes}

-- a leader of some incarnation asks for an attempt
abbrev pub asks_of : AttemptId → Message → Bool
asks_of x (message.Prepare e first ws i) = same_attempt e.attempt x
asks_of x (message.Status a i) = same_attempt a x
asks_of x m = false

-- or is answered, or told that it gets no answer
abbrev pub concerns : AttemptId → Message → Bool
concerns x (message.Ack a i refusal) = same_attempt a x
concerns x (message.StatusIs a i how) = same_attempt a x
concerns x (message.Reset' t down place (more_of-Message q rest)) = asks_of x q
concerns x m = asks_of x m

asking-of : (inc : ℕ) (x : AttemptId) (m : Message) → asks_for inc x m ≡ true → asks_of x m ≡ true
asking-of inc x (message.Prepare e first ws i) is = and_left (same_attempt e.attempt x) (i == inc) is
asking-of inc x (message.Status a i) is = and_left (same_attempt a x) (i == inc) is
asking-of inc x m is = let no : ⊥ = cc in absurd no

of-concerns : (x : AttemptId) (m : Message) → asks_of x m ≡ true → concerns x m ≡ true
of-concerns x (message.Prepare e first ws i) is = is
of-concerns x (message.Status a i) is = is
of-concerns x m is = let no : ⊥ = cc in absurd no

pub asking-concerns : (inc : ℕ) (x : AttemptId) (m : Message) → asks_for inc x m ≡ true → concerns x m ≡ true
asking-concerns inc x m is = of-concerns x m (asking-of inc x m is)

pub answering-concerns : (inc : ℕ) (x : AttemptId) (m : Message) → answers_for inc x m ≡ true → concerns x m ≡ true
answering-concerns inc x (message.Ack a i refusal) is = and_left (same_attempt a x) (i == inc) is
answering-concerns inc x (message.StatusIs a i how) is = and_left (same_attempt a x) (i == inc) is
answering-concerns inc x (message.Reset' t down place (more_of-Message q rest)) is = asking-of inc x q is
answering-concerns inc x m is = let no : ⊥ = cc in absurd no

preparing-of : (x : AttemptId) (m : Message) → prepares_it x m ≡ true → asks_of x m ≡ true
preparing-of x (message.Prepare e first ws i) is = is
preparing-of x m is = let no : ⊥ = cc in absurd no

preparing-concerns : (x : AttemptId) (m : Message) → prepares_it x m ≡ true → concerns x m ≡ true
preparing-concerns x m is = of-concerns x m (preparing-of x m is)

vain-concerns : (x : AttemptId) (m : Message) → prepares_in_vain x m ≡ true → concerns x m ≡ true
vain-concerns x (message.Reset' t down place (more_of-Message q rest)) is = preparing-of x q is
vain-concerns x m is = let no : ⊥ = cc in absurd no

pub refusing-concerns : (inc : ℕ) (x : AttemptId) (m : Message) → refuses_for inc x m ≡ true → concerns x m ≡ true
refusing-concerns inc x (message.Ack a i (Some how)) is = and_left (same_attempt a x) (i == inc) is
refusing-concerns inc x (message.StatusIs a i state.Absent) is = and_left (same_attempt a x) (i == inc) is
refusing-concerns inc x m is = let no : ⊥ = cc in absurd no

-- a letter that is counted asks or answers
pub between-some : (asks answers : Message → Bool) (leader m : ℕ) (l : Letter) → is_between asks answers leader m l ≡ true → (asks l.message ≡ true) ⊎ (answers l.message ≡ true)
unfolding is_between
between-some asks answers leader m l is = by (is_target m l.to) (asks l.message) (is_target leader l.to) (is_target m l.from) (answers l.message) is
  where
    by : (a p b c q : Bool) → (a && p || b && (c && q)) ≡ true → (p ≡ true) ⊎ (q ≡ true)
    by a true b c q is = inl refl
    by a false b c true is = inr refl
    by a false true true false is = inl (by-none a is)
      where
        by-none : (a : Bool) → (a && false || false) ≡ true → false ≡ true
        by-none true e = e
        by-none false e = e
    by true false true false false is = inl is
    by false false true false false is = inl is
    by true false false c false is = inl is
    by false false false c false is = inl is

pub talk-concerns : (r : Rules) (inc : ℕ) (x : AttemptId) (m : ℕ) (l : Letter) → is_talk r inc x m l ≡ true → concerns x l.message ≡ true
talk-concerns r inc x m l is = elim (between-some (asks_for inc x) (answers_for inc x) (leader_of r x) m l is) [ inl a ↦ asking-concerns inc x l.message a | inr a ↦ answering-concerns inc x l.message a ]

pub try-concerns : (r : Rules) (x : AttemptId) (m : ℕ) (l : Letter) → is_try r x m l ≡ true → concerns x l.message ≡ true
try-concerns r x m l is = elim (between-some (prepares_it x) (prepares_in_vain x) (leader_of r x) m l is) [ inl a ↦ preparing-concerns x l.message a | inr a ↦ vain-concerns x l.message a ]

pub prepare-concerns : (x : AttemptId) (m : ℕ) (l : Letter) → is_prepare_to x m l ≡ true → concerns x l.message ≡ true
unfolding is_prepare_to
prepare-concerns x m l is = by l.message is
  where
    by : (n : Message) → is_asked_by x m l.to n ≡ true → concerns x n ≡ true
    by (message.Prepare e first ws i) is = and_left (same_attempt e.attempt x) (is_target m l.to) is
    by n is = let no : ⊥ = cc in absurd no

-- ---- what concerns no attempt

abbrev pub IsDull : Message → Type 0
IsDull m = (x : AttemptId) → concerns x m ≡ false

abbrev pub AreDull : List Letter → Type 0
AreDull ls = (l : Letter) → Has l ls → IsDull l.message

-- by kind
abbrev pub is_dull : Message → Bool
is_dull (message.Prepare e first ws inc) = false
is_dull (message.Ack x inc refusal) = false
is_dull (message.Status x inc) = false
is_dull (message.StatusIs x inc how) = false
is_dull (message.Reset' t down place more) = false
is_dull m = true

pub kind-dull : (m : Message) → is_dull m ≡ true → IsDull m
kind-dull (message.Prepare e first ws inc) is x = let no : ⊥ = cc in absurd no
kind-dull (message.Ack y inc refusal) is x = let no : ⊥ = cc in absurd no
kind-dull (message.Status y inc) is x = let no : ⊥ = cc in absurd no
kind-dull (message.StatusIs y inc how) is x = let no : ⊥ = cc in absurd no
kind-dull (message.Reset' t down place more) is x = let no : ⊥ = cc in absurd no
kind-dull m is x = refl

-- letters that don't concern an attempt
abbrev pub Spare : AttemptId → List Letter → Type 0
Spare x ls = (l : Letter) → Has l ls → concerns x l.message ≡ false

module _ (r : Rules) (x : AttemptId) (l : Letter) (off : concerns x l.message ≡ false) where
  pub no-talk : (inc m : ℕ) → is_talk r inc x m l ≡ false
  no-talk inc m = false_of (is_talk r inc x m l) (λ is. clash (concerns x l.message) (talk-concerns r inc x m l is) off)

  pub no-try : (m : ℕ) → is_try r x m l ≡ false
  no-try m = false_of (is_try r x m l) (λ is. clash (concerns x l.message) (try-concerns r x m l is) off)

  pub no-prepare : (m : ℕ) → is_prepare_to x m l ≡ true → ⊥
  no-prepare m is = clash (concerns x l.message) (prepare-concerns x m l is) off

  pub no-refusal : (inc : ℕ) → refuses_for inc x l.message ≡ true → ⊥
  no-refusal inc is = clash (concerns x l.message) (refusing-concerns inc x l.message is) off

-- letters that come and don't concern it leave all as it was
pub mail-sent : (r : Rules) (h : History) (w v : World) (ls : List Letter) (x : AttemptId) → v.messages ≡ w.messages ++ ls → Spare x ls → ((e : Epoch) → Has (x, e) w.issued → Has (x, e) v.issued) → SameMail r h w v x
mail-sent r h w v ls x more dull issued = record {
  issued = issued;
  talks = λ inc m. counts (is_talk r inc x m) (λ l i. no-talk r x l (dull l i) inc m);
  tries = λ m. let same = counts (is_try r x m) (λ l i. no-try r x l (dull l i) m) in omega (arith, same);
  prepares = λ m l i is. elim (has-cases w.messages ls l (subst (Has l) more i)) [ inl before ↦ before | inr new ↦ absurd (no-prepare r x l (dull l new) m is) ];
  refusals = λ inc l i is. elim (has-cases w.messages ls l (subst (Has l) more i)) [ inl before ↦ inl before | inr new ↦ absurd (no-refusal r x l (dull l new) inc is) ];
}
  where
    counts : (p : Letter → Bool) → ((l : Letter) → Has l ls → p l ≡ false) → count p v.messages ≡ count p w.messages
    counts p off = let all = count-append p w.messages ls in let none = count-none p ls off in ap (count p) more ∙ omega (arith, all, none)

-- so does one that is taken
pub mail-taken : (r : Rules) (h : History) (w v : World) (messages rest ls : List Letter) (l : Letter) (x : AttemptId) → Takes messages l rest → w.messages ≡ messages ++ ls → v.messages ≡ rest ++ ls → concerns x l.message ≡ false
    → ((e : Epoch) → Has (x, e) w.issued → Has (x, e) v.issued) → SameMail r h w v x
mail-taken r h w v messages rest ls l x takes before after dull issued = record {
  issued = issued;
  talks = λ inc m. counts (is_talk r inc x m) (no-talk r x l dull inc m);
  tries = λ m. let same = counts (is_try r x m) (no-try r x l dull m) in omega (arith, same);
  prepares = λ m n i is. was n i;
  refusals = λ inc n i is. inl (was n i);
}
  where
    counts : (p : Letter → Bool) → p l ≡ false → count p v.messages ≡ count p w.messages
    counts p is =
        let all = count-append p messages ls in
        let now = count-append p rest ls in
        let taken = count-taken p messages l rest takes in
        let off : one_if (p l) ≡ 0 = ap one_if is in
        ap (count p) after ∙ (let same : count p (rest ++ ls) ≡ count p (messages ++ ls) = omega (arith, all, now, taken, off) in same) ∙ sym (ap (count p) before)

    was : (n : Letter) → Has n v.messages → Has n w.messages
    was n i =
        subst (Has n) (sym before)
        (elim (has-cases rest ls n (subst (Has n) after i)) [ inl j ↦ has-left messages ls n (has-left_over messages l rest n takes j) | inr j ↦ has-right messages ls n j ])
