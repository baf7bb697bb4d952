-- A client's conversation goes on where what goes to some targets is lost, and what they held, and who asked is told.
use Rattle.std.specs.Prelude.{ℕ, ◌≡◌, ◌++◌, ◌&&◌, Bool, true, false, not, List, [], ◌∷◌, filter, map, refl}
use Rattle.std.proofs.Common.{sym, ◌∙◌, ap, subst}
use Rattle.base_messages.specs.declared.message.Post.{Post}
use Rattle.world_base.specs.declared.client.ClientPlan.{ClientPlan}
use Rattle.world_base.specs.declared.client.ClientState.{ClientState}
use Rattle.world_base.specs.declared.letter.Letter.{Letter}
use Rattle.world_base.specs.declared.world.World.{World}
use Rattle.world_base.specs.Letters.{client, letter_of, talk_of, target}
use Rattle.world_base.specs.Stops.{reset_letter}
use Rattle.world_letters.specs.waits.Lists.{filter-no, filter-yes, goes_to, is_held_off, stays_off}
use Rattle.world_letters.specs.waits.Waits.{AnAggregation, AnAsk, ARead, ASnapshot, Held, HoldsIt, IsAsked, IsHeld, IsLost, IsQuestion, IsQuiet, IsReplied, ItsWrites, TalksSo, Waits, asked_of, held_of, holder}

-- what is lost of a client's conversation with the targets that are gone, and what it is told
pub record LosesFor (gone : ℕ → Bool) (down : Bool) (n : ℕ) (w v : World) : Type 0 where
  pub letters : talk_of n v.messages ≡ filter (stays_off gone) (talk_of n w.messages) ++ map (reset_letter down) (filter (goes_to gone) (asked_of n w))
  pub held : held_of n v ≡ filter (is_held_off gone) (held_of n w)
  pub asked : asked_of n v ≡ filter (stays_off gone) (asked_of n w)

one-yes : {T : Type 0} (p : T → Bool) (x : T) → p x ≡ true → filter p (x ∷ []) ≡ x ∷ []
one-yes p x h = filter-yes p x [] h

one-no : {T : Type 0} (p : T → Bool) (x : T) → p x ≡ false → filter p (x ∷ []) ≡ []
one-no p x h = filter-no p x [] h

-- what is held of a question is held by the target that was asked
pub held-there : (q : Post) (x : Held) → HoldsIt q x → q.to ≡ target (holder x)
held-there q x (ARead t ask f e to asked own it) = to
held-there q x (ItsWrites t f to asked) = to
held-there q x (AnAsk t y to asked) = to
held-there q x (ASnapshot t c name k to asked named) = to
held-there q x (AnAggregation t c k to asked named) = to

module _ (gone : ℕ → Bool) (down : Bool) (p : ClientPlan) (n : ℕ) (c : ClientState) where
  -- what is left of these letters, of what is held and of what is without an answer
  abbrev Left : List Letter → List Held → List Letter → Bool → Type 0
  Left letters held asked b = TalksSo p n c (filter (stays_off gone) letters ++ map (reset_letter down) (filter (goes_to gone) asked)) (filter (is_held_off gone) held) (filter (stays_off gone) asked) b

  -- a question was lost
  lost : (q : Post) → IsQuestion p c q → (ls : List Letter) → ls ≡ reset_letter down (letter_of (client n) q) ∷ [] → (hs : List Held) → hs ≡ [] → (as' : List Letter) → as' ≡ [] → TalksSo p n c ls hs as' true
  lost q is ls one hs none as' free = IsReplied q (reset_letter down (letter_of (client n) q)) is (record { from = refl; to = refl; says = IsLost down refl }) one none free

  quiet-left : (letters : List Letter) (held : List Held) (asked : List Letter) → IsQuiet letters held asked → Left letters held asked false
  quiet-left letters held asked k = record {
    no_letters = ap (λ x. filter (stays_off gone) x ++ map (reset_letter down) (filter (goes_to gone) asked)) k.no_letters ∙ ap (λ x. map (reset_letter down) (filter (goes_to gone) x)) k.none_asked;
    none_held = ap (filter (is_held_off gone)) k.none_held;
    none_asked = ap (filter (stays_off gone)) k.none_asked;
  }

  -- letters that stay, and what is told of what was asked
  letters-are : (letters asked ls rs : List Letter) → filter (stays_off gone) letters ≡ ls → filter (goes_to gone) asked ≡ rs → filter (stays_off gone) letters ++ map (reset_letter down) (filter (goes_to gone) asked) ≡ ls ++ map (reset_letter down) rs
  letters-are letters asked ls rs e f = ap (λ x. x ++ map (reset_letter down) (filter (goes_to gone) asked)) e ∙ ap (λ x. ls ++ map (reset_letter down) x) f

  waits-left : (letters : List Letter) (held : List Held) (asked : List Letter) → Waits p n c letters held asked → Left letters held asked true
  waits-left letters held asked (IsAsked q is one none free) = by (goes_to gone l) refl
    where
      l : Letter
      l = letter_of (client n) q

      no-held : filter (is_held_off gone) held ≡ []
      no-held = ap (filter (is_held_off gone)) none

      by : (b : Bool) → goes_to gone l ≡ b → Left letters held asked true
      by true goes =
          lost q is _ (letters-are letters asked [] (l ∷ []) (ap (filter (stays_off gone)) one ∙ one-no (stays_off gone) l (ap not goes)) (ap (filter (goes_to gone)) free ∙ one-yes (goes_to gone) l goes)) _ no-held _
          (ap (filter (stays_off gone)) free ∙ one-no (stays_off gone) l (ap not goes))
      by false stays =
          IsAsked q is (letters-are letters asked (l ∷ []) [] (ap (filter (stays_off gone)) one ∙ one-yes (stays_off gone) l (ap not stays)) (ap (filter (goes_to gone)) free ∙ one-no (goes_to gone) l stays)) no-held
          (ap (filter (stays_off gone)) free ∙ one-yes (stays_off gone) l (ap not stays))
  waits-left letters held asked (IsHeld q x is holds none one free) = by (gone (holder x)) refl
    where
      l : Letter
      l = letter_of (client n) q

      goes-as : goes_to gone l ≡ gone (holder x)
      goes-as = ap (λ a. not a.client && gone a.number) (held-there q x holds)

      by : (b : Bool) → gone (holder x) ≡ b → Left letters held asked true
      by true g =
          lost q is _ (letters-are letters asked [] (l ∷ []) (ap (filter (stays_off gone)) none) (ap (filter (goes_to gone)) free ∙ one-yes (goes_to gone) l (goes-as ∙ g))) _
          (ap (filter (is_held_off gone)) one ∙ one-no (is_held_off gone) x (ap not g)) _ (ap (filter (stays_off gone)) free ∙ one-no (stays_off gone) l (ap not (goes-as ∙ g)))
      by false g =
          IsHeld q x is holds (letters-are letters asked [] [] (ap (filter (stays_off gone)) none) (ap (filter (goes_to gone)) free ∙ one-no (goes_to gone) l (goes-as ∙ g)))
          (ap (filter (is_held_off gone)) one ∙ one-yes (is_held_off gone) x (ap not g)) (ap (filter (stays_off gone)) free ∙ one-yes (stays_off gone) l (ap not (goes-as ∙ g)))
  waits-left letters held asked (IsReplied q l is k one none free) =
      IsReplied q l is k (letters-are letters asked (l ∷ []) [] (ap (filter (stays_off gone)) one ∙ one-yes (stays_off gone) l to-client) (ap (filter (goes_to gone)) free)) (ap (filter (is_held_off gone)) none) (ap (filter (stays_off gone)) free)
    where
      to-client : stays_off gone l ≡ true
      to-client = ap (λ a. not (not a.client && gone a.number)) k.to

  left-so : (letters : List Letter) (held : List Held) (asked : List Letter) (b : Bool) → TalksSo p n c letters held asked b → Left letters held asked b
  left-so letters held asked true k = waits-left letters held asked k
  left-so letters held asked false k = quiet-left letters held asked k

-- so it goes on
pub talks-on : (gone : ℕ → Bool) (down : Bool) (p : ClientPlan) (n : ℕ) (c : ClientState) (w v : World) (b : Bool) → LosesFor gone down n w v → TalksSo p n c (talk_of n w.messages) (held_of n w) (asked_of n w) b
    → TalksSo p n c (talk_of n v.messages) (held_of n v) (asked_of n v) b
talks-on gone down p n c w v b k talks =
    subst (λ ls. TalksSo p n c ls (held_of n v) (asked_of n v) b) (sym k.letters)
    (subst (λ hs. TalksSo p n c (filter (stays_off gone) (talk_of n w.messages) ++ map (reset_letter down) (filter (goes_to gone) (asked_of n w))) hs (asked_of n v) b) (sym k.held)
    (subst (λ as'. TalksSo p n c (filter (stays_off gone) (talk_of n w.messages) ++ map (reset_letter down) (filter (goes_to gone) (asked_of n w))) (filter (is_held_off gone) (held_of n w)) as' b) (sym k.asked)
    (left-so gone down p n c (talk_of n w.messages) (held_of n w) (asked_of n w) b talks)))

pub quiet-on : (gone : ℕ → Bool) (down : Bool) (n : ℕ) (w v : World) → LosesFor gone down n w v → IsQuiet (talk_of n w.messages) (held_of n w) (asked_of n w) → IsQuiet (talk_of n v.messages) (held_of n v) (asked_of n v)
quiet-on gone down n w v k q = record {
  no_letters = k.letters ∙ ap (λ x. filter (stays_off gone) x ++ map (reset_letter down) (filter (goes_to gone) (asked_of n w))) q.no_letters ∙ ap (λ x. map (reset_letter down) (filter (goes_to gone) x)) q.none_asked;
  none_held = k.held ∙ ap (filter (is_held_off gone)) q.none_held;
  none_asked = k.asked ∙ ap (filter (stays_off gone)) q.none_asked;
}
