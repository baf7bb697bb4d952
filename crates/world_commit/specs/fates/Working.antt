-- A target in the middle of a turn keeps the facts of attempts.
use Rattle.std.specs.Prelude.{ℕ, ◌≡◌, Bool, true, false, List, [], ◌∷◌, ◌++◌, slice_get, Option, Some, refl}
use Rattle.std.proofs.Common.{append-nil, sym, ◌∙◌, ap, subst, arith, inl, inr}
use Rattle.std.proofs.Math.ListN.{set}
use Rattle.base_types.specs.declared.epoch.Epoch.{Epoch}
use Rattle.base_types.specs.declared.id.AttemptId.{AttemptId}
use Rattle.base_types.specs.declared.outcome.Outcome.{Outcome}
use Rattle.model_laws.specs.Members.{Has, has-cases, has-from_map, has-left, has-right}
use Rattle.base_messages.specs.declared.actor.ActorId.{ActorId}
use Rattle.base_messages.specs.declared.message.Message.{Message}
use Rattle.base_messages.specs.declared.message.Message.TheVariants as message
use Rattle.base_messages.specs.declared.message.Post.{Post}
use Rattle.world_commit.specs.attempts.Attempts.{IsBorn, count, entry_in, inc_in, is_known_in, leader_of, row_in}
use Rattle.world_commit.specs.attempts.Counting.{has-left_over}
use Rattle.world_commit.specs.attempts.Frames.{SameFate, same-itself}
use Rattle.world_commit.specs.attempts.History.{GrowsBy, History, Tells}
use Rattle.world_commit.specs.attempts.Turning.{at_work}
use Rattle.world_commit.specs.fates.Concerns.{AreDull, IsDull, is_dull, kind-dull, mail-sent, mail-taken}
use Rattle.world_commit.specs.fates.Facts.{IsSaidSo, Ongoing, down_in, is_talk, is_try}
use Rattle.world_commit.specs.fates.Frames.{AskedComes, Grows, LettersCome, SameLives, SameMail, asked-still, letters-on, said-on, untouched}
use Rattle.world_commit.specs.fates.Small.{Midway}
use Rattle.world_base.specs.declared.letter.Letter.{Letter}
use Rattle.world_base.specs.declared.target.Life.TheVariants.{Running}
use Rattle.world_base.specs.declared.target.TargetState.{TargetState}
use Rattle.world_base.specs.declared.world.World.{World}
use Rattle.world_base.specs.Events.{Rules}
use Rattle.world_commit.specs.fates.Asking.{asked-comes}
use Rattle.world_base.specs.Letters.{Takes, asked_after, letter_of, letters_of, target}
use Rattle.world_base.specs.StepLaws.{set-here, set-same, set-twice}
use Rattle.std.proofs.lemmas.List.{append_assoc}

-- nothing is done yet
pub work-begins : (r : Rules) (h : History) (w : World) (t : ℕ) (s : TargetState) → slice_get w.targets t ≡ Some s → Ongoing r h w → Ongoing r h (at_work w t s [])
work-begins r h w t s here k = rw (set-same w.targets t s here, append-nil w.messages) k

-- what a step leaves of a target that runs
pub record Step (z1 z2 : TargetState) : Type 0 where
  pub incarnation : z2.durable.incarnation ≡ z1.durable.incarnation
  pub runs : z1.life ≡ Running
  pub life : z2.life ≡ z1.life
  pub down : z2.memory.leader.down ≡ z1.memory.leader.down

-- one step more
pub work-mid : (w : World) (t : ℕ) (s z1 z2 : TargetState) (posts : List Post) → slice_get w.targets t ≡ Some s → Step z1 z2 → Midway (at_work w t z1 posts) (at_work w t z2 posts) t z1 z2
work-mid w t s z1 z2 posts here step = record {
  works = record {
    turn = record { here = set-here w.targets t s z1 here; targets = sym (set-twice w.targets t z1 z2); incarnation = step.incarnation; issued = λ x e i. i };
    runs = step.runs;
    life = step.life;
    down = step.down;
  };
  messages = refl;
  asked = refl;
}

-- ---- no target changes

module _ (r : Rules) (h later : History) (w v : World) (targets : v.targets ≡ w.targets) (issued : (x : AttemptId) (e : Epoch) → Has (x, e) w.issued → Has (x, e) v.issued) (fate : (x : AttemptId) → SameFate h later x) where
  born-on : (x : AttemptId) → IsBorn r h w x → IsBorn r later v x
  born-on x (inl k) = inl (record { entry = k.entry; found = ap (λ ts. entry_in (slice_get ts (leader_of r x)) x) targets ∙ k.found })
  born-on x (inr a) = inr ((fate x).aborted a)

  pub grows-there : Grows r h later w v
  grows-there = record {
    decided = λ x. (fate x).decided;
    aborted = λ x. (fate x).aborted;
    issued = issued;
    incarnation = λ t. let same : inc_in (slice_get v.targets t) ≡ inc_in (slice_get w.targets t) = ap (λ ts. inc_in (slice_get ts t)) targets in omega (arith, same);
    born = born-on;
    held = λ m x o i. inl (record { entry = i.entry; found = ap (λ ts. entry_in (slice_get ts m) x) targets ∙ i.found });
    settled = λ m x o i. inl (record { entry = i.entry; found = ap (λ ts. entry_in (slice_get ts m) x) targets ∙ i.found; committed = i.committed });
  }

  lives-there : SameLives w v
  lives-there = record {
    runs = λ t runs s at. runs s (ap (λ ts. slice_get ts t) targets ∙ at);
    incarnation = λ t. ap (λ ts. inc_in (slice_get ts t)) targets;
    down = λ t m. ap (λ ts. down_in (slice_get ts t) m) targets;
  }

  pub attempts-there : ((x : AttemptId) → SameMail r h w v x) → LettersCome r later w v → AskedComes w v → Ongoing r h w → Ongoing r later v
  attempts-there mail come asked k = record {
    each = λ x. untouched r h later w v x (record {
      fate = fate x;
      entry = λ t. ap (λ ts. entry_in (slice_get ts t) x) targets;
      row = λ t. ap (λ ts. row_in (slice_get ts t) x) targets;
      known = λ t. ap (λ ts. is_known_in (slice_get ts t) x) targets;
      mail = mail x;
      lives = lives-there;
    }) (k.each x);
    letters = letters-on r h later w v grows-there come k;
    asked = asked-still r h later w v grows-there come k asked;
    ordered = λ t s at. k.ordered t s (sym (ap (λ ts. slice_get ts t) targets) ∙ at);
    quiet = λ t s at. k.quiet t s (sym (ap (λ ts. slice_get ts t) targets) ∙ at);
  }

-- ---- what a target sends

-- messages of a target that say what is so
abbrev pub PostsSo : Rules → History → World → ℕ → List Post → Type 0
PostsSo r h w t posts = (p : Post) → Has p posts → IsSaidSo r h w (target t) p.to p.message

-- messages that concern no attempt between targets, and tell nobody that one ended
abbrev pub is_mild : Message → Bool
is_mild (message.Prepare e first ws inc) = false
is_mild (message.Ack x inc refusal) = false
is_mild (message.Status x inc) = false
is_mild (message.StatusIs x inc how) = false
is_mild (message.Reset' t down place more) = false
is_mild (message.Ended x own how) = false
is_mild m = true

-- and answer nothing that a target asked another
abbrev pub is_plain : Message → Bool
is_plain (message.Marked inc ids) = false
is_plain (message.Verdict x ask inc v) = false
is_plain (message.Held x refusal) = false
is_plain m = is_mild m

abbrev pub ArePlain : List Post → Type 0
ArePlain posts = (p : Post) → Has p posts → is_plain p.message ≡ true

pub plain-mild : (m : Message) → is_plain m ≡ true → is_mild m ≡ true
plain-mild (message.Marked inc ids) is = let no : ⊥ = cc in absurd no
plain-mild (message.Verdict x ask inc v) is = let no : ⊥ = cc in absurd no
plain-mild (message.Held x refusal) is = let no : ⊥ = cc in absurd no
plain-mild m is = is

mild-kind : (m : Message) → is_mild m ≡ true → is_dull m ≡ true
mild-kind (message.Prepare e first ws inc) is = let no : ⊥ = cc in absurd no
mild-kind (message.Ack x inc refusal) is = let no : ⊥ = cc in absurd no
mild-kind (message.Status x inc) is = let no : ⊥ = cc in absurd no
mild-kind (message.StatusIs x inc how) is = let no : ⊥ = cc in absurd no
mild-kind (message.Reset' t down place more) is = let no : ⊥ = cc in absurd no
mild-kind m is = refl

pub mild-dull : (m : Message) → is_mild m ≡ true → IsDull m
mild-dull m is = kind-dull m (mild-kind m is)

abbrev pub AreMild : List Post → Type 0
AreMild posts = (p : Post) → Has p posts → is_mild p.message ≡ true

pub mild-untold : (posts : List Post) → AreMild posts → (x : AttemptId) (own : Option Epoch) (how : Outcome) → Tells posts x own how → ⊥
mild-untold posts mild x own how k = let is = mild (record { to = k.to; message = message.Ended x own how }) k.sent in (let no : ⊥ = cc in no)

letters-append : (from : ActorId) (ps qs : List Post) → letters_of from (ps ++ qs) ≡ letters_of from ps ++ letters_of from qs
letters-append from [] qs = refl
letters-append from (p ∷ ps) qs = ap (λ ls. letter_of from p ∷ ls) (letters-append from ps qs)

-- it sends some more
pub work-sends : (r : Rules) (h : History) (w : World) (t : ℕ) (z : TargetState) (ps qs : List Post) → PostsSo r h (at_work w t z ps) t qs → AreMild qs → Ongoing r h (at_work w t z ps) → Ongoing r h (at_work w t z (ps ++ qs))
work-sends r h w t z ps qs true' plain k =
    attempts-there r h h (at_work w t z ps) (at_work w t z (ps ++ qs)) refl (λ x e i. i) (same-itself h)
    (λ x. mail-sent r h (at_work w t z ps) (at_work w t z (ps ++ qs)) (letters_of (target t) qs) x more (λ l i. dull l i x) (λ e i. i)) come (λ l i. inl i) k
  where
    more : w.messages ++ letters_of (target t) (ps ++ qs) ≡ (w.messages ++ letters_of (target t) ps) ++ letters_of (target t) qs
    more = ap (λ ls. w.messages ++ ls) (letters-append (target t) ps qs) ∙ sym (append_assoc w.messages (letters_of (target t) ps) (letters_of (target t) qs))

    dull : AreDull (letters_of (target t) qs)
    dull l i = let p = has-from_map (letter_of (target t)) qs l i in subst (λ n. IsDull n.message) p.2 (mild-dull p.0.message (plain p.0 p.1))

    sent : (l : Letter) → Has l (letters_of (target t) qs) → IsSaidSo r h (at_work w t z (ps ++ qs)) l.from l.to l.message
    sent l i = let p = has-from_map (letter_of (target t)) qs l i in said-on r h h (at_work w t z ps) (at_work w t z (ps ++ qs)) (grows-there r h h (at_work w t z ps) (at_work w t z (ps ++ qs)) refl (λ x e i. i) (same-itself h)) l.from l.to l.message (subst (λ n. IsSaidSo r h (at_work w t z ps) n.from n.to n.message) p.2 (true' p.0 p.1))

    come : LettersCome r h (at_work w t z ps) (at_work w t z (ps ++ qs))
    come l i = elim (has-cases (w.messages ++ letters_of (target t) ps) (letters_of (target t) qs) l (subst (Has l) more i)) [ inl before ↦ inl before | inr new ↦ inr (sent l new) ]

-- ---- the turn is over

-- the letter that it heard is taken
pub work-over : (r : Rules) (h later : History) (w v : World) (t : ℕ) (z : TargetState) (posts : List Post) (l : Letter) (rest : List Letter) → Takes w.messages l rest → IsDull l.message → GrowsBy h posts later → AreMild posts
    → v.targets ≡ set w.targets t z → v.messages ≡ rest ++ letters_of (target t) posts → v.asked ≡ asked_after w.asked (letters_of (target t) posts) → ((x : AttemptId) (e : Epoch) → Has (x, e) w.issued → Has (x, e) v.issued) → Ongoing r h (at_work w t z posts) → Ongoing r later v
work-over r h later w v t z posts l rest takes dull g plain targets messages asked issued k =
    attempts-there r h later (at_work w t z posts) v targets issued (λ x. fate x)
    (λ x. mail-taken r h (at_work w t z posts) v w.messages rest (letters_of (target t) posts) l x takes refl messages (dull x) (issued x)) come
    (asked-comes (at_work w t z posts) (letters_of (target t) posts) v asked (λ n i. subst (Has n) (sym messages) (has-right rest (letters_of (target t) posts) n i))) k
  where
    fate : (x : AttemptId) → SameFate h later x
    fate x = record {
      decided = g.decided x;
      only_decided = λ e d. elim (g.only_decided x e d) [ inl before ↦ before | inr told ↦ absurd (mild-untold posts plain x (Some e) _ told) ];
      aborted = g.aborted x;
      only_aborted = λ a. elim (g.only_aborted x a) [ inl before ↦ before | inr told ↦ absurd (mild-untold posts plain x told.own told.how told.told) ];
    }

    come : LettersCome r later (at_work w t z posts) v
    come n i =
        inl (elim (has-cases rest (letters_of (target t) posts) n (subst (Has n) messages i)) [
          | inl j ↦ has-left w.messages (letters_of (target t) posts) n (has-left_over w.messages l rest n takes j)
          | inr j ↦ has-right w.messages (letters_of (target t) posts) n j
        ])

-- it heard none
pub idle-over : (r : Rules) (h later : History) (w v : World) (t : ℕ) (z : TargetState) (posts : List Post) → GrowsBy h posts later → AreMild posts
    → v.targets ≡ set w.targets t z → v.messages ≡ w.messages ++ letters_of (target t) posts → v.asked ≡ asked_after w.asked (letters_of (target t) posts) → ((x : AttemptId) (e : Epoch) → Has (x, e) w.issued → Has (x, e) v.issued) → Ongoing r h (at_work w t z posts) → Ongoing r later v
idle-over r h later w v t z posts g plain targets messages asked issued k =
    attempts-there r h later (at_work w t z posts) v targets issued (λ x. fate x)
    (λ x. record {
      issued = issued x;
      talks = λ inc m. ap (count (is_talk r inc x m)) messages;
      tries = λ m. let same : count (is_try r x m) v.messages ≡ count (is_try r x m) (w.messages ++ letters_of (target t) posts) = ap (count (is_try r x m)) messages in omega (arith, same);
      prepares = λ m l i is. subst (Has l) messages i;
      refusals = λ inc l i is. inl (subst (Has l) messages i);
    }) (λ n i. inl (subst (Has n) messages i))
    (asked-comes (at_work w t z posts) (letters_of (target t) posts) v asked (λ n i. subst (Has n) (sym messages) (has-right w.messages (letters_of (target t) posts) n i))) k
  where
    fate : (x : AttemptId) → SameFate h later x
    fate x = record {
      decided = g.decided x;
      only_decided = λ e d. elim (g.only_decided x e d) [ inl before ↦ before | inr told ↦ absurd (mild-untold posts plain x (Some e) _ told) ];
      aborted = g.aborted x;
      only_aborted = λ a. elim (g.only_aborted x a) [ inl before ↦ before | inr told ↦ absurd (mild-untold posts plain x told.own told.how told.told) ];
    }
