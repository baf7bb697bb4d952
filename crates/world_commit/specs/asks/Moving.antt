-- What an event does to letters and targets: a client's turn changes no target, and a target's turn only its own.
use Rattle.std.specs.Prelude.{ℕ, ◌≡◌, ◌⊎◌, List, ◌∷◌, slice_get, Option, Some, None}
use Rattle.std.proofs.Common.{sym, ◌∙◌, ap, subst, inl, inr}
use Rattle.std.proofs.Math.ListN.{set}
use Rattle.model_laws.specs.Members.{Has, has-cases, has-from_map, has-left, has-map, has-right}
use Rattle.base_messages.specs.declared.message.Post.{Post}
use Rattle.world_commit.specs.attempts.Counting.{has-left_over}
use Rattle.world_base.specs.declared.letter.Letter.{Letter}
use Rattle.world_base.specs.declared.target.TargetState.{TargetState}
use Rattle.world_base.specs.declared.world.World.{World}
use Rattle.world_base.specs.Events.{ClientGoes, ClientHears, Rules, TargetHearsBy, TargetIdles, target_after}
use Rattle.world_base.specs.Letters.{Takes, client, letter_of, letters_of, target}
use Rattle.world_base.specs.StepLaws.{set-here, set-there}
use Rattle.world_base.specs.TargetTurns.{Hearing}

-- a letter that is taken is the one that is heard, or is left
pub heard-or_left : (letters : List Letter) (l : Letter) (rest : List Letter) (n : Letter) → Takes letters l rest → Has n letters → (n ≡ l) ⊎ Has n rest
heard-or_left letters l rest n k i =
    elim (has-cases k.before (l ∷ k.after) n (subst (Has n) k.among i)) [
      | inl j ↦ inr (subst (Has n) (sym k.left) (has-left k.before k.after n j))
      | inr (inl same) ↦ inl same
      | inr (inr j) ↦ inr (subst (Has n) (sym k.left) (has-right k.before k.after n j))
    ]

-- ---- a client's turn

-- no target changes; a letter to a target stays in flight; and what comes is from a client
pub record ClientMoves (w v : World) : Type 0 where
  pub targets : v.targets ≡ w.targets
  pub stays : (l : Letter) (t : ℕ) → Has l w.messages → l.to ≡ target t → Has l v.messages
  pub comes : (l : Letter) → Has l v.messages → Has l w.messages ⊎ ((n : ℕ) × (l.from ≡ client n))

no-client : (n t : ℕ) → client n ≡ target t → ⊥
no-client n t same = let no : ⊥ = cc (ap (λ a. a.client) same) in no

sent-by : (n : ℕ) (posts : List Post) (l : Letter) → Has l (letters_of (client n) posts) → l.from ≡ client n
sent-by n posts l i = let p = has-from_map (letter_of (client n)) posts l i in sym (ap (λ z. z.from) p.2)

pub goes-moves : (r : Rules) (w v : World) → ClientGoes r w v → ClientMoves w v
goes-moves r w v g = record {
  targets = ap (λ x. x.targets) g.after;
  stays = λ l t i to. subst (λ x. Has l x.messages) (sym g.after) (has-left w.messages (letters_of (client g.n) g.did.posts) l i);
  comes = λ l i. elim (has-cases w.messages (letters_of (client g.n) g.did.posts) l (subst (λ x. Has l x.messages) g.after i)) [
    | inl j ↦ inl j
    | inr j ↦ inr (g.n, sent-by g.n g.did.posts l j)
  ];
}

pub hears-moves : (r : Rules) (w v : World) → ClientHears r w v → ClientMoves w v
hears-moves r w v g = record {
  targets = ap (λ x. x.targets) g.after;
  stays = λ l t i to. subst (λ x. Has l x.messages) (sym g.after) (has-left g.rest (letters_of (client g.n) g.did.posts) l (left l t i to));
  comes = λ l i. elim (has-cases g.rest (letters_of (client g.n) g.did.posts) l (subst (λ x. Has l x.messages) g.after i)) [
    | inl j ↦ inl (has-left_over w.messages g.l g.rest l g.takes j)
    | inr j ↦ inr (g.n, sent-by g.n g.did.posts l j)
  ];
}
  where
    left : (l : Letter) (t : ℕ) → Has l w.messages → l.to ≡ target t → Has l g.rest
    left l t i to = elim (heard-or_left w.messages g.l g.rest l g.takes i) [
      | inl same ↦ absurd (no-client g.n t (sym g.to_it ∙ sym (ap (λ z. z.to) same) ∙ to))
      | inr j ↦ j
    ]

-- ---- a target's turn

-- One target changes; what it hears, if it hears something, is taken, and all else in flight stays; and what comes is what it sends.
pub record TargetMoves (w v : World) (t : ℕ) (s z : TargetState) (heard : Option Letter) (posts : List Post) : Type 0 where
  pub here : slice_get w.targets t ≡ Some s
  pub targets : v.targets ≡ set w.targets t z
  pub stays : (l : Letter) → Has l w.messages → (heard ≡ Some l) ⊎ Has l v.messages
  pub posted : (p : Post) → Has p posts → Has (letter_of (target t) p) v.messages
  pub comes : (l : Letter) → Has l v.messages → Has l w.messages ⊎ ((p : Post) × Has p posts × (l ≡ letter_of (target t) p))

sent-from : (t : ℕ) (posts : List Post) (l : Letter) → Has l (letters_of (target t) posts) → (p : Post) × Has p posts × (l ≡ letter_of (target t) p)
sent-from t posts l i = let p = has-from_map (letter_of (target t)) posts l i in (p.0, p.1, sym p.2)

-- whatever turn it is by which it hears a message
pub heard-moves : {Turn : Hearing} (r : Rules) (w v : World) (g : TargetHearsBy Turn r w v) → TargetMoves w v g.t g.s (target_after g.s g.new g.memory) (Some g.l) g.did.posts
heard-moves r w v g = record {
  here = g.here;
  targets = ap (λ x. x.targets) g.after;
  stays = λ l i. elim (heard-or_left w.messages g.l g.rest l g.takes i) [
    | inl same ↦ inl (ap (λ z. Some z) (sym same))
    | inr j ↦ inr (subst (λ x. Has l x.messages) (sym g.after) (has-left g.rest (letters_of (target g.t) g.did.posts) l j))
  ];
  posted = λ p i. subst (λ x. Has (letter_of (target g.t) p) x.messages) (sym g.after) (has-right g.rest (letters_of (target g.t) g.did.posts) (letter_of (target g.t) p) (has-map (letter_of (target g.t)) g.did.posts p i));
  comes = λ l i. elim (has-cases g.rest (letters_of (target g.t) g.did.posts) l (subst (λ x. Has l x.messages) g.after i)) [
    | inl j ↦ inl (has-left_over w.messages g.l g.rest l g.takes j)
    | inr j ↦ inr (sent-from g.t g.did.posts l j)
  ];
}

pub idle-moves : (r : Rules) (w v : World) (g : TargetIdles r w v) → TargetMoves w v g.t g.s (target_after g.s g.new g.memory) None g.did.posts
idle-moves r w v g = record {
  here = g.here;
  targets = ap (λ x. x.targets) g.after;
  stays = λ l i. inr (subst (λ x. Has l x.messages) (sym g.after) (has-left w.messages (letters_of (target g.t) g.did.posts) l i));
  posted = λ p i. subst (λ x. Has (letter_of (target g.t) p) x.messages) (sym g.after) (has-right w.messages (letters_of (target g.t) g.did.posts) (letter_of (target g.t) p) (has-map (letter_of (target g.t)) g.did.posts p i));
  comes = λ l i. elim (has-cases w.messages (letters_of (target g.t) g.did.posts) l (subst (λ x. Has l x.messages) g.after i)) [
    | inl j ↦ inl j
    | inr j ↦ inr (sent-from g.t g.did.posts l j)
  ];
}

-- each target is the one that changed, or is as it was
module _ (w v : World) (t : ℕ) (s z : TargetState) (heard : Option Letter) (posts : List Post) (k : TargetMoves w v t s z heard posts) where
  pub now-here : slice_get v.targets t ≡ Some z
  now-here = ap (λ ts. slice_get ts t) k.targets ∙ set-here w.targets t s z k.here

  pub same-there : (u : ℕ) → (u ≡ t → ⊥) → slice_get v.targets u ≡ slice_get w.targets u
  same-there u other = ap (λ ts. slice_get ts u) k.targets ∙ set-there w.targets t u z other

-- where nothing is heard, all that is in flight stays
pub all-stay : (w v : World) (t : ℕ) (s z : TargetState) (posts : List Post) → TargetMoves w v t s z None posts → (l : Letter) → Has l w.messages → Has l v.messages
all-stay w v t s z posts k l i = elim (k.stays l i) [ inl heard ↦ (let no : ⊥ = cc in absurd no) | inr stays ↦ stays ]
