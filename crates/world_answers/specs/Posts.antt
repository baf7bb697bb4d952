-- What is so of each message that is sent, and of each that is in flight then.
use Rattle.std.specs.Prelude.{ℕ, ◌≡◌, ◌⊎◌, ◌++◌, Bool, true, false, List, [], ◌∷◌, filter, Contains, Option, Some, None, refl}
use Rattle.std.proofs.Common.{sym, ap, subst, inl, inr}
use Rattle.base_types.specs.declared.id.AttemptId.{AttemptId}
use Rattle.base_types.specs.declared.epoch.Epoch.{Epoch}
use Rattle.base_messages.specs.declared.actor.ActorId.{ActorId}
use Rattle.base_messages.specs.declared.message.Message.{Message}
use Rattle.base_messages.specs.declared.message.Message.TheVariants as message
use Rattle.base_messages.specs.declared.message.Post.{Post}
use Rattle.model_laws.specs.Members.{Has, contains-from_has, has-cases, has-from_contains, has-from_filter, has-from_map}
use Rattle.world_base.specs.declared.client.ClientPlan.{ClientPlan}
use Rattle.world_base.specs.declared.client.ClientState.{ClientState}
use Rattle.world_base.specs.declared.client.Present.{Present}
use Rattle.world_base.specs.declared.letter.Letter.{Letter}
use Rattle.world_base.specs.declared.world.World.{World}
use Rattle.world_base.specs.ClientTurns.{heard, listed, moved, waits}
use Rattle.world_base.specs.Letters.{letter_of, letters_of, reset_message}
use Rattle.world_base.specs.Stops.{is_not_to, is_to, reset_letter, resets}
use Rattle.world_making.specs.world_causes.restarts.Resting.{Rests, is_silent}
use Rattle.world_making.specs.world_letters.endings.Clients.{IsQuestion, heard-asks}
use Rattle.world_making.specs.world_letters.talks.AskLaws.{move-is, waiting-rests}
use Rattle.world_making.specs.world_letters.talks.Asked.{Asked, Asking, IsMove, Silent, Telling}

module _ (P : Message → Type 0) where
  -- it is so of each post, or of each letter
  abbrev pub OfPosts : List Post → Type 0
  OfPosts posts = (q : Post) → Has q posts → P q.message

  abbrev pub OfLetters : List Letter → Type 0
  OfLetters letters = (l : Letter) → Has l letters → P l.message

  pub none-posts : OfPosts []
  none-posts q i = absurd i

  pub single-post : (q : Post) → P q.message → OfPosts (q ∷ [])
  single-post q k p (inl same) = subst (λ (x : Post). P x.message) (sym same) k
  single-post q k p (inr none) = absurd none

  pub one-post : (posts : List Post) (q : Post) → posts ≡ q ∷ [] → P q.message → OfPosts posts
  one-post posts q is k = subst OfPosts (sym is) (single-post q k)

  pub both-posts : (ps qs : List Post) → OfPosts ps → OfPosts qs → OfPosts (ps ++ qs)
  both-posts ps qs f g q i = elim (has-cases ps qs q i) [ inl j ↦ f q j | inr j ↦ g q j ]

  -- ---- what is sent

  -- beside what was left of those in flight
  pub sent-letters : (before rest : List Letter) (from : ActorId) (posts : List Post) → OfLetters before → ((l : Letter) → Has l rest → Has l before) → OfPosts posts → OfLetters (rest ++ letters_of from posts)
  sent-letters before rest from posts k left sent l i = elim (has-cases rest (letters_of from posts) l i) [
    | inl j ↦ k l (left l j)
    | inr j ↦ (let z = has-from_map (letter_of from) posts l j in subst (λ (y : Letter). P y.message) z.2 (sent z.0 z.1))
  ]

  -- where it is so of Resets, it stays so where some are told of what is lost
  pub lost-letters : (t : ℕ) (down : Bool) (messages asked : List Letter) → OfLetters messages → ((u : ℕ) (down : Bool) (m : Message) → P (reset_message u down m)) → OfLetters (filter (is_not_to t) messages ++ resets t down asked)
  lost-letters t down messages asked k so l i = elim (has-cases (filter (is_not_to t) messages) (resets t down asked) l i) [
    | inl j ↦ k l (has-from_filter (is_not_to t) messages l j).0
    | inr j ↦ (let z = has-from_map (reset_letter down) (filter (is_to t) asked) l j in subst (λ (y : Letter). P y.message) z.2 (so z.0.to.number down z.0.message))
  ]

  -- and where no client does anything
  pub resting-letters : (w v : World) → Rests w v → OfLetters w.messages → ((m : Message) → is_silent m ≡ true → P m) → OfLetters v.messages
  resting-letters w v rests k so l i = by (rests.messages l (contains-from_has v.messages l i))
    where
      by : Contains w.messages l ⊎ (is_silent l.message ≡ true) → P l.message
      by (inl before) = k l (has-from_contains w.messages l before)
      by (inr silent) = so l.message silent

  -- ---- what clients send

  listed-posts : (o : Option Post) → ((q : Post) → o ≡ Some q → P q.message) → OfPosts (listed o)
  listed-posts None each = none-posts
  listed-posts (Some p) each = single-post p (each p refl)

  -- in a move that asks, or tells its tracker
  pub moved-posts : (p : ClientPlan) (c : ClientState) → ((a : Present) (q : Post) → Asked p c.tracker c a q → P q.message) → ((tracker : Epoch) → P (message.Tell tracker)) → OfPosts (listed (moved p c).post)
  moved-posts p c asks tells = listed-posts (moved p c).post (by (waits c) refl)
    where
      none : (o : Option Post) → o ≡ None → (q : Post) → o ≡ Some q → P q.message
      none o off q is = let no : ⊥ = cc in absurd no

      one : (o : Option Post) (s : Post) → o ≡ Some s → P s.message → (q : Post) → o ≡ Some q → P q.message
      one o s at k q is = let same : s ≡ q = cc in subst (λ (x : Post). P x.message) same k

      is-a : IsMove p c (moved p c) → (q : Post) → (moved p c).post ≡ Some q → P q.message
      is-a (Silent free off) = none _ off
      is-a (Telling n idle free says) = one _ _ says (tells c.tracker)
      is-a (Asking a s at asked says state) = one _ s says (asks a s asked)

      by : (b : Bool) → waits c ≡ b → (q : Post) → (moved p c).post ≡ Some q → P q.message
      by true h = none _ (ap (λ m. m.post) (waiting-rests p c h))
      by false h = is-a (move-is p c h)

  -- or where they hear a message, where they may ask what became of an attempt
  pub heard-posts : (p : ClientPlan) (c : ClientState) (m : Message) → ((x : AttemptId) → P (message.Ask x)) → OfPosts (listed (heard p c m).post)
  heard-posts p c m asks = by (heard p c m).post (heard-asks p c m)
    where
      by : (o : Option Post) → IsQuestion o → OfPosts (listed o)
      by None k = none-posts
      by (Some q) k = single-post q (subst P (sym k.1) (asks k.0))
