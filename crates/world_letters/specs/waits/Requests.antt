-- What clients ask: whatever else a target hears is of no client's conversation.
use Rattle.std.specs.Prelude.{ℕ, ◌≡◌, Bool, true, false, is_some, List, slice_get, Option, Some, None, refl}
use Rattle.std.proofs.Common.{sym, ◌∙◌, ap}
use Rattle.base_messages.specs.declared.message.Message.{Message, more_of-Message}
use Rattle.base_messages.specs.declared.message.Message.TheVariants as message
use Rattle.base_messages.specs.declared.message.Post.{Post}
use Rattle.daos_model.specs.BoolLaws.{clash, false_of}
use Rattle.world_base.specs.declared.client.ClientPlan.{ClientPlan}
use Rattle.world_base.specs.declared.client.ClientState.{ClientState}
use Rattle.world_base.specs.declared.client.Present.{Present}
use Rattle.world_base.specs.declared.letter.Letter.{Letter}
use Rattle.world_base.specs.declared.world.World.{World}
use Rattle.world_base.specs.ClientTurns.{waits}
use Rattle.world_base.specs.Events.{Rules, client_plan}
use Rattle.world_base.specs.Letters.{Takes, client, is_talk_of, is_tell, letter_of, talk_of, target}
use Rattle.world_letters.specs.talks.AskLaws.{sent-is-asked}
use Rattle.world_letters.specs.talks.Asked.{ARead, ASnapshot, AnAggregation, Asked, ItsWrites}
use Rattle.world_letters.specs.talks.TalkLaws.{sent-is-talk, talk-none, talk-only}
use Rattle.world_letters.specs.waits.ClientLaws.{present-of}
use Rattle.world_letters.specs.waits.Waits.{Conversation, IsAsked, IsHeld, IsQuestion, IsReplied, ItsAsk, ItsRequest, TalksSo, asked_of, held_of}

-- ---- which these are

-- what a client asks a target
abbrev pub is_request : Message → Bool
is_request (message.Fetch x op group ep first tracker r snapshot) = true
is_request (message.Commit x ep first tracker ws) = true
is_request (message.Ask x) = true
is_request (message.Snap x cont name tracker) = true
is_request (message.Prune x cont tracker e) = is_some tracker
is_request m = false

-- that it got no answer
abbrev pub is_lost_request : Message → Bool
is_lost_request (message.Reset' t down place (more_of-Message q rest)) = is_request q
is_lost_request m = false

-- ---- what a target hears

-- what a client asks is a request
pub question-requests : (p : ClientPlan) (c : ClientState) (a : Present) (q : Post) → c.present ≡ Some a → IsQuestion p c q → is_request q.message ≡ true
question-requests p c a q at (ItsRequest k low sent) = by (sent-is-asked p k c a q at sent)
  where
    by : Asked p k c a q → is_request q.message ≡ true
    by (ARead ops turns snapshot op rd at' is asked says) = ap (λ x. is_request x.message) says
    by (ItsWrites ops turns snapshot w ws at' last all says) = ap (λ x. is_request x.message) says
    by (ASnapshot name cont at' says) = ap (λ x. is_request x.message) says
    by (AnAggregation cont at' says) = ap (λ x. is_request x.message) says
question-requests p c a q at (ItsAsk k s f low sent commit says) = ap (λ x. is_request x.message) says

pub request-tells : (m : Message) → is_request m ≡ true → is_tell m ≡ false
request-tells (message.Tell k) is = let no : ⊥ = cc in absurd no
request-tells m is = refl

-- a letter to a target that is of a client's conversation is what that client asked
pub record IsWhatIsAsked (r : Rules) (w : World) (n : ℕ) (l : Letter) : Type 0 where
  pub c : ClientState
  pub here : slice_get w.clients n ≡ Some c
  pub now : waits c ≡ true
  pub q : Post
  pub question : IsQuestion (client_plan r n) c q
  pub is : l ≡ letter_of (client n) q

module _ (r : Rules) (w : World) (k : Conversation r w) (l : Letter) (rest : List Letter) (takes : Takes w.messages l rest) (t : ℕ) (to : l.to ≡ target t) where
  pub talk-is_asked : (n : ℕ) → is_talk_of n l ≡ true → IsWhatIsAsked r w n l
  talk-is_asked n its = by (slice_get w.clients n) refl
    where
      waiting : (c : ClientState) → slice_get w.clients n ≡ Some c → (b : Bool) → waits c ≡ b → TalksSo (client_plan r n) n c (talk_of n w.messages) (held_of n w) (asked_of n w) b → IsWhatIsAsked r w n l
      waiting c here false now q = absurd (talk-none n w.messages l rest takes its q.no_letters)
      waiting c here true now (IsAsked q is one none free) = record { c = c; here = here; now = now; q = q; question = is; is = (talk-only n w.messages l (letter_of (client n) q) rest takes its one).0 }
      waiting c here true now (IsHeld q x is holds none one free) = absurd (talk-none n w.messages l rest takes its none)
      waiting c here true now (IsReplied q m is got one none free) =
          let only = talk-only n w.messages l m rest takes its one in
          let there : true ≡ false = sym (ap (λ x. x.client) got.to) ∙ sym (ap (λ x. x.to.client) only.0) ∙ ap (λ x. x.client) to in
          let no : ⊥ = cc in absurd no

      by : (o : Option ClientState) → slice_get w.clients n ≡ o → IsWhatIsAsked r w n l
      by None e = absurd (talk-none n w.messages l rest takes its (k.nobody n e).no_letters)
      by (Some c) e = waiting c e (waits c) refl (k.talks n c e)

  -- what is no request is of no conversation
  module _ (none : is_request l.message ≡ false) (no_tell : is_tell l.message ≡ false) where
    pub of-none : (n : ℕ) → is_talk_of n l ≡ false
    of-none n = false_of (is_talk_of n l) (λ its.
        let a = talk-is_asked n its in
        let p = present-of a.c a.now in
        clash (is_request l.message) (ap (λ x. is_request x.message) a.is ∙ question-requests (client_plan r n) a.c p.a a.q p.at a.question) none)

    -- and comes from a target
    pub from-target : l.from.client ≡ false
    from-target = false_of l.from.client (λ it. clash (is_talk_of l.from.number l) (sent-is-talk l.from.number l no_tell (ap (λ b. record { client = b; number = l.from.number }) it)) (of-none l.from.number))
