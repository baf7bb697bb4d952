-- A client hears what goes with what it asked.
use Rattle.std.specs.Prelude.{ℕ, ◌≡◌, Bool, true, false, List, slice_get, Option, Some, None, refl}
use Rattle.std.proofs.Common.{sym, ◌∙◌, ap, subst}
use Rattle.base_types.specs.declared.epoch.Epoch.{Epoch}
use Rattle.base_types.specs.declared.id.AttemptId.{AttemptId}
use Rattle.base_messages.specs.declared.message.Message.{Message, more_of-Message}
use Rattle.base_messages.specs.declared.message.Message.TheVariants as message
use Rattle.base_messages.specs.declared.message.Post.{Post}
use Rattle.base_messages.specs.declared.message.Reply.{Reply}
use Rattle.daos_model.specs.Accesses.{minor_writes}
use Rattle.daos_model.specs.EntryLaws.{same_attempt-itself}
use Rattle.daos_model.specs.Transactions.{ops_or_none}
use Rattle.model_laws.specs.Members.{contains-from_has}
use Rattle.world_contents.specs.world_commit.attempts.Counting.{has-taken}
use Rattle.world_base.specs.declared.client.ClientPlan.{ClientPlan}
use Rattle.world_base.specs.declared.client.ClientState.{ClientState}
use Rattle.world_base.specs.declared.client.Present.{Present}
use Rattle.world_base.specs.declared.letter.Letter.{Letter}
use Rattle.world_base.specs.declared.world.World.{World}
use Rattle.world_base.specs.ClientTurns.{about, attempt_id, is_about}
use Rattle.world_base.specs.Events.{Rules, client_plan}
use Rattle.world_base.specs.Letters.{Takes, client, is_tell}
use Rattle.world_contents.specs.world_letters.clients.Answered.{ops_here}
use Rattle.world_causes.specs.handing.Handing.{IsToldTo, question-hands, told-to}
use Rattle.world_contents.specs.world_letters.lines.Lines.{Endings, TellsEnd}
use Rattle.world_causes.specs.outcomes.Premises.{HearsFitly, IsBefore, IsFit, IsLossFit, IsResetFit, hands}
use Rattle.world_causes.specs.outcomes.TalkLaws.{refusal-other}
use Rattle.world_contents.specs.world_letters.talks.AskLaws.{sent-is-asked}
use Rattle.world_contents.specs.world_letters.talks.Asked.{ARead, ASnapshot, AnAggregation, Asked, ItsWrites}
use Rattle.world_contents.specs.world_letters.talks.Conversation.{Answers}
use Rattle.world_contents.specs.world_letters.waits.Waits.{Conversation, IsAnswer, IsLost, IsQuestion, IsReplyTo, ItsAsk, ItsRequest}

-- a client hands an attempt over, or asks what became of it
abbrev pub is_handing : Message → Bool
is_handing (message.Commit x ep first tracker ws) = true
is_handing (message.Ask x) = true
is_handing m = false

module _ (p : ClientPlan) (c : ClientState) (a : Present) (at : c.present ≡ Some a) (q : Post) where
  -- whatever else it asks, it asks before that
  asked-before : (k : Epoch) → Asked p k c a q → is_handing q.message ≡ false → IsBefore p c a
  unfolding minor_writes
  asked-before k (ARead ops turns snapshot op rd command-is found asks says) none behind =
      let there : slice_get (ops_here p c) a.op ≡ Some op = ap (λ o. slice_get (ops_or_none o) a.op) command-is ∙ found in
      let bad : None ≡ Some op = sym behind.last ∙ there in
      let no : ⊥ = cc in no
  asked-before k (ItsWrites ops turns snapshot w ws command-is last all says) none behind = let bad : true ≡ false = sym (ap (λ z. is_handing z.message) says) ∙ none in let no : ⊥ = cc in no
  asked-before k (ASnapshot name cont command-is says) none behind = behind.writes (ap (λ o. minor_writes 0 (ops_or_none o)) command-is)
  asked-before k (AnAggregation cont command-is says) none behind = behind.writes (ap (λ o. minor_writes 0 (ops_or_none o)) command-is)

  pub question-before : IsQuestion p c q → is_handing q.message ≡ false → IsBefore p c a
  question-before (ItsRequest k low sent) none behind = asked-before k (sent-is-asked p k c a q at sent) none behind
  question-before (ItsAsk k s f low sent commit says) none behind = let bad : true ≡ false = sym (ap (λ z. is_handing z.message) says) ∙ none in let no : ⊥ = cc in no

  -- so a loss goes with what was asked
  loss-fits : (m : Message) → q.message ≡ m → IsQuestion p c q → IsLossFit p c a m
  loss-fits (message.Commit x ep first tracker ws) is k = (question-hands p c a q x at k (ap (hands x) is ∙ same_attempt-itself x)).1
  loss-fits (message.Ask x) is k = (question-hands p c a q x at k (ap (hands x) is ∙ same_attempt-itself x)).1
  loss-fits m is k = question-before k (ap is_handing is)

-- what a Reset tells of
abbrev lost_in : Message → Message → Message
lost_in d (message.Reset' t down place (more_of-Message q rest)) = q
lost_in d m = d

-- a read is answered of a read that was asked
answers-read : (q m : Message) → Answers q m → (x : AttemptId) (op group : ℕ) (e : Option Epoch) (b : Reply) → m ≡ message.Fetched x op group e b → is_handing q ≡ false
answers-read (message.Fetch y op2 group2 e2 first tracker rd snapshot) m k x op group e b says = refl
answers-read (message.Commit y ep first tracker ws) m k x op group e b says = let bad = sym says ∙ k.2 in (let no : ⊥ = cc in absurd no)
answers-read (message.Ask y) m k x op group e b says = let bad = sym says ∙ k.2 in (let no : ⊥ = cc in absurd no)
answers-read q m k x op group e b says = refl

-- and no answer is a Reset
abbrev pub is_reset : Message → Bool
is_reset (message.Reset' t down place more) = true
is_reset m = false

pub answers-no_reset : (q m : Message) → Answers q m → is_reset m ≡ false
answers-no_reset (message.Fetch x op group e first tracker rd snapshot) m k = ap is_reset k.2
answers-no_reset (message.Commit x ep first tracker ws) m k = ap is_reset k.2
answers-no_reset (message.Ask x) m k = ap is_reset k.2
answers-no_reset (message.Snap x cont name tracker) m k = ap is_reset k.2
answers-no_reset (message.Prune x cont tracker e) m k = ap is_reset k.2
answers-no_reset q m k = absurd k

about-no_tell : (x : AttemptId) (m : Message) → is_about x (about m) ≡ true → is_tell m ≡ false
about-no_tell x (message.Tell k) is = let no : ⊥ = cc in absurd no
about-no_tell x m is = refl

pub hears-fitly : (r : Rules) (w : World) (n : ℕ) (c : ClientState) (l : Letter) (rest : List Letter) → Conversation r w → Endings w → slice_get w.clients n ≡ Some c → Takes w.messages l rest → l.to ≡ client n → HearsFitly (client_plan r n) c l.message
hears-fitly r w n c l rest k endings here takes to a at waiting its = by l.message refl
  where
    p : ClientPlan
    p = client_plan r n

    z : IsToldTo r w n l
    z = told-to r w k n l rest takes to (about-no_tell (attempt_id p c a) l.message its)

    question : IsQuestion p c z.q
    question = let same : Some z.c ≡ Some c = sym z.here ∙ here in let it : z.c ≡ c = cc in subst (λ d. IsQuestion p d z.q) it z.question

    -- a read that is answered
    read-fits : (x : AttemptId) (op group : ℕ) (e : Option Epoch) (b : Reply) → l.message ≡ message.Fetched x op group e b → IsReplyTo z.q l.message → IsBefore p c a
    read-fits x op group e b says (IsAnswer ans) = question-before p c a at z.q question (answers-read z.q.message l.message ans x op group e b says)
    read-fits x op group e b says (IsLost down lost) = let bad : false ≡ true = sym (ap is_reset says) ∙ ap is_reset lost in let no : ⊥ = cc in absurd no

    -- a loss
    lost-fits : (t : ℕ) (down : Bool) (place : _) (q : Message) (more : _) → l.message ≡ message.Reset' t down place (more_of-Message q more) → IsReplyTo z.q l.message → IsResetFit down p c a q
    lost-fits t true place q more says k = tt
    lost-fits t false place q more says (IsAnswer ans) = let bad : true ≡ false = sym (ap is_reset says) ∙ answers-no_reset z.q.message l.message ans in let no : ⊥ = cc in absurd no
    lost-fits t false place q more says (IsLost down lost) = loss-fits p c a at z.q q (sym (ap (lost_in q) lost) ∙ ap (lost_in q) says) question

    by : (m : Message) → l.message ≡ m → IsFit p c a m
    by (message.Fetched x op group e b) says = (read-fits x op group e b says z.reply.says, refusal-other b (subst TellsEnd says (endings l (contains-from_has w.messages l (has-taken w.messages l rest takes)))))
    by (message.Reset' t down place (more_of-Message q more)) says = lost-fits t down place q more says z.reply.says
    by m says = tt
