-- What a client hears fits what it asked, and lines tell of it what it has told.
use Rattle.std.specs.Prelude.{ℕ, ◌≡◌, false, List, slice_get, Option, Some, None, refl, Contains}
use Rattle.std.proofs.Common.{sym, ◌∙◌, ap, subst}
use Rattle.base_messages.specs.declared.message.Message.{Message}
use Rattle.base_messages.specs.declared.message.Message.TheVariants as message
use Rattle.base_messages.specs.declared.message.Post.{Post}
use Rattle.model_laws.specs.Members.{contains-from_has}
use Rattle.world_causes.specs.world_commit.attempts.Counting.{has-taken}
use Rattle.world_causes.specs.world_commit.attempts.History.{History, Decided}
use Rattle.world_base.specs.declared.client.ClientPlan.{ClientPlan}
use Rattle.world_base.specs.declared.client.ClientState.{ClientState}
use Rattle.world_base.specs.declared.client.Present.{Present}
use Rattle.world_base.specs.declared.letter.Letter.{Letter}
use Rattle.world_base.specs.declared.world.World.{World}
use Rattle.world_base.specs.ClientTurns.{heard, listed}
use Rattle.world_base.specs.Events.{Rules, client_plan}
use Rattle.world_base.specs.Letters.{Takes, client, is_tell}
use Rattle.world_base.specs.Steps.{after_move, without}
use Rattle.world_causes.specs.world_letters.clients.AnswerLaws.{heard-answered}
use Rattle.world_causes.specs.world_letters.clients.Answered.{IsFit, IsFitHere}
use Rattle.world_causes.specs.world_letters.clients.MoveLaws.{heard-keeps}
use Rattle.world_causes.specs.world_letters.epochs.Epochs.{Epochs}
use Rattle.world_causes.specs.handing.Handing.{told-to}
use Rattle.world_causes.specs.world_letters.lines.LineLaws.{did-tell, got-fits}
use Rattle.world_causes.specs.world_letters.lines.Lines.{Endings, Lines}
use Rattle.world_causes.specs.outcomes.Outcomes.{Outcomes}
use Rattle.world_causes.specs.world_letters.talks.AskLaws.{sent-is-asked}
use Rattle.world_causes.specs.world_letters.talks.Conversation.{Answers}
use Rattle.world_causes.specs.world_letters.waits.Waits.{Conversation, IsAnswer, IsLost, IsQuestion, IsReplyTo, ItsAsk, ItsRequest}
use Rattle.base_types.specs.declared.id.AttemptId.{AttemptId}
use Rattle.base_types.specs.declared.epoch.Epoch.{Epoch}

-- what is decided was issued its epoch
abbrev pub DecidedIssued : History → World → Type 0
DecidedIssued h w = (x : AttemptId) (e : Epoch) → Decided h x e → Contains w.issued (x, e)

-- ---- what a client hears of its attempt

module _ (r : Rules) (w : World) (n : ℕ) (c : ClientState) (l : Letter) (rest : List Letter) (k : Conversation r w) (ends : Endings w) (here : slice_get w.clients n ≡ Some c) (takes : Takes w.messages l rest) (to : l.to ≡ client n) where
  abbrev p : ClientPlan
  p = client_plan r n

  -- what answers its question is fit to it, and so is the news that there is no answer
  answer-fits : (a : Present) (q : Post) → c.present ≡ Some a → IsQuestion p c q → Answers q.message l.message → IsFit p c a l.message
  answer-fits a q at (ItsRequest e low sent) answers = got-fits p e c a q l.message (sent-is-asked p e c a q at sent) answers (ends l (contains-from_has w.messages l (has-taken w.messages l rest takes)))
  answer-fits a q at (ItsAsk e s f low sent commit says) answers =
      got-fits p e c a s l.message (sent-is-asked p e c a s at sent) (subst (λ m. Answers m l.message) (sym commit) (subst (λ (z : Post). Answers z.message l.message) says answers))
      (ends l (contains-from_has w.messages l (has-taken w.messages l rest takes)))

  reply-fits : (a : Present) (q : Post) → c.present ≡ Some a → IsQuestion p c q → IsReplyTo q l.message → IsFit p c a l.message
  reply-fits a q at question (IsAnswer answers) = answer-fits a q at question answers
  reply-fits a q at question (IsLost down same) = subst (IsFit p c a) (sym same) tt

  told-fits : (a : Present) → c.present ≡ Some a → is_tell l.message ≡ false → IsFit p c a l.message
  told-fits a at no_tell =
      let z = told-to r w k n l rest takes to no_tell in
      let same : z.c ≡ c = let e : Some z.c ≡ Some c = sym z.here ∙ here in cc in
      reply-fits a z.q at (subst (λ d. IsQuestion p d z.q) same z.question) z.reply.says

  present-fits : (a : Present) → c.present ≡ Some a → (m : Message) → l.message ≡ m → IsFit p c a m
  present-fits a at (message.Fetched x op group e b) is = subst (IsFit p c a) is (told-fits a at (ap is_tell is))
  present-fits a at (message.Ended x e how) is = subst (IsFit p c a) is (told-fits a at (ap is_tell is))
  present-fits a at m is = tt

  pub heard-fits : IsFitHere p c l.message c.present
  heard-fits = by c.present refl
    where
      by : (o : Option Present) → c.present ≡ o → IsFitHere p c l.message o
      by None none = tt
      by (Some a) at = λ waiting its. present-fits a at l.message refl

  -- so lines tell of it what it has told
  pub lines-heard : Lines r w → Lines r (after_move (without w rest) n (heard p c l.message))
  lines-heard lines =
      let t = lines.told n c here in
      did-tell r w n c (heard p c l.message).state _ _ (listed (heard p c l.message).line) lines here
      (record { told = heard-keeps p c t.attempts l.message t.tells.told; answers = heard-answered p c t.attempts l.message t.tells heard-fits })

-- ---- clients

-- what goes about for clients, what ends attempts, what lines tell, epochs, that each decided attempt was issued its epoch, and what is told
-- of how attempts ended
pub record ClientsSpeak (r : Rules) (top : ℕ) (h : History) (w : World) : Type 0 where
  pub talk : Conversation r w
  pub endings : Endings w
  pub lines : Lines r w
  pub epochs : Epochs r top w
  pub issued : DecidedIssued h w
  pub outcomes : Outcomes r h w
