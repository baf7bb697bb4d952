-- In every right event what targets ask one another is without an answer as often as it is in flight.
use Rattle.std.specs.Prelude.{ℕ, ◌≡◌, Bool, true, false, List, [], ◌∷◌, ◌++◌, Option, refl}
use Rattle.std.proofs.Common.{sym, ◌∙◌, ap, subst, arith}
use Rattle.base_types.specs.declared.outcome.Outcome.{Outcome}
use Rattle.base_messages.specs.declared.message.Message.{Message}
use Rattle.base_messages.specs.declared.message.Message.TheVariants as message
use Rattle.model_laws.specs.Members.{Has}
use Rattle.base_types.specs.declared.entry.Verdict.{Verdict}
use Rattle.dtx_base.specs.Leading.{attempts_of, query_answer}
use Rattle.world_commit.specs.attempts.Attempts.{IsOther}
use Rattle.world_commit.specs.attempts.Counting.{has-taken}
use Rattle.world_commit.specs.attempts.History.{History}
use Rattle.world_commit.specs.attempts.Stored.{target-is}
use Rattle.world_commit.specs.fates.AckTurns as ack
use Rattle.world_commit.specs.fates.Answers.{ack-answers}
use Rattle.world_commit.specs.fates.Alike.{back-answers, mark-alike, mark-replies, prepare-alike, prepare-replies, query-alike, query-replies}
use Rattle.world_commit.specs.fates.Asked.{AskedRight}
use Rattle.world_commit.specs.fates.Facts.{IsPrepareRight, IsSaidSo, Ongoing, PromptsFly, is_prompt, is_prompt_kind}
use Rattle.world_commit.specs.fates.Lefts.{fetch-left, idle-left, mark-answers, marked-left, query-answers, turn-begins, verdict-left}
use Rattle.world_commit.specs.fates.Prompts.{AreSpoken, IsOfPrompts, kind-no_prompt, client-speaking, prompts-answered, prompts-spoken, spoken-speaking, taken-quietly, to_client-no_prompt}
use Rattle.world_commit.specs.fates.Speaking.{commit-spoken, plain-spoken}
use Rattle.world_base.specs.declared.letter.Letter.{Letter}
use Rattle.world_base.specs.declared.world.World.{World}
use Rattle.world_base.specs.Acks.{AckNext, Heard}
use Rattle.world_base.specs.Events.{ByClient, ByTarget, ClientGoes, ClientHears, RightEvent, Rules, TargetHearsRightly, TargetIdles, ToClient, ToTarget, client_plan, kept, target_plan}
use Rattle.world_base.specs.ClientTurns.{Move, heard, listed, moved}
use Rattle.world_base.specs.StepLaws.{by-hearing, by-next}
use Rattle.world_base.specs.Steps.{after_move, without}
use Rattle.world_base.specs.Letters.{Takes, asked_after, client, is_answer_to, is_answerable, is_reply, letters_of, target}
use Rattle.world_base.specs.PathLaws.{path-keeps}
use Rattle.world_base.specs.Prepares.{HasNoSpace, IsPrepared, IsRefused, PrepareEnds}
use Rattle.world_base.specs.Roles.{leader_at}
use Rattle.world_base.specs.RightTurns.{HearsRightly}
use Rattle.world_base.specs.TargetTurns.{commit_request, prepare_request}
use Rattle.world_base.specs.Verdicts as verdicts

module _ (r : Rules) (h : History) (w v : World) (right : AskedRight r h w) (k : Ongoing r h w) (fly : PromptsFly w) (g : TargetHearsRightly r w v) where
  flies : Has g.l w.messages
  flies = has-taken w.messages g.l g.rest g.takes

  messages : v.messages ≡ g.rest ++ letters_of (target g.t) g.did.posts
  messages = ap (λ u. u.messages) g.after

  asked : v.asked ≡ asked_after w.asked (letters_of (target g.t) g.did.posts)
  asked = ap (λ u. u.asked) g.after

  -- a turn that answers nothing that a target asked
  spoken : is_prompt_kind g.l.message ≡ false → AreSpoken g.did.posts → PromptsFly v
  spoken kind posts = prompts-spoken w v (target g.t) g.did.posts g.rest (spoken-speaking (target g.t) g.did.posts posts) messages asked (taken-quietly w g.l g.rest g.takes (kind-no_prompt g.l kind)) fly

  -- and one that answers what was heard
  answers : (m : Message) → g.did.posts ≡ record { to = g.l.from; message = m } ∷ [] → is_answerable m ≡ false → is_prompt_kind g.l.message ≡ true → is_reply m g.l.message ≡ true
      → ((p : Letter → Bool) → IsOfPrompts p → is_prompt g.l ≡ true → (q : Letter) → Has q w.asked → is_answer_to (record { from = target g.t; to = g.l.from; message = m }) q ≡ true → p q ≡ p g.l) → PromptsFly v
  answers m sent unasked kind reply alike =
      prompts-answered w v (target g.t) (record { to = g.l.from; message = m }) g.l g.rest g.takes (messages ∙ ap (λ ps. g.rest ++ letters_of (target g.t) ps) sent)
      (asked ∙ ap (λ ps. asked_after w.asked (letters_of (target g.t) ps)) sent) unasked (back-answers g.l g.t m g.to_it reply) kind (ap (λ a. a.client) g.to_it) alike fly

  by-kind : (m : Message) → g.l.message ≡ m → HearsRightly (target_plan r g.t) g.s.opening g.s.memory g.reading g.l.from m (kept g.s) g.new (g.memory, g.did) → PromptsFly v
  by-kind (message.Fetch x op group ep first tracker read snapshot) is turn =
      spoken (ap is_prompt_kind is) (plain-spoken g.did.posts (fetch-left r h w v k g x op group ep first tracker read snapshot is turn).plain)
  by-kind (message.Commit x ep first tracker ws) is turn =
      spoken (ap is_prompt_kind is)
      (commit-spoken (target_plan r g.t) g.s.opening g.s.memory g.reading (commit_request x ep first tracker ws) g.l.from turn.last g.new (g.memory, g.did) (ap (λ a. a.client) (right.senders g.l x ep first tracker ws flies is)) turn.ends)
  by-kind (message.Prepare e first ws inc) is turn = by-ack (sent turn.last g.new (g.memory, g.did) turn.ends)
    where
      says : IsPrepareRight r h w g.l.from g.l.to e ws inc
      says = subst (IsSaidSo r h w g.l.from g.l.to) is (k.letters g.l flies)

      other : IsOther r e.attempt g.t
      other = subst (IsOther r e.attempt) (target-is says.way.member g.t (sym says.way.receiver ∙ g.to_it)) says.way.other

      back : target e.leader ≡ g.l.from
      back = ap target (ap (λ i. i.leader) says.entry) ∙ sym says.way.sender

      sent : (stage : _) (n : _) (left : _) → PrepareEnds (target_plan r g.t) g.s.opening g.s.memory (prepare_request e first ws inc) stage n left → (refusal : Option Outcome) × (left.1.posts ≡ record { to = target e.leader; message = message.Ack e.attempt inc refusal } ∷ [])
      sent stage n left (IsRefused n2 c left2 why ends) = (_, ap (λ i. i.1.posts) ends)
      sent stage n left (HasNoSpace n2 left2 allowed full ends) = (_, ap (λ i. i.1.posts) ends)
      sent stage n left (IsPrepared n2 left2 ends) = (_, ap (λ i. i.1.posts) ends)

      by-ack : (refusal : Option Outcome) × (g.did.posts ≡ record { to = target e.leader; message = message.Ack e.attempt inc refusal } ∷ []) → PromptsFly v
      by-ack z =
          answers (message.Ack e.attempt inc z.0) (subst (λ a. g.did.posts ≡ record { to = a; message = message.Ack e.attempt inc z.0 } ∷ []) back z.1) refl (ap is_prompt_kind is) replies
          (λ p wide prompt q i on. prepare-alike r h w k fly g.l q g.t e first ws inc z.0 p flies i other is prompt (back-answers g.l g.t (message.Ack e.attempt inc z.0) g.to_it replies) on)
        where
          replies : is_reply (message.Ack e.attempt inc z.0) g.l.message ≡ true
          replies = ap (is_reply (message.Ack e.attempt inc z.0)) is ∙ prepare-replies e first ws inc z.0
  by-kind (message.Ack x inc refusal) is turn =
      spoken (ap is_prompt_kind is)
      (ack.ack-speaks r h h w v g.t g.s g.here g.runs g.s.memory g.l g.rest g.takes g.to_it x inc refusal (ack-answers r g.l x inc refusal is) turn.last g.new (g.memory, g.did) turn.ends
      (path-keeps (AckNext (target_plan r g.t) g.s.memory g.l.from.number x inc refusal) (ack.AtAck r h h w v g.t g.s g.here g.runs g.s.memory g.l g.rest g.takes g.to_it x inc refusal (ack-answers r g.l x inc refusal is))
      (ack.ack-step r h h w v g.t g.s g.here g.runs g.s.memory g.l g.rest g.takes g.to_it x inc refusal (ack-answers r g.l x inc refusal is)) Heard (kept g.s) turn.reached.did turn.last g.new turn.reached.path (refl, turn-begins r h w v k g)))
  by-kind (message.Mark inc marks) is turn =
      answers (message.Marked inc (attempts_of marks)) (mark-answers r h w v k g inc marks is turn).sent refl (ap is_prompt_kind is) (ap (is_reply (message.Marked inc (attempts_of marks))) is ∙ mark-replies inc marks)
      (λ p wide prompt q i on. ap p (mark-alike r h w k g.l q g.t inc marks flies i g.to_it is on))
  by-kind (message.Marked inc ids) is turn = spoken (ap is_prompt_kind is) (plain-spoken g.did.posts (marked-left r h w v k g inc ids is turn).plain)
  by-kind (message.Query x ask) is turn =
      answers verdict (query-answers r h w v k g x ask is turn).sent refl (ap is_prompt_kind is) (ap (is_reply verdict) is ∙ query-replies x ask g.new.durable.incarnation fate)
      (λ p wide prompt q i on. ap p (query-alike g.l q g.t x ask g.new.durable.incarnation fate g.to_it is on))
    where
      fate : Verdict
      fate = query_answer x (leader_at (target_plan r g.t) g.s.memory g.new.durable)

      verdict : Message
      verdict = verdicts.verdict_message (target_plan r g.t) g.s.memory x ask g.new.durable
  by-kind (message.Verdict x ask inc c) is turn = spoken (ap is_prompt_kind is) (plain-spoken g.did.posts (verdict-left r h w v k g x ask inc c is turn).plain)
  by-kind m is turn = absurd turn

  pub hearing-prompts : PromptsFly v
  hearing-prompts = by-kind g.l.message refl g.turn

pub idling-prompts : (r : Rules) (h : History) (w v : World) → Ongoing r h w → PromptsFly w → (g : TargetIdles r w v) → PromptsFly v
idling-prompts r h w v k fly g =
    prompts-spoken w v (target g.t) g.did.posts w.messages (spoken-speaking (target g.t) g.did.posts (plain-spoken g.did.posts (idle-left r h w v k g).plain)) (ap (λ u. u.messages) g.after) (ap (λ u. u.asked) g.after) (λ p wide. refl) fly

-- ---- a client's turn

after-client : (r : Rules) (w : World) (n : ℕ) (m : Move) → PromptsFly w → PromptsFly (after_move w n m)
after-client r w n m fly = prompts-spoken w (after_move w n m) (client n) (listed m.post) w.messages (client-speaking (client n) (listed m.post) refl) refl refl (λ p wide. refl) fly

taken-by : (w : World) (n : ℕ) (l : Letter) (rest : List Letter) → Takes w.messages l rest → l.to ≡ client n → PromptsFly w → PromptsFly (without w rest)
taken-by w n l rest takes to fly p wide = let all = fly p wide in let same = taken-quietly w l rest takes (to_client-no_prompt l (ap (λ a. a.client) to)) p wide in omega (arith, all, same)

pub goes-prompts : (r : Rules) (w v : World) → PromptsFly w → ClientGoes r w v → PromptsFly v
goes-prompts r w v fly g = by-next r PromptsFly (λ u n c here p. after-client r u n (moved (client_plan r n) c) p) (λ u n i c here p. p) w v fly g

pub hears-prompts : (r : Rules) (w v : World) → PromptsFly w → ClientHears r w v → PromptsFly v
hears-prompts r w v fly g =
    by-hearing r PromptsFly (λ u n c here p. after-client r u n (moved (client_plan r n) c) p)
    (λ u n c l rest here awake takes to p. after-client r (without u rest) n (heard (client_plan r n) c l.message) (taken-by u n l rest takes to p)) w v fly g

-- ---- every right event

pub prompts-kept : (r : Rules) (h : History) (w v : World) → AskedRight r h w → Ongoing r h w → PromptsFly w → RightEvent r w v → PromptsFly v
prompts-kept r h w v right k fly (ByClient g) = goes-prompts r w v fly g
prompts-kept r h w v right k fly (ToClient g) = hears-prompts r w v fly g
prompts-kept r h w v right k fly (ToTarget g) = hearing-prompts r h w v right k fly g
prompts-kept r h w v right k fly (ByTarget g) = idling-prompts r h w v k fly g
