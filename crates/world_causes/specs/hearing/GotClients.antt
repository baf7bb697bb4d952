-- A client's turn keeps that clients were told what was served, also where it hears that what it asked was lost.
use Rattle.std.specs.Prelude.{ℕ, ◌≡◌, ◌<◌, ◌⊎◌, ◌++◌, ◌&&◌, Bool, true, false, List, Contains, slice_get, Option, Some, None, refl, if◌then◌else◌}
use Rattle.std.proofs.Common.{sym, ◌∙◌, ap, subst, append-nil, inl, inr}
use Rattle.base_types.specs.declared.outcome.Cause.TheVariants.{Unresolved}
use Rattle.base_types.specs.declared.outcome.Outcome.{Outcome}
use Rattle.base_types.specs.declared.outcome.Outcome.TheVariants as outcome
use Rattle.base_types.specs.declared.report.Attempt.{Attempt}
use Rattle.base_types.specs.declared.script.Command.{Command}
use Rattle.base_messages.specs.declared.message.Message.{Message, more_of-Message}
use Rattle.base_messages.specs.declared.message.Message.TheVariants as message
use Rattle.base_messages.specs.declared.message.Post.{Post}
use Rattle.base_messages.specs.declared.message.Reply.TheVariants as reply
use Rattle.daos_model.specs.Transactions.{ops_or_none, ops_of}
use Rattle.world_contents.specs.world_commit.attempts.History.{History}
use Rattle.world_base.specs.declared.client.ClientPlan.{ClientPlan}
use Rattle.world_base.specs.declared.client.ClientState.{ClientState}
use Rattle.world_base.specs.declared.client.Present.{Present}
use Rattle.world_base.specs.declared.letter.Letter.{Letter}
use Rattle.world_base.specs.declared.world.World.{World}
use Rattle.world_base.specs.ClientTurns.{Move, about, answered, ends, asks_again, attempt_id, goes, heard, heard_at, hears_epochs, is_about, knows, listed, replied, reset_by, rests}
use Rattle.world_base.specs.Events.{ClientGoes, ClientHears, Rules, client_plan, with_client}
use Rattle.world_base.specs.Letters.{Takes, client, is_tell, letters_of}
use Rattle.world_base.specs.StepLaws.{by-hearing, by-next}
use Rattle.world_base.specs.Steps.{KeptByCounting, KeptByHearing, KeptByMoves, after_move, without}
use Rattle.world_contents.specs.world_letters.clients.Standing.{HasTold}
use Rattle.world_contents.specs.world_letters.epochs.Epochs.{ClientsStand}
use Rattle.world_contents.specs.world_letters.epochs.EventLaws.{stands-by-counting, stands-by-hearing, stands-by-moves}
use Rattle.world_contents.specs.world_letters.epochs.Talking.{TalksOnce, silent-unless, taken-silent}
use Rattle.world_contents.specs.gots.GotLaws.{Here, KeepsGots, at-command, ends-gots, silent-gots, waits-gots, waits-served, IsServedHere}
use Rattle.world_contents.specs.gots.Gots.{Gots, IsServedAnswer}
use Rattle.world_contents.specs.gots.HearGots.{answer-gots, ended-gots, outcome-gots}
use Rattle.world_contents.specs.gots.StepGots.{AreFlying, gots-moved, here-of, is_fetched, sends-one, turned}
use Rattle.world_contents.specs.world_letters.talks.HearLaws.{replied-silent}
use Rattle.world_contents.specs.world_letters.talks.TalkLaws.{got-is-talk, left-is-among, none-among, taken-is-among}
use Rattle.base_types.specs.declared.answer.Answer.{Answer}
use Rattle.base_types.specs.declared.epoch.Epoch.{Epoch}
use Rattle.world_contents.specs.gots.MoreLaws.{knows-more}

-- a client in another state, but at the same attempt of the same command
pub same-here : (h : History) (p : ClientPlan) (c e : ClientState) (present : Option Present) → e.place ≡ c.place → e.command ≡ c.command → IsServedHere h p c present → IsServedHere h p e present
same-here h p c e None place command s = tt
same-here h p c e (Some a) place command s = rw (place, command) s

pub same-answer : (h : History) (p : ClientPlan) (c e : ClientState) (a : Present) (own : Option Epoch) (b : Answer) → e.place ≡ c.place → e.command ≡ c.command → IsServedAnswer p h c a own b → IsServedAnswer p h e a own b
same-answer h p c e a own b place command s = record { op = s.op; read = s.read; at = rw (place) (s.at); asks = s.asks; served = rw (command) (s.served) }

-- the attempt that waits, once it knows its epoch
pub known-here : (h : History) (p : ClientPlan) (c e : ClientState) (d : Command) (a : Present) (own : Option Epoch) → e.place ≡ c.place → e.command ≡ c.command → Here h p c d a → Here h p e d (knows own a)
known-here h p c e d a own place command k = record {
  at = record { at = rw (place) (k.at.at); numbers = rw (command) (k.at.numbers) };
  served = rw (command) (knows-more h (attempt_id p c a) p.targets (ops_of d) own a k.served);
}

-- what a move says is no answer of a read
abbrev AnswersNone : Option Post → Type 0
AnswersNone None = Unit {0}
AnswersNone (Some q) = is_fetched q.message ≡ false

module _ (r : Rules) (h : History) (w : World) (n : ℕ) (c : ClientState) (l : Letter) (rest : List Letter) (attempts : List Attempt) (k : Gots r h w) (here : slice_get w.clients n ≡ Some c) (takes : Takes w.messages l rest) (to : l.to ≡ client n)
    (told : HasTold (client_plan r n) c attempts) (once : TalksOnce w) where
  abbrev p : ClientPlan
  p = client_plan r n

  abbrev c2 : ClientState
  c2 = hears_epochs l.message c

  -- It is told what was served, and says no answer. What it hears is of its conversation, or it stays as it was.
  record HearsSo (m : Move) : Type 0 where
    keeps : KeepsGots h p m
    none : AnswersNone m.post
    stays : (m.state ≡ c2) ⊎ (is_tell l.message ≡ false)

  at : (a : Present) → c.present ≡ Some a → (d : Command) × Here h p c d a
  at a present = at-command h p c a attempts told present (here-of r h w n c k here)

  -- it hears epochs alone
  goes-so : HearsSo (goes c2)
  goes-so = record { keeps = silent-gots h p (goes c2) refl (same-here h p c c2 c.present refl refl (here-of r h w n c k here)); none = tt; stays = inl refl }

  none-so : (m : Move) → m.post ≡ None → AnswersNone m.post
  none-so m is = subst AnswersNone (sym is) tt

  -- what it asked is lost, or what became of its attempt
  free-here : (a : Present) (d : Command) → Here h p c d a → Here h p c2 d (record a { waits = false })
  free-here a d i = record { at = record { at = i.at.at; numbers = i.at.numbers }; served = waits-served h (attempt_id p c a) p.targets _ false a i.served }

  lost-so : (a : Present) (how : Outcome) → c.present ≡ Some a → is_tell l.message ≡ false → HearsSo (ends p c2 (record a { waits = false }) how)
  lost-so a how present tells =
      let i = at a present in
      let f = free-here a i.0 i.1 in
      record { keeps = ends-gots h p c2 i.0 (record a { waits = false }) how f.at f.served.told; none = tt; stays = inr tells }

  asks-so : (a : Present) (t : ℕ) → c.present ≡ Some a → is_tell l.message ≡ false → HearsSo (asks_again p c2 (record a { waits = false }) t)
  asks-so a t present tells =
      let i = at a present in record { keeps = waits-gots h p c2 i.0 (record a { waits = false }) (asks_again p c2 (record a { waits = false }) t) (free-here a i.0 i.1) refl refl; none = refl; stays = inr tells }

  reset-so : (a : Present) (t : ℕ) (down : Bool) (q : Message) → c.present ≡ Some a → is_tell l.message ≡ false → HearsSo (reset_by p c2 (record a { waits = false }) t down q)
  reset-so a t true q present tells = lost-so a (outcome.Unknown t) present tells
  reset-so a t false (message.Commit x e first tracker ws) present tells = asks-so a t present tells
  reset-so a t false (message.Ask x) present tells = asks-so a t present tells
  reset-so a t false q present tells = lost-so a (outcome.Restart (Unresolved (attempt_id p c2 (record a { waits = false })))) present tells

  answered-so : (a : Present) (m : Message) → l.message ≡ m → c.present ≡ Some a → HearsSo (answered p c2 a m)
  answered-so a (message.Fetched x op group own (reply.Answer b)) is present =
      let i = at a present in
      let f : IsServedAnswer p h c a own b = k.flying n c a l x op group own b here present (taken-is-among w.messages l rest takes) to is in
      record {
        keeps = answer-gots h p c2 i.0 (knows own a) f.op f.read b (known-here h p c c2 i.0 a own refl refl i.1) (subst (λ o. slice_get (ops_or_none o) a.op ≡ Some f.op) i.1.at.at f.at) f.asks f.served;
        none = none-so (replied p c2 (knows own a) (reply.Answer b)) (replied-silent p c2 (knows own a) (reply.Answer b) refl).no_post;
        stays = inr (ap is_tell is);
      }
  answered-so a (message.Fetched x op group own (reply.Outcome how)) is present =
      let i = at a present in
      record { keeps = outcome-gots h p c2 i.0 (knows own a) how (known-here h p c c2 i.0 a own refl refl i.1); none = none-so (replied p c2 (knows own a) (reply.Outcome how)) (replied-silent p c2 (knows own a) (reply.Outcome how) refl).no_post; stays = inr (ap is_tell is) }
  answered-so a (message.Ended x own how) is present =
      let i = at a present in
      record { keeps = ended-gots h p c2 i.0 (knows own a) own how (known-here h p c c2 i.0 a own refl refl i.1); none = tt; stays = inr (ap is_tell is) }
  answered-so a (message.Reset' t down place (more_of-Message q end)) is present = reset-so a t down q present (ap is_tell is)
  answered-so a m is present = goes-so

  hears-so : HearsSo (heard p c l.message)
  unfolding heard
  hears-so = by c.present refl
    where
      about-so : (a : Present) → c.present ≡ Some a → (b : Bool) → HearsSo (if b then answered p c2 a l.message else goes c2)
      about-so a present true = answered-so a l.message refl present
      about-so a present false = goes-so

      by : (o : Option Present) → c.present ≡ o → HearsSo (heard_at p c2 l.message o)
      by None none = goes-so
      by (Some a) present = about-so a present (a.waits && is_about (attempt_id p c2 a) (about l.message))

  abbrev m : Move
  m = heard p c l.message

  -- the answers that are in flight then were
  letters : (o : Option Post) → AnswersNone o → (x : Letter) → Contains (rest ++ letters_of (client n) (listed o)) x → is_fetched x.message ≡ true → Contains rest x
  letters None none x i answer = subst (λ ls. Contains ls x) (append-nil rest) i
  letters (Some q) none x i answer = sends-one rest n (Some q) q refl none x i answer

  flies : AreFlying h p n m.state (rest ++ letters_of (client n) (listed m.post))
  flies a x y op group own b present i goes-to is = by hears-so.stays
    where
      left : Contains rest x
      left = letters m.post hears-so.none x i (ap is_fetched is)

      by : (m.state ≡ c2) ⊎ (is_tell l.message ≡ false) → IsServedAnswer p h m.state a own b
      by (inl same) =
          subst (λ s. IsServedAnswer p h s a own b) (sym same)
          (same-answer h p c c2 a own b refl refl (k.flying n c a x y op group own b here (ap (λ s. s.present) (sym same) ∙ present) (left-is-among w.messages l rest x takes left) goes-to is))
      by (inr tells) = absurd (none-among n rest x (taken-silent w n c l rest once here takes (got-is-talk n l tells to)) left (got-is-talk n x (ap is_tell is) goes-to))

  pub heard-gots : Gots r h (after_move (without w rest) n (heard p c l.message))
  heard-gots = turned r h w (after_move (without w rest) n m) n c m k here refl refl (λ x i answer. left-is-among w.messages l rest x takes (letters m.post hears-so.none x i answer)) hears-so.keeps flies

-- ---- a client's turn

-- what holds of clients together, where this is said of conversations
abbrev pub ClientsTold : Rules → History → (World → Type 0) → World → Type 0
ClientsTold r h Talk w = Talk w × ClientsStand r w × Gots r h w

module _ (r : Rules) (h : History) (some : 0 < r.attempts) (Talk : World → Type 0) (once : (w : World) → Talk w → TalksOnce w) (moves : KeptByMoves r Talk) (hearing : KeptByHearing r Talk) (counting : KeptByCounting Talk) where
  moves-told : KeptByMoves r (ClientsTold r h Talk)
  moves-told w n c here k =
      let s = k.1 n c here in
      (moves w n c here k.0, stands-by-moves r some w n c here k.1, gots-moved r h w n c s.0 here (λ idle. silent-unless w n c (once w k.0) here idle) s.1 k.2)

  hearing-told : KeptByHearing r (ClientsTold r h Talk)
  hearing-told w n c l rest here awake takes to k =
      let s = k.1 n c here in
      (hearing w n c l rest here awake takes to k.0, stands-by-hearing r some w n c l rest here awake takes to k.1, heard-gots r h w n c l rest s.0 k.2 here takes to s.1 (once w k.0))

  counting-told : KeptByCounting (ClientsTold r h Talk)
  counting-told w n i c here k =
      let d = record c { skip = i } in (
        counting w n i c here k.0,
        stands-by-counting r some w n i c here k.1,
        turned r h w (with_client n d w) n c (rests d) k.2 here refl (sym (append-nil w.lines)) (λ x j answer. j)
            (silent-gots h (client_plan r n) (rests d) refl (same-here h (client_plan r n) c d c.present refl refl (here-of r h w n c k.2 here)))
            (λ a l x op group own b present j to is. same-answer h (client_plan r n) c d a own b refl refl (k.2.flying n c a l x op group own b here present j to is)),
      )

  pub client-goes-told : (w v : World) → ClientsTold r h Talk w → ClientGoes r w v → Gots r h v
  client-goes-told w v k g = (by-next r (ClientsTold r h Talk) moves-told counting-told w v k g).2

  pub client-hears-told : (w v : World) → ClientsTold r h Talk w → ClientHears r w v → Gots r h v
  client-hears-told w v k g = (by-hearing r (ClientsTold r h Talk) moves-told hearing-told w v k g).2
