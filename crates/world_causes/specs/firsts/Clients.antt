-- A client's turn keeps first epochs.
use Rattle.std.specs.Prelude.{ℕ, ◌≡◌, ◌≤◌, ◌<◌, ◌+◌, ◌++◌, ◌⊎◌, ◌&&◌, Bool, true, false, is_some, List, [], ◌∷◌, map, Contains, slice_get, Option, Some, None, refl, if◌then◌else◌}
use Rattle.std.proofs.Common.{inl, inr, sym, ◌∙◌, ap, subst, arith}
use Rattle.std.proofs.lemmas.Bool.{cases_eq}
use Rattle.base_types.specs.declared.epoch.Epoch.{Epoch}
use Rattle.base_types.specs.declared.id.AttemptId.{AttemptId}
use Rattle.base_types.specs.declared.outcome.Outcome.{Outcome}
use Rattle.base_types.specs.declared.report.Attempt.{Attempt}
use Rattle.base_types.specs.declared.report.Line.{Line}
use Rattle.base_types.specs.declared.report.Line.TheVariants as line
use Rattle.base_types.specs.declared.script.Command.{Command}
use Rattle.base_messages.specs.declared.message.Message.{Message, more_of-Message}
use Rattle.base_messages.specs.declared.message.Message.TheVariants as message
use Rattle.base_messages.specs.declared.message.Post.{Post}
use Rattle.base_messages.specs.declared.message.Reply.{Reply}
use Rattle.base_messages.specs.declared.message.Reply.TheVariants as reply
use Rattle.daos_model.specs.Attempts.{is_lost, is_restart, snapshot_of_command, snapshot_or_none, tries}
use Rattle.daos_model.specs.BoolLaws.{and_right, clash}
use Rattle.daos_model.specs.EntryLaws.{same_attempt-itself}
use Rattle.daos_model.specs.Laws.{tries-append}
use Rattle.daos_model.specs.Transactions.{command_of, numbered, numbered_at}
use Rattle.base_types.specs.Scripts.{is_numbered}
use Rattle.world_contents.specs.world_letters.clients.AnswerLaws.{numbered-here}
use Rattle.model_laws.specs.EntryLaws.{same-attempt}
use Rattle.model_laws.specs.Members.{Has, contains-from_has, has-cases, has-from_contains, has-from_map, has-right}
use Rattle.world_base.specs.declared.client.ClientPlan.{ClientPlan}
use Rattle.world_base.specs.declared.client.ClientState.{ClientState}
use Rattle.world_base.specs.declared.client.Present.{Present}
use Rattle.world_base.specs.declared.letter.Letter.{Letter}
use Rattle.world_base.specs.declared.world.World.{World}
use Rattle.world_base.specs.ClientTurns.{Move, about, answered, attempt_id, command_at, first_epoch, goes, heard, heard_at, hears_epochs, is_about, knows, knows_epoch, listed, moved, replied, reset_by, ended, waits}
use Rattle.world_base.specs.Events.{Rules, client_plan, commands_or_none, or_issued, with_epoch}
use Rattle.world_base.specs.Letters.{client, letter_of, letters_of}
use Rattle.world_base.specs.StepLaws.{set-here}
use Rattle.world_base.specs.Steps.{KeptByCounting, KeptByHearing, KeptByMoves, after_client, without}
use Rattle.world_causes.specs.causes.Causes.{Dated}
use Rattle.world_causes.specs.causes.Growth.{at-set}
use Rattle.world_causes.specs.causes.Shown.{AreLostBefore, IsFirstOf, WasLost}
use Rattle.world_contents.specs.world_letters.clients.MoveLaws.{is-at}
use Rattle.world_contents.specs.world_letters.clients.Snapshots.{at-same, is_at_snapshot}
use Rattle.world_contents.specs.world_letters.clients.Standing.{HasTold}
use Rattle.world_contents.specs.world_letters.endings.Clients.{IsQuestion, heard-asks}
use Rattle.world_contents.specs.world_letters.epochs.Epochs as epochs
use Rattle.world_contents.specs.world_letters.epochs.Epochs.{ClientsStand, Epochs, IsIssued, IsOwn, IsSeen}
use Rattle.world_contents.specs.world_letters.epochs.EventLaws.{stands-by-counting, stands-by-hearing, stands-by-moves}
use Rattle.world_contents.specs.world_letters.talks.AskLaws.{move-is, waiting-rests}
use Rattle.world_contents.specs.world_letters.talks.Asked.{ARead, ASnapshot, AnAggregation, Asked, Asking, IsMove, ItsWrites, Silent, Telling}
use Rattle.world_contents.specs.world_letters.talks.TalkLaws.{left-is-among, taken-is-among}
use Rattle.world_causes.specs.firsts.Firsts.{Firsts, IsKept, Keeps, MessageTells}
use Rattle.world_causes.specs.firsts.Keeping.{IsMore, follows-keeps, kept-stays, lines-only, lost-of, tells-stay}
use Rattle.world_causes.specs.firsts.Moves.{Begins, GoesFrom, IfRestart, IsNew, IsNext, IsNone, IsOver, IsSame, LeadsOn, MovesOn, ReplyMayRestart, Stays, ended-leads, moved-moves, replied-leads, reset-by_leads}

-- ---- the answers that clients hear

-- what an answer tells as the own epoch of its attempt
abbrev pub Answers : Message → AttemptId → Epoch → Type 0
Answers (message.Fetched x op group (Some own) b) y e = (x ≡ y) × (own ≡ e)
Answers (message.Ended x (Some own) how) y e = (x ≡ y) × (own ≡ e)
Answers m y e = ⊥

-- it was issued to it, but where that reads at a snapshot
abbrev pub AnswersBear : Rules → World → Type 0
AnswersBear r w = (l : Letter) (x : AttemptId) (e : Epoch) → Contains w.messages l → Answers l.message x e → is_at_snapshot r x ≡ false → IsIssued w x e

pub answers-bear : (r : Rules) (top : ℕ) (w : World) → Epochs r top w → AnswersBear r w
answers-bear r top w E l x e i answers off = elim (E.borne l x e i (bears l.message answers)) [ IsOwn k ↦ k | IsSeen k ↦ clash (is_at_snapshot r x) (ap is_some k.reads) off ]
  where
    bears : (m : Message) → Answers m x e → epochs.GoesWith m x e
    bears (message.Fetched y op group (Some own) b) k = k
    bears (message.Ended y (Some own) how) k = k
    bears m k = absurd k

-- ---- where a client is

-- the command of an attempt that a client is at
command-is : (r : Rules) (n : ℕ) (c : ClientState) (a : Present) (d : Command) (attempts : List Attempt) → HasTold (client_plan r n) c attempts → command_at (client_plan r n) c ≡ Some d → is_numbered d ≡ true
    → command_of r.script (attempt_id (client_plan r n) c a) ≡ Some d
unfolding command_of
command-is r n c a d attempts told at number = at-option (slice_get r.script.clients n) c.command ∙ ap (slice_get (numbered (client_plan r n).commands)) told.numbers ∙ numbered-here (client_plan r n) c.place d at number
  where
    at-option : (o : Option (List Command)) (k : ℕ) → numbered_at k o ≡ slice_get (numbered (commands_or_none o)) k
    at-option None k = refl
    at-option (Some list) k = refl

-- the command that a client is at decides whether its attempt reads at a snapshot
snapshot-is : (r : Rules) (n : ℕ) (c : ClientState) (a : Present) (d : Command) (attempts : List Attempt) → HasTold (client_plan r n) c attempts → c.present ≡ Some a → command_at (client_plan r n) c ≡ Some d
    → is_at_snapshot r (attempt_id (client_plan r n) c a) ≡ is_some (snapshot_of_command d)
snapshot-is r n c a d attempts told here at = ap is_some (ap snapshot_or_none (command-is r n c a d attempts told at (let k = is-at (client_plan r n) c a attempts here told in let same : Some k.0 ≡ Some d = sym k.1.at ∙ at in let one : k.0 ≡ d = cc in subst (λ z. is_numbered z ≡ true) one k.1.numbered)))

-- an attempt of which nothing is done has no epoch, but where it reads at a snapshot
new-undated : (r : Rules) (n : ℕ) (c : ClientState) (b : Present) (attempts : List Attempt) → HasTold (client_plan r n) c attempts → c.present ≡ Some b → IsNew (client_plan r n) c b → is_at_snapshot r (attempt_id (client_plan r n) c b) ≡ false → b.epoch ≡ None
new-undated r n c b attempts told here k off = by (snapshot_of_command k.command) refl
  where
    by : (o : Option (List ℕ)) → snapshot_of_command k.command ≡ o → b.epoch ≡ None
    by None is = k.epoch ∙ ap (first_epoch k.known) is
    by (Some name) is = clash (is_at_snapshot r (attempt_id (client_plan r n) c b)) (snapshot-is r n c b k.command attempts told here k.at ∙ ap is_some is) off

-- ---- what is sent

weaker : (issued : Dated) (lines : List Line) (x : AttemptId) (own first : Option Epoch) → IsKept issued lines x own first → IsFirstOf issued lines x first
weaker issued lines x own None k = k.0
weaker issued lines x own (Some f) k = k

-- what a client sends, which is no answer
abbrev pub SendsSo : Rules → Dated → List Line → Message → Type 0
SendsSo r issued lines m = MessageTells r issued lines m × ((x : AttemptId) (e : Epoch) → Answers m x e → ⊥)

abbrev pub PostsSo : Rules → Dated → List Line → List Post → Type 0
PostsSo r issued lines posts = (q : Post) → Has q posts → SendsSo r issued lines q.message

module _ (r : Rules) (issued : Dated) (lines : List Line) where
  none-so : (o : Option Post) → o ≡ None → PostsSo r issued lines (listed o)
  none-so o e q i = absurd (subst (λ z. Has q (listed z)) e i)

  one-so : (o : Option Post) (s : Post) → o ≡ Some s → SendsSo r issued lines s.message → PostsSo r issued lines (listed o)
  one-so o s e t q i = elim (subst (λ z. Has q (listed z)) e i) [ inl same ↦ subst (λ x. SendsSo r issued lines x.message) (sym same) t | inr j ↦ absurd j ]

  asked-so : (n : ℕ) (k : Epoch) (c : ClientState) (a : Present) (q : Post) → Keeps r issued lines n c a → Asked (client_plan r n) k c a q → SendsSo r issued lines q.message
  asked-so n k c a q kept (ARead ops turns snapshot op z at is asks says) =
      subst (λ x. SendsSo r issued lines x.message) (sym says) (λ off. weaker issued lines (attempt_id (client_plan r n) c a) a.epoch a.first (kept off), λ x e h. h)
  asked-so n k c a q kept (ItsWrites ops turns snapshot m ms at last all says) =
      subst (λ x. SendsSo r issued lines x.message) (sym says) (λ off. weaker issued lines (attempt_id (client_plan r n) c a) a.epoch a.first (kept off), λ x e h. h)
  asked-so n k c a q kept (ASnapshot name cont at says) = subst (λ x. SendsSo r issued lines x.message) (sym says) (tt, λ x e h. h)
  asked-so n k c a q kept (AnAggregation cont at says) = subst (λ x. SendsSo r issued lines x.message) (sym says) (tt, λ x e h. h)

  move-so : (n : ℕ) (c : ClientState) → ((a : Present) → c.present ≡ Some a → Keeps r issued lines n c a) → PostsSo r issued lines (listed (moved (client_plan r n) c).post)
  move-so n c kept = by (waits c) refl
    where
      is-a : IsMove (client_plan r n) c (moved (client_plan r n) c) → PostsSo r issued lines (listed (moved (client_plan r n) c).post)
      is-a (Silent free none) = none-so (moved (client_plan r n) c).post none
      is-a (Telling m none free says) = one-so (moved (client_plan r n) c).post _ says (tt, λ x e h. h)
      is-a (Asking a q at asked says state) = one-so (moved (client_plan r n) c).post q says (asked-so n c.tracker c a q (kept a at) asked)

      by : (b : Bool) → waits c ≡ b → PostsSo r issued lines (listed (moved (client_plan r n) c).post)
      by true h = none-so (moved (client_plan r n) c).post (ap (λ m. m.post) (waiting-rests (client_plan r n) c h))
      by false h = is-a (move-is (client_plan r n) c h)

  question-so : (o : Option Post) → IsQuestion o → PostsSo r issued lines (listed o)
  question-so None asks q i = absurd i
  question-so (Some s) asks q (inl same) = subst (SendsSo r issued lines) (sym (ap (λ x. x.message) same ∙ asks.1)) (tt, λ x e h. h)
  question-so (Some s) asks q (inr none) = absurd none

-- ---- from one attempt to the next

-- two numbers, the one below the other's successor
cases : (k n : ℕ) → k < n + 1 → (k < n) ⊎ (k ≡ n)
cases k n low = by (cases_eq k n)
  where
    by : (k ≡ n) ⊎ ((k ≡ n) → ⊥) → (k < n) ⊎ (k ≡ n)
    by (inl same) = inr same
    by (inr apart) = inl (omega (arith, low, apart))

under : (k n m : ℕ) → k ≤ n → m ≡ n + 1 → k ≤ m
under k n m low is = omega (arith, low, is)

kept-like : (issued : Dated) (lines : List Line) (x y : AttemptId) (own own2 first first2 : Option Epoch) → x ≡ y → own ≡ own2 → first ≡ first2 → IsKept issued lines x own first → IsKept issued lines y own2 first2
kept-like issued lines x y own own2 first first2 same o f k = subst (λ z. IsKept issued lines z own2 first2) same (subst (λ z. IsKept issued lines x z first2) o (subst (IsKept issued lines x own) f k))

-- a line that was added tells of an attempt
told-here : (issued : Dated) (lines : List Line) (o : Option Line) (t : Attempt) → o ≡ Some (line.Try t) → Has (record t { epoch = or_issued issued t.id t.epoch }) (tries (lines ++ map (with_epoch issued) (listed o)))
unfolding tries
told-here issued lines o t is =
    subst (λ z. Has now (tries (lines ++ map (with_epoch issued) (listed z)))) (sym is)
    (subst (Has now) (sym (tries-append lines (line.Try now ∷ []))) (has-right (tries lines) (now ∷ []) now (inl refl)))
  where
    now : Attempt
    now = record t { epoch = or_issued issued t.id t.epoch }

module _ (r : Rules) (issued : Dated) (lines : List Line) (n : ℕ) where
  abbrev After : Move → List Line
  After m = lines ++ map (with_epoch issued) (listed m.line)

  lines-more : (m : Move) → IsMore issued issued lines (After m)
  lines-more m = lines-only issued lines (map (with_epoch issued) (listed m.line))

  -- an attempt that a client goes on with, or the next one
  leads-kept : (MayRestart : Outcome → Type 0) (c : ClientState) (a : Present) (m : Move) (attempts : List Attempt) → LeadsOn (client_plan r n) MayRestart c a m → HasTold (client_plan r n) m.state attempts → Keeps r issued lines n c a
      → ((how : Outcome) → MayRestart how → is_at_snapshot r (attempt_id (client_plan r n) c a) ≡ false → a.first ≡ None → is_lost (attempt_id (client_plan r n) c a) how ≡ true)
      → (b : Present) → m.state.present ≡ Some b → Keeps r issued (After m) n m.state b
  leads-kept MayRestart c a m attempts (IsSame z at command number first epoch) told kept lost b here off =
      let is : Some z ≡ Some b = sym at ∙ here in
      let one : z ≡ b = cc in
      let same : attempt_id (client_plan r n) c a ≡ attempt_id (client_plan r n) m.state b = sym (ap (λ k. made k a.attempt) command) ∙ ap (λ k. made m.state.command k) (sym number ∙ ap (λ q. q.attempt) one) in
      kept-like issued (After m) (attempt_id (client_plan r n) c a) (attempt_id (client_plan r n) m.state b) a.epoch b.epoch a.first b.first same (sym epoch ∙ ap (λ q. q.epoch) one) (sym first ∙ ap (λ q. q.first) one)
      (kept-stays r issued issued lines (After m) (lines-more m) (attempt_id (client_plan r n) c a) a.epoch a.first (kept (ap (is_at_snapshot r) same ∙ off)))
    where
      made : ℕ → ℕ → AttemptId
      made k l = record { client = n; command = k; attempt = l }
  leads-kept MayRestart c a m attempts (IsOver none) told kept lost b here off = let no : ⊥ = cc (none, here) in absurd no
  leads-kept MayRestart c a m attempts (IsNext t z tells id restarts may at command number first new) told kept lost b here off = subst (IsKept issued (After m) y b.epoch) (sym from) (by a.first refl (kept was))
    where
      x : AttemptId
      x = attempt_id (client_plan r n) c a

      y : AttemptId
      y = attempt_id (client_plan r n) m.state b

      one : z ≡ b
      one = let is : Some z ≡ Some b = sym at ∙ here in cc

      from : b.first ≡ a.first
      from = ap (λ q. q.first) (sym one) ∙ first

      next : b.attempt ≡ a.attempt + 1
      next = ap (λ q. q.attempt) (sym one) ∙ number

      was : is_at_snapshot r x ≡ false
      was = at-same r x y refl (sym command) ∙ off

      -- of another attempt of the command
      moved-to : (k : ℕ) → record x { attempt = k } ≡ record y { attempt = k }
      moved-to k = ap (λ q. made q k) (sym command)
        where
          made : ℕ → ℕ → AttemptId
          made q l = record { client = n; command = q; attempt = l }

      earlier : (k : ℕ) → WasLost lines (record x { attempt = k }) → WasLost (After m) (record y { attempt = k })
      earlier k w = subst (WasLost (After m)) (moved-to k) ((lines-more m).lost (record x { attempt = k }) w)

      by : (o : Option Epoch) → a.first ≡ o → IsKept issued lines x a.epoch o → IsKept issued (After m) y b.epoch o
      by None none k = (before, new-undated r n m.state b attempts told here (subst (IsNew (client_plan r n) m.state) one new) off)
        where
          itself : WasLost (After m) x
          itself = lost-of (After m) x (record t { epoch = or_issued issued t.id t.epoch }) (told-here issued lines m.line t tells) id (subst (λ q. is_lost q t.outcome ≡ true) (sym id) (lost t.outcome may was none))

          before : AreLostBefore (After m) y
          before j low = elim (cases j a.attempt (subst (λ q. j < q) next low)) [
            | inl less ↦ earlier j (k.0 j less)
            | inr same ↦ subst (WasLost (After m)) (ap (λ q. record x { attempt = q }) (sym same) ∙ moved-to j) itself
          ]
      by (Some f) some k = record {
        number = k.number;
        early = let low : k.number ≤ a.attempt = k.early in let is : b.attempt ≡ a.attempt + 1 = next in under k.number a.attempt b.attempt low is;
        its = subst (λ q. Contains issued (q, f)) (moved-to k.number) k.its;
        lost = λ j low. earlier j (k.lost j low);
      }

  -- ---- what is heard

  module _ (c : ClientState) (a : Present) (here : c.present ≡ Some a) (kept : Keeps r issued lines n c a) where
    abbrev x : AttemptId
    x = attempt_id (client_plan r n) c a

    knows-kept : (own : Option Epoch) → ((g : Epoch) → own ≡ Some g → is_at_snapshot r x ≡ false → Contains issued (x, g)) → is_at_snapshot r x ≡ false → IsKept issued lines x (knows own a).epoch (knows own a).first
    knows-kept own bears off = by a.epoch a.first (kept off)
      where
        new : (o : Option Epoch) → own ≡ o → AreLostBefore lines x → IsKept issued lines x o o
        new None e before = (before, refl)
        new (Some g) e before = record { number = a.attempt; early = omega arith; its = bears g e off; lost = before }

        by : (known first : Option Epoch) → IsKept issued lines x known first → IsKept issued lines x (knows_epoch known own) (if is_some known then first else knows_epoch first own)
        by (Some g) None k = let bad : Some g ≡ None = k.1 in let no : ⊥ = cc in absurd no
        by (Some g) (Some f) k = k
        by None (Some f) k = k
        by None None k = new own refl k.0

    -- where no first epoch is known after an answer, that bears none
    none-borne : (own : Option Epoch) → ((g : Epoch) → own ≡ Some g → is_at_snapshot r x ≡ false → Contains issued (x, g)) → is_at_snapshot r x ≡ false → (knows own a).first ≡ None → own ≡ None
    none-borne own bears off none = of-none a.epoch (subst (IsKept issued lines x (knows own a).epoch) none (knows-kept own bears off)).1
      where
        of-none : (o : Option Epoch) → knows_epoch o own ≡ None → own ≡ None
        of-none None h = h
        of-none (Some g) h = let no : ⊥ = cc in absurd no

-- how it may restart
abbrev pub LostUnlessKnown : Rules → AttemptId → Present → Outcome → Type 0
LostUnlessKnown r x a how = is_at_snapshot r x ≡ false → a.first ≡ None → is_lost x how ≡ true

-- ---- a turn's parts

module _ (r : Rules) (w : World) (n : ℕ) (c : ClientState) (l : Letter) (among : Contains w.messages l) (here : slice_get w.clients n ≡ Some c) (F : Firsts r w) (B : AnswersBear r w) where
  abbrev p : ClientPlan
  p = client_plan r n

  abbrev now : ClientState
  now = hears_epochs l.message c

  -- what the client keeps once it heard it
  abbrev KeptBy : Move → Type 0
  KeptBy m = (b : Present) → m.state.present ≡ Some b → Keeps r w.issued (w.lines ++ map (with_epoch w.issued) (listed m.line)) n m.state b

  goes-kept : KeptBy (goes now)
  goes-kept b at off = kept-stays r w.issued w.issued w.lines (w.lines ++ []) (lines-only w.issued w.lines []) (attempt_id p c b) b.epoch b.first (F.clients n c b here at off)

  module _ (attempts : List Attempt) (a : Present) (at : c.present ≡ Some a) where
    abbrev mine : AttemptId
    mine = attempt_id p c a

    kept : Keeps r w.issued w.lines n c a
    kept = F.clients n c a here at

    -- by an answer that bears this epoch
    answer-kept : (own : Option Epoch) (m : Move) → HasTold p m.state attempts → ((g : Epoch) → own ≡ Some g → is_at_snapshot r mine ≡ false → Contains w.issued (mine, g)) → LeadsOn p (LostUnlessKnown r mine (knows own a)) now (knows own a) m → KeptBy m
    answer-kept own m told bears leads =
        leads-kept r w.issued w.lines n (LostUnlessKnown r mine (knows own a)) now (knows own a) m attempts leads told (knows-kept r w.issued w.lines n c a at kept own bears) (λ how may off none. may off none)

    -- by an answer that is about it
    by-answer : (m : Message) → l.message ≡ m → is_about mine (about m) ≡ true → HasTold p (answered p now a m).state attempts → KeptBy (answered p now a m)
    by-answer (message.Fetched y op group own b) is its told = answer-kept own (replied p now (knows own a) b) told bears (replied-leads p (LostUnlessKnown r mine (knows own a)) now (knows own a) b (may b refl))
      where
        same : mine ≡ y
        same = same-attempt mine y its

        bears : (g : Epoch) → own ≡ Some g → is_at_snapshot r mine ≡ false → Contains w.issued (mine, g)
        bears g e off = B l mine g among (subst (λ q. Answers q mine g) (sym (is ∙ ap (λ o. message.Fetched y op group o b) e)) (sym same, refl)) off

        may : (q : Reply) → b ≡ q → ReplyMayRestart p (LostUnlessKnown r mine (knows own a)) q
        may (reply.Answer z) e = tt
        may (reply.Outcome how) e = λ restarts off none.
            let undated = none-borne r w.issued w.lines n c a at kept own bears off none in
            let quiet : is_restart how ≡ false = subst (MessageTells r w.issued w.lines) (is ∙ ap (λ o. message.Fetched y op group o b) undated ∙ ap (λ q. message.Fetched y op group None q) e) (F.flight l among) in
            clash (is_restart how) restarts quiet
    by-answer (message.Ended y own how) is its told = answer-kept own (ended p now (knows own a) own how) told bears (ended-leads p (LostUnlessKnown r mine (knows own a)) now (knows own a) own how may)
      where
        same : mine ≡ y
        same = same-attempt mine y its

        bears : (g : Epoch) → own ≡ Some g → is_at_snapshot r mine ≡ false → Contains w.issued (mine, g)
        bears g e off = B l mine g among (subst (λ q. Answers q mine g) (sym (is ∙ ap (λ o. message.Ended y o how) e)) (sym same, refl)) off

        may : IfRestart (LostUnlessKnown r mine (knows own a)) how
        may restarts off none =
            let undated = none-borne r w.issued w.lines n c a at kept own bears off none in
            let lost : is_restart how ≡ true → is_lost y how ≡ true = subst (MessageTells r w.issued w.lines) (is ∙ ap (λ o. message.Ended y o how) undated) (F.flight l among) in
            subst (λ q. is_lost q how ≡ true) (sym same) (lost restarts)
    by-answer (message.Reset' t down place (more_of-Message q rest)) is its told =
        leads-kept r w.issued w.lines n (LostUnlessKnown r mine (record a { waits = false })) now (record a { waits = false }) (reset_by p now (record a { waits = false }) t down q) attempts
        (reset-by_leads p (LostUnlessKnown r mine (record a { waits = false })) now (record a { waits = false }) t down q (λ restarts off none. same_attempt-itself mine)) told kept (λ how may off none. may off none)
    by-answer m is its told = goes-kept

  -- whatever it hears
  heard-kept : (attempts : List Attempt) → HasTold p (heard p c l.message).state attempts → KeptBy (heard p c l.message)
  unfolding heard
  heard-kept attempts told = at c.present refl told
    where
      at : (o : Option Present) → c.present ≡ o → HasTold p (heard_at p now l.message o).state attempts → KeptBy (heard_at p now l.message o)
      at None is told = goes-kept
      at (Some a) is told = by (a.waits && is_about (attempt_id p now a) (about l.message)) refl told
        where
          by : (b : Bool) → (a.waits && is_about (attempt_id p now a) (about l.message)) ≡ b → HasTold p (if b then answered p now a l.message else goes now).state attempts → KeptBy (if b then answered p now a l.message else goes now)
          by true e told = by-answer attempts a is l.message refl (and_right a.waits (is_about (attempt_id p now a) (about l.message)) e) told
          by false e told = goes-kept

-- a move of a client
moved-kept : (r : Rules) (w : World) (n : ℕ) (c : ClientState) (attempts : List Attempt) → slice_get w.clients n ≡ Some c → Firsts r w → HasTold (client_plan r n) (moved (client_plan r n) c).state attempts
    → (b : Present) → (moved (client_plan r n) c).state.present ≡ Some b → Keeps r w.issued (w.lines ++ map (with_epoch w.issued) (listed (moved (client_plan r n) c).line)) n (moved (client_plan r n) c).state b
moved-kept r w n c attempts here F told b at = by (moved-moves (client_plan r n) (λ how. ⊥) c)
  where
    m : Move
    m = moved (client_plan r n) c

    by : MovesOn (client_plan r n) (λ how. ⊥) c m → Keeps r w.issued (w.lines ++ map (with_epoch w.issued) (listed m.line)) n m.state b
    by (IsNone none) off = let no : ⊥ = cc (none, at) in absurd no
    by (Stays present command) off = kept-like w.issued _ (attempt_id (client_plan r n) c b) (attempt_id (client_plan r n) m.state b) b.epoch b.epoch b.first b.first same refl refl
        (kept-stays r w.issued w.issued w.lines _ (lines-more r w.issued w.lines n m) (attempt_id (client_plan r n) c b) b.epoch b.first (F.clients n c b here (sym present ∙ at) (ap (is_at_snapshot r) same ∙ off)))
      where
        same : attempt_id (client_plan r n) c b ≡ attempt_id (client_plan r n) m.state b
        same = ap (λ k. record { client = n; command = k; attempt = b.attempt }) (sym command)
    by (Begins z is zeroth first new) off = subst (IsKept w.issued _ (attempt_id (client_plan r n) m.state b) b.epoch) (sym (ap (λ q. q.first) (sym one) ∙ first)) (before, new-undated r n m.state b attempts told at (subst (IsNew (client_plan r n) m.state) one new) off)
      where
        one : z ≡ b
        one = let e : Some z ≡ Some b = sym is ∙ at in cc

        before : AreLostBefore (w.lines ++ map (with_epoch w.issued) (listed m.line)) (attempt_id (client_plan r n) m.state b)
        before k low = let none : k < 0 = subst (λ q. k < q) (ap (λ q. q.attempt) (sym one) ∙ zeroth) low in absurd (omega (arith, none))
    by (GoesFrom a is leads) off = leads-kept r w.issued w.lines n (λ how. ⊥) c a m attempts leads told (F.clients n c a here is) (λ how no off none. absurd no) b at off

-- ---- turns

-- the world once a client did something
client-follows : (r : Rules) (w : World) (n : ℕ) (c d : ClientState) (rest : List Letter) (posts : List Post) (ls : List Line) → slice_get w.clients n ≡ Some c → Firsts r w → ((l : Letter) → Contains rest l → Contains w.messages l)
    → PostsSo r w.issued (w.lines ++ map (with_epoch w.issued) ls) posts → ((b : Present) → d.present ≡ Some b → Keeps r w.issued (w.lines ++ map (with_epoch w.issued) ls) n d b) → Firsts r (after_client (without w rest) n posts ls d)
client-follows r w n c d rest posts ls here F were so own = follows-keeps r w (after_client (without w rest) n posts ls d) F (record {
  more = M;
  clients = λ m z a at is. at-set w.clients n c d (λ k y. (b : Present) → y.present ≡ Some b → Keeps r w.issued now k y b) here own
      (λ k y at' b is' off. kept-stays r w.issued w.issued w.lines now M (attempt_id (client_plan r k) y b) b.epoch b.first (F.clients k y b at' is' off)) m z at a is;
  letters = λ l i. elim (has-cases rest (letters_of (client n) posts) l (has-from_contains (rest ++ letters_of (client n) posts) l i)) [
    | inl j ↦ inl (were l (contains-from_has rest l j))
    | inr j ↦ inr (let q = has-from_map (letter_of (client n)) posts l j in subst (λ x. MessageTells r w.issued now x.message) q.2 (so q.0 q.1).0)
  ];
  parked = λ t s p at i. inl (record { t = t; s = s; here = at; among = i });
})
  where
    now : List Line
    now = w.lines ++ map (with_epoch w.issued) ls

    M : IsMore w.issued w.issued w.lines now
    M = lines-only w.issued w.lines (map (with_epoch w.issued) ls)

-- and what answers bear then
bear-on : (r : Rules) (w : World) (n : ℕ) (d : ClientState) (rest : List Letter) (posts : List Post) (ls : List Line) (issued : Dated) (lines : List Line) → AnswersBear r w → ((l : Letter) → Contains rest l → Contains w.messages l)
    → PostsSo r issued lines posts → AnswersBear r (after_client (without w rest) n posts ls d)
bear-on r w n d rest posts ls issued lines B were so l x e i answers off = elim (has-cases rest (letters_of (client n) posts) l (has-from_contains (rest ++ letters_of (client n) posts) l i)) [
  | inl j ↦ B l x e (were l (contains-from_has rest l j)) answers off
  | inr j ↦ (let q = has-from_map (letter_of (client n)) posts l j in absurd ((so q.0 q.1).1 x e (subst (λ z. Answers z.message x e) (sym q.2) answers)))
]

-- clients stand at their commands; first epochs are kept; and answers bear issued epochs
pub record Standing (r : Rules) (w : World) : Type 0 where
  pub stand : ClientsStand r w
  pub firsts : Firsts r w
  pub bear : AnswersBear r w

posts-stay : (r : Rules) (issued : Dated) (lines more : List Line) (posts : List Post) → PostsSo r issued lines posts → PostsSo r issued (lines ++ more) posts
posts-stay r issued lines more posts so q i = (tells-stay r issued issued lines (lines ++ more) (lines-only issued lines more) q.message (so q i).0, (so q i).1)

module _ (r : Rules) (some : 0 < r.attempts) where
  pub by-moves : KeptByMoves r (Standing r)
  by-moves w n c here k = record {
    stand = stands-by-moves r some w n c here k.stand;
    firsts = client-follows r w n c m.state w.messages (listed m.post) (listed m.line) here k.firsts (λ l i. i) (posts-stay r w.issued w.lines (map (with_epoch w.issued) (listed m.line)) (listed m.post) so)
        (moved-kept r w n c told.0 here k.firsts told.1);
    bear = bear-on r w n m.state w.messages (listed m.post) (listed m.line) w.issued w.lines k.bear (λ l i. i) so;
  }
    where
      m : Move
      m = moved (client_plan r n) c

      so : PostsSo r w.issued w.lines (listed m.post)
      so = move-so r w.issued w.lines n c (λ a at. k.firsts.clients n c a here at)

      told : (attempts : List Attempt) × HasTold (client_plan r n) m.state attempts
      told = stands-by-moves r some w n c here k.stand n m.state (set-here w.clients n c m.state here)

  pub by-counts : KeptByCounting (Standing r)
  by-counts w n j c here k = record {
    stand = stands-by-counting r some w n j c here k.stand;
    firsts = record {
      clients = λ m z a at is. at-set w.clients n c (record c { skip = j }) (λ i y. (b : Present) → y.present ≡ Some b → Keeps r w.issued w.lines i y b) here (λ b is'. k.firsts.clients n c b here is') (λ i y at' b is'. k.firsts.clients i y b at' is') m z at a is;
      flight = k.firsts.flight;
      parked = k.firsts.parked;
    };
    bear = k.bear;
  }

  pub by-hears : KeptByHearing r (Standing r)
  by-hears w n c l rest here awake takes to k = record {
    stand = stands-by-hearing r some w n c l rest here awake takes to k.stand;
    firsts = client-follows r w n c m.state rest (listed m.post) (listed m.line) here k.firsts were (so (w.lines ++ map (with_epoch w.issued) (listed m.line)))
        (heard-kept r w n c l (taken-is-among w.messages l rest takes) here k.firsts k.bear told.0 told.1);
    bear = bear-on r w n m.state rest (listed m.post) (listed m.line) w.issued w.lines k.bear were (so w.lines);
  }
    where
      m : Move
      m = heard (client_plan r n) c l.message

      were : (z : Letter) → Contains rest z → Contains w.messages z
      were z i = left-is-among w.messages l rest z takes i

      so : (lines : List Line) → PostsSo r w.issued lines (listed m.post)
      so lines = question-so r w.issued lines m.post (heard-asks (client_plan r n) c l.message)

      told : (attempts : List Attempt) × HasTold (client_plan r n) m.state attempts
      told = stands-by-hearing r some w n c l rest here awake takes to k.stand n m.state (set-here w.clients n c m.state here)
