-- A client that hears a message keeps what is said of epochs.
use Rattle.std.specs.Prelude.{ℕ, ◌≡◌, ◌≤◌, ◌++◌, ◌&&◌, ◌||◌, Bool, true, false, List, [], ◌∷◌, Contains, slice_get, Option, Some, None, refl, if◌then◌else◌}
use Rattle.std.proofs.Common.{sym, ap, subst, arith}
use Rattle.std.proofs.lemmas.Bool.{and_parts}
use Rattle.std.proofs.lemmas.List.Elements.{Contains-append_left, Contains-append_right, Contains-push}
use Rattle.std.proofs.lemmas.Option.{same_Some}
use Rattle.base_types.specs.declared.answer.Answer.{Answer}
use Rattle.base_types.specs.declared.epoch.Epoch.{Epoch}
use Rattle.base_types.specs.declared.id.AttemptId.{AttemptId}
use Rattle.base_types.specs.declared.outcome.Cause.TheVariants.{Unresolved}
use Rattle.base_types.specs.declared.outcome.Outcome.{Outcome}
use Rattle.base_types.specs.declared.outcome.Outcome.TheVariants as outcome
use Rattle.base_types.specs.declared.script.Command.{Command}
use Rattle.base_messages.specs.declared.message.Message.{Message, more_of-Message}
use Rattle.base_messages.specs.declared.message.Message.TheVariants as message
use Rattle.base_messages.specs.declared.message.Reply.{Reply}
use Rattle.base_messages.specs.declared.message.Reply.TheVariants as reply
use Rattle.daos_model.specs.Attempts.{is_lost, is_unknown}
use Rattle.daos_model.specs.Durables.{same_attempt}
use Rattle.daos_model.specs.EntryLaws.{same_attempt-itself}
use Rattle.daos_model.specs.Order.{told_by}
use Rattle.daos_model.specs.Transactions.{command_of}
use Rattle.model_laws.specs.EntryLaws.{same-attempt}
use Rattle.world_base.specs.declared.client.ClientState.{ClientState}
use Rattle.world_base.specs.declared.client.Present.{Present}
use Rattle.world_base.specs.declared.letter.Letter.{Letter}
use Rattle.world_base.specs.declared.world.World.{World}
use Rattle.world_base.specs.ClientTurns.{about, answered, at_present, attempt_id, command_at, ended, ends, goes, greatest, heard, heard_at, hears_epochs, is_about, knows, knows_epoch, lost, replied, reset, reset_by, snaps_known, told_by_message, told_by_reply, told_by_some}
use Rattle.world_base.specs.Events.{Rules, client_plan, with_client}
use Rattle.world_base.specs.Letters.{Takes, client, is_tell, talk_of}
use Rattle.world_base.specs.Steps.{without}
use Rattle.world_letters.specs.clients.MoveLaws.{is-at}
use Rattle.world_letters.specs.epochs.Epochs.{ClientsStand, Epochs, GoesWith, IsEpochOf, IsReadOf, IsUnissued, LacksEpoch, answers_undated, is_making}
use Rattle.world_letters.specs.epochs.Lists.{contains-none, greatest-has}
use Rattle.world_letters.specs.epochs.Talking.{TalksOnce, taken-silent}
use Rattle.world_letters.specs.snapshots.Events.{command-is}
use Rattle.world_letters.specs.talks.HearLaws.{greatest-above}
use Rattle.world_letters.specs.talks.TalkLaws.{got-is-talk, left-is-among, taken-is-among}
use Rattle.world_making.specs.dates.Answering.{again-dates, lost-dates, quiet-knows, replied-dates, snaps-more, twice-dates, works-then}
use Rattle.world_making.specs.dates.Clients.{KeepsKnown, QuietDated, fewer-dates}
use Rattle.world_making.specs.dates.Moves.{StaysDated, ends-dates, quiet-same, unsaid-dates}
use Rattle.world_making.specs.dates.Targets.{epoch-stays}

-- a client at an attempt, which waited for a message that was taken
record WasDated (r : Rules) (top : ℕ) (w : World) (n : ℕ) (c : ClientState) (a : Present) (m : Message) : Type 0 where
  epochs : Epochs r top w
  here : slice_get w.clients n ≡ Some c
  at : c.present ≡ Some a
  waiting : a.waits ≡ true
  silent : is_tell m ≡ false → talk_of n w.messages ≡ []
  bears : (x : AttemptId) (e : Epoch) → GoesWith m x e → IsEpochOf r w x e
  lacks : (x : AttemptId) → LacksEpoch m x → IsUnissued w x
  dated : answers_undated m ≡ false
  reads : IsReadOf r m
  order : Command
  placed : command_at (client_plan r n) c ≡ Some order
  is : command_of r.script (attempt_id (client_plan r n) c a) ≡ Some order

tracker-up : (c : ClientState) (m : Message) → c.tracker.0 ≤ (hears_epochs m c).tracker.0
tracker-up c m = greatest-above c.tracker.0 (told_by_message m)

-- the tracker covers the epoch that an answer bears, and those that it tells besides
told-some : (t : ℕ) (o : Option Epoch) (later : List ℕ) (f : Epoch) → o ≡ Some f → f.0 ≤ greatest t (told_by_some o ++ later)
told-some t None later f is = let no : ⊥ = cc in absurd no
told-some t (Some e) later f is =
    let same : e.0 ≡ f.0 = ap (λ z. z.0) (same_Some e f is) in
    let k : e.0 ≤ greatest t (e.0 ∷ later) = greatest-has t (e.0 ∷ later) e.0 (Contains-append_left (e.0 ∷ []) later e.0 (Contains-push [] e.0)) in
    omega (arith, same, k)

told-later : (t : ℕ) (o : Option Epoch) (later : List ℕ) (f : ℕ) → Contains later f → f ≤ greatest t (told_by_some o ++ later)
told-later t o later f h = greatest-has t (told_by_some o ++ later) f (Contains-append_right (told_by_some o) later f h)

not-lost : (unknown lost : Bool) → unknown || lost ≡ false → lost ≡ false
not-lost true lost h = let no : ⊥ = cc in absurd no
not-lost false lost h = h

module _ (r : Rules) (top : ℕ) (w : World) (n : ℕ) where
  goes-on : (c : ClientState) (m : Message) → Epochs r top w → slice_get w.clients n ≡ Some c → StaysDated r top w n (goes (hears_epochs m c))
  goes-on c m E here = unsaid-dates r top w n c (goes (hears_epochs m c)) refl E (quiet-same r top w n c (hears_epochs m c) E here (tracker-up c m) refl refl (λ name e k. k)) tt

  -- a read is answered
  module _ (c : ClientState) (a : Present) (x : AttemptId) (op group : ℕ) (o : Option Epoch) (b : Reply) (T : WasDated r top w n c a (message.Fetched x op group o b)) (own : attempt_id (client_plan r n) c a ≡ x) where
    abbrev Hearer : ClientState
    Hearer = hears_epochs (message.Fetched x op group o b) c

    fetched-bears : (k : Option Epoch) (f : Epoch) → k ≡ Some f → GoesWith (message.Fetched x op group k b) x f
    fetched-bears None f is = let no : ⊥ = cc in absurd no
    fetched-bears (Some g) f is = (refl, same_Some g f is)

    undated : (k own' : Option Epoch) (z : Answer) → answers_undated (message.Fetched x op group k (reply.Answer z)) ≡ false → knows_epoch own' k ≡ None → ⊥
    undated None own' z is none = cc
    undated (Some f) None z is none = cc
    undated (Some f) (Some g) z is none = cc

    fetched-lacks : (k : Option Epoch) → k ≡ None → LacksEpoch (message.Fetched x op group k b) x
    fetched-lacks None is = refl
    fetched-lacks (Some g) is = let no : ⊥ = cc in absurd no

    fetched-quiet : QuietDated r w n c (at_present (knows o a) Hearer)
    fetched-quiet = quiet-knows r top w n c Hearer a o false T.epochs T.here T.at (tracker-up c (message.Fetched x op group o b)) refl (λ name g k. k)
        (λ f is. (subst (λ y. IsEpochOf r w y f) (sym own) (T.bears x f (fetched-bears o f is)), told-some c.tracker.0 o (told_by_reply b) f is))
        (λ off is. subst (λ y. IsUnissued w y) (sym own) (T.lacks x (fetched-lacks o is)))
        (λ off. subst (λ y. is_making r y ≡ false) (sym own) T.reads)

    fetched-dates : StaysDated r top w n (replied (client_plan r n) (hears_epochs (message.Fetched x op group o b) c) (knows o a) b)
    fetched-dates =
        twice-dates r top w n (at_present (knows o a) Hearer) (replied (client_plan r n) Hearer (knows o a) b)
        (replied-dates r top (with_client n (at_present (knows o a) Hearer) w) n Hearer (knows o a) b (works-then r top w n c Hearer (knows o a) T.order T.epochs fetched-quiet (T.silent refl) T.placed T.is) refl
        (λ z is none. undated o a.epoch z (subst (λ y. answers_undated (message.Fetched x op group o y) ≡ false) is T.dated) none)
        (λ f h. told-later c.tracker.0 o (told_by_reply b) f h))

  -- an attempt is ended
  module _ (c : ClientState) (a : Present) (x : AttemptId) (o : Option Epoch) (how : Outcome) (T : WasDated r top w n c a (message.Ended x o how)) (own : attempt_id (client_plan r n) c a ≡ x) where
    -- the client that knows its snapshot, if it made one
    abbrev Then : ClientState
    Then = record (hears_epochs (message.Ended x o how) c) { known = snaps_known (command_at (client_plan r n) (hears_epochs (message.Ended x o how) c)) o how c.known }

    keeps : KeepsKnown c Then
    keeps name e k = snaps-more (command_at (client_plan r n) (hears_epochs (message.Ended x o how) c)) o how c.known name e k

    up : c.tracker.0 ≤ greatest c.tracker.0 (told_by_message (message.Ended x o how))
    up = tracker-up c (message.Ended x o how)

    abbrev b : Present
    b = record (knows o a) { waits = true }

    bears : (k : Option Epoch) (f : Epoch) → k ≡ Some f → GoesWith (message.Ended x k how) x f
    bears None f is = let no : ⊥ = cc in absurd no
    bears (Some g) f is = (refl, same_Some g f is)

    lacks : (k : Option Epoch) → k ≡ None → is_lost x how ≡ false → LacksEpoch (message.Ended x k how) x
    lacks None is sure = (refl, sure)
    lacks (Some g) is sure = let no : ⊥ = cc in absurd no

    none-told : (k : Option Epoch) → knows_epoch k o ≡ None → o ≡ None
    none-told None is = is
    none-told (Some g) is = let no : ⊥ = cc in absurd no

    quiet : QuietDated r w n c (at_present b Then)
    quiet = quiet-knows r top w n c Then a o true T.epochs T.here T.at up refl keeps (λ f is. (subst (λ y. IsEpochOf r w y f) (sym own) (T.bears x f (bears o f is)), told-some c.tracker.0 o (told_by how) f is))
        (λ off is. let no : ⊥ = cc in absurd no) (λ off. let no : ⊥ = cc in absurd no)

    ended-dates : StaysDated r top w n (ended (client_plan r n) (hears_epochs (message.Ended x o how) c) (knows o a) o how)
    ended-dates =
        twice-dates r top w n (at_present b Then) (ends (client_plan r n) Then (record b { waits = false }) how)
        (ends-dates r top (with_client n (at_present b Then) w) n Then b a.conds false how (works-then r top w n c Then b T.order T.epochs quiet (T.silent refl) T.placed T.is)
        (λ none known. subst (λ y. IsUnissued w y) (sym own) (T.lacks x (lacks o (none-told a.epoch none) (subst (λ y. is_lost y how ≡ false) own (not-lost (is_unknown how) (is_lost (attempt_id (client_plan r n) c a) how) known)))))
        (λ f h. told-later c.tracker.0 o (told_by how) f h))

  -- a request is lost
  unsure-lost : (c : ClientState) (a : Present) (x : AttemptId) → x ≡ attempt_id (client_plan r n) c a → is_unknown (outcome.Restart (Unresolved (attempt_id (client_plan r n) c a))) || is_lost x (outcome.Restart (Unresolved (attempt_id (client_plan r n) c a))) ≡ true
  unsure-lost c a x same = subst (λ y. same_attempt (attempt_id (client_plan r n) c a) y ≡ true) (sym same) (same_attempt-itself (attempt_id (client_plan r n) c a))

  is-lost : (c : ClientState) (a : Present) (m : Message) → WasDated r top w n c a m → is_tell m ≡ false → StaysDated r top w n (lost (client_plan r n) (hears_epochs m c) (record a { waits = false }))
  is-lost c a m T talks =
      lost-dates r top w n c (hears_epochs m c) a T.order (outcome.Restart (Unresolved (attempt_id (client_plan r n) c a))) T.epochs T.here T.at (tracker-up c m) refl refl (λ name e k. k) T.placed T.is (T.silent talks)
      (λ x same. unsure-lost c a x same) (λ f h. contains-none f h)

  is-asked-again : (c : ClientState) (a : Present) (m : Message) (target : ℕ) → WasDated r top w n c a m → StaysDated r top w n (reset (client_plan r n) (hears_epochs m c) (record a { waits = false }) target (message.Ask (attempt_id (client_plan r n) c a)))
  is-asked-again c a m target T = again-dates r top w n c (hears_epochs m c) a target T.epochs T.here T.at (tracker-up c m) refl refl T.waiting

  reset-dates : (c : ClientState) (a : Present) (m : Message) (target : ℕ) (q : Message) → WasDated r top w n c a m → is_tell m ≡ false → StaysDated r top w n (reset (client_plan r n) (hears_epochs m c) (record a { waits = false }) target q)
  reset-dates c a m target (message.Commit x e first tracker ws) T talks = is-asked-again c a m target T
  reset-dates c a m target (message.Ask x) T talks = is-asked-again c a m target T
  reset-dates c a m target q T talks = is-lost c a m T talks

  reset-by-dates : (c : ClientState) (a : Present) (m : Message) (target : ℕ) (down : Bool) (q : Message) → WasDated r top w n c a m → is_tell m ≡ false → StaysDated r top w n (reset_by (client_plan r n) (hears_epochs m c) (record a { waits = false }) target down q)
  reset-by-dates c a m target false q T talks = reset-dates c a m target q T talks
  reset-by-dates c a m target true q T talks =
      lost-dates r top w n c (hears_epochs m c) a T.order (outcome.Unknown target) T.epochs T.here T.at (tracker-up c m) refl refl (λ name e k. k) T.placed T.is (T.silent talks) (λ x same. refl) (λ f h. contains-none f h)

  -- what the client waited for has come
  answered-dates : (c : ClientState) (a : Present) (m : Message) → WasDated r top w n c a m → is_about (attempt_id (client_plan r n) c a) (about m) ≡ true → StaysDated r top w n (answered (client_plan r n) (hears_epochs m c) a m)
  answered-dates c a (message.Fetched x op group o b) T is = fetched-dates c a x op group o b T (same-attempt (attempt_id (client_plan r n) c a) x is)
  answered-dates c a (message.Ended x o how) T is = ended-dates c a x o how T (same-attempt (attempt_id (client_plan r n) c a) x is)
  answered-dates c a (message.Reset' target down place (more_of-Message q row)) T is = reset-by-dates c a (message.Reset' target down place (more_of-Message q row)) target down q T refl
  answered-dates c a m T is = goes-on c m T.epochs T.here

-- a client hears a message
pub heard-dates : (r : Rules) (top : ℕ) (w : World) (n : ℕ) (c : ClientState) (l : Letter) (rest : List Letter) → TalksOnce w → ClientsStand r w → Epochs r top w → slice_get w.clients n ≡ Some c → Takes w.messages l rest → l.to ≡ client n
    → StaysDated r top (without w rest) n (heard (client_plan r n) c l.message)
unfolding heard
heard-dates r top w n c l rest v S E here takes to = by c.present refl
  where
    fewer : Epochs r top (without w rest)
    fewer = fewer-dates r top w rest (λ m h. left-is-among w.messages l rest m takes h) E

    among : Contains w.messages l
    among = taken-is-among w.messages l rest takes

    by : (o : Option Present) → c.present ≡ o → StaysDated r top (without w rest) n (heard_at (client_plan r n) (hears_epochs l.message c) l.message o)
    by None at = goes-on r top (without w rest) n c l.message fewer here
    by (Some a) at = waited (a.waits && is_about (attempt_id (client_plan r n) c a) (about l.message)) refl
      where
        waited : (b : Bool) → (a.waits && is_about (attempt_id (client_plan r n) c a) (about l.message)) ≡ b
            → StaysDated r top (without w rest) n (if b then answered (client_plan r n) (hears_epochs l.message c) a l.message else goes (hears_epochs l.message c))
        waited false e = goes-on r top (without w rest) n c l.message fewer here
        waited true e =
            let k : (a.waits ≡ true) × (is_about (attempt_id (client_plan r n) c a) (about l.message) ≡ true) = and_parts a.waits (is_about (attempt_id (client_plan r n) c a) (about l.message)) e in
            let told = S n c here in
            let d = is-at (client_plan r n) c a told.0 at told.1 in
            answered-dates r top (without w rest) n c a l.message (record {
              epochs = fewer;
              here = here;
              at = at;
              waiting = k.0;
              silent = λ talks. taken-silent w n c l rest v here takes (got-is-talk n l talks to);
              bears = λ x f g. epoch-stays r w (without w rest) refl (λ y h i. i) x f (E.borne l x f among g);
              lacks = λ x h. (E.lacking l x among h).1;
              dated = E.dated l among;
              reads = E.reads l among;
              order = d.0;
              placed = d.1.at;
              is = command-is r n c a d.0 told.0 told.1 d.1.at d.1.numbered;
            }) k.1
