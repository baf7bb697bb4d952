-- Each event of a run keeps what is frozen where.
use Rattle.std.specs.Prelude.{ℕ, ◌≡◌, ◌≤◌, ◌<◌, ◌⊎◌, ◌++◌, Bool, true, false, List, [], ◌∷◌, filter, length, map, slice_get, Option, Some, None, refl, not, ◌&&◌, ◌==◌}
use Rattle.std.proofs.Common.{append-nil, append_assoc, sym, ◌∙◌, ap, subst, inl, inr, arith}
use Rattle.std.proofs.Math.ListN.{set}
use Rattle.base_types.specs.declared.epoch.Epoch.{Epoch}
use Rattle.base_types.specs.declared.id.AttemptId.{AttemptId}
use Rattle.base_types.specs.declared.id.ContId.{ContId}
use Rattle.base_types.specs.declared.key.Key.{Key}
use Rattle.base_types.specs.declared.outcome.FloorWhy.{FloorWhy}
use Rattle.base_types.specs.declared.outcome.Outcome.TheVariants.{Committed}
use Rattle.base_types.specs.declared.report.Attempt.{Attempt}
use Rattle.base_types.specs.declared.report.Line.{Line}
use Rattle.base_types.specs.declared.report.Line.TheVariants as line
use Rattle.base_messages.specs.declared.actor.ActorId.{ActorId}
use Rattle.base_messages.specs.declared.message.Message.{Message}
use Rattle.base_messages.specs.declared.message.Message.TheVariants as message
use Rattle.model_laws.specs.Members.{Has, contains-from_has, has-cases, has-from_contains, has-from_filter, has-from_map, has-left, has-right, has-map, has-filter}
use Rattle.daos_model.specs.declared.durable.Durable.{Durable}
use Rattle.daos_model.specs.Changes.{reopened}
use Rattle.daos_model.specs.Attempts.{EachTry}
use Rattle.daos_model.specs.Durables.{is_frozen}
use Rattle.daos_model.specs.Opening.{Opening, top}
use Rattle.daos_model.specs.Snapshots.{HasSnapshotLine}
use Rattle.world_base.specs.declared.client.ClientState.{ClientState}
use Rattle.world_base.specs.declared.client.KnownSnap.{KnownSnap}
use Rattle.world_base.specs.declared.did.Did.{Did}
use Rattle.world_base.specs.declared.letter.Letter.{Letter}
use Rattle.world_base.specs.declared.target.Collection.{Collection}
use Rattle.world_base.specs.declared.target.TargetMemory.{TargetMemory}
use Rattle.world_base.specs.declared.target.TargetPlan.{TargetPlan}
use Rattle.world_base.specs.declared.target.TargetState.{TargetState}
use Rattle.world_base.specs.declared.world.World.{World}
use Rattle.world_base.specs.Changes.{Kept}
use Rattle.world_base.specs.Events as events
use Rattle.world_base.specs.Events.{ByClient, ByTarget, Event, Rules, TargetHearsBy, ToClient, ToTarget, kept, target_plan, with_epoch}
use Rattle.world_base.specs.CutTurns.{CommitIsCut, Cutting, HearingIsCut, NoneIsDown, OneIsDown}
use Rattle.world_base.specs.Further.{HearsFurther}
use Rattle.world_base.specs.Letters.{Takes, client, letter_of, letters_of, target, reset_message}
use Rattle.world_base.specs.Roles.{is_prepared}
use Rattle.world_base.specs.Statuses.{opening_posts}
use Rattle.world_base.specs.Stops.{AtWork, CutOf, Draws, Fails, Further, GivenUp, Happening, Hearing, HearsMore, IdleWork, IsCut, IsInHand, NumbersDrawn, OpeningFails, Opens, Plainly, TargetCut, TargetGivenUp, TargetOpens, WorldEvent, is_not_to, is_not_to_down, is_to, is_to_down, reset_letter, resets, restart_line, stops_so_far, swept, with_lost, is_down_at}
use Rattle.world_base.specs.TargetTurns.{Hears, commit_request}
use Rattle.world_base.specs.TurnLaws.{KeepsAs, hears-keeps, idles-keeps}
use Rattle.world_letters.specs.epochs.Epochs.{ClientsStand}
use Rattle.model_laws.specs.TargetLaws.{same_number}
use Rattle.world_making.specs.freezings.Answering.{OkIsHeld, further-held, is_held, plainly-not}
use Rattle.world_making.specs.freezings.Asking.{end-was, asks_snapshot}
use Rattle.world_making.specs.freezings.ClientEvents.{going-keeps, hearing-keeps, none-more, unasked-not}
use Rattle.world_making.specs.freezings.Collecting.{AreHeldSo, further-counts}
use Rattle.world_making.specs.freezings.First.{collects-first, snap-first, snap-asked, collected-asked}
use Rattle.world_making.specs.freezings.Freezings.{Freezings, HaveOneEpoch, IsKnownSo, IsOfSnap, KeepsFrozen, EndComes, LossComes, IsFatedSnap}
use Rattle.world_making.specs.freezings.Keeping.{NoneMoreDone, beside-keeps, known-stays, says_done, turn-keeps, fates-stay, taken-or-left}
use Rattle.world_making.specs.freezings.Snapping.{Snapping, snapping-same, NoSnaps, snapping-more, created-frozen}
use Rattle.world_making.specs.freezings.Telling.{LeavesSnapshots, TellsMade, cut-unmade, further-tells}
use Rattle.world_making.specs.freezings.Turning.{OkMeansFrozen, OthersFrozen, further-snaps, hearing-snaps, idle-snaps, IsMakerOf, MayMake}
use Rattle.world_making.specs.freezings.Turns.{NoneMade}
use Rattle.world_making.specs.making.Snapshots.{holds_created}
use Rattle.world_letters.specs.lines.EndingLaws.{all-hear-tell, idle-tells}
use Rattle.world_letters.specs.lines.Lines.{Endings}
use Rattle.world_letters.specs.lives.CutLines.{hearing-cut, idle-cut}
use Rattle.world_letters.specs.lives.Events.{as-added}
use Rattle.world_letters.specs.lives.TurnLines.{AreTurnLines, IsTurnLine, further-lines, idle-lines, plain-lines}
use Rattle.world_causes.specs.world_commit.requests.Staying.{requests-happen}
use Rattle.world_letters.specs.snapshots.Makings.{CollectsSo, IsMadeBy, IsSnapIn, IsSnapOf, IsSo, Makings, collects-more, so-more}
use Rattle.world_letters.specs.snapshots.Memories.{idle-same, plain-same}
use Rattle.world_letters.specs.talks.TalkLaws.{left-is-among, taken-is-among}
use Rattle.world_letters.specs.waits.Happenings.{happenings-keep}
use Rattle.world_letters.specs.waits.Premises.{LeadersKnow, RequestsAreOfClients, is_end}
use Rattle.world_letters.specs.waits.Waits.{Conversation}
use Rattle.world_making.specs.freezings.Unasked.{opening-unasked}

-- what else holds in a world in which something happens
pub record HoldsAround (r : Rules) (w : World) : Type 0 where
  pub many : length w.targets ≡ r.script.targets
  pub few : r.script.targets ≤ 64
  pub once : HaveOneEpoch w
  pub makings : Makings r w
  pub ends : Endings w
  pub stand : ClientsStand r w
  pub requests : RequestsAreOfClients w
  pub talks : Conversation r w

-- ---- letters

listed-has : (o : Option (AttemptId × Epoch)) (is : List (AttemptId × Epoch)) (x : AttemptId) (e : Epoch) → o ≡ Some (x, e) → Has (x, e) (is ++ events.listed o)
listed-has o is x e one = subst (λ z. Has (x, e) (is ++ events.listed z)) (sym one) (has-right is ((x, e) ∷ []) (x, e) (inl refl))

-- a request for a snapshot isn't heard as without stops
plain-no_snap : (p : TargetPlan) (opening : Epoch × FloorWhy) (m : TargetMemory) (reading : ℕ) (from : ActorId) (q : Message) (old new : Kept) (left : TargetMemory × Did)
    → Hears p opening m reading from q old new left → asks_snapshot q ≡ false
plain-no_snap p opening m reading from (message.Snap x cont name tracker) old new left h = absurd h
plain-no_snap p opening m reading from q old new left h = refl

-- in what keeps the same snapshots the same is frozen
counts-same : (w : World) (d e : Durable) (ns ms : List Collection) → e.snaps ≡ d.snaps → ms ≡ ns → AreHeldSo w d ns → AreHeldSo w e ms
counts-same w d e ns ms snaps same before n name i named =
    let h = before n name (subst (Has n) same i) named in ((snapping-same (λ c s. ⊥) (λ c s. ⊥) d e snaps).stays n.cont n.epoch h.0, h.1)

-- the same is created
same-created : (d e : Durable) → e.snaps ≡ d.snaps → (c : ContId) (s : Epoch) → holds_created e c s ≡ true → holds_created d c s ≡ true
same-created d e snaps c s is = elim ((snapping-same (λ c s. ⊥) (λ c s. ⊥) d e snaps).made c s is) [ inl was ↦ was | inr more ↦ absurd more ]

-- a letter to a client isn't one that a target takes
client-left : (letters : List Letter) (l : Letter) (rest : List Letter) → Takes letters l rest → (t : ℕ) → l.to ≡ target t → (m : Letter) → Has m letters → m.to.client ≡ true → Has m rest
client-left letters l rest takes t to m i of = elim (taken-or-left letters l rest takes m i) [
  | inl j ↦ j
  | inr it ↦ (let no : ⊥ = cc (of, ap (λ y. y.to.client) it, ap (λ y. y.client) to) in absurd no)
]

-- an end goes to a client
goes-to : (l : Letter) (x : AttemptId) (e : Epoch) (w : World) → RequestsAreOfClients w → Has l w.messages → l.message ≡ message.Ended x (Some e) Committed → l.to ≡ client l.to.number
goes-to l x e w of_clients i says = ap (λ b. record { client = b; number = l.to.number }) ((of_clients.letters l i).end (ap is_end says))

-- an attempt makes a snapshot, at an epoch that was issued to it, and what asked this target for it is without an answer
record IsLostMaker (r : Rules) (w : World) (is : List (AttemptId × Epoch)) (t : ℕ) (c : ContId) (e : Epoch) : Type 0 where
  x : AttemptId
  issued : Has (x, e) is
  snaps : IsSnapIn r x c
  l : Letter
  asked : Has l w.asked
  to : l.to ≡ target t
  cont : ContId
  name : Key
  tracker : Epoch
  says : l.message ≡ message.Snap x cont name tracker

-- ---- targets

module _ (r : Rules) (o : Opening) (w : World) (a : HoldsAround r w) (k : Freezings r o w) where
  counted-at : (t : ℕ) (s : TargetState) → slice_get w.targets t ≡ Some s → AreHeldSo w s.durable s.memory.collecting
  counted-at t s here n name i named = k.counted t s n name here i named

  -- a turn without stops
  plain-keeps : (v : World) → 0 < r.attempts → Conversation r v → RequestsAreOfClients v → Event r w v → Freezings r o v
  plain-keeps v some talks of_clients (ByClient g) = going-keeps r some o w v g a.once a.stand a.talks a.ends k
  plain-keeps v some talks of_clients (ToClient g) = hearing-keeps r some o w v g a.once a.stand a.talks a.ends k
  plain-keeps v some talks of_clients (ToTarget g) = turn-keeps r o w v k (record {
    t = g.t;
    s = g.s;
    z = z;
    here = g.here;
    targets = ap (λ x. x.targets) g.after;
    clients = ap (λ x. x.clients) g.after;
    issued = λ x e i. subst (Has (x, e)) (sym (ap (λ y. y.issued) g.after)) (has-left w.issued (events.listed g.did.issued) (x, e) i);
    snaps = snapping-same _ _ g.s.durable g.new.durable kept-so.snaps;
    letters = λ l x c i says made. elim (has-cases g.rest (letters_of (target g.t) g.did.posts) l (subst (Has l) (ap (λ y. y.messages) g.after) i)) [
      | inl j ↦ inl (was l j)
      | inr j ↦ (
          let p = has-from_map (letter_of (target g.t)) g.did.posts l j in
          let off = plainly-not p.0.message ((all-hear-tell (target_plan r g.t) g.s.opening g.s.memory g.reading g.l.from g.l.message (kept g.s) g.new (g.memory, g.did)
          (a.ends g.l (taken-is-among w.messages g.l g.rest g.takes)) g.turn).0 p.0 p.1) in
          let no : ⊥ = cc (ap (λ y. is_held y.message) p.2 ∙ ap is_held says, off) in absurd no)
    ];
    collecting = counts-same w g.s.durable g.new.durable g.s.memory.collecting g.memory.collecting kept-so.snaps same (counted-at g.t g.s g.here);
    adds = [];
    lines = lines;
    untried = λ x i. i;
    told = λ name c e i. absurd i;
    fates = fates-stay r w v a.requests (λ l i of. subst (Has l) (sym (ap (λ y. y.messages) g.after))
        (has-left g.rest (letters_of (target g.t) g.did.posts) l (client-left w.messages g.l g.rest g.takes g.t g.to_it l i of))) (λ l i. subst (Has l) (sym lines) (has-left w.lines [] l i));
    creates = λ c e is. inl (same-created g.s.durable g.new.durable kept-so.snaps c e is);
    ended = λ l x e name c i says of. inl (end-was r w v g.t g.s z g.rest g.did.posts g.here (ap (λ x. x.clients) g.after) (ap (λ x. x.targets) g.after)
        (ap (λ x. x.messages) g.after) left (λ c2 j. (c2, subst (Has c2) (sym same) j, refl)) a.stand a.talks talks
        l.to.number l i (goes-to l x e v of_clients i says) x (Some e) Committed says name c of);
  })
    where
      z : TargetState
      z = events.target_after g.s g.new g.memory

      kept-so : KeepsAs g.s.durable g.new.durable
      kept-so = hears-keeps (target_plan r g.t) g.s.opening g.s.memory g.reading g.l.from g.l.message (kept g.s) g.new (g.memory, g.did) g.turn

      same : g.memory.collecting ≡ g.s.memory.collecting
      same = plain-same (target_plan r g.t) g.s.opening g.s.memory g.reading g.l.from g.l.message (kept g.s) g.new (g.memory, g.did) g.turn

      lines : v.lines ≡ w.lines ++ []
      lines =
          ap (λ x. x.lines) g.after ∙ ap (λ ls. w.lines ++ map (with_epoch w.issued) ls) (plain-lines (target_plan r g.t) g.s.opening g.s.memory g.reading g.l.from g.l.message (kept g.s) g.new (g.memory, g.did) g.turn)

      was : (l : Letter) → Has l g.rest → Has l w.messages
      was l j = has-from_contains w.messages l (left-is-among w.messages g.l g.rest l g.takes (contains-from_has g.rest l j))

      left : (l : Letter) → Has l w.messages → Has l g.rest ⊎ ((l.to ≡ target g.t) × (asks_snapshot l.message ≡ false))
      left l i = elim (taken-or-left w.messages g.l g.rest g.takes l i) [
        | inl j ↦ inl j
        | inr it ↦ inr (ap (λ y. y.to) it ∙ g.to_it, ap (λ y. asks_snapshot y.message) it ∙ plain-no_snap (target_plan r g.t) g.s.opening g.s.memory g.reading g.l.from g.l.message (kept g.s) g.new (g.memory, g.did) g.turn)
      ]
  plain-keeps v some talks of_clients (ByTarget g) = turn-keeps r o w v k (record {
    t = g.t;
    s = g.s;
    z = z;
    here = g.here;
    targets = ap (λ x. x.targets) g.after;
    clients = ap (λ x. x.clients) g.after;
    issued = λ x e i. subst (Has (x, e)) (sym (ap (λ y. y.issued) g.after)) (has-left w.issued (events.listed g.did.issued) (x, e) i);
    snaps = snapping-same _ _ g.s.durable g.new.durable kept-so.snaps;
    letters = λ l x c i says made. elim (has-cases w.messages (letters_of (target g.t) g.did.posts) l (subst (Has l) (ap (λ y. y.messages) g.after) i)) [
      | inl j ↦ inl j
      | inr j ↦ (
          let p = has-from_map (letter_of (target g.t)) g.did.posts l j in
          let off = plainly-not p.0.message ((idle-tells g.settling (target_plan r g.t) g.s.memory g.turn.last g.new (g.memory, g.did) g.turn.ends).0 p.0 p.1) in
          let no : ⊥ = cc (ap (λ y. is_held y.message) p.2 ∙ ap is_held says, off) in absurd no)
    ];
    collecting = counts-same w g.s.durable g.new.durable g.s.memory.collecting g.memory.collecting kept-so.snaps same (counted-at g.t g.s g.here);
    adds = [];
    lines = lines;
    untried = λ x i. i;
    told = λ name c e i. absurd i;
    fates = fates-stay r w v a.requests (λ l i of. subst (Has l) (sym (ap (λ y. y.messages) g.after)) (has-left w.messages (letters_of (target g.t) g.did.posts) l i)) (λ l i. subst (Has l) (sym lines) (has-left w.lines [] l i));
    creates = λ c e is. inl (same-created g.s.durable g.new.durable kept-so.snaps c e is);
    ended = λ l x e name c i says of. inl (end-was r w v g.t g.s z w.messages g.did.posts g.here (ap (λ x. x.clients) g.after) (ap (λ x. x.targets) g.after)
        (ap (λ x. x.messages) g.after) (λ m j. inl j) (λ c2 j. (c2, subst (Has c2) (sym same) j, refl)) a.stand a.talks talks
        l.to.number l i (goes-to l x e v of_clients i says) x (Some e) Committed says name c of);
  })
    where
      z : TargetState
      z = events.target_after g.s g.new g.memory

      kept-so : KeepsAs g.s.durable g.new.durable
      kept-so = idles-keeps g.settling (target_plan r g.t) g.s.memory (kept g.s) g.new (g.memory, g.did) g.turn

      same : g.memory.collecting ≡ g.s.memory.collecting
      same = idle-same g.settling (target_plan r g.t) g.s.memory g.turn.last g.new (g.memory, g.did) g.turn.ends

      lines : v.lines ≡ w.lines ++ []
      lines = ap (λ x. x.lines) g.after ∙ ap (λ ls. w.lines ++ map (with_epoch w.issued) ls) (idle-lines g.settling (target_plan r g.t) g.s.memory g.turn.last g.new (g.memory, g.did) g.turn.ends)

  -- who answered a Freeze holds frozen what is collected for its attempt
  ok-means : (t : ℕ) (s : TargetState) (l : Letter) → slice_get w.targets t ≡ Some s → Has l w.messages → OkMeansFrozen w s.memory l.from l.message
  ok-means t s l here i x n name says j named its =
      let h = k.held l x n.cont i says (name, subst (λ y. IsSnapOf r y name n.cont) its of) in
      subst (KeepsFrozen w l.from.number n.cont) (a.once x h.0 n.epoch h.1 (subst (λ y. Has (y, n.epoch) w.issued) its so.0)) h.2
    where
      so : CollectsSo r w.issued n
      so = a.makings.collecting t s n here j

      of : IsSnapOf r n.attempt name n.cont
      of = subst (IsMadeBy r n.attempt n.cont) named so.1

  -- a further message
  further-keeps : (v : World) → Conversation r v → RequestsAreOfClients v → HearsMore r w v → Freezings r o v
  further-keeps v talks of_clients f = turn-keeps r o w v k (record {
    t = g.t;
    s = g.s;
    z = z;
    here = g.here;
    targets = ap (λ x. x.targets) g.after;
    clients = ap (λ x. x.clients) g.after;
    issued = λ x e i. subst (Has (x, e)) (sym (ap (λ y. y.issued) g.after)) (has-left w.issued (events.listed g.did.issued) (x, e) i);
    snaps = subst (λ js. Snapping (IsOfSnap r js) (OthersFrozen w g.t) g.s.durable g.new.durable) (sym (ap (λ y. y.issued) g.after))
        (snapping-more (IsOfSnap r is) (MayMake r is w g.t g.s.memory g.l.message) (IsOfSnap r is) (OthersFrozen w g.t) g.s.durable g.new.durable (λ c e f. f) (λ c e f. f.0) snaps);
    letters = λ l x c i says made. elim (has-cases g.rest (letters_of (target g.t) g.did.posts) l (subst (Has l) (ap (λ y. y.messages) g.after) i)) [
      | inl j ↦ inl (was l j)
      | inr j ↦ (
          let p = has-from_map (letter_of (target g.t)) g.did.posts l j in
          let h = answers p.0 x c p.1 (ap (λ y. y.message) p.2 ∙ says) made in
          inr (ap (λ y. y.from.number) (sym p.2), (h.0, subst (Has (x, h.0)) (sym (ap (λ y. y.issued) g.after)) h.1, h.2)))
    ];
    collecting = further-counts w f.number (target_plan r g.t) g.s.opening g.s.memory g.reading g.l.from g.l.message (kept g.s) g.new (g.memory, g.did) (counted-at g.t g.s g.here) snaps.stays (ok-means g.t g.s g.l g.here among) g.turn;
    adds = g.did.lines;
    lines = lines;
    untried = λ x i. own.own (line.Try x) i;
    fates = fates-stay r w v a.requests (λ l i of. subst (Has l) (sym (ap (λ y. y.messages) g.after))
        (has-left g.rest (letters_of (target g.t) g.did.posts) l (client-left w.messages g.l g.rest g.takes g.t g.to_it l i of))) (λ l i. subst (Has l) (sym lines) (has-left w.lines g.did.lines l i));
    creates = λ c e i. now-created c e i says;
    told = λ name c e i. now-told name c e i says;
    ended = λ l x e name c i tells of. ended l x e name c i tells of says;
  })
    where
      g : TargetHearsBy (HearsFurther f.number) r w v
      g = f.hears

      z : TargetState
      z = events.target_after g.s g.new g.memory

      is : List (AttemptId × Epoch)
      is = w.issued ++ events.listed g.did.issued

      more : (x : AttemptId) (e : Epoch) → Has (x, e) w.issued → Has (x, e) is
      more x e i = has-left w.issued (events.listed g.did.issued) (x, e) i

      among : Has g.l w.messages
      among = has-from_contains w.messages g.l (taken-is-among w.messages g.l g.rest g.takes)

      was : (l : Letter) → Has l g.rest → Has l w.messages
      was l j = has-from_contains w.messages l (left-is-among w.messages g.l g.rest l g.takes (contains-from_has g.rest l j))

      so : IsSo r is g.l.message
      so = so-more r w.issued is more g.l.message (a.makings.letters g.l among)

      collects : (c : Collection) → Has c g.s.memory.collecting → CollectsSo r is c
      collects c i = collects-more r w.issued is more c (a.makings.collecting g.t g.s c g.here i)

      snaps : Snapping (IsOfSnap r is) (MayMake r is w g.t g.s.memory g.l.message) g.s.durable g.new.durable
      snaps = further-snaps r w a.many a.few is g.t g.s.opening g.s.memory g.reading g.l.from (kept g.s) (counted-at g.t g.s g.here) collects f.number g.l.message g.new
          (g.memory, g.did) so (λ x e one. listed-has g.did.issued w.issued x e one) (ok-means g.t g.s g.l g.here among) g.turn

      answers : OkIsHeld r is g.new g.did.posts
      answers = further-held r is f.number (target_plan r g.t) g.s.opening g.s.memory g.reading g.l.from g.l.message (kept g.s) g.new (g.memory, g.did) so g.turn

      own : AreTurnLines g.t f.number g.l.message g.did.lines
      own = further-lines f.number (target_plan r g.t) g.s.opening g.s.memory g.reading g.l.from g.l.message (kept g.s) g.new (g.memory, g.did) g.turn

      lines : v.lines ≡ w.lines ++ g.did.lines
      lines =
          ap (λ x. x.lines) g.after
          ∙ ap (λ ls. w.lines ++ ls) (as-added g.t w.issued g.did.lines own.own)

      says : TellsMade r (g.t ≡ 0) is g.s.durable g.new.durable g.did ⊎ LeavesSnapshots g.s.durable g.new.durable g.l.message g.s.memory (g.memory, g.did)
      says =
          further-tells r (g.t ≡ 0) is f.number (target_plan r g.t) g.s.opening g.s.memory g.reading g.l.from (kept g.s) g.new (g.memory, g.did) collects
          (λ c i. collects-first r w a.talks a.requests g.t g.s c g.here i) (λ x e one. listed-has g.did.issued w.issued x e one) w (counted-at g.t g.s g.here) g.l.message
          (λ asks. snap-first r w a.talks a.requests g.l g.rest g.t g.takes g.to_it asks) so
          (a.ends g.l (taken-is-among w.messages g.l g.rest g.takes)) g.turn

      now-created : (c : ContId) (e : Epoch) → holds_created g.new.durable c e ≡ true → TellsMade r (g.t ≡ 0) is g.s.durable g.new.durable g.did ⊎ LeavesSnapshots g.s.durable g.new.durable g.l.message g.s.memory (g.memory, g.did)
          → (holds_created g.s.durable c e ≡ true) ⊎ IsFatedSnap r v c e
      now-created c e i (inr other) = inl (other.created c e i)
      now-created c e i (inl made) = elim (made.creates c e i) [
        | inl before ↦ inl before
        | inr m ↦ inr (record {
          x = m.x;
          issued = subst (Has (m.x, e)) (sym (ap (λ y. y.issued) g.after)) m.issued;
          snaps = m.snaps;
          fate = EndComes (letter_of (target g.t) m.q)
              (subst (Has (letter_of (target g.t) m.q)) (sym (ap (λ y. y.messages) g.after))
              (has-right g.rest (letters_of (target g.t) g.did.posts) (letter_of (target g.t) m.q) (has-map (letter_of (target g.t)) g.did.posts m.q m.sent))) m.says;
        })
      ]

      now-told : (name : List ℕ) (c : ContId) (e : Epoch) → Has (line.Snapshot name c e) g.did.lines → TellsMade r
          (g.t ≡ 0) is g.s.durable g.new.durable g.did ⊎ LeavesSnapshots g.s.durable g.new.durable g.l.message g.s.memory (g.memory, g.did) → (g.t ≡ 0) × (holds_created g.new.durable c e ≡ true)
      now-told name c e i (inl made) = (made.may name c e i, made.made name c e i)
      now-told name c e i (inr other) = absurd (subst (Has (line.Snapshot name c e)) other.lines i)

      ended : (l : Letter) (x : AttemptId) (e : Epoch) (name : List ℕ) (c : ContId) → Has l v.messages → l.message ≡ message.Ended x (Some e) Committed → IsSnapOf r x name c
          → TellsMade r (g.t ≡ 0) is g.s.durable g.new.durable g.did ⊎ LeavesSnapshots g.s.durable g.new.durable g.l.message g.s.memory (g.memory, g.did) → Has l w.messages ⊎ Has (line.Snapshot name c e) v.lines
      ended l x e name c i tells of (inl made) = elim (has-cases g.rest (letters_of (target g.t) g.did.posts) l (subst (Has l) (ap (λ y. y.messages) g.after) i)) [
        | inl j ↦ inl (was l j)
        | inr j ↦ (
            let p = has-from_map (letter_of (target g.t)) g.did.posts l j in
            inr (subst (Has (line.Snapshot name c e)) (sym lines) (has-right w.lines g.did.lines (line.Snapshot name c e) (made.ended p.0 x e name c p.1 (ap (λ y. y.message) p.2 ∙ tells) of))))
      ]
      ended l x e name c i tells of (inr other) = inl (end-was r w v g.t g.s z g.rest g.did.posts g.here (ap (λ x. x.clients) g.after) (ap (λ x. x.targets) g.after)
          (ap (λ x. x.messages) g.after) left (λ c2 j. (c2, subst (Has c2) (sym other.collecting) j, refl)) a.stand a.talks talks
          l.to.number l i (goes-to l x e v of_clients i tells) x (Some e) Committed tells name c of)
        where
          left : (m : Letter) → Has m w.messages → Has m g.rest ⊎ ((m.to ≡ target g.t) × (asks_snapshot m.message ≡ false))
          left m j = elim (taken-or-left w.messages g.l g.rest g.takes m j) [ inl n ↦ inl n | inr it ↦ inr (ap (λ y. y.to) it ∙ g.to_it, ap (λ y. asks_snapshot y.message) it ∙ other.other) ]

  -- ---- a turn that is cut

  cut-snaps : (v : World) (g : TargetCut r w v) → Snapping (IsOfSnap r (w.issued ++ g.cut.issued)) (λ c e. OthersFrozen w g.t c e × IsLostMaker r w (w.issued ++ g.cut.issued) g.t c e) g.s.durable g.cut.left.durable
  cut-snaps v g = by g.work g.in_hand g.turn
    where
      is : List (AttemptId × Epoch)
      is = w.issued ++ g.cut.issued

      now : (x : AttemptId) (e : Epoch) → Has (x, e) g.cut.issued → Has (x, e) is
      now x e i = has-right w.issued g.cut.issued (x, e) i

      more : (x : AttemptId) (e : Epoch) → Has (x, e) w.issued → Has (x, e) is
      more x e i = has-left w.issued g.cut.issued (x, e) i

      collects : (c : Collection) → Has c g.s.memory.collecting → CollectsSo r is c
      collects c i = collects-more r w.issued is more c (a.makings.collecting g.t g.s c g.here i)

      -- who asks for it is without an answer
      lost : (l : Letter) (rest : List Letter) → Takes w.messages l rest → l.to ≡ target g.t → (c : ContId) (e : Epoch) → IsMakerOf r is g.s.memory l.message c e → IsLostMaker r w is g.t c e
      lost l rest takes to c e k = by-asks k.asks
        where
          by-asks : ((name : Key) × (tracker : Epoch) × (l.message ≡ message.Snap k.x c name tracker)) ⊎
              ((n : Collection) × Has n g.s.memory.collecting × (n.attempt ≡ k.x) × ((name : Key) × (n.name ≡ Some name))) → IsLostMaker r w is g.t c e
          by-asks (inl q) = record { x = k.x; issued = k.issued; snaps = k.snaps; l = l; asked = snap-asked r w a.talks a.requests l rest g.t takes to (ap asks_snapshot q.2); to = to; cont = c; name = q.0; tracker = q.1; says = q.2 }
          by-asks (inr n) =
              let q = collected-asked r w a.talks a.requests g.t g.s n.0 n.3.0 g.here n.1 n.3.1 in
              record { x = k.x; issued = k.issued; snaps = k.snaps; l = q.l; asked = q.asked; to = q.to; cont = n.0.cont; name = n.3.0; tracker = q.tracker; says = q.says ∙ ap (λ y. message.Snap y n.0.cont n.3.0 q.tracker) n.2 }

      by : (work : AtWork) → IsInHand w g.t work → CutOf (target_plan r g.t) g.s work g.cut → Snapping (IsOfSnap r is) (λ c e. OthersFrozen w g.t c e × IsLostMaker r w is g.t c e) g.s.durable g.cut.left.durable
      by (Hearing l reading number) hand turn =
          let among = has-from_contains w.messages l (taken-is-among w.messages l hand.0.0 hand.0.1) in
          snapping-more (IsOfSnap r is) (MayMake r is w g.t g.s.memory l.message) (IsOfSnap r is)
          (λ c e. OthersFrozen w g.t c e × IsLostMaker r w is g.t c e) g.s.durable g.cut.left.durable (λ c e f. f) (λ c e f. (f.0, lost l hand.0.0 hand.0.1 hand.1 c e f.1))
          (hearing-snaps r w a.many a.few is g.t g.s.opening g.s.memory reading l.from (kept g.s) (counted-at g.t g.s g.here) collects number g.cut now is_prepared l.message
          (so-more r w.issued is more l.message (a.makings.letters l among)) (ok-means g.t g.s l g.here among) turn)
      by IdleWork hand turn =
          snapping-more (IsOfSnap r is) NoSnaps (IsOfSnap r is) (λ c e. OthersFrozen w g.t c e × IsLostMaker r w is g.t c e) g.s.durable g.cut.left.durable (λ c e f. f) (λ c e f. absurd f)
          (idle-snaps r w a.many a.few is g.t g.s.opening g.s.memory 0 (target g.t) (kept g.s) (counted-at g.t g.s g.here) collects 0 g.cut now turn)

-- no line of such a turn tells of a snapshot
hearing-unmade : (is_due : AttemptId → Durable → Bool) (number : ℕ) (p : TargetPlan) (opening : Epoch × FloorWhy) (m : TargetMemory) (reading : ℕ) (from : ActorId) (q : Message)
    (old : Kept) (cut : Cutting) → HearingIsCut is_due number p opening m reading from q old cut → NoneMade cut.lines
hearing-unmade is_due number p opening m reading from (message.Fetch x op group ep first tracker r snapshot) old cut g = cut-unmade _ _ p.me _ old cut g
hearing-unmade is_due number p opening m reading from (message.Commit x ep first tracker ws) old cut g = by g
  where
    by : CommitIsCut p opening m reading (commit_request x ep first tracker ws) old cut → NoneMade cut.lines
    by (NoneIsDown none turn) = cut-unmade _ _ p.me _ old cut turn
    by (OneIsDown e down is turn) = cut-unmade _ _ p.me _ old cut turn
hearing-unmade is_due number p opening m reading from (message.Prepare e first ws inc) old cut g = cut-unmade _ _ p.me _ old cut g
hearing-unmade is_due number p opening m reading from (message.Ack x inc refusal) old cut g = cut-unmade _ _ p.me _ old cut g
hearing-unmade is_due number p opening m reading from (message.StatusIs x inc how) old cut g = cut-unmade _ _ p.me _ old cut g
hearing-unmade is_due number p opening m reading from (message.Mark inc marks) old cut g = cut-unmade _ _ p.me _ old cut g
hearing-unmade is_due number p opening m reading from (message.Marked inc ids) old cut g = cut-unmade _ _ p.me _ old cut g
hearing-unmade is_due number p opening m reading from (message.Verdict x ask inc v) old cut g = cut-unmade _ _ p.me _ old cut g
hearing-unmade is_due number p opening m reading from (message.Snap x c name tracker) old cut g = cut-unmade _ _ p.me _ old cut g
hearing-unmade is_due number p opening m reading from (message.Freeze x c s) old cut g = cut-unmade _ _ p.me _ old cut g
hearing-unmade is_due number p opening m reading from (message.Held x refusal) old cut g = cut-unmade _ _ p.me _ old cut g
hearing-unmade is_due number p opening m reading from (message.Prune x c (Some tracker) None) old cut g = cut-unmade _ _ p.me _ old cut g
hearing-unmade is_due number p opening m reading from (message.Prune x c None (Some e)) old cut g = cut-unmade _ _ p.me _ old cut g
hearing-unmade is_due number p opening m reading from (message.Query x ask) old cut g = cut-unmade _ _ p.me _ old cut g
hearing-unmade is_due number p opening m reading from (message.Ask x) old cut g = cut-unmade _ _ p.me _ old cut g
hearing-unmade is_due number p opening m reading from (message.Status x inc) old cut g = cut-unmade _ _ p.me _ old cut g
hearing-unmade is_due number p opening m reading from (message.Reset' by down place asked) old cut g = cut-unmade _ _ p.me _ old cut g
hearing-unmade is_due number p opening m reading from q old cut g = absurd g

-- ---- what is lost

resets-not : (down : Bool) (qs : List Letter) (l : Letter) → Has l (map (reset_letter down) qs) → says_done l.message ≡ false
resets-not down qs l i = let z = has-from_map (reset_letter down) qs l i in ap (λ x. says_done x.message) (sym z.2)

lost-none : (t : ℕ) (down : Bool) (w : World) → NoneMoreDone w (with_lost t down w)
lost-none t down w l i is = elim (has-cases (filter (is_not_to t) w.messages) (resets t down w.asked) l i) [
  | inl j ↦ (has-from_filter (is_not_to t) w.messages l j).0
  | inr j ↦ (let off = resets-not down (filter (is_to t) w.asked) l j in let no : ⊥ = cc (off, is) in absurd no)
]

-- what goes to clients stays
lost-stays : (t : ℕ) (down : Bool) (w : World) (l : Letter) → Has l w.messages → l.to.client ≡ true → Has l (with_lost t down w).messages
lost-stays t down w l i of = has-left (filter (is_not_to t) w.messages) (resets t down w.asked) l (has-filter (is_not_to t) w.messages l i (ap (λ b. not (not b && (l.to.number == t))) of))

sweep-keeps : (r : Rules) (o : Opening) (w : World) → RequestsAreOfClients w → Freezings r o w → Freezings r o (swept w)
sweep-keeps r o w of_clients k = beside-keeps r o w (swept w) (record { targets = refl; issued = refl; letters = none; more = λ l i. i; told = λ name c s i. i; known = λ n c kn at i. known-stays r o w (swept w) (λ a s is. is) (λ l j. j) n kn (k.known n c kn at i); knows = k.knows; undated = k.undated; committed = k.committed; fates = fates-stay r w (swept w) of_clients stay (λ l i. i) }) k
  where
    told : List Letter
    told = map (reset_letter true) (filter (is_to_down w.targets) w.asked)

    stay : (l : Letter) → Has l w.messages → l.to.client ≡ true → Has l (swept w).messages
    stay l i of = has-filter (is_not_to_down w.targets) (w.messages ++ told) l (has-left w.messages told l i) (ap (λ b. not (not b && is_down_at w.targets l.to.number)) of)

    none : NoneMoreDone w (swept w)
    none l i is = elim (has-cases w.messages told l (has-from_filter (is_not_to_down w.targets) (w.messages ++ told) l i).0) [
      | inl j ↦ j
      | inr j ↦ (let off = resets-not true (filter (is_to_down w.targets) w.asked) l j in let no : ⊥ = cc (off, is) in absurd no)
    ]

-- ---- openings

snaps-reopened : (d : Durable) → (reopened d).snaps ≡ d.snaps
unfolding reopened
snaps-reopened d = refl

module _ (r : Rules) (o : Opening) (w : World) (of_clients : RequestsAreOfClients w) (k : Freezings r o w) where
  -- a target changes, which keeps the same snapshots and collects nothing more, and lines are added that tell of none
  same-keeps : (v : World) (t : ℕ) (s z : TargetState) (ls : List Line) → slice_get w.targets t ≡ Some s → v.targets ≡ set w.targets t z → v.clients ≡ w.clients
      → v.issued ≡ w.issued → v.lines ≡ w.lines ++ ls → ((x : Attempt) → Has (line.Try x) ls → ⊥) → NoneMade ls → z.durable.snaps ≡ s.durable.snaps
      → ((n : Collection) → Has n z.memory.collecting → Has n s.memory.collecting) → NoneMoreDone w v → ((l : Letter) → Has l w.messages → l.to.client ≡ true → Has l v.messages) → Freezings r o v
  same-keeps v t s z ls here targets clients issued lines untried unmade snaps fewer none stay = turn-keeps r o w v k (record {
    fates = fates-stay r w v of_clients stay (λ l i. subst (Has l) (sym lines) (has-left w.lines ls l i));
    creates = λ c e is. inl (same-created s.durable z.durable snaps c e is);
    t = t;
    s = s;
    z = z;
    here = here;
    targets = targets;
    clients = clients;
    issued = λ x e i. subst (Has (x, e)) (sym issued) i;
    snaps = snapping-same _ _ s.durable z.durable snaps;
    letters = λ l x c i says made. inl (none l i (ap says_done says));
    collecting = λ n name i named. (let h = k.counted t s n name here (fewer n i) named in ((snapping-same (λ c e. ⊥) (λ c e. ⊥) s.durable z.durable snaps).stays n.cont n.epoch h.0, h.1));
    adds = ls;
    lines = lines;
    untried = untried;
    told = λ name c e i. absurd (unmade name c e i);
    ended = λ l x e name c i says of. inl (none l i (ap says_done says));
  })

  opening-keeps : (v : World) → TargetOpens r w v → Freezings r o v
  opening-keeps v g = same-keeps v g.t g.s _ (restart_line g.number g.t g.s.durable ∷ []) g.here (ap (λ x. x.targets) g.after) (ap (λ x. x.clients) g.after)
      (ap (λ x. x.issued) g.after) (ap (λ x. x.lines) g.after) untried unmade (snaps-reopened g.s.durable) (λ n i. absurd i)
      (none-more (target g.t) w.messages (opening_posts (target_plan r g.t) (reopened g.s.durable)) w v (ap (λ x. x.messages) g.after) (λ l i. i) (unasked-not _ (opening-unasked r g.t (reopened g.s.durable))))
      (λ l i of. subst (Has l) (sym (ap (λ x. x.messages) g.after)) (has-left w.messages _ l i))
    where
      untried : (x : Attempt) → Has (line.Try x) (restart_line g.number g.t g.s.durable ∷ []) → ⊥
      untried x (inl same) = let no : ⊥ = cc in no
      untried x (inr none) = none

      unmade : NoneMade (restart_line g.number g.t g.s.durable ∷ [])
      unmade name c e (inl same) = let no : ⊥ = cc in no
      unmade name c e (inr none) = none

  failing-keeps : (v : World) → OpeningFails r w v → Freezings r o v
  failing-keeps v g =
      same-keeps v g.t g.s _ [] g.here (ap (λ x. x.targets) g.after) (ap (λ x. x.clients) g.after) (ap (λ x. x.issued) g.after) (ap (λ x. x.lines) g.after ∙ sym (append-nil w.lines)) (λ x i. i) (λ name c e i. i) (left g.left) (λ n i. i)
      (λ l i is. subst (Has l) (ap (λ x. x.messages) g.after) i) (λ l i of. subst (Has l) (sym (ap (λ x. x.messages) g.after)) i)
    where
      left : (g.k.durable ≡ g.s.durable) ⊎ (g.k.durable ≡ reopened g.s.durable) → g.k.durable.snaps ≡ g.s.durable.snaps
      left (inl same) = ap (λ d. d.snaps) same
      left (inr raised) = ap (λ d. d.snaps) raised ∙ snaps-reopened g.s.durable

  given_up-keeps : (v : World) → TargetGivenUp r w v → Freezings r o v
  given_up-keeps v g = same-keeps v g.t g.s _ (line.Down g.t ∷ []) g.here (ap (λ x. x.targets) g.after) (ap (λ x. x.clients) g.after) (ap (λ x. x.issued) g.after) (ap (λ x. x.lines) g.after) untried unmade refl (λ n i. i)
      (λ l i is. lost-none g.t true w l (subst (Has l) (ap (λ x. x.messages) g.after) i) is) (λ l i of. subst (Has l) (sym (ap (λ x. x.messages) g.after)) (lost-stays g.t true w l i of))
    where
      untried : (x : Attempt) → Has (line.Try x) (line.Down g.t ∷ []) → ⊥
      untried x (inl same) = let no : ⊥ = cc in no
      untried x (inr none) = none

      unmade : NoneMade (line.Down g.t ∷ [])
      unmade name c e (inl same) = let no : ⊥ = cc in no
      unmade name c e (inr none) = none

  drawing-keeps : (v : World) → NumbersDrawn w v → Freezings r o v
  drawing-keeps v g = subst (Freezings r o) (sym g.after) (beside-keeps r o w (record w { numbers = g.numbers })
      (record {
        targets = refl;
        issued = refl;
        letters = λ l i is. i;
        more = λ l i. i;
        told = λ name c s i. i;
        known = λ n c kn at i. known-stays r o w
            (record w { numbers = g.numbers }) (λ a s is. is) (λ l j. j) n kn (k.known n c kn at i);
        knows = k.knows;
        undated = k.undated;
        committed = k.committed;
        fates = fates-stay r w (record w { numbers = g.numbers }) of_clients (λ l i of. i) (λ l i. i);
      }) k)

cut-keeps : (r : Rules) (o : Opening) (w : World) → HoldsAround r w → Freezings r o w → (v : World) → TargetCut r w v → Freezings r o v
cut-keeps r o w a k v g = turn-keeps r o w v k (record {
  t = g.t;
  s = g.s;
  z = _;
  here = g.here;
  targets = ap (λ x. x.targets) g.after;
  clients = ap (λ x. x.clients) g.after;
  issued = λ x e i. subst (Has (x, e)) (sym (ap (λ y. y.issued) g.after)) (has-left w.issued g.cut.issued (x, e) i);
  snaps = subst (λ js. Snapping (IsOfSnap r js) (OthersFrozen w g.t) g.s.durable g.cut.left.durable) (sym (ap (λ y. y.issued) g.after))
      (snapping-more (IsOfSnap r (w.issued ++ g.cut.issued)) (λ c e. OthersFrozen w g.t c e × IsLostMaker r w (w.issued ++ g.cut.issued) g.t c e)
      (IsOfSnap r (w.issued ++ g.cut.issued)) (OthersFrozen w g.t) g.s.durable g.cut.left.durable (λ c e f. f) (λ c e f. f.0) snaps);
  fates = fates-stay r w v a.requests (λ l i of. subst (Has l) (sym (ap (λ y. y.messages) g.after)) (lost-stays g.t false w l i of)) (λ l i. subst (Has l) (sym lines) (has-left w.lines more l i));
  creates = λ c e i. elim (snaps.made c e i) [ inl was ↦ inl was | inr new ↦ inr (fated c e new.1) ];
  letters = λ l x c i says made. inl (lost-none g.t false w l (subst (Has l) (ap (λ y. y.messages) g.after) i) (ap says_done says));
  collecting = λ n name i named. absurd i;
  adds = more;
  lines = lines;
  untried = untried;
  told = λ name c e i. absurd (unmade name c e i);
  ended = λ l x e name c i says of. inl (lost-none g.t false w l (subst (Has l) (ap (λ y. y.messages) g.after) i) (ap says_done says));
})
  where
    snaps : Snapping (IsOfSnap r (w.issued ++ g.cut.issued)) (λ c e. OthersFrozen w g.t c e × IsLostMaker r w (w.issued ++ g.cut.issued) g.t c e) g.s.durable g.cut.left.durable
    snaps = cut-snaps r o w a k v g

    -- who asked for what was created is told that it got no answer
    fated : (c : ContId) (e : Epoch) → IsLostMaker r w (w.issued ++ g.cut.issued) g.t c e → IsFatedSnap r v c e
    fated c e m = record {
      x = m.x;
      issued = subst (Has (m.x, e)) (sym (ap (λ y. y.issued) g.after)) m.issued;
      snaps = m.snaps;
      fate = LossComes (reset_letter false m.l) m.l.to.number false m.cont m.name m.tracker
          (subst (Has (reset_letter false m.l)) (sym (ap (λ y. y.messages) g.after))
          (has-right (filter (is_not_to g.t) w.messages) (resets g.t false w.asked) (reset_letter false m.l)
          (has-map (reset_letter false) (filter (is_to g.t) w.asked) m.l (has-filter (is_to g.t) w.asked m.l m.asked (ap (λ y. not y.client && (y.number == g.t)) m.to ∙ same_number g.t)))))
          (ap (reset_message m.l.to.number false) m.says);
    }

    more : List Line
    more = g.cut.lines ++ line.Stop (stops_so_far w.lines) g.t ∷ []

    lines : v.lines ≡ w.lines ++ more
    lines = ap (λ x. x.lines) g.after ∙ append_assoc w.lines g.cut.lines (line.Stop (stops_so_far w.lines) g.t ∷ [])

    own : (work : AtWork) → CutOf (target_plan r g.t) g.s work g.cut → (l : Line) → Has l g.cut.lines → IsTurnLine g.t l
    own (Hearing l reading number) turn = (hearing-cut is_prepared number (target_plan r g.t) g.s.opening g.s.memory reading l.from l.message (kept g.s) g.cut turn).own
    own IdleWork turn = (idle-cut g.t 0 (message.Ask (record { client = 0; command = 0; attempt = 0 })) g.s.memory (kept g.s) g.cut turn).own

    untried : (x : Attempt) → Has (line.Try x) more → ⊥
    untried x i = elim (has-cases g.cut.lines (line.Stop (stops_so_far w.lines) g.t ∷ []) (line.Try x) i) [
      | inl j ↦ own g.work g.turn (line.Try x) j
      | inr j ↦ stop j
    ]
      where
        stop : Has (line.Try x) (line.Stop (stops_so_far w.lines) g.t ∷ []) → ⊥
        stop (inl same) = let no : ⊥ = cc in no
        stop (inr none) = none

    of-cut : (work : AtWork) → CutOf (target_plan r g.t) g.s work g.cut → NoneMade g.cut.lines
    of-cut (Hearing l reading number) turn = hearing-unmade is_prepared number (target_plan r g.t) g.s.opening g.s.memory reading l.from l.message (kept g.s) g.cut turn
    of-cut IdleWork turn = cut-unmade _ _ g.t _ (kept g.s) g.cut turn

    unmade : NoneMade more
    unmade name c e i = elim (has-cases g.cut.lines (line.Stop (stops_so_far w.lines) g.t ∷ []) (line.Snapshot name c e) i) [
      | inl j ↦ of-cut g.work g.turn name c e j
      | inr j ↦ stop j
    ]
      where
        stop : Has (line.Snapshot name c e) (line.Stop (stops_so_far w.lines) g.t ∷ []) → ⊥
        stop (inl same) = let no : ⊥ = cc in no
        stop (inr none) = none

-- ---- every event

happening-keeps : (r : Rules) (o : Opening) (w v : World) → 0 < r.attempts → HoldsAround r w → LeadersKnow r w → Happening r w v → Freezings r o w → Freezings r o v
happening-keeps r o w v some a leaders h k = by h
  where
    by : Happening r w v → Freezings r o v
    by (Plainly e up) = plain-keeps r o w a k v some (happenings-keep r w v a.requests leaders h a.talks) (requests-happen r w v a.requests h) e
    by (Further g) = further-keeps r o w a k v (happenings-keep r w v a.requests leaders h a.talks) (requests-happen r w v a.requests h) g
    by (IsCut g) = cut-keeps r o w a k v g
    by (Opens g) = opening-keeps r o w a.requests k v g
    by (Fails g) = failing-keeps r o w a.requests k v g
    by (GivenUp g) = given_up-keeps r o w a.requests k v g
    by (Draws g) = drawing-keeps r o w a.requests k v g

pub event-keeps : (r : Rules) (o : Opening) (w v : World) → 0 < r.attempts → HoldsAround r w → LeadersKnow r w → WorldEvent r w v → Freezings r o w → Freezings r o v
event-keeps r o w v some a leaders e k = subst (Freezings r o) (sym e.after) (sweep-keeps r o e.u (requests-happen r w e.u a.requests e.happens) (happening-keeps r o w e.u some a leaders e.happens k))

-- ---- the beginning

pub freezings-begin : (r : Rules) (o : Opening) (w : World) → w.messages ≡ [] → w.lines ≡ [] → ((t : ℕ) (z : TargetState) → slice_get w.targets t ≡ Some z → z.memory.collecting ≡ [])
    → ((z : TargetState) (c : ContId) (s : Epoch) → slice_get w.targets 0 ≡ Some z → holds_created z.durable c s ≡ true → (t : ℕ) → KeepsFrozen w t c s)
    → ((t : ℕ) (z : TargetState) (c : ContId) (s : Epoch) → slice_get w.targets t ≡ Some z → is_frozen z.durable c s ≡ true → s.0 ≤ top o)
    → ((n : ℕ) (c : ClientState) (k : KnownSnap) → slice_get w.clients n ≡ Some c → Has k c.known → IsKnownSo r o w n k) → ((n : ℕ) (c : ClientState) → slice_get w.clients n ≡ Some c → c.present ≡ None) → Freezings r o w
freezings-begin r o w messages lines collecting created low known idle = record {
  held = λ l x c i says made. absurd (subst (Has l) messages i);
  counted = λ t z n name at i named. absurd (subst (Has n) (collecting t z at) i);
  everywhere = created;
  origin = λ t z c s at is. inl (low t z c s at is);
  lines = λ name c s i. absurd (subst (Has (line.Snapshot name c s)) lines i);
  ended = λ l x s name c i says of. absurd (subst (Has l) messages i);
  known = known;
  knows = λ n c a name e at i own made. absurd (subst (Has (line.Try a)) lines i);
  fated = λ z c s at is high. (let up : s.0 ≤ top o = low 0 z c s at (created-frozen z.durable c s is) in absurd (omega (arith, up, high)));
  undated = λ n c at a name cont here command. (let no : ⊥ = cc (idle n c at, here) in absurd no);
  committed = subst (EachTry (HasSnapshotLine r.script)) (sym lines) (λ before x after is. absurd (none before x after is));
}
  where
    none : (before : List Line) (x : Attempt) (after : List Line) → [] ≡ before ++ line.Try x ∷ after → ⊥
    none [] x after is = let no : ⊥ = cc in no
    none (b ∷ bs) x after is = let no : ⊥ = cc in no
