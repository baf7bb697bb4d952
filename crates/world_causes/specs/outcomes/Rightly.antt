-- Every right event of a target keeps the facts of outcomes.
use Rattle.std.specs.Prelude.{ℕ, ◌≡◌, ◌⊎◌, ◌++◌, true, false, List, [], ◌∷◌, slice_get, Contains, Option, Some, is_some, refl}
use Rattle.std.proofs.Common.{append-nil, sym, ◌∙◌, ap, subst, inl, inr}
use Rattle.std.proofs.Math.ListN.{set}
use Rattle.base_types.specs.declared.entry.Entry.{Entry}
use Rattle.base_types.specs.declared.operation.MinorWrite.{MinorWrite}
use Rattle.base_messages.specs.declared.actor.ActorId.{ActorId}
use Rattle.base_types.specs.declared.epoch.Epoch.{Epoch}
use Rattle.base_types.specs.declared.id.AttemptId.{AttemptId}
use Rattle.base_types.specs.declared.outcome.Outcome.{Outcome}
use Rattle.base_types.specs.declared.report.Attempt.{Attempt}
use Rattle.base_types.specs.declared.report.Line.{Line}
use Rattle.model_laws.specs.Members.{Has, has-cases, has-from_map, has-left}
use Rattle.base_messages.specs.declared.message.Message.{Message}
use Rattle.base_messages.specs.declared.message.Message.TheVariants as message
use Rattle.base_messages.specs.declared.message.Post.{Post}
use Rattle.daos_model.specs.Attempts.{tries}
use Rattle.daos_model.specs.Durables.{entry_of}
use Rattle.daos_model.specs.EntryLaws.{same_attempt-itself}
use Rattle.dtx_base.specs.Leading.{undecided_attempt}
use Rattle.dtx_base.specs.Rows.{is_among, row_of}
use Rattle.world_contents.specs.world_commit.attempts.Attempts.{IsHeld, IsOpenAt, entry_in, leader_of, row_at, row_in}
use Rattle.world_contents.specs.world_commit.attempts.Counting.{has-taken}
use Rattle.world_contents.specs.world_commit.attempts.History.{GrowsBy, History, Tells}
use Rattle.world_contents.specs.world_commit.attempts.Stored.{target-is}
use Rattle.world_base.specs.declared.letter.Letter.{Letter}
use Rattle.world_base.specs.declared.target.TargetState.{TargetState}
use Rattle.world_base.specs.declared.world.World.{World}
use Rattle.world_base.specs.Events.{Rules, TargetHearsRightly, TargetIdles, kept, target_after, target_plan}
use Rattle.world_base.specs.Letters.{letter_of, letters_of, target}
use Rattle.world_base.specs.MemoryLaws.{hears-follows, idles-follows}
use Rattle.world_base.specs.Prepares as prepare
use Rattle.world_base.specs.RightTurns.{HearsRightly}
use Rattle.world_base.specs.TargetTurns.{commit_request, prepare_request}
use Rattle.world_base.specs.Changes.{Kept}
use Rattle.world_base.specs.declared.did.Did.{Did}
use Rattle.world_base.specs.declared.target.TargetMemory.{TargetMemory}
use Rattle.world_contents.specs.world_commit.fates.Facts.{Attempts, IsAckRight, IsSaidSo}
use Rattle.world_contents.specs.world_commit.fates.Lefts.{fetch-left, idle-left, mark-answers, marked-left, query-answers, verdict-left}
use Rattle.world_contents.specs.world_commit.fates.Told.{silent_at}
use Rattle.world_contents.specs.world_commit.fates.Working.{ArePlain, mild-untold, plain-mild}
use Rattle.world_causes.specs.outcomes.Concluding.{Concludes}
use Rattle.world_causes.specs.outcomes.Hearing.{AreToldOf, held-back, hearing-concludes}
use Rattle.world_causes.specs.outcomes.Premises.{CommitsAreOfClients, hands}
use Rattle.world_causes.specs.outcomes.Storing.{idles-unstored, rightly-unstored}
use Rattle.world_causes.specs.outcomes.Telling.{AreEndsOf, end_to, IsOfRow, ack-tells, commit-ends, post_to, silent-tells, single}
use Rattle.world_causes.specs.outcomes.TurnLaws.{tried-cases}

-- no line tells of an attempt where there is none
pub untried : (lines : List Line) (a : Attempt) → lines ≡ [] → Has a (tries lines) → ⊥
unfolding tries
untried lines a none i = subst (λ ls. Has a (tries ls)) none i

plain-untold : (posts : List Post) → ArePlain posts → (x : AttemptId) (own : Option Epoch) (how : Outcome) → Tells posts x own how → ⊥
plain-untold posts plain x own how tells = mild-untold posts (λ q i. plain-mild q.message (plain q i)) x own how tells

-- of an attempt with a row its leader has the entry
pub row-held : (r : Rules) (h : History) (w : World) (t : ℕ) (s : TargetState) (m : TargetMemory) (a x : AttemptId) (own : Option Epoch) (how : Outcome) → Attempts r h w → slice_get w.targets t ≡ Some s → m.leader ≡ s.memory.leader → IsOfRow m a x own how → IsHeld w (leader_of r x) x
row-held r h w t s m a x own how k here same row = subst (λ y. IsHeld w (leader_of r y) y) (sym row.end.same) (subst (λ u. IsHeld w u a) open'.leads (record { entry = open'.entry; found = open'.found }))
  where
    there : row_at w t a ≡ Some row.u
    there = ap (λ o. row_in o a) here ∙ ap (λ l. row_of undecided_attempt a l.undecided) (sym same) ∙ row.row

    open' : IsOpenAt r w a t
    open' = ((k.on.each a).rows.undecided t row.u there).here

module _ (r : Rules) (h later : History) (w v : World) (k : Attempts r h w) (k2 : Attempts r later v) (of_clients : CommitsAreOfClients v) where
  -- ---- a message is heard

  module _ (g : TargetHearsRightly r w v) where
    abbrev Turn : Message → Type 0
    Turn m = HearsRightly (target_plan r g.t) g.s.opening g.s.memory g.reading g.l.from m (kept g.s) g.new (g.memory, g.did)

    -- what is said of an attempt that is asked
    asked-of : (a : AttemptId) (m : Message) → g.l.message ≡ m → hands a m ≡ true → AreEndsOf a g.did.posts → AreToldOf r w g.l.message g.did.posts
    asked-of a m is own ends x own2 how tells =
        let end = ends x own2 how tells in
        record { whose = inr (ap (hands x) is ∙ ap (λ y. hands y m) end.same ∙ own); dated = end.dated }

    none-told : ((x : AttemptId) (own : Option Epoch) (how : Outcome) → Tells g.did.posts x own how → ⊥) → AreToldOf r w g.l.message g.did.posts
    none-told none x own how tells = absurd (none x own how tells)

    -- one message alone is sent, which tells no end
    alone : (to : ActorId) (m : Message) → g.did.posts ≡ post_to to m ∷ [] → ((x : AttemptId) (own : Option Epoch) (how : Outcome) → m ≡ message.Ended x own how → ⊥) → AreToldOf r w g.l.message g.did.posts
    alone to m sent off = none-told (λ x own how tells. off x own how (single to m x own how (subst (λ ps. Tells ps x own how) sent tells)))

    prepare-told : (e : Entry) (first : Option Epoch) (ws : List MinorWrite) (inc : ℕ) → Turn (message.Prepare e first ws inc) → AreToldOf r w g.l.message g.did.posts
    prepare-told e first ws inc turn = by turn.last g.new (g.memory, g.did) turn.ends
      where
        by : (s : prepare.PrepareStage) (n : Kept) (left : TargetMemory × Did) → prepare.PrepareEnds (target_plan r g.t) g.s.opening g.s.memory (prepare_request e first ws inc) s n left → AreToldOf r w g.l.message left.1.posts
        by s n left (prepare.IsRefused n2 c left2 why ends) = subst (λ i. AreToldOf r w g.l.message i.1.posts) (sym ends) (λ x own how tells. let no : ⊥ = cc (single _ _ x own how tells) in absurd no)
        by s n left (prepare.HasNoSpace n2 left2 allowed full ends) = subst (λ i. AreToldOf r w g.l.message i.1.posts) (sym ends) (λ x own how tells. let no : ⊥ = cc (single _ _ x own how tells) in absurd no)
        by s n left (prepare.IsPrepared n2 left2 ends) = subst (λ i. AreToldOf r w g.l.message i.1.posts) (sym ends) (λ x own how tells. let no : ⊥ = cc (single _ _ x own how tells) in absurd no)

    -- an answer to a leader goes to it
    ack-told : (a : AttemptId) (inc : ℕ) (refusal : Option Outcome) → g.l.message ≡ message.Ack a inc refusal → Turn (message.Ack a inc refusal) → AreToldOf r w g.l.message (g.did.posts ++ silent_at g.s (target_after g.s g.new g.memory) (message.Ack a inc refusal))
    ack-told a inc refusal is turn x own how tells = elim (has-cases g.did.posts silent (end_to tells.to x own how) tells.sent) [
      | inl j ↦
          let row = ack-tells (target_plan r g.t) g.s.memory g.l.from.number a inc refusal (kept g.s) g.new turn.last (g.memory, g.did) turn.reached turn.ends x own how (record { to = tells.to; sent = j }) in
          record { whose = inl (row-held r h w g.t g.s g.s.memory a x own how k g.here refl row); dated = row.end.dated }
      | inr j ↦
          let old = silent-tells a refusal (entry_of g.s.durable a) (is_among a g.s.memory.leader.decided) (is_among a g.memory.leader.decided) (is_some (entry_of g.new.durable a)) x own how (record { to = tells.to; sent = j }) in
          record { whose = inl (subst (λ y. IsHeld w (leader_of r y) y) (sym old.end.same) (subst (λ u. IsHeld w u a) leads (record { entry = old.entry; found = ap (λ o. entry_in o a) g.here ∙ old.found }))); dated = old.end.dated }
    ]
      where
        silent : List Post
        silent = silent_at g.s (target_after g.s g.new g.memory) (message.Ack a inc refusal)

        says : IsAckRight r h w g.l.from g.l.to a inc refusal
        says = subst (IsSaidSo r h w g.l.from g.l.to) is (k.on.letters g.l (has-taken w.messages g.l g.rest g.takes))

        leads : g.t ≡ leader_of r a
        leads = target-is g.t (leader_of r a) (sym g.to_it ∙ says.way.receiver)

    silently : (m : Message) → silent_at g.s (target_after g.s g.new g.memory) m ≡ [] → AreToldOf r w g.l.message g.did.posts → AreToldOf r w g.l.message (g.did.posts ++ silent_at g.s (target_after g.s g.new g.memory) m)
    silently m none all = subst (AreToldOf r w g.l.message) (sym (ap (λ ps. g.did.posts ++ ps) none ∙ append-nil g.did.posts)) all

    whose : (m : Message) → g.l.message ≡ m → Turn m → AreToldOf r w g.l.message (g.did.posts ++ silent_at g.s (target_after g.s g.new g.memory) m)
    whose (message.Fetch x op group ep first tracker read snapshot) is turn = silently (message.Fetch x op group ep first tracker read snapshot) refl (none-told (plain-untold g.did.posts (fetch-left r h w v k.on g x op group ep first tracker read snapshot is turn).plain))
    whose (message.Commit x ep first tracker ws) is turn =
        silently (message.Commit x ep first tracker ws) refl
        (asked-of x (message.Commit x ep first tracker ws) is (same_attempt-itself x) (commit-ends (target_plan r g.t) g.s.opening g.s.memory g.reading (commit_request x ep first tracker ws) g.l.from turn.last g.new (g.memory, g.did) turn.ends))
    whose (message.Prepare e first ws inc) is turn = silently (message.Prepare e first ws inc) refl (prepare-told e first ws inc turn)
    whose (message.Ack x inc refusal) is turn = ack-told x inc refusal is turn
    whose (message.Mark inc marks) is turn = silently (message.Mark inc marks) refl (alone _ _ (mark-answers r h w v k.on g inc marks is turn).sent (λ x own how says. let no : ⊥ = cc in no))
    whose (message.Marked inc ids) is turn = silently (message.Marked inc ids) refl (none-told (plain-untold g.did.posts (marked-left r h w v k.on g inc ids is turn).plain))
    whose (message.Query x ask) is turn = silently (message.Query x ask) refl (alone _ _ (query-answers r h w v k.on g x ask is turn).sent (λ y own how says. let no : ⊥ = cc in no))
    whose (message.Verdict x ask inc c) is turn = silently (message.Verdict x ask inc c) refl (none-told (plain-untold g.did.posts (verdict-left r h w v k.on g x ask inc c is turn).plain))
    whose m is turn = absurd turn

    pub rightly-concludes : GrowsBy h (g.did.posts ++ silent_at g.s (target_after g.s g.new g.memory) g.l.message) later → Concludes r h later w v
    rightly-concludes grows =
        hearing-concludes HearsRightly r h later w v k k2 g (g.did.posts ++ silent_at g.s (target_after g.s g.new g.memory) g.l.message) grows of_clients
        (λ x off none. rightly-unstored x (target_plan r g.t) g.s.opening g.s.memory g.reading g.l.from (kept g.s) none g.l.message g.new (g.memory, g.did) off g.turn)
        (whose g.l.message refl g.turn)
        (λ x own how some tells. inl (record { to = tells.to; sent = has-left g.did.posts (silent_at g.s (target_after g.s g.new g.memory) g.l.message) (end_to tells.to x own how) tells.sent }))
        (λ a i. untried g.did.lines a (hears-follows (target_plan r g.t) g.s.opening g.s.memory g.reading g.l.from g.l.message (kept g.s) g.new (g.memory, g.did) g.turn).lines i)

  -- ---- idle work

  module _ (g : TargetIdles r w v) (grows : GrowsBy h g.did.posts later) where
    abbrev z : TargetState
    z = target_after g.s g.new g.memory

    targets : v.targets ≡ set w.targets g.t z
    targets = ap (λ u. u.targets) g.after

    untold : (x : AttemptId) (own : Option Epoch) (how : Outcome) → Tells g.did.posts x own how → ⊥
    untold = plain-untold g.did.posts (idle-left r h w v k.on g).plain

    from-where : (l : Letter) → Has l v.messages → Has l w.messages ⊎ ((q : Post) × Has q g.did.posts × (letter_of (target g.t) q ≡ l))
    from-where l i = elim (has-cases w.messages (letters_of (target g.t) g.did.posts) l (subst (Has l) (ap (λ u. u.messages) g.after) i)) [
      | inl j ↦ inl j
      | inr j ↦ inr (has-from_map (letter_of (target g.t)) g.did.posts l j)
    ]

    pub idling-concludes : Concludes r h later w v
    idling-concludes = record {
      clients = ap (λ u. u.clients) g.after;
      lines = λ a i. elim (tried-cases w.issued w.lines g.did.lines a (subst (λ ls. Contains (tries ls) a) (ap (λ u. u.lines) g.after) i)) [
        | inl before ↦ before
        | inr new ↦ absurd (untried g.did.lines new.0 (idles-follows g.settling (target_plan r g.t) g.s.memory (kept g.s) g.new (g.memory, g.did) g.turn).lines new.1)
      ];
      decided = grows.decided;
      aborted = grows.aborted;
      told = λ l x own how i says some. elim (from-where l i) [
        | inl j ↦ inl j
        | inr q ↦ absurd (untold x own how (record { to = q.0.to; sent = subst (λ m. Has (record { to = q.0.to; message = m }) g.did.posts) (ap (λ m. m.message) q.2 ∙ says) q.1 }))
      ];
      commit = λ l x i is. elim (from-where l i) [
        | inl j ↦ j
        | inr q ↦ let bad : false ≡ true = ap (λ m. m.from.client) q.2 ∙ of_clients l x i is in (let no : ⊥ = cc in absurd no)
      ];
      stored = λ x held. inl (held-back w v g.t g.s z g.here targets (leader_of r x) x (λ none. idles-unstored x (target_plan r g.t) g.s.opening g.s.memory 0 (target g.t) (kept g.s) none g.settling g.new (g.memory, g.did) g.turn) held);
      ended = λ x gone. elim (grows.only_aborted x gone) [ inl before ↦ inl (inr before) | inr tells ↦ absurd (untold x tells.own tells.how tells.told) ];
    }
