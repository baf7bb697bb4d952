-- A turn of a target is cut: what is said of epochs stays so.
use Rattle.std.specs.Prelude.{ℕ, ◌≡◌, ◌≤◌, ◌/◌, ◌⊎◌, ◌++◌, ◌&&◌, ◌==◌, not, Bool, true, false, List, [], ◌∷◌, Contains, filter, slice_get, Option, Some, None, refl}
use Rattle.std.proofs.Common.{sym, ◌∙◌, ap, subst, arith, append_assoc, inl, inr}
use Rattle.std.proofs.Math.ListN.{set}
use Rattle.std.proofs.lemmas.List.Elements.{Contains-append_left}
use Rattle.std.proofs.lemmas.Option.{some_pair_parts}
use Rattle.base_types.specs.declared.epoch.Epoch.{Epoch}
use Rattle.base_types.specs.declared.id.AttemptId.{AttemptId}
use Rattle.base_types.specs.declared.operation.MinorWrite.{MinorWrite}
use Rattle.base_types.specs.declared.operation.Read.{Read}
use Rattle.base_types.specs.declared.report.Attempt.{Attempt}
use Rattle.base_types.specs.declared.report.Line.{Line}
use Rattle.base_types.specs.declared.report.Line.TheVariants as line
use Rattle.base_messages.specs.declared.message.Message.{Message}
use Rattle.base_messages.specs.declared.message.Message.TheVariants as message
use Rattle.model_laws.specs.Members.{Has, contains-from_has, has-cases, has-from_contains, has-from_filter, has-from_map, has-left, has-right}
use Rattle.model_laws.specs.TargetLaws.{same_number}
use Rattle.world_base.specs.declared.letter.Letter.{Letter}
use Rattle.world_base.specs.declared.target.TargetPlan.{TargetPlan}
use Rattle.world_base.specs.declared.target.TargetState.{TargetState}
use Rattle.world_base.specs.declared.world.World.{World}
use Rattle.world_base.specs.CutTurns.{CommitIsCut, Cutting, HearingIsCut, NoneIsDown, OneIsDown, issued_by_freeze, issued_by_prune}
use Rattle.world_base.specs.Events.{Rules, kept, listed, target_plan}
use Rattle.world_base.specs.Letters.{Takes, target}
use Rattle.world_base.specs.Roles.{is_prepared}
use Rattle.world_base.specs.Snapshots as snap
use Rattle.world_base.specs.StepLaws.{set-here, set-twice}
use Rattle.world_base.specs.Stops.{AtWork, CutOf, Hearing, IdleWork, IsInHand, TargetCut, after_cut, is_not_to, is_to, reset_letter, resets, stopped_at, stops_so_far}
use Rattle.world_base.specs.TargetTurns.{commit_request, fetch_request}
use Rattle.world_letters.specs.clients.Snapshots.{is_at_snapshot}
use Rattle.world_letters.specs.epochs.Epochs.{AsksEpoch, Epochs}
use Rattle.world_letters.specs.epochs.Sayings.{AreKnown, Known, Stays, known-all}
use Rattle.world_letters.specs.epochs.Talking.{TalksOnce}
use Rattle.world_letters.specs.epochs.TargetLaws.{IsNew, after_target, issued_then}
use Rattle.world_causes.specs.hearing.Cutting.{turn-silent}
use Rattle.world_causes.specs.hearing.EpochCuts.{CutDid, IsLeft, gone_on}
use Rattle.world_causes.specs.hearing.EpochRequests.{AnEpoch, CutIssues, NoEpoch, commit-cut, fetch-cut-issues}
use Rattle.world_causes.specs.hearing.Storing.{BringsKnown, hearing-cut-kept, idle-cut-kept}
use Rattle.world_causes.specs.restarts.CutLaws.{commit-is-cut}
use Rattle.world_causes.specs.restarts.EpochLaws.{rests-epochs}
use Rattle.world_causes.specs.restarts.Resting.{Rests, RestsAt, is_silent, one-few, one-rests, one-there}
use Rattle.world_causes.specs.world_commit.stops.CutEvents.{is_without_snapshots}
use Rattle.world_making.specs.dates.Hearing.{BringsEpoch}
use Rattle.world_making.specs.dates.Keeping.{freeze-cut, freeze-cut_issues, held-cut, prune-cut, prune-cut_issues}
use Rattle.world_making.specs.dates.Reading.{snapshot-cut-issues-none}
use Rattle.world_making.specs.dates.Targets.{target-dates}
use Rattle.world_making.specs.dates.Turning.{borne-then, may-date, others-ask, others-lack, parked-then}

-- ---- the world after it

module _ (r : Rules) (top : ℕ) (w v : World) (E : Epochs r top w) (t : ℕ) (s : TargetState) (here : slice_get w.targets t ≡ Some s) (cut : Cutting) (after : v ≡ after_cut w t s cut) (rest : List Letter) (o : Option (AttemptId × Epoch)) (ticks : ℕ)
    (D : CutDid r top w t s cut rest o ticks) (own : (x : AttemptId) (e : Epoch) → o ≡ Some (x, e) → is_at_snapshot r x ≡ false) where
  abbrev new : TargetState
  new = gone_on s cut ticks

  -- the world in which it went on
  abbrev u : World
  u = after_target w t new rest w.asked o

  goes : Epochs r top u
  goes = target-dates r top w t s new rest w.asked o E (record {
    here = here;
    life = refl;
    lease = D.lease;
    ticks = omega arith;
    issues = λ x e is. (D.new x e is, own x e is);
    asks = λ l x k h a. (D.left.among l h, λ e is. D.asks l x k e h a is);
    lacks = λ l x h a. let f = E.lacking l x (D.left.among l h) a in (f.0, f.1, λ e is. D.lacks l x e h a is);
    bears = λ l x e h b. borne-then r top w o E l x e (D.left.among l h) b;
    reads = λ l h. E.reads l (D.left.among l h);
    dated = λ l h. E.dated l (D.left.among l h);
    entries = D.entries;
    parked = λ p i. parked-then r top w o E t s p here (has-from_contains s.memory.member.parked p i);
  })

  -- and then it stopped

  here-then : slice_get u.targets t ≡ Some new
  here-then = set-here w.targets t s new here

  targets : v.targets ≡ set u.targets t (stopped_at s cut.left)
  targets = ap (λ x. x.targets) after ∙ sym (set-twice w.targets t new (stopped_at s cut.left))

  abbrev more : List Line
  more = cut.lines ++ line.Stop (stops_so_far w.lines) t ∷ []

  silent-stop : (a : Attempt) → Has (line.Try a) (line.Stop (stops_so_far w.lines) t ∷ []) → ⊥
  silent-stop a (inl same) = let no : ⊥ = cc in no
  silent-stop a (inr i) = i

  letters : (l : Letter) → Contains v.messages l → Contains rest l ⊎ (is_silent l.message ≡ true)
  letters l i = elim (has-cases (filter (is_not_to t) w.messages) (resets t false w.asked) l (has-from_contains (filter (is_not_to t) w.messages ++ resets t false w.asked) l (subst (λ x. Contains x.messages l) after i))) [
    | inl j ↦ (let f = has-from_filter (is_not_to t) w.messages l j in inl (D.left.others l (contains-from_has w.messages l f.0) f.1))
    | inr j ↦ (let y = has-from_map (reset_letter false) (filter (is_to t) w.asked) l j in inr (ap (λ n. is_silent n.message) (sym y.2)))
  ]

  rests-at : RestsAt u new (stopped_at s cut.left)
  rests-at = record { lease = omega arith; ticks = λ runs. let no : ⊥ = cc in absurd no; entries = λ k i. inl i; parked = λ p i. absurd (has-from_contains [] p i) }

  rests : Rests u v
  rests = record {
    clients = ap (λ x. x.clients) after;
    issued = ap (λ x. x.issued) after ∙ ap (λ is. w.issued ++ is) D.issued;
    more = more;
    lines = ap (λ x. x.lines) after ∙ append_assoc w.lines cut.lines (line.Stop (stops_so_far w.lines) t ∷ []);
    no_tries = λ a i. elim (has-cases cut.lines (line.Stop (stops_so_far w.lines) t ∷ []) (line.Try a) i) [ inl j ↦ D.silent a j | inr j ↦ silent-stop a j ];
    messages = letters;
    few = one-few u v t new (stopped_at s cut.left) here-then targets;
    there = one-there u v t new (stopped_at s cut.left) here-then targets;
    targets = one-rests u v t new (stopped_at s cut.left) here-then targets rests-at;
  }

  pub cut-dates : Epochs r top v
  cut-dates = rests-epochs r top u v rests goes

-- ---- which turn it was

-- what is left of letters where one was heard that goes to a target
rest-left : (w : World) (t : ℕ) (l : Letter) (rest : List Letter) → Takes w.messages l rest → l.to ≡ target t → IsLeft w t rest
rest-left w t l rest takes to = record { among = λ n i. contains-from_has w.messages n (was n (has-from_contains rest n i)); others = λ n i off. contains-from_has rest n (left n (has-from_contains w.messages n i) off) }
  where
    was : (n : Letter) → Has n rest → Has n w.messages
    was n i = subst (Has n) (sym takes.among) (elim (has-cases takes.before takes.after n (subst (Has n) takes.left i)) [ inl j ↦ has-left takes.before (l ∷ takes.after) n j | inr j ↦ has-right takes.before (l ∷ takes.after) n (inr j) ])

    left : (n : Letter) → Has n w.messages → is_not_to t n ≡ true → Has n rest
    left n i off = subst (Has n) (sym takes.left) (elim (has-cases takes.before (l ∷ takes.after) n (subst (Has n) takes.among i)) [
      | inl j ↦ has-left takes.before takes.after n j
      | inr j ↦ elim j [ inl same ↦ absurd (heard (subst (λ y. is_not_to t y ≡ true) same off)) | inr k ↦ has-right takes.before takes.after n k ]
    ])
      where
        heard : is_not_to t l ≡ true → ⊥
        heard yes' = let it : is_not_to t l ≡ false = ap (λ a. not (not a.client && (a.number == t))) to ∙ ap (λ b. not (true && b)) (same_number t) in let no : ⊥ = cc in no

abbrev issue : AttemptId → Epoch → AttemptId × Epoch
issue x e = (x, e)

-- any attempt at any epoch
abbrev Any : Known
Any x e = Unit {0}

-- a Freeze, or a Prune of target 0, has its epoch: it issues none
freeze-own_issues : (x : AttemptId) (e : Epoch) (s : snap.FreezeStage) → issued_by_freeze x (Some e) s ≡ []
freeze-own_issues x e snap.Asked = refl
freeze-own_issues x e (snap.Known f) = refl
freeze-own_issues x e (snap.Freezing f) = refl
freeze-own_issues x e (snap.Frozen f lines) = refl
freeze-own_issues x e (snap.Created f lines) = refl

prune-own_issues : (x : AttemptId) (e : Epoch) (s : snap.PruneStage) → issued_by_prune x (Some e) s ≡ []
prune-own_issues x e snap.Asked = refl
prune-own_issues x e (snap.Known g) = refl
prune-own_issues x e (snap.Settling g decided) = refl
prune-own_issues x e (snap.Pruned g lines) = refl

module _ (r : Rules) (top : ℕ) (w v : World) (talk : TalksOnce w) (E : Epochs r top w) (g : TargetCut r w v) where
  -- the epochs that are issued once the turn was cut
  abbrev Then : Known
  Then x e = Contains (w.issued ++ g.cut.issued) (x, e)

  before : (x : AttemptId) (e : Epoch) → Contains w.issued (x, e) → Contains (w.issued ++ g.cut.issued) (x, e)
  before x e i = Contains-append_left w.issued g.cut.issued (x, e) i

  old-known : AreKnown Then g.s.durable.entries
  old-known = known-all Then g.s.durable.entries (λ e i. before e.attempt e.epoch (E.entered g.t g.s e g.here i))

  old-stays : Stays Then g.s.durable.lease (kept g.s)
  old-stays = record { lease = omega arith; entries = old-known }

  then-known : (o : Option (AttemptId × Epoch)) → g.cut.issued ≡ listed o → AreKnown Then g.cut.left.durable.entries → AreKnown (issued_then w o) g.cut.left.durable.entries
  then-known o is k = subst (λ is'. AreKnown (λ x e. Contains (w.issued ++ is') (x, e)) g.cut.left.durable.entries) is k

  -- it issued none
  quiet-cut : (rest : List Letter) → IsLeft w g.t rest → g.cut.issued ≡ [] → ((a : Attempt) → Has (line.Try a) g.cut.lines → ⊥) → g.s.durable.lease ≤ g.cut.left.durable.lease → AreKnown Then g.cut.left.durable.entries → Epochs r top v
  quiet-cut rest left none silent lease known = cut-dates r top w v E g.t g.s g.here g.cut g.after rest None 0 (record {
    left = left;
    issued = none;
    lease = lease;
    entries = then-known None none known;
    silent = silent;
    new = λ x e is. let no : ⊥ = cc in absurd no;
    asks = λ l x k e i a is. let no : ⊥ = cc in no;
    lacks = λ l x e i a is. let no : ⊥ = cc in no;
  }) (λ x e is. let no : ⊥ = cc in absurd no)

  module _ (l : Letter) (reading number : ℕ) (rest : List Letter) (takes : Takes w.messages l rest) (to : l.to ≡ target g.t) (brought : (x : AttemptId) (e : Epoch) → BringsEpoch l.message x e → Contains w.issued (x, e)) where
    abbrev Plan : TargetPlan
    Plan = target_plan r g.t

    left : IsLeft w g.t rest
    left = rest-left w g.t l rest takes to

    -- a request's turn was cut, by which an epoch was issued or none
    request-cut : (x : AttemptId) (ep : Option Epoch) (tracker : Epoch) → (ep ≡ None → AsksEpoch l.message x tracker) → CutIssues Plan g.s.memory reading x ep tracker g.cut → ((a : Attempt) → Has (line.Try a) g.cut.lines → ⊥)
        → g.s.durable.lease ≤ g.cut.left.durable.lease → AreKnown Then g.cut.left.durable.entries → Epochs r top v
    request-cut x ep tracker asks (NoEpoch none) silent lease known = quiet-cut rest left none silent lease known
    request-cut x ep tracker asks (AnEpoch e none is c) silent lease known = cut-dates r top w v E g.t g.s g.here g.cut g.after rest (Some (x, e)) (e.0 / 256) (record {
      left = left;
      issued = is;
      lease = lease;
      entries = then-known (Some (x, e)) is known;
      silent = silent;
      new = λ y f same. (issues y f same).0;
      asks = λ n y k f i a same. others-ask r top w talk E g.t g.s g.here g.runs l rest takes to n y k i a (asker y f same);
      lacks = λ n y f i a same. others-lack r top w talk E g.t g.s g.here g.runs l rest takes to n y i a (asker y f same);
    }) (λ y f same. (issues y f same).1)
      where
        asker : (y : AttemptId) (f : Epoch) → Some (issue x e) ≡ Some (issue y f) → (k : Epoch) × AsksEpoch l.message y k
        asker y f same = (tracker, subst (λ z. AsksEpoch l.message z tracker) (some_pair_parts x y e f same).0 (asks none))

        issues : (y : AttemptId) (f : Epoch) → Some (issue x e) ≡ Some (issue y f) → IsNew r top w g.t (gone_on g.s g.cut (e.0 / 256)) y f × (is_at_snapshot r y ≡ false)
        issues y f same =
            let p = some_pair_parts x y e f same in
            let n = may-date r top w talk E g.t g.s g.here g.runs l rest takes to (gone_on g.s g.cut (e.0 / 256)) reading x e tracker (asks none) c (omega arith) in
            (subst (λ z. IsNew r top w g.t (gone_on g.s g.cut (e.0 / 256)) z f) p.0 (subst (IsNew r top w g.t (gone_on g.s g.cut (e.0 / 256)) x) p.1 n.0), subst (λ z. is_at_snapshot r z ≡ false) p.0 n.1)

    -- one that issues none, and is of attempts alone
    other-cut : (m : Message) → is_without_snapshots m ≡ true → BringsKnown Then m → HearingIsCut is_prepared number Plan g.s.opening g.s.memory reading l.from m (kept g.s) g.cut → g.cut.issued ≡ [] → ((a : Attempt) → Has (line.Try a) g.cut.lines → ⊥) → Epochs r top v
    other-cut m ours brings turn none silent =
        let so = hearing-cut-kept Then Plan g.s.opening g.s.memory reading l.from (kept g.s) old-known number m g.cut ours brings turn in
        quiet-cut rest left none silent so.lease so.entries

    -- ---- each message

    fetch-cut : (x : AttemptId) (op group : ℕ) (ep first : Option Epoch) (tracker : Epoch) (q : Read) (snapshot : Bool) → l.message ≡ message.Fetch x op group ep first tracker q snapshot
        → HearingIsCut is_prepared number Plan g.s.opening g.s.memory reading l.from (message.Fetch x op group ep first tracker q snapshot) (kept g.s) g.cut → (b : Bool) → snapshot ≡ b → Epochs r top v
    fetch-cut x op group ep first tracker q snapshot is turn true on =
        other-cut (message.Fetch x op group ep first tracker q snapshot) refl tt turn (snapshot-cut-issues-none Plan g.s.memory reading (fetch_request x op group ep first tracker q snapshot) g.t (kept g.s) g.cut on turn) (turn-silent _ _ g.t _ (kept g.s) g.cut turn)
    fetch-cut x op group ep first tracker q snapshot is turn false off =
        let so = hearing-cut-kept Then Plan g.s.opening g.s.memory reading l.from (kept g.s) old-known number (message.Fetch x op group ep first tracker q snapshot) g.cut refl tt turn in
        request-cut x ep tracker asks (fetch-cut-issues Plan g.s.memory reading (fetch_request x op group ep first tracker q snapshot) off g.t (kept g.s) g.cut turn) (turn-silent _ _ g.t _ (kept g.s) g.cut turn) so.lease so.entries
      where
        asks : ep ≡ None → AsksEpoch l.message x tracker
        asks none = subst (λ n. AsksEpoch n x tracker) (sym is) (subst (λ o. AsksEpoch (message.Fetch x op group o first tracker q snapshot) x tracker) (sym none) (refl, refl))

    commit-silent : (x : AttemptId) (ep first : Option Epoch) (tracker : Epoch) (ws : List MinorWrite) → CommitIsCut Plan g.s.opening g.s.memory reading (commit_request x ep first tracker ws) (kept g.s) g.cut → (a : Attempt) → Has (line.Try a) g.cut.lines → ⊥
    commit-silent x ep first tracker ws (NoneIsDown none turn) = turn-silent _ _ g.t _ (kept g.s) g.cut turn
    commit-silent x ep first tracker ws (OneIsDown e down is turn) = turn-silent _ _ g.t _ (kept g.s) g.cut turn

    commit-is_cut : (x : AttemptId) (ep first : Option Epoch) (tracker : Epoch) (ws : List MinorWrite) → l.message ≡ message.Commit x ep first tracker ws
        → CommitIsCut Plan g.s.opening g.s.memory reading (commit_request x ep first tracker ws) (kept g.s) g.cut → Epochs r top v
    commit-is_cut x ep first tracker ws is turn =
        let so = hearing-cut-kept Any Plan g.s.opening g.s.memory reading l.from (kept g.s) (known-all Any g.s.durable.entries (λ e i. tt)) number (message.Commit x ep first tracker ws) g.cut refl (λ e. tt) turn in
        let k = commit-cut w Plan g.s.opening g.s.memory reading (commit_request x ep first tracker ws) own g.t (kept g.s) g.cut (known-all (λ y f. Contains w.issued (y, f)) g.s.durable.entries (λ e i. E.entered g.t g.s e g.here i))
        (commit-is-cut Plan g.s.opening g.s.memory reading (commit_request x ep first tracker ws) (kept g.s) g.cut turn) in
        request-cut x ep tracker asks k.issues (commit-silent x ep first tracker ws turn) so.lease k.known
      where
        own : (e : Epoch) → ep ≡ Some e → Contains w.issued (x, e)
        own e has = brought x e (subst (λ n. BringsEpoch n x e) (sym is) (subst (λ o. BringsEpoch (message.Commit x o first tracker ws) x e) (sym has) (refl, refl)))

        asks : ep ≡ None → AsksEpoch l.message x tracker
        asks none = subst (λ n. AsksEpoch n x tracker) (sym is) (subst (λ o. AsksEpoch (message.Commit x o first tracker ws) x tracker) (sym none) (refl, refl))

    hearing-is_cut : (m : Message) → l.message ≡ m → HearingIsCut is_prepared number Plan g.s.opening g.s.memory reading l.from m (kept g.s) g.cut → Epochs r top v
    hearing-is_cut (message.Fetch x op group ep first tracker q snapshot) is turn = fetch-cut x op group ep first tracker q snapshot is turn snapshot refl
    hearing-is_cut (message.Commit x ep first tracker ws) is turn = commit-is_cut x ep first tracker ws is turn
    hearing-is_cut (message.Prepare e first ws inc) is turn =
        other-cut (message.Prepare e first ws inc) refl (before e.attempt e.epoch (brought e.attempt e.epoch (subst (λ n. BringsEpoch n e.attempt e.epoch) (sym is) (refl, refl)))) turn turn.issued (turn-silent _ _ g.t _ (kept g.s) g.cut turn)
    hearing-is_cut (message.Ack x inc refusal) is turn = other-cut (message.Ack x inc refusal) refl tt turn turn.issued (turn-silent _ _ g.t _ (kept g.s) g.cut turn)
    hearing-is_cut (message.StatusIs x inc how) is turn = other-cut (message.StatusIs x inc how) refl tt turn turn.issued (turn-silent _ _ g.t _ (kept g.s) g.cut turn)
    hearing-is_cut (message.Mark inc marks) is turn = other-cut (message.Mark inc marks) refl tt turn turn.issued (turn-silent _ _ g.t _ (kept g.s) g.cut turn)
    hearing-is_cut (message.Marked inc ids) is turn = other-cut (message.Marked inc ids) refl tt turn turn.issued (turn-silent _ _ g.t _ (kept g.s) g.cut turn)
    hearing-is_cut (message.Verdict x ask inc how) is turn = other-cut (message.Verdict x ask inc how) refl tt turn turn.issued (turn-silent _ _ g.t _ (kept g.s) g.cut turn)
    hearing-is_cut (message.Query x ask) is turn = other-cut (message.Query x ask) refl tt turn turn.issued (turn-silent _ _ g.t _ (kept g.s) g.cut turn)
    hearing-is_cut (message.Ask x) is turn = other-cut (message.Ask x) refl tt turn turn.issued (turn-silent _ _ g.t _ (kept g.s) g.cut turn)
    hearing-is_cut (message.Status x inc) is turn = other-cut (message.Status x inc) refl tt turn turn.issued (turn-silent _ _ g.t _ (kept g.s) g.cut turn)
    hearing-is_cut (message.Reset' by down place asked) is turn = other-cut (message.Reset' by down place asked) refl tt turn turn.issued (turn-silent _ _ g.t _ (kept g.s) g.cut turn)
    hearing-is_cut (message.Snap x c name tracker) is turn =
        let so = freeze-cut Then g.s.durable.lease Plan g.s.memory reading tracker None c (snap.is_held_by_all Plan 0) (issued_by_freeze x None) g.t (kept g.s) g.cut turn old-stays in
        request-cut x None tracker (λ none. subst (λ n. AsksEpoch n x tracker) (sym is) (refl, refl)) (freeze-cut_issues Then g.s.durable.lease Plan g.s.memory reading tracker None x turn.last g.cut refl turn.issued so.0)
        (turn-silent _ _ g.t _ (kept g.s) g.cut turn) so.1.lease so.1.entries
    hearing-is_cut (message.Freeze x c e) is turn =
        let so = freeze-cut Then g.s.durable.lease Plan g.s.memory reading e (Some e) c false (issued_by_freeze x (Some e)) g.t (kept g.s) g.cut turn old-stays in
        quiet-cut rest left (turn.issued ∙ freeze-own_issues x e turn.last) (turn-silent _ _ g.t _ (kept g.s) g.cut turn) so.1.lease so.1.entries
    hearing-is_cut (message.Held x refusal) is turn =
        let so = held-cut Then g.s.durable.lease Plan g.s.memory l.from.number x refusal g.t (kept g.s) g.cut turn old-stays in
        quiet-cut rest left turn.issued (turn-silent _ _ g.t _ (kept g.s) g.cut turn) so.lease so.entries
    hearing-is_cut (message.Prune x c (Some tracker) None) is turn =
        let so = prune-cut Then g.s.durable.lease Plan g.s.memory reading tracker None c number (issued_by_prune x None) g.t (kept g.s) g.cut turn old-stays in
        request-cut x None tracker (λ none. subst (λ n. AsksEpoch n x tracker) (sym is) (refl, refl)) (prune-cut_issues Then g.s.durable.lease Plan g.s.memory reading tracker None x turn.last g.cut refl turn.issued so.0)
        (turn-silent _ _ g.t _ (kept g.s) g.cut turn) so.1.lease so.1.entries
    hearing-is_cut (message.Prune x c None (Some e)) is turn =
        let so = prune-cut Then g.s.durable.lease Plan g.s.memory reading e (Some e) c number (issued_by_prune x (Some e)) g.t (kept g.s) g.cut turn old-stays in
        quiet-cut rest left (turn.issued ∙ prune-own_issues x e turn.last) (turn-silent _ _ g.t _ (kept g.s) g.cut turn) so.1.lease so.1.entries
    hearing-is_cut m is turn = absurd turn

  -- ---- every cut

  -- the epochs of what is heard were issued
  abbrev pub BringsIssued : AtWork → Type 0
  BringsIssued (Hearing l reading number) = (x : AttemptId) (e : Epoch) → BringsEpoch l.message x e → Contains w.issued (x, e)
  BringsIssued IdleWork = Unit {0}

  pub cut-kept : BringsIssued g.work → Epochs r top v
  cut-kept ours = by g.work g.in_hand ours g.turn
    where
      by : (a : AtWork) → IsInHand w g.t a → BringsIssued a → CutOf (target_plan r g.t) g.s a g.cut → Epochs r top v
      by (Hearing l reading number) hand brought turn = hearing-is_cut l reading number hand.0.0 hand.0.1 hand.1 brought l.message refl turn
      by IdleWork hand brought turn =
          let so = idle-cut-kept Then (target_plan r g.t) g.s.opening g.s.memory 0 (target g.t) (kept g.s) old-known g.cut turn in
          quiet-cut w.messages (record { among = λ l i. i; others = λ l i off. i }) turn.issued (turn-silent _ _ g.t _ (kept g.s) g.cut turn) so.lease so.entries
