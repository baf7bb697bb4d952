-- Every cut of a turn as without stops keeps the facts of attempts.
use Rattle.std.specs.Prelude.{ℕ, ◌≡◌, Bool, true, false, List, [], ◌∷◌, ◌++◌, filter, slice_get, Option, Some, None, refl}
use Rattle.std.proofs.Common.{sym, ◌∙◌, ap, subst, arith, inl, inr}
use Rattle.base_types.specs.declared.entry.Entry.{Entry}
use Rattle.base_types.specs.declared.epoch.Epoch.{Epoch}
use Rattle.base_types.specs.declared.id.AttemptId.{AttemptId}
use Rattle.base_types.specs.declared.operation.MinorWrite.{MinorWrite}
use Rattle.model_laws.specs.Members.{Has, has-cases, has-from_filter, has-from_map, has-left, has-right}
use Rattle.base_messages.specs.declared.message.Message.{Message}
use Rattle.base_messages.specs.declared.message.Message.TheVariants as message
use Rattle.daos_model.specs.BoolLaws.{and_right, clash, not_true}
use Rattle.daos_model.specs.Changes.{prepared}
use Rattle.daos_model.specs.Durables.{entry_of, same_attempt}
use Rattle.world_commit.specs.attempts.Asked.{IsCommitNew}
use Rattle.world_commit.specs.attempts.Attempts.{IsBorn, IsOther, entry_at, entry_in, first_entry, is_asked_by, is_prepare_to, is_target, leader_of}
use Rattle.world_commit.specs.attempts.Counting.{has-taken}
use Rattle.world_commit.specs.attempts.Frames.{same-untold}
use Rattle.world_commit.specs.attempts.History.{GrowsBy, History}
use Rattle.world_commit.specs.attempts.Stored.{target-is}
use Rattle.world_commit.specs.attempts.MemberBits.{other-no_leader}
use Rattle.world_commit.specs.attempts.Turning.{at_work, prepare-to}
use Rattle.world_commit.specs.fates.AnswerTurns as answer
use Rattle.world_commit.specs.fates.Asked.{AskedRight}
use Rattle.world_commit.specs.fates.CommitTurns as commit
use Rattle.world_commit.specs.fates.Facts.{Attempts, IsMarkRight, IsPrepareRight, IsSaidSo, Ongoing}
use Rattle.world_commit.specs.fates.FetchTurns.{AtFetch, fetch-step}
use Rattle.world_commit.specs.fates.IdleTurns.{AtIdle, idle-step}
use Rattle.world_commit.specs.fates.MarkTurns as mark
use Rattle.world_commit.specs.fates.PrepareTurns as prepare
use Rattle.world_commit.specs.fates.Working.{attempts-there, work-begins}
use Rattle.world_commit.specs.stops.Cutting.{CutAs, cut-as, cut-finds, leaving, mid-stops}
use Rattle.world_commit.specs.stops.LateEntries.{late-leader, late-member}
use Rattle.world_commit.specs.stops.Losing.{reset-no_prepare}
use Rattle.world_base.specs.declared.letter.Letter.{Letter}
use Rattle.world_base.specs.declared.request.CommitRequest.{CommitRequest}
use Rattle.world_base.specs.declared.request.FetchRequest.{FetchRequest}
use Rattle.world_base.specs.declared.target.Life.TheVariants.{Running}
use Rattle.world_base.specs.declared.target.TargetMemory.{TargetMemory}
use Rattle.world_base.specs.declared.target.TargetState.{TargetState}
use Rattle.world_base.specs.declared.world.World.{World}
use Rattle.world_base.specs.Acks.{Confirms, MarkedNext, to_confirm}
use Rattle.world_base.specs.Changes.{Change, Kept, Steps, is_plain}
use Rattle.world_base.specs.Commits as commits
use Rattle.world_base.specs.ChangeLaws.{incarnation-prepared}
use Rattle.world_base.specs.CutTurns.{Before, CommitIsCut, CutTurn, Cutting, NoneIsDown, OneIsDown, UnstoredNext, issued_by_commit, issued_by_fetch, listed_issue, none_issued}
use Rattle.world_base.specs.DoubtLaws.{IsLedElsewhere, doubted-or_closed}
use Rattle.world_base.specs.Events.{Rules, kept, target_after, target_plan}
use Rattle.world_base.specs.Idle.{IdleNext, SettlesFirst}
use Rattle.world_base.specs.Letters.{Takes, client, target}
use Rattle.world_base.specs.Marks as marks
use Rattle.world_base.specs.Prepares as prepares
use Rattle.world_base.specs.Reads as reads
use Rattle.world_base.specs.Roles.{is_in_doubt, is_prepared}
use Rattle.world_base.specs.Requests.{issued_for, request_epoch}
use Rattle.world_base.specs.StepLaws.{set-here, set-there}
use Rattle.world_base.specs.Stops.{after_cut, is_not_to, is_to, reset_letter, resets, stopped_at}
use Rattle.world_base.specs.TargetTurns.{commit_request, prepare_request}

-- nothing more is told, so the same is decided and aborted
pub later-keeps : (r : Rules) (h later : History) (w : World) → GrowsBy h [] later → Attempts r h w → Attempts r later w
later-keeps r h later w grows k = record {
  on = attempts-there r h later w w refl (λ x e i. i) (λ x. same-untold h later [] x grows (λ own how told. told.sent))
      (λ x. record { issued = λ e i. i; talks = λ inc m. refl; tries = λ m. omega arith; prepares = λ m l i is. i; refusals = λ inc l i is. inl i }) (λ l i. inl i) (λ l i. inl i) k.on;
  prompt = k.prompt;
}

-- a Prepare to a target goes to it
prepare-goes : (t : ℕ) (x : AttemptId) (q : Letter) → is_prepare_to x t q ≡ true → is_to t q ≡ true
unfolding is_prepare_to
prepare-goes t x q is = by q.message is
  where
    by : (m : Message) → is_asked_by x t q.to m ≡ true → is_to t q ≡ true
    by (message.Prepare e first ws inc) on = and_right (same_attempt e.attempt x) (is_target t q.to) on
    by m on = let no : ⊥ = cc in absurd no

module _ (r : Rules) (h : History) (w v : World) (t : ℕ) (s : TargetState) (here : slice_get w.targets t ≡ Some s) (runs : s.life ≡ Running) (cut : Cutting) (follows : v ≡ after_cut w t s cut) (k : Attempts r h w) where
  pub begins : Ongoing r h (at_work w t (target_after s (kept s) s.memory) [])
  begins = work-begins r h w t s here k.on

  pub stops : (mid : Kept) (m : TargetMemory) → Ongoing r h (at_work w t (target_after s mid m) []) → cut.left.durable ≡ mid.durable → Attempts r h v
  stops mid m on same = mid-stops r h w t s here k mid m cut v on same follows

  -- nothing is changed
  pub idle-cut : cut.left.durable ≡ s.durable → Attempts r h v
  idle-cut same = stops (kept s) s.memory begins same

  -- ---- a Fetch

  pub fetch-cut : (reading : ℕ) (q : FetchRequest) → CutTurn (reads.FetchNext (target_plan r t) s.memory reading q) (issued_by_fetch q) t reads.Asked (kept s) cut → Attempts r h v
  fetch-cut reading q turn = stops c.mid _ c.so_far c.left
    where
      plain : (a : reads.FetchStage) (n : Kept) (ch : Change) (b : reads.FetchStage) → reads.FetchNext (target_plan r t) s.memory reading q a n (Some ch) b → (is_plain ch ≡ true) × (issued_by_fetch q a ≡ issued_by_fetch q b)
      plain a n ch b (reads.ExtendsLease n2 e lease lt covers) = (refl, refl)
      plain a n ch b (reads.SettlesOwn n2 e decided x free unsettled among) = (refl, refl)

      c : CutAs (reads.FetchNext (target_plan r t) s.memory reading q) (issued_by_fetch q) t (AtFetch r h w t s here runs s.memory []) (fetch-step r h w t s here runs s.memory reading q []) plain reads.Asked cut
      c = cut-as (reads.FetchNext (target_plan r t) s.memory reading q) (issued_by_fetch q) t (AtFetch r h w t s here runs s.memory []) (fetch-step r h w t s here runs s.memory reading q []) plain reads.Asked (kept s) cut turn begins

  -- ---- idle work

  pub idling-cut : CutTurn IdleNext none_issued t s.memory.leader.decided (kept s) cut → Attempts r h v
  idling-cut turn = stops c.mid _ c.so_far c.left
    where
      plain : (a : List AttemptId) (n : Kept) (ch : Change) (b : List AttemptId) → IdleNext a n (Some ch) b → (is_plain ch ≡ true) × (none_issued a ≡ none_issued b)
      plain a n ch b (SettlesFirst n2 x rest) = (refl, refl)

      c : CutAs IdleNext none_issued t (AtIdle r h w t s here runs s.memory) (idle-step r h w t s here runs s.memory) plain s.memory.leader.decided cut
      c = cut-as IdleNext none_issued t (AtIdle r h w t s here runs s.memory) (idle-step r h w t s here runs s.memory) plain s.memory.leader.decided (kept s) cut turn begins

  -- ---- what is heard

  module _ (l : Letter) (rest : List Letter) (takes : Takes w.messages l rest) (to_it : l.to ≡ target t) where
    flies : Has l w.messages
    flies = has-taken w.messages l rest takes

    flies-on : (n : Kept) → Has l (at_work w t (target_after s n s.memory) []).messages
    flies-on n = has-left w.messages [] l flies

    found-at : (n : Kept) (x : AttemptId) → entry_at (at_work w t (target_after s n s.memory) []) t x ≡ entry_of n.durable x
    found-at n x = ap (λ i. entry_in i x) (set-here w.targets t s (target_after s n s.memory) here)

    -- an attempt of which this target is another member is led elsewhere
    pub led-elsewhere : (n : Kept) (x : AttemptId) → Ongoing r h (at_work w t (target_after s n s.memory) []) → IsOther r x t → IsLedElsewhere t x n.durable
    led-elsewhere n x on other e found mine = other-no_leader r x t other (sym mine ∙ ((on.each x).entries.one t e (found-at n x ∙ found)).leader)

    -- nothing goes to this target once it has stopped
    none-to : (b : Kept) (x : AttemptId) (q : Letter) → Has q (after_cut w t s (leaving cut b)).messages → is_prepare_to x t q ≡ true → ⊥
    none-to b x q i is = elim (has-cases (filter (is_not_to t) w.messages) (resets t false w.asked) q i) [
      | inl j ↦ clash (is_to t q) (prepare-goes t x q is) (not_true (is_to t q) (has-from_filter (is_not_to t) w.messages q j).1)
      | inr j ↦ let y = has-from_map (reset_letter false) (filter (is_to t) w.asked) q j in reset-no_prepare x t false y.0 q y.2 is
    ]

    -- ---- a Marked

    pub marked-cut : (inc : ℕ) (ids : List AttemptId) → l.message ≡ message.Marked inc ids → CutTurn (MarkedNext (target_plan r t) s.memory l.from.number) none_issued t (to_confirm inc ids s.durable) (kept s) cut → Attempts r h v
    marked-cut inc ids is turn = stops c.mid s.memory c.so_far.on c.left
      where
        plain : (a : List AttemptId) (n : Kept) (ch : Change) (b : List AttemptId) → MarkedNext (target_plan r t) s.memory l.from.number a n (Some ch) b → (is_plain ch ≡ true) × (none_issued a ≡ none_issued b)
        plain a n ch b (Confirms n2 x more may) = (refl, refl)

        c : CutAs (MarkedNext (target_plan r t) s.memory l.from.number) none_issued t (answer.AtMarked r h w t s here runs s.memory l flies to_it ids) (answer.marked-step r h w t s here runs s.memory l flies to_it inc ids is) plain (to_confirm inc ids s.durable) cut
        c = cut-as (MarkedNext (target_plan r t) s.memory l.from.number) none_issued t (answer.AtMarked r h w t s here runs s.memory l flies to_it ids) (answer.marked-step r h w t s here runs s.memory l flies to_it inc ids is) plain (to_confirm inc ids s.durable) (kept s) cut
            turn (answer.marked-begins r h w t s here runs s.memory l flies to_it inc ids (kept s) begins)

    -- ---- a Mark

    pub mark-cut : (inc : ℕ) (ms : List (AttemptId × Bool)) → l.message ≡ message.Mark inc ms → CutTurn (marks.MarkNext is_prepared) none_issued t ms (kept s) cut → Attempts r h v
    mark-cut inc ms is turn = stops c.mid s.memory c.so_far.on c.left
      where
        -- what a Mark settles is in doubt here
        doubt : (n : Kept) (a : AttemptId) (b : Bool) → Has (a, b) ms → Ongoing r h (at_work w t (target_after s n s.memory) []) → is_in_doubt t a n.durable ≡ is_prepared a n.durable
        doubt n a b i on =
            let says : IsMarkRight r h (at_work w t (target_after s n s.memory) []) l.from l.to a inc b = (subst (IsSaidSo r h (at_work w t (target_after s n s.memory) []) l.from l.to) is (on.letters l (flies-on n))) a b i in
            doubted-or_closed t a n.durable (led-elsewhere n a on (subst (IsOther r a) (target-is says.way.member t (sym says.way.receiver ∙ to_it)) says.way.other))

        keep : (a : List (AttemptId × Bool)) (n : Kept) (o : Option Change) (b : List (AttemptId × Bool)) (m : Kept) → marks.MarkNext is_prepared a n o b → Steps o n m
            → mark.AtMark r h w t s here runs s.memory l flies to_it ms a n → mark.AtMark r h w t s here runs s.memory l flies to_it ms b m
        keep a n o b m (marks.SettlesMarked n2 x y more due) steps p =
            mark.mark-step r h w t s here runs s.memory l flies to_it inc ms is a n o b m (marks.SettlesMarked n x y more (doubt n x y (p.left_of x y (inl refl)) p.on ∙ due)) steps p
        keep a n o b m (marks.PassesBy n2 x y more sure) steps p =
            mark.mark-step r h w t s here runs s.memory l flies to_it inc ms is a n o b m (marks.PassesBy n x y more (doubt n x y (p.left_of x y (inl refl)) p.on ∙ sure)) steps p

        plain : (a : List (AttemptId × Bool)) (n : Kept) (ch : Change) (b : List (AttemptId × Bool)) → marks.MarkNext is_prepared a n (Some ch) b → (is_plain ch ≡ true) × (none_issued a ≡ none_issued b)
        plain a n ch b (marks.SettlesMarked n2 x y more due) = (refl, refl)

        c : CutAs (marks.MarkNext is_prepared) none_issued t (mark.AtMark r h w t s here runs s.memory l flies to_it ms) keep plain ms cut
        c = cut-as (marks.MarkNext is_prepared) none_issued t (mark.AtMark r h w t s here runs s.memory l flies to_it ms) keep plain ms (kept s) cut turn (record { on = begins; left_of = λ x y i. i; done = λ x i. inl i })

    -- ---- a Prepare

    pub prepare-cut : (e : Entry) (first : Option Epoch) (ws : List MinorWrite) (inc : ℕ) → l.message ≡ message.Prepare e first ws inc
        → CutTurn (prepares.PrepareNext (target_plan r t) s.opening s.memory (prepare_request e first ws inc)) none_issued t prepares.Heard (kept s) cut → Attempts r h v
    prepare-cut e first ws inc is turn = ends c.stage c.mid c.so_far c.left
      where
        plain : (a : prepares.PrepareStage) (n : Kept) (ch : Change) (b : prepares.PrepareStage) → prepares.PrepareNext (target_plan r t) s.opening s.memory (prepare_request e first ws inc) a n (Some ch) b → (is_plain ch ≡ true) × (none_issued a ≡ none_issued b)
        plain a n ch b (prepares.ExtendsLease n2 lease lt covers) = (refl, refl)
        plain a n ch b (prepares.Stores n2 allowed room) = (refl, refl)

        c : CutAs (prepares.PrepareNext (target_plan r t) s.opening s.memory (prepare_request e first ws inc)) none_issued t (prepare.AtPrepare r h h w v t s here runs s.memory l rest takes to_it e first ws inc is)
            (prepare.prepare-step r h h w v t s here runs s.memory l rest takes to_it e first ws inc is s.opening) plain prepares.Heard cut
        c = cut-as (prepares.PrepareNext (target_plan r t) s.opening s.memory (prepare_request e first ws inc)) none_issued t (prepare.AtPrepare r h h w v t s here runs s.memory l rest takes to_it e first ws inc is)
            (prepare.prepare-step r h h w v t s here runs s.memory l rest takes to_it e first ws inc is s.opening) plain prepares.Heard (kept s) cut turn begins

        ends : (stage : prepares.PrepareStage) (n : Kept) → prepare.AtPrepare r h h w v t s here runs s.memory l rest takes to_it e first ws inc is stage n → cut.left.durable ≡ n.durable → Attempts r h v
        ends prepares.Heard n on same = stops n s.memory on same
        ends prepares.Checking n on same = stops n s.memory on same
        ends prepares.Stored n p same = stored p.before p.on (same ∙ p.now)
          where
            stored : (b : Kept) → Ongoing r h (at_work w t (target_after s b s.memory) []) → cut.left.durable ≡ prepared e ws b.durable → Attempts r h v
            stored b on same2 =
                late-member r h (after_cut w t s (leaving cut b)) v t (stopped_at s b) (stopped_at s cut.left) (cut-finds w v t s cut b here follows (ap (λ d. d.incarnation) same2 ∙ incarnation-prepared e ws b.durable)) e ws same2 absent
                (mid-stops r h w t s here k b s.memory (leaving cut b) (after_cut w t s (leaving cut b)) on refl refl) other says.entry (has-left w.issued cut.issued (e.attempt, e.epoch) says.issued) (born-then says.born) (none-to b e.attempt)
              where
                says : IsPrepareRight r h (at_work w t (target_after s b s.memory) []) l.from l.to e ws inc
                says = subst (IsSaidSo r h (at_work w t (target_after s b s.memory) []) l.from l.to) is (on.letters l (flies-on b))

                other : IsOther r e.attempt t
                other = subst (IsOther r e.attempt) (target-is says.way.member t (sym says.way.receiver ∙ to_it)) says.way.other

                absent : entry_of b.durable e.attempt ≡ None
                absent = sym (found-at b e.attempt) ∙ (on.each e.attempt).awaited.before t l (flies-on b) (prepare-to l t e first ws inc is to_it)

                off : leader_of r e.attempt ≡ t → ⊥
                off same3 = other-no_leader r e.attempt t other (sym same3)

                born-then : IsBorn r h (at_work w t (target_after s b s.memory) []) e.attempt → IsBorn r h (after_cut w t s (leaving cut b)) e.attempt
                born-then (inr a) = inr a
                born-then (inl i) = inl (record {
                  entry = i.entry;
                  found = ap (λ o. entry_in o e.attempt) (set-there w.targets t (leader_of r e.attempt) (stopped_at s b) off) ∙ sym (ap (λ o. entry_in o e.attempt) (set-there w.targets t (leader_of r e.attempt) (target_after s b s.memory) off)) ∙ i.found;
                })

    -- ---- a Commit

    pub commit-cut : (x : AttemptId) (ep first : Option Epoch) (tracker : Epoch) (ws : List MinorWrite) (is : l.message ≡ message.Commit x ep first tracker ws) (reading : ℕ) → AskedRight r h w
        → CommitIsCut (target_plan r t) s.opening s.memory reading (commit_request x ep first tracker ws) (kept s) cut → Attempts r h v
    commit-cut x ep first tracker ws is reading right turn = by turn
      where
        Q : CommitRequest
        Q = commit_request x ep first tracker ws

        new : IsCommitNew r h w l.to x ep ws
        new = right.commits l x ep first tracker ws flies is

        sender : l.from ≡ client x.client
        sender = right.senders l x ep first tracker ws flies is

        start : commit.AtCommit r h h w v t s here runs s.memory l rest takes to_it x ep first tracker ws is (right.commits l x ep first tracker ws flies is) (right.senders l x ep first tracker ws flies is) reading commits.Asked (kept s)
        start = commit.commit-begins r h h w v t s here runs s.memory l rest takes to_it x ep first tracker ws is new sender (kept s) refl begins

        step : (a : commits.CommitStage) (n : Kept) (o : Option Change) (b : commits.CommitStage) (m : Kept) → commits.CommitNext (target_plan r t) s.opening s.memory reading (commit_request x ep first tracker ws) a n o b → Steps o n m
            → commit.AtCommit r h h w v t s here runs s.memory l rest takes to_it x ep first tracker ws is (right.commits l x ep first tracker ws flies is) (right.senders l x ep first tracker ws flies is) reading a n
            → commit.AtCommit r h h w v t s here runs s.memory l rest takes to_it x ep first tracker ws is (right.commits l x ep first tracker ws flies is) (right.senders l x ep first tracker ws flies is) reading b m
        step = commit.commit-step r h h w v t s here runs s.memory l rest takes to_it x ep first tracker ws is new sender s.opening reading

        plain : (a : commits.CommitStage) (n : Kept) (ch : Change) (b : commits.CommitStage) → commits.CommitNext (target_plan r t) s.opening s.memory reading (commit_request x ep first tracker ws) a n (Some ch) b
            → (is_plain ch ≡ true) × (issued_by_commit (commit_request x ep first tracker ws) a ≡ issued_by_commit (commit_request x ep first tracker ws) b)
        plain a n ch b (commits.ExtendsLease n2 e lease lt covers) = (refl, refl)
        plain a n ch b (commits.Stores n2 e allowed room) = (refl, refl)

        -- its epoch was issued
        issued-now : (o : Option Epoch) (e : Epoch) → request_epoch (target_plan r t) s.memory reading tracker o ≡ Some e → cut.issued ≡ listed_issue (issued_for x o e) → ((f : Epoch) → o ≡ Some f → Has (x, f) w.issued) → Has (x, e) (w.issued ++ cut.issued)
        issued-now None e epoch all own = subst (λ is2. Has (x, e) (w.issued ++ is2)) (sym all) (has-right w.issued ((x, e) ∷ []) (x, e) (inl refl))
        issued-now (Some f) e epoch all own = let same : f ≡ e = cc in has-left w.issued cut.issued (x, e) (own e (ap (λ i. Some i) same))

        ends : (stage : commits.CommitStage) (n : Kept)
            → commit.AtCommit r h h w v t s here runs s.memory l rest takes to_it x ep first tracker ws is (right.commits l x ep first tracker ws flies is) (right.senders l x ep first tracker ws flies is) reading stage n
            → cut.left.durable ≡ n.durable → cut.issued ≡ issued_by_commit (commit_request x ep first tracker ws) stage → Attempts r h v
        ends commits.Asked n p same all = stops n s.memory p.on same
        ends (commits.Known e) n p same all = stops n s.memory p.on.on same
        ends (commits.Checking e) n p same all = stops n s.memory p.on.on same
        ends (commits.Stored e) n p same all =
            late-leader r h (after_cut w t s (leaving cut p.before)) v t (stopped_at s p.before) (stopped_at s cut.left)
            (cut-finds w v t s cut p.before here follows (ap (λ d. d.incarnation) (same ∙ p.now) ∙ incarnation-prepared (commits.led_entry (target_plan r t) (commit_request x ep first tracker ws) e) (commits.own_writes (target_plan r t) ws) p.before.durable))
            (commits.led_entry (target_plan r t) (commit_request x ep first tracker ws) e) (commits.own_writes (target_plan r t) ws) (same ∙ p.now) p.on.on.absent
            (mid-stops r h w t s here k p.before s.memory (leaving cut p.before) (after_cut w t s (leaving cut p.before)) p.on.on.on refl refl) (target-is t (leader_of r x) (sym to_it ∙ new.receiver)) (entry-first e)
            (issued-now ep e p.on.epoch all new.own) new.unended (λ off. let no : ⊥ = cc in no)
          where
            entry-first : (e : Epoch) → commits.led_entry (target_plan r t) (commit_request x ep first tracker ws) e ≡ first_entry r x e
            entry-first e = commit.entry-is r h h w v t s here runs s.memory l rest takes to_it x ep first tracker ws is new sender e

        by : CommitIsCut (target_plan r t) s.opening s.memory reading (commit_request x ep first tracker ws) (kept s) cut → Attempts r h v
        by (NoneIsDown none turn2) =
            let c = cut-as (commits.CommitNext (target_plan r t) s.opening s.memory reading (commit_request x ep first tracker ws)) (issued_by_commit (commit_request x ep first tracker ws)) t
            (commit.AtCommit r h h w v t s here runs s.memory l rest takes to_it x ep first tracker ws is (right.commits l x ep first tracker ws flies is) (right.senders l x ep first tracker ws flies is) reading) step plain commits.Asked (kept s) cut turn2 start in
            ends c.stage c.mid c.so_far c.left c.issued
        by (OneIsDown e down is2 turn2) =
            let c = cut-as (UnstoredNext (target_plan r t) s.opening s.memory reading (commit_request x ep first tracker ws)) (issued_by_commit (commit_request x ep first tracker ws)) t
            (commit.AtCommit r h h w v t s here runs s.memory l rest takes to_it x ep first tracker ws is (right.commits l x ep first tracker ws flies is) (right.senders l x ep first tracker ws flies is) reading) unstored-step unstored-plain commits.Asked (kept s) cut turn2 start in
            ends c.stage c.mid c.so_far c.left c.issued
          where
            unstored-step : (a : commits.CommitStage) (n : Kept) (o : Option Change) (b : commits.CommitStage) (m : Kept) → UnstoredNext (target_plan r t) s.opening s.memory reading (commit_request x ep first tracker ws) a n o b → Steps o n m
                → commit.AtCommit r h h w v t s here runs s.memory l rest takes to_it x ep first tracker ws is (right.commits l x ep first tracker ws flies is) (right.senders l x ep first tracker ws flies is) reading a n
                → commit.AtCommit r h h w v t s here runs s.memory l rest takes to_it x ep first tracker ws is (right.commits l x ep first tracker ws flies is) (right.senders l x ep first tracker ws flies is) reading b m
            unstored-step a n o b m (Before a2 b2 n2 o2 next un) steps p = step a n o b m next steps p

            unstored-plain : (a : commits.CommitStage) (n : Kept) (ch : Change) (b : commits.CommitStage) → UnstoredNext (target_plan r t) s.opening s.memory reading (commit_request x ep first tracker ws) a n (Some ch) b
                → (is_plain ch ≡ true) × (issued_by_commit (commit_request x ep first tracker ws) a ≡ issued_by_commit (commit_request x ep first tracker ws) b)
            unstored-plain a n ch b (Before a2 b2 n2 o2 next un) = plain a n ch b next
