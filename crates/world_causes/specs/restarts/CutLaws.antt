-- Where a turn without snapshots is cut, what it leaves of versions is sound of what was decided and served before it.
use Rattle.std.specs.Prelude.{ℕ, ◌≡◌, Bool, true, false, List, [], ◌∷◌, ◌++◌, slice_get, Option, Some, refl}
use Rattle.std.proofs.Common.{sym, ap, subst}
use Rattle.base_types.specs.declared.entry.Verdict.{Verdict}
use Rattle.base_types.specs.declared.entry.Verdict.TheVariants as fate
use Rattle.base_types.specs.declared.epoch.Epoch.{Epoch}
use Rattle.base_types.specs.declared.id.AttemptId.{AttemptId}
use Rattle.base_types.specs.declared.outcome.FloorWhy.{FloorWhy}
use Rattle.base_types.specs.declared.outcome.Outcome.{Outcome}
use Rattle.model_laws.specs.Members.{Has, contains-from_has}
use Rattle.base_messages.specs.declared.message.Message.{Message}
use Rattle.base_messages.specs.declared.message.Message.TheVariants as message
use Rattle.base_messages.specs.declared.message.Post.{Post}
use Rattle.daos_model.specs.declared.durable.Durable.{Durable}
use Rattle.daos_model.specs.declared.durable.Version.{Version}
use Rattle.daos_model.specs.Opening.{Opening}
use Rattle.world_contents.specs.world_commit.attempts.History.{History}
use Rattle.world_base.specs.declared.letter.Letter.{Letter}
use Rattle.world_base.specs.declared.request.CommitRequest.{CommitRequest}
use Rattle.world_base.specs.declared.request.FetchRequest.{FetchRequest}
use Rattle.world_base.specs.declared.target.Life.TheVariants.{Running}
use Rattle.world_base.specs.declared.target.TargetMemory.{TargetMemory}
use Rattle.world_base.specs.declared.target.TargetPlan.{TargetPlan}
use Rattle.world_base.specs.declared.target.TargetState.{TargetState}
use Rattle.world_base.specs.declared.world.World.{World}
use Rattle.world_base.specs.Acks as ack
use Rattle.world_base.specs.Changes.{Change, Kept, Steps}
use Rattle.world_base.specs.Commits as commit
use Rattle.world_base.specs.CutTurns as cuts
use Rattle.world_base.specs.CutTurns.{CommitIsCut, CutTurn, Cutting, HearingIsCut, IdleWorkIsCut, NoneIsDown, OneIsDown, UnstoredNext, issued_by_commit, issued_by_fetch, none_issued}
use Rattle.world_base.specs.Events.{Rules, kept, target_plan}
use Rattle.world_base.specs.Idle as idle
use Rattle.world_base.specs.Letters.{target}
use Rattle.world_base.specs.Marks as mark
use Rattle.world_base.specs.Prepares as prepare
use Rattle.world_base.specs.Reads as read
use Rattle.world_base.specs.Requests.{fetch_message}
use Rattle.world_base.specs.RightTurns.{IsOfOthers, TellsOfOthers, forgotten-other}
use Rattle.world_base.specs.Roles.{is_prepared, told_by}
use Rattle.world_base.specs.PathLaws.{AllPlain, reached-here, reached-more}
use Rattle.world_base.specs.Statuses.{AtOnce, Looking, Looks, NoChange, status_refusal}
use Rattle.world_base.specs.Stops.{AtWork, CutOf, Hearing, IdleWork, IsInHand, TargetCut}
use Rattle.world_base.specs.TargetTurns.{commit_request, fetch_request, prepare_request}
use Rattle.world_base.specs.TurnLaws.{ack-plain, commit-plain, fetch-plain, idle-plain, mark-plain, marked-plain, prepare-plain, query-plain, verdict-plain}
use Rattle.world_base.specs.Turns.{Reached}
use Rattle.world_base.specs.Verdicts as verdict
use Rattle.world_contents.specs.reads.AckLaws as acks
use Rattle.world_contents.specs.reads.Beginning.{TurnBegins}
use Rattle.world_contents.specs.reads.CommitLaws as commits
use Rattle.world_contents.specs.reads.EventLaws.{commit-heard, may-be-stored, parked-right, right, told-so, turn-begins, verdict-right}
use Rattle.world_contents.specs.reads.FetchLaws as fetches
use Rattle.world_contents.specs.reads.MarkLaws as marks
use Rattle.world_contents.specs.reads.Midway.{Sound}
use Rattle.world_contents.specs.reads.Reads.{Reads}
use Rattle.world_contents.specs.reads.Standing.{IsRefusalSo, Knows}
use Rattle.world_contents.specs.reads.StoreLaws.{AreItsOwn}
use Rattle.world_contents.specs.reads.VerdictLaws as verdicts
use Rattle.world_contents.specs.reads.Versions.{Versions}
use Rattle.world_causes.specs.restarts.Cuts.{cut-keeps, cut-of}
use Rattle.world_causes.specs.restarts.StopLaws.{KeepsSound, sound-keeps, stop-keeps}
use Rattle.base_types.specs.declared.operation.Read.{Read}
use Rattle.base_types.specs.declared.operation.MinorWrite.{MinorWrite}
use Rattle.base_types.specs.declared.entry.Entry.{Entry}
use Rattle.dtx_base.specs.declared.member.Parked.{Parked}
use Rattle.world_contents.specs.reads.Given.{IsParkedRight}
use Rattle.world_contents.specs.world_commit.attempts.Counting.{has-taken}

-- a message whose turn makes no snapshot, and aggregates nothing
abbrev pub is_heard_plainly : Message → Bool
is_heard_plainly (message.Fetch x op group ep first tracker r snapshot) = true
is_heard_plainly (message.Commit x ep first tracker ws) = true
is_heard_plainly (message.Prepare e first ws inc) = true
is_heard_plainly (message.Ack x inc refusal) = true
is_heard_plainly (message.StatusIs x inc how) = true
is_heard_plainly (message.Mark inc marks) = true
is_heard_plainly (message.Marked inc ids) = true
is_heard_plainly (message.Verdict x ask inc v) = true
is_heard_plainly (message.Query x ask) = true
is_heard_plainly (message.Ask x) = true
is_heard_plainly (message.Status x inc) = true
is_heard_plainly (message.Reset' by down place asked) = true
is_heard_plainly m = false

abbrev pub IsPlainWork : AtWork → Type 0
IsPlainWork (Hearing l reading number) = is_heard_plainly l.message ≡ true
IsPlainWork IdleWork = Unit {0}

-- what a Verdict tells a target of others' attempts changes nothing that it knows as a leader
told-nothing : (me : ℕ) (m : TargetMemory) (d : Durable) (v : Verdict) (a : AttemptId) → IsOfOthers me m.leader d a → told_by v a m ≡ m
told-nothing me m d fate.Committed a o = ap (λ l. record m { leader = l }) (forgotten-other me m.leader d a o)
told-nothing me m d fate.Aborted a o = ap (λ l. record m { leader = l }) (forgotten-other me m.leader d a o)
told-nothing me m d fate.Undecided a o = refl

-- a Commit that was cut is a turn of Commits that was cut, whoever is known to be down
pub commit-is-cut : (p : TargetPlan) (opening : Epoch × FloorWhy) (m : TargetMemory) (reading : ℕ) (q : CommitRequest) (old : Kept) (cut : Cutting) → CommitIsCut p opening m reading q old cut
    → CutTurn (commit.CommitNext p opening m reading q) (issued_by_commit q) p.me commit.Asked old cut
commit-is-cut p opening m reading q old cut (NoneIsDown none g) = g
commit-is-cut p opening m reading q old cut (OneIsDown e down is g) =
    cut-of (UnstoredNext p opening m reading q) (commit.CommitNext p opening m reading q) unstored (issued_by_commit q) p.me commit.Asked old cut g
  where
    unstored : (s : commit.CommitStage) (k : Kept) (c : Option Change) (u : commit.CommitStage) → UnstoredNext p opening m reading q s k c u → commit.CommitNext p opening m reading q s k c u
    unstored s k c u (cuts.Before s2 u2 k2 c2 next early) = next

module _ (r : Rules) (o : Opening) (held : ℕ → List Version) (h : History) (w : World) (b : Knows r o held h w) (t : ℕ) (s : TargetState) (here : slice_get w.targets t ≡ Some s) (runs : s.life ≡ Running) where
  abbrev Left : Durable → Type 0
  Left d = KeepsSound r o (held t) h t d

  start : TurnBegins r o (held t) h w t s
  start = turn-begins r o held h w b t s here runs

  from-sound : (d : Durable) → Sound r o (held t) h h.served s.opening t d s.memory.stamps → Left d
  from-sound d k = sound-keeps r o (held t) h [] s.opening t d s.memory.stamps k

  -- idle work
  pub idle-cut : (cut : Cutting) → IdleWorkIsCut t s.memory (kept s) cut → Left cut.left.durable
  idle-cut cut g =
      cut-keeps idle.IdleNext none_issued t (marks.IdleMid r o (held t) h w t s start) Left idle-plain (marks.idle-step r o (held t) h w t s start) (λ g k p. from-sound k.durable p.0)
      s.memory.leader.decided (kept s) cut g (start.sound, λ a i. start.known a (contains-from_has s.memory.leader.decided a i))

  module _ (reading : ℕ) (l : Letter) (among : Has l w.messages) (to_it : l.to ≡ target t) where
    abbrev begun : TurnBegins r o (held t) h w t s
    begun = turn-begins r o held h w b t s here runs

    fetch-cut : (x : AttemptId) (op group : ℕ) (ep first : Option Epoch) (tracker : Epoch) (q : Read) (snapshot : Bool) (cut : Cutting) → l.message ≡ message.Fetch x op group ep first tracker q snapshot
        → CutTurn (read.FetchNext (target_plan r t) s.memory reading (fetch_request x op group ep first tracker q snapshot)) (issued_by_fetch (fetch_request x op group ep first tracker q snapshot)) t read.Asked (kept s) cut
        → Left cut.left.durable
    fetch-cut x op group ep first tracker q snapshot cut is g =
        cut-keeps (read.FetchNext (target_plan r t) s.memory reading f) (issued_by_fetch f) t (fetches.Mid r o (held t) h h.served s.durable.snaps s.opening t s.memory reading f) Left (fetch-plain (target_plan r t) s.memory reading f)
        (fetches.fetch-step r o (held t) h h.served s.durable.snaps s.opening t s.memory reading f epochs begun.known) mid
        read.Asked (kept s) cut g (begun.sound, refl)
      where
        f : FetchRequest
        f = fetch_request x op group ep first tracker q snapshot

        epochs : fetches.HasEpochs r o (held t) h h.served s.durable.snaps s.opening t s.memory reading f
        epochs e has = verdicts.read-at r o w s.durable f snapshot e ((right r o held h w b t s here runs reading l among to_it (message.Fetch x op group ep first tracker q snapshot) is).1 reading e has)

        mid : (g : read.FetchStage) (k : Kept) → fetches.Mid r o (held t) h h.served s.durable.snaps s.opening t s.memory reading f g k → Left k.durable
        mid read.Asked k p = from-sound k.durable p.0
        mid (read.Known e) k p = from-sound k.durable p.0.0
        mid (read.Reading e decided) k p = from-sound k.durable p.0.0

    commit-cut : (x : AttemptId) (ep first : Option Epoch) (tracker : Epoch) (ws : List MinorWrite) (cut : Cutting) → l.message ≡ message.Commit x ep first tracker ws
        → CutTurn (commit.CommitNext (target_plan r t) s.opening s.memory reading (commit_request x ep first tracker ws)) (issued_by_commit (commit_request x ep first tracker ws)) t commit.Asked (kept s) cut → Left cut.left.durable
    commit-cut x ep first tracker ws cut is g =
        cut-keeps (commit.CommitNext (target_plan r t) s.opening s.memory reading (commit_request x ep first tracker ws)) (issued_by_commit (commit_request x ep first tracker ws)) t
        (commits.CommitMid r o (held t) h w t s begun (commit_request x ep first tracker ws) reading c) Left (commit-plain (target_plan r t) s.opening s.memory reading (commit_request x ep first tracker ws))
        (commits.commit-step r o (held t) h w t s begun (commit_request x ep first tracker ws) reading c) mid commit.Asked (kept s) cut g (begun.sound, refl)
      where
        c : commits.HearsCommit r o (held t) h w t s begun (commit_request x ep first tracker ws) reading
        c = commit-heard r o held h w b t s here runs reading l among to_it x ep first tracker ws is

        mid : (g : commit.CommitStage) (k : Kept) → commits.CommitMid r o (held t) h w t s begun (commit_request x ep first tracker ws) reading c g k → Left k.durable
        mid commit.Asked k p = from-sound k.durable p.0
        mid (commit.Known e) k p = from-sound k.durable p.0.0
        mid (commit.Checking e) k p = from-sound k.durable p.0.0
        mid (commit.Stored e) k p = from-sound k.durable p.0

    prepare-cut : (e : Entry) (first : Option Epoch) (ws : List MinorWrite) (inc : ℕ) (cut : Cutting) → l.message ≡ message.Prepare e first ws inc
        → CutTurn (prepare.PrepareNext (target_plan r t) s.opening s.memory (prepare_request e first ws inc)) none_issued t prepare.Heard (kept s) cut → Left cut.left.durable
    prepare-cut e first ws inc cut is g =
        let z = told-so r o held h w b t s here runs reading l among to_it (message.Prepare e first ws inc) is in
        cut-keeps (prepare.PrepareNext (target_plan r t) s.opening s.memory (prepare_request e first ws inc)) none_issued t (commits.PrepareMid r o (held t) h w t s begun (prepare_request e first ws inc)) Left
        (prepare-plain (target_plan r t) s.opening s.memory (prepare_request e first ws inc))
        (commits.prepare-step r o (held t) h w t s begun (prepare_request e first ws inc) (ap (λ y. y.committed) z.entry) (subst (AreItsOwn r e.attempt t) (sym z.writes) (commits.prepare-own r e.attempt t (begun.forms e.attempt)))
        (may-be-stored r o held h w b t s here runs reading l among to_it e first ws inc is)) mid
        prepare.Heard (kept s) cut g (begun.sound, refl)
      where
        mid : (g : prepare.PrepareStage) (k : Kept) → commits.PrepareMid r o (held t) h w t s begun (prepare_request e first ws inc) g k → Left k.durable
        mid prepare.Heard k p = from-sound k.durable p.0
        mid prepare.Checking k p = from-sound k.durable p.0.0
        mid prepare.Stored k p = from-sound k.durable p

    ack-cut : (x : AttemptId) (inc : ℕ) (refusal : Option Outcome) (cut : Cutting) → IsRefusalSo r h t s l.from x inc refusal → CutTurn (ack.AckNext (target_plan r t) s.memory l.from.number x inc refusal) none_issued t ack.Heard (kept s) cut → Left cut.left.durable
    ack-cut x inc refusal cut firm g =
        cut-keeps (ack.AckNext (target_plan r t) s.memory l.from.number x inc refusal) none_issued t (acks.AckMid r o (held t) h w t s begun l.from.number x inc refusal) Left (ack-plain (target_plan r t) s.memory l.from.number x inc refusal)
        (acks.ack-step r o (held t) h w t s begun l.from.number x inc refusal firm) mid ack.Heard (kept s) cut g refl
      where
        mid : (g : ack.AckStage) (k : Kept) → acks.AckMid r o (held t) h w t s begun l.from.number x inc refusal g k → Left k.durable
        mid ack.Heard k p = subst (λ n. Left n.durable) (sym p) (from-sound s.durable begun.sound)
        mid (ack.Followed f) k p = from-sound k.durable p.0

    mark-cut : (inc : ℕ) (named : List (AttemptId × Bool)) (cut : Cutting) → l.message ≡ message.Mark inc named → CutTurn (mark.MarkNext is_prepared) none_issued t named (kept s) cut → Left cut.left.durable
    mark-cut inc named cut is g =
        cut-keeps (mark.MarkNext is_prepared) none_issued t (marks.MarkMid r o (held t) h w t s begun) Left (mark-plain is_prepared) (marks.mark-step r o (held t) h w t s begun is_prepared) (λ g k p. from-sound k.durable p.0)
        named (kept s) cut g (begun.sound, told-so r o held h w b t s here runs reading l among to_it (message.Mark inc named) is)

    marked-cut : (ids : List AttemptId) (cut : Cutting) → CutTurn (ack.MarkedNext (target_plan r t) s.memory l.from.number) none_issued t ids (kept s) cut → Left cut.left.durable
    marked-cut ids cut g =
        cut-keeps (ack.MarkedNext (target_plan r t) s.memory l.from.number) none_issued t (λ g k. Sound r o (held t) h h.served s.opening t k.durable s.memory.stamps) Left (marked-plain (target_plan r t) s.memory l.from.number)
        (marks.marked-step r o (held t) h w t s begun l.from.number) (λ g k p. from-sound k.durable p) ids (kept s) cut g begun.sound

    -- a question changes nothing
    looks-plain : AllPlain NoChange
    looks-plain g k c u (Looks j) = tt

    looks-step : (g : AtOnce) (k : Kept) (c : Option Change) (u : AtOnce) (n : Kept) → NoChange g k c u → Steps c k n → Left k.durable → Left n.durable
    looks-step g k c u n (Looks j) steps p = subst (λ x. Left x.durable) (sym steps) p

    look-cut : (cut : Cutting) → CutTurn NoChange none_issued t Looking (kept s) cut → Left cut.left.durable
    look-cut cut g = cut-keeps NoChange none_issued t (λ g k. Left k.durable) Left looks-plain looks-step (λ g k p. p) Looking (kept s) cut g (from-sound s.durable begun.sound)

    query-step : (g : verdict.QueryStage) (k : Kept) (c : Option Change) (u : verdict.QueryStage) (n : Kept) → verdict.QueryNext g k c u → Steps c k n → Left k.durable → Left n.durable
    query-step g k c u n (verdict.Answers j) steps p = subst (λ x. Left x.durable) (sym steps) p

    query-cut : (cut : Cutting) → CutTurn verdict.QueryNext none_issued t verdict.IsAsked (kept s) cut → Left cut.left.durable
    query-cut cut g = cut-keeps verdict.QueryNext none_issued t (λ g k. Left k.durable) Left query-plain query-step (λ g k p. p) verdict.IsAsked (kept s) cut g (from-sound s.durable begun.sound)

    -- ---- a Verdict

    module _ (x : AttemptId) (ask : Option AttemptId) (inc : ℕ) (v : Verdict) (is : l.message ≡ message.Verdict x ask inc v) where
      abbrev Mid : List Message → TargetMemory → List Post → Kept → Type 0
      Mid asks n posts k = verdicts.VerdictMid r o (held t) h w t s begun (message.Verdict x ask inc v) asks n posts k

      -- what holds at a stage: between two of the Fetches that are tried again, or in one of them
      Stands : verdict.VerdictStage → Kept → Type 0
      Stands verdict.Heard k = k ≡ kept s
      Stands (verdict.Freed asks n posts) k = Mid asks n posts k
      Stands (verdict.Trying q g rest n posts) k = (j : Kept) × Mid (fetch_message q ∷ rest) n posts j × Reached (read.FetchNext (target_plan r t) n reading q) read.Asked j g k

      fate-right : verdicts.IsVerdictRight r o (held t) h w t s begun v x
      fate-right = verdict-right r o held h w b t s here runs reading l among to_it x v (told-so r o held h w b t s here runs reading l among to_it (message.Verdict x ask inc v) is)

      waiting : (p : Parked) → Has p s.memory.member.parked → IsParkedRight r o w t s.durable p.ask
      waiting = parked-right r o held h w b t s here runs reading l among to_it

      step : (g : verdict.VerdictStage) (k : Kept) (c : Option Change) (u : verdict.VerdictStage) (n : Kept) → verdict.VerdictNext is_prepared (target_plan r t) s.memory reading x ask v g k c u → Steps c k n → Stands g k → Stands u n
      unfolding Stands
      step g k c u n (verdict.SettlesBy j p same) steps p' =
          verdicts.begins r o (held t) h w t s begun is_prepared reading x ask v (message.Verdict x ask inc v) fate-right waiting n
          (subst (λ y. Steps (verdict.settling_change x (verdict.settles_by is_prepared v x y.durable)) y n) p' (subst (λ z. Steps z k n) same steps))
      step g k c u n (verdict.TriesNext j m posts rest y op group ep first tracker z snapshot) steps p =
          (n, subst (Mid (message.Fetch y op group ep first tracker z snapshot ∷ rest) m posts) (sym steps) p, reached-here _ read.Asked n)
      step g k c u n (verdict.GoesOn j m posts rest q i z d next) steps p = (p.0, p.1, reached-more _ read.Asked p.0 i k d z n p.2 next steps)
      step g k c u n (verdict.IsDone j m posts rest q i left ends) steps p =
          verdicts.goes r o (held t) h w t s begun is_prepared reading x ask v (message.Verdict x ask inc v) fate-right waiting q rest m posts p.0 n left p.1
          (record { last = i; reached = subst (Reached (read.FetchNext (target_plan r t) m reading q) read.Asked p.0 i) (sym steps) p.2; ends = subst (λ y. read.FetchEnds (target_plan r t) m reading q (verdict.fetcher q) i y left) (sym steps) ends })

      mid-sound : (g : verdict.VerdictStage) (k : Kept) → Stands g k → Left k.durable
      unfolding Stands
      mid-sound verdict.Heard k p = subst (λ n. Left n.durable) (sym p) (from-sound s.durable begun.sound)
      mid-sound (verdict.Freed asks n posts) k p = sound-keeps r o (held t) h p.more s.opening t k.durable n.stamps p.sound
      mid-sound (verdict.Trying q g rest n posts) k p = by g (verdicts.trying-mid r o (held t) h w t s begun is_prepared reading x ask v (message.Verdict x ask inc v) fate-right waiting q rest n posts p.0 g k p.1 p.2)
        where
          by : (g : read.FetchStage) → fetches.Mid r o (held t) h (p.1.more ++ h.served) s.durable.snaps s.opening t n reading q g k → Left k.durable
          by read.Asked z = sound-keeps r o (held t) h p.1.more s.opening t k.durable n.stamps z.0
          by (read.Known e) z = sound-keeps r o (held t) h p.1.more s.opening t k.durable n.stamps z.0.0
          by (read.Reading e decided) z = sound-keeps r o (held t) h p.1.more s.opening t k.durable n.stamps z.0.0

      verdict-cut : (cut : Cutting) → CutTurn (verdict.VerdictNext is_prepared (target_plan r t) (told_by v x s.memory) reading x ask v) none_issued t verdict.Heard (kept s) cut → Left cut.left.durable
      unfolding Stands
      verdict-cut cut g =
          cut-keeps (verdict.VerdictNext is_prepared (target_plan r t) s.memory reading x ask v) none_issued t Stands Left (verdict-plain is_prepared (target_plan r t) s.memory reading x ask v) step mid-sound
          verdict.Heard (kept s) cut (subst (λ m. CutTurn (verdict.VerdictNext is_prepared (target_plan r t) m reading x ask v) none_issued t verdict.Heard (kept s) cut) (told-nothing t s.memory s.durable v x others) g) refl
        where
          others : IsOfOthers t s.memory.leader s.durable x
          others = subst (TellsOfOthers t s.memory.leader s.durable) is (b.attempts.others l t s among to_it here)

    -- whatever it heard
    hearing-cut : (m : Message) (number : ℕ) (cut : Cutting) → l.message ≡ m → is_heard_plainly m ≡ true → HearingIsCut is_prepared number (target_plan r t) s.opening s.memory reading l.from m (kept s) cut → Left cut.left.durable
    hearing-cut (message.Fetch x op group ep first tracker q snapshot) number cut is plain g = fetch-cut x op group ep first tracker q snapshot cut is g
    hearing-cut (message.Commit x ep first tracker ws) number cut is plain g = commit-cut x ep first tracker ws cut is (commit-is-cut (target_plan r t) s.opening s.memory reading (commit_request x ep first tracker ws) (kept s) cut g)
    hearing-cut (message.Prepare e first ws inc) number cut is plain g = prepare-cut e first ws inc cut is g
    hearing-cut (message.Ack x inc refusal) number cut is plain g = ack-cut x inc refusal cut (told-so r o held h w b t s here runs reading l among to_it (message.Ack x inc refusal) is) g
    hearing-cut (message.StatusIs x inc how) number cut is plain g = ack-cut x inc (status_refusal x how) cut (told-so r o held h w b t s here runs reading l among to_it (message.StatusIs x inc how) is) g
    hearing-cut (message.Mark inc named) number cut is plain g = mark-cut inc named cut is g
    hearing-cut (message.Marked inc ids) number cut is plain g = marked-cut (ack.to_confirm inc ids s.durable) cut g
    hearing-cut (message.Verdict x ask inc v) number cut is plain g = verdict-cut x ask inc v is cut g
    hearing-cut (message.Query x ask) number cut is plain g = query-cut cut g
    hearing-cut (message.Ask x) number cut is plain g = look-cut cut g
    hearing-cut (message.Status x inc) number cut is plain g = look-cut cut g
    hearing-cut (message.Reset' by down place asked) number cut is plain g = look-cut cut g
    hearing-cut m number cut is plain g = let no : ⊥ = cc in absurd no

pub cuts-keep : (r : Rules) (o : Opening) (held : ℕ → List Version) (h : History) (w v : World) → Knows r o held h w → (g : TargetCut r w v) → IsPlainWork g.work → Versions r o held h v × Reads r o h v
cuts-keep r o held h w v b g plain = stop-keeps r o held h w v g.t g.s g.cut g.here (left g.work g.in_hand plain g.turn) g.after b.versions b.reads
  where
    left : (work : AtWork) → IsInHand w g.t work → IsPlainWork work → CutOf (target_plan r g.t) g.s work g.cut → KeepsSound r o (held g.t) h g.t g.cut.left.durable
    left (Hearing l reading number) in_hand plain turn =
        hearing-cut r o held h w b g.t g.s g.here g.runs reading l (has-taken w.messages l in_hand.0.0 in_hand.0.1) in_hand.1 l.message number g.cut refl plain turn
    left IdleWork in_hand plain turn = idle-cut r o held h w b g.t g.s g.here g.runs g.cut turn
