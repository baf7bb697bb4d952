-- A turn that is cut, and in which nothing is heard of snapshots and aggregation, keeps that outcomes show their causes.
use Rattle.std.specs.Prelude.{ℕ, ◌≡◌, ◌≤◌, ◌+◌, ◌/◌, ◌++◌, ◌||◌, ◌⊎◌, true, false, List, [], ◌∷◌, filter, Contains, slice_get, Option, Some, None, refl}
use Rattle.std.proofs.Common.{append-nil, inl, inr, sym, ◌∙◌, ap, subst, arith}
use Rattle.base_types.specs.declared.entry.Verdict.{Verdict}
use Rattle.base_types.specs.declared.epoch.Epoch.{Epoch}
use Rattle.base_types.specs.declared.id.AttemptId.{AttemptId}
use Rattle.base_types.specs.declared.id.ContId.{ContId}
use Rattle.base_types.specs.declared.outcome.FloorWhy.{FloorWhy}
use Rattle.base_types.specs.declared.outcome.FloorWhy.TheVariants as why
use Rattle.base_types.specs.declared.outcome.Outcome.{Outcome}
use Rattle.base_types.specs.declared.report.Line.{Line}
use Rattle.base_types.specs.declared.report.Line.TheVariants as line
use Rattle.base_messages.specs.declared.message.Message.{Message}
use Rattle.base_messages.specs.declared.message.Message.TheVariants as message
use Rattle.model_laws.specs.Members.{contains-from_has, has-cases, has-from_contains, has-from_filter, has-from_map}
use Rattle.daos_model.specs.Attempts.{tries}
use Rattle.daos_model.specs.Blocks.{blocks}
use Rattle.daos_model.specs.CausesShown.{ShowsFloor}
use Rattle.daos_model.specs.Opening.{Opening, top}
use Rattle.base_messages.specs.declared.actor.ActorId.{ActorId}
use Rattle.world_base.specs.declared.letter.Letter.{Letter}
use Rattle.world_base.specs.declared.request.CommitRequest.{CommitRequest}
use Rattle.world_base.specs.declared.request.FetchRequest.{FetchRequest}
use Rattle.world_base.specs.declared.request.PrepareRequest.{PrepareRequest}
use Rattle.world_base.specs.declared.target.Life.TheVariants.{Running}
use Rattle.world_base.specs.declared.target.TargetMemory.{TargetMemory}
use Rattle.world_base.specs.declared.target.TargetPlan.{TargetPlan}
use Rattle.world_base.specs.declared.target.TargetState.{TargetState}
use Rattle.world_base.specs.declared.world.World.{World}
use Rattle.world_base.specs.Acks as ack
use Rattle.world_base.specs.ChangeLaws.{LeaseRises}
use Rattle.world_base.specs.Changes.{Change, Kept}
use Rattle.world_base.specs.Commits as commit
use Rattle.world_base.specs.CutTurns.{Before, CommitIsCut, CutTurn, Cutting, HearingIsCut, IdleWorkIsCut, NoneIsDown, OneIsDown, UnstoredNext, is_stored, issued_by_commit, issued_by_fetch, listed_issue, none_issued}
use Rattle.world_base.specs.Events.{Rules, kept, target_plan}
use Rattle.world_base.specs.Idle.{IdleNext}
use Rattle.world_base.specs.Marks as mark
use Rattle.world_base.specs.PathLaws.{AllPlain}
use Rattle.world_base.specs.Prepares as prepare
use Rattle.world_base.specs.Reads as read
use Rattle.world_base.specs.Requests.{fetch_message, issued_for}
use Rattle.world_base.specs.Roles.{is_prepared}
use Rattle.world_base.specs.Statuses.{AtOnce, Looking, Looks, NoChange, status_refusal}
use Rattle.world_base.specs.Stops.{AtWork, CutOf, Hearing, IdleWork, after_cut, is_not_to, is_to, reset_letter, resets, stopped_at, stops_so_far}
use Rattle.world_base.specs.TargetTurns.{commit_request, fetch_request, prepare_request}
use Rattle.world_base.specs.TurnLaws.{RaisesAll, ack-plain, ack-raises, commit-plain, commit-raises, fetch-plain, fetch-raises, idle-plain, idle-raises, mark-plain, mark-raises, marked-plain, marked-raises, prepare-plain, prepare-raises, query-plain, query-raises}
use Rattle.world_base.specs.Verdicts as verdict
use Rattle.world_causes.specs.restarts.Cuts.{cut-of}
use Rattle.world_causes.specs.restarts.Resting.{is_silent}
use Rattle.world_contents.specs.world_commit.stops.CutEvents.{is_without_snapshots}
use Rattle.world_causes.specs.causes.Causes.{Dated, Stored, blocks_of_stored}
use Rattle.world_contents.specs.reads.EventLaws.{at-or-there}
use Rattle.world_contents.specs.world_letters.talks.Asked.{commit_of}
use Rattle.world_causes.specs.causes.CommitTurns.{IsCommit, need-is}
use Rattle.world_causes.specs.causes.PrepareTurns.{IsPrepare}
use Rattle.world_causes.specs.causes.ReadTurns.{IsFetch}
use Rattle.world_causes.specs.causes.Dates.{IsDated, request-dated}
use Rattle.world_causes.specs.causes.FloorLaws.{stops-keep-floors}
use Rattle.world_causes.specs.causes.Heard.{IsHeardAs}
use Rattle.world_causes.specs.causes.Lasting.{limit-told}
use Rattle.world_causes.specs.causes.Leases.{CommitBelow, ExtendsTo, FetchBelow, IsDatedBelow, IsLeasedBelow, ack-to, commit-to, fetch-to, heard-below, idle-to, leased-near, mark-to, marked-to, prepare-to, query-to, was-leased}
use Rattle.world_causes.specs.causes.Paths.{CommitDated, CommitSoFar, ReadDated, commit-path, costs, prepare-path, prepared_blocks, read-path, taken_at}
use Rattle.world_causes.specs.causes.Shown.{Causes, limit_over}
use Rattle.world_causes.specs.showing.CutTurns.{ack-cheap, commit-open, commit-takes, cut-conts, cut-free, cut-leased, cut-raises, cut-silent, fetch-cheap, idle-cheap, is_prepared_stage, is_store_cut, mark-cheap, marked-cheap, prepare-open, prepare-takes, query-cheap, stored-space, stored_if}
use Rattle.world_causes.specs.showing.Follows.{Follows, follows-keep}
use Rattle.world_causes.specs.showing.Following.{FollowsOn}
use Rattle.world_causes.specs.showing.Stopping.{one-line}

-- ---- what a cut turn stored

abbrev pub commit_stored : (t : TargetPlan) (opening : Epoch × FloorWhy) (m : TargetMemory) (reading : ℕ) (q : CommitRequest) (old : Kept) (cut : Cutting) → CommitIsCut t opening m reading q old cut → Stored
commit_stored t opening m reading q old cut (NoneIsDown up turn) = stored_if (is_stored turn.last || is_store_cut turn.here) t.me q.attempt
commit_stored t opening m reading q old cut (OneIsDown e down is turn) = []

-- a Commit, or a Prepare, may have stored its attempt
abbrev pub hearing_stored : (number : ℕ) (t : TargetPlan) (opening : Epoch × FloorWhy) (m : TargetMemory) (reading : ℕ) (from : ActorId) (q : Message) (old : Kept) (cut : Cutting) → HearingIsCut is_prepared number t opening m reading from q old cut → Stored
hearing_stored number t opening m reading from (message.Commit x ep first tracker ws) old cut turn = commit_stored t opening m reading (commit_request x ep first tracker ws) old cut turn
hearing_stored number t opening m reading from (message.Prepare e first ws inc) old cut turn = stored_if (is_prepared_stage turn.last || is_store_cut turn.here) t.me e.attempt
hearing_stored number t opening m reading from q old cut turn = []

abbrev pub work_stored : (p : TargetPlan) (s : TargetState) (work : AtWork) (cut : Cutting) → CutOf p s work cut → Stored
work_stored p s (Hearing l reading number) cut turn = hearing_stored number p s.opening s.memory reading l.from l.message (kept s) cut turn
work_stored p s IdleWork cut turn = []

-- ---- one kind of turn

-- what it leaves, where these attempts count as stored by it
pub record CutLeaves (r : Rules) (o : Opening) (stored new : Stored) (w : World) (t : ℕ) (s : TargetState) (cut : Cutting) : Type 0 where
  pub silent : cut.lines ≡ []
  pub conts : cut.left.durable.conts ≡ s.durable.conts
  pub rises : LeaseRises s.durable cut.left.durable
  pub leased : IsLeasedBelow o w cut.left
  pub dates : (x : AttemptId) (e : Epoch) → Contains cut.issued (x, e) → e.0 / 256 ≤ limit_over o w.lines (w.issued ++ cut.issued)
  pub space : s.free + blocks_of_stored r.script t stored ≤ cut.left.free + blocks_of_stored r.script t (new ++ stored)

-- a turn that issues nothing and takes no blocks
module _ {S : Type 0} (Next : S → Kept → Option Change → S → Type 0) (plain : AllPlain Next) (raises : RaisesAll Next) (cheap : (s : S) (k : Kept) (c : Option Change) (u : S) → Next s k c u → costs c ≡ 0) (P : S → Type 0)
    (r : Rules) (o : Opening) (stored : Stored) (w : World) (t : ℕ) (s : TargetState) (to : (a : S) (k : Kept) (c : Option Change) (u : S) → Next a k c u → P a → P u × ExtendsTo (limit_over o w.lines w.issued + 1 + 65535) c)
    (low : s.durable.lease ≤ limit_over o w.lines w.issued + 1 + 65535) where
  quiet-leaves : (start : S) (cut : Cutting) → P start → CutTurn Next none_issued t start (kept s) cut → CutLeaves r o stored [] w t s cut
  quiet-leaves start cut first g = record {
    silent = cut-silent Next plain none_issued t start (kept s) cut g;
    conts = cut-conts Next plain none_issued t start (kept s) cut g;
    rises = cut-raises Next plain none_issued t start (kept s) cut g raises;
    leased = cut-leased Next plain none_issued t start (kept s) cut g (limit_over o w.lines w.issued + 1 + 65535) P first to low;
    dates = λ x e i. absurd (has-from_contains [] (x, e) (subst (λ is. Contains is (x, e)) g.issued i));
    space = let f : s.free ≤ cut.left.free = cut-free Next plain none_issued t start (kept s) cut g cheap in sum s.free cut.left.free (blocks_of_stored r.script t stored) f;
  }
    where
      sum : (a b c : ℕ) → a ≤ b → a + c ≤ b + c
      sum a b c f = omega (arith, f)

-- an epoch that is issued to a request is within the limit
issue-dated : (o : Opening) (w : World) (x : AttemptId) (ep first : Option Epoch) (e : Epoch) (issued : Dated) → issued ≡ listed_issue (issued_for x ep e) → IsDated o w.issued w.lines x ep first e
    → (y : AttemptId) (f : Epoch) → Contains issued (y, f) → f.0 / 256 ≤ limit_over o w.lines (w.issued ++ issued)
issue-dated o w x None first e issued is d y f i = subst (λ is'. f.0 / 256 ≤ limit_over o w.lines (w.issued ++ is')) (sym is) (by (has-from_contains ((x, e) ∷ []) (y, f) (subst (λ is'. Contains is' (y, f)) is i)))
  where
    pair : AttemptId → Epoch → AttemptId × Epoch
    pair a b = (a, b)

    by : (pair y f ≡ pair x e) ⊎ ⊥ → f.0 / 256 ≤ limit_over o w.lines (w.issued ++ (x, e) ∷ [])
    by (inl same) = subst (λ g. g.0 / 256 ≤ limit_over o w.lines (w.issued ++ (x, e) ∷ [])) (sym (ap (λ z. z.1) same)) d.within
    by (inr none) = absurd none
issue-dated o w x (Some own) first e issued is d y f i = absurd (has-from_contains [] (y, f) (subst (λ is'. Contains is' (y, f)) is i))

looks-plain : AllPlain NoChange
looks-plain s k c u (Looks j) = tt

looks-raises : RaisesAll NoChange
looks-raises s k c u (Looks j) = tt

looks-cheap : (s : AtOnce) (k : Kept) (c : Option Change) (u : AtOnce) → NoChange s k c u → costs c ≡ 0
looks-cheap s k c u (Looks j) = refl

module _ (r : Rules) (o : Opening) (stored : Stored) (w : World) (C : Causes r o stored w) (t : ℕ) (s : TargetState) (here : slice_get w.targets t ≡ Some s) (runs : s.life ≡ Running) where
  abbrev edge : ℕ
  edge = limit_over o w.lines w.issued + 1

  low : s.durable.lease ≤ edge + 65535
  low = was-leased o w (kept s) (C.bounded.leases t s here)

  looks-to : (a : AtOnce) (k : Kept) (c : Option Change) (u : AtOnce) → NoChange a k c u → Unit {0} → Unit {0} × ExtendsTo (edge + 65535) c
  looks-to a k c u (Looks j) p = (tt, tt)

  looks-leave : (cut : Cutting) → CutTurn NoChange none_issued t Looking (kept s) cut → CutLeaves r o stored [] w t s cut
  looks-leave cut g = quiet-leaves NoChange looks-plain looks-raises looks-cheap (λ a. Unit {0}) r o stored w t s looks-to low Looking cut tt g

  -- idle work
  pub idle-leaves : (cut : Cutting) → IdleWorkIsCut t s.memory (kept s) cut → CutLeaves r o stored [] w t s cut
  idle-leaves cut g = quiet-leaves IdleNext idle-plain idle-raises idle-cheap (λ a. Unit {0}) r o stored w t s (idle-to edge) low s.memory.leader.decided cut tt g

  ack-leaves : (member : ℕ) (x : AttemptId) (inc : ℕ) (refusal : Option Outcome) (cut : Cutting) → CutTurn (ack.AckNext (target_plan r t) s.memory member x inc refusal) none_issued t ack.Heard (kept s) cut → CutLeaves r o stored [] w t s cut
  ack-leaves member x inc refusal cut g =
      quiet-leaves (ack.AckNext (target_plan r t) s.memory member x inc refusal) (ack-plain (target_plan r t) s.memory member x inc refusal) (ack-raises (target_plan r t) s.memory member x inc refusal)
      (ack-cheap (target_plan r t) s.memory member x inc refusal) (λ a. Unit {0}) r o stored w t s (ack-to edge (target_plan r t) s.memory member x inc refusal) low ack.Heard cut tt g

  module _ (reading : ℕ) (l : Letter) (K : IsHeardAs r o stored w t s l) where
    ticks : s.memory.ticks ≤ limit_over o w.lines w.issued
    ticks = C.bounded.ticks t s here runs

    -- a Fetch
    fetch-leaves : (q : FetchRequest) (cut : Cutting) → l.message ≡ fetch_message q → CutTurn (read.FetchNext (target_plan r t) s.memory reading q) (issued_by_fetch q) t read.Asked (kept s) cut → CutLeaves r o stored [] w t s cut
    fetch-leaves q cut is g = record {
      silent = cut-silent (read.FetchNext (target_plan r t) s.memory reading q) (fetch-plain (target_plan r t) s.memory reading q) (issued_by_fetch q) t read.Asked (kept s) cut g;
      conts = cut-conts (read.FetchNext (target_plan r t) s.memory reading q) (fetch-plain (target_plan r t) s.memory reading q) (issued_by_fetch q) t read.Asked (kept s) cut g;
      rises = cut-raises (read.FetchNext (target_plan r t) s.memory reading q) (fetch-plain (target_plan r t) s.memory reading q) (issued_by_fetch q) t read.Asked (kept s) cut g (fetch-raises (target_plan r t) s.memory reading q);
      leased = cut-leased (read.FetchNext (target_plan r t) s.memory reading q) (fetch-plain (target_plan r t) s.memory reading q) (issued_by_fetch q) t read.Asked (kept s) cut g (edge + 65535) (FetchBelow edge) tt
          (fetch-to edge (target_plan r t) s.memory reading q below) low;
      dates = dates g.last g.issued (read-path r.script (target_plan r t) w.lines (top o) s.memory reading q (kept s) g.last g.mid g.did f.plain K.at.opens g.path).dated;
      space = let f' : s.free ≤ cut.left.free = cut-free (read.FetchNext (target_plan r t) s.memory reading q) (fetch-plain (target_plan r t) s.memory reading q) (issued_by_fetch q) t read.Asked (kept s) cut g (fetch-cheap (target_plan r t) s.memory reading q) in
          sum s.free cut.left.free (blocks_of_stored r.script t stored) f';
    }
      where
        sum : (a b c : ℕ) → a ≤ b → a + c ≤ b + c
        sum a b c p = omega (arith, p)

        f : IsFetch r o w.issued w.lines (target_plan r t) q
        f = (K.fetch q is).0

        below : IsDatedBelow edge (target_plan r t) s.memory reading q.tracker q.ep
        below = heard-below r o stored w t s l K ticks reading (fetch_message q) is

        dates : (last : read.FetchStage) → cut.issued ≡ issued_by_fetch q last → ReadDated (target_plan r t) s.memory reading q last → (x : AttemptId) (e : Epoch) → Contains cut.issued (x, e) → e.0 / 256 ≤ limit_over o w.lines (w.issued ++ cut.issued)
        dates read.Asked none d x e i = absurd (has-from_contains [] (x, e) (subst (λ is'. Contains is' (x, e)) none i))
        dates (read.Known g) none d x e i = absurd (has-from_contains [] (x, e) (subst (λ is'. Contains is' (x, e)) none i))
        dates (read.Reading g decided) is' d x e i =
            issue-dated o w q.attempt q.ep q.first g cut.issued is' (request-dated o w.issued w.lines q.attempt q.ep q.first q.tracker (target_plan r t) s.memory reading g f.few ticks f.request d) x e i

    -- a Commit
    module _ (q : CommitRequest) (cut : Cutting) (is : l.message ≡ commit_of q) where
      c : IsCommit r o w.issued w.lines t (kept s) q
      c = (K.commit q is).0

      below : IsDatedBelow edge (target_plan r t) s.memory reading q.tracker q.ep
      below = heard-below r o stored w t s l K ticks reading (commit_of q) is

      dated : (last : commit.CommitStage) → cut.issued ≡ issued_by_commit q last → CommitDated (target_plan r t) s.memory reading q last → (x : AttemptId) (e : Epoch) → Contains cut.issued (x, e) → e.0 / 256 ≤ limit_over o w.lines (w.issued ++ cut.issued)
      dated commit.Asked none d x e i = absurd (has-from_contains [] (x, e) (subst (λ is'. Contains is' (x, e)) none i))
      dated (commit.Known g) none d x e i = absurd (has-from_contains [] (x, e) (subst (λ is'. Contains is' (x, e)) none i))
      dated (commit.Checking g) is' d x e i = issue-dated o w q.attempt q.ep q.first g cut.issued is' (request-dated o w.issued w.lines q.attempt q.ep q.first q.tracker (target_plan r t) s.memory reading g c.few ticks c.request d) x e i
      dated (commit.Stored g) is' d x e i = issue-dated o w q.attempt q.ep q.first g cut.issued is' (request-dated o w.issued w.lines q.attempt q.ep q.first q.tracker (target_plan r t) s.memory reading g c.few ticks c.request d) x e i

      none-taken : (a : commit.CommitStage) → is_stored a ≡ false → taken_at (target_plan r t) q a ≡ 0
      none-taken commit.Asked off = refl
      none-taken (commit.Known e) off = refl
      none-taken (commit.Checking e) off = refl
      none-taken (commit.Stored e) off = let no : ⊥ = cc in absurd no

      all-taken : (a : commit.CommitStage) → is_stored a ≡ true → taken_at (target_plan r t) q a ≡ blocks (commit.own_writes (target_plan r t) q.writes)
      all-taken commit.Asked on = let no : ⊥ = cc in absurd no
      all-taken (commit.Known e) on = let no : ⊥ = cc in absurd no
      all-taken (commit.Checking e) on = let no : ⊥ = cc in absurd no
      all-taken (commit.Stored e) on = refl

      -- that went on to the cut as one without stops
      commit-leaves : (g : CutTurn (commit.CommitNext (target_plan r t) s.opening s.memory reading q) (issued_by_commit q) t commit.Asked (kept s) cut) → CutLeaves r o stored (stored_if (is_stored g.last || is_store_cut g.here) t q.attempt) w t s cut
      commit-leaves g = record {
        silent = cut-silent (commit.CommitNext (target_plan r t) s.opening s.memory reading q) (commit-plain (target_plan r t) s.opening s.memory reading q) (issued_by_commit q) t commit.Asked (kept s) cut g;
        conts = cut-conts (commit.CommitNext (target_plan r t) s.opening s.memory reading q) (commit-plain (target_plan r t) s.opening s.memory reading q) (issued_by_commit q) t commit.Asked (kept s) cut g;
        rises = cut-raises (commit.CommitNext (target_plan r t) s.opening s.memory reading q) (commit-plain (target_plan r t) s.opening s.memory reading q) (issued_by_commit q) t commit.Asked (kept s) cut g (commit-raises (target_plan r t) s.opening s.memory reading q);
        leased = cut-leased (commit.CommitNext (target_plan r t) s.opening s.memory reading q) (commit-plain (target_plan r t) s.opening s.memory reading q) (issued_by_commit q) t commit.Asked (kept s) cut g (edge + 65535) (CommitBelow edge) tt
            (commit-to edge (target_plan r t) s.opening s.memory reading q below) low;
        dates = dated g.last g.issued so.dated;
        space = stored-space (commit.CommitNext (target_plan r t) s.opening s.memory reading q) (blocks (commit.own_writes (target_plan r t) q.writes)) (taken_at (target_plan r t) q) is_stored (commit-takes (target_plan r t) s.opening s.memory reading q)
            (commit-open (target_plan r t) s.opening s.memory reading q) none-taken all-taken r.script t q.attempt stored g.last (kept s) g.mid cut.left g.lines (need-is r t q.attempt q.writes c.its c.some) so.free g.here;
      }
        where
          so : CommitSoFar (target_plan r t) s.memory reading q (kept s) g.last g.mid
          so = commit-path (target_plan r t) s.opening s.memory reading q (kept s) g.last g.mid g.did g.path

      -- one with a member that is down stored nothing
      unstored-next : (a : commit.CommitStage) (k : Kept) (d : Option Change) (u : commit.CommitStage) → UnstoredNext (target_plan r t) s.opening s.memory reading q a k d u → commit.CommitNext (target_plan r t) s.opening s.memory reading q a k d u
      unstored-next a k d u (Before a2 u2 k2 d2 next early) = next

      unstored-cheap : (a : commit.CommitStage) (k : Kept) (d : Option Change) (u : commit.CommitStage) → UnstoredNext (target_plan r t) s.opening s.memory reading q a k d u → costs d ≡ 0
      unstored-cheap a k d u (Before a2 u2 k2 d2 next early) = by a k d u next early
        where
          by : (a : commit.CommitStage) (k : Kept) (d : Option Change) (u : commit.CommitStage) → commit.CommitNext (target_plan r t) s.opening s.memory reading q a k d u → is_stored u ≡ false → costs d ≡ 0
          by a k d u (commit.HasEpoch j e is) early = refl
          by a k d u (commit.ExtendsLease j e lease low is) early = refl
          by a k d u (commit.IsCovered j e low) early = refl
          by a k d u (commit.Stores j e allowed space) early = let no : ⊥ = cc in absurd no

      unstored-leaves : CutTurn (UnstoredNext (target_plan r t) s.opening s.memory reading q) (issued_by_commit q) t commit.Asked (kept s) cut → CutLeaves r o stored [] w t s cut
      unstored-leaves u = record {
        silent = k.silent;
        conts = k.conts;
        rises = k.rises;
        leased = k.leased;
        dates = k.dates;
        space = let f : s.free ≤ cut.left.free = cut-free (UnstoredNext (target_plan r t) s.opening s.memory reading q) (λ a j d v n. commit-plain (target_plan r t) s.opening s.memory reading q a j d v (unstored-next a j d v n)) (issued_by_commit q) t commit.Asked (kept s) cut u unstored-cheap in
            sum s.free cut.left.free (blocks_of_stored r.script t stored) f;
      }
        where
          sum : (a b c : ℕ) → a ≤ b → a + c ≤ b + c
          sum a b c p = omega (arith, p)

          g : CutTurn (commit.CommitNext (target_plan r t) s.opening s.memory reading q) (issued_by_commit q) t commit.Asked (kept s) cut
          g = cut-of (UnstoredNext (target_plan r t) s.opening s.memory reading q) (commit.CommitNext (target_plan r t) s.opening s.memory reading q) unstored-next (issued_by_commit q) t commit.Asked (kept s) cut u

          k : CutLeaves r o stored (stored_if (is_stored g.last || is_store_cut g.here) t q.attempt) w t s cut
          k = commit-leaves g

      commits-leave : (g : CommitIsCut (target_plan r t) s.opening s.memory reading q (kept s) cut) → CutLeaves r o stored (commit_stored (target_plan r t) s.opening s.memory reading q (kept s) cut g) w t s cut
      commits-leave (NoneIsDown up turn) = commit-leaves turn
      commits-leave (OneIsDown e down is' turn) = unstored-leaves turn

    -- a Prepare
    module _ (q : PrepareRequest) (cut : Cutting) (is : l.message ≡ message.Prepare q.entry q.first q.writes q.inc) where
      p : IsPrepare r o w.issued w.lines t (kept s) q
      p = K.prepare q is

      none-prepared : (a : prepare.PrepareStage) → is_prepared_stage a ≡ false → prepared_blocks q a ≡ 0
      none-prepared prepare.Heard off = refl
      none-prepared prepare.Checking off = refl
      none-prepared prepare.Stored off = let no : ⊥ = cc in absurd no

      all-prepared : (a : prepare.PrepareStage) → is_prepared_stage a ≡ true → prepared_blocks q a ≡ blocks q.writes
      all-prepared prepare.Heard on = let no : ⊥ = cc in absurd no
      all-prepared prepare.Checking on = let no : ⊥ = cc in absurd no
      all-prepared prepare.Stored on = refl

      prepare-leaves : (g : CutTurn (prepare.PrepareNext (target_plan r t) s.opening s.memory q) none_issued t prepare.Heard (kept s) cut) → CutLeaves r o stored (stored_if (is_prepared_stage g.last || is_store_cut g.here) t q.entry.attempt) w t s cut
      prepare-leaves g = record {
        silent = cut-silent (prepare.PrepareNext (target_plan r t) s.opening s.memory q) (prepare-plain (target_plan r t) s.opening s.memory q) none_issued t prepare.Heard (kept s) cut g;
        conts = cut-conts (prepare.PrepareNext (target_plan r t) s.opening s.memory q) (prepare-plain (target_plan r t) s.opening s.memory q) none_issued t prepare.Heard (kept s) cut g;
        rises = cut-raises (prepare.PrepareNext (target_plan r t) s.opening s.memory q) (prepare-plain (target_plan r t) s.opening s.memory q) none_issued t prepare.Heard (kept s) cut g (prepare-raises (target_plan r t) s.opening s.memory q);
        leased = cut-leased (prepare.PrepareNext (target_plan r t) s.opening s.memory q) (prepare-plain (target_plan r t) s.opening s.memory q) none_issued t prepare.Heard (kept s) cut g (edge + 65535) (λ a. Unit {0}) tt
            (prepare-to edge (target_plan r t) s.opening s.memory q (heard-below r o stored w t s l K ticks reading (message.Prepare q.entry q.first q.writes q.inc) is)) low;
        dates = λ x e i. absurd (has-from_contains [] (x, e) (subst (λ is'. Contains is' (x, e)) g.issued i));
        space = stored-space (prepare.PrepareNext (target_plan r t) s.opening s.memory q) (blocks q.writes) (prepared_blocks q) is_prepared_stage (prepare-takes (target_plan r t) s.opening s.memory q)
            (prepare-open (target_plan r t) s.opening s.memory q) none-prepared all-prepared r.script t q.entry.attempt stored g.last (kept s) g.mid cut.left g.lines p.need (prepare-path (target_plan r t) s.opening s.memory q (kept s) g.last g.mid g.did g.path).free g.here;
      }

    -- whatever was heard
    pub hearing-leaves : (m : Message) (number : ℕ) (cut : Cutting) → l.message ≡ m → is_without_snapshots m ≡ true → (g : HearingIsCut is_prepared number (target_plan r t) s.opening s.memory reading l.from m (kept s) cut)
        → CutLeaves r o stored (hearing_stored number (target_plan r t) s.opening s.memory reading l.from m (kept s) cut g) w t s cut
    hearing-leaves (message.Fetch x op group ep first tracker y snapshot) number cut is plain g = fetch-leaves (fetch_request x op group ep first tracker y snapshot) cut is g
    hearing-leaves (message.Commit x ep first tracker ws) number cut is plain g = commits-leave (commit_request x ep first tracker ws) cut is g
    hearing-leaves (message.Prepare e first ws inc) number cut is plain g = prepare-leaves (prepare_request e first ws inc) cut is g
    hearing-leaves (message.Ack x inc refusal) number cut is plain g = ack-leaves l.from.number x inc refusal cut g
    hearing-leaves (message.StatusIs x inc how) number cut is plain g = ack-leaves l.from.number x inc (status_refusal x how) cut g
    hearing-leaves (message.Mark inc marks) number cut is plain g = quiet-leaves (mark.MarkNext is_prepared) (mark-plain is_prepared) (mark-raises is_prepared) (mark-cheap is_prepared) (λ a. Unit {0}) r o stored w t s (mark-to edge is_prepared) low marks cut tt g
    hearing-leaves (message.Marked inc ids) number cut is plain g =
        quiet-leaves (ack.MarkedNext (target_plan r t) s.memory l.from.number) (marked-plain (target_plan r t) s.memory l.from.number) (marked-raises (target_plan r t) s.memory l.from.number) (marked-cheap (target_plan r t) s.memory l.from.number) (λ a. Unit {0}) r o stored w t s
        (marked-to edge (target_plan r t) s.memory l.from.number) low (ack.to_confirm inc ids s.durable) cut tt g
    hearing-leaves (message.Verdict x ask inc v) number cut is plain g = absurd (K.verdict x ask inc v is)
    hearing-leaves (message.Query x ask) number cut is plain g = quiet-leaves verdict.QueryNext query-plain query-raises query-cheap (λ a. Unit {0}) r o stored w t s (query-to edge) low verdict.IsAsked cut tt g
    hearing-leaves (message.Ask x) number cut is plain g = looks-leave cut g
    hearing-leaves (message.Status x inc) number cut is plain g = looks-leave cut g
    hearing-leaves (message.Reset' by down place asked) number cut is plain g = looks-leave cut g
    hearing-leaves (message.Snap x c name tracker) number cut is plain g = let no : ⊥ = cc in absurd no
    hearing-leaves (message.Freeze x c s') number cut is plain g = let no : ⊥ = cc in absurd no
    hearing-leaves (message.Held x refusal) number cut is plain g = let no : ⊥ = cc in absurd no
    hearing-leaves (message.Prune x c tracker e) number cut is plain g = let no : ⊥ = cc in absurd no
    hearing-leaves m number cut is plain g = absurd g

-- ---- the event

-- a line of a stop tells of no floor
stop-tells-none : (t n u : ℕ) (floor : Epoch) (cont : ContId) (reason : FloorWhy) → ShowsFloor t floor cont reason (line.Stop n u) → ⊥
stop-tells-none t n u floor cont why.Opening k = k
stop-tells-none t n u floor cont (why.Restart m) k = let no : ⊥ = cc (k.1) in no
stop-tells-none t n u floor cont (why.Snapshot e) k = let no : ⊥ = cc (k.0) in no
stop-tells-none t n u floor cont (why.Aggregate m) k = let no : ⊥ = cc (k) in no

module _ (r : Rules) (o : Opening) (stored new : Stored) (w v : World) (C : Causes r o stored w) (t : ℕ) (s : TargetState) (cut : Cutting) (here : slice_get w.targets t ≡ Some s) (runs : s.life ≡ Running) (after : v ≡ after_cut w t s cut)
    (others : (u : ℕ) → ((u ≡ t) → ⊥) → blocks_of_stored r.script u stored ≤ blocks_of_stored r.script u (new ++ stored)) (k : CutLeaves r o stored new w t s cut) where
  abbrev told : List Line
  told = line.Stop (stops_so_far w.lines) t ∷ []

  lines-are : v.lines ≡ w.lines ++ told
  lines-are = ap (λ u. u.lines) after ∙ ap (λ ls. (w.lines ++ ls) ++ told) k.silent ∙ ap (λ ls. ls ++ told) (append-nil w.lines)

  issued-are : v.issued ≡ w.issued ++ cut.issued
  issued-are = ap (λ u. u.issued) after

  abbrev bound : ℕ
  bound = limit_over o v.lines v.issued

  rises : limit_over o w.lines (w.issued ++ cut.issued) ≤ bound
  rises = subst (λ ls. limit_over o w.lines (w.issued ++ cut.issued) ≤ limit_over o ls v.issued) (sym lines-are) (subst (λ is. limit_over o w.lines (w.issued ++ cut.issued) ≤ limit_over o (w.lines ++ told) is) (sym issued-are) (limit-told o w.lines told (w.issued ++ cut.issued)))

  lost : (l : Letter) → Contains v.messages l → Contains w.messages l ⊎ (is_silent l.message ≡ true)
  lost l i = elim (has-cases (filter (is_not_to t) w.messages) (resets t false w.asked) l (has-from_contains (filter (is_not_to t) w.messages ++ resets t false w.asked) l (subst (λ u. Contains u.messages l) after i))) [
    | inl j ↦ inl (contains-from_has w.messages l (has-from_filter (is_not_to t) w.messages l j).0)
    | inr j ↦ (let z = has-from_map (reset_letter false) (filter (is_to t) w.asked) l j in inr (ap (λ y. is_silent y.message) (sym z.2)))
  ]

  at-it : FollowsOn r stored new bound t s (stopped_at s cut.left)
  at-it = record {
    ticks = λ is. let no : ⊥ = cc in absurd no;
    lease = inr (sum cut.left.durable.lease (limit_over o w.lines (w.issued ++ cut.issued)) bound (leased-near o w cut.issued cut.left k.leased) rises);
    free = k.space;
    parked = λ p i. absurd (has-from_contains [] p i);
  }
    where
      sum : (a b c : ℕ) → a ≤ b + 65536 → b ≤ c → a ≤ c + 65536
      sum a b c p q = omega (arith, p, q)

  elsewhere : (u : ℕ) (z : TargetState) → ((u ≡ t) → ⊥) → FollowsOn r stored new bound u z z
  elsewhere u z off = record { ticks = λ is. inl (is, low z.memory.ticks); lease = inl (low z.durable.lease); free = sum z.free (blocks_of_stored r.script u stored) (blocks_of_stored r.script u (new ++ stored)) (others u off); parked = λ p i. inl i }
    where
      low : (n : ℕ) → n ≤ n
      low n = omega arith

      sum : (a b c : ℕ) → b ≤ c → a + b ≤ a + c
      sum a b c p = omega (arith, p)

  targets-follow : (u : ℕ) (z : TargetState) → slice_get v.targets u ≡ Some z → (x : TargetState) × (slice_get w.targets u ≡ Some x) × FollowsOn r stored new bound u x z
  targets-follow u z at = elim (at-or-there w.targets t s (stopped_at s cut.left) here u z (ap (λ x. slice_get x.targets u) (sym after) ∙ at)) [
    | inl same ↦ (s, subst (λ n. slice_get w.targets n ≡ Some s) (sym same.0) here, subst (λ n. FollowsOn r stored new bound n s z) (sym same.0) (subst (FollowsOn r stored new bound t s) (sym same.1) at-it))
    | inr old ↦ (z, old.1, elsewhere u z old.0)
  ]

  cut-follows : Follows r o stored new w v
  unfolding tries
  cut-follows = record {
    added = cut.issued;
    issued = issued-are;
    more = told;
    lines = lines-are;
    silent = refl;
    clients = ap (λ u. u.clients) after;
    messages = lost;
    dates = λ x e i. sum (e.0 / 256) (limit_over o w.lines (w.issued ++ cut.issued)) bound (k.dates x e i) rises;
    told = λ u floor cont reason i. absurd (stop-tells-none u (stops_so_far w.lines) t floor cont reason (one-line (ShowsFloor u floor cont reason) (line.Stop (stops_so_far w.lines) t) i));
    targets = targets-follow;
    floors = stops-keep-floors w v t s cut here runs after k.conts k.rises.rises;
  }
    where
      sum : (a b c : ℕ) → a ≤ b → b ≤ c → a ≤ c
      sum a b c p q = omega (arith, p, q)

  pub cut-follows_on : Causes r o (new ++ stored) v
  cut-follows_on = follows-keep r o stored new w v C cut-follows
