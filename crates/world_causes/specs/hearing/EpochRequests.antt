-- Where the turn of a Fetch or a Commit is cut, it issued an epoch or none, by how far it came.
use Rattle.std.specs.Prelude.{ℕ, ◌≡◌, ◌≤◌, ◌/◌, ◌⊎◌, ◌++◌, false, List, [], ◌∷◌, Contains, Option, Some, None, refl}
use Rattle.std.proofs.Common.{sym, ◌∙◌, ap, subst, arith, inl, inr}
use Rattle.std.proofs.lemmas.List.Elements.{Contains-append_left, Contains-push}
use Rattle.base_types.specs.declared.epoch.Epoch.{Epoch}
use Rattle.base_types.specs.declared.id.AttemptId.{AttemptId}
use Rattle.base_types.specs.declared.outcome.FloorWhy.{FloorWhy}
use Rattle.base_types.specs.declared.report.Line.{Line}
use Rattle.daos_model.specs.declared.durable.Durable.{Durable}
use Rattle.world_base.specs.declared.request.CommitRequest.{CommitRequest}
use Rattle.world_base.specs.declared.request.FetchRequest.{FetchRequest}
use Rattle.world_base.specs.declared.target.TargetMemory.{TargetMemory}
use Rattle.world_base.specs.declared.target.TargetPlan.{TargetPlan}
use Rattle.world_base.specs.declared.world.World.{World}
use Rattle.world_base.specs.Changes.{After, Before, Change, Cut, InPart, Kept, Steps, made}
use Rattle.world_base.specs.Commits as commit
use Rattle.world_base.specs.CutTurns.{CutHere, CutTurn, Cutting, InChange, InQuestion, issued_by_commit, issued_by_fetch, listed_issue}
use Rattle.world_base.specs.PathLaws.{AllPlain, path-keeps}
use Rattle.world_base.specs.Reads as read
use Rattle.world_base.specs.Requests.{issued_for, request_epoch}
use Rattle.world_base.specs.TurnLaws.{commit-plain, fetch-plain}
use Rattle.world_contents.specs.world_letters.epochs.FetchTurns.{Covers, FetchSoFar, fetch-step, lease-covers}
use Rattle.world_contents.specs.world_letters.epochs.Sayings.{AreKnown, Known, Stays, known-all, known-each, step-stays}
use Rattle.world_causes.specs.restarts.Cuts.{none-in_part}

-- ---- what holds where a turn was cut

-- what holds at each stage before a step and after it holds there; of the stage before a change that was cut too
module _ {S : Type 0} (Next : S → Kept → Option Change → S → Type 0) (P : S → Kept → Type 0) (R : S → Durable → Type 0) (plain : AllPlain Next)
    (step : (s : S) (k : Kept) (o : Option Change) (u : S) (l : Kept) → Next s k o u → Steps o k l → P s k → P u l) (weaken : (s : S) (k : Kept) → P s k → R s k.durable)
    (back : (s : S) (k : Kept) (c : Change) (u : S) (d : Durable) → Next s k (Some c) u → R u d → R s d) where
  change-at : (last next : S) (mid : Kept) (c : Change) (left : Durable) → Next last mid (Some c) next → P last mid → Cut c mid.durable left → R last left
  change-at last next mid c left is p (Before same) = subst (R last) (sym same) (weaken last mid p)
  change-at last next mid c left is p (After same) =
      subst (R last) (sym same)
      (back last mid c next (made c mid.durable) is (weaken next (record { durable = made c mid.durable; free = mid.free }) (step last mid (Some c) next (record { durable = made c mid.durable; free = mid.free }) is (refl, omega arith) p)))
  change-at last next mid c left is p (InPart partly) = absurd (none-in_part c mid.durable left (plain last mid (Some c) next is) partly)

  here-at : (t : ℕ) (last : S) (mid left : Kept) (lines : List Line) → P last mid → CutHere Next t last mid left lines → R last left.durable
  here-at t last mid left lines p (InChange c next is cut free) = change-at last next mid c left.durable is p cut
  here-at t last mid left lines p (InQuestion same free) = subst (R last) (sym same) (weaken last mid p)

  pub cut-at : (issues : S → List (AttemptId × Epoch)) (t : ℕ) (start : S) (old : Kept) (cut : Cutting) (g : CutTurn Next issues t start old cut) → P start old → R g.last cut.left.durable
  cut-at issues t start old cut g p = here-at t g.last g.mid cut.left g.lines (path-keeps Next P step start old g.did g.last g.mid g.path p) g.here

-- ---- what a request's turn issued

-- nothing; or, where the request had none, the epoch that it found, which the lease covers
pub data CutIssues (t : TargetPlan) (m : TargetMemory) (reading : ℕ) (x : AttemptId) (ep : Option Epoch) (tracker : Epoch) (cut : Cutting) : Type 0 where
  NoEpoch : cut.issued ≡ [] → CutIssues t m reading x ep tracker cut
  AnEpoch : (e : Epoch) → ep ≡ None → cut.issued ≡ (x, e) ∷ [] → Covers t m reading tracker None e cut.left.durable.lease → CutIssues t m reading x ep tracker cut

-- where its epoch was found
found-issues : (t : TargetPlan) (m : TargetMemory) (reading : ℕ) (x : AttemptId) (ep : Option Epoch) (tracker : Epoch) (cut : Cutting) (e : Epoch) → cut.issued ≡ listed_issue (issued_for x ep e) → Covers t m reading tracker ep e cut.left.durable.lease
    → CutIssues t m reading x ep tracker cut
found-issues t m reading x ep tracker cut e is c = by ep refl
  where
    by : (o : Option Epoch) → ep ≡ o → CutIssues t m reading x ep tracker cut
    by None none = AnEpoch e none (is ∙ ap (λ o. listed_issue (issued_for x o e)) none) (subst (λ o. Covers t m reading tracker o e cut.left.durable.lease) none c)
    by (Some own) some = NoEpoch (is ∙ ap (λ o. listed_issue (issued_for x o e)) some)

-- ---- a Fetch

module _ (t : TargetPlan) (m : TargetMemory) (reading : ℕ) (q : FetchRequest) (plain : q.snapshot ≡ false) where
  abbrev Any : Known
  Any x e = Unit {0}

  abbrev FetchLeft : read.FetchStage → Durable → Type 0
  FetchLeft read.Asked d = Unit {0}
  FetchLeft (read.Known e) d = Unit {0}
  FetchLeft (read.Reading e decided) d = Covers t m reading q.tracker q.ep e d.lease

  fetch-weaken : (s : read.FetchStage) (k : Kept) → FetchSoFar Any 0 t m reading q plain s k → FetchLeft s k.durable
  fetch-weaken read.Asked k p = tt
  fetch-weaken (read.Known e) k p = tt
  fetch-weaken (read.Reading e decided) k p = p.0

  fetch-back : (s : read.FetchStage) (k : Kept) (c : Change) (u : read.FetchStage) (d : Durable) → read.FetchNext t m reading q s k (Some c) u → FetchLeft u d → FetchLeft s d
  fetch-back s k c u d next = by s k (Some c) u next refl
    where
      by : (s : read.FetchStage) (k : Kept) (o : Option Change) (u : read.FetchStage) → read.FetchNext t m reading q s k o u → o ≡ Some c → FetchLeft u d → FetchLeft s d
      by s k o u (read.AtSnapshot j e at is) some p = let no : ⊥ = cc in absurd no
      by s k o u (read.HasEpoch j e at is) some p = let no : ⊥ = cc in absurd no
      by s k o u (read.ExtendsLease j e lease low is) some p = tt
      by s k o u (read.IsCovered j e low) some p = let no : ⊥ = cc in absurd no
      by s k o u (read.SettlesOwn j e decided a none unsettled among) some p = p

  pub fetch-cut-issues : (n : ℕ) (old : Kept) (cut : Cutting) → CutTurn (read.FetchNext t m reading q) (issued_by_fetch q) n read.Asked old cut → CutIssues t m reading q.attempt q.ep q.tracker cut
  fetch-cut-issues n old cut g = by g.last g.issued (cut-at (read.FetchNext t m reading q) (FetchSoFar Any 0 t m reading q plain) FetchLeft (fetch-plain t m reading q) (fetch-step Any 0 t m reading q plain) fetch-weaken fetch-back (issued_by_fetch q) n read.Asked old cut g
      (tt, record { lease = omega arith; entries = known-all Any old.durable.entries (λ k i. tt) }))
    where
      by : (s : read.FetchStage) → cut.issued ≡ issued_by_fetch q s → FetchLeft s cut.left.durable → CutIssues t m reading q.attempt q.ep q.tracker cut
      by read.Asked is p = NoEpoch is
      by (read.Known e) is p = NoEpoch is
      by (read.Reading e decided) is p = found-issues t m reading q.attempt q.ep q.tracker cut e is p

-- ---- a Commit

module _ (w : World) (t : TargetPlan) (opening : Epoch × FloorWhy) (m : TargetMemory) (reading : ℕ) (q : CommitRequest) where
  -- an epoch that was issued before; or the one that the request found
  abbrev Old : Known
  Old y f = Contains w.issued (y, f)

  abbrev Found : Epoch → Known
  Found e y f = Contains w.issued (y, f) ⊎ ((y ≡ q.attempt) × (f ≡ e))

  found-more : (e : Epoch) (k : Kept) → Stays Old 0 k → Stays (Found e) 0 k
  found-more e k s = record { lease = s.lease; entries = known-all (Found e) k.durable.entries (λ j i. inl (known-each Old k.durable.entries j s.entries i)) }

  abbrev SoFar : commit.CommitStage → Kept → Type 0
  SoFar commit.Asked k = Stays Old 0 k
  SoFar (commit.Known e) k = Stays Old 0 k × (request_epoch t m reading q.tracker q.ep ≡ Some e)
  SoFar (commit.Checking e) k = Stays Old 0 k × Covers t m reading q.tracker q.ep e k.durable.lease
  SoFar (commit.Stored e) k = Stays (Found e) 0 k × Covers t m reading q.tracker q.ep e k.durable.lease

  commit-step : (s : commit.CommitStage) (k : Kept) (o : Option Change) (u : commit.CommitStage) (l : Kept) → commit.CommitNext t opening m reading q s k o u → Steps o k l → SoFar s k → SoFar u l
  commit-step s k o u l (commit.HasEpoch j e is) st h = ((step-stays Old 0 None k l tt st h).0, is)
  commit-step s k o u l (commit.ExtendsLease j e lease less is) st h =
      let up : e.0 / 256 ≤ lease = lease-covers (e.0 / 256) lease is in
      let less' = less in
      let fits : k.durable.lease ≤ lease = omega (arith, up, less') in
      ((step-stays Old 0 o k l fits st h.0).0, h.1)
  commit-step s k o u l (commit.IsCovered j e low) st h = ((step-stays Old 0 None k l tt st h.0).0, record { found = h.1; covered = subst (λ z. e.0 / 256 ≤ z.durable.lease) (sym st) low })
  commit-step s k o u l (commit.Stores j e allowed space) st h =
      let stays = step-stays (Found e) 0 o k l (inr (refl, refl)) st (found-more e k h.0) in
      let was : e.0 / 256 ≤ k.durable.lease = h.1.covered in
      let up : k.durable.lease ≤ l.durable.lease = stays.1 in
      (stays.0, record { found = h.1.found; covered = omega (arith, was, up) })

  abbrev CommitLeft : commit.CommitStage → Durable → Type 0
  CommitLeft commit.Asked d = AreKnown Old d.entries
  CommitLeft (commit.Known e) d = AreKnown Old d.entries
  CommitLeft (commit.Checking e) d = AreKnown (Found e) d.entries × Covers t m reading q.tracker q.ep e d.lease
  CommitLeft (commit.Stored e) d = AreKnown (Found e) d.entries × Covers t m reading q.tracker q.ep e d.lease

  commit-weaken : (s : commit.CommitStage) (k : Kept) → SoFar s k → CommitLeft s k.durable
  commit-weaken commit.Asked k p = p.entries
  commit-weaken (commit.Known e) k p = p.0.entries
  commit-weaken (commit.Checking e) k p = ((found-more e k p.0).entries, p.1)
  commit-weaken (commit.Stored e) k p = (p.0.entries, p.1)

  commit-back : (s : commit.CommitStage) (k : Kept) (c : Change) (u : commit.CommitStage) (d : Durable) → commit.CommitNext t opening m reading q s k (Some c) u → CommitLeft u d → CommitLeft s d
  commit-back s k c u d next = by s k (Some c) u next refl
    where
      by : (s : commit.CommitStage) (k : Kept) (o : Option Change) (u : commit.CommitStage) → commit.CommitNext t opening m reading q s k o u → o ≡ Some c → CommitLeft u d → CommitLeft s d
      by s k o u (commit.HasEpoch j e is) some p = let no : ⊥ = cc in absurd no
      by s k o u (commit.ExtendsLease j e lease less is) some p = p
      by s k o u (commit.IsCovered j e low) some p = let no : ⊥ = cc in absurd no
      by s k o u (commit.Stores j e allowed space) some p = p

  -- what it issued, and of which attempts it leaves entries
  pub record CommitCut (cut : Cutting) : Type 0 where
    pub issues : CutIssues t m reading q.attempt q.ep q.tracker cut
    pub known : AreKnown (λ y f. Contains (w.issued ++ cut.issued) (y, f)) cut.left.durable.entries

  pub commit-cut : ((e : Epoch) → q.ep ≡ Some e → Contains w.issued (q.attempt, e)) → (n : ℕ) (old : Kept) (cut : Cutting) → AreKnown Old old.durable.entries → CutTurn (commit.CommitNext t opening m reading q) (issued_by_commit q) n commit.Asked old cut → CommitCut cut
  commit-cut own n old cut known g =
      by g.last g.issued (cut-at (commit.CommitNext t opening m reading q) SoFar CommitLeft (commit-plain t opening m reading q) commit-step commit-weaken commit-back (issued_by_commit q) n commit.Asked old cut g
      (record { lease = omega arith; entries = known }))
    where
      more : (y : AttemptId) (f : Epoch) → Contains w.issued (y, f) → Contains (w.issued ++ cut.issued) (y, f)
      more y f i = Contains-append_left w.issued cut.issued (y, f) i

      old-known : AreKnown Old cut.left.durable.entries → AreKnown (λ y f. Contains (w.issued ++ cut.issued) (y, f)) cut.left.durable.entries
      old-known k = known-all (λ y f. Contains (w.issued ++ cut.issued) (y, f)) cut.left.durable.entries (λ j i. more j.attempt j.epoch (known-each Old cut.left.durable.entries j k i))

      -- the epoch that it found was its own, or is issued now
      found : (e : Epoch) → cut.issued ≡ listed_issue (issued_for q.attempt q.ep e) → Covers t m reading q.tracker q.ep e cut.left.durable.lease → Contains (w.issued ++ cut.issued) (q.attempt, e)
      found e is c = at q.ep refl
        where
          at : (o : Option Epoch) → q.ep ≡ o → Contains (w.issued ++ cut.issued) (q.attempt, e)
          at None none = subst (λ is. Contains (w.issued ++ is) (q.attempt, e)) (sym (is ∙ ap (λ o. listed_issue (issued_for q.attempt o e)) none)) (Contains-push w.issued (q.attempt, e))
          at (Some f) some =
              let same : Some f ≡ Some e = sym (ap (λ o. request_epoch t m reading q.tracker o) some) ∙ c.found in
              more q.attempt e (own e (some ∙ same))

      late : (e : Epoch) → cut.issued ≡ listed_issue (issued_for q.attempt q.ep e) → AreKnown (Found e) cut.left.durable.entries × Covers t m reading q.tracker q.ep e cut.left.durable.lease → CommitCut cut
      late e is p = record {
        issues = found-issues t m reading q.attempt q.ep q.tracker cut e is p.1;
        known = known-all (λ y f. Contains (w.issued ++ cut.issued) (y, f)) cut.left.durable.entries (λ j i. elim (known-each (Found e) cut.left.durable.entries j p.0 i) [
          | inl before ↦ more j.attempt j.epoch before
          | inr now ↦ subst (λ y. Contains (w.issued ++ cut.issued) (y, j.epoch)) (sym now.0) (subst (λ f. Contains (w.issued ++ cut.issued) (q.attempt, f)) (sym now.1) (found e is p.1))
        ]);
      }

      by : (s : commit.CommitStage) → cut.issued ≡ issued_by_commit q s → CommitLeft s cut.left.durable → CommitCut cut
      by commit.Asked is p = record { issues = NoEpoch is; known = old-known p }
      by (commit.Known e) is p = record { issues = NoEpoch is; known = old-known p }
      by (commit.Checking e) is p = late e is p
      by (commit.Stored e) is p = late e is p
