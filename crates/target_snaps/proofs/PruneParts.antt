-- The parts of a turn in which a container is aggregated.
use Rattle.std.proofs.Common.{ℕ, ◌≡◌, ◌/◌, ◌<◌, ◌≤◌, ◌∙◌, refl, sym, ap, subst, true, false, nat_lt, List, [], ◌++◌, Option, None, Some, arith}
use Rattle.std.proofs.lemmas.Bool.Decides.{nat_tests}
use Rattle.base_types.specs.declared.entry.Settle.TheVariants.{Commit}
use Rattle.base_types.specs.declared.epoch.Epoch.{Epoch}
use Rattle.base_types.specs.declared.id.AttemptId.{AttemptId}
use Rattle.base_types.specs.declared.id.ContId.{ContId}
use Rattle.base_types.specs.declared.report.Line.{Line}
use Rattle.daos_model.specs.declared.durable.Durable.{Durable}
use Rattle.daos_model.specs.Changes.{pruned}
use Rattle.daos_model.specs.Durables.{row_of}
use Rattle.vos_store.specs.Calls.{State}
use Rattle.world_base.specs.declared.target.TargetMemory.{TargetMemory}
use Rattle.world_base.specs.declared.target.TargetPlan.{TargetPlan}
use Rattle.world_base.specs.Changes.{Change, Kept, Prunes, Settles}
use Rattle.world_base.specs.CutTurns.{cut_line, issued_by_prune, lines_of}
use Rattle.world_base.specs.Idle.{IdleNext, SettlesFirst}
use Rattle.world_base.specs.PathLaws.{path-on}
use Rattle.world_base.specs.Requests.{issued_for, request_epoch}
use Rattle.world_base.specs.Snapshots as snap
use Rattle.world_base.specs.Snapshots.{is_prune_due, prune_limit}
use Rattle.world_base.specs.Turns.{CutAt, CutShort, Here, InChange, InQuestion, More, Path, Reached, listed}
use Rattle.target_parts.specs.Covers.{CoverCut, Covers}
use Rattle.target_parts.specs.Parts.{kept, left_by}
use Rattle.target_snaps.specs.Lined.{HasCome, IsCutWith}
use Rattle.target_snaps.specs.PruneTurns.{IsDue, IsNotDue, PruneCut, PrunesSo, prune_lines}
use Rattle.target_snaps.proofs.Lining.{comes-change, comes-silent, comes-stays, covers-comes, covers-cut, cut-in_change, cut-in_question, lines-both}

-- ---- idle work has no lines

quiet-step : (t : ℕ) (xs : List AttemptId) (k : Kept) (o : Option Change) (ys : List AttemptId) → IdleNext xs k o ys → lines_of t (listed o) ≡ []
quiet-step t xs k o ys (SettlesFirst l a rest) = refl

quiet-path : (t : ℕ) (xs : List AttemptId) (k : Kept) (did : List Change) (ys : List AttemptId) (l : Kept) → Path IdleNext xs k did ys l → lines_of t did ≡ []
quiet-path t xs k did ys l Here = refl
quiet-path t xs k did ys l (More some zs m o us n path next steps) = lines-both t some (listed o) ∙ ap (λ z. z ++ lines_of t (listed o)) (quiet-path t xs k some zs m path) ∙ quiet-step t zs m o us next

quiet-cut : (t : ℕ) (xs : List AttemptId) (k : Kept) (o : Option Change) (ys : List AttemptId) → IdleNext xs k o ys → (c : Change) → o ≡ Some c → cut_line t c ≡ []
quiet-cut t xs k o ys (SettlesFirst l a rest) c is = let same : Settles a Commit ≡ c = cc in subst (λ y. cut_line t y ≡ []) same refl

module _ (p : TargetPlan) (m : TargetMemory) (reading : ℕ) (tracker : Epoch) (ep : Option Epoch) (c : ContId) (number : ℕ) (x : AttemptId) (g : Epoch) where
  abbrev Next : snap.PruneStage → Kept → Option Change → snap.PruneStage → Type 0
  Next = snap.PruneNext p m reading tracker ep c number

  -- ---- the epoch

  module _ (is : request_epoch p m reading tracker ep ≡ Some g) where
    -- the lease covers it
    pub prune-covered : (d : Durable) (h : State) (new : Option Durable) (k : State) → Covers (g.0 / 256) d h new k → (y : Durable) → new ≡ Some y → HasCome Next p.me snap.Asked (kept d h) (snap.Settling g m.leader.decided) (kept y k) []
    prune-covered =
        covers-comes Next p.me snap.Asked (snap.Known g) (snap.Settling g m.leader.decided) (g.0 / 256) (λ k. snap.HasEpoch k g is) (λ k lease low lease_is. snap.ExtendsLease k g lease low lease_is) (λ k covers. snap.IsCovered k g covers)

    -- or it was to be extended, and that was cut
    pub prune-uncovered : (d : Durable) (h : State) (finds : Kept → Type 0) → CoverCut (g.0 / 256) d h finds → IsCutWith Next (issued_by_prune x ep) p.me snap.Asked (kept d h) finds None []
    prune-uncovered d h finds cut =
        covers-cut Next p.me snap.Asked (snap.Known g) (snap.Settling g m.leader.decided) (g.0 / 256) (λ k. snap.HasEpoch k g is) (λ k lease low lease_is. snap.ExtendsLease k g lease low lease_is) (λ k covers. snap.IsCovered k g covers)
        (issued_by_prune x ep) d h finds refl cut

  -- ---- what is decided is settled

  settle-step : (xs : List AttemptId) (k : Kept) (o : Option Change) (ys : List AttemptId) → IdleNext xs k o ys → Next (snap.Settling g xs) k o (snap.Settling g ys)
  settle-step xs k o ys (SettlesFirst l a rest) = snap.SettlesFirst l g a rest

  settle-path : (xs : List AttemptId) (k : Kept) (did : List Change) (ys : List AttemptId) (l : Kept) → Path IdleNext xs k did ys l → Path Next (snap.Settling g xs) k did (snap.Settling g ys) l
  settle-path xs k did ys l Here = Here
  settle-path xs k did ys l (More some zs n o us v path next steps) = More some (snap.Settling g zs) n o (snap.Settling g us) v (settle-path xs k some zs n path) (settle-step zs n o us next) steps

  module _ (old : Kept) (xs : List AttemptId) (mid : Kept) (came : HasCome Next p.me snap.Asked old (snap.Settling g xs) mid []) where
    pub settled-comes : (ys : List AttemptId) (l : Kept) → Reached IdleNext xs mid ys l → HasCome Next p.me snap.Asked old (snap.Settling g ys) l []
    settled-comes ys l r = record {
      did = came.did ++ r.did;
      path = path-on Next snap.Asked old came.did (snap.Settling g xs) mid r.did (snap.Settling g ys) l came.path (settle-path xs mid r.did ys l r.path);
      lines_are = lines-both p.me came.did r.did ∙ ap (λ z. z ++ lines_of p.me r.did) came.lines_are ∙ quiet-path p.me xs mid r.did ys l r.path;
    }

    pub settled-cut : (finds : Kept → Type 0) → CutShort IdleNext xs mid finds → IsCutWith Next (issued_by_prune x ep) p.me snap.Asked old finds (issued_for x ep g) []
    settled-cut finds cut = by cut.cut
      where
        by : CutAt IdleNext cut.last cut.mid finds → IsCutWith Next (issued_by_prune x ep) p.me snap.Asked old finds (issued_for x ep g) []
        by (InChange change ys next was) =
            cut-in_change Next p.me snap.Asked old (issued_by_prune x ep) finds (issued_for x ep g) (snap.Settling g cut.last) cut.mid [] [] change (snap.Settling g ys) (settled-comes cut.last cut.mid cut.reached)
            (settle-step cut.last cut.mid (Some change) ys next) was refl (sym (quiet-cut p.me cut.last cut.mid (Some change) ys next change refl))
        by (InQuestion was) = cut-in_question Next p.me snap.Asked old (issued_by_prune x ep) finds (issued_for x ep g) (snap.Settling g cut.last) cut.mid [] [] (settled-comes cut.last cut.mid cut.reached) was refl refl

  -- ---- it is pruned

  module _ (old : Kept) (d : Durable) (h k : State) (new : Option Durable) (finds : Durable → Type 0) (lines : List Line) (came : HasCome Next p.me snap.Asked old (snap.Settling g []) (kept d h) []) where
    pub pruned-comes : PrunesSo p c g number d h new k lines → (y : Durable) × (new ≡ Some y) × HasCome Next p.me snap.Asked old (snap.Pruned g lines) (kept y k) lines
    pruned-comes (IsDue due shown did) = (
      pruned c (prune_limit c g d) number d,
      did.kept_is,
      subst (λ ls. HasCome Next p.me snap.Asked old (snap.Pruned g ls) (kept (pruned c (prune_limit c g d) number d) k) ls) (sym shown)
          (comes-change Next p.me snap.Asked old (snap.Settling g []) (kept d h) [] (prune_lines p c g number d) (Prunes c (prune_limit c g d) number) (snap.Pruned g (prune_lines p c g number d)) (kept (pruned c (prune_limit c g d) number d) k) came
          (snap.PrunesIt (kept d h) g due) refl did.free refl),
    )
    pruned-comes (IsNotDue due none stays) = (
      d,
      stays.kept_is,
      subst (λ ls. HasCome Next p.me snap.Asked old (snap.Pruned g ls) (kept d k) ls) (sym none)
          (comes-stays Next p.me snap.Asked old (snap.Pruned g []) [] d h k new stays (comes-silent Next p.me snap.Asked old (snap.Settling g []) (kept d h) [] (snap.Pruned g []) came (snap.PassesBy (kept d h) g due))),
    )

    -- or that was cut
    pub pruned-cut : PruneCut p c g number d h k finds lines → IsCutWith Next (issued_by_prune x ep) p.me snap.Asked old (left_by k finds) (issued_for x ep g) lines
    pruned-cut cut =
        cut-in_change Next p.me snap.Asked old (issued_by_prune x ep) (left_by k finds) (issued_for x ep g) (snap.Settling g []) (kept d h) [] lines (Prunes c (prune_limit c g d) number) (snap.Pruned g (prune_lines p c g number d)) came
        (snap.PrunesIt (kept d h) g cut.due) cut.cut refl cut.shown

-- ---- whether it is due

pub is-due : (c : ContId) (g : Epoch) (d : Durable) (limit aggregated : Epoch) → limit ≡ prune_limit c g d → aggregated ≡ (row_of d c).aggregated → aggregated.0 < limit.0 → is_prune_due c g d ≡ true
is-due c g d limit aggregated is kept_so lt =
    ap (λ (a : Epoch). nat_lt a.0 (prune_limit c g d).0) (sym kept_so) ∙ ap (λ (l : Epoch). nat_lt aggregated.0 l.0) (sym is) ∙ grind (arith, nat_tests)

pub isnt-due : (c : ContId) (g : Epoch) (d : Durable) (limit aggregated : Epoch) → limit ≡ prune_limit c g d → aggregated ≡ (row_of d c).aggregated → limit.0 ≤ aggregated.0 → is_prune_due c g d ≡ false
isnt-due c g d limit aggregated is kept_so le =
    ap (λ (a : Epoch). nat_lt a.0 (prune_limit c g d).0) (sym kept_so) ∙ ap (λ (l : Epoch). nat_lt aggregated.0 l.0) (sym is) ∙ grind (arith, nat_tests)
