-- Turns whose changes may have lines, in parts: steps follow one another to an ending, or to where the turn was cut.
use Rattle.std.proofs.Common.{ℕ, ◌≡◌, ◌≤◌, ◌<◌, ◌+◌, refl, sym, ◌∙◌, ap, subst, List, [], ◌∷◌, ◌++◌, Option, Some, None, Result, Ok, Err, append-nil, append_assoc}
use Rattle.std.specs.Prelude.{IfOk, IfErr}
use Rattle.base_types.specs.declared.epoch.Epoch.{Epoch}
use Rattle.base_types.specs.declared.id.AttemptId.{AttemptId}
use Rattle.base_types.specs.declared.report.Line.{Line}
use Rattle.base_types.specs.Epochs.{lease_for}
use Rattle.daos_model.specs.declared.durable.Durable.{Durable}
use Rattle.daos_model.specs.Changes.{leased}
use Rattle.vos_store.specs.Calls.{State}
use Rattle.world_base.specs.declared.did.Did.{Did as DidOf}
use Rattle.world_base.specs.Changes.{Change, Extends, Kept, cost, made}
use Rattle.world_base.specs.CutTurns as cut
use Rattle.world_base.specs.CutTurns.{CutTurn, cut_line, line_of, lines_of, listed_issue}
use Rattle.world_base.specs.Turns.{Here, More, Whole}
use Rattle.target_parts.specs.declared.stop.TargetStop.{TargetStop}
use Rattle.target_parts.specs.declared.stop.TargetStop.TheVariants as stop
use Rattle.target_parts.specs.Covers.{CoverCut, Covers, DidCover, WasExtended}
use Rattle.target_parts.specs.Parts.{Partway, Stays, WasAsked, WasCut, kept, left_by}
use Rattle.target_parts.specs.Readying.{lease_covers}
use Rattle.target_parts.specs.Stops.{stop_memory}
use Rattle.target_snaps.specs.Lined.{HasCome, IsCutWith, LinedTurn}

pub lines-both : (t : ℕ) (a b : List Change) → lines_of t (a ++ b) ≡ lines_of t a ++ lines_of t b
lines-both t [] b = refl
lines-both t (c ∷ cs) b = ap (λ x. line_of t c ++ x) (lines-both t cs b) ∙ sym (append_assoc (line_of t c) (lines_of t cs) (lines_of t b))

module _ {S : Type 0} (Next : S → Kept → Option Change → S → Type 0) (t : ℕ) (start : S) (old : Kept) where
  -- ---- steps

  pub comes-here : HasCome Next t start old start old []
  comes-here = record { did = []; path = Here; lines_are = refl }

  pub comes-silent : (last : S) (mid : Kept) (ls : List Line) (u : S) → HasCome Next t start old last mid ls → Next last mid None u → HasCome Next t start old u mid ls
  comes-silent last mid ls u r n = record { did = r.did ++ []; path = More r.did last mid None u mid r.path n refl; lines_are = ap (lines_of t) (append-nil r.did) ∙ r.lines_are }

  pub comes-change : (last : S) (mid : Kept) (ls ms : List Line) (c : Change) (u : S) (m : Kept) → HasCome Next t start old last mid ls → Next last mid (Some c) u → m.durable ≡ made c mid.durable → mid.free ≤ m.free + cost c
      → ls ++ line_of t c ≡ ms → HasCome Next t start old u m ms
  comes-change last mid ls ms c u m r n is free all = record {
    did = r.did ++ c ∷ [];
    path = More r.did last mid (Some c) u m r.path n (is, free);
    lines_are = lines-both t r.did (c ∷ []) ∙ ap (λ x. x ++ (line_of t c ++ [])) r.lines_are ∙ ap (λ x. ls ++ x) (append-nil (line_of t c)) ∙ all;
  }

  -- where nothing was changed, a turn came as far
  pub comes-stays : (last : S) (ls : List Line) (d : Durable) (h k : State) (new : Option Durable) → Stays d h new k → HasCome Next t start old last (kept d h) ls → HasCome Next t start old last (kept d k) ls
  comes-stays last ls d h k new s r = subst (λ f. HasCome Next t start old last (record { durable = d; free = f }) ls) (sym s.free) r

  -- ---- endings

  pub comes-whole : {R : Type 0} (Ends : S → Kept → R → Type 0) (last : S) (new : Kept) (ls : List Line) (left : R) → HasCome Next t start old last new ls → Ends last new left → Whole Next Ends start old new left
  comes-whole Ends last new ls left r ends = record { last = last; reached = record { did = r.did; path = r.path }; ends = ends }

  pub comes-partway : (last : S) (mid : Kept) (ls : List Line) → HasCome Next t start old last mid ls → Partway Next start old mid
  comes-partway last mid ls r = record { last = last; reached = record { did = r.did; path = r.path } }

  -- a turn comes to its end, of which what follows is told, or memory is wanting for that
  pub lined-told : {R : Type 0} (issues : S → List (AttemptId × Epoch)) (Ends : S → Kept → R → Type 0) (ending : DidOf → R) (last : S) (d : Durable) (k : State) (new : Option Durable) (finds : Durable → Type 0) (ls : List Line) (r : Result DidOf TargetStop) (told : DidOf)
      → IfOk r (λ did. did ≡ told) → IfErr r (λ e. e ≡ stop_memory) → new ≡ Some d → HasCome Next t start old last (kept d k) ls → Ends last (kept d k) (ending told)
      → LinedTurn Next issues t start old (λ did l. Whole Next Ends start old l (ending did)) new k finds r
  lined-told issues Ends ending last d k new finds ls (Ok did) told ok wanting is r ends = record {
    durable = d;
    kept_is = is;
    holds = comes-whole Ends last (kept d k) ls (ending did) r (subst (λ x. Ends last (kept d k) (ending x)) (sym ok) ends);
  }
  lined-told issues Ends ending last d k new finds ls (Err e) told ok wanting is r ends =
      subst (λ x. LinedTurn Next issues t start old (λ did l. Whole Next Ends start old l (ending did)) new k finds (Err x)) (sym wanting) (record { durable = d; kept_is = is; holds = comes-partway last (kept d k) ls r })

  -- memory was wanting on the way
  pub lined-wanting : (issues : S → List (AttemptId × Epoch)) (Done : DidOf → Kept → Type 0) (last : S) (d : Durable) (k : State) (new : Option Durable) (finds : Durable → Type 0) (ls : List Line) (r : Result DidOf TargetStop)
      → r ≡ Err stop_memory → new ≡ Some d → HasCome Next t start old last (kept d k) ls → LinedTurn Next issues t start old Done new k finds r
  lined-wanting issues Done last d k new finds ls r is at came = subst (λ x. LinedTurn Next issues t start old Done new k finds x) (sym is) (record { durable = d; kept_is = at; holds = comes-partway last (kept d k) ls came })

  -- ---- cuts

  module _ (issues : S → List (AttemptId × Epoch)) (finds : Kept → Type 0) (issued : Option (AttemptId × Epoch)) where
    pub cut-in_change : (last : S) (mid : Kept) (ls ms : List Line) (c : Change) (u : S) → HasCome Next t start old last mid ls → Next last mid (Some c) u → WasCut c mid finds → listed_issue issued ≡ issues last → ms ≡ ls ++ cut_line t c
        → IsCutWith Next issues t start old finds issued ms
    cut-in_change last mid ls ms c u r n was same all x found = record {
      last = last;
      mid = mid;
      did = r.did;
      path = r.path;
      lines = cut_line t c;
      here = cut.InChange c u n (was x found).0 (was x found).1;
      issued = same;
      all_lines = all ∙ ap (λ y. y ++ cut_line t c) (sym r.lines_are);
    }

    pub cut-in_question : (last : S) (mid : Kept) (ls ms : List Line) → HasCome Next t start old last mid ls → WasAsked mid finds → listed_issue issued ≡ issues last → ms ≡ ls → IsCutWith Next issues t start old finds issued ms
    cut-in_question last mid ls ms r was same all x found = record {
      last = last;
      mid = mid;
      did = r.did;
      path = r.path;
      lines = [];
      here = cut.InQuestion (was x found).0 (was x found).1;
      issued = same;
      all_lines = all ∙ sym r.lines_are ∙ sym (append-nil (lines_of t r.did));
    }

-- a turn whose store stopped is one that was cut
pub lined-cut : {S : Type 0} (Next : S → Kept → Option Change → S → Type 0) (issues : S → List (AttemptId × Epoch)) (t : ℕ) (start : S) (old : Kept) (Done : DidOf → Kept → Type 0) (new : Option Durable) (k : State) (finds : Durable → Type 0)
    (issued : Option (AttemptId × Epoch)) (lines : List Line) (r : Result DidOf TargetStop) → r ≡ Err (stop.Store issued lines) → IsCutWith Next issues t start old (left_by k finds) issued lines → LinedTurn Next issues t start old Done new k finds r
lined-cut Next issues t start old Done new k finds issued lines r is cut = subst (λ x. LinedTurn Next issues t start old Done new k finds x) (sym is) cut

-- ---- the lease covers the ticks of an epoch

module _ {S : Type 0} (Next : S → Kept → Option Change → S → Type 0) (t : ℕ) (asked known goes : S) (ticks : ℕ)
    (has : (k : Kept) → Next asked k None known)
    (extends : (k : Kept) (lease : ℕ) → k.durable.lease < ticks → lease_for ticks ≡ Some lease → Next known k (Some (Extends lease)) known)
    (covered : (k : Kept) → ticks ≤ k.durable.lease → Next known k None goes)
  where
    known-comes : (old : Kept) → HasCome Next t asked old known old []
    known-comes old = comes-silent Next t asked old asked old [] known (comes-here Next t asked old) (has old)

    -- and the turn goes on
    pub covers-comes : (d : Durable) (h : State) (new : Option Durable) (k : State) → Covers ticks d h new k → (x : Durable) → new ≡ Some x → HasCome Next t asked (kept d h) goes (kept x k) []
    unfolding leased
    covers-comes d h new k (DidCover covers is free) x at =
        let same : d ≡ x = (let both : Some d ≡ Some x = sym is ∙ at in cc) in
        subst (λ y. HasCome Next t asked (kept d h) goes (kept y k) []) same
        (comes-stays Next t asked (kept d h) goes [] d h k new (record { kept_is = is; free = free })
        (comes-silent Next t asked (kept d h) known (kept d h) [] goes (known-comes (kept d h)) (covered (kept d h) covers)))
    covers-comes d h new k (WasExtended lease low lease_is did) x at =
        let same : leased lease d ≡ x = (let both : Some (leased lease d) ≡ Some x = sym did.kept_is ∙ at in cc) in
        subst (λ y. HasCome Next t asked (kept d h) goes (kept y k) []) same
        (comes-silent Next t asked (kept d h) known (kept (leased lease d) k) [] goes
        (comes-change Next t asked (kept d h) known (kept d h) [] [] (Extends lease) known (kept (leased lease d) k) (known-comes (kept d h)) (extends (kept d h) lease low lease_is) refl did.free refl)
        (covered (kept (leased lease d) k) (lease_covers ticks lease lease_is)))

    -- extending it was cut
    pub covers-cut : (issues : S → List (AttemptId × Epoch)) (d : Durable) (h : State) (finds : Kept → Type 0) → issues known ≡ [] → CoverCut ticks d h finds → IsCutWith Next issues t asked (kept d h) finds None []
    covers-cut issues d h finds untold c =
        cut-in_change Next t asked (kept d h) issues finds None known (kept d h) [] [] (Extends c.lease) known (known-comes (kept d h)) (extends (kept d h) c.lease c.low c.lease_is) c.cut (sym untold) refl
