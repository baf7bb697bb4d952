-- A turn that is cut keeps what is stored once; what it was about to store counts as stored.
use Rattle.std.specs.Prelude.{ℕ, ◌≡◌, ◌++◌, ◌⊎◌, ◌||◌, Bool, true, false, List, [], ◌∷◌, filter, Contains, Option, Some, None, refl}
use Rattle.std.proofs.Common.{inl, inr, sym, ◌∙◌, ap, subst}
use Rattle.std.proofs.lemmas.List.Elements.{Contains-append_left}
use Rattle.base_types.specs.declared.epoch.Epoch.{Epoch}
use Rattle.base_types.specs.declared.id.AttemptId.{AttemptId}
use Rattle.base_types.specs.declared.outcome.FloorWhy.{FloorWhy}
use Rattle.base_types.specs.declared.report.Line.{Line}
use Rattle.base_messages.specs.declared.message.Message.{Message}
use Rattle.base_messages.specs.declared.message.Message.TheVariants as message
use Rattle.model_laws.specs.Members.{contains-from_has, has-cases, has-from_contains, has-from_filter, has-right}
use Rattle.daos_model.specs.Attempts.{tries}
use Rattle.daos_model.specs.BoolLaws.{clash}
use Rattle.daos_model.specs.Laws.{tries-append}
use Rattle.world_contents.specs.world_commit.attempts.Attempts.{IsBorn}
use Rattle.world_contents.specs.world_commit.attempts.History.{History}
use Rattle.world_base.specs.declared.letter.Letter.{Letter}
use Rattle.world_base.specs.declared.request.CommitRequest.{CommitRequest}
use Rattle.world_base.specs.declared.target.TargetMemory.{TargetMemory}
use Rattle.world_base.specs.declared.target.TargetPlan.{TargetPlan}
use Rattle.world_base.specs.declared.world.World.{World}
use Rattle.world_base.specs.Acks as ack
use Rattle.world_base.specs.Changes.{Change, Creates, Extends, Freezes, Kept, Prepares, Prunes, Settles}
use Rattle.world_base.specs.Commits as commit
use Rattle.world_base.specs.CutTurns.{CommitIsCut, CutHere, CutTurn, Cutting, HearingIsCut, InChange, InQuestion, NoneIsDown, OneIsDown, UnstoredNext, cut_line, is_stored, issued_by_commit, issued_by_fetch, issued_by_freeze, issued_by_prune, line_of, lines_of, listed_issue, none_issued}
use Rattle.world_base.specs.Events.{Rules, kept, target_plan}
use Rattle.world_base.specs.Idle.{IdleNext}
use Rattle.world_base.specs.Letters.{target}
use Rattle.world_base.specs.Marks as mark
use Rattle.world_base.specs.Prepares as prepare
use Rattle.world_base.specs.Reads as read
use Rattle.world_base.specs.Requests.{issued_for}
use Rattle.world_base.specs.Roles.{is_prepared, told_by}
use Rattle.world_base.specs.Snapshots as snap
use Rattle.world_base.specs.Statuses.{Looking, NoChange, status_refusal}
use Rattle.world_base.specs.Stops.{AtWork, CutOf, Hearing, IdleWork, IsInHand, TargetCut, is_not_to, is_to, resets}
use Rattle.world_base.specs.TargetTurns.{commit_request, fetch_request, prepare_request}
use Rattle.world_base.specs.Verdicts as verdict
use Rattle.world_causes.specs.outcomes.Outcomes.{IsHandedOver}
use Rattle.world_contents.specs.world_letters.talks.Asked.{commit_of}
use Rattle.world_contents.specs.world_letters.talks.TalkLaws.{taken-is-among}
use Rattle.world_causes.specs.causes.Causes.{Stored}
use Rattle.world_causes.specs.causes.Storing.{IsAskedAt, IsPrepareOf, IsRefusedAt}
use Rattle.world_causes.specs.causes.StoreTurns.{IsCommitOf}
use Rattle.world_causes.specs.showing.Cutting.{commit_stored, hearing_stored, work_stored}
use Rattle.world_causes.specs.showing.CutTurns.{is_prepared_stage, is_store, is_store_cut, stored_if}
use Rattle.world_causes.specs.stored.Over.{IsStoringKnown, StoringOver}
use Rattle.world_causes.specs.stored.Stopping.{Follows, asks-nothing, goes-there, late-keeps, refused-before, resets-nothing, stop-follows, stop-keeps}
use Rattle.world_causes.specs.stored.Targets.{commit-new, commit-unrefused, hands-it, prepare-born, prepare-issued}

-- ---- the lines of changes tell of no attempt

line-silent : (t : ℕ) (c : Change) → (tries (line_of t c) ≡ []) × (tries (cut_line t c) ≡ [])
unfolding tries
line-silent t (Extends ticks) = (refl, refl)
line-silent t (Prepares e ws) = (refl, refl)
line-silent t (Settles a step) = (refl, refl)
line-silent t (Freezes c s) = (refl, refl)
line-silent t (Creates c s) = (refl, refl)
line-silent t (Prunes c upto n) = (refl, refl)

lines-silent : (t : ℕ) (cs : List Change) → tries (lines_of t cs) ≡ []
unfolding tries
lines-silent t [] = refl
lines-silent t (c ∷ cs) = tries-append (line_of t c) (lines_of t cs) ∙ ap (λ as'. as' ++ tries (lines_of t cs)) (line-silent t c).0 ∙ lines-silent t cs

module _ {S : Type 0} (Next : S → Kept → Option Change → S → Type 0) where
  here-silent : (t : ℕ) (last : S) (mid left : Kept) (lines : List Line) → CutHere Next t last mid left lines → tries lines ≡ []
  unfolding tries
  here-silent t last mid left lines (InChange c next is cut free) = (line-silent t c).1
  here-silent t last mid left lines (InQuestion same free) = refl

  cut-silent : (issues : S → List (AttemptId × Epoch)) (t : ℕ) (start : S) (old : Kept) (cut : Cutting) → CutTurn Next issues t start old cut → tries cut.lines ≡ []
  cut-silent issues t start old cut g = ap tries g.all_lines ∙ tries-append (lines_of t g.did) g.lines ∙ ap (λ as'. as' ++ tries g.lines) (lines-silent t g.did) ∙ here-silent t g.last g.mid cut.left g.lines g.here

-- ---- the epoch of a Commit that was cut

abbrev is_store_step : Option Change → Bool
is_store_step None = false
is_store_step (Some c) = is_store c

-- where it is given none, one was issued before it stored anything
module _ (q : CommitRequest) (t : TargetPlan) (opening : Epoch × FloorWhy) (m : TargetMemory) (reading : ℕ) (issued : List (AttemptId × Epoch)) (none : q.ep ≡ None) where
  abbrev IsIssued : Type 0
  IsIssued = (e : Epoch) × Contains issued (q.attempt, e)

  one : (e : Epoch) → issued ≡ listed_issue (issued_for q.attempt q.ep e) → IsIssued
  one e k = (e, subst (λ is'. Contains is' (q.attempt, e)) (sym (k ∙ ap (λ o. listed_issue (issued_for q.attempt o e)) none)) (contains-from_has ((q.attempt, e) ∷ []) (q.attempt, e) (inl refl)))

  in-change : (a : commit.CommitStage) (k : Kept) (o : Option Change) (u : commit.CommitStage) → commit.CommitNext t opening m reading q a k o u → (is_stored a || is_store_step o) ≡ true → issued ≡ issued_by_commit q a → IsIssued
  in-change a k o u (commit.HasEpoch j e is) on are = let no : ⊥ = cc in absurd no
  in-change a k o u (commit.ExtendsLease j e lease low is) on are = let no : ⊥ = cc in absurd no
  in-change a k o u (commit.IsCovered j e low) on are = let no : ⊥ = cc in absurd no
  in-change a k o u (commit.Stores j e allowed space) on are = one e are

  in-question : (a : commit.CommitStage) → (is_stored a || false) ≡ true → issued ≡ issued_by_commit q a → IsIssued
  in-question commit.Asked on are = let no : ⊥ = cc in absurd no
  in-question (commit.Known e) on are = let no : ⊥ = cc in absurd no
  in-question (commit.Checking e) on are = let no : ⊥ = cc in absurd no
  in-question (commit.Stored e) on are = one e are

  issued-then : (n : ℕ) (last : commit.CommitStage) (mid left : Kept) (lines : List Line) (here : CutHere (commit.CommitNext t opening m reading q) n last mid left lines) → (is_stored last || is_store_cut here) ≡ true → issued ≡ issued_by_commit q last → IsIssued
  issued-then n last mid left lines (InChange c next is cut free) on are = in-change last mid (Some c) next is on are
  issued-then n last mid left lines (InQuestion same free) on are = in-question last on are

-- ---- the turn

module _ (r : Rules) (h later : History) (stored : Stored) (w v : World) (G : IsStoringKnown r h later w v) (S : StoringOver r stored w) (g : TargetCut r w v) where
  abbrev t : ℕ
  t = g.t

  follows : tries g.cut.lines ≡ [] → Follows w v
  follows none = subst (Follows w) (sym g.after) (stop-follows w t g.s g.cut none)

  nothing-more : tries g.cut.lines ≡ [] → StoringOver r stored v
  nothing-more none = stop-keeps r stored w v t g.s g.cut g.after none S

  cases : (u : ℕ) (x y : AttemptId) → Contains ((t, x) ∷ stored) (u, y) → ((u ≡ t) × (y ≡ x)) ⊎ Contains stored (u, y)
  cases u x y i = elim (has-from_contains ((t, x) ∷ stored) (u, y) i) [ inl same ↦ inl (ap (λ z. z.0) same, ap (λ z. z.1) same) | inr j ↦ inr (contains-from_has stored (u, y) j) ]

  -- one attempt more
  one-more : (x : AttemptId) (e : Epoch) → tries g.cut.lines ≡ [] → Contains v.issued (x, e) → (Contains stored (t, x) → ⊥) → (IsRefusedAt w t x → ⊥) → IsHandedOver r w.clients x → ((z : Letter) → Contains v.messages z → IsCommitOf z.message x → ⊥)
      → StoringOver r ((t, x) ∷ stored) v
  one-more x e none dated new allowed over quiet = record {
    so = late-keeps stored v t x e dated new (asks-nothing w v t g.s g.cut x g.after) (λ f. allowed (refused-before w v (follows none) t x f)) (nothing-more none).so;
    handed = λ u y i. elim (cases u x y i) [
      | inl same ↦ subst (λ n. IsHandedOver r v.clients n) (sym same.1) (subst (λ cs. IsHandedOver r cs x) (sym (follows none).clients) over)
      | inr j ↦ (nothing-more none).handed u y j
    ];
    uncommitted = λ u y l i j c. elim (cases u x y i) [ inl same ↦ quiet l j (subst (IsCommitOf l.message) same.1 c) | inr k ↦ (nothing-more none).uncommitted u y l k j c ];
  }

  perhaps : (b : Bool) (x : AttemptId) → (b ≡ true → StoringOver r ((t, x) ∷ stored) v) → StoringOver r stored v → StoringOver r (stored_if b t x ++ stored) v
  perhaps true x f k = f refl
  perhaps false x f k = k

  -- what is in flight afterwards, and asks for something, was before, and goes elsewhere
  left : (z : Letter) (x : AttemptId) → Contains v.messages z → IsCommitOf z.message x → Contains w.messages z × ((z.to ≡ target t) → ⊥)
  left z x i c = elim (has-cases (filter (is_not_to t) w.messages) (resets t false w.asked) z (has-from_contains (filter (is_not_to t) w.messages ++ resets t false w.asked) z (subst (λ y. Contains y.messages z) g.after i))) [
    | inl j ↦ (let k = has-from_filter (is_not_to t) w.messages z j in (contains-from_has w.messages z k.0, λ to. clash (is_not_to t z) k.1 (goes-there z t to)))
    | inr j ↦ absurd ((resets-nothing false (filter (is_to t) w.asked) z j).2 x c)
  ]

  module _ (l : Letter) (i : Contains w.messages l) (to_it : l.to ≡ target t) (number reading : ℕ) where
    -- a Commit
    commit-dated : (q : CommitRequest) → l.message ≡ commit_of q → (o : Option Epoch) → q.ep ≡ o → (o ≡ None → (e : Epoch) × Contains g.cut.issued (q.attempt, e)) → (e : Epoch) × Contains v.issued (q.attempt, e)
    commit-dated q is (Some own) ep new =
        let k = G.asked.commits l q.attempt q.ep q.first q.tracker q.writes (has-from_contains w.messages l i) is in
        (own, subst (λ y. Contains y.issued (q.attempt, own)) (sym g.after) (Contains-append_left w.issued g.cut.issued (q.attempt, own) (contains-from_has w.issued (q.attempt, own) (k.own own ep))))
    commit-dated q is None ep new =
        let k = new refl in
        (k.0, subst (λ y. Contains y.issued (q.attempt, k.0)) (sym g.after) (contains-from_has (w.issued ++ g.cut.issued) (q.attempt, k.0) (has-right w.issued g.cut.issued (q.attempt, k.0) (has-from_contains g.cut.issued (q.attempt, k.0) k.1))))

    commit-over : (q : CommitRequest) → l.message ≡ commit_of q → (u : CommitIsCut (target_plan r t) g.s.opening g.s.memory reading q (kept g.s) g.cut) → StoringOver r (commit_stored (target_plan r t) g.s.opening g.s.memory reading q (kept g.s) g.cut u ++ stored) v
    commit-over q is (NoneIsDown up turn) = perhaps (is_stored turn.last || is_store_cut turn.here) q.attempt (λ on.
        let d = commit-dated q is q.ep refl (λ none. issued-then q (target_plan r t) g.s.opening g.s.memory reading g.cut.issued none t turn.last turn.mid g.cut.left turn.lines turn.here on turn.issued) in
        one-more q.attempt d.0 none d.1 (λ k. S.uncommitted t q.attempt l k i asks) (commit-unrefused r h later stored w v G S l q.attempt i asks t) over quiet) (nothing-more none)
      where
        none : tries g.cut.lines ≡ []
        none = cut-silent (commit.CommitNext (target_plan r t) g.s.opening g.s.memory reading q) (issued_by_commit q) t commit.Asked (kept g.s) g.cut turn

        asks : IsCommitOf l.message q.attempt
        asks = subst (λ m. IsCommitOf m q.attempt) (sym is) refl

        over : IsHandedOver r w.clients q.attempt
        over = let k = G.hands.waits l q.attempt (has-from_contains w.messages l i) (hands-it q.attempt l.message asks) in record { c = k.c; here = k.here; how = inr k.waits }

        quiet : (z : Letter) → Contains v.messages z → IsCommitOf z.message q.attempt → ⊥
        quiet z j c =
            let k = left z q.attempt j c in
            k.1 ((commit-new r h later stored w v G S z q.attempt k.0 c).0 ∙ sym (commit-new r h later stored w v G S l q.attempt i asks).0 ∙ to_it)
    commit-over q is (OneIsDown e down known turn) = nothing-more (cut-silent (UnstoredNext (target_plan r t) g.s.opening g.s.memory reading q) (issued_by_commit q) t commit.Asked (kept g.s) g.cut turn)

    -- a Prepare
    prepare-over : (b : Bool) (x : AttemptId) → tries g.cut.lines ≡ [] → IsPrepareOf l.message x → StoringOver r (stored_if b t x ++ stored) v
    prepare-over b x none p = perhaps b x (λ on. one-more x dated.0 none (subst (λ y. Contains y.issued (x, dated.0)) (sym g.after) (Contains-append_left w.issued g.cut.issued (x, dated.0) dated.1)) (S.so.asked t x asked)
        (λ f. (S.so.refused t x f).1 asked) (G.handed x born) quiet) (nothing-more none)
      where
        asked : IsAskedAt w t x
        asked = record { l = l; among = i; to = to_it; its = p }

        born : IsBorn r h w x
        born = prepare-born r h w l G.attempts x i p

        dated : (e : Epoch) × Contains w.issued (x, e)
        dated = prepare-issued r h w l G.attempts x i p

        quiet : (z : Letter) → Contains v.messages z → IsCommitOf z.message x → ⊥
        quiet z j c = (commit-new r h later stored w v G S z x (left z x j c).0 c).1 born

    -- whatever was heard
    hearing-over : (m : Message) → l.message ≡ m → (u : HearingIsCut is_prepared number (target_plan r t) g.s.opening g.s.memory reading l.from m (kept g.s) g.cut)
        → StoringOver r (hearing_stored number (target_plan r t) g.s.opening g.s.memory reading l.from m (kept g.s) g.cut u ++ stored) v
    hearing-over (message.Fetch x op group ep first tracker y snapshot) is u =
        nothing-more (cut-silent (read.FetchNext (target_plan r t) g.s.memory reading (fetch_request x op group ep first tracker y snapshot)) (issued_by_fetch (fetch_request x op group ep first tracker y snapshot)) t read.Asked (kept g.s) g.cut u)
    hearing-over (message.Commit x ep first tracker ws) is u = commit-over (commit_request x ep first tracker ws) is u
    hearing-over (message.Prepare e first ws inc) is u =
        prepare-over (is_prepared_stage u.last || is_store_cut u.here) e.attempt (cut-silent (prepare.PrepareNext (target_plan r t) g.s.opening g.s.memory (prepare_request e first ws inc)) none_issued t prepare.Heard (kept g.s) g.cut u)
        (subst (λ m. IsPrepareOf m e.attempt) (sym is) refl)
    hearing-over (message.Ack x inc refusal) is u = nothing-more (cut-silent (ack.AckNext (target_plan r t) g.s.memory l.from.number x inc refusal) none_issued t ack.Heard (kept g.s) g.cut u)
    hearing-over (message.StatusIs x inc how) is u = nothing-more (cut-silent (ack.AckNext (target_plan r t) g.s.memory l.from.number x inc (status_refusal x how)) none_issued t ack.Heard (kept g.s) g.cut u)
    hearing-over (message.Mark inc marks) is u = nothing-more (cut-silent (mark.MarkNext is_prepared) none_issued t marks (kept g.s) g.cut u)
    hearing-over (message.Marked inc ids) is u = nothing-more (cut-silent (ack.MarkedNext (target_plan r t) g.s.memory l.from.number) none_issued t (ack.to_confirm inc ids g.s.durable) (kept g.s) g.cut u)
    hearing-over (message.Verdict x ask inc y) is u =
        nothing-more (cut-silent (verdict.VerdictNext is_prepared (target_plan r t) (told_by y x g.s.memory) reading x ask y) none_issued t verdict.Heard (kept g.s) g.cut u)
    hearing-over (message.Query x ask) is u = nothing-more (cut-silent verdict.QueryNext none_issued t verdict.IsAsked (kept g.s) g.cut u)
    hearing-over (message.Ask x) is u = nothing-more (cut-silent NoChange none_issued t Looking (kept g.s) g.cut u)
    hearing-over (message.Status x inc) is u = nothing-more (cut-silent NoChange none_issued t Looking (kept g.s) g.cut u)
    hearing-over (message.Reset' by down place asked) is u = nothing-more (cut-silent NoChange none_issued t Looking (kept g.s) g.cut u)
    hearing-over (message.Snap x c name tracker) is u =
        nothing-more (cut-silent (snap.FreezeNext (target_plan r t) g.s.memory reading tracker None c (snap.is_held_by_all (target_plan r t) 0)) (issued_by_freeze x None) t snap.Asked (kept g.s) g.cut u)
    hearing-over (message.Freeze x c s) is u = nothing-more (cut-silent (snap.FreezeNext (target_plan r t) g.s.memory reading s (Some s) c false) (issued_by_freeze x (Some s)) t snap.Asked (kept g.s) g.cut u)
    hearing-over (message.Held x refusal) is u = nothing-more (cut-silent (snap.HeldNext (target_plan r t) g.s.memory l.from.number x refusal) none_issued t snap.Heard (kept g.s) g.cut u)
    hearing-over (message.Prune x c (Some tracker) None) is u = nothing-more (cut-silent (snap.PruneNext (target_plan r t) g.s.memory reading tracker None c number) (issued_by_prune x None) t snap.Asked (kept g.s) g.cut u)
    hearing-over (message.Prune x c None (Some e)) is u = nothing-more (cut-silent (snap.PruneNext (target_plan r t) g.s.memory reading e (Some e) c number) (issued_by_prune x (Some e)) t snap.Asked (kept g.s) g.cut u)
    hearing-over m is u = absurd u

  pub cut-over : StoringOver r (work_stored (target_plan r g.t) g.s g.work g.cut g.turn ++ stored) v
  cut-over = by g.work g.in_hand g.turn
    where
      by : (work : AtWork) → IsInHand w t work → (turn : CutOf (target_plan r t) g.s work g.cut) → StoringOver r (work_stored (target_plan r t) g.s work g.cut turn ++ stored) v
      by (Hearing l reading number) hand turn = hearing-over l (taken-is-among w.messages l hand.0.0 hand.0.1) hand.1 number reading l.message refl turn
      by IdleWork hand turn = nothing-more (cut-silent IdleNext none_issued t g.s.memory.leader.decided (kept g.s) g.cut turn)
