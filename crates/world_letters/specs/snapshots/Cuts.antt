-- The lines of turns that were cut come of attempts too.
use Rattle.std.specs.Prelude.{ℕ, ◌≡◌, ◌⊎◌, Bool, false, List, [], ◌∷◌, ◌++◌, Option, Some, None, refl}
use Rattle.std.proofs.Common.{append-nil, sym, ◌∙◌, ap, subst, inl, inr}
use Rattle.base_types.specs.declared.epoch.Epoch.{Epoch}
use Rattle.base_types.specs.declared.id.AttemptId.{AttemptId}
use Rattle.base_types.specs.declared.id.ContId.{ContId}
use Rattle.base_types.specs.declared.outcome.FloorWhy.{FloorWhy}
use Rattle.base_types.specs.declared.report.Line.{Line}
use Rattle.base_types.specs.declared.report.Line.TheVariants as line
use Rattle.base_messages.specs.declared.actor.ActorId.{ActorId}
use Rattle.base_messages.specs.declared.message.Message.{Message}
use Rattle.base_messages.specs.declared.message.Message.TheVariants as message
use Rattle.world_base.specs.model_laws.Members.{Has}
use Rattle.daos_model.specs.declared.durable.Durable.{Durable}
use Rattle.world_base.specs.declared.request.CommitRequest.{CommitRequest}
use Rattle.world_base.specs.declared.target.TargetMemory.{TargetMemory}
use Rattle.world_base.specs.declared.target.TargetPlan.{TargetPlan}
use Rattle.world_base.specs.Changes.{Change, Kept}
use Rattle.world_base.specs.CutTurns.{CommitIsCut, CutHere, CutTurn, Cutting, HearingIsCut, IdleWorkIsCut, InChange, InQuestion, NoneIsDown, OneIsDown, cut_line, issued_by_freeze, issued_by_prune, lines_of}
use Rattle.world_base.specs.Events.{Rules}
use Rattle.world_base.specs.Roles.{told_by}
use Rattle.world_base.specs.Snapshots as snap
use Rattle.world_base.specs.Statuses.{status_refusal}
use Rattle.world_base.specs.TargetTurns.{commit_request, fetch_request, prepare_request}
use Rattle.world_base.specs.TurnLaws.{ack-plain, commit-plain, fetch-plain, idle-plain, mark-plain, marked-plain, prepare-plain, verdict-plain}
use Rattle.world_letters.specs.lives.CutLines.{answers-plain, cut-right, held-step, looks-plain, path-said, plain-none, unstored-plain}
use Rattle.world_letters.specs.snapshots.Further.{freezes-come, prunes-come}
use Rattle.world_letters.specs.snapshots.Makings.{ComesOf, IsAggregationOf, IsSnapIn, IsSo}
use Rattle.world_letters.specs.snapshots.Stages.{FrozenSo, IsIts, PrunedSo, PrunesUpTo, frozen-step, limit-low, pruned-step}

-- what comes of lines that aren't there
none-come : (r : Rules) (is : List (AttemptId × Epoch)) (ls : List Line) → ls ≡ [] → (l : Line) → Has l ls → ComesOf r is l
none-come r is ls none l i = absurd (subst (Has l) none i)

-- the line of a change that was cut, if one was
abbrev line-of : ℕ → Option Change → List Line
line-of t None = []
line-of t (Some d) = cut_line t d

module _ (p : TargetPlan) (m : TargetMemory) (reading : ℕ) (tracker : Epoch) (ep : Option Epoch) (c : ContId) where
  -- ---- a freeze

  freeze-line : (alone : Bool) (s : snap.FreezeStage) (k : Kept) (o : Option Change) (u : snap.FreezeStage) → snap.FreezeNext p m reading tracker ep c alone s k o u → line-of p.me o ≡ []
  freeze-line alone s k o u (snap.HasEpoch k2 e is) = refl
  freeze-line alone s k o u (snap.ExtendsLease k2 e lease low is) = refl
  freeze-line alone s k o u (snap.IsCovered k2 e low) = refl
  freeze-line alone s k o u (snap.FreezesIt k2 e free unfrozen) = refl
  freeze-line alone s k o u (snap.IsFrozen k2 e free frozen) = refl
  freeze-line alone s k o u (snap.CreatesIt k2 e told only) = refl

  freeze-here : (alone : Bool) (last : snap.FreezeStage) (mid left : Kept) (lines : List Line) → CutHere (snap.FreezeNext p m reading tracker ep c alone) p.me last mid left lines → lines ≡ []
  freeze-here alone last mid left lines (InChange d next is cut free) = freeze-line alone last mid (Some d) next is
  freeze-here alone last mid left lines (InQuestion same free) = refl

  -- the stage that was reached, and its lines
  pub frozen-cut : (alone : Bool) (issues : snap.FreezeStage → List (AttemptId × Epoch)) (old : Kept) (cut : Cutting) (g : CutTurn (snap.FreezeNext p m reading tracker ep c alone) issues p.me snap.Asked old cut)
      → FrozenSo p m reading tracker ep c g.last cut.lines
  frozen-cut alone issues old cut g =
      subst (FrozenSo p m reading tracker ep c g.last) (sym (g.all_lines ∙ ap (λ x. lines_of p.me g.did ++ x) (freeze-here alone g.last g.mid cut.left g.lines g.here) ∙ append-nil (lines_of p.me g.did)))
      (path-said (snap.FreezeNext p m reading tracker ep c alone) p.me (FrozenSo p m reading tracker ep c) (frozen-step p m reading tracker ep c alone) snap.Asked old g.did g.last g.mid g.path refl)

  -- ---- a prune

  module _ (number : ℕ) where
    -- where the prune was cut itself, nothing was told yet
    record PrunesIt (s : snap.PruneStage) (ls : List Line) : Type 0 where
      g : Epoch
      at : s ≡ snap.Settling g []
      d : Durable
      line : ls ≡ line.Aggregate number p.me c (snap.prune_limit c g d) ∷ []

    prune-line : (s : snap.PruneStage) (k : Kept) (o : Option Change) (u : snap.PruneStage) → snap.PruneNext p m reading tracker ep c number s k o u → (line-of p.me o ≡ []) ⊎ PrunesIt s (line-of p.me o)
    prune-line s k o u (snap.HasEpoch k2 g is) = inl refl
    prune-line s k o u (snap.ExtendsLease k2 g lease low is) = inl refl
    prune-line s k o u (snap.IsCovered k2 g low) = inl refl
    prune-line s k o u (snap.SettlesFirst k2 g a rest) = inl refl
    prune-line s k o u (snap.PrunesIt k2 g due) = inr (record { g = g; at = refl; d = k.durable; line = refl })
    prune-line s k o u (snap.PassesBy k2 g due) = inl refl

    prune-here : (last : snap.PruneStage) (mid left : Kept) (lines : List Line) → CutHere (snap.PruneNext p m reading tracker ep c number) p.me last mid left lines → (lines ≡ []) ⊎ PrunesIt last lines
    prune-here last mid left lines (InChange d next is cut free) = prune-line last mid (Some d) next is
    prune-here last mid left lines (InQuestion same free) = inl refl

    -- what holds of the stage that was reached, and of all lines
    abbrev pub PrunedBy : snap.PruneStage → List Line → Type 0
    PrunedBy snap.Asked ls = ls ≡ []
    PrunedBy (snap.Known g) ls = ls ≡ []
    PrunedBy (snap.Settling g decided) ls = IsIts p m reading tracker ep c g × PrunesUpTo p.me number c g ls
    PrunedBy (snap.Pruned g told) ls = IsIts p m reading tracker ep c g × PrunesUpTo p.me number c g ls

    by-stage : (s : snap.PruneStage) (ls : List Line) → PrunedSo p m reading tracker ep c number s ls → PrunedBy s ls
    by-stage snap.Asked ls h = h
    by-stage (snap.Known g) ls h = h.1
    by-stage (snap.Settling g decided) ls h = (h.0, inl h.1)
    by-stage (snap.Pruned g told) ls h = (h.0, h.2)

    pub pruned-cut : (issues : snap.PruneStage → List (AttemptId × Epoch)) (old : Kept) (cut : Cutting) (g : CutTurn (snap.PruneNext p m reading tracker ep c number) issues p.me snap.Asked old cut) → PrunedBy g.last cut.lines
    pruned-cut issues old cut g = subst (PrunedBy g.last) (sym g.all_lines) (by g.last g.lines (lines_of p.me g.did) so (prune-here g.last g.mid cut.left g.lines g.here))
      where
        so : PrunedSo p m reading tracker ep c number g.last (lines_of p.me g.did)
        so = path-said (snap.PruneNext p m reading tracker ep c number) p.me (PrunedSo p m reading tracker ep c number) (pruned-step p m reading tracker ep c number) snap.Asked old g.did g.last g.mid g.path refl

        by : (s : snap.PruneStage) (lines ls : List Line) → PrunedSo p m reading tracker ep c number s ls → (lines ≡ []) ⊎ PrunesIt s lines → PrunedBy s (ls ++ lines)
        by s lines ls h (inl none) = subst (PrunedBy s) (sym (ap (λ x. ls ++ x) none ∙ append-nil ls)) (by-stage s ls h)
        by s lines ls h (inr it) = subst (λ z. PrunedBy z (ls ++ lines)) (sym it.at) (settling it.g it.d it.line (subst (λ z. PrunedSo p m reading tracker ep c number z ls) it.at h))
          where
            settling : (e : Epoch) (d : Durable) → lines ≡ line.Aggregate number p.me c (snap.prune_limit c e d) ∷ [] → IsIts p m reading tracker ep c e × (ls ≡ []) → IsIts p m reading tracker ep c e × PrunesUpTo p.me number c e (ls ++ lines)
            settling e d one so' = (so'.0, inr (snap.prune_limit c e d, limit-low c e d, ap (λ x. x ++ lines) so'.1 ∙ one))

-- ---- every kind of turn

module _ (r : Rules) (is : List (AttemptId × Epoch)) (t : TargetPlan) (opening : Epoch × FloorWhy) (m : TargetMemory) (reading : ℕ) (from : ActorId) (old : Kept) (cut : Cutting) (issued : (x : AttemptId) (e : Epoch) → Has (x, e) cut.issued → Has (x, e) is) (number : ℕ) where
  abbrev Comes : Type 0
  Comes = (l : Line) → Has l cut.lines → ComesOf r is l

  none-told : cut.lines ≡ [] → Comes
  none-told none = none-come r is cut.lines none

  its-own : (x : AttemptId) (e : Epoch) → cut.issued ≡ (x, e) ∷ [] → Has (x, e) is
  its-own x e one = issued x e (subst (Has (x, e)) (sym one) (inl refl))

  snap-cut : (x : AttemptId) (c : ContId) (tracker : Epoch) (alone : Bool) → IsSnapIn r x c → CutTurn (snap.FreezeNext t m reading tracker None c alone) (issued_by_freeze x None) t.me snap.Asked old cut → Comes
  snap-cut x c tracker alone made g = by g.last (frozen-cut t m reading tracker None c alone (issued_by_freeze x None) old cut g) g.issued
    where
      by : (s : snap.FreezeStage) → FrozenSo t m reading tracker None c s cut.lines → cut.issued ≡ issued_by_freeze x None s → (l : Line) → Has l cut.lines → ComesOf r is l
      by snap.Asked h one = none-come r is cut.lines h
      by (snap.Known s) h one = none-come r is cut.lines h.1
      by (snap.Freezing s) h one = none-come r is cut.lines h.1
      by (snap.Frozen s told) h one = freezes-come r is t.me c x s cut.lines (its-own x s one) made h.2
      by (snap.Created s told) h one = freezes-come r is t.me c x s cut.lines (its-own x s one) made h.2

  freeze-cut : (x : AttemptId) (c : ContId) (asked : Epoch) → Has (x, asked) is → IsSnapIn r x c → CutTurn (snap.FreezeNext t m reading asked (Some asked) c false) (issued_by_freeze x (Some asked)) t.me snap.Asked old cut → Comes
  freeze-cut x c asked has made g = by g.last (frozen-cut t m reading asked (Some asked) c false (issued_by_freeze x (Some asked)) old cut g)
    where
      at : (s : Epoch) → Some asked ≡ Some s → Has (x, s) is
      at s its = let same : asked ≡ s = cc in subst (λ z. Has (x, z) is) same has

      by : (s : snap.FreezeStage) → FrozenSo t m reading asked (Some asked) c s cut.lines → (l : Line) → Has l cut.lines → ComesOf r is l
      by snap.Asked h = none-come r is cut.lines h
      by (snap.Known s) h = none-come r is cut.lines h.1
      by (snap.Freezing s) h = none-come r is cut.lines h.1
      by (snap.Frozen s told) h = freezes-come r is t.me c x s cut.lines (at s h.0) made h.2
      by (snap.Created s told) h = freezes-come r is t.me c x s cut.lines (at s h.0) made h.2

  aggregate-cut : (x : AttemptId) (c : ContId) (tracker : Epoch) → IsAggregationOf r x c → CutTurn (snap.PruneNext t m reading tracker None c number) (issued_by_prune x None) t.me snap.Asked old cut → Comes
  aggregate-cut x c tracker made g = by g.last (pruned-cut t m reading tracker None c number (issued_by_prune x None) old cut g) g.issued
    where
      by : (s : snap.PruneStage) → PrunedBy t m reading tracker None c number s cut.lines → cut.issued ≡ issued_by_prune x None s → (l : Line) → Has l cut.lines → ComesOf r is l
      by snap.Asked h one = none-come r is cut.lines h
      by (snap.Known e) h one = none-come r is cut.lines h
      by (snap.Settling e decided) h one = prunes-come r is t.me number c x e cut.lines (its-own x e one) made h.1
      by (snap.Pruned e told) h one = prunes-come r is t.me number c x e cut.lines (its-own x e one) made h.1

  prune-cut : (x : AttemptId) (c : ContId) (asked : Epoch) → Has (x, asked) is → IsAggregationOf r x c → CutTurn (snap.PruneNext t m reading asked (Some asked) c number) (issued_by_prune x (Some asked)) t.me snap.Asked old cut → Comes
  prune-cut x c asked has made g = by g.last (pruned-cut t m reading asked (Some asked) c number (issued_by_prune x (Some asked)) old cut g)
    where
      at : (s : Epoch) → Some asked ≡ Some s → Has (x, s) is
      at s its = let same : asked ≡ s = cc in subst (λ z. Has (x, z) is) same has

      by : (s : snap.PruneStage) → PrunedBy t m reading asked (Some asked) c number s cut.lines → (l : Line) → Has l cut.lines → ComesOf r is l
      by snap.Asked h = none-come r is cut.lines h
      by (snap.Known e) h = none-come r is cut.lines h
      by (snap.Settling e decided) h = prunes-come r is t.me number c x e cut.lines (at e h.0) made h.1
      by (snap.Pruned e told) h = prunes-come r is t.me number c x e cut.lines (at e h.0) made h.1

  commit-cut : (q : CommitRequest) → CommitIsCut t opening m reading q old cut → cut.lines ≡ []
  commit-cut q (NoneIsDown none g) = plain-none _ _ _ _ old cut (commit-plain t opening m reading q) g
  commit-cut q (OneIsDown e down is' g) = plain-none _ _ _ _ old cut (unstored-plain t opening m reading q) g

  pub cut-comes : (is_due : AttemptId → Durable → Bool) (q : Message) → IsSo r is q → HearingIsCut is_due number t opening m reading from q old cut → (l : Line) → Has l cut.lines → ComesOf r is l
  cut-comes is_due (message.Fetch x op group ep first tracker rd snapshot) so g = none-told (plain-none _ _ _ _ old cut (fetch-plain t m reading (fetch_request x op group ep first tracker rd snapshot)) g)
  cut-comes is_due (message.Commit x ep first tracker ws) so g = none-told (commit-cut (commit_request x ep first tracker ws) g)
  cut-comes is_due (message.Prepare e first ws inc) so g = none-told (plain-none _ _ _ _ old cut (prepare-plain t opening m (prepare_request e first ws inc)) g)
  cut-comes is_due (message.Ack x inc refusal) so g = none-told (plain-none _ _ _ _ old cut (ack-plain t m from.number x inc refusal) g)
  cut-comes is_due (message.StatusIs x inc how) so g = none-told (plain-none _ _ _ _ old cut (ack-plain t m from.number x inc (status_refusal x how)) g)
  cut-comes is_due (message.Mark inc marks) so g = none-told (plain-none _ _ _ _ old cut (mark-plain is_due) g)
  cut-comes is_due (message.Marked inc ids) so g = none-told (plain-none _ _ _ _ old cut (marked-plain t m from.number) g)
  cut-comes is_due (message.Verdict x ask inc v) so g = none-told (plain-none _ _ _ _ old cut (verdict-plain is_due t (told_by v x m) reading x ask v) g)
  cut-comes is_due (message.Snap x c name tracker) so g = snap-cut x c tracker (snap.is_held_by_all t 0) (name, so) g
  cut-comes is_due (message.Freeze x c s) so g = freeze-cut x c s so.0 so.1 g
  cut-comes is_due (message.Held x refusal) so g =
      none-told (cut-right (snap.HeldNext t m from.number x refusal) _ t.me (λ s ls. ls ≡ []) (λ ls. ls ≡ []) (held-step t m from.number x refusal) (λ s ls h. h) snap.Heard old cut g refl)
  cut-comes is_due (message.Prune x c (Some tracker) None) so g = aggregate-cut x c tracker so g
  cut-comes is_due (message.Prune x c None (Some e)) so g = prune-cut x c e so.0 so.1 g
  cut-comes is_due (message.Query x ask) so g = none-told (plain-none _ _ _ _ old cut answers-plain g)
  cut-comes is_due (message.Ask x) so g = none-told (plain-none _ _ _ _ old cut looks-plain g)
  cut-comes is_due (message.Status x inc) so g = none-told (plain-none _ _ _ _ old cut looks-plain g)
  cut-comes is_due (message.Reset' by down place asked) so g = none-told (plain-none _ _ _ _ old cut looks-plain g)
  cut-comes is_due q so g = absurd g

  pub idle-comes : IdleWorkIsCut t.me m old cut → (l : Line) → Has l cut.lines → ComesOf r is l
  idle-comes g = none-told (plain-none _ _ _ _ old cut idle-plain g)
