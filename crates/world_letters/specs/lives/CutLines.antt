-- The lines of a turn that was cut.
use Rattle.std.specs.Prelude.{ℕ, ◌≡◌, Bool, true, false, List, [], ◌∷◌, ◌++◌, Option, Some, None, refl}
use Rattle.std.proofs.Common.{append-nil, append_assoc, sym, ◌∙◌, ap, subst, inl, inr}
use Rattle.base_types.specs.declared.epoch.Epoch.{Epoch}
use Rattle.base_types.specs.declared.id.AttemptId.{AttemptId}
use Rattle.base_types.specs.declared.id.ContId.{ContId}
use Rattle.base_types.specs.declared.outcome.FloorWhy.{FloorWhy}
use Rattle.base_types.specs.declared.outcome.Outcome.{Outcome}
use Rattle.base_types.specs.declared.report.Line.{Line}
use Rattle.base_types.specs.declared.report.Line.TheVariants as line
use Rattle.base_messages.specs.declared.actor.ActorId.{ActorId}
use Rattle.base_messages.specs.declared.message.Message.{Message}
use Rattle.base_messages.specs.declared.message.Message.TheVariants as message
use Rattle.daos_model.specs.declared.durable.Durable.{Durable}
use Rattle.world_base.specs.declared.request.CommitRequest.{CommitRequest}
use Rattle.world_base.specs.declared.target.TargetMemory.{TargetMemory}
use Rattle.world_base.specs.declared.target.TargetPlan.{TargetPlan}
use Rattle.world_base.specs.Changes.{Change, Creates, Extends, Freezes, IsPlainly, Kept, Prepares, Prunes, Settles}
use Rattle.world_base.specs.Commits as commit
use Rattle.world_base.specs.CutTurns as cuts
use Rattle.world_base.specs.CutTurns.{CommitIsCut, CutHere, CutTurn, Cutting, HearingIsCut, IdleWorkIsCut, InChange, InQuestion, NoneIsDown, OneIsDown, UnstoredNext, cut_line, line_of, lines_of}
use Rattle.world_base.specs.Idle.{IdleNext}
use Rattle.world_base.specs.PathLaws.{AllPlain}
use Rattle.world_base.specs.Snapshots as snap
use Rattle.world_base.specs.Statuses.{Looks, NoChange, status_refusal}
use Rattle.world_base.specs.Stops.{is_prune_message}
use Rattle.world_base.specs.TargetTurns.{commit_request, fetch_request, prepare_request}
use Rattle.world_base.specs.TurnLaws.{ack-plain, commit-plain, fetch-plain, idle-plain, mark-plain, marked-plain, prepare-plain, verdict-plain}
use Rattle.world_base.specs.Turns.{Here, More, Path, listed}
use Rattle.world_base.specs.Roles.{told_by}
use Rattle.world_base.specs.Verdicts as verdict
use Rattle.world_letters.specs.lives.TurnLines.{AreTurnLines, IsFreezeOf, IsPruneOf, freeze-are, no-lines, prune-are}

-- ---- the lines so far

lines-append : (t : ℕ) (cs ds : List Change) → lines_of t (cs ++ ds) ≡ lines_of t cs ++ lines_of t ds
lines-append t [] ds = refl
lines-append t (c ∷ cs) ds = ap (λ ls. line_of t c ++ ls) (lines-append t cs ds) ∙ sym (append_assoc (line_of t c) (lines_of t cs) (lines_of t ds))

-- What holds of a stage of a turn and of the lines of the changes made so far, and is kept by each step, holds at each stage.
module _ {S : Type 0} (Next : S → Kept → Option Change → S → Type 0) (t : ℕ) (Said : S → List Line → Type 0)
    (step : (s : S) (k : Kept) (o : Option Change) (u : S) → Next s k o u → (ls : List Line) → Said s ls → Said u (ls ++ lines_of t (listed o))) where
  pub path-said : (s : S) (k : Kept) (did : List Change) (u : S) (l : Kept) → Path Next s k did u l → Said s [] → Said u (lines_of t did)
  path-said s k did u l Here h = h
  path-said s k did u l (More before v m o x n path next steps) h =
      subst (Said x) (sym (lines-append t before (listed o))) (step v m o x next (lines_of t before) (path-said s k before v m path h))

-- So what follows from it holds of the lines of a turn that was cut.
module _ {S : Type 0} (Next : S → Kept → Option Change → S → Type 0) (issues : S → List (AttemptId × Epoch)) (t : ℕ) (Said : S → List Line → Type 0) (Right : List Line → Type 0)
    (step : (s : S) (k : Kept) (o : Option Change) (u : S) → Next s k o u → (ls : List Line) → Said s ls → Said u (ls ++ lines_of t (listed o))) (right : (s : S) (ls : List Line) → Said s ls → Right ls) where
  cut-is : (c : Change) (ls : List Line) → (Right (ls ++ line_of t c)) → Right ls → Right (ls ++ cut_line t c)
  cut-is (Extends ticks) ls made before = made
  cut-is (Prepares e ws) ls made before = made
  cut-is (Settles a st) ls made before = made
  cut-is (Freezes c s) ls made before = subst Right (sym (append-nil ls)) before
  cut-is (Creates c s) ls made before = made
  cut-is (Prunes c upto n) ls made before = made

  here-right : (last : S) (mid left : Kept) (lines ls : List Line) → Said last ls → CutHere Next t last mid left lines → Right (ls ++ lines)
  here-right last mid left lines ls h (InChange c next is cut free) =
      cut-is c ls (subst Right (ap (λ x. ls ++ x) (append-nil (line_of t c))) (right next (ls ++ lines_of t (c ∷ [])) (step last mid (Some c) next is ls h))) (right last ls h)
  here-right last mid left lines ls h (InQuestion same free) = subst Right (sym (append-nil ls)) (right last ls h)

  pub cut-right : (start : S) (old : Kept) (cut : Cutting) → CutTurn Next issues t start old cut → Said start [] → Right cut.lines
  cut-right start old cut g h = subst Right (sym g.all_lines) (here-right g.last g.mid cut.left g.lines (lines_of t g.did) (path-said Next t Said step start old g.did g.last g.mid g.path h) g.here)

-- a turn without freezes and prunes has no line
plain-line : (t : ℕ) (o : Option Change) → IsPlainly o → lines_of t (listed o) ≡ []
plain-line t None plain = refl
plain-line t (Some (Extends ticks)) plain = refl
plain-line t (Some (Prepares e ws)) plain = refl
plain-line t (Some (Settles a step)) plain = refl
plain-line t (Some (Freezes c s)) plain = let no : ⊥ = cc in absurd no
plain-line t (Some (Creates c s)) plain = refl
plain-line t (Some (Prunes c upto n)) plain = let no : ⊥ = cc in absurd no

pub plain-none : {S : Type 0} (Next : S → Kept → Option Change → S → Type 0) (issues : S → List (AttemptId × Epoch)) (t : ℕ) (start : S) (old : Kept) (cut : Cutting) → AllPlain Next → CutTurn Next issues t start old cut → cut.lines ≡ []
plain-none Next issues t start old cut plain g =
    cut-right Next issues t (λ s ls. ls ≡ []) (λ ls. ls ≡ []) (λ s k o u is ls h. ap (λ x. x ++ lines_of t (listed o)) h ∙ plain-line t o (plain s k o u is)) (λ s ls h. h) start old cut g refl

plain-cut : {S : Type 0} (Next : S → Kept → Option Change → S → Type 0) (issues : S → List (AttemptId × Epoch)) (t number : ℕ) (q : Message) (start : S) (old : Kept) (cut : Cutting) → AllPlain Next
    → CutTurn Next issues t start old cut → AreTurnLines t number q cut.lines
plain-cut Next issues t number q start old cut plain g = no-lines t number q cut.lines (plain-none Next issues t start old cut plain g)

pub unstored-plain : (t : TargetPlan) (opening : Epoch × FloorWhy) (m : TargetMemory) (reading : ℕ) (q : CommitRequest) → AllPlain (UnstoredNext t opening m reading q)
unstored-plain t opening m reading q s k o u (cuts.Before s2 u2 k2 o2 next early) = commit-plain t opening m reading q s k o u next

pub looks-plain : AllPlain NoChange
looks-plain s k o u (Looks j) = tt

pub answers-plain : AllPlain verdict.QueryNext
answers-plain s k o u (verdict.Answers j) = tt

-- ---- freezes

abbrev FrozenSo : ℕ → ContId → snap.FreezeStage → List Line → Type 0
FrozenSo t c snap.Asked ls = ls ≡ []
FrozenSo t c (snap.Known s) ls = ls ≡ []
FrozenSo t c (snap.Freezing s) ls = ls ≡ []
FrozenSo t c (snap.Frozen s lines) ls = IsFreezeOf t c ls
FrozenSo t c (snap.Created s lines) ls = IsFreezeOf t c ls

frozen-step : (p : TargetPlan) (m : TargetMemory) (reading : ℕ) (tracker : Epoch) (ep : Option Epoch) (c : ContId) (alone : Bool) (s : snap.FreezeStage) (k : Kept) (o : Option Change) (u : snap.FreezeStage)
    → snap.FreezeNext p m reading tracker ep c alone s k o u → (ls : List Line) → FrozenSo p.me c s ls → FrozenSo p.me c u (ls ++ lines_of p.me (listed o))
frozen-step p m reading tracker ep c alone s k o u (snap.HasEpoch k2 e is) ls h = append-nil ls ∙ h
frozen-step p m reading tracker ep c alone s k o u (snap.ExtendsLease k2 e lease low is) ls h = append-nil ls ∙ h
frozen-step p m reading tracker ep c alone s k o u (snap.IsCovered k2 e low) ls h = append-nil ls ∙ h
frozen-step p m reading tracker ep c alone s k o u (snap.FreezesIt k2 e free unfrozen) ls h = inr (e, ap (λ x. x ++ line.Freeze p.me c e ∷ []) h)
frozen-step p m reading tracker ep c alone s k o u (snap.IsFrozen k2 e free frozen) ls h = inl (append-nil ls ∙ h)
frozen-step p m reading tracker ep c alone s k o u (snap.CreatesIt k2 e lines only) ls h = subst (IsFreezeOf p.me c) (sym (append-nil ls)) h

frozen-right : (t number : ℕ) (q : Message) (c : ContId) (s : snap.FreezeStage) (ls : List Line) → FrozenSo t c s ls → AreTurnLines t number q ls
frozen-right t number q c snap.Asked ls h = no-lines t number q ls h
frozen-right t number q c (snap.Known s) ls h = no-lines t number q ls h
frozen-right t number q c (snap.Freezing s) ls h = no-lines t number q ls h
frozen-right t number q c (snap.Frozen s lines) ls h = freeze-are t number q c ls h
frozen-right t number q c (snap.Created s lines) ls h = freeze-are t number q c ls h

freeze-cut : (p : TargetPlan) (m : TargetMemory) (reading : ℕ) (tracker : Epoch) (ep : Option Epoch) (c : ContId) (alone : Bool) (issues : snap.FreezeStage → List (AttemptId × Epoch)) (number : ℕ) (q : Message) (old : Kept) (cut : Cutting)
    → CutTurn (snap.FreezeNext p m reading tracker ep c alone) issues p.me snap.Asked old cut → AreTurnLines p.me number q cut.lines
freeze-cut p m reading tracker ep c alone issues number q old cut g =
    cut-right (snap.FreezeNext p m reading tracker ep c alone) issues p.me (FrozenSo p.me c) (AreTurnLines p.me number q) (frozen-step p m reading tracker ep c alone) (frozen-right p.me number q c) snap.Asked old cut g refl

-- ---- a Held

pub held-step : (p : TargetPlan) (m : TargetMemory) (from : ℕ) (x : AttemptId) (refusal : Option Outcome) (s : snap.HeldStage) (k : Kept) (o : Option Change) (u : snap.HeldStage) → snap.HeldNext p m from x refusal s k o u
    → (ls : List Line) → ls ≡ [] → ls ++ lines_of p.me (listed o) ≡ []
held-step p m from x refusal s k o u (snap.CreatesIt k2 c name none is named last) ls h = append-nil ls ∙ h
held-step p m from x refusal s k o u (snap.Counts k2 none) ls h = append-nil ls ∙ h

-- ---- prunes

abbrev PrunedSo : ℕ → ℕ → ContId → snap.PruneStage → List Line → Type 0
PrunedSo t number c snap.Asked ls = ls ≡ []
PrunedSo t number c (snap.Known g) ls = ls ≡ []
PrunedSo t number c (snap.Settling g decided) ls = ls ≡ []
PrunedSo t number c (snap.Pruned g lines) ls = IsPruneOf t number c ls

pruned-step : (p : TargetPlan) (m : TargetMemory) (reading : ℕ) (tracker : Epoch) (ep : Option Epoch) (c : ContId) (number : ℕ) (s : snap.PruneStage) (k : Kept) (o : Option Change) (u : snap.PruneStage)
    → snap.PruneNext p m reading tracker ep c number s k o u → (ls : List Line) → PrunedSo p.me number c s ls → PrunedSo p.me number c u (ls ++ lines_of p.me (listed o))
pruned-step p m reading tracker ep c number s k o u (snap.HasEpoch k2 g is) ls h = append-nil ls ∙ h
pruned-step p m reading tracker ep c number s k o u (snap.ExtendsLease k2 g lease low is) ls h = append-nil ls ∙ h
pruned-step p m reading tracker ep c number s k o u (snap.IsCovered k2 g low) ls h = append-nil ls ∙ h
pruned-step p m reading tracker ep c number s k o u (snap.SettlesFirst k2 g a rest) ls h = append-nil ls ∙ h
pruned-step p m reading tracker ep c number s k o u (snap.PrunesIt k2 g due) ls h = inr (_, ap (λ x. x ++ line.Aggregate number p.me c (snap.prune_limit c g k.durable) ∷ []) h)
pruned-step p m reading tracker ep c number s k o u (snap.PassesBy k2 g due) ls h = inl (append-nil ls ∙ h)

pruned-right : (t number : ℕ) (q : Message) (c : ContId) → is_prune_message q ≡ true → (s : snap.PruneStage) (ls : List Line) → PrunedSo t number c s ls → AreTurnLines t number q ls
pruned-right t number q c prunes snap.Asked ls h = no-lines t number q ls h
pruned-right t number q c prunes (snap.Known g) ls h = no-lines t number q ls h
pruned-right t number q c prunes (snap.Settling g decided) ls h = no-lines t number q ls h
pruned-right t number q c prunes (snap.Pruned g lines) ls h = prune-are t number q c ls prunes h

prune-cut : (p : TargetPlan) (m : TargetMemory) (reading : ℕ) (tracker : Epoch) (ep : Option Epoch) (c : ContId) (number : ℕ) (issues : snap.PruneStage → List (AttemptId × Epoch)) (q : Message) (old : Kept) (cut : Cutting)
    → is_prune_message q ≡ true → CutTurn (snap.PruneNext p m reading tracker ep c number) issues p.me snap.Asked old cut → AreTurnLines p.me number q cut.lines
prune-cut p m reading tracker ep c number issues q old cut prunes g =
    cut-right (snap.PruneNext p m reading tracker ep c number) issues p.me (PrunedSo p.me number c) (AreTurnLines p.me number q) (pruned-step p m reading tracker ep c number) (pruned-right p.me number q c prunes) snap.Asked old cut g refl

-- ---- every kind of turn

commit-cut : (t : TargetPlan) (opening : Epoch × FloorWhy) (m : TargetMemory) (reading number : ℕ) (q : Message) (c : CommitRequest) (old : Kept) (cut : Cutting) → CommitIsCut t opening m reading c old cut → AreTurnLines t.me number q cut.lines
commit-cut t opening m reading number q c old cut (NoneIsDown none g) = plain-cut _ _ t.me number q commit.Asked old cut (commit-plain t opening m reading c) g
commit-cut t opening m reading number q c old cut (OneIsDown e down is g) = plain-cut _ _ t.me number q commit.Asked old cut (unstored-plain t opening m reading c) g

-- where a turn was cut in which a target hears a message, its lines are of such a turn
pub hearing-cut : (is_due : AttemptId → Durable → Bool) (number : ℕ) (t : TargetPlan) (opening : Epoch × FloorWhy) (m : TargetMemory) (reading : ℕ) (from : ActorId) (q : Message) (old : Kept) (cut : Cutting)
    → HearingIsCut is_due number t opening m reading from q old cut → AreTurnLines t.me number q cut.lines
hearing-cut is_due number t opening m reading from (message.Fetch x op group ep first tracker r snapshot) old cut g = plain-cut _ _ t.me number _ _ old cut (fetch-plain t m reading (fetch_request x op group ep first tracker r snapshot)) g
hearing-cut is_due number t opening m reading from (message.Commit x ep first tracker ws) old cut g = commit-cut t opening m reading number _ (commit_request x ep first tracker ws) old cut g
hearing-cut is_due number t opening m reading from (message.Prepare e first ws inc) old cut g = plain-cut _ _ t.me number _ _ old cut (prepare-plain t opening m (prepare_request e first ws inc)) g
hearing-cut is_due number t opening m reading from (message.Ack x inc refusal) old cut g = plain-cut _ _ t.me number _ _ old cut (ack-plain t m from.number x inc refusal) g
hearing-cut is_due number t opening m reading from (message.StatusIs x inc how) old cut g = plain-cut _ _ t.me number _ _ old cut (ack-plain t m from.number x inc (status_refusal x how)) g
hearing-cut is_due number t opening m reading from (message.Mark inc marks) old cut g = plain-cut _ _ t.me number _ _ old cut (mark-plain is_due) g
hearing-cut is_due number t opening m reading from (message.Marked inc ids) old cut g = plain-cut _ _ t.me number _ _ old cut (marked-plain t m from.number) g
hearing-cut is_due number t opening m reading from (message.Verdict x ask inc v) old cut g = plain-cut _ _ t.me number _ _ old cut (verdict-plain is_due t (told_by v x m) reading x ask v) g
hearing-cut is_due number t opening m reading from (message.Snap x c name tracker) old cut g = freeze-cut t m reading tracker None c (snap.is_held_by_all t 0) _ number _ old cut g
hearing-cut is_due number t opening m reading from (message.Freeze x c s) old cut g = freeze-cut t m reading s (Some s) c false _ number _ old cut g
hearing-cut is_due number t opening m reading from (message.Held x refusal) old cut g =
    cut-right (snap.HeldNext t m from.number x refusal) _ t.me (λ s ls. ls ≡ []) (AreTurnLines t.me number (message.Held x refusal)) (held-step t m from.number x refusal) (λ s ls h. no-lines t.me number _ ls h) snap.Heard old cut g refl
hearing-cut is_due number t opening m reading from (message.Prune x c (Some tracker) None) old cut g = prune-cut t m reading tracker None c number _ (message.Prune x c (Some tracker) None) old cut refl g
hearing-cut is_due number t opening m reading from (message.Prune x c None (Some e)) old cut g = prune-cut t m reading e (Some e) c number _ (message.Prune x c None (Some e)) old cut refl g
hearing-cut is_due number t opening m reading from (message.Query x ask) old cut g = plain-cut _ _ t.me number _ _ old cut answers-plain g
hearing-cut is_due number t opening m reading from (message.Ask x) old cut g = plain-cut _ _ t.me number _ _ old cut looks-plain g
hearing-cut is_due number t opening m reading from (message.Status x inc) old cut g = plain-cut _ _ t.me number _ _ old cut looks-plain g
hearing-cut is_due number t opening m reading from (message.Reset' by down place asked) old cut g = plain-cut _ _ t.me number _ _ old cut looks-plain g
hearing-cut is_due number t opening m reading from q old cut g = absurd g

-- and of idle work
pub idle-cut : (t number : ℕ) (q : Message) (m : TargetMemory) (old : Kept) (cut : Cutting) → IdleWorkIsCut t m old cut → AreTurnLines t number q cut.lines
idle-cut t number q m old cut g = plain-cut IdleNext _ t number q m.leader.decided old cut idle-plain g
