-- A turn that was cut is determined by where it was cut, and by what its cut left of a change.
use Rattle.std.specs.Prelude.{ℕ, ◌≡◌, ◌++◌, List, length, Option, Some, refl}
use Rattle.std.proofs.Common.{sym, ◌∙◌, ap, subst}
use Rattle.base_types.specs.declared.epoch.Epoch.{Epoch}
use Rattle.base_types.specs.declared.id.AttemptId.{AttemptId}
use Rattle.base_types.specs.declared.report.Line.{Line}
use Rattle.daos_model.specs.Changes.{marked, with_versions}
use Rattle.daos_model.specs.declared.durable.Durable.{Durable}
use Rattle.daos_model.specs.declared.durable.Version.{Version}
use Rattle.world_base.specs.Changes.{After, Before, Change, Creates, Cut, Extends, Freezes, InPart, IsPartly, Kept, Prepares, Prunes, Settles, made}
use Rattle.world_base.specs.CutTurns.{CutHere, CutTurn, Cutting, InChange, InQuestion, cut_line, lines_of}
use Rattle.world_base.specs.PathLaws.{path-keeps}
use Rattle.world_base.specs.Turns.{Path}
use Rattle.world_determined.specs.Paths.{FitsOn, HasOneStep, OneStep, as_many-steps, path-same, steps_in}

-- ---- where a turn was cut

-- In a question, after so many steps; or in a change, which wasn't made, or was made, or of a prune only in part, so that these versions are
-- left.
pub data CutIn : Type 0 where
  Question : (steps : ℕ) → CutIn
  Unmade : CutIn
  Whole : CutIn
  Part : (left : List Version) → CutIn

-- after so many changes
pub record CutPlace : Type 0 where
  pub changes : ℕ
  pub cut_in : CutIn

abbrev part_of : (c : Change) (d x : Durable) → IsPartly c d x → CutIn
part_of (Prunes c upto n) d x part = Part part.0
part_of (Extends ticks) d x part = absurd part
part_of (Prepares e ws) d x part = absurd part
part_of (Settles a step) d x part = absurd part
part_of (Freezes c s) d x part = absurd part
part_of (Creates c s) d x part = absurd part

abbrev left_of : (c : Change) (d x : Durable) → Cut c d x → CutIn
left_of c d x (Before is) = Unmade
left_of c d x (After is) = Whole
left_of c d x (InPart part) = part_of c d x part

abbrev cut_in_of : {S : Type 0} {Next : S → Kept → Option Change → S → Type 0} {t : ℕ} {last : S} {mid left : Kept} {lines : List Line} → ℕ → CutHere Next t last mid left lines → CutIn
cut_in_of {mid = mid} {left = left} steps (InChange c next step cut free) = left_of c mid.durable left.durable cut
cut_in_of steps (InQuestion same free) = Question steps

-- where a turn was cut so
abbrev pub place_of : {S : Type 0} {Next : S → Kept → Option Change → S → Type 0} {issues : S → List (AttemptId × Epoch)} {t : ℕ} {start : S} {old : Kept} {cut : Cutting} → CutTurn Next issues t start old cut → CutPlace
place_of c = record { changes = length c.did; cut_in = cut_in_of (steps_in c.path) c.here }

-- two cuts leave one: the same is kept, but for free blocks, and the same was issued and is told
pub record OneCut (cut cut' : Cutting) : Type 0 where
  pub kept_same : cut.left.durable ≡ cut'.left.durable
  pub issued_same : cut.issued ≡ cut'.issued
  pub lines_same : cut.lines ≡ cut'.lines

-- ---- one cut

-- what a cut of a change leaves
abbrev versions_left : Change → List Version → Durable → Durable
versions_left (Prunes c upto n) vs d = with_versions vs (marked c upto n d)
versions_left c vs d = d

abbrev cut_leaves : Change → CutIn → Durable → Durable
cut_leaves c (Question steps) d = d
cut_leaves c Unmade d = d
cut_leaves c Whole d = made c d
cut_leaves c (Part vs) d = versions_left c vs d

part-leaves : (c : Change) (d x : Durable) (p : IsPartly c d x) → x ≡ cut_leaves c (part_of c d x p) d
part-leaves (Prunes c upto n) d x p = p.2
part-leaves (Extends ticks) d x p = absurd p
part-leaves (Prepares e ws) d x p = absurd p
part-leaves (Settles a step) d x p = absurd p
part-leaves (Freezes c s) d x p = absurd p
part-leaves (Creates c s) d x p = absurd p

cut-leaves : (c : Change) (d x : Durable) (p : Cut c d x) → x ≡ cut_leaves c (left_of c d x p) d
cut-leaves c d x (Before is) = is
cut-leaves c d x (After is) = is
cut-leaves c d x (InPart part) = part-leaves c d x part

-- in a change there is no question
in-change : (c : Change) (d x : Durable) (p : Cut c d x) (steps : ℕ) → left_of c d x p ≡ Question steps → ⊥
in-change c d x (Before is) steps same = cc
in-change c d x (After is) steps same = cc
in-change c d x (InPart part) steps same = by c part same
  where
    by : (b : Change) (part : IsPartly b d x) → part_of b d x part ≡ Question steps → ⊥
    by (Prunes b upto n) part same = cc
    by (Extends ticks) part same = absurd part
    by (Prepares e ws) part same = absurd part
    by (Settles a step) part same = absurd part
    by (Freezes b s) part same = absurd part
    by (Creates b s) part same = absurd part

-- what is left where a turn was cut, and is told of it
record OneHere (left left' : Kept) (lines lines' : List Line) : Type 0 where
  kept_same : left.durable ≡ left'.durable
  lines_same : lines ≡ lines'

module _ {S : Type 0} (Next : S → Kept → Option Change → S → Type 0) (Fits : S → Durable → Type 0) (one : HasOneStep Next Fits) (on : FitsOn Next Fits) where
  here-one :
      (t : ℕ) (last last' : S) (mid mid' left left' : Kept) (lines lines' : List Line) (steps steps' : ℕ)
      → Fits last mid.durable → last ≡ last' → mid.durable ≡ mid'.durable → (p : CutHere Next t last mid left lines) (q : CutHere Next t last' mid' left' lines') → cut_in_of steps p ≡ cut_in_of steps' q
      → OneHere left left' lines lines'
  here-one t last last' mid mid' left left' _ _ steps steps' fits place same (InChange c u next cut free) (InChange c' u' next' cut' free') alike =
      let step : OneStep (Some c) (Some c') u u' = one last mid mid' (Some c) (Some c') u u' fits same next (subst (λ y. Next y mid' (Some c') u') (sym place) next') in
      let change : c ≡ c' = cc (step.change) in
      record {
        kept_same =
            cut-leaves c mid.durable left.durable cut ∙ ap (λ y. cut_leaves y (left_of c mid.durable left.durable cut) mid.durable) change
            ∙ ap (λ y. cut_leaves c' y mid.durable) alike ∙ ap (cut_leaves c' (left_of c' mid'.durable left'.durable cut')) same ∙ sym (cut-leaves c' mid'.durable left'.durable cut');
        lines_same = ap (cut_line t) change;
      }
  here-one t last last' mid mid' left left' _ _ steps steps' fits place same (InChange c u next cut free) (InQuestion is free') alike = absurd (in-change c mid.durable left.durable cut steps' alike)
  here-one t last last' mid mid' left left' _ _ steps steps' fits place same (InQuestion is free) (InChange c' u' next' cut' free') alike = absurd (in-change c' mid'.durable left'.durable cut' steps (sym alike))
  here-one t last last' mid mid' left left' _ _ steps steps' fits place same (InQuestion is free) (InQuestion is' free') alike = record { kept_same = is ∙ same ∙ sym is'; lines_same = refl }

  -- turns that were cut at one place had made as many steps
  steps-one :
      (t : ℕ) (start last last' : S) (old old' mid mid' left left' : Kept) (did did' : List Change) (lines lines' : List Line)
      → Fits start old.durable → old.durable ≡ old'.durable → (p : Path Next start old did last mid) (q : Path Next start old' did' last' mid')
      → (h : CutHere Next t last mid left lines) (h' : CutHere Next t last' mid' left' lines') → length did ≡ length did' → cut_in_of (steps_in p) h ≡ cut_in_of (steps_in q) h' → steps_in p ≡ steps_in q
  steps-one t start last last' old old' mid mid' left left' did did' _ _ fits same p q (InChange c u next cut free) (InChange c' u' next' cut' free') as_many alike =
      as_many-steps Next Fits one on start old old' did did' last last' mid mid' c c' u u' fits same p q next next' as_many
  steps-one t start last last' old old' mid mid' left left' did did' _ _ fits same p q (InChange c u next cut free) (InQuestion is' free') as_many alike = absurd (in-change c mid.durable left.durable cut (steps_in q) alike)
  steps-one t start last last' old old' mid mid' left left' did did' _ _ fits same p q (InQuestion is free) (InChange c' u' next' cut' free') as_many alike = absurd (in-change c' mid'.durable left'.durable cut' (steps_in p) (sym alike))
  steps-one t start last last' old old' mid mid' left left' did did' _ _ fits same p q (InQuestion is free) (InQuestion is' free') as_many alike = cc

  -- a turn that was cut is determined by its place
  pub cut-one :
      (issues : S → List (AttemptId × Epoch)) (t : ℕ) (start : S) (old old' : Kept) (cut cut' : Cutting)
      → Fits start old.durable → old.durable ≡ old'.durable → (c : CutTurn Next issues t start old cut) (d : CutTurn Next issues t start old' cut') → place_of c ≡ place_of d
      → OneCut cut cut'
  cut-one issues t start old old' cut cut' fits same c d place =
      let as_many = steps-one t start c.last d.last old old' c.mid d.mid cut.left cut'.left c.did d.did c.lines d.lines fits same c.path d.path c.here d.here (ap (λ p. p.changes) place) (ap (λ p. p.cut_in) place) in
      let so = path-same Next Fits one on start old old' c.did d.did c.last d.last c.mid d.mid fits same c.path d.path as_many in
      let here = here-one t c.last d.last c.mid d.mid cut.left cut'.left c.lines d.lines (steps_in c.path) (steps_in d.path)
      (path-keeps Next (λ s k. Fits s k.durable) on start old c.did c.last c.mid c.path fits) so.stage_same so.kept_same c.here d.here (ap (λ p. p.cut_in) place) in
      record {
        kept_same = here.kept_same;
        issued_same = c.issued ∙ ap issues so.stage_same ∙ sym d.issued;
        lines_same = c.all_lines ∙ ap (λ y. lines_of t y ++ c.lines) so.did_same ∙ ap (λ y. lines_of t d.did ++ y) here.lines_same ∙ sym d.all_lines;
      }
