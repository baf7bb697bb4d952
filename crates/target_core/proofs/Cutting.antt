-- A turn that its store's stop cut short is one that the world knows, whatever the next opening finds.
use Rattle.std.proofs.Common.{ℕ, ◌≡◌, refl, sym, ◌∙◌, ap, subst, arith, true, List, [], ◌∷◌, ◌++◌, Option, Some, None, append_assoc}
use Rattle.base_types.specs.declared.epoch.Epoch.{Epoch}
use Rattle.base_types.specs.declared.id.AttemptId.{AttemptId}
use Rattle.base_types.specs.declared.report.Line.{Line}
use Rattle.world_base.specs.declared.request.CommitRequest.{CommitRequest}
use Rattle.world_base.specs.declared.request.FetchRequest.{FetchRequest}
use Rattle.world_base.specs.Changes.{Change, Creates, Extends, Freezes, IsPlainly, Kept, Prepares, Prunes, Settles, is_plain}
use Rattle.world_base.specs.Commits as commit
use Rattle.world_base.specs.CutTurns as cut
use Rattle.world_base.specs.CutTurns.{CutHere, CutTurn, cut_line, issued_by_commit, issued_by_fetch, line_of, lines_of, listed_issue}
use Rattle.world_base.specs.PathLaws.{AllPlain}
use Rattle.world_base.specs.Reads as read
use Rattle.world_base.specs.Turns.{CutAt, Here, InChange, InQuestion, More, Path, listed}
use Rattle.target_parts.specs.Parts.{Partway}
use Rattle.target_parts.specs.Stops.{CutTelling, commit_issued, fetch_issued}
use Rattle.target_core.specs.Targets.{IsKeptByCut, cutting}

-- ---- plain changes have no lines

plain-line : (t : ℕ) (c : Change) → is_plain c ≡ true → line_of t c ≡ []
plain-line t (Extends ticks) plain = refl
plain-line t (Prepares e ws) plain = refl
plain-line t (Settles a step) plain = refl
plain-line t (Freezes c s) plain = absurd (let no : ⊥ = cc in no)
plain-line t (Creates c s) plain = absurd (let no : ⊥ = cc in no)
plain-line t (Prunes c upto n) plain = absurd (let no : ⊥ = cc in no)

plain-cut : (t : ℕ) (c : Change) → is_plain c ≡ true → cut_line t c ≡ []
plain-cut t (Extends ticks) plain = refl
plain-cut t (Prepares e ws) plain = refl
plain-cut t (Settles a step) plain = refl
plain-cut t (Freezes c s) plain = absurd (let no : ⊥ = cc in no)
plain-cut t (Creates c s) plain = absurd (let no : ⊥ = cc in no)
plain-cut t (Prunes c upto n) plain = absurd (let no : ⊥ = cc in no)

lines-join : (t : ℕ) (a b : List Change) → lines_of t (a ++ b) ≡ lines_of t a ++ lines_of t b
lines-join t [] b = refl
lines-join t (c ∷ cs) b = ap (λ x. line_of t c ++ x) (lines-join t cs b) ∙ sym (append_assoc (line_of t c) (lines_of t cs) (lines_of t b))

no-line : (t : ℕ) (o : Option Change) → IsPlainly o → lines_of t (listed o) ≡ []
no-line t None plain = refl
no-line t (Some c) plain = ap (λ x. x ++ []) (plain-line t c plain)

module _ {S : Type 0} (Next : S → Kept → Option Change → S → Type 0) (plain : AllPlain Next) (t : ℕ) where
  no-lines : (start : S) (old : Kept) (did : List Change) (last : S) (mid : Kept) → Path Next start old did last mid → lines_of t did ≡ []
  no-lines start old did last mid (Here) = refl
  no-lines start old did last mid (More before s l o u m path next step) =
      lines-join t before (listed o) ∙ ap (λ x. x ++ lines_of t (listed o)) (no-lines start old before s l path) ∙ no-line t o (plain s l o u next)

  -- ---- the cut

  module _ (issued_at : S → Option (AttemptId × Epoch)) (issues : S → List (AttemptId × Epoch)) (same : (s : S) → listed_issue (issued_at s) ≡ issues s) where
    pub cut-turn : (start : S) (old : Kept) (finds : Kept → Type 0) (issued : Option (AttemptId × Epoch)) (lines : List Line) → CutTelling Next issued_at start old finds issued lines
        → (x : Kept) → finds x → CutTurn Next issues t start old (cutting x issued lines)
    cut-turn start old finds issued lines c x found = record {
      last = c.cut.last;
      mid = c.cut.mid;
      did = c.cut.reached.did;
      path = c.cut.reached.path;
      lines = [];
      here = by c.cut.cut;
      issued = ap listed_issue c.issued_is ∙ same c.cut.last;
      all_lines = c.no_lines ∙ sym (ap (λ y. y ++ []) (no-lines start old c.cut.reached.did c.cut.last c.cut.mid c.cut.reached.path));
    }
      where
        by : CutAt Next c.cut.last c.cut.mid finds → CutHere Next t c.cut.last c.cut.mid x []
        by (InChange change u next all) =
            subst (λ ls. CutHere Next t c.cut.last c.cut.mid x ls) (plain-cut t change (plain c.cut.last c.cut.mid (Some change) u next)) (cut.InChange change u next (all x found).0 (all x found).1)
        by (InQuestion all) = cut.InQuestion (all x found).0 (all x found).1

-- ---- want of memory

-- partway in a turn it might have been cut
pub stops-there : {S : Type 0} (Next : S → Kept → Option Change → S → Type 0) (issues : S → List (AttemptId × Epoch)) (t : ℕ) (start : S) (old mid : Kept) → Partway Next start old mid → IsKeptByCut (CutTurn Next issues t start old) mid
stops-there Next issues t start old mid p = record {
  cut = record { left = mid; issued = issues p.last; lines = lines_of t p.reached.did ++ [] };
  left = refl;
  was = record { last = p.last; mid = mid; did = p.reached.did; path = p.reached.path; lines = []; here = cut.InQuestion refl (omega arith); issued = refl; all_lines = refl };
}

-- ---- which epochs were issued

pub fetch-issues : (q : FetchRequest) (s : read.FetchStage) → listed_issue (fetch_issued q s) ≡ issued_by_fetch q s
fetch-issues q read.Asked = refl
fetch-issues q (read.Known e) = refl
fetch-issues q (read.Reading e decided) = refl

pub commit-issues : (q : CommitRequest) (s : commit.CommitStage) → listed_issue (commit_issued q s) ≡ issued_by_commit q s
commit-issues q commit.Asked = refl
commit-issues q (commit.Known e) = refl
commit-issues q (commit.Checking e) = refl
commit-issues q (commit.Stored e) = refl
