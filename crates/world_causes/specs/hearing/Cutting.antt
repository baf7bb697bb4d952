-- A cut turn without snapshots adds no line of an attempt, and issues no epoch but where it heard a Fetch or a Commit.
use Rattle.std.specs.Prelude.{ℕ, ◌≡◌, Bool, true, false, List, [], ◌∷◌, Option}
use Rattle.std.proofs.Common.{subst, inl, inr}
use Rattle.base_types.specs.declared.epoch.Epoch.{Epoch}
use Rattle.base_types.specs.declared.id.AttemptId.{AttemptId}
use Rattle.base_types.specs.declared.outcome.FloorWhy.{FloorWhy}
use Rattle.base_types.specs.declared.report.Attempt.{Attempt}
use Rattle.base_types.specs.declared.report.Line.{Line}
use Rattle.base_types.specs.declared.report.Line.TheVariants as line
use Rattle.base_messages.specs.declared.actor.ActorId.{ActorId}
use Rattle.base_messages.specs.declared.message.Message.{Message}
use Rattle.base_messages.specs.declared.message.Message.TheVariants as message
use Rattle.model_laws.specs.Members.{Has, has-cases}
use Rattle.world_base.specs.declared.target.TargetMemory.{TargetMemory}
use Rattle.world_base.specs.declared.target.TargetPlan.{TargetPlan}
use Rattle.world_base.specs.Changes.{Change, Creates, Extends, Freezes, Kept, Prepares, Prunes, Settles}
use Rattle.world_base.specs.CutTurns.{CutHere, CutTurn, Cutting, HearingIsCut, InChange, InQuestion, cut_line, line_of, lines_of, none_issued}
use Rattle.world_base.specs.Roles.{is_prepared}
use Rattle.world_base.specs.TargetTurns.{commit_request}
use Rattle.world_causes.specs.restarts.CutLaws.{commit-is-cut}
use Rattle.world_contents.specs.world_commit.stops.CutEvents.{is_without_snapshots}

-- a request for which an epoch may be issued
abbrev pub is_request : Message → Bool
is_request (message.Fetch x op group ep first tracker r snapshot) = true
is_request (message.Commit x ep first tracker ws) = true
is_request m = false

-- what a cut turn issues and tells
pub record CutTells (q : Message) (cut : Cutting) : Type 0 where
  pub silent : (a : Attempt) → Has (line.Try a) cut.lines → ⊥
  pub issued : is_request q ≡ false → cut.issued ≡ []

-- ---- lines

change-silent : (t : ℕ) (c : Change) (a : Attempt) → Has (line.Try a) (line_of t c) → ⊥
change-silent t (Freezes c s) a (inl same) = let no : ⊥ = cc in no
change-silent t (Freezes c s) a (inr i) = i
change-silent t (Prunes c upto n) a (inl same) = let no : ⊥ = cc in no
change-silent t (Prunes c upto n) a (inr i) = i
change-silent t (Extends n) a i = i
change-silent t (Prepares e ws) a i = i
change-silent t (Settles x step) a i = i
change-silent t (Creates c s) a i = i

changes-silent : (t : ℕ) (cs : List Change) (a : Attempt) → Has (line.Try a) (lines_of t cs) → ⊥
changes-silent t [] a i = i
changes-silent t (c ∷ cs) a i = elim (has-cases (line_of t c) (lines_of t cs) (line.Try a) i) [ inl j ↦ change-silent t c a j | inr j ↦ changes-silent t cs a j ]

cut-silent : (t : ℕ) (c : Change) (a : Attempt) → Has (line.Try a) (cut_line t c) → ⊥
cut-silent t (Prunes c upto n) a (inl same) = let no : ⊥ = cc in no
cut-silent t (Prunes c upto n) a (inr i) = i
cut-silent t (Freezes c s) a i = i
cut-silent t (Extends n) a i = i
cut-silent t (Prepares e ws) a i = i
cut-silent t (Settles x step) a i = i
cut-silent t (Creates c s) a i = i

module _ {S : Type 0} (Next : S → Kept → Option Change → S → Type 0) (issues : S → List (AttemptId × Epoch)) (t : ℕ) (start : S) (old : Kept) (cut : Cutting) (g : CutTurn Next issues t start old cut) where
  here-silent : (lines : List Line) → CutHere Next t g.last g.mid cut.left lines → (a : Attempt) → Has (line.Try a) lines → ⊥
  here-silent lines (InChange c next is made free) a i = cut-silent t c a i
  here-silent lines (InQuestion same free) a i = i

  pub turn-silent : (a : Attempt) → Has (line.Try a) cut.lines → ⊥
  turn-silent a i = elim (has-cases (lines_of t g.did) g.lines (line.Try a) (subst (Has (line.Try a)) g.all_lines i)) [ inl j ↦ changes-silent t g.did a j | inr j ↦ here-silent g.lines g.here a j ]

-- ---- every kind of turn

quiet-tells : {S : Type 0} (Next : S → Kept → Option Change → S → Type 0) (t : ℕ) (start : S) (old : Kept) (cut : Cutting) (q : Message) → CutTurn Next none_issued t start old cut → CutTells q cut
quiet-tells Next t start old cut q g = record { silent = turn-silent Next none_issued t start old cut g; issued = λ off. g.issued }

pub hearing-cut-tells : (number : ℕ) (t : TargetPlan) (opening : Epoch × FloorWhy) (m : TargetMemory) (reading : ℕ) (from : ActorId) (q : Message) (old : Kept) (cut : Cutting) → is_without_snapshots q ≡ true → HearingIsCut is_prepared number t opening m reading from q old cut
    → CutTells q cut
hearing-cut-tells number t opening m reading from (message.Fetch x op group ep first tracker r snapshot) old cut ours h = record { silent = turn-silent _ _ t.me _ old cut h; issued = λ off. let no : ⊥ = cc in absurd no }
hearing-cut-tells number t opening m reading from (message.Commit x ep first tracker ws) old cut ours h =
    record { silent = turn-silent _ _ t.me _ old cut (commit-is-cut t opening m reading (commit_request x ep first tracker ws) old cut h); issued = λ off. let no : ⊥ = cc in absurd no }
hearing-cut-tells number t opening m reading from (message.Prepare e first ws inc) old cut ours h = quiet-tells _ t.me _ old cut (message.Prepare e first ws inc) h
hearing-cut-tells number t opening m reading from (message.Ack x inc refusal) old cut ours h = quiet-tells _ t.me _ old cut (message.Ack x inc refusal) h
hearing-cut-tells number t opening m reading from (message.StatusIs x inc how) old cut ours h = quiet-tells _ t.me _ old cut (message.StatusIs x inc how) h
hearing-cut-tells number t opening m reading from (message.Mark inc marks) old cut ours h = quiet-tells _ t.me _ old cut (message.Mark inc marks) h
hearing-cut-tells number t opening m reading from (message.Marked inc ids) old cut ours h = quiet-tells _ t.me _ old cut (message.Marked inc ids) h
hearing-cut-tells number t opening m reading from (message.Verdict x ask inc v) old cut ours h = quiet-tells _ t.me _ old cut (message.Verdict x ask inc v) h
hearing-cut-tells number t opening m reading from (message.Query x ask) old cut ours h = quiet-tells _ t.me _ old cut (message.Query x ask) h
hearing-cut-tells number t opening m reading from (message.Ask x) old cut ours h = quiet-tells _ t.me _ old cut (message.Ask x) h
hearing-cut-tells number t opening m reading from (message.Status x inc) old cut ours h = quiet-tells _ t.me _ old cut (message.Status x inc) h
hearing-cut-tells number t opening m reading from (message.Reset' by down place asked) old cut ours h = quiet-tells _ t.me _ old cut (message.Reset' by down place asked) h
hearing-cut-tells number t opening m reading from (message.Snap x c name tracker) old cut ours h = let no : ⊥ = cc in absurd no
hearing-cut-tells number t opening m reading from (message.Freeze x c s) old cut ours h = let no : ⊥ = cc in absurd no
hearing-cut-tells number t opening m reading from (message.Held x refusal) old cut ours h = let no : ⊥ = cc in absurd no
hearing-cut-tells number t opening m reading from (message.Prune x c tracker e) old cut ours h = let no : ⊥ = cc in absurd no
hearing-cut-tells number t opening m reading from q old cut ours h = absurd h
