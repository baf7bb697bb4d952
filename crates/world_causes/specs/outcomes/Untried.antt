-- Lines of targets tell of no attempt.
use Rattle.std.specs.Prelude.{ℕ, ◌≡◌, ◌++◌, List, [], ◌∷◌, Contains, Option, Some, None, refl}
use Rattle.std.proofs.Common.{append-nil, ◌∙◌, ap, subst}
use Rattle.base_types.specs.declared.epoch.Epoch.{Epoch}
use Rattle.base_types.specs.declared.id.AttemptId.{AttemptId}
use Rattle.base_types.specs.declared.outcome.FloorWhy.{FloorWhy}
use Rattle.base_types.specs.declared.report.Attempt.{Attempt}
use Rattle.base_types.specs.declared.report.Line.{Line}
use Rattle.base_types.specs.declared.report.Line.TheVariants as line
use Rattle.base_messages.specs.declared.actor.ActorId.{ActorId}
use Rattle.base_messages.specs.declared.message.Message.{Message}
use Rattle.base_messages.specs.declared.message.Message.TheVariants as message
use Rattle.daos_model.specs.Attempts.{tried, tries}
use Rattle.daos_model.specs.Laws.{tries-append}
use Rattle.world_base.specs.declared.request.CommitRequest.{CommitRequest}
use Rattle.world_base.specs.declared.target.TargetMemory.{TargetMemory}
use Rattle.world_base.specs.declared.target.TargetPlan.{TargetPlan}
use Rattle.world_base.specs.Changes.{Change, Creates, Extends, Freezes, Kept, Prepares, Prunes, Settles}
use Rattle.world_base.specs.CutTurns.{CommitIsCut, CutHere, CutTurn, Cutting, HearingIsCut, IdleWorkIsCut, InChange, InQuestion, NoneIsDown, OneIsDown, cut_line, line_of, lines_of}
use Rattle.world_base.specs.Roles.{is_prepared}

-- one line that tells of none
pub untried-one : (l : Line) → tried l ≡ [] → tries (l ∷ []) ≡ []
unfolding tries
untried-one l none = ap (λ ts. ts ++ []) none

pub untried-both : (ls ms : List Line) → tries ls ≡ [] → tries ms ≡ [] → tries (ls ++ ms) ≡ []
untried-both ls ms one two = tries-append ls ms ∙ ap (λ ts. ts ++ tries ms) one ∙ two

-- lines that tell of none add no attempt
pub untried-back : (lines more : List Line) (a : Attempt) → tries more ≡ [] → Contains (tries (lines ++ more)) a → Contains (tries lines) a
untried-back lines more a none i = subst (λ ts. Contains ts a) (tries-append lines more ∙ ap (λ ts. tries lines ++ ts) none ∙ append-nil (tries lines)) i

pub untried-none : tries [] ≡ []
unfolding tries
untried-none = refl

-- ---- cut turns

change-untried : (t : ℕ) (c : Change) → tries (line_of t c) ≡ []
change-untried t (Freezes c s) = untried-one (line.Freeze t c s) refl
change-untried t (Prunes c upto n) = untried-one (line.Aggregate n t c upto) refl
change-untried t (Extends ticks) = untried-none
change-untried t (Prepares e ws) = untried-none
change-untried t (Settles a step) = untried-none
change-untried t (Creates c s) = untried-none

changes-untried : (t : ℕ) (cs : List Change) → tries (lines_of t cs) ≡ []
changes-untried t [] = untried-none
changes-untried t (c ∷ cs) = untried-both (line_of t c) (lines_of t cs) (change-untried t c) (changes-untried t cs)

cut-untried : (t : ℕ) (c : Change) → tries (cut_line t c) ≡ []
cut-untried t (Prunes c upto n) = untried-one (line.Aggregate n t c upto) refl
cut-untried t (Freezes c s) = untried-none
cut-untried t (Extends ticks) = untried-none
cut-untried t (Prepares e ws) = untried-none
cut-untried t (Settles a step) = untried-none
cut-untried t (Creates c s) = untried-none

module _ {S : Type 0} (Next : S → Kept → Option Change → S → Type 0) (issues : S → List (AttemptId × Epoch)) (t : ℕ) (start : S) (old : Kept) (cut : Cutting) where
  pub turn-untried : CutTurn Next issues t start old cut → tries cut.lines ≡ []
  turn-untried turn = ap tries turn.all_lines ∙ untried-both (lines_of t turn.did) turn.lines (changes-untried t turn.did) (by turn.lines turn.here)
    where
      by : (lines : List Line) → CutHere Next t turn.last turn.mid cut.left lines → tries lines ≡ []
      by lines (InChange c next is what free) = cut-untried t c
      by lines (InQuestion same free) = untried-none

module _ (t : TargetPlan) (opening : Epoch × FloorWhy) (m : TargetMemory) (reading number : ℕ) (from : ActorId) (old : Kept) (cut : Cutting) where
  commit-untried : (q : CommitRequest) → CommitIsCut t opening m reading q old cut → tries cut.lines ≡ []
  commit-untried q (NoneIsDown up turn) = turn-untried _ _ t.me _ old cut turn
  commit-untried q (OneIsDown e down is turn) = turn-untried _ _ t.me _ old cut turn

  pub hearing-untried : (q : Message) → HearingIsCut is_prepared number t opening m reading from q old cut → tries cut.lines ≡ []
  hearing-untried (message.Fetch y op group ep first tracker r snapshot) turn = turn-untried _ _ t.me _ old cut turn
  hearing-untried (message.Commit y ep first tracker ws) turn = commit-untried _ turn
  hearing-untried (message.Prepare e first ws inc) turn = turn-untried _ _ t.me _ old cut turn
  hearing-untried (message.Ack y inc refusal) turn = turn-untried _ _ t.me _ old cut turn
  hearing-untried (message.StatusIs y inc how) turn = turn-untried _ _ t.me _ old cut turn
  hearing-untried (message.Mark inc marks) turn = turn-untried _ _ t.me _ old cut turn
  hearing-untried (message.Marked inc ids) turn = turn-untried _ _ t.me _ old cut turn
  hearing-untried (message.Verdict y ask inc v) turn = turn-untried _ _ t.me _ old cut turn
  hearing-untried (message.Snap y c name tracker) turn = turn-untried _ _ t.me _ old cut turn
  hearing-untried (message.Freeze y c s) turn = turn-untried _ _ t.me _ old cut turn
  hearing-untried (message.Held y refusal) turn = turn-untried _ _ t.me _ old cut turn
  hearing-untried (message.Prune y c (Some tracker) None) turn = turn-untried _ _ t.me _ old cut turn
  hearing-untried (message.Prune y c None (Some g)) turn = turn-untried _ _ t.me _ old cut turn
  hearing-untried (message.Query y ask) turn = turn-untried _ _ t.me _ old cut turn
  hearing-untried (message.Ask y) turn = turn-untried _ _ t.me _ old cut turn
  hearing-untried (message.Status y inc) turn = turn-untried _ _ t.me _ old cut turn
  hearing-untried (message.Reset' by down place asked) turn = turn-untried _ _ t.me _ old cut turn
  hearing-untried q turn = absurd turn

  pub idling-untried : IdleWorkIsCut t.me m old cut → tries cut.lines ≡ []
  idling-untried turn = turn-untried _ _ t.me _ old cut turn
