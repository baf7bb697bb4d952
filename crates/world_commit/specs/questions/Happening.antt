-- Whatever happens keeps what is said of questions between targets.
use Rattle.std.specs.Prelude.{ℕ, ◌≡◌, [], slice_get, Option, Some, None, refl}
use Rattle.std.proofs.Common.{subst}
use Rattle.base_types.specs.declared.id.AttemptId.{AttemptId}
use Rattle.model_laws.specs.Members.{Has}
use Rattle.dtx_base.specs.declared.leading.Undecided.{Undecided}
use Rattle.dtx_base.specs.Leading.{undecided_attempt}
use Rattle.dtx_base.specs.Rows.{row_of}
use Rattle.world_commit.specs.attempts.Attempts.{row_in}
use Rattle.world_commit.specs.attempts.History.{History}
use Rattle.world_commit.specs.fates.Asked.{AskedRight}
use Rattle.world_commit.specs.fates.Facts.{Attempts}
use Rattle.world_commit.specs.fates.Rightly.{events-are-right}
use Rattle.world_commit.specs.questions.Bearing.{cut-born}
use Rattle.world_commit.specs.questions.Facts.{InquiriesHold, Questions}
use Rattle.world_commit.specs.questions.Flying.{IsWithoutCollections, namings-happen, namings-swept, waiting-happen, waiting-swept}
use Rattle.world_commit.specs.questions.Further.{inquiries-more}
use Rattle.world_commit.specs.questions.Inquiring.{inquiries-loss, inquiries-plain}
use Rattle.world_commit.specs.questions.Known.{commits-new, knows-fates}
use Rattle.world_commit.specs.questions.Lacking.{rows-happen, rows-swept}
use Rattle.world_commit.specs.questions.Laws.{AbortsGrow, AreCutsPlain, HappeningsKeepQuestions, QuestionsBegin, SweepingKeepsQuestions}
use Rattle.world_commit.specs.questions.Leaving.{cut-leaves, drawing-leaves, failing-leaves, given_up-leaves, opening-leaves, sweeping-leaves}
use Rattle.world_commit.specs.questions.Senders.{senders-happen, senders-swept}
use Rattle.world_commit.specs.questions.Stopping.{cut_loss, drawing_loss, failing_loss, given_up_loss, opening_loss, sweeping_loss}
use Rattle.world_base.specs.declared.target.TargetState.{TargetState}
use Rattle.world_base.specs.declared.world.World.{World}
use Rattle.world_base.specs.Events.{Rules}
use Rattle.world_base.specs.Stops.{Draws, Fails, Further, GivenUp, Happening, IsCut, Opens, Plainly, swept}

module _ (r : Rules) (h later : History) (w v : World) (right : AskedRight r h w) (A : Attempts r h w) (B : Attempts r later v) (k : Questions r h w) where
  inquiries-happen : (e : Happening r w v) → IsWithoutCollections e → AreCutsPlain e → AbortsGrow h later e → InquiriesHold r later v
  inquiries-happen (Plainly e up) ours plain grows = inquiries-plain r h later w v (commits-new r h w right) (knows-fates r h w A) (knows-fates r later v B) grows (events-are-right r h w v A e) k.inquiries
  inquiries-happen (Further g) ours plain grows = inquiries-more r h later w v (commits-new r h w right) A (knows-fates r later v B) grows k.senders g ours k.inquiries
  inquiries-happen (IsCut g) ours plain grows =
      inquiries-loss r h later w v (cut_loss w v g.t g.s g.cut g.here g.after) (cut-leaves r h later w v grows.aborted g.t g.s g.cut g.here g.after (cut-born r h later w v (commits-new r h w right) A g plain grows)) A.prompt (knows-fates r h w A) (knows-fates r later v B) k.inquiries
  inquiries-happen (Opens g) ours plain grows = inquiries-loss r h later w v (opening_loss r w v g) (opening-leaves r h later w v grows A.on.quiet g) A.prompt (knows-fates r h w A) (knows-fates r later v B) k.inquiries
  inquiries-happen (Fails g) ours plain grows = inquiries-loss r h later w v (failing_loss r w v A.on.quiet g) (failing-leaves r h later w v grows A.on.quiet g) A.prompt (knows-fates r h w A) (knows-fates r later v B) k.inquiries
  inquiries-happen (GivenUp g) ours plain grows = inquiries-loss r h later w v (given_up_loss r w v A.on.quiet g) (given_up-leaves r h later w v grows A.on.quiet g) A.prompt (knows-fates r h w A) (knows-fates r later v B) k.inquiries
  inquiries-happen (Draws g) ours plain grows = inquiries-loss r h later w v (drawing_loss w v g) (drawing-leaves r h later w v grows g) A.prompt (knows-fates r h w A) (knows-fates r later v B) k.inquiries

  questions-happen : (e : Happening r w v) → IsWithoutCollections e → AreCutsPlain e → AbortsGrow h later e → Questions r later v
  questions-happen e ours plain grows = record {
    named = namings-happen r h w v A e ours k.named;
    waiting = waiting-happen r h w v A e ours k.waiting;
    rows = rows-happen r h w v right A e ours k.rows;
    inquiries = inquiries-happen e ours plain grows;
    senders = senders-happen r h later w v A B k.senders e ours;
  }

pub happenings-keep : HappeningsKeepQuestions
happenings-keep r h later w v right A e ours plain grows B k = questions-happen r h later w v right A B k e ours plain grows

pub sweeping-keeps : SweepingKeepsQuestions
sweeping-keeps r h w A B k = record {
  named = namings-swept r h w A k.named;
  waiting = waiting-swept r h w A k.waiting;
  rows = rows-swept r w k.rows;
  inquiries = inquiries-loss r h h w (swept w) (sweeping_loss w A.on.quiet) (sweeping-leaves r h w A.on.quiet) A.prompt (knows-fates r h w A) (knows-fates r h (swept w) B) k.inquiries;
  senders = senders-swept r h w A k.senders;
}

-- ---- the beginning

pub questions-begin : QuestionsBegin
questions-begin r h w none = record {
  named = λ t s n here i. absurd (subst (Has n) (none.waits t s here).named i);
  waiting = λ m s p here i. absurd (subst (Has p) (none.waits m s here).parked i);
  rows = λ t x u at. absurd (no-row t x u (slice_get w.targets t) refl at);
  inquiries = record {
    rows = λ m s q here i. absurd (subst (Has q) (none.waits m s here).inquiries i);
    heard = λ m x other f. absurd (subst (Has f.0) none.messages f.1);
    told = λ m x f. absurd (subst (Has f.0) none.messages f.1);
  };
  senders = λ l i. absurd (subst (Has l) none.messages i);
}
  where
    no-row : (t : ℕ) (x : AttemptId) (u : Undecided) (o : Option TargetState) → slice_get w.targets t ≡ o → row_in o x ≡ Some u → ⊥
    no-row t x u None is at = let no : ⊥ = cc in no
    no-row t x u (Some s) is at = let empty : row_of undecided_attempt x [] ≡ Some u = subst (λ rows. row_of undecided_attempt x rows ≡ Some u) (none.undecided t s is) at in (let no : ⊥ = cc in no)
