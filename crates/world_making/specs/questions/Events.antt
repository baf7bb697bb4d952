-- Each event of a run keeps what is told and asked between targets.
use Rattle.std.specs.Prelude.{ℕ, ◌≡◌, Bool, true, false, refl}
use Rattle.std.proofs.Common.{sym, ◌∙◌, ap, subst, inl, inr}
use Rattle.base_types.specs.declared.epoch.Epoch.{Epoch}
use Rattle.base_types.specs.declared.id.AttemptId.{AttemptId}
use Rattle.base_types.specs.declared.outcome.FloorWhy.{FloorWhy}
use Rattle.base_messages.specs.declared.actor.ActorId.{ActorId}
use Rattle.base_messages.specs.declared.message.Message.{Message, more_of-Message}
use Rattle.base_messages.specs.declared.message.Message.TheVariants as message
use Rattle.world_causes.specs.world_commit.asks.Entries.{IsKept}
use Rattle.world_causes.specs.world_commit.attempts.Attempts.{IsBorn, entry_at, entry_in, leader_of}
use Rattle.world_causes.specs.world_commit.attempts.History.{Aborted, History}
use Rattle.world_causes.specs.world_commit.attempts.Turning.{one-or_another}
use Rattle.world_base.specs.declared.did.Did.{Did}
use Rattle.world_base.specs.declared.letter.Letter.{Letter}
use Rattle.world_base.specs.declared.target.TargetMemory.{TargetMemory}
use Rattle.world_base.specs.declared.target.TargetPlan.{TargetPlan}
use Rattle.world_base.specs.declared.world.World.{World}
use Rattle.world_base.specs.Changes.{Kept}
use Rattle.world_base.specs.Events.{Rules, kept, target_plan}
use Rattle.world_base.specs.Further.{HearsFurther}
use Rattle.world_base.specs.Roles.{is_prepared}
use Rattle.world_base.specs.Stops.{AtWork, CutOf, Draws, Fails, Further, GivenUp, Happening, Hearing, HearsMore, IdleWork, IsCut, Opens, Plainly, TargetCut, stopped_at}
use Rattle.world_causes.specs.world_commit.fates.Asked.{AskedRight}
use Rattle.world_causes.specs.world_commit.fates.Facts.{Attempts}
use Rattle.world_making.specs.fates.Laws.{IsWorkOfMaking}
use Rattle.world_making.specs.making.Making.{is_of_snapshots, making_issues, tells_of_snapshots}
use Rattle.world_making.specs.making.Turns.{cuts-leave}
use Rattle.world_causes.specs.world_commit.questions.Facts.{Questions}
use Rattle.world_causes.specs.world_commit.questions.Happening.{happenings-keep, sweeping-keeps}
use Rattle.world_causes.specs.world_commit.questions.Flying.{namings-happen, waiting-happen}
use Rattle.world_causes.specs.world_commit.questions.Hearing.{is_of_stops}
use Rattle.world_causes.specs.world_commit.questions.Inquiring.{inquiries-loss}
use Rattle.world_causes.specs.world_commit.questions.Known.{knows-fates}
use Rattle.world_causes.specs.world_commit.questions.Lacking.{rows-happen}
use Rattle.world_causes.specs.world_commit.questions.Laws.{AbortsGrow}
use Rattle.world_causes.specs.world_commit.questions.Leaving as leaving
use Rattle.world_causes.specs.world_commit.questions.Senders.{senders-happen}
use Rattle.world_causes.specs.world_commit.questions.Stopping.{cut_loss}
use Rattle.world_making.specs.questions.Entries.{cut-leaves-entry}
use Rattle.world_making.specs.questions.Laws.{AllEventsKeepQuestions, AllHappeningsKeepQuestions, MakingCutsKeepQuestions, MakingKeepsQuestions}
use Rattle.world_making.specs.questions.Turns.{making-questions}
use Rattle.world_causes.specs.world_commit.stops.CutEvents.{IsWithoutSnapshots, is_without_snapshots}
use Rattle.world_causes.specs.world_commit.stops.Parts.{now-here, now-there}
use Rattle.world_causes.specs.world_commit.stops.Stops as stopping

pub making-keeps-questions : MakingKeepsQuestions
making-keeps-questions r h later w v A g is grown B k = making-questions r w v g is h later (knows-fates r h w A) (knows-fates r later v B) grown k

-- ---- such a turn is cut

module _ (r : Rules) (h later : History) (w v : World) (g : TargetCut r w v) (is : IsWorkOfMaking g.work) (grown : (x : AttemptId) → Aborted h x → Aborted later x) where
  -- an entry stays
  cut-kept : (x : AttemptId) → IsKept g.s.durable x → IsKept g.cut.left.durable x
  cut-kept x = by g.work is g.turn
    where
      by : (a : AtWork) → IsWorkOfMaking a → CutOf (target_plan r g.t) g.s a g.cut → IsKept g.s.durable x → IsKept g.cut.left.durable x
      by (Hearing l reading number) making turn has =
          (cut-leaves-entry x number (target_plan r g.t) g.s.memory reading l.from l.message (making_issues l.message) g.t (kept g.s) g.cut
          (cuts-leave is_prepared number (target_plan r g.t) g.s.opening g.s.memory reading l.from l.message (kept g.s) g.cut turn making)).kept has
      by IdleWork making turn has = absurd making

  cut-born : (x : AttemptId) → IsBorn r h w x → IsBorn r later v x
  cut-born x (inr a) = inr (grown x a)
  cut-born x (inl held) = elim (one-or_another (leader_of r x) g.t) [
    | inl own ↦
        let still = cut-kept x (held.entry, sym (ap (λ o. entry_in o x) g.here) ∙ ap (λ n. entry_at w n x) (sym own) ∙ held.found) in
        inl (record {
          entry = still.0;
          found = ap (λ n. entry_at v n x) own ∙ now-here w v g.t g.s (stopped_at g.s g.cut.left) g.here (ap (λ u. u.targets) g.after) (λ o. entry_in o x) ∙ still.1;
        })
    | inr off ↦
        inl (record {
          entry = held.entry;
          found = now-there w v g.t g.s (stopped_at g.s g.cut.left) g.here (ap (λ u. u.targets) g.after) (λ o. entry_in o x) (leader_of r x) off ∙ held.found;
        })
  ]

-- it is lost and told of as in any turn that is cut
pub making-cuts-keep-questions : MakingCutsKeepQuestions
making-cuts-keep-questions r h later w v right A g is grown B k = record {
  named = namings-happen r h w v A (IsCut g) tt k.named;
  waiting = waiting-happen r h w v A (IsCut g) tt k.waiting;
  rows = rows-happen r h w v right A (IsCut g) tt k.rows;
  inquiries =
      inquiries-loss r h later w v (cut_loss w v g.t g.s g.cut g.here g.after)
      (leaving.cut-leaves r h later w v grown g.t g.s g.cut g.here g.after (cut-born r h later w v g is grown)) A.prompt (knows-fates r h w A) (knows-fates r later v B)
      k.inquiries;
  senders = senders-happen r h later w v A B k.senders (IsCut g) tt;
}

-- ---- all else is of attempts

of-stops : (number : ℕ) (p : TargetPlan) (opening : Epoch × FloorWhy) (m : TargetMemory) (reading : ℕ) (from : ActorId) (q : Message) (old new : Kept) (left : TargetMemory × Did)
    → HearsFurther number p opening m reading from q old new left → tells_of_snapshots q ≡ false → is_of_stops q ≡ true
of-stops number p opening m reading from (message.Commit x ep first tracker ws) old new left h off = refl
of-stops number p opening m reading from (message.Ask x) old new left h off = refl
of-stops number p opening m reading from (message.Status x inc) old new left h off = refl
of-stops number p opening m reading from (message.StatusIs x inc how) old new left h off = refl
of-stops number p opening m reading from (message.Snap x c name tracker) old new left h off = let no : ⊥ = cc in absurd no
of-stops number p opening m reading from (message.Freeze x c s) old new left h off = let no : ⊥ = cc in absurd no
of-stops number p opening m reading from (message.Held x refusal) old new left h off = let no : ⊥ = cc in absurd no
of-stops number p opening m reading from (message.Prune x c tracker e) old new left h off = let no : ⊥ = cc in absurd no
of-stops number p opening m reading from (message.Reset' by down place (more_of-Message q rest)) old new left h off = inner q off
  where
    inner : (q : Message) → is_of_snapshots q ≡ false → is_of_stops (message.Reset' by down place (more_of-Message q rest)) ≡ true
    inner (message.Freeze x c s) is = let no : ⊥ = cc in absurd no
    inner (message.Prune x c tracker e) is = let no : ⊥ = cc in absurd no
    inner q is = refl
of-stops number p opening m reading from q old new left h off = absurd h

pub without-snapshots : (q : Message) → tells_of_snapshots q ≡ false → is_without_snapshots q ≡ true
without-snapshots (message.Snap x c called tracker) off = let no : ⊥ = cc in absurd no
without-snapshots (message.Freeze x c s) off = let no : ⊥ = cc in absurd no
without-snapshots (message.Held x refusal) off = let no : ⊥ = cc in absurd no
without-snapshots (message.Prune x c tracker e) off = let no : ⊥ = cc in absurd no
without-snapshots q off = refl

-- ---- whatever happens

module _ (r : Rules) (h later : History) (w v : World) (right : AskedRight r h w) (A : Attempts r h w) (B : Attempts r later v) (k : Questions r h w) where
  further-keeps : (g : HearsMore r w v) → (b : Bool) → tells_of_snapshots g.hears.l.message ≡ b → ((x : AttemptId) → Aborted h x → Aborted later x) → Questions r later v
  further-keeps g true is grown = making-keeps-questions r h later w v A g is grown B k
  further-keeps g false off grown =
      happenings-keep r h later w v right A (Further g)
      (of-stops g.number (target_plan r g.hears.t) g.hears.s.opening g.hears.s.memory g.hears.reading g.hears.l.from g.hears.l.message (kept g.hears.s) g.hears.new
      (g.hears.memory, g.hears.did) g.hears.turn off) tt grown B k

  cut-keeps : (g : TargetCut r w v) → AbortsGrow h later (IsCut g) → Questions r later v
  cut-keeps g grows = by g.work refl
    where
      plain : IsWithoutSnapshots g.work → Questions r later v
      plain ours = happenings-keep r h later w v right A (IsCut g) tt ours grows B k

      hearing : (l : Letter) (reading number : ℕ) → g.work ≡ Hearing l reading number → (b : Bool) → tells_of_snapshots l.message ≡ b → Questions r later v
      hearing l reading number at true is = making-cuts-keep-questions r h later w v right A g (subst IsWorkOfMaking (sym at) is) grows.aborted B k
      hearing l reading number at false off = plain (subst IsWithoutSnapshots (sym at) (without-snapshots l.message off))

      by : (a : AtWork) → g.work ≡ a → Questions r later v
      by IdleWork at = plain (subst IsWithoutSnapshots (sym at) tt)
      by (Hearing l reading number) at = hearing l reading number at (tells_of_snapshots l.message) refl

  happening-keeps : (e : Happening r w v) → AbortsGrow h later e → Questions r later v
  happening-keeps (Further g) grows = further-keeps g (tells_of_snapshots g.hears.l.message) refl grows
  happening-keeps (IsCut g) grows = cut-keeps g grows
  happening-keeps (Plainly e up) grows = happenings-keep r h later w v right A (Plainly e up) tt tt grows B k
  happening-keeps (Opens g) grows = happenings-keep r h later w v right A (Opens g) tt tt grows B k
  happening-keeps (Fails g) grows = happenings-keep r h later w v right A (Fails g) tt tt grows B k
  happening-keeps (GivenUp g) grows = happenings-keep r h later w v right A (GivenUp g) tt tt grows B k
  happening-keeps (Draws g) grows = happenings-keep r h later w v right A (Draws g) tt tt grows B k

pub all-happenings-keep-questions : AllHappeningsKeepQuestions
all-happenings-keep-questions r h later w v right A e grows B k = happening-keeps r h later w v right A B k e grows

pub all-events-keep-questions : AllEventsKeepQuestions
all-events-keep-questions r h later w v right A e grows B k =
    subst (Questions r later) (sym e.after) (sweeping-keeps r later e.u B (stopping.sweeping-keeps e.u r later B) (happening-keeps r h later w e.u right A B k e.happens grows))
