-- A leader hears a Commit with a member that it knows to be down: nothing is stored, and the client is told.
use Rattle.std.specs.Prelude.{ℕ, ◌≡◌, ◌++◌, false, List, [], filter, Option, Some, None, refl}
use Rattle.std.proofs.Common.{sym, ap, subst, inl, inr}
use Rattle.base_types.specs.declared.epoch.Epoch.{Epoch}
use Rattle.base_types.specs.declared.id.AttemptId.{AttemptId}
use Rattle.base_types.specs.declared.operation.MinorWrite.{MinorWrite}
use Rattle.base_types.specs.declared.outcome.Outcome.TheVariants.{EpochsSpent, Unknown}
use Rattle.model_laws.specs.Members.{Has}
use Rattle.base_messages.specs.declared.message.Message.TheVariants as message
use Rattle.world_commit.specs.attempts.Asked.{IsCommitNew}
use Rattle.world_commit.specs.attempts.Attempts.{IsOrdered}
use Rattle.world_commit.specs.attempts.Frames.{SameFate, same-untold}
use Rattle.world_commit.specs.attempts.History.{GrowsBy, History}
use Rattle.world_commit.specs.attempts.Turning.{at_work}
use Rattle.world_commit.specs.fates.Asked.{AskedRight}
use Rattle.world_commit.specs.fates.CommitTurns as commit
use Rattle.world_commit.specs.fates.Concerns.{concerns}
use Rattle.world_commit.specs.fates.Facts.{IsSaidSo, Ongoing, PromptsFly, is_prompt_kind}
use Rattle.world_commit.specs.fates.Frames.{LettersCome}
use Rattle.world_commit.specs.fates.Overs.{Over, over-asked, over-letters, over-mail, over-works}
use Rattle.world_commit.specs.fates.Prompts.{AreSpoken}
use Rattle.world_commit.specs.fates.Speaking.{ended-alone}
use Rattle.world_commit.specs.fates.Stepping.{attempts-quiet}
use Rattle.world_commit.specs.fates.Working.{work-begins}
use Rattle.world_commit.specs.statuses.Fates.{tells_fate}
use Rattle.world_commit.specs.statuses.Turns.{hears-flies, hears-over, hears-spoken}
use Rattle.world_base.specs.declared.did.Did.{Did}
use Rattle.world_base.specs.declared.letter.Letter.{Letter}
use Rattle.world_base.specs.declared.target.TargetMemory.{TargetMemory}
use Rattle.world_base.specs.declared.world.World.{World}
use Rattle.world_base.specs.Changes.{Kept}
use Rattle.world_base.specs.Commits as commits
use Rattle.world_base.specs.Events.{Rules, TargetHearsBy, kept, listed, target_after, target_plan}
use Rattle.world_base.specs.Further as further
use Rattle.world_base.specs.Letters.{client, letters_of, target}
use Rattle.world_base.specs.PathLaws.{path-keeps}
use Rattle.world_base.specs.Requests.{with_ticks}
use Rattle.world_base.specs.StepLaws.{set-here}
use Rattle.world_base.specs.TargetTurns.{commit_request}

module _ (number : ℕ) (r : Rules) (h later : History) (w v : World) (right : AskedRight r h w) (k : Ongoing r h w) (g : TargetHearsBy (further.HearsFurther number) r w v) (x : AttemptId) (ep first : Option Epoch) (tracker : Epoch) (ws : List MinorWrite)
    (is : g.l.message ≡ message.Commit x ep first tracker ws)
    (turn : further.HearsFurther number (target_plan r g.t) g.s.opening g.s.memory g.reading g.l.from (message.Commit x ep first tracker ws) (kept g.s) g.new (g.memory, g.did)) where
  sender : g.l.from ≡ client x.client
  sender = right.senders g.l x ep first tracker ws (hears-flies number r w v g) is

  new : IsCommitNew r h w g.l.to x ep ws
  new = right.commits g.l x ep first tracker ws (hears-flies number r w v g) is

  abbrev AtCommit : commits.CommitStage → Kept → Type 0
  AtCommit = commit.AtCommit r h later w v g.t g.s g.here g.runs g.s.memory g.l g.rest g.takes g.to_it x ep first tracker ws is new sender g.reading

  so-far : AtCommit turn.last g.new
  so-far =
      path-keeps (commits.CommitNext (target_plan r g.t) g.s.opening g.s.memory g.reading (commit_request x ep first tracker ws)) AtCommit
      (commit.commit-step r h later w v g.t g.s g.here g.runs g.s.memory g.l g.rest g.takes g.to_it x ep first tracker ws is new sender g.s.opening g.reading) commits.Asked (kept g.s) turn.reached.did turn.last g.new turn.reached.path
      (commit.commit-begins r h later w v g.t g.s g.here g.runs g.s.memory g.l g.rest g.takes g.to_it x ep first tracker ws is new sender (kept g.s) refl (work-begins r h w g.t g.s g.here k))

  -- it is unknown what becomes of it, since nothing does
  module _ (n : Kept) (e : Epoch) (down : ℕ) (on : Ongoing r h (at_work w g.t (target_after g.s n g.s.memory) []))
      (over : Over w v g.t (target_after g.s n (with_ticks e g.s.memory)) g.l g.rest (letters_of (target g.t) (commits.ends_at (commit_request x ep first tracker ws) g.l.from e (Unknown down)).posts)) (grows : GrowsBy h [] later) where
    abbrev ls : List Letter
    ls = letters_of (target g.t) (commits.ends_at (commit_request x ep first tracker ws) g.l.from e (Unknown down)).posts

    fate : (y : AttemptId) → SameFate h later y
    fate y = same-untold h later [] y grows (λ own how told. told.sent)

    spare : (y : AttemptId) (i : Letter) → Has i ls → concerns y i.message ≡ false
    spare y i (inl same) = ap (λ j. concerns y j.message) same
    spare y i (inr none) = absurd none

    come : LettersCome r later (at_work w g.t (target_after g.s n g.s.memory) []) v
    come i among = elim (over-letters w v g.t g.s (target_after g.s n g.s.memory) (target_after g.s n (with_ticks e g.s.memory)) g.l g.rest ls over i among) [
      | inl before ↦ inl before
      | inr (inl same) ↦ inr (subst (λ j. IsSaidSo r later v j.from j.to j.message) (sym same) tt)
      | inr (inr none) ↦ absurd none
    ]

    own : IsOrdered (target_after g.s n g.s.memory)
    own = on.ordered g.t (target_after g.s n g.s.memory) (set-here w.targets g.t g.s (target_after g.s n g.s.memory) g.here)

    unknown-keeps : Ongoing r later v
    unknown-keeps =
        attempts-quiet r h later (at_work w g.t (target_after g.s n g.s.memory) []) v g.t (target_after g.s n g.s.memory) (target_after g.s n (with_ticks e g.s.memory))
        (over-works w v g.t g.s (target_after g.s n g.s.memory) (target_after g.s n (with_ticks e g.s.memory)) g.l g.rest ls over g.here (record { incarnation = refl; runs = g.runs; life = refl; down = refl }))
        (λ y. record {
          stays = record { entry = refl; row = refl; known = refl };
          fate = fate y;
          mail = over-mail w v g.t g.s (target_after g.s n g.s.memory) (target_after g.s n (with_ticks e g.s.memory)) g.l g.rest ls over r h y (ap (concerns y) is) (spare y);
        }) come (over-asked w v g.t g.s (target_after g.s n g.s.memory) (target_after g.s n (with_ticks e g.s.memory)) g.l g.rest ls over) (record { entries = own.entries; decided = own.decided }) on

  ends : (stage : commits.CommitStage) (n : Kept) (left : TargetMemory × Did) → further.CommitDown (target_plan r g.t) g.s.memory g.reading (commit_request x ep first tracker ws) g.l.from stage n left → AtCommit stage n
      → Over w v g.t (target_after g.s n left.0) g.l g.rest (letters_of (target g.t) left.1.posts) → GrowsBy h (filter tells_fate left.1.posts) later → v.issued ≡ w.issued ++ listed left.1.issued → Ongoing r later v
  ends stage n left (further.IsSpent n2 e down left2 none known is2) p over grows all =
      commit.commit-ends r h later w v g.t g.s g.here g.runs g.s.memory g.l g.rest g.takes g.to_it x ep first tracker ws is new sender g.s.opening g.reading g.l.from sender commits.Asked n2 left2 (commits.IsSpent n2 left2 none is2) p over
      (subst (λ i. GrowsBy h i.1.posts later) (sym is2) (subst (λ i. GrowsBy h (filter tells_fate i.1.posts) later) is2 grows)) all
  ends stage n left (further.IsUnknown n2 e down left2 known is2) p over grows all =
      unknown-keeps n2 e down p.on.on (subst (λ i. Over w v g.t (target_after g.s n2 i.0) g.l g.rest (letters_of (target g.t) i.1.posts)) is2 over) (subst (λ i. GrowsBy h (filter tells_fate i.1.posts) later) is2 grows)

  pub down-keeps : GrowsBy h (filter tells_fate g.did.posts) later → Ongoing r later v
  down-keeps grows = ends turn.last g.new (g.memory, g.did) turn.ends so-far (hears-over number r w v g) grows (ap (λ u. u.issued) g.after)

  spoken : (stage : commits.CommitStage) (n : Kept) (left : TargetMemory × Did) → further.CommitDown (target_plan r g.t) g.s.memory g.reading (commit_request x ep first tracker ws) g.l.from stage n left → AreSpoken left.1.posts
  spoken stage n left (further.IsSpent n2 e down left2 none known is2) = subst (λ i. AreSpoken i.1.posts) (sym is2) (ended-alone g.l.from x None EpochsSpent (ap (λ a. a.client) sender))
  spoken stage n left (further.IsUnknown n2 e down left2 known is2) = subst (λ i. AreSpoken i.1.posts) (sym is2) (ended-alone g.l.from x (Some e) (Unknown down) (ap (λ a. a.client) sender))

  pub down-prompts : PromptsFly w → PromptsFly v
  down-prompts fly = hears-spoken number r w v g (ap is_prompt_kind is) (spoken turn.last g.new (g.memory, g.did) turn.ends) fly
