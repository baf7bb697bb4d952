-- The facts of outcomes hold where a run begins, each event of a target keeps them, and what follows from them.
use Rattle.std.specs.Prelude.{ℕ, ◌≡◌, ◌⊎◌, Bool, true, false, [], slice_get, Option, Some, None, find, refl}
use Rattle.std.proofs.Common.{◌∙◌, ap, subst, inl, inr}
use Rattle.base_types.specs.declared.entry.Entry.{Entry}
use Rattle.base_types.specs.declared.id.AttemptId.{AttemptId}
use Rattle.base_types.specs.declared.outcome.Outcome.{Outcome}
use Rattle.base_types.specs.declared.outcome.Outcome.TheVariants as outcome
use Rattle.model_laws.specs.Members.{Has, has-from_contains}
use Rattle.base_messages.specs.declared.message.Message.{Message}
use Rattle.base_messages.specs.declared.message.Message.TheVariants as message
use Rattle.daos_model.specs.Attempts.{is_unknown, tries}
use Rattle.daos_model.specs.Durables.{entry_of, is_entry_of}
use Rattle.world_contents.specs.world_commit.attempts.Attempts.{IsBorn, entry_in, leader_of}
use Rattle.world_contents.specs.world_commit.attempts.Counting.{has-taken}
use Rattle.world_contents.specs.world_commit.attempts.History.{GrowsBy, History}
use Rattle.world_base.specs.declared.letter.Letter.{Letter}
use Rattle.world_base.specs.declared.target.TargetState.{TargetState}
use Rattle.world_base.specs.declared.world.World.{World}
use Rattle.world_base.specs.Events.{ByClient, ByTarget, Rules, ToClient, ToTarget, kept, target_after, target_plan, rightly}
use Rattle.world_base.specs.Further.{HearsFurther}
use Rattle.world_base.specs.Stops.{Draws, Fails, Further, GivenUp, HearsMore, IsCut, Opens, Plainly, swept}
use Rattle.world_contents.specs.world_commit.fates.Rightly.{letters-tell}
use Rattle.world_contents.specs.world_commit.statuses.Events.{told_by}
use Rattle.world_contents.specs.world_commit.statuses.Fates.{told_by_it}
use Rattle.world_contents.specs.world_commit.stops.Happenings.{told_in}
use Rattle.world_causes.specs.outcomes.AfterStops.{after_stop-concludes, is_after_stop}
use Rattle.world_causes.specs.outcomes.Making.{is_making_message, making-concludes}
use Rattle.world_causes.specs.outcomes.Concluding.{Concludes, concluding-keeps}
use Rattle.world_causes.specs.outcomes.Keeping.{DecidedAreTold, FailedAreUndecided, HappeningsKeepOutcomes, IsUsual, OutcomesBegin, SweepingKeepsOutcomes, TargetsKeepOutcomes, ToldAreUndecided}
use Rattle.world_causes.specs.outcomes.Outcomes.{Outcomes, is_failed}
use Rattle.world_causes.specs.outcomes.Rightly.{idling-concludes, rightly-concludes}
use Rattle.world_causes.specs.outcomes.Stopping.{cut-concludes, cut-told, drawing-concludes, failing-concludes, giving-up-concludes, opening-concludes, sweeping-concludes}

-- ---- at the beginning

pub outcomes-begin : OutcomesBegin
unfolding tries entry_of
outcomes-begin r h w none lines = record {
  told = λ l x own how i says some. absurd (nothing l i);
  lines = λ a i some. absurd (subst (λ ls. Has a (tries ls)) lines (has-from_contains (tries w.lines) a i));
  new = λ l x i is born. nothing l i;
  handed = λ x born. absurd (unborn x born);
}
  where
    nothing : (l : Letter) → Has l w.messages → ⊥
    nothing l i = subst (Has l) none.none.messages i

    unkept : (u : ℕ) (x : AttemptId) (o : Option TargetState) → slice_get w.targets u ≡ o → (e : Entry) → entry_in o x ≡ Some e → ⊥
    unkept u x None at e found = let no : ⊥ = cc in no
    unkept u x (Some s) at e found = let gone : entry_of s.durable x ≡ None = ap (λ es. find (is_entry_of x) es) (none.none.targets u s at).entries in let no : ⊥ = cc (gone, found) in no

    unborn : (x : AttemptId) → IsBorn r h w x → ⊥
    unborn x (inl held) = unkept (leader_of r x) x (slice_get w.targets (leader_of r x)) refl held.entry held.found
    unborn x (inr a) = subst (Has x) none.none.aborted a

-- ---- events of targets

keeps : (r : Rules) (h later : History) (w v : World) → IsUsual r h later w v → Outcomes r h w → Concludes r h later w v → Outcomes r later v
keeps r h later w v u k g = concluding-keeps r h later w v u.hands u.past g k

pub targets-keep : TargetsKeepOutcomes
targets-keep r h later w v u k (ByClient g) of_target grows = absurd of_target
targets-keep r h later w v u k (ToClient g) of_target grows = absurd of_target
targets-keep r h later w v u k (ToTarget g) of_target grows = keeps r h later w v u k (rightly-concludes r h later w v u.attempts u.attempts_then u.commits_then g grows)
targets-keep r h later w v u k (ByTarget g) of_target grows = keeps r h later w v u k (idling-concludes r h later w v u.attempts u.attempts_then u.commits_then g grows)

-- a message is heard after stops, or of snapshots and aggregation
module _ (r : Rules) (h later : History) (w v : World) (u : IsUsual r h later w v) (k : Outcomes r h w) (g : HearsMore r w v) (grows : GrowsBy h (told_by (Further g)) later) where
  further-concludes : (m : Message) → g.hears.l.message ≡ m → HearsFurther g.number (target_plan r g.hears.t) g.hears.s.opening g.hears.s.memory g.hears.reading g.hears.l.from m (kept g.hears.s) g.hears.new (g.hears.memory, g.hears.did) → Concludes r h later w v
  further-concludes m is turn = by (is_after_stop m) refl (is_making_message m) refl
    where
      none : is_making_message m ≡ true → GrowsBy h [] later
      none making = subst (λ ps. GrowsBy h ps later) (ap (λ n. told_by_it n g.hears.s (target_after g.hears.s g.hears.new g.hears.memory) g.hears.did.posts) is ∙ unsaid m making) grows
        where
          unsaid : (n : Message) → is_making_message n ≡ true → told_by_it n g.hears.s (target_after g.hears.s g.hears.new g.hears.memory) g.hears.did.posts ≡ []
          unsaid (message.Snap x cont name tracker) making = refl
          unsaid (message.Freeze x cont e) making = refl
          unsaid (message.Held x refusal) making = refl
          unsaid (message.Prune x cont tracker e) making = refl
          unsaid n making = let no : ⊥ = cc in absurd no

      other : (n : Message) → HearsFurther g.number (target_plan r g.hears.t) g.hears.s.opening g.hears.s.memory g.hears.reading g.hears.l.from n (kept g.hears.s) g.hears.new (g.hears.memory, g.hears.did) → is_after_stop n ≡ false → is_making_message n ≡ false → ⊥
      other (message.Commit x ep first tracker ws) turn2 after making = let no : ⊥ = cc in no
      other (message.Ask x) turn2 after making = let no : ⊥ = cc in no
      other (message.Status x inc) turn2 after making = let no : ⊥ = cc in no
      other (message.StatusIs x inc how) turn2 after making = let no : ⊥ = cc in no
      other (message.Snap x c called tracker) turn2 after making = let no : ⊥ = cc in no
      other (message.Freeze x c s) turn2 after making = let no : ⊥ = cc in no
      other (message.Held x refusal) turn2 after making = let no : ⊥ = cc in no
      other (message.Prune x c tracker e) turn2 after making = let no : ⊥ = cc in no
      other (message.Reset' target down place asked) turn2 after making = let no : ⊥ = cc in no
      other n turn2 after making = turn2

      by : (b : Bool) → is_after_stop m ≡ b → (c : Bool) → is_making_message m ≡ c → Concludes r h later w v
      by true after c making = after_stop-concludes g.number r h later w v u.attempts u.attempts_then k u.asks u.commits_then g.hears (ap is_after_stop is ∙ after) grows
      by false off true making = making-concludes g.number r h later w v u.attempts u.attempts_then u.makers u.commits_then g.hears (ap is_making_message is ∙ making) (none making)
      by false off false making = absurd (other m turn off making)

pub happenings-keep : HappeningsKeepOutcomes
happenings-keep r h later w v u k (Plainly (ByClient g) up) of_target grows = absurd of_target
happenings-keep r h later w v u k (Plainly (ToClient g) up) of_target grows = absurd of_target
happenings-keep r h later w v u k (Plainly (ToTarget g) up) of_target grows =
    targets-keep r h later w v u k (ToTarget (rightly r w v g (letters-tell r h w u.attempts g.l g.t g.s (has-taken w.messages g.l g.rest g.takes) g.to_it g.here))) tt grows
happenings-keep r h later w v u k (Plainly (ByTarget g) up) of_target grows = targets-keep r h later w v u k (ByTarget g) tt grows
happenings-keep r h later w v u k (Further g) of_target grows = keeps r h later w v u k (further-concludes r h later w v u k g grows g.hears.l.message refl g.hears.turn)
happenings-keep r h later w v u k (IsCut g) of_target grows = keeps r h later w v u k (cut-concludes r h later w v u.attempts u.attempts_then g (told_in (IsCut g)) grows (cut-told r h w v u.attempts g))
happenings-keep r h later w v u k (Opens g) of_target grows = keeps r h later w v u k (opening-concludes r h later w v g grows)
happenings-keep r h later w v u k (Fails g) of_target grows = keeps r h later w v u k (failing-concludes r h later w v g grows)
happenings-keep r h later w v u k (GivenUp g) of_target grows = keeps r h later w v u k (giving-up-concludes r h later w v g grows)
happenings-keep r h later w v u k (Draws g) of_target grows = keeps r h later w v u k (drawing-concludes r h later w v g grows)

pub sweeping-keeps : SweepingKeepsOutcomes
sweeping-keeps r h w over past k = concluding-keeps r h h w (swept w) over past (sweeping-concludes r h w) k

-- ---- what follows

pub told-undecided : ToldAreUndecided
told-undecided r h w x own how e attempts t failed d =
    let held = (attempts.on.each x).entries.held_by_leader e d in
    let found = held.found in
    let none = t.failed failed in
    (let no : ⊥ = cc (found, none) in no)

pub failed-undecided : FailedAreUndecided
failed-undecided r h w a e attempts k i some failed d = told-undecided r h w a.id a.epoch a.outcome e attempts (k.lines a i some) failed d

pub decided-told : DecidedAreTold
decided-told r h w a e attempts k i some d = by a.outcome (λ failed. failed-undecided r h w a e attempts k i some failed d)
  where
    by : (how : Outcome) → (is_failed how ≡ true → ⊥) → (how ≡ outcome.Committed) ⊎ (is_unknown how ≡ true)
    by outcome.Committed off = inl refl
    by (outcome.Unknown t) off = inr refl
    by (outcome.CondFailed op) off = absurd (off refl)
    by (outcome.Restart why) off = absurd (off refl)
    by (outcome.NoSpace t need free) off = absurd (off refl)
    by outcome.EpochsSpent off = absurd (off refl)
    by outcome.NoSnapshot off = absurd (off refl)
