-- Whatever happens keeps the facts of versions and reads, also what is heard of snapshots and aggregation.
use Rattle.std.specs.Prelude.{ℕ, ◌≡◌, Bool, true, false, List, [], Contains, refl}
use Rattle.std.proofs.Common.{sym, ◌∙◌, ap, subst}
use Rattle.std.proofs.lemmas.List.Elements.{Contains-append_left}
use Rattle.base_messages.specs.declared.message.Message.{Message}
use Rattle.base_messages.specs.declared.message.Message.TheVariants as message
use Rattle.base_messages.specs.declared.message.Post.{Post}
use Rattle.daos_model.specs.Opening.{Opening}
use Rattle.daos_model.specs.declared.durable.Version.{Version}
use Rattle.world_causes.specs.world_commit.attempts.Counting.{has-taken}
use Rattle.world_causes.specs.world_commit.attempts.History.{GrowsBy, History}
use Rattle.world_base.specs.declared.target.TargetState.{TargetState}
use Rattle.world_base.specs.declared.world.World.{World}
use Rattle.world_base.specs.Events.{Rules, TargetHearsBy, kept, listed, target_after, target_plan}
use Rattle.world_base.specs.Further.{HearsFurther}
use Rattle.world_base.specs.Stops.{AtWork, CutOf, Draws, Fails, Further, GivenUp, Happening, Hearing, HearsMore, IdleWork, IsCut, IsInHand, Opens, Plainly, TargetCut, WorldEvent, swept}
use Rattle.world_causes.specs.hearing.Going.{AnswersAreServed, Before, GoesOn}
use Rattle.world_causes.specs.hearing.HappeningReads.{happenings-keep}
use Rattle.world_causes.specs.hearing.PlainTurns.{knows, stays-on}
use Rattle.world_causes.specs.world_contents.reads.Adds.{none-answered}
use Rattle.world_causes.specs.world_contents.reads.GrowLaws.{none-grows}
use Rattle.world_causes.specs.world_contents.reads.Midway.{Sound}
use Rattle.world_causes.specs.world_contents.reads.Reads.{Reads}
use Rattle.world_causes.specs.world_contents.reads.Versions.{Versions}
use Rattle.world_causes.specs.restarts.OpenLaws.{sweep-keeps}
use Rattle.world_causes.specs.restarts.StopLaws.{one-changes, sound-keeps, stop-keeps}
use Rattle.world_causes.specs.world_commit.statuses.Events.{told_by}
use Rattle.world_causes.specs.world_commit.statuses.Fates.{told_by_it, told_further}
use Rattle.world_causes.specs.world_commit.statuses.Heard.{is_of_attempts}
use Rattle.world_causes.specs.world_commit.stops.CutEvents.{IsWithoutSnapshots, cut_told, is_without_snapshots, message_told}
use Rattle.world_making.specs.prunings.MakingTurns.{making-cut, making-sound}
use Rattle.world_making.specs.prunings.Premises.{MakersStand}
use Rattle.world_making.specs.prunings.Saying.{SaysQuietly, says-quietly}

-- ---- the statement

abbrev pub AllEventsKeepReads : Type 0
AllEventsKeepReads =
    (r : Rules) (o : Opening) (held : ℕ → List Version) (h : History) (w v : World) → Before r o held h w → MakersStand r o w → (e : WorldEvent r w v) → GoesOn r o held h v (told_by e.happens) (AnswersAreServed e.happens)

-- ---- what is heard of snapshots and aggregation tells of no attempt's fate

none-told : (m : Message) (s z : TargetState) (posts : List Post) → is_of_attempts m ≡ false → told_by_it m s z posts ≡ []
none-told (message.StatusIs x inc how) s z posts ours = let no : ⊥ = cc in absurd no
none-told (message.Commit x ep first tracker ws) s z posts ours = let no : ⊥ = cc in absurd no
none-told m s z posts ours = refl

module _ (r : Rules) (o : Opening) (held : ℕ → List Version) (h : History) (w v : World) (b : Before r o held h w) (k : MakersStand r o w) where
  -- ---- a whole turn

  module _ (more : HearsMore r w v) (ours : is_of_attempts more.hears.l.message ≡ false) where
    abbrev g : TargetHearsBy (HearsFurther more.number) r w v
    g = more.hears

    quiet : SaysQuietly g.s.memory (g.memory, g.did)
    quiet = says-quietly more.number (target_plan r g.t) g.s.opening g.s.memory g.reading g.l.from g.l.message (kept g.s) g.new (g.memory, g.did) ours g.turn

    sound : Sound r o (held g.t) h h.served g.s.opening g.t g.new.durable g.memory.stamps
    sound =
        subst (Sound r o (held g.t) h h.served g.s.opening g.t g.new.durable) (sym quiet.stamps)
        (making-sound r o held h w (knows r o held h w v b) k g.t g.s g.here g.runs g.l (has-taken w.messages g.l g.rest g.takes) more.number g.reading g.new (g.memory, g.did) g.l.message refl ours g.turn)

    then : Versions r o held h v × Reads r o h v
    then =
        one-changes r o held h w v g.t g.s (target_after g.s g.new g.memory) g.here (ap (λ u. u.targets) g.after)
        (λ i j. subst (λ u. Contains u.issued i) (sym g.after) (Contains-append_left w.issued (listed g.did.issued) i j))
        (sound-keeps r o (held g.t) h [] g.s.opening g.t g.new.durable g.memory.stamps sound)
        (record { guarded = λ q i at runs. sound.shows.guarded q i at; stamps = λ y runs i. sound.shows.stamped y i }) b.versions b.reads

    making-goes : GoesOn r o held h v (told_further more) (AnswersAreServed (Further more))
    making-goes = record {
      later = h;
      grows = subst (λ ps. GrowsBy h ps h) (sym (none-told g.l.message g.s (target_after g.s g.new g.memory) g.did.posts ours)) (none-grows h [] (λ p i. absurd i));
      served = λ q i. i;
      also = none-answered h.served g.t g.l.message g.s.memory.member.parked g.did.posts quiet.silent;
      versions = then.0;
      reads = then.1;
    }

  -- ---- one that is cut

  message-none : (m : Message) (g : TargetCut r w v) → is_without_snapshots m ≡ false → message_told m g.s g.cut ≡ []
  message-none (message.Ack x inc refusal) g ours = let no : ⊥ = cc in absurd no
  message-none (message.StatusIs x inc how) g ours = let no : ⊥ = cc in absurd no
  message-none m g ours = refl

  cut-goes : (g : TargetCut r w v) → GoesOn r o held h v (cut_told g.work g.s g.cut) (λ later. Unit {0})
  cut-goes g = by g.work refl
    where
      by : (a : AtWork) → g.work ≡ a → GoesOn r o held h v (cut_told g.work g.s g.cut) (λ later. Unit {0})
      by IdleWork is = happenings-keep r o held h w v b (IsCut g) (subst IsWithoutSnapshots (sym is) tt)
      by (Hearing l reading number) is = heard (is_without_snapshots l.message) refl
        where
          heard : (plain : Bool) → is_without_snapshots l.message ≡ plain → GoesOn r o held h v (cut_told g.work g.s g.cut) (λ later. Unit {0})
          heard true plain = happenings-keep r o held h w v b (IsCut g) (subst IsWithoutSnapshots (sym is) plain)
          heard false ours = subst (λ ps. GoesOn r o held h v ps (λ later. Unit {0})) (sym (ap (λ a. cut_told a g.s g.cut) is ∙ message-none l.message g ours)) (stays-on r o held h w v b (λ later. Unit {0}) tt kept')
            where
              in_hand : IsInHand w g.t (Hearing l reading number)
              in_hand = subst (IsInHand w g.t) is g.in_hand

              turn : CutOf (target_plan r g.t) g.s (Hearing l reading number) g.cut
              turn = subst (λ a. CutOf (target_plan r g.t) g.s a g.cut) is g.turn

              sound : Sound r o (held g.t) h h.served g.s.opening g.t g.cut.left.durable g.s.memory.stamps
              sound = making-cut r o held h w (knows r o held h w v b) k g.t g.s g.here g.runs l (has-taken w.messages l in_hand.0.0 in_hand.0.1) number reading g.cut l.message refl ours turn

              kept' : Versions r o held h v × Reads r o h v
              kept' = stop-keeps r o held h w v g.t g.s g.cut g.here (sound-keeps r o (held g.t) h [] g.s.opening g.t g.cut.left.durable g.s.memory.stamps sound) g.after b.versions b.reads

  -- ---- whatever happens

  happenings-go : (e : Happening r w v) → GoesOn r o held h v (told_by e) (AnswersAreServed e)
  happenings-go (Further g) = by (is_of_attempts g.hears.l.message) refl
    where
      by : (plain : Bool) → is_of_attempts g.hears.l.message ≡ plain → GoesOn r o held h v (told_further g) (AnswersAreServed (Further g))
      by true plain = happenings-keep r o held h w v b (Further g) plain
      by false ours = making-goes g ours
  happenings-go (IsCut g) = cut-goes g
  happenings-go (Plainly e up) = happenings-keep r o held h w v b (Plainly e up) tt
  happenings-go (Opens g) = happenings-keep r o held h w v b (Opens g) tt
  happenings-go (Fails g) = happenings-keep r o held h w v b (Fails g) tt
  happenings-go (GivenUp g) = happenings-keep r o held h w v b (GivenUp g) tt
  happenings-go (Draws g) = happenings-keep r o held h w v b (Draws g) tt

pub all-events-keep_reads : AllEventsKeepReads
all-events-keep_reads r o held h w v b k e = record {
  later = z.later;
  grows = z.grows;
  served = z.served;
  also = z.also;
  versions = subst (Versions r o held z.later) (sym e.after) s.0;
  reads = subst (Reads r o z.later) (sym e.after) s.1;
}
  where
    z : GoesOn r o held h e.u (told_by e.happens) (AnswersAreServed e.happens)
    z = happenings-go r o held h w e.u b k e.happens

    s : Versions r o held z.later (swept e.u) × Reads r o z.later (swept e.u)
    s = sweep-keeps r o held z.later e.u z.versions z.reads
