-- What a target sends shows its cause that hears of a snapshot or an aggregation.
use Rattle.std.specs.Prelude.{ℕ, ◌≡◌, ◌≤◌, ◌++◌, Bool, true, false, List, [], slice_get, Some, None, refl}
use Rattle.std.proofs.Common.{append-nil, sym, ◌∙◌, ap, subst}
use Rattle.base_types.specs.declared.epoch.Epoch.{Epoch}
use Rattle.base_types.specs.declared.id.AttemptId.{AttemptId}
use Rattle.base_types.specs.declared.id.ContId.{ContId}
use Rattle.base_types.specs.declared.outcome.Outcome.{Outcome}
use Rattle.base_messages.specs.declared.message.Message.{Message, more_of-Message}
use Rattle.base_messages.specs.declared.message.Message.TheVariants as message
use Rattle.base_messages.specs.declared.message.Post.{Post}
use Rattle.model_laws.specs.EntryLaws.{found-has, found-passes, same-attempt}
use Rattle.model_laws.specs.Members.{Has, contains-from_has, has-from_contains}
use Rattle.daos_model.specs.Opening.{Opening}
use Rattle.world_base.specs.declared.did.Did.{Did}
use Rattle.world_base.specs.declared.letter.Letter.{Letter}
use Rattle.world_base.specs.declared.target.Collection.{Collection}
use Rattle.world_base.specs.declared.target.TargetMemory.{TargetMemory}
use Rattle.world_base.specs.declared.target.TargetState.{TargetState}
use Rattle.world_base.specs.declared.world.World.{World}
use Rattle.world_base.specs.Changes.{Kept}
use Rattle.world_base.specs.Events.{Rules, kept, listed, target_plan}
use Rattle.world_base.specs.Further.{HearsFurther, collection_left, reset_by}
use Rattle.world_base.specs.Letters.{Takes, target}
use Rattle.world_base.specs.Snapshots as snap
use Rattle.world_legal.specs.world_causes.causes.Causes.{Stored}
use Rattle.world_legal.specs.world_causes.causes.CommitTurns.{RefusalShows}
use Rattle.world_legal.specs.world_causes.causes.Shown.{Causes, limit_over}
use Rattle.world_upheld.specs.causing.Collected.{freeze-tells, held-shows, nothing-issued, prune-dated, prune-tells, reset-shows}
use Rattle.world_upheld.specs.causing.Known.{IsMakingKnown, asked-now, asks_new, collected-gone, collects-for, few, freezer}
use Rattle.world_upheld.specs.causing.Posts.{EachShows, aggregate-shows, freeze-answers, freeze-comes, is_of_first_target, snap-shows}
use Rattle.world_upheld.specs.causing.Refusing.{refusal-anywhere}
use Rattle.world_letters.specs.epochs.Epochs.{AsksEpoch}
use Rattle.world_owners.specs.world_making.freezings.Turns.{held-so}
use Rattle.world_owners.specs.world_making.making.Ends.{as-done}
use Rattle.world_legal.specs.world_causes.showing.Further.{IsGone, TellsReset}
use Rattle.world_letters.specs.snapshots.Makings.{IsSo}
use Rattle.world_legal.specs.world_commit.statuses.Heard.{is_of_attempts}
use Rattle.world_letters.specs.talks.TalkLaws.{taken-is-among}

module _ (r : Rules) (o : Opening) (stored : Stored) (w : World) (K : IsMakingKnown r o w) (C : Causes r o stored w) (t : ℕ) (s : TargetState) (here : slice_get w.targets t ≡ Some s) (ticks : s.memory.ticks ≤ limit_over o w.lines w.issued) (reading : ℕ)
    (l : Letter) (rest : List Letter) (takes : Takes w.messages l rest) (to : l.to ≡ target t) where
  among : Has l w.messages
  among = has-from_contains w.messages l (taken-is-among w.messages l rest takes)

  so : (m : Message) → l.message ≡ m → IsSo r w.issued m
  so m is = subst (IsSo r w.issued) is (K.makings.letters l among)

  -- a refusal that is heard shows its cause, wherever more is stored
  refusal-here : (x : AttemptId) (how : Outcome) → l.message ≡ message.Held x (Some how) → RefusalShows r o stored w.issued w.lines x how
  refusal-here x how is = subst (λ js. RefusalShows r o stored js w.lines x how) (append-nil w.issued) (subst (λ ls. RefusalShows r o stored (w.issued ++ []) ls x how) (append-nil w.lines)
      (refusal-anywhere r o stored w.issued [] w.lines [] x how (K.refusals l x how (taken-is-among w.messages l rest takes) is)))

  -- a target that is down is one of an attempt's that is collected
  gone : (by : ℕ) (q : Message) (x : AttemptId) → ((down : Bool) → down ≡ true → TellsReset by true q l.message) → (down : Bool) (c : Collection) → down ≡ true → snap.collection_of x s.memory ≡ Some c → IsGone r w.lines x by
  gone by q x tells down c on found = collected-gone r o stored w K C t s here l rest takes to by q (tells down on) x c (found-has (snap.is_collection_of x) s.memory.collecting c found) (same-attempt c.attempt x (found-passes (snap.is_collection_of x) s.memory.collecting c found))

  module _ (number : ℕ) (new : Kept) (left : TargetMemory × Did) where
    abbrev Shows : Type 0
    Shows = EachShows r o stored (w.issued ++ listed left.1.issued) w.lines left.1.posts

    reset-tells : (by : ℕ) (down : Bool) (q : Message) (x : AttemptId) → left ≡ collection_left s.memory by down q → is_of_first_target q ≡ true → (down ≡ true → TellsReset by true q l.message)
        → (snap.collects_reset by down q s.memory).1 ≡ (snap.collection_reset by down q x (snap.collection_of x s.memory) s.memory).1 → Shows
    reset-tells by down q x says between tells same =
        nothing-issued r o stored w.issued w.lines s.memory (collects-for r o stored w K C t s here) left (collection_left s.memory by down q) says refl
        (subst (EachShows r o stored w.issued w.lines) (sym same) (reset-shows r o stored w.issued w.lines s.memory (collects-for r o stored w K C t s here) by down q x between (λ c on found. gone by q x (λ d z. tells on) down c on found) (snap.collection_of x s.memory) refl))

    lost-tells : (by : ℕ) (down : Bool) (q : Message) → TellsReset by down q l.message → down ≡ true → TellsReset by true q l.message
    lost-tells by down q tells on = subst (λ d. TellsReset by d q l.message) on tells

    -- whatever is heard of snapshots and aggregation
    pub making-shows : (m : Message) → l.message ≡ m → is_of_attempts m ≡ false → HearsFurther number (target_plan r t) s.opening s.memory reading l.from m (kept s) new left → Shows
    making-shows (message.Snap x c name tracker) is ours h =
        snap-shows r o w.issued w.lines t s.memory reading x c l.from (kept s) (freezer r o stored w K C t s here) (name, so _ is) stored (few r o stored w K C t s here) ticks tracker
        (asked-now r o stored w K C t s here l rest takes to x tracker (ap asks_new is) (subst (λ m. AsksEpoch m x tracker) (sym is) (refl, refl))) name (snap.is_held_by_all (target_plan r t) 0) h.last new left
        (freeze-comes (target_plan r t) s.memory reading tracker None c (snap.is_held_by_all (target_plan r t) 0) (kept s) h.reached.did h.last new h.reached.path) h.ends
    making-shows (message.Freeze x c e) is ours h = freeze-tells r o stored w.issued w.lines s.memory (collects-for r o stored w K C t s here) (target_plan r t) x c l.from h.last new left h.ends
    making-shows (message.Held x refusal) is ours h =
        held-shows r o stored w.issued w.lines s.memory (collects-for r o stored w K C t s here) (target_plan r t) l.from.number x refusal (λ how some. refusal-here x how (is ∙ ap (message.Held x) some)) (kept s) h.last new left
        (held-so (target_plan r t) s.memory l.from.number x refusal (kept s) new h.reached.did h.last h.reached.path) h.ends
    making-shows (message.Prune x c (Some tracker) None) is ours h =
        aggregate-shows r o stored w.issued w.lines t (few r o stored w K C t s here) s.memory ticks reading x tracker l.from
        (asked-now r o stored w K C t s here l rest takes to x tracker (ap asks_new is) (subst (λ m. AsksEpoch m x tracker) (sym is) (refl, refl))) c h.last new left
        (prune-dated (target_plan r t) s.memory reading tracker None c number (kept s) h.reached.did h.last new h.reached.path) h.ends
    making-shows (message.Prune x c None (Some g)) is ours h = prune-tells r o stored w.issued w.lines s.memory (collects-for r o stored w K C t s here) x l.from h.last new left h.ends
    making-shows (message.Prune x c None None) is ours h = absurd h
    making-shows (message.Prune x c (Some tracker) (Some g)) is ours h = absurd h
    making-shows (message.Reset' by down place (more_of-Message (message.Freeze x c e) more)) is ours h =
        reset-tells by down (message.Freeze x c e) x (as-done (reset_by (target_plan r t) s.memory by down (message.Freeze x c e)) h.last new left h.ends) refl (lost-tells by down (message.Freeze x c e) (subst (TellsReset by down (message.Freeze x c e)) (sym is) (refl, refl, refl))) refl
    making-shows (message.Reset' by down place (more_of-Message (message.Prune x c tracker e) more)) is ours h =
        reset-tells by down (message.Prune x c tracker e) x (as-done (reset_by (target_plan r t) s.memory by down (message.Prune x c tracker e)) h.last new left h.ends) refl (lost-tells by down (message.Prune x c tracker e) (subst (TellsReset by down (message.Prune x c tracker e)) (sym is) (refl, refl, refl))) refl
    making-shows (message.Reset' by down place (more_of-Message q more)) is ours h = let no : ⊥ = cc in absurd no
    making-shows (message.Commit x ep first tracker ws) is ours h = let no : ⊥ = cc in absurd no
    making-shows (message.Ask x) is ours h = let no : ⊥ = cc in absurd no
    making-shows (message.Status x inc) is ours h = let no : ⊥ = cc in absurd no
    making-shows (message.StatusIs x inc how) is ours h = let no : ⊥ = cc in absurd no
    making-shows m is ours h = absurd h

    -- a freeze is answered so that a refusal shows its cause
    pub answers-show : (x : AttemptId) (c : ContId) (asked : Epoch) → l.message ≡ message.Freeze x c asked → HearsFurther number (target_plan r t) s.opening s.memory reading l.from (message.Freeze x c asked) (kept s) new left
        → (q : Post) (y : AttemptId) (how : Outcome) → Has q left.1.posts → q.message ≡ message.Held y (Some how) → RefusalShows r o [] w.issued w.lines y how
    answers-show x c asked is h =
        freeze-answers r o w.issued w.lines t s.memory reading x c l.from (kept s) (freezer r o stored w K C t s here) (so _ is).1 asked (contains-from_has w.issued (x, asked) (so _ is).0)
        (λ e i. K.dates.one x c e asked (so _ is).1 (contains-from_has w.issued (x, e) i) (contains-from_has w.issued (x, asked) (so _ is).0)) (K.dates.above x c asked (so _ is).1 (contains-from_has w.issued (x, asked) (so _ is).0)) false h.last new left
        (freeze-comes (target_plan r t) s.memory reading asked (Some asked) c false (kept s) h.reached.did h.last new h.reached.path) h.ends
