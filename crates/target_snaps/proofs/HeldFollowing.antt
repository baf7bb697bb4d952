-- What follows from a Held, and from a Reset of what was asked: that has form, goes with what was asked, and carries nothing of reads.
use Rattle.std.proofs.Common.{ℕ, ◌≡◌, refl, sym, ◌∙◌, ap, subst, inl, inr, Bool, true, false, List, [], ◌∷◌, map, Option, None, Some}
use Rattle.std.specs.Prelude.{if◌then◌else◌}
use Rattle.base_types.specs.declared.id.AttemptId.{AttemptId}
use Rattle.base_types.specs.declared.outcome.Outcome.{Outcome}
use Rattle.base_types.specs.declared.outcome.Outcome.TheVariants.{Committed, Unknown}
use Rattle.base_messages.specs.declared.actor.ActorId.{ActorId}
use Rattle.base_messages.specs.declared.message.Message.{Message}
use Rattle.base_messages.specs.declared.message.Message.TheVariants as message
use Rattle.base_messages.specs.declared.message.Post.{Post}
use Rattle.daos_model.specs.Durables.{same_attempt}
use Rattle.dtx_base.specs.Leading.{to_target}
use Rattle.dtx_base.specs.Members.{with_target}
use Rattle.model_laws.specs.EntryLaws.{found-has, found-passes, same-attempt}
use Rattle.model_laws.specs.Members.{has-from_filter, has-from_map}
use Rattle.snap_core.specs.Snaps.{SnapOf, SnapStep, are_all_others, collection_in, held, held_heard, lost, quietly, reset_heard, step_of, told, with_collecting, without}
use Rattle.world_base.specs.declared.target.Collection.{Collection}
use Rattle.world_base.specs.Snapshots.{held_at, is_collection_of, is_other_collection}
use Rattle.target_parts.specs.world_contents.posts.Forms.{IsCollecting, TargetPosts}
use Rattle.target_parts.specs.world_contents.posts.Posting.{none-posted, one-posted, to-client, to-other}
use Rattle.world_ended.specs.Asking.{Asked, AsksSo, GoesWith, IsEnd}
use Rattle.world_ended.specs.PostLaws as ended
use Rattle.world_ended.specs.world_letters.kinds.PostLaws.{CarryNone, none-carried}
use Rattle.target_snaps.specs.Following.{IsWithin, MakesAsked, MakesInForm}
use Rattle.target_snaps.proofs.Following.{one-carries}

-- what a step comes to has form
abbrev pub StepInForm : ℕ → SnapOf → SnapStep → Type 0
StepInForm targets s k = MakesInForm targets s.collecting k.snaps.collecting k.posts

-- and goes with what was asked
abbrev pub StepAsked : Asked → SnapOf → SnapStep → Type 0
StepAsked asked s k = MakesAsked asked s.collecting k.snaps.collecting k.posts

quiet-form : (targets : ℕ) (s : SnapOf) → StepInForm targets s (quietly s)
quiet-form targets s waits = (none-posted targets, waits)

quiet-asked : (asked : Asked) (s : SnapOf) → StepAsked asked s (quietly s)
quiet-asked asked s makes = (ended.none-posted asked, makes)

-- ---- an attempt ends

ends-form : (targets : ℕ) (s : SnapOf) (x : AttemptId) (c : Collection) (how : Outcome) → collection_in x s.collecting ≡ Some c → StepInForm targets s (step_of (without x s) (told c.client x c.epoch how))
ends-form targets s x c how found waits = (
  one-posted targets (record { to = c.client; message = message.Ended x (Some c.epoch) how }) (to-client targets c.client (message.Ended x (Some c.epoch) how) (waits c (found-has (is_collection_of x) s.collecting c found)) refl),
  λ n i. waits n (has-from_filter (is_other_collection x) s.collecting n i).0,
)

ends-asked : (asked : Asked) (s : SnapOf) (x : AttemptId) (c : Collection) (how : Outcome) → collection_in x s.collecting ≡ Some c → (asked x ≡ true → IsEnd (asked x) how) → StepAsked asked s (step_of (without x s) (told c.client x c.epoch how))
ends-asked asked s x c how found ends makes =
    let own : asked x ≡ true = subst (λ y. asked y ≡ true) (same-attempt c.attempt x (found-passes (is_collection_of x) s.collecting c found)) (makes c (found-has (is_collection_of x) s.collecting c found)) in (
      ended.one-posted asked (record { to = c.client; message = message.Ended x (Some c.epoch) how }) (ends own),
      λ n i. makes n (has-from_filter (is_other_collection x) s.collecting n i).0,
    )

-- ---- an answer is counted

held-client : (x : AttemptId) (t : ℕ) (c : Collection) → (held_at x t c).client ≡ c.client
held-client x t c = elim (same_attempt c.attempt x) as (λ b. (if b then record c { held = with_target c.held t } else c).client ≡ c.client) [ true ↦ refl | false ↦ refl ]

held-attempt : (x : AttemptId) (t : ℕ) (c : Collection) → (held_at x t c).attempt ≡ c.attempt
held-attempt x t c = elim (same_attempt c.attempt x) as (λ b. (if b then record c { held = with_target c.held t } else c).attempt ≡ c.attempt) [ true ↦ refl | false ↦ refl ]

counts-form : (targets : ℕ) (s : SnapOf) (x : AttemptId) (from : ℕ) → StepInForm targets s (quietly (with_collecting (map (held_at x from) s.collecting) s))
counts-form targets s x from waits = (
  none-posted targets,
  λ n i. let m = has-from_map (held_at x from) s.collecting n i in ap (λ (z : Collection). z.client.client) (sym m.2) ∙ ap (λ (a : ActorId). a.client) (held-client x from m.0) ∙ waits m.0 m.1,
)

counts-asked : (asked : Asked) (s : SnapOf) (x : AttemptId) (from : ℕ) → StepAsked asked s (quietly (with_collecting (map (held_at x from) s.collecting) s))
counts-asked asked s x from makes = (
  ended.none-posted asked,
  λ n i. let m = has-from_map (held_at x from) s.collecting n i in ap (λ (z : Collection). asked z.attempt) (sym m.2) ∙ ap asked (held-attempt x from m.0) ∙ makes m.0 m.1,
)

-- ---- a Held

held-form : (targets from : ℕ) (m : Message) (s : SnapOf) → StepInForm targets s (held_heard from m s)
unfolding held_heard
held-form targets from (message.Held x refusal) s = by refusal (collection_in x s.collecting) refl
  where
    by : (how : Option Outcome) (o : Option Collection) → collection_in x s.collecting ≡ o → StepInForm targets s (held from x how o s)
    by how None is = quiet-form targets s
    by (Some how) (Some c) is = ends-form targets s x c how is
    by None (Some c) is =
        elim (are_all_others s.me s.targets (with_target c.held from)) as (λ b. StepInForm targets s (if b then step_of (without x s) (told c.client x c.epoch Committed) else quietly (with_collecting (map (held_at x from) s.collecting) s))) [
          | true ↦ ends-form targets s x c Committed is
          | false ↦ counts-form targets s x from
        ]
held-form targets from m s = quiet-form targets s

held-asked : (asked : Asked) (from : ℕ) (m : Message) (s : SnapOf) → GoesWith asked m → StepAsked asked s (held_heard from m s)
unfolding held_heard
held-asked asked from (message.Held x refusal) s goes = by refusal goes (collection_in x s.collecting) refl
  where
    by : (how : Option Outcome) → GoesWith asked (message.Held x how) → (o : Option Collection) → collection_in x s.collecting ≡ o → StepAsked asked s (held from x how o s)
    by how refuses None is = quiet-asked asked s
    by (Some how) refuses (Some c) is = ends-asked asked s x c how is (λ k. inl refuses)
    by None refuses (Some c) is =
        elim (are_all_others s.me s.targets (with_target c.held from)) as (λ b. StepAsked asked s (if b then step_of (without x s) (told c.client x c.epoch Committed) else quietly (with_collecting (map (held_at x from) s.collecting) s))) [
          | true ↦ ends-asked asked s x c Committed is (λ k. inr (refl, k))
          | false ↦ counts-asked asked s x from
        ]
held-asked asked from m s goes = quiet-asked asked s

held-carries : (from : ℕ) (m : Message) (s : SnapOf) → CarryNone (held_heard from m s).posts
unfolding held_heard
held-carries from (message.Held x refusal) s = by refusal (collection_in x s.collecting)
  where
    by : (how : Option Outcome) (o : Option Collection) → CarryNone (held from x how o s).posts
    by how None = none-carried
    by (Some how) (Some c) = one-carries c.client (message.Ended x (Some c.epoch) how) refl
    by None (Some c) =
        elim (are_all_others s.me s.targets (with_target c.held from)) as (λ b. CarryNone (if b then step_of (without x s) (told c.client x c.epoch Committed) else quietly (with_collecting (map (held_at x from) s.collecting) s)).posts) [
          | true ↦ one-carries c.client (message.Ended x (Some c.epoch) Committed) refl
          | false ↦ none-carried
        ]
held-carries from m s = none-carried

-- ---- a Reset

lost-form : (targets by : ℕ) (down : Bool) (asked : Message) (x : AttemptId) (s : SnapOf) → IsCollecting asked → StepInForm targets s (lost by down asked x (collection_in x s.collecting) s)
lost-form targets by down asked x s collects = at down (collection_in x s.collecting) refl
  where
    again : (m : Message) → IsCollecting m → TargetPosts targets (to_target by m ∷ [])
    again (message.Freeze y c e) collects = one-posted targets _ (to-other targets (record { client = false; number = by }) (message.Freeze y c e) refl collects)
    again (message.Prune y c None (Some e)) collects = one-posted targets _ (to-other targets (record { client = false; number = by }) (message.Prune y c None (Some e)) refl collects)
    again m collects = absurd collects

    at : (b : Bool) (o : Option Collection) → collection_in x s.collecting ≡ o → StepInForm targets s (lost by b asked x o s)
    at false o is = λ waits. (again asked collects, waits)
    at true None is = quiet-form targets s
    at true (Some c) is = ends-form targets s x c (Unknown by) is

reset-form : (targets by : ℕ) (down : Bool) (m : Message) (s : SnapOf) → IsCollecting m → StepInForm targets s (reset_heard by down m s)
unfolding reset_heard
reset-form targets by down (message.Freeze x c e) s collects = lost-form targets by down (message.Freeze x c e) x s collects
reset-form targets by down (message.Prune x c tracker e) s collects = lost-form targets by down (message.Prune x c tracker e) x s collects
reset-form targets by down m s collects = quiet-form targets s

lost-asked : (given : Asked) (by : ℕ) (down : Bool) (asked : Message) (x : AttemptId) (s : SnapOf) → GoesWith given asked → StepAsked given s (lost by down asked x (collection_in x s.collecting) s)
lost-asked given by down asked x s goes = at down (collection_in x s.collecting) refl
  where
    at : (b : Bool) (o : Option Collection) → collection_in x s.collecting ≡ o → StepAsked given s (lost by b asked x o s)
    at false o is = λ makes. (ended.one-posted given (to_target by asked) goes, makes)
    at true None is = quiet-asked given s
    at true (Some c) is = ends-asked given s x c (Unknown by) is (λ k. inl refl)

reset-asked : (given : Asked) (by : ℕ) (down : Bool) (m : Message) (s : SnapOf) → AsksSo given m → StepAsked given s (reset_heard by down m s)
unfolding reset_heard
reset-asked given by down (message.Freeze x c e) s asks = lost-asked given by down (message.Freeze x c e) x s asks
reset-asked given by down (message.Prune x c tracker e) s asks = lost-asked given by down (message.Prune x c tracker e) x s asks
reset-asked given by down m s asks = quiet-asked given s

reset-carries : (by : ℕ) (down : Bool) (m : Message) (s : SnapOf) → CarryNone (reset_heard by down m s).posts
unfolding reset_heard
reset-carries by down m s = at m
  where
    gone : (b : Bool) (asked : Message) → CarryNone (to_target by asked ∷ []) → (x : AttemptId) (o : Option Collection) → CarryNone (lost by b asked x o s).posts
    gone false asked none x o = none
    gone true asked none x None = none-carried
    gone true asked none x (Some c) = one-carries c.client (message.Ended x (Some c.epoch) (Unknown by)) refl

    at : (m : Message) → CarryNone (reset_heard by down m s).posts
    at (message.Freeze x c e) = gone down (message.Freeze x c e) (one-carries (record { client = false; number = by }) (message.Freeze x c e) refl) x (collection_in x s.collecting)
    at (message.Prune x c tracker e) = gone down (message.Prune x c tracker e) (one-carries (record { client = false; number = by }) (message.Prune x c tracker e) refl) x (collection_in x s.collecting)
    at m = none-carried

reset-within : (by : ℕ) (down : Bool) (m : Message) (s : SnapOf) → IsWithin (reset_heard by down m s).snaps.collecting s.collecting
unfolding reset_heard
reset-within by down m s = at m
  where
    gone : (b : Bool) (asked : Message) (x : AttemptId) (o : Option Collection) → IsWithin (lost by b asked x o s).snaps.collecting s.collecting
    gone false asked x o = λ n i. i
    gone true asked x None = λ n i. i
    gone true asked x (Some c) = λ n i. (has-from_filter (is_other_collection x) s.collecting n i).0

    at : (m : Message) → IsWithin (reset_heard by down m s).snaps.collecting s.collecting
    at (message.Freeze x c e) = gone down (message.Freeze x c e) x (collection_in x s.collecting)
    at (message.Prune x c tracker e) = gone down (message.Prune x c tracker e) x (collection_in x s.collecting)
    at m = λ n i. i

-- ---- as parts say it

module _ (s t : SnapOf) (posts : List Post) where
  pub held-in_form : (targets from : ℕ) (m : Message) → step_of t posts ≡ held_heard from m s → MakesInForm targets s.collecting t.collecting posts
  held-in_form targets from m is = subst (StepInForm targets s) (sym is) (held-form targets from m s)

  pub held-goes : (asked : Asked) (from : ℕ) (m : Message) → GoesWith asked m → step_of t posts ≡ held_heard from m s → MakesAsked asked s.collecting t.collecting posts
  held-goes asked from m goes is = subst (StepAsked asked s) (sym is) (held-asked asked from m s goes)

  pub held-reads : (from : ℕ) (m : Message) → step_of t posts ≡ held_heard from m s → CarryNone posts
  held-reads from m is = subst (λ (k : SnapStep). CarryNone k.posts) (sym is) (held-carries from m s)

  pub reset-in_form : (targets by : ℕ) (down : Bool) (m : Message) → IsCollecting m → step_of t posts ≡ reset_heard by down m s → MakesInForm targets s.collecting t.collecting posts
  reset-in_form targets by down m collects is = subst (StepInForm targets s) (sym is) (reset-form targets by down m s collects)

  pub reset-goes : (asked : Asked) (by : ℕ) (down : Bool) (m : Message) → AsksSo asked m → step_of t posts ≡ reset_heard by down m s → MakesAsked asked s.collecting t.collecting posts
  reset-goes asked by down m asks is = subst (StepAsked asked s) (sym is) (reset-asked asked by down m s asks)

  pub reset-reads : (by : ℕ) (down : Bool) (m : Message) → step_of t posts ≡ reset_heard by down m s → CarryNone posts
  reset-reads by down m is = subst (λ (k : SnapStep). CarryNone k.posts) (sym is) (reset-carries by down m s)

  pub lost-within : (by : ℕ) (down : Bool) (m : Message) → step_of t posts ≡ reset_heard by down m s → IsWithin t.collecting s.collecting
  lost-within by down m is = subst (λ (k : SnapStep). IsWithin k.snaps.collecting s.collecting) (sym is) (reset-within by down m s)
