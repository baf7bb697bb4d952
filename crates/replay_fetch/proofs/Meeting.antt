-- What a read meets, and the form of what it reads.
use Rattle.std.proofs.Common.{◌≡◌, ℕ, ◌∙◌, refl, sym, ap, subst, Bool, true, false, Option, Some, None, Ok, Err, List}
use Rattle.std.specs.Prelude.{if◌then◌else◌}
use Rattle.std.specs.List.{list_all}
use Rattle.base_types.specs.declared.answer.Answer.{Answer}
use Rattle.base_types.specs.declared.entry.Settle.TheVariants.{Commit}
use Rattle.base_types.specs.declared.epoch.Epoch.{Epoch}
use Rattle.base_types.specs.declared.id.AttemptId.{AttemptId}
use Rattle.base_types.specs.declared.operation.Read.{Read}
use Rattle.base_types.specs.declared.outcome.Cause.{Cause}
use Rattle.base_types.specs.declared.path.Path.{Path}
use Rattle.base_types.specs.Operations.{read_path}
use Rattle.base_messages.specs.declared.message.Reply.TheVariants as reply
use Rattle.daos_model.specs.declared.durable.Durable.{Durable}
use Rattle.daos_model.specs.declared.durable.Version.{Version}
use Rattle.daos_model.specs.Answers.{answer}
use Rattle.daos_model.specs.Changes.{leased, settled}
use Rattle.daos_model.specs.Durables.{is_version_in_form, row_of}
use Rattle.daos_model.specs.FormLaws.{all-kept}
use Rattle.daos_model.specs.Versions.{done_by, first_blocking, map_below}
use Rattle.vos_store.specs.Answers.{answer_unless, fetched, is_past}
use Rattle.vos_store.specs.declared.refusal.FetchNo.TheVariants as no
use Rattle.world_base.specs.declared.request.FetchRequest.{FetchRequest}
use Rattle.world_base.specs.declared.target.TargetPlan.{TargetPlan}
use Rattle.world_base.specs.Reads.{fetch_cause}
use Rattle.replay_fetch.specs.Met.{AsOpen, AsOthers, AsOwn, IsAnswered, IsEnding, IsMet, IsParked, IsUnresolved, MeetsAttempt}
use Rattle.replay_fetch.specs.declared.meets.Ending.TheVariants as ending
use Rattle.replay_fetch.specs.declared.meets.Met.{Met}
use Rattle.replay_base.specs.Heard.{CanRead}
use Rattle.replay_base.proofs.Covering.{covered_as}
use Rattle.replay_base.proofs.Leaders.{led_leased}
use Rattle.replay_base.specs.Leases.{Already, Extended, IsCovered, Never}
use Rattle.replay_base.specs.declared.leases.Covered.{Covered}

-- ---- versions stay in form

still-in_form : (a : AttemptId) (v : Version) → is_version_in_form v ≡ true → is_version_in_form (done_by a v) ≡ true
unfolding done_by
still-in_form a v h = h

pub settled-in_form : (a : AttemptId) (d : Durable) → list_all is_version_in_form d.versions ≡ true → list_all is_version_in_form (settled a Commit d).versions ≡ true
unfolding settled
settled-in_form a d h = all-kept is_version_in_form (done_by a) (still-in_form a) d.versions h

leased-in_form : (lease : ℕ) (d : Durable) → list_all is_version_in_form d.versions ≡ true → list_all is_version_in_form (leased lease d).versions ≡ true
unfolding leased
leased-in_form lease d h = h

-- what can be read can be read once the lease covers an epoch
pub covered-read : (t : TargetPlan) (decided : List AttemptId) (ticks : ℕ) (d : Durable) (changed : Bool) (c : Covered) → IsCovered ticks d changed (Some c) → CanRead t d decided → CanRead t c.durable decided
covered-read t decided ticks d changed c (Already le at) h =
    let same : covered_as d changed ≡ c = cc in
    subst (λ (x : Covered). CanRead t x.durable decided) same h
covered-read t decided ticks d changed c (Extended lease low at covers here) h =
    let same : covered_as (leased lease d) true ≡ c = cc in
    subst (λ (x : Covered). CanRead t x.durable decided) same (record { versions = leased-in_form lease d h.versions; led = led_leased t decided lease d h.led })
covered-read t decided ticks d changed c (Never low none at) h = let bad : ⊥ = cc in absurd bad

-- ---- what is fetched, case by case

module _ (r : Read) (e : Epoch) (d : Durable) where
  pub fetched-past : is_past (read_path r).cont e d ≡ true → fetched r e d ≡ Err (no.Aggregated (row_of d (read_path r).cont).aggregated (row_of d (read_path r).cont).number)
  unfolding fetched
  fetched-past past =
      ap (λ (b : Bool). if b then Err (no.Aggregated (row_of d (read_path r).cont).aggregated (row_of d (read_path r).cont).number) else answer_unless (first_blocking (read_path r) e.0 d.versions) (answer r (map_below d.versions e.0))) past

  fetched-on : is_past (read_path r).cont e d ≡ false → fetched r e d ≡ answer_unless (first_blocking (read_path r) e.0 d.versions) (answer r (map_below d.versions e.0))
  unfolding fetched
  fetched-on past =
      ap (λ (b : Bool). if b then Err (no.Aggregated (row_of d (read_path r).cont).aggregated (row_of d (read_path r).cont).number) else answer_unless (first_blocking (read_path r) e.0 d.versions) (answer r (map_below d.versions e.0))) past

  pub fetched-blocked : (v : Version) → is_past (read_path r).cont e d ≡ false → first_blocking (read_path r) e.0 d.versions ≡ Some v → fetched r e d ≡ Err (no.Unsettled v.by)
  fetched-blocked v past is = fetched-on past ∙ ap (λ o. answer_unless o (answer r (map_below d.versions e.0))) is

  pub fetched-answer : (b : Answer) → is_past (read_path r).cont e d ≡ false → first_blocking (read_path r) e.0 d.versions ≡ None → b ≡ answer r (map_below d.versions e.0) → fetched r e d ≡ Ok b
  fetched-answer b past is answered = fetched-on past ∙ ap (λ o. answer_unless o (answer r (map_below d.versions e.0))) is ∙ ap Ok (sym answered)

-- ---- the replies, as they are found

module _ (t : TargetPlan) (q : FetchRequest) (e : Epoch) (d : Durable) (decided : List AttemptId) (p : Path) (rows : List Version) (found : Option Cause) (past : Bool) (o : Option Version)
    (path_is : p ≡ read_path q.read) (rows_are : rows ≡ d.versions) (cause_is : found ≡ fetch_cause t q e d) (free : found ≡ None) (past_is : past ≡ is_past p.cont e d) (not_past : past ≡ false)
    (blocking : o ≡ first_blocking p e.0 rows) where
  here-past : is_past (read_path q.read).cont e d ≡ false
  here-past = ap (λ x. is_past x.cont e d) (sym path_is) ∙ sym past_is ∙ not_past

  here-blocking : first_blocking (read_path q.read) e.0 d.versions ≡ o
  here-blocking = sym (blocking ∙ ap (λ x. first_blocking x e.0 rows) path_is ∙ ap (first_blocking (read_path q.read) e.0) rows_are)

  pub answer_met : (b : Answer) → o ≡ None → b ≡ answer q.read (map_below rows e.0) → IsEnding t q e d decided (ending.Replies (reply.Answer b))
  answer_met b none answered =
      IsAnswered b (sym cause_is ∙ free) (fetched-answer q.read e d b here-past (here-blocking ∙ none) (answered ∙ ap (λ x. answer q.read (map_below x e.0)) rows_are)) refl

  pub attempt_met : (v : Version) (r : Met) → o ≡ Some v → MeetsAttempt t d decided v.by r → IsMet t q e d decided r
  attempt_met v r some m = by m
    where
      unsettled : fetched q.read e d ≡ Err (no.Unsettled v.by)
      unsettled = fetched-blocked q.read e d v here-past (here-blocking ∙ some)

      by : MeetsAttempt t d decided v.by r → IsMet t q e d decided r
      by (AsOwn own is) = subst (IsMet t q e d decided) (sym is) (record { free = sym cause_is ∙ free; meets = unsettled; own = own })
      by (AsOthers leader other is) = subst (IsMet t q e d decided) (sym is) (IsParked v.by leader (sym cause_is ∙ free) unsettled other refl)
      by (AsOpen apart ours is) = subst (IsMet t q e d decided) (sym is) (IsUnresolved v.by (sym cause_is ∙ free) unsettled apart ours refl)
