-- An attempt that is prepared here, by the entries that are known.
use Rattle.std.proofs.Common.{◌≡◌, refl, sym, ◌∙◌, ap, Bool, true, false, not, List, Option, Some, None}
use Rattle.base_types.specs.declared.entry.Entry.{Entry}
use Rattle.base_types.specs.declared.entry.Settle.{Settle}
use Rattle.base_types.specs.declared.entry.Settle.TheVariants.{Commit, Abort, Confirm, Forget}
use Rattle.base_types.specs.declared.id.AttemptId.{AttemptId}
use Rattle.daos_model.specs.declared.durable.Durable.{Durable}
use Rattle.daos_model.specs.Durables.{entry_of}
use Rattle.dtx_leader.specs.dtx_entries.Settling as table
use Rattle.dtx_leader.specs.dtx_entries.Settling.{entry_in}
use Rattle.vos_store.specs.Conditions.{CanSettle, IsStep}
use Rattle.world_contents.specs.world_base.Roles.{is_open_entry, is_prepared}
use Rattle.target_parts.specs.Keeping.{IsEnding}

-- what the entries that are known tell is so of those that are kept
pub prepared-known : (a : AttemptId) (es : List Entry) (d : Durable) (b : Bool) → es ≡ d.entries → b ≡ is_open_entry (entry_in es a) → is_prepared a d ≡ b
unfolding is_prepared entry_of
prepared-known a es d b same is = ap (λ xs. is_open_entry (entry_in xs a)) (sym same) ∙ sym is

-- it can be ended then
pub prepared-ends : (a : AttemptId) (step : Settle) (d : Durable) → IsEnding step → is_prepared a d ≡ true → CanSettle a step d
unfolding is_prepared
prepared-ends a step d ends here = by (entry_of d a) refl here
  where
    fits : (e : Entry) (step : Settle) → IsEnding step → not e.committed ≡ true → entry_of d a ≡ Some e → CanSettle a step d
    fits e Commit ends unsettled here = record { entry = e; here = here; fits = not-open e.committed unsettled }
      where
        not-open : (b : Bool) → not b ≡ true → b ≡ false
        not-open true h = let no : ⊥ = cc in absurd no
        not-open false h = refl
    fits e Abort ends unsettled here = record { entry = e; here = here; fits = not-open e.committed unsettled }
      where
        not-open : (b : Bool) → not b ≡ true → b ≡ false
        not-open true h = let no : ⊥ = cc in absurd no
        not-open false h = refl
    fits e (Confirm t) ends unsettled here = absurd ends
    fits e Forget ends unsettled here = absurd ends

    by : (o : Option Entry) → entry_of d a ≡ o → is_open_entry o ≡ true → CanSettle a step d
    by None here unsettled = let no : ⊥ = cc in absurd no
    by (Some e) here unsettled = fits e step ends unsettled here

pub ending-is_step : (step : Settle) → IsEnding step → IsStep step
ending-is_step Commit ends = tt
ending-is_step Abort ends = tt
ending-is_step (Confirm t) ends = absurd ends
ending-is_step Forget ends = absurd ends

-- a step that a store may be asked for is one of a table
pub step-of_table : (step : Settle) → IsStep step → table.IsStep step
step-of_table Commit h = h
step-of_table Abort h = h
step-of_table (Confirm t) h = h
step-of_table Forget h = h
