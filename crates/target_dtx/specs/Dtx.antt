-- What a target does that hears of attempts from other targets.
use Rattle.std.specs.Prelude.{Bool, true, false, List, [], Option, Result, Ok, Err}
use Rattle.base_types.specs.declared.entry.Entry.{Entry}
use Rattle.daos_model.specs.declared.durable.Durable.{Durable}
use Rattle.dtx_base.specs.Joining.{MemberOf, MemberStep, inquired, quietly}
use Rattle.vos_store.specs.Calls.{State}
use Rattle.vos_store.specs.declared.refusal.Stopped.{Stopped}
use Rattle.world_base.specs.Changes.{Change, Kept}
use Rattle.world_base.specs.Turns.{CutShort, Reached}
use Rattle.target_parts.specs.Parts.{Now, kept, left_by}

-- a list was gone through, or that was cut
abbrev pub GoesThrough : {T : Type 0} → (List T → Kept → Option Change → List T → Type 0) → List T → Durable → State → Option Durable → State → (Durable → Type 0) → Result (Unit {0}) Stopped → Type 0
GoesThrough Next xs d h new k finds (Ok u) = Now new k (λ l. Reached Next xs (kept d h) [] l)
GoesThrough Next xs d h new k finds (Err e) = CutShort Next xs (kept d h) (left_by k finds)

-- the leaders of the entries that are prepared are asked, in the settling phase
abbrev pub asks_if : Bool → List Entry → MemberOf → MemberStep
asks_if false es s = quietly s
asks_if true es s = inquired es s
