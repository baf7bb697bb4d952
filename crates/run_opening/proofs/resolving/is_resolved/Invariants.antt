use Rattle.std.specs.Prelude.{◌≡◌, drop, map}
use Rattle.std.specs.List.{list_any}
use Rattle.daos_model.specs.Durables.{entry_of}
use Rattle.daos_model.specs.Family.{is_resolved_entry}
use Rattle.run_opening.specs.Steps.{bare, resolved_by}
use Rattle.run_opening.proofs.resolving.is_resolved.Given as goal

-- it is so by an entry of none so far
abbrev pub invariant-loop-entries : goal.invariant-loop-entries
invariant-loop-entries l = list_any (λ d. is_resolved_entry (map bare l.all) (entry_of d l.attempt)) (map bare (drop l.entries-index l.all)) ≡ resolved_by l.all l.attempt
