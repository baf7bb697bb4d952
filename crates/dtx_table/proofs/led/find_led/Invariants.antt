use Rattle.std.specs.Prelude.{◌≡◌, drop, filter, find}
use Rattle.daos_model.specs.Durables.{is_entry_of}
use Rattle.dtx_base.specs.Leading.{is_led}
use Rattle.dtx_table.proofs.led.find_led.Given as goal

abbrev pub invariant-loop-entry : goal.invariant-loop-entry
invariant-loop-entry l = find (is_entry_of l.attempt) (filter (is_led l.me) (drop l.entry-index l.entries)) ≡ find (is_entry_of l.attempt) (filter (is_led l.me) l.entries)
