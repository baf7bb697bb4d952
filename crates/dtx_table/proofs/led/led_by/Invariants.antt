use Rattle.std.specs.Prelude.{◌≡◌, ◌++◌, drop, filter}
use Rattle.dtx_base.specs.Leading.{is_led}
use Rattle.dtx_table.proofs.led.led_by.Given as goal

abbrev pub invariant-loop-entry : goal.invariant-loop-entry
invariant-loop-entry l = l.led.items ++ filter (is_led l.me) (drop l.entry-index l.entries) ≡ filter (is_led l.me) l.entries
