use Rattle.std.proofs.Common.{◌≡◌, nat_eq, Some, None, refl, sym, ap, ◌∙◌}
use Rattle.std.specs.Map.{lookup}
use Rattle.std.specs.Option.{option_copied_mut}
use Rattle.vos_stamp.specs.Raised.{ComesIn, Joins}
use Rattle.vos_stamp.proofs.Entries.{no_entry}
use Rattle.vos_stamp.proofs.table.raise_own.Goals as goal

pub returns-in-Some-clause-raises : goal.returns-in-Some-clause-raises
returns-in-Some-clause-raises c =
    let held : lookup (nat_eq c.args.entity) c.args.own.now.entries ≡ Some c.in-Some.held.now = sym c.get_mut.ensures.value ∙ ap option_copied_mut c.in-Some.is in
    Joins c.in-Some.held.now held (rw c.join.ensures refl) refl

pub returns-in-Ok-clause-raises : goal.returns-in-Ok-clause-raises
returns-in-Ok-clause-raises c =
    let none : lookup (nat_eq c.args.entity) c.args.own.now.entries ≡ None = sym c.get_mut.ensures.value ∙ ap option_copied_mut c.in_default.is in
    let entry = no_entry c.args.entity c.args.own.now.entries none in
    ComesIn none (rw (c.in-Ok.ensures.entries, entry) refl) (rw (c.in-Ok.ensures.old, none) refl)
