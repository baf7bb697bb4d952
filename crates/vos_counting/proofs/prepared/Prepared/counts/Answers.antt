use Rattle.std.proofs.Common.{◌||◌, ◌∙◌, ap, sym}
use Rattle.std.specs.HashSet.{contains}
use Rattle.vos_counting.specs.Counting.{same_entry_name, version_name}
use Rattle.vos_counting.specs.Prepared.{counts_in}
use Rattle.vos_counting.proofs.prepared.Prepared.counts.Goals as goal

pub returns-then-version : goal.returns-then-version
unfolding counts_in
returns-then-version c =
    let v = c.args.version.now in
    c.if-version.true ∙ sym (ap (λ t. t || contains same_entry_name c.args.self.now.names (version_name v)) c.if-version.true)

pub returns-else-version : goal.returns-else-version
unfolding counts_in
returns-else-version c =
    let v = c.args.version.now in
    c.contains.ensures
    ∙ (ap (contains same_entry_name c.args.self.now.names) c.entry_name.ensures ∙ sym (ap (λ t. t || contains same_entry_name c.args.self.now.names (version_name v)) c.if-version.false))
