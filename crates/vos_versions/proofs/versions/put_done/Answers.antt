use Rattle.std.proofs.Common.{subst}
use Rattle.vos_chain.specs.pmem_tree.Changes.{Puts}
use Rattle.vos_chain.proofs.vos_levels.Calls.{on_ok_then}
use Rattle.vos_versions.proofs.Marks.{kind_is, value_is}
use Rattle.vos_versions.proofs.versions.put_done.Goals as goal

pub put_value-requires-clause-kind : goal.put_value-requires-clause-kind
put_value-requires-clause-kind g c = kind_is c.args.tree.now.kind c.requires.kind

pub put_value-requires-clause-value : goal.put_value-requires-clause-value
put_value-requires-clause-value g c = value_is c.args.tree.now.kind c.version_value-value.result c.requires.kind c.version_value-value.ensures.single c.version_value-value.ensures.extent

pub returns-clause-put : goal.returns-clause-put
returns-clause-put g c = on_ok_then c.put_value.result (λ h told t tree e at.
    subst (λ v. Puts (g.P.Pages.blocks c.args.pages.now) c.args.tree.now.kind t c.args.key.now v (g.P.Pages.blocks c.put_value.new.pages) c.put_value.new.self.root) c.version_value-value.ensures.value (h told t tree e at)) c.put_value.ensures.put
