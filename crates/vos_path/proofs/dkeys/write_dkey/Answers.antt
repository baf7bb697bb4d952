use Rattle.std.proofs.Common.{◌∙◌, ap, subst, sym}
use Rattle.vos_extent.specs.vos_levels.Levels.{HasMore}
use Rattle.vos_extent.proofs.vos_levels.Calls.{if_ok_then, on_ok_then}
use Rattle.vos_path.specs.Calls.{LacksFor, SpendsAtMost, Turns, for_pair}
use Rattle.base_types.specs.Operations.{write_path}
use Rattle.vos_path.specs.Nodes.{DkeyNoted}
use Rattle.vos_path.specs.Objects.{akey_level, below_dkey_versions, below_owner, below_roots}
use Rattle.vos_path.specs.Writes.{data_blocks, below_dkey_pairs, fresh}
use Rattle.vos_path.proofs.BranchWrites.{lacks_any, spends_any}
use Rattle.vos_path.proofs.Forming.{akey_path_of, below_dkey_else, below_dkey_then, dkey_punch}
use Rattle.vos_path.proofs.dkeys.write_dkey.Goals as goal

pub returns-then-goes_below_dkey-clause-written : goal.returns-then-goes_below_dkey-clause-written
returns-then-goes_below_dkey-clause-written g c = if_ok_then c.write_below.result (λ now h told x held at new ob e is.
    let a = akey_path_of c.args.write.now ob e c.requires.form (sym c.goes_below_dkey.ensures ∙ c.if-goes_below_dkey.true) is in
    subst (λ z. Turns (below_owner akey_level) below_roots (below_dkey_versions ob e) (g.P.Pages.blocks c.args.pages.now) x (g.P.Pages.blocks c.write_below.new.pages) now (HasMore (fresh c.args.stamp c.args.write.now)) (DkeyNoted c.args.stamp c.args.write.now z)) (sym (ap (λ p. p.akey) a.1)) (h told x held at new ob e a.0 a.1)) c.write_below.ensures.written

pub returns-then-goes_below_dkey-clause-too_much : goal.returns-then-goes_below_dkey-clause-too_much
returns-then-goes_below_dkey-clause-too_much g c refused told x held at new d small =
    subst (λ r. LacksFor (data_blocks c.args.write.now) r d (g.P.Pages.budget c.args.pages.now)) (sym (below_dkey_then c.args.write.now (for_pair d) (sym c.goes_below_dkey.ensures ∙ c.if-goes_below_dkey.true))) (c.write_below.ensures.too_much refused told x held at new d small)

pub returns-then-goes_below_dkey-clause-few_left : goal.returns-then-goes_below_dkey-clause-few_left
returns-then-goes_below_dkey-clause-few_left g c refused told x held at new d small =
    c.write_below.ensures.few_left refused told x held at new d small

pub returns-then-goes_below_dkey-clause-staged : goal.returns-then-goes_below_dkey-clause-staged
returns-then-goes_below_dkey-clause-staged g c = on_ok_then c.write_below.result (λ h told x held at new d small.
    subst (λ r. SpendsAtMost (data_blocks c.args.write.now) r (g.P.Pages.budget c.args.pages.now) (g.P.Pages.budget c.write_below.new.pages)) (sym (below_dkey_then c.args.write.now (for_pair d) (sym c.goes_below_dkey.ensures ∙ c.if-goes_below_dkey.true))) (h told x held at new d small)) c.write_below.ensures.staged

pub returns-else-goes_below_dkey-clause-written : goal.returns-else-goes_below_dkey-clause-written
returns-else-goes_below_dkey-clause-written g c = if_ok_then c.punch_log.result (λ now h told x held at new ob e is.
    let is = dkey_punch c.args.write.now ob e c.requires.form c.requires.below (sym c.goes_below_dkey.ensures ∙ c.if-goes_below_dkey.false) is in
    subst (λ z. Turns (below_owner akey_level) below_roots (below_dkey_versions ob e) (g.P.Pages.blocks c.args.pages.now) x (g.P.Pages.blocks c.punch_log.new.pages) now (HasMore (fresh c.args.stamp z)) (DkeyNoted c.args.stamp z (write_path z).akey)) (sym is) (h told x held at new ob e)) c.punch_log.ensures.written

pub returns-else-goes_below_dkey-clause-too_much : goal.returns-else-goes_below_dkey-clause-too_much
returns-else-goes_below_dkey-clause-too_much g c refused told x held at new d small = lacks_any (data_blocks c.args.write.now) (below_dkey_pairs c.args.write.now (for_pair d)) d (g.P.Pages.budget c.args.pages.now) (c.punch_log.ensures.too_much refused told x held at new d small.0)

pub returns-else-goes_below_dkey-clause-few_left : goal.returns-else-goes_below_dkey-clause-few_left
returns-else-goes_below_dkey-clause-few_left g c refused told x held at new d small = c.punch_log.ensures.few_left refused told x held at new d small.0

pub returns-else-goes_below_dkey-clause-staged : goal.returns-else-goes_below_dkey-clause-staged
returns-else-goes_below_dkey-clause-staged g c = on_ok_then c.punch_log.result (λ h told x held at new d small.
    spends_any (data_blocks c.args.write.now) (below_dkey_pairs c.args.write.now (for_pair d)) (for_pair d) (g.P.Pages.budget c.args.pages.now) (g.P.Pages.budget c.punch_log.new.pages) (below_dkey_else c.args.write.now (for_pair d) (sym c.goes_below_dkey.ensures ∙ c.if-goes_below_dkey.false)) (h told x held at new d small.0)) c.punch_log.ensures.staged
