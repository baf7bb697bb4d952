use Rattle.std.proofs.Common.{◌≡◌, None, Some, ap, arith, subst, sym}
use Rattle.pmem_pages.specs.Owners.{Holds}
use Rattle.vos_levels.proofs.Calls.{on_ok_then}
use Rattle.vos_path.specs.Objects.{objects_owner, objects_versions}
use Rattle.vos_settle.specs.Costs.{Spends, for_one, objects_cost}
use Rattle.vos_prune.specs.Writers.{writer_of}
use Rattle.vos_prune.proofs.Flat.{nobody_freed, nobody_removed, somebody_removed}
use Rattle.vos_prune.proofs.remove.remove_write.Goals as goal

pub returns-clause-staged : goal.returns-clause-staged
returns-clause-staged g c = on_ok_then c.change_write.result (λ h told x held at d small.
    subst (λ b. Spends (objects_cost c.args.kind c.args.path.now.dkey c.args.path.now.akey (for_one d) 1) b (g.P.Pages.budget c.change_write.new.pages)) c.find_writer.ensures.budget
    (h told x (subst (λ b. Holds objects_owner b x) (sym (c.find_writer.ensures.kept told)) held) at d small)) c.change_write.ensures.staged

pub returns-in_default-clause-free : goal.returns-in_default-clause-free
returns-in_default-clause-free g c told x held at =
    let nobody : writer_of c.args.path.now c.args.kind c.args.at (objects_versions x) ≡ None = (let f = c.in_ok-found.ensures.found told x held at in let n = c.in_default.is in cc) in
    omega (arith, nobody_removed (writer_of c.args.path.now c.args.kind c.args.at (objects_versions x)) c.args.kind c.args.at c.args.path.now x nobody, ap (λ b. b.free) c.find_writer.ensures.budget)

pub returns-in_default-clause-gives : goal.returns-in_default-clause-gives
returns-in_default-clause-gives g c told x held at =
    let nobody : None ≡ writer_of c.args.path.now c.args.kind c.args.at (objects_versions x) = (let f = c.in_ok-found.ensures.found told x held at in let n = c.in_default.is in cc) in
    omega (arith, nobody_freed c.args.path.now c.args.kind c.args.at (objects_versions x) nobody, ap (λ b. b.free) c.find_writer.ensures.budget)

pub returns-clause-free : goal.returns-clause-free
returns-clause-free g c = on_ok_then c.change_write.result (λ h told x held at.
    let his : writer_of c.args.path.now c.args.kind c.args.at (objects_versions x) ≡ Some c.in-Some.by = (let f = c.in_ok-found.ensures.found told x held at in let n = c.in-Some.is in cc) in
    let gave = h told x (subst (λ b. Holds objects_owner b x) (sym (c.find_writer.ensures.kept told)) held) at in
    omega (arith, gave, somebody_removed (writer_of c.args.path.now c.args.kind c.args.at (objects_versions x)) c.in-Some.by c.args.kind c.args.at c.args.path.now x his, ap (λ b. b.free) c.find_writer.ensures.budget)) c.change_write.ensures.free

pub returns-clause-gives : goal.returns-clause-gives
returns-clause-gives g c = on_ok_then c.change_write.result (λ h told x held at.
    let gave = h told x (subst (λ b. Holds objects_owner b x) (sym (c.find_writer.ensures.kept told)) held) at in
    omega (arith, gave, ap (λ b. b.free) c.find_writer.ensures.budget)) c.change_write.ensures.gives

pub returns-clause-few_left : goal.returns-clause-few_left
returns-clause-few_left g c few told x held at d small =
    c.change_write.ensures.few_left few told x (subst (λ b. Holds objects_owner b x) (sym (c.find_writer.ensures.kept told)) held) at d small
