use Rattle.std.proofs.Common.{◌∙◌, subst}
use Rattle.vos_path.specs.Objects.{objects_versions}
use Rattle.vos_punches.specs.Rows.{moments_at}
use Rattle.vos_gather.specs.Gathered.{Gathered}
use Rattle.vos_gather.proofs.Gathering.{gathered_all}
use Rattle.vos_gather.proofs.punches.gather_punches.Goals as goal

pub returns-clause-gathered : goal.returns-clause-gathered
returns-clause-gathered g c told x held at =
    gathered_all (objects_versions x) (moments_at c.new-punches.result) (moments_at c.add_all.new.index) c.new-punches.ensures
    (subst (λ ns. Gathered ns (moments_at c.new-punches.result) (moments_at c.add_all.new.index)) (c.deref.ensures.value ∙ c.in_ok-names.ensures.listed told x held at) c.in_ok-add_all.ensures.gathered)
