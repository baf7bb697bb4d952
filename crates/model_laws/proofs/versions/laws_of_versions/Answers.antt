use Rattle.model_laws.specs.VersionLaws.{later-nothing, maps-same, rearranged-same, unsettled-nothing}
use Rattle.model_laws.specs.WriteLaws.{value-effect}
use Rattle.model_laws.proofs.versions.laws_of_versions.Goals as goal

pub returns : goal.returns
returns c = record { writes = value-effect; set = maps-same; rearranged = rearranged-same; later = later-nothing; unsettled = unsettled-nothing }
