use Rattle.std.proofs.Common.{◌≡◌, take}
use Rattle.daos_model.specs.Versions.{versions_of}
use Rattle.vos_contents.proofs.rows.versions_of.Given as goal

abbrev pub invariant-loop-write : goal.invariant-loop-write
invariant-loop-write l = l.rows.items ≡ versions_of l.entry (take l.write-index l.writes)
