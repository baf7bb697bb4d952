-- Where operations read, ask and write.
use Rattle.base_types.specs.declared.operation.Act.{Act}
use Rattle.base_types.specs.declared.operation.Act.TheVariants.{Fetch, Change}
use Rattle.base_types.specs.declared.operation.Read.{Read}
use Rattle.base_types.specs.declared.operation.Read.TheVariants as read
use Rattle.base_types.specs.declared.operation.Write.{Write}
use Rattle.base_types.specs.declared.operation.Write.TheVariants as write
use Rattle.base_types.specs.declared.path.Path.{Path}

-- where a read reads
abbrev pub read_path : Read → Path
read_path (read.Single p) = p
read_path (read.Extent p low len) = p
read_path (read.Dkeys p) = p
read_path (read.Akeys p) = p
read_path (read.Exists p) = p

-- where a write writes
abbrev pub write_path : Write → Path
write_path (write.Single p bytes) = p
write_path (write.Extent p low bytes) = p
write_path (write.PunchObject p) = p
write_path (write.PunchDkey p) = p
write_path (write.PunchAkey p) = p

-- where an operation has its access
abbrev pub act_path : Act → Path
act_path (Fetch r) = read_path r
act_path (Change w) = write_path w
