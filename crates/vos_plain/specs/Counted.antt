-- What a store over lists keeps, and its free blocks.
use Rattle.std.specs.Prelude.{ℕ, ◌-◌}
use Rattle.daos_model.specs.declared.durable.Durable.{Durable}
use Rattle.vos_contents.specs.Contents.{contents_of}
use Rattle.vos_plain.specs.declared.counted.Counted.{Counted}
use Rattle.vos_plain.specs.Costs.{taken_by}

abbrev pub kept_by : Counted → Durable
kept_by c = contents_of c.kept

-- the blocks that are free
abbrev pub free_of : Counted → ℕ
free_of c = c.capacity - taken_by (kept_by c)
