-- What a look at the versions of a single value reads.
use Rattle.std.specs.Prelude.{ℕ, length, Option, Some, None}
use Rattle.vos_versions.specs.vos_chain.Made.{chain_blocks}
use Rattle.vos_single.specs.declared.single.SingleVersion.{SingleVersion}

-- the blocks of the bytes of the version that is found
abbrev pub blocks_read : Option SingleVersion → ℕ
blocks_read None = 0
blocks_read (Some v) = chain_blocks (length v.bytes)
