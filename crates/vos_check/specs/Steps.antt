-- Steps of the readings of versions and chains that are checked one by one.
use Rattle.std.specs.Prelude.{◌≡◌, ℕ, Bool, ◌+◌, ◌*◌, ◌==◌, not, drop, take, slice_index, if◌then◌else◌}
use Rattle.byteorder.specs.Endian.{big_number}
use Rattle.pmem_pages.specs.declared.node.Value.{Value}
use Rattle.vos_values.specs.declared.values.VersionMark.{VersionMark}
use Rattle.vos_values.specs.Values.{is_state, version_in}
use Rattle.vos_image.specs.Steps.{Step, ◌>>=◌, give, rule, says, zeros}
use Rattle.vos_image.specs.Content.{Content, block, link}

-- what is shown is what was read; or nothing is shown
abbrev pub is_same : {A : Type 0} → A → A → Type 0
is_same v a = a ≡ v

abbrev pub is_nothing : {A : Type 0} → Unit {0} → A → Type 0
is_nothing v a = Unit {0}

-- what the value of a version says, but for its chain
unfoldable pub read_version_mark : ℕ → Value → Step VersionMark
read_version_mark at v = rule at (is_state (big_number 1 v.bytes)) >>= λ _. says (at + 8) (version_in v)

-- the chain of a version, whose length fits or not
unfoldable pub read_first : Content → ℕ → Bool → ℕ → Step (Unit {0})
read_first c at fits first = rule (at + 8) fits >>= λ _. link c (at + 10) first >>= λ _. rule (at + 10) (not (first == 0))

-- the block of a chain that holds so many bytes, the last or another: the next block
unfoldable pub read_link : Content → ℕ → Bool → ℕ → Step ℕ
read_link c b last part =
    let at = 256 * b in
    let next = big_number 4 (drop 4 (block c b)) in
    rule at (slice_index (block c b) 0 == 8)
    >>= λ _. zeros (at + 1) (take 3 (drop 1 (block c b)))
    >>= λ _. link c (at + 4) next
    >>= λ _. rule (at + 4) (if last then next == 0 else not (next == 0))
    >>= λ _. zeros (at + 8 + part) (drop (8 + part) (block c b))
    >>= λ _. give next
