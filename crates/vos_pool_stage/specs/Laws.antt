-- Laws of what is staged.
use Rattle.std.specs.Prelude.{◌≡◌, ℕ, List, [], ◌∷◌, ◌++◌}
use Rattle.base_outside.specs.Images.{Image, Range, all_over}
use Rattle.pmem_alloc.specs.Map.{MapState, shown_in}
use Rattle.pmem_pages.specs.Owners.{Changed, Holds}
use Rattle.vos_entries.specs.Entries.{Entries, entries_owner}
use Rattle.vos_pool_base.specs.vos_image.Content.{Content, layout_of}
use Rattle.vos_pool_base.specs.vos_image.Kept.{Stored}
use Rattle.vos_pool_base.specs.vos_image.Places.{Header}
use Rattle.vos_pool_base.specs.vos_path.Objects.{Objects, objects_owner}
use Rattle.vos_pool_base.specs.vos_places.declared.codec.Counters.{Counters}
use Rattle.vos_pool_base.specs.vos_places.Laws.{counted, counter_range, covered_by}
use Rattle.vos_pool_base.specs.vos_places.Tables.{Table}
use Rattle.vos_pool_stage.specs.Staged.{IsStaged, IsToStand}
use Rattle.vos_pool_base.specs.vos_standing.Standing.{IsReadOf, Stand, content}
use Rattle.vos_pool_base.specs.vos_tables.Tables.{AreNext}

-- with nothing staged that is staged which stands
abbrev pub StagingBegins : Type 0
StagingBegins = (target size : ℕ) (f : Image) (m : MapState) (t : Table) (x : Stored) → Stand target size f t x → IsReadOf size f m → IsStaged size f m [] m x

-- what is staged is shown to whoever changes blocks
abbrev pub StagedAreShown : Type 0
StagedAreShown = (size : ℕ) (f : Image) (m : MapState) (staged : List Range) (n : MapState) (y : Stored) → IsStaged size f m staged n y
    → Holds objects_owner (shown_in n (all_over staged f)) y.0 × Holds entries_owner (shown_in n (all_over staged f)) y.1

-- objects that changed are staged, beside the same entries
abbrev pub ObjectsAreStaged : Type 0
ObjectsAreStaged = (size : ℕ) (f : Image) (m : MapState) (staged : List Range) (n : MapState) (y : Stored) (staged' : List Range) (n' : MapState) (o : Objects) → IsStaged size f m staged n y → IsReadOf size (all_over staged' f) n'
    → Changed objects_owner (shown_in n (all_over staged f)) y.0 (shown_in n' (all_over staged' f)) o → IsStaged size f m staged' n' (o, y.1)

-- and entries that changed, beside the same objects
abbrev pub EntriesAreStaged : Type 0
EntriesAreStaged = (size : ℕ) (f : Image) (m : MapState) (staged : List Range) (n : MapState) (y : Stored) (staged' : List Range) (n' : MapState) (e : Entries) → IsStaged size f m staged n y → IsReadOf size (all_over staged' f) n'
    → Changed entries_owner (shown_in n (all_over staged f)) y.1 (shown_in n' (all_over staged' f)) e → IsStaged size f m staged' n' (y.0, e)

-- with its counters staged too, what is to stand stands
abbrev pub StagedStands : Type 0
StagedStands = (size : ℕ) (f : Image) (m : MapState) (staged : List Range) (n : MapState) (t : Table) (c : Counters) (y : Stored) → IsToStand size f m staged n t c y → AreNext t c
    → Stand t.header.target size (all_over (staged ++ counter_range c ∷ []) f) (counted c t) y

-- ---- what a content says of itself

-- what later fields go by is what a header says
pub record SaysOf (c : Content) (h : Header) : Type 0 where
  pub layout : c.layout ≡ layout_of h.layout
  pub covered : c.covered ≡ covered_by h
  pub targets : c.targets ≡ h.targets

abbrev pub ContentsSayTheirHeaders : Type 0
ContentsSayTheirHeaders = (target size : ℕ) (f : Image) (t : Table) (x : Stored) → Stand target size f t x → SaysOf (content size f) t.header
