-- What is frozen, created and pruned leaves the containers that are known and the entries as they are.
use Rattle.std.specs.Prelude.{ℕ, ◌≡◌, ◌≤◌, ◌/◌, ◌||◌, Bool, true, false, List, [], ◌∷◌, map, nat_lt, refl, if◌then◌else◌}
use Rattle.std.proofs.Common.{◌∙◌, ap}
use Rattle.std.proofs.lemmas.List.Elements.{All-filter}
use Rattle.std.specs.List.{list_any}
use Rattle.base_types.specs.declared.epoch.Epoch.{Epoch}
use Rattle.base_types.specs.declared.id.ContId.{ContId}
use Rattle.base_types.specs.declared.outcome.FloorWhy.{FloorWhy}
use Rattle.base_types.specs.declared.outcome.FloorWhy.TheVariants.{Aggregate, Snapshot}
use Rattle.daos_model.specs.declared.durable.ContRow.{ContRow}
use Rattle.daos_model.specs.declared.durable.Durable.{Durable}
use Rattle.daos_model.specs.Changes.{aggregated_to, frozen, marked, marked_at, new_snap, pruned, raised, raised_at, with_versions}
use Rattle.daos_model.specs.Durables.{is_enlisted, is_frozen, is_row_of, snap_key}
use Rattle.daos_model.specs.Ordered.{put}
use Rattle.target_parts.specs.Knowing.{IsHeard}

-- rows that stay of their containers
rows-kept : (f : ContRow → ContRow) (k : ContId) (rows : List ContRow) → ((r : ContRow) → is_row_of k (f r) ≡ is_row_of k r) → list_any (is_row_of k) (map f rows) ≡ list_any (is_row_of k) rows
rows-kept f k [] same = refl
rows-kept f k (r ∷ rows) same = ap (λ b. b || list_any (is_row_of k) (map f rows)) (same r) ∙ ap (λ b. is_row_of k r || b) (rows-kept f k rows same)

of-either : (k : ContId) (b : Bool) (r s : ContRow) → is_row_of k s ≡ is_row_of k r → is_row_of k (if b then s else r) ≡ is_row_of k r
of-either k true r s same = same
of-either k false r s same = refl

raised-same : (k : ContId) (e : Epoch) (why : FloorWhy) (r : ContRow) → is_row_of k (raised e why r) ≡ is_row_of k r
raised-same k e why r = of-either k (nat_lt r.floor.0 e.0) r (record r { floor = e; why = why }) refl

raised_at-same : (k c : ContId) (e : Epoch) (why : FloorWhy) (r : ContRow) → is_row_of k (raised_at c e why r) ≡ is_row_of k r
raised_at-same k c e why r = of-either k (is_row_of c r) r (raised e why r) (raised-same k e why r)

aggregated-same : (k : ContId) (upto : Epoch) (n : ℕ) (r : ContRow) → is_row_of k (aggregated_to upto n r) ≡ is_row_of k r
aggregated-same k upto n r = of-either k (nat_lt r.aggregated.0 upto.0) r (record r { aggregated = upto; number = n }) refl

marked-same : (k c : ContId) (upto : Epoch) (n : ℕ) (r : ContRow) → is_row_of k (marked_at c upto n r) ≡ is_row_of k r
marked-same k c upto n r = of-either k (is_row_of c r) r (raised upto (Aggregate n) (aggregated_to upto n r)) (raised-same k upto (Aggregate n) (aggregated_to upto n r) ∙ aggregated-same k upto n r)

-- ---- what is frozen

abbrev with_frozen : ContId → Epoch → Durable → Durable
with_frozen c s d = record d { conts = map (raised_at c s (Snapshot s)) d.conts; snaps = put snap_key (new_snap c s) d.snaps }

-- what is the same of all that is kept, but for a container and the snapshots
pub frozen-leaves : {T : Type 0} (part : Durable → T) (c : ContId) (s : Epoch) (d : Durable) → part (with_frozen c s d) ≡ part d → part (frozen c s d) ≡ part d
unfolding frozen
frozen-leaves {T} part c s d same = elim (is_frozen d c s) as (λ b. part (if b then d else with_frozen c s d) ≡ part d) [ true ↦ refl | false ↦ same ]

pub enlisted-frozen : (c : ContId) (s : Epoch) (d : Durable) (k : ContId) → is_enlisted (frozen c s d) k ≡ is_enlisted d k
unfolding is_enlisted
enlisted-frozen c s d k = frozen-leaves (λ x. is_enlisted x k) c s d (rows-kept (raised_at c s (Snapshot s)) k d.conts (raised_at-same k c s (Snapshot s)))

-- ---- what is pruned

pub enlisted-pruned : (c : ContId) (upto : Epoch) (n : ℕ) (d : Durable) (k : ContId) → is_enlisted (pruned c upto n d) k ≡ is_enlisted d k
unfolding pruned with_versions marked is_enlisted
enlisted-pruned c upto n d k = rows-kept (marked_at c upto n) k d.conts (marked-same k c upto n)

pub heard-pruned : (ticks : ℕ) (c : ContId) (upto : Epoch) (n : ℕ) (d : Durable) → IsHeard ticks d → IsHeard ticks (pruned c upto n d)
unfolding pruned with_versions marked
heard-pruned ticks c upto n d h = record { versions = All-filter _ (λ v. v.epoch.0 / 256 ≤ ticks) d.versions h.versions; leased = h.leased }
