-- Every change leaves the containers that are known as they are.
use Rattle.std.specs.Prelude.{ℕ, ◌≡◌, ◌||◌, Bool, true, false, List, [], ◌∷◌, map, nat_lt, refl, if◌then◌else◌}
use Rattle.std.proofs.Common.{◌∙◌, ap}
use Rattle.std.specs.List.{list_any}
use Rattle.base_types.specs.declared.epoch.Epoch.{Epoch}
use Rattle.base_types.specs.declared.id.ContId.{ContId}
use Rattle.base_types.specs.declared.outcome.FloorWhy.{FloorWhy}
use Rattle.base_types.specs.declared.outcome.FloorWhy.TheVariants.{Aggregate, Snapshot}
use Rattle.daos_model.specs.declared.durable.ContRow.{ContRow}
use Rattle.daos_model.specs.declared.durable.Durable.{Durable}
use Rattle.daos_model.specs.Changes.{aggregated_to, created, frozen, marked, marked_at, new_snap, pruned, raised, raised_at, with_versions}
use Rattle.daos_model.specs.Durables.{is_enlisted, is_frozen, is_row_of, snap_key}
use Rattle.daos_model.specs.Ordered.{put}
use Rattle.world_base.specs.Changes.{Change, Creates, Extends, Freezes, Prepares, Prunes, Settles, made}
use Rattle.target_parts.specs.KeepingLaws.{enlisted-leased, enlisted-prepared, enlisted-settled}

-- rows that stay of their containers
rows-stay : (f : ContRow → ContRow) (k : ContId) (rows : List ContRow) → ((r : ContRow) → is_row_of k (f r) ≡ is_row_of k r) → list_any (is_row_of k) (map f rows) ≡ list_any (is_row_of k) rows
rows-stay f k [] same = refl
rows-stay f k (r ∷ rows) same = ap (λ b. b || list_any (is_row_of k) (map f rows)) (same r) ∙ ap (λ b. is_row_of k r || b) (rows-stay f k rows same)

of-if : (k : ContId) (b : Bool) (r s : ContRow) → is_row_of k s ≡ is_row_of k r → is_row_of k (if b then s else r) ≡ is_row_of k r
of-if k true r s same = same
of-if k false r s same = refl

of-raised : (k : ContId) (e : Epoch) (why : FloorWhy) (r : ContRow) → is_row_of k (raised e why r) ≡ is_row_of k r
of-raised k e why r = of-if k (nat_lt r.floor.0 e.0) r (record r { floor = e; why = why }) refl

of-raised_at : (k c : ContId) (e : Epoch) (why : FloorWhy) (r : ContRow) → is_row_of k (raised_at c e why r) ≡ is_row_of k r
of-raised_at k c e why r = of-if k (is_row_of c r) r (raised e why r) (of-raised k e why r)

of-aggregated : (k : ContId) (upto : Epoch) (n : ℕ) (r : ContRow) → is_row_of k (aggregated_to upto n r) ≡ is_row_of k r
of-aggregated k upto n r = of-if k (nat_lt r.aggregated.0 upto.0) r (record r { aggregated = upto; number = n }) refl

of-marked : (k c : ContId) (upto : Epoch) (n : ℕ) (r : ContRow) → is_row_of k (marked_at c upto n r) ≡ is_row_of k r
of-marked k c upto n r = of-if k (is_row_of c r) r (raised upto (Aggregate n) (aggregated_to upto n r)) (of-raised k upto (Aggregate n) (aggregated_to upto n r) ∙ of-aggregated k upto n r)

enlisted-frozen : (c : ContId) (s : Epoch) (d : Durable) (k : ContId) → is_enlisted (frozen c s d) k ≡ is_enlisted d k
unfolding frozen is_enlisted
enlisted-frozen c s d k = by (is_frozen d c s)
  where
    by : (b : Bool) → is_enlisted (if b then d else record d { conts = map (raised_at c s (Snapshot s)) d.conts; snaps = put snap_key (new_snap c s) d.snaps }) k ≡ is_enlisted d k
    by true = refl
    by false = rows-stay (raised_at c s (Snapshot s)) k d.conts (of-raised_at k c s (Snapshot s))

enlisted-created : (c : ContId) (s : Epoch) (d : Durable) (k : ContId) → is_enlisted (created c s d) k ≡ is_enlisted d k
unfolding created is_enlisted
enlisted-created c s d k = refl

enlisted-pruned : (c : ContId) (upto : Epoch) (n : ℕ) (d : Durable) (k : ContId) → is_enlisted (pruned c upto n d) k ≡ is_enlisted d k
unfolding pruned with_versions marked is_enlisted
enlisted-pruned c upto n d k = rows-stay (marked_at c upto n) k d.conts (of-marked k c upto n)

pub change-enlisted : (c : Change) (d : Durable) (k : ContId) → is_enlisted (made c d) k ≡ is_enlisted d k
change-enlisted (Extends ticks) d k = enlisted-leased ticks k d
change-enlisted (Prepares e ws) d k = enlisted-prepared e ws k d
change-enlisted (Settles a step) d k = enlisted-settled a step k d
change-enlisted (Freezes c s) d k = enlisted-frozen c s d k
change-enlisted (Creates c s) d k = enlisted-created c s d k
change-enlisted (Prunes c upto n) d k = enlisted-pruned c upto n d k
