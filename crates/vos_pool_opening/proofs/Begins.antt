-- Counters with the next incarnation make what is kept begun.
use Rattle.std.specs.Prelude.{◌≡◌, ℕ, false, List, OnOk, Ok, Err, Option, Result, Some}
use Rattle.std.specs.Option.{option_map}
use Rattle.std.proofs.Common.{refl, sym, ap, ◌∙◌}
use Rattle.base_types.specs.declared.entry.Entry.{Entry}
use Rattle.daos_model.specs.declared.durable.Durable.{Durable}
use Rattle.daos_model.specs.declared.durable.Version.{Version}
use Rattle.vos_pool_held.specs.vos_pool_base.vos_places.declared.codec.Counters.{Counters}
use Rattle.vos_pool_held.specs.vos_pool_base.vos_places.Laws.{counted}
use Rattle.vos_pool_held.specs.vos_pool_base.vos_places.Tables.{Table}
use Rattle.vos_pool_held.specs.vos_pool_base.vos_tables.Kept.{kept_with}
use Rattle.vos_pool_opening.specs.Beginning.{begun, next_incarnation}
use Rattle.vos_pool_opening.specs.declared.beginning.Beginning.{Beginning}

pub counted-begins : (b : Beginning) (t : Table) (c : Counters) (n : ℕ) → n ≡ next_incarnation b false t.header.incarnation
    → c ≡ record { incarnation = n; lease = t.header.lease; objects = t.header.objects; entries = t.header.entries } → (vs : List Version) (es : List Entry) → kept_with (counted c t) vs es ≡ begun b (kept_with t vs es)
counted-begins b t c n next is vs es = rw (is, next) refl

-- what was found in a pool is found of it with its opening counted
pub found-begun : (b : Beginning) (t u : Table) (c : Counters) (n : ℕ) (kept kept' : Option Durable) → n ≡ next_incarnation b false t.header.incarnation → c ≡ record { incarnation = n; lease = t.header.lease; objects = t.header.objects; entries = t.header.entries }
    → u ≡ counted c t → kept' ≡ option_map (begun b) kept → (vs : List Version) (es : List Entry) → kept ≡ Some (kept_with t vs es) → kept' ≡ Some (kept_with u vs es)
found-begun b t u c n kept kept' next is table made vs es was =
    made ∙ (ap (option_map (begun b)) was ∙ ap (λ (d : Durable). Some d) (sym (counted-begins b t c n next is vs es) ∙ ap (λ (v : Table). kept_with v vs es) (sym table)))

pub on-ok-two : {P Q S : Type 0} {T E : Type 0} (r : Result T E) → (P → Q → S) → OnOk r P → OnOk r Q → OnOk r S
on-ok-two (Ok x) f p q = f p q
on-ok-two (Err e) f p q = tt
