-- The fixed places that were found are a table that may be remembered.
use Rattle.std.proofs.Common.{◌≡◌, ℕ, ◌<◌, ◌^◌, ◌==◌, ◌||◌, Bool, true, false, refl, sym, ap, ◌∙◌, subst, arith}
use Rattle.std.specs.Prelude.{if◌then◌else◌}
use Rattle.std.proofs.lemmas.Bool.Decides.{nat_tests}
use Rattle.vos_pool_base.specs.vos_image.Places.{Header, is_layout}
use Rattle.vos_pool_base.specs.vos_image.Content.{Content, content_of}
use Rattle.vos_pool_base.specs.vos_places.declared.codec.Counters.{Counters}
use Rattle.vos_pool_base.specs.vos_places.Codec.{AreCounters}
use Rattle.vos_pool_base.specs.vos_places.Tables.{Table}
use Rattle.vos_pool_base.specs.vos_tables.Laws.{HeldAreTables}
use Rattle.vos_pool_base.specs.vos_tables.Tables.{IsTable, counters_in, header_of, layout_number, table_of}
use Rattle.vos_pool_base.specs.vos_tables.declared.identity.Identity.{Identity}
use Rattle.vos_pool_open.specs.vos_check_content.Whole.{IsHeldSomewhere}
use Rattle.vos_pool_base.proofs.vos_standing.vos_places.Header.{layout_read, lease_read, lease_small, target_read}
use Rattle.vos_values.specs.declared.keys.Layout.TheVariants.{One, Two}

layout_said : (n : ℕ) → is_layout n ≡ true → layout_number (if n == 1 then One else Two) ≡ n
layout_said n is = by (n == 1) refl
  where
    by : (b : Bool) → (n == 1) ≡ b → layout_number (if b then One else Two) ≡ n
    by true one = sym (grind (arith, nat_tests))
    by false other = let two : ((n == 1) || (n == 2)) ≡ true = is in sym (grind (arith, nat_tests))

-- these say what the header of a table says of itself, for a target
pub record SayAs (t : Table) (target : ℕ) (i : Identity) (n : Counters) : Type 0 where
  pub layout : i.layout ≡ (if t.header.layout == 1 then One else Two)
  pub target_is : i.target ≡ target
  pub targets : i.targets ≡ t.header.targets
  pub counters : n ≡ record { incarnation = t.header.incarnation; lease = t.header.lease; objects = t.header.objects; entries = t.header.entries }
  pub incarnation : n.incarnation < 2 ^ 64
  pub objects : n.objects < 2 ^ 32
  pub entries : n.entries < 2 ^ 32

module _ (target : ℕ) (t : Table) (i : Identity) (n : Counters) (held : (size : ℕ) × IsHeldSomewhere target size t) (say : SayAs t target i n) where
  abbrev content_is : Content
  content_is = content_of held.0 held.1.image

  layout_is : layout_number i.layout ≡ t.header.layout
  layout_is = ap layout_number say.layout ∙ layout_said t.header.layout (layout_read target content_is t.header _ held.1.keeps.header)

  target_same : i.target ≡ t.header.target
  target_same = say.target_is ∙ sym (target_read target content_is t.header _ held.1.keeps.header)

  same_header : header_of i n ≡ t.header
  same_header = rw (layout_is, target_same, say.targets, say.counters) refl

  pub same_table : table_of i n t.conts t.snaps ≡ t
  same_table = ap (λ (h : Header). let u : Table = record { header = h; conts = t.conts; snaps = t.snaps } in u) same_header

  low : n.lease < 2 ^ 56
  low = let small = lease_small target content_is t.header _ held.1.keeps.header in let read = lease_read target content_is t.header _ held.1.keeps.header in let same = ap (λ (c : Counters). c.lease) say.counters in omega (arith, small, read, same)

  counters_are : AreCounters (counters_in t)
  counters_are = subst AreCounters say.counters (record { incarnation = say.incarnation; lease = low; objects = say.objects; entries = say.entries })

  pub is_table : HeldAreTables → IsTable (table_of i n t.conts t.snaps)
  is_table tables = subst IsTable (sym same_table) (tables target held.0 held.1.image t held.1.bytes counters_are held.1.keeps)

-- and it is of the target that it was found for
pub target_is : (target size : ℕ) (t : Table) → IsHeldSomewhere target size t → t.header.target ≡ target
target_is target size t held = target_read target (content_of size held.image) t.header _ held.keeps.header
