-- What all targets stand for in one container, and at a snapshot of it.
use Rattle.std.specs.Prelude.{ℕ, ◌≡◌, ◌<◌, ◌&&◌, ◌||◌, ◌==◌, Bool, true, false, List, [], ◌∷◌, filter, length, map, slice_get, Option, Some, None, refl, if◌then◌else◌}
use Rattle.std.proofs.Common.{sym, ◌∙◌, ap}
use Rattle.base_types.specs.declared.id.ContId.{ContId}
use Rattle.base_types.specs.declared.operation.Write.{Write}
use Rattle.base_types.specs.Operations.{write_path}
use Rattle.base_types.specs.Paths.{leads_to, overlaps}
use Rattle.base_types.specs.Placement.{path_leader}
use Rattle.model_laws.specs.Dated.{after_all, dated}
use Rattle.model_laws.specs.FamilyLaws.{EachGivesOwn, HasNoneUnowned, IsFamilyInForm, families-agree, families-stand_for, leader-within}
use Rattle.model_laws.specs.Lists.{at-within}
use Rattle.model_laws.specs.PlaceLaws.{overlaps-container}
use Rattle.model_laws.specs.TargetLaws.{family-leaders, value-filter}
use Rattle.model_laws.specs.Targets.{is_own}
use Rattle.model_laws.specs.TouchLaws.{punch-path, update-path}
use Rattle.model_laws.specs.VersionLaws.{value-effects}
use Rattle.model_laws.specs.WriteLaws.{after_write}
use Rattle.daos_model.specs.declared.cell.Cell.{Cell}
use Rattle.daos_model.specs.declared.cell.CellValue.{CellValue}
use Rattle.daos_model.specs.declared.durable.Durable.{Durable}
use Rattle.daos_model.specs.declared.durable.Version.{Version}
use Rattle.daos_model.specs.BoolLaws.{both, clash, false_of}
use Rattle.daos_model.specs.Cells.{value_at}
use Rattle.daos_model.specs.Family.{AgreeOn, family_map, map_where, part_of}
use Rattle.daos_model.specs.Finals.{SameMap}
use Rattle.daos_model.specs.Prunes.{is_punch, touches, values_of}
use Rattle.daos_model.specs.Versions.{version_path}
use Rattle.world_answers.specs.world_contents.reads.Versions.{is_own_in}

-- ---- writes of one container

-- what a write says of a cell is of the cell's container
touched-inside : (w : Write) (c : Cell) → touches c w ≡ true → (write_path w).cont.0 ≡ c.path.cont.0
unfolding overlaps
touched-inside w c at = by (is_punch w) refl
  where
    by : (b : Bool) → is_punch w ≡ b → (write_path w).cont.0 ≡ c.path.cont.0
    by true punch = overlaps-container (write_path w) c.path (ap (λ b. b || leads_to c.path (write_path w)) (punch-path w c punch at))
    by false update = ap (λ p. p.cont.0) (update-path w c update at)

-- a version that passes is of a container
abbrev pub is_inside : ContId → (Version → Bool) → Version → Bool
is_inside cont p v = p v && ((version_path v).cont.0 == cont.0)

kept-by : (c : Cell) (w : Write) (held : Option (List ℕ)) → touches c w ≡ false → after_write c w held ≡ held
kept-by c w held off = ap (λ b. if b then value_at (values_of w) c else held) off

module _ (cont : ContId) (p : Version → Bool) (c : Cell) where
  -- a version of another container says nothing of a cell of this one, and the other way round
  says-nothing : (v : Version) → ((version_path v).cont.0 == cont.0) ≡ false → (c.path.cont.0 == cont.0) ≡ true → touches c v.write ≡ false
  says-nothing v off here = false_of (touches c v.write) (λ at. clash ((version_path v).cont.0 == cont.0) (ap (λ n. n == cont.0) (touched-inside v.write c at) ∙ here) off)

  said-nowhere : (v : Version) → ((version_path v).cont.0 == cont.0) ≡ true → (c.path.cont.0 == cont.0) ≡ false → touches c v.write ≡ false
  said-nowhere v on off = false_of (touches c v.write) (λ at. clash (c.path.cont.0 == cont.0) (ap (λ n. n == cont.0) (sym (touched-inside v.write c at)) ∙ on) off)

  inside-same : (vs : List Version) (held : Option (List ℕ)) → (c.path.cont.0 == cont.0) ≡ true → after_all c (map dated (filter (is_inside cont p) vs)) held ≡ after_all c (map dated (filter p vs)) held
  inside-same [] held here = refl
  inside-same (v ∷ vs) held here = by (p v) ((version_path v).cont.0 == cont.0) refl (λ h. inside-same vs h here)
    where
      by : (a b : Bool) → ((version_path v).cont.0 == cont.0) ≡ b → ((h : Option (List ℕ)) → after_all c (map dated (filter (is_inside cont p) vs)) h ≡ after_all c (map dated (filter p vs)) h)
          → after_all c (map dated (if a && b then v ∷ filter (is_inside cont p) vs else filter (is_inside cont p) vs)) held ≡ after_all c (map dated (if a then v ∷ filter p vs else filter p vs)) held
      by false b is rest = rest held
      by true true is rest = rest (after_write c v.write held)
      by true false is rest = rest held ∙ ap (after_all c (map dated (filter p vs))) (sym (kept-by c v.write held (says-nothing v is here)))

  outside-none : (vs : List Version) (held : Option (List ℕ)) → (c.path.cont.0 == cont.0) ≡ false → after_all c (map dated (filter (is_inside cont p) vs)) held ≡ held
  outside-none [] held off = refl
  outside-none (v ∷ vs) held off = by (p v) ((version_path v).cont.0 == cont.0) refl (λ h. outside-none vs h off)
    where
      by : (a b : Bool) → ((version_path v).cont.0 == cont.0) ≡ b → ((h : Option (List ℕ)) → after_all c (map dated (filter (is_inside cont p) vs)) h ≡ h)
          → after_all c (map dated (if a && b then v ∷ filter (is_inside cont p) vs else filter (is_inside cont p) vs)) held ≡ held
      by false b is rest = rest held
      by true false is rest = rest held
      by true true is rest = rest (after_write c v.write held) ∙ kept-by c v.write held (said-nowhere v is off)

  -- so the versions of a container that pass make what all that pass make at its cells, and nothing at others
  pub map-inside : (d : Durable) → (c.path.cont.0 == cont.0) ≡ true → value_at (map_where (is_inside cont p) d) c ≡ value_at (map_where p d) c
  map-inside d here =
      value-effects c (filter (is_inside cont p) d.versions) [] ∙ inside-same d.versions None here ∙ sym (value-effects c (filter p d.versions) [])

  map-outside : (d : Durable) → (c.path.cont.0 == cont.0) ≡ false → value_at (map_where (is_inside cont p) d) c ≡ None
  map-outside d off = value-effects c (filter (is_inside cont p) d.versions) [] ∙ outside-none d.versions None off

-- ---- maps of one container

-- a map holds nothing outside a container, nor at cells that no target may hold
pub record IsMapIn (cont : ContId) (m : List CellValue) : Type 0 where
  pub outside : (c : Cell) → (c.path.cont.0 == cont.0) ≡ false → value_at m c ≡ None
  pub unowned : HasNoneUnowned m

part-at : (cont : ContId) (m : List CellValue) (c : Cell) → value_at (part_of cont m) c ≡ (if c.path.cont.0 == cont.0 then value_at m c else None)
part-at cont m c = value-filter (λ k. k.path.cont.0 == cont.0) m c

pub part-inside : (cont : ContId) (m : List CellValue) (c : Cell) → (c.path.cont.0 == cont.0) ≡ true → value_at (part_of cont m) c ≡ value_at m c
part-inside cont m c here = part-at cont m c ∙ ap (λ b. if b then value_at m c else None) here

pub part-outside : (cont : ContId) (m : List CellValue) (c : Cell) → (c.path.cont.0 == cont.0) ≡ false → value_at (part_of cont m) c ≡ None
part-outside cont m c off = part-at cont m c ∙ ap (λ b. if b then value_at m c else None) off

-- the part of maps that hold the same is the same
pub parts-same : (cont : ContId) (m n : List CellValue) → SameMap m n → SameMap (part_of cont m) (part_of cont n)
parts-same cont m n same c = part-at cont m c ∙ ap (λ x. if c.path.cont.0 == cont.0 then x else None) (same c) ∙ sym (part-at cont n c)

-- and a map of a container is its own part
pub part-whole : (cont : ContId) (m : List CellValue) → IsMapIn cont m → SameMap (part_of cont m) m
part-whole cont m is c = by (c.path.cont.0 == cont.0) refl
  where
    by : (b : Bool) → (c.path.cont.0 == cont.0) ≡ b → value_at (part_of cont m) c ≡ value_at m c
    by true here = part-inside cont m c here
    by false off = part-outside cont m c off ∙ sym (is.outside c off)

pub part-unowned : (cont : ContId) (m : List CellValue) → HasNoneUnowned m → HasNoneUnowned (part_of cont m)
part-unowned cont m none c at = by (c.path.cont.0 == cont.0) refl
  where
    by : (b : Bool) → (c.path.cont.0 == cont.0) ≡ b → value_at (part_of cont m) c ≡ None
    by true here = part-inside cont m c here ∙ none c at
    by false off = part-outside cont m c off

-- ---- all targets

-- at a cell of a container all targets together hold what those of its versions make
pub family-inside : (F : List Durable) (cont : ContId) (p : Version → Bool) (c : Cell) → 0 < length F → (c.path.cont.0 == cont.0) ≡ true → value_at (family_map (is_inside cont p) F) c ≡ value_at (family_map p F) c
family-inside F cont p c some here =
    let leads = at-within F (path_leader c.path (length F)) (leader-within c.path (length F) some) in
    family-leaders F (is_inside cont p) c leads.0 leads.1 ∙ map-inside cont p c leads.0 here ∙ sym (family-leaders F p c leads.0 leads.1)

-- Each target of a family gives, by the versions that pass, what a map gives at the target's own cells of a container.
abbrev pub EachGivesIn : List Durable → (Version → Bool) → ContId → List CellValue → Type 0
EachGivesIn F p cont m = (t : ℕ) (d : Durable) → slice_get F t ≡ Some d → (c : Cell) → is_own_in (length F) t cont c ≡ true → value_at (map_where p d) c ≡ value_at m c

module _ (F : List Durable) (p : Version → Bool) (cont : ContId) (m : List CellValue) (gives : EachGivesIn F p cont m) where
  each-inside : EachGivesOwn F (is_inside cont p) (part_of cont m)
  each-inside t d at c own = by (c.path.cont.0 == cont.0) refl
    where
      by : (b : Bool) → (c.path.cont.0 == cont.0) ≡ b → value_at (map_where (is_inside cont p) d) c ≡ value_at (part_of cont m) c
      by true here = map-inside cont p c d here ∙ gives t d at c (both (is_own (length F) t c) (c.path.cont.0 == cont.0) own here) ∙ sym (part-inside cont m c here)
      by false off = map-outside cont p c d off ∙ sym (part-outside cont m c off)

  -- replicas agree on it
  pub containers-agree : AgreeOn F (λ v. p v && ((version_path v).cont.0 == cont.0))
  containers-agree = families-agree F (is_inside cont p) (part_of cont m) each-inside

  -- and the container's part of what they stand for is that of the map
  pub containers-stand_for : 0 < length F → IsFamilyInForm F → HasNoneUnowned m → SameMap (part_of cont (family_map p F)) (part_of cont m)
  containers-stand_for some form none c = by (c.path.cont.0 == cont.0) refl
    where
      by : (b : Bool) → (c.path.cont.0 == cont.0) ≡ b → value_at (part_of cont (family_map p F)) c ≡ value_at (part_of cont m) c
      by true here =
          part-inside cont (family_map p F) c here
          ∙ sym (family-inside F cont p c some here)
          ∙ families-stand_for F (is_inside cont p) (part_of cont m) some form each-inside (part-unowned cont m none) c
      by false off = part-outside cont (family_map p F) c off ∙ sym (part-outside cont m c off)
