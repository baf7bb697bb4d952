-- Punches that come to an index by their names.
use Rattle.std.proofs.Common.{◌≡◌, ◌&&◌, ◌||◌, Bool, true, false, List, [], ◌∷◌, ◌++◌, map, None, refl, sym, ap, ◌∙◌, subst}
use Rattle.std.specs.Prelude.{filter, if◌then◌else◌}
use Rattle.std.specs.List.{list_any}
use Rattle.base_types.specs.Operations.{write_path}
use Rattle.base_types.specs.Paths.{same_path}
use Rattle.base_types.specs.declared.path.Path.{Path}
use Rattle.daos_model.specs.Prunes.{is_punch as is_punch_write}
use Rattle.daos_model.specs.declared.durable.Version.{Version}
use Rattle.vos_values.specs.declared.keys.Moment.{Moment}
use Rattle.vos_levels.specs.Moments.{same_moment}
use Rattle.vos_punches.specs.Moments.{AreInOrder, has_moment, with_moment}
use Rattle.vos_punches.specs.Punches.{ArePunchesOf, IsAdded, PunchesAt, is_punch_of, moment_of as moment_of_version}
use Rattle.vos_punches.proofs.Order.{has_with, order_with}
use Rattle.std.proofs.lemmas.List.Folds.{list_any-append}
use Rattle.vos_settle.specs.declared.name.WriteName.{WriteName}
use Rattle.vos_settle.specs.Names.{moment_of, name_of}
use Rattle.vos_gather.specs.Gathered.{Gathered, is_name_of}
use Rattle.vos_gather.specs.Wanted.{Want, is_wanted, names_in}

or_false : (b : Bool) → b ≡ (b || false)
or_false true = refl
or_false false = refl

or_assoc : (a b c : Bool) → ((a || b) || c) ≡ (a || (b || c))
or_assoc true b c = refl
or_assoc false b c = refl

-- ---- one after another

pub gathered_none : (f : PunchesAt) → Gathered [] f f
gathered_none f = record { order = λ p h. h; exact = λ p m. or_false (has_moment m (f p)) }

pub gathered_then : (ns ms : List WriteName) (f g h : PunchesAt) → Gathered ns f g → Gathered ms g h → Gathered (ns ++ ms) f h
gathered_then ns ms f g h x y = record {
  order = λ p o. y.order p (x.order p o);
  exact = λ p m.
      y.exact p m
      ∙ (ap (λ b. b || list_any (is_name_of p m) ms) (x.exact p m)
      ∙ (or_assoc (has_moment m (f p)) (list_any (is_name_of p m) ns) (list_any (is_name_of p m) ms) ∙ ap (λ b. has_moment m (f p) || b) (sym (list_any-append (is_name_of p m) ns ms))));
}

-- one punch more
pub gathered_add : (n : WriteName) (f g : PunchesAt) → IsAdded f g n.path (moment_of n) → Gathered (n ∷ []) f g
gathered_add n f g i = record {
  order = λ p o. subst AreInOrder (sym (i p)) (order p o (same_path n.path p));
  exact = λ p m. ap (has_moment m) (i p) ∙ (by p m (same_path n.path p) ∙ turn (same_path n.path p && same_moment (moment_of n) m) (has_moment m (f p)));
}
  where
    order : (p : Path) → AreInOrder (f p) → (b : Bool) → AreInOrder (if b then with_moment (moment_of n) (f p) else f p)
    order p o true = order_with (moment_of n) (f p) o
    order p o false = o

    by : (p : Path) (m : Moment) (b : Bool) → has_moment m (if b then with_moment (moment_of n) (f p) else f p) ≡ ((b && same_moment (moment_of n) m) || has_moment m (f p))
    by p m true = has_with (moment_of n) m (f p)
    by p m false = refl

    turn : (a b : Bool) → (a || b) ≡ (b || (a || false))
    turn true true = refl
    turn true false = refl
    turn false true = refl
    turn false false = refl

-- ---- the names of all punches

-- whatever is a punch
abbrev pub punches_alone : Want
punches_alone = record { updates = false; change = None; moments = None; under = None }

-- the names of the punches among versions say where and when punches were made
named_alike : (p : Path) (m : Moment) (vs : List Version) → list_any (is_name_of p m) (names_in punches_alone vs) ≡ list_any (is_punch_of p m) vs
named_alike p m [] = refl
named_alike p m (v ∷ vs) = by (is_punch_write v.write) refl (named_alike p m vs)
  where
    rest : List WriteName
    rest = names_in punches_alone vs

    by : (b : Bool) → is_punch_write v.write ≡ b → list_any (is_name_of p m) (names_in punches_alone vs) ≡ list_any (is_punch_of p m) vs → list_any (is_name_of p m) (map name_of (if (b && true) then v ∷ filter (is_wanted punches_alone) vs else filter (is_wanted punches_alone) vs)) ≡ ((b && (same_path (write_path v.write) p && same_moment (moment_of_version v) m)) || list_any (is_punch_of p m) vs)
    by true e r = ap (λ b. (same_path (write_path v.write) p && same_moment (moment_of_version v) m) || b) r
    by false e r = r

-- all came to an index that had none
pub gathered_all : (vs : List Version) (f g : PunchesAt) → ((p : Path) → f p ≡ []) → Gathered (names_in punches_alone vs) f g → ArePunchesOf vs g
gathered_all vs f g none x = record {
  order = λ p. x.order p (subst AreInOrder (sym (none p)) tt);
  exact = λ p m. x.exact p m ∙ (ap (λ z. has_moment m z || list_any (is_name_of p m) (names_in punches_alone vs)) (none p) ∙ named_alike p m vs);
}
