-- The punches in memory say what the logs say: which punch below an epoch is the last that covers what stands in trees.
use Rattle.std.specs.Prelude.{◌≡◌, ◌==◌, true, Option}
use Rattle.base_types.specs.declared.epoch.Epoch.{Epoch}
use Rattle.base_types.specs.declared.id.ContId.{ContId}
use Rattle.base_types.specs.declared.path.Path.{Path}
use Rattle.model_laws.specs.Members.{Has}
use Rattle.vos_values.specs.declared.keys.Moment.{Moment}
use Rattle.vos_values.specs.declared.keys.ObjectKey.{ObjectKey}
use Rattle.vos_levels.specs.Levels.{Hung, things}
use Rattle.vos_path.specs.Objects.{Akey, Dkey, Object, Objects, object_path}
use Rattle.vos_punches.specs.Punches.{PunchesAt, covering}
use Rattle.vos_reads.specs.Ways.{punched_at}
use Rattle.vos_lists.specs.declared.view.View.{View}
use Rattle.vos_lists.specs.Paths.{at_akey, at_dkey}
use Rattle.vos_lists.specs.Stands.{covered}

-- of each akey of a dkey, where one punch is the last that covers the dkey
abbrev pub CoverAkeys : View → PunchesAt → Path → Option Moment → Hung Akey → Type 0
CoverAkeys w f p punched g = (a : Akey) → Has a (things g) → covering w.below (at_akey p a.name) f ≡ covered w punched a.holds.0

-- of the akeys of each dkey of an object, where one punch is the last that covers the object
abbrev pub CoverDkeys : View → PunchesAt → Path → Option Moment → Hung Dkey → Type 0
CoverDkeys w f p punched g = (d : Dkey) → Has d (things g) → CoverAkeys w f (at_dkey p d.name) (covered w punched d.holds.0) d.holds.1

-- what is seen of an object below an epoch
abbrev pub view_of : Epoch → ObjectKey → View
view_of e o = record { unit = o.obj.unit; below = e }

-- of the objects of a container
abbrev pub CoverObjects : PunchesAt → ContId → Epoch → Objects → Type 0
CoverObjects f c e g = (x : Object) → Has x (things g) → (x.name.cont.0 == c.0) ≡ true → CoverDkeys (view_of e x.name) f (object_path x.name) (punched_at e x.holds.0) x.holds.1
