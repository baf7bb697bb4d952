-- What targets keep after an opening lasts over the run that begins: nothing is left to settle, and each snapshot is one that target 0 holds as created.
use Rattle.std.specs.Prelude.{ℕ, ◌≡◌, ◌==◌, List, Some, slice_get}
use Rattle.std.proofs.Common.{sym, subst}
use Rattle.base_types.specs.declared.script.Script.{Script}
use Rattle.base_types.specs.declared.snapshot.Snap.{Snap}
use Rattle.model_laws.specs.Members.{Has, has-any, has-from_contains, has-from_filter}
use Rattle.model_laws.specs.TargetLaws.{number_same}
use Rattle.daos_model.specs.declared.durable.Durable.{Durable}
use Rattle.daos_model.specs.BoolLaws.{and_left, and_right}
use Rattle.daos_model.specs.Durables.{is_snap_at}
use Rattle.run_opening.specs.FloorLaws.{opened-floored}
use Rattle.run_opening.specs.Opened.{AreFloored, AreInForm, is_at_one_of, lasting_snaps, opened, opened_family}
use Rattle.run_opening.specs.SoundLaws.{at-mapped, opened-form, opened-settled}
use Rattle.run_opening.specs.StandLaws.{created-opened}
use Rattle.world_closing.specs.stands.Created.{IsNamedIn}
use Rattle.world_closing.specs.stands.Lasting.{IsLasting}

-- a snapshot that a target still holds is named among those that last
named-lasting : (s : Script) (F : List Durable) (d : Durable) (x : Snap) → Has x (opened s F d).snaps → IsNamedIn (lasting_snaps s F) x.cont x.epoch.0
unfolding opened
named-lasting s F d x i =
    let y = has-any (is_snap_at x.cont x.epoch) (lasting_snaps s F) (has-from_filter (is_at_one_of (lasting_snaps s F)) d.snaps x i).1 in
    record {
      s = y.0;
      among = y.1;
      cont = number_same y.0.cont.0 x.cont.0 (and_left (y.0.cont.0 == x.cont.0) (y.0.epoch.0 == x.epoch.0) y.2);
      epoch = number_same y.0.epoch.0 x.epoch.0 (and_right (y.0.cont.0 == x.cont.0) (y.0.epoch.0 == x.epoch.0) y.2);
    }

-- what is in form lasts, where each frozen snapshot lay at or below its floor
pub opened-last : (s : Script) (F : List Durable) → AreInForm F → AreFloored F → (t : ℕ) (d : Durable) → slice_get (opened_family s F) t ≡ Some d → IsLasting (opened_family s F) d
opened-last s F forms low t d at =
    let e = at-mapped (opened s F) F t d at in
    let quiet = opened-settled s F t d at in
    record {
      form = opened-form s F forms t d at;
      done = quiet.done;
      entries = quiet.entries;
      created = λ x i. subst (λ xs. IsNamedIn xs x.cont x.epoch.0) (sym (created-opened s F))
          (named-lasting s F e.0 x (subst (λ y. Has x y.snaps) (sym e.2) (has-from_contains d.snaps x i)));
      floored = opened-floored s F low t d at;
    }
