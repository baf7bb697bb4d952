-- The punch or the creation of a moment becomes done, or goes.
use Rattle.std.proofs.Common.{◌≡◌, ℕ, ◌&&◌, Bool, true, false, ◌∷◌, ◌++◌, None, refl, sym, ap, ◌∙◌, subst}
use Rattle.std.specs.Prelude.{if◌then◌else◌}
use Rattle.std.specs.List.{find, list_any}
use Rattle.std.specs.Option.{option_map}
use Rattle.pmem_pages.specs.Blocks.{Blocks}
use Rattle.pmem_pages.specs.Owners.{Changed, Holds}
use Rattle.pmem_pages.specs.Shape.{Entry, entries}
use Rattle.vos_values.specs.declared.keys.Moment.{Moment}
use Rattle.vos_values.specs.declared.values.LogMark.{LogMark}
use Rattle.vos_values.specs.Keys.{IsMoment, moment_key}
use Rattle.vos_levels.specs.declared.change.Change.{Change}
use Rattle.vos_levels.specs.Calls.{Becomes}
use Rattle.vos_levels.specs.Changes.{keeps, takes}
use Rattle.vos_levels.specs.Levels.{hung_root, things}
use Rattle.vos_levels.proofs.Changing.{stays}
use Rattle.vos_levels.proofs.Settling.{Says, list_same, none_freed, says, says_none, spot_at}
use Rattle.vos_levels.proofs.Spots.{Spot}
use Rattle.vos_levels.proofs.Testing.{fewer_none, spot_none}
use Rattle.vos_ilog.specs.declared.ilog.LogEntry.{LogEntry}
use Rattle.vos_ilog.specs.Logs.{IsChangedAt, Log, SaysAt, changed_at, done_entry, freed_at, is_at, log_level, log_owner, mark_of, one_block}
use Rattle.vos_ilog.proofs.Adding.{tells_at}
use Rattle.vos_settle.specs.declared.task.Task.{Task}
use Rattle.vos_settle.specs.declared.task.Which.{Which}
use Rattle.vos_settle.specs.declared.task.Which.TheVariants.{Creation}
use Rattle.vos_settle.specs.Tasks.{is_taken, is_update, is_wanted, log_after, log_freed, noted_after}
use Rattle.vos_settle.specs.Nodes.{Turned}
use Rattle.vos_settle.proofs.Lists.{agree_changed, agree_freed, spot_agree}

abbrev pub LogTurn : Which → Change → Moment → Log → Log → Type 0
LogTurn w c at a b = things b ≡ log_after w c at (things a)

abbrev wants : Which → LogEntry → Bool
wants w e = is_wanted w e.punch e.by

abbrev taken_by : Change → LogEntry → Bool
taken_by c e = takes c e.by e.done

module _ (m : Blocks) (g : Log) (at : Moment) (mark : LogMark) (good : IsMoment at) (h : Holds log_owner m g) (s : SaysAt at mark (things g)) (w : Which) (c : Change) where
  it : Says mark_of (is_at at) mark (things g)
  it = says mark_of (is_at at) mark (things g) s

  spot : (e : Entry) × Spot log_level (moment_key at) (is_at at) (entries g.0) g.1 e it.thing
  spot = spot_at log_level (moment_key at) (is_at at) (tells_at at good) m g it.thing h it.found

  wanted_so : (t : Bool) → is_wanted w mark.punch mark.by ≡ t → wants w it.thing ≡ t
  wanted_so t e = ap (λ (z : LogMark). is_wanted w z.punch z.by) it.mark_is ∙ e

  -- it isn't such a one
  pub not_wanted : is_wanted w mark.punch mark.by ≡ false → list_any (is_taken w c at) (things g) ≡ false
  not_wanted other =
      let no : (wants w it.thing && taken_by c it.thing) ≡ false = (let n = wanted_so false other in rw n refl) in
      spot_none log_level (moment_key at) (is_at at) (λ e. wants w e && taken_by c e) (entries g.0) g.1 spot.0 it.thing spot.1 no

  -- it is such a one
  pub wanted_after : is_wanted w mark.punch mark.by ≡ true → changed_at c at (things g) ≡ log_after w c at (things g)
  wanted_after is_such =
      let t = spot.1 in
      ap (changed_at c at) t.things_are
      ∙ (agree_changed (λ e. is_at at e && taken_by c e) (λ e. is_at at e && (wants w e && taken_by c e)) (keeps c) done_entry (t.left ++ it.thing ∷ t.right) (spot_agree (is_at at) (wants w) (taken_by c) t.left it.thing t.right t.none_left (wanted_so true is_such) t.none_right)
      ∙ sym (ap (log_after w c at) t.things_are))

  pub wanted_freed : is_wanted w mark.punch mark.by ≡ true → freed_at c at (things g) ≡ log_freed w c at (things g)
  wanted_freed is_such =
      let t = spot.1 in
      ap (freed_at c at) t.things_are
      ∙ (agree_freed (λ e. is_at at e && taken_by c e) (λ e. is_at at e && (wants w e && taken_by c e)) (keeps c) one_block (t.left ++ it.thing ∷ t.right) (spot_agree (is_at at) (wants w) (taken_by c) t.left it.thing t.right t.none_left (wanted_so true is_such) t.none_right)
      ∙ sym (ap (log_freed w c at) t.things_are))

  pub entry_turned : (o : Blocks) (root : ℕ) → is_wanted w mark.punch mark.by ≡ true → Becomes log_owner hung_root things m g o root (IsChangedAt c at) → Turned log_owner hung_root m g o root (LogTurn w c at)
  entry_turned o root is_such b = record { now = b.now; changed = b.changed; roots_are = b.root_is; so = b.shown_is ∙ wanted_after is_such }

-- there is none
pub none_there : (g : Log) (at : Moment) (w : Which) (c : Change) → None ≡ option_map mark_of (find (is_at at) (things g)) → list_any (is_taken w c at) (things g) ≡ false
none_there g at w c n = fewer_none (is_at at) (λ e. wants w e && taken_by c e) (things g) (says_none mark_of (is_at at) (things g) n)

pub entry_stays : (m o : Blocks) (g : Log) (w : Which) (c : Change) (at : Moment) (root : ℕ) → o ≡ m → Holds log_owner m g → root ≡ hung_root g → list_any (is_taken w c at) (things g) ≡ false → Turned log_owner hung_root m g o root (LogTurn w c at)
entry_stays m o g w c at root e h is n = record {
  now = g;
  changed = subst (λ z. Changed log_owner m g z g) (sym e) (stays log_owner m g h);
  roots_are = is;
  so = list_same (is_taken w c at) done_entry (keeps c) (things g) n;
}

pub stays_free : (g : Log) (w : Which) (c : Change) (at : Moment) → list_any (is_taken w c at) (things g) ≡ false → log_freed w c at (things g) ≡ 0
stays_free g w c at n = none_freed (is_taken w c at) one_block (keeps c) (things g) n

-- the creation of an update
pub noted_turned : (m o : Blocks) (g : Log) (t : Task) (root : ℕ) → is_update t.kind ≡ true → Turned log_owner hung_root m g o root (LogTurn (Creation t.by) t.change t.at) → Turned log_owner hung_root m g o root (λ a b. things b ≡ noted_after t (things a))
noted_turned m o g t root e l = record { now = l.now; changed = l.changed; roots_are = l.roots_are; so = l.so ∙ sym (ap (λ (z : Bool). if z then log_after (Creation t.by) t.change t.at (things g) else things g) e) }
