-- Each line keeps what was read a script in form so far, and at the end it is one.
use Rattle.std.proofs.Common.{◌≡◌, ◌≤◌, ◌<◌, ◌^◌, ℕ, ◌+◌, false, List, [], ◌∷◌, ◌++◌, length, map, Some, None, Option, Ok, refl, ap, subst, arith, is_some, ◌||◌}
use Rattle.std.specs.List.{IsDistinct}
use Rattle.std.proofs.lemmas.List.{length-append}
use Rattle.std.proofs.lemmas.List.Elements.{All-from_recursion}
use Rattle.base_types.specs.Keys.{same_key}
use Rattle.base_types.specs.Scripts.{AreCommands, IsInForm, old_snap}
use Rattle.base_types.specs.declared.id.ContId.{ContId}
use Rattle.script_lines.specs.declared.line.Line.{Line}
use Rattle.script_lines.specs.declared.line.Line.TheVariants as line
use Rattle.script_lines.specs.Fits.{LineFits}
use Rattle.daos_script.specs.News.{IsNew}
use Rattle.base_names.specs.Names.{named}
use Rattle.script_words.specs.declared.decls.Decls.{Decls}
use Rattle.script_words.specs.Lookups.{old_named}
use Rattle.script_words.specs.Snaps.{is_snap}
use Rattle.daos_script.specs.declared.client.Client.{Client}
use Rattle.daos_script.specs.Lists.{all_lists, lists_of, pending}
use Rattle.daos_script.specs.Steps.{within_of}
use Rattle.daos_script.specs.declared.reading.Reading.{Reading}
use Rattle.daos_script.specs.Puts.{add_line, nothing_read}
use Rattle.daos_script.specs.Readings.{bad_tell, script_with}
use Rattle.daos_script.specs.SoFar.{AreHeads, IsBody, IsSoFar, IsStateAt, snap_name}
use Rattle.daos_script.proofs.KeepsHeads.{keep_cont, keep_drop, keep_obj, keep_old, keep_stop, later}
use Rattle.daos_script.proofs.KeepsLists.{keep_aggregate, keep_client, keep_do_at, keep_end, keep_op, keep_skip, keep_snap, keep_tell, keep_tx, whole_lists}
use Rattle.daos_script.proofs.Tells.{all_told}

-- a name of no snapshot is none of any of the three tables
is_none_of : {A B C : Type 0} (a : Option A) (b : Option B) (c : Option C) → (is_some a || is_some b || is_some c) ≡ false → (a ≡ None) × (b ≡ None) × (c ≡ None)
is_none_of None None None e = (refl, refl, refl)
is_none_of None None (Some z) e = absurd cc
is_none_of None (Some y) c e = absurd cc
is_none_of (Some x) b c e = absurd cc

no_snap : (decls : Decls) (name : List ℕ) → is_snap decls name ≡ false → (old_named decls.olds name ≡ None) × (named decls.made name ≡ None) × (named decls.own name ≡ None)
unfolding is_snap
no_snap decls name e = is_none_of (old_named decls.olds name) (named decls.made name) (named decls.own name) e

-- what fits is new
pub new_fits : (decls : Decls) (within : Option ContId) (l : Line) → LineFits decls within l → IsNew decls l
new_fits decls within (line.Cont d) f = f.new_name
new_fits decls within (line.Obj d) f = record { name = f.new_name; unit = f.unit }
new_fits decls within (line.Old d) f = (no_snap decls d.name f.new_name).0
new_fits decls within (line.Drop name) f = tt
new_fits decls within (line.Stop d) f = tt
new_fits decls within line.Client f = tt
new_fits decls within (line.Do op) f = tt
new_fits decls within (line.DoAt at op) f = tt
new_fits decls within line.Tx f = tt
new_fits decls within (line.TxAt at) f = tt
new_fits decls within line.End f = tt
new_fits decls within (line.Snap name cont) f = let n = no_snap decls name f.new_name in record { made = n.1; own = n.2 }
new_fits decls within (line.Aggregate cont) f = tt
new_fits decls within (line.Tell client) f = tt
new_fits decls within (line.Skip turns) f = tt

-- each line keeps the state
state_keeps : (targets at : ℕ) (r t : Reading) (l : Line) → IsStateAt targets at r → LineFits r.decls (within_of r.lists.present.client) l → add_line at r l ≡ Ok t → IsStateAt targets (at + 1) t
state_keeps targets at r t (line.Cont d) h f e = keep_cont targets at r t d h f e
state_keeps targets at r t (line.Obj d) h f e = keep_obj targets at r t d h f e
state_keeps targets at r t (line.Old d) h f e = keep_old targets at r t d h f e
state_keeps targets at r t (line.Drop name) h f e = keep_drop targets at r t name h f e
state_keeps targets at r t (line.Stop d) h f e = keep_stop targets at r t d h f e
state_keeps targets at r t line.Client h f e = keep_client targets at r t h e
state_keeps targets at r t (line.Do op) h f e = keep_op targets at r t op h f e
state_keeps targets at r t (line.DoAt snapshot op) h f e = keep_do_at targets at r t snapshot op h f e
state_keeps targets at r t line.Tx h f e = keep_tx targets at at r t None h tt e
state_keeps targets at r t (line.TxAt snapshot) h f e = keep_tx targets at at r t (Some snapshot) h f e
state_keeps targets at r t line.End h f e = keep_end targets at r t h e
state_keeps targets at r t (line.Snap name cont) h f e = keep_snap targets at r t name cont h f e
state_keeps targets at r t (line.Aggregate cont) h f e = keep_aggregate targets at r t cont h f e
state_keeps targets at r t (line.Tell client) h f e = keep_tell targets at at r t client h e
state_keeps targets at r t (line.Skip turns) h f e = keep_skip targets at r t turns f.0 f.1 h e

-- a line keeps what was read in form
pub line_keeps : (targets at : ℕ) (r t : Reading) (l : Line) → IsSoFar targets at r → LineFits r.decls (within_of r.lists.present.client) l → add_line at r l ≡ Ok t → IsSoFar targets (at + 1) t
unfolding IsSoFar
line_keeps targets at r t l h f e = state_keeps targets at r t l h f e

-- a line that is passed over does, too
pub passed_keeps : (targets at : ℕ) (r : Reading) → IsSoFar targets at r → IsSoFar targets (at + 1) r
unfolding IsSoFar
passed_keeps targets at r h = record {
  read_for = h.read_for;
  heads = h.heads;
  made_are = h.made_are;
  own_are = h.own_are;
  names = h.names;
  body = h.body;
  counts = h.counts;
  few = h.few;
  skipped = later at _ h.skipped;
  kept = h.kept;
}

few_turns : (targets at : ℕ) (r : Reading) → at ≤ 16777217 → IsStateAt targets at r → pending r.lists < 2 ^ 63
few_turns targets at r le h = omega (arith, h.skipped)

pub few_pending : (targets at : ℕ) (r : Reading) → at ≤ 16777217 → IsSoFar targets at r → pending r.lists < 2 ^ 63
unfolding IsSoFar
few_pending targets at r le h = few_turns targets at r le h

no_heads : (targets : ℕ) → AreHeads targets [] [] [] [] []
unfolding IsDistinct
no_heads targets = record {
  few_conts = omega arith;
  cont_names = tt;
  cont_ids = tt;
  few_objs = omega arith;
  obj_names = tt;
  obj_ids = tt;
  obj_conts = All-from_recursion _ [] tt;
  obj_units = All-from_recursion _ [] tt;
  classes = All-from_recursion _ [] tt;
  few_olds = omega arith;
  old_conts = All-from_recursion _ [] tt;
  known_drops = All-from_recursion _ [] tt;
  drops_once = tt;
  few_stops = omega arith;
  stops_fit = All-from_recursion _ [] tt;
}

-- nothing is read yet
pub nothing_so_far : (targets : ℕ) → IsSoFar targets 1 (nothing_read targets)
unfolding IsDistinct IsSoFar
nothing_so_far targets = record {
  read_for = refl;
  heads = no_heads targets;
  made_are = refl;
  own_are = refl;
  names = tt;
  body = refl;
  counts = refl;
  few = omega arith;
  skipped = omega arith;
  kept = tt;
}

-- ---- the end

few_lists : (conts : _) (objs : _) (olds : _) (whole : _) (o : Option Client) → IsBody conts objs olds whole o → length (lists_of whole o) ≤ 64
few_lists conts objs olds whole None h = let e : length whole ≡ 0 = ap length h in omega arith
few_lists conts objs olds whole (Some c) h = omega (arith, length-append whole (c.list ∷ []), h.room)

-- the script of a state is in form
state_form : (targets at : ℕ) (r : Reading) → IsStateAt targets at r → bad_tell (length (all_lists r.lists)) r.lists.tells ≡ None → IsInForm targets (script_with r.decls (all_lists r.lists))
state_form targets at r h none =
    let k = h.heads in
    record {
      read_for = h.read_for;
      declared = record {
        conts = k.few_conts;
        cont_names = k.cont_names;
        cont_ids = k.cont_ids;
        objs = k.few_objs;
        obj_names = k.obj_names;
        obj_ids = k.obj_ids;
        obj_conts = k.obj_conts;
        obj_units = k.obj_units;
      };
      classes = k.classes;
      olds = k.few_olds;
      old_conts = k.old_conts;
      drops = k.known_drops;
      drops_once = k.drops_once;
      snap_names = subst (λ m. IsDistinct same_key (map snap_name (map old_snap r.decls.olds ++ m))) h.made_are h.names;
      stops = k.few_stops;
      stops_fit = k.stops_fit;
      clients = few_lists r.decls.conts r.decls.objs (map old_snap r.decls.olds) r.lists.whole r.lists.present.client h.body;
      few = omega (arith, h.counts, h.few);
      commands = All-from_recursion (λ list. AreCommands r.decls.conts r.decls.objs (map old_snap r.decls.olds) list) (lists_of r.lists.whole r.lists.present.client)
          (whole_lists r.decls.conts r.decls.objs (map old_snap r.decls.olds) r.lists.whole r.lists.present.client h.body);
      told = all_told (length (all_lists r.lists)) r.lists.tells none 0 (lists_of r.lists.whole r.lists.present.client) h.kept;
    }

-- the script so far is in form
pub so_far_form : (targets at : ℕ) (r : Reading) → IsSoFar targets at r → bad_tell (length (all_lists r.lists)) r.lists.tells ≡ None → IsInForm targets (script_with r.decls (all_lists r.lists))
unfolding IsSoFar
so_far_form targets at r h none = state_form targets at r h none

-- it was read for so many targets
pub read_for : (targets at : ℕ) (r : Reading) → IsSoFar targets at r → r.decls.targets ≡ targets
unfolding IsSoFar
read_for targets at r h = h.read_for
