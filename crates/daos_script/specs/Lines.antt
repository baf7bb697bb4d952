-- A line that is read has keys.
use Rattle.std.specs.Prelude.{ℕ, Bool, true, false, List, Option, Some, Ok, Err, if◌then◌else◌}
use Rattle.base_types.specs.Keys.{IsKey}
use Rattle.base_types.specs.declared.fault.Why.TheVariants.{BadName, UnknownWord}
use Rattle.base_types.specs.declared.id.ContId.{ContId}
use Rattle.base_types.specs.declared.operation.Cond.{Cond}
use Rattle.base_types.specs.declared.operation.Cond.TheVariants.{Must, MustNot}
use Rattle.script_lines.specs.declared.line.At.{At}
use Rattle.script_lines.specs.declared.line.Line.{Line}
use Rattle.script_lines.specs.declared.line.Line.TheVariants as line
use Rattle.script_lines.specs.declared.verbs.OpVerb.{OpVerb}
use Rattle.script_lines.specs.declared.verbs.Verb.{Verb}
use Rattle.script_lines.specs.declared.verbs.Verb.TheVariants as verb
use Rattle.script_lines.specs.Lines.{aggregate_line, at_by, at_line, cond_line, cont_line, do_at, drop_line, line_at, line_by, obj_line, old_line, op_line, skip_line, snap_line, stop_line, tell_line}
use Rattle.script_lines.specs.Ops.{act_by}
use Rattle.script_lines.specs.Verbs.{cond_verb_at, is_read, verb_at}
use Rattle.script_words.specs.declared.decls.Decls.{Decls}
use Rattle.script_words.specs.Lookups.{has_cont, has_obj}
use Rattle.script_words.specs.Words.{class_at, cont_at, drop_at, new_cont_at, new_obj_at, new_snap_at, nothing_at, number_at, snap_at, target_at, unit_at, uuid_at}
use Rattle.daos_script.specs.Reading.{OnRead, on-bind, on-then, on-unless}
use Rattle.daos_script.specs.Words.{ActHasKeys, First, OnTaken, act-by, new-cont-at, new-obj-at, new-snap-at}
use Rattle.script_traits.specs.Keyed.{OpHasKeys}

-- the name that a line gives a container, an object or a snapshot that it makes, and the keys of the operation that it says
abbrev pub LineHasKeys : Line → Type 0
LineHasKeys (line.Cont d) = IsKey d.name
LineHasKeys (line.Obj d) = IsKey d.name
LineHasKeys (line.Old d) = Unit {0}
LineHasKeys (line.Drop name) = Unit {0}
LineHasKeys (line.Stop d) = Unit {0}
LineHasKeys line.Client = Unit {0}
LineHasKeys (line.Do op) = OpHasKeys op
LineHasKeys (line.DoAt at op) = OpHasKeys op
LineHasKeys line.Tx = Unit {0}
LineHasKeys (line.TxAt at) = Unit {0}
LineHasKeys line.End = Unit {0}
LineHasKeys (line.Snap name cont) = IsKey name
LineHasKeys (line.Aggregate cont) = Unit {0}
LineHasKeys (line.Tell client) = Unit {0}
LineHasKeys (line.Skip turns) = Unit {0}

-- ---- declarations

cont-line : (decls : Decls) (ws : List (List ℕ)) → OnTaken LineHasKeys (cont_line decls ws)
unfolding cont_line
cont-line decls ws =
    on-bind (First IsKey) (First LineHasKeys) (new_cont_at decls ws) _ (new-cont-at decls ws)
    (λ name k. on-then (First LineHasKeys) (uuid_at name.1) _ (λ id. on-unless (First LineHasKeys) (has_cont decls.conts id.0) BadName (Ok (line.Cont (record { name = name.0; id = id.0 }), id.1)) k))

obj-line : (decls : Decls) (ws : List (List ℕ)) → OnTaken LineHasKeys (obj_line decls ws)
unfolding obj_line
obj-line decls ws =
    on-bind (First IsKey) (First LineHasKeys) (new_obj_at decls ws) _ (new-obj-at decls ws)
    (λ name k. on-then (First LineHasKeys) (cont_at decls name.1) _ (λ cont. on-then (First LineHasKeys) (class_at decls.targets cont.1) _ (λ class. on-then (First LineHasKeys) (number_at 0 18446744073709551615 class.1) _
    (λ number. on-then (First LineHasKeys) (unit_at number.1) _
    (λ unit. on-unless (First LineHasKeys) (has_obj decls.objs cont.0 (record { class = class.0; number = number.0; unit = unit.0 })) BadName (Ok (line.Obj (record { name = name.0; cont = cont.0; id = record { class = class.0; number = number.0; unit = unit.0 } }), unit.1)) k)))))

old-line : (decls : Decls) (ws : List (List ℕ)) → OnTaken LineHasKeys (old_line decls ws)
unfolding old_line
old-line decls ws = on-then (First LineHasKeys) (new_snap_at decls ws) _ (λ name. on-then (First LineHasKeys) (cont_at decls name.1) _ (λ cont. on-then (First LineHasKeys) (number_at 0 18446744073709551615 cont.1) _ (λ epoch. tt)))

drop-line : (decls : Decls) (ws : List (List ℕ)) → OnTaken LineHasKeys (drop_line decls ws)
unfolding drop_line
drop-line decls ws = on-then (First LineHasKeys) (drop_at decls ws) _ (λ name. tt)

stop-line : (decls : Decls) (ws : List (List ℕ)) → OnTaken LineHasKeys (stop_line decls ws)
unfolding stop_line
stop-line decls ws = on-then (First LineHasKeys) (target_at decls.targets ws) _ (λ target. on-then (First LineHasKeys) (number_at 1 1000000 target.1) _ (λ write. tt))

-- ---- operations

op-line : (decls : Decls) (within : Option ContId) (v : OpVerb) (ws : List (List ℕ)) → OnTaken LineHasKeys (op_line decls within v ws)
unfolding op_line
op-line decls within v ws = on-bind (First ActHasKeys) (First LineHasKeys) (act_by decls within v ws) _ (act-by decls within v ws) (λ act k. k)

cond-line : (decls : Decls) (within : Option ContId) (condition : Cond) (ws : List (List ℕ)) → OnTaken LineHasKeys (cond_line decls within condition ws)
unfolding cond_line
cond-line decls within condition ws = on-then (First LineHasKeys) (cond_verb_at condition ws) _ (λ v. on-bind (First ActHasKeys) (First LineHasKeys) (act_by decls within v.0 v.1) _ (act-by decls within v.0 v.1) (λ act k. k))

do-at : (decls : Decls) (at : At) (v : OpVerb) (ws : List (List ℕ)) → OnTaken LineHasKeys (do_at decls at v ws)
unfolding do_at
do-at decls at v ws = on-bind (First ActHasKeys) (First LineHasKeys) (act_by decls (Some at.cont) v ws) _ (act-by decls (Some at.cont) v ws) (λ act k. k)

at-by : (decls : Decls) (at : At) (v : Verb) (ws : List (List ℕ)) → OnTaken LineHasKeys (at_by decls at v ws)
at-by decls at verb.Cont ws = tt
at-by decls at verb.Obj ws = tt
at-by decls at verb.Old ws = tt
at-by decls at verb.Drop ws = tt
at-by decls at verb.Stop ws = tt
at-by decls at verb.Client ws = tt
at-by decls at (verb.Op v) ws = by (is_read v)
  where
    by : (b : Bool) → OnTaken LineHasKeys (if b then do_at decls at v ws else Err UnknownWord)
    by true = do-at decls at v ws
    by false = tt
at-by decls at verb.Must ws = tt
at-by decls at verb.MustNot ws = tt
at-by decls at verb.Tx ws = tt
at-by decls at verb.End ws = tt
at-by decls at verb.At ws = tt
at-by decls at verb.Snap ws = tt
at-by decls at verb.Aggregate ws = tt
at-by decls at verb.Tell ws = tt
at-by decls at verb.Skip ws = tt

at-line : (decls : Decls) (ws : List (List ℕ)) → OnTaken LineHasKeys (at_line decls ws)
unfolding at_line
at-line decls ws = on-then (First LineHasKeys) (snap_at decls ws) _ (λ snap. on-then (First LineHasKeys) (verb_at snap.1) _ (λ v. at-by decls (record { name = snap.0.0; cont = snap.0.1 }) v.0 v.1))

-- ---- other commands

snap-line : (decls : Decls) (ws : List (List ℕ)) → OnTaken LineHasKeys (snap_line decls ws)
unfolding snap_line
snap-line decls ws = on-bind (First IsKey) (First LineHasKeys) (new_snap_at decls ws) _ (new-snap-at decls ws) (λ name k. on-then (First LineHasKeys) (cont_at decls name.1) _ (λ cont. k))

aggregate-line : (decls : Decls) (ws : List (List ℕ)) → OnTaken LineHasKeys (aggregate_line decls ws)
unfolding aggregate_line
aggregate-line decls ws = on-then (First LineHasKeys) (cont_at decls ws) _ (λ cont. tt)

tell-line : (ws : List (List ℕ)) → OnTaken LineHasKeys (tell_line ws)
unfolding tell_line
tell-line ws = on-then (First LineHasKeys) (number_at 0 65535 ws) _ (λ client. tt)

skip-line : (ws : List (List ℕ)) → OnTaken LineHasKeys (skip_line ws)
unfolding skip_line
skip-line ws = on-then (First LineHasKeys) (number_at 1 10000 ws) _ (λ turns. tt)

-- ---- a line

line-by : (decls : Decls) (within : Option ContId) (v : Verb) (ws : List (List ℕ)) → OnTaken LineHasKeys (line_by decls within v ws)
line-by decls within verb.Cont ws = cont-line decls ws
line-by decls within verb.Obj ws = obj-line decls ws
line-by decls within verb.Old ws = old-line decls ws
line-by decls within verb.Drop ws = drop-line decls ws
line-by decls within verb.Stop ws = stop-line decls ws
line-by decls within verb.Client ws = tt
line-by decls within (verb.Op v) ws = op-line decls within v ws
line-by decls within verb.Must ws = cond-line decls within Must ws
line-by decls within verb.MustNot ws = cond-line decls within MustNot ws
line-by decls within verb.Tx ws = tt
line-by decls within verb.End ws = tt
line-by decls within verb.At ws = at-line decls ws
line-by decls within verb.Snap ws = snap-line decls ws
line-by decls within verb.Aggregate ws = aggregate-line decls ws
line-by decls within verb.Tell ws = tell-line ws
line-by decls within verb.Skip ws = skip-line ws

pub line-at : (decls : Decls) (within : Option ContId) (ws : List (List ℕ)) → OnRead LineHasKeys (line_at decls within ws)
unfolding line_at
line-at decls within ws = on-then LineHasKeys (verb_at ws) _ (λ v. on-bind (First LineHasKeys) LineHasKeys (line_by decls within v.0 v.1) _ (line-by decls within v.0 v.1) (λ l k. on-then LineHasKeys (nothing_at l.1) _ (λ end. k)))
