-- What a generated script declares has names and identities of its own.
use Rattle.std.proofs.Common.{◌≡◌, ℕ, ◌≤◌, Bool, true, false, ◌&&◌, eqb, List, map, length, refl, sym, ap, subst, rules, lit≤, All, Any, arith}
use Rattle.std.specs.Prelude.{nat_eq}
use Rattle.std.specs.List.{IsDistinct}
use Rattle.std.proofs.lemmas.List.Elements.{All-from_recursion}
use Rattle.base_types.specs.declared.id.Class.{Class}
use Rattle.base_types.specs.declared.script.ContDecl.{ContDecl}
use Rattle.base_types.specs.declared.script.ObjDecl.{ObjDecl}
use Rattle.base_types.specs.declared.script.Script.{Script}
use Rattle.base_types.specs.Keys.{same_key}
use Rattle.base_types.specs.Paths.{class_number, same_object}
use Rattle.base_types.specs.Scripts.{AreDeclared, IsUnit, cont_name, cont_number, obj_name, same_declared}
use Rattle.daos_gen.specs.Commands.{class_of}
use Rattle.daos_gen.specs.Scripts.{conts_of_load, objs_of_load}

and_false : (b c : Bool) → c ≡ false → (b && c) ≡ false
and_false true c e = e
and_false false c e = refl

-- objects of other numbers are others
apart : (c d : Class) (m n : ℕ) → eqb m n ≡ false → same_object (record { class = c; number = m; unit = 1 }) (record { class = d; number = n; unit = 1 }) ≡ false
apart c d m n e = ap (λ b. b && true) (and_false (eqb (class_number c) (class_number d)) (eqb m n) e)

names : (targets : ℕ) → IsDistinct same_key (map obj_name (objs_of_load targets))
unfolding IsDistinct
names targets = ((refl, (refl, (refl, tt))), ((refl, (refl, tt)), ((refl, tt), (tt, tt))))

ids : (targets : ℕ) → IsDistinct same_declared (objs_of_load targets)
unfolding IsDistinct
ids targets =
    let other = λ (m n : ℕ) (e : eqb m n ≡ false). apart (class_of targets m) (class_of targets n) m n e in
    ((other 0 1 refl, (other 0 2 refl, (other 0 3 refl, tt))), ((other 1 2 refl, (other 1 3 refl, tt)), ((other 2 3 refl, tt), (tt, tt))))

cont_names : IsDistinct same_key (map cont_name conts_of_load)
unfolding IsDistinct
cont_names = (tt, tt)

cont_ids : IsDistinct nat_eq (map cont_number conts_of_load)
unfolding IsDistinct
cont_ids = (tt, tt)

in_load : (targets : ℕ) → All (λ (o : ObjDecl). Any (λ (c : ContDecl). c.id ≡ o.cont) conts_of_load) (objs_of_load targets)
in_load targets = search rules

of_bytes : (targets : ℕ) → All (λ (o : ObjDecl). IsUnit o.id.unit) (objs_of_load targets)
of_bytes targets = let byte : IsUnit 1 = (omega arith, omega arith) in All-from_recursion (λ (o : ObjDecl). IsUnit o.id.unit) (objs_of_load targets) (byte, (byte, (byte, (byte, tt))))

pub declared_from : (s : Script) (targets : ℕ) → s.conts ≡ conts_of_load → s.objs ≡ objs_of_load targets → AreDeclared s
declared_from s targets e f = record {
  conts = subst (λ (cs : List ContDecl). length cs ≤ 256) (sym e) (lit≤ tt);
  cont_names = subst (λ (cs : List ContDecl). IsDistinct same_key (map cont_name cs)) (sym e) cont_names;
  cont_ids = subst (λ (cs : List ContDecl). IsDistinct nat_eq (map cont_number cs)) (sym e) cont_ids;
  objs = subst (λ (os : List ObjDecl). length os ≤ 4096) (sym f) (lit≤ tt);
  obj_names = subst (λ (os : List ObjDecl). IsDistinct same_key (map obj_name os)) (sym f) (names targets);
  obj_ids = subst (λ (os : List ObjDecl). IsDistinct same_declared os) (sym f) (ids targets);
  obj_conts = subst (λ (cs : List ContDecl). All (λ (o : ObjDecl). Any (λ (c : ContDecl). c.id ≡ o.cont) cs) s.objs) (sym e)
      (subst (λ (os : List ObjDecl). All (λ (o : ObjDecl). Any (λ (c : ContDecl). c.id ≡ o.cont) conts_of_load) os) (sym f) (in_load targets));
  obj_units = subst (λ (os : List ObjDecl). All (λ (o : ObjDecl). IsUnit o.id.unit) os) (sym f) (of_bytes targets);
}
