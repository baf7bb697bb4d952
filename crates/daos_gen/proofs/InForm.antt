-- A generated script is in form.
use Rattle.std.proofs.Common.{◌≡◌, ℕ, zero, suc, ◌+◌, ◌/◌, ◌%◌, ◌^◌, ◌<◌, ◌≤◌, Bool, true, false, cond, eqb, ltb, List, [], ◌∷◌, ◌++◌, length, map, filter, All, Any, Some, refl, sym, ap, subst, ◌∙◌, arith, count_by}
use Rattle.std.specs.List.{AllByRecursion, IsDistinct, range_with_len}
use Rattle.std.proofs.lemmas.Bool.Decides.{nat_tests}
use Rattle.std.proofs.lemmas.Fmt.{length-decimal-le}
use Rattle.std.proofs.lemmas.List.{length-map}
use Rattle.std.proofs.lemmas.List.Elements.{All-from_recursion}
use Rattle.std.proofs.lemmas.List.Sums.{count_by-le-length}
use Rattle.base_types.specs.declared.id.Class.{Class}
use Rattle.base_types.specs.declared.id.Class.TheVariants.{S1, RP2G1, RP2GX}
use Rattle.base_types.specs.declared.operation.Act.{Act}
use Rattle.base_types.specs.declared.operation.Act.TheVariants.{Fetch, Change}
use Rattle.base_types.specs.declared.operation.Read.TheVariants as read
use Rattle.base_types.specs.declared.operation.Write.TheVariants as write
use Rattle.base_types.specs.declared.script.Command.{Command}
use Rattle.base_types.specs.declared.script.ObjDecl.{ObjDecl}
use Rattle.base_types.specs.Keys.{same_key}
use Rattle.base_types.specs.Placement.{ClassFits, targets_needed}
use Rattle.base_types.specs.Scripts.{AreCommands, IsActInForm, IsAkeyOf, IsCommand, IsInForm, IsLength, IsObjectOf, IsOpInForm, IsTold, IsTransaction, SnapName, all_snaps, is_numbered, snap_of, snaps_of}
use Rattle.daos_gen.specs.Commands.{act_of, akey_path, command_drawn, command_of, commands_of, goes_to, load_cont, lone, numbered, obj_of, obj_path, op_of, picked_path, transfer}
use Rattle.daos_gen.specs.Scripts.{clients_of, conts_of_load, objs_of_load, obj_named, script_of}
use Rattle.daos_gen.proofs.Declared.{declared_from}
use Rattle.base_random.specs.Draws.{drawn_after}
use Rattle.std.proofs.lemmas.List.FromFn.{length-range_with_len}

-- ---- classes

two_fit : (targets : ℕ) (c : Class) → 0 < targets → targets_needed c ≡ 2 → (b : Bool) → eqb targets 1 ≡ b → ClassFits (cond b S1 c) targets
two_fit targets c some need true e = omega (arith, some)
two_fit targets c some need false e = let two : 2 ≤ targets = grind (arith, nat_tests) in omega (arith, need, two)

pub classes_fit : (targets : ℕ) → 0 < targets → All (λ (o : ObjDecl). ClassFits o.id.class targets) (objs_of_load targets)
classes_fit targets some =
    All-from_recursion (λ (o : ObjDecl). ClassFits o.id.class targets) (objs_of_load targets)
    (omega (arith, some), (two_fit targets RP2G1 some refl (eqb targets 1) refl, (omega (arith, some), (two_fit targets RP2GX some refl (eqb targets 1) refl, tt))))

-- ---- lists

range_low : (a n m : ℕ) → a + n ≤ m → AllByRecursion (λ i. i < m) (range_with_len a n)
range_low a zero m le = tt
range_low a (suc n) m le = (omega (arith, le), range_low (a + 1) n m (omega (arith, le)))

filter_kept : (P : ℕ → Type 0) (p : ℕ → Bool) (is : List ℕ) → AllByRecursion P is → AllByRecursion P (filter p is)
filter_kept P p [] h = tt
filter_kept P p (i ∷ is) h = go (p i) (filter_kept P p is h.1)
  where
    go : (b : Bool) → AllByRecursion P (filter p is) → AllByRecursion P (cond b (i ∷ filter p is) (filter p is))
    go true ih = (h.0, ih)
    go false ih = ih

filter_shorter : (p : ℕ → Bool) (is : List ℕ) → length (filter p is) ≤ length is
filter_shorter p [] = omega arith
filter_shorter p (i ∷ is) = go (p i) (filter_shorter p is)
  where
    go : (b : Bool) → length (filter p is) ≤ length is → length (cond b (i ∷ filter p is) (filter p is)) ≤ length (i ∷ is)
    go true ih = omega (arith, ih)
    go false ih = omega (arith, ih)

module _ (targets : ℕ) where
  -- ---- paths and values

  obj_declared : (n : ℕ) → n < 4 → Any (λ (d : ObjDecl). (Some d.id ≡ Some (obj_of targets n)) × (d.cont ≡ load_cont)) (objs_of_load targets)
  obj_declared zero lt = (0, obj_named targets _ 0, omega arith, refl, (refl, refl))
  obj_declared (suc zero) lt = (1, obj_named targets _ 1, omega arith, refl, (refl, refl))
  obj_declared (suc (suc zero)) lt = (2, obj_named targets _ 2, omega arith, refl, (refl, refl))
  obj_declared (suc (suc (suc zero))) lt = (3, obj_named targets _ 3, omega arith, refl, (refl, refl))
  obj_declared (suc (suc (suc (suc n)))) lt = absurd (omega (arith, lt))

  akey_named : (x akey : ℕ) → IsAkeyOf (objs_of_load targets) (akey_path targets x akey)
  akey_named x akey = record { declared = obj_declared (x / 2 ^ 8 % 4) (omega arith); dkey = (numbered 100 (x / 2 ^ 16 % 16), refl); akey = (numbered 97 akey, refl) }

  obj_path_named : (x : ℕ) → IsObjectOf (objs_of_load targets) (obj_path targets x)
  obj_path_named x = record { declared = obj_declared (x / 2 ^ 8 % 4) (omega arith); no_dkey = refl; no_akey = refl }

  few_bytes : (letter i : ℕ) → i < 10000 → length (numbered letter i) ≤ 1024
  few_bytes letter i lt = omega (arith, length-decimal-le 5 i (omega arith) (omega (arith, lt)) (omega (arith, lt)))

  value_length : (letter i : ℕ) → i < 10000 → IsLength (length (numbered letter i))
  value_length letter i lt = (omega arith, few_bytes letter i lt)

  -- ---- commands

  act_in_form : (i x : ℕ) → i < 10000 → IsActInForm (objs_of_load targets) (act_of targets i x)
  unfolding act_of
  act_in_form i x lt = go (eqb (x % 8) 7) (ltb (x % 8) 3) (eqb (x % 8) 3) (eqb (x % 8) 4)
    where
      go : (a b c d : Bool) → IsActInForm (objs_of_load targets)
          (cond a (Fetch (read.Dkeys (obj_path targets x)))
          (cond b (Change (write.Single (picked_path targets x) (numbered 118 i)))
          (cond c (Change (write.Extent (picked_path targets x) (x / 2 ^ 32 % 64) (numbered 101 i)))
          (cond d (Fetch (read.Single (picked_path targets x))) (Fetch (read.Extent (picked_path targets x) 0 64))))))
      go true b c d = obj_path_named x
      go false true c d = (akey_named x (x / 2 ^ 24 % 4), value_length 118 i lt)
      go false false true d = (akey_named x (x / 2 ^ 24 % 4), value_length 101 i lt, omega arith, omega (arith, few_bytes 101 i lt))
      go false false false true = akey_named x (x / 2 ^ 24 % 4)
      go false false false false = (akey_named x (x / 2 ^ 24 % 4), (omega arith, omega arith), omega arith)

  op_in_form : (act : Act) → IsActInForm (objs_of_load targets) act → IsOpInForm (objs_of_load targets) (op_of act)
  op_in_form act h = record { act = h; cond = refl }

  lone_in_form : (act : Act) → IsActInForm (objs_of_load targets) act → IsTransaction (objs_of_load targets) (op_of act ∷ []) (0 ∷ 0 ∷ [])
  lone_in_form act h = record {
    some = omega arith;
    few = omega arith;
    in_form = All-from_recursion (IsOpInForm (objs_of_load targets)) (op_of act ∷ []) (op_in_form act h, tt);
    skips_between = refl;
  }

  two_in_form : (a b : Act) → IsActInForm (objs_of_load targets) a → IsActInForm (objs_of_load targets) b → IsTransaction (objs_of_load targets) (op_of a ∷ op_of b ∷ []) (0 ∷ 0 ∷ 0 ∷ [])
  two_in_form a b h k = record {
    some = omega arith;
    few = omega arith;
    in_form = All-from_recursion (IsOpInForm (objs_of_load targets)) (op_of a ∷ op_of b ∷ []) (op_in_form a h, (op_in_form b k, tt));
    skips_between = refl;
  }

  command_in_form : (known : List SnapName) (i x : ℕ) → i < 10000 → IsCommand conts_of_load (objs_of_load targets) known (command_drawn targets i x)
  unfolding command_drawn
  command_in_form known i x lt = go (eqb (x % 8) 6)
    where
      go : (b : Bool) → IsCommand conts_of_load (objs_of_load targets) known (cond b (transfer targets i x) (lone (act_of targets i x)))
      go true = (two_in_form _ _ (akey_named x (x / 2 ^ 24 % 4)) (akey_named x 9, value_length 116 i lt), tt)
      go false = (lone_in_form _ (act_in_form i x lt), tt)

  no_snap : (i x : ℕ) → snap_of (command_drawn targets i x) ≡ []
  unfolding command_drawn
  no_snap i x = go (eqb (x % 8) 6)
    where
      go : (b : Bool) → snap_of (cond b (transfer targets i x) (lone (act_of targets i x))) ≡ []
      go true = refl
      go false = refl

  no_tell : (clients own i x : ℕ) → IsTold clients own (command_drawn targets i x)
  unfolding command_drawn
  no_tell clients own i x = go (eqb (x % 8) 6)
    where
      go : (b : Bool) → IsTold clients own (cond b (transfer targets i x) (lone (act_of targets i x)))
      go true = tt
      go false = tt

  -- ---- what the clients get

  abbrev made : List ℕ → List Command
  made is = map (command_of targets) is

  made_in_form : (is : List ℕ) → AllByRecursion (λ i. i < 10000) is → AreCommands conts_of_load (objs_of_load targets) [] (made is)
  made_in_form [] h = tt
  made_in_form (i ∷ is) h = (
    command_in_form [] i (drawn_after 1 (i + 1)) h.0,
    subst (λ known. AreCommands conts_of_load (objs_of_load targets) known (made is)) (sym (no_snap i (drawn_after 1 (i + 1)))) (made_in_form is h.1),
  )

  no_snaps : (is : List ℕ) → snaps_of (made is) ≡ []
  no_snaps [] = refl
  no_snaps (i ∷ is) = ap (λ t. t ++ snaps_of (made is)) (no_snap i (drawn_after 1 (i + 1))) ∙ no_snaps is

  pub no_names : (count : ℕ) → all_snaps (clients_of targets count) ≡ []
  no_names count = let none = λ (client : ℕ). no_snaps (filter (goes_to client) (range_with_len 0 count)) in rw (none 0, none 1, none 2, none 3) refl

  no_tells : (clients own : ℕ) (is : List ℕ) → AllByRecursion (IsTold clients own) (made is)
  no_tells clients own [] = tt
  no_tells clients own (i ∷ is) = (no_tell clients own i (drawn_after 1 (i + 1)), no_tells clients own is)

  module _ (count : ℕ) (few : count ≤ 10000) where
    abbrev numbers : ℕ → List ℕ
    numbers client = filter (goes_to client) (range_with_len 0 count)

    numbers_low : (client : ℕ) → AllByRecursion (λ i. i < 10000) (numbers client)
    numbers_low client = filter_kept (λ i. i < 10000) (goes_to client) (range_with_len 0 count) (range_low 0 count 10000 (omega (arith, few)))

    few_commands : (client : ℕ) → count_by is_numbered (commands_of targets count client) ≤ 10000
    few_commands client =
        omega (
          arith,
          few,
          count_by-le-length is_numbered (commands_of targets count client),
          length-map (numbers client) (command_of targets),
          filter_shorter (goes_to client) (range_with_len 0 count),
          length-range_with_len 0 count,
        )

    told_apart : (own client : ℕ) → All (IsTold 4 own) (commands_of targets count client)
    told_apart own client = All-from_recursion (IsTold 4 own) (commands_of targets count client) (no_tells 4 own (numbers client))

    none_distinct : IsDistinct same_key []
    unfolding IsDistinct
    none_distinct = tt

    pub script_in_form : All (λ (o : ObjDecl). ClassFits o.id.class targets) (objs_of_load targets) → IsInForm targets (script_of targets count)
    unfolding script_of
    script_in_form classes = record {
      read_for = refl;
      declared = declared_from (script_of targets count) targets refl refl;
      classes = classes;
      olds = omega arith;
      old_conts = All-from_recursion _ [] tt;
      drops = All-from_recursion _ [] tt;
      drops_once = none_distinct;
      snap_names = subst (λ names. IsDistinct same_key (map (λ (k : SnapName). k.0) names)) (sym (no_names count)) none_distinct;
      stops = omega arith;
      stops_fit = All-from_recursion _ [] tt;
      clients = omega arith;
      few = omega (arith, few_commands 0, few_commands 1, few_commands 2, few_commands 3);
      commands = All-from_recursion (λ list. AreCommands conts_of_load (objs_of_load targets) [] list) (clients_of targets count)
          (made_in_form (numbers 0) (numbers_low 0), (made_in_form (numbers 1) (numbers_low 1), (made_in_form (numbers 2) (numbers_low 2), (made_in_form (numbers 3) (numbers_low 3), tt))));
      told = (told_apart 0 0, (told_apart 1 1, (told_apart 2 2, (told_apart 3 3, tt))));
    }
