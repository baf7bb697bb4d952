-- The names and keys of a generated script are keys.
use Rattle.std.proofs.Common.{◌≡◌, ℕ, zero, suc, ◌+◌, ◌/◌, ◌%◌, ◌^◌, ◌<◌, ◌≤◌, Bool, true, false, cond, eqb, ltb, List, [], ◌∷◌, ◌++◌, map, filter, All, refl, sym, ap, subst, ◌∙◌, arith}
use Rattle.std.specs.Fmt.{decimal}
use Rattle.std.specs.List.{range_with_len}
use Rattle.std.proofs.lemmas.Bool.Decides.{nat_tests}
use Rattle.std.proofs.lemmas.Fmt.{decimal_digit, decimal_step}
use Rattle.std.proofs.lemmas.List.Elements.{All-cons, All-from_recursion, All-nil, All-same}
use Rattle.base_types.specs.Keys.{IsKey}
use Rattle.base_types.specs.Scripts.{SnapName, all_snaps}
use Rattle.base_types.specs.declared.operation.Act.{Act}
use Rattle.base_types.specs.declared.operation.Act.TheVariants.{Fetch, Change}
use Rattle.base_types.specs.declared.operation.Read.TheVariants as read
use Rattle.base_types.specs.declared.operation.Write.TheVariants as write
use Rattle.base_types.specs.declared.script.Command.{Command}
use Rattle.base_random.specs.Draws.{drawn_after}
use Rattle.daos_gen.specs.Commands.{act_of, akey_path, command_drawn, command_of, goes_to, lone, numbered, obj_path, op_of, picked_path, transfer}
use Rattle.daos_gen.specs.Scripts.{clients_of, conts_of_load, objs_of_load, script_of}
use Rattle.daos_gen.proofs.InForm.{no_names}
use Rattle.script_traits.specs.Keyed.{CommandHasKeys, HasKeys, OpHasKeys, ScriptHasKeys}

-- ---- keys: a letter, and a number of one or two digits

dkey-of-one : (d : ℕ) → d < 10 → IsKey (100 ∷ (48 + d) ∷ [])
dkey-of-one zero lt = refl
dkey-of-one (suc zero) lt = refl
dkey-of-one (suc (suc zero)) lt = refl
dkey-of-one (suc (suc (suc zero))) lt = refl
dkey-of-one (suc (suc (suc (suc zero)))) lt = refl
dkey-of-one (suc (suc (suc (suc (suc zero))))) lt = refl
dkey-of-one (suc (suc (suc (suc (suc (suc zero)))))) lt = refl
dkey-of-one (suc (suc (suc (suc (suc (suc (suc zero))))))) lt = refl
dkey-of-one (suc (suc (suc (suc (suc (suc (suc (suc zero)))))))) lt = refl
dkey-of-one (suc (suc (suc (suc (suc (suc (suc (suc (suc zero))))))))) lt = refl
dkey-of-one (suc (suc (suc (suc (suc (suc (suc (suc (suc (suc d)))))))))) lt = absurd (omega (arith, lt))

dkey-of-two : (d : ℕ) → d < 6 → IsKey (100 ∷ 49 ∷ (48 + d) ∷ [])
dkey-of-two zero lt = refl
dkey-of-two (suc zero) lt = refl
dkey-of-two (suc (suc zero)) lt = refl
dkey-of-two (suc (suc (suc zero))) lt = refl
dkey-of-two (suc (suc (suc (suc zero)))) lt = refl
dkey-of-two (suc (suc (suc (suc (suc zero))))) lt = refl
dkey-of-two (suc (suc (suc (suc (suc (suc d)))))) lt = absurd (omega (arith, lt))

dkey : (n : ℕ) → n < 16 → IsKey (numbered 100 n)
dkey n lt = go (ltb n 10) refl
  where
    go : (b : Bool) → ltb n 10 ≡ b → IsKey (numbered 100 n)
    go true e =
        let low : n < 10 = grind (arith, nat_tests) in
        subst (λ ds. IsKey (100 ∷ ds)) (sym (decimal_digit n low)) (dkey-of-one n low)
    go false e =
        let high : 10 ≤ n = grind (arith, nat_tests) in
        let tens : n / 10 ≡ 1 = omega (arith, high, lt) in
        let two : decimal n ≡ 49 ∷ (48 + n % 10) ∷ [] =
        decimal_step n (omega (arith, high)) (omega (arith, lt)) ∙ ap (λ m. decimal m ++ (48 + n % 10) ∷ []) tens ∙ ap (λ ds. ds ++ (48 + n % 10) ∷ []) (decimal_digit 1 (omega arith)) in
        subst (λ ds. IsKey (100 ∷ ds)) (sym two) (dkey-of-two (n % 10) (omega (arith, high, lt)))

akey-of-one : (d : ℕ) → d < 10 → IsKey (97 ∷ (48 + d) ∷ [])
akey-of-one zero lt = refl
akey-of-one (suc zero) lt = refl
akey-of-one (suc (suc zero)) lt = refl
akey-of-one (suc (suc (suc zero))) lt = refl
akey-of-one (suc (suc (suc (suc zero)))) lt = refl
akey-of-one (suc (suc (suc (suc (suc zero))))) lt = refl
akey-of-one (suc (suc (suc (suc (suc (suc zero)))))) lt = refl
akey-of-one (suc (suc (suc (suc (suc (suc (suc zero))))))) lt = refl
akey-of-one (suc (suc (suc (suc (suc (suc (suc (suc zero)))))))) lt = refl
akey-of-one (suc (suc (suc (suc (suc (suc (suc (suc (suc zero))))))))) lt = refl
akey-of-one (suc (suc (suc (suc (suc (suc (suc (suc (suc (suc d)))))))))) lt = absurd (omega (arith, lt))

akey : (n : ℕ) → n < 10 → IsKey (numbered 97 n)
akey n lt = subst (λ ds. IsKey (97 ∷ ds)) (sym (decimal_digit n lt)) (akey-of-one n lt)

module _ (targets : ℕ) where
  -- ---- paths

  at-object : (x : ℕ) → HasKeys (obj_path targets x)
  at-object x = record { dkey = tt; akey = tt }

  at-akey : (x n : ℕ) → IsKey (numbered 97 n) → HasKeys (akey_path targets x n)
  at-akey x n k = record { dkey = dkey (x / 2 ^ 16 % 16) (omega arith); akey = k }

  picked : (x : ℕ) → HasKeys (picked_path targets x)
  picked x = at-akey x (x / 2 ^ 24 % 4) (akey (x / 2 ^ 24 % 4) (omega arith))

  -- ---- commands

  act-keys : (i x : ℕ) → OpHasKeys (op_of (act_of targets i x))
  unfolding act_of
  act-keys i x = go (eqb (x % 8) 7) (ltb (x % 8) 3) (eqb (x % 8) 3) (eqb (x % 8) 4)
    where
      go : (a b c d : Bool) → OpHasKeys (op_of
          (cond a (Fetch (read.Dkeys (obj_path targets x)))
          (cond b (Change (write.Single (picked_path targets x) (numbered 118 i)))
          (cond c (Change (write.Extent (picked_path targets x) (x / 2 ^ 32 % 64) (numbered 101 i)))
          (cond d (Fetch (read.Single (picked_path targets x))) (Fetch (read.Extent (picked_path targets x) 0 64)))))))
      go true b c d = at-object x
      go false true c d = picked x
      go false false true d = picked x
      go false false false true = picked x
      go false false false false = picked x

  command-keys : (i x : ℕ) → CommandHasKeys (command_drawn targets i x)
  unfolding command_drawn
  command-keys i x = go (eqb (x % 8) 6)
    where
      get : Act
      get = Fetch (read.Single (picked_path targets x))

      put : Act
      put = Change (write.Single (akey_path targets x 9) (numbered 116 i))

      go : (b : Bool) → CommandHasKeys (cond b (transfer targets i x) (lone (act_of targets i x)))
      go true = All-from_recursion OpHasKeys (op_of get ∷ op_of put ∷ []) (picked x, (at-akey x 9 (akey 9 (omega arith)), tt))
      go false = All-from_recursion OpHasKeys (op_of (act_of targets i x) ∷ []) (act-keys i x, tt)

  -- ---- what the clients get

  made-keys : (is : List ℕ) → All CommandHasKeys (map (command_of targets) is)
  made-keys [] = All-nil CommandHasKeys
  made-keys (i ∷ is) = All-cons CommandHasKeys (command_of targets i) (map (command_of targets) is) (command-keys i (drawn_after 1 (i + 1))) (made-keys is)

  pub script-keys : (count : ℕ) → ScriptHasKeys (script_of targets count)
  unfolding script_of
  script-keys count =
      let list = λ (client : ℕ). made-keys (filter (goes_to client) (range_with_len 0 count)) in
      record {
        conts = All-from_recursion (λ d. IsKey d.name) conts_of_load (refl, tt);
        objs = All-from_recursion (λ d. IsKey d.name) (objs_of_load targets) (refl, (refl, (refl, (refl, tt))));
        commands = All-from_recursion (λ (commands : List Command). All CommandHasKeys commands) (clients_of targets count) (list 0, (list 1, (list 2, (list 3, tt))));
        snaps = All-same (λ (k : SnapName). IsKey k.0) (all_snaps (clients_of targets count)) [] (no_names targets count) (All-nil (λ (k : SnapName). IsKey k.0));
      }
