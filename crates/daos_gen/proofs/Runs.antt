-- A generated script is one without snapshots, and asks for no stop.
use Rattle.std.proofs.Common.{◌≡◌, ℕ, ◌+◌, ◌%◌, Bool, true, false, ◌&&◌, cond, eqb, List, [], ◌∷◌, map, filter, refl, ap, ◌∙◌}
use Rattle.std.specs.List.{range_with_len}
use Rattle.base_random.specs.Draws.{drawn_after}
use Rattle.daos_gen.specs.Commands.{act_of, command_drawn, command_of, goes_to, lone, transfer}
use Rattle.daos_gen.specs.Scripts.{script_of}
use Rattle.script_traits.specs.Plain.{IsPlain, are_plain, is_plain, is_plain_command}

module _ (targets : ℕ) where
  drawn-is-plain : (i x : ℕ) → is_plain_command (command_drawn targets i x) ≡ true
  unfolding command_drawn
  drawn-is-plain i x = go (eqb (x % 8) 6)
    where
      go : (b : Bool) → is_plain_command (cond b (transfer targets i x) (lone (act_of targets i x))) ≡ true
      go true = refl
      go false = refl

  made-are-plain : (is : List ℕ) → are_plain (map (command_of targets) is) ≡ true
  made-are-plain [] = refl
  made-are-plain (i ∷ is) = ap (λ b. b && are_plain (map (command_of targets) is)) (drawn-is-plain i (drawn_after 1 (i + 1))) ∙ made-are-plain is

  pub script-is-plain : (count : ℕ) → IsPlain (script_of targets count)
  unfolding script_of is_plain
  script-is-plain count =
      let numbers = λ (client : ℕ). filter (goes_to client) (range_with_len 0 count) in
      rw (made-are-plain (numbers 0), made-are-plain (numbers 1), made-are-plain (numbers 2), made-are-plain (numbers 3)) refl

pub no-stop-asked : (targets count : ℕ) → (script_of targets count).stops ≡ []
unfolding script_of
no-stop-asked targets count = refl
