-- One command more.
use Rattle.std.proofs.Common.{◌≡◌, ◌≢◌, ℕ, zero, suc, ◌+◌, ◌%◌, Bool, true, false, cond, eqb, List, [], ◌∷◌, ◌++◌, map, filter, ap, ◌∙◌, arith, add-one, append-nil}
use Rattle.std.specs.List.{range_with_len}
use Rattle.std.proofs.lemmas.Bool.Decides.{nat_tests}
use Rattle.std.proofs.lemmas.List.{map-append}
use Rattle.std.proofs.lemmas.List.Elements.{filter-append}
use Rattle.base_types.specs.declared.script.Command.{Command}
use Rattle.daos_gen.specs.Commands.{command_of, commands_of, goes_to}

range-more : (a n : ℕ) → range_with_len a (suc n) ≡ range_with_len a n ++ (a + n) ∷ []
range-more a zero = let e : a ≡ a + 0 = omega arith in ap (λ k. k ∷ []) e
range-more a (suc n) =
    let e : (a + 1) + n ≡ a + suc n = omega arith in
    ap (λ t. a ∷ t) (range-more (a + 1) n ∙ ap (λ k. range_with_len (a + 1) n ++ k ∷ []) e)

abbrev next_of : ℕ → ℕ → ℕ → Bool → List Command
next_of targets client i b = map (command_of targets) (cond b (i ∷ []) [])

commands-more : (targets client i : ℕ) → commands_of targets (i + 1) client ≡ commands_of targets i client ++ next_of targets client i (goes_to client i)
commands-more targets client i =
    let f = command_of targets in
    let p = goes_to client in
    let zero_first : 0 + i ≡ i = omega arith in
    let split : range_with_len 0 (i + 1) ≡ range_with_len 0 i ++ i ∷ [] =
    ap (range_with_len 0) (add-one i) ∙ range-more 0 i ∙ ap (λ k. range_with_len 0 i ++ k ∷ []) zero_first in
    ap (λ r. map f (filter p r)) split ∙ ap (map f) (filter-append p (range_with_len 0 i) (i ∷ [])) ∙ map-append f (filter p (range_with_len 0 i)) (filter p (i ∷ []))

-- where it goes to the client, and where it doesn't
pub commands-then : (targets client i : ℕ) → eqb (i % 4) client ≡ true → commands_of targets (i + 1) client ≡ commands_of targets i client ++ command_of targets i ∷ []
commands-then targets client i e = commands-more targets client i ∙ ap (λ b. commands_of targets i client ++ next_of targets client i b) e

pub commands-else : (targets client i : ℕ) → eqb (i % 4) client ≡ false → commands_of targets (i + 1) client ≡ commands_of targets i client
commands-else targets client i e =
    commands-more targets client i ∙ ap (λ b. commands_of targets i client ++ next_of targets client i b) e ∙ append-nil (commands_of targets i client)

pub same_test : (a b : ℕ) → a ≡ b → eqb a b ≡ true
same_test a b e = grind (arith, nat_tests)

pub other_test : (a b : ℕ) → a ≢ b → eqb a b ≡ false
other_test a b e = grind (arith, nat_tests)
