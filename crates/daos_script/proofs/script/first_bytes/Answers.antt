use Rattle.std.proofs.Common.{◌≤◌, ℕ, List, length, take, sym, arith}
use Rattle.std.proofs.lemmas.List.{length-take, length-take-le, take_all}
use Rattle.daos_script.proofs.script.first_bytes.Goals as goal

take_short : (n : ℕ) (xs : List ℕ) → length (take n xs) ≤ n
take_short n xs = omega (arith, length-take n xs)

pub returns-then-bytes-clause-exact : goal.returns-then-bytes-clause-exact
returns-then-bytes-clause-exact c = let le : length c.args.bytes.now ≤ 16777216 = omega arith in sym (take_all 16777216 c.args.bytes.now le)

pub slice_bounds-result-end : goal.slice_bounds-result-end
slice_bounds-result-end c = let le : 16777216 ≤ length c.args.bytes.now = omega arith in sym (length-take-le 16777216 c.args.bytes.now le)

pub returns-clause-short : goal.returns-clause-short
returns-clause-short c = take_short 16777216 c.args.bytes.now
