use Rattle.std.proofs.Common.{◌≡◌, ◌-◌, arith, take, drop, ap, ℕ}
use Rattle.std.proofs.lemmas.Bool.Decides.{nat_tests}
use Rattle.pmem_undo.proofs.Showing.{laid_none, laid_part}
use Rattle.pmem_undo.proofs.show.lay.Goals as goal

pub returns-else-first-end : goal.returns-else-first-end
returns-else-first-end c f read = laid_none c.args.buf.now c.args.bytes.now c.args.at c.args.place f read (λ k below. grind (arith, nat_tests))

pub returns-then-first-end : goal.returns-then-first-end
returns-then-first-end c f read =
    let first = c.max-first.result in
    let end = c.min-end.result in
    let long : (end - c.args.place) - (first - c.args.place) ≡ end - first = omega arith in
    laid_part c.args.buf.now c.args.bytes.now c.put.new.all _ c.args.at c.args.place (first - c.args.at) (first - c.args.place) (end - first) f read (omega arith) (omega arith) (omega arith) (grind arith) (grind arith)
    (ap (λ (n : ℕ). take n (drop (first - c.args.place) c.args.bytes.now)) long) c.put.ensures
