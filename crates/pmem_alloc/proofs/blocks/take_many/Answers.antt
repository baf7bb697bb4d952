use Rattle.std.proofs.Common.{◌≡◌, ◌∙◌, ◌+◌, ◌++◌, ◌∷◌, [], take, set, false, add-one, ap, sym, subst, arith, List, ℕ}
use Rattle.std.specs.Prelude.{IfOk, OnOk}
use Rattle.std.proofs.Math.Seq.{take-suc-set}
use Rattle.base_outside.specs.Images.{Image, all_over}
use Rattle.pmem_undo.specs.Undo.{UndoState}
use Rattle.pmem_alloc.specs.Sets.{IsLeast, AreLeast, set_to, without, count_below, Set}
use Rattle.pmem_alloc.specs.Map.{free_of, StandsIn}
use Rattle.pmem_alloc.specs.Blocks.{StagesMap}
use Rattle.pmem_alloc.proofs.Taking.{without-push, least-push, one_less}
use Rattle.pmem_alloc.proofs.Staging.{stages_more}
use Rattle.pmem_alloc.proofs.blocks.take_many.Goals as goal

pub loop-i-preserved : goal.loop-i-preserved
loop-i-preserved g c =
    let i = c.loop-i.i in
    let b = c.unwrap.result in
    let so_far = c.loop-i.invariant in
    let is_one = subst (λ r. IfOk r (λ q. IsLeast (free_of c.loop-i.map) q)) c.unwrap.ensures c.take_one.ensures.least in
    let taken = subst (λ r. IfOk r (λ q. free_of c.take_one.new.map ≡ set_to (free_of c.loop-i.map) q false)) c.unwrap.ensures c.take_one.ensures.taken in
    let staged = subst (λ r. OnOk r (StagesMap 1 c.loop-i.undo.staged c.take_one.new.undo.staged)) c.unwrap.ensures c.take_one.ensures.staged in
    let stands = subst (λ r. OnOk r ((f : Image) → StandsIn c.loop-i.map.bytes (all_over c.loop-i.undo.staged f) → StandsIn c.take_one.new.map.bytes (all_over c.take_one.new.undo.staged f))) c.unwrap.ensures c.take_one.ensures.stands in
    let chosen : take (i + 1) (set c.loop-i.last i b) ≡ take i c.loop-i.last ++ b ∷ [] = ap (λ (n : ℕ). take n (set c.loop-i.last i b)) (add-one i) ∙ take-suc-set c.loop-i.last i b (omega arith) in
    let all = free_of c.args.map.now in
    let is_least : IsLeast (without (take i c.loop-i.last) all) b = subst (λ (s : Set). IsLeast s b) so_far.taken is_one in
    let count = one_less c.loop-i.map.end i c.loop-i.map.bytes (free_of c.take_one.new.map) b _ is_one taken so_far.count in
    record {
      count = ap (λ (n : ℕ). count_below (free_of c.take_one.new.map) n + (i + 1)) c.take_one.ensures.end ∙ count;
      least = subst (λ (bs : List ℕ). AreLeast all bs) (sym chosen) (least-push (take i c.loop-i.last) b all so_far.least is_least);
      taken = taken ∙ (ap (λ (s : Set). set_to s b false) so_far.taken ∙ (sym (without-push (take i c.loop-i.last) b all) ∙ ap (λ (bs : List ℕ). without bs all) (sym chosen)));
      end = c.take_one.ensures.end ∙ so_far.end;
      staged = stages_more i _ _ _ so_far.staged staged;
      stands = λ f old. stands f (so_far.stands f old);
      rest = c.take_one.ensures.rest ∙ ap (λ (u : UndoState _). let v : UndoState _ = record { region = u.region; staged = c.take_one.new.undo.staged; stopped = u.stopped } in v) so_far.rest;
    }
