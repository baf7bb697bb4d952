use Rattle.std.proofs.Common.{◌≡◌, ◌+◌, take}
use Rattle.base_outside.specs.Images.{Image, all_over}
use Rattle.pmem_alloc.specs.Sets.{count_below, without, AreLeast}
use Rattle.pmem_alloc.specs.Map.{free_of, StandsIn}
use Rattle.pmem_alloc.specs.Blocks.{StagesMap}
use Rattle.pmem_alloc.proofs.blocks.take_many.Given as goal

abbrev pub invariant-loop-i : goal.invariant-loop-i
invariant-loop-i g l = record {
  count : count_below (free_of l.map) l.map.end + l.i ≡ count_below (free_of l.initial.map) l.initial.map.end;
  least : AreLeast (free_of l.initial.map) (take l.i l.last);
  taken : free_of l.map ≡ without (take l.i l.last) (free_of l.initial.map);
  end : l.map.end ≡ l.initial.map.end;
  staged : StagesMap l.i l.initial.undo.staged l.undo.staged;
  stands : (f : Image) → StandsIn l.initial.map.bytes (all_over l.initial.undo.staged f) → StandsIn l.map.bytes (all_over l.undo.staged f);
  rest : l.undo ≡ record l.initial.undo { staged = l.undo.staged };
}
