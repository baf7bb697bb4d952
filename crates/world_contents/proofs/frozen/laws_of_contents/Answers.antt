use Rattle.world_contents.specs.frozen.FreezeLaws.{creates-sound, freezes-sound}
use Rattle.world_contents.specs.frozen.LimitLaws.{limits-clear}
use Rattle.world_contents.specs.frozen.PruneLaws.{parts-sound, prunes-sound}
use Rattle.world_contents.proofs.frozen.laws_of_contents.Goals as goal

pub returns : goal.returns
returns c = record {
  freezes = freezes-sound;
  creates = creates-sound;
  prunes = prunes-sound;
  parts = parts-sound;
  limits = limits-clear;
}
