use Rattle.std.proofs.Common.{◌≡◌, [], length}
use Rattle.vos_image.specs.Content.{Content}
use Rattle.vos_places.specs.Tables.{AreNewSnaps, HoldSnaps, those}
use Rattle.vos_check_places.specs.Shown.{IsShown}
use Rattle.vos_check_places.proofs.snaps.read_snaps.Given as goal

-- the places so far hold the snapshots so far
abbrev pub invariant-loop-i : goal.invariant-loop-i
invariant-loop-i l = record {
  held : (c : Content) → IsShown c.bytes l.fixed 20480 28672 → HoldSnaps c 20480 l.snaps.items;
  many : length l.snaps.items ≡ l.i;
  new : AreNewSnaps (those l.conts) [] (those l.snaps.items);
}
