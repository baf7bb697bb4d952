use Rattle.std.proofs.Common.{◌≡◌, [], length}
use Rattle.vos_image.specs.Content.{Content}
use Rattle.vos_places.specs.Tables.{AreNewConts, HoldConts, those}
use Rattle.vos_check_places.specs.Shown.{IsShown}
use Rattle.vos_check_places.proofs.conts.read_conts.Given as goal

-- the places so far hold the rows so far
abbrev pub invariant-loop-i : goal.invariant-loop-i
invariant-loop-i l = record {
  held : (c : Content) → IsShown c.bytes l.fixed 4096 20480 → c.covered ≡ l.covered → HoldConts c 4096 l.rows.items;
  many : length l.rows.items ≡ l.i;
  new : AreNewConts [] (those l.rows.items);
}
