-- A pool that was opened with what it keeps in memory was made of its region.
use Rattle.std.proofs.Common.{ℕ, Bool, ap, ◌∙◌}
use Rattle.base_outside.specs.declared.region.Region.{Ghosts}
use Rattle.base_types.specs.Epochs.{restart_floor}
use Rattle.daos_model.specs.declared.durable.Durable.{Durable}
use Rattle.vos_pool.specs.Made.{IsMadeOf, asked_of}
use Rattle.vos_pool_held.specs.declared.held.Held.{Held}
use Rattle.vos_pool_held.specs.Laws.{held_told}
use Rattle.vos_pool_held.specs.State.{held_durable, held_state}
use Rattle.vos_pool_opening.specs.Opening.{HasBegun}
use Rattle.vos_pool_site.specs.declared.site.Site.TheVariants as site
use Rattle.vos_pool_site.specs.Laws.{tells_site}

pub begun_made : {R : Type 0} {Q : Ghosts R} (count burns : R → ℕ) (can_burn : Bool) (target targets : ℕ) (region : R) (h : Held R Q) → HasBegun Q.tells Q.extent count burns Q.image (asked_of target targets) region h
    → IsMadeOf Q.tells Q.extent count burns Q.image target targets region (held_state count burns can_burn h) (held_durable Q.tells Q.extent Q.image h) h.opened.blocks.undo.region
begun_made count burns can_burn target targets region h b = record {
  told = λ t. tells_site (site.Open h) t;
  blank = b.blank;
  written = b.written;
  free = b.free;
  floor = λ x is. b.floor ∙ ap (λ (d : Durable). restart_floor d.lease) (held_told count burns can_burn h b.running x is);
  why = b.why;
  running = b.running;
  targets_are = b.targets_are;
  size = b.size;
  later_faults = b.later_faults;
  later_burns = b.later_burns;
}
