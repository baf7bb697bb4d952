use Rattle.std.proofs.Common.{◌∙◌, ap, subst, sym}
use Rattle.vos_turns.specs.vos_image.Kept.{Stored}
use Rattle.vos_pool_turns.specs.Pool.{CanTurn}
use Rattle.vos_pool_turns.proofs.pool.turn_pool.Goals as goal

pub turn_running-requires-clause-here : goal.turn_running-requires-clause-here
turn_running-requires-clause-here g c told = subst (λ p. (x : Stored) × CanTurn g.R.Region.extent g.R.Region.image c.args.step p x) (sym c.opened.view_is) (c.requires.here told (sym (ap (λ p. p.blocks.undo.stopped) c.opened.view_is) ∙ (sym c.is_stopped.ensures ∙ c.if-is_stopped.false)))

pub turn_running-requires-clause-few : goal.turn_running-requires-clause-few
turn_running-requires-clause-few g c told = c.requires.few told (sym (ap (λ p. p.blocks.undo.stopped) c.opened.view_is) ∙ (sym c.is_stopped.ensures ∙ c.if-is_stopped.false))
