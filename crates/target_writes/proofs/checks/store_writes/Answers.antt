use Rattle.std.proofs.Common.{ℕ, ◌≡◌, ◌∙◌, ◌<◌, ◌≤◌, Err, ap, arith, inr, refl, rules, subst, sym}
use Rattle.std.specs.Prelude.{not}
use Rattle.std.specs.Option.{option_map}
use Rattle.base_types.specs.declared.outcome.Outcome.TheVariants as outcome
use Rattle.daos_model.specs.Blocks.{blocks}
use Rattle.daos_model.specs.Changes.{prepared}
use Rattle.vos_store.specs.Refusals.{prepare_stop}
use Rattle.world_base.specs.Changes.{Prepares}
use Rattle.target_parts.specs.declared.halt.Halt.TheVariants as halt
use Rattle.target_parts.specs.Cover.{was_cut}
use Rattle.target_writes.specs.Checks.{BySpace, PreparesOrNot}
use Rattle.target_writes.proofs.Committing.{can_prepare}
use Rattle.target_writes.proofs.checks.store_writes.Goals as goal

fits : (need free blocks room : ℕ) → need ≡ blocks → free ≡ room → need ≤ free → blocks ≤ room
fits need free blocks room a b le = omega arith

lacks : (need free blocks room : ℕ) → need ≡ blocks → free ≡ room → free < need → room < blocks
lacks need free blocks room a b lt = omega arith

pub returns-in_err-reserve-clause-stored : goal.returns-in_err-reserve-clause-stored
returns-in_err-reserve-clause-stored g c d at first stamps allowed =
    let is : c.from_residual.result ≡ Err halt.Memory = search rules in
    subst (λ r. PreparesOrNot c.args.plan (g.S.Store.state c.args.store.now).opening first stamps c.args.entry.now c.args.writes.now d (g.S.Store.state c.args.store.now) (g.S.Store.durable c.args.store.now) (g.S.Store.state c.args.store.now) (g.S.Store.may c.args.store.now) r) (sym is)
    (record { kept_is = at; free = refl })

pub prepare-requires-clause-here : goal.prepare-requires-clause-here
prepare-requires-clause-here g c running d at = can_prepare c.args.plan _ c.args.entry.now c.args.writes.now d (c.requires.can d at) (c.requires.floors d at)

pub returns-in-Ok-clause-stored : goal.returns-in-Ok-clause-stored
returns-in-Ok-clause-stored g c d at first stamps allowed = (
  record { allowed = allowed; space = fits c.blocks-need.result c.free-free.result _ _ c.blocks-need.ensures c.free-free.ensures c.if-free-need.false },
  record { kept_is = c.in-Ok.ensures.kept.done ∙ ap (option_map (prepared c.args.entry.now c.args.writes.now)) at; free = c.in-Ok.ensures.call.free },
)

pub returns-then-free-need-clause-stored : goal.returns-then-free-need-clause-stored
returns-then-free-need-clause-stored g c d at first stamps allowed = (
  BySpace allowed (lacks c.blocks-need.result c.free-free.result _ _ c.blocks-need.ensures c.free-free.ensures c.if-free-need.true)
      (c.no_space.ensures ∙ ap (λ n. outcome.NoSpace c.args.plan.me n c.free-free.result) c.blocks-need.ensures ∙ ap (λ n. outcome.NoSpace c.args.plan.me (blocks c.args.writes.now) n) c.free-free.ensures),
  record { kept_is = at; free = refl },
)

pub returns-in-Err-Stopped-clause-stored : goal.returns-in-Err-Stopped-clause-stored
returns-in-Err-Stopped-clause-stored g c d at first stamps allowed =
    inr (
      record { allowed = allowed; space = fits c.blocks-need.result c.free-free.result _ _ c.blocks-need.ensures c.free-free.ensures c.if-free-need.false },
      was_cut (Prepares c.args.entry.now c.args.writes.now) (prepared c.args.entry.now c.args.writes.now) d (g.S.Store.state c.args.store.now) (g.S.Store.state c.prepare.new.self) _ _ _ (g.S.Store.may c.prepare.new.self) refl at
          (λ x may. g.met.S.Store.steady _ d x c.requires.running at may) c.in-Err-Stopped.ensures.kept.left c.in-Err-Stopped.ensures.call.free,
    )

pub returns-in-Err-Memory-clause-stored : goal.returns-in-Err-Memory-clause-stored
returns-in-Err-Memory-clause-stored g c d at first stamps allowed =
    let refused = ap (λ e. not (prepare_stop e)) c.in-Err-Memory.field-0-is in
    record { kept_is = c.in-Err-Memory.ensures.kept.refused refused ∙ at; free = c.in-Err-Memory.ensures.call.refused refused }
