use Rattle.std.specs.Prelude.{true, false, refl}
use Rattle.model_laws.specs.Lists.{at-within}
use Rattle.run_laws.specs.shows.Parts.{target-there}
use Rattle.run_laws.specs.shows.Shown.{target-due-shown}
use Rattle.run_laws.specs.shows.Stages.{IsPlace}
use Rattle.run_stage.specs.Now.{stage_now}
use Rattle.world_base.specs.declared.target.Life.TheVariants.{Down, Running, Stopped}
use Rattle.run_stage.proofs.stage.Stage.is_target_due.Goals as goal

-- one that runs has something to do where it has letters to hear, or idle work
pub returns-in-Running-clause-due : goal.returns-in-Running-clause-due
returns-in-Running-clause-due g c r found w k =
    let now = stage_now c.args.self.now in
    let x = at-within now.targets c.args.t c.requires.within in
    let place : IsPlace now c.args.t x.0 Running = record { there = x.1; stands = c.in-Running.ensures } in
    let there = target-there g.S.Store.durable g.S.Store.state r found now w c.args.t x.0 Running k place in
    target-due-shown g.S.Store.durable g.S.Store.state r found now w k c.args.settling c.args.t x.0 Running c.is_busy.result c.is_busy.result place refl (λ runs d told. c.is_busy.ensures x.0 x.1 there.is.so.opened there.is.so.running d told)

-- one that is stopped always has
pub returns-in-Stopped-clause-due : goal.returns-in-Stopped-clause-due
returns-in-Stopped-clause-due g c r found w k =
    let now = stage_now c.args.self.now in
    let x = at-within now.targets c.args.t c.requires.within in
    target-due-shown g.S.Store.durable g.S.Store.state r found now w k c.args.settling c.args.t x.0 Stopped true true (record { there = x.1; stands = c.in-Stopped.ensures }) refl (λ runs d told. let no : ⊥ = cc in absurd no)

-- and one that was given up never
pub returns-in-Down-clause-due : goal.returns-in-Down-clause-due
returns-in-Down-clause-due g c r found w k =
    let now = stage_now c.args.self.now in
    let x = at-within now.targets c.args.t c.requires.within in
    target-due-shown g.S.Store.durable g.S.Store.state r found now w k c.args.settling c.args.t x.0 Down false false (record { there = x.1; stands = c.in-Down.ensures }) refl (λ runs d told. let no : ⊥ = cc in absurd no)
