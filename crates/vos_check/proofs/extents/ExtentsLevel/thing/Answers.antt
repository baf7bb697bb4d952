use Rattle.std.proofs.Common.{refl}
use Rattle.std.proofs.lemmas.Result.{err_from_is_err_and}
use Rattle.vos_image.specs.Kinds.{read_chain, stored_extent}
use Rattle.vos_check_base.specs.Answers.{content}
use Rattle.vos_check_base.proofs.Faults.{fault_off}
use Rattle.vos_check_base.proofs.Steps.{on}
use Rattle.vos_check.proofs.extents.ExtentsLevel.thing.Goals as goal

pub returns-in_err-chain-clause-read : goal.returns-in_err-chain-clause-read
returns-in_err-chain-clause-read g c told =
    let p = err_from_is_err_and c.from_residual.result c.from_residual.ensures.1 in
    rw (p.1, p.2) (λ led marks.
    let b = c.args.self.now.ground in
    let d = content b (g.S.Source.bytes c.args.source.now) in
    fault_off d (read_chain d c.args.value.chain c.args.value.length) _ led _ (c.in_err-chain.ensures.read told b led marks))

pub returns-clause-read : goal.returns-clause-read
returns-clause-read g c told led marks =
    let x = c.in_ok-chain.ensures.read told c.args.self.now.ground led marks in
    record {
      value = stored_extent c.args.name c.args.value x.value;
      gives = record { led = x.gives.led; is = on _ _ led x.value x.gives.led _ x.gives.is refl; marks = x.gives.marks };
      shows = c.in_ok-push.ensures.items;
    }

pub returns-in_err-chain-clause-stops : goal.returns-in_err-chain-clause-stops
returns-in_err-chain-clause-stops g c =
    let p = err_from_is_err_and c.from_residual.result c.from_residual.ensures.1 in
    rw (p.1, p.2) (c.in_err-chain.ensures.stops)

pub returns-in_err-push-clause-stops : goal.returns-in_err-push-clause-stops
returns-in_err-push-clause-stops g c =
    let p = err_from_is_err_and c.from_residual-in_err-push.result c.from_residual-in_err-push.ensures.1 in
    rw (p.1, p.2) (c.in_ok-chain.ensures.stops)

pub returns-clause-stops : goal.returns-clause-stops
returns-clause-stops g c = c.in_ok-chain.ensures.stops
