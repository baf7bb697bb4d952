use Rattle.std.proofs.Common.{◌∷◌, [], ◌++◌, ap, refl, ◌∙◌}
use Rattle.std.proofs.lemmas.Result.{err_from_is_err_and}
use Rattle.vos_check.specs.vos_image.Kinds.{stored_entry}
use Rattle.vos_check_base.specs.Answers.{content}
use Rattle.vos_check_base.proofs.Faults.{fault_off}
use Rattle.vos_check_base.proofs.Steps.{on}
use Rattle.vos_check_entries.specs.Rows.{row_with}
use Rattle.vos_check_entries.proofs.entries.EntriesLevel.thing.Goals as goal

pub returns-in_err-listed-clause-read : goal.returns-in_err-listed-clause-read
returns-in_err-listed-clause-read g c told =
    let p = err_from_is_err_and c.from_residual.result c.from_residual.ensures.1 in
    rw (p.1, p.2) (λ led marks. fault_off (content c.args.self.now.ground (g.S.Source.bytes c.args.source.now)) _ _ led _ (c.in_err-listed.ensures.read told led marks))

pub returns-clause-read : goal.returns-clause-read
returns-clause-read g c told led marks =
    let x = c.in_ok-listed.ensures.read told led marks in
    record {
      value = stored_entry c.args.name c.args.value x.value;
      gives = record { led = x.gives.led; is = on _ _ led x.value x.gives.led _ x.gives.is refl; marks = x.gives.marks };
      shows = c.in_ok-push.ensures.items ∙ ap (λ z. c.args.out.now.items ++ z ∷ []) (c.row_of.ensures ∙ ap (λ n. row_with c.args.name c.args.value n) x.shows);
    }

pub returns-in_err-listed-clause-stops : goal.returns-in_err-listed-clause-stops
returns-in_err-listed-clause-stops g c =
    let p = err_from_is_err_and c.from_residual.result c.from_residual.ensures.1 in
    rw (p.1, p.2) (c.in_err-listed.ensures.stops)

pub returns-in_err-push-clause-stops : goal.returns-in_err-push-clause-stops
returns-in_err-push-clause-stops g c =
    let p = err_from_is_err_and c.from_residual-in_err-push.result c.from_residual-in_err-push.ensures.1 in
    rw (p.1, p.2) (c.in_ok-listed.ensures.stops)

pub returns-clause-stops : goal.returns-clause-stops
returns-clause-stops g c = c.in_ok-listed.ensures.stops
