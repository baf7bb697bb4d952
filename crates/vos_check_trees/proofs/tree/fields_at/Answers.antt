use Rattle.std.proofs.Common.{◌*◌, refl, sym, ap, ◌∙◌}
use Rattle.base_outside.specs.Images.{bytes_at}
use Rattle.pmem_pages.specs.Node.{node_of}
use Rattle.vos_check_base.specs.vos_image.Content.{block}
use Rattle.vos_check_base.specs.Answers.{content}
use Rattle.vos_check_base.proofs.Faults.{blamed}
use Rattle.vos_check_trees.specs.Found.{fields_of}
use Rattle.std.proofs.lemmas.Result.{err_from_is_err_and}
use Rattle.vos_check_base.proofs.Looking.{read_then}
use Rattle.vos_check_trees.proofs.tree.fields_at.Goals as goal

pub returns-in-Ok-clause-read : goal.returns-in-Ok-clause-read
unfolding block
returns-in-Ok-clause-read g c told led marks =
    let f = g.S.Source.bytes c.args.source.now in
    let here = sym (c.in_ok-read.ensures.read told ∙ ap (λ n. bytes_at f (256 * n) 256) c.from.ensures) in
    record {
      value = fields_of g.K.Level.named (node_of (g.K.Level.reads c.args.level.now).kind c.read.new.buf) c.in-Ok.found;
      gives = c.in-Ok.ensures.found f led here marks;
      shows = record { links = c.in-Ok.ensures.links; key = c.in-Ok.ensures.key; name = refl; value = refl };
    }

pub returns-in-Err-clause-read : goal.returns-in-Err-clause-read
unfolding block
returns-in-Err-clause-read g c told led marks =
    let f = g.S.Source.bytes c.args.source.now in
    let here = sym (c.in_ok-read.ensures.read told ∙ ap (λ n. bytes_at f (256 * n) 256) c.from.ensures) in
    blamed (content (g.K.Level.basis c.args.level.now) f) _ c.in-Err.at (g.S.Source.bytes c.read.new.self) c.blame.result (c.read.ensures.kept told) (c.in-Err.ensures.found f led here marks) (c.blame.ensures.blamed told)

pub returns-in_err-read-clause-stops : goal.returns-in_err-read-clause-stops
returns-in_err-read-clause-stops g c =
    let p = err_from_is_err_and c.from_residual.result c.from_residual.ensures.1 in
    rw (p.1, p.2) (c.in_err-read.ensures.stops)

pub returns-in-Ok-clause-stops : goal.returns-in-Ok-clause-stops
returns-in-Ok-clause-stops g c = c.in_ok-read.ensures.stops

pub returns-in-Err-clause-stops : goal.returns-in-Err-clause-stops
returns-in-Err-clause-stops g c = (read_then _ _ g.S.Source.looked_on _ _ _ _ c.in_ok-read.ensures.stops c.blame.ensures.stops)
