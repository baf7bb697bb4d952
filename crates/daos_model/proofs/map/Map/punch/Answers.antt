use Rattle.std.proofs.Common.{reverse, sym, ◌∙◌, ap}
use Rattle.daos_model.specs.Effect.{without}
use Rattle.daos_model.proofs.Punched.{without-reverse}
use Rattle.daos_model.proofs.map.Map.punch.Goals as goal

pub returns : goal.returns
returns c =
    ap reverse c.keep_outside.ensures ∙ sym (without-reverse c.args.path.now c.self.inside.newest_last.items) ∙ ap (without c.args.path.now) c.self.view_is
