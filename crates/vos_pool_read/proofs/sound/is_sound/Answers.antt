use Rattle.std.proofs.Common.{◌∙◌, sym}
use Rattle.vos_pool_read.proofs.Each.{sound}
use Rattle.vos_pool_read.proofs.sound.is_sound.Goals as goal

pub returns-then-has_keys : goal.returns-then-has_keys
returns-then-has_keys c = (λ is. sound c.args.version.now (c.has_keys.ensures.0 c.if-has_keys.true) (sym c.is_write_in_form.ensures ∙ is), λ s. c.is_write_in_form.ensures ∙ s.form)
