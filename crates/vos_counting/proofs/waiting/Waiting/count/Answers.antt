use Rattle.std.proofs.Common.{ap, sym, ◌∙◌}
use Rattle.std.specs.HashMap.{get}
use Rattle.std.specs.Option.{option_copied}
use Rattle.vos_counting.specs.Counting.{or_none, same_attempt_name}
use Rattle.vos_counting.specs.Waiting.{count_of}
use Rattle.vos_counting.proofs.waiting.Waiting.count.Goals as goal

pub returns-in-Some : goal.returns-in-Some
unfolding count_of
returns-in-Some c = ap or_none (sym (ap option_copied c.in-Some.is) ∙ c.get.ensures.value) ∙ ap (λ k. or_none (get same_attempt_name c.args.self.now.counts k)) c.attempt_name.ensures

pub returns-in-None : goal.returns-in-None
unfolding count_of
returns-in-None c = ap or_none (sym (ap option_copied c.in-None.is) ∙ c.get.ensures.value) ∙ ap (λ k. or_none (get same_attempt_name c.args.self.now.counts k)) c.attempt_name.ensures
