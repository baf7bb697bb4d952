use Rattle.std.proofs.Common.{ap, ◌∙◌, arith}
use Rattle.std.specs.Option.{unwrap_or}
use Rattle.vos_check_region.proofs.Faults.{low_by, shows_moved}
use Rattle.vos_check_region.proofs.log.first_blame.Goals as goal

pub blame-requires : goal.blame-requires
blame-requires g c = let low = low_by c.in-Ok.first c.args.at _ c.in-Ok.ensures.low c.requires.big c.requires.inside in omega (arith, c.unwrap_or.ensures, low, c.magic_fault.ensures.extent)

pub returns-in-Ok-clause-told : goal.returns-in-Ok-clause-told
returns-in-Ok-clause-told g c t =
    shows_moved _ _ _ _ c.blame.result (c.magic_fault.ensures.looks t).image (c.unwrap_or.ensures ∙ ap (λ o. unwrap_or o c.args.at) (c.in-Ok.ensures.told t)) (c.blame.ensures.told t)
