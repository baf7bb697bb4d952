use Rattle.std.proofs.Common.{sym, ◌∙◌, ap}
use Rattle.client_core.proofs.Told.{told_both, told_none}
use Rattle.world_base.specs.ClientTurns.{greatest, told_by_message}
use Rattle.client_core.proofs.hears.tracker_once.Goals as goal

pub returns-in-Fetched : goal.returns-in-Fetched
returns-in-Fetched c =
    told_both _ _ _ _ _ _ c.raised.ensures c.told_by_reply.ensures c.raised-in-Fetched.ensures
    ∙ ap (λ m. greatest c.args.tracker.0 (told_by_message m)) (sym c.in-Fetched.is)

pub returns-in-Ended : goal.returns-in-Ended
returns-in-Ended c =
    told_both _ _ _ _ _ _ c.raised-in-Ended.ensures c.told_by.ensures c.raised-in-Ended-2.ensures
    ∙ ap (λ m. greatest c.args.tracker.0 (told_by_message m)) (sym c.in-Ended.is)

pub returns-in_default : goal.returns-in_default
returns-in_default c = told_none _ _ c.in_default.not-Fetched c.in_default.not-Ended c.in_default.not-Tell
