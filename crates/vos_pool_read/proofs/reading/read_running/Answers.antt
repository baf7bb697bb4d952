use Rattle.std.proofs.Common.{◌∙◌, sym}
use Rattle.vos_pool_read.proofs.Below.{objects_below, versions_read}
use Rattle.vos_pool_read.proofs.Quiet.{goes_as, quiet_step}
use Rattle.vos_pool_stage.proofs.Lifting.{still_then}
use Rattle.vos_pool_stage.specs.Staged.{pool_of}
use Rattle.vos_pool_read.proofs.reading.read_running.Goals as goal

pub read_blocks-blocks-requires-clause-here : goal.read_blocks-blocks-requires-clause-here
read_blocks-blocks-requires-clause-here g c told =
    let h = c.requires.stood told in
    (h.stored.0, (objects_below g.R.Region.extent g.R.Region.tells g.R.Region.image c.args.blocks c.args.tables c.requires.unstaged c.size-size.ensures.holds c.requires.running told h.stored h.stands, (c.objects.ensures ∙ h.stands.objects, tt)))

pub returns-clause-read : goal.returns-clause-read
returns-clause-read g c = versions_read g.R.Region.extent g.R.Region.tells g.R.Region.image c.args.blocks c.args.tables c.requires.unstaged c.size-size.ensures.holds c.requires.running c.objects.result c.read_blocks-blocks.result.1 c.answer.result c.objects.ensures c.answer.ensures.read c.read_blocks-blocks.ensures.read

pub returns-clause-quiet : goal.returns-clause-quiet
returns-clause-quiet g c =
    let e = c.read_blocks-blocks.result.0 in
    let q = c.give_back-opened.result in
    let u = c.give_back-opened.ensures in
    let still = still_then g.R.Region.extent g.R.Region.tells g.R.Region.image g.R.Region.may_leave c.args.blocks e q.blocks c.read_blocks-blocks.ensures.still u.still in
    quiet_step g.R.Region.extent g.R.Region.count g.R.Region.burns g.R.Region.tells g.R.Region.image g.R.Region.may_leave (pool_of c.args.blocks c.args.tables) q still u.table
    (u.map ∙ (c.read_blocks-blocks.ensures.still.lasting ∙ sym c.requires.unchanged)) (goes_as g.R.Region.count g.R.Region.burns c.args.blocks e q.blocks c.read_blocks-blocks.ensures.goes u.stopped u.count u.burns)
