use Rattle.std.proofs.Common.{◌∙◌}
use Rattle.vos_pool_steps.proofs.Steps.{quiet-follows}
use Rattle.vos_pool_tidy.proofs.Tidied.{on_well, tidied, uncleared, when_answered}
use Rattle.vos_pool_tidy.proofs.tidying.tidy_running.Goals as goal

pub unlist_all-opened-requires : goal.unlist_all-opened-requires
unlist_all-opened-requires g c = record { here = λ told going. (let h = c.requires.here told in (h.0, (h.1.0, h.1.1.0))) }

pub remove_uncounted-opened-requires-clause-here : goal.remove_uncounted-opened-requires-clause-here
remove_uncounted-opened-requires-clause-here g c told =
    let h = c.requires.here told in
    let next = c.unlist_all-opened in
    let l = on_well next.result.1 _ c.in_default.is next.ensures.unlisted told h.0 h.1.0 in
    (l.now, uncleared g.R.Region.extent g.R.Region.image c.args.prepared.now c.args.rows.now c.args.versions.now h.0 h.1.1.0 h.1.1.1 c.requires.told next.result.0 l)

pub returns-clause-tidy : goal.returns-clause-tidy
returns-clause-tidy g c =
    let next = c.unlist_all-opened in
    let last = c.remove_uncounted-opened in
    when_answered last.result.1 c.answered.result c.answered.ensures
    (λ cleared told running.
    let h = c.requires.here told in
    let l = on_well next.result.1 _ c.in_default.is next.ensures.unlisted told h.0 h.1.0 in
    let layout = last.ensures.quiet.left.same.layout ∙ (next.ensures.quiet.left.same.layout ∙ c.requires.layout) in
    tidied g.R.Region.extent g.R.Region.image c.args.prepared.now c.args.rows.now c.args.versions.now h.0 h.1.1.0 h.1.1.1 c.requires.told next.result.0 last.result.0 layout c.requires.few l
    (cleared told l.now (uncleared g.R.Region.extent g.R.Region.image c.args.prepared.now c.args.rows.now c.args.versions.now h.0 h.1.1.0 h.1.1.1 c.requires.told next.result.0 l)))
    last.ensures.cleared

pub returns-clause-quiet : goal.returns-clause-quiet
returns-clause-quiet g c =
    quiet-follows g.R.Region.tells g.R.Region.extent g.R.Region.count g.R.Region.burns g.R.Region.image g.R.Region.may_leave c.args.opened c.unlist_all-opened.result.0 c.remove_uncounted-opened.result.0 c.unlist_all-opened.ensures.quiet c.remove_uncounted-opened.ensures.quiet
