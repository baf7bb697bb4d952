use Rattle.std.proofs.Common.{◌∙◌, ap, subst, sym}
use Rattle.daos_model.specs.Forms.{AreWritesInForm}
use Rattle.target_writes.specs.world_contents.reads.ListLaws.{some-in_form}
use Rattle.world_base.specs.Commits.{is_own, own_writes}
use Rattle.replay_base.proofs.Starts.{if_ok}
use Rattle.replay_writes.proofs.Instances.{commit_decides}
use Rattle.replay_writes.proofs.commit.checked_so.Goals as goal

pub ends_so-requires : goal.ends_so-requires
ends_so-requires c =
    subst AreWritesInForm (sym (c.as_slice-2.ensures ∙ c.in_ok-writes.ensures ∙ ap (own_writes c.args.plan) c.as_slice.ensures)) (some-in_form (is_own c.args.plan) c.args.request.now.writes c.requires.form)

pub returns : goal.returns
returns c =
    if_ok _ _ c.ends_so.result
    (λ test same. commit_decides c.args.plan c.args.before.now c.args.after.now c.args.request.now c.args.from c.args.epoch c.args.start c.args.did.now c.in_ok-storing.storing c.as_slice-2.result.now c.in_ok-memory.memory c.in_ok-done.done test
    c.in_ok-storing.ensures (c.as_slice-2.ensures ∙ c.in_ok-writes.ensures ∙ ap (own_writes c.args.plan) c.as_slice.ensures) c.in_ok-memory.ensures c.in_ok-done.ensures same) c.ends_so.ensures
