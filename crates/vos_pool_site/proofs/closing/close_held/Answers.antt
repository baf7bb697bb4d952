use Rattle.std.proofs.Common.{rules, ◌≡◌, sym, subst, IsTrue}
use Rattle.base_outside.specs.Images.{Image}
use Rattle.pmem_undo.specs.Settled.{IsAttachable}
use Rattle.vos_pool_held.specs.vos_contents.Contents.{contents_of}
use Rattle.vos_pool_site.proofs.Regions.{closes, of_target}
use Rattle.vos_pool_site.proofs.closing.close_held.Goals as goal

pub invariant_of-result : goal.invariant_of-result
invariant_of-result g c =
    let back : c.into_region.result ≡ c.args.held.opened.blocks.undo.region = search rules in
    record {
      closed = closes g.R.Region.tells g.R.Region.extent g.R.Region.image g.R.Region.may_leave c.args.held.opened (contents_of c.args.held.contents) c.args.held.free c.args.held.floor.0 c.args.held.target c.args.held.targets
          c.into_region.result back
          (subst (λ r. IsTrue g.R.Region.tells → (x : Image) → g.R.Region.may_leave r x → IsAttachable (g.R.Region.extent r) x) (sym c.into_region.ensures.region) c.into_region.ensures.attachable)
          c.args.held.held;
    }

pub returns-clause-target_is : goal.returns-clause-target_is
returns-clause-target_is g c = of_target g.R.Region.tells g.R.Region.extent g.R.Region.image g.R.Region.may_leave c.args.held.opened (contents_of c.args.held.contents) c.args.held.free c.args.held.floor.0 c.args.held.target c.args.held.targets c.args.held.held
