use Rattle.vos_pool_held.specs.vos_contents.Contents.{contents_of}
use Rattle.vos_pool_changes.proofs.Knowing.{free_known, kept_known, named_known, targets_known, tidy_known}
use Rattle.vos_pool_changes.proofs.known.known.Goals as goal

pub returns-clause-tidy : goal.returns-clause-tidy
returns-clause-tidy g c = tidy_known g.R.Region.tells g.R.Region.extent g.R.Region.image g.R.Region.may_leave c.args.held.now.opened (contents_of c.args.held.now.contents) c.args.held.now.free c.args.held.now.floor.0 c.args.held.now.target c.args.held.now.targets c.args.held.now.held c.stands.ensures

pub returns-clause-kept : goal.returns-clause-kept
returns-clause-kept g c = kept_known g.R.Region.tells g.R.Region.extent g.R.Region.image g.R.Region.may_leave c.args.held.now.opened (contents_of c.args.held.now.contents) c.args.held.now.free c.args.held.now.floor.0 c.args.held.now.target c.args.held.now.targets c.args.held.now.held

pub returns-clause-free : goal.returns-clause-free
returns-clause-free g c = free_known g.R.Region.tells g.R.Region.extent g.R.Region.image g.R.Region.may_leave c.args.held.now.opened (contents_of c.args.held.now.contents) c.args.held.now.free c.args.held.now.floor.0 c.args.held.now.target c.args.held.now.targets c.args.held.now.held

pub returns-clause-targets : goal.returns-clause-targets
returns-clause-targets g c = targets_known g.R.Region.tells g.R.Region.extent g.R.Region.image g.R.Region.may_leave c.args.held.now.opened (contents_of c.args.held.now.contents) c.args.held.now.free c.args.held.now.floor.0 c.args.held.now.target c.args.held.now.targets c.args.held.now.held

pub returns-clause-named : goal.returns-clause-named
returns-clause-named g c = named_known g.R.Region.tells g.R.Region.extent g.R.Region.image g.R.Region.may_leave c.args.held.now.opened (contents_of c.args.held.now.contents) c.args.held.now.free c.args.held.now.floor.0 c.args.held.now.target c.args.held.now.targets c.args.held.now.held
