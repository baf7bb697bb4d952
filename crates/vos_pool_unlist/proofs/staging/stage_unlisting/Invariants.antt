use Rattle.vos_pool_unlist.proofs.staging.stage_unlisting.Given as goal

abbrev pub ghosts-stage_as-L-Ledger : goal.ghosts-stage_as-L-Ledger
ghosts-stage_as-L-Ledger g a = record { name = a.blank.name; parts = a.blank.parts }

abbrev pub ghosts-stage_as-O-Origin : goal.ghosts-stage_as-O-Origin
ghosts-stage_as-O-Origin g a = record {
  size = g.R.Region.extent a.blocks.undo.region;
  read = g.R.Region.image a.blocks.undo.region;
  left = g.R.Region.may_leave a.blocks.undo.region;
  lasting = a.blocks.lasting;
}
