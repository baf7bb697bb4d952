use Rattle.vos_pool_write.proofs.staging.stage_write.Given as goal

abbrev pub ghosts-write_as-L-Ledger : goal.ghosts-write_as-L-Ledger
ghosts-write_as-L-Ledger g a = record { name = a.blank.name; parts = a.blank.parts }

abbrev pub ghosts-write_as-O-Origin : goal.ghosts-write_as-O-Origin
ghosts-write_as-O-Origin g a = record {
  size = g.R.Region.extent a.blocks.undo.region;
  read = g.R.Region.image a.blocks.undo.region;
  left = g.R.Region.may_leave a.blocks.undo.region;
  lasting = a.blocks.lasting;
}
