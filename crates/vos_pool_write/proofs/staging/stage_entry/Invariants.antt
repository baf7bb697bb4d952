use Rattle.vos_pool_write.proofs.staging.stage_entry.Given as goal

abbrev pub ghosts-enter_as-L-Ledger : goal.ghosts-enter_as-L-Ledger
ghosts-enter_as-L-Ledger g a = record { name = a.blank.name; parts = a.blank.parts }

abbrev pub ghosts-enter_as-O-Origin : goal.ghosts-enter_as-O-Origin
ghosts-enter_as-O-Origin g a = record {
  size = g.R.Region.extent a.blocks.undo.region;
  read = g.R.Region.image a.blocks.undo.region;
  left = g.R.Region.may_leave a.blocks.undo.region;
  lasting = a.blocks.lasting;
}
