use Rattle.vos_pool_read.proofs.reading.read_blocks.Given as goal

abbrev pub ghosts-read_as-L-Ledger : goal.ghosts-read_as-L-Ledger
ghosts-read_as-L-Ledger g a = record { name = a.blank.name; parts = a.blank.parts }

abbrev pub ghosts-read_as-O-Origin : goal.ghosts-read_as-O-Origin
ghosts-read_as-O-Origin g a = record {
  size = g.R.Region.extent a.blocks.undo.region;
  read = g.R.Region.image a.blocks.undo.region;
  left = g.R.Region.may_leave a.blocks.undo.region;
  lasting = a.blocks.lasting;
}
