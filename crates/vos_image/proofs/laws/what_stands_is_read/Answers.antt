use Rattle.vos_image.proofs.Whole.{no_other_stands, stands_kept, stands_read}
use Rattle.vos_image.proofs.laws.what_stands_is_read.Goals as goal

pub returns-clause-read : goal.returns-clause-read
returns-clause-read c = stands_read

pub returns-clause-kept : goal.returns-clause-kept
returns-clause-kept c = stands_kept

pub returns-clause-one : goal.returns-clause-one
returns-clause-one c = no_other_stands
