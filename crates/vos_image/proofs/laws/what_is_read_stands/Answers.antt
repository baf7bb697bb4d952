use Rattle.vos_image.proofs.WholeStands.{layout_stands, read_stands}
use Rattle.vos_image.proofs.laws.what_is_read_stands.Goals as goal

pub returns-clause-stands : goal.returns-clause-stands
returns-clause-stands c = read_stands

pub returns-clause-layout : goal.returns-clause-layout
returns-clause-layout c = layout_stands
