use Rattle.std.proofs.Common.{string_bytes, append_assoc}
use Rattle.daos_status.proofs.Texts.{retold}
use Rattle.daos_status.proofs.status.shape_text.Goals as goal

pub returns : goal.returns
returns c = retold string_bytes c.format.result _ _ c.format.ensures.ok (rw c.part_text-what.ensures (simp append_assoc))
