use Rattle.std.proofs.Common.{string_bytes, append_assoc}
use Rattle.daos_status.proofs.Texts.{retold}
use Rattle.daos_status.proofs.status.room_text.Goals as goal

pub returns : goal.returns
returns c = retold string_bytes c.format.result _ _ c.format.ensures.ok (simp append_assoc)
