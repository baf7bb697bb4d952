use Rattle.std.proofs.Common.{refl}
use Rattle.vos_plain.proofs.plain.PlainStoreStore.reopen.Goals as goal

pub open-requires : goal.open-requires
open-requires c = c.requires _ refl _ refl
