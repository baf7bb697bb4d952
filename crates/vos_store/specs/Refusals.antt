-- Which refusals say that the store is stopped, and which say nothing of what it keeps.
use Rattle.std.specs.Prelude.{Bool, true, false, not, Result, Ok, Err}
use Rattle.vos_store.specs.declared.refusal.DiscardNo.{DiscardNo}
use Rattle.vos_store.specs.declared.refusal.DiscardNo.TheVariants as discard
use Rattle.vos_store.specs.declared.refusal.EnlistNo.{EnlistNo}
use Rattle.vos_store.specs.declared.refusal.EnlistNo.TheVariants as enlist
use Rattle.vos_store.specs.declared.refusal.FetchNo.{FetchNo}
use Rattle.vos_store.specs.declared.refusal.FetchNo.TheVariants as fetch
use Rattle.vos_store.specs.declared.refusal.FreezeNo.{FreezeNo}
use Rattle.vos_store.specs.declared.refusal.FreezeNo.TheVariants as freeze
use Rattle.vos_store.specs.declared.refusal.LaterNo.{LaterNo}
use Rattle.vos_store.specs.declared.refusal.LaterNo.TheVariants as later
use Rattle.vos_store.specs.declared.refusal.PrepareNo.{PrepareNo}
use Rattle.vos_store.specs.declared.refusal.PrepareNo.TheVariants as prepare
use Rattle.vos_store.specs.declared.refusal.ReopenNo.{ReopenNo}
use Rattle.vos_store.specs.declared.refusal.ReopenNo.TheVariants as reopen
use Rattle.vos_store.specs.declared.refusal.Stopped.{Stopped}

-- ---- Stopped

abbrev pub always_stop : Stopped → Bool
always_stop e = true

abbrev pub enlist_stop : EnlistNo → Bool
enlist_stop enlist.Stopped = true
enlist_stop (enlist.TooMany n) = false
enlist_stop enlist.Memory = false

abbrev pub prepare_stop : PrepareNo → Bool
prepare_stop prepare.Stopped = true
prepare_stop (prepare.NoSpace need free) = false
prepare_stop prepare.Memory = false

abbrev pub freeze_stop : FreezeNo → Bool
freeze_stop freeze.Stopped = true
freeze_stop (freeze.Below g n) = false
freeze_stop freeze.NoPlace = false

abbrev pub discard_stop : DiscardNo → Bool
discard_stop discard.Stopped = true
discard_stop (discard.Unsettled a) = false
discard_stop discard.Memory = false

abbrev pub fetch_stop : FetchNo → Bool
fetch_stop fetch.Stopped = true
fetch_stop (fetch.Unsettled a) = false
fetch_stop (fetch.Aggregated g n) = false
fetch_stop fetch.Memory = false

abbrev pub later_stop : LaterNo → Bool
later_stop later.Stopped = true
later_stop later.Memory = false

abbrev pub reopen_stop : ReopenNo → Bool
reopen_stop reopen.Stopped = true
reopen_stop (reopen.Foreign at byte) = false
reopen_stop reopen.Memory = false

abbrev pub reopen_foreign : ReopenNo → Bool
reopen_foreign reopen.Stopped = false
reopen_foreign (reopen.Foreign at byte) = true
reopen_foreign reopen.Memory = false

-- ---- Stopped or want of memory

abbrev pub enlist_open : EnlistNo → Bool
enlist_open enlist.Stopped = true
enlist_open (enlist.TooMany n) = false
enlist_open enlist.Memory = true

abbrev pub discard_open : DiscardNo → Bool
discard_open discard.Stopped = true
discard_open (discard.Unsettled a) = false
discard_open discard.Memory = true

abbrev pub fetch_open : FetchNo → Bool
fetch_open fetch.Stopped = true
fetch_open (fetch.Unsettled a) = false
fetch_open (fetch.Aggregated g n) = false
fetch_open fetch.Memory = true

abbrev pub later_open : LaterNo → Bool
later_open e = true

-- ---- of results

-- a result is a refusal that passes a test
abbrev pub says : {T E : Type 0} → (E → Bool) → Result T E → Bool
says test (Ok x) = false
says test (Err e) = test e

-- a result is a refusal that doesn't
abbrev pub refuses : {T E : Type 0} → (E → Bool) → Result T E → Bool
refuses test (Ok x) = false
refuses test (Err e) = not (test e)
