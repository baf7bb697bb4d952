-- What is answered where a pool is made tidy.
use Rattle.std.specs.Prelude.{Result, Ok, Err}
use Rattle.vos_pool_tidy.specs.declared.refusal.TidyNo.{TidyNo}
use Rattle.vos_pool_tidy.specs.declared.refusal.TidyNo.TheVariants as tidy
use Rattle.vos_pool_unlist.specs.declared.refusal.UnlistNo.{UnlistNo}
use Rattle.vos_pool_unlist.specs.declared.refusal.UnlistNo.TheVariants as unlist
use Rattle.vos_store.specs.declared.refusal.Stopped.{Stopped}

-- where a list wasn't given back
abbrev pub tidy_no : UnlistNo → TidyNo
tidy_no unlist.Stopped = tidy.Stopped
tidy_no unlist.Memory = tidy.Memory

-- where versions went
abbrev pub answered : Result (Unit {0}) Stopped → Result (Unit {0}) TidyNo
answered (Ok x) = Ok x
answered (Err e) = Err tidy.Stopped
