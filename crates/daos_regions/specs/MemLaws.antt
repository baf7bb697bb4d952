-- What the calls of a region in memory leave, by their answers.
use Rattle.std.specs.Prelude.{◌≡◌, ◌≤◌, Bool, true, false, [], ◌∷◌, length, Result, Ok, Err, OnOk, OnErr, IsErr, Contains, refl}
use Rattle.std.proofs.Common.{sym, ap, ◌∙◌, subst, inl, arith}
use Rattle.base_outside.specs.Calls.{Calls}
use Rattle.base_outside.specs.Causes.{one_more}
use Rattle.base_outside.specs.Images.{Range, over, Only, NoMore, Tears, Elapses, Call}
use Rattle.base_outside.specs.Images.Call.{Read, Write, Flush}
use Rattle.daos_regions.specs.declared.keep.Keep.{Keep}
use Rattle.daos_regions.specs.declared.keep.Keep.TheVariants.{All}
use Rattle.daos_regions.specs.Periods.{DiskState, read_now, MayLeave, LeftSince, Remembers}
use Rattle.daos_regions.specs.PeriodLaws.{written, after_end, write_tears, write_elapses, write_remembers, write_reads, end_lasts, end_may_leave, end_leaves, end_elapses, end_remembers, flush_reads}

-- what a call that went well makes of a disk
abbrev pub Does : DiskState → Call → DiskState → Type 0
Does disk Read next = next ≡ disk
Does disk (Write r) next = next ≡ written disk r
Does disk Flush next = next ≡ after_end disk All

-- What a call leaves to a crash. Nothing that it may have left is forgotten.
pub record Goes (old new : DiskState) : Type 0 where
  pub time : Elapses (length old.past) (length new.past) (LeftSince old) (LeftSince new) (MayLeave new)
  pub memory : Remembers (length old.past) (length new.past) (LeftSince old) (LeftSince new)

stays : (disk : DiskState) → Goes disk disk
stays disk = record {
  time = record { later = omega arith; nothing_else = λ t c le since. inl since };
  memory = record { later = omega arith; keeps = λ t c le past. past };
}

pub stays_same : (old new : DiskState) → new ≡ old → Goes old new
stays_same old new e = subst (λ (d : DiskState). Goes old d) (sym e) (stays old)

no_more : (old new : DiskState) → new ≡ old → NoMore (MayLeave old) (MayLeave new)
no_more old new e = subst (λ (d : DiskState). NoMore (MayLeave old) (MayLeave d)) (sym e) (λ c here. here)

pub same_leaves : (old new : DiskState) → new ≡ old → NoMore (MayLeave old) (MayLeave new)
same_leaves old new e = no_more old new e

-- a write
pub write_goes : {T E : Type 0} (result : Result T E) (r : Range) (old new : DiskState) → OnOk result (new ≡ written old r) → OnErr result (new ≡ old) → Goes old new
write_goes (Ok x) r old new ok err = subst (λ (d : DiskState). Goes old d) (sym ok) (record { time = write_elapses old r; memory = write_remembers old r })
write_goes (Err e) r old new ok err = stays_same old new err

pub write_leaves : {T E : Type 0} (result : Result T E) (r : Range) (old new : DiskState) → OnOk result (new ≡ written old r) → OnErr result (new ≡ old) → Tears (r ∷ []) (MayLeave old) (MayLeave new)
write_leaves (Ok x) r old new ok err = subst (λ (d : DiskState). Tears (r ∷ []) (MayLeave old) (MayLeave d)) (sym ok) (write_tears old r)
write_leaves (Err e) r old new ok err = subst (λ (d : DiskState). Tears (r ∷ []) (MayLeave old) (MayLeave d)) (sym err) (λ c here. (c, (here, λ i out. refl)))

pub write_image : {T E : Type 0} (result : Result T E) (r : Range) (old new : DiskState) → OnOk result (new ≡ written old r) → OnOk result (read_now new ≡ over r (read_now old))
write_image (Ok x) r old new ok = ap read_now ok ∙ write_reads old r
write_image (Err e) r old new ok = tt

-- the end of a period
pub end_goes : {T E : Type 0} (result : Result T E) (keep : Keep) (old new : DiskState) → OnOk result (new ≡ after_end old keep) → OnErr result (new ≡ old) → Goes old new
end_goes (Ok x) keep old new ok err = subst (λ (d : DiskState). Goes old d) (sym ok) (record { time = end_elapses old keep; memory = end_remembers old keep })
end_goes (Err e) keep old new ok err = stays_same old new err

pub end_no_more : {T E : Type 0} (result : Result T E) (keep : Keep) (old new : DiskState) → OnOk result (new ≡ after_end old keep) → OnErr result (new ≡ old) → NoMore (MayLeave old) (MayLeave new)
end_no_more (Ok x) keep old new ok err = subst (λ (d : DiskState). NoMore (MayLeave old) (MayLeave d)) (sym ok) (end_leaves old keep)
end_no_more (Err e) keep old new ok err = no_more old new err

pub end_only : {T E : Type 0} (result : Result T E) (keep : Keep) (old new : DiskState) → OnOk result (new ≡ after_end old keep) → OnOk result (Only (read_now new) (MayLeave new))
end_only (Ok x) keep old new ok = subst (λ (d : DiskState). Only (read_now d) (MayLeave d)) (sym ok) (end_lasts old keep)
end_only (Err e) keep old new ok = tt

pub end_image : {T E : Type 0} (result : Result T E) (keep : Keep) (old new : DiskState) → OnOk result (new ≡ after_end old keep) → OnOk result (MayLeave old (read_now new))
end_image (Ok x) keep old new ok = subst (λ (d : DiskState). MayLeave old (read_now d)) (sym ok) (end_may_leave old keep)
end_image (Err e) keep old new ok = tt

pub flush_image : {T E : Type 0} (result : Result T E) (old new : DiskState) → OnOk result (new ≡ after_end old All) → OnErr result (new ≡ old) → read_now new ≡ read_now old
flush_image (Ok x) old new ok err = ap read_now ok ∙ flush_reads old
flush_image (Err e) old new ok err = ap read_now err

-- A call is counted. It fails where its number is planned, or one has failed since the last opening.
-- An error counts as a fault, and breaks the region.
pub record CountsCall {T E : Type 0} (was is : Bool) (before now : Calls) (result : Result T E) : Type 0 where
  pub list : now.fails ≡ before.fails
  pub calls : now.calls ≡ one_more before.calls
  pub later : before.faults ≤ now.faults
  pub planned : Contains before.fails now.calls → IsErr result
  pub failed : OnErr result ((now.faults ≡ one_more before.faults) × (is ≡ true))
  pub worked : OnOk result ((now.faults ≡ before.faults) × ((was ≡ false) × (is ≡ false)))

-- the same of an opening, which mends the region
pub record CountsOpening {T E : Type 0} (is : Bool) (before now : Calls) (result : Result T E) : Type 0 where
  pub list : now.fails ≡ before.fails
  pub calls : now.calls ≡ one_more before.calls
  pub later : before.faults ≤ now.faults
  pub planned : Contains before.fails now.calls → IsErr result
  pub failed : OnErr result ((now.faults ≡ one_more before.faults) × (is ≡ true))
  pub worked : OnOk result ((now.faults ≡ before.faults) × (is ≡ false))
