-- What a disk in memory may have left, as it goes on.
use Rattle.std.specs.Prelude.{◌≡◌, ◌⊎◌, ℕ, zero, suc, ◌+◌, ◌≤◌, Bool, true, false, cond, List, [], ◌∷◌, ◌++◌, length, refl}
use Rattle.std.proofs.Common.{ap, ◌∙◌, arith, inl, inr}
use Rattle.base_outside.specs.Images.{Image, Range, lies_in, lies_in_some, over, all_over, Torn, Tears, Elapses, NoMore}
use Rattle.base_outside.specs.ImageLaws.{all_over-push, over_outside}
use Rattle.daos_regions.specs.declared.keep.Keep.{Keep}
use Rattle.daos_regions.specs.declared.keep.Keep.TheVariants.{All}
use Rattle.daos_regions.specs.Periods.{Period, DiskState, is_kept, kept_from, ended, all_ended, zeros, kept, read_now, MayLeave, MayHaveLeft, LeftSince, Remembers, AllFit}

none_left : (periods : List Period) (f c : Image) → MayHaveLeft (length periods) periods f c → ⊥
none_left [] f c left = left
none_left (p ∷ periods) f c left = none_left periods (ended p f) c left

-- since the last moment a crash may leave what it may leave now
pub left_now : (disk : DiskState) (c : Image) → LeftSince disk (length disk.past) c → MayLeave disk c
left_now disk c (inl past) = absurd (none_left disk.past zeros c past)
left_now disk c (inr now) = now

pub all_ended-push : (periods : List Period) (p : Period) (f : Image) → all_ended (periods ++ p ∷ []) f ≡ ended p (all_ended periods f)
all_ended-push [] p f = refl
all_ended-push (q ∷ periods) p f = all_ended-push periods p (ended q f)

left-push : (t : ℕ) (periods : List Period) (p : Period) (f c : Image) → MayHaveLeft t (periods ++ p ∷ []) f c → MayHaveLeft t periods f c ⊎ Torn p.writes (all_ended periods f) c
left-push zero [] p f c (inl torn) = inr torn
left-push zero [] p f c (inr none) = absurd none
left-push (suc t) [] p f c none = absurd none
left-push zero (q ∷ periods) p f c (inl torn) = inl (inl torn)
left-push zero (q ∷ periods) p f c (inr rest) = elim (left-push zero periods p (ended q f) c rest) [ inl a ↦ inl (inr a) | inr b ↦ inr b ]
left-push (suc t) (q ∷ periods) p f c rest = left-push t periods p (ended q f) c rest

kept-push : (t : ℕ) (periods : List Period) (p : Period) (f c : Image) → MayHaveLeft t periods f c → MayHaveLeft t (periods ++ p ∷ []) f c
kept-push t [] p f c none = absurd none
kept-push zero (q ∷ periods) p f c (inl torn) = inl torn
kept-push zero (q ∷ periods) p f c (inr rest) = inr (kept-push zero periods p (ended q f) c rest)
kept-push (suc t) (q ∷ periods) p f c rest = kept-push t periods p (ended q f) c rest

torn-push : (t : ℕ) (periods : List Period) (p : Period) (f c : Image) → t ≤ length periods → Torn p.writes (all_ended periods f) c → MayHaveLeft t (periods ++ p ∷ []) f c
torn-push zero [] p f c le torn = inl torn
torn-push (suc t) [] p f c le torn = absurd (omega arith)
torn-push zero (q ∷ periods) p f c le torn = inr (torn-push zero periods p (ended q f) c (omega arith) torn)
torn-push (suc t) (q ∷ periods) p f c le torn = torn-push t periods p (ended q f) c (omega arith) torn

lies-parts : (i : ℕ) (xs : List Range) (r : Range) → lies_in_some i (xs ++ r ∷ []) ≡ false → (lies_in_some i xs ≡ false) × (lies_in i r ≡ false)
lies-parts i [] r h = (refl, elim (lies_in i r) as (λ b. cond b true false ≡ false → b ≡ false) [ true ↦ λ e. e | false ↦ λ e. refl ] h)
lies-parts i (x ∷ xs) r h =
    elim (lies_in i x) as (λ b. cond b true (lies_in_some i (xs ++ r ∷ [])) ≡ false → (cond b true (lies_in_some i xs) ≡ false) × (lies_in i r ≡ false)) [
      | true ↦ λ e. absurd (cc)
      | false ↦ λ e. lies-parts i xs r e
    ] h

lies-more : (i : ℕ) (xs : List Range) (r : Range) → lies_in_some i xs ≡ false → lies_in i r ≡ false → lies_in_some i (xs ++ r ∷ []) ≡ false
lies-more i [] r h off = ap (λ (b : Bool). cond b true false) off
lies-more i (x ∷ xs) r h off =
    elim (lies_in i x) as (λ b. cond b true (lies_in_some i xs) ≡ false → cond b true (lies_in_some i (xs ++ r ∷ [])) ≡ false) [
      | true ↦ λ e. absurd (cc)
      | false ↦ λ e. lies-more i xs r e off
    ] h

-- a write more tears its range
torn_more : (rs : List Range) (r : Range) (f c : Image) → Torn (rs ++ r ∷ []) f c → (d : Image) × (Torn rs f d × Torn (r ∷ []) d c)
torn_more rs r f c torn =
    let d : Image = λ i. cond (lies_in_some i rs) (c i) (f i) in (
      d,
      (
        λ i out. ap (λ (b : Bool). cond b (c i) (f i)) out,
        λ i out.
            let off : lies_in i r ≡ false = elim (lies_in i r) as (λ b. cond b true false ≡ false → b ≡ false) [ true ↦ λ e. e | false ↦ λ e. refl ] out in
            elim (lies_in_some i rs) as (λ b. lies_in_some i rs ≡ b → c i ≡ cond b (c i) (f i)) [
              | true ↦ λ e. refl
              | false ↦ λ e. torn i (lies-more i rs r e off)
            ] refl,
      ),
    )

torn_fewer : (rs : List Range) (r : Range) (f c : Image) → Torn rs f c → Torn (rs ++ r ∷ []) f c
torn_fewer rs r f c torn i out = torn i (lies-parts i rs r out).0

-- a disk with one write more
abbrev pub written : DiskState → Range → DiskState
written disk r = record { size = disk.size; past = disk.past; unflushed = disk.unflushed ++ r ∷ [] }

pub write_tears : (disk : DiskState) (r : Range) → Tears (r ∷ []) (MayLeave disk) (MayLeave (written disk r))
write_tears disk r c torn = torn_more disk.unflushed r (kept disk) c torn

pub write_elapses : (disk : DiskState) (r : Range) → Elapses (length disk.past) (length disk.past) (LeftSince disk) (LeftSince (written disk r)) (MayLeave (written disk r))
write_elapses disk r = record { later = omega arith; nothing_else = λ t c le since. elim since [ inl past ↦ inl (inl past) | inr now ↦ inr now ] }

pub write_remembers : (disk : DiskState) (r : Range) → Remembers (length disk.past) (length disk.past) (LeftSince disk) (LeftSince (written disk r))
write_remembers disk r = record { later = omega arith; keeps = λ t c le past. elim past [ inl before ↦ inl before | inr now ↦ inr (torn_fewer disk.unflushed r (kept disk) c now) ] }

pub write_reads : (disk : DiskState) (r : Range) → read_now (written disk r) ≡ over r (read_now disk)
write_reads disk r = all_over-push disk.unflushed r (kept disk)

-- a disk after the end of a period
abbrev pub after_end : DiskState → Keep → DiskState
after_end disk keep = record { size = disk.size; past = disk.past ++ record { writes = disk.unflushed; keep = keep } ∷ []; unflushed = [] }

lies-front : (i : ℕ) (r : Range) (rs : List Range) → lies_in_some i (r ∷ rs) ≡ false → (lies_in i r ≡ false) × (lies_in_some i rs ≡ false)
lies-front i r rs h =
    elim (lies_in i r) as (λ b. cond b true (lies_in_some i rs) ≡ false → (b ≡ false) × (lies_in_some i rs ≡ false)) [
      | true ↦ λ e. absurd (cc)
      | false ↦ λ e. (refl, e)
    ] h

-- what is kept of writes lies in them
kept-torn : (keep : Keep) (k : ℕ) (rs : List Range) (f : Image) (i : ℕ) → lies_in_some i rs ≡ false → all_over (kept_from keep k rs) f i ≡ f i
kept-torn keep k [] f i out = refl
kept-torn keep k (r ∷ rs) f i out =
    let parts = lies-front i r rs out in
    elim (is_kept keep k) as (λ b. all_over (cond b (r ∷ kept_from keep (k + 1) rs) (kept_from keep (k + 1) rs)) f i ≡ f i) [
      | true ↦ kept-torn keep (k + 1) rs (over r f) i parts.1 ∙ over_outside r f i parts.0
      | false ↦ kept-torn keep (k + 1) rs f i parts.1
    ]

length-push : (periods : List Period) (p : Period) → length (periods ++ p ∷ []) ≡ length periods + 1
length-push [] p = refl
length-push (q ∷ periods) p = let e = length-push periods p in omega arith

pub end_lasts : (disk : DiskState) (keep : Keep) (c : Image) → MayLeave (after_end disk keep) c → (i : ℕ) → c i ≡ read_now (after_end disk keep) i
end_lasts disk keep c torn i = torn i refl

pub end_may_leave : (disk : DiskState) (keep : Keep) → MayLeave disk (read_now (after_end disk keep))
end_may_leave disk keep i out =
    let p : Period = record { writes = disk.unflushed; keep = keep } in
    ap (λ (g : Image). g i) (all_ended-push disk.past p zeros) ∙ kept-torn keep 0 disk.unflushed (kept disk) i out

pub end_leaves : (disk : DiskState) (keep : Keep) → NoMore (MayLeave disk) (MayLeave (after_end disk keep))
end_leaves disk keep c torn i out = torn i refl ∙ end_may_leave disk keep i out

pub end_elapses : (disk : DiskState) (keep : Keep) → Elapses (length disk.past) (length (after_end disk keep).past) (LeftSince disk) (LeftSince (after_end disk keep)) (MayLeave (after_end disk keep))
end_elapses disk keep =
    let p : Period = record { writes = disk.unflushed; keep = keep } in
    record {
      later = let e = length-push disk.past p in omega arith;
      nothing_else = λ t c le since. elim since [
        | inl past ↦ elim (left-push t disk.past p zeros c past) [ inl before ↦ inl (inl before) | inr torn ↦ inl (inr torn) ]
        | inr now ↦ inr now
      ];
    }

pub end_remembers : (disk : DiskState) (keep : Keep) → Remembers (length disk.past) (length (after_end disk keep).past) (LeftSince disk) (LeftSince (after_end disk keep))
end_remembers disk keep =
    let p : Period = record { writes = disk.unflushed; keep = keep } in
    record {
      later = let e = length-push disk.past p in omega arith;
      keeps = λ t c le past. elim past [
        | inl before ↦ inl (kept-push t disk.past p zeros c before)
        | inr torn ↦ inl (torn-push t disk.past p zeros c le torn)
      ];
    }

pub all_kept : (k : ℕ) (rs : List Range) → kept_from All k rs ≡ rs
all_kept k [] = refl
all_kept k (r ∷ rs) = ap (λ (z : List Range). r ∷ z) (all_kept (k + 1) rs)

-- a flush keeps all that is read
pub flush_reads : (disk : DiskState) → read_now (after_end disk All) ≡ read_now disk
flush_reads disk =
    let p : Period = record { writes = disk.unflushed; keep = All } in
    all_ended-push disk.past p zeros ∙ ap (λ (rs : List Range). all_over rs (kept disk)) (all_kept 0 disk.unflushed)

-- ranges that fit, and one more
pub fit-push : (size : ℕ) (rs : List Range) (r : Range) → AllFit size rs → r.place + length r.bytes ≤ size → AllFit size (rs ++ r ∷ [])
fit-push size [] r all fits = (fits, tt)
fit-push size (q ∷ rs) r all fits = (all.0, fit-push size rs r all.1 fits)
