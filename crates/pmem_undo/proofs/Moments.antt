-- A run of calls so far, each crash of which is allowed.
use Rattle.std.proofs.Common.{◌≡◌, ℕ, zero, suc, ◌+◌, true, false, cond, List, [], ◌∷◌, ◌++◌, take, refl, sym, ap, ◌∙◌, subst, arith, inl, inr}
use Rattle.base_outside.specs.Images.{Image, Range, Call, lies_in, lies_in_some, Torn, Only, NoMore, Tears, Elapses, LeavesOnly, Runs}
use Rattle.base_outside.specs.Images.Call.{Read, Write}
use Rattle.pmem_undo.specs.Settled.{writes, reads, OnlyLooks}

pub leaves_none : (t : ℕ) (s : ℕ → Image → Type 0) (P : Image → Type 0) → LeavesOnly t t s s P
leaves_none t s P = record { later = omega arith; each = λ u c le h. inl h }

-- a run goes on by a call whose outcomes are all allowed
pub leaves_more : (t0 t1 t2 : ℕ) (s0 s1 s2 : ℕ → Image → Type 0) (P now : Image → Type 0) → LeavesOnly t0 t1 s0 s1 P → Elapses t1 t2 s1 s2 now → ((c : Image) → now c → P c) → LeavesOnly t0 t2 s0 s2 P
leaves_more t0 t1 t2 s0 s1 s2 P now l e ok = record {
  later = let a = l.later in let b = e.later in omega arith;
  each = λ t c le since. elim (e.nothing_else t c (let a = l.later in omega arith) since) [
    | inl past ↦ l.each t c le past
    | inr here ↦ inr (ok c here)
  ];
}

pub leaves_weaker : (t0 t1 : ℕ) (s0 s1 : ℕ → Image → Type 0) (P Q : Image → Type 0) → LeavesOnly t0 t1 s0 s1 P → ((c : Image) → P c → Q c) → LeavesOnly t0 t1 s0 s1 Q
leaves_weaker t0 t1 s0 s1 P Q l f = record { later = l.later; each = λ t c le h. elim (l.each t c le h) [ inl a ↦ inl a | inr b ↦ inr (f c b) ] }

pub leaves_then : (t0 t1 t2 : ℕ) (s0 s1 s2 : ℕ → Image → Type 0) (P : Image → Type 0) → LeavesOnly t0 t1 s0 s1 P → LeavesOnly t1 t2 s1 s2 P → LeavesOnly t0 t2 s0 s2 P
leaves_then t0 t1 t2 s0 s1 s2 P l m = record {
  later = let a = l.later in let b = m.later in omega arith;
  each = λ t c le h. elim (m.each t c (let a = l.later in omega arith) h) [ inl a ↦ l.each t c le a | inr b ↦ inr b ];
}

-- each crash so far is allowed, and so is one now
pub record Sofar (t0 t : ℕ) (s0 s : ℕ → Image → Type 0) (may P : Image → Type 0) : Type 0 where
  pub leaves : LeavesOnly t0 t s0 s P
  pub now : (c : Image) → may c → P c

pub sofar_start : (t : ℕ) (s : ℕ → Image → Type 0) (may P : Image → Type 0) → ((c : Image) → may c → P c) → Sofar t t s s may P
sofar_start t s may P ok = record { leaves = leaves_none t s P; now = ok }

pub torn_clean : (rs : List Range) (f : Image) (old new : Image → Type 0) → Only f old → Tears rs old new → (c : Image) → new c → Torn rs f c
torn_clean rs f old new clean t c h i out = let w = t c h in w.1.1 i out ∙ clean w.0 w.1.0 i

-- a write over bytes that last
pub sofar_write : (t0 t t2 : ℕ) (s0 s s2 : ℕ → Image → Type 0) (may may2 P : Image → Type 0) (rs : List Range) (f : Image) → Sofar t0 t s0 s may P → Only f may → Tears rs may may2 → Elapses t t2 s s2 may2 → ((c : Image) → Torn rs f c → P c) → Sofar t0 t2 s0 s2 may2 P
sofar_write t0 t t2 s0 s s2 may may2 P rs f r clean tears e k =
    let ok = λ (c : Image) (h : may2 c). k c (torn_clean rs f may may2 clean tears c h) in
    record { leaves = leaves_more t0 t t2 s0 s s2 P may2 r.leaves e ok; now = ok }

pub sofar_flush : (t0 t t2 : ℕ) (s0 s s2 : ℕ → Image → Type 0) (may may2 P : Image → Type 0) → Sofar t0 t s0 s may P → NoMore may may2 → Elapses t t2 s s2 may2 → Sofar t0 t2 s0 s2 may2 P
sofar_flush t0 t t2 s0 s s2 may may2 P r less e =
    let ok = λ (c : Image) (h : may2 c). r.now c (less c h) in
    record { leaves = leaves_more t0 t t2 s0 s s2 P may2 r.leaves e ok; now = ok }

lies-parts : (i : ℕ) (xs ys : List Range) → lies_in_some i (xs ++ ys) ≡ false → (lies_in_some i xs ≡ false) × (lies_in_some i ys ≡ false)
lies-parts i [] ys h = (refl, h)
lies-parts i (x ∷ xs) ys h =
    elim (lies_in i x) as (λ b. cond b true (lies_in_some i (xs ++ ys)) ≡ false → (cond b true (lies_in_some i xs) ≡ false) × (lies_in_some i ys ≡ false)) [
      | true ↦ λ e. absurd (cc)
      | false ↦ λ e. lies-parts i xs ys e
    ] h

pub tears_more : (rs : List Range) (r : Range) (a b c : Image → Type 0) → Tears rs a b → Tears (r ∷ []) b c → Tears (rs ++ r ∷ []) a c
tears_more rs r a b c s t z now =
    let w = t z now in
    let v = s w.0 w.1.0 in
    (v.0, (v.1.0, λ i out. let p = lies-parts i rs (r ∷ []) out in w.1.1 i p.1 ∙ v.1.1 i p.0))

lies-front : (i k : ℕ) (rs : List Range) → lies_in_some i rs ≡ false → lies_in_some i (take k rs) ≡ false
lies-front i zero rs h = refl
lies-front i (suc k) [] h = refl
lies-front i (suc k) (r ∷ rs) h =
    elim (lies_in i r) as (λ b. cond b true (lies_in_some i rs) ≡ false → cond b true (lies_in_some i (take k rs)) ≡ false) [
      | true ↦ λ e. absurd (cc)
      | false ↦ λ e. lies-front i k rs e
    ] h

-- what tears some of the ranges tears all of them
pub tears_front : (k : ℕ) (rs : List Range) (a b : Image → Type 0) → Tears (take k rs) a b → Tears rs a b
tears_front k rs a b t c now = let w = t c now in (w.0, (w.1.0, λ i out. w.1.1 i (lies-front i k rs out)))

-- calls that went well, and one more
pub runs_more : {S : Type 0} (did : S → Call → S → Type 0) (calls : List Call) (call : Call) (a b c : S) → Runs did calls a b → did b call c → Runs did (calls ++ call ∷ []) a c
runs_more did [] call a b c run here = (c, (subst (λ z. did z call c) (sym run) here, refl))
runs_more did (x ∷ calls) call a b c run here = (run.0, (run.1.0, runs_more did calls call run.0 b c run.1.1 here))

pub runs_then : {S : Type 0} (did : S → Call → S → Type 0) (calls more : List Call) (a b c : S) → Runs did calls a b → Runs did more b c → Runs did (calls ++ more) a c
runs_then did [] more a b c run rest = subst (λ z. Runs did more z c) (sym run) rest
runs_then did (x ∷ calls) more a b c run rest = (run.0, (run.1.0, runs_then did calls more run.0 b c run.1.1 rest))

pub writes-push : (rs : List Range) (r : Range) → writes (rs ++ r ∷ []) ≡ writes rs ++ Write r ∷ []
writes-push [] r = refl
writes-push (q ∷ rs) r = ap (λ (cs : List Call). Write q ∷ cs) (writes-push rs r)

pub reads-push : (n : ℕ) → reads (n + 1) ≡ reads n ++ Read ∷ []
reads-push zero = refl
reads-push (suc n) =
    let e : suc n + 1 ≡ suc (n + 1) = omega arith in
    ap reads e ∙ ap (λ (cs : List Call). Read ∷ cs) (reads-push n)

-- a run of reads, and one more
pub looks_none : (f : Image) (may : Image → Type 0) (t : ℕ) (s : ℕ → Image → Type 0) → OnlyLooks f f may may t t s s
looks_none f may t s = record { image = refl; crash = λ c h. h; time = leaves_none t s may }

pub looks_then : (f g h : Image) (m n o : Image → Type 0) (t0 t1 t2 : ℕ) (s0 s1 s2 : ℕ → Image → Type 0) → OnlyLooks f g m n t0 t1 s0 s1 → OnlyLooks g h n o t1 t2 s1 s2 → OnlyLooks f h m o t0 t2 s0 s2
looks_then f g h m n o t0 t1 t2 s0 s1 s2 a b = record {
  image = b.image ∙ a.image;
  crash = λ c now. a.crash c (b.crash c now);
  time = leaves_then t0 t1 t2 s0 s1 s2 m a.time (leaves_weaker t1 t2 s1 s2 n m b.time a.crash);
}

-- what a crash may leave at the end of a call is allowed too
pub leaves_now : (t0 t1 : ℕ) (s0 s1 : ℕ → Image → Type 0) (m0 m1 P : Image → Type 0) → LeavesOnly t0 t1 s0 s1 P → ((c : Image) → m1 c → s1 t0 c) → ((c : Image) → s0 t0 c → m0 c) → ((c : Image) → m0 c → P c) → (c : Image) → m1 c → P c
leaves_now t0 t1 s0 s1 m0 m1 P l counts only first c here =
    elim (l.each t0 c (omega arith) (counts c here)) [ inl past ↦ first c (only c past) | inr ok ↦ ok ]
