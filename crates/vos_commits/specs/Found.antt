-- What is kept, and what an opening finds, after a commit.
use Rattle.std.specs.Prelude.{ℕ, ◌≡◌, ◌⊎◌, ◌==◌, cond, Bool, true, false, List, [], ◌∷◌, refl}
use Rattle.std.proofs.Common.{ap, sym, ◌∙◌, subst, inl, inr, arith}
use mathlib.Core.Path.{fun_ext}
use Rattle.base_outside.specs.Images.{Image, Range, all_over}
use Rattle.daos_model.specs.declared.durable.Durable.{Durable}
use Rattle.pmem_undo.specs.Layout.{SameContent, gate, is_content}
use Rattle.pmem_undo.specs.Settled.{IsAtRest, settled}
use Rattle.vos_commits.specs.Kept.{IsCommit, IsQuiet, MayFind, Reading, content_of, kept_in, kept_over}
use Rattle.vos_commits.specs.Laws.{AtRestOneIsFound, CommitsFind, CommitsKeep, QuietFindsTheSame, QuietKeepsTheSame}

-- two images with the same content have one content
same-content : (f g : Image) → SameContent f g → content_of f ≡ content_of g
unfolding content_of
same-content f g same = fun_ext (λ i. by i (is_content i) (same i))
  where
    by : (i : ℕ) (t : Bool) → (t ≡ true → f i ≡ g i) → cond t (f i) 0 ≡ cond t (g i) 0
    by i true h = h refl
    by i false h = refl

-- where the gate is closed attaching leaves an image as it is
settled-closed : (size : ℕ) (f : Image) → f gate ≡ 0 → settled size f ≡ f
unfolding settled
settled-closed size f closed = rw closed refl

kept-closed : (reading : Reading) (size : ℕ) (f : Image) → f gate ≡ 0 → kept_in reading size f ≡ reading (content_of f)
unfolding kept_in
kept-closed reading size f closed = ap (λ z. reading (content_of z)) (settled-closed size f closed)

-- at rest only what is read may be left
one-left : (f d : Image) (may_leave : Image → Type 0) → IsAtRest f may_leave → may_leave d → d ≡ f
one-left f d may_leave rest may = fun_ext (λ i. rest.only d may i)

pub one-found : AtRestOneIsFound
one-found reading size f may_leave x rest may = may.1.1 ∙ ap (kept_in reading size) (one-left f may.0 may_leave rest may.1.0)

-- what an image keeps goes by its content once its log was rolled back
kept-by : (reading : Reading) (size : ℕ) (c g : Image) → SameContent (settled size c) g → kept_in reading size c ≡ reading (content_of g)
unfolding kept_in
kept-by reading size c g same = ap reading (same-content (settled size c) g same)

-- where the log comes back to the same content they keep the same
kept-as : (reading : Reading) (size : ℕ) (c d : Image) → SameContent (settled size c) (settled size d) → kept_in reading size c ≡ kept_in reading size d
unfolding kept_in
kept-as reading size c d same = ap reading (same-content (settled size c) (settled size d) same)

pub commit-finds : CommitsFind
commit-finds reading size ranges done f g old new x k may =
    let from = k.from may.0 may.1.0 in
    let is : from.0 ≡ f = one-left f from.0 old k.rest from.1.0 in
    elim from.1.1 [
      | inl same ↦ inl (from.0, (from.1.0, may.1.1 ∙ kept-as reading size may.0 from.0 same))
      | inr after ↦ inr (may.1.1 ∙ (kept-by reading size may.0 (all_over ranges (settled size from.0)) after ∙ ap (λ z. reading (content_of (all_over ranges z))) (ap (settled size) is ∙ settled-closed size f k.rest.closed)))
    ]

pub commit-keeps : CommitsKeep
commit-keeps reading size ranges done f g old new k ok =
    kept-closed reading size g (k.rests ok).closed ∙ ap reading (same-content g (all_over ranges f) (k.written ok))

-- what was kept could be found before, where something may be left now
kept-found : (reading : Reading) (size : ℕ) (ranges : List Range) (done : Bool) (f g : Image) (old new : Image → Type 0) (x : Durable) → IsCommit size ranges done f g old new → MayFind reading size new x → MayFind reading size old (kept_in reading size f)
kept-found reading size ranges done f g old new x k may =
    let from = k.from may.0 may.1.0 in
    (from.0, (from.1.0, ap (kept_in reading size) (sym (one-left f from.0 old k.rest from.1.0))))

pub quiet-finds : QuietFindsTheSame
quiet-finds reading size ranges done f g old new x k quiet may =
    elim (commit-finds reading size ranges done f g old new x k may) [
      | inl before ↦ before
      | inr after ↦ subst (MayFind reading size old) (sym (after ∙ quiet)) (kept-found reading size ranges done f g old new x k may)
    ]

pub quiet-keeps : QuietKeepsTheSame
quiet-keeps reading size ranges done f g old new k quiet ok = commit-keeps reading size ranges done f g old new k ok ∙ quiet
