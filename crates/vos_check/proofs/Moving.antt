-- Bytes that stayed.
use Rattle.std.proofs.Common.{◌≡◌, ℕ, List, subst}
use Rattle.base_outside.specs.Images.{Image}
use Rattle.vos_image.specs.Steps.{Step}
use Rattle.vos_image.specs.Content.{Content}
use Rattle.vos_check_base.specs.Sets.{Set}
use Rattle.vos_check_base.specs.Answers.{IsFault, MarksIn, Reads, content}
use Rattle.vos_check_base.specs.declared.ground.Ground.{Ground}
use Rattle.vos_check_base.specs.declared.refusal.CheckNo.{CheckNo}

pub fault_moved : {A : Type 0} (g : Ground) (f h : Image) (step : Content → Step A) (before : Set) (e : CheckNo) → h ≡ f
    → ((led : List ℕ) → MarksIn (content g h) before led → IsFault (content g h) (step (content g h) led) e)
    → (led : List ℕ) → MarksIn (content g f) before led → IsFault (content g f) (step (content g f) led) e
fault_moved g f h step before e p x = subst (λ (i : Image). (led : List ℕ) → MarksIn (content g i) before led → IsFault (content g i) (step (content g i) led) e) p x

pub reads_moved : {A : Type 0} (g : Ground) (f h : Image) (step : Content → Step A) (before after : Set) (P : A → Type 0) → h ≡ f
    → ((led : List ℕ) → MarksIn (content g h) before led → Reads (content g h) (step (content g h) led) after P)
    → (led : List ℕ) → MarksIn (content g f) before led → Reads (content g f) (step (content g f) led) after P
reads_moved g f h step before after P p x = subst (λ (i : Image). (led : List ℕ) → MarksIn (content g i) before led → Reads (content g i) (step (content g i) led) after P) p x
