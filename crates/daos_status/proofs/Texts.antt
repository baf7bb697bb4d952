-- A text that is made may be told in other pieces.
use Rattle.std.proofs.Common.{◌≡◌, ℕ, List, Result, Ok, Err, IfOk, ◌∙◌}

pub retold : {A E : Type 0} (bytes_of : A → List ℕ) (made : Result A E) (xs ys : List ℕ) → IfOk made (λ text. bytes_of text ≡ xs) → xs ≡ ys → IfOk made (λ text. bytes_of text ≡ ys)
retold bytes_of (Ok text) xs ys is same = is ∙ same
retold bytes_of (Err e) xs ys is same = tt
