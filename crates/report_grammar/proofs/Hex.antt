-- One byte more of hexadecimal digits.
use Rattle.std.proofs.Common.{◌≡◌, ℕ, ◌+◌, ◌*◌, List, [], ◌∷◌, ◌++◌, Option, Some, refl, sym, ap, ◌∙◌}
use Rattle.report_grammar.specs.Answers.{digit_of, hex_of}

pub hex_more : (bytes digits behind next new : List ℕ) (high low h l : ℕ) (all : Option (List ℕ)) → digits ≡ high ∷ behind → behind ≡ low ∷ next → Some h ≡ digit_of high → Some l ≡ digit_of low
    → new ≡ bytes ++ (h * 16 + l) ∷ [] → hex_of bytes digits ≡ all → hex_of new next ≡ all
hex_more bytes digits behind next new high low h l all d e p q f g =
    let p' : digit_of high ≡ Some h = sym p in
    let q' : digit_of low ≡ Some l = sym q in
    let told : hex_of bytes (high ∷ low ∷ next) ≡ all = ap (hex_of bytes) (sym (d ∙ ap (λ t. high ∷ t) e)) ∙ g in
    let step : hex_of bytes (high ∷ low ∷ next) ≡ hex_of (bytes ++ (h * 16 + l) ∷ []) next = rw (p', q') refl in
    ap (λ t. hex_of t next) f ∙ sym step ∙ told
