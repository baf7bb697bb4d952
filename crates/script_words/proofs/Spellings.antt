-- Each value has one spelling.
use Rattle.std.proofs.Common.{◌≡◌, ℕ, ◌<◌, ◌≤◌, Bool, true, false, cond, eqb, ltb, List, [], ◌∷◌, length, Result, Ok, Err, refl, sym, ap, ◌∙◌, arith}
use Rattle.std.specs.List.{list_all}
use Rattle.std.proofs.lemmas.Bool.{eqb-true}
use Rattle.std.proofs.lemmas.Bool.Decides.{nat_tests}
use Rattle.hex.specs.Hex.{IsBytes, decode_of, encode_lower}
use Rattle.hex.specs.declared.error.FromHexError.{FromHexError}
use Rattle.hex.proofs.HexLemmas.{decode_of-encode_lower}
use Rattle.base_types.specs.Scripts.{IsLength}
use Rattle.base_types.specs.declared.fault.Why.TheVariants.{BadHex, TooLong}
use Rattle.base_text.specs.Results.{◌>>=◌}
use Rattle.script_words.specs.Reads.{Read}
use Rattle.script_words.specs.Values.{ValuesHaveOneSpelling, hex_value, hidden_value, is_lower_digit, is_printable, paired, plain_value, spelling, value_of}
use Rattle.script_words.proofs.Digits.{encoded_lower, of_written}

-- ---- values

not_none : (n : ℕ) → 0 < n → eqb n 0 ≡ false
not_none n lt = grind (arith, nat_tests)

not_many : (n : ℕ) → n ≤ 1024 → ltb 1024 n ≡ false
not_many n le = grind (arith, nat_tests)

reads_plain : (v : List ℕ) → IsLength (length v) → list_all is_printable v ≡ true → value_of (61 ∷ v) ≡ Ok v
unfolding value_of
reads_plain v len p = let some = not_none (length v) len.0 in let few = not_many (length v) len.1 in rw (some, p, few) refl

reads_hidden : (v : List ℕ) → IsLength (length v) → IsBytes v → list_all is_printable v ≡ false → value_of (35 ∷ encode_lower v) ≡ Ok v
unfolding value_of hex_value
reads_hidden v len bytes p = let few = not_many (length v) len.1 in rw (encoded_lower v bytes, decode_of-encode_lower v bytes, few, p) refl

reads_spelling : (v : List ℕ) → IsLength (length v) → IsBytes v → value_of (spelling v) ≡ Ok v
reads_spelling v len bytes = go (list_all is_printable v) refl
  where
    go : (b : Bool) → list_all is_printable v ≡ b → value_of (cond b (61 ∷ v) (35 ∷ encode_lower v)) ≡ Ok v
    go true p = reads_plain v len p
    go false p = reads_hidden v len bytes p

-- ---- what was read is so spelled

abbrev done : List ℕ → Read (List ℕ)
done x = Ok x

done_is : (x y : List ℕ) → done x ≡ done y → x ≡ y
done_is x y e = cc

plain_spelled : (rest v : List ℕ) (a b c : Bool) → list_all is_printable rest ≡ b → cond a (Err BadHex) (cond b (cond c (Err (TooLong 1024)) (Ok rest)) (Err BadHex)) ≡ Ok v → 61 ∷ rest ≡ spelling v
plain_spelled rest v true b c p e = absurd cc
plain_spelled rest v false false c p e = absurd cc
plain_spelled rest v false true true p e = absurd cc
plain_spelled rest v false true false p e =
    ap (λ b. cond b (61 ∷ rest) (35 ∷ encode_lower rest)) (sym p) ∙ ap spelling (done_is rest v e)

hidden_spelled : (digits bytes v : List ℕ) (a b : Bool) → digits ≡ encode_lower bytes → list_all is_printable bytes ≡ b → cond a (Err (TooLong 1024)) (cond b (Err BadHex) (Ok bytes)) ≡ Ok v → 35 ∷ digits ≡ spelling v
hidden_spelled digits bytes v true b w p e = absurd cc
hidden_spelled digits bytes v false true w p e = absurd cc
hidden_spelled digits bytes v false false w p e =
    ap (λ ds. 35 ∷ ds) w ∙ ap (λ b. cond b (61 ∷ bytes) (35 ∷ encode_lower bytes)) (sym p) ∙ ap spelling (done_is bytes v e)

abbrev read_paired : Result (List ℕ) FromHexError → Read (List ℕ)
read_paired (Ok bytes) = hidden_value bytes
read_paired (Err error) = Err BadHex

same_read : (r : Result (List ℕ) FromHexError) → (paired r >>= λ bytes. hidden_value bytes) ≡ read_paired r
same_read (Ok bytes) = refl
same_read (Err error) = refl

hex_spelled : (digits v : List ℕ) (r : Result (List ℕ) FromHexError) (b : Bool) → list_all is_lower_digit digits ≡ b → decode_of digits ≡ r → cond b (read_paired r) (Err BadHex) ≡ Ok v → 35 ∷ digits ≡ spelling v
hex_spelled digits v r false l d e = absurd cc
hex_spelled digits v (Err error) true l d e = absurd cc
hex_spelled digits v (Ok bytes) true l d e = hidden_spelled digits bytes v (ltb 1024 (length bytes)) (list_all is_printable bytes) (of_written digits bytes l d) refl e

is_sign : (c k : ℕ) → eqb c k ≡ true → c ≡ k
is_sign c k e = eqb-true c k e

by_sign : (c : ℕ) (rest v : List ℕ) (a b : Bool) → eqb c 61 ≡ a → eqb c 35 ≡ b → cond a (plain_value rest) (cond b (hex_value rest) (Err BadHex)) ≡ Ok v → c ∷ rest ≡ spelling v
unfolding hex_value
by_sign c rest v true b ea eb e = ap (λ x. x ∷ rest) (is_sign c 61 ea) ∙ plain_spelled rest v (eqb (length rest) 0) (list_all is_printable rest) (ltb 1024 (length rest)) refl e
by_sign c rest v false true ea eb e = ap (λ x. x ∷ rest) (is_sign c 35 eb) ∙ hex_spelled rest v (decode_of rest) (list_all is_lower_digit rest) refl refl (ap (λ r. cond (list_all is_lower_digit rest) r (Err BadHex)) (sym (same_read (decode_of rest))) ∙ e)
by_sign c rest v false false ea eb e = absurd cc

spelled : (w v : List ℕ) → value_of w ≡ Ok v → w ≡ spelling v
unfolding value_of hex_value
spelled [] v e = absurd cc
spelled (c ∷ rest) v e = by_sign c rest v (eqb c 61) (eqb c 35) refl refl e

pub values_have_one_spelling : ValuesHaveOneSpelling
values_have_one_spelling = record { read = reads_spelling; spelled = spelled }
