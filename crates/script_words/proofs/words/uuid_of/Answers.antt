use Rattle.std.proofs.Common.{◌≡◌, ◌∙◌, List, ℕ, sym, ap, cond, Bool, true, false, refl, None}
use Rattle.std.proofs.lemmas.Str.{is_utf8-from_IsUtf8, IsUtf8-from_is_utf8}
use Rattle.std.specs.Str.{is_utf8, IsUtf8}
use Rattle.script_words.specs.Words.{parsed_id}
use Rattle.script_words.proofs.words.uuid_of.Goals as goal

no_text : (w : List ℕ) → (IsUtf8 w → ⊥) → is_utf8 w ≡ false
no_text w no_utf8 = go (is_utf8 w) refl
  where
    go : (b : Bool) → is_utf8 w ≡ b → is_utf8 w ≡ false
    go true e = absurd (no_utf8 (IsUtf8-from_is_utf8 w e))
    go false e = e

pub returns-in-Ok : goal.returns-in-Ok
returns-in-Ok c =
    let w = c.args.word.now in
    let e = c.in-Ok.ensures.cases in
    c.parsed_id.ensures ∙ ap parsed_id e.0 ∙ sym (ap (λ b. cond b (parsed_id w) None) (is_utf8-from_IsUtf8 w e.1))

pub returns-in-Err : goal.returns-in-Err
returns-in-Err c =
    let w = c.args.word.now in
    sym (ap (λ b. cond b (parsed_id w) None) (no_text w c.in-Err.ensures.cases.0))
