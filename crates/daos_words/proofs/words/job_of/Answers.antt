use Rattle.std.proofs.Common.{◌≡◌, ◌+◌, ◌∙◌, sym, ap, arith, length, string_bytes, refl, Ok, Err}
use Rattle.std.proofs.lemmas.List.{length-map}
use Rattle.std.proofs.lemmas.Result.{err_from_is_err_and}
use Rattle.base_text.specs.Steps.{steps-drop_ok, steps-drop_err, steps-drop_all}
use Rattle.daos_words.specs.Words.{job_of, with_word}
use Rattle.daos_words.proofs.Sound.{few_words, word_adds}
use Rattle.daos_words.proofs.words.job_of.Goals as goal

pub returns-in_err-given : goal.returns-in_err-given
unfolding job_of
returns-in_err-given c =
    let p = err_from_is_err_and c.from_residual.result c.from_residual.ensures.1 in
    let l = c.loop-word in
    let word = c.word-item.result in
    let step : with_word l.word-index l.given (string_bytes word) ≡ Err c.in_err-given.field-0.0 =
    ap (λ n. with_word n l.given (string_bytes word)) (sym l.invariant.here) ∙ ap (with_word l.place l.given) (sym c.as_bytes.ensures.value) ∙ sym c.with_word.ensures ∙ c.in_err-given.was in
    let e = steps-drop_err with_word string_bytes c.args.words.now l.word-index l.given word c.in_err-given.field-0.0 c.loop-word-test.true c.word-item.is step in
    rw (p.1, p.2, sym l.invariant.so_far ∙ e) refl

pub overflow_add-place : goal.overflow_add-place
overflow_add-place c = omega (arith, few_words c.loop-word.given, c.loop-word.invariant.few)

pub loop-word-preserved : goal.loop-word-preserved
loop-word-preserved c =
    let l = c.loop-word in
    let word = c.word-item.result in
    let told : with_word l.place l.given c.as_bytes.result.now ≡ Ok c.in_ok-given.given = sym c.with_word.ensures ∙ c.in_ok-given.was in
    let step : with_word l.word-index l.given (string_bytes word) ≡ Ok c.in_ok-given.given =
    ap (λ n. with_word n l.given (string_bytes word)) (sym l.invariant.here) ∙ ap (with_word l.place l.given) (sym c.as_bytes.ensures.value) ∙ told in
    let adds = word_adds l.place l.given c.as_bytes.result.now c.in_ok-given.given l.invariant.sound told in
    record {
      here = ap (λ n. n + 1) l.invariant.here;
      few = omega (arith, adds.more, l.invariant.few);
      sound = adds.sound;
      so_far = sym (steps-drop_ok with_word string_bytes c.args.words.now l.word-index l.given word c.in_ok-given.given c.loop-word-test.true c.word-item.is step) ∙ l.invariant.so_far;
    }

pub returns : goal.returns
unfolding job_of
returns c =
    let l = c.loop-word in
    let e = sym l.invariant.so_far ∙ steps-drop_all with_word string_bytes c.args.words.now l.word-index l.given c.loop-word-test.false in
    let all : l.place ≡ length c.args.words.now = omega (arith, l.invariant.here, c.loop-word-test.false, c.loop-word.auto.word-index-end) in
    c.ended.ensures ∙ sym (rw (e, length-map, sym all) refl)
