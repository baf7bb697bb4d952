-- What a crash may leave at each write of a commit has the content before it, or that after it.
use Rattle.std.proofs.Common.{◌≡◌, ◌≢◌, ℕ, ◌+◌, ◌-◌, ◌*◌, ◌^◌, ◌≤◌, ◌<◌, Bool, true, false, cond, eqb, List, [], ◌∷◌, ◌++◌, length, get_or, Option, Some, refl, sym, ap, ◌∙◌, subst, arith, inl, inr}
use Rattle.std.specs.Prelude.{IsSome}
use Rattle.std.proofs.lemmas.Bool.{ne_eqb}
use Rattle.std.proofs.lemmas.Bool.Decides.{nat_tests, eqb_tells}
use Rattle.std.proofs.lemmas.List.{length-append, length-map}
use Rattle.base_outside.specs.Images.{Image, Range, lies_in, lies_in_some, over, all_over, Torn}
use Rattle.base_outside.specs.ImageLaws.{over_outside, over_inside, length-bytes_at}
use Rattle.pmem_undo.specs.Layout.{gate, gate_byte, log_place, log_end, is_content, IsContent, AreContent, SameContent, total_bytes}
use Rattle.pmem_undo.specs.Log.{log_in, log_bytes, ranges_bytes, range_bytes, number_bytes, old_range, old_ranges, logged}
use Rattle.pmem_undo.specs.Settled.{rolled, settled, StandsFor, IsBeforeOrAfter, IsPrepared, body_range, log_opened}
use Rattle.pmem_undo.proofs.Rolling.{all_over_at, all_over_outside, rolled_old}
use Rattle.pmem_undo.proofs.Reading.{log_read, AreLogged, length-number}

pub settled_closed : (size : ℕ) (c : Image) (i : ℕ) → c gate ≡ 0 → settled size c i ≡ c i
unfolding settled
settled_closed size c i shut = ap (λ (g : ℕ). cond (eqb g 0) c (over (gate_byte 0) (rolled (logged (log_in size c)) c)) i) shut

in_gate : (b i : ℕ) → i ≢ gate → lies_in i (gate_byte b) ≡ false
in_gate b i ne = grind (arith, nat_tests)

pub gate_at : (b : ℕ) (f : Image) → over (gate_byte b) f gate ≡ b
unfolding over
gate_at b f = refl

pub content_off_gate : (i : ℕ) → is_content i ≡ true → i ≢ gate
content_off_gate i content = grind (arith, nat_tests)

pub off_gate : (b : ℕ) (f : Image) (i : ℕ) → is_content i ≡ true → over (gate_byte b) f i ≡ f i
off_gate b f i content = over_outside (gate_byte b) f i (in_gate b i (content_off_gate i content))

pub only_gate : (b i : ℕ) → i ≢ gate → lies_in_some i (gate_byte b ∷ []) ≡ false
only_gate b i ne = ap (λ (x : Bool). cond x true false) (in_gate b i ne)

pub settled_open : (size : ℕ) (c : Image) (rs : List Range) (i : ℕ) → c gate ≢ 0 → log_in size c ≡ Some rs → is_content i ≡ true → settled size c i ≡ rolled rs c i
unfolding settled
settled_open size c rs i ajar log content =
    ap (λ (b : Bool). cond b c (over (gate_byte 0) (rolled (logged (log_in size c)) c)) i) (ne_eqb (c gate) 0 ajar)
    ∙ (ap (λ (l : Option (List Range)). over (gate_byte 0) (rolled (logged l) c) i) log ∙ off_gate 0 (rolled rs c) i content)

pub stands_closed : (size : ℕ) (f c : Image) → c gate ≡ 0 → SameContent c f → StandsFor size f c
stands_closed size f c shut same = record {
  attachable = λ ajar. absurd (ajar shut);
  content = λ i content. settled_closed size c i shut ∙ same i content;
}

pub stands_open : (size : ℕ) (f c : Image) (rs : List Range) → c gate ≢ 0 → log_in size c ≡ Some rs → SameContent (rolled rs c) f → StandsFor size f c
stands_open size f c rs ajar log same = record {
  attachable = λ _. subst IsSome (sym log) refl;
  content = λ i content. settled_open size c rs i ajar log content ∙ same i content;
}

-- ranges of content reach neither the gate byte nor the log body
one_off : (size : ℕ) (r : Range) (i : ℕ) → IsContent size r.place (length r.bytes) → is_content i ≡ false → lies_in i r ≡ false
one_off size r i content off = let outside = content.outside in grind (arith, nat_tests)

pub ranges_off : (size : ℕ) (rs : List Range) (i : ℕ) → AreContent size rs → is_content i ≡ false → lies_in_some i rs ≡ false
ranges_off size [] i content off = refl
ranges_off size (r ∷ rs) i content off = let a = one_off size r i content.0 off in let b = ranges_off size rs i content.1 off in rw (a, b) refl

pub log_is_no_content : (i : ℕ) → log_place ≤ i → i < log_end → is_content i ≡ false
log_is_no_content i low high = grind (arith, nat_tests)

pub gate_is_no_content : is_content gate ≡ false
gate_is_no_content = refl

-- how long a log body is
length-range : (r : Range) → length (range_bytes r) ≡ 8 + length r.bytes
unfolding range_bytes
length-range r = length-append (number_bytes r.place) (number_bytes (length r.bytes) ++ r.bytes) ∙ omega (arith, length-append (number_bytes (length r.bytes)) r.bytes, length-number r.place, length-number (length r.bytes))

pub length-ranges : (rs : List Range) → length (ranges_bytes rs) ≡ 8 * length rs + total_bytes rs
length-ranges [] = refl
length-ranges (r ∷ rs) = length-append (range_bytes r) (ranges_bytes rs) ∙ omega (arith, length-range r, length-ranges rs)

pub length-log : (rs : List Range) → length (log_bytes rs) ≡ 8 + 8 * length rs + total_bytes rs
unfolding log_bytes
length-log rs = length-append (number_bytes (length rs)) (number_bytes (length (ranges_bytes rs)) ++ ranges_bytes rs) ∙ omega (arith, length-append (number_bytes (length (ranges_bytes rs))) (ranges_bytes rs), length-number (length rs), length-number (length (ranges_bytes rs)), length-ranges rs)

pub total-old : (f : Image) (rs : List Range) → total_bytes (old_ranges f rs) ≡ total_bytes rs
total-old f [] = refl
total-old f (r ∷ rs) = let a = length-bytes_at f r.place (length r.bytes) in let b = total-old f rs in omega arith

pub old_are_logged : (size : ℕ) (f : Image) (rs : List Range) → size < 2 ^ 32 → AreContent size rs → AreLogged size (old_ranges f rs)
old_are_logged size f [] small content = tt
old_are_logged size f (r ∷ rs) small content =
    let long = length-bytes_at f r.place (length r.bytes) in
    let inside = content.0.inside in
    (record { content = subst (λ (n : ℕ). IsContent size r.place n) (sym long) content.0; low = omega arith; short = omega arith }, old_are_logged size f rs small content.1)

module _ (size : ℕ) (f : Image) (news : List Range) (body : List ℕ) (p : IsPrepared size f news body) where
  abbrev pub olds : List Range
  olds = old_ranges f news

  long : length body ≡ 8 + 8 * length news + total_bytes news
  long = ap (λ (b : List ℕ). length b) p.logs ∙ (length-log olds ∙ omega (arith, length-map news (old_range f), total-old f news))

  body_is_no_content : (i : ℕ) → lies_in i (body_range body) ≡ true → (log_place ≤ i) × (i < log_end)
  body_is_no_content i e = let l = long in let few = p.few in let short = p.short in (grind (arith, nat_tests), grind (arith, nat_tests))

  off_body : (i : ℕ) → is_content i ≡ true → lies_in i (body_range body) ≡ false
  off_body i content = let l = long in let few = p.few in let short = p.short in grind (arith, nat_tests)

  gate_off_body : lies_in gate (body_range body) ≡ false
  gate_off_body = let l = long in grind (arith, nat_tests)

  body_there : (k : ℕ) → k < length body → over (body_range body) f (log_place + k) ≡ get_or body k 0
  body_there k below =
      let e : lies_in (log_place + k) (body_range body) ≡ true = grind (arith, nat_tests) in
      let back : (log_place + k) - log_place ≡ k = omega arith in
      over_inside (body_range body) f (log_place + k) e ∙ ap (λ (j : ℕ). get_or body j 0) back

  log_kept : (c : Image) → ((k : ℕ) → k < length body → c (log_place + k) ≡ get_or body k 0) → log_in size c ≡ Some olds
  log_kept c known =
      let l = length-ranges olds in let t = total-old f news in let n = length-map news (old_range f) in
      let small = p.small in let few = p.few in let short = p.short in
      log_read size c olds (omega arith) (old_are_logged size f news p.small p.content) (omega arith) (omega arith)
      (λ k below. let e = ap (λ (b : List ℕ). length b) p.logs in known k (omega arith) ∙ ap (λ (b : List ℕ). get_or b k 0) p.logs)

  -- with the body whole and the gate open, f comes back whatever stands in the ranges
  comes_back : (c : Image) → ((k : ℕ) → k < length body → c (log_place + k) ≡ get_or body k 0) → c gate ≢ 0 → ((i : ℕ) → is_content i ≡ true → lies_in_some i news ≡ false → c i ≡ f i) → StandsFor size f c
  comes_back c known ajar same = stands_open size f c olds ajar (log_kept c known) (λ i content. rolled_old news f c i (same i content))

  in_log : (k : ℕ) → k < length body → (log_place ≤ log_place + k) × (log_place + k < log_end)
  in_log k below = let l = long in let few = p.few in let short = p.short in (omega arith, omega arith)

  news_off_log : (k : ℕ) → k < length body → lies_in_some (log_place + k) news ≡ false
  news_off_log k below = let w = in_log k below in ranges_off size news (log_place + k) p.content (log_is_no_content (log_place + k) w.0 w.1)

  off_gate_place : (k : ℕ) → log_place + k ≢ gate
  off_gate_place k e = absurd (omega arith)

  opened_log : (k : ℕ) → k < length body → log_opened body f (log_place + k) ≡ get_or body k 0
  opened_log k below = over_outside (gate_byte 1) (over (body_range body) f) (log_place + k) (in_gate 1 (log_place + k) (off_gate_place k)) ∙ body_there k below

  opened_content : (i : ℕ) → is_content i ≡ true → log_opened body f i ≡ f i
  opened_content i content = off_gate 1 (over (body_range body) f) i content ∙ over_outside (body_range body) f i (off_body i content)

  pub at_body : (c : Image) → Torn (body_range body ∷ []) f c → StandsFor size f c
  at_body c torn =
      let shut : c gate ≡ 0 = torn gate (ap (λ (x : Bool). cond x true false) gate_off_body) ∙ p.closed in
      stands_closed size f c shut (λ i content. torn i (ap (λ (x : Bool). cond x true false) (off_body i content)))

  pub at_gate : (c : Image) → Torn (gate_byte 1 ∷ []) (over (body_range body) f) c → StandsFor size f c
  at_gate c torn =
      let here : SameContent c f = λ i content. torn i (only_gate 1 i (content_off_gate i content)) ∙ over_outside (body_range body) f i (off_body i content) in
      elim (eqb_tells (c gate) 0) [
        | inl shut ↦ stands_closed size f c shut.1 here
        | inr ajar ↦ comes_back c (λ k below. torn (log_place + k) (only_gate 1 (log_place + k) (off_gate_place k)) ∙ body_there k below) ajar.1 (λ i content _. here i content)
      ]

  pub at_ranges : (c : Image) → Torn news (log_opened body f) c → StandsFor size f c
  at_ranges c torn =
      let one : c gate ≡ 1 = torn gate (ranges_off size news gate p.content gate_is_no_content) ∙ gate_at 1 (over (body_range body) f) in
      comes_back c (λ k below. torn (log_place + k) (news_off_log k below) ∙ opened_log k below) (λ e. absurd (omega arith)) (λ i content out. torn i out ∙ opened_content i content)

  pub at_close : (c : Image) → Torn (gate_byte 0 ∷ []) (all_over news (log_opened body f)) c → IsBeforeOrAfter size f news c
  at_close c torn =
      elim (eqb_tells (c gate) 0) [
        | inl shut ↦ inr (stands_closed size (all_over news f) c shut.1 (λ i content. torn i (only_gate 0 i (content_off_gate i content)) ∙ all_over_at news (log_opened body f) f i (opened_content i content)))
        | inr ajar ↦ inl (comes_back c
            (λ k below. torn (log_place + k) (only_gate 0 (log_place + k) (off_gate_place k)) ∙ (all_over_outside news (log_opened body f) (log_place + k) (news_off_log k below) ∙ opened_log k below))
            ajar.1
            (λ i content out. torn i (only_gate 0 i (content_off_gate i content)) ∙ (all_over_outside news (log_opened body f) i out ∙ opened_content i content)))
      ]

  -- after the whole commit
  pub after_close : SameContent (over (gate_byte 0) (all_over news (log_opened body f))) (all_over news f)
  after_close i content = off_gate 0 (all_over news (log_opened body f)) i content ∙ all_over_at news (log_opened body f) f i (opened_content i content)
