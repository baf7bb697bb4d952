-- Rows below an attempt, one more in order.
use Rattle.std.proofs.Common.{◌≡◌, ℕ, ◌+◌, ◌*◌, ◌<◌, ◌≤◌, Bool, true, false, cond, leb, List, [], ◌∷◌, ◌++◌, map, refl, sym, ap, ◌∙◌, append_assoc, arith}
use Rattle.std.specs.List.{AllByRecursion}
use Rattle.std.proofs.lemmas.Bool.Decides.{nat_tests}
use Rattle.std.proofs.lemmas.List.{map-append}
use Rattle.base_types.specs.declared.answer.Answer.{Answer}
use Rattle.report_writer.specs.Reports.{cond_row, got_row, conds_until, conds_after, detail_rows}

abbrev pub Below : ℕ → ℕ × Bool → Type 0
Below n c = c.0 * 2 < n

abbrev pub GotBelow : ℕ → ℕ × Answer → Type 0
GotBelow n g = g.0 * 2 + 1 < n

not_upto : (a b : ℕ) → b < a → leb a b ≡ false
not_upto a b lt = grind (arith, nat_tests)

upto : (a b : ℕ) → a ≤ b → leb a b ≡ true
upto a b le = grind (arith, nat_tests)

-- a condition of a later operation stands behind
until-later : (op : ℕ) (cs : List (ℕ × Bool)) (c : ℕ × Bool) → op < c.0 → conds_until op (cs ++ c ∷ []) ≡ conds_until op cs
until-later op [] c lt = ap (λ b. cond b (c ∷ []) []) (not_upto c.0 op lt)
until-later op (d ∷ cs) c lt = go (leb d.0 op) (until-later op cs c lt)
  where
    go : (b : Bool) → conds_until op (cs ++ c ∷ []) ≡ conds_until op cs → cond b (d ∷ conds_until op (cs ++ c ∷ [])) [] ≡ cond b (d ∷ conds_until op cs) []
    go true ih = ap (λ t. d ∷ t) ih
    go false ih = refl

after-later : (op : ℕ) (cs : List (ℕ × Bool)) (c : ℕ × Bool) → op < c.0 → conds_after op (cs ++ c ∷ []) ≡ conds_after op cs ++ c ∷ []
after-later op [] c lt = ap (λ b. cond b [] (c ∷ [])) (not_upto c.0 op lt)
after-later op (d ∷ cs) c lt = go (leb d.0 op) (after-later op cs c lt)
  where
    go : (b : Bool) → conds_after op (cs ++ c ∷ []) ≡ conds_after op cs ++ c ∷ [] → cond b (conds_after op (cs ++ c ∷ [])) (d ∷ cs ++ c ∷ []) ≡ cond b (conds_after op cs) (d ∷ cs) ++ c ∷ []
    go true ih = ih
    go false ih = refl

pub details-cond : (cs : List (ℕ × Bool)) (gs : List (ℕ × Answer)) (c : ℕ × Bool) → AllByRecursion (GotBelow (c.0 * 2 + 1)) gs
    → detail_rows (cs ++ c ∷ []) gs ≡ detail_rows cs gs ++ cond_row c ∷ []
details-cond cs [] c h = map-append cond_row cs (c ∷ [])
details-cond cs (g ∷ gs) c h =
    let lt : g.0 < c.0 = omega (arith, h.0) in
    ap (λ t. map cond_row t ++ got_row g ∷ detail_rows (conds_after g.0 (cs ++ c ∷ [])) gs) (until-later g.0 cs c lt)
    ∙ ap (λ t. map cond_row (conds_until g.0 cs) ++ got_row g ∷ detail_rows t gs) (after-later g.0 cs c lt)
    ∙ ap (λ t. map cond_row (conds_until g.0 cs) ++ got_row g ∷ t) (details-cond (conds_after g.0 cs) gs c h.1)
    ∙ sym (append_assoc (map cond_row (conds_until g.0 cs)) (got_row g ∷ detail_rows (conds_after g.0 cs) gs) (cond_row c ∷ []))

until-all : (op : ℕ) (cs : List (ℕ × Bool)) → AllByRecursion (Below (op * 2 + 1)) cs → conds_until op cs ≡ cs
until-all op [] h = refl
until-all op (c ∷ cs) h =
    let le : c.0 ≤ op = omega (arith, h.0) in
    ap (λ b. cond b (c ∷ conds_until op cs) []) (upto c.0 op le) ∙ ap (λ t. c ∷ t) (until-all op cs h.1)

after-all : (op : ℕ) (cs : List (ℕ × Bool)) → AllByRecursion (Below (op * 2 + 1)) cs → conds_after op cs ≡ []
after-all op [] h = refl
after-all op (c ∷ cs) h =
    let le : c.0 ≤ op = omega (arith, h.0) in
    ap (λ b. cond b (conds_after op cs) (c ∷ cs)) (upto c.0 op le) ∙ after-all op cs h.1

after-kept : (P : ℕ × Bool → Type 0) (op : ℕ) (cs : List (ℕ × Bool)) → AllByRecursion P cs → AllByRecursion P (conds_after op cs)
after-kept P op [] h = tt
after-kept P op (c ∷ cs) h = go (leb c.0 op) (after-kept P op cs h.1)
  where
    go : (b : Bool) → AllByRecursion P (conds_after op cs) → AllByRecursion P (cond b (conds_after op cs) (c ∷ cs))
    go true ih = ih
    go false ih = h

pub details-got : (cs : List (ℕ × Bool)) (gs : List (ℕ × Answer)) (g : ℕ × Answer) → AllByRecursion (Below (g.0 * 2 + 1)) cs
    → detail_rows cs (gs ++ g ∷ []) ≡ detail_rows cs gs ++ got_row g ∷ []
details-got cs [] g h =
    ap (λ t. map cond_row t ++ got_row g ∷ map cond_row (conds_after g.0 cs)) (until-all g.0 cs h)
    ∙ ap (λ t. map cond_row cs ++ got_row g ∷ map cond_row t) (after-all g.0 cs h)
details-got cs (k ∷ gs) g h =
    ap (λ t. map cond_row (conds_until k.0 cs) ++ got_row k ∷ t) (details-got (conds_after k.0 cs) gs g (after-kept (Below (g.0 * 2 + 1)) k.0 cs h))
    ∙ sym (append_assoc (map cond_row (conds_until k.0 cs)) (got_row k ∷ detail_rows (conds_after k.0 cs) gs) (got_row g ∷ []))

-- all below a number are below a greater one, and so is one more
module _ {A : Type 0} (place : A → ℕ) where
  pub all-below : (m n : ℕ) (xs : List A) → m ≤ n → AllByRecursion (λ x. place x < m) xs → AllByRecursion (λ x. place x < n) xs
  all-below m n [] le h = tt
  all-below m n (x ∷ xs) le h = (omega (arith, h.0), all-below m n xs le h.1)

  pub all-push : (n : ℕ) (xs : List A) (y : A) → AllByRecursion (λ x. place x < n) xs → place y < n → AllByRecursion (λ x. place x < n) (xs ++ y ∷ [])
  all-push n [] y h lt = (lt, tt)
  all-push n (x ∷ xs) y h lt = (h.0, all-push n xs y h.1 lt)
