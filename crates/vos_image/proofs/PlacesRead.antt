-- The fixed places lead to the two roots, and to no other block.
use Rattle.std.proofs.Common.{◌≡◌, ℕ, zero, suc, ◌+◌, ◌≤◌, ◌==◌, Bool, true, false, List, [], ◌∷◌, ◌++◌, Result, Ok, Err, refl, sym, ap, ◌∙◌, subst, arith}
use Rattle.std.specs.Prelude.{if◌then◌else◌}
use Rattle.std.proofs.lemmas.List.{append-nil}
use Rattle.base_outside.specs.Images.{Image}
use Rattle.base_types.specs.declared.snapshot.Snap.{Snap}
use Rattle.daos_model.specs.declared.durable.ContRow.{ContRow}
use Rattle.pmem_pages.specs.Counts.{times_none}
use Rattle.pmem_pages.specs.Owners.{times}
use Rattle.vos_image.specs.Steps.{Step, ◌>>=◌, fail, give, is_among, onward, rule, zeros}
use Rattle.vos_image.specs.Content.{Content, is_taken, link}
use Rattle.vos_image.specs.Laws.{root_blocks}
use Rattle.vos_image.specs.Places.{Header, header_in, magic, read_bytes, read_cont, read_conts, read_header, read_map, read_places, read_snap, read_snaps}
use Rattle.vos_image.proofs.Reading.{IsLink, linked_by, link_told, read_is}
use Rattle.vos_image.proofs.Steps.{some_block}

-- what follows of what a step reads after some blocks, and the blocks led to then
pub record Ends {A : Type 0} (x : Step A) (led : List ℕ) (P : A → List ℕ → Type 0) : Type 0 where
  pub ended : (a : A) (after : List ℕ) → x led ≡ Ok (a, after) → P a after

on_ended : {A B : Type 0} (x : Step A) (f : A → Step B) (led : List ℕ) (P : A → List ℕ → Type 0) (Q : B → List ℕ → Type 0)
    → Ends x led P → ((a : A) (mid : List ℕ) → P a mid → Ends (f a) mid Q)
    → (b : B) (after : List ℕ) (y : Result (A × List ℕ) ℕ) → x led ≡ y → onward y f ≡ Ok (b, after) → Q b after
on_ended x f led P Q p r b after (Ok z) e h = (r z.0 z.1 (p.ended z.0 z.1 e)).ended b after h
on_ended x f led P Q p r b after (Err at) e h = absurd (let no : ⊥ = cc in no)

pub ends_on : {A B : Type 0} (x : Step A) (f : A → Step B) (led : List ℕ) (P : A → List ℕ → Type 0) (Q : B → List ℕ → Type 0) → Ends x led P → ((a : A) (mid : List ℕ) → P a mid → Ends (f a) mid Q) → Ends (x >>= f) led Q
unfolding ◌>>=◌
ends_on x f led P Q p r = record { ended = λ b after h. on_ended x f led P Q p r b after (x led) refl h }

pub ends_given : {A : Type 0} (a : A) (led : List ℕ) (P : A → List ℕ → Type 0) → P a led → Ends (give a) led P
ends_given a led P p = record { ended = λ b after h. let both = read_is (give a led) a b led after refl h in subst (λ z. P z after) both.0 (subst (P a) both.1 p) }

ends_none : {A : Type 0} (at : ℕ) (led : List ℕ) (P : A → List ℕ → Type 0) → Ends (fail at) led P
ends_none at led P = record { ended = λ b after h. absurd (let no : ⊥ = cc in no) }

-- ---- steps that lead to nothing

abbrev Quiet : {A : Type 0} → Step A → Type 0
Quiet {A = A} x = (led : List ℕ) → Ends x led (λ (_ : A) after. after ≡ led)

quiet_on : {A B : Type 0} (x : Step A) (f : A → Step B) → Quiet x → ((a : A) → Quiet (f a)) → Quiet (x >>= f)
quiet_on x f p r led = ends_on x f led _ _ (p led) (λ a mid is. subst (λ z. Ends (f a) z (λ _ after. after ≡ led)) (sym is) (r a led))

quiet_given : {A : Type 0} (a : A) → Quiet (give a)
quiet_given a led = ends_given a led _ refl

quiet_rule : (at : ℕ) (t : Bool) → Quiet (rule at t)
unfolding rule
quiet_rule at true led = ends_given tt led _ refl
quiet_rule at false led = ends_none at led _

quiet_ruled : {B : Type 0} (at : ℕ) (t : Bool) (f : Unit {0} → Step B) → Quiet (f tt) → Quiet (rule at t >>= f)
quiet_ruled at t f r = quiet_on (rule at t) f (quiet_rule at t) (λ _. r)

quiet_zeros : (at : ℕ) (bs : List ℕ) → Quiet (zeros at bs)
quiet_zeros at [] = quiet_given tt
quiet_zeros at (b ∷ bs) = quiet_ruled at (b == 0) (λ _. zeros (at + 1) bs) (quiet_zeros (at + 1) bs)

quiet_bytes : (f : Image) (at : ℕ) (bs : List ℕ) → Quiet (read_bytes f at bs)
quiet_bytes f at [] = quiet_given tt
quiet_bytes f at (b ∷ bs) = quiet_ruled at (f at == b) (λ _. read_bytes f (at + 1) bs) (quiet_bytes f (at + 1) bs)

quiet_cont : (c : Content) (p : ℕ) (rows : List ContRow) → Quiet (read_cont c p rows)
unfolding read_cont
quiet_cont c p rows =
    quiet_ruled _ _ _
    (quiet_ruled _ _ _
    (quiet_on _ _ (quiet_zeros _ _) (λ _.
    quiet_ruled _ _ _
    (quiet_ruled _ _ _
    (quiet_ruled _ _ _
    (quiet_ruled _ _ _
    (quiet_on _ _ (quiet_zeros _ _) (λ _.
    quiet_ruled _ _ _ (quiet_given _)))))))))

quiet_conts : (c : Content) (k p : ℕ) (rows : List ContRow) → Quiet (read_conts c k p rows)
quiet_conts c zero p rows = quiet_given rows
quiet_conts c (suc k) p rows = quiet_on (read_cont c p rows) _ (quiet_cont c p rows) (λ more. quiet_conts c k (p + 64) more)

quiet_snap : (c : Content) (rows : List ContRow) (p : ℕ) (snaps : List Snap) → Quiet (read_snap c rows p snaps)
unfolding read_snap
quiet_snap c rows p snaps = quiet_ruled _ _ _ (quiet_on _ _ (quiet_zeros _ _) (λ _. quiet_ruled _ _ _ (quiet_given _)))

quiet_snaps : (c : Content) (rows : List ContRow) (k p : ℕ) (snaps : List Snap) → Quiet (read_snaps c rows k p snaps)
quiet_snaps c rows zero p snaps = quiet_given snaps
quiet_snaps c rows (suc k) p snaps = quiet_on (read_snap c rows p snaps) _ (quiet_snap c rows p snaps) (λ more. quiet_snaps c rows k (p + 32) more)

quiet_map : (c : Content) (j k : ℕ) → Quiet (read_map c j k)
quiet_map c j zero = quiet_given tt
quiet_map c j (suc k) = quiet_ruled _ _ (λ _. read_map c (j + 1) k) (quiet_map c (j + 1) k)

ends_quiet : {A B : Type 0} (x : Step A) (f : A → Step B) (led : List ℕ) (Q : B → List ℕ → Type 0) → Quiet x → ((a : A) → Ends (f a) led Q) → Ends (x >>= f) led Q
ends_quiet x f led Q p r = ends_on x f led _ Q (p led) (λ a mid is. subst (λ z. Ends (f a) z Q) (sym is) (r a))

-- ---- links

-- what a link says, and the blocks that were led to then
record LinkRead (c : Content) (b : ℕ) (led after : List ℕ) : Type 0 where
  link : IsLink c b
  is : after ≡ some_block b ++ led
  apart : ((q : ℕ) → times q led ≤ 1) → (q : ℕ) → times q after ≤ 1

link_adds : (c : Content) (at b : ℕ) (led after : List ℕ) → link c at b led ≡ Ok (tt, after) → after ≡ some_block b ++ led
unfolding link
link_adds c at b led after h = by (b == 0) (is_taken c b) (is_among b led) h
  where
    by : (t k m : Bool) → linked_by at b led t k m ≡ Ok (tt, after) → after ≡ (if t then [] else b ∷ []) ++ led
    by true k m h = sym (read_is (Ok (tt, led)) tt tt led after refl h).1
    by false true false h = sym (read_is (Ok (tt, b ∷ led)) tt tt (b ∷ led) after refl h).1
    by false true true h = absurd (let no : ⊥ = cc in no)
    by false false m h = absurd (let no : ⊥ = cc in no)

ends_link : (c : Content) (at b : ℕ) (led : List ℕ) → Ends (link c at b) led (λ _ after. LinkRead c b led after)
ends_link c at b led = record {
  ended = λ u after h. let told = (link_told c at b).told u led after h in record { link = told.fact; is = link_adds c at b led after h; apart = told.apart };
}

-- the two roots were led to, each once
pub record RootsLed (c : Content) (h : Header) (after : List ℕ) : Type 0 where
  pub objects : IsLink c h.objects
  pub entries : IsLink c h.entries
  pub is : after ≡ root_blocks h
  pub apart : (q : ℕ) → times q after ≤ 1

header_ends : (target : ℕ) (c : Content) → Ends (read_header target c) [] (λ h after. RootsLed c h after)
unfolding read_header
header_ends target c =
    let h = header_in c.bytes in
    ends_quiet _ _ _ _ (quiet_bytes c.bytes 0 magic) (λ _.
    ends_quiet _ _ _ _ (quiet_rule _ _) (λ _.
    ends_quiet _ _ _ _ (quiet_rule _ _) (λ _.
    ends_quiet _ _ _ _ (quiet_zeros _ _) (λ _.
    ends_quiet _ _ _ _ (quiet_rule _ _) (λ _.
    ends_quiet _ _ _ _ (quiet_rule _ _) (λ _.
    ends_on _ _ _ _ _ (ends_link c 40 h.objects []) (λ _ one first.
    ends_on _ _ _ _ _ (ends_link c 44 h.entries one) (λ _ two next.
    ends_quiet _ _ _ _ (quiet_zeros _ _) (λ _.
    ends_given h two _ (record {
      objects = first.link;
      entries = next.link;
      is = next.is ∙ ap (λ z. some_block h.entries ++ z) (first.is ∙ append-nil (some_block h.objects));
      apart = next.apart (first.apart (λ q. omega (arith, times_none q)));
    }))))))))))

pub places_end : (target : ℕ) (c : Content) → Ends (read_places target c) [] (λ p after. RootsLed c p.header after)
unfolding read_places
places_end target c =
    ends_on _ _ _ _ _ (header_ends target c) (λ h led roots.
    ends_quiet _ _ _ _ (quiet_conts c 256 4096 []) (λ rows.
    ends_quiet _ _ _ _ (quiet_snaps c rows 256 20480 []) (λ snaps.
    ends_quiet _ _ _ _ (quiet_zeros _ _) (λ _.
    ends_quiet _ _ _ _ (quiet_zeros _ _) (λ _.
    ends_quiet _ _ _ _ (quiet_map c 0 16384) (λ _.
    ends_given (record { header = h; conts = rows; snaps = snaps }) led _ roots))))))
