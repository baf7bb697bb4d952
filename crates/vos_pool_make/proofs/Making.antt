-- What becomes of a region that is opened follows from what was found of it.
use Rattle.std.proofs.Common.{◌≡◌, ℕ, ◌≤◌, ◌<◌, ◌^◌, Bool, true, false, List, Result, Ok, Err, Option, Some, refl, sym, ap, ◌∙◌, subst, arith, inl, inr}
use Rattle.std.specs.Prelude.{◌⊎◌, IfErr, IfOk, IsTrue}
use Rattle.base_outside.specs.Images.{Image, NoMore, all_over}
use Rattle.daos_model.specs.declared.durable.Durable.{Durable}
use Rattle.daos_model.specs.BoolLaws.{clash}
use Rattle.daos_model.specs.Durables.{empty_durable}
use Rattle.pmem_undo.specs.Layout.{gate}
use Rattle.pmem_undo.specs.Settled.{StandsFor, settled}
use Rattle.pmem_undo.specs.Undo.{IsUndo, UndoState}
use Rattle.vos_check_base.specs.declared.refusal.CheckNo.{CheckNo}
use Rattle.vos_check_base.specs.declared.refusal.CheckNo.TheVariants as check
use Rattle.vos_check_region.specs.Blank.{IsBlank}
use Rattle.vos_commits.specs.Kept.{content_of, kept_in}
use Rattle.vos_fresh.specs.Fresh.{FreshHolds, FreshIsEmpty, FreshIsRead, IsFresh}
use Rattle.vos_pool_base.proofs.vos_standing.Committed.{closed_it_is_kept}
use Rattle.vos_pool_base.specs.Pool.{OpenedState, kept_by}
use Rattle.vos_pool_base.specs.vos_image.Kept.{Whole, durable_of, kept, kept_of, read_content}
use Rattle.vos_pool_base.specs.vos_image.Places.{Header}
use Rattle.vos_pool_base.specs.vos_places.Laws.{Keeps}
use Rattle.vos_pool_base.specs.vos_places.Tables.{Table, places_of}
use Rattle.vos_pool_base.specs.vos_standing.Standing.{Stand}
use Rattle.vos_pool_make.proofs.Formatting.{blank_stays, closed_stays, rest_stands}
use Rattle.vos_pool_make.specs.Attached.{IsFoundOf}
use Rattle.vos_pool_make.specs.Format.{IsFormatted, LeavesFormatted, fresh_ranges}
use Rattle.vos_pool_make.specs.Made.{IsFoundMade, IsFoundRefused, IsMade, IsRefused, LeavesUnopened, cause_of_check}
use Rattle.vos_pool_make.specs.declared.cause.OpenCause.{OpenCause}
use Rattle.vos_pool_make.specs.declared.cause.OpenCause.TheVariants as cause
use Rattle.vos_pool_open.specs.Kept.{IsKeptFrom}
use Rattle.vos_pool_open.specs.Looks.{IsBlankStill, IsSeen, IsSeenKept}
use Rattle.vos_pool_open.specs.declared.kept.Kept.{Kept as KeptRegion}
use Rattle.vos_pool_open.specs.declared.look.Looked.{Looked}
use Rattle.vos_pool_open.specs.declared.look.Looked.TheVariants.{Blank, Kept}
use Rattle.vos_pool_open.specs.vos_check_content.Region.{region_content}
use Rattle.vos_pool_open.specs.vos_check_content.Whole.{IsFaulty, IsWholeFound}
use Rattle.vos_pool_open.specs.vos_check_content.declared.content.ContentFound.{ContentFound}
use Rattle.vos_pool_open.specs.vos_check_places.Fixed.{table_of}

pub on_err : {A E : Type 0} (r : Result A E) (P Q : E → Type 0) → ((e : E) → r ≡ Err e → P e → Q e) → IfErr r P → IfErr r Q
on_err (Ok a) P Q f k = tt
on_err (Err e) P Q f k = f e refl k

pub on_ok : {A E : Type 0} (r : Result A E) (P S Q : A → Type 0) → ((a : A) → P a → S a → Q a) → IfOk r P → IfOk r S → IfOk r Q
on_ok (Ok a) P S Q f k l = f a k l
on_ok (Err e) P S Q f k l = tt

pub on_ok_then : {A E : Type 0} (r : Result A E) (P Q : A → Type 0) → ((a : A) → P a → Q a) → IfOk r P → IfOk r Q
on_ok_then (Ok a) P Q f k = f a k
on_ok_then (Err e) P Q f k = tt

-- ---- what is kept

kept_told : (tells : Bool) (target size : ℕ) (f : Image) (d : Durable) → IsTrue tells → kept_by tells target size f ≡ Some d → d ≡ kept_in (kept target size) size f
kept_told false target size f d told is = absurd (clash false told refl)
kept_told true target size f d told is = sym (inside is)
  where
    inside : {x y : Durable} → ◌≡◌ {A = Option Durable} (Some x) (Some y) → x ≡ y
    inside e = cc

-- rolled back once more, an image keeps the same
twice : (target size : ℕ) (f : Image) → settled size f gate ≡ 0 → kept_in (kept target size) size (settled size f) ≡ kept_in (kept target size) size f
unfolding kept_in
twice target size f closed = ap (λ (g : Image). kept target size (content_of g)) (closed_stays size (settled size f) closed)

-- the content of a formatted region keeps nothing, in the first incarnation
read_keeps : (target size : ℕ) (f : Image) (x : Whole) → read_content target size f ≡ Ok x → kept target size f ≡ durable_of x
unfolding kept
read_keeps target size f x is = ap kept_of is

fresh_keeps : FreshIsEmpty → (target targets size : ℕ) (g : Image) (x : ContentFound) (w : IsWholeFound target size (region_content size g) x) → Stand target size g (table_of x.fixed) w.stored → g gate ≡ 0 → size < 2 ^ 64
    → IsFresh size target targets (region_content size g) → kept_in (kept target size) size g ≡ empty_durable 1
fresh_keeps law target targets size g x w stand closed small fresh =
    closed_it_is_kept target size g (table_of x.fixed) w.stored closed stand
    ∙ (sym (read_keeps target size (region_content size g) _ w.read) ∙ law size target targets (region_content size g) small fresh)

-- and was made for so many targets
inside_ok : (x y : Header × List ℕ) → ◌≡◌ {A = Result (Header × List ℕ) ℕ} (Ok x) (Ok y) → x ≡ y
inside_ok x y e = cc

fresh_targets : FreshHolds → (target targets size : ℕ) (f : Image) (t : Table) → size < 2 ^ 64 → IsFresh size target targets f → Keeps target size f t → t.header.targets ≡ targets
fresh_targets law target targets size f t small fresh k =
    ap (λ (z : Header × List ℕ). z.0.targets) (inside_ok _ _ (sym k.header ∙ (law size target targets f small fresh).header))

no_error : {A : Type 0} (r : Result A ℕ) (x : A) (at : ℕ) → r ≡ Ok x → r ≡ Err at → ⊥
no_error {A = A} r x at ok err = let e : ◌≡◌ {A = Result A ℕ} (Ok x) (Err at) = sym ok ∙ err in cc

module _ {R : Type 0} (extent count burns : R → ℕ) (tells : Bool) (image : R → Image) (may_leave : R → Image → Type 0) (target targets : ℕ) where
  pub found_of : (u : UndoState R) (x : ContentFound) (size : ℕ) (f : Image) → extent u.region ≡ size → (IsTrue tells → image u.region ≡ f) → (IsTrue tells → IsWholeFound target size (region_content size f) x) → IsTrue tells → IsFoundOf extent image target u x
  found_of u x size f same is found told =
      subst (λ (n : ℕ). IsWholeFound target n (region_content n (image u.region)) x) (sym same)
      (subst (λ (g : Image). IsWholeFound target size (region_content size g) x) (sym (is told)) (found told))

  -- at rest an undo region leaves what is read
  rest_left : (u : UndoState R) (size : ℕ) (f : Image) → IsUndo (extent u.region) tells (image u.region) (may_leave u.region) u.staged u.stopped → u.stopped ≡ false → (IsTrue tells → image u.region ≡ f) → IsTrue tells → (c : Image) → may_leave u.region c → StandsFor size f c
  rest_left u size f holds going is told c may =
      subst (λ (g : Image). StandsFor size g c) (is told) (rest_stands size (image u.region) c (holds.rest told going).closed (λ i. (holds.rest told going).only c may i))

  pub seen_kept : (region : R) (l : Looked R) (k : KeptRegion R) → l ≡ Kept k → IsSeen tells extent count burns image may_leave target region l → IsSeenKept tells extent count burns image may_leave target region k.undo k.found
  seen_kept region l k is = subst (IsSeen tells extent count burns image may_leave target region) is

  pub seen_blank : (region : R) (l : Looked R) (b : R) → l ≡ Blank b → IsSeen tells extent count burns image may_leave target region l → IsBlankStill tells extent count burns image may_leave region b
  seen_blank region l b is = subst (IsSeen tells extent count burns image may_leave target region) is

  -- what becomes of a blank region that was looked at becomes of it as it was
  pub made_blank : (region back : R) → IsBlankStill tells extent count burns image may_leave region back → (p : OpenedState R) (rows : List _) → IsMade tells extent count burns image target targets back p rows → IsMade tells extent count burns image target targets region p rows
  made_blank region back still p rows m = record {
    size = m.size ∙ still.size;
    later_faults = (let a = m.later_faults in let b = still.later_faults in omega (arith, a, b));
    later_burns = (let a = m.later_burns in let b = still.later_burns in omega (arith, a, b));
    going = m.going;
    target_is = m.target_is;
    targets_are = m.targets_are;
    keeps = λ told d is. record { blank = λ _. (m.keeps told d is).blank (blank_back told); written = λ no. absurd (no (still.blank told)) };
    stands = m.stands;
    fresh = λ told _. subst (λ (n : ℕ). IsFresh n target targets (region_content n (image p.blocks.undo.region))) still.size (m.fresh told (blank_back told));
    rolled = λ told no. absurd (no (still.blank told));
  }
    where
      blank_back : IsTrue tells → IsBlank (extent back) (image back)
      blank_back told =
          subst (λ (n : ℕ). IsBlank n (image back)) (sym still.size) (subst (λ (f : Image). IsBlank (extent region) f) (sym (still.same told)) (still.blank told))

  module _ (region : R) (u : UndoState R) (x : ContentFound) (seen : IsSeenKept tells extent count burns image may_leave target region u x) where
    closed_then : IsTrue tells → settled (extent region) (image region) gate ≡ 0
    closed_then told = subst (λ (g : Image). g gate ≡ 0) (seen.rolled told) (seen.holds.rest told seen.kept.going).closed

    found_here : IsTrue tells → IsFoundOf extent image target u x
    found_here = found_of u x (extent region) (settled (extent region) (image region)) seen.kept.size seen.rolled seen.found

    pub made_of : (p : OpenedState R) (rows : List _) → IsFoundMade tells extent count burns image may_leave target targets u x p → rows ≡ x.entries.items → IsMade tells extent count burns image target targets region p rows
    made_of p rows m same = record {
      size = m.attached.size ∙ seen.kept.size;
      later_faults = (let a = m.attached.later_faults in let b = seen.kept.later_faults in omega (arith, a, b));
      later_burns = (let a = m.attached.later_burns in let b = seen.kept.later_burns in omega (arith, a, b));
      going = m.attached.going;
      target_is = m.attached.target_is;
      targets_are = ap (λ (t : Table). t.header.targets) m.attached.table ∙ m.targets_are;
      keeps = λ told d is. record {
        blank = λ b. absurd (seen.unblank told b);
        written = λ _.
            kept_told tells target (extent u.region) (image u.region) d told (sym m.attached.kept ∙ is)
            ∙ (ap (λ (n : ℕ). kept_in (kept target n) n (image u.region)) seen.kept.size
            ∙ (ap (λ (g : Image). kept_in (kept target (extent region)) (extent region) g) (seen.rolled told) ∙ twice target (extent region) (image region) (closed_then told)));
      };
      stands = λ told. let w = found_here told in record { stored = w.stored; stands = m.attached.stands told w; entries = same ∙ w.entries };
      fresh = λ told b. absurd (seen.unblank told b);
      rolled = λ told no. m.attached.read told ∙ seen.rolled told;
    }

    pub refused_of : (why : OpenCause) → IsFoundRefused targets x why → IsTrue tells → IsRefused target targets (extent region) (image region) why
    refused_of cause.Stopped k told = tt
    refused_of cause.Memory k told = tt
    refused_of (cause.Foreign at byte) k told = absurd k
    refused_of (cause.Shape found asked) k told =
        let w = seen.found told in
        (seen.unblank told, (record { whole = record { places = places_of (table_of x.fixed); stored = w.stored }; read = w.read; targets = sym k.0 }, k.1))

    pub left_of : (back : R) → (IsTrue tells → NoMore (may_leave u.region) (may_leave back)) → IsTrue tells → LeavesUnopened extent image may_leave target targets region back
    left_of back less told c may = inr (inl (rest_left u (extent region) (settled (extent region) (image region)) seen.holds seen.kept.going seen.rolled told c (less told c may)))

  -- ---- a region that was formatted

  module _ (region : R) (big : 323584 ≤ extent region) (small : extent region < 2 ^ 32) (blank : IsTrue tells → IsBlank (extent region) (image region)) where
    pub unformatted : (back : R) → (IsTrue tells → LeavesFormatted extent image may_leave target targets region back) → IsTrue tells → LeavesUnopened extent image may_leave target targets region back
    unformatted back left told c may = elim (left told c may) [
      | inl before ↦ inl before
      | inr (inl zeros) ↦ inr (inl (subst (λ (f : Image). StandsFor (extent region) f c) (sym (blank_stays (extent region) (image region) big (blank told))) zeros))
      | inr (inr fresh) ↦ inr (inr (blank told, fresh))
    ]

    module _ (fm : R) (formatted : IsFormatted tells extent count burns image may_leave target targets region fm) where
      held_then : IsTrue tells → settled (extent fm) (image fm) ≡ image fm
      held_then told = closed_stays (extent fm) (image fm) (formatted.rest told).closed

      size_64 : extent fm < 2 ^ 64
      size_64 = let s = formatted.size in omega (arith, s, small)

      fresh_then : IsTrue tells → IsFresh (extent fm) target targets (region_content (extent fm) (settled (extent fm) (image fm)))
      fresh_then told =
          subst (λ (f : Image). IsFresh (extent fm) target targets (region_content (extent fm) f)) (sym (held_then told))
          (subst (λ (n : ℕ). IsFresh n target targets (region_content n (image fm))) (sym formatted.size) (formatted.fresh told))

      -- what stands for it stands for zeros with both ranges over them
      stands_fresh : IsTrue tells → (c : Image) → StandsFor (extent fm) (image fm) c → may_leave region c ⊎ (StandsFor (extent region) (settled (extent region) (image region)) c
          ⊎ (IsBlank (extent region) (image region) × StandsFor (extent region) (all_over (fresh_ranges (extent region) target targets) (image region)) c))
      stands_fresh told c stands =
          let s : StandsFor (extent region) (image fm) c = subst (λ (n : ℕ). StandsFor n (image fm) c) formatted.size stands in
          inr (inr (blank told, record { attachable = s.attachable; content = λ i is. s.content i is ∙ formatted.content told i is }))

      still_left : IsTrue tells → (c : Image) → may_leave fm c → StandsFor (extent fm) (image fm) c
      still_left told c may = rest_stands (extent fm) (image fm) c (formatted.rest told).closed (λ i. (formatted.rest told).only c may i)

      pub unchecked_left : (back : R) → (IsTrue tells → (c : Image) → may_leave back c → may_leave fm c ⊎ StandsFor (extent fm) (settled (extent fm) (image fm)) c) → IsTrue tells → LeavesUnopened extent image may_leave target targets region back
      unchecked_left back left told c may = elim (left told c may) [
        | inl before ↦ stands_fresh told c (still_left told c before)
        | inr stands ↦ stands_fresh told c (subst (λ (f : Image). StandsFor (extent fm) f c) (held_then told) stands)
      ]

      -- it isn't refused for a byte
      pub unchecked : FreshIsRead → (why : CheckNo) → (IsTrue tells → IsFaulty target (extent fm) (region_content (extent fm) (settled (extent fm) (image fm))) why) → IsTrue tells → IsRefused target targets (extent region) (image region) (cause_of_check why)
      unchecked law check.Stopped faulty told = tt
      unchecked law check.Memory faulty told = tt
      unchecked law (check.Foreign at byte) faulty told =
          absurd (no_error (read_content target (extent fm) (region_content (extent fm) (settled (extent fm) (image fm)))) _ at (law (extent fm) target targets _ size_64 (fresh_then told)) (faulty told).0)

      module _ (u : UndoState R) (x : ContentFound) (kept_from : IsKeptFrom extent count burns fm u) (holds : IsUndo (extent u.region) tells (image u.region) (may_leave u.region) u.staged u.stopped)
          (rolled : IsTrue tells → image u.region ≡ settled (extent fm) (image fm)) (found : IsTrue tells → IsWholeFound target (extent fm) (region_content (extent fm) (settled (extent fm) (image fm))) x) where
        pub found_fresh : IsTrue tells → IsFoundOf extent image target u x
        found_fresh = found_of u x (extent fm) (settled (extent fm) (image fm)) kept_from.size rolled found

        pub refused_never : FreshHolds → (why : OpenCause) → IsFoundRefused targets x why → IsTrue tells → IsRefused target targets (extent region) (image region) why
        refused_never law cause.Stopped k told = tt
        refused_never law cause.Memory k told = tt
        refused_never law (cause.Foreign at byte) k told = absurd k
        refused_never law (cause.Shape found_targets asked) k told =
            absurd (k.1.1 (k.0 ∙ fresh_targets law target targets (extent fm) _ (table_of x.fixed) size_64 (fresh_then told) (found told).table))

        pub left_fresh : (back : R) → (IsTrue tells → NoMore (may_leave u.region) (may_leave back)) → IsTrue tells → LeavesUnopened extent image may_leave target targets region back
        left_fresh back less told c may =
            stands_fresh told c (rest_left u (extent fm) (image fm) holds kept_from.going (λ t. rolled t ∙ held_then t) told c (less told c may))

        pub made_fresh : FreshIsEmpty → (p : OpenedState R) (rows : List _) → IsFoundMade tells extent count burns image may_leave target targets u x p → rows ≡ x.entries.items → IsMade tells extent count burns image target targets region p rows
        made_fresh law p rows m same = record {
          size = m.attached.size ∙ (kept_from.size ∙ formatted.size);
          later_faults = (let a = m.attached.later_faults in let b = kept_from.later_faults in let d = formatted.later_faults in omega (arith, a, b, d));
          later_burns = (let a = m.attached.later_burns in let b = kept_from.later_burns in let d = formatted.later_burns in omega (arith, a, b, d));
          going = m.attached.going;
          target_is = m.attached.target_is;
          targets_are = ap (λ (t : Table). t.header.targets) m.attached.table ∙ m.targets_are;
          keeps = λ told d is. record {
            blank = λ _.
                kept_told tells target (extent u.region) (image u.region) d told (sym m.attached.kept ∙ is) ∙ keeps_nothing told;
            written = λ no. absurd (no (blank told));
          };
          stands = λ told. let w = found_fresh told in record { stored = w.stored; stands = m.attached.stands told w; entries = same ∙ w.entries };
          fresh = λ told b.
              subst (λ (n : ℕ). IsFresh n target targets (region_content n (image p.blocks.undo.region))) formatted.size
              (subst (λ (f : Image). IsFresh (extent fm) target targets (region_content (extent fm) f)) (sym (m.attached.read told ∙ rolled told)) (fresh_then told));
          rolled = λ told no. absurd (no (blank told));
        }
          where
            keeps_nothing : IsTrue tells → kept_in (kept target (extent u.region)) (extent u.region) (image u.region) ≡ empty_durable 1
            keeps_nothing told =
                let w = found_fresh told in
                let stand : Stand target (extent u.region) (image u.region) (table_of x.fixed) w.stored =
                subst (λ (t : Table). Stand target (extent u.region) (image u.region) t w.stored) m.attached.table
                (subst (λ (f : Image). Stand target (extent u.region) f p.table w.stored) (m.attached.read told)
                (subst (λ (n : ℕ). Stand target n (image p.blocks.undo.region) p.table w.stored) m.attached.size (m.attached.stands told w))) in
                let fresh : IsFresh (extent u.region) target targets (region_content (extent u.region) (image u.region)) =
                subst (λ (n : ℕ). IsFresh n target targets (region_content n (image u.region))) (sym kept_from.size)
                (subst (λ (f : Image). IsFresh (extent fm) target targets (region_content (extent fm) f)) (sym (rolled told)) (fresh_then told)) in
                let low : extent u.region < 2 ^ 64 = let s = kept_from.size in let n = size_64 in omega (arith, s, n) in
                fresh_keeps law target targets (extent u.region) (image u.region) x w stand (holds.rest told kept_from.going).closed low fresh
