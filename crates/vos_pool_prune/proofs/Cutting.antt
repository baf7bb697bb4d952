-- Versions of which some go, the updates before the punches, are a part of what a prune or a discard leaves.
use Rattle.std.proofs.Common.{◌≡◌, ◌≤◌, ◌&&◌, ◌||◌, Bool, true, false, not, List, [], ◌∷◌, ◌++◌, append-nil, get_or, length, refl, sym, ap, ◌∙◌, subst}
use Rattle.std.specs.Prelude.{All, filter}
use Rattle.std.specs.List.{list_any}
use Rattle.std.proofs.lemmas.List.Elements.{All-cons, All-filter, All-head, All-nil, All-tail, All-weaker, filter_passes}
use Rattle.daos_model.specs.BoolLaws.{and_left, and_right, clash, false_of, not_false, not_true, or_from_right}
use Rattle.daos_model.specs.declared.durable.Version.{Version}
use Rattle.daos_model.specs.Prunes.{Partly, is_punch}
use Rattle.vos_pool_settle.proofs.Named.{of_those_left}
use Rattle.vos_pool_settle.proofs.vos_keeping.Lists.{same_filter}
use Rattle.vos_pool_prune.specs.Order.{is_of, those_of}
use Rattle.vos_pool_prune.proofs.Lists.{each_counted, from_two, front_of, one_passes}

either : {P : Type 0} (a b : Bool) → (a ≡ true → P) → (b ≡ true → P) → (a || b) ≡ true → P
either true b f g h = f refl
either false b f g h = g h

is_kind : (b : Bool) (v : Version) → is_of b v ≡ true → is_punch v.write ≡ b
is_kind true v h = h
is_kind false v h = not_true (is_punch v.write) h

has_kind : (b : Bool) (v : Version) → is_punch v.write ≡ b → is_of b v ≡ true
has_kind true v h = h
has_kind false v h = ap not h

-- what goes with one that is done: whatever has its name
module _ (goes : Version → Version → Bool) (own : (v : Version) → v.done ≡ true → goes v v ≡ true) (alike : (u w : Version) → goes u w ≡ true → is_punch w.write ≡ is_punch u.write) where
  -- it goes with one of some
  abbrev pub goes_any : List Version → Version → Bool
  goes_any us w = list_any (λ u. goes u w) us

  any_own : (us : List Version) → All (λ v. v.done ≡ true) us → All (λ v. goes_any us v ≡ true) us
  any_own [] done = All-nil (λ v. goes_any [] v ≡ true)
  any_own (u ∷ us) done =
      let rest = any_own us (All-tail (λ v. v.done ≡ true) u us done) in
      All-cons (λ v. goes_any (u ∷ us) v ≡ true) u us (ap (λ (b : Bool). b || goes_any us u) (own u (All-head (λ v. v.done ≡ true) u us done))) (λ k d low. or_from_right (goes u _) (goes_any us _) (rest k d low))

  any_kind : (b : Bool) (us : List Version) → All (λ u. is_punch u.write ≡ b) us → (w : Version) → goes_any us w ≡ true → is_punch w.write ≡ b
  any_kind b [] all w h = absurd (cc)
  any_kind b (u ∷ us) all w h =
      either (goes u w) (goes_any us w) (λ first. alike u w first ∙ All-head (λ u. is_punch u.write ≡ b) u us all) (any_kind b us (All-tail (λ u. is_punch u.write ≡ b) u us all) w) h

  any_going : (going : Version → Bool) (vs us : List Version) → All (λ u. All (λ w. goes u w ≡ true → going w ≡ true) vs) us → All (λ w. goes_any us w ≡ true → going w ≡ true) vs
  any_going going vs [] all = λ k d low h. absurd (cc)
  any_going going vs (u ∷ us) all =
      let first = All-head (λ u. All (λ w. goes u w ≡ true → going w ≡ true) vs) u us all in
      let rest = any_going going vs us (All-tail (λ u. All (λ w. goes u w ≡ true → going w ≡ true) vs) u us all) in
      λ k d low h. either (goes u _) (goes_any us _) (first k d low) (rest k d low) h

  -- versions of which some are to go, each of them done, and with each nothing else that stays
  module _ (going : Version → Bool) (vs us : List Version) (all : us ≡ filter going vs) (done : All (λ v. v.done ≡ true) us) (single : All (λ u. length (filter (goes u) vs) ≤ 1) us) where
    each_going : All (λ u. All (λ w. goes u w ≡ true → going w ≡ true) vs) us
    each_going =
        let counted = each_counted goes us (All-weaker (λ v. v.done ≡ true) (λ v. goes v v ≡ true) own us done) in
        from_two (λ u. length (filter (goes u) vs) ≤ 1) (λ u. 1 ≤ length (filter (goes u) us)) (λ u. All (λ w. goes u w ≡ true → going w ≡ true) vs)
        (λ u few some. one_passes (goes u) going vs few (subst (λ (z : List Version). 1 ≤ length (filter (goes u) z)) all some)) us single counted

    each_is : (b : Bool) → All (λ v. v.done ≡ true) (those_of b us)
    each_is b = All-filter (is_of b) (λ v. v.done ≡ true) us done

    each_kind : (b : Bool) → All (λ u. is_punch u.write ≡ b) (those_of b us)
    each_kind b = All-weaker (λ u. is_of b u ≡ true) (λ u. is_punch u.write ≡ b) (is_kind b) (those_of b us) (filter_passes (is_of b) us)

    kind_going : (b : Bool) → All (λ u. All (λ w. goes u w ≡ true → going w ≡ true) vs) (those_of b us)
    kind_going b = All-filter (is_of b) (λ u. All (λ w. goes u w ≡ true → going w ≡ true) vs) us each_going

    -- what goes with a part of those of one kind is to go, and of that kind
    module _ (b : Bool) (gone rest : List Version) (part : those_of b us ≡ gone ++ rest) where
      part_going : All (λ w. goes_any gone w ≡ true → going w ≡ true) vs
      part_going = any_going going vs gone (front_of (λ u. All (λ w. goes u w ≡ true → going w ≡ true) vs) gone rest (subst (All (λ u. All (λ w. goes u w ≡ true → going w ≡ true) vs)) part (kind_going b)))

      part_kind : (w : Version) → goes_any gone w ≡ true → is_punch w.write ≡ b
      part_kind = any_kind b gone (front_of (λ u. is_punch u.write ≡ b) gone rest (subst (All (λ u. is_punch u.write ≡ b)) part (each_kind b)))

    -- and all of them go
    all_of_kind : (b : Bool) → All (λ v. going v ≡ true → is_punch v.write ≡ b → goes_any (those_of b us) v ≡ true) vs
    all_of_kind b =
        let named = any_own (those_of b us) (each_is b) in
        let inner = of_those_left (λ v. goes_any (those_of b us) v ≡ true) (is_of b) us named in
        let outer = of_those_left (λ v. is_of b v ≡ true → goes_any (those_of b us) v ≡ true) going vs (subst (All (λ v. is_of b v ≡ true → goes_any (those_of b us) v ≡ true)) all inner) in
        All-weaker (λ v. going v ≡ true → is_of b v ≡ true → goes_any (those_of b us) v ≡ true) (λ v. going v ≡ true → is_punch v.write ≡ b → goes_any (those_of b us) v ≡ true) (λ v go yes kind. go yes (has_kind b v kind)) vs outer

    -- some of the updates are gone
    module _ (gone rest : List Version) (part : those_of false us ≡ gone ++ rest) where
      abbrev stays : Version → Bool
      stays v = not (going v && (not (is_punch v.write) && goes_any gone v))

      one_stays : (v : Version) → (goes_any gone v ≡ true → going v ≡ true) → not (goes_any gone v) ≡ stays v
      one_stays v to = by (goes_any gone v) refl
        where
          by : (a : Bool) → goes_any gone v ≡ a → not (goes_any gone v) ≡ stays v
          by true e = let yes = to e in let no = part_kind false gone rest part v e in rw (e, yes, no) refl
          by false e = rw e (by_two (going v) (not (is_punch v.write)))
            where
              by_two : (g p : Bool) → true ≡ not (g && (p && false))
              by_two true true = refl
              by_two true false = refl
              by_two false p = refl

      pub updates_cut : Partly vs going (filter (λ v. not (goes_any gone v)) vs)
      updates_cut = record {
        stays = stays;
        left = same_filter (λ v. not (goes_any gone v)) stays vs (All-weaker (λ w. goes_any gone w ≡ true → going w ≡ true) (λ v. not (goes_any gone v) ≡ stays v) one_stays vs (part_going false gone rest part));
        planned = λ v out. and_left (going v) (not (is_punch v.write) && goes_any gone v) (not_false _ out);
        punches = λ p u out punch update older under yes.
            clash (is_punch p.write) punch (not_true (is_punch p.write) (and_left (not (is_punch p.write)) (goes_any gone p) (and_right (going p) (not (is_punch p.write) && goes_any gone p) (not_false _ out))));
      }

    -- all updates are gone, and some of the punches
    module _ (gone rest : List Version) (part : those_of true us ≡ gone ++ rest) where
      abbrev both_stay : Version → Bool
      both_stay v = not (going v && (not (is_punch v.write) || goes_any gone v))

      one_left : (v : Version) → (goes_any (those_of false us) v ≡ true → going v ≡ true) → (goes_any gone v ≡ true → going v ≡ true) → (going v ≡ true → is_punch v.write ≡ false → goes_any (those_of false us) v ≡ true)
          → not (goes_any (those_of false us) v || goes_any gone v) ≡ both_stay v
      one_left v to then_to all_go = by (goes_any (those_of false us) v) (goes_any gone v) refl refl
        where
          by : (a b : Bool) → goes_any (those_of false us) v ≡ a → goes_any gone v ≡ b → not (goes_any (those_of false us) v || goes_any gone v) ≡ both_stay v
          by true b e f = let yes = to e in let no = part_kind false (those_of false us) [] (sym (append-nil (those_of false us))) v e in rw (e, yes, no) refl
          by false true e f = let yes = then_to f in let kind = part_kind true gone rest part v f in rw (e, f, yes, kind) refl
          by false false e f = by_two (going v) (is_punch v.write) refl refl
            where
              by_two : (g p : Bool) → going v ≡ g → is_punch v.write ≡ p → not (goes_any (those_of false us) v || goes_any gone v) ≡ both_stay v
              by_two true true so kind = rw (e, f, so, kind) refl
              by_two true false so kind = clash (goes_any (those_of false us) v) (all_go so kind) e
              by_two false p so kind = rw (e, f, so) refl

      pub punches_cut : Partly vs going (filter (λ v. not (goes_any (those_of false us) v || goes_any gone v)) vs)
      punches_cut = record {
        stays = both_stay;
        left = same_filter (λ v. not (goes_any (those_of false us) v || goes_any gone v)) both_stay vs (λ k d low. one_left (get_or vs k d) (part_going false (those_of false us) [] (sym (append-nil (those_of false us))) k d low) (part_going true gone rest part k d low) (all_of_kind false k d low));
        planned = λ v out. and_left (going v) (not (is_punch v.write) || goes_any gone v) (not_false _ out);
        punches = λ p u out punch update older under yes. rw (yes, update) refl;
      }

    -- all are gone
    pub all_cut : filter (λ v. not (goes_any (those_of false us) v || goes_any (those_of true us) v)) vs ≡ filter (λ v. not (going v)) vs
    all_cut =
        same_filter (λ v. not (goes_any (those_of false us) v || goes_any (those_of true us) v)) (λ v. not (going v)) vs
        (λ k d low. ap not (one (get_or vs k d) (is_punch (get_or vs k d).write) refl (part_going false (those_of false us) [] (sym (append-nil (those_of false us))) k d low) (part_going true (those_of true us) [] (sym (append-nil (those_of true us))) k d low) (all_of_kind false k d low) (all_of_kind true k d low)))
      where
        one : (v : Version) (b : Bool) → is_punch v.write ≡ b → (goes_any (those_of false us) v ≡ true → going v ≡ true) → (goes_any (those_of true us) v ≡ true → going v ≡ true) → (going v ≡ true → is_punch v.write ≡ false → goes_any (those_of false us) v ≡ true) → (going v ≡ true → is_punch v.write ≡ true → goes_any (those_of true us) v ≡ true)
            → (goes_any (those_of false us) v || goes_any (those_of true us) v) ≡ going v
        one v b kind to then_to all_go all_then = by (going v) refl
          where
            by : (g : Bool) → going v ≡ g → (goes_any (those_of false us) v || goes_any (those_of true us) v) ≡ going v
            by true so = by_kind b kind
              where
                by_kind : (b : Bool) → is_punch v.write ≡ b → (goes_any (those_of false us) v || goes_any (those_of true us) v) ≡ going v
                by_kind true kind = or_from_right _ _ (all_then so kind) ∙ sym so
                by_kind false kind = ap (λ (b : Bool). b || goes_any (those_of true us) v) (all_go so kind) ∙ sym so
            by false out = false_of _ (λ any. either _ _ (λ h. clash (going v) (to h) out) (λ h. clash (going v) (then_to h) out) any) ∙ sym out
