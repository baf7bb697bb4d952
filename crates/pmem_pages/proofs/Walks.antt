-- A walk over the entries, up by next_after or down by last_below.
use Rattle.std.proofs.Common.{◌≡◌, List, [], ◌∷◌, ◌++◌, Some, None, refl, sym, ap, ◌∙◌, subst}
use Rattle.std.specs.declared.cmp.Ordering.TheVariants.{Less, Equal, Greater}
use Rattle.std.specs.Ordering.{ordering_reverse}
use Rattle.std.proofs.lemmas.Cmp.{tied_itself}
use Rattle.pmem_pages.specs.declared.node.TreeKey.{TreeKey}
use Rattle.pmem_pages.specs.Node.{key_cmp}
use Rattle.pmem_pages.specs.Shape.{Entry, AllAbove, Rises, first_above, last_under, or_this, chosen}
use Rattle.pmem_pages.specs.Parts.{above, under}
use Rattle.pmem_pages.proofs.Lists.{key_total, AllAbove-lower}

-- what is above a lower key is above
above_all : (k : TreeKey) (es : List Entry) → AllAbove k es → above k es ≡ es
above_all k [] a = refl
above_all k (e ∷ es) a = rw a.0 (ap (λ l. e ∷ l) (above_all k es a.1))

under_all : (k : TreeKey) (es : List Entry) → AllAbove k es → under k es ≡ []
under_all k [] a = refl
under_all k (e ∷ es) a = rw a.0 (under_all k es a.1)

same_key : (k : TreeKey) → key_cmp k k ≡ Equal
same_key k = tied_itself key_total k

flipped : (a b : TreeKey) → key_cmp a b ≡ Less → key_cmp b a ≡ Greater
flipped a b h = key_total.antisymm b a ∙ ap ordering_reverse h

above_alike : (j k : TreeKey) (es : List Entry) → key_cmp j k ≡ Equal → AllAbove k es → AllAbove j es
above_alike j k [] h a = tt
above_alike j k (e ∷ es) h a = (key_total.congr j k e.key h ∙ a.0, above_alike j k es h a.1)

last_in : (j k : TreeKey) (e : Entry) (es : List Entry) → AllAbove j es → last_under k es ≡ Some e → key_cmp j e.key ≡ Less
last_in j k e [] a h = absurd (cc)
last_in j k e (f ∷ es) a h =
    elim (key_cmp k f.key) as (λ o. chosen o None None (Some (or_this (last_under k es) f)) ≡ Some e → key_cmp j e.key ≡ Less) [
      | Less ↦ λ n. absurd (cc)
      | Equal ↦ λ n. absurd (cc)
      | Greater ↦ elim (last_under k es) as (λ x. last_under k es ≡ x → Some (or_this x f) ≡ Some e → key_cmp j e.key ≡ Less) [
        | None ↦ λ is n. let same : f ≡ e = cc in subst (λ (z : Entry). key_cmp j z.key ≡ Less) same a.0
        | Some g ↦ λ is n. let same : g ≡ e = cc in subst (λ (z : Entry). key_cmp j z.key ≡ Less) same (last_in j k g es a.1 is)
      ] refl
    ] h

first_in : (j k : TreeKey) (e : Entry) (es : List Entry) → AllAbove j es → first_above k es ≡ Some e → key_cmp j e.key ≡ Less
first_in j k e [] a h = absurd (cc)
first_in j k e (f ∷ es) a h =
    elim (key_cmp k f.key) as (λ o. chosen o (Some f) (first_above k es) (first_above k es) ≡ Some e → key_cmp j e.key ≡ Less) [
      | Less ↦ λ n. let same : f ≡ e = cc in subst (λ (z : Entry). key_cmp j z.key ≡ Less) same a.0
      | Equal ↦ λ n. first_in j k e es a.1 n
      | Greater ↦ λ n. first_in j k e es a.1 n
    ] h

-- up: none is left, or the next one and what is above it
pub above_none : (k : TreeKey) (es : List Entry) → first_above k es ≡ None → above k es ≡ []
above_none k [] h = refl
above_none k (f ∷ es) h =
    elim (key_cmp k f.key) as (λ o. chosen o (Some f) (first_above k es) (first_above k es) ≡ None → chosen o (f ∷ above k es) (above k es) (above k es) ≡ []) [
      | Less ↦ λ n. absurd (cc)
      | Equal ↦ λ n. above_none k es n
      | Greater ↦ λ n. above_none k es n
    ] h

pub above_next : (k : TreeKey) (e : Entry) (es : List Entry) → Rises es → first_above k es ≡ Some e → above k es ≡ e ∷ above e.key es
above_next k e [] r h = absurd (cc)
above_next k e (f ∷ es) r h =
    let later : first_above k es ≡ Some e → above k es ≡ e ∷ above e.key (f ∷ es) = λ n.
    rw (flipped f.key e.key (first_in f.key k e es r.0 n)) (above_next k e es r.1 n) in
    elim (key_cmp k f.key) as (λ o. key_cmp k f.key ≡ o → chosen o (Some f) (first_above k es) (first_above k es) ≡ Some e → chosen o (f ∷ above k es) (above k es) (above k es) ≡ e ∷ above e.key (f ∷ es)) [
      | Less ↦ λ is n.
          let same : f ≡ e = cc in
          let here : above f.key (f ∷ es) ≡ es = rw (same_key f.key) (above_all f.key es r.0) in
          ap (λ l. f ∷ l) (above_all k es (AllAbove-lower k f.key es is r.0) ∙ sym here) ∙ ap (λ (z : Entry). z ∷ above z.key (f ∷ es)) same
      | Equal ↦ λ is n. later n
      | Greater ↦ λ is n. later n
    ] refl h

-- down: none is left, or the last one and what is below it
pub under_none : (k : TreeKey) (es : List Entry) → Rises es → last_under k es ≡ None → under k es ≡ []
under_none k [] r h = refl
under_none k (f ∷ es) r h =
    elim (key_cmp k f.key) as (λ o. key_cmp k f.key ≡ o → chosen o None None (Some (or_this (last_under k es) f)) ≡ None → chosen o (under k es) (under k es) (f ∷ under k es) ≡ []) [
      | Less ↦ λ is n. under_all k es (AllAbove-lower k f.key es is r.0)
      | Equal ↦ λ is n. under_all k es (above_alike k f.key es is r.0)
      | Greater ↦ λ is n. absurd (cc)
    ] refl h

pub under_last : (k : TreeKey) (e : Entry) (es : List Entry) → Rises es → last_under k es ≡ Some e → under k es ≡ under e.key es ++ e ∷ []
under_last k e [] r h = absurd (cc)
under_last k e (f ∷ es) r h =
    elim (key_cmp k f.key) as (λ o. chosen o None None (Some (or_this (last_under k es) f)) ≡ Some e → chosen o (under k es) (under k es) (f ∷ under k es) ≡ under e.key (f ∷ es) ++ e ∷ []) [
      | Less ↦ λ n. absurd (cc)
      | Equal ↦ λ n. absurd (cc)
      | Greater ↦ elim (last_under k es) as (λ x. last_under k es ≡ x → Some (or_this x f) ≡ Some e → f ∷ under k es ≡ under e.key (f ∷ es) ++ e ∷ []) [
        | None ↦ λ is n.
            let same : f ≡ e = cc in
            let here : under f.key (f ∷ es) ≡ [] = rw (same_key f.key) (under_all f.key es r.0) in
            ap (λ l. f ∷ l) (under_none k es r.1 is) ∙ (sym (ap (λ l. l ++ f ∷ []) here) ∙ ap (λ (z : Entry). under z.key (f ∷ es) ++ z ∷ []) same)
        | Some g ↦ λ is n.
            let same : g ≡ e = cc in
            let over : under g.key (f ∷ es) ≡ f ∷ under g.key es = rw (flipped f.key g.key (last_in f.key k g es r.0 is)) refl in
            ap (λ l. f ∷ l) (under_last k g es r.1 is) ∙ (sym (ap (λ l. l ++ g ∷ []) over) ∙ ap (λ (z : Entry). under z.key (f ∷ es) ++ z ∷ []) same)
      ] refl
    ] h
