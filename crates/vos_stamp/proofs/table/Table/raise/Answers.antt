use Rattle.std.proofs.Common.{◌≡◌, ℕ, ◌%◌, ◌≤◌, List, ◌∷◌, [], ◌++◌, length, set, Option, Some, refl, sym, subst, ap, ◌∙◌}
use Rattle.vos_stamp.specs.declared.marks.Marks.{Marks}
use Rattle.vos_stamp.specs.declared.marks.Raise.{Raise}
use Rattle.vos_stamp.specs.Marks.{joined}
use Rattle.vos_stamp.specs.Raised.{Marked, RaisesOwn, StandsFor, given, slot_marks}
use Rattle.vos_stamp.proofs.Kept.{raises-kept, slot-is}
use Rattle.vos_stamp.proofs.table.Table.raise.Goals as goal

-- what the level keeps after the step, whatever of it is told of the slots and of what was raised
stands : (es : List (ℕ × Marks)) (cap : ℕ) (slots : List Marks) (rs : List Raise) (r : Raise) (new : List (ℕ × Marks)) (out : Option (ℕ × Marks)) (then : List Marks) (more : List Raise)
    → (cap ≡ 1024) × StandsFor es slots rs → RaisesOwn es cap r.entity r.marks new out → then ≡ given slots out → more ≡ rs ++ r ∷ [] → StandsFor new then more
stands es cap slots rs r new out then more s step slots_are rises =
    subst (λ xs. StandsFor new xs more) (sym slots_are)
    (subst (λ (xs : List Raise). StandsFor new (given slots out) xs) (sym rises)
    (raises-kept es slots rs r.entity r.marks new out s.1 (subst (λ n. RaisesOwn es n r.entity r.marks new out) s.0 step)))

-- so few entities have marks of their own after it
few : (es : List (ℕ × Marks)) (cap : ℕ) (slots : List Marks) (rs : List Raise) (r : Raise) (new : List (ℕ × Marks)) (out : Option (ℕ × Marks))
    → (cap ≡ 1024) × StandsFor es slots rs → RaisesOwn es cap r.entity r.marks new out → length new ≤ 1024
few es cap slots rs r new out s step = (stands es cap slots rs r new out (given slots out) (rs ++ r ∷ []) s step refl refl).bounded

pub invariant_of-self : goal.invariant_of-self
invariant_of-self c =
    let out = c.in-Some.dropped in
    let slots = c.self.inside.slots.items in
    let slot = slot-is slots out c.place.result c.index_mut-slot.result.now c.self.invariant.1.sized c.place.ensures c.index_mut-slot.ensures.value in
    let now : c.join.new.self ≡ joined (slot_marks slots (out % 4096)) c.in-Some.marks = c.join.ensures ∙ ap (λ m. joined m c.in-Some.marks) slot in
    let taken : set slots c.place.result c.join.new.self ≡ given slots (Some (out, c.in-Some.marks)) = ap (λ i. set slots i c.join.new.self) c.place.ensures ∙ ap (set slots (out % 4096)) now in (
      c.raise_own.ensures.capacity ∙ c.self.invariant.0,
      stands c.self.inside.own.entries c.self.inside.own.cap slots c.self.inside.history.raises c.args.raise c.raise_own.new.own.entries c.raise_own.result
          (set slots c.place.result c.join.new.self) c.with-self-inside.result.raises c.self.invariant c.raise_own.ensures.raises
          (taken ∙ ap (given slots) (sym c.in-Some.is)) c.with-self-inside.ensures,
    )

pub invariant_of-self-in_default : goal.invariant_of-self-in_default
invariant_of-self-in_default c =
    let slots = c.self.inside.slots.items in (
      c.raise_own.ensures.capacity ∙ c.self.invariant.0,
      stands c.self.inside.own.entries c.self.inside.own.cap slots c.self.inside.history.raises c.args.raise c.raise_own.new.own.entries c.raise_own.result
          slots c.with-self-inside.result.raises c.self.invariant c.raise_own.ensures.raises (ap (given slots) (sym c.in_default.is)) c.with-self-inside.ensures,
    )

pub returns-in-Some-clause-raises : goal.returns-in-Some-clause-raises
returns-in-Some-clause-raises c = c.with-self-inside.ensures ∙ ap (λ (t : Marked). t.raises ++ c.args.raise ∷ []) c.self.view_is

pub returns-in_default-clause-raises : goal.returns-in_default-clause-raises
returns-in_default-clause-raises c = c.with-self-inside.ensures ∙ ap (λ (t : Marked). t.raises ++ c.args.raise ∷ []) c.self.view_is

pub returns-in-Some-clause-bounded : goal.returns-in-Some-clause-bounded
returns-in-Some-clause-bounded c =
    few c.self.inside.own.entries c.self.inside.own.cap c.self.inside.slots.items c.self.inside.history.raises c.args.raise c.raise_own.new.own.entries c.raise_own.result c.self.invariant c.raise_own.ensures.raises

pub returns-in_default-clause-bounded : goal.returns-in_default-clause-bounded
returns-in_default-clause-bounded c =
    few c.self.inside.own.entries c.self.inside.own.cap c.self.inside.slots.items c.self.inside.history.raises c.args.raise c.raise_own.new.own.entries c.raise_own.result c.self.invariant c.raise_own.ensures.raises
