use Rattle.std.proofs.Common.{◌≡◌, ◌∙◌, ◌∷◌, [], ◌++◌, List, ap, refl, subst, sym, length, true, false, arith}
use Rattle.base_outside.specs.Images.{Range}
use Rattle.pmem_undo.specs.Layout.{IsContent}
use Rattle.pmem_undo.specs.Undo.{IsUndo, UndoState, IsTooMuch}
use Rattle.pmem_undo.specs.Spans.{ranges_of}
use Rattle.pmem_undo.proofs.Undoing.{is_undo, buffers_pushed, staged_pushed, too_much, not_too_much}
use Rattle.pmem_undo.proofs.undo_region.UndoRegion.stage.Goals as goal

pub returns-then-not-is_room-clause-refused : goal.returns-then-not-is_room-clause-refused
returns-then-not-is_room-clause-refused g c =
    let e : ranges_of c.self.inside.staged.items c.self.inside.spans.items ≡ c.args.self.now.staged = ap (λ (u : UndoState _). u.staged) c.self.view_is in
    subst (λ (rs : List Range). (true ≡ true → IsTooMuch rs (length c.args.bytes.now)) × (IsTooMuch rs (length c.args.bytes.now) → true ≡ true)) e (
      λ _. too_much _ c.self.inside.staged.items c.self.inside.spans.items _ _ _ (length c.args.bytes.now) c.self.invariant.0
          (λ room. let here : c.is_room.result ≡ true = c.is_room.ensures.1 (omega (arith, room.0), omega (arith, room.1)) in let off = c.if-not-is_room.true in let never : ⊥ = cc in never),
      λ _. refl,
    )

pub returns-then-not-is_room-clause-holds : goal.returns-then-not-is_room-clause-holds
returns-then-not-is_room-clause-holds g c =
    subst (λ u. IsUndo (g.R.Region.extent u.region) g.R.Region.tells (g.R.Region.image u.region) (g.R.Region.may_leave u.region) u.staged u.stopped) c.self.view_is
    (is_undo _ _ _ _ _ _ _ _ _ _ c.self.invariant.0 c.self.invariant.1 c.self.invariant.2)

pub invariant_of-self : goal.invariant_of-self
invariant_of-self g c =
    let room = c.is_room.ensures.0 c.if-not-is_room.false in
    (buffers_pushed _ c.self.inside.spans.items _ _ c.self.inside.staged.items _ c.args.bytes.now _ _ c.args.at _ _ c.self.invariant.0 (subst (λ u. IsContent (g.R.Region.extent u.region) c.args.at (length c.args.bytes.now)) (sym c.self.view_is) c.requires) (omega (arith, room.0)) (omega (arith, room.1)) c.push_range.ensures.spans_room c.push_range.ensures.bytes_room c.push_range.ensures.spans c.push_range.ensures.staged, c.self.invariant.1, c.self.invariant.2)

pub returns-clause-staged : goal.returns-clause-staged
returns-clause-staged g c =
    let more = staged_pushed _ c.self.inside.staged.items _ c.args.bytes.now c.self.inside.spans.items _ c.args.at c.self.invariant.0.sound c.push_range.ensures.spans c.push_range.ensures.staged in
    let r : Range = record { place = c.args.at; bytes = c.args.bytes.now } in
    let with = λ (rs : List Range). let u : UndoState _ = record { region = c.self.inside.region; staged = rs; stopped = c.self.inside.stopped } in u in
    let after = λ (u : UndoState _). let v : UndoState _ = record { region = u.region; staged = u.staged ++ r ∷ []; stopped = u.stopped } in v in
    ap with more ∙ ap after c.self.view_is

pub returns-clause-refused : goal.returns-clause-refused
returns-clause-refused g c =
    let e : ranges_of c.self.inside.staged.items c.self.inside.spans.items ≡ c.args.self.now.staged = ap (λ (u : UndoState _). u.staged) c.self.view_is in
    let room = c.is_room.ensures.0 c.if-not-is_room.false in
    subst (λ (rs : List Range). (false ≡ true → IsTooMuch rs (length c.args.bytes.now)) × (IsTooMuch rs (length c.args.bytes.now) → false ≡ true)) e (
      λ off. absurd (cc),
      λ too. absurd (not_too_much _ c.self.inside.staged.items c.self.inside.spans.items _ _ _ (length c.args.bytes.now) c.self.invariant.0 (omega (arith, room.0)) (omega (arith, room.1)) too),
    )

pub returns-clause-holds : goal.returns-clause-holds
returns-clause-holds g c =
    is_undo _ _ _ _ c.push_range.new.staged.items c.push_range.new.spans.items _ _ _ c.self.inside.stopped (invariant_of-self g c).0 c.self.invariant.1 c.self.invariant.2
