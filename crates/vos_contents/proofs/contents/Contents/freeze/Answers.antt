use Rattle.std.proofs.Common.{◌≡◌, ◌<◌, rules, vec_len, sym, true, false, subst, length, arith}
use Rattle.daos_model.specs.Durables.{IsInForm}
use Rattle.daos_model.specs.FormLaws.{frozen-in_form}
use Rattle.vos_contents.specs.Contents.{contents_of}
use Rattle.vos_contents.proofs.Kept.{frozen_again, frozen_new, not_frozen}
use Rattle.std.specs.List.{list_any}
use Rattle.daos_model.specs.Durables.{is_frozen, is_snap_at}
use Rattle.vos_contents.proofs.contents.Contents.freeze.Goals as goal

pub put_in-requires : goal.put_in-requires
put_in-requires c =
    let new : is_frozen (contents_of c.args.self.now) c.args.cont c.args.s ≡ false = not_frozen c.args.cont c.args.s (contents_of c.args.self.now) (let e : list_any (is_snap_at c.args.cont c.args.s) c.args.self.now.snaps.items ≡ false = cc in e) in
    let few : length c.args.self.now.snaps.items < 256 = c.requires new in
    let len : vec_len c.args.self.now.snaps ≡ length c.args.self.now.snaps.items = search rules in
    omega (arith, c.args.self.now.places, few, len)

pub invariant_of-self-clause-formed : goal.invariant_of-self-clause-formed
invariant_of-self-clause-formed c =
    let new : list_any (is_snap_at c.args.cont c.args.s) c.args.self.now.snaps.items ≡ false = cc in
    subst IsInForm (sym (frozen_new c.args.cont c.args.s (contents_of c.args.self.now) c.raise.new.rows.items c.put_in.new.rows.items new c.raise.ensures c.put_in.ensures.items))
    (frozen-in_form c.args.cont c.args.s (contents_of c.args.self.now) c.requires c.args.self.now.formed)

pub returns-then-not-has_snap-clause-kept : goal.returns-then-not-has_snap-clause-kept
returns-then-not-has_snap-clause-kept c =
    let new : list_any (is_snap_at c.args.cont c.args.s) c.args.self.now.snaps.items ≡ false = cc in
    frozen_new c.args.cont c.args.s (contents_of c.args.self.now) c.raise.new.rows.items c.put_in.new.rows.items new c.raise.ensures c.put_in.ensures.items

pub returns-else-not-has_snap-clause-kept : goal.returns-else-not-has_snap-clause-kept
returns-else-not-has_snap-clause-kept c =
    let there : list_any (is_snap_at c.args.cont c.args.s) c.args.self.now.snaps.items ≡ true = cc in
    frozen_again c.args.cont c.args.s (contents_of c.args.self.now) there
