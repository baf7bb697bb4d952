use Rattle.std.proofs.Common.{◌≡◌, None, rules, nat_eq, sym, ap, ◌∙◌}
use Rattle.std.specs.HashMap.{get}
use Rattle.std.specs.Map.{lookup}
use Rattle.std.specs.Option.{option_copied_mut}
use Rattle.std.specs.Prelude.{if◌then◌else◌}
use Rattle.base_types.specs.Paths.{same_path}
use Rattle.vos_levels.proofs.Calls.{on_ok_then}
use Rattle.vos_punches.specs.Moments.{with_moment}
use Rattle.base_types.specs.Tags.{tag}
use Rattle.vos_punches.specs.Rows.{in_bucket, in_found, in_rows, moments_at}
use Rattle.vos_punches.proofs.Found.{on_err_then}
use Rattle.vos_punches.proofs.Kept.{alike, at_err, put_in, put_new}
use Rattle.vos_punches.proofs.punches.Punches.add.Goals as goal

pub returns-in-Some-clause-added : goal.returns-in-Some-clause-added
unfolding moments_at
returns-in-Some-clause-added c =
    let updates = (c.get_mut.follows.holds c.add.new.self).3 (search rules) in
    on_ok_then c.add.result
    (λ h q. put_in (with_moment c.args.at) c.args.path q c.tag_at-tag.result (get nat_eq c.args.self.now.buckets) (get nat_eq (c.get_mut.follows.lender c.add.new.self)) c.add.new.self c.tag_at-tag.ensures updates.0
    c.in-Some.bucket.now (sym c.get_mut.ensures.value ∙ ap option_copied_mut c.in-Some.is) h)
    c.add.ensures.added

pub returns-in-Some-clause-kept : goal.returns-in-Some-clause-kept
unfolding moments_at
returns-in-Some-clause-kept c =
    let updates = (c.get_mut.follows.holds c.add.new.self).3 (search rules) in
    on_err_then c.add.result
    (λ h q. put_in (λ z. z) c.args.path q c.tag_at-tag.result (get nat_eq c.args.self.now.buckets) (get nat_eq (c.get_mut.follows.lender c.add.new.self)) c.add.new.self c.tag_at-tag.ensures updates.0
    c.in-Some.bucket.now (sym c.get_mut.ensures.value ∙ ap option_copied_mut c.in-Some.is) (λ r. h r ∙ sym (alike (same_path c.args.path r) (in_bucket c.in-Some.bucket.now r)))
    ∙ alike (same_path c.args.path q) (in_found (get nat_eq c.args.self.now.buckets (tag q)) q))
    c.add.ensures.kept

pub returns-in_err-insert-clause-kept : goal.returns-in_err-insert-clause-kept
unfolding moments_at
returns-in_err-insert-clause-kept c =
    at_err c.from_residual-in_err-insert.result
    (λ q. ap (λ es. in_found (lookup (nat_eq (tag q)) es) q) c.in_err-insert.ensures.err ∙ ap (λ z. in_found (get nat_eq z (tag q)) q) c.get_mut.follows.holds-at-none)

pub returns-clause-added : goal.returns-clause-added
unfolding moments_at
returns-clause-added c q =
    let same = c.get_mut.follows.holds-at-none in
    let none : get nat_eq c.get_mut.follows.lender-at-none c.tag_at-tag.result ≡ None = ap (λ z. get nat_eq z c.tag_at-tag.result) same ∙ (sym c.get_mut.ensures.value ∙ ap option_copied_mut c.in_default.is) in
    put_new (with_moment c.args.at) c.args.path q c.tag_at-tag.result (get nat_eq c.get_mut.follows.lender-at-none) (get nat_eq c.insert.new.self) c.add-2.new.self c.tag_at-tag.ensures c.in_ok-insert.ensures.updates.0
    none (λ r. c.in_ok-add.ensures.added r ∙ ap (λ z. if same_path c.args.path r then with_moment c.args.at (in_rows z r) else in_rows z r) c.new-bucket.ensures)
    ∙ ap (λ z. if same_path c.args.path q then with_moment c.args.at (in_found (get nat_eq z (tag q)) q) else in_found (get nat_eq z (tag q)) q) same
