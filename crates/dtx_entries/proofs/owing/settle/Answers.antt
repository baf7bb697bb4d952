use Rattle.std.proofs.Common.{◌≡◌, None, filter, length, find, map, refl, sym, ◌∙◌, ap, arith}
use Rattle.std.specs.Option.{option_map}
use Rattle.std.proofs.lemmas.List.{length-map}
use Rattle.daos_model.specs.Changes.{is_other}
use Rattle.daos_model.specs.Durables.{entry_key, is_entry_of}
use Rattle.daos_model.specs.OrderLaws.{rising-filter}
use Rattle.dtx_entries.specs.Owing.{is_owing}
use Rattle.dtx_entries.specs.Settling.{changed, changed_at}
use Rattle.dtx_entries.proofs.Followed.{both-pass, fewer, follows, follows-room, rising-changed, unchanged}
use Rattle.dtx_entries.proofs.owing.settle.Goals as goal

pub follow-requires-clause-rising : goal.follow-requires-clause-rising
follow-requires-clause-rising c =
    rw c.requires.is.owing (rising-filter entry_key (is_owing c.args.me) c.args.rows.now.items (c.requires.is.rising refl))

pub follow-requires-clause-room : goal.follow-requires-clause-room
follow-requires-clause-room c =
    let few = follows-room c.args.me c.args.attempt c.args.step c.args.rows.now.items c.args.owing.now.items c.in-Some.entry c.requires.is.owing c.in-Some.ensures.row in
    omega (arith, few, c.requires.is.memory)

pub remove-requires-in-Abort : goal.remove-requires-in-Abort
remove-requires-in-Abort c =
    rw c.requires.is.owing (rising-filter entry_key (is_owing c.args.me) c.args.rows.now.items (c.requires.is.rising refl))

pub returns-in-Some-clause-is : goal.returns-in-Some-clause-is
returns-in-Some-clause-is c =
    let rows = c.args.rows.now.items in
    let owing = c.args.owing.now.items in
    let same : length c.change.new.rows.items ≡ length (map (changed_at c.args.attempt c.args.step) rows) = ap length c.change.ensures.items in
    record {
      owing =
          c.follow.ensures.items
          ∙ follows c.args.me c.args.attempt c.args.step rows owing c.in-Some.entry (c.requires.is.rising refl) c.requires.is.owing c.in-Some.ensures.row
          ∙ ap (filter (is_owing c.args.me)) (sym c.change.ensures.items);
      memory = omega (arith, same, length-map rows (changed_at c.args.attempt c.args.step), c.requires.is.memory, c.follow.ensures.capacity);
      rising = λ _. rw c.change.ensures.items (rising-changed c.args.attempt c.args.step rows (c.requires.is.rising refl));
    }

pub returns-in_default-clause-is : goal.returns-in_default-clause-is
returns-in_default-clause-is c =
    let rows = c.args.rows.now.items in
    let none : None ≡ option_map (changed c.args.step) (find (is_entry_of c.args.attempt) rows) = cc in
    let same = c.change.ensures.items ∙ unchanged c.args.me c.args.attempt c.args.step rows c.args.owing.now.items none in
    rw same c.requires.is

pub returns-in-Abort-clause-is : goal.returns-in-Abort-clause-is
returns-in-Abort-clause-is c =
    let rows = c.args.rows.now.items in
    let same : length c.remove.new.rows.items ≡ length (filter (is_other c.args.attempt) rows) = ap length c.remove.ensures.items in
    record {
      owing =
          c.remove-in-Abort.ensures.items ∙ ap (filter (is_other c.args.attempt)) c.requires.is.owing
          ∙ sym (both-pass (is_other c.args.attempt) (is_owing c.args.me) rows)
          ∙ ap (filter (is_owing c.args.me)) (sym c.remove.ensures.items);
      memory = omega (arith, same, fewer (is_other c.args.attempt) rows, c.requires.is.memory, c.remove-in-Abort.ensures.capacity);
      rising = λ _. rw c.remove.ensures.items (rising-filter entry_key (is_other c.args.attempt) rows (c.requires.is.rising refl));
    }
