use Rattle.std.proofs.Common.{◌≡◌, filter, length, ◌∙◌, ap, arith}
use Rattle.std.proofs.lemmas.Bool.{false≢true}
use Rattle.dtx_entries.specs.Owing.{is_owing}
use Rattle.dtx_entries.specs.Settling.{entries_settled}
use Rattle.dtx_entries.proofs.Followed.{settled-fewer}
use Rattle.dtx_entries.proofs.owing.settle_anywhere.Goals as goal

pub find_owing-requires : goal.find_owing-requires
find_owing-requires c =
    let rows = c.args.rows.now.items in
    let same : length c.deref.result.now ≡ length (entries_settled c.args.attempt c.args.step rows) = ap length (c.deref.ensures.value ∙ c.settle_rows.ensures.items) in
    omega (arith, same, settled-fewer c.args.attempt c.args.step rows, c.args.rows.now.ok.0, c.requires.room)

pub returns-clause-is : goal.returns-clause-is
returns-clause-is c =
    let rows = c.args.rows.now.items in
    let same : length c.settle_rows.new.rows.items ≡ length (entries_settled c.args.attempt c.args.step rows) = ap length c.settle_rows.ensures.items in
    record {
      owing = c.find_owing.ensures.items ∙ ap (filter (is_owing c.args.me)) c.deref.ensures.value;
      memory = omega (arith, same, settled-fewer c.args.attempt c.args.step rows, c.args.rows.now.ok.0, c.requires.room, c.find_owing.ensures.capacity);
      rising = λ h. absurd (false≢true h);
    }
