use Rattle.std.proofs.Common.{◌≡◌, ◌+◌, ◌∙◌, ◌++◌, ℕ, length, take, drop, refl, sym, ap, arith, rules, Some, None, false, true}
use Rattle.std.proofs.lemmas.Bool.Decides.{nat_tests}
use Rattle.std.proofs.lemmas.List.{length-take-le}
use Rattle.base_outside.specs.Images.{Image, bytes_at}
use Rattle.pmem_undo.specs.Layout.{log_place}
use Rattle.pmem_undo.specs.Log.{log_in, logged, is_log_size}
use Rattle.pmem_undo.specs.Spans.{ranges_of}
use Rattle.pmem_undo.proofs.Parsing.{log_none, log_some, ranges_front}
use Rattle.pmem_undo.proofs.restore.read_log.Goals as goal

pub returns-then-not-is_log_size-clause-told : goal.returns-then-not-is_log_size-clause-told
returns-then-not-is_log_size-clause-told g c t =
    let size = g.R.Region.extent c.args.region.now in
    let f = g.R.Region.image c.args.region.now in
    let same = (c.read_number.ensures.looks t).image in
    let second = rw same at (c.in_ok-total.ensures.number t) in
    let off : is_log_size c.in_ok-count.count c.in_ok-total.total ≡ false = sym c.is_log_size.ensures ∙ c.if-not-is_log_size.true in
    let none = log_none size c.in_ok-count.count c.in_ok-total.total f (c.in_ok-count.ensures.number t) second off in
    ap (ranges_of c.args.body.now) c.clear.ensures.items ∙ sym (ap logged none)

pub returns-then-not-parse-clause-told : goal.returns-then-not-parse-clause-told
returns-then-not-parse-clause-told g c t =
    let f = g.R.Region.image c.args.region.now in
    let one = (c.read_number.ensures.looks t).image in
    let two = (c.read_number-2.ensures.looks t).image in
    let second = rw one at (c.in_ok-total.ensures.number t) in
    let good : is_log_size c.in_ok-count.count c.in_ok-total.total ≡ true = sym c.is_log_size.ensures ∙ c.if-not-is_log_size.false in
    let long : length (take c.in_ok-total.total c.args.body.now) ≡ c.in_ok-total.total = length-take-le c.in_ok-total.total c.args.body.now (grind (arith, nat_tests, good, c.requires.room)) in
    let bytes : c.read.new.buf ≡ bytes_at f (log_place + 8) c.in_ok-total.total = c.in_ok-read.ensures.bytes t ∙ (ap (λ (b : Image). bytes_at b (log_place + 8) (length (take c.in_ok-total.total c.args.body.now))) (two ∙ one) ∙ ap (bytes_at f (log_place + 8)) long) in
    let size : c.size.result ≡ g.R.Region.extent c.args.region.now = c.size.ensures.size ∙ (c.read.ensures.extent ∙ (c.read_number-2.ensures.extent ∙ c.read_number.ensures.extent)) in
    let none = log_some c.size.result c.in_ok-count.count c.in_ok-total.total f c.read.new.buf None (c.in_ok-count.ensures.number t) second good bytes (c.parse.ensures.none (search (rules, c.if-not-parse.true))) in
    ap (ranges_of (c.read.new.buf ++ drop c.in_ok-total.total c.args.body.now)) c.clear-then-not-parse.ensures.items ∙ (sym (ap logged none) ∙ ap (λ (n : ℕ). logged (log_in n f)) size)

pub returns-else-not-parse-clause-told : goal.returns-else-not-parse-clause-told
returns-else-not-parse-clause-told g c t =
    let f = g.R.Region.image c.args.region.now in
    let one = (c.read_number.ensures.looks t).image in
    let two = (c.read_number-2.ensures.looks t).image in
    let second = rw one at (c.in_ok-total.ensures.number t) in
    let good : is_log_size c.in_ok-count.count c.in_ok-total.total ≡ true = sym c.is_log_size.ensures ∙ c.if-not-is_log_size.false in
    let long : length (take c.in_ok-total.total c.args.body.now) ≡ c.in_ok-total.total = length-take-le c.in_ok-total.total c.args.body.now (grind (arith, nat_tests, good, c.requires.room)) in
    let bytes : c.read.new.buf ≡ bytes_at f (log_place + 8) c.in_ok-total.total = c.in_ok-read.ensures.bytes t ∙ (ap (λ (b : Image). bytes_at b (log_place + 8) (length (take c.in_ok-total.total c.args.body.now))) (two ∙ one) ∙ ap (bytes_at f (log_place + 8)) long) in
    let size : c.size.result ≡ g.R.Region.extent c.args.region.now = c.size.ensures.size ∙ (c.read.ensures.extent ∙ (c.read_number-2.ensures.extent ∙ c.read_number.ensures.extent)) in
    let read = log_some c.size.result c.in_ok-count.count c.in_ok-total.total f c.read.new.buf (Some (ranges_of c.read.new.buf c.parse.new.spans.items)) (c.in_ok-count.ensures.number t) second good bytes (c.parse.ensures.told (search (rules, c.if-not-parse.false))) in
    ranges_front c.read.new.buf (drop c.in_ok-total.total c.args.body.now) c.size.result c.parse.new.spans.items c.parse.ensures.sound ∙ (sym (ap logged read) ∙ ap (λ (n : ℕ). logged (log_in n f)) size)

pub returns-then-not-is_log_size-clause-calls : goal.returns-then-not-is_log_size-clause-calls
returns-then-not-is_log_size-clause-calls g c = (2, (_, (c.in_ok-count.ensures.call, (_, (c.in_ok-total.ensures.call, refl)))))

pub returns-then-not-parse-clause-calls : goal.returns-then-not-parse-clause-calls
returns-then-not-parse-clause-calls g c = (3, (_, (c.in_ok-count.ensures.call, (_, (c.in_ok-total.ensures.call, (_, (c.in_ok-read.ensures.call, refl)))))))

pub returns-else-not-parse-clause-calls : goal.returns-else-not-parse-clause-calls
returns-else-not-parse-clause-calls g c = (3, (_, (c.in_ok-count.ensures.call, (_, (c.in_ok-total.ensures.call, (_, (c.in_ok-read.ensures.call, refl)))))))
