use Rattle.std.proofs.Common.{◌≡◌, ◌-◌, ◌+◌, ◌∙◌, ap, arith, drop, take, length}
use Rattle.std.proofs.lemmas.List.{take_all}
use Rattle.std.specs.Int.{bytes_high_first}
use borrow.Rule.Slice.PartMut.{put_mid}
use Rattle.byteorder.specs.Endian.{big_bytes}
use Rattle.byteorder.specs.Numbers.{length-bytes_high_first}
use Rattle.vos_values.proofs.Packing.{last_of_sixteen, padded_more}
use Rattle.vos_places.proofs.fields.write_number.Goals as goal

pub returns-clause-written : goal.returns-clause-written
returns-clause-written c text l is =
    let w = c.args.width in
    let n = c.args.number in
    let whole : c.to_be_bytes-bytes.result ≡ bytes_high_first 16 n = c.to_be_bytes-bytes.ensures in
    let last : drop (16 - w) c.to_be_bytes-bytes.result ≡ bytes_high_first w n = ap (drop (16 - w)) whole ∙ last_of_sixteen w n c.requires.narrow in
    let all : take (16 - (16 - w)) (bytes_high_first w n) ≡ bytes_high_first w n = take_all (16 - (16 - w)) (bytes_high_first w n) (omega (arith, length-bytes_high_first w n, c.requires.narrow)) in
    let part : c.copy_from_slice.new.self ≡ big_bytes w n = c.copy_from_slice.ensures.after ∙ (ap (take (16 - (16 - w))) last ∙ all) in
    let wide : c.args.at + w - c.args.at ≡ w = omega arith in
    ap (λ k. put_mid c.args.at k c.args.to.now c.copy_from_slice.new.self) wide
    ∙ (ap (put_mid c.args.at w c.args.to.now) part
    ∙ padded_more (length c.args.to.now) c.args.at w c.args.to.now text (big_bytes w n) l (length-bytes_high_first w n) c.requires.room is)
