use Rattle.std.proofs.Common.{◌∷◌, [], refl, rules}
use Rattle.byteorder.specs.Endian.{big_bytes}
use Rattle.byteorder.specs.Numbers.{length-bytes_high_first}
use Rattle.pmem_pages.specs.Node.{node_bytes}
use Rattle.pmem_pages.proofs.Filling.{block_filled}
use Rattle.pmem_pages.proofs.codec.write_node.Goals as goal

pub returns : goal.returns
unfolding node_bytes
returns c =
    let n = c.args.node.now in
    let a = c.copy_from_slice.ensures.after in
    let b = c.copy_from_slice-2.ensures.after in
    let d = c.copy_from_slice-3.ensures.after in
    let e = c.copy_from_slice-4.ensures.after in
    let f = c.copy_from_slice-5.ensures.after in
    let k = c.copy_from_slice-6.ensures.after in
    let w = block_filled c.args.to.now (c.args.kind ∷ n.height ∷ []) (big_bytes 2 n.key.len) (big_bytes 4 n.left) (big_bytes 4 n.right) n.key.bytes n.value.bytes (search rules) refl (length-bytes_high_first 2 n.key.len) (length-bytes_high_first 4 n.left) (length-bytes_high_first 4 n.right) (search rules) (search rules) in
    rw (a, b, d, e, f, k, c.two_bytes.ensures, c.from.ensures, c.four_bytes.ensures, c.four_bytes-2.ensures) w
