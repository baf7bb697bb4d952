use Rattle.std.proofs.Common.{◌≡◌, ℕ, slice_set, refl}
use borrow.Rule.Slice.PartMut.{put_mid}
use Rattle.byteorder.specs.Endian.{big_bytes}
use Rattle.pmem_pages.specs.declared.node.Node.{Node}
use Rattle.pmem_pages.specs.declared.node.Links.{Links}
use Rattle.pmem_pages.specs.Node.{node_bytes, with_links}
use Rattle.pmem_pages.proofs.codec.write_links.Goals as goal

-- the places before the key are fixed
linked : (kind : ℕ) (n : Node) (l : Links) → put_mid 8 4 (put_mid 4 4 (slice_set (node_bytes kind n) 1 l.height) (big_bytes 4 l.left)) (big_bytes 4 l.right) ≡ node_bytes kind (with_links n l)
unfolding node_bytes
linked kind n l = refl

pub returns : goal.returns
returns c kind n is = rw (is, c.copy_from_slice.ensures.after, c.copy_from_slice-2.ensures.after, c.four_bytes.ensures, c.four_bytes-2.ensures) (linked kind n c.args.links)
