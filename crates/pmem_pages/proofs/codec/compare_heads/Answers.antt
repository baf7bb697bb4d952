use Rattle.std.proofs.Common.{sym, ◌∙◌, ap, arith}
use Rattle.std.specs.Ordering.{nat_cmp}
use Rattle.byteorder.specs.Endian.{big_number}
use Rattle.pmem_pages.proofs.Compared.{heads_cmp}
use Rattle.pmem_pages.proofs.codec.compare_heads.Goals as goal

pub returns : goal.returns
returns c = c.cmp.ensures ∙ (ap (λ z. nat_cmp z c.read_u64.result) c.read_u64-high.ensures ∙ (ap (nat_cmp (big_number 8 c.args.left.now)) c.read_u64.ensures ∙ sym (heads_cmp 8 c.args.left.now c.args.right.now c.requires.left c.requires.right (λ i. omega (arith, c.type_inv.left i)) (λ i. omega (arith, c.type_inv.right i)))))
