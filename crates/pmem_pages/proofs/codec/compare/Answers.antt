use Rattle.std.proofs.Common.{◌∙◌, refl, sym, rules}
use Rattle.pmem_pages.specs.Node.{key_cmp}
use Rattle.pmem_pages.proofs.Compared.{decided}
use Rattle.pmem_pages.proofs.codec.compare.Goals as goal

pub returns-in-Less : goal.returns-in-Less
unfolding key_cmp
returns-in-Less c = decided 8 c.args.a.now.len c.args.b.now.len c.args.a.now.bytes c.args.b.now.bytes _ (λ p. refl) (sym c.compare_heads.ensures ∙ c.in-Less.is) c.if-a-lt8.false c.if-b-lt8.false (search rules) (search rules)

pub returns-in-Greater : goal.returns-in-Greater
unfolding key_cmp
returns-in-Greater c = decided 8 c.args.a.now.len c.args.b.now.len c.args.a.now.bytes c.args.b.now.bytes _ (λ p. refl) (sym c.compare_heads.ensures ∙ c.in-Greater.is) c.if-a-lt8.false c.if-b-lt8.false (search rules) (search rules)
