-- The fields of a node, where its block has these bytes.
use Rattle.std.proofs.Common.{◌≡◌, ℕ, ◌+◌, ◌*◌, ◌==◌, ◌&&◌, Bool, List, drop, Option, Result, Ok, refl, subst, arith}
use Rattle.std.specs.Prelude.{slice_index}
use Rattle.byteorder.specs.Endian.{big_number}
use Rattle.pmem_pages.specs.declared.node.Node.{Node}
use Rattle.pmem_pages.specs.declared.node.TreeKey.{TreeKey}
use Rattle.pmem_pages.specs.Node.{links_of, node_of}
use Rattle.vos_check_base.specs.vos_image.Steps.{Step, ◌>>=◌, give, rule, zeros}
use Rattle.vos_check_base.specs.vos_image.Content.{Content, block, link}
use Rattle.vos_check_base.specs.vos_image.Trees.{Fields, Kind, is_above, is_below, read_fields}
use Rattle.vos_check_base.specs.Answers.{Plain, nothing}
use Rattle.vos_check_trees.specs.declared.level.Found.{Found}
use Rattle.vos_check_trees.specs.Found.{fields_of}

-- the fields by what was tested
abbrev pub fields_by : {N V A : Type 0} → Kind N V A → Content → ℕ → Bool → Bool → Node → Bool → Step (Fields N V)
fields_by K c b kind long n between =
    rule (256 * b + 0) kind
    >>= λ _. rule (256 * b + 2) long
    >>= λ _. link c (256 * b + 4) n.left
    >>= λ _. link c (256 * b + 8) n.right
    >>= λ _. rule (256 * b + 12) between
    >>= λ _. K.name c (256 * b + 12) n.key
    >>= λ name. zeros (256 * b + 12 + n.key.len) (drop n.key.len n.key.bytes)
    >>= λ _. K.value c (256 * b + 76) name n.value
    >>= λ value. zeros (256 * b + 76 + n.value.len) (drop n.value.len n.value.bytes)
    >>= λ _. give (record { node = n; name = name; value = value })

pub by_tests : {N V A : Type 0} (K : Kind N V A) (c : Content) (b : ℕ) (bytes : List ℕ) (low high : Option TreeKey) (kind long between : Bool) (number size : ℕ) (n : Node) (led : List ℕ)
    → block c b ≡ bytes → number ≡ K.kind → kind ≡ (slice_index bytes 0 == number) → size ≡ big_number 2 (drop 2 bytes) → long ≡ K.is_length c size → n ≡ node_of number bytes
    → between ≡ (is_above low n.key && is_below high n.key) → read_fields K c b low high led ≡ fields_by K c b kind long n between led
unfolding read_fields
by_tests K c b bytes low high kind long between number size n led h k t s u e w =
    let z : 256 * b + 0 ≡ 256 * b = omega arith in
    rw (h, z, t, u, w, e, s, k) refl

-- ---- zeros behind a key or a value

pub zeros_moved : (b : List ℕ) (d e at place : ℕ) (led : List ℕ) (r : Result (Unit {0}) ℕ) → e ≡ d → place ≡ at → Plain (zeros place (drop e b) led) led nothing r → Plain (zeros at (drop d b) led) led nothing r
zeros_moved b d e at place led r p q h = subst (λ (x : ℕ). Plain (zeros x (drop d b) led) led nothing r) q (subst (λ (x : ℕ). Plain (zeros place (drop x b) led) led nothing r) p h)

-- ---- what was found

pub found_there : {M N V : Type 0} (named : M → N) (n : Node) (number kind : ℕ) (bytes : List ℕ) (v : Found M V) (name : M) (value : V) (led : List ℕ) → n ≡ node_of number bytes → number ≡ kind
    → v ≡ record { links = links_of n; key = n.key; name = name; value = value }
    → ◌≡◌ {A = Result (Fields N V × List ℕ) ℕ} (Ok (record { node = n; name = named name; value = value }, led)) (Ok (fields_of named (node_of kind bytes) v, led))
found_there named n number kind bytes v name value led p q s = rw (s, ← q, ← p) refl
