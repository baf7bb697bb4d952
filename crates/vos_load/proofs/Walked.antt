-- A walk up over the things of a level, whose versions are read.
use Rattle.std.proofs.Common.{◌≡◌, ℕ, ◌+◌, List, [], ◌∷◌, ◌++◌, Option, Some, refl, sym, ap, ◌∙◌, subst, append_assoc}
use Rattle.std.specs.declared.cmp.Ordering.TheVariants.{Less}
use Rattle.std.proofs.lemmas.List.{append-nil}
use Rattle.daos_model.specs.declared.durable.Version.{Version}
use Rattle.pmem_pages.specs.Blocks.{Blocks}
use Rattle.pmem_pages.specs.Node.{key_cmp}
use Rattle.pmem_pages.specs.Owners.{Holds}
use Rattle.pmem_pages.specs.declared.node.Pair.{Pair}
use Rattle.pmem_pages.specs.declared.node.TreeKey.{TreeKey}
use Rattle.vos_levels.specs.Levels.{Hung, Level, hung, pair_of_thing}
use Rattle.vos_path.specs.Objects.{together}
use Rattle.vos_path.proofs.Lists.{together_append}
use Rattle.vos_lists.specs.Stands.{names_of}
use Rattle.vos_lists.proofs.Walking.{Ahead, Coming, ahead_first}
use Rattle.vos_gather.proofs.Walked.{every, whole}
use Rattle.vos_load.specs.Read.{AreRead}

names_all : {A : Type 0} (xs : List A) → names_of every whole xs ≡ xs
names_all [] = refl
names_all (x ∷ xs) = ap (λ z. x ∷ z) (names_all xs)

pub read_none : (f : List Version) → AreRead [] f f
read_none f = sym (append-nil f)

pub read_then : (vs us : List Version) (f g h : List Version) → AreRead vs f g → AreRead us g h → AreRead (vs ++ us) f h
read_then vs us f g h x y = y ∙ (ap (λ z. z ++ us) x ∙ append_assoc f vs us)

-- Things up to a key were seen, and their versions were read.
pub record SoFar {A : Type 0} (L : Level A) (versions : A → List Version) (g : Hung A) (key : TreeKey) (passed : ℕ) (f now : List Version) : Type 0 where
  pub seen : List A
  pub ahead : Ahead {N = A} L every whole g key seen passed
  pub read : AreRead (together versions seen) f now

module _ {A X : Type 0} (L : Level A) (parse : Pair → Option X) (shown : A → X) (m : Blocks) (again : (a : A) → L.Good a → Holds L.owner m a → parse (pair_of_thing L a) ≡ Some (shown a)) (g : Hung A) (held : Holds (hung L) m g) (versions : A → List Version) where
  pub so_far_first : (key : TreeKey) → ((a : A) → L.Good a → key_cmp key (L.key a) ≡ Less) → (f : List Version) → SoFar L versions g key 0 f f
  so_far_first key low f = record { seen = []; ahead = ahead_first {N = A} L every whole parse shown m again g held key low; read = read_none f }

  pub so_far_next : (key : TreeKey) (passed : ℕ) (x : X) (f now later : List Version) (s : SoFar L versions g key passed f now) (next : Coming {N = A} L every whole parse shown m again g held key s.seen passed x)
      → AreRead (versions next.thing) now later → SoFar L versions g (L.key next.thing) (passed + 1) f later
  so_far_next key passed x f now later s next h = record {
    seen = s.seen ++ next.thing ∷ [];
    ahead = next.taken refl;
    read = subst (λ z. AreRead z f later) (ap (λ z. together versions s.seen ++ z) (sym (append-nil (versions next.thing))) ∙ sym (together_append versions s.seen (next.thing ∷ []))) (read_then (together versions s.seen) (versions next.thing) f now later s.read h);
  }

pub so_far_all : {A : Type 0} (versions : A → List Version) (seen xs : List A) (f now : List Version) → seen ≡ names_of every whole xs → AreRead (together versions seen) f now → AreRead (together versions xs) f now
so_far_all versions seen xs f now is h = subst (λ z. AreRead (together versions z) f now) (is ∙ names_all xs) h
