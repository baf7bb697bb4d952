-- What is sent goes with the commands of attempts: lists of posts.
use Rattle.std.specs.Prelude.{◌≡◌, ◌++◌, List, [], ◌∷◌, map}
use Rattle.std.proofs.Common.{sym, subst, inl, inr}
use Rattle.base_types.specs.declared.script.Script.{Script}
use Rattle.base_messages.specs.declared.message.Post.{Post}
use Rattle.model_laws.specs.Members.{Has, has-cases, has-from_map}
use Rattle.world_base.specs.declared.did.Did.{Did}
use Rattle.world_refusals.specs.Telling.{TellsFitly}

abbrev pub PostsFit : Script → List Post → Type 0
PostsFit s posts = (q : Post) → Has q posts → TellsFitly s q.message

pub none-fits : (s : Script) → PostsFit s []
none-fits s q i = absurd i

pub single-fits : (s : Script) (q : Post) → TellsFitly s q.message → PostsFit s (q ∷ [])
single-fits s q t p (inl same) = subst (λ x. TellsFitly s x.message) (sym same) t
single-fits s q t p (inr none) = absurd none

pub both-fit : (s : Script) (ps qs : List Post) → PostsFit s ps → PostsFit s qs → PostsFit s (ps ++ qs)
both-fit s ps qs f g q i = elim (has-cases ps qs q i) [ inl j ↦ f q j | inr j ↦ g q j ]

pub these-fit : (s : Script) (ps qs : List Post) → qs ≡ ps → PostsFit s ps → PostsFit s qs
these-fit s ps qs same = subst (PostsFit s) (sym same)

pub one-fits : (s : Script) (did : Did) (q : Post) → did.posts ≡ q ∷ [] → TellsFitly s q.message → PostsFit s did.posts
one-fits s did q e t = these-fit s (q ∷ []) did.posts e (single-fits s q t)

pub mapped-fit : {T : Type 0} (s : Script) (to : T → Post) (ts : List T) → ((t : T) → TellsFitly s (to t).message) → PostsFit s (map to ts)
mapped-fit s to ts each q i = let z = has-from_map to ts q i in subst (λ x. TellsFitly s x.message) z.2 (each z.0)
