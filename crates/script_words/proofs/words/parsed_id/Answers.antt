use Rattle.std.proofs.Common.{◌≡◌, List, ℕ, refl, None, Some, Option}
use Rattle.uuid.specs.Text.{parsed}
use Rattle.script_words.specs.Words.{id_of}
use Rattle.script_words.proofs.words.parsed_id.Goals as goal

nothing : (o : Option (List ℕ)) → ((u : List ℕ) × (o ≡ Some u) → ⊥) → None ≡ id_of o
nothing None h = refl
nothing (Some u) h = absurd (h (u, refl))

pub returns-in-Err : goal.returns-in-Err
returns-in-Err c = nothing (parsed c.args.text.now) (λ e. absurd (cc (c.in-Err.ensures.ok.1 e)))
