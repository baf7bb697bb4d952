-- A turn that goes through a list, whose stages are what is left of it.
use Rattle.std.proofs.Common.{ℕ, ◌≡◌, ◌<◌, ◌≤◌, ◌+◌, refl, subst, Bool, true, false, List, [], ◌∷◌, length, drop, get_or, Option, Some, None, Ok, Err}
use Rattle.std.proofs.Math.ListN.{drop_of_length-le}
use Rattle.world_contents.specs.model_laws.Lists.{drop-item}
use Rattle.daos_model.specs.declared.durable.Durable.{Durable}
use Rattle.vos_store.specs.Calls.{State}
use Rattle.vos_store.specs.declared.refusal.Stopped.{Stopped}
use Rattle.world_contents.specs.world_base.Changes.{Change, Kept, made}
use Rattle.world_contents.specs.world_base.Turns.{CutShort, Reached}
use Rattle.target_parts.specs.Keeping.{MadeIf}
use Rattle.target_parts.specs.Parts.{Now, kept, left_by}
use Rattle.target_parts.specs.Turning.{cut_in_change, now_stays, reached_change, reached_silent}

module _ {T : Type 0} (Next : List T → Kept → Option Change → List T → Type 0) (xs : List T) (old : Kept) (i : ℕ) (x : T) (b : Bool) (c : Change) (d : Durable) (h k : State) (new : Option Durable) (finds : Durable → Type 0)
    (within : i < length xs) (item : x ≡ get_or xs i x)
    (changes : b ≡ true → (l : Kept) → l.durable ≡ d → Next (x ∷ drop (i + 1) xs) l (Some c) (drop (i + 1) xs))
    (passes : b ≡ false → (l : Kept) → l.durable ≡ d → Next (x ∷ drop (i + 1) xs) l None (drop (i + 1) xs))
    (reached : Reached Next xs old (drop i xs) (kept d h))
  where
    here : Reached Next xs old (x ∷ drop (i + 1) xs) (kept d h)
    here = subst (λ ys. Reached Next xs old ys (kept d h)) (drop-item xs i x within item) reached

    -- one more of the list is done
    pub one_more : MadeIf b c d h new k finds (Ok tt) → Now new k (λ l. Reached Next xs old (drop (i + 1) xs) l)
    one_more made_if = by b refl made_if
      where
        by : (a : Bool) → b ≡ a → MadeIf a c d h new k finds (Ok tt) → Now new k (λ l. Reached Next xs old (drop (i + 1) xs) l)
        by true is did = record {
          durable = made c d;
          kept_is = did.kept_is;
          holds = reached_change Next xs old (x ∷ drop (i + 1) xs) (kept d h) c (drop (i + 1) xs) (kept (made c d) k) here (changes is (kept d h) refl) refl did.free;
        }
        by false is stays = record {
          durable = d;
          kept_is = stays.kept_is;
          holds = reached_silent Next xs old (x ∷ drop (i + 1) xs) (kept d k) (drop (i + 1) xs)
              (now_stays (λ l. Reached Next xs old (x ∷ drop (i + 1) xs) l) d h k new stays here) (passes is (kept d k) refl);
        }

    -- or its change is cut
    pub one_cut : (e : Stopped) → MadeIf b c d h new k finds (Err e) → CutShort Next xs old (left_by k finds)
    one_cut e made_if = by b refl made_if
      where
        by : (a : Bool) → b ≡ a → MadeIf a c d h new k finds (Err e) → CutShort Next xs old (left_by k finds)
        by true is cut = cut_in_change Next xs old (x ∷ drop (i + 1) xs) (kept d h) c (drop (i + 1) xs) (left_by k finds) here (changes is (kept d h) refl) cut
        by false is none = absurd none

-- nothing of the list is left
pub none_left : {T : Type 0} (Next : List T → Kept → Option Change → List T → Type 0) (xs : List T) (old : Kept) (i : ℕ) (k : State) (new : Option Durable) → length xs ≤ i
    → Now new k (λ l. Reached Next xs old (drop i xs) l) → Now new k (λ l. Reached Next xs old [] l)
none_left Next xs old i k new le now = subst (λ ys. Now new k (λ l. Reached Next xs old ys l)) (drop_of_length-le xs le) now
