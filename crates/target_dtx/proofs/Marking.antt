-- A Mark, attempt by attempt.
use Rattle.std.proofs.Common.{ℕ, ◌≡◌, ◌<◌, ◌≤◌, ◌+◌, ◌∙◌, sym, ap, subst, Bool, true, false, List, [], ◌∷◌, length, drop, get_or, Option, Some, None, Ok, Err}
use Rattle.std.proofs.Math.ListN.{drop_of_length-le}
use Rattle.base_types.specs.declared.entry.Settle.{Settle}
use Rattle.base_types.specs.declared.id.AttemptId.{AttemptId}
use Rattle.model_laws.specs.Lists.{drop-item}
use Rattle.base_messages.specs.declared.actor.ActorId.{ActorId}
use Rattle.base_messages.specs.declared.message.Message.TheVariants.{Marked}
use Rattle.daos_model.specs.declared.durable.Durable.{Durable}
use Rattle.dtx_base.specs.Leading.{attempts_of}
use Rattle.vos_store.specs.Calls.{State}
use Rattle.vos_store.specs.declared.refusal.Stopped.{Stopped}
use Rattle.world_base.specs.declared.did.Did.{Did as DidOf}
use Rattle.world_base.specs.declared.target.TargetMemory.{TargetMemory}
use Rattle.world_base.specs.Changes.{Kept, Settles}
use Rattle.world_base.specs.Marks.{AllMarked, MarkEnds, MarkNext, PassesBy, SettlesMarked, marked_step}
use Rattle.world_base.specs.Requests.{says}
use Rattle.world_base.specs.Roles.{is_prepared, told_of, told_of_all}
use Rattle.world_base.specs.Turns.{CutShort, Reached, Whole}
use Rattle.target_parts.specs.Keeping.{MadeIf}
use Rattle.target_parts.specs.Listing.{one_cut, one_more}
use Rattle.target_parts.specs.Parts.{Now, kept, left_by}
use Rattle.target_parts.specs.Turning.{whole}
use Rattle.target_dtx.proofs.Items.{item-itself}

-- what stands for a mark where there is none
abbrev pub none_marked : AttemptId × Bool
none_marked = (record { client = 0; command = 0; attempt = 0 }, false)

module _ (marks : List (AttemptId × Bool)) (old : Kept) (i : ℕ) (z : AttemptId × Bool) (step : Settle) (step-is : step ≡ marked_step (get_or marks i z).1) (d : Durable) (h k : State) (new : Option Durable) (finds : Durable → Type 0)
    (within : i < length marks) (reached : Reached (MarkNext is_prepared) marks old (drop i marks) (kept d h))
  where
    abbrev x : AttemptId × Bool
    x = get_or marks i z

    changes : is_prepared x.0 d ≡ true → (l : Kept) → l.durable ≡ d → MarkNext is_prepared (x ∷ drop (i + 1) marks) l (Some (Settles x.0 step)) (drop (i + 1) marks)
    changes due l same =
        subst (λ s. MarkNext is_prepared (x ∷ drop (i + 1) marks) l (Some (Settles x.0 s)) (drop (i + 1) marks)) (sym step-is)
        (SettlesMarked l x.0 x.1 (drop (i + 1) marks) (ap (is_prepared x.0) same ∙ due))

    passes : is_prepared x.0 d ≡ false → (l : Kept) → l.durable ≡ d → MarkNext is_prepared (x ∷ drop (i + 1) marks) l None (drop (i + 1) marks)
    passes closed l same = PassesBy l x.0 x.1 (drop (i + 1) marks) (ap (is_prepared x.0) same ∙ closed)

    -- one more is done
    pub marks-on : MadeIf (is_prepared x.0 d) (Settles x.0 step) d h new k finds (Ok tt) → Now new k (λ l. Reached (MarkNext is_prepared) marks old (drop (i + 1) marks) l)
    marks-on made = one_more (MarkNext is_prepared) marks old i x (is_prepared x.0 d) (Settles x.0 step) d h k new finds within (item-itself marks i z within) changes passes reached made

    -- or is cut
    pub marks-cut : (e : Stopped) → MadeIf (is_prepared x.0 d) (Settles x.0 step) d h new k finds (Err e) → CutShort (MarkNext is_prepared) marks old (left_by k finds)
    marks-cut e made = one_cut (MarkNext is_prepared) marks old i x (is_prepared x.0 d) (Settles x.0 step) d h k new finds within (item-itself marks i z within) changes passes reached e made

-- what is known once one more is done
pub told-on : (marks : List (AttemptId × Bool)) (i : ℕ) (z : AttemptId × Bool) (m n : TargetMemory) → i < length marks → n ≡ told_of (get_or marks i z).0 m
    → told_of_all (attempts_of (drop (i + 1) marks)) n ≡ told_of_all (attempts_of (drop i marks)) m
told-on marks i z m n within is =
    ap (told_of_all (attempts_of (drop (i + 1) marks))) is
    ∙ ap (λ xs. told_of_all (attempts_of xs) m) (sym (drop-item marks i (get_or marks i z) within (item-itself marks i z within)))

pub told-none : (marks : List (AttemptId × Bool)) (i : ℕ) (m n : TargetMemory) → length marks ≤ i → told_of_all (attempts_of (drop i marks)) n ≡ m → n ≡ m
told-none marks i m n le is = ap (λ xs. told_of_all (attempts_of xs) n) (sym (drop_of_length-le marks le)) ∙ is

-- none is left: the one that sent it is told so of all that it named
pub marks-done : (m n : TargetMemory) (from : ActorId) (inc : ℕ) (marks : List (AttemptId × Bool)) (told : DidOf) (old : Kept) (k : State) (new : Option Durable) → n ≡ m → told ≡ says from (Marked inc (attempts_of marks)) None
    → Now new k (λ l. Reached (MarkNext is_prepared) marks old [] l) → Now new k (λ l. Whole (MarkNext is_prepared) (MarkEnds m from inc marks) marks old l (n, told))
marks-done m n from inc marks told old k new memory is now = record {
  durable = now.durable;
  kept_is = now.kept_is;
  holds = whole (MarkNext is_prepared) (MarkEnds m from inc marks) marks old (kept now.durable k) [] (n, told) now.holds
      (AllMarked (kept now.durable k) (n, told) (ap (λ x. (x, told)) memory ∙ ap (λ x. (m, x)) is));
}
