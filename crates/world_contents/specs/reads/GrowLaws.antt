-- What a turn adds to the history is what it tells.
use Rattle.std.specs.Prelude.{◌≡◌, ◌≢◌, ◌⊎◌, false, List, [], ◌∷◌, ◌++◌, Option, Some, None, refl}
use Rattle.std.proofs.Common.{sym, ◌∙◌, ap, subst, inl, inr}
use Rattle.base_types.specs.declared.epoch.Epoch.{Epoch}
use Rattle.base_types.specs.declared.id.AttemptId.{AttemptId}
use Rattle.base_types.specs.declared.outcome.Outcome.{Outcome}
use Rattle.base_types.specs.declared.outcome.Outcome.TheVariants.{Committed}
use Rattle.model_laws.specs.Members.{Has, has-cases, has-left, has-right}
use Rattle.base_messages.specs.declared.message.Message.{Message}
use Rattle.base_messages.specs.declared.message.Message.TheVariants.{Ended}
use Rattle.base_messages.specs.declared.message.Post.{Post}
use Rattle.daos_model.specs.Opening.{Opening}
use Rattle.world_commit.specs.attempts.History.{GrowsBy, History, Served, Tells, TellsRefusal}
use Rattle.world_contents.specs.reads.Adds.{NoneIs, is_end}
use Rattle.world_commit.specs.world_base.Events.{Rules}
use Rattle.world_contents.specs.reads.Growing.{Decides, NoneMore, OneMore, committed_by, committed_if, committed_in, grown, refused_by, refused_if, refused_in}

-- ---- one message

committed-if-is : (x y : AttemptId) (own : Option Epoch) (how : Outcome) (e : Epoch) → Has (x, e) (committed_if y own how) → Ended y own how ≡ Ended x (Some e) Committed
committed-if-is x y None how e i = absurd i
committed-if-is x y (Some f) Committed e (inl same) = ap (λ z. Ended z (Some f) Committed) (sym (ap (λ z. z.0) same)) ∙ ap (λ z. Ended x (Some z) Committed) (sym (ap (λ z. z.1) same))
committed-if-is x y (Some f) Committed e (inr i) = absurd i
committed-if-is x y (Some f) how e i = absurd i

committed-is : (m : Message) (x : AttemptId) (e : Epoch) → Has (x, e) (committed_by m) → m ≡ Ended x (Some e) Committed
committed-is (Ended y own how) x e i = committed-if-is x y own how e i
committed-is m x e i = absurd i

refused-if-is : (x y : AttemptId) (how : Outcome) → Has x (refused_if y how) → (y ≡ x) × (how ≢ Committed)
refused-if-is x y Committed i = absurd i
refused-if-is x y how (inl same) = (sym same, λ is. let no : ⊥ = cc in absurd no)
refused-if-is x y how (inr i) = absurd i

is-refused-if : (x : AttemptId) (how : Outcome) → how ≢ Committed → Has x (refused_if x how)
is-refused-if x Committed other = absurd (other refl)
is-refused-if x how other = inl refl

-- a message that ends an attempt otherwise
record IsRefusal (m : Message) (x : AttemptId) : Type 0 where
  own : Option Epoch
  how : Outcome
  says : m ≡ Ended x own how
  refused : how ≢ Committed

refused-is : (m : Message) (x : AttemptId) → Has x (refused_by m) → IsRefusal m x
refused-is (Ended y own how) x i = let z = refused-if-is x y how i in record { own = own; how = how; says = ap (λ a. Ended a own how) z.0; refused = z.1 }
refused-is m x i = absurd i

-- ---- all of them

pub tells-committed : (posts : List Post) (x : AttemptId) (e : Epoch) (p : Post) → Has p posts → p.message ≡ Ended x (Some e) Committed → Has (x, e) (committed_in posts)
tells-committed [] x e p i says = absurd i
tells-committed (q ∷ ps) x e p (inl same) says =
    has-left (committed_by q.message) (committed_in ps) (x, e) (subst (λ m. Has (x, e) (committed_by m)) (sym says ∙ ap (λ z. z.message) same) (inl refl))
tells-committed (q ∷ ps) x e p (inr i) says = has-right (committed_by q.message) (committed_in ps) (x, e) (tells-committed ps x e p i says)

-- a message to someone
sent-to : (p : Post) (m : Message) → p.message ≡ m → p ≡ record { to = p.to; message = m }
sent-to p m says = ap (λ n. record { to = p.to; message = n }) says

pub committed-told : (posts : List Post) (x : AttemptId) (e : Epoch) → Has (x, e) (committed_in posts) → Tells posts x (Some e) Committed
committed-told [] x e i = absurd i
committed-told (p ∷ ps) x e i = by (committed-told ps x e) (has-cases (committed_by p.message) (committed_in ps) (x, e) i)
  where
    by : (Has (x, e) (committed_in ps) → Tells ps x (Some e) Committed) → Has (x, e) (committed_by p.message) ⊎ Has (x, e) (committed_in ps) → Tells (p ∷ ps) x (Some e) Committed
    by rest (inl j) = record { to = p.to; sent = inl (sym (sent-to p (Ended x (Some e) Committed) (committed-is p.message x e j))) }
    by rest (inr j) = let t = rest j in record { to = t.to; sent = inr t.sent }

tells-refused : (posts : List Post) (x : AttemptId) (own : Option Epoch) (how : Outcome) (p : Post) → Has p posts → p.message ≡ Ended x own how → how ≢ Committed → Has x (refused_in posts)
tells-refused [] x own how p i says other = absurd i
tells-refused (q ∷ ps) x own how p (inl same) says other =
    has-left (refused_by q.message) (refused_in ps) x (subst (λ m. Has x (refused_by m)) (sym says ∙ ap (λ z. z.message) same) (is-refused-if x how other))
tells-refused (q ∷ ps) x own how p (inr i) says other = has-right (refused_by q.message) (refused_in ps) x (tells-refused ps x own how p i says other)

refused-told : (posts : List Post) (x : AttemptId) → Has x (refused_in posts) → TellsRefusal posts x
refused-told [] x i = absurd i
refused-told (p ∷ ps) x i = by (refused-told ps x) (has-cases (refused_by p.message) (refused_in ps) x i)
  where
    by : (Has x (refused_in ps) → TellsRefusal ps x) → Has x (refused_by p.message) ⊎ Has x (refused_in ps) → TellsRefusal (p ∷ ps) x
    by rest (inl j) =
        let z = refused-is p.message x j in
        record { own = z.own; how = z.how; told = record { to = p.to; sent = inl (sym (sent-to p (Ended x z.own z.how) z.says)) }; refused = z.refused }
    by rest (inr j) = let t = rest j in record { own = t.own; how = t.how; told = record { to = t.told.to; sent = inr t.told.sent }; refused = t.refused }

-- the history that has grown by what messages tell
pub grown-grows : (h : History) (told : List (AttemptId × Epoch)) (posts : List Post) (more : List Served) → committed_in posts ≡ told → GrowsBy h posts (grown h told posts more)
grown-grows h told posts more is = record {
  decided = λ x e d. has-right told h.decided (x, e) d;
  committed = λ x e t. has-left told h.decided (x, e) (subst (Has (x, e)) is (tells-committed posts x e _ t.sent refl));
  only_decided = λ x e d. elim (has-cases told h.decided (x, e) d) [ inl i ↦ inr (committed-told posts x e (subst (Has (x, e)) (sym is) i)) | inr i ↦ inl i ];
  aborted = λ x a. has-right (refused_in posts) h.aborted x a;
  refused = λ x t. has-left (refused_in posts) h.aborted x (tells-refused posts x t.own t.how _ t.told.sent refl t.refused);
  only_aborted = λ x a. elim (has-cases (refused_in posts) h.aborted x a) [ inl i ↦ inr (refused-told posts x i) | inr i ↦ inl i ];
}

-- where no end is told, nothing is added
end-committed : (m : Message) → is_end m ≡ false → committed_by m ≡ []
end-committed (Ended y own how) off = let no : ⊥ = cc in absurd no
end-committed m off = refl

pub none-committed : (posts : List Post) → NoneIs is_end posts → committed_in posts ≡ []
none-committed [] none = refl
none-committed (p ∷ ps) none = ap (λ xs. xs ++ committed_in ps) (end-committed p.message (none p (inl refl))) ∙ none-committed ps (λ q i. none q (inr i))

end-refused : (m : Message) → is_end m ≡ false → refused_by m ≡ []
end-refused (Ended y own how) off = let no : ⊥ = cc in absurd no
end-refused m off = refl

none-refused : (posts : List Post) → NoneIs is_end posts → refused_in posts ≡ []
none-refused [] none = refl
none-refused (p ∷ ps) none = ap (λ xs. xs ++ refused_in ps) (end-refused p.message (none p (inl refl))) ∙ none-refused ps (λ q i. none q (inr i))

pub none-grows : (h : History) (posts : List Post) → NoneIs is_end posts → GrowsBy h posts h
none-grows h posts none = record {
  decided = λ x e d. d;
  committed = λ x e t. absurd (subst (Has (x, e)) (none-committed posts none) (tells-committed posts x e _ t.sent refl));
  only_decided = λ x e d. inl d;
  aborted = λ x a. a;
  refused = λ x t. absurd (subst (Has x) (none-refused posts none) (tells-refused posts x t.own t.how _ t.told.sent refl t.refused));
  only_aborted = λ x a. inl a;
}

-- what a turn decides is what it tells
pub decides-told : (r : Rules) (o : Opening) (h : History) (issued : List (AttemptId × Epoch)) (posts : List Post) (told : List (AttemptId × Epoch)) → Decides r o h issued posts told → committed_in posts ≡ told
decides-told r o h issued posts told (NoneMore none) = none
decides-told r o h issued posts told (OneMore x e one may its some) = one
