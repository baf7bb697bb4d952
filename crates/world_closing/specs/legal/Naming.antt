-- Who reads at a snapshot has the epoch of one for which the name stands when its line is told, or none where it stands for none; and clients know
-- just the snapshots for which names stand.
use Rattle.std.specs.Prelude.{ℕ, ◌≡◌, ◌⊎◌, ◌↔◌, ◌++◌, Bool, true, false, is_some, List, [], ◌∷◌, map, filter, find, slice_get, Option, Some, None, refl, if◌then◌else◌}
use Rattle.std.proofs.Common.{append-nil, sym, ◌∙◌, ap, subst, inl, inr}
use Rattle.std.proofs.lemmas.List.{map-append}
use Rattle.std.proofs.lemmas.List.Elements.{filter-append}
use Rattle.base_types.specs.declared.epoch.Epoch.{Epoch}
use Rattle.base_types.specs.declared.operation.Op.{Op}
use Rattle.base_types.specs.declared.outcome.Outcome.TheVariants as outcome
use Rattle.base_types.specs.declared.report.Attempt.{Attempt}
use Rattle.base_types.specs.declared.report.Line.{Line}
use Rattle.base_types.specs.declared.report.Line.TheVariants as line
use Rattle.base_types.specs.declared.script.Command.TheVariants.{Run}
use Rattle.base_types.specs.declared.script.OldDecl.{OldDecl}
use Rattle.base_types.specs.declared.script.Script.{Script}
use Rattle.base_types.specs.Scripts.{IsInForm}
use Rattle.model_laws.specs.Lists.{any-of}
use Rattle.model_laws.specs.Members.{Has, has-cases, has-left, has-right}
use Rattle.model_laws.specs.TargetLaws.{number_same, same_number}
use Rattle.model_reports.specs.Lines.{one-of-any}
use Rattle.daos_model.specs.declared.stand.Stand.{Stand}
use Rattle.daos_model.specs.Attempts.{EachTry, is_of_client, snapshot_of, tries, tries_of}
use Rattle.daos_model.specs.Laws.{tries-append}
use Rattle.daos_model.specs.Opening.{Opening}
use Rattle.daos_model.specs.ReadsLegal.{is_named}
use Rattle.daos_model.specs.Snapshots.{IsCreated, Made, StandsFor}
use Rattle.daos_model.specs.Transactions.{command_of}
use Rattle.world_commit.specs.attempts.Turning.{one-or_another}
use Rattle.world_base.specs.declared.client.ClientState.{ClientState}
use Rattle.world_base.specs.declared.client.KnownSnap.{KnownSnap}
use Rattle.world_base.specs.declared.world.World.{World}
use Rattle.world_base.specs.ClientTurns.{Move, listed}
use Rattle.world_base.specs.Events.{Rules, with_epoch}
use Rattle.world_base.specs.StepLaws.{set-is, set-there}
use Rattle.world_base.specs.Steps.{after_move}
use Rattle.world_letters.specs.epochs.Lists.{each-push}
use Rattle.world_letters.specs.lines.Lines.{filled}
use Rattle.world_letters.specs.lives.ClientLines.{OwnLine}
use Rattle.world_closing.specs.legal.Names.{made-is_new}

-- ---- the fact

-- An attempt reads at a snapshot by this name: its epoch is that of one for which the name stands among its client's earlier attempts; it has none
-- where the name stands for none, and just then it ends for want of one.
pub record ReadsSo (s : Script) (opening : Stand) (earlier : List Attempt) (name : List ℕ) (a : Attempt) : Type 0 where
  pub there : (e : Epoch) → a.epoch ≡ Some e → StandsFor s opening earlier name e
  pub none : a.epoch ≡ None → (e : Epoch) → StandsFor s opening earlier name e → ⊥
  pub wants : (a.outcome ≡ outcome.NoSnapshot) ↔ (a.epoch ≡ None)

abbrev pub ReadsAsNamed : Script → Stand → List Line → Attempt → Type 0
ReadsAsNamed s opening before a = (name : List ℕ) → snapshot_of s a.id ≡ Some name → ReadsSo s opening (tries_of a.id.client before) name a

-- attempts as lines
abbrev pub as_lines : List Attempt → List Line
as_lines ts = map (λ a. line.Try a) ts

abbrev pub known_as : List ℕ → Epoch → KnownSnap
known_as name e = record { name = name; epoch = e }

-- a committed attempt has an epoch, or is of a transaction
abbrev pub CommittedIsDated : Script → Attempt → Type 0
CommittedIsDated s a = a.outcome ≡ outcome.Committed → (is_some a.epoch ≡ true) ⊎ ((ops : List Op) × (turns : List ℕ) × (snapshot : Option (List ℕ)) × (command_of s a.id ≡ Some (Run ops turns snapshot)))

-- So it is of all lines; and clients know just the snapshots for which names stand among their attempts so far.
pub record ReadsNameSnapshots (r : Rules) (o : Opening) (w : World) : Type 0 where
  pub knows : (n : ℕ) (c : ClientState) → slice_get w.clients n ≡ Some c → (name : List ℕ) (e : Epoch) → StandsFor r.script o.stand (tries_of n w.lines) name e → Has (known_as name e) c.known
  pub known : (n : ℕ) (c : ClientState) → slice_get w.clients n ≡ Some c → (k : KnownSnap) → Has k c.known → StandsFor r.script o.stand (tries_of n w.lines) k.name k.epoch
  pub lines : EachTry (ReadsAsNamed r.script o.stand) (as_lines (tries w.lines))
  pub dated : (a : Attempt) → Has a (tries w.lines) → CommittedIsDated r.script a

-- ---- lists of attempts

pub lines-of : (ts : List Attempt) → tries (as_lines ts) ≡ ts
unfolding tries
lines-of [] = refl
lines-of (a ∷ ts) = ap (λ us. a ∷ us) (lines-of ts)

-- names stand for what they stood for, and for what a new attempt made
pub stands-more : (s : Script) (opening : Stand) (xs ys : List Attempt) (name : List ℕ) (e : Epoch) → StandsFor s opening xs name e → StandsFor s opening (xs ++ ys) name e
stands-more s opening xs ys name e k = by (find (is_named name) s.olds) k
  where
    by : (d : Option OldDecl) → IsCreated s opening xs name d e → IsCreated s opening (xs ++ ys) name d e
    by None made = let m = one-of-any (Made s name e) xs made in any-of (Made s name e) (xs ++ ys) m.0 (has-left xs ys m.0 m.1) m.2
    by (Some d) old = old

pub stands-cases : (s : Script) (opening : Stand) (xs ys : List Attempt) (name : List ℕ) (e : Epoch) → StandsFor s opening (xs ++ ys) name e → StandsFor s opening xs name e ⊎ ((a : Attempt) × Has a ys × Made s name e a)
stands-cases s opening xs ys name e k = by (find (is_named name) s.olds) k
  where
    by : (d : Option OldDecl) → IsCreated s opening (xs ++ ys) name d e → IsCreated s opening xs name d e ⊎ ((a : Attempt) × Has a ys × Made s name e a)
    by (Some d) old = inl old
    by None made =
        let m = one-of-any (Made s name e) (xs ++ ys) made in
        elim (has-cases xs ys m.0 m.1) [ inl i ↦ inl (any-of (Made s name e) xs m.0 i m.2) | inr i ↦ inr (m.0, i, m.2) ]

-- a name that is made stands for what is made
pub made-stands : (s : Script) (opening : Stand) (xs : List Attempt) (a : Attempt) (name : List ℕ) (e : Epoch) → IsInForm s.targets s → Has a xs → Made s name e a → StandsFor s opening xs name e
made-stands s opening xs a name e form i m = subst (λ d. IsCreated s opening xs name d e) (sym (made-is_new s a.id name m.cont form m.snaps.command)) (any-of (Made s name e) xs a i m)

-- ---- one step of a client

-- what lines are added
record Added (u : World) (m : Move) : Type 0 where
  new : List Attempt
  tries-are : tries (u.lines ++ map (with_epoch u.issued) (listed m.line)) ≡ tries u.lines ++ new
  is : (a : Attempt) → Has a new → (b : Attempt) × (m.line ≡ Some (line.Try b)) × (a ≡ filled u.issued b)
  has : (b : Attempt) → m.line ≡ Some (line.Try b) → Has (filled u.issued b) new
  few : (new ≡ []) ⊎ ((b : Attempt) × (m.line ≡ Some (line.Try b)) × (new ≡ filled u.issued b ∷ []))

added : (u : World) (m : Move) → OwnLine m.line → Added u m
unfolding tries
added u m own = by m.line refl own
  where
    by : (l : Option Line) → m.line ≡ l → OwnLine l → Added u m
    by None is own = record {
      new = [];
      tries-are = subst (λ l. tries (u.lines ++ map (with_epoch u.issued) (listed l)) ≡ tries u.lines ++ []) (sym is) (ap tries (append-nil u.lines) ∙ sym (append-nil (tries u.lines)));
      is = λ a i. absurd i;
      has = λ b bad. (let both = sym is ∙ bad in let no : ⊥ = cc (both) in absurd no);
      few = inl refl;
    }
    by (Some l) is own = record {
      new = filled u.issued own.0 ∷ [];
      tries-are =
          subst (λ z. tries (u.lines ++ map (with_epoch u.issued) (listed z)) ≡ tries u.lines ++ filled u.issued own.0 ∷ []) (sym here)
          (tries-append u.lines (line.Try (filled u.issued own.0) ∷ []));
      is = λ a i. elim i [ inl same ↦ (own.0, here, same) | inr none ↦ absurd none ];
      has = λ b same. (let both : Some (line.Try b) ≡ Some (line.Try own.0) = sym same ∙ here in let one : b ≡ own.0 = cc in inl (ap (filled u.issued) one));
      few = inr (own.0, here, refl);
    }
      where
        here : m.line ≡ Some (line.Try own.0)
        here = is ∙ ap (λ z. Some z) own.1

-- What a step of a client tells and knows: a line of its own, after which it knows what it knew, and what the line's attempt made; and the attempt
-- reads as named.
pub record NamesOn (r : Rules) (o : Opening) (u : World) (n : ℕ) (c : ClientState) (m : Move) : Type 0 where
  pub own : OwnLine m.line
  pub of_it : (b : Attempt) → m.line ≡ Some (line.Try b) → b.id.client ≡ n
  pub more : (k : KnownSnap) → Has k c.known → Has k m.state.known
  pub makes : (b : Attempt) (name : List ℕ) (e : Epoch) → m.line ≡ Some (line.Try b) → Made r.script name e (filled u.issued b) → Has (known_as name e) m.state.known
  pub made : (k : KnownSnap) → Has k m.state.known → Has k c.known ⊎ ((b : Attempt) × (m.line ≡ Some (line.Try b)) × Made r.script k.name k.epoch (filled u.issued b))
  pub dated : (b : Attempt) → m.line ≡ Some (line.Try b) → CommittedIsDated r.script (filled u.issued b)
  pub reads : (b : Attempt) (name : List ℕ) → m.line ≡ Some (line.Try b) → snapshot_of r.script b.id ≡ Some name → ReadsSo r.script o.stand (tries_of n u.lines) name (filled u.issued b)

module _ (r : Rules) (o : Opening) (u : World) (n : ℕ) (c : ClientState) (m : Move) (form : IsInForm r.script.targets r.script) (here : slice_get u.clients n ≡ Some c) (k : ReadsNameSnapshots r o u) (s : NamesOn r o u n c m) where
  abbrev v : World
  v = after_move u n m

  z : Added u m
  z = added u m s.own

  -- of its own attempts
  new-own : (a : Attempt) → Has a z.new → a.id.client ≡ n
  new-own a i = let b = z.is a i in ap (λ y. y.id.client) b.2 ∙ s.of_it b.0 b.1

  -- what stands besides, of each client
  tries-then : (j : ℕ) → tries_of j v.lines ≡ tries_of j u.lines ++ filter (is_of_client j) z.new
  tries-then j = ap (filter (is_of_client j)) z.tries-are ∙ filter-append (is_of_client j) (tries u.lines) z.new

  all-own : filter (is_of_client n) z.new ≡ z.new
  all-own = by z.new new-own z.few
    where
      by : (new : List Attempt) → ((a : Attempt) → Has a new → a.id.client ≡ n) → (new ≡ []) ⊎ ((b : Attempt) × (m.line ≡ Some (line.Try b)) × (new ≡ filled u.issued b ∷ [])) → filter (is_of_client n) new ≡ new
      by new own (inl none) = ap (filter (is_of_client n)) none ∙ sym none
      by new own (inr one) =
          let its : one.0.id.client ≡ n = own (filled u.issued one.0) (subst (Has (filled u.issued one.0)) (sym one.2) (inl refl)) in
          ap (filter (is_of_client n)) one.2
          ∙ ap (λ b. if b then filled u.issued one.0 ∷ [] else []) (subst (λ i. is_of_client i one.0 ≡ true) its (same_number one.0.id.client)) ∙ sym one.2

  none-other : (j : ℕ) → (j ≡ n → ⊥) → filter (is_of_client j) z.new ≡ []
  none-other j off = by z.new new-own z.few
    where
      by : (new : List Attempt) → ((a : Attempt) → Has a new → a.id.client ≡ n) → (new ≡ []) ⊎ ((b : Attempt) × (m.line ≡ Some (line.Try b)) × (new ≡ filled u.issued b ∷ [])) → filter (is_of_client j) new ≡ []
      by new own (inl none) = ap (filter (is_of_client j)) none
      by new own (inr one) =
          let its : one.0.id.client ≡ n = own (filled u.issued one.0) (subst (Has (filled u.issued one.0)) (sym one.2) (inl refl)) in
          ap (filter (is_of_client j)) one.2 ∙ ap (λ b. if b then filled u.issued one.0 ∷ [] else []) (not-of (is_of_client j one.0) refl its)
        where
          not-of : (b : Bool) → is_of_client j one.0 ≡ b → one.0.id.client ≡ n → is_of_client j one.0 ≡ false
          not-of true is its = absurd (off (sym (number_same one.0.id.client j is) ∙ its))
          not-of false is its = is

  own-tries : tries_of n v.lines ≡ tries_of n u.lines ++ z.new
  own-tries = tries-then n ∙ ap (λ ts. tries_of n u.lines ++ ts) all-own

  other-tries : (j : ℕ) → (j ≡ n → ⊥) → tries_of j v.lines ≡ tries_of j u.lines
  other-tries j off = tries-then j ∙ ap (λ ts. tries_of j u.lines ++ ts) (none-other j off) ∙ append-nil (tries_of j u.lines)

  -- of the client, and of others
  at-each : (P : ℕ → ClientState → Type 0) → P n m.state → ((j : ℕ) (d : ClientState) → (j ≡ n → ⊥) → slice_get u.clients j ≡ Some d → P j d) → (j : ℕ) (d : ClientState) → slice_get v.clients j ≡ Some d → P j d
  at-each P own others j d at = elim (one-or_another j n) [
    | inl same ↦ let is : m.state ≡ d = set-is u.clients n m.state d (subst (λ i. slice_get v.clients i ≡ Some d) same at) in subst (λ i. P i d) (sym same) (subst (P n) is own)
    | inr off ↦ others j d off (sym (set-there u.clients n j m.state off) ∙ at)
  ]

  knows-own : (name : List ℕ) (e : Epoch) → StandsFor r.script o.stand (tries_of n v.lines) name e → Has (known_as name e) m.state.known
  knows-own name e t = elim (stands-cases r.script o.stand (tries_of n u.lines) z.new name e (subst (λ ts. StandsFor r.script o.stand ts name e) own-tries t)) [
    | inl old ↦ s.more (known_as name e) (k.knows n c here name e old)
    | inr now ↦ let b = z.is now.0 now.1 in s.makes b.0 name e b.1 (subst (Made r.script name e) b.2 now.2)
  ]

  known-own : (x : KnownSnap) → Has x m.state.known → StandsFor r.script o.stand (tries_of n v.lines) x.name x.epoch
  known-own x i = subst (λ ts. StandsFor r.script o.stand ts x.name x.epoch) (sym own-tries) (elim (s.made x i) [
    | inl old ↦ stands-more r.script o.stand (tries_of n u.lines) z.new x.name x.epoch (k.known n c here x old)
    | inr now ↦ made-stands r.script o.stand (tries_of n u.lines ++ z.new) (filled u.issued now.0) x.name x.epoch form (has-right (tries_of n u.lines) z.new (filled u.issued now.0) (z.has now.0 now.1)) now.2
  ])

  lines-then : EachTry (ReadsAsNamed r.script o.stand) (as_lines (tries v.lines))
  lines-then = subst (λ ts. EachTry (ReadsAsNamed r.script o.stand) (as_lines ts)) (sym z.tries-are) (by z.new z.few)
    where
      by : (new : List Attempt) → (new ≡ []) ⊎ ((b : Attempt) × (m.line ≡ Some (line.Try b)) × (new ≡ filled u.issued b ∷ [])) → EachTry (ReadsAsNamed r.script o.stand) (as_lines (tries u.lines ++ new))
      by new (inl none) = subst (λ ts. EachTry (ReadsAsNamed r.script o.stand) (as_lines (tries u.lines ++ ts))) (sym none) (subst (λ ts. EachTry (ReadsAsNamed r.script o.stand) (as_lines ts)) (sym (append-nil (tries u.lines))) k.lines)
      by new (inr one) =
          subst (λ ts. EachTry (ReadsAsNamed r.script o.stand) (as_lines (tries u.lines ++ ts))) (sym one.2)
          (subst (EachTry (ReadsAsNamed r.script o.stand)) (sym (map-append (λ a. line.Try a) (tries u.lines) (filled u.issued one.0 ∷ [])))
          (each-push (ReadsAsNamed r.script o.stand) (as_lines (tries u.lines)) (filled u.issued one.0) k.lines last))
        where
          last : ReadsAsNamed r.script o.stand (as_lines (tries u.lines)) (filled u.issued one.0)
          last name at =
              subst (λ ts. ReadsSo r.script o.stand ts name (filled u.issued one.0))
              (ap (λ j. tries_of j u.lines) (sym (s.of_it one.0 one.1)) ∙ ap (filter (is_of_client one.0.id.client)) (sym (lines-of (tries u.lines))))
              (s.reads one.0 name one.1 at)

  dated-then : (a : Attempt) → Has a (tries v.lines) → CommittedIsDated r.script a
  dated-then a i = elim (has-cases (tries u.lines) z.new a (subst (Has a) z.tries-are i)) [
    | inl old ↦ k.dated a old
    | inr now ↦ let b = z.is a now in subst (CommittedIsDated r.script) (sym b.2) (s.dated b.0 b.1)
  ]

  pub names-on : ReadsNameSnapshots r o v
  names-on = record {
    knows = at-each (λ j d. (name : List ℕ) (e : Epoch) → StandsFor r.script o.stand (tries_of j v.lines) name e → Has (known_as name e) d.known) knows-own
        (λ j d off at name e t. k.knows j d at name e (subst (λ ts. StandsFor r.script o.stand ts name e) (other-tries j off) t));
    known = at-each (λ j d. (x : KnownSnap) → Has x d.known → StandsFor r.script o.stand (tries_of j v.lines) x.name x.epoch) known-own
        (λ j d off at x i. subst (λ ts. StandsFor r.script o.stand ts x.name x.epoch) (sym (other-tries j off)) (k.known j d at x i));
    lines = lines-then;
    dated = dated-then;
  }

-- ---- where clients and lines of attempts stay

pub names-stay : (r : Rules) (o : Opening) (w v : World) → v.clients ≡ w.clients → tries v.lines ≡ tries w.lines → ReadsNameSnapshots r o w → ReadsNameSnapshots r o v
names-stay r o w v clients same k = record {
  knows = λ n c here name e t. k.knows n c (ap (λ cs. slice_get cs n) (sym clients) ∙ here) name e (subst (λ ts. StandsFor r.script o.stand (filter (is_of_client n) ts) name e) same t);
  known = λ n c here x i. subst (λ ts. StandsFor r.script o.stand (filter (is_of_client n) ts) x.name x.epoch) (sym same) (k.known n c (ap (λ cs. slice_get cs n) (sym clients) ∙ here) x i);
  lines = subst (λ ts. EachTry (ReadsAsNamed r.script o.stand) (as_lines ts)) (sym same) k.lines;
  dated = λ a i. k.dated a (subst (Has a) same i);
}
