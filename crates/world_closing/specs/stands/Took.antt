-- What took effect by the lines of any run, where each attempt has one line at most, is what a history decided that goes on in the end.
use Rattle.std.specs.Prelude.{ℕ, ◌≡◌, ◌≢◌, ◌++◌, ◌⊎◌, Bool, true, false, Contains, List, [], ◌∷◌, map, AllPairs, Option, Some, None, refl, if◌then◌else◌}
use Rattle.std.proofs.Common.{sym, ◌∙◌, ap, subst, inl, inr, arith}
use Rattle.std.proofs.lemmas.List.Kept.{AllPairs-cons}
use Rattle.base_types.specs.declared.epoch.Epoch.{Epoch}
use Rattle.base_types.specs.declared.id.AttemptId.{AttemptId}
use Rattle.base_types.specs.declared.operation.MinorWrite.{MinorWrite}
use Rattle.base_types.specs.declared.outcome.Outcome.{Outcome}
use Rattle.base_types.specs.declared.outcome.Outcome.TheVariants as outcome
use Rattle.base_types.specs.declared.report.Attempt.{Attempt}
use Rattle.base_types.specs.declared.script.Script.{Script}
use Rattle.model_laws.specs.Decided.{AreDecided, Decided, IsNumbered, taken_in, taken_of, write_of}
use Rattle.model_laws.specs.DecidedLaws.{all-from_has, has-all}
use Rattle.model_laws.specs.Members.{Has, contains-from_has, has-from_contains, has-from_map, has-map}
use Rattle.model_laws.specs.TargetLaws.{as_of-set}
use Rattle.daos_model.specs.Accesses.{minor_writes}
use Rattle.daos_model.specs.AsOf.{as_of}
use Rattle.daos_model.specs.Attempts.{is_unknown, tries}
use Rattle.daos_model.specs.Family.{resolved}
use Rattle.daos_model.specs.Finals.{SameMap}
use Rattle.daos_model.specs.Opening.{Opening}
use Rattle.daos_model.specs.TookEffect.{all_taken, taken_at, taken_by, took, took_effect}
use Rattle.daos_model.specs.Transactions.{attempt_ops}
use Rattle.daos_model.specs.declared.durable.Version.{Version}
use Rattle.daos_model.specs.declared.stand.Taken.{Taken}
use Rattle.world_commit.specs.attempts.History as history
use Rattle.world_commit.specs.attempts.History.{History}
use Rattle.world_base.specs.declared.world.World.{World}
use Rattle.world_base.specs.Events.{Rules}
use Rattle.world_answers.specs.world_causes.causes.LastCauses.{ids}
use Rattle.world_answers.specs.world_causes.causes.Storing.{AreApart}
use Rattle.world_answers.specs.world_contents.reads.Transactions.{decided_of, transactions}
use Rattle.world_upheld.specs.below.Legal.{written-minors, durables_of}
use Rattle.world_upheld.specs.below.Legal.{Concluded, IsToldOf, one-line}

-- ---- one line

-- an attempt took effect by its line, at an epoch, and wrote something
pub record TakesAt (s : Script) (p : AttemptId → Bool) (a : Attempt) (e : Epoch) : Type 0 where
  pub at : a.epoch ≡ Some e
  pub took : took_effect (p a.id) a.outcome ≡ true
  pub writes : minor_writes 0 (attempt_ops s a.id) ≢ []

-- by the line of an attempt it is one transaction that took effect, or none
data TakesOne (s : Script) (p : AttemptId → Bool) (a : Attempt) : Type 0 where
  TakesNone : taken_by s p a ≡ [] → ((e : Epoch) → TakesAt s p a e → ⊥) → TakesOne s p a
  Takes : (e : Epoch) → taken_by s p a ≡ taken_of (decided_of s (a.id, e)) ∷ [] → TakesAt s p a e → TakesOne s p a

takes : (s : Script) (p : AttemptId → Bool) (a : Attempt) → TakesOne s p a
takes s p a = by (took_effect (p a.id) a.outcome) refl a.epoch refl (minor_writes 0 (attempt_ops s a.id)) refl
  where
    -- what its line gives, where this took effect, at this epoch, of these writes
    gives : Bool → Option Epoch → List MinorWrite → List Taken
    gives b o ws = if b then taken_at o (map write_of ws) else []

    is : (b : Bool) (o : Option Epoch) (ws : List MinorWrite) → took_effect (p a.id) a.outcome ≡ b → a.epoch ≡ o → minor_writes 0 (attempt_ops s a.id) ≡ ws
        → taken_by s p a ≡ (if b then taken_at o (map write_of ws) else [])
    is b o ws takes at writes =
        ap (λ vs. if took_effect (p a.id) a.outcome then taken_at a.epoch vs else []) (written-minors 0 (attempt_ops s a.id) ∙ ap (map write_of) writes)
        ∙ ap (λ y. if took_effect (p a.id) a.outcome then taken_at y (map write_of ws) else []) at
        ∙ ap (λ c. if c then taken_at o (map write_of ws) else []) takes

    by : (b : Bool) → took_effect (p a.id) a.outcome ≡ b → (o : Option Epoch) → a.epoch ≡ o → (ws : List MinorWrite) → minor_writes 0 (attempt_ops s a.id) ≡ ws → TakesOne s p a
    by false off o at ws writes = TakesNone (is false o ws off at writes) (λ e t. let took = t.took in let no : ⊥ = cc (took, off) in no)
    by true on None at ws writes = TakesNone (is true None ws on at writes) (λ e t. let there = t.at in let no : ⊥ = cc (there, at) in no)
    by true on (Some e) at [] writes = TakesNone (is true (Some e) [] on at writes) (λ f t. t.writes writes)
    by true on (Some e) at (w ∷ ws) writes =
        Takes e (is true (Some e) (w ∷ ws) on at writes ∙ ap (λ vs. taken_of (record { epoch = e; writes = vs }) ∷ []) (sym writes))
        (record { at = at; took = on; writes = λ none. let no : ⊥ = cc (none, writes) in no })

-- ---- all lines

-- the line of an attempt among some, by which it took effect at an epoch
pub record TookAt (s : Script) (p : AttemptId → Bool) (attempts : List Attempt) (x : AttemptId) (e : Epoch) : Type 0 where
  pub a : Attempt
  pub among : Has a attempts
  pub of_it : a.id ≡ x
  pub takes : TakesAt s p a e

-- What took effect by some lines are these attempts at their epochs, in the order of the lines.
record AreTaken (s : Script) (p : AttemptId → Bool) (attempts : List Attempt) : Type 0 where
  told : List (AttemptId × Epoch)
  same : all_taken s p attempts ≡ taken_in (map (decided_of s) told)
  from : (x : AttemptId) (e : Epoch) → Has (x, e) told → TookAt s p attempts x e
  all : (a : Attempt) (e : Epoch) → Has a attempts → TakesAt s p a e → Has (a.id, e) told
  once : AreApart (ids attempts) → AreApart (map (λ i. i.0) told)

later : (s : Script) (p : AttemptId → Bool) (a : Attempt) (attempts : List Attempt) (x : AttemptId) (e : Epoch) → TookAt s p attempts x e → TookAt s p (a ∷ attempts) x e
later s p a attempts x e t = record { a = t.a; among = inr t.among; of_it = t.of_it; takes = t.takes }

are-taken : (s : Script) (p : AttemptId → Bool) (attempts : List Attempt) → AreTaken s p attempts
are-taken s p [] = record { told = []; same = refl; from = λ x e i. absurd i; all = λ a e i. absurd i; once = λ k. tt }
are-taken s p (a ∷ attempts) = by (takes s p a) (are-taken s p attempts)
  where
    by : TakesOne s p a → AreTaken s p attempts → AreTaken s p (a ∷ attempts)
    by (TakesNone none never) k = record {
      told = k.told;
      same = ap (λ ts. ts ++ all_taken s p attempts) none ∙ k.same;
      from = λ x e i. later s p a attempts x e (k.from x e i);
      all = λ b e i t. elim i [ inl same ↦ absurd (never e (subst (λ c. TakesAt s p c e) same t)) | inr j ↦ k.all b e j t ];
      once = λ apart. k.once apart.1;
    }
    by (Takes f one t) k = record {
      told = (a.id, f) ∷ k.told;
      same = ap (λ ts. ts ++ all_taken s p attempts) one ∙ ap (λ ts. taken_of (decided_of s (a.id, f)) ∷ ts) k.same;
      from = λ x e i. elim i [
        | inl same ↦ subst (λ y. TookAt s p (a ∷ attempts) y.0 y.1) (sym same) (record { a = a; among = inl refl; of_it = refl; takes = t })
        | inr j ↦ later s p a attempts x e (k.from x e j)
      ];
      all = λ b e i u. elim i [
        | inl same ↦ (let its : Some f ≡ Some e = sym t.at ∙ ap (λ c. c.epoch) (sym same) ∙ u.at in let same-epoch : f ≡ e = cc (its) in inl (ap (λ c. (c.id, e)) same ∙ ap (λ g. (a.id, g)) (sym same-epoch)))
        | inr j ↦ inr (k.all b e j u)
      ];
      once = λ apart. (λ i. apart.0 (again k i), k.once apart.1);
    }
      where
        again : (k : AreTaken s p attempts) → Has a.id (map (λ i. i.0) k.told) → Has a.id (ids attempts)
        again k i =
            let z = has-from_map (λ j. j.0) k.told a.id i in
            let t = k.from z.0.0 z.0.1 z.1 in
            subst (λ x. Has x (ids attempts)) (t.of_it ∙ z.2) (has-map (λ c. c.id) attempts t.a t.among)

-- ---- epochs apart

abbrev AreOthers : Decided → Decided → Type 0
AreOthers d f = d.epoch.0 ≢ f.epoch.0

-- no two of these attempts have one epoch
abbrev HaveTheirOwn : List (AttemptId × Epoch) → Type 0
HaveTheirOwn told = (x y : AttemptId) (e f : Epoch) → Has (x, e) told → Has (y, f) told → e.0 ≡ f.0 → x ≡ y

-- where no attempt stands twice, the epochs of all differ
pairs-apart : (s : Script) (told : List (AttemptId × Epoch)) → AreApart (map (λ i. i.0) told) → HaveTheirOwn told → AllPairs AreOthers (map (decided_of s) told)
pairs-apart s [] once own = λ i j d lt within. absurd (omega arith)
pairs-apart s (i ∷ told) once own =
    AllPairs-cons AreOthers (decided_of s i) (map (decided_of s) told) (all-from_has (AreOthers (decided_of s i)) (map (decided_of s) told) far)
    (pairs-apart s told once.1 (λ x y e f j k. own x y e f (inr j) (inr k)))
  where
    far : (d : Decided) → Has d (map (decided_of s) told) → i.1.0 ≢ d.epoch.0
    far d j same =
        let z = has-from_map (decided_of s) told d j in
        once.0 (subst (λ x. Has x (map (λ k. k.0) told)) (sym (own i.0 z.0.0 i.1 z.0.1 (inl refl) (inr z.1) (same ∙ ap (λ y. y.epoch.0) (sym z.2)))) (has-map (λ k. k.0) told z.0 z.1))

-- ---- the maps of both

-- no two attempts were issued one epoch
abbrev pub EpochsDiffer : World → Type 0
EpochsDiffer v = (x y : AttemptId) (e f : Epoch) → Contains v.issued (x, e) → Contains v.issued (y, f) → e.0 ≡ f.0 → x ≡ y

-- an outcome that is neither
neither : (how : Outcome) → (how ≡ outcome.Committed) ⊎ (is_unknown how ≡ true) → is_unknown how ≡ false → (how ≡ outcome.Committed → ⊥) → ⊥
neither how (inl same) known off = off same
neither how (inr unknown) known off = let no : ⊥ = cc (unknown, known) in no

module _ (r : Rules) (o : Opening) (held : ℕ → List Version) (h : History) (v : World) (differ : EpochsDiffer v) (c : Concluded r o held h v) (apart : AreApart (ids (tries v.lines))) where
  abbrev is_resolved : AttemptId → Bool
  is_resolved = resolved (durables_of v)

  taken : AreTaken r.script is_resolved (tries v.lines)
  taken = are-taken r.script is_resolved (tries v.lines)

  -- what took effect is decided
  to-decided : (x : AttemptId) (e : Epoch) → TookAt r.script is_resolved (tries v.lines) x e → history.Decided c.so.later x e
  to-decided x e t = subst (λ y. history.Decided c.so.later y e) t.of_it (by t.a.outcome refl t.takes.took)
    where
      -- at the epoch that its line shows
      its : (f : Epoch) → history.Decided c.so.later t.a.id f → history.Decided c.so.later t.a.id e
      its f d =
          let z : IsToldOf v t.a.id f = c.told t.a.id f d in
          let one : z.a ≡ t.a = one-line (tries v.lines) z.a t.a apart (has-from_contains (tries v.lines) z.a z.among) t.among z.of_it in
          let epochs : Some f ≡ Some e = sym z.at ∙ ap (λ y. y.epoch) one ∙ t.takes.at in
          let same : f ≡ e = cc (epochs) in
          subst (history.Decided c.so.later t.a.id) same d

      by : (how : Outcome) → t.a.outcome ≡ how → took_effect (is_resolved t.a.id) how ≡ true → history.Decided c.so.later t.a.id e
      by outcome.Committed is took = let k = c.committed t.a (contains-from_has (tries v.lines) t.a t.among) is t.takes.writes in its k.0 (c.so.grew t.a.id k.0 k.2)
      by (outcome.Unknown target) is took = let k = c.so.all t.a.id took in its k.0 k.1
      by (outcome.CondFailed op) is took = let no : ⊥ = cc in absurd no
      by (outcome.Restart why) is took = let no : ⊥ = cc in absurd no
      by (outcome.NoSpace target need free) is took = let no : ⊥ = cc in absurd no
      by outcome.EpochsSpent is took = let no : ⊥ = cc in absurd no
      by outcome.NoSnapshot is took = let no : ⊥ = cc in absurd no

  -- what is decided took effect
  from-decided : (x : AttemptId) (e : Epoch) → history.Decided c.so.later x e → Has (x, e) taken.told
  from-decided x e d = subst (λ y. Has (y, e) taken.told) z.of_it (taken.all z.a e (has-from_contains (tries v.lines) z.a z.among) (record { at = z.at; took = by z.a.outcome z.how; writes = writes }))
    where
      z : IsToldOf v x e
      z = c.told x e d

      writes : minor_writes 0 (attempt_ops r.script z.a.id) ≢ []
      writes = subst (λ y. minor_writes 0 (attempt_ops r.script y) ≢ []) (sym z.of_it) (c.so.versions.written x e d)

      is : is_resolved z.a.id ≡ true
      is = ap is_resolved z.of_it ∙ c.so.only x e d

      by : (how : Outcome) → (how ≡ outcome.Committed) ⊎ (is_unknown how ≡ true) → took_effect (is_resolved z.a.id) how ≡ true
      by outcome.Committed k = refl
      by (outcome.Unknown target) k = is
      by (outcome.CondFailed op) k = absurd (neither _ k refl (λ same. let no : ⊥ = cc in no))
      by (outcome.Restart why) k = absurd (neither _ k refl (λ same. let no : ⊥ = cc in no))
      by (outcome.NoSpace target need free) k = absurd (neither _ k refl (λ same. let no : ⊥ = cc in no))
      by outcome.EpochsSpent k = absurd (neither _ k refl (λ same. let no : ⊥ = cc in no))
      by outcome.NoSnapshot k = absurd (neither _ k refl (λ same. let no : ⊥ = cc in no))

  told-decided : (x : AttemptId) (e : Epoch) → Has (x, e) taken.told → history.Decided c.so.later x e
  told-decided x e i = to-decided x e (taken.from x e i)

  to-transactions : (d : Decided) → Has d (map (decided_of r.script) taken.told) → Has d (transactions r.script c.so.later)
  to-transactions d i =
      let p = has-from_map (decided_of r.script) taken.told d i in
      subst (λ f. Has f (transactions r.script c.so.later)) p.2 (has-map (decided_of r.script) c.so.later.decided p.0 (told-decided p.0.0 p.0.1 p.1))

  from-transactions : (d : Decided) → Has d (transactions r.script c.so.later) → Has d (map (decided_of r.script) taken.told)
  from-transactions d i =
      let p = has-from_map (decided_of r.script) c.so.later.decided d i in
      subst (λ f. Has f (map (decided_of r.script) taken.told)) p.2 (has-map (decided_of r.script) taken.told p.0 (from-decided p.0.0 p.0.1 p.1))

  are-decided : AreDecided (map (decided_of r.script) taken.told)
  are-decided = record {
    apart = pairs-apart r.script taken.told (taken.once apart)
        (λ x y e f i j. differ x y e f (c.so.versions.issued x e (told-decided x e i)) (c.so.versions.issued y f (told-decided y f j)));
    numbered = all-from_has IsNumbered (map (decided_of r.script) taken.told) (λ d i. has-all IsNumbered (transactions r.script c.so.later) d c.so.versions.apart.numbered (to-transactions d i));
  }

  took-all : took r.script is_resolved v.lines ≡ taken_in (map (decided_of r.script) taken.told)
  unfolding took
  took-all = taken.same

  -- The map as of an epoch is the same of what took effect by the lines, and of what was decided.
  pub took-same_map : (e : ℕ) → SameMap (as_of o.stand (took r.script is_resolved v.lines) e) (as_of o.stand (taken_in (transactions r.script c.so.later)) e)
  took-same_map e =
      subst (λ ts. SameMap (as_of o.stand ts e) (as_of o.stand (taken_in (transactions r.script c.so.later)) e)) (sym took-all)
      (as_of-set o.stand (map (decided_of r.script) taken.told) (transactions r.script c.so.later) e are-decided c.so.versions.apart
      (λ d i. contains-from_has (transactions r.script c.so.later) d (to-transactions d (has-from_contains (map (decided_of r.script) taken.told) d i)))
      (λ d i. contains-from_has (map (decided_of r.script) taken.told) d (from-transactions d (has-from_contains (transactions r.script c.so.later) d i))))
