-- An attempt that its leader aborted when it stopped: this keeps the facts of attempts, of what is aborted by then.
use Rattle.std.specs.Prelude.{ℕ, ◌≡◌, ◌≢◌, true, [], ◌∷◌, Option, Some, None, refl}
use Rattle.std.proofs.Common.{sym, ◌∙◌, ap, subst, arith, inl, inr}
use Rattle.base_types.specs.declared.entry.Entry.{Entry}
use Rattle.base_types.specs.declared.entry.Settle.TheVariants.{Abort}
use Rattle.base_types.specs.declared.epoch.Epoch.{Epoch}
use Rattle.base_types.specs.declared.id.AttemptId.{AttemptId}
use Rattle.base_types.specs.declared.outcome.Outcome.{Outcome}
use Rattle.base_types.specs.declared.outcome.Outcome.TheVariants.{Committed}
use Rattle.model_laws.specs.Members.{Has}
use Rattle.base_messages.specs.declared.message.Message.TheVariants as message
use Rattle.daos_model.specs.Changes.{settled}
use Rattle.daos_model.specs.Durables.{entry_key, entry_of}
use Rattle.daos_model.specs.Ordered.{is_rising}
use Rattle.dtx_base.specs.declared.leading.Undecided.{Undecided}
use Rattle.dtx_base.specs.Leading.{undecided_attempt}
use Rattle.dtx_base.specs.Rows.{itself, row_key, row_of}
use Rattle.world_commit.specs.attempts.AckViews.{ended_post}
use Rattle.world_commit.specs.attempts.Attempts.{entry_at, is_known_at, leader_of, row_at, row_in}
use Rattle.world_commit.specs.attempts.Frames.{SameFate, same-untold}
use Rattle.world_commit.specs.attempts.History.{Aborted, Decided, GrowsBy, History, Tells}
use Rattle.world_commit.specs.attempts.Stored.{rising-aborted}
use Rattle.world_commit.specs.attempts.Turning.{one-or_another}
use Rattle.world_commit.specs.fates.Facts.{Attempt, Attempts}
use Rattle.world_commit.specs.fates.Settling.{attempt-gone}
use Rattle.world_commit.specs.fates.Told.{told_end}
use Rattle.world_commit.specs.stops.Lately.{Finds, finding-keeps, found-here, found-known, found-row, found-there, same-mail}
use Rattle.world_base.specs.declared.target.TargetState.{TargetState}
use Rattle.world_base.specs.declared.world.World.{World}
use Rattle.world_base.specs.EntryLaws.{entry-aborted, entry-aborted_other}
use Rattle.world_base.specs.Events.{Rules}
use Rattle.world_base.specs.Letters.{client}
use Rattle.world_base.specs.Stops.{no_memory}

module _ (r : Rules) (h later : History) (w v : World) (t : ℕ) (s z : TargetState) (f : Finds w v t s z) (a : AttemptId) (e : Epoch) (how : Outcome) (durable : z.durable ≡ settled a Abort s.durable) (knows : s.memory ≡ no_memory)
    (leads : t ≡ leader_of r a) (undecided : (d : Epoch) → Decided h a d → ⊥) (uncommitted : how ≢ Committed) (g : GrowsBy h (told_end a (Some e) how ∷ []) later) (k : Attempts r h w) where
  told-is : (x : AttemptId) (own : Option Epoch) (end : Outcome) → Tells (told_end a (Some e) how ∷ []) x own end → (x ≡ a) × (end ≡ how)
  told-is x own end q = by q.sent
    where
      by : Has (ended_post q.to x own end) (told_end a (Some e) how ∷ []) → (x ≡ a) × (end ≡ how)
      by (inl same) = let m : message.Ended x own end ≡ message.Ended a (Some e) how = ap (λ i. i.message) same in (cc, cc)
      by (inr none) = absurd none

  gone : Aborted later a
  gone = g.refused a (record { own = Some e; how = how; told = record { to = client a.client; sent = inl refl }; refused = uncommitted })

  still-undecided : (d : Epoch) → Decided later a d → ⊥
  still-undecided d is = elim (g.only_decided a d is) [ inl before ↦ undecided d before | inr q ↦ uncommitted (sym (told-is a (Some d) Committed q).1) ]

  fate : (x : AttemptId) → (x ≡ a → ⊥) → SameFate h later x
  fate x off = same-untold h later (told_end a (Some e) how ∷ []) x g (λ own end q. off (told-is x own end q).0)

  none-here : entry_at v t a ≡ None
  none-here = found-here w v t s z f a ∙ ap (λ d. entry_of d a) durable ∙ entry-aborted a s.durable

  was : (u : ℕ) (i : Entry) → entry_at v u a ≡ Some i → entry_at w u a ≡ Some i
  was u i at = elim (one-or_another u t) [
    | inl is ↦ let none : entry_at v u a ≡ None = ap (λ n. entry_at v n a) is ∙ none-here in (let no : ⊥ = cc (none, at) in absurd no)
    | inr off ↦ sym (found-there w v t s z f u a off) ∙ at
  ]

  none-on : (u : ℕ) → entry_at w u a ≡ None → entry_at v u a ≡ None
  none-on u before = elim (one-or_another u t) [ inl is ↦ ap (λ n. entry_at v n a) is ∙ none-here | inr off ↦ found-there w v t s z f u a off ∙ before ]

  -- its leader, which stopped, knows nothing of it, and no other target does
  no-row : (u : ℕ) (q : Undecided) → row_at v u a ≡ Some q → ⊥
  no-row u q at =
      let before : row_at w u a ≡ Some q = sym (found-row w v t s z f u a) ∙ at in
      let here = ((k.on.each a).rows.undecided u q before).here in
      let none : row_at w t a ≡ None = ap (λ o. row_in o a) f.here ∙ ap (λ m. row_of undecided_attempt a m.leader.undecided) knows in
      let some : row_at w t a ≡ Some q = subst (λ n. row_at w n a ≡ Some q) (here.leads ∙ sym leads) before in
      (let no : ⊥ = cc (none, some) in no)

  unknown : (u : ℕ) → is_known_at v u a ≡ true → ⊥
  unknown u is = let o = (k.on.each a).rows.unsettled u (sym (found-known w v t s z f u a) ∙ is) in undecided o.here.entry.epoch o.decided

  attempt : Attempt r later v a
  attempt = attempt-gone r later v a (record {
    aborted = gone;
    undecided = still-undecided;
    entry = subst (λ n. entry_at v n a ≡ None) leads none-here;
    rows = no-row;
    unknown = unknown;
    one = λ u i at. let q = (k.on.each a).entries.one u i (was u i at) in record { attempt = q.attempt; leader = q.leader; members = q.members; issued = subst (Has (a, i.epoch)) (sym (ap (λ n. n.issued) f.after)) q.issued; place = q.place };
    prepared = λ u i at c. undecided i.epoch ((k.on.each a).entries.committed u i (was u i at) c);
    few = λ inc m o. let few = (k.on.each a).awaited.few inc m o in let same = (same-mail w v t s z f r h a).talks inc m in omega (arith, few, same);
    tries = λ m o. let few = (k.on.each a).awaited.tries m o in let less = (same-mail w v t s z f r h a).tries m in omega (arith, few, less);
    before = λ m l i is. none-on m ((k.on.each a).awaited.before m l (subst (Has l) (ap (λ u. u.messages) f.after) i) is);
  })

  pub late-abort : Attempts r later v
  late-abort =
      finding-keeps w v t s z f r h later a (λ x off. ap (λ d. entry_of d x) durable ∙ entry-aborted_other a s.durable x off) fate
      (record { decided = g.decided a; aborted = g.aborted a; held = λ u i. inr gone; settled = λ u i. inr gone }) attempt
      (record {
        entries = subst (λ d. is_rising entry_key d.entries ≡ true) (sym durable) (rising-aborted a s.durable (k.on.ordered t s f.here).entries);
        decided = subst (λ m. is_rising (row_key itself) m.leader.decided ≡ true) (sym f.memory) (k.on.ordered t s f.here).decided;
      }) k
