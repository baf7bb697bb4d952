-- The epoch of a request is covered by the lease, of what then is kept.
use Rattle.std.proofs.Common.{ℕ, ◌≡◌, ◌≤◌, ◌<◌, ◌/◌, ◌*◌, refl, sym, ◌∙◌, subst, true, false, nat_le, All, List, [], min, Option, Some, None, arith}
use Rattle.std.specs.Prelude.{if◌then◌else◌}
use Rattle.std.proofs.lemmas.Bool.Decides.{nat_tests}
use Rattle.std.proofs.lemmas.Grind.{div_ceil_times}
use Rattle.std.specs.Int.{div_ceil}
use Rattle.base_types.specs.declared.entry.Entry.{Entry}
use Rattle.base_types.specs.declared.epoch.Epoch.{Epoch}
use Rattle.base_types.specs.declared.id.AttemptId.{AttemptId}
use Rattle.base_types.specs.Epochs.{heard_ticks, last_ticks, lease_for}
use Rattle.daos_model.specs.declared.durable.Durable.{Durable}
use Rattle.daos_model.specs.Changes.{leased}
use Rattle.daos_model.specs.Durables.{entry_of}
use Rattle.vos_store.specs.Calls.{State}
use Rattle.world_contents.specs.world_base.declared.target.TargetMemory.{TargetMemory}
use Rattle.world_contents.specs.world_base.declared.target.TargetPlan.{TargetPlan}
use Rattle.world_contents.specs.world_base.Changes.{Change, Extends, Kept}
use Rattle.world_contents.specs.world_base.Turns.{InChange, Reached}
use Rattle.target_parts.specs.Covers.{CoverCut, Covers, DidCover, WasExtended}
use Rattle.target_parts.specs.Parts.{kept}
use Rattle.target_parts.specs.Stops.{CutTelling}
use Rattle.target_parts.specs.Knowing.{LeadsWell}
use Rattle.target_parts.specs.KeepingLaws.{leads-leased}
use Rattle.target_parts.specs.Turning.{now_stays, reached_change, reached_silent}
use Rattle.world_contents.specs.world_base.PathLaws.{reached-here}

-- ---- the lease

capped_covers : (ticks last ceil lease : ℕ) → ticks ≤ last → ticks ≤ ceil → min last ceil ≡ lease → ticks ≤ lease
capped_covers ticks last ceil lease a b is = omega arith

-- the lease that is stored for ticks covers them
pub lease_covers : (ticks lease : ℕ) → lease_for ticks ≡ Some lease → ticks ≤ lease
lease_covers ticks lease is =
    elim (nat_le ticks last_ticks) as (λ b. nat_le ticks last_ticks ≡ b → (if b then Some (min last_ticks (div_ceil ticks 65536 * 65536)) else None) ≡ Some lease → ticks ≤ lease) [
      | true ↦ λ found here.
          let within : ticks ≤ last_ticks = grind (arith, nat_tests) in
          let ceil = (div_ceil_times ticks 65536 (omega arith)).0 in
          let same : min last_ticks (div_ceil ticks 65536 * 65536) ≡ lease = cc in
          capped_covers ticks last_ticks (div_ceil ticks 65536 * 65536) lease within ceil same
      | false ↦ λ found here. absurd (let no : ⊥ = cc in no)
    ] refl is

-- what is kept is as before but for its lease, which covers the ticks and isn't lower
pub record Leases (ticks : ℕ) (d : Durable) (new : Option Durable) : Type 0 where
  pub lease : ℕ
  pub rises : d.lease ≤ lease
  pub covers : ticks ≤ lease
  pub kept_is : new ≡ Some (leased lease d)

pub leases : (ticks : ℕ) (d : Durable) (h : State) (new : Option Durable) (k : State) → Covers ticks d h new k → Leases ticks d new
unfolding leased
leases ticks d h new k (DidCover covers is free) = record { lease = d.lease; rises = omega arith; covers = covers; kept_is = is }
leases ticks d h new k (WasExtended lease low lease_is did) =
    let covers = lease_covers ticks lease lease_is in
    record { lease = lease; rises = (let a : d.lease < ticks = low in let b : ticks ≤ lease = covers in omega arith); covers = covers; kept_is = did.kept_is }

-- ---- what a lease leaves as it was

higher : (old epoch d lease ticks : ℕ) → old ≤ d → d ≤ lease → epoch / 256 ≤ lease → ticks ≡ heard_ticks old epoch → ticks ≤ lease
higher old epoch d lease ticks a b c is = omega arith

rises-to : (old epoch ticks : ℕ) → ticks ≡ heard_ticks old epoch → old ≤ ticks
rises-to old epoch ticks is = omega arith

-- what a target knows fits what it keeps, once it heard of an epoch that the lease now covers
pub leads-covered : (t : TargetPlan) (lease : ℕ) (d : Durable) (m n : TargetMemory) (es : List Entry) (e : Epoch) → d.lease ≤ lease → e.0 / 256 ≤ lease → n.ticks ≡ heard_ticks m.ticks e.0
    → n.leader ≡ m.leader → n.member ≡ m.member → LeadsWell t m es d → LeadsWell t n es (leased lease d)
leads-covered t lease d m n es e rises covers ticks leader member k =
    leads-leased t lease d m n es (rises-to m.ticks e.0 n.ticks ticks) (higher m.ticks e.0 d.lease lease n.ticks k.heard.leased rises covers ticks) leader member k

pub entry_of-leased : (lease : ℕ) (a : AttemptId) (d : Durable) → entry_of (leased lease d) a ≡ entry_of d a
unfolding leased entry_of
entry_of-leased lease a d = refl

pub epochs-leased : (P : ℕ → Type 0) (lease : ℕ) (d : Durable) → All (λ v. P v.epoch.0) d.versions → All (λ v. P v.epoch.0) (leased lease d).versions
unfolding leased
epochs-leased P lease d all = all

-- ---- the steps of a turn to there

module _ {S : Type 0} (Next : S → Kept → Option Change → S → Type 0) (issued_at : S → Option (AttemptId × Epoch)) (asked known goes : S) (ticks : ℕ)
    (has : (k : Kept) → Next asked k None known)
    (extends : (k : Kept) (lease : ℕ) → k.durable.lease < ticks → lease_for ticks ≡ Some lease → Next known k (Some (Extends lease)) known)
    (covered : (k : Kept) → ticks ≤ k.durable.lease → Next known k None goes)
    (untold : issued_at known ≡ None)
  where
    known_reached : (old : Kept) → Reached Next asked old known old
    known_reached old = reached_silent Next asked old asked old known (reached-here Next asked old) (has old)

    -- the lease covers the ticks, and the turn goes on
    pub covers_reached : (d : Durable) (h : State) (new : Option Durable) (k : State) → Covers ticks d h new k → (x : Durable) → new ≡ Some x → Reached Next asked (kept d h) goes (kept x k)
    unfolding leased
    covers_reached d h new k (DidCover covers is free) x at =
        let same : d ≡ x = (let both : Some d ≡ Some x = sym is ∙ at in cc) in
        subst (λ y. Reached Next asked (kept d h) goes (kept y k)) same
        (now_stays (λ l. Reached Next asked (kept d h) goes l) d h k new (record { kept_is = is; free = free })
        (reached_silent Next asked (kept d h) known (kept d h) goes (known_reached (kept d h)) (covered (kept d h) covers)))
    covers_reached d h new k (WasExtended lease low lease_is did) x at =
        let same : leased lease d ≡ x = (let both : Some (leased lease d) ≡ Some x = sym did.kept_is ∙ at in cc) in
        subst (λ y. Reached Next asked (kept d h) goes (kept y k)) same
        (reached_silent Next asked (kept d h) known (kept (leased lease d) k) goes
        (reached_change Next asked (kept d h) known (kept d h) (Extends lease) known (kept (leased lease d) k) (known_reached (kept d h)) (extends (kept d h) lease low lease_is) refl did.free)
        (covered (kept (leased lease d) k) (lease_covers ticks lease lease_is)))

    -- extending it was cut
    pub covers_cut : (d : Durable) (h : State) (finds : Kept → Type 0) → CoverCut ticks d h finds → CutTelling Next issued_at asked (kept d h) finds None []
    covers_cut d h finds c = record {
      cut = record {
        last = known;
        mid = kept d h;
        reached = known_reached (kept d h);
        cut = InChange (Extends c.lease) known (extends (kept d h) c.lease c.low c.lease_is) c.cut;
      };
      issued_is = sym untold;
      no_lines = refl;
    }
