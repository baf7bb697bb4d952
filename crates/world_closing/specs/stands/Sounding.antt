-- What targets keep stays sound at each moment of any run.
use Rattle.std.specs.Prelude.{ℕ, ◌≡◌, ◌≢◌, ◌⊎◌, ◌≤◌, ◌==◌, true, not, All, List, [], ◌∷◌, length, slice_get, Some, ◌<◌, refl}
use Rattle.std.proofs.Common.{inl, inr, sym, ◌∙◌, ap, subst, arith}
use Rattle.base_types.specs.declared.entry.Entry.{Entry}
use Rattle.base_types.specs.declared.operation.MinorWrite.{MinorWrite}
use Rattle.base_types.specs.Epochs.{restart_floor}
use Rattle.base_types.specs.Placement.{writes_leader, writes_members}
use Rattle.base_types.specs.PlacementLaws.{writes_leader-member}
use Rattle.model_laws.specs.DecidedLaws.{all-from_has}
use Rattle.model_laws.specs.Members.{Has, contains-from_has, has-from_contains}
use Rattle.daos_model.specs.declared.durable.Durable.{Durable}
use Rattle.daos_model.specs.declared.durable.Version.{Version}
use Rattle.daos_model.specs.BoolLaws.{and_left}
use Rattle.daos_model.specs.Durables.{is_frozen}
use Rattle.daos_model.specs.Family.{Agree, created_snaps, is_in_field}
use Rattle.daos_model.specs.Opening.{Opening}
use Rattle.daos_model.specs.Sound.{IsCovered, IsOfEntry, IsPlaced, IsSoundAt, SayTheSame, Sound}
use Rattle.dtx_base.specs.Members.{has_target, is_other_member}
use Rattle.world_commit.specs.attempts.Attempts.{IsItsEntry, IsOther, leader_of, members_of, writes_of}
use Rattle.world_commit.specs.attempts.History.{History}
use Rattle.world_commit.specs.attempts.MemberBits.{is-other_same}
use Rattle.world_base.specs.declared.target.TargetState.{TargetState}
use Rattle.world_base.specs.declared.world.World.{World}
use Rattle.world_base.specs.Commits.{bits_of}
use Rattle.world_base.specs.Events.{Rules}
use Rattle.world_answers.specs.world_contents.reads.Given.{FitsTargets}
use Rattle.world_answers.specs.world_contents.reads.MemberLaws.{bits-has}
use Rattle.world_answers.specs.world_contents.reads.Versions.{VersionsStand}
use Rattle.world_upheld.specs.below.Legal.{from-durables, durables_of}
use Rattle.world_upheld.specs.below.Standing.{AreAll}
use Rattle.world_upheld.specs.below.Legal.{field-is, many}
use Rattle.world_upheld.specs.upheld.Upheld.{Upheld}
use Rattle.world_upheld.specs.upheld.Begins.{AreBefore}
use Rattle.world_closing.specs.stands.Covered.{IsWithin, edge_over}
use Rattle.world_closing.specs.stands.Resolving.{given, has-entries, its, one-epoch}

-- ---- what the lease covers

-- where no epoch is below, what a lease covers is within its edge, and the other way round
edge-alone : (x lease : ℕ) → x ≤ edge_over 0 lease → x ≤ restart_floor lease
edge-alone x lease le = omega (arith, le)

alone-edge : (x lease : ℕ) → x ≤ restart_floor lease → x ≤ edge_over 0 lease
alone-edge x lease le = omega (arith, le)

pub covered-is : (d : Durable) → IsWithin 0 d → IsCovered d
covered-is d k = record {
  versions = λ i x lt. edge-alone _ d.lease (k.versions i x lt);
  entries = λ i x lt. edge-alone _ d.lease (k.entries i x lt);
  floors = λ i x lt. edge-alone _ d.lease (k.rows i x lt).floor;
  aggregated = λ i x lt. edge-alone _ d.lease (k.rows i x lt).aggregated;
  snaps = λ i x lt. edge-alone _ d.lease (k.snaps i x lt);
}

pub covered-within : (d : Durable) → IsCovered d → IsWithin 0 d
covered-within d k = record {
  versions = λ i x lt. alone-edge _ d.lease (k.versions i x lt);
  entries = λ i x lt. alone-edge _ d.lease (k.entries i x lt);
  rows = λ i x lt. record { floor = alone-edge _ d.lease (k.floors i x lt); aggregated = alone-edge _ d.lease (k.aggregated i x lt) };
  snaps = λ i x lt. alone-edge _ d.lease (k.snaps i x lt);
}

-- ---- the leader of writes is one of their members

leader-among : (ws : List MinorWrite) (r : Rules) → ((m : MinorWrite) → Has m ws → FitsTargets r m.write) → ws ≢ [] → has_target (bits_of (writes_members ws r.script.targets)) (writes_leader ws r.script.targets) ≡ true
unfolding has_target
leader-among [] r fits some = absurd (some refl)
leader-among (m ∷ ms) r fits some =
    let z = fits m (inl refl) in
    let among = writes_leader-member m ms z.0 r.script.targets z.1 z.2 in
    ap (λ b. b == 1) (bits-has (writes_members (m ∷ ms) r.script.targets) (writes_leader (m ∷ ms) r.script.targets) (has-from_contains (writes_members (m ∷ ms) r.script.targets) (writes_leader (m ∷ ms) r.script.targets) among))

-- ---- one target

module _ (r : Rules) (o : Opening) (held : ℕ → List Version) (h : History) (v : World) (some : 0 < r.script.targets) (before : AreBefore o held) (k : Upheld r o held h v) (covered : AreAll (IsWithin 0) v)
    (frozen : (t : ℕ) (s : TargetState) → slice_get v.targets t ≡ Some s → All (λ z. is_frozen s.durable z.cont z.epoch ≡ true) (created_snaps (durables_of v))) where
  all-there : length (durables_of v) ≡ r.script.targets
  all-there = many r h v (has-entries r o held h v some before k)

  its-entry : (t : ℕ) (s : TargetState) (e : Entry) → slice_get v.targets t ≡ Some s → Has e s.durable.entries → IsItsEntry r v e.attempt t e
  its-entry t s e here i = its r o held h v some before k t s e here i

  -- a target is among the members that each of its entries names
  named : (t : ℕ) (s : TargetState) (e : Entry) → slice_get v.targets t ≡ Some s → Has e s.durable.entries → is_in_field e.members t ≡ true
  unfolding is_other_member
  named t s e here i = field-is e.members t ∙ by y.place
    where
      y : IsItsEntry r v e.attempt t e
      y = its-entry t s e here i

      by : (t ≡ leader_of r e.attempt) ⊎ IsOther r e.attempt t → has_target e.members t ≡ true
      by (inl leads) =
          subst (λ m. has_target m t ≡ true) (sym y.members)
          (subst (λ n. has_target (members_of r e.attempt) n ≡ true) (sym leads)
          (leader-among (writes_of r e.attempt) r (λ m j. (given r o held h v some before k).fits e.attempt m (contains-from_has (writes_of r e.attempt) m j)) (k.grounds.writes t s e here i)))
      by (inr other) = and_left (has_target e.members t) (not (t == e.leader)) (is-other_same r e.attempt e t y.leader y.members other)

  stand : (t : ℕ) (s : TargetState) → slice_get v.targets t ≡ Some s → VersionsStand r o (held t) h t s.durable
  stand t s here = k.contents.versions.stand t s here

  sound-at : (t : ℕ) (s : TargetState) → slice_get v.targets t ≡ Some s → IsSoundAt (durables_of v) t s.durable
  sound-at t s here = record {
    covered = covered-is s.durable (covered t s here);
    holds = all-from_has (λ e. is_in_field e.members t ≡ true) s.durable.entries (λ e i. named t s e here i);
    unsettled = all-from_has (IsOfEntry s.durable) s.durable.versions (λ u i off. let z = (stand t s here).unsettled u (contains-from_has s.durable.versions u i) off in (z.entry, z.found, z.open', z.epoch));
    placed = all-from_has (IsPlaced (length (durables_of v)) t) s.durable.versions (λ u i. subst (λ n. IsPlaced n t u) (sym all-there) ((stand t s here).placed u (contains-from_has s.durable.versions u i)));
    single = (stand t s here).single.single;
    frozen = frozen t s here;
  }

  -- two entries of one attempt say the same
  same-entries : (t u : ℕ) (s z : TargetState) (e f : Entry) → slice_get v.targets t ≡ Some s → slice_get v.targets u ≡ Some z → Has e s.durable.entries → Has f z.durable.entries → e.attempt ≡ f.attempt → SayTheSame e f
  same-entries t u s z e f here there i j same =
      let x = its-entry t s e here i in
      let y = subst (λ a. IsItsEntry r v a u f) (sym same) (its-entry u z f there j) in
      record {
        epoch = one-epoch r o held h v some before k e.attempt e.epoch f.epoch x.issued y.issued;
        leader = x.leader ∙ sym y.leader;
        members = x.members ∙ sym y.members;
      }

  -- ---- all of them

  pub is-sound : Agree (durables_of v) → Sound (durables_of v)
  is-sound agree = record {
    agree = agree;
    targets = λ t d at. let z = from-durables v.targets t d at in subst (IsSoundAt (durables_of v) t) z.2 (sound-at t z.0 z.1);
    entries = λ t u d f at to.
        let z = from-durables v.targets t d at in
        let y = from-durables v.targets u f to in
        all-from_has (λ e. All (λ g. e.attempt ≡ g.attempt → SayTheSame e g) f.entries) d.entries (λ e i.
        all-from_has (λ g. e.attempt ≡ g.attempt → SayTheSame e g) f.entries (λ g j.
        same-entries t u z.0 y.0 e g z.1 y.1 (subst (λ x. Has e x.entries) (sym z.2) i) (subst (λ x. Has g x.entries) (sym y.2) j)));
  }
