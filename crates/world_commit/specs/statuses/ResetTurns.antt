-- A target hears a Reset, of whatever it asked or might have asked.
use Rattle.std.specs.Prelude.{ℕ, ◌≡◌, Bool, true, false, List, Option, Some, None, refl}
use Rattle.std.proofs.Common.{append-nil, sym, ◌∙◌, ap, subst, inl}
use Rattle.base_types.specs.declared.entry.Verdict.TheVariants as verdict
use Rattle.base_types.specs.declared.entry.Entry.{Entry}
use Rattle.base_types.specs.declared.epoch.Epoch.{Epoch}
use Rattle.base_types.specs.declared.id.AttemptId.{AttemptId}
use Rattle.base_types.specs.declared.operation.MinorWrite.{MinorWrite}
use Rattle.model_laws.specs.Members.{Has}
use Rattle.base_messages.specs.declared.message.Message.{Message}
use Rattle.base_messages.specs.declared.message.Message.TheVariants as message
use Rattle.base_messages.specs.declared.message.Post.{Post}
use Rattle.dtx_base.specs.Joining as member
use Rattle.dtx_base.specs.Leading.{mark_reset, to_target}
use Rattle.world_commit.specs.attempts.History.{History}
use Rattle.world_commit.specs.fates.Concerns.{IsDull, asks_of}
use Rattle.world_commit.specs.fates.Facts.{IsAskedSo, IsMarkRight, IsPrepareRight, IsSaidSo, IsStatusRight, Ongoing, PromptsFly}
use Rattle.world_commit.specs.fates.Prompts.{IsSpoken}
use Rattle.world_commit.specs.fates.Speaking.{plain-spoken}
use Rattle.world_commit.specs.fates.VerdictTurns.{freed-plain, freed-true}
use Rattle.world_commit.specs.fates.Working.{ArePlain, PostsSo, mild-dull, plain-mild}
use Rattle.world_commit.specs.statuses.AskedResets.{asked-keeps, asked-spoken}
use Rattle.world_commit.specs.statuses.Resets as resets
use Rattle.world_commit.specs.statuses.Resets.{AreQuiet, IsResetOf, none-quiet}
use Rattle.world_commit.specs.statuses.ResetSteps.{ResetLeaves, mark-again, mark-leaves, quiet-leaves}
use Rattle.world_commit.specs.statuses.Turns.{Looked, looked}
use Rattle.world_base.specs.declared.world.World.{World}
use Rattle.world_base.specs.Events.{Rules, TargetHearsBy, kept, target_plan}
use Rattle.world_base.specs.Further.{HearsFurther, reset_by}
use Rattle.world_base.specs.Letters.{target}
use Rattle.world_base.specs.Roles.{leader_at, member_at}
use Rattle.world_base.specs.Statuses.{EndsAs, Looking, NoChange, reset_left}
use Rattle.world_base.specs.Turns.{Whole}

-- what target 0 asks of others for a snapshot or an aggregation
abbrev pub is_collecting : Message → Bool
is_collecting (message.Freeze x c s) = true
is_collecting (message.Prune x c tracker e) = true
is_collecting m = false

-- a turn keeps what is said of attempts, and of what targets ask
pub record KeepsOn (r : Rules) (h : History) (w v : World) : Type 0 where
  pub on : Ongoing r h v
  pub prompts : PromptsFly w → PromptsFly v

-- what is told of a Query that got no answer is what is told of one by which the attempt is undecided
pub query-posts : (down : Bool) (a : AttemptId) (ask : Option AttemptId) (j : member.MemberOf) → (member.query_reset down a ask j).freed.posts ≡ (member.verdict_heard a ask verdict.Undecided j).freed.posts
query-posts down a None j = refl
query-posts down a (Some x) j = refl

plain-quiet : (r : Rules) (h : History) (v : World) (t : ℕ) (posts : List Post) → ArePlain posts → PostsSo r h v t posts → AreQuiet r h v t posts
plain-quiet r h v t posts plain so = record { dull = λ p i. mild-dull p.message (plain-mild p.message (plain p i)); so = so; spoken = plain-spoken posts plain }

module _ (number : ℕ) (r : Rules) (h : History) (w v : World) (k : Ongoing r h w) (g : TargetHearsBy (HearsFurther number) r w v) (by : ℕ) (down : Bool) (from : g.l.from ≡ target by) where
  abbrev Left : Message → Type 0
  Left q = Looked (reset_left (target_plan r g.t) g.s.memory by down q) (kept g.s) g.new (g.memory, g.did)

  -- where what was asked concerns no attempt
  quiet-on : (q : Message) (is : IsResetOf g.l q) (left : Left q) → ((x : AttemptId) → asks_of x q ≡ false) → ResetLeaves (resets.L number r h w v k g by down q is left) (resets.st number r h w v k g by down q is left) → AreQuiet r h v g.t g.did.posts → KeepsOn r h w v
  quiet-on q is left off leaves quiet = record { on = resets.quiet-keeps number r h w v k g by down q is left off leaves quiet; prompts = resets.reset-prompts number r h w v k g by down q is left quiet.spoken }

  -- a Mark, which is sent again as it was
  mark-on : (inc : ℕ) (marks : List (AttemptId × Bool)) (is : IsResetOf g.l (message.Mark inc marks)) → Left (message.Mark inc marks) → KeepsOn r h w v
  mark-on inc marks is left =
      quiet-on (message.Mark inc marks) is left (λ x. refl) (mark-leaves by down inc marks (resets.L number r h w v k g by down (message.Mark inc marks) is left))
      (record {
        dull = λ p i. subst (λ n. IsDull n.message) (sym (again p i)) (λ x. refl);
        so = λ p i. subst (λ n. IsSaidSo r h v (target g.t) n.to n.message) (sym (again p i)) right;
        spoken = λ p i. subst IsSpoken (sym (again p i)) (inl refl);
      })
    where
      again : (p : Post) → Has p g.did.posts → p ≡ to_target by (message.Mark inc marks)
      again p i =
          mark-again by down inc marks (resets.L number r h w v k g by down (message.Mark inc marks) is left) p
          (subst (Has p) (resets.sent number r h w v k g by down (message.Mark inc marks) is left ∙ append-nil (mark_reset by down inc marks (resets.L number r h w v k g by down (message.Mark inc marks) is left)).posts) i)

      right : IsAskedSo r h v (target g.t) (target by) (message.Mark inc marks)
      right x c i = let z = resets.asked-now number r h w v k g by down (message.Mark inc marks) is left x c i in subst (λ b. IsMarkRight r h v (target g.t) b x inc c) from (subst (λ b. IsMarkRight r h v b g.l.from x inc c) g.to_it z)

  -- a Query, of which the Fetch that asked is told that it is undecided
  query-on : (a : AttemptId) (ask : Option AttemptId) (is : IsResetOf g.l (message.Query a ask)) → Left (message.Query a ask) → KeepsOn r h w v
  query-on a ask is left =
      quiet-on (message.Query a ask) is left (λ x. refl) (quiet-leaves (resets.L number r h w v k g by down (message.Query a ask) is left))
      (subst (AreQuiet r h v g.t) (sym (resets.sent number r h w v k g by down (message.Query a ask) is left ∙ query-posts down a ask (member_at (target_plan r g.t) g.s.memory)))
      (plain-quiet r h v g.t (member.verdict_heard a ask verdict.Undecided (member_at (target_plan r g.t) g.s.memory)).freed.posts (freed-plain a ask verdict.Undecided (member_at (target_plan r g.t) g.s.memory))
      (freed-true r h v g.t a ask verdict.Undecided (member_at (target_plan r g.t) g.s.memory))))

  -- a Prepare, or a Status
  prepare-on : (e : Entry) (first : Option Epoch) (ws : List MinorWrite) (inc : ℕ) (is : IsResetOf g.l (message.Prepare e first ws inc)) → Left (message.Prepare e first ws inc) → KeepsOn r h w v
  prepare-on e first ws inc is left = record {
    on = asked-keeps number r h w v k g by down (message.Prepare e first ws inc) is left from e.attempt inc (λ i x. refl) refl refl says;
    prompts = resets.reset-prompts number r h w v k g by down (message.Prepare e first ws inc) is left (asked-spoken number r h w v k g by down (message.Prepare e first ws inc) is left from e.attempt inc (λ i x. refl) refl refl says);
  }
    where
      says : IsStatusRight r h v g.l.to g.l.from e.attempt inc
      says = let z : IsPrepareRight r h v g.l.to g.l.from e ws inc = resets.asked-now number r h w v k g by down (message.Prepare e first ws inc) is left in record { way = z.way; incarnation = z.incarnation; born = z.born }

  status-on : (a : AttemptId) (inc : ℕ) (is : IsResetOf g.l (message.Status a inc)) → Left (message.Status a inc) → KeepsOn r h w v
  status-on a inc is left = record {
    on = asked-keeps number r h w v k g by down (message.Status a inc) is left from a inc (λ i x. refl) refl refl says;
    prompts = resets.reset-prompts number r h w v k g by down (message.Status a inc) is left (asked-spoken number r h w v k g by down (message.Status a inc) is left from a inc (λ i x. refl) refl refl says);
  }
    where
      says : IsStatusRight r h v g.l.to g.l.from a inc
      says = resets.asked-now number r h w v k g by down (message.Status a inc) is left

  -- ---- all kinds

  pub reset-keeps : (q : Message) → is_collecting q ≡ false → IsResetOf g.l q → Whole NoChange (EndsAs (reset_by (target_plan r g.t) g.s.memory by down q)) Looking (kept g.s) g.new (g.memory, g.did) → KeepsOn r h w v
  reset-keeps q off is turn = kinds q off is (looked (reset_by (target_plan r g.t) g.s.memory by down q) (kept g.s) g.new (g.memory, g.did) turn)
    where
      kinds : (q : Message) → is_collecting q ≡ false → IsResetOf g.l q → Looked (reset_by (target_plan r g.t) g.s.memory by down q) (kept g.s) g.new (g.memory, g.did) → KeepsOn r h w v
      kinds (message.Freeze x c s) off is left = let no : ⊥ = cc in absurd no
      kinds (message.Prune x c tracker e) off is left = let no : ⊥ = cc in absurd no
      kinds (message.Prepare e first ws inc) off is left = prepare-on e first ws inc is (record { same = left.same; follows = left.follows })
      kinds (message.Status a inc) off is left = status-on a inc is (record { same = left.same; follows = left.follows })
      kinds (message.Mark inc marks) off is left = mark-on inc marks is (record { same = left.same; follows = left.follows })
      kinds (message.Query a ask) off is left = query-on a ask is (record { same = left.same; follows = left.follows })
      kinds q off is left =
          quiet-on q is (record { same = left.same; follows = left.follows }) (λ x. refl) (quiet-leaves (leader_at (target_plan r g.t) g.s.memory g.s.durable)) (none-quiet r h v g.t g.did.posts (ap (λ i. i.1.posts) left.follows))
