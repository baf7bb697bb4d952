-- A target's turn keeps what is said of epochs.
use Rattle.std.specs.Prelude.{ℕ, ◌≡◌, ◌≤◌, ◌<◌, ◌/◌, ◌%◌, ◌++◌, true, List, [], Contains, slice_get, Option, Some, None}
use Rattle.std.proofs.Common.{sym, ◌∙◌, ap, subst}
use Rattle.std.proofs.Math.ListN.{set}
use Rattle.std.proofs.lemmas.List.Elements.{Contains-push}
use Rattle.base_types.specs.declared.epoch.Epoch.{Epoch}
use Rattle.base_types.specs.declared.id.AttemptId.{AttemptId}
use Rattle.base_types.specs.declared.script.Script.{Script}
use Rattle.daos_model.specs.Transactions.{command_of}
use Rattle.world_base.specs.declared.client.ClientState.{ClientState}
use Rattle.world_base.specs.declared.client.Present.{Present}
use Rattle.world_base.specs.declared.letter.Letter.{Letter}
use Rattle.world_base.specs.declared.target.TargetState.{TargetState}
use Rattle.world_base.specs.declared.world.World.{World}
use Rattle.world_base.specs.Events.{Rules, listed}
use Rattle.world_base.specs.Letters.{client}
use Rattle.world_letters.specs.epochs.Epochs.{IsIssued, IsPresent, IsTold, IsUnissued, issuer_of}
use Rattle.world_letters.specs.epochs.Lists.{contains-none, contains-one}
use Rattle.world_letters.specs.epochs.Sayings.{Known}

-- ---- the target that issues an epoch

-- two attempts of a command have one issuer
pub same-issuer : (s : Script) (x y : AttemptId) → x.client ≡ y.client → x.command ≡ y.command → issuer_of s x ≡ issuer_of s y
unfolding issuer_of command_of
same-issuer s x y client' command' = ap (λ n. issuer_of s (made n x.command y.attempt)) client' ∙ ap (λ n. issuer_of s (made y.client n y.attempt)) command'
  where
    made : ℕ → ℕ → ℕ → AttemptId
    made n k a = record { client = n; command = k; attempt = a }

-- ---- a turn

-- an epoch that this target may issue to an attempt: the attempt has none, and its client waits; the target is the one that the
-- attempt's command asks first; and the epoch is above all that this target issued so far, and that the client was told
pub record IsNew (r : Rules) (top : ℕ) (w : World) (t : ℕ) (s : TargetState) (x : AttemptId) (e : Epoch) : Type 0 where
  pub unissued : IsUnissued w x
  pub present : IsPresent r w x
  pub waits : (c : ClientState) (a : Present) → slice_get w.clients x.client ≡ Some c → c.present ≡ Some a → a.waits ≡ true
  pub above : top < e.0
  pub own : e.0 % 256 ≡ t
  pub first : t ≡ issuer_of r.script x
  pub leased : e.0 / 256 ≤ s.durable.lease
  pub ticks : e.0 / 256 ≤ s.memory.ticks
  pub told : (f : ℕ) → IsTold r w x.client f → f < e.0
  pub highest : (y : AttemptId) (f : Epoch) → IsIssued w y f → f.0 % 256 ≡ t → f.0 < e.0

-- the epochs that are issued once this one is, too
abbrev pub issued_then : World → Option (AttemptId × Epoch) → Known
issued_then w o x e = Contains (w.issued ++ listed o) (x, e)

abbrev pub after_target : World → ℕ → TargetState → List Letter → List Letter → Option (AttemptId × Epoch) → World
after_target w t new letters unanswered o = record w { targets = set w.targets t new; messages = letters; asked = unanswered; issued = w.issued ++ listed o }

pub listed-cases : (o : Option (AttemptId × Epoch)) (i : AttemptId × Epoch) → Contains (listed o) i → o ≡ Some i
listed-cases None i h = absurd (contains-none i h)
listed-cases (Some j) i h = ap (λ z. Some z) (contains-one j i h)

pub listed-has : (o : Option (AttemptId × Epoch)) (i : AttemptId × Epoch) → o ≡ Some i → Contains (listed o) i
listed-has o i e = subst (λ z. Contains (listed z) i) (sym e) (Contains-push [] i)
