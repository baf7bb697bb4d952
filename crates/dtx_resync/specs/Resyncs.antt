-- The steps of a leader that opened again.
use Rattle.std.proofs.Common.{ℕ, ◌≡◌, ◌∙◌, refl, ap, List, filter}
use Rattle.base_types.specs.declared.entry.Entry.{Entry}
use Rattle.base_messages.specs.declared.message.Message.{Message}
use Rattle.base_messages.specs.declared.message.Message.TheVariants.{StatusIs}
use Rattle.base_messages.specs.declared.message.Post.{Post}
use Rattle.daos_model.specs.declared.durable.Durable.{Durable}
use Rattle.dtx_base.specs.Leading.{LeaderOf, LeaderStep, ack_heard, first_leader, is_led, is_open, quietly}
use Rattle.world_base.specs.declared.target.TargetPlan.{TargetPlan}
use Rattle.world_base.specs.Statuses.{opening_memory, opening_posts, status_refusal, statuses_for}

-- of each entry that isn't committed and that it leads every other member is asked
abbrev pub asked_at : ℕ → ℕ → List Entry → List Post
asked_at me inc es = statuses_for inc (filter is_open (filter (is_led me) es))

-- its target has opened in an incarnation over these entries
abbrev pub started : ℕ → List Entry → LeaderOf → LeaderStep
started inc es l = record { leader = first_leader l.me l.targets inc es; posts = asked_at l.me inc es }

-- a member answers what it holds: that is an Ack
abbrev pub status_heard : ℕ → Message → LeaderOf → LeaderStep
status_heard t (StatusIs a inc how) l = ack_heard t a inc (status_refusal a how) l
status_heard t m l = quietly l

-- that is what a target sends that has just opened
pub asked-opening : (t : TargetPlan) (d : Durable) → asked_at t.me d.incarnation d.entries ≡ opening_posts t d
unfolding opening_posts
asked-opening t d = refl

pub started-sends : (t : TargetPlan) (d : Durable) (l : LeaderOf) → l.me ≡ t.me → (started d.incarnation d.entries l).posts ≡ opening_posts t d
started-sends t d l me = ap (λ x. asked_at x d.incarnation d.entries) me ∙ asked-opening t d

-- and what it then remembers as a leader
pub started-remembers : (t : TargetPlan) (d : Durable) (l : LeaderOf) → l.me ≡ t.me → l.targets ≡ t.targets → (started d.incarnation d.entries l).leader.memory ≡ (opening_memory t d).leader
started-remembers t d l me targets =
    ap (λ x. (first_leader x l.targets d.incarnation d.entries).memory) me ∙ ap (λ x. (first_leader t.me x d.incarnation d.entries).memory) targets
