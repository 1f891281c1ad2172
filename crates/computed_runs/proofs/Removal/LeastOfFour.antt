-- The laws at worked values: four harts, of which hart 1 has written line B in its section and harts 2, 3 and 0 wait
-- for B in this order. Hart 0 has the least stamp. Beside each law stands a wrong statement that these values refute.
use Rattle.std.proofs.Common.{◌≡◌, ◌≢◌, ℕ, zero, suc, Bool, true, false, List, [], ◌∷◌, ◌∙◌, ◌≤◌, ◌==◌, not, None, Some}
use Rattle.std.proofs.Common.{refl, ap, sym, arith}
use Rattle.bus_order.specs.Order.{Request}
use Rattle.el_base.specs.declared.events.Event.{Event}
use Rattle.el_base.specs.declared.events.Kind.TheVariants.{Deliver, Serve}
use Rattle.el_base.specs.declared.outcomes.Need.TheVariants.{Write}
use Rattle.computed_runs.proofs.Computing.{computing}
use Rattle.computed_runs.proofs.Given.{event, request, stamp}
use Rattle.computed_runs.proofs.Rows.ChainOfFour.{first, ordering}
use Rattle.el_model.specs.Conflicts.{retains}
use Rattle.el_base.specs.Winners.{winner_over}
use Rattle.el_base.proofs.Laws.Cases.{false_true, not_both, some_none}
use Rattle.el_base.proofs.Laws.Tests.{false_between as no_section_meets}
use Rattle.el_model.specs.Next.{next, state_after}
use Rattle.el_model.specs.State.{ModelState, hart_of, is_live}
use Rattle.mail.specs.Mailbox.{Marker, Probe, has_message}
use Rattle.removal_laws.specs.Laws.{IsDelivered, LosesToEarlier, WaitsWithLeast, attempt_of}
use Rattle.stamp.specs.Stamps.{Stamp, is_before, less_of}

-- all three have ordered their requests, and no message is delivered yet
abbrev ordered : ModelState
ordered = state_after first ordering

abbrev oldest : Request
oldest = request 0 1025 Write (Some (stamp 0 0))

-- hart 0 waits with the least stamp
least_at_first : (g : ℕ) → g ≢ 0 → is_live ordered g ≡ true → is_before oldest.stamp (attempt_of ordered g) ≡ true
unfolding computing
least_at_first zero apart live = absurd (apart refl)
least_at_first (suc zero) apart live = refl
least_at_first (suc (suc zero)) apart live = refl
least_at_first (suc (suc (suc zero))) apart live = refl
least_at_first (suc (suc (suc (suc g)))) apart live = false_true live

waits_with_least : WaitsWithLeast ordered 0 1025 oldest
unfolding computing
waits_with_least = record { waits = refl; least = least_at_first }

-- and yet hart 1 retains the line, as long as hart 0's probe has not reached it
retained_at_first : retains ordered 1 1025 ≡ true
unfolding computing
retained_at_first = refl

-- a wrong statement: no section retains the line, delivered or not
abbrev NeverRetained : ModelState → Type 0
NeverRetained state =
    (h g line : ℕ) (request : Request) → WaitsWithLeast state h line request → retains state g line ≡ false

retained_before_delivery : NeverRetained ordered → ⊥
retained_before_delivery never = not_both retained_at_first (never 0 1 1025 oldest waits_with_least)

-- all messages are delivered but the last, which is the probe of hart 0 to hart 1
abbrev delivering : List Event
delivering =
    event Deliver 0 ∷ event Deliver 3 ∷ event Deliver 3 ∷ event Deliver 2 ∷ event Deliver 2 ∷ event Deliver 2 ∷
    event Deliver 1 ∷
    event Deliver 1 ∷ []

abbrev probed : ModelState
probed = state_after ordered delivering

-- it costs hart 1 its section, and hart 0 waits with the less stamp
probe_beats : winner_over (next probed (event Deliver 1)).outcome 1 ≡ Some 0
unfolding computing
probe_beats = refl

abbrev delivered : ModelState
delivered = (next probed (event Deliver 1)).state

lost_to_oldest : LosesToEarlier delivered 1 0
unfolding computing
lost_to_oldest = record { request = oldest; waits = refl; earlier = refl; seen = λ stamp is. zero_seen stamp is }
  where
    zero_seen : (stamp : Stamp) → Some (record { clock = 0; hart = 0 }) ≡ Some stamp → stamp.clock ≤ 0
    zero_seen stamp is = let e : stamp ≡ record { clock = 0; hart = 0 } = cc in rw e (omega arith)

-- the loser's stamp is not the less one
later_winner : is_before (attempt_of delivered 1) oldest.stamp ≡ false
unfolding computing
later_winner = refl

-- now no mailbox has a message
empty_box : (h : ℕ) → (hart_of delivered h).mail ≡ []
unfolding computing
empty_box zero = refl
empty_box (suc zero) = refl
empty_box (suc (suc zero)) = refl
empty_box (suc (suc (suc zero))) = refl
empty_box (suc (suc (suc (suc h)))) = refl

is_delivered : IsDelivered delivered 1025
is_delivered = record {
  no_marker = λ h sender request on. ap (λ box. has_message box (Marker sender)) (empty_box h);
  no_probe = λ h origin request on. ap (λ box. has_message box (Probe origin)) (empty_box h);
}

-- and no section retains the line
free_for_all : (g : ℕ) → retains delivered g 1025 ≡ false
unfolding computing
free_for_all zero = refl
free_for_all (suc zero) = refl
free_for_all (suc (suc zero)) = refl
free_for_all (suc (suc (suc zero))) = refl
free_for_all (suc (suc (suc (suc g)))) = no_section_meets (not (2 == suc (suc (suc (suc g))))) false

-- a wrong statement: the hart with the greatest stamp loses to nobody
abbrev GreatestNeverLoses : ModelState → Type 0
GreatestNeverLoses state =
    (event : Event) (h : ℕ) (stamp : Stamp) → attempt_of state h ≡ Some stamp →
    ((g : ℕ) (other : Stamp) → g ≢ h → attempt_of state g ≡ Some other → less_of other stamp ≡ true) →
    winner_over (next state event).outcome h ≡ None

-- hart 3, as hart 2 was served
abbrev served : ModelState
served = (next delivered (event Serve 2)).state

attempt_of_3 : attempt_of served 3 ≡ Some (stamp 0 3)
unfolding computing
attempt_of_3 = refl

greatest_at_3 : (g : ℕ) (other : Stamp) → g ≢ 3 → attempt_of served g ≡ Some other → less_of other (stamp 0 3) ≡ true
unfolding computing
greatest_at_3 zero other apart is = let e : other ≡ stamp 0 0 = cc in rw e refl
greatest_at_3 (suc zero) other apart is = let e : other ≡ stamp 0 1 = cc in rw e refl
greatest_at_3 (suc (suc zero)) other apart is = let e : other ≡ stamp 0 2 = cc in rw e refl
greatest_at_3 (suc (suc (suc zero))) other apart is = absurd (apart refl)
greatest_at_3 (suc (suc (suc (suc g)))) other apart is = absurd (cc)

named_3 : winner_over (next served (event Serve 3)).outcome 3 ≡ Some 0
unfolding computing
named_3 = refl

greatest_loses : GreatestNeverLoses served → ⊥
greatest_loses never = some_none (sym named_3 ∙ never (event Serve 3) 3 (stamp 0 3) attempt_of_3 greatest_at_3)
