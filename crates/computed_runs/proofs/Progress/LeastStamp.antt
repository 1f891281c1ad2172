-- the line of the least open stamp at worked states: the premise of the law holds there
use Rattle.std.specs.List.{list_any}
use Rattle.std.specs.Option.{option_map}
use Rattle.std.proofs.Common.{◌≡◌, ◌≢◌, ◌∙◌, ◌++◌, ℕ, zero, suc, true, false, List, [], ◌∷◌, Some, replicate, refl, ap}
use Rattle.std.proofs.Common.{sym}
use Rattle.computed_runs.proofs.Computing.{computing}
use Rattle.computed_runs.proofs.Given.{bytes_of, event, ordered_with, request, served_with, stamp}
use Rattle.computed_runs.proofs.Rows.ChainOfFour as chain
use Rattle.computed_runs.proofs.Rows.Given.{code_at, settings, store_beyond, swap}
use Rattle.el_base.specs.HartId.{hart_id}
use Rattle.el_base.specs.LineAddr.{line_addr}
use Rattle.el_base.specs.declared.config.Config.{Config}
use Rattle.el_base.specs.declared.config.Mode.TheVariants.{Tlr}
use Rattle.el_base.specs.declared.events.Event.{Event}
use Rattle.el_base.specs.declared.events.Kind.TheVariants.{Deliver, Order, Serve, Step}
use Rattle.el_base.specs.declared.outcomes.Need.TheVariants.{Read, Write}
use Rattle.el_base.specs.declared.outcomes.Outcome.TheVariants.{Began, Blocked, Buffered, Missed, Ran}
use Rattle.el_base.specs.declared.outcomes.Why.TheVariants.{Behind}
use Rattle.el_base.proofs.Laws.Cases.{true_false}
use Rattle.el_model.specs.Next.{after, next, outcomes, state_after}
use Rattle.el_model.specs.State.{ModelState, hart_of, head_of}
use Rattle.elf_image.specs.Program.{Program}
use Rattle.progress_laws.proofs.Laws.LineOfLeast.{line_of_least_stamp_moves_on}
use Rattle.progress_laws.specs.LeastStamp.{LeastWaits, MovesOn, is_about}
use Rattle.removal_laws.specs.Laws.{HasLeast, attempt_of, is_served}
use Rattle.stamp.specs.Stamps.{Stamp, less_of}

-- four harts, of which hart 1 has written line B, number 1025, in its section, and harts 2, 3 and 0 wait for B in this
-- order. Hart 0 has the least stamp. All three requests are ordered, and no message is delivered
abbrev waiting : ModelState
waiting = state_after chain.first chain.ordering

-- the marker of hart 3 in the mailbox of hart 0 is about line B
marker_is_about_it : list_any (is_about waiting 1025 0) (hart_of waiting 0).mail ≡ true
unfolding computing
marker_is_about_it = refl

-- each message is delivered, and the last costs hart 1 its section
abbrev delivered : ModelState
delivered =
    state_after waiting
    (event Deliver 0 ∷ event Deliver 3 ∷ event Deliver 3 ∷ event Deliver 2 ∷ event Deliver 2 ∷ event Deliver 2 ∷
    event Deliver 1 ∷
    event Deliver 1 ∷ event Deliver 1 ∷ [])

less_at : (g : ℕ) (other : Stamp) → g ≢ 0 → attempt_of delivered g ≡ Some other → less_of (stamp 0 0) other ≡ true
unfolding computing
less_at zero other apart is = absurd (apart refl)
less_at (suc zero) other apart is = let e : other ≡ stamp 0 1 = cc in rw e refl
less_at (suc (suc zero)) other apart is = let e : other ≡ stamp 0 2 = cc in rw e refl
less_at (suc (suc (suc zero))) other apart is = let e : other ≡ stamp 0 3 = cc in rw e refl
less_at (suc (suc (suc (suc g)))) other apart is = absurd (cc)

has_least : HasLeast delivered 0 (stamp 0 0)
unfolding computing
has_least = record { attempt = refl; least = less_at }

none_about_it : (g : ℕ) → list_any (is_about delivered 1025 g) (hart_of delivered g).mail ≡ false
unfolding computing
none_about_it zero = refl
none_about_it (suc zero) = refl
none_about_it (suc (suc zero)) = refl
none_about_it (suc (suc (suc zero))) = refl
none_about_it (suc (suc (suc (suc g)))) = refl

-- so the premise holds
least_waits : LeastWaits delivered 0 1025
unfolding computing
least_waits = record {
  stamp = stamp 0 0;
  least = has_least;
  request = request 0 1025 Write (Some (stamp 0 0));
  waits = refl;
  delivered = none_about_it;
}

-- and the first request of the line, which is hart 2's, is served
head_is_2 : option_map (λ head. head.hart) (head_of delivered 1025) ≡ Some 2
unfolding computing
head_is_2 = refl

head_is_served : is_served (next delivered (event Serve 2)).outcome ≡ true
unfolding computing
head_is_served = refl

-- hart 0 itself is behind it
behind_2 : (next delivered (event Serve 0)).outcome ≡ Blocked Behind (hart_id 2)
unfolding computing
behind_2 = refl

-- so it is wrong that the hart of the least stamp is itself served then
abbrev LeastIsServed : Type 0
LeastIsServed =
    (state : ModelState) (h line : ℕ) → LeastWaits state h line → is_served (next state (event Serve h)).outcome ≡ true

least_may_wait : LeastIsServed → ⊥
least_may_wait served = true_false (sym (served delivered 0 1025 least_waits) ∙ ap is_served behind_2)

-- a program of two harts: lui x10, 16; addi x5, x0, 1; amoswap.w x7, x5, (x10); sw x5, 64(x10)
abbrev program : Program
program = record {
  base = 65536;
  bytes = replicate 128 0;
  entry = code_at 0;
  harts = 2;
  code =
      record { start = code_at 0; bytes = bytes_of (66871 ∷ 1049235 ∷ swap 7 5 10 ∷ store_beyond 64 5 10 ∷ []) } ∷ [];
}

abbrev config : Config
config = settings 2 Tlr 16 4 16 2000

-- hart 1 writes line B in its section; then hart 0 orders its request for B from its own
-- section, and hart 1 loses to it
abbrev until_ordered : ℕ → List Event
until_ordered h =
    event Step h ∷ event Step h ∷ event Step h ∷ event Order h ∷ event Serve h ∷ event Step h ∷ event Step h ∷
    event Order h ∷ []

abbrev events : List Event
events = until_ordered 1 ++ event Serve 1 ∷ event Step 1 ∷ until_ordered 0

outcomes_are : outcomes program config events
    ≡ Ran ∷ Ran ∷ Missed (line_addr 1024) Read ∷ ordered_with [] [] ∷ served_with [] [] ∷ Began ∷
    Missed (line_addr 1025) Write ∷
    ordered_with [] [] ∷ served_with [] [] ∷ Buffered ∷ Ran ∷ Ran ∷ Missed (line_addr 1024) Read ∷ ordered_with [] [] ∷
    served_with [] [] ∷ Began ∷ Missed (line_addr 1025) Write ∷ ordered_with ((1, 0) ∷ []) [] ∷ []
unfolding computing
outcomes_are = refl

-- hart 1 keeps its stamp, which is the greater one
less_of_two : (g : ℕ) (other : Stamp) → g ≢ 0 → attempt_of (after program config events) g ≡ Some other →
    less_of (stamp 0 0) other ≡ true
unfolding computing
less_of_two zero other apart is = absurd (apart refl)
less_of_two (suc zero) other apart is = let e : other ≡ stamp 0 1 = cc in rw e refl
less_of_two (suc (suc g)) other apart is = absurd (cc)

has_less_of_two : HasLeast (after program config events) 0 (stamp 0 0)
unfolding computing
has_less_of_two = record { attempt = refl; least = less_of_two }

no_message : (g : ℕ) →
    list_any (is_about (after program config events) 1025 g) (hart_of (after program config events) g).mail ≡ false
unfolding computing
no_message zero = refl
no_message (suc zero) = refl
no_message (suc (suc g)) = refl

less_waits : LeastWaits (after program config events) 0 1025
unfolding computing
less_waits = record {
  stamp = stamp 0 0;
  least = has_less_of_two;
  request = request 0 1025 Write (Some (stamp 0 0));
  waits = refl;
  delivered = no_message;
}

-- so the law says something of a state that a program comes to
moves_on : MovesOn (after program config events) 1025
moves_on = line_of_least_stamp_moves_on program config events 0 1025 refl less_waits
