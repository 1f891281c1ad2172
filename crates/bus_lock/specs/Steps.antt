-- what each step of the lock tells the pass that steps
use Rattle.std.specs.Prelude.{ℕ, ◌≡◌, ◌≢◌, ◌+◌, true, false, List, [], ◌∷◌, ◌++◌, length, ◌-◌, slice_index_or, take}
use Rattle.std.specs.Prelude.{Option, Some}
use mathlib.Core.List.{IsPrefix}
use mathlib.Core.Option.{some}
use Rattle.atomic_table.specs.Seated.{TableId}
use Rattle.atomic_table.specs.Table.{Me, Step}
use Rattle.el_base.specs.declared.entries.Entry.{Entry}
use Rattle.bus_lock.specs.declared.view.View.{View}
use Rattle.bus_lock.specs.Passes.{Account, AreDistinct, longer, place_of_new}

-- the view of a pass that neither waits nor has its turn
abbrev pub at_rest : Account → View
at_rest pass =
    record {
      live = true;
      ticket = 0;
      turn = false;
      opening = pass.opening;
      seen = pass.seen;
      beside = [];
      places = pass.places;
      share = pass.share;
    }

-- the view of a pass that waits with one less than this ticket
abbrev pub waiting : Account → ℕ → View
waiting pass ticket = record (at_rest pass) { ticket = ticket }

-- the view of a pass whose ticket, one less than this, is served
abbrev pub in_turn : Account → ℕ → View
in_turn pass ticket = record (waiting pass ticket) { turn = true }

-- the view that has seen these entries, with the place of the new one if there is one
abbrev pub noted_view : View → List Entry → View
noted_view view entries = record view { seen = entries; places = view.places ++ place_of_new view.seen entries }

-- what a pass with this view knows
abbrev pub account_of : TableId → View → Account
account_of lock view =
    record { lock = lock; opening = view.opening; seen = view.seen; places = view.places; share = view.share }

-- the view that is left where a pass was joined to another
abbrev pub spent : View
spent =
    record {
      live = false;
      ticket = 0;
      turn = false;
      opening = [];
      seen = [];
      beside = [];
      places = [];
      share = [];
    }

-- the one view of a list
abbrev pub only_view : List View → View
only_view views = slice_index_or views 0 spent

-- the view of the first pass
abbrev pub at_first : List ℕ → List Entry → View
at_first opening entries =
    record {
      live = true;
      ticket = 0;
      turn = false;
      opening = opening;
      seen = entries;
      beside = [];
      places = [];
      share = [];
    }

-- the first pass: it has seen the history of the value that the lock was made with, and has the whole share
abbrev pub first_account : TableId → List ℕ → List Entry → Account
first_account lock opening entries = record { lock = lock; opening = opening; seen = entries; places = []; share = [] }

-- a split: the left half keeps the places, and both have seen the same
abbrev pub left_half : View → View
left_half view = record view { share = view.share ++ false ∷ [] }

abbrev pub right_half : View → View
right_half view = record view { places = []; share = view.share ++ true ∷ [] }

-- a join, before the two histories are compared
abbrev pub joined : View → View → View
joined left right =
    record left {
      beside = right.seen;
      places = left.places ++ right.places;
      share = take (length left.share - 1) left.share;
    }

-- the view after that
abbrev pub compared : View → View
compared view = record view { seen = longer view.seen view.beside; beside = [] }

module _ {M : Type 0} where
  -- a ticket is drawn where the word was as expected
  abbrev pub drawn : Step (Option M) → Me (Option M) View → ℕ → Me (Option M) View → Type 0
  drawn step before found after =
      (found ≡ step.first → after ≡ (record before.0 { ticket = found + 1 }, before.1))
      × (found ≢ step.first → after ≡ before)

  -- the value has gone out to this pass, whose turn it is
  pub record HasTaken (entries : M → List Entry) (opening : M → List ℕ)
      (before after : Me (Option M) View) : Type 0 where
    pub value : M
    pub view : after.0 ≡ record before.0 { turn = true; seen = entries value }
    pub holds : after.1 ≡ (0, Some value) ∷ before.1
    pub opening_kept : opening value ≡ before.0.opening
    pub begins : IsPrefix before.0.seen (entries value)

  -- the ticket that is served is this pass's, or another's
  abbrev pub looked : (M → List Entry) → (M → List ℕ) → Step (Option M) → Me (Option M) View → ℕ →
      Me (Option M) View → Type 0
  looked entries opening step before found after =
      (found + 1 ≡ before.0.ticket → HasTaken entries opening before after)
      × (found + 1 ≢ before.0.ticket → after ≡ before)

  -- the new entry of the value that the step announces joins the history
  abbrev pub noted : (M → List Entry) → Step (Option M) → Me (Option M) View → ℕ → Me (Option M) View → Type 0
  noted entries step before found after =
      (value : M) → step.said ≡ some (Some value) →
      after ≡ (
        record before.0 { seen = entries value; places = before.0.places ++ length before.0.seen ∷ [] },
        before.1,
      )

  -- the value has gone back, and the next ticket is served
  abbrev pub opened : Step (Option M) → Me (Option M) View → ℕ → Me (Option M) View → Type 0
  opened step before found after = after ≡ (record before.0 { ticket = 0; turn = false }, [])

  -- of the two histories that were seen the shorter begins the longer, which is kept
  pub record Learns (before after : Me (Option M) View) : Type 0 where
    pub view : after.0 ≡ compared before.0
    pub holds : after.1 ≡ before.1
    pub seen : IsPrefix before.0.seen after.0.seen
    pub beside : IsPrefix before.0.beside after.0.seen
    pub distinct : AreDistinct before.0.places

  abbrev pub learned : Step (Option M) → Me (Option M) View → ℕ → Me (Option M) View → Type 0
  learned step before found after = Learns before after
