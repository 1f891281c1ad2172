-- what is kept of each hart as its request comes and goes
use Rattle.std.proofs.Common.{◌≡◌, ◌≢◌, ◌∙◌, ℕ, ◌<◌, ◌==◌, Bool, true, false, List, Option, Some, None, set, ap, refl}
use Rattle.std.proofs.Common.{sym}
use Rattle.std.specs.Option.{option_map}
use Rattle.std.proofs.lemmas.Grind.{get_or-set_at}
use Rattle.std.proofs.lemmas.List.{get_or-set_other, length-set}
use Rattle.el_base.proofs.Laws.Tests.{apart_by_test, number_of_test}
use Rattle.bus_order.specs.Kept.{KeepsEach, kept_of}
use Rattle.bus_order.specs.Order.{Request, appended, in_front_of, numbered, removed, request_of}
use Rattle.bus_order.specs.declared.request.Request as requests
use Rattle.bus_order.proofs.Laws.LookUps.{request_of_appended_other, request_of_appended_own}
use Rattle.bus_order.proofs.Laws.LookUps.{request_of_in_front_of_other, request_of_in_front_of_own}
use Rattle.bus_order.proofs.Laws.LookUps.{request_of_removed_other, request_of_removed_own}

-- one hart's request has changed, and it is what is kept of the hart now
kept_changed : (old new : List Request) (kept : List (Option requests.Request)) (hart : ℕ)
    (found : Option requests.Request) → hart < 8 → option_map numbered found ≡ request_of new hart →
    ((other : ℕ) → hart ≢ other → request_of new other ≡ request_of old other) → KeepsEach old kept →
    KeepsEach new (set kept hart found)
kept_changed old new kept hart found small own others keeps = record {
  count = length-set kept hart found ∙ keeps.count;
  each = λ other below. by other below (hart == other) refl;
}
  where
    by : (other : ℕ) → other < 8 → (b : Bool) → (hart == other) ≡ b →
        kept_of (set kept hart found) other ≡ request_of new other
    by other below true e =
        let same = number_of_test hart other e in
        ap (option_map numbered) (get_or-set_at kept hart other found None (sym same) (rw keeps.count small))
        ∙ own
        ∙ ap (request_of new) same
    by other below false e =
        let apart = apart_by_test hart other e in
        ap (option_map numbered) (get_or-set_other kept hart other found None (λ same. apart (sym same)))
        ∙ keeps.each other below
        ∙ sym (others other apart)

module _ (order : List Request) (kept : List (Option requests.Request)) (keeps : KeepsEach order kept) where
  module _ (request : requests.Request) (none : request_of order request.hart.number ≡ None) where
    pub kept_appended : (new : List Request) → new ≡ appended order (numbered request) →
        KeepsEach new (set kept request.hart.number (Some request))
    kept_appended new is =
        rw is
        (kept_changed order (appended order (numbered request)) kept request.hart.number (Some request)
        request.hart.small
        (sym (request_of_appended_own order (numbered request) none))
        (request_of_appended_other order (numbered request))
        keeps)

    pub kept_in_front : (new : List Request) → new ≡ in_front_of order (numbered request) →
        KeepsEach new (set kept request.hart.number (Some request))
    kept_in_front new is =
        rw is
        (kept_changed order (in_front_of order (numbered request)) kept request.hart.number (Some request)
        request.hart.small
        (sym (request_of_in_front_of_own order (numbered request) none))
        (request_of_in_front_of_other order (numbered request))
        keeps)

  pub kept_removed : (hart : ℕ) → hart < 8 → (new : List Request) → new ≡ removed order hart →
      KeepsEach new (set kept hart None)
  kept_removed hart small new is =
      rw is
      (kept_changed order (removed order hart) kept hart None small
      (sym (request_of_removed_own order hart))
      (request_of_removed_other order hart)
      keeps)
