-- the sections of a list of events, one event after another
use Rattle.std.proofs.Common.{◌≡◌, ℕ, ◌+◌, ◌∙◌, List, [], ◌∷◌, ◌++◌, Option, Some, None, length, map, refl, ap, sym}
use Rattle.std.proofs.Common.{arith, add-zero, append_assoc}
use Rattle.std.proofs.lemmas.List.{append-nil, map-append}
use Rattle.el_base.specs.declared.events.Event.{Event}
use Rattle.el_base.specs.declared.hart_id.HartId.{HartId}
use Rattle.el_base.specs.declared.outcomes.Outcome.{Outcome}
use Rattle.el_base.specs.declared.outcomes.Outcome.TheVariants as outcomes
use Rattle.el_model.specs.Next.{next, state_after}
use Rattle.el_model.specs.State.{ModelState, Section, section_of}
use Rattle.lab.proofs.Ends.{end_from-push}
use Rattle.lab.specs.Tries.{Moment, begun_as, begun_in, end_from, end_in, ended_by, first_end, moment_of, noted}
use Rattle.lab.specs.Tries.{of_section, tries_from}
use Rattle.lab.specs.declared.tries.Ended.{Ended}
use Rattle.lab.specs.declared.tries.Ended.TheVariants.{Live}
use Rattle.lab.specs.declared.tries.Try.{Try}

-- the section that an event begins, after a later moment
of_section-ended : (later : Moment) (after : ModelState) (place : ℕ) (hart : HartId) (section : Option Section)
    (ended : Ended) → of_section after place hart section (first_end ended (end_in later hart.number))
    ≡ map (ended_by later) (of_section after place hart section ended)
of_section-ended later after place hart None ended = refl
of_section-ended later after place hart (Some section) ended = refl

begun_as-map : (outcome : Outcome) (becomes : Try → Try) (begun : List Try) →
    begun_as outcome (map becomes begun) ≡ map becomes (begun_as outcome begun)
begun_as-map outcomes.Began becomes begun = refl
begun_as-map _ becomes begun = refl

begun_in-ended : (first later : Moment) (ended : Ended) →
    begun_in first (first_end ended (end_in later first.event.hart.number)) ≡ map (ended_by later)
    (begun_in first ended)
begun_in-ended first later ended =
    let section = section_of first.after first.event.hart.number in
    ap (begun_as first.outcome) (of_section-ended later first.after first.place first.event.hart section ended)
    ∙ begun_as-map first.outcome (ended_by later) (of_section first.after first.place first.event.hart section ended)

-- one event more, at the place behind the others
pub tries_from-push : (state : ModelState) (place here : ℕ) (events : List Event) (event : Event) →
    here ≡ place + length events → tries_from state place (events ++ event ∷ [])
    ≡ noted (moment_of (state_after state events) here event) (tries_from state place events)
tries_from-push state place here [] event at =
    append-nil (begun_in (moment_of state place event) Live)
    ∙ ap (λ p. begun_in (moment_of state p event) Live) (sym (at ∙ add-zero place))
tries_from-push state place here (first ∷ events) event at =
    let after = (next state first).state in
    let later = moment_of (state_after after events) here event in
    let h = first.hart.number in
    let begun = begun_in (moment_of state place first) (end_from after (place + 1) h events) in
    let others = tries_from after (place + 1) events in
    let behind : here ≡ (place + 1) + length events = omega arith in
    ap (λ ended. begun_in (moment_of state place first) ended ++ tries_from after (place + 1) (events ++ event ∷ []))
    (end_from-push after (place + 1) here h events event behind)
    ∙ ap (λ tries. begun_in (moment_of state place first)
    (first_end (end_from after (place + 1) h events) (end_in later h)) ++ tries)
    (tries_from-push after (place + 1) here events event behind)
    ∙ ap (λ list. list ++ noted later others)
    (begun_in-ended (moment_of state place first) later (end_from after (place + 1) h events))
    ∙ sym (append_assoc (map (ended_by later) begun) (map (ended_by later) others) (begun_in later Live))
    ∙ ap (λ list. list ++ begun_in later Live) (sym (map-append (ended_by later) begun others))
