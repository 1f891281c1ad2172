-- one event of a run: a section that was live or begins has ended, or is live
use Rattle.std.proofs.Common.{◌≡◌, ◌∙◌, ◌+◌, ◌==◌, ◌&&◌, ℕ, Bool, cond, List, [], ◌∷◌, ◌++◌, is_some, ap, arith}
use Rattle.el_base.specs.Config.{IsInRange}
use Rattle.el_base.specs.Winners.{winner_over}
use Rattle.el_base.specs.declared.config.Config.{Config}
use Rattle.el_base.specs.declared.entries.Entry.{Entry}
use Rattle.el_base.specs.declared.events.Event.{Event}
use Rattle.el_base.specs.declared.outcomes.Outcome.{Outcome}
use Rattle.elf_image.specs.Program.{Program}
use Rattle.el_model.proofs.Laws.Folds.{entries_from-append, state_after-append}
use Rattle.el_model.specs.Next.{after, entries_from, next}
use Rattle.el_model.specs.State.{begin, is_live}
use Rattle.section_laws.proofs.Laws.Accounts.{begun_sections_are_accounted_for}
use Rattle.section_laws.specs.Sections.{begins, commits, count_of, is_began, is_committed, is_rolled_back, loses}
use Rattle.section_laws.specs.Sections.{rolls_back}

abbrev pub one : Bool → ℕ
one test = cond test 1 0

abbrev pub Balanced : Bool → Outcome → ℕ → Bool → Bool → Type 0
Balanced own outcome h was now =
    one was + one (own && is_began outcome)
    ≡ one (own && is_committed outcome) + one (own && is_rolled_back outcome)
    + one (is_some (winner_over outcome h)) + one now

count_of-push : (test : Entry → Bool) (entries : List Entry) (entry : Entry) →
    count_of test (entries ++ entry ∷ []) ≡ count_of test entries + one (test entry)
count_of-push test [] entry = omega arith
count_of-push test (first ∷ entries) entry = let rest = count_of-push test entries entry in omega arith

pub balanced : (program : Program) (config : Config) (events : List Event) (event : Event) (h : ℕ) →
    program.harts ≡ config.harts → IsInRange config → (let state = after program config events in
    Balanced (event.hart.number == h) (next state event).outcome h (is_live state h)
    (is_live (next state event).state h))
balanced program config events event h same range =
    let state = after program config events in
    let from = begin program config in
    let entry : Entry = record { event = event; outcome = (next state event).outcome } in
    let earlier = begun_sections_are_accounted_for program config events h same range in
    let later = begun_sections_are_accounted_for program config (events ++ event ∷ []) h same range in
    let entries : entries_from from (events ++ event ∷ []) ≡ entries_from from events ++ entry ∷ [] =
    entries_from-append from events (event ∷ []) in
    let live : one (is_live (after program config (events ++ event ∷ [])) h)
    ≡ one (is_live (next state event).state h) =
    ap (λ s. one (is_live s h)) (state_after-append from events (event ∷ [])) in
    let b = ap (count_of (begins h)) entries ∙ count_of-push (begins h) (entries_from from events) entry in
    let c = ap (count_of (commits h)) entries ∙ count_of-push (commits h) (entries_from from events) entry in
    let r = ap (count_of (rolls_back h)) entries ∙ count_of-push (rolls_back h) (entries_from from events) entry in
    let l = ap (count_of (loses h)) entries ∙ count_of-push (loses h) (entries_from from events) entry in
    omega (arith, earlier, later, live, b, c, r, l)
