-- watches and sections stay short
use Rattle.std.proofs.Common.{◌≡◌, ◌∙◌, ◌+◌, ◌≤◌, ◌==◌, ◌||◌, ℕ, suc, Bool, true, false, List, Option, None, Some}
use Rattle.std.proofs.Common.{is_some, refl}
use Rattle.std.proofs.Common.{ap, sym, subst, arith, if◌then◌else◌}
use Rattle.std.proofs.lemmas.Bool.Decides.{nat_tests}
use Rattle.bus_order.specs.Order.{Request}
use Rattle.el_base.specs.Config.{IsInRange}
use Rattle.el_base.specs.declared.config.Config.{Config}
use Rattle.el_base.specs.declared.events.Event.{Event}
use Rattle.el_base.specs.declared.outcomes.Cause.{Cause}
use Rattle.el_base.specs.declared.outcomes.Cause.TheVariants.{Room, Lines, Long, Call, Mixed}
use Rattle.el_base.proofs.Laws.Ranges.{ranges}
use Rattle.elf_image.specs.Program.{Program}
use Rattle.el_model.specs.Deed.{Arms, Begins, Buffers, Commits, Continues, Deed, DoesWhere, Elides, LetsGo, Misses}
use Rattle.el_model.specs.Deed.{Rests, RollsBack, Runs, Waits, hart_after}
use Rattle.el_model.specs.Next.{after, next}
use Rattle.el_model.specs.Plain.{after_candidate, armed_count, candidate_of, seen_by, watched, watching_from}
use Rattle.el_model.specs.RollBack.{blamed}
use Rattle.el_model.specs.Serve.{with_claim}
use Rattle.el_model.specs.State.{Armed, Hart, ModelState, Section, armed_of, begin, hart_of}
use Rattle.el_model.specs.Upcoming.{Swap}
use Rattle.section_laws.proofs.Laws.Moves.{moves_by_ends}
use Rattle.section_laws.proofs.Laws.NewHarts.{each_new}
use Rattle.el_model.proofs.Laws.FromStart.{next_config}
use Rattle.pair_table.specs.Predictor.{Predictor, Watch, counting, judged, saw_with, verdict_on}
use Rattle.pair_table.specs.declared.seen.Seen.{Seen}
use Rattle.pair_table.specs.declared.verdict.Verdict.{Verdict}
use Rattle.pair_table.specs.declared.verdict.Verdict.TheVariants.{Up, Down}
use Rattle.el_model.proofs.Laws.EachHart.{Each}
use Rattle.run_laws.proofs.Laws.Reached.{kept_along}
use Rattle.section_laws.specs.EachHart.{IsShortArmed}
use Rattle.section_laws.proofs.Laws.ArmedCounts.{armed_sections_are_short}
use Rattle.section_laws.proofs.Laws.EachKept.{BusKept, event_keeps}
use Rattle.step_laws.specs.Counts.{IsSectionShort, IsWatchShort, SectionsAreShort, WatchesAreShort}

-- of a watch and a section that may be there
abbrev WatchShort : ℕ → Option Watch → Type 0
WatchShort long None = Unit {0}
WatchShort long (Some watch) = IsWatchShort long watch

abbrev SectionShort : ℕ → Option Section → Type 0
SectionShort long None = Unit {0}
SectionShort long (Some section) = IsSectionShort long section

record AreShort (long : ℕ) (section : Option Section) (watch : Option Watch) : Type 0 where
  of_section : SectionShort long section
  of_watch : WatchShort long watch

abbrev Holds : ℕ → ℕ → Hart → Type 0
Holds long h hart = AreShort long hart.section hart.predictor.watch

claim_holds : (long h : ℕ) (live : Bool) (request : Request) (hart : Hart) → Holds long h hart →
    Holds long h (with_claim live request hart)
claim_holds long h true request hart now = now
claim_holds long h false request hart now = now

bus_kept : (long : ℕ) → BusKept (Holds long)
bus_kept long = record {
  moves = moves_by_ends (λ h hart other now. now)
      (λ h hart now. record { of_section = tt; of_watch = now.of_watch })
      (λ h pc hart now. now);
  unraised = λ h hart now. now;
  served = λ h state request hart now. claim_holds long h (is_some hart.section) request _ now;
  bystander = λ h state request hart now. now;
}

-- a watch that an instruction leaves open has not reached its end
open_yet : (release other last : Bool) →
    (if release then Some Up else if other || last then Some Down else None) ≡ None → last ≡ false
open_yet true other last none = absurd (cc)
open_yet false true last none = absurd (cc)
open_yet false false true none = absurd (cc)
open_yet false false false none = refl

counted_short : (long : ℕ) (watch : Watch) → ((counting watch).count == long) ≡ false → IsWatchShort long watch →
    IsWatchShort long (counting watch)
counted_short long watch more now =
    let less = now.fewer in
    record { some = omega arith; fewer = grind (arith, nat_tests, more, less) }

judged_short : (long : ℕ) (predictor : Predictor) (watch : Watch) (verdict : Option Verdict) →
    (verdict ≡ None → IsWatchShort long watch) → WatchShort long (judged predictor watch verdict).watch
judged_short long predictor watch (Some verdict) now = tt
judged_short long predictor watch None now = now refl

saw_short : (long : ℕ) (predictor : Predictor) (watch : Option Watch) (seen : Seen) → predictor.watch ≡ watch →
    WatchShort long watch → WatchShort long (saw_with predictor watch seen long).watch
saw_short long predictor None seen is now = rw is tt
saw_short long predictor (Some watch) seen is now =
    let watch_now = counting watch in
    let settles = seen.touches || seen.call_or_stop in
    judged_short long predictor watch_now (verdict_on seen long watch_now.count)
    (λ none. counted_short long watch (open_yet seen.release settles (watch_now.count == long) none) now)

watched_short : (state : ModelState) (h : ℕ) (predictor : Predictor) (watch : Option Watch) →
    WatchShort state.config.long predictor.watch → WatchShort state.config.long (watched state h predictor watch).watch
watched_short state h predictor None now = now
watched_short state h predictor (Some watch) now =
    saw_short state.config.long predictor predictor.watch (seen_by state.committed h watch) refl now

-- the shortest section that may be
abbrev HasTwo : ℕ → Type 0
HasTwo long = 2 ≤ long

watching_short : (long : ℕ) (predictor : Predictor) (had_watch : Bool) (pc : Option ℕ) (swap : Swap) → HasTwo long →
    WatchShort long predictor.watch →
    WatchShort long (if had_watch then predictor else watching_from predictor pc swap).watch
watching_short long predictor true pc swap two now = now
watching_short long predictor false None swap two now = now
watching_short long predictor false (Some pc) swap two now = record { some = omega arith; fewer = omega (arith, two) }

candidate_holds : (long h : ℕ) (pc : Option ℕ) (had_watch : Bool) (candidate : Option Swap) (hart : Hart) →
    HasTwo long → Holds long h hart → Holds long h (after_candidate pc had_watch candidate hart)
candidate_holds long h pc had_watch None hart two now = now
candidate_holds long h pc had_watch (Some swap) hart two now = record {
  of_section = now.of_section;
  of_watch = watching_short long hart.predictor had_watch pc swap two now.of_watch;
}

blamed_short : (long : ℕ) (cause : Cause) (pc : ℕ) (predictor : Predictor) → WatchShort long predictor.watch →
    WatchShort long (blamed cause pc predictor).watch
blamed_short long Room pc predictor now = now
blamed_short long Lines pc predictor now = now
blamed_short long Long pc predictor now = now
blamed_short long Call pc predictor now = now
blamed_short long Mixed pc predictor now = now

-- a section that runs on is not at its longest
longer : (long : ℕ) (section : Section) → (section.count == long) ≡ false → IsSectionShort long section →
    IsSectionShort long (record section { count = section.count + 1 })
longer long section more now =
    let most = now.no_more in record { some = omega arith; no_more = grind (arith, nat_tests, more, most) }

live_short : (long : ℕ) (found : Option Section) (section : Section) → found ≡ Some section → SectionShort long found →
    IsSectionShort long section
live_short long None section is now = absurd (cc)
live_short long (Some found) section is now = let e : found ≡ section = cc in subst (IsSectionShort long) e now

-- a section that begins at the SC of an armed one is as long as that and one more
abbrev ArmedShort : ℕ → ModelState → Type 0
ArmedShort long state = (h : ℕ) (armed : Armed) → armed_of state h ≡ Some armed → IsShortArmed long armed

most_begun : (long : ℕ) (found : Option Armed) → HasTwo long →
    ((armed : Armed) → found ≡ Some armed → IsShortArmed long armed) → suc (armed_count found) ≤ long
most_begun long None two short = omega (arith, two)
most_begun long (Some armed) two short = let within = (short armed refl).within in omega (arith, within)

deed_holds : (state : ModelState) (h : ℕ) (deed : Deed) → DoesWhere state h deed → HasTwo state.config.long →
    ArmedShort state.config.long state → Holds state.config.long h (hart_of state h) →
    Holds state.config.long h (hart_after state h deed (hart_of state h))
deed_holds state h Rests does two armed_short now = now
deed_holds state h Waits does two armed_short now = now
deed_holds state h (Misses line need) does two armed_short now = now
deed_holds state h (Runs touch) does two armed_short now =
    let predictor = (hart_of state h).predictor in
    candidate_holds state.config.long h _ _ (candidate_of state h) _ two
    (record { of_section = now.of_section; of_watch = watched_short state h predictor predictor.watch now.of_watch })
deed_holds state h (Begins swap) does two armed_short now =
    let most = most_begun state.config.long (armed_of state h) two (armed_short h) in
    record { of_section = record { some = omega arith; no_more = omega (arith, most) }; of_watch = tt }
deed_holds state h (Buffers section touch) does two armed_short now =
    let is_short = does.goes.goes_on.is_short in
    record {
      of_section =
          longer state.config.long section is_short.short
          (live_short state.config.long (hart_of state h).section section is_short.inside.live now.of_section);
      of_watch = now.of_watch;
    }
deed_holds state h (Commits section) does two armed_short now = record { of_section = tt; of_watch = now.of_watch }
deed_holds state h (RollsBack section cause) does two armed_short now =
    record {
      of_section = tt;
      of_watch = blamed_short state.config.long cause _ (hart_of state h).predictor now.of_watch;
    }
deed_holds state h (Arms word) does two armed_short now = now
deed_holds state h (Elides armed swap) does two armed_short now =
    let most = most_begun state.config.long (armed_of state h) two (armed_short h) in
    record { of_section = record { some = omega arith; no_more = omega (arith, most) }; of_watch = tt }
deed_holds state h (Continues armed) does two armed_short now = now
deed_holds state h (LetsGo armed) does two armed_short now = now

next_holds : (state : ModelState) (event : Event) → HasTwo state.config.long → ArmedShort state.config.long state →
    Each (Holds state.config.long) state →
    Each (Holds state.config.long) (next state event).state
next_holds state event two armed_short now =
    event_keeps (bus_kept state.config.long) state event
    (λ deed does. deed_holds state event.hart.number deed does two armed_short (now event.hart.number)) now

-- with a configuration in range
record Short (config : Config) (state : ModelState) : Type 0 where
  config_is : state.config ≡ config
  each : Each (Holds config.long) state

next_short : (config : Config) → HasTwo config.long → (state : ModelState) (event : Event) →
    ArmedShort config.long state → Short config state → Short config (next state event).state
next_short config two state event armed_short now =
    let is = ap (λ config. config.long) now.config_is in
    record {
      config_is = next_config state event ∙ now.config_is;
      each =
          subst (λ long. Each (Holds long) (next state event).state) is
          (next_holds state event (subst HasTwo (sym is) two)
          (subst (λ long. ArmedShort long state) (sym is) armed_short)
          (subst (λ long. Each (Holds long) state) (sym is) now.each));
    }

first_short : (program : Program) (config : Config) → Short config (begin program config)
unfolding begin
first_short program config = record {
  config_is = refl;
  each = λ h. each_new (Holds config.long h) program config (λ sets. record { of_section = tt; of_watch = tt }) h;
}

long_in_range : (config : Config) → IsInRange config → HasTwo config.long
long_in_range config range = let long = (ranges config range).long in grind (arith, nat_tests, long)

always_short : (program : Program) (config : Config) (events : List Event) → IsInRange config →
    Short config (after program config events)
always_short program config events range =
    kept_along (Short config) program config
    (λ done event now.
    next_short config (long_in_range config range) (after program config done) event
    (λ h armed is. armed_sections_are_short program config done range h armed is) now)
    (first_short program config) events

watch_short : (long : ℕ) (found : Option Watch) (watch : Watch) → found ≡ Some watch → WatchShort long found →
    IsWatchShort long watch
watch_short long None watch is now = absurd (cc)
watch_short long (Some found) watch is now = let e : found ≡ watch = cc in subst (IsWatchShort long) e now

pub watches_are_short : WatchesAreShort
watches_are_short program config events h watch range is =
    watch_short config.long _ watch is ((always_short program config events range).each h).of_watch

pub sections_are_short : SectionsAreShort
sections_are_short program config events h section range is =
    live_short config.long _ section is ((always_short program config events range).each h).of_section
