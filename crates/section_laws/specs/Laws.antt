-- what holds of every state that can be reached
use Rattle.std.specs.Prelude.{ℕ, ◌≡◌, ◌≢◌, true, false, List, None, Some}
use Rattle.bus_order.specs.Order.{IsOneEach, Request}
use Rattle.residency.specs.Cache.{has_bit, way_of, write_bit}
use Rattle.el_base.specs.Config.{IsInRange}
use Rattle.el_base.specs.declared.config.Config.{Config}
use Rattle.el_base.specs.declared.events.Event.{Event}
use Rattle.el_base.specs.declared.outcomes.Need.TheVariants.{Write}
use Rattle.elf_image.specs.Program.{Program}
use Rattle.el_model.specs.Losses.{HartsAreNumbered}
use Rattle.el_model.specs.Next.{after}
use Rattle.el_model.specs.State.{Armed, ModelState, armed_of, cache_of, hart_of, head_of, ordered_of, section_of}
use Rattle.rv_flat.specs.FlatState.{status_of}
use Rattle.section_laws.specs.Coherence.{AreCoherent, AreOwned}
use Rattle.section_laws.specs.EachHart.{AreCounters, HasBitsOnlyInside, HasOneReadBit, HasTriesLeft, IsShortArmed}
use Rattle.section_laws.specs.Once.{AreOnce}
use Rattle.section_laws.specs.Waiting.{RunsWithNothing, WaitsForOne}

-- what is said of a state holds of each that can be reached
abbrev Always : (ModelState → Type 0) → Type 0
Always P = (program : Program) (config : Config) (events : List Event) → P (after program config events)

-- only live and armed sections have bits
abbrev pub OnlyLiveSectionsHaveBits : Type 0
OnlyLiveSectionsHaveBits =
    Always (λ state. (h : ℕ) → HasBitsOnlyInside (section_of state h) (armed_of state h) (cache_of state h))

-- the count of sections lost in a row stays below four
abbrev pub TriesStayBelowFour : Type 0
TriesStayBelowFour = Always (λ state. (h : ℕ) → HasTriesLeft (hart_of state h).tries)

-- a predictor keeps 64 counters, each from 0 to 3
abbrev pub CountersStayInRange : Type 0
CountersStayInRange = Always (λ state. (h : ℕ) → AreCounters (hart_of state h).predictor.counters)

-- a hart has at most one of a raised request, an ordered one and a hold, and none where it has stopped; a raised
-- request is its own hart's, a hart that holds a line has no section, and a hart that has stopped neither
abbrev pub EachHartWaitsForOne : Type 0
EachHartWaitsForOne =
    Always (λ state.
    (h : ℕ) →
    WaitsForOne h (status_of state.committed h) (ordered_of state h) (hart_of state h).section (hart_of state h).raised
    (hart_of state h).held_line)

-- no two requests in order are of one hart
abbrev pub OneOrderedRequestEach : Type 0
OneOrderedRequestEach = Always (λ state. IsOneEach state.order)

-- with as many harts as the configuration has, and that in its range, each request is of a hart that a machine may have
abbrev pub RequestsAreNumbered : Type 0
RequestsAreNumbered =
    (program : Program) (config : Config) (events : List Event) → program.harts ≡ config.harts → IsInRange config →
    HartsAreNumbered (after program config events)

-- no line that is M or E in a cache is in another, and none is O in two
abbrev pub CopiesAreCoherent : Type 0
CopiesAreCoherent = Always (λ state. AreCoherent state)

-- a line that a section has written is M or E in its hart's cache
abbrev pub WrittenLinesMayBeWritten : Type 0
WrittenLinesMayBeWritten = Always (λ state. (h : ℕ) → AreOwned (cache_of state h))

-- and in no other hart's
abbrev pub WrittenLinesAreElsewhereInNoCache : Type 0
WrittenLinesAreElsewhereInNoCache =
    Always (λ state.
    (g h line : ℕ) → g ≢ h → write_bit (cache_of state g) line ≡ true → way_of (cache_of state h) line ≡ None)

-- no set of a cache has a line twice
abbrev pub NoSetHasALineTwice : Type 0
NoSetHasALineTwice = Always (λ state. (h : ℕ) → AreOnce (cache_of state h))

-- an armed section has one bit alone, the read bit of its word's line, which is resident
abbrev pub ArmedSectionsHaveOneReadBit : Type 0
ArmedSectionsHaveOneReadBit =
    Always (λ state. (h : ℕ) (armed : Armed) → armed_of state h ≡ Some armed →
    HasOneReadBit armed.word (cache_of state h))

-- an armed hart runs, and has no request, no hold and no live section
abbrev pub ArmedHartsWaitForNothing : Type 0
ArmedHartsWaitForNothing =
    Always (λ state.
    (h : ℕ) (armed : Armed) → armed_of state h ≡ Some armed →
    RunsWithNothing (status_of state.committed h) (ordered_of state h) (hart_of state h).section
    (hart_of state h).raised
    (hart_of state h).held_line)

-- no hart has a live and an armed section
abbrev pub NoHartIsLiveAndArmed : Type 0
NoHartIsLiveAndArmed =
    Always (λ state. (h : ℕ) (armed : Armed) → armed_of state h ≡ Some armed → section_of state h ≡ None)

-- where the first request of a line is to write, no armed hart but its own has a bit on the line
abbrev pub OrderedWritesMeetNoArmedHart : Type 0
OrderedWritesMeetNoArmedHart =
    Always (λ state.
    (line : ℕ) (head : Request) (h : ℕ) (armed : Armed) → head_of state line ≡ Some head → head.need ≡ Write →
    h ≢ head.hart → armed_of state h ≡ Some armed → has_bit (cache_of state h) line ≡ false)

-- in a configuration in range, an armed section has from 1 to 15 instructions, and fewer than a section may have
abbrev pub ArmedSectionsAreShort : Type 0
ArmedSectionsAreShort =
    (program : Program) (config : Config) (events : List Event) → IsInRange config → (h : ℕ) (armed : Armed) →
    armed_of (after program config events) h ≡ Some armed → IsShortArmed config.long armed
