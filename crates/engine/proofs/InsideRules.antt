-- what the rule of a hart with a live section says
use Rattle.std.proofs.Common.{◌≡◌, ◌∙◌, ℕ, Bool, Option, Some, None, not, refl, ap, subst, ◌==◌, ◌||◌, if◌then◌else◌}
use Rattle.std.proofs.Common.{inl, inr}
use Rattle.std.proofs.lemmas.Bool.{not-false, not-true}
use Rattle.residency.specs.Cache.{letter_of, room_of, write_bits_of}
use Rattle.el_base.specs.declared.outcomes.Cause.TheVariants.{Room, Lines, Long, Call, Mixed}
use Rattle.el_base.specs.declared.outcomes.Need.{Need}
use Rattle.el_base.specs.declared.outcomes.Need.TheVariants.{Read, Write}
use Rattle.el_base.specs.declared.outcomes.Outcome.{Outcome}
use Rattle.el_model.proofs.Laws.Harts.{with_hart_kept}
use Rattle.el_model.proofs.Laws.Tests.{by_test}
use Rattle.el_model.specs.Conflicts.{is_wanted}
use Rattle.el_model.specs.Deed as deeds
use Rattle.el_model.specs.Deed.{GoesFurther, GoesOn, HasRoom, IsInside, IsShort, MayCommit, MustRollBack, WantsBit}
use Rattle.el_model.specs.Deed.{is_refused}
use Rattle.el_model.specs.InSection.{Buffers, Commits, Misses, RollsBack, SectionRule, bit_rule, is_covered, is_full}
use Rattle.el_model.specs.InSection.{section_rule}
use Rattle.el_model.specs.InSection.{section_turn, shown_in, touch_rule}
use Rattle.el_model.specs.State.{ModelState, Section, cache_of, hart_of}
use Rattle.el_model.specs.Upcoming.{Touch, calls_or_stops, is_release, next_touch, stores_to_word}
use Rattle.engine.proofs.Stepped.{runs}
use Rattle.engine.proofs.TakenTurns.{as_well}
use Rattle.engine.specs.Acting.{ActsInside, freed}
use Rattle.engine.specs.Inside.{FollowsRule}
use Rattle.engine.specs.Parts.{Parts}
use Rattle.engine.specs.Turns.{TakesTurn}
use Rattle.moesi.specs.Letters.{may_of}

abbrev pub Says : ModelState → ℕ → Section → SectionRule → Type 0
Says state h section (RollsBack cause) = MustRollBack state h section cause
Says state h section Commits = MayCommit state h section
Says state h section (Buffers touch) = deeds.MayBuffer state h section touch
Says state h section (Misses line need) = HasRoom state h section (record { line = line; need = need })

bit_says : (state : ModelState) (h : ℕ) (section : Section) (touch : Touch) → GoesFurther state h section →
    next_touch (shown_in state h section) h ≡ Some touch → Says state h section (bit_rule state h touch)
bit_says state h section touch goes is =
    by_test (Says state h section) (is_covered (cache_of state h) touch.line touch.need) (Buffers (Some touch)) _
    (λ covered. record { goes = goes; touches = is; coverable = inl covered })
    (λ uncovered.
    let wants : WantsBit state h section touch = record { goes = goes; touches = is; uncovered = uncovered } in
    by_test (Says state h section) (is_full state h touch.need) (RollsBack Lines) _
    (λ full. record { touch = touch; wants = wants; full = full })
    (λ not_full.
    by_test (Says state h section) (not (room_of state.config.ways (cache_of state h) touch.line)) (RollsBack Room) _
    (λ no_room. record { touch = touch; wants = wants; no_room = not-true _ no_room })
    (λ has_room.
    let room : HasRoom state h section touch =
    record { wants = wants; not_full = not_full; room = not-false _ has_room } in
    by_test (Says state h section) (is_refused state h touch) (Misses touch.line touch.need) (Buffers (Some touch))
    (λ refused. room)
    (λ granted. record { goes = goes; touches = is; coverable = inr (room, granted) }))))

touch_says : (state : ModelState) (h : ℕ) (section : Section) → GoesFurther state h section → (touch : Option Touch) →
    next_touch (shown_in state h section) h ≡ touch → Says state h section (touch_rule state h touch)
touch_says state h section goes None is = record { goes = goes; touches = is; coverable = tt }
touch_says state h section goes (Some touch) is = bit_says state h section touch goes is

rule_says : (state : ModelState) (h : ℕ) (section : Section) → IsInside state h section →
    Says state h section (section_rule state h section)
rule_says state h section live =
    let shown = shown_in state h section in
    by_test (Says state h section) (section.count == state.config.long) (RollsBack Long) _
    (λ long. record { inside = live; long = long })
    (λ short.
    let is_short : IsShort state h section = record { inside = live; short = short } in
    by_test (Says state h section) (calls_or_stops shown h) (RollsBack Call) _
    (λ calls. record { is_short = is_short; calls = calls })
    (λ calls_not.
    let goes_on : GoesOn state h section = record { is_short = is_short; calls = calls_not } in
    by_test (Says state h section) (is_release shown h section.word section.old) Commits _
    (λ releases. record { goes_on = goes_on; releases = releases })
    (λ further.
    by_test (Says state h section) (stores_to_word shown h section.word) (RollsBack Mixed) _
    (λ mixes. record { goes_on = goes_on; releases = further; mixes = mixes })
    (λ keeps.
    touch_says state h section (record { goes_on = goes_on; releases = further; mixes = keeps })
    (next_touch shown h) refl))))

pub is_inside : (parts : Parts) (h : ℕ) (from : ModelState) (section : Section) → ActsInside parts h from section →
    IsInside from h section
is_inside parts h from section inside =
    record { running = runs parts h from inside.may; free = inside.may.free; live = inside.live }

-- the rule that it follows says so
pub says : (parts : Parts) (h : ℕ) (from : ModelState) (section : Section) (rule : SectionRule) →
    FollowsRule parts h from section rule → Says from h section rule
says parts h from section rule follows =
    subst (Says from h section) follows.rule_is
    (rule_says from h section (is_inside parts h from section follows.inside))

-- the rule does not depend on what the hart holds
pub freed_cache : (from : ModelState) (h g : ℕ) → cache_of (freed from h) g ≡ cache_of from g
freed_cache from h g = with_hart_kept (λ hart. hart.cache) from h (record (hart_of from h) { held_line = None }) refl g

freed_full : (from : ModelState) (h : ℕ) (need : Need) → is_full (freed from h) h need ≡ is_full from h need
freed_full from h Read = refl
freed_full from h Write = ap (λ cache. write_bits_of cache == from.config.lines) (freed_cache from h h)

freed_wanted : (from : ModelState) (h line : ℕ) (need : Need) →
    is_wanted (freed from h) h line need ≡ is_wanted from h line need
freed_wanted from h line Read = refl
freed_wanted from h line Write = refl

abbrev chosen : Touch → Bool → Bool → Bool → Bool → SectionRule
chosen touch covered full room refused =
    if covered then Buffers (Some touch)
    else if full then RollsBack Lines
    else if not room then RollsBack Room
    else if refused then Misses touch.line touch.need
    else Buffers (Some touch)

freed_bit : (from : ModelState) (h : ℕ) (touch : Touch) → bit_rule (freed from h) h touch ≡ bit_rule from h touch
freed_bit from h touch =
    let line = touch.line in
    let need = touch.need in
    let cache = cache_of from h in
    ap (λ c.
    chosen touch (is_covered c line need) (is_full (freed from h) h need) (room_of from.config.ways c line)
    (not (may_of (letter_of c line) need) || is_wanted (freed from h) h line need))
    (freed_cache from h h)
    ∙ ap (λ full.
    chosen touch (is_covered cache line need) full (room_of from.config.ways cache line)
    (not (may_of (letter_of cache line) need) || is_wanted (freed from h) h line need))
    (freed_full from h need)
    ∙ ap (λ wanted.
    chosen touch (is_covered cache line need) (is_full from h need) (room_of from.config.ways cache line)
    (not (may_of (letter_of cache line) need) || wanted))
    (freed_wanted from h line need)

freed_touch : (from : ModelState) (h : ℕ) (touch : Option Touch) →
    touch_rule (freed from h) h touch ≡ touch_rule from h touch
freed_touch from h None = refl
freed_touch from h (Some touch) = freed_bit from h touch

pub freed_rule : (from : ModelState) (h : ℕ) (section : Section) →
    section_rule (freed from h) h section ≡ section_rule from h section
freed_rule from h section =
    let shown = shown_in from h section in
    ap (λ rule.
    if section.count == from.config.long then RollsBack Long
    else if calls_or_stops shown h then RollsBack Call
    else if is_release shown h section.word section.old then Commits
    else if stores_to_word shown h section.word then RollsBack Mixed
    else rule)
    (freed_touch from h (next_touch shown h))

-- a turn by a rule is that of a hart whose rule it is
pub by_rule : (old new : Parts) (h : ℕ) (section : Section) (rule : SectionRule) (result : Outcome) →
    ((from : ModelState) → ActsInside old h from section → section_rule from h section ≡ rule) →
    TakesTurn (λ from. FollowsRule old h from section rule) (λ from. section_turn from h section) old new result →
    TakesTurn (λ from. ActsInside old h from section) (λ from. section_turn from h section) old new result
by_rule old new h section rule result is takes =
    as_well takes (λ from inside. record { inside = inside; rule_is = is from inside }) (λ from inside. refl)
