-- a step is one deed of its hart, in the frame
use Rattle.std.proofs.Common.{◌≡◌, ◌≢◌, ◌∙◌, ℕ, zero, suc, Bool, true, false, not, List, [], ◌∷◌, Option, None, Some}
use Rattle.std.proofs.Common.{is_some, refl, ap, sym, inl}
use Rattle.std.proofs.Common.{inr, if◌then◌else◌, ◌==◌, ◌&&◌}
use Rattle.std.specs.Prelude.{◌⊎◌, slice_index_or, slice_set}
use Rattle.std.proofs.lemmas.Option.{same_Some}
use Rattle.std.proofs.lemmas.Bool.{and_parts, not-false, not-true}
use Rattle.residency.specs.Cache.{letter_of, room_of}
use Rattle.el_base.specs.Line.{line_number}
use Rattle.el_base.specs.declared.outcomes.Cause.{Cause}
use Rattle.el_base.specs.declared.outcomes.Cause.TheVariants.{Room, Lines, Long, Call, Mixed}
use Rattle.el_base.specs.declared.outcomes.Need.TheVariants as needs
use Rattle.el_base.proofs.Laws.Cases.{none_some}
use Rattle.el_model.specs.Armed as rules
use Rattle.el_model.specs.Armed.{ArmedRule, armed_turn, by_armed_rule, completes, exchange_rule, is_quiet, may_grow}
use Rattle.el_model.specs.Armed.{quiet_rule, shown_armed}
use Rattle.el_model.specs.Conflicts.{is_wanted_to_write}
use Rattle.el_model.specs.Deed as deeds
use Rattle.el_model.specs.Deed.{GoesFurther, GoesOn, HasRoom, IsArmed, IsDeed, IsElidable, IsInside, IsOutside}
use Rattle.el_model.specs.Deed.{IsPermitted, IsReserving, IsShort, MustRollBack}
use Rattle.el_model.specs.Deed.{WantsBit, is_open, is_refused, permits}
use Rattle.el_model.specs.InSection as inside
use Rattle.el_model.specs.InSection.{SectionRule, bit_rule, by_section_rule, is_covered, is_full, section_turn}
use Rattle.el_model.specs.InSection.{shown_in}
use Rattle.el_model.specs.Next.{going_turn, outside_turn, stalled, status_turn, step_turn}
use Rattle.el_model.specs.Plain as outside
use Rattle.el_model.specs.Plain.{PlainRule, by_plain_rule, elidable_reserve, elidable_swap, may_elide, plain_turn}
use Rattle.el_model.specs.Plain.{reserve_rule, swap_rule}
use Rattle.el_model.specs.State.{Armed, Hart, ModelState, Section, armed_of, cache_of, has_request, hart_of, idle}
use Rattle.el_model.specs.State.{new_hart, section_of}
use Rattle.el_model.specs.Upcoming.{Swap, Touch, calls_or_stops, changes_word, is_load_reserved, is_release}
use Rattle.el_model.specs.Upcoming.{is_store_conditional, is_swap}
use Rattle.el_model.specs.Upcoming.{next_conditional, next_reserved, next_swap, next_touch, stores_to_word}
use Rattle.el_model.proofs.Laws.Tests.{by_test}
use Rattle.moesi.specs.Letters.{may_read}
use Rattle.rv_alu.specs.declared.view.HartStatus.{HartStatus}
use Rattle.rv_alu.specs.declared.view.HartStatus.TheVariants.{Running, Exited, Trapped}
use Rattle.rv_flat.specs.FlatState.{status_of, view_of}
use Rattle.rv_flat.specs.Laws.{next_insn}
use Rattle.rv_word.specs.declared.insn.Insn.{Insn}
use Rattle.rv_word.specs.declared.insn.Insn.TheVariants as insns

-- a hart that becomes what it is
own_set : (harts : List Hart) (h : ℕ) (none : Hart) → slice_set harts h (slice_index_or harts h none) ≡ harts
own_set [] h none = refl
own_set (hart ∷ harts) zero none = refl
own_set (hart ∷ harts) (suc h) none = ap (λ others. hart ∷ others) (own_set harts h none)

rests : (state : ModelState) (h : ℕ) → status_of state.committed h ≢ Running → IsDeed state h (idle state)
rests state h stopped = record {
  deed = deeds.Rests;
  where_it = stopped;
  turn_is = sym (ap (λ harts. idle (record state { harts = harts })) (own_set state.harts h (new_hart 0)));
}

waits : (state : ModelState) (h : ℕ) → status_of state.committed h ≡ Running → has_request state h ≡ true →
    IsDeed state h (stalled state)
waits state h running asked = record {
  deed = deeds.Waits;
  where_it = record { running = running; waits = asked };
  turn_is = sym (ap (λ harts. stalled (record state { harts = harts })) (own_set state.harts h (new_hart 0)));
}

-- what a rule outside of a section comes to
abbrev Outside : ModelState → ℕ → PlainRule → Type 0
Outside state h rule = IsDeed state h (by_plain_rule state h rule)

-- no acquire that may be elided comes next
record Ordinary (state : ModelState) (h : ℕ) : Type 0 where
  unelided : (swap : Swap) → IsElidable state h swap → changes_word swap ≡ false
  unarming : (word : ℕ) → IsReserving state h word → is_open state h word ≡ false

-- an instruction by this touch, which the hart may make
run_deed : (state : ModelState) (h : ℕ) → IsOutside state h → Ordinary state h → (touch : Option Touch) →
    next_touch state.committed h ≡ touch → IsPermitted state h touch → Outside state h (outside.Runs touch)
unfolding by_plain_rule
run_deed state h out ordinary touch is may = record {
  deed = deeds.Runs touch;
  where_it =
      record {
        outside = out;
        unelided = ordinary.unelided;
        unarming = ordinary.unarming;
        touches = is;
        permitted = may;
      };
  turn_is = refl;
}

touch_deed : (state : ModelState) (h : ℕ) → IsOutside state h → Ordinary state h → (touch : Option Touch) →
    next_touch state.committed h ≡ touch → Outside state h (outside.touch_rule state h touch)
unfolding by_plain_rule
touch_deed state h out ordinary None is = run_deed state h out ordinary None is tt
touch_deed state h out ordinary (Some touch) is =
    by_test (Outside state h) (permits state h touch) (outside.Runs (Some touch)) (outside.Misses touch.line touch.need)
    (run_deed state h out ordinary (Some touch) is)
    (λ refused. record {
      deed = deeds.Misses touch.line touch.need;
      where_it = inl (record { outside = out; why = inl (record { touches = is; refused = refused }) });
      turn_is = refl;
    })

-- an acquire that misses the line of its word
acquire_misses : (state : ModelState) (h : ℕ) (swap : Swap) → IsOutside state h → IsElidable state h swap →
    (may_read (letter_of (cache_of state h) (line_number swap.word)) ≡ false)
    ⊎ (is_wanted_to_write state h (line_number swap.word) ≡ true) →
    Outside state h (outside.Misses (line_number swap.word) needs.Read)
unfolding by_plain_rule
acquire_misses state h swap out elidable why = record {
  deed = deeds.Misses (line_number swap.word) needs.Read;
  where_it =
      inl (record {
        outside = out;
        why = inr (record { swap = swap; elidable = elidable; line_is = refl; need_is = refl; refused = why });
      });
  turn_is = refl;
}

begins : (state : ModelState) (h : ℕ) (swap : Swap) → deeds.MayBegin state h swap →
    Outside state h (outside.Begins swap)
unfolding by_plain_rule
begins state h swap may = record { deed = deeds.Begins swap; where_it = may; turn_is = refl }

-- the swap that may be elided is one
elidable_is : (state : ModelState) (h : ℕ) (swap : Swap) (trusted : Bool) →
    may_elide state.config.mode (hart_of state h) (view_of state.committed h).pc ≡ trusted →
    (if trusted then next_swap state.committed h else None) ≡ Some swap → IsElidable state h swap
elidable_is state h swap true trusted is = record { trusted = trusted; next = is }
elidable_is state h swap false trusted is = absurd (cc)

elidable_found : (state : ModelState) (h : ℕ) (swap : Swap) → IsElidable state h swap →
    elidable_swap state h ≡ Some swap
elidable_found state h swap elidable = rw (elidable.trusted, elidable.next) refl

-- the same of the LR at which a hart may arm
reserving_is : (state : ModelState) (h word : ℕ) (trusted : Bool) →
    may_elide state.config.mode (hart_of state h) (view_of state.committed h).pc ≡ trusted →
    (if trusted then next_reserved state.committed h else None) ≡ Some word → IsReserving state h word
reserving_is state h word true trusted is = record { trusted = trusted; next = is }
reserving_is state h word false trusted is = absurd (cc)

reserving_found : (state : ModelState) (h word : ℕ) → IsReserving state h word → elidable_reserve state h ≡ Some word
reserving_found state h word reserving = rw (reserving.trusted, reserving.next) refl

-- a swap is no LR
swap_no_reserve : (insn : Option Insn) → is_swap insn ≡ true → is_load_reserved insn ≡ false
swap_no_reserve (Some (insns.Amo op rd rs1 rs2 aq rl)) is = refl
swap_no_reserve _ is = absurd (cc)

chosen : {A : Type 0} (test : Bool) (found : Option A) (x : A) → (if test then found else None) ≡ Some x → test ≡ true
chosen true found x is = refl
chosen false found x is = absurd (cc)

swap_reserves_not : (state : ModelState) (h word : ℕ) (swap : Swap) → IsElidable state h swap →
    IsReserving state h word → ⊥
swap_reserves_not state h word swap elidable reserving =
    let insn = next_insn state.committed h in
    let swaps = chosen (is_swap insn) _ swap elidable.next in
    let reserves = chosen (is_load_reserved insn) _ word reserving.next in
    true_false (sym reserves ∙ swap_no_reserve insn swaps)
  where
    true_false : true ≡ false → ⊥
    true_false same = absurd (cc)

arms : (state : ModelState) (h word : ℕ) → deeds.MayArm state h word → Outside state h (outside.Arms word)
unfolding by_plain_rule
arms state h word may = record { deed = deeds.Arms word; where_it = may; turn_is = refl }

reserve_deed : (state : ModelState) (h : ℕ) → IsOutside state h →
    ((swap : Swap) → IsElidable state h swap → changes_word swap ≡ false) → (found : Option ℕ) →
    elidable_reserve state h ≡ found → Outside state h (reserve_rule state h found)
reserve_deed state h out unelided None is =
    touch_deed state h out
    (record {
      unelided = unelided;
      unarming = λ word reserving. absurd (none_some (sym is ∙ reserving_found state h word reserving));
    })
    (next_touch state.committed h) refl
reserve_deed state h out unelided (Some word) is =
    by_test (Outside state h) (is_open state h word) (outside.Arms word) _
    (λ may. arms state h word
    (record { outside = out; reserving = reserving_is state h word _ refl is; may_open = may }))
    (λ closed.
    touch_deed state h out
    (record {
      unelided = unelided;
      unarming =
          λ other is_other.
          ap (is_open state h) (same_Some _ _ (sym (reserving_found state h other is_other) ∙ is)) ∙ closed;
    })
    (next_touch state.committed h) refl)

swap_deed : (state : ModelState) (h : ℕ) → IsOutside state h → (found : Option Swap) → elidable_swap state h ≡ found →
    Outside state h (swap_rule state h found)
swap_deed state h out None is =
    reserve_deed state h out (λ swap elidable. absurd (none_some (sym is ∙ elidable_found state h swap elidable)))
    (elidable_reserve state h) refl
swap_deed state h out (Some swap) is =
    let elidable = elidable_is state h swap _ refl is in
    let line = line_number swap.word in
    by_test (Outside state h) (not (may_read (letter_of (cache_of state h) line))) (outside.Misses line needs.Read) _
    (λ refused. acquire_misses state h swap out elidable (inl (not-true _ refused)))
    (λ readable.
    by_test (Outside state h) (not (changes_word swap)) (outside.touch_rule state h (next_touch state.committed h)) _
    (λ same.
    touch_deed state h out
    (record {
      unelided =
          λ other is_other. ap changes_word (same_Some _ _ (sym (elidable_found state h other is_other) ∙ is))
          ∙ not-true _ same;
      unarming = λ word reserving. absurd (swap_reserves_not state h word swap elidable reserving);
    })
    (next_touch state.committed h) refl)
    (λ changes.
    by_test (Outside state h) (is_wanted_to_write state h line) (outside.Misses line needs.Read) (outside.Begins swap)
    (λ wanted. acquire_misses state h swap out elidable (inr wanted))
    (λ unwanted.
    begins state h swap
    (record {
      outside = out;
      elidable = elidable;
      changes = not-false _ changes;
      readable = not-false _ readable;
      unwanted = unwanted;
    }))))

plain_deed : (state : ModelState) (h : ℕ) → IsOutside state h → IsDeed state h (plain_turn state h)
unfolding plain_turn
plain_deed state h out = swap_deed state h out (elidable_swap state h) refl

-- what a rule of an armed hart comes to
abbrev WhileArmed : ModelState → ℕ → Armed → ArmedRule → Type 0
WhileArmed state h armed rule = IsDeed state h (by_armed_rule state h armed rule)

lets_go : (state : ModelState) (h : ℕ) (armed : Armed) → deeds.MustLetGo state h armed →
    WhileArmed state h armed rules.LetsGo
unfolding by_armed_rule
lets_go state h armed must = record { deed = deeds.LetsGo armed; where_it = must; turn_is = refl }

continues : (state : ModelState) (h : ℕ) (armed : Armed) → deeds.MayContinue state h armed →
    WhileArmed state h armed rules.Continues
unfolding by_armed_rule
continues state h armed may = record { deed = deeds.Continues armed; where_it = may; turn_is = refl }

elides : (state : ModelState) (h : ℕ) (armed : Armed) (swap : Swap) → deeds.MayElide state h armed swap →
    WhileArmed state h armed (rules.Elides swap)
unfolding by_armed_rule
elides state h armed swap may = record { deed = deeds.Elides armed swap; where_it = may; turn_is = refl }

-- an SC that succeeds is not quiet
conditional_is_loud : (a b c d : Bool) → b ≡ true → ((not a && not b && not c) && d) ≡ false
conditional_is_loud true true c d is = refl
conditional_is_loud false true c d is = refl
conditional_is_loud a false c d is = absurd (cc)

quiet_deed : (state : ModelState) (h : ℕ) (armed : Armed) → IsArmed state h armed →
    next_conditional (shown_armed state h armed) h ≡ None → WhileArmed state h armed (quiet_rule state h armed)
quiet_deed state h armed is none =
    let shown = shown_armed state h armed in
    by_test (WhileArmed state h armed) (is_quiet shown h && may_grow state armed) rules.Continues rules.LetsGo
    (λ both.
    let parts = and_parts _ _ both in
    continues state h armed (record { is_armed = is; quiet = parts.0; grows = parts.1 }))
    (λ ends.
    lets_go state h armed
    (record { is_armed = is; incomplete = λ swap found. absurd (none_some (sym none ∙ found)); ends = ends }))

exchange_deed : (state : ModelState) (h : ℕ) (armed : Armed) → IsArmed state h armed → (found : Option Swap) →
    next_conditional (shown_armed state h armed) h ≡ found →
    WhileArmed state h armed (exchange_rule state h armed found)
exchange_deed state h armed is None found = quiet_deed state h armed is found
exchange_deed state h armed is (Some swap) found =
    let shown = shown_armed state h armed in
    by_test (WhileArmed state h armed) (completes state h armed swap) (rules.Elides swap) rules.LetsGo
    (λ completing. elides state h armed swap (record { is_armed = is; next = found; completing = completing }))
    (λ incomplete.
    lets_go state h armed
    (record {
      is_armed = is;
      incomplete = λ other next. ap (completes state h armed) (same_Some _ _ (sym next ∙ found)) ∙ incomplete;
      ends =
          conditional_is_loud (is_some (next_touch shown h)) (is_store_conditional (next_insn shown h))
          (calls_or_stops shown h)
          (may_grow state armed) (chosen (is_store_conditional (next_insn shown h)) _ swap found);
    }))

armed_deed : (state : ModelState) (h : ℕ) (armed : Armed) → IsArmed state h armed →
    IsDeed state h (armed_turn state h armed)
unfolding armed_turn
armed_deed state h armed is = exchange_deed state h armed is (next_conditional (shown_armed state h armed) h) refl

outside_deed : (state : ModelState) (h : ℕ) → status_of state.committed h ≡ Running → has_request state h ≡ false →
    section_of state h ≡ None → (armed : Option Armed) → armed_of state h ≡ armed →
    IsDeed state h (outside_turn state h armed)
outside_deed state h running free none None is =
    plain_deed state h (record { running = running; free = free; no_section = none; unarmed = is })
outside_deed state h running free none (Some armed) is =
    armed_deed state h armed (record { running = running; free = free; no_section = none; armed_is = is })

-- what a rule inside of a section comes to
abbrev Inside : ModelState → ℕ → Section → SectionRule → Type 0
Inside state h section rule = IsDeed state h (by_section_rule state h section rule)

rolls_back : (state : ModelState) (h : ℕ) (section : Section) (cause : Cause) → MustRollBack state h section cause →
    Inside state h section (inside.RollsBack cause)
unfolding by_section_rule
rolls_back state h section cause must = record { deed = deeds.RollsBack section cause; where_it = must; turn_is = refl }

buffers : (state : ModelState) (h : ℕ) (section : Section) (touch : Option Touch) →
    deeds.MayBuffer state h section touch → Inside state h section (inside.Buffers touch)
unfolding by_section_rule
buffers state h section touch may = record { deed = deeds.Buffers section touch; where_it = may; turn_is = refl }

commits : (state : ModelState) (h : ℕ) (section : Section) → deeds.MayCommit state h section →
    Inside state h section inside.Commits
unfolding by_section_rule
commits state h section may = record { deed = deeds.Commits section; where_it = may; turn_is = refl }

misses_inside : (state : ModelState) (h : ℕ) (section : Section) (touch : Touch) → HasRoom state h section touch →
    is_refused state h touch ≡ true → Inside state h section (inside.Misses touch.line touch.need)
unfolding by_section_rule
misses_inside state h section touch room refused = record {
  deed = deeds.Misses touch.line touch.need;
  where_it = inr (record { section = section; room = room; refused = refused });
  turn_is = refl;
}

bit_deed : (state : ModelState) (h : ℕ) (section : Section) (touch : Touch) → GoesFurther state h section →
    next_touch (shown_in state h section) h ≡ Some touch → Inside state h section (bit_rule state h touch)
bit_deed state h section touch goes is =
    by_test (Inside state h section) (is_covered (cache_of state h) touch.line touch.need)
    (inside.Buffers (Some touch)) _
    (λ covered. buffers state h section (Some touch) (record { goes = goes; touches = is; coverable = inl covered }))
    (λ uncovered.
    let wants : WantsBit state h section touch = record { goes = goes; touches = is; uncovered = uncovered } in
    by_test (Inside state h section) (is_full state h touch.need) (inside.RollsBack Lines) _
    (λ full. rolls_back state h section Lines (record { touch = touch; wants = wants; full = full }))
    (λ not_full.
    by_test (Inside state h section) (not (room_of state.config.ways (cache_of state h) touch.line))
    (inside.RollsBack Room) _
    (λ no_room. rolls_back state h section Room (record { touch = touch; wants = wants; no_room = not-true _ no_room }))
    (λ has_room.
    let room : HasRoom state h section touch =
    record { wants = wants; not_full = not_full; room = not-false _ has_room } in
    by_test (Inside state h section) (is_refused state h touch) (inside.Misses touch.line touch.need)
    (inside.Buffers (Some touch))
    (λ refused. misses_inside state h section touch room refused)
    (λ granted.
    buffers state h section (Some touch) (record { goes = goes; touches = is; coverable = inr (room, granted) })))))

bits_deed : (state : ModelState) (h : ℕ) (section : Section) → GoesFurther state h section → (touch : Option Touch) →
    next_touch (shown_in state h section) h ≡ touch → Inside state h section (inside.touch_rule state h touch)
bits_deed state h section goes None is =
    buffers state h section None (record { goes = goes; touches = is; coverable = tt })
bits_deed state h section goes (Some touch) is = bit_deed state h section touch goes is

section_deed : (state : ModelState) (h : ℕ) (section : Section) → IsInside state h section →
    IsDeed state h (section_turn state h section)
unfolding section_turn
section_deed state h section live =
    let shown = shown_in state h section in
    by_test (Inside state h section) (section.count == state.config.long) (inside.RollsBack Long) _
    (λ long. rolls_back state h section Long (record { inside = live; long = long }))
    (λ short.
    let is_short : IsShort state h section = record { inside = live; short = short } in
    by_test (Inside state h section) (calls_or_stops shown h) (inside.RollsBack Call) _
    (λ calls. rolls_back state h section Call (record { is_short = is_short; calls = calls }))
    (λ calls_not.
    let goes_on : GoesOn state h section = record { is_short = is_short; calls = calls_not } in
    by_test (Inside state h section) (is_release shown h section.word section.old) inside.Commits _
    (λ releases. commits state h section (record { goes_on = goes_on; releases = releases }))
    (λ further.
    by_test (Inside state h section) (stores_to_word shown h section.word) (inside.RollsBack Mixed) _
    (λ mixes. rolls_back state h section Mixed (record { goes_on = goes_on; releases = further; mixes = mixes }))
    (λ keeps.
    bits_deed state h section (record { goes_on = goes_on; releases = further; mixes = keeps })
    (next_touch shown h) refl))))

going_deed : (state : ModelState) (h : ℕ) → status_of state.committed h ≡ Running → has_request state h ≡ false →
    (section : Option Section) → section_of state h ≡ section → IsDeed state h (going_turn state h section)
going_deed state h running free None is = outside_deed state h running free is (armed_of state h) refl
going_deed state h running free (Some section) is =
    section_deed state h section (record { running = running; free = free; live = is })

status_deed : (state : ModelState) (h : ℕ) (status : HartStatus) → status_of state.committed h ≡ status →
    IsDeed state h (status_turn state h status)
status_deed state h Running is =
    by_test (IsDeed state h) (has_request state h) (stalled state) (going_turn state h (section_of state h))
    (λ asked. waits state h is asked)
    (λ free. going_deed state h is free (section_of state h) refl)
status_deed state h (Exited code) is = rests state h (λ runs. absurd (cc))
status_deed state h (Trapped cause pc) is = rests state h (λ runs. absurd (cc))

pub step_deed : (state : ModelState) (h : ℕ) → IsDeed state h (step_turn state h)
unfolding step_turn
step_deed state h = status_deed state h (status_of state.committed h) refl

-- a section that is rolled back is one
pub is_rolled : (state : ModelState) (h : ℕ) (section : Section) (cause : Cause) → MustRollBack state h section cause →
    IsInside state h section
is_rolled state h section Long must = must.inside
is_rolled state h section Call must = must.is_short.inside
is_rolled state h section Mixed must = must.goes_on.is_short.inside
is_rolled state h section Lines must = must.wants.goes.goes_on.is_short.inside
is_rolled state h section Room must = must.wants.goes.goes_on.is_short.inside
