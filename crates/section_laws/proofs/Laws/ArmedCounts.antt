-- an armed section has from 1 to 15 instructions, and fewer than a section may have
use Rattle.std.proofs.Common.{◌≡◌, ◌∙◌, ◌≤◌, ℕ, suc, true, Some, is_some, refl, ap, sym, subst, arith}
use Rattle.std.specs.Prelude.{nat_lt}
use Rattle.std.proofs.lemmas.Bool.{and_parts, ltb-true}
use Rattle.std.proofs.lemmas.Option.{same_Some}
use Rattle.el_base.proofs.Laws.Ranges.{at_least, ranges}
use Rattle.el_base.specs.Config.{IsInRange}
use Rattle.el_base.specs.declared.config.Config.{Config}
use Rattle.el_base.specs.declared.events.Event.{Event}
use Rattle.el_base.proofs.Laws.Cases.{none_some}
use Rattle.elf_image.specs.Program.{Program}
use Rattle.el_model.specs.Armed.{may_grow}
use Rattle.el_model.specs.Deed.{Arms, Begins, Buffers, Commits, Continues, Deed, DoesWhere, Elides, LetsGo, Misses}
use Rattle.el_model.specs.Deed.{Rests, RollsBack, Runs, Waits, hart_after}
use Rattle.el_model.specs.Next.{next}
use Rattle.el_model.specs.Plain.{candidate_of}
use Rattle.el_model.specs.State.{Armed, Hart, ModelState, begin, hart_of}
use Rattle.el_model.proofs.Laws.FromStart.{kept_after, next_config}
use Rattle.section_laws.specs.EachHart.{IsShortArmed}
use Rattle.section_laws.specs.Laws.{ArmedSectionsAreShort}
use Rattle.el_model.proofs.Laws.EachHart.{Each}
use Rattle.el_model.proofs.Laws.HartParts.{candidate_armed, claim_armed}
use Rattle.section_laws.proofs.Laws.EachKept.{BusKept, event_keeps}
use Rattle.section_laws.proofs.Laws.Moves.{moves_by_ends}
use Rattle.section_laws.proofs.Laws.NewHarts.{each_new}

abbrev Short : ℕ → Hart → Type 0
Short long hart = (armed : Armed) → hart.armed ≡ Some armed → IsShortArmed long armed

kept : (long : ℕ) → BusKept (λ h hart. Short long hart)
kept long = record {
  moves = moves_by_ends (λ h hart other now. now)
      (λ h hart now armed is. none_some is)
      (λ h pc hart now armed is. none_some is);
  unraised = λ h hart now. now;
  served = λ h state request hart now armed is. now armed (sym (claim_armed (is_some hart.section) request _) ∙ is);
  bystander = λ h state request hart now. now;
}

-- one more instruction
grown : (state : ModelState) (long : ℕ) (armed : Armed) → state.config.long ≡ long → may_grow state armed ≡ true →
    IsShortArmed long armed → IsShortArmed long (record armed { count = suc armed.count })
grown state long armed is grows now =
    let tests = and_parts (nat_lt armed.count 15) (nat_lt (suc armed.count) state.config.long) grows in
    let few = ltb-true armed.count 15 tests.0 in
    let below = ltb-true (suc armed.count) state.config.long tests.1 in
    record { some = omega arith; few = omega (arith, few); within = omega (arith, below, is) }

deed_short : (state : ModelState) (long h : ℕ) (deed : Deed) → state.config.long ≡ long → 2 ≤ long →
    DoesWhere state h deed → Short long (hart_of state h) → Short long (hart_after state h deed (hart_of state h))
deed_short state long h Rests is two does now = now
deed_short state long h Waits is two does now = now
deed_short state long h (Misses line need) is two does now = now
deed_short state long h (Runs touch) is two runs now = λ armed found.
    none_some (sym (candidate_armed _ _ (candidate_of state h) _ ∙ runs.outside.unarmed) ∙ found)
deed_short state long h (Begins swap) is two does now = λ armed found. none_some found
deed_short state long h (Buffers section touch) is two does now = now
deed_short state long h (Commits section) is two does now = λ armed found. none_some found
deed_short state long h (RollsBack section cause) is two does now = λ armed found. none_some found
deed_short state long h (Arms word) is two does now = λ armed found.
    subst (IsShortArmed long) (same_Some _ _ found)
    (record { some = omega arith; few = omega arith; within = omega (arith, two) })
deed_short state long h (Elides armed swap) is two does now = λ other found. none_some found
deed_short state long h (Continues before) is two continues now = λ armed found.
    subst (IsShortArmed long) (same_Some _ _ found)
    (grown state long before is continues.grows (now before continues.is_armed.armed_is))
deed_short state long h (LetsGo armed) is two does now = λ other found. none_some found

record Within (long : ℕ) (state : ModelState) : Type 0 where
  long_is : state.config.long ≡ long
  two : 2 ≤ long
  each : Each (λ h hart. Short long hart) state

next_short : (state : ModelState) (long : ℕ) (event : Event) → Within long state →
    Each (λ h hart. Short long hart) (next state event).state
next_short state long event now =
    let h = event.hart.number in
    event_keeps (kept long) state event
    (λ deed does. deed_short state long h deed now.long_is now.two does (now.each h)) now.each

next_within : (long : ℕ) (state : ModelState) (event : Event) → Within long state → Within long (next state event).state
next_within long state event now = record {
  long_is = ap (λ config. config.long) (next_config state event) ∙ now.long_is;
  two = now.two;
  each = next_short state long event now;
}

first_within : (program : Program) (config : Config) → IsInRange config → Within config.long (begin program config)
unfolding begin
first_within program config range = record {
  long_is = refl;
  two = at_least 2 65536 config.long (ranges config range).long;
  each = each_new (Short config.long) program config (λ sets armed is. none_some is);
}

pub armed_sections_are_short : ArmedSectionsAreShort
armed_sections_are_short program config events range h armed is =
    (kept_after (Within config.long) (next_within config.long) (begin program config) events
    (first_within program config range)).each h armed is
