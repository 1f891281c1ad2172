-- what an event of one hart changes beside another
use Rattle.std.proofs.Common.{◌≡◌, ◌≢◌, ◌∙◌, ℕ, true, false, ◌||◌, List, Option, None, Some, refl, ap, sym, subst}
use Rattle.std.proofs.Common.{arith}
use Rattle.residency.specs.Cache.{bit_in, has_bit, letter_in, way_of, write_bit}
use Rattle.residency.specs.Residency.{Way}
use Rattle.el_base.specs.declared.outcomes.Need.TheVariants.{Read, Write}
use Rattle.el_base.proofs.Laws.Cases.{not_both}
use Rattle.el_model.specs.Deed.{Arms, Begins, Buffers, Commits, Continues, Deed, DoesWhere, Elides, IsPermitted, LetsGo}
use Rattle.el_model.specs.Deed.{MayRun, Misses, Rests}
use Rattle.el_model.specs.Deed.{RollsBack, Runs, Waits, committed_after}
use Rattle.el_model.specs.State.{Armed, Hart, ModelState, Section, cache_of}
use Rattle.el_model.specs.Upcoming.{Touch}
use Rattle.moesi.specs.Letters.{may_write}
use Rattle.rv_flat.specs.FlatState.{FlatState}
use Rattle.rv_flat.specs.Memory.{AreBytes}
use Rattle.rv_flat.specs.Run.{alone}
use Rattle.section_laws.specs.Coherence.{AreCoherent, MayBeTogether}
use Rattle.el_model.proofs.Laws.EachHart.{Each}
use Rattle.run_laws.proofs.Beside.{WritesElsewhere, armed_beside, commit_beside, same_beside, step_beside}
use Rattle.run_laws.proofs.Laws.WordStores.{releases}
use Rattle.run_laws.specs.PrivateRun.{IsArmedRun, IsChangeBeside, IsCoveredRun}

-- the private run of a hart's section, if it has one, is covered
abbrev pub Covered : FlatState → ℕ → Hart → Type 0
Covered committed h hart = (section : Section) → hart.section ≡ Some section →
    IsCoveredRun committed h hart.cache section

abbrev pub AllCovered : ModelState → Type 0
AllCovered state = Each (Covered state.committed) state

-- so is that of its armed section
abbrev pub ArmedCovered : FlatState → ℕ → Hart → Type 0
ArmedCovered committed h hart = (armed : Armed) → hart.armed ≡ Some armed → IsArmedRun committed h hart.cache armed

abbrev pub AllArmed : ModelState → Type 0
AllArmed state = Each (ArmedCovered state.committed) state

-- what is used of a state that can be reached
pub record Sound (state : ModelState) : Type 0 where
  pub coherent : AreCoherent state
  pub written : (g h line : ℕ) → g ≢ h → write_bit (cache_of state g) line ≡ true →
      way_of (cache_of state h) line ≡ None
  pub bytes : AreBytes state.committed.bytes

bare : (cache : List (List Way)) (line : ℕ) → way_of cache line ≡ None → has_bit cache line ≡ false
bare cache line none = ap (λ way. bit_in Read way || bit_in Write way) none

nowhere : (one other : Option Way) → may_write (letter_in one) ≡ true → MayBeTogether one other → other ≡ None
nowhere one None may now = refl
nowhere None (Some other) may now = absurd (cc)
nowhere (Some one) (Some other) may now = not_both may now.one_shared

-- an instruction outside of a section writes where its hart alone has the line
writes_elsewhere : (state : ModelState) (h g : ℕ) (touch : Option Touch) → g ≢ h → AreCoherent state →
    MayRun state h touch → WritesElsewhere state.committed h (cache_of state g)
writes_elsewhere state h g touch apart coherent may line is =
    let permitted = subst (IsPermitted state h) (sym may.touches ∙ is) may.permitted in
    bare (cache_of state g) line
    (nowhere (way_of (cache_of state h) line) (way_of (cache_of state g) line) permitted
    (coherent h g (λ same. apart (sym same)) line))

pub deed_beside : (state : ModelState) (h g : ℕ) (deed : Deed) → g ≢ h → DoesWhere state h deed → Sound state →
    AllCovered state → AllArmed state →
    IsChangeBeside g (cache_of state g) state.committed (committed_after state h deed)
deed_beside state h g Rests apart does sound covered armed_runs = same_beside g (cache_of state g) state.committed
deed_beside state h g Waits apart does sound covered armed_runs = same_beside g (cache_of state g) state.committed
deed_beside state h g (Misses line need) apart does sound covered armed_runs =
    same_beside g (cache_of state g) state.committed
deed_beside state h g (Runs touch) apart does sound covered armed_runs =
    step_beside state.committed h g (cache_of state g) apart does.outside.running
    (writes_elsewhere state h g touch apart sound.coherent does)
deed_beside state h g (Begins swap) apart does sound covered armed_runs =
    same_beside g (cache_of state g) state.committed
deed_beside state h g (Buffers section touch) apart does sound covered armed_runs =
    same_beside g (cache_of state g) state.committed
deed_beside state h g (Commits section) apart does sound covered armed_runs =
    commit_beside state.committed h g (cache_of state h) (cache_of state g) section apart
    (covered h section does.goes_on.is_short.inside.live)
    (releases (alone state.committed h section.count) h section.word section.old does.releases) sound.bytes
    (λ line wrote. bare (cache_of state g) line (sound.written h g line (λ same. apart (sym same)) wrote))
deed_beside state h g (RollsBack section cause) apart does sound covered armed_runs =
    same_beside g (cache_of state g) state.committed
deed_beside state h g (Arms word) apart does sound covered armed_runs = same_beside g (cache_of state g) state.committed
deed_beside state h g (Elides armed swap) apart does sound covered armed_runs =
    same_beside g (cache_of state g) state.committed
deed_beside state h g (Continues armed) apart does sound covered armed_runs =
    same_beside g (cache_of state g) state.committed
deed_beside state h g (LetsGo armed) apart does sound covered armed_runs =
    armed_beside state.committed h g (cache_of state h) (cache_of state g) armed armed.count apart
    (armed_runs h armed does.is_armed.armed_is)
    (omega arith)
