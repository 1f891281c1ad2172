-- who has a live section: what the bus keeps of it tells what the definition says
use Rattle.std.proofs.Common.{◌≡◌, ◌∙◌, ℕ, ◌≤◌, ◌==◌, ◌&&◌, not, Bool, true, false, List, None, is_some, refl, ap, sym}
use Rattle.std.proofs.Common.{arith}
use Rattle.std.proofs.lemmas.Bool.{not-true}
use Rattle.std.proofs.lemmas.Bool.Decides.{nat_tests}
use Rattle.std.proofs.Math.Bool.{and-false, and-true}
use Rattle.bus_agent.specs.Agent.{agent_at}
use Rattle.residency.specs.Cache.{cleared, has_marks}
use Rattle.residency.specs.Residency.{Way}
use Rattle.residency.proofs.Laws.Unmarked.{unmarked-cleared}
use Rattle.el_model.specs.Plain.{armed_count}
use Rattle.el_model.specs.State.{Hart, ModelState, hart_of, is_live, new_hart}
use Rattle.snoop.specs.Shows.{BusState, Shows, lives, lives_at}
use Rattle.el_base.proofs.Laws.Tests.{number_of_test, second_of_both}

-- where a hart is not armed, some line has a bit exactly where it has a live section
pub lives_unarmed : (cache : List (List Way)) (count : ℕ) → count ≡ 0 → lives cache count ≡ has_marks cache
lives_unarmed cache count none = ap (lives cache) none ∙ and-true (has_marks cache)

-- an armed hart has no live section
pub lives_armed : (cache : List (List Way)) (count : ℕ) → 1 ≤ count → lives cache count ≡ false
lives_armed cache count some =
    let armed : (count == 0) ≡ false = grind (arith, nat_tests) in
    ap (λ none. has_marks cache && none) armed ∙ and-false (has_marks cache)

-- for an armed hart the bits are no matter
pub lives_alike : (one other : List (List Way)) (count : ℕ) → (count ≡ 0 → has_marks one ≡ has_marks other) →
    lives one count ≡ lives other count
lives_alike one other count alike = by (count == 0) refl
  where
    by : (test : Bool) → (count == 0) ≡ test → (has_marks one && test) ≡ (has_marks other && test)
    by true none = ap (λ marks. marks && true) (alike (number_of_test count 0 none))
    by false some = and-false (has_marks one) ∙ sym (and-false (has_marks other))

-- a hart of which the bus tells whether it has a live section: it has one exactly where some line of its cache has a
-- bit and it is not armed, and an armed one has run an instruction
pub record TellsSection (hart : Hart) : Type 0 where
  pub live : is_some hart.section ≡ lives hart.cache (armed_count hart.armed)
  pub arms : is_some hart.armed ≡ not (armed_count hart.armed == 0)

pub tells : {bus : BusState} {state : ModelState} → Shows bus state → (h : ℕ) → TellsSection (hart_of state h)
tells shows h = record { live = shows.live h; arms = shows.arms h }

pub tells_yet : (old new : Hart) → new.section ≡ old.section → new.armed ≡ old.armed → new.cache ≡ old.cache →
    TellsSection old → TellsSection new
tells_yet old new section armed cache was = record {
  live = rw (section, armed, cache) was.live;
  arms = rw armed was.arms;
}

-- a hart past the last one, one that is out of its section, and one that is not armed any more
pub tells_nothing : TellsSection (new_hart 0)
tells_nothing = record { live = refl; arms = refl }

pub tells_cleared : (hart : Hart) (cache : List (List Way)) → is_some hart.section ≡ false → hart.armed ≡ None →
    hart.cache ≡ cleared cache → TellsSection hart
tells_cleared hart cache section armed is = record {
  live = section ∙ rw (armed, is) (sym (lives_unarmed (cleared cache) 0 refl ∙ unmarked-cleared cache));
  arms = rw armed refl;
}

-- a hart with a live section is not armed
pub live_unarmed : (hart : Hart) → TellsSection hart → is_some hart.section ≡ true → armed_count hart.armed ≡ 0
live_unarmed hart told live =
    number_of_test (armed_count hart.armed) 0 (second_of_both (has_marks hart.cache) _ (sym told.live ∙ live))

-- and an armed one has none
pub armed_lifeless : (hart : Hart) → TellsSection hart → is_some hart.armed ≡ true → is_some hart.section ≡ false
armed_lifeless hart told armed =
    told.live ∙ ap (λ none. has_marks hart.cache && none) (not-true _ (sym told.arms ∙ armed))
    ∙ and-false (has_marks hart.cache)

-- the test that the bus makes
pub lives_shown : (bus : BusState) (state : ModelState) (h : ℕ) → Shows bus state → lives_at bus h ≡ is_live state h
lives_shown bus state h shows =
    ap (λ cache. lives cache (agent_at bus.agents h).armed) (shows.caches h)
    ∙ ap (λ agent. lives (hart_of state h).cache agent.armed) (shows.agents h)
    ∙ sym (shows.live h)
