-- where nothing is in the way of a read, no other hart's section has written its line
use Rattle.std.proofs.Common.{◌≡◌, ◌≢◌, ◌∙◌, ◌<◌, ◌+◌, ◌==◌, ℕ, zero, suc, Bool, true, false, ◌&&◌, not, List, [], ◌∷◌}
use Rattle.std.proofs.Common.{length, Option, None, Some}
use Rattle.std.proofs.Common.{is_some, refl, ap, sym, arith, if◌then◌else◌}
use Rattle.std.specs.List.{list_any}
use Rattle.bus_order.specs.Order.{IsOneEach, Request, first_of, request_of}
use Rattle.bus_order.proofs.Laws.Queues.{hart_of_request_of, request_of_first_of}
use Rattle.residency.specs.Cache.{bit_in, has_marks, set_number, set_of, way_of}
use Rattle.residency.specs.Residency.{Way, is_marked, way_in}
use Rattle.residency.proofs.Laws.Unmarked.{bare_at}
use Rattle.el_base.specs.declared.outcomes.Need.TheVariants.{Read, Write}
use Rattle.el_base.specs.declared.outcomes.Why.{Why}
use Rattle.el_base.proofs.Laws.Tests.{apart_by_test, first_not, number_of_test, other_test, second_not}
use Rattle.el_model.specs.Conflicts.{conflicts_with, first_such, meets_bit, retainer_of, retains}
use Rattle.el_model.specs.Serve.{Free, Obstacle, blocks_if, obstacle_to, other_head}
use Rattle.el_model.specs.State.{Armed, Hart, ModelState, Section, armed_of, cache_of, count_up, hart_of, head_of}
use Rattle.el_model.specs.State.{ordered_of, section_of}
use Rattle.el_model.proofs.Laws.Tests.{by_test}
use Rattle.section_laws.specs.EachHart.{HasBitsOnlyInside, HasNoOtherBit}
use Rattle.section_laws.proofs.Laws.SectionSteps.{live_exists}

abbrev pub NotWritten : Option Way → Type 0
NotWritten None = Unit {0}
NotWritten (Some way) = way.write ≡ false

unmarked_in : (set : List Way) (line : ℕ) → list_any is_marked set ≡ false → NotWritten (way_in set line)
unmarked_in [] line bare = tt
unmarked_in (way ∷ ways) line bare =
    by_test NotWritten (way.line == line) (Some way) (way_in ways line)
    (λ here. second_not way.read way.write (first_not (is_marked way) _ bare))
    (λ other. unmarked_in ways line (second_not (is_marked way) _ bare))

unmarked_way : (cache : List (List Way)) (line : ℕ) → has_marks cache ≡ false → NotWritten (way_of cache line)
unmarked_way cache line bare = unmarked_in (set_of cache line) line (bare_at cache (set_number cache line) bare)

unwritten_way : (way : Option Way) → bit_in Write way ≡ false → NotWritten way
unwritten_way None none = tt
unwritten_way (Some way) none = none

-- nothing is in the way
pub not_blocked : (why : Why) (by : Option ℕ) (other : Obstacle) → blocks_if why by other ≡ Free → by ≡ None
not_blocked why None other free = refl
not_blocked why (Some by) other free = absurd (cc)

pub blocked_else : (why : Why) (by : Option ℕ) (other : Obstacle) → blocks_if why by other ≡ Free → other ≡ Free
blocked_else why None other free = free
blocked_else why (Some by) other free = absurd (cc)

pub none_such : (test : ℕ → Bool) (from number k : ℕ) (harts : List Hart) →
    first_such test (count_up from harts) ≡ None → k < length harts → number ≡ from + k → test number ≡ false
none_such test from number k [] none below is = absurd (omega arith)
none_such test from number zero (hart ∷ harts) none below is =
    let same : number ≡ from = omega (arith, is) in
    rw same (by (test from) refl none)
  where
    by : (found : Bool) → test from ≡ found →
        (if found then Some from else first_such test (count_up (suc from) harts)) ≡ None → found ≡ false
    by true is some = absurd (cc)
    by false is some = refl
none_such test from number (suc k) (hart ∷ harts) none below is =
    none_such test (suc from) number k harts (rest (test from) none) (omega (arith, below)) (omega (arith, is))
  where
    rest : (found : Bool) → (if found then Some from else first_such test (count_up (suc from) harts)) ≡ None →
        first_such test (count_up (suc from) harts) ≡ None
    rest true some = absurd (cc)
    rest false some = some

-- a request in order has a head on its line
pub has_head : (order : List Request) (h : ℕ) (request : Request) → request_of order h ≡ Some request →
    first_of order request.line ≡ None → ⊥
has_head [] h request is none = absurd (cc)
has_head (first ∷ order) h request is none =
    by (first.hart == h) (first.line == request.line) refl
    (λ found absent. has_head order h request found absent) is none
  where
    same_request : (a b : Request) → Some a ≡ Some b → a ≡ b
    same_request a b same = cc

    by : (own on_line : Bool) → (first.line == request.line) ≡ on_line →
        (request_of order h ≡ Some request → first_of order request.line ≡ None → ⊥) →
        (if own then Some first else request_of order h) ≡ Some request →
        (if on_line then Some first else first_of order request.line) ≡ None → ⊥
    by own true test rest is none = absurd (cc)
    by true false test rest is none =
        apart_by_test first.line request.line test (ap (λ r. r.line) (same_request first request is))
    by false false test rest is none = rest is none

pub head_is : (state : ModelState) (h : ℕ) (request : Request) (head : Option Request) → IsOneEach state.order →
    ordered_of state h ≡ Some request → head_of state request.line ≡ head → other_head request.hart head ≡ None →
    head ≡ Some request
head_is state h request None once is found own = absurd (has_head state.order h request is found)
head_is state h request (Some head) once is found own =
    let same = number_of_test head.hart request.hart (mine (head.hart == request.hart) own) in
    let ordered = request_of_first_of state.order request.line head once found in
    sym ordered ∙ ap (request_of state.order) (same ∙ hart_of_request_of state.order h request is) ∙ is
  where
    mine : (own : Bool) → (if own then None else Some head.hart) ≡ None → own ≡ true
    mine true none = refl
    mine false none = absurd (cc)

pub not_met : (other live meets : Bool) → ((other && live) && meets) ≡ false → other ≡ true →
    live ≡ true → meets ≡ false
not_met true true meets none is lives = none
not_met false live meets none is lives = absurd (cc)
not_met true false meets none is lives = absurd (cc)

from_none : (g : ℕ) → g ≡ 0 + g
from_none g = omega arith

-- another hart's section does not meet it
pub unmet : (state : ModelState) (h g : ℕ) (request : Request) (section : Section) → IsOneEach state.order →
    ordered_of state h ≡ Some request → obstacle_to state request ≡ Free → g ≢ request.hart →
    section_of state g ≡ Some section → meets_bit (hart_of state g) request.line request.need ≡ false
unmet state h g request section once is free apart live =
    let own = not_blocked _ (other_head request.hart (head_of state request.line)) _ free in
    let head = head_is state h request (head_of state request.line) once is refl own in
    let retained : retainer_of state request.line ≡ None =
    not_blocked _ (retainer_of state request.line) _ (blocked_else _ _ _ free) in
    let kept =
    none_such (λ k. retains state k request.line) 0 g g state.harts retained (live_exists state g section live)
    (from_none g) in
    let apart_test = ap not (other_test request.hart g (λ same. apart (sym same))) in
    let unmet = sym (ap (λ found. conflicts_with found g (hart_of state g)) head) ∙ kept in
    not_met (not (request.hart == g)) (is_some (section_of state g))
    (meets_bit (hart_of state g) request.line request.need) unmet apart_test
    (ap is_some live)

pub free_line : (state : ModelState) (h g : ℕ) (request : Request) → IsOneEach state.order →
    ((k : ℕ) → HasBitsOnlyInside (section_of state k) (armed_of state k) (cache_of state k)) →
    ((k : ℕ) (armed : Armed) → armed_of state k ≡ Some armed → HasNoOtherBit armed.word (cache_of state k)) →
    ordered_of state h ≡ Some request → obstacle_to state request ≡ Free → g ≢ request.hart → request.need ≡ Read →
    NotWritten (way_of (cache_of state g) request.line)
free_line state h g request once outside reads is free apart read = by_section (section_of state g) refl
  where
    by_armed : (armed : Option Armed) → armed_of state g ≡ armed → section_of state g ≡ None →
        NotWritten (way_of (cache_of state g) request.line)
    by_armed None unarmed none = unmarked_way (cache_of state g) request.line (outside g none unarmed)
    by_armed (Some armed) armed_is none =
        unwritten_way (way_of (cache_of state g) request.line) ((reads g armed armed_is).unwritten request.line)

    by_section : (section : Option Section) → section_of state g ≡ section →
        NotWritten (way_of (cache_of state g) request.line)
    by_section None none = by_armed (armed_of state g) refl none
    by_section (Some section) live =
        let bit = unmet state h g request section once is free apart live in
        unwritten_way (way_of (cache_of state g) request.line)
        (sym (ap (meets_bit (hart_of state g) request.line) read) ∙ bit)
