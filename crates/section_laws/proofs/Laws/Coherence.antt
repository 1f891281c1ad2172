-- in every state that can be reached the copies of a line may be together, and written lines are owned
use Rattle.std.proofs.Common.{◌≡◌, ◌≢◌, ◌∙◌, ◌<◌, ◌≤◌, ◌+◌, ◌==◌, ℕ, zero, suc, Bool, true, false, ◌&&◌, not}
use Rattle.std.proofs.Common.{List, [], ◌∷◌, length, Option, None, Some, is_some, refl, ap, sym, subst, inl, inr, ◌⊎◌}
use Rattle.std.proofs.Common.{arith, if◌then◌else◌}
use Rattle.std.specs.List.{list_any}
use Rattle.std.specs.Prelude.{nat_lt}
use Rattle.std.proofs.lemmas.Bool.{cases_eq, ltb-true, ltb-false}
use Rattle.bus_order.specs.Order.{Request}
use Rattle.residency.specs.Cache.{bit_in, is_resident, letter_in, letter_of, marked, touched, way_of}
use Rattle.residency.specs.Residency.{Way, way_in, with_bit, with_letter}
use Rattle.residency.proofs.Laws.CacheLemmas.{way_of-touched}
use Rattle.residency.proofs.Laws.WellFormedLemmas.{set_of-empty_cache}
use Rattle.el_base.specs.declared.config.Config.{Config}
use Rattle.el_base.specs.declared.events.Event.{Event}
use Rattle.el_base.specs.declared.outcomes.Need.{Need}
use Rattle.el_base.specs.declared.outcomes.Need.TheVariants.{Read, Write}
use Rattle.el_base.proofs.Laws.Cases.{clash}
use Rattle.el_base.proofs.Laws.Tests.{apart_by_test, first_not, number_of_test, other_test, second_not, unrefused}
use Rattle.elf_image.specs.Program.{Program}
use Rattle.el_model.specs.BusEvent.{Becomes, IsBusEvent, Nothing, Places, Serves, Start, StartsWhere, Takes}
use Rattle.el_model.specs.BusEvent.{having_taken, started}
use Rattle.el_model.specs.Deed.{Arms, Begins, Buffers, Commits, Continues, Deed, DoesWhere, Elides, IsCoverable}
use Rattle.el_model.specs.Deed.{IsPermitted, LetsGo, Misses, Rests}
use Rattle.el_model.specs.Deed.{RollsBack, Runs, Waits, hart_after, is_refused, permits}
use Rattle.el_model.specs.InSection.{covered}
use Rattle.el_model.specs.Next.{after, next, step_turn}
use Rattle.el_model.specs.Plain.{after_access, after_touch, candidate_of}
use Rattle.el_model.specs.Serve.{bystander, others_cache, others_have, own_copy, served, served_hart, serving}
use Rattle.el_model.specs.Serve.{with_claim}
use Rattle.el_model.specs.State.{Hart, ModelState, Section, Turn, begin, cache_of, count_up, hart_of, new_hart}
use Rattle.el_model.specs.State.{section_of}
use Rattle.el_model.specs.Upcoming.{Touch}
use Rattle.el_model.proofs.Laws.BusEvents.{by_event}
use Rattle.el_model.proofs.Laws.FromStart.{kept_after}
use Rattle.el_model.proofs.Laws.Harts.{hart_of-each_hart, hart_of-each_hart_past, hart_of-past}
use Rattle.el_model.proofs.Laws.Tests.{by_hart}
use Rattle.moesi.specs.Letters.{may_of, may_write}
use Rattle.moesi.specs.declared.letter.Letter.TheVariants.{M}
use Rattle.section_laws.specs.Laws.{CopiesAreCoherent, WrittenLinesAreElsewhereInNoCache, WrittenLinesMayBeWritten}
use Rattle.section_laws.specs.Coherence.{AreCoherent, AreOwned, IsOwned, MayBeTogether}
use Rattle.el_model.proofs.Laws.EachHart.{Each}
use Rattle.el_model.proofs.Laws.HartParts.{candidate_cache}
use Rattle.section_laws.proofs.Laws.ArmedBits as bits
use Rattle.section_laws.proofs.Laws.EachKept as kept
use Rattle.section_laws.proofs.Laws.FreeLines.{NotWritten, free_line}
use Rattle.section_laws.proofs.Laws.Moves.{Moves, moved, moves_by_ends, step_keeps, taken_keeps}
use Rattle.section_laws.proofs.Laws.NewHarts.{each_new}
use Rattle.section_laws.proofs.Laws.Numbered.{Once, first_once, next_once}
use Rattle.section_laws.proofs.OnlyInside as inside
use Rattle.section_laws.proofs.Serving.{IsModified, own_owned, own_together, steady_others, steady_own, steady_owned}
use Rattle.section_laws.proofs.Serving.{together_none, write_copy}
use Rattle.section_laws.proofs.Steady.{IsSteady, Steady, same_way, steady_cleared, steady_committed, steady_lettered}
use Rattle.section_laws.proofs.Steady.{steady_marked, steady_touched}
use Rattle.section_laws.proofs.Steady.{together_kept, way_twice}

-- harts of which each has only steady changes
abbrev SteadySince : ModelState → ℕ → Hart → Type 0
SteadySince old h hart = IsSteady (cache_of old h) hart.cache

same_cache : (cache : List (List Way)) → IsSteady cache cache
same_cache cache line = same_way (way_of cache line)

steady_moves : (old : ModelState) → Moves (SteadySince old)
steady_moves old = moves_by_ends (λ h hart other now. now)
    (λ h hart now line. way_twice _ (way_of hart.cache line) _ (now line) (steady_cleared hart.cache line))
    (λ h pc hart now line. way_twice _ (way_of hart.cache line) _ (now line) (steady_cleared hart.cache line))

pub record Holds (state : ModelState) : Type 0 where
  pub once : Once state
  pub inside : Each (λ h hart. inside.Holds hart) state
  pub alone : Each (λ h hart. bits.Holds hart) state
  pub together : AreCoherent state
  pub owned : (h : ℕ) → AreOwned (cache_of state h)

-- what steady changes leave
record Stands (state : ModelState) : Type 0 where
  together : AreCoherent state
  owned : (h : ℕ) → AreOwned (cache_of state h)

steady_stands : (state new : ModelState) → Stands state → Each (SteadySince state) new → Stands new
steady_stands state new now steady = record {
  together = λ g h apart line. together_kept _ _ _ _ (steady g line) (steady h line) (now.together g h apart line);
  owned = λ h line. steady_owned (way_of (cache_of state h) line) _ (steady h line) (now.owned h line);
}

-- a deed
mark_steady : (need : Need) (way : Way) → (need ≡ Write → may_write way.letter ≡ true) → Steady way (with_bit need way)
mark_steady Read way may = record { write = λ is. is; owner = λ is. inl is; owned = λ was. was }
mark_steady Write way may = record { write = λ is. is; owner = λ is. inl is; owned = λ was wrote. may refl }

modified_steady : (way : Way) → may_write way.letter ≡ true → Steady way (with_letter M way)
modified_steady way may = record { write = λ is. may; owner = λ is. absurd (cc); owned = λ was wrote. refl }

access_steady : (cache : List (List Way)) (line : ℕ) (need : Need) → may_of (letter_of cache line) need ≡ true →
    IsSteady cache (after_access cache line need)
access_steady cache line Read may l = steady_touched cache line l
access_steady cache line Write may l =
    way_twice _ (way_of (touched cache line) l) _ (steady_touched cache line l)
    (steady_lettered (touched cache line) line M
    (λ way is. modified_steady way
    (sym (ap (λ found. may_write (letter_in found)) (sym (way_of-touched cache line line) ∙ is)) ∙ may)) l)

touch_steady : (state : ModelState) (h : ℕ) (touch : Option Touch) → IsPermitted state h touch →
    IsSteady (cache_of state h) (after_touch (cache_of state h) touch)
touch_steady state h None permitted = same_cache (cache_of state h)
touch_steady state h (Some touch) permitted = access_steady (cache_of state h) touch.line touch.need permitted

marked_steady : (cache : List (List Way)) (line : ℕ) (need : Need) →
    (need ≡ Write → may_write (letter_of cache line) ≡ true) → IsSteady cache (touched (marked cache line need) line)
marked_steady cache line need may l =
    way_twice _ (way_of (marked cache line need) l) _
    (steady_marked cache line need
    (λ way is. mark_steady need way (λ write. sym (ap (λ found. may_write (letter_in found)) is) ∙ may write)) l)
    (steady_touched (marked cache line need) line l)

permitted_of : (state : ModelState) (h : ℕ) (touch : Touch) → is_refused state h touch ≡ false →
    permits state h touch ≡ true
permitted_of state h touch is = unrefused (permits state h touch) _ is

covered_steady : (state : ModelState) (h : ℕ) (section : Section) (touch : Touch) →
    IsCoverable state h section (Some touch) → IsSteady (cache_of state h) (covered (cache_of state h) (Some touch))
covered_steady state h section touch (inl has) = rw has (steady_touched (cache_of state h) touch.line)
covered_steady state h section touch (inr (room, taken)) =
    rw room.wants.uncovered
    (marked_steady (cache_of state h) touch.line touch.need
    (λ write. ap (may_of (letter_of (cache_of state h) touch.line)) (sym write) ∙ permitted_of state h touch taken))

buffered_steady : (state : ModelState) (h : ℕ) (section : Section) (touch : Option Touch) →
    IsCoverable state h section touch → IsSteady (cache_of state h) (covered (cache_of state h) touch)
buffered_steady state h section None coverable = same_cache (cache_of state h)
buffered_steady state h section (Some touch) coverable = covered_steady state h section touch coverable

deed_steady : (state : ModelState) (h : ℕ) (deed : Deed) → DoesWhere state h deed → AreOwned (cache_of state h) →
    IsSteady (cache_of state h) (hart_after state h deed (hart_of state h)).cache
deed_steady state h Rests does owned = same_cache (cache_of state h)
deed_steady state h Waits does owned = same_cache (cache_of state h)
deed_steady state h (Misses line need) does owned = same_cache (cache_of state h)
deed_steady state h (Runs touch) does owned =
    rw (candidate_cache _ _ (candidate_of state h) _) (touch_steady state h touch does.permitted)
deed_steady state h (Begins swap) does owned = marked_steady (cache_of state h) _ Read (λ write. absurd (cc))
deed_steady state h (Buffers section touch) does owned = buffered_steady state h section touch does.coverable
deed_steady state h (Commits section) does owned = steady_committed (cache_of state h) owned
deed_steady state h (RollsBack section cause) does owned = steady_cleared (cache_of state h)
deed_steady state h (Arms word) does owned = marked_steady (cache_of state h) _ Read (λ write. absurd (cc))
deed_steady state h (Elides armed swap) does owned = marked_steady (cache_of state h) _ Read (λ write. absurd (cc))
deed_steady state h (Continues armed) does owned = same_cache (cache_of state h)
deed_steady state h (LetsGo armed) does owned = steady_cleared (cache_of state h)

step_stands : (state : ModelState) (h : ℕ) → Stands state → Stands (step_turn state h).state
step_stands state h now =
    steady_stands state (step_turn state h).state now
    (step_keeps (SteadySince state) state h (λ deed does. deed_steady state h deed does (now.owned h))
    (λ k. same_cache (cache_of state k)))

-- a request is served
claim_steady : (live : Bool) (request : Request) (hart : Hart) →
    (request.need ≡ Write → IsModified (way_of hart.cache request.line)) →
    IsSteady hart.cache (with_claim live request hart).cache
claim_steady false request hart modified = same_cache hart.cache
claim_steady true request hart modified =
    steady_marked hart.cache request.line request.need
    (λ way is. mark_steady request.need way
    (λ write. ap may_write (letter (way_of hart.cache request.line) way is (modified write))))
  where
    letter : (found : Option Way) (way : Way) → found ≡ Some way → IsModified found → way.letter ≡ M
    letter None way is modified = absurd (cc)
    letter (Some found) way is modified = let same : found ≡ way = cc in sym (ap (λ w. w.letter) same) ∙ modified

none_any : (test : ℕ → Bool) (from number k : ℕ) (harts : List Hart) → list_any test (count_up from harts) ≡ false →
    k < length harts → number ≡ from + k → test number ≡ false
none_any test from number k [] none below is = absurd (omega arith)
none_any test from number zero (hart ∷ harts) none below is =
    let same : number ≡ from = omega (arith, is) in rw same (first_not (test from) _ none)
none_any test from number (suc k) (hart ∷ harts) none below is =
    none_any test (suc from) number k harts (second_not (test from) _ none) (omega (arith, below)) (omega (arith, is))

absent_elsewhere : (state : ModelState) (h g line : ℕ) → g ≢ h → g < length state.harts →
    others_have state h line ≡ false → is_resident (cache_of state g) line ≡ false
absent_elsewhere state h g line apart below none =
    and_not (not (g == h)) _ (ap not (other_test g h apart))
    (none_any (λ other. not (other == h) && is_resident (cache_of state other) line) 0 g g state.harts none
    below (omega arith))
  where
    and_not : (a b : Bool) → a ≡ true → (a && b) ≡ false → b ≡ false
    and_not true b is none = none
    and_not false b is none = absurd (cc)

together_turned : (a b : Option Way) → MayBeTogether a b → MayBeTogether b a
together_turned a None now = tt
together_turned None (Some b) now = tt
together_turned (Some a) (Some b) now =
    record {
      one_shared = now.other_shared;
      other_shared = now.one_shared;
      one_owner = λ b_owns a_owns. now.one_owner a_owns b_owns;
    }

-- the cache of a hart as a request is served; past the last hart there is none
abbrev ServedCache : ModelState → Request → ℕ → Type 0
ServedCache state request g =
    (cache_of (served state request) g ≡ []) ⊎
    ((g < length state.harts) × (cache_of (served state request) g ≡ (serving state request g (hart_of state g)).cache))

served_cache : (state : ModelState) (request : Request) (g : ℕ) → ServedCache state request g
unfolding served
served_cache state request g = by (nat_lt g (length state.harts)) refl
  where
    by : (below : Bool) → nat_lt g (length state.harts) ≡ below → ServedCache state request g
    by true is =
        let below = ltb-true g (length state.harts) is in
        inr (below, ap (λ hart. hart.cache) (hart_of-each_hart state (serving state request) g below))
    by false is =
        inl (ap (λ hart. hart.cache)
        (hart_of-each_hart_past state (serving state request) g (ltb-false g (length state.harts) is)))

serving_cache : (state : ModelState) (request : Request) (g : ℕ) (own : Bool) → (g == request.hart) ≡ own →
    (serving state request g (hart_of state g)).cache
    ≡ (if own then served_hart state request (hart_of state g) else bystander state request (hart_of state g)).cache
serving_cache state request g own is =
    ap
    (λ test.
    (if test then served_hart state request (hart_of state g) else bystander state request
    (hart_of state g)).cache) is

abbrev own_line : ModelState → Request → List (List Way)
own_line state request =
    own_copy state.config.ways (others_have state request.hart request.line) request.need
    (cache_of state request.hart) request.line

abbrev own_cache : ModelState → Request → List (List Way)
own_cache state request = (served_hart state request (hart_of state request.hart)).cache

abbrev other_cache : ModelState → Request → ℕ → List (List Way)
other_cache state request g =
    others_cache (is_resident (cache_of state request.hart) request.line) request.need (cache_of state g) request.line

modified_own : (state : ModelState) (request : Request) → request.need ≡ Write →
    IsModified (way_of (own_line state request) request.line)
modified_own state request write =
    let others = others_have state request.hart request.line in
    let cache = cache_of state request.hart in
    subst (λ need. IsModified (way_of (own_copy state.config.ways others need cache request.line) request.line))
    (sym write)
    (write_copy state.config.ways others cache request.line)

own_steady : (state : ModelState) (request : Request) → IsSteady (own_line state request) (own_cache state request)
own_steady state request l =
    let filled = own_line state request in
    way_twice (way_of filled l) (way_of (touched filled request.line) l) (way_of (own_cache state request) l)
    (steady_touched filled request.line l)
    (claim_steady (is_some (section_of state request.hart)) request _
    (λ write. rw (way_of-touched filled request.line request.line) (modified_own state request write)) l)

-- nothing is in the way of a request
record IsFree (state : ModelState) (request : Request) : Type 0 where
  free : (g : ℕ) → g ≢ request.hart → request.need ≡ Read → NotWritten (way_of (cache_of state g) request.line)

other_steady : (state : ModelState) (request : Request) (g : ℕ) → IsFree state request → g ≢ request.hart →
    IsSteady (cache_of state g) (other_cache state request g)
other_steady state request g free apart =
    steady_others (is_resident (cache_of state request.hart) request.line) request.need (cache_of state g) request.line
    (free.free g apart)

own_and_other : (state : ModelState) (request : Request) (g l : ℕ) → IsFree state request → Stands state →
    g ≢ request.hart → g < length state.harts →
    MayBeTogether (way_of (own_cache state request) l) (way_of (other_cache state request g) l)
own_and_other state request g l free now apart below = by (cases_eq l request.line)
  where
    before : (k : ℕ) → MayBeTogether (way_of (cache_of state request.hart) k) (way_of (cache_of state g) k)
    before k = now.together request.hart g (λ same. apart (sym same)) k

    by : (l ≡ request.line) ⊎ (l ≡ request.line → ⊥) →
        MayBeTogether (way_of (own_cache state request) l) (way_of (other_cache state request g) l)
    by (inl same) =
        rw same
        (together_kept (way_of (own_line state request) request.line)
        (way_of (other_cache state request g) request.line) _ _
        (own_steady state request request.line) (same_way (way_of (other_cache state request g) request.line))
        (own_together state.config.ways (others_have state request.hart request.line) request.need
        (cache_of state request.hart) (cache_of state g)
        request.line (absent_elsewhere state request.hart g request.line apart below) (before request.line)))
    by (inr other) =
        together_kept (way_of (cache_of state request.hart) l) (way_of (cache_of state g) l) _ _
        (way_twice _ (way_of (own_line state request) l) _
        (steady_own state.config.ways (others_have state request.hart request.line) request.need
        (cache_of state request.hart) request.line l other)
        (own_steady state request l))
        (other_steady state request g free apart l) (before l)

own_is_owned : (state : ModelState) (request : Request) → Stands state → AreOwned (own_cache state request)
own_is_owned state request now l =
    steady_owned (way_of (own_line state request) l) (way_of (own_cache state request) l) (own_steady state request l)
    (by (cases_eq l request.line))
  where
    by : (l ≡ request.line) ⊎ (l ≡ request.line → ⊥) → IsOwned (way_of (own_line state request) l)
    by (inl same) =
        rw same
        (own_owned state.config.ways (others_have state request.hart request.line) request.need
        (cache_of state request.hart) request.line
        (now.owned request.hart request.line))
    by (inr other) =
        steady_owned (way_of (cache_of state request.hart) l) _
        (steady_own state.config.ways (others_have state request.hart request.line) request.need
        (cache_of state request.hart) request.line l other)
        (now.owned request.hart l)

-- the hart of a number is the served one or another
data Whose (state : ModelState) (request : Request) (g : ℕ) (cache : List (List Way)) : Type 0 where
  Nobody : cache ≡ [] → Whose state request g cache
  Own : g ≡ request.hart → cache ≡ own_cache state request → Whose state request g cache
  Other : g ≢ request.hart → g < length state.harts → cache ≡ other_cache state request g → Whose state request g cache

whose : (state : ModelState) (request : Request) (g : ℕ) → Whose state request g (cache_of (served state request) g)
whose state request g = by (served_cache state request g) (g == request.hart) refl
  where
    by : ServedCache state request g → (own : Bool) → (g == request.hart) ≡ own →
        Whose state request g (cache_of (served state request) g)
    by (inl none) own is = Nobody none
    by (inr (below, cache)) true is =
        let same = number_of_test g request.hart is in
        Own same
        (cache ∙ serving_cache state request g true is
        ∙ ap (λ k. (served_hart state request (hart_of state k)).cache) same)
    by (inr (below, cache)) false is =
        Other (apart_by_test g request.hart is) below (cache ∙ serving_cache state request g false is)

pair_together : (state : ModelState) (request : Request) (g h l : ℕ) (one other : List (List Way)) →
    IsFree state request → Stands state → g ≢ h → Whose state request g one → Whose state request h other →
    MayBeTogether (way_of one l) (way_of other l)
pair_together state request g h l one other free now apart (Nobody none) second = rw none tt
pair_together state request g h l one other free now apart (Own own cache) (Nobody none) =
    rw none (together_none (way_of one l))
pair_together state request g h l one other free now apart (Own own cache) (Own same second) =
    absurd (apart (own ∙ sym same))
pair_together state request g h l one other free now apart (Own own cache) (Other differs below second) =
    rw cache (rw second (own_and_other state request h l free now differs below))
pair_together state request g h l one other free now apart (Other differs below cache) (Nobody none) =
    rw none (together_none (way_of one l))
pair_together state request g h l one other free now apart (Other differs below cache) (Own own second) =
    rw cache (rw second (together_turned (way_of (own_cache state request) l) (way_of (other_cache state request g) l)
    (own_and_other state request g l free now differs below)))
pair_together state request g h l one other free now apart (Other differs below cache) (Other too belows second) =
    rw cache (rw second
    (together_kept (way_of (cache_of state g) l) (way_of (cache_of state h) l) _ _
    (other_steady state request g free differs l)
    (other_steady state request h free too l) (now.together g h apart l)))

one_owned : (state : ModelState) (request : Request) (g : ℕ) (cache : List (List Way)) → IsFree state request →
    Stands state → Whose state request g cache → AreOwned cache
one_owned state request g cache free now (Nobody none) l = rw none tt
one_owned state request g cache free now (Own own is) l = rw is (own_is_owned state request now l)
one_owned state request g cache free now (Other differs below is) l =
    rw is (steady_owned (way_of (cache_of state g) l) _ (other_steady state request g free differs l) (now.owned g l))

served_stands : (state : ModelState) (request : Request) → IsFree state request → Stands state →
    Stands (served state request)
served_stands state request free now = record {
  together =
      λ g h apart l. pair_together state request g h l _ _ free now apart (whose state request g)
      (whose state request h);
  owned = λ g. one_owned state request g _ free now (whose state request g);
}

-- a start changes no cache but that of the hart that is served, and those of the others then
since_served : (state : ModelState) (request : Request) (h : ℕ) → h < length state.harts →
    IsSteady (cache_of (served state request) h) (serving state request h (hart_of state h)).cache
unfolding served
since_served state request h below =
    subst (λ hart. IsSteady hart.cache (serving state request h (hart_of state h)).cache)
    (sym (hart_of-each_hart state (serving state request) h below))
    (same_cache (serving state request h (hart_of state h)).cache)

since_absent : (state : ModelState) (request : Request) (h : ℕ) → length state.harts ≤ h →
    IsSteady (cache_of (served state request) h) (cache_of state h)
unfolding served
since_absent state request h past =
    subst (λ hart. IsSteady hart.cache (cache_of state h))
    (sym (hart_of-each_hart_past state (serving state request) h past))
    (subst (λ hart. IsSteady [] hart.cache) (sym (hart_of-past state h past)) (same_cache []))

bus_stands : {state : ModelState} {by : ℕ} {turn : Turn} → IsBusEvent state by turn → Holds state → Stands state →
    Stands turn.state
bus_stands {state} {by} {turn} done holds now = by_start done.start done.where_it done.becomes
  where
    since : (start : Start) → ((h : ℕ) → SteadySince state h (started state by start h (hart_of state h))) →
        ((h : ℕ) → Becomes state by start h (done.lost h) (hart_of turn.state h)) → Stands turn.state
    since start begun becomes =
        steady_stands state turn.state now
        (λ h. moved (steady_moves state) state by start h (λ past. same_cache (cache_of state h))
        (λ below. begun h) (becomes h))

    by_start : (start : Start) → StartsWhere state by start →
        ((h : ℕ) → Becomes state by start h (done.lost h) (hart_of turn.state h)) →
        Stands turn.state
    by_start Nothing where_it becomes = since Nothing (λ h. same_cache (cache_of state h)) becomes
    by_start (Places request place) where_it becomes =
        since (Places request place)
        (λ h.
        by_hart (SteadySince state h) h request.hart (record (hart_of state h) { raised = None }) (hart_of state h)
        (λ own. same_cache (cache_of state h)) (λ other. same_cache (cache_of state h)))
        becomes
    by_start (Serves request) may becomes =
        steady_stands (served state request) turn.state
        (served_stands state request
        (record {
          free = λ g apart read.
              free_line state by g request holds.once.once holds.inside
              (λ k armed found. ((holds.alone k).1 armed found).no_other) may.ordered
              may.free apart read;
        })
        now)
        (λ h.
        moved (steady_moves (served state request)) state by (Serves request) h (since_absent state request h)
        (since_served state request h) (becomes h))
    by_start (Takes message others) where_it becomes =
        since (Takes message others)
        (λ h.
        by_hart (SteadySince state h) h by (having_taken message others (hart_of state h)) (hart_of state h)
        (λ own. taken_keeps (steady_moves state) message others h (hart_of state h) (same_cache (cache_of state h)))
        (λ other. same_cache (cache_of state h)))
        becomes

next_stands : (state : ModelState) (event : Event) → Holds state → Stands state → Stands (next state event).state
next_stands state event holds now =
    by_event (λ turn. Stands turn.state) state event (λ step. step_stands state event.hart.number now)
    (λ turn done. bus_stands done holds now)

pub next_holds : (state : ModelState) (event : Event) → Holds state → Holds (next state event).state
next_holds state event holds =
    let stands = next_stands state event holds (record { together = holds.together; owned = holds.owned }) in
    record {
      once = next_once state event holds.once;
      inside = kept.next_keeps inside.kept state event holds.inside;
      alone = kept.next_keeps bits.kept state event holds.alone;
      together = stands.together;
      owned = stands.owned;
    }

-- and before the first event
record IsEmpty (hart : Hart) : Type 0 where
  none : (line : ℕ) → way_of hart.cache line ≡ None

new_is_empty : (sets : ℕ) → IsEmpty (new_hart sets)
new_is_empty sets = record { none = λ line. ap (λ set. way_in set line) (set_of-empty_cache sets line) }

pub first_holds : (program : Program) (config : Config) → Holds (begin program config)
first_holds program config = record {
  once = first_once program config;
  inside = kept.first_each inside.kept program config;
  alone = kept.first_each bits.kept program config;
  together = λ g h apart line. rw ((each_new IsEmpty program config new_is_empty g).none line) tt;
  owned = λ h line. rw ((each_new IsEmpty program config new_is_empty h).none line) tt;
}

pub always_holds : (program : Program) (config : Config) (events : List Event) → Holds (after program config events)
always_holds program config events =
    kept_after Holds next_holds (begin program config) events (first_holds program config)

pub copies_are_coherent : CopiesAreCoherent
copies_are_coherent program config events = (always_holds program config events).together

pub written_lines_may_be_written : WrittenLinesMayBeWritten
written_lines_may_be_written program config events = (always_holds program config events).owned

nowhere_else : (one other : Option Way) → bit_in Write one ≡ true → IsOwned one → MayBeTogether one other → other ≡ None
nowhere_else one None wrote owned now = refl
nowhere_else None (Some other) wrote owned now = absurd (cc)
nowhere_else (Some one) (Some other) wrote owned now = clash now.one_shared (owned wrote)

pub written_lines_are_elsewhere_in_no_cache : WrittenLinesAreElsewhereInNoCache
written_lines_are_elsewhere_in_no_cache program config events g h line apart wrote =
    let state = after program config events in
    let holds = always_holds program config events in
    nowhere_else (way_of (cache_of state g) line) (way_of (cache_of state h) line) wrote (holds.owned g line)
    (holds.together g h apart line)
