-- which changes of a cache keep the bits of a section, and a covered run is covered by more bits too
use Rattle.std.proofs.Common.{◌≡◌, ◌≢◌, ◌∙◌, ◌==◌, ◌||◌, ℕ, zero, suc, Bool, true, false, List, [], ◌∷◌, Option, None}
use Rattle.std.proofs.Common.{Some, is_some, refl, ap, sym}
use Rattle.std.proofs.Common.{inl, inr, ◌⊎◌, if◌then◌else◌, option_map}
use Rattle.std.specs.Prelude.{slice_index_or}
use Rattle.std.specs.Option.{option_or}
use Rattle.std.proofs.lemmas.Bool.{cases_eq, or_right}
use Rattle.bus_order.specs.Order.{Request}
use Rattle.residency.specs.Cache.{bit_in, evicted_by, filled_with, is_resident, lettered, marked, set_number, set_of}
use Rattle.residency.specs.Cache.{touched, way_of}
use Rattle.residency.specs.Residency.{Way, filled_in, is_marked, victim_in, way_in, with_bit}
use Rattle.residency.proofs.Laws.CacheLemmas.{set_of-with_set_other, way_of-filled_with_other}
use Rattle.residency.proofs.Laws.CacheLemmas.{way_of-marked_other, way_of-marked_same, way_of-touched}
use Rattle.residency.proofs.Laws.CacheLemmas.{way_of-without_line_other}
use Rattle.residency.proofs.Laws.ResidencyLemmas.{evicted_in-victim, victim_in-unmarked}
use Rattle.el_base.proofs.Laws.Cases.{some_none}
use Rattle.el_base.specs.declared.outcomes.Need.{Need}
use Rattle.el_base.specs.declared.outcomes.Need.TheVariants.{Read, Write}
use Rattle.el_base.proofs.Laws.Tests.{other_test, own_test}
use Rattle.el_model.specs.InSection.{covered, is_covered}
use Rattle.el_model.specs.Serve.{others_cache, own_copy, with_claim}
use Rattle.el_model.specs.State.{Armed, Hart, Section}
use Rattle.el_model.specs.Upcoming.{Swap, Touch}
use Rattle.el_model.proofs.Laws.Tests.{by_test}
use Rattle.moesi.specs.declared.letter.Letter.{Letter}
use Rattle.rv_flat.specs.FlatState.{FlatState}
use Rattle.section_laws.specs.Once.{AreOnce, IsOnce}
use Rattle.section_laws.proofs.Laws.Bits.{bit_lettered}
use Rattle.section_laws.proofs.Laws.OnceEach.{once_at}
use Rattle.run_laws.specs.PrivateRun.{HasItsBit, IsAcquire, IsArmedRun, IsCoveredRun, IsCoveredStep}

-- each bit on a line is kept
abbrev pub KeepsBit : List (List Way) → List (List Way) → ℕ → Type 0
KeepsBit old new line = (need : Need) → bit_in need (way_of old line) ≡ true → bit_in need (way_of new line) ≡ true

abbrev pub KeepsBits : List (List Way) → List (List Way) → Type 0
KeepsBits old new = (line : ℕ) → KeepsBit old new line

pub same_bits : (cache : List (List Way)) → KeepsBits cache cache
same_bits cache line need bit = bit

-- a way with one bit more
bit_marked : (more need : Need) (way : Option Way) → bit_in need way ≡ true →
    bit_in need (option_map (with_bit more) way) ≡ true
bit_marked more need None bit = bit
bit_marked Read Read (Some way) bit = refl
bit_marked Read Write (Some way) bit = bit
bit_marked Write Read (Some way) bit = bit
bit_marked Write Write (Some way) bit = refl

new_bit : (need : Need) (way : Option Way) → is_some way ≡ true → bit_in need (option_map (with_bit need) way) ≡ true
new_bit need None some = absurd (cc)
new_bit Read (Some way) some = refl
new_bit Write (Some way) some = refl

-- the words of a cache
pub bits_touched : (cache : List (List Way)) (line : ℕ) → KeepsBits cache (touched cache line)
bits_touched cache line l need bit = ap (bit_in need) (way_of-touched cache line l) ∙ bit

pub bits_lettered : (cache : List (List Way)) (line : ℕ) (letter : Letter) →
    KeepsBits cache (lettered cache line letter)
bits_lettered cache line letter l need bit = bit_lettered cache line l letter need ∙ bit

pub bits_marked : (cache : List (List Way)) (line : ℕ) (more : Need) → KeepsBits cache (marked cache line more)
bits_marked cache line more l need bit = at (cases_eq l line)
  where
    at : (l ≡ line) ⊎ (l ≡ line → ⊥) → bit_in need (way_of (marked cache line more) l) ≡ true
    at (inl same) =
        rw same
        (rw (way_of-marked_same cache line more)
        (bit_marked more need (way_of cache line) (ap (λ l. bit_in need (way_of cache l)) (sym same) ∙ bit)))
    at (inr other) = ap (bit_in need) (way_of-marked_other cache line l more other) ∙ bit

pub marked_has_bit : (cache : List (List Way)) (line : ℕ) (need : Need) → is_resident cache line ≡ true →
    bit_in need (way_of (marked cache line need) line) ≡ true
marked_has_bit cache line need resident =
    ap (bit_in need) (way_of-marked_same cache line need) ∙ new_bit need (way_of cache line) resident

pub bits_twice : (one two three : List (List Way)) (line : ℕ) → KeepsBit one two line → KeepsBit two three line →
    KeepsBit one three line
bits_twice one two three line first second need bit = second need (first need bit)

-- a line that leaves a set for another has no bit
found_victim : (set : List Way) (gone : Way) → IsOnce set → victim_in set ≡ Some gone → way_in set gone.line ≡ Some gone
found_victim [] gone once is = absurd (cc)
found_victim (way ∷ ways) gone (absent, once) is =
    by (victim_in ways) refl (λ found. found_victim ways gone once found) is
  where
    own : (bare : Option Way) (marks : Bool) → (if marks then None else Some way) ≡ Some gone → way ≡ gone
    own bare true is = absurd (cc)
    own bare false is = cc

    by : (later : Option Way) → victim_in ways ≡ later →
        (victim_in ways ≡ Some gone → way_in ways gone.line ≡ Some gone) →
        option_or later (if is_marked way then None else Some way) ≡ Some gone →
        way_in (way ∷ ways) gone.line ≡ Some gone
    by None none rest is =
        let same = own None (is_marked way) is in
        ap (λ line. if way.line == line then Some way else way_in ways line) (sym (ap (λ way. way.line) same))
        ∙ ap (λ test. if test then Some way else way_in ways way.line) (own_test way.line) ∙ ap Some same
    by (Some other) found rest is =
        let there = rest (found ∙ is) in
        let apart : way.line ≢ gone.line = λ line. some_none (sym there ∙ ap (way_in ways) (sym line) ∙ absent) in
        ap (λ test. if test then Some way else way_in ways gone.line)
        (other_test way.line gone.line (λ line. apart line)) ∙ there

no_bit : (need : Need) (way : Way) {X : Type 0} → is_marked way ≡ false → bit_in need (Some way) ≡ true → X
no_bit need way bare bit = by need (way.read) (way.write) bare bit
  where
    by : {X : Type 0} (need : Need) (read write : Bool) → (read || write) ≡ false →
        bit_in need (Some (record { line = way.line; letter = way.letter; read = read; write = write })) ≡ true → X
    by Read true write bare bit = absurd (cc)
    by Read false write bare bit = absurd (cc)
    by Write true write bare bit = absurd (cc)
    by Write false true bare bit = absurd (cc)
    by Write false false bare bit = absurd (cc)

absent_bit : (need : Need) (way : Option Way) {X : Type 0} → is_some way ≡ false → bit_in need way ≡ true → X
absent_bit Read None none bit = absurd (cc)
absent_bit Write None none bit = absurd (cc)
absent_bit need (Some way) none bit = absurd (cc)

pub bits_filled : (ways : ℕ) (cache : List (List Way)) (line : ℕ) (letter : Letter) → AreOnce cache →
    is_resident cache line ≡ false → KeepsBits cache (filled_with ways cache line letter)
bits_filled ways cache line letter once new l need bit =
    by (cases_eq l line) (cases_eq (set_number cache l) (set_number cache line))
  where
    stays : set_number cache l ≡ set_number cache line → (gone : Way) →
        evicted_by ways cache line ≡ Some gone → l ≢ gone.line
    stays home gone is same =
        let victim = evicted_in-victim ways (set_of cache line) gone is in
        let there = found_victim (set_of cache line) gone (once_at cache (set_number cache line) once) victim in
        let own =
        ap (λ place. way_in (slice_index_or cache place []) l) home
        ∙ ap (way_in (set_of cache line)) same ∙ there in
        no_bit need gone (victim_in-unmarked (set_of cache line) gone victim) (ap (bit_in need) (sym own) ∙ bit)

    by : (l ≡ line) ⊎ (l ≡ line → ⊥) →
        (set_number cache l ≡ set_number cache line) ⊎ (set_number cache l ≡ set_number cache line → ⊥) →
        bit_in need (way_of (filled_with ways cache line letter) l) ≡ true
    by (inl same) place =
        absent_bit need (way_of cache line) new (ap (λ l. bit_in need (way_of cache l)) (sym same) ∙ bit)
    by (inr other) (inl home) =
        ap (bit_in need) (way_of-filled_with_other ways cache line l letter other (stays home)) ∙ bit
    by (inr other) (inr away) =
        let way : Way = record { line = line; letter = letter; read = false; write = false } in
        ap (λ set. bit_in need (way_in set l))
        (set_of-with_set_other cache line l (filled_in ways (set_of cache line) way) away) ∙ bit

-- a served request, in its own hart's cache and in another
pub bits_own : (ways : ℕ) (others : Bool) (need : Need) (cache : List (List Way)) (line : ℕ) → AreOnce cache →
    KeepsBits cache (own_copy ways others need cache line)
bits_own ways others need cache line once =
    by_test (KeepsBits cache) (is_resident cache line) _ _ (λ had. bits_lettered cache line _)
    (λ new. bits_filled ways cache line _ once new)

pub bits_others : (had : Bool) (need : Need) (cache : List (List Way)) (line l : ℕ) → (need ≡ Write → l ≢ line) →
    KeepsBit cache (others_cache had need cache line) l
bits_others had Write cache line l apart need bit =
    ap (bit_in need) (way_of-without_line_other cache line l (apart refl)) ∙ bit
bits_others true Read cache line l apart need bit = bit
bits_others false Read cache line l apart need bit = bits_lettered cache line _ l need bit

pub bits_claim : (live : Bool) (request : Request) (hart : Hart) →
    KeepsBits hart.cache (with_claim live request hart).cache
bits_claim true request hart = bits_marked hart.cache request.line request.need
bits_claim false request hart = same_bits hart.cache

-- an instruction of a section
pub bits_covered : (cache : List (List Way)) (touch : Option Touch) → KeepsBits cache (covered cache touch)
bits_covered cache None = same_bits cache
bits_covered cache (Some touch) =
    by_test (λ now. KeepsBits cache (touched now touch.line)) (is_covered cache touch.line touch.need) cache
    (marked cache touch.line touch.need)
    (λ has. bits_touched cache touch.line)
    (λ new l. bits_twice cache (marked cache touch.line touch.need) _ l (bits_marked cache touch.line touch.need l)
    (bits_touched (marked cache touch.line touch.need) touch.line l))

-- what has its bit keeps it, and a covered run stays covered
either : (a b c d : Bool) → (a ≡ true → c ≡ true) → (b ≡ true → d ≡ true) → (a || b) ≡ true → (c || d) ≡ true
either true b c d first second is = ap (λ c. c || d) (first refl)
either false b true d first second is = refl
either false b false d first second is = second is

pub covered_kept : (old new : List (List Way)) (line : ℕ) (need : Need) → KeepsBit old new line →
    is_covered old line need ≡ true → is_covered new line need ≡ true
covered_kept old new line Read keeps is = either _ _ _ _ (keeps Read) (keeps Write) is
covered_kept old new line Write keeps is = keeps Write is

pub bit_kept : (old new : List (List Way)) (touch : Option Touch) → KeepsBits old new → HasItsBit old touch →
    HasItsBit new touch
bit_kept old new None keeps bit = tt
bit_kept old new (Some touch) keeps bit = covered_kept old new touch.line touch.need (keeps touch.line) bit

pub step_kept : (shown : FlatState) (h word : ℕ) (old new : List (List Way)) → KeepsBits old new →
    IsCoveredStep shown h word old → IsCoveredStep shown h word new
step_kept shown h word old new keeps step = record {
  goes_on = step.goes_on;
  unmixed = step.unmixed;
  bit = bit_kept old new _ keeps step.bit;
}

pub armed_kept : (committed : FlatState) (h : ℕ) (old new : List (List Way)) (armed : Armed) → KeepsBits old new →
    IsArmedRun committed h old armed → IsArmedRun committed h new armed
armed_kept committed h old new armed keeps run = record {
  some = run.some;
  reserve = run.reserve;
  read = keeps _ Read run.read;
  running = run.running;
  quiet = run.quiet;
}

pub acquire_kept : (committed : FlatState) (h : ℕ) (old new : List (List Way)) (before : ℕ) (swap : Swap) →
    KeepsBits old new → IsAcquire committed h old before swap → IsAcquire committed h new before swap
acquire_kept committed h old new zero swap keeps is = is
acquire_kept committed h old new (suc n) swap keeps (run, is) = (armed_kept committed h old new _ keeps run, is)

pub run_kept : (committed : FlatState) (h : ℕ) (old new : List (List Way)) (section : Section) → KeepsBits old new →
    IsCoveredRun committed h old section → IsCoveredRun committed h new section
run_kept committed h old new section keeps run = record {
  before = run.before;
  some = run.some;
  acquire = acquire_kept committed h old new run.before _ keeps run.acquire;
  read = keeps _ Read run.read;
  running = run.running;
  inside = λ n some less. step_kept _ h section.word old new keeps (run.inside n some less);
}

-- a line with either bit
pub some_bit : (need : Need) (way : Option Way) → bit_in need way ≡ true → (bit_in Read way || bit_in Write way) ≡ true
some_bit Read way bit = rw bit refl
some_bit Write way bit = or_right (bit_in Read way) (bit_in Write way) bit
