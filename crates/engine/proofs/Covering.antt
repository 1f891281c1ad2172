-- a cache as it gets the bit of what is touched
use Rattle.std.proofs.Common.{◌≡◌, ℕ, ◌||◌, true, List, Option, Some, None, is_some, refl, ap, if◌then◌else◌}
use Rattle.std.proofs.lemmas.Bool.{or_left}
use Rattle.residency.proofs.Laws.MarkLemmas.{has_marks-bit}
use Rattle.residency.proofs.Laws.WellFormedLemmas.{well_formed-marked, well_formed-touched}
use Rattle.residency.specs.Cache.{bit_in, has_marks, is_resident, letter_in, letter_of, marked, read_bit, touched}
use Rattle.residency.specs.Cache.{way_of, write_bit}
use Rattle.residency.specs.Residency.{Way}
use Rattle.residency.specs.WellFormed.{IsWellFormed}
use Rattle.el_base.specs.declared.outcomes.Need.{Need}
use Rattle.el_base.specs.declared.outcomes.Need.TheVariants.{Read, Write}
use Rattle.el_model.proofs.Laws.Tests.{by_test}
use Rattle.el_model.specs.InSection.{covered, is_covered}
use Rattle.el_model.specs.Upcoming.{Touch}
use Rattle.engine.specs.Covered.{with_its_bit}
use Rattle.moesi.specs.Letters.{may_of}
use Rattle.run_laws.proofs.Laws.Bits.{KeepsBits, bits_covered, bits_marked, bits_touched, marked_has_bit, same_bits}
use Rattle.run_laws.proofs.Laws.Growing.{own_covered}
use Rattle.run_laws.specs.PrivateRun.{HasItsBit}
use Rattle.section_view.specs.KeptRun.{HoldsMarked}
use Rattle.write_hold.specs.Held.{Entry}

-- each bit stays
pub bits_with : (cache : List (List Way)) (touch : Option Touch) → KeepsBits cache (with_its_bit cache touch)
bits_with cache None = same_bits cache
bits_with cache (Some touch) =
    by_test (KeepsBits cache) (is_covered cache touch.line touch.need) cache (marked cache touch.line touch.need)
    (λ had. same_bits cache) (λ new. bits_marked cache touch.line touch.need)

-- the line that is touched is there
abbrev pub IsThere : List (List Way) → Option Touch → Type 0
IsThere cache None = Unit {0}
IsThere cache (Some touch) = is_resident cache touch.line ≡ true

with_bit_there : (way : Option Way) → (bit_in Read way || bit_in Write way) ≡ true → is_some way ≡ true
with_bit_there None bit = absurd (cc)
with_bit_there (Some way) bit = refl

written_there : (way : Option Way) → bit_in Write way ≡ true → is_some way ≡ true
written_there None bit = absurd (cc)
written_there (Some way) bit = refl

pub covered_there : (cache : List (List Way)) (line : ℕ) (need : Need) → is_covered cache line need ≡ true →
    is_resident cache line ≡ true
covered_there cache line Read is = with_bit_there (way_of cache line) is
covered_there cache line Write is = written_there (way_of cache line) is

pub permitted_there : (cache : List (List Way)) (line : ℕ) (need : Need) → may_of (letter_of cache line) need ≡ true →
    is_resident cache line ≡ true
permitted_there cache line need may = by (way_of cache line) need may
  where
    by : (way : Option Way) (need : Need) → may_of (letter_in way) need ≡ true → is_some way ≡ true
    by None Read is = absurd (cc)
    by None Write is = absurd (cc)
    by (Some way) need is = refl

-- and has its bit then
pub has_its_bit : (cache : List (List Way)) (touch : Option Touch) → IsThere cache touch →
    HasItsBit (with_its_bit cache touch) touch
has_its_bit cache None there = tt
has_its_bit cache (Some touch) there =
    by_test (λ now. is_covered now touch.line touch.need ≡ true) (is_covered cache touch.line touch.need) cache
    (marked cache touch.line touch.need)
    (λ had. had)
    (λ new. own_covered (marked cache touch.line touch.need) touch.line touch.need
    (marked_has_bit cache touch.line touch.need there))

-- a line that has its bit already is touched
pub covered_twice : (cache : List (List Way)) (touch : Option Touch) → IsThere cache touch →
    covered (with_its_bit cache touch) touch ≡ covered cache touch
covered_twice cache None there = refl
covered_twice cache (Some touch) there =
    let now = with_its_bit cache (Some touch) in
    ap (λ had. touched (if had then now else marked now touch.line touch.need) touch.line)
    (has_its_bit cache (Some touch) there)

pub formed_with : (ways : ℕ) (cache : List (List Way)) (touch : Option Touch) → IsWellFormed ways cache →
    IsWellFormed ways (with_its_bit cache touch)
formed_with ways cache None formed = formed
formed_with ways cache (Some touch) formed =
    by_test (IsWellFormed ways) (is_covered cache touch.line touch.need) cache (marked cache touch.line touch.need)
    (λ had. formed) (λ new. well_formed-marked ways cache touch.line touch.need formed)

pub formed_covered : (ways : ℕ) (cache : List (List Way)) (touch : Option Touch) → IsWellFormed ways cache →
    IsWellFormed ways (covered cache touch)
formed_covered ways cache None formed = formed
formed_covered ways cache (Some touch) formed =
    well_formed-touched ways (with_its_bit cache (Some touch)) touch.line (formed_with ways cache (Some touch) formed)

-- held lines keep the write bit as the line is touched
pub marked_covered : (cache : List (List Way)) (touch : Option Touch) (hold : List Entry) →
    HoldsMarked (with_its_bit cache touch) hold → HoldsMarked (covered cache touch) hold
marked_covered cache None hold marked = marked
marked_covered cache (Some touch) hold marked =
    λ line held. bits_touched (with_its_bit cache (Some touch)) touch.line line Write (marked line held)

-- a cache with a read bit has marks, still
pub marks_covered : (cache : List (List Way)) (touch : Option Touch) (line : ℕ) → read_bit cache line ≡ true →
    has_marks (covered cache touch) ≡ true
marks_covered cache touch line read =
    has_marks-bit (covered cache touch) line
    (or_left (read_bit (covered cache touch) line) (write_bit (covered cache touch) line)
    (bits_covered cache touch line Read read))
