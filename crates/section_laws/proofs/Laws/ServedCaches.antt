-- a cache after a request was served: its shape, its room, and how many lines are written in it
use Rattle.std.proofs.Common.{◌≡◌, ◌≢◌, ◌∙◌, ℕ, ◌+◌, ◌≤◌, ◌<◌, Bool, true, false, not, List, Option, Some, None}
use Rattle.std.proofs.Common.{is_some, length, refl, ap}
use Rattle.std.proofs.Common.{sym, inl, inr, ◌⊎◌, arith}
use Rattle.std.proofs.lemmas.Bool.{cases_eq}
use Rattle.std.specs.Option.{option_map_or}
use Rattle.residency.specs.Cache.{bit_in, filled_with, is_resident, letter_in, letter_of, lettered, marked, room_of}
use Rattle.residency.specs.Cache.{touched, way_of, without_line}
use Rattle.residency.specs.Cache.{write_bit, write_bits_of}
use Rattle.residency.specs.Residency.{Way, with_bit}
use Rattle.residency.specs.WellFormed.{IsWellFormed}
use Rattle.residency.proofs.Laws.AbsentWays.{lettered_absent}
use Rattle.residency.proofs.Laws.CacheLemmas.{length-with_set, way_of-filled_with_same}
use Rattle.residency.proofs.Laws.CacheLemmas.{way_of-touched}
use Rattle.residency.proofs.Laws.CacheLemmas.{way_of-without_line_other}
use Rattle.residency.proofs.Laws.MarkLemmas.{one_if, total-marked, write_bits_of-filled_with, write_bits_of-lettered}
use Rattle.residency.proofs.Laws.MarkLemmas.{write_bits_of-touched}
use Rattle.residency.proofs.Laws.MarkLemmas.{write_bits_of-without_line, write_of}
use Rattle.residency.proofs.Laws.WellFormedLemmas.{well_formed-filled_with, well_formed-lettered, well_formed-touched}
use Rattle.residency.proofs.Laws.WellFormedLemmas.{well_formed-without_line}
use Rattle.el_base.specs.declared.outcomes.Need.{Need}
use Rattle.el_base.specs.declared.outcomes.Need.TheVariants.{Read, Write}
use Rattle.el_model.specs.Serve.{kept_letter, others_cache, own_copy}
use Rattle.el_model.proofs.Laws.Tests.{by_test}
use Rattle.moesi.specs.Letters.{filled_of, on_read_of}
use Rattle.moesi.specs.declared.letter.Letter.{Letter}
use Rattle.moesi.specs.declared.letter.Letter.TheVariants.{M, O, E, S, I}
use Rattle.section_laws.proofs.Laws.Bits.{bit_lettered}
use Rattle.section_laws.proofs.Rooms.{room_lettered, room_without_line}

-- the letter of a line that is there
there_letter : (ways : ℕ) (cache : List (List Way)) (line : ℕ) → IsWellFormed ways cache →
    is_resident cache line ≡ true → letter_of cache line ≢ I
there_letter ways cache line well here = by (way_of cache line) refl here
  where
    by : (way : Option Way) → way_of cache line ≡ way → is_some way ≡ true → letter_in way ≢ I
    by None is some = absurd (cc)
    by (Some way) is some = well.valid line line way is

read_letter : (letter : Letter) → letter ≢ I → on_read_of letter ≢ I
read_letter M some = λ is. absurd (cc)
read_letter O some = λ is. absurd (cc)
read_letter E some = λ is. absurd (cc)
read_letter S some = λ is. absurd (cc)
read_letter I some = some

filled_letter : (need : Need) (others : Bool) → filled_of need others ≢ I
filled_letter Write others = λ is. absurd (cc)
filled_letter Read true = λ is. absurd (cc)
filled_letter Read false = λ is. absurd (cc)

own_letter : (need : Need) (letter : Letter) → letter ≢ I → kept_letter need letter ≢ I
own_letter Read letter some = some
own_letter Write letter some = λ is. absurd (cc)

-- another hart's cache: as it was, with another letter, or without its copy
others_by : (P : List (List Way) → Type 0) (had : Bool) (need : Need) (cache : List (List Way)) (line : ℕ) → P cache →
    (is_resident cache line ≡ true → P (lettered cache line (on_read_of (letter_of cache line)))) →
    P (without_line cache line) → P (others_cache had need cache line)
others_by P had Write cache line same read write = write
others_by P true Read cache line same read write = same
others_by P false Read cache line same read write = by (is_resident cache line) refl
  where
    by : (here : Bool) → is_resident cache line ≡ here → P (lettered cache line (on_read_of (letter_of cache line)))
    by true here = read here
    by false absent = let stays = lettered_absent cache line (on_read_of (letter_of cache line)) absent in rw stays same

pub others_well_formed : (ways : ℕ) (had : Bool) (need : Need) (cache : List (List Way)) (line : ℕ) →
    IsWellFormed ways cache → IsWellFormed ways (others_cache had need cache line)
others_well_formed ways had need cache line well =
    others_by (IsWellFormed ways) had need cache line well
    (λ here. well_formed-lettered ways cache line _ (read_letter _ (there_letter ways cache line well here)) well)
    (well_formed-without_line ways cache line well)

pub others_room : (ways : ℕ) (had : Bool) (need : Need) (cache : List (List Way)) (line l : ℕ) →
    IsWellFormed ways cache → room_of ways cache l ≡ true → room_of ways (others_cache had need cache line) l ≡ true
others_room ways had need cache line l well room =
    others_by (λ c. room_of ways c l ≡ true) had need cache line room
    (λ here. room_lettered ways cache line l _ well room)
    (room_without_line ways cache line l well room)

-- as many lines are written as were, or fewer; a line that is not written was not, or one line fewer is written
pub record WritesNoMore (old new : List (List Way)) : Type 0 where
  pub no_more : write_bits_of new ≤ write_bits_of old
  pub unwritten : (l : ℕ) → write_bit new l ≡ false →
      (write_bit old l ≡ false) ⊎ (write_bits_of new < write_bits_of old)

writes_same : (cache : List (List Way)) → WritesNoMore cache cache
writes_same cache = record { no_more = omega arith; unwritten = λ l is. inl is }

writes_lettered : (ways : ℕ) (cache : List (List Way)) (line : ℕ) (letter : Letter) → IsWellFormed ways cache →
    WritesNoMore cache (lettered cache line letter)
writes_lettered ways cache line letter well = record {
  no_more = let same = write_bits_of-lettered ways cache line letter well in omega (arith, same);
  unwritten = λ l is. inl (sym (bit_lettered cache line l letter Write) ∙ is);
}

writes_without : (ways : ℕ) (cache : List (List Way)) (line : ℕ) → IsWellFormed ways cache →
    WritesNoMore cache (without_line cache line)
writes_without ways cache line well = record {
  no_more = let sum = write_bits_of-without_line ways cache line well in omega (arith, sum);
  unwritten = λ l is. at l is (cases_eq l line);
}
  where
    left : (written : Bool) → write_bits_of (without_line cache line) + one_if written ≡ write_bits_of cache →
        (written ≡ false) ⊎ (write_bits_of (without_line cache line) < write_bits_of cache)
    left true sum = inr (omega (arith, sum))
    left false sum = inl refl

    at : (l : ℕ) → write_bit (without_line cache line) l ≡ false → (l ≡ line) ⊎ (l ≡ line → ⊥) →
        (write_bit cache l ≡ false) ⊎ (write_bits_of (without_line cache line) < write_bits_of cache)
    at l is (inl same) = rw same (left (write_bit cache line) (write_bits_of-without_line ways cache line well))
    at l is (inr other) = inl (sym (ap (bit_in Write) (way_of-without_line_other cache line l other)) ∙ is)

pub others_writes : (ways : ℕ) (had : Bool) (need : Need) (cache : List (List Way)) (line : ℕ) →
    IsWellFormed ways cache → WritesNoMore cache (others_cache had need cache line)
others_writes ways had need cache line well =
    others_by (WritesNoMore cache) had need cache line (writes_same cache)
    (λ here. writes_lettered ways cache line _ well)
    (writes_without ways cache line well)

pub others_sets : (had : Bool) (need : Need) (cache : List (List Way)) (line : ℕ) →
    length (others_cache had need cache line) ≡ length cache
others_sets had need cache line =
    others_by (λ c. length c ≡ length cache) had need cache line refl (λ here. length-with_set cache line _)
    (length-with_set cache line _)

-- the cache of the served hart
own_by : (P : List (List Way) → Type 0) (ways : ℕ) (others : Bool) (need : Need) (cache : List (List Way)) (line : ℕ) →
    (is_resident cache line ≡ true → P (lettered cache line (kept_letter need (letter_of cache line)))) →
    (is_resident cache line ≡ false → P (filled_with ways cache line (filled_of need others))) →
    P (own_copy ways others need cache line)
own_by P ways others need cache line kept filled =
    by_test P (is_resident cache line) (lettered cache line (kept_letter need (letter_of cache line)))
    (filled_with ways cache line (filled_of need others))
    kept filled

pub own_well_formed : (ways : ℕ) (others : Bool) (need : Need) (cache : List (List Way)) (line : ℕ) →
    IsWellFormed ways cache → room_of ways cache line ≡ true → IsWellFormed ways (own_copy ways others need cache line)
own_well_formed ways others need cache line well room =
    own_by (IsWellFormed ways) ways others need cache line
    (λ here. well_formed-lettered ways cache line _ (own_letter need _ (there_letter ways cache line well here)) well)
    (λ absent. well_formed-filled_with ways cache line _ room absent (filled_letter need others) well)

own_writes : (ways : ℕ) (others : Bool) (need : Need) (cache : List (List Way)) (line : ℕ) → IsWellFormed ways cache →
    write_bits_of (own_copy ways others need cache line) ≡ write_bits_of cache
own_writes ways others need cache line well =
    own_by (λ c. write_bits_of c ≡ write_bits_of cache) ways others need cache line
    (λ here. write_bits_of-lettered ways cache line _ well)
    (λ absent. write_bits_of-filled_with ways cache line _ well)

own_write_bit : (ways : ℕ) (others : Bool) (need : Need) (cache : List (List Way)) (line : ℕ) →
    IsWellFormed ways cache → write_bit (own_copy ways others need cache line) line ≡ write_bit cache line
own_write_bit ways others need cache line well =
    own_by (λ c. write_bit c line ≡ write_bit cache line) ways others need cache line
    (λ here. bit_lettered cache line line _ Write)
    (λ absent. ap (bit_in Write) (way_of-filled_with_same ways cache line _ well.some_set)
    ∙ sym (none (way_of cache line) absent))
  where
    none : (way : Option Way) → is_some way ≡ false → bit_in Write way ≡ false
    none None absent = refl
    none (Some way) absent = absurd (cc)

own_sets : (ways : ℕ) (others : Bool) (need : Need) (cache : List (List Way)) (line : ℕ) →
    length (own_copy ways others need cache line) ≡ length cache
own_sets ways others need cache line =
    own_by (λ c. length c ≡ length cache) ways others need cache line (λ here. length-with_set cache line _)
    (λ absent. length-with_set cache line _)

-- and after the line was touched there
abbrev pub own_after : ℕ → Bool → Need → List (List Way) → ℕ → List (List Way)
own_after ways others need cache line = touched (own_copy ways others need cache line) line

pub own_after_well_formed : (ways : ℕ) (others : Bool) (need : Need) (cache : List (List Way)) (line : ℕ) →
    IsWellFormed ways cache → room_of ways cache line ≡ true → IsWellFormed ways (own_after ways others need cache line)
own_after_well_formed ways others need cache line well room =
    well_formed-touched ways _ line (own_well_formed ways others need cache line well room)

pub own_after_writes : (ways : ℕ) (others : Bool) (need : Need) (cache : List (List Way)) (line : ℕ) →
    IsWellFormed ways cache → room_of ways cache line ≡ true →
    write_bits_of (own_after ways others need cache line) ≡ write_bits_of cache
own_after_writes ways others need cache line well room =
    write_bits_of-touched ways _ line (own_well_formed ways others need cache line well room)
    ∙ own_writes ways others need cache line well

pub own_after_write_bit : (ways : ℕ) (others : Bool) (need : Need) (cache : List (List Way)) (line : ℕ) →
    IsWellFormed ways cache → write_bit (own_after ways others need cache line) line ≡ write_bit cache line
own_after_write_bit ways others need cache line well =
    ap (bit_in Write) (way_of-touched (own_copy ways others need cache line) line line)
    ∙ own_write_bit ways others need cache line well

pub own_after_sets : (ways : ℕ) (others : Bool) (need : Need) (cache : List (List Way)) (line : ℕ) →
    length (own_after ways others need cache line) ≡ length cache
own_after_sets ways others need cache line = length-with_set _ line _ ∙ own_sets ways others need cache line

-- a line with one bit more: at most one line more is written, and none where the line was written or is read
written_at_most : (way : Option Way) (before after : ℕ) →
    after + option_map_or write_of way 0 ≡ before + option_map_or (λ w. write_of (with_bit Write w)) way 0 →
    after ≤ before + one_if (not (bit_in Write way))
written_at_most None before after sums = omega (arith, sums)
written_at_most (Some way) before after sums = by way.write sums
  where
    by : (written : Bool) → after + one_if written ≡ before + 1 → after ≤ before + one_if (not written)
    by true sum = omega (arith, sum)
    by false sum = omega (arith, sum)

pub marked_writes : (ways : ℕ) (cache : List (List Way)) (line : ℕ) → IsWellFormed ways cache →
    write_bits_of (marked cache line Write) ≤ write_bits_of cache + one_if (not (write_bit cache line))
marked_writes ways cache line well =
    written_at_most (way_of cache line) (write_bits_of cache) (write_bits_of (marked cache line Write))
    (total-marked write_of ways cache line Write well)
