-- The counts of lines with bits and of written lines, as a bit is set and as a line leaves.
use Rattle.std.proofs.Common.{◌≡◌, ℕ, ◌+◌, ◌-◌, ◌*◌, ◌≤◌, Bool, true, false, ◌||◌, List, length, map, ap}
use Rattle.std.proofs.Common.{sym, ◌∙◌, arith}
use Rattle.std.specs.Option.{option_map_or}
use Rattle.std.proofs.lemmas.List.{length-map}
use Rattle.std.proofs.lemmas.Nat.{mul-le}
use Rattle.el_base.specs.declared.outcomes.Need.{Need}
use Rattle.el_base.specs.declared.outcomes.Need.TheVariants.{Read, Write}
use Rattle.cache_sets.specs.declared.bits.Bits.{Bits}
use Rattle.cache_sets.specs.declared.line.Line as code
use Rattle.cache_sets.specs.Bits.{bits_of, has_need, marks_in, with_need, writes_in}
use Rattle.residency.specs.Residency.{is_marked, with_bit}
use Rattle.residency.specs.Cache.{is_resident, marked, way_of, without_line, write_bits_of}
use Rattle.cache_sets.specs.Slotted.{Slotted}
use Rattle.cache_sets.specs.Kept.{IsSound, residency_of, shown_line}
use Rattle.residency.specs.Cache.{marks_of}
use Rattle.cache_sets.proofs.BitLemmas.{marks_in-bits_of, marks_in-with_need, writes_in-bits_of, writes_in-with_need}
use Rattle.residency.proofs.Laws.MarkLemmas.{mark_of, more_marks, one_if, part_of_total, total-le, total-marked}
use Rattle.residency.proofs.Laws.MarkLemmas.{total-without_line, write_of}

-- each count is small
one_if-le : (b : Bool) → one_if b ≤ 1
one_if-le true = omega arith
one_if-le false = omega arith

pub marks_in-le : (bits : Bits) → marks_in bits ≤ 1
marks_in-le bits = one_if-le (has_need Read bits || has_need Write bits)

pub writes_in-le : (bits : Bits) → writes_in bits ≤ 1
writes_in-le bits = one_if-le (has_need Write bits)

-- the bits that are read in a cache are those of its fields
pub bits-inside : {before : Bits} {inside now : Slotted} (line : ℕ) → before ≡ bits_of (way_of now.residency line) →
    inside ≡ now → before ≡ bits_of (way_of inside.residency line)
bits-inside {before} {inside} {now} line read is =
    read ∙ ap (λ (cache : Slotted). bits_of (way_of cache.residency line)) (sym is)

module _ (ways marks writes : ℕ) (cache : List (List code.Line)) (line : ℕ) (before : Bits)
    (sound : IsSound ways cache marks writes)
    (bits : before ≡ bits_of (way_of (residency_of cache) line)) where
  own_marks : marks_in before ≡ option_map_or mark_of (way_of (residency_of cache) line) 0
  own_marks = ap marks_in bits ∙ marks_in-bits_of (way_of (residency_of cache) line)

  own_writes : writes_in before ≡ option_map_or write_of (way_of (residency_of cache) line) 0
  own_writes = ap writes_in bits ∙ writes_in-bits_of (way_of (residency_of cache) line)

  pub marks-below : marks_in before ≤ marks
  marks-below = omega (arith, own_marks, sound.marked, part_of_total mark_of (residency_of cache) line)

  pub writes-below : writes_in before ≤ writes
  writes-below = omega (arith, own_writes, sound.written, part_of_total write_of (residency_of cache) line)

  places : length (residency_of cache) * ways ≤ 512
  places =
      omega (
        arith,
        mul-le (length cache) ways 64 8 sound.sets_fit sound.ways_fit,
        ap (λ n. n * ways) (length-map cache (map shown_line)),
      )

  pub few-marks : marks ≤ 512
  few-marks =
      omega (
        arith,
        sound.marked,
        total-le mark_of ways (residency_of cache) sound.well_formed
            (λ way. one_if-le (is_marked way)),
        places,
      )

  pub few-writes : writes ≤ 512
  few-writes =
      omega (
        arith,
        sound.written,
        total-le write_of ways (residency_of cache) sound.well_formed
            (λ way. one_if-le way.write),
        places,
      )

  -- after the line got a bit
  module _ (need : Need) (after : Bits) (resident : is_resident (residency_of cache) line ≡ true)
      (bit : after ≡ with_need need before) where
    pub marks-after_bit : marks - marks_in before + marks_in after ≡ marks_of (marked (residency_of cache) line need)
    marks-after_bit =
        let one : marks_in after ≡ 1 =
        ap marks_in bit ∙ ap (λ b. marks_in (with_need need b)) bits
        ∙ marks_in-with_need need (way_of (residency_of cache) line) resident in
        omega (
          arith,
          one,
          total-marked mark_of ways (residency_of cache) line need sound.well_formed,
          more_marks need (way_of (residency_of cache) line) resident,
          sound.marked,
          own_marks,
          marks-below,
        )

    pub writes-after_bit : writes - writes_in before + writes_in after
        ≡ write_bits_of (marked (residency_of cache) line need)
    writes-after_bit =
        let own : writes_in after ≡ option_map_or (λ w. write_of (with_bit need w))
        (way_of (residency_of cache) line) 0 =
        ap writes_in bit ∙ ap (λ b. writes_in (with_need need b)) bits
        ∙ writes_in-with_need need (way_of (residency_of cache) line) resident in
        omega (
          arith,
          own,
          total-marked write_of ways (residency_of cache) line need sound.well_formed,
          sound.written,
          own_writes,
          writes-below,
        )

  -- after the line left
  pub marks-after_drop : marks - marks_in before ≡ marks_of (without_line (residency_of cache) line)
  marks-after_drop =
      omega (
        arith,
        total-without_line mark_of ways (residency_of cache) line sound.well_formed,
        sound.marked,
        own_marks,
      )

  pub writes-after_drop : writes - writes_in before ≡ write_bits_of (without_line (residency_of cache) line)
  writes-after_drop =
      omega (
        arith,
        total-without_line write_of ways (residency_of cache) line sound.well_formed,
        sound.written,
        own_writes,
      )
