-- before the first event no cache has a line, and main memory has the program's bytes
use Rattle.std.proofs.Common.{◌≡◌, ◌∙◌, ◌<◌, ◌≤◌, ◌+◌, ◌-◌, ◌/◌, ◌%◌, arith, zero-add, ℕ, zero, suc, false, List, []}
use Rattle.std.proofs.Common.{length, map, replicate, Option}
use Rattle.std.proofs.Common.{None, is_some, ap, refl, sym}
use Rattle.std.specs.List.{range_with_len}
use Rattle.std.specs.Prelude.{slice_index_or}
use Rattle.std.proofs.lemmas.List.FromFn.{get_or-map-range_with_len, length-map-range_with_len}
use Rattle.residency.specs.Cache.{is_resident}
use Rattle.cache_sets.specs.Cached.{Cached, Copy, empty_cached}
use Rattle.residency.specs.Residency.{Way, way_in}
use Rattle.coherence.specs.Beginning.{bytes_at_first, line_in}
use Rattle.coherence.specs.Caches.{AreCoherent, cache_at, copies_of}
use Rattle.coherence.specs.Line.{Coherent}
use Rattle.cache_sets.proofs.Laws.AbsentLines.{no_copy}
use Rattle.elf_image.specs.Program.{Program}
use Rattle.el_base.proofs.Laws.Cases.{none_some, not_both}

abbrev no_set : List Way
no_set = []

-- a set of a cache without lines
no_ways : (sets place : ℕ) → slice_index_or (replicate sets no_set) place no_set ≡ no_set
no_ways zero place = refl
no_ways (suc sets) zero = refl
no_ways (suc sets) (suc place) = no_ways sets place

empty_absent : (ways sets line : ℕ) → is_resident (empty_cached ways sets).residency line ≡ false
empty_absent ways sets line =
    ap (λ set. is_some (way_in set line)) (no_ways sets (line % length (replicate sets no_set)))

pub nobody : (harts ways sets h line : ℕ) →
    is_resident (cache_at (replicate harts (empty_cached ways sets)) h).residency line ≡ false
nobody zero ways sets h line = refl
nobody (suc harts) ways sets zero line = empty_absent ways sets line
nobody (suc harts) ways sets (suc h) line = nobody harts ways sets h line

no_copies : (harts ways sets line h : ℕ) → copies_of (replicate harts (empty_cached ways sets)) line h ≡ None
no_copies harts ways sets line h =
    no_copy (cache_at (replicate harts (empty_cached ways sets)) h) line (nobody harts ways sets h line)

-- a line of which there is no copy
uncopied : (bytes behind : List ℕ) (copies : ℕ → Option Copy) → ((h : ℕ) → copies h ≡ None) → behind ≡ bytes →
    Coherent bytes copies behind
uncopied bytes behind copies none is = record {
  same = λ h copy there. none_some (sym (none h) ∙ there);
  alone = λ g h one other first second may. none_some (sym (none g) ∙ first);
  owner = λ g h one other first second dirty dirty'. none_some (sym (none g) ∙ first);
  memory = λ clean. is;
}

pub first_coherent : (program : Program) (first count harts ways sets : ℕ) (lines : List (List ℕ))
    (caches : List Cached) → first ≡ program.base / 64 → lines ≡ map (line_in program.bytes) (range_with_len 0 count) →
    caches ≡ replicate harts (empty_cached ways sets) → AreCoherent (bytes_at_first program) first lines caches
first_coherent program first count harts ways sets lines caches first_is lines_are caches_are =
    rw (lines_are, caches_are)
    (record {
      each = λ line there.
          uncopied (bytes_at_first program line) _ (copies_of (replicate harts (empty_cached ways sets)) line)
          (no_copies harts ways sets line)
          (get_or-map-range_with_len (line_in program.bytes) 0 count (line - first) (line - program.base / 64) []
          (below line there.from there.below) (zero-add (line - first) ∙ ap (λ n. line - n) first_is));
      inside = λ h line resident.
          not_both resident (nobody harts ways sets h line);
    })
  where
    below : (line : ℕ) → first ≤ line → line < first + length (map (line_in program.bytes) (range_with_len 0 count)) →
        line - first < count
    below line from under = omega (arith, from, under, length-map-range_with_len (line_in program.bytes) 0 count)
