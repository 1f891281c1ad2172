-- The copies of a cache of which a line got other bytes.
use Rattle.std.proofs.Common.{◌≡◌, ◌≢◌, ℕ, List, [], ◌∷◌, length, get_or, Option, None, Some, option_map, refl, ap, sym}
use Rattle.std.proofs.Common.{inl, inr, ◌∙◌, arith}
use Rattle.std.specs.Prelude.{slice_set}
use Rattle.std.proofs.lemmas.Bool.{cases_eq, cases_lt}
use Rattle.std.proofs.lemmas.Bool.Decides.{nat_tests}
use Rattle.std.proofs.lemmas.List.{get_or-set_other, get_or-set_same, get_or_past, set_past}
use Rattle.std.proofs.Math.ListN as numbers
use Rattle.residency.specs.Residency.{Way, way_in}
use Rattle.residency.specs.Cache.{set_number, set_of, way_of}
use Rattle.cache_sets.specs.Cached.{Cached, Copy, bytes_in, bytes_of, copy_in, copy_with_bytes, put_in, with_bytes}
use Rattle.cache_sets.specs.Calls.{IsCached, IsWritten}

-- the bytes of the line, and of another one, in a set
bytes_in-put_in_same : (ways : List Way) (rows : List (List ℕ)) (line : ℕ) (new : List ℕ) (way : Way) →
    way_in ways line ≡ Some way → length rows ≡ length ways → bytes_in ways (put_in ways rows line new) line ≡ new
bytes_in-put_in_same [] rows line new way there same = absurd cc
bytes_in-put_in_same (first ∷ ways) [] line new way there same = absurd (omega (arith, same))
bytes_in-put_in_same (first ∷ ways) (bytes ∷ rows) line new way there same =
    let later : way_in ways line ≡ Some way → bytes_in ways (put_in ways rows line new) line ≡ new =
    λ is. bytes_in-put_in_same ways rows line new way is (omega (arith, same)) in
    grind (arith, nat_tests, there, later)

bytes_in-put_in_other : (ways : List Way) (rows : List (List ℕ)) (line l : ℕ) (new : List ℕ) → l ≢ line →
    bytes_in ways (put_in ways rows line new) l ≡ bytes_in ways rows l
bytes_in-put_in_other [] rows line l new other = refl
bytes_in-put_in_other (first ∷ ways) [] line l new other = refl
bytes_in-put_in_other (first ∷ ways) (bytes ∷ rows) line l new other =
    grind (arith, nat_tests, other, bytes_in-put_in_other ways rows line l new other)

-- no bytes are put into a set that has none
put_in-nothing : (ways : List Way) (line : ℕ) (new : List ℕ) → put_in ways [] line new ≡ []
put_in-nothing [] line new = refl
put_in-nothing (first ∷ ways) line new = refl

module _ (cached : Cached) (line : ℕ) (new : List ℕ) where
  abbrev number : ℕ
  number = set_number cached.residency line

  abbrev set : List Way
  set = set_of cached.residency line

  abbrev rows : List (List ℕ)
  rows = get_or cached.bytes number []

  -- the bytes of the lines of the set
  rows_after : get_or (slice_set cached.bytes number (put_in set rows line new)) number [] ≡ put_in set rows line new
  rows_after =
      elim (cases_lt number (length cached.bytes)) [
        | inl within ↦ get_or-set_same cached.bytes number (put_in set rows line new) [] within
        | inr past ↦
            let nothing : rows ≡ [] = get_or_past cached.bytes number [] past in
            ap (λ bytes. get_or bytes number []) (set_past cached.bytes number (put_in set rows line new) past)
            ∙ nothing ∙ sym (put_in-nothing set line new) ∙ ap (λ bytes. put_in set bytes line new) (sym nothing)
      ]

  bytes_other : (l : ℕ) → l ≢ line → bytes_of (with_bytes cached line new) l ≡ bytes_of cached l
  bytes_other l other =
      elim (cases_eq (set_number cached.residency l) number) [
        | inl same ↦
            ap (λ n. bytes_in (get_or cached.residency n [])
            (get_or (slice_set cached.bytes number (put_in set rows line new)) n []) l) same
            ∙ ap (λ bytes. bytes_in set bytes l) rows_after
            ∙ bytes_in-put_in_other set rows line l new other
            ∙ ap (λ n. bytes_in (get_or cached.residency n []) (get_or cached.bytes n []) l) (sym same)
        | inr apart ↦
            ap (λ bytes. bytes_in (set_of cached.residency l) bytes l)
            (get_or-set_other cached.bytes number (set_number cached.residency l) (put_in set rows line new) [] apart)
      ]

  bytes_here : (way : Way) → way_of cached.residency line ≡ Some way → length rows ≡ length set →
      bytes_of (with_bytes cached line new) line ≡ new
  bytes_here way there same =
      ap (λ bytes. bytes_in set bytes line) rows_after ∙ bytes_in-put_in_same set rows line new way there same

-- a cache of which a line got other bytes has that copy with other bytes, and every other copy as before
pub is_written : (cached : Cached) (line : ℕ) (new : List ℕ) → IsCached cached →
    IsWritten cached (with_bytes cached line new) line new
is_written cached line new is = record {
  ways = refl;
  residency = refl;
  here = by_way (way_of cached.residency line) refl;
  others = λ l other.
      ap (λ bytes. option_map (λ way. record { letter = way.letter; bytes = bytes }) (way_of cached.residency l))
      (bytes_other cached line new l other);
}
  where
    own : length (rows cached line new) ≡ length (set cached line new)
    own =
        sym (numbers.get_or-map length cached.bytes (number cached line new) [])
        ∙ ap (λ sizes. get_or sizes (number cached line new) 0) is.each_has_bytes
        ∙ numbers.get_or-map length cached.residency (number cached line new) []

    -- the copy that a way of the line is, before and after
    before : Way → Copy
    before way = record { letter = way.letter; bytes = bytes_of cached line }

    shown : Way → Copy
    shown way = record { letter = way.letter; bytes = bytes_of (with_bytes cached line new) line }

    by_way : (way : Option Way) → way_of cached.residency line ≡ way →
        copy_in (with_bytes cached line new) line ≡ option_map (copy_with_bytes new) (copy_in cached line)
    by_way None none =
        ap (option_map shown) none ∙ sym (ap (λ way. option_map (copy_with_bytes new) (option_map before way)) none)
    by_way (Some way) there =
        ap (option_map shown) there
        ∙ ap (λ bytes. Some (record { letter = way.letter; bytes = bytes })) (bytes_here cached line new way there own)
        ∙ sym (ap (λ w. option_map (copy_with_bytes new) (option_map before w)) there)
