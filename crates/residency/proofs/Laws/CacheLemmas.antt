-- A cache: the way of a line after each word of a cache, at the line itself, at another
-- line, and at the line that left.
use Rattle.std.proofs.Common.{◌≡◌, ◌≢◌, ℕ, ◌<◌, false, List, [], ◌∷◌, length, map, Option, None, Some, option_map, refl}
use Rattle.std.proofs.Common.{ap, sym, inl, inr, ◌∙◌, arith}
use Rattle.std.specs.Prelude.{slice_index_or}
use Rattle.std.proofs.lemmas.Bool.{cases_eq}
use Rattle.std.proofs.lemmas.List.{get_or-set_other, get_or-set_same, get_or-map, length-set, length-map}
use Rattle.el_base.specs.declared.outcomes.Need.{Need}
use Rattle.el_base.specs.declared.outcomes.Need.TheVariants.{Read, Write}
use Rattle.moesi.specs.declared.letter.Letter.{Letter}
use Rattle.residency.specs.Residency.{Way, changed_in, filled_in, touched_in, way_in, with_bit, with_letter}
use Rattle.residency.specs.Residency.{without_bits}
use Rattle.residency.specs.Cache.{cleared, committed, committed_way, evicted_by, filled_with, lettered, marked}
use Rattle.residency.specs.Cache.{set_number, set_of, touched, way_of}
use Rattle.residency.specs.Cache.{with_set, without_line}
use Rattle.residency.proofs.Laws.ResidencyLemmas.{way_in-changed_in_other, way_in-changed_in_same, way_in-dropped_other}
use Rattle.residency.proofs.Laws.ResidencyLemmas.{way_in-dropped_same}
use Rattle.residency.proofs.Laws.ResidencyLemmas.{way_in-filled_in_evicted, way_in-filled_in_other}
use Rattle.residency.proofs.Laws.ResidencyLemmas.{way_in-filled_in_same, way_in-map, way_in-touched_in}

-- the set of a line whose set another one took the place of, and the other sets
pub set_of-with_set_same : (cache : List (List Way)) (line l : ℕ) (set : List Way) → 0 < length cache →
    set_number cache l ≡ set_number cache line → set_of (with_set cache line set) l ≡ set
set_of-with_set_same cache line l set some same =
    rw (length-set cache (set_number cache line) set, same)
    (get_or-set_same cache (set_number cache line) set [] (omega arith))

pub set_of-with_set_other : (cache : List (List Way)) (line l : ℕ) (set : List Way) →
    set_number cache l ≢ set_number cache line → set_of (with_set cache line set) l ≡ set_of cache l
set_of-with_set_other cache line l set other =
    rw (length-set cache (set_number cache line) set)
    (get_or-set_other cache (set_number cache line) (set_number cache l) set [] other)

-- a line has in the new cache the way that it had, where it has it in the new set
way_of-with_set_other : (cache : List (List Way)) (line l : ℕ) (set : List Way) →
    (set_number cache l ≡ set_number cache line → way_in set l ≡ way_in (set_of cache line) l) →
    way_of (with_set cache line set) l ≡ way_of cache l
way_of-with_set_other [] line l set kept = refl
way_of-with_set_other (first ∷ cache) line l set kept =
    let whole = first ∷ cache in
    elim (cases_eq (set_number whole l) (set_number whole line)) [
      | inl same ↦ rw (set_of-with_set_same whole line l set (omega arith) same)
          (kept same ∙ ap (λ n. way_in (slice_index_or whole n []) l) (sym same))
      | inr other ↦ rw (set_of-with_set_other whole line l set other) refl
    ]

way_of-with_set_same : (cache : List (List Way)) (line : ℕ) (set : List Way) → 0 < length cache →
    way_of (with_set cache line set) line ≡ way_in set line
way_of-with_set_same cache line set some = rw (set_of-with_set_same cache line line set some refl) refl

-- the way of the line itself, by a word that leaves an empty set empty
way_of-with_set_line : (cache : List (List Way)) (line : ℕ) (set : List Way) (change : Option Way → Option Way) →
    change None ≡ None → way_in set line ≡ change (way_of cache line) →
    way_of (with_set cache line set) line ≡ change (way_of cache line)
way_of-with_set_line [] line set change none is = sym none
way_of-with_set_line (first ∷ cache) line set change none is =
    way_of-with_set_same (first ∷ cache) line set (omega arith) ∙ is

-- no word has another number of sets
pub length-with_set : (cache : List (List Way)) (line : ℕ) (set : List Way) →
    length (with_set cache line set) ≡ length cache
length-with_set cache line set = length-set cache (set_number cache line) set

-- to touch a line changes no way
pub way_of-touched : (cache : List (List Way)) (line l : ℕ) → way_of (touched cache line) l ≡ way_of cache l
way_of-touched cache line l =
    way_of-with_set_other cache line l (touched_in (set_of cache line) line)
    (λ same. way_in-touched_in (set_of cache line) line l)

way_of-changed_same : (change : Way → Way) (cache : List (List Way)) (line : ℕ) →
    ((way : Way) → (change way).line ≡ way.line) →
    way_of (with_set cache line (changed_in change (set_of cache line) line)) line
    ≡ option_map change (way_of cache line)
way_of-changed_same change cache line kept =
    way_of-with_set_line cache line _ (option_map change) refl
    (way_in-changed_in_same change (set_of cache line) line kept)

way_of-changed_other : (change : Way → Way) (cache : List (List Way)) (line l : ℕ) →
    ((way : Way) → (change way).line ≡ way.line) → l ≢ line →
    way_of (with_set cache line (changed_in change (set_of cache line) line)) l ≡ way_of cache l
way_of-changed_other change cache line l kept other =
    way_of-with_set_other cache line l _ (λ same. way_in-changed_in_other change (set_of cache line) line l kept other)

-- a line with another letter, and another line
pub way_of-lettered_same : (cache : List (List Way)) (line : ℕ) (letter : Letter) →
    way_of (lettered cache line letter) line ≡ option_map (with_letter letter) (way_of cache line)
way_of-lettered_same cache line letter = way_of-changed_same (with_letter letter) cache line (λ way. refl)

pub way_of-lettered_other : (cache : List (List Way)) (line l : ℕ) (letter : Letter) → l ≢ line →
    way_of (lettered cache line letter) l ≡ way_of cache l
way_of-lettered_other cache line l letter other =
    way_of-changed_other (with_letter letter) cache line l (λ way. refl) other

pub line-with_bit : (need : Need) (way : Way) → (with_bit need way).line ≡ way.line
line-with_bit Read way = refl
line-with_bit Write way = refl

-- a line with a bit, and another line
pub way_of-marked_same : (cache : List (List Way)) (line : ℕ) (need : Need) →
    way_of (marked cache line need) line ≡ option_map (with_bit need) (way_of cache line)
way_of-marked_same cache line need = way_of-changed_same (with_bit need) cache line (line-with_bit need)

pub way_of-marked_other : (cache : List (List Way)) (line l : ℕ) (need : Need) → l ≢ line →
    way_of (marked cache line need) l ≡ way_of cache l
way_of-marked_other cache line l need other =
    way_of-changed_other (with_bit need) cache line l (line-with_bit need) other

-- a line that left, and another line
pub way_of-without_line_same : (cache : List (List Way)) (line : ℕ) → way_of (without_line cache line) line ≡ None
way_of-without_line_same cache line =
    way_of-with_set_line cache line _ (λ way. None) refl (way_in-dropped_same (set_of cache line) line)

pub way_of-without_line_other : (cache : List (List Way)) (line l : ℕ) → l ≢ line →
    way_of (without_line cache line) l ≡ way_of cache l
way_of-without_line_other cache line l other =
    way_of-with_set_other cache line l _ (λ same. way_in-dropped_other (set_of cache line) line l other)

-- a line that came, the one that left for it, and another line
pub way_of-filled_with_same : (ways : ℕ) (cache : List (List Way)) (line : ℕ) (letter : Letter) → 0 < length cache →
    way_of (filled_with ways cache line letter) line
    ≡ Some (record { line = line; letter = letter; read = false; write = false })
way_of-filled_with_same ways cache line letter some =
    let way : Way = record { line = line; letter = letter; read = false; write = false } in
    way_of-with_set_same cache line (filled_in ways (set_of cache line) way) some
    ∙ way_in-filled_in_same ways (set_of cache line) way

pub way_of-filled_with_evicted : (ways : ℕ) (cache : List (List Way)) (line : ℕ) (letter : Letter) (gone : Way) →
    0 < length cache → evicted_by ways cache line ≡ Some gone → gone.line ≢ line →
    set_number cache gone.line ≡ set_number cache line → way_of (filled_with ways cache line letter) gone.line ≡ None
way_of-filled_with_evicted ways cache line letter gone some is other home =
    let way : Way = record { line = line; letter = letter; read = false; write = false } in
    rw (set_of-with_set_same cache line gone.line (filled_in ways (set_of cache line) way) some home)
    (way_in-filled_in_evicted ways (set_of cache line) way gone other is)

pub way_of-filled_with_other : (ways : ℕ) (cache : List (List Way)) (line l : ℕ) (letter : Letter) → l ≢ line →
    ((gone : Way) → evicted_by ways cache line ≡ Some gone → l ≢ gone.line) →
    way_of (filled_with ways cache line letter) l ≡ way_of cache l
way_of-filled_with_other ways cache line l letter other stays =
    let way : Way = record { line = line; letter = letter; read = false; write = false } in
    way_of-with_set_other cache line l (filled_in ways (set_of cache line) way)
    (λ same. way_in-filled_in_other ways (set_of cache line) way l other stays)

way_of-map : (change : Way → Way) (cache : List (List Way)) (line : ℕ) → ((way : Way) → (change way).line ≡ way.line) →
    way_of (map (λ set. map change set) cache) line ≡ option_map change (way_of cache line)
way_of-map change [] line kept = refl
way_of-map change (first ∷ cache) line kept =
    let whole = first ∷ cache in
    rw (length-map whole (map change))
    (rw (get_or-map (map change) whole (set_number whole line) [] [] (omega arith))
    (way_in-map change (set_of whole line) line kept))

-- every line after all bits were cleared, and after a commit
pub way_of-cleared : (cache : List (List Way)) (line : ℕ) →
    way_of (cleared cache) line ≡ option_map without_bits (way_of cache line)
way_of-cleared cache line = way_of-map without_bits cache line (λ way. refl)

pub way_of-committed : (cache : List (List Way)) (line : ℕ) →
    way_of (committed cache) line ≡ option_map committed_way (way_of cache line)
way_of-committed cache line = way_of-map committed_way cache line (λ way. refl)
