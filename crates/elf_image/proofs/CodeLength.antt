-- Segments that are apart have together no more bytes than the memory that they lie in: each address is
-- counted for at most one of them.
use Rattle.std.proofs.Common.{◌≡◌, ◌≤◌, ℕ, zero, suc, ◌+◌, ◌-◌, min, max, Bool, true, false, cond, ◌&&◌, nat_le, nat_lt}
use Rattle.std.proofs.Common.{List, [], ◌∷◌, ◌++◌, length}
use Rattle.std.proofs.Common.{map, inl, inr, refl, ◌∙◌, arith}
use Rattle.std.specs.Prelude.{None, All, filter, sum_by, count_by}
use Rattle.std.specs.List.{list_any, range_with_len}
use Rattle.std.proofs.lemmas.Bool.{cases_Bool, or_parts}
use Rattle.std.proofs.lemmas.Bool.Decides.{nat_tests}
use Rattle.std.proofs.lemmas.List.{append-nil, append_assoc, length-take}
use Rattle.std.proofs.lemmas.List.Elements.{All-head, All-tail}
use Rattle.std.proofs.lemmas.List.Folds.{list_any-append, fold-map}
use Rattle.std.proofs.lemmas.List.FromFn.{length-range_with_len}
use Rattle.std.proofs.lemmas.List.Sums.{sum_by-cons, count_by-le-length, sum_by-le-sum_by}
use Rattle.elf_image.specs.declared.program_header.ProgramHeader.{ProgramHeader}
use Rattle.elf_image.specs.Layout.{is_executable, segment_end, shares_byte, overlap_after, first_overlap}
use Rattle.elf_image.specs.Loaded.{IsInside, code_segment}
use Rattle.elf_image.specs.Program.{code_length}
use Rattle.elf_image.proofs.Filling.{none_parts}

-- the address is one of the segment's memory
abbrev has_address : ℕ → ProgramHeader → Bool
has_address a segment = nat_le segment.p_vaddr a && nat_lt a (segment_end segment)

-- how many of n numbers from b on lie in a range
count_in_range : (low high b n : ℕ) →
    count_by (λ a. nat_le low a && nat_lt a high) (range_with_len b n) ≡ min (b + n) high - max b low
count_in_range low high b zero = omega arith
count_in_range low high b (suc n) =
    let rest = count_in_range low high (b + 1) n in
    sum_by-cons (λ a. cond (nat_le low a && nat_lt a high) 1 0) b (range_with_len (b + 1) n) ∙ grind (arith, nat_tests)

-- a count of what passes one of two tests that nothing passes both of
count_either : (p q r : ℕ → Bool) (xs : List ℕ)
    → ((a : ℕ) → cond (r a) 1 0 ≡ cond (p a) 1 0 + cond (q a) 1 0)
    → count_by r xs ≡ count_by p xs + count_by q xs
count_either p q r [] each = refl
count_either p q r (x ∷ xs) each =
    let rest = count_either p q r xs each in
    let here = each x in
    let r_is = sum_by-cons (λ a. cond (r a) 1 0) x xs in
    let p_is = sum_by-cons (λ a. cond (p a) 1 0) x xs in
    let q_is = sum_by-cons (λ a. cond (q a) 1 0) x xs in
    omega arith

-- a segment that shares no byte with others has no address of theirs
no_address : (a : ℕ) (x : ProgramHeader) (others : List ProgramHeader)
    → list_any (shares_byte x) others ≡ false
    → has_address a x ≡ true
    → list_any (has_address a) others ≡ false
no_address a x [] apart here = refl
no_address a x (y ∷ others) apart here =
    let parts = or_parts (shares_byte x y) (list_any (shares_byte x) others) apart in
    let rest : list_any (has_address a) others ≡ false = no_address a x others parts.1 here in
    let head = parts.0 in
    elim (cases_Bool (has_address a y)) [ inl there ↦ grind (arith, nat_tests) | inr there ↦ grind (arith, nat_tests) ]

one_more : (a : ℕ) (earlier : List ProgramHeader) (x : ProgramHeader)
    → list_any (shares_byte x) earlier ≡ false
    → cond (list_any (has_address a) (earlier ++ x ∷ [])) 1 0
    ≡ cond (list_any (has_address a) earlier) 1 0 + cond (has_address a x) 1 0
one_more a earlier x apart =
    let split = list_any-append (has_address a) earlier (x ∷ []) in
    elim (cases_Bool (has_address a x)) [
      | inl here ↦ let none = no_address a x earlier apart here in grind (arith, nat_tests)
      | inr here ↦ grind (arith, nat_tests)
    ]

-- the addresses of the segments, counted
counted : (base size : ℕ) (earlier later : List ProgramHeader)
    → overlap_after earlier later ≡ None
    → All (IsInside base size) later
    → count_by (λ a. list_any (has_address a) earlier) (range_with_len base size)
    + sum_by (λ segment. segment.p_memsz) later
    ≡ count_by (λ a. list_any (has_address a) (earlier ++ later)) (range_with_len base size)
counted base size earlier [] apart inside = simp append-nil (omega arith)
counted base size earlier (x ∷ later) apart inside =
    let parts = none_parts (list_any (shares_byte x) earlier) x _ apart in
    let rest = counted base size (earlier ++ x ∷ []) later parts.1 (All-tail (IsInside base size) x later inside) in
    let here = All-head (IsInside base size) x later inside in
    let before : ℕ → Bool = λ a. list_any (has_address a) earlier in
    let after : ℕ → Bool = λ a. list_any (has_address a) (earlier ++ x ∷ []) in
    let more =
    count_either before (λ a. has_address a x) after (range_with_len base size)
    (λ a. one_more a earlier x parts.0) in
    let own = count_in_range x.p_vaddr (segment_end x) base size in
    let total = sum_by-cons (λ segment. segment.p_memsz) x later in
    let joined = simp append_assoc at rest in
    let above = here.above in
    let below = here.below in
    omega arith

pub memory_length : (base size : ℕ) (segments : List ProgramHeader)
    → first_overlap segments ≡ None
    → All (IsInside base size) segments
    → sum_by (λ segment. segment.p_memsz) segments ≤ size
memory_length base size segments apart inside =
    let all = counted base size [] segments apart inside in
    let few = count_by-le-length (λ a. list_any (has_address a) segments) (range_with_len base size) in
    let len = length-range_with_len base size in
    omega arith

sum_by-filter : (f : ProgramHeader → ℕ) (p : ProgramHeader → Bool) (xs : List ProgramHeader) →
    sum_by f (filter p xs) ≤ sum_by f xs
sum_by-filter f p [] = omega arith
sum_by-filter f p (x ∷ xs) =
    let rest = sum_by-filter f p xs in
    let both = sum_by-cons f x xs in
    let kept = sum_by-cons f x (filter p xs) in
    elim (cases_Bool (p x)) [ inl e ↦ rw e (omega arith) | inr e ↦ rw e (omega arith) ]

-- the code is no longer than the segments that it is of
pub code_within : (base : ℕ) (bytes : List ℕ) (segments : List ProgramHeader)
    → code_length (map (code_segment base bytes) (filter is_executable segments))
    ≤ sum_by (λ segment. segment.p_memsz) segments
code_within base bytes segments =
    let code = filter is_executable segments in
    let Len : ProgramHeader → ℕ = λ segment. length (code_segment base bytes segment).bytes in
    let mapped = fold-map (λ sum segment. sum + length segment.bytes) (code_segment base bytes) 0 code in
    let each = sum_by-le-sum_by Len (λ segment. segment.p_memsz) code (λ segment. simp length-take (omega arith)) in
    let kept = sum_by-filter (λ segment. segment.p_memsz) is_executable segments in
    omega arith
