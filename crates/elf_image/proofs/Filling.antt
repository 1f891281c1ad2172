-- Memory as it is filled segment by segment.
use Rattle.std.proofs.Common.{◌≡◌, ◌≤◌, ◌<◌, ℕ, zero, suc, ◌+◌, ◌-◌, Bool, true, false, cond, ◌&&◌, nat_le, nat_lt}
use Rattle.std.proofs.Common.{List, [], ◌∷◌, ◌++◌, length}
use Rattle.std.proofs.Common.{get_or, take, map, slice_range, inl, inr, refl, sym, ◌∙◌, ap, arith}
use Rattle.std.specs.Prelude.{Option, Some, None, find, All}
use Rattle.std.specs.Option.{option_map_or, option_or}
use Rattle.std.specs.List.{list_any, range_with_len}
use Rattle.std.proofs.lemmas.Bool.{cases_lt, cases_Bool, or_parts}
use Rattle.std.proofs.lemmas.Bool.Decides.{nat_tests}
use Rattle.std.proofs.lemmas.List.{places, take_more, append-nil, append_assoc, ext_get_or}
use Rattle.std.proofs.lemmas.List.Edits.{length-between, get_or-between}
use Rattle.std.proofs.lemmas.List.Folds.{find-append}
use Rattle.std.proofs.lemmas.List.Elements.{All-head, All-tail, All-take, All-weaker}
use Rattle.std.proofs.lemmas.List.FromFn.{length-map-range_with_len, get_or-map-range_with_len}
use borrow.Rule.Slice.PartMut.{put_mid}
use Rattle.elf_image.specs.declared.program_header.ProgramHeader.{ProgramHeader}
use Rattle.elf_image.specs.Layout.{shares_byte, overlap_after, first_overlap}
use Rattle.elf_image.specs.Loaded.{Fits, is_filled, file_byte, loaded_byte}

-- an element after a write of `part` over the n elements from `from` on
get_or-put_mid : (xs part : List ℕ) (from n k : ℕ) → length part ≡ n → from + n ≤ length xs → k < length xs
    → get_or (put_mid from n xs part) k 0 ≡ cond (nat_le from k && nat_lt k (from + n))
    (get_or part (k - from) 0) (get_or xs k 0)
get_or-put_mid xs part from n k len inside below =
    elim (cases_lt k from) [
      | inl before ↦ grind (arith, places, nat_tests)
      | inr behind ↦
          elim (cases_lt k (from + n)) [
            | inl within ↦ grind (arith, places, nat_tests)
            | inr past ↦ grind (arith, places, nat_tests)
          ]
    ]

-- memory after the bytes of a segment that stand in the file were written to their place
pub get_or-filled : (bytes file part : List ℕ) (base : ℕ) (segment : ProgramHeader) (from n first last k : ℕ)
    → part ≡ slice_range file first last
    → from + base ≡ segment.p_vaddr
    → n ≡ segment.p_filesz
    → first ≡ segment.p_offset
    → last ≡ segment.p_offset + segment.p_filesz
    → last ≤ length file
    → from + n ≤ length bytes
    → k < length bytes
    → get_or (put_mid from n bytes part) k 0
    ≡ cond (is_filled (base + k) segment) (file_byte file (base + k) segment) (get_or bytes k 0)
get_or-filled bytes file part base segment from n first last k is place size begins ends in_file inside below =
    let len : length part ≡ n = ap length is ∙ (length-between file first last in_file ∙ omega arith) in
    get_or-put_mid bytes part from n k len inside below
    ∙ elim (cases_lt k from) [
      | inl before ↦ grind (arith, nat_tests)
      | inr behind ↦ elim (cases_lt k (from + n)) [
        | inl within ↦
            let byte : get_or part (k - from) 0 ≡ get_or file (segment.p_offset + (base + k - segment.p_vaddr)) 0 =
            ap (λ xs. get_or xs (k - from) 0) is ∙ get_or-between file first last (k - from) 0 (omega arith)
            ∙ ap (λ i. get_or file i 0) (omega arith)
            in
            grind (arith, nat_tests)
        | inr past ↦ grind (arith, nat_tests)
      ]
    ]

-- memory at an address, once one more segment is filled in
step : (f : ProgramHeader → ℕ) (b : Bool) (segment : ProgramHeader) (earlier : Option ProgramHeader)
    → (b ≡ true → earlier ≡ None)
    → option_map_or f (option_or earlier (cond b (Some segment) None)) 0 ≡ cond b (f segment)
    (option_map_or f earlier 0)
step f true segment earlier none = rw (none refl) refl
step f false segment None none = refl
step f false segment (Some other) none = refl

pub loaded_more : (file : List ℕ) (segments : List ProgramHeader) (i : ℕ) (d : ProgramHeader) (a : ℕ) →
    i < length segments
    → (is_filled a (get_or segments i d) ≡ true → find (is_filled a) (take i segments) ≡ None)
    → loaded_byte file (take (i + 1) segments) a
    ≡ cond (is_filled a (get_or segments i d)) (file_byte file a (get_or segments i d))
    (loaded_byte file (take i segments) a)
unfolding loaded_byte
loaded_more file segments i d a below none =
    rw (take_more segments i d below, find-append (is_filled a))
    (step (file_byte file a) (is_filled a (get_or segments i d)) (get_or segments i d)
    (find (is_filled a) (take i segments)) none)

-- no segment shares a byte with an earlier one
pub none_parts : (b : Bool) (x : ProgramHeader) (o : Option ProgramHeader) → cond b (Some x) o ≡ None →
    (b ≡ false) × (o ≡ None)
none_parts true x o e = cc
none_parts false x o e = (refl, e)

pub apart_after : (earlier later : List ProgramHeader) (i : ℕ) (d : ProgramHeader)
    → overlap_after earlier later ≡ None → i < length later →
    list_any (shares_byte (get_or later i d)) (earlier ++ take i later) ≡ false
apart_after earlier [] i d e below = absurd (omega arith)
apart_after earlier (x ∷ later) zero d e below = rw append-nil (none_parts _ x _ e).0
apart_after earlier (x ∷ later) (suc i) d e below =
    let rest = apart_after (earlier ++ x ∷ []) later i d (none_parts _ x _ e).1 (omega arith) in
    rw append_assoc at rest

-- so the address of one's byte in the file is no other's
pub filled_once : (a : ℕ) (segment : ProgramHeader) (others : List ProgramHeader)
    → is_filled a segment ≡ true
    → segment.p_filesz ≤ segment.p_memsz
    → All (λ other. other.p_filesz ≤ other.p_memsz) others
    → list_any (shares_byte segment) others ≡ false → find (is_filled a) others ≡ None
filled_once a segment [] here short all apart = refl
filled_once a segment (x ∷ others) here short all apart =
    let head : x.p_filesz ≤ x.p_memsz = All-head (λ other. other.p_filesz ≤ other.p_memsz) x others all in
    let tail = All-tail (λ other. other.p_filesz ≤ other.p_memsz) x others all in
    let parts = or_parts (shares_byte segment x) (list_any (shares_byte segment) others) apart in
    let rest : find (is_filled a) others ≡ None = filled_once a segment others here short tail parts.1 in
    elim (cases_Bool (is_filled a x)) [ inl there ↦ grind (arith, nat_tests) | inr there ↦ grind (arith, nat_tests) ]

pub all_loaded : (f : ℕ → ℕ) (base : ℕ) (xs : List ℕ)
    → ((k : ℕ) → k < length xs → get_or xs k 0 ≡ f (base + k)) → xs ≡ map f (range_with_len base (length xs))
all_loaded f base xs each =
    ext_get_or 0 xs (map f (range_with_len base (length xs))) (sym (length-map-range_with_len f base (length xs)))
    (λ k below. each k below ∙ sym (get_or-map-range_with_len f base (length xs) k (base + k) 0 below refl))

-- memory at an address as one more segment is filled in
pub filled_more : (file : List ℕ) (segments : List ProgramHeader) (i base size a new old : ℕ) (d : ProgramHeader)
    → All (Fits (length file) base size) segments
    → first_overlap segments ≡ None
    → i < length segments
    → new ≡ cond (is_filled a (get_or segments i d)) (file_byte file a (get_or segments i d)) old
    → old ≡ loaded_byte file (take i segments) a
    → new ≡ loaded_byte file (take (i + 1) segments) a
filled_more file segments i base size a new old d fit apart below now before =
    let Short : ProgramHeader → Type 0 = λ segment. segment.p_filesz ≤ segment.p_memsz in
    let short = All-weaker (Fits (length file) base size) Short (λ segment fits. fits.filled) segments fit in
    let once : is_filled a (get_or segments i d) ≡ true → find (is_filled a) (take i segments) ≡ None =
    λ here. filled_once a (get_or segments i d) (take i segments) here (short i d below)
    (All-take Short i segments short) (apart_after [] segments i d apart below)
    in
    now
    ∙ ap (cond (is_filled a (get_or segments i d)) (file_byte file a (get_or segments i d))) before
    ∙ sym (loaded_more file segments i d a below once)
