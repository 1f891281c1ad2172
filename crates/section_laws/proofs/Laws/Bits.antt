-- which sections meet a request, and how a change of a cache leaves no bit more
use Rattle.std.proofs.Common.{◌≡◌, ◌≢◌, ◌∙◌, ◌==◌, ◌&&◌, ◌||◌, ℕ, Bool, true, false, not, List, [], ◌∷◌, Option}
use Rattle.std.proofs.Common.{None, Some, is_some, option_map}
use Rattle.std.proofs.Common.{refl, ap, sym, inl, inr, ◌⊎◌, arith}
use Rattle.std.proofs.lemmas.Bool.{and_from, cases_eq, or_cases, or_left, or_right}
use Rattle.bus_order.specs.Order.{Request}
use Rattle.residency.specs.Cache.{bit_in, cleared, filled_with, has_bit, is_resident, letter_in, letter_of, lettered}
use Rattle.residency.specs.Cache.{marked, read_bit, touched, way_of, without_line}
use Rattle.residency.specs.Residency.{Way, with_bit, with_letter, without_bits}
use Rattle.residency.proofs.Laws.CacheLemmas.{way_of-cleared, way_of-filled_with_same, way_of-lettered_other}
use Rattle.residency.proofs.Laws.CacheLemmas.{way_of-lettered_same}
use Rattle.residency.proofs.Laws.CacheLemmas.{way_of-marked_other, way_of-marked_same, way_of-touched}
use Rattle.residency.proofs.Laws.CacheLemmas.{way_of-without_line_other}
use Rattle.residency.proofs.Laws.CacheLemmas.{way_of-without_line_same}
use Rattle.el_base.specs.declared.outcomes.Need.{Need}
use Rattle.el_base.specs.declared.outcomes.Need.TheVariants.{Read, Write}
use Rattle.el_base.proofs.Laws.Tests.{first_of_both, other_test, own_test, second_of_both}
use Rattle.el_base.proofs.Laws.Cases.{clash}
use Rattle.el_model.specs.Conflicts.{conflicts, meets_bit}
use Rattle.el_model.specs.Serve.{given_up, kept_letter, others_cache, own_copy}
use Rattle.el_model.specs.State.{Hart}
use Rattle.el_model.proofs.Laws.Tests.{by_test}
use Rattle.moesi.specs.Letters.{filled_of, may_read, on_read_of}
use Rattle.moesi.specs.declared.letter.Letter.{Letter}
use Rattle.section_laws.proofs.Steady.{StaysOrLeaves, other_filled}

-- a section that meets a request: it is live, another hart's, and has a bit in the way
pub record Meets (request : Request) (h : ℕ) (hart : Hart) : Type 0 where
  pub other : request.hart ≢ h
  pub live : is_some hart.section ≡ true
  pub bit : meets_bit hart request.line request.need ≡ true

pub meets : (request : Request) (h : ℕ) (hart : Hart) → conflicts request h hart ≡ true → Meets request h hart
meets request h hart is =
    let other_and_live =
    first_of_both (not (request.hart == h) && is_some hart.section) (meets_bit hart request.line request.need) is in
    record {
      other =
          λ same. clash (ap not (own_test h))
          (ap (λ k. not (k == h)) (sym same) ∙ first_of_both _ (is_some hart.section) other_and_live);
      live = second_of_both (not (request.hart == h)) (is_some hart.section) other_and_live;
      bit =
          second_of_both (not (request.hart == h) && is_some hart.section)
          (meets_bit hart request.line request.need) is;
    }

pub in_the_way : (request : Request) (h : ℕ) (hart : Hart) → Meets request h hart → conflicts request h hart ≡ true
in_the_way request h hart it = and_from _ _ (and_from _ _ (ap not (other_test request.hart h it.other)) it.live) it.bit

-- a way has no bit more than another
pub record NoMore (old new : Option Way) : Type 0 where
  pub read : bit_in Read new ≡ true → bit_in Read old ≡ true
  pub write : bit_in Write new ≡ true → bit_in Write old ≡ true

pub no_more_same : (way : Option Way) → NoMore way way
no_more_same way = record { read = λ is. is; write = λ is. is }

pub no_more_twice : (one two three : Option Way) → NoMore one two → NoMore two three → NoMore one three
no_more_twice one two three first second =
    record { read = λ is. first.read (second.read is); write = λ is. first.write (second.write is) }

no_more_none : (old : Option Way) → NoMore old None
no_more_none old = record { read = λ is. absurd (cc); write = λ is. absurd (cc) }

pub no_more_any : (old new : Option Way) → NoMore old new → (bit_in Read new || bit_in Write new) ≡ true →
    (bit_in Read old || bit_in Write old) ≡ true
no_more_any old new no_more is = by (or_cases (bit_in Read new) (bit_in Write new) is)
  where
    by : (bit_in Read new ≡ true) ⊎ (bit_in Write new ≡ true) → (bit_in Read old || bit_in Write old) ≡ true
    by (inl read) = or_left _ (bit_in Write old) (no_more.read read)
    by (inr write) = or_right (bit_in Read old) _ (no_more.write write)

-- what the words of a cache do
abbrev pub NoBitMore : List (List Way) → List (List Way) → ℕ → Type 0
NoBitMore old new line = NoMore (way_of old line) (way_of new line)

no_more_equal : (old new : Option Way) → new ≡ old → NoMore old new
no_more_equal old new same = rw same (no_more_same old)

pub no_more_touched : (cache : List (List Way)) (line l : ℕ) → NoBitMore cache (touched cache line) l
no_more_touched cache line l = no_more_equal (way_of cache l) _ (way_of-touched cache line l)

-- another letter leaves the bits
same_bit : (letter : Letter) (need : Need) (way : Option Way) →
    bit_in need (option_map (with_letter letter) way) ≡ bit_in need way
same_bit letter need None = refl
same_bit letter Read (Some way) = refl
same_bit letter Write (Some way) = refl

pub bit_lettered : (cache : List (List Way)) (line l : ℕ) (letter : Letter) (need : Need) →
    bit_in need (way_of (lettered cache line letter) l) ≡ bit_in need (way_of cache l)
bit_lettered cache line l letter need = at (cases_eq l line)
  where
    at : (l ≡ line) ⊎ (l ≡ line → ⊥) →
        bit_in need (way_of (lettered cache line letter) l) ≡ bit_in need (way_of cache l)
    at (inl same) =
        rw same (ap (bit_in need) (way_of-lettered_same cache line letter) ∙ same_bit letter need (way_of cache line))
    at (inr other) = ap (bit_in need) (way_of-lettered_other cache line l letter other)

no_more_lettered : (cache : List (List Way)) (line l : ℕ) (letter : Letter) →
    NoBitMore cache (lettered cache line letter) l
no_more_lettered cache line l letter = record {
  read = λ is. sym (bit_lettered cache line l letter Read) ∙ is;
  write = λ is. sym (bit_lettered cache line l letter Write) ∙ is;
}

no_more_bare : (way : Option Way) → NoMore way (option_map without_bits way)
no_more_bare None = no_more_none None
no_more_bare (Some way) = record { read = λ is. absurd (cc); write = λ is. absurd (cc) }

pub no_more_cleared : (cache : List (List Way)) (l : ℕ) → NoBitMore cache (cleared cache) l
no_more_cleared cache l = rw (way_of-cleared cache l) (no_more_bare (way_of cache l))

no_more_without : (cache : List (List Way)) (line l : ℕ) → NoBitMore cache (without_line cache line) l
no_more_without cache line l = at (cases_eq l line)
  where
    at : (l ≡ line) ⊎ (l ≡ line → ⊥) → NoBitMore cache (without_line cache line) l
    at (inl same) = rw same (rw (way_of-without_line_same cache line) (no_more_none (way_of cache line)))
    at (inr other) = no_more_equal (way_of cache l) _ (way_of-without_line_other cache line l other)

no_more_filled : (ways : ℕ) (cache : List (List Way)) (line l : ℕ) (letter : Letter) →
    NoBitMore cache (filled_with ways cache line letter) l
no_more_filled ways cache line l letter = at (cases_eq l line)
  where
    own : (cache : List (List Way)) → NoBitMore cache (filled_with ways cache line letter) line
    own [] = no_more_same None
    own (first ∷ sets) =
        rw (way_of-filled_with_same ways (first ∷ sets) line letter (omega arith))
        (record { read = λ is. absurd (cc); write = λ is. absurd (cc) })

    other_line : StaysOrLeaves (way_of cache l) (way_of (filled_with ways cache line letter) l) →
        NoBitMore cache (filled_with ways cache line letter) l
    other_line (inl same) = no_more_equal (way_of cache l) _ same
    other_line (inr left) = rw left (no_more_none (way_of cache l))

    at : (l ≡ line) ⊎ (l ≡ line → ⊥) → NoBitMore cache (filled_with ways cache line letter) l
    at (inl same) = rw same (own cache)
    at (inr other) = other_line (other_filled ways cache line l letter other)

pub no_more_own : (ways : ℕ) (others : Bool) (need : Need) (cache : List (List Way)) (line l : ℕ) →
    NoBitMore cache (own_copy ways others need cache line) l
no_more_own ways others need cache line l =
    by_test (λ new. NoBitMore cache new l) (is_resident cache line)
    (lettered cache line (kept_letter need (letter_of cache line)))
    (filled_with ways cache line (filled_of need others)) (λ had. no_more_lettered cache line l _)
    (λ new. no_more_filled ways cache line l _)

no_more_given : (need : Need) (cache : List (List Way)) (line l : ℕ) → NoBitMore cache (given_up need cache line) l
no_more_given Write cache line l = no_more_without cache line l
no_more_given Read cache line l = no_more_lettered cache line l (on_read_of (letter_of cache line))

pub no_more_others : (had : Bool) (need : Need) (cache : List (List Way)) (line l : ℕ) →
    NoBitMore cache (others_cache had need cache line) l
no_more_others had Write cache line l = no_more_given Write cache line l
no_more_others true Read cache line l = no_more_same (way_of cache l)
no_more_others false Read cache line l = no_more_given Read cache line l

pub no_more_marked : (cache : List (List Way)) (line l : ℕ) (need : Need) → l ≢ line →
    NoBitMore cache (marked cache line need) l
no_more_marked cache line l need other = no_more_equal (way_of cache l) _ (way_of-marked_other cache line l need other)

read_marked : (way : Option Way) → bit_in Write (option_map (with_bit Read) way) ≡ true → bit_in Write way ≡ true
read_marked None is = absurd (cc)
read_marked (Some way) is = is

-- a read bit that is set sets no write bit
pub write_of_read_marked : (cache : List (List Way)) (line : ℕ) →
    bit_in Write (way_of (marked cache line Read) line) ≡ true → bit_in Write (way_of cache line) ≡ true
write_of_read_marked cache line = rw (way_of-marked_same cache line Read) (read_marked (way_of cache line))

-- a line that may be read has the read bit as it gets it
pub read_bit_marked : (cache : List (List Way)) (line : ℕ) → may_read (letter_of cache line) ≡ true →
    read_bit (touched (marked cache line Read) line) line ≡ true
read_bit_marked cache line may =
    ap (bit_in Read) (way_of-touched (marked cache line Read) line line ∙ way_of-marked_same cache line Read)
    ∙ by (way_of cache line) may
  where
    by : (way : Option Way) → may_read (letter_in way) ≡ true → bit_in Read (option_map (with_bit Read) way) ≡ true
    by None may = absurd (cc)
    by (Some way) may = refl

-- on a line a hart's section has no bit more than before, and there is none where there was none
pub record Fewer (line : ℕ) (old new : Hart) : Type 0 where
  pub live : is_some new.section ≡ true → is_some old.section ≡ true
  pub bits : is_some new.section ≡ true → NoBitMore old.cache new.cache line

pub fewer_same : (line : ℕ) (old new : Hart) → new.section ≡ old.section → new.cache ≡ old.cache → Fewer line old new
fewer_same line old new section cache = record {
  live = λ live. sym (ap is_some section) ∙ live;
  bits = λ live. rw cache (no_more_same (way_of old.cache line));
}

pub fewer_ended : (line : ℕ) (old new : Hart) → new.section ≡ None → Fewer line old new
fewer_ended line old new none = record {
  live = λ live. clash (ap is_some none) live;
  bits = λ live. clash (ap is_some none) live;
}

pub fewer_twice : (line : ℕ) (one two three : Hart) → Fewer line one two → Fewer line two three → Fewer line one three
fewer_twice line one two three first second = record {
  live = λ live. first.live (second.live live);
  bits = λ live. no_more_twice _ (way_of two.cache line) _ (first.bits (second.live live)) (second.bits live);
}

pub meets_no_more : (old new : Hart) (line : ℕ) (need : Need) → NoBitMore old.cache new.cache line →
    meets_bit new line need ≡ true → meets_bit old line need ≡ true
meets_no_more old new line Write no_more is = no_more_any (way_of old.cache line) (way_of new.cache line) no_more is
meets_no_more old new line Read no_more is = no_more.write is

pub fewer_conflicts : (request : Request) (h : ℕ) (old new : Hart) → Fewer request.line old new →
    conflicts request h new ≡ true → conflicts request h old ≡ true
fewer_conflicts request h old new fewer is =
    let it = meets request h new is in
    in_the_way request h old
    (record {
      other = it.other;
      live = fewer.live it.live;
      bit = meets_no_more old new request.line request.need (fewer.bits it.live) it.bit;
    })

pub fewer_bit : (line : ℕ) (old new : Hart) → Fewer line old new → is_some new.section ≡ true →
    has_bit new.cache line ≡ true → has_bit old.cache line ≡ true
fewer_bit line old new fewer live is = no_more_any (way_of old.cache line) (way_of new.cache line) (fewer.bits live) is
