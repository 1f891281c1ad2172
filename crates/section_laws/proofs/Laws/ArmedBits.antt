-- an armed section has read the line of its word alone, and its hart has no live section
use Rattle.std.proofs.Common.{◌≡◌, ◌∙◌, ◌⊎◌, ℕ, Bool, true, false, List, Option, None, Some, is_some, refl, ap, sym}
use Rattle.std.proofs.Common.{subst, inl, inr, ◌&&◌, ◌==◌, not}
use Rattle.std.proofs.lemmas.Bool.{cases_eq, false_from_ne_true, or_parts}
use Rattle.bus_order.specs.Order.{Request}
use Rattle.residency.specs.Cache.{bit_in, has_marks, is_resident, marked, read_bit, touched, way_of, write_bit}
use Rattle.residency.specs.Residency.{Way}
use Rattle.residency.proofs.Laws.MarkLemmas.{no_marks}
use Rattle.el_base.specs.Line.{line_number}
use Rattle.el_base.specs.declared.outcomes.Need.TheVariants.{Read, Write}
use Rattle.el_base.proofs.Laws.Cases.{clash, none_some, some_none}
use Rattle.el_base.proofs.Laws.Tests.{first_of_both, number_of_test, second_of_both}
use Rattle.el_model.specs.Deed.{Arms, Begins, Buffers, Commits, Continues, Deed, DoesWhere, Elides, LetsGo, Misses}
use Rattle.el_model.specs.Deed.{Rests, RollsBack, Runs, Waits, hart_after}
use Rattle.el_model.specs.Armed.{completes}
use Rattle.el_model.specs.Conflicts.{is_wanted_to_write}
use Rattle.el_model.specs.Plain.{candidate_of}
use Rattle.el_model.specs.Upcoming.{Swap, changes_word}
use Rattle.el_model.specs.Serve.{others_have, own_copy, with_claim}
use Rattle.el_model.specs.State.{Armed, Hart, ModelState, Section, cache_of, hart_of}
use Rattle.el_model.proofs.Laws.HartParts.{candidate_armed}
use Rattle.section_laws.specs.EachHart.{HasNoOtherBit}
use Rattle.section_laws.proofs.Laws.Bits.{NoBitMore, no_more_marked, no_more_others, no_more_own, no_more_touched}
use Rattle.section_laws.proofs.Laws.Bits.{no_more_twice}
use Rattle.section_laws.proofs.Laws.Bits.{write_of_read_marked}
use Rattle.section_laws.proofs.Laws.EachKept.{BusKept, EachKept}
use Rattle.section_laws.proofs.Laws.Moves.{moves_by_ends}
use Rattle.section_laws.proofs.OnlyInside as inside

pub record ReadsAlone (word : ℕ) (section : Option Section) (cache : List (List Way)) : Type 0 where
  pub no_section : section ≡ None
  pub no_other : HasNoOtherBit word cache

abbrev pub Alone : Hart → Type 0
Alone hart = (armed : Armed) → hart.armed ≡ Some armed → ReadsAlone armed.word hart.section hart.cache

-- beside it that a hart without any section has no bit
abbrev pub Holds : Hart → Type 0
Holds hart = inside.Holds hart × Alone hart

pub same_word : {one other : Armed} → Some one ≡ Some other → one.word ≡ other.word
same_word {one} {other} is = let same : one ≡ other = cc in ap (λ armed. armed.word) same

-- a cache with no more bits
fewer_bits : (word : ℕ) (old new : List (List Way)) → ((line : ℕ) → NoBitMore old new line) → HasNoOtherBit word old →
    HasNoOtherBit word new
fewer_bits word old new no_more was = record {
  unwritten = λ line.
      false_from_ne_true (write_bit new line) (λ is. clash (was.unwritten line) ((no_more line).write is));
  alone = λ line other.
      false_from_ne_true (read_bit new line) (λ is. clash (was.alone line other) ((no_more line).read is));
}

-- a cache without bits, as a hart arms
armed_bits : (cache : List (List Way)) (word : ℕ) → has_marks cache ≡ false →
    HasNoOtherBit word (touched (marked cache (line_number word) Read) (line_number word))
armed_bits cache word bare = record {
  unwritten = λ line.
      false_from_ne_true (write_bit new line)
      (λ is. clash (none line).1
      (old_write line (cases_eq line (line_number word))
      ((no_more_touched reads (line_number word) line).write is)));
  alone = λ line other.
      false_from_ne_true (read_bit new line)
      (λ is.
      clash (none line).0
      ((no_more_marked cache (line_number word) line Read other).read
      ((no_more_touched reads (line_number word) line).read is)));
}
  where
    reads : List (List Way)
    reads = marked cache (line_number word) Read

    new : List (List Way)
    new = touched (marked cache (line_number word) Read) (line_number word)

    none : (line : ℕ) → (read_bit cache line ≡ false) × (write_bit cache line ≡ false)
    none line = or_parts (read_bit cache line) (write_bit cache line) (no_marks cache line bare)

    old_write : (line : ℕ) → (line ≡ line_number word) ⊎ (line ≡ line_number word → ⊥) →
        bit_in Write (way_of (marked cache (line_number word) Read) line) ≡ true → write_bit cache line ≡ true
    old_write line (inl same) is =
        ap (write_bit cache) same
        ∙ write_of_read_marked cache (line_number word) (sym (ap (λ l. bit_in Write (way_of reads l)) same) ∙ is)
    old_write line (inr other) is = (no_more_marked cache (line_number word) line Read other).write is

-- a request is served
claim_alone : (live : Option Section) (request : Request) (hart new : Hart) → hart.section ≡ live →
    new.section ≡ hart.section → new.armed ≡ hart.armed → ((line : ℕ) → NoBitMore hart.cache new.cache line) →
    Alone hart → Alone (with_claim (is_some live) request new)
claim_alone None request hart new is section same no_more now armed armed_is =
    let reads = now armed (sym same ∙ armed_is) in
    record {
      no_section = section ∙ reads.no_section;
      no_other = fewer_bits armed.word hart.cache new.cache no_more reads.no_other;
    }
claim_alone (Some live) request hart new is section same no_more now armed armed_is =
    some_none (sym is ∙ (now armed (sym same ∙ armed_is)).no_section)

served_bits : (state : ModelState) (request : Request) (cache : List (List Way)) (others : Bool) (line : ℕ) →
    NoBitMore cache (touched (own_copy state.config.ways others request.need cache request.line) request.line) line
served_bits state request cache others line =
    no_more_twice (way_of cache line) _ _ (no_more_own state.config.ways others request.need cache request.line line)
    (no_more_touched (own_copy state.config.ways others request.need cache request.line) request.line line)

-- a deed
pub deed_alone : (state : ModelState) (h : ℕ) (deed : Deed) → DoesWhere state h deed → Holds (hart_of state h) →
    Alone (hart_after state h deed (hart_of state h))
deed_alone state h Rests does now = now.1
deed_alone state h Waits does now = now.1
deed_alone state h (Misses line need) does now = now.1
deed_alone state h (Runs touch) runs now = λ armed is.
    none_some (sym (candidate_armed _ _ (candidate_of state h) _ ∙ runs.outside.unarmed) ∙ is)
deed_alone state h (Begins swap) does now = λ armed is. none_some is
deed_alone state h (Buffers section touch) buffers now = λ armed is.
    some_none (sym buffers.goes.goes_on.is_short.inside.live ∙ (now.1 armed is).no_section)
deed_alone state h (Commits section) does now = λ armed is. none_some is
deed_alone state h (RollsBack section cause) does now = λ armed is. none_some is
deed_alone state h (Arms word) arms now = λ armed is. record {
  no_section = arms.outside.no_section;
  no_other =
      subst (λ w. HasNoOtherBit w (hart_after state h (Arms word) (hart_of state h)).cache) (same_word is)
      (armed_bits (cache_of state h) word (now.0 arms.outside.no_section arms.outside.unarmed));
}
deed_alone state h (Elides armed swap) does now = λ other is. none_some is
deed_alone state h (Continues before) continues now = λ armed is. record {
  no_section = continues.is_armed.no_section;
  no_other =
      subst (λ w. HasNoOtherBit w (cache_of state h)) (same_word is)
      (now.1 before continues.is_armed.armed_is).no_other;
}
deed_alone state h (LetsGo armed) does now = λ other is. none_some is

pub kept : EachKept Holds
kept = record {
  bus = record {
    moves = moves_by_ends (λ h hart other now. now)
        (λ h hart now. (bare.moves.lost h hart now.0, λ armed is. none_some is))
        (λ h pc hart now. (bare.moves.freed h pc hart now.0, λ armed is. none_some is));
    unraised = λ h hart now. now;
    served = λ h state request hart now. (
      bare.served h state request hart now.0,
      claim_alone hart.section request hart _ refl refl refl
          (served_bits state request hart.cache (others_have state request.hart request.line)) now.1,
    );
    bystander = λ h state request hart now. (
      bare.bystander h state request hart now.0,
      λ armed is.
          let reads = now.1 armed is in
          record {
            no_section = reads.no_section;
            no_other =
                fewer_bits armed.word hart.cache _
                (no_more_others (is_resident (cache_of state request.hart) request.line) request.need hart.cache
                request.line) reads.no_other;
          },
    );
  };
  deed = λ state h deed does now. (inside.kept.deed state h deed does now.0, deed_alone state h deed does now);
  new = λ sets. (inside.kept.new sets, λ armed is. none_some is);
}
  where
    bare : BusKept (λ h hart. inside.Holds hart)
    bare = inside.kept.bus

-- an SC that completes an armed section is to its word, changes that, and finds no other hart that waits to write there
pub record IsCompleting (state : ModelState) (h : ℕ) (armed : Armed) (swap : Swap) : Type 0 where
  pub same : swap.word ≡ armed.word
  pub changes : changes_word swap ≡ true
  pub unwanted : is_wanted_to_write state h (line_number armed.word) ≡ false

pub completing : (state : ModelState) (h : ℕ) (armed : Armed) (swap : Swap) → completes state h armed swap ≡ true →
    IsCompleting state h armed swap
completing state h armed swap is =
    let first = first_of_both (swap.word == armed.word && changes_word swap) (not wanted) is in
    record {
      same = number_of_test swap.word armed.word (first_of_both (swap.word == armed.word) (changes_word swap) first);
      changes = second_of_both (swap.word == armed.word) (changes_word swap) first;
      unwanted = not_so wanted (second_of_both (swap.word == armed.word && changes_word swap) (not wanted) is);
    }
  where
    wanted : Bool
    wanted = is_wanted_to_write state h (line_number armed.word)

    not_so : (b : Bool) → not b ≡ true → b ≡ false
    not_so true is = absurd (cc)
    not_so false is = refl
