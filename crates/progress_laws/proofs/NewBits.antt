-- a step gives no section a bit that the head of the line conflicts with
use Rattle.std.proofs.Common.{◌≡◌, ◌≢◌, ◌∙◌, ℕ, ◌+◌, Bool, true, false, ◌&&◌, ◌==◌, not, List}
use Rattle.std.proofs.Common.{Option, None, Some, is_some, option_map, refl, ap, sym, subst, inl, inr, ◌⊎◌}
use Rattle.std.proofs.Common.{if◌then◌else◌}
use Rattle.std.proofs.lemmas.Bool.{and_right, cases_eq}
use Rattle.bus_order.specs.Order.{Request}
use Rattle.bus_order.proofs.Laws.Queues.{line_of_first_of}
use Rattle.residency.specs.Cache.{bit_in, has_marks, marked, touched, way_of, write_bit}
use Rattle.residency.specs.Residency.{Way, with_bit}
use Rattle.residency.proofs.Laws.CacheLemmas.{way_of-marked_other, way_of-marked_same, way_of-touched}
use Rattle.residency.proofs.Laws.MarkLemmas.{no_marks}
use Rattle.el_base.specs.Line.{line_number}
use Rattle.el_base.specs.declared.outcomes.Need.{Need}
use Rattle.el_base.specs.declared.outcomes.Need.TheVariants.{Read, Write}
use Rattle.el_base.proofs.Laws.Cases.{false_true, true_false}
use Rattle.el_base.proofs.Laws.Tests.{first_not, second_not}
use Rattle.el_model.specs.Conflicts.{conflicts, conflicts_with, is_wanted, is_wanted_to_write, is_write}
use Rattle.el_model.specs.Conflicts.{meets_bit, writes}
use Rattle.el_model.specs.Deed.{Arms, Begins, Buffers, Commits, Continues, Deed, DoesWhere, Elides, IsCoverable, LetsGo}
use Rattle.el_model.specs.Deed.{MayBuffer, Misses, Rests, RollsBack, Runs, Waits, hart_after, permits}
use Rattle.el_model.specs.InSection.{buffered_hart, is_covered}
use Rattle.el_model.specs.Next.{step_turn}
use Rattle.el_model.specs.Plain.{began_hart, candidate_of}
use Rattle.el_model.specs.State.{Hart, ModelState, Section, cache_of, hart_of, head_of, new_hart, section_of}
use Rattle.el_model.specs.Upcoming.{Swap, Touch}
use Rattle.el_model.proofs.Laws.Deeds.{step_deed}
use Rattle.progress_laws.proofs.Faced.{NoneRetains, dead_unmet}
use Rattle.section_laws.proofs.Laws.Asked.{asked_first}
use Rattle.section_laws.proofs.Laws.Fewer.{fewer_unmet}
use Rattle.section_laws.proofs.Laws.Bits.{Fewer, NoMore, fewer_same, no_more_marked, no_more_same, no_more_touched}
use Rattle.section_laws.proofs.Laws.Bits.{no_more_twice}
use Rattle.section_laws.specs.EachHart.{HasNoOtherBit}
use Rattle.section_laws.proofs.Laws.ArmedBits as bits
use Rattle.section_laws.proofs.Laws.FreeLines.{not_met}
use Rattle.el_model.proofs.Laws.EachHart.{Each, each_but}
use Rattle.el_model.proofs.Laws.HartParts.{candidate_section}
use Rattle.el_model.proofs.Laws.Orders.{head_line}

-- where no other hart's request would conflict with a new bit, the head does not
pub new_bit_unmet : (state : ModelState) (h : ℕ) (head : Request) (need : Need) (new : Hart) →
    head_of state head.line ≡ Some head → is_wanted state h head.line need ≡ false →
    (not (head.hart == h) ≡ true → head.need ≡ Read → need ≡ Read → write_bit new.cache head.line ≡ false) →
    conflicts head h new ≡ false
new_bit_unmet state h head need new first unwanted unwritten = by (not (head.hart == h)) refl need refl head.need refl
  where
    by : (other : Bool) → not (head.hart == h) ≡ other → (n : Need) → need ≡ n → (asked : Need) → head.need ≡ asked →
        ((other && is_some new.section) && meets_bit new head.line head.need) ≡ false
    by false apart n is asked asks = refl
    by true apart Write is asked asks =
        let none =
        asked_first (λ r. true) state.order h head.line head
        (sym (ap (is_wanted state h head.line) is) ∙ unwanted) first in
        true_false (sym (ap (λ other. other && true) apart) ∙ none)
    by true apart Read is Write asks =
        let none =
        asked_first is_write state.order h head.line head
        (sym (ap (is_wanted state h head.line) is) ∙ unwanted) first in
        true_false (sym (ap (λ other. other && writes head.need) apart ∙ ap writes asks) ∙ none)
    by true apart Read is Read asks =
        and_right (true && is_some new.section) (meets_bit new head.line head.need)
        (ap (meets_bit new head.line) asks ∙ unwritten apart asks is)

-- of a hart: no head meets its section
abbrev Unmet : ModelState → ℕ → Hart → Type 0
Unmet state h hart = (line : ℕ) → conflicts_with (head_of state line) h hart ≡ false

-- a hart that got one bit
marked_unmet : (state : ModelState) (h line : ℕ) (need : Need) (new : Hart) → is_wanted state h line need ≡ false →
    ((head : Request) → head_of state line ≡ Some head → not (head.hart == h) ≡ true → head.need ≡ Read → need ≡ Read →
    write_bit new.cache line ≡ false) →
    ((l : ℕ) → l ≢ line → conflicts_with (head_of state l) h new ≡ false) → Unmet state h new
marked_unmet state h line need new unwanted unwritten others l = at (cases_eq l line)
  where
    here : (head : Option Request) → head_of state line ≡ head → conflicts_with head h new ≡ false
    here None none = refl
    here (Some head) first =
        let own : head.line ≡ line = line_of_first_of state.order line head first in
        new_bit_unmet state h head need new (ap (head_of state) own ∙ first)
        (ap (λ k. is_wanted state h k need) own ∙ unwanted)
        (λ other reads is. ap (write_bit new.cache) own ∙ unwritten head first other reads is)

    at : (l ≡ line) ⊎ (l ≡ line → ⊥) → conflicts_with (head_of state l) h new ≡ false
    at (inl same) = ap (λ k. conflicts_with (head_of state k) h new) same ∙ here (head_of state line) refl
    at (inr other) = others l other

-- a hart without a section
out_unmet : (state : ModelState) (h : ℕ) (hart : Hart) → hart.section ≡ None → Unmet state h hart
out_unmet state h hart dead line = by (head_of state line)
  where
    by : (head : Option Request) → conflicts_with head h hart ≡ false
    by None = refl
    by (Some head) = dead_unmet head h hart dead

-- a section begins: its hart had no bit, or the read bit of the word's line alone
bare_bits : (cache : List (List Way)) (word : ℕ) → has_marks cache ≡ false → HasNoOtherBit word cache
bare_bits cache word bare = record {
  unwritten = λ line. second_not (bit_in Read (way_of cache line)) _ (no_marks cache line bare);
  alone = λ line other. first_not _ _ (no_marks cache line bare);
}

bare_unmet : (head : Request) (h : ℕ) (new : Hart) → bit_in Read (way_of new.cache head.line) ≡ false →
    bit_in Write (way_of new.cache head.line) ≡ false → conflicts head h new ≡ false
bare_unmet head h new unread unwritten =
    and_right (not (head.hart == h) && is_some new.section) (meets_bit new head.line head.need) (by head.need)
  where
    by : (need : Need) → meets_bit new head.line need ≡ false
    by Read = unwritten
    by Write = rw (unread, unwritten) refl

write_of_read : (way : Option Way) → bit_in Write (option_map (with_bit Read) way) ≡ bit_in Write way
write_of_read None = refl
write_of_read (Some way) = refl

-- the bits after a line was marked and touched
touched_other : (cache : List (List Way)) (line l : ℕ) (need bit : Need) → l ≢ line →
    bit_in bit (way_of (touched (marked cache line need) line) l) ≡ bit_in bit (way_of cache l)
touched_other cache line l need bit other =
    ap (bit_in bit) (way_of-touched (marked cache line need) line l ∙ way_of-marked_other cache line l need other)

touched_unwritten : (cache : List (List Way)) (line : ℕ) →
    write_bit (touched (marked cache line Read) line) line ≡ write_bit cache line
touched_unwritten cache line =
    ap (bit_in Write) (way_of-touched (marked cache line Read) line line ∙ way_of-marked_same cache line Read)
    ∙ write_of_read (way_of cache line)

begins_unmet : (state : ModelState) (h : ℕ) (swap : Swap) → is_wanted_to_write state h (line_number swap.word) ≡ false →
    HasNoOtherBit swap.word (cache_of state h) → Unmet state h (began_hart state.config.mode h swap (hart_of state h))
begins_unmet state h swap unwanted reads =
    marked_unmet state h word Read (began_hart state.config.mode h swap (hart_of state h)) unwanted
    (λ head first other reads_it is. touched_unwritten (cache_of state h) word ∙ reads.unwritten word)
    (λ l other. elsewhere l other (head_of state l) refl)
  where
    word : ℕ
    word = line_number swap.word

    elsewhere : (l : ℕ) → l ≢ word → (head : Option Request) → head_of state l ≡ head →
        conflicts_with head h (began_hart state.config.mode h swap (hart_of state h)) ≡ false
    elsewhere l other None none = refl
    elsewhere l other (Some head) first =
        let own : head.line ≡ l = line_of_first_of state.order l head first in
        let apart : head.line ≢ word = λ same. other (sym own ∙ same) in
        bare_unmet head h (began_hart state.config.mode h swap (hart_of state h))
        (touched_other (cache_of state h) word head.line Read Read apart ∙ reads.alone head.line apart)
        (touched_other (cache_of state h) word head.line Read Write apart ∙ reads.unwritten head.line)

-- an instruction of a section runs
fewer_bits_unmet : (state : ModelState) (h line : ℕ) (new : Hart) → Fewer line (hart_of state h) new →
    Unmet state h (hart_of state h) → conflicts_with (head_of state line) h new ≡ false
fewer_bits_unmet state h line new fewer unmet =
    fewer_unmet (head_of state line) h line (hart_of state h) new (head_line state line) fewer (unmet line)

new_bit : (state : ModelState) (h : ℕ) (section : Section) (touch : Touch) → MayBuffer state h section (Some touch) →
    Unmet state h (hart_of state h) → is_wanted state h touch.line touch.need ≡ false → (new : Hart) →
    new.cache ≡ touched (marked (cache_of state h) touch.line touch.need) touch.line → Unmet state h new
new_bit state h section touch may unmet unwanted new cache =
    marked_unmet state h touch.line touch.need new unwanted unwritten
    (λ l other.
    fewer_bits_unmet state h l new
    (record {
      live = λ lives. live;
      bits = λ lives.
          subst (λ c. NoMore (way_of (cache_of state h) l) (way_of c l)) (sym cache)
          (no_more_twice (way_of (cache_of state h) l) _ _
          (no_more_marked (cache_of state h) touch.line l touch.need other)
          (no_more_touched (marked (cache_of state h) touch.line touch.need) touch.line l));
    })
    unmet)
  where
    live : is_some (section_of state h) ≡ true
    live = ap is_some may.goes.goes_on.is_short.inside.live

    unwritten : (head : Request) → head_of state touch.line ≡ Some head → not (head.hart == h) ≡ true →
        head.need ≡ Read → touch.need ≡ Read → write_bit new.cache touch.line ≡ false
    unwritten head first other reads is =
        let own : head.line ≡ touch.line = line_of_first_of state.order touch.line head first in
        let met = sym (ap (λ found. conflicts_with found h (hart_of state h)) first) ∙ unmet touch.line in
        let bit =
        not_met (not (head.hart == h)) (is_some (section_of state h))
        (meets_bit (hart_of state h) head.line head.need) met other live in
        ap (λ c. write_bit c touch.line) cache
        ∙ ap (λ need. write_bit (touched (marked (cache_of state h) touch.line need) touch.line) touch.line) is
        ∙ touched_unwritten (cache_of state h) touch.line
        ∙ sym (ap (write_bit (cache_of state h)) own)
        ∙ sym (ap (meets_bit (hart_of state h) head.line) reads)
        ∙ bit

touch_unmet : (state : ModelState) (h : ℕ) (section : Section) (touch : Touch) →
    MayBuffer state h section (Some touch) → Unmet state h (hart_of state h) →
    Unmet state h (buffered_hart section (Some touch) (hart_of state h))
touch_unmet state h section touch may unmet =
    by (is_covered (cache_of state h) touch.line touch.need) refl may.coverable
  where
    new : Bool → Hart
    new had =
        record (hart_of state h) {
          section = Some (record section { count = section.count + 1 });
          cache =
              touched (if had then cache_of state h else marked (cache_of state h) touch.line touch.need) touch.line;
          held_line = None;
        }

    live : is_some (section_of state h) ≡ true
    live = ap is_some may.goes.goes_on.is_short.inside.live

    by : (had : Bool) → is_covered (cache_of state h) touch.line touch.need ≡ had →
        IsCoverable state h section (Some touch) → Unmet state h (new had)
    by true is coverable line =
        fewer_bits_unmet state h line (new true)
        (record { live = λ lives. live; bits = λ lives. no_more_touched (cache_of state h) touch.line line })
        unmet
    by false is (inl covers) line = false_true (sym is ∙ covers)
    by false is (inr (room, fine)) line =
        new_bit state h section touch may unmet (second_not (not (permits state h touch)) _ fine) (new false) refl line

buffers_unmet : (state : ModelState) (h : ℕ) (section : Section) (touch : Option Touch) →
    MayBuffer state h section touch → Unmet state h (hart_of state h) →
    Unmet state h (buffered_hart section touch (hart_of state h))
buffers_unmet state h section None may unmet line =
    fewer_bits_unmet state h line (buffered_hart section None (hart_of state h))
    (record {
      live = λ lives. ap is_some may.goes.goes_on.is_short.inside.live;
      bits = λ lives. no_more_same (way_of (cache_of state h) line);
    })
    unmet
buffers_unmet state h section (Some touch) may unmet line = touch_unmet state h section touch may unmet line

-- a deed
deed_unmet : (state : ModelState) (h : ℕ) (deed : Deed) → DoesWhere state h deed → bits.Holds (hart_of state h) →
    Unmet state h (hart_of state h) → Unmet state h (hart_after state h deed (hart_of state h))
deed_unmet state h Rests does outside unmet l = unmet l
deed_unmet state h Waits does outside unmet l = unmet l
deed_unmet state h (Misses line need) does outside unmet l =
    fewer_bits_unmet state h l (hart_after state h (Misses line need) (hart_of state h))
    (fewer_same l (hart_of state h) _ refl refl) unmet
deed_unmet state h (Runs touch) runs outside unmet l =
    out_unmet state h (hart_after state h (Runs touch) (hart_of state h))
    (candidate_section _ _ (candidate_of state h) _ ∙ runs.outside.no_section) l
deed_unmet state h (Begins swap) begins outside unmet l =
    begins_unmet state h swap begins.unwanted
    (bare_bits (cache_of state h) swap.word (outside.0 begins.outside.no_section begins.outside.unarmed)) l
deed_unmet state h (Arms word) arms outside unmet l =
    out_unmet state h (hart_after state h (Arms word) (hart_of state h)) arms.outside.no_section l
deed_unmet state h (Elides armed swap) elides outside unmet l =
    let it = bits.completing state h armed swap elides.completing in
    begins_unmet state h swap (ap (λ word. is_wanted_to_write state h (line_number word)) it.same ∙ it.unwanted)
    (subst (λ word. HasNoOtherBit word (cache_of state h)) (sym it.same)
    (outside.1 armed elides.is_armed.armed_is).no_other) l
deed_unmet state h (Continues armed) continues outside unmet l =
    out_unmet state h (hart_after state h (Continues armed) (hart_of state h)) continues.is_armed.no_section l
deed_unmet state h (LetsGo armed) lets_go outside unmet l =
    out_unmet state h (hart_after state h (LetsGo armed) (hart_of state h)) lets_go.is_armed.no_section l
deed_unmet state h (Buffers section touch) buffers outside unmet l = buffers_unmet state h section touch buffers unmet l
deed_unmet state h (Commits section) does outside unmet l =
    out_unmet state h (hart_after state h (Commits section) (hart_of state h)) refl l
deed_unmet state h (RollsBack section cause) does outside unmet l =
    out_unmet state h (hart_after state h (RollsBack section cause) (hart_of state h)) refl l

pub step_unretained : (state : ModelState) (h : ℕ) → Each (λ g hart. bits.Holds hart) state → NoneRetains state →
    NoneRetains (step_turn state h).state
step_unretained state h outside none =
    let step = step_deed state h in
    rw step.turn_is
    (each_but (Unmet state) state h (hart_after state h step.deed (hart_of state h))
    (deed_unmet state h step.deed step.where_it (outside h) (none h)) (λ g apart. none g)
    (λ past. out_unmet state h (new_hart 0) refl))
