-- what holds still holds after a step: it posts nothing, and a section that retains no line does not begin to
use Rattle.std.proofs.Common.{◌≡◌, ◌≢◌, ◌∙◌, ◌≤◌, ◌+◌, ℕ, Bool, true, false, not, List}
use Rattle.std.proofs.Common.{length, Option, None, Some}
use Rattle.std.proofs.Common.{is_some, refl, ap, sym, inl, inr, ◌⊎◌, subst, if◌then◌else◌}
use Rattle.std.proofs.Math.ListN.{length-set}
use Rattle.std.proofs.lemmas.Bool.{cases_eq, or_cases}
use Rattle.std.proofs.lemmas.Option.{same_Some}
use Rattle.std.proofs.Math.Nat.{le_refl}
use Rattle.bus_order.specs.Order.{Request, first_of}
use Rattle.residency.specs.Cache.{bit_in, has_bit, has_marks, marked, read_bit, touched, way_of, write_bit}
use Rattle.residency.specs.Residency.{Way}
use Rattle.residency.proofs.Laws.CacheLemmas.{way_of-touched}
use Rattle.residency.proofs.Laws.MarkLemmas.{no_marks}
use Rattle.defer_list.specs.HartSet.{has}
use Rattle.el_base.specs.Line.{line_number}
use Rattle.el_base.specs.declared.outcomes.Need.{Need}
use Rattle.el_base.specs.declared.outcomes.Need.TheVariants.{Read, Write}
use Rattle.el_base.proofs.Laws.Cases.{clash, some_none}
use Rattle.el_base.proofs.Laws.Tests.{second_not}
use Rattle.el_model.specs.Conflicts.{conflicts_with, is_wanted, is_wanted_to_write, is_write, meets_bit}
use Rattle.el_model.specs.Deed.{Arms, Begins, Buffers, Commits, Continues, Deed, DoesWhere, Elides, IsCoverable, LetsGo}
use Rattle.el_model.specs.Deed.{MayElide, Misses, Rests}
use Rattle.el_model.specs.Deed.{RollsBack, Runs, Waits, done, hart_after, permits}
use Rattle.el_model.specs.InSection.{covered, is_covered}
use Rattle.el_model.specs.Next.{step_turn}
use Rattle.el_model.specs.Plain.{after_candidate, candidate_of}
use Rattle.el_model.specs.State.{Armed, Hart, ModelState, Section, has_request, hart_of, head_of, ordered_of, raised_of}
use Rattle.el_model.specs.Upcoming.{Swap, Touch}
use Rattle.el_model.proofs.Laws.Deeds.{step_deed}
use Rattle.el_model.proofs.Laws.HartParts.{candidate_section}
use Rattle.el_model.proofs.Laws.Harts.{hart_of-past, with_hart_kept}
use Rattle.mail.specs.Mailbox.{Marker, Message, Probe, has_message}
use Rattle.removal_laws.specs.Facts.{Everywhere}
use Rattle.section_laws.proofs.Laws.Bits.{Meets, NoBitMore, in_the_way, meets, meets_no_more, no_more_marked}
use Rattle.section_laws.proofs.Laws.Bits.{no_more_touched, no_more_twice, write_of_read_marked}
use Rattle.section_laws.proofs.Laws.ArmedBits.{completing}
use Rattle.section_laws.specs.EachHart.{HasNoOtherBit}
use Rattle.removal_laws.proofs.Grounds.{Grounds, Standing}
use Rattle.section_laws.proofs.Laws.Asked.{asked_not}
use Rattle.removal_laws.proofs.Kept.{Moved, may_kept, messages_moved}
use Rattle.el_model.proofs.Laws.EachHart.{Each, each_but}
use Rattle.el_model.proofs.Laws.Orders.{head_line}
use Rattle.el_model.proofs.Laws.Conflicts.{loser_lives}
use Rattle.section_laws.proofs.Laws.Waiting.{no_request}

-- a hart's mailbox and sets
record Contents : Type 0 where
  mail : List Message
  told : List ℕ
  upstream : List ℕ

abbrev contents : Hart → Contents
contents hart = record { mail = hart.mail; told = hart.told; upstream = hart.upstream }

candidate_contents : (pc : Option ℕ) (had_watch : Bool) (candidate : Option Swap) (hart : Hart) →
    contents (after_candidate pc had_watch candidate hart) ≡ contents hart
candidate_contents pc had_watch None hart = refl
candidate_contents pc had_watch (Some swap) hart = refl

deed_contents : (state : ModelState) (h : ℕ) (deed : Deed) (hart : Hart) →
    contents (hart_after state h deed hart) ≡ contents hart
deed_contents state h Rests hart = refl
deed_contents state h Waits hart = refl
deed_contents state h (Misses line need) hart = refl
deed_contents state h (Runs touch) hart = candidate_contents _ _ (candidate_of state h) _
deed_contents state h (Begins swap) hart = refl
deed_contents state h (Buffers section touch) hart = refl
deed_contents state h (Commits section) hart = refl
deed_contents state h (RollsBack section cause) hart = refl
deed_contents state h (Arms word) hart = refl
deed_contents state h (Elides armed swap) hart = refl
deed_contents state h (Continues armed) hart = refl
deed_contents state h (LetsGo armed) hart = refl

abbrev LinkedIn : Contents → ℕ → Type 0
LinkedIn all before = (has_message all.mail (Marker before) ≡ true) ⊎ (has all.upstream before ≡ true)

abbrev KnownIn : Contents → ℕ → Type 0
KnownIn all origin = (has_message all.mail (Probe origin) ≡ true) ⊎ (has all.told origin ≡ true)

moved_aside : (old new : ModelState) → new.order ≡ old.order → length new.harts ≡ length old.harts →
    ((g : ℕ) → contents (hart_of new g) ≡ contents (hart_of old g)) → Moved old new
moved_aside old new order count same = record {
  order = order;
  count = count;
  links = λ g before is. subst (λ all. LinkedIn all before) (sym (same g)) is;
  fresh = λ g before is. inl (subst (λ all. LinkedIn all before) (same g) is);
  knows = λ g origin is. subst (λ all. KnownIn all origin) (sym (same g)) is;
  known = λ g origin is. inl (subst (λ all. KnownIn all origin) (same g) is);
  upstream = λ g before is. inl (subst (λ all. has all.upstream before ≡ true) (same g) is);
  told = λ g origin is. inl (subst (λ all. has all.told origin ≡ true) (same g) is);
}

-- what a step leaves of a hart
record Retained (old new : Hart) : Type 0 where
  attempt : new.attempt ≡ old.attempt
  seen : old.seen ≤ new.seen

record Stepped (state : ModelState) (g : ℕ) (new : Hart) : Type 0 where
  retained : (line : ℕ) → conflicts_with (head_of state line) g new ≡ true →
      (conflicts_with (head_of state line) g (hart_of state g) ≡ true)
      × Retained (hart_of state g) new
  raised : (request : Request) → new.raised ≡ Some request → is_some new.section ≡ true →
      has_bit new.cache request.line ≡ true → request.need ≡ Write
  ordered : (request : Request) → ordered_of state g ≡ Some request → is_some new.section ≡ true →
      has_bit new.cache request.line ≡ true → (request.need ≡ Write) × (head_of state request.line ≡ Some request)

retained_same : (hart : Hart) → Retained hart hart
retained_same hart = record { attempt = refl; seen = le_refl hart.seen }

unchanged : (state : ModelState) (g : ℕ) → Standing state → Stepped state g (hart_of state g)
unchanged state g standing = record {
  retained = λ line is. (is, retained_same (hart_of state g));
  raised = λ request is live bit. standing.retaining.raised g request is live bit;
  ordered =
      λ request is live bit.
      (standing.retaining.ordered g request is live bit, standing.retaining.first g request tt is live bit);
}

-- a hart without a section and without an ordered request
outside_stepped : (state : ModelState) (g : ℕ) (new : Hart) → new.section ≡ None → Stepped state g new
outside_stepped state g new none = record {
  retained = λ line is. clash (ap is_some none) (loser_lives (head_of state line) g new is);
  raised = λ request is live bit. clash (ap is_some none) live;
  ordered = λ request is live bit. clash (ap is_some none) live;
}

-- a new bit on a line that no other hart waits for in conflict meets no head more
wanted_bit : (state : ModelState) (h line : ℕ) (need : Need) (old new : Hart) (head : Request) →
    is_wanted state h line need ≡ false → new.cache ≡ touched (marked old.cache line need) line →
    head_of state head.line ≡ Some head → head.hart ≢ h → meets_bit new head.line head.need ≡ true →
    meets_bit old head.line head.need ≡ true
wanted_bit state h line need old new head unwanted cache is apart bit = by (cases_eq head.line line)
  where
    write_head : need ≡ Read → head.need ≡ Write → head.line ≡ line → meets_bit old head.line head.need ≡ true
    write_head reads writes same =
        let none =
        asked_not is_write state.order h line head (subst (λ n. is_wanted state h line n ≡ false) reads unwanted)
        (subst (λ l. first_of state.order l ≡ Some head) same is) apart in
        clash none (ap (λ n. is_write (record head { need = n })) writes)

    read_head : need ≡ Read → head.line ≡ line → head.need ≡ Read → meets_bit old head.line head.need ≡ true
    read_head reads same read =
        let here : bit_in Write (way_of new.cache line) ≡ true =
        subst (λ l. bit_in Write (way_of new.cache l) ≡ true) same
        (subst (λ n. meets_bit new head.line n ≡ true) read bit) in
        let there : bit_in Write (way_of (touched (marked old.cache line Read) line) line) ≡ true =
        subst (λ c. bit_in Write (way_of c line) ≡ true)
        (cache ∙ ap (λ n. touched (marked old.cache line n) line) reads) here in
        let untouched = way_of-touched (marked old.cache line Read) line line in
        let before = write_of_read_marked old.cache line (subst (λ way. bit_in Write way ≡ true) untouched there) in
        subst (λ n. meets_bit old head.line n ≡ true) (sym read)
        (subst (λ l. bit_in Write (way_of old.cache l) ≡ true) (sym same) before)

    by_head : need ≡ Read → head.line ≡ line → (wanted : Need) → head.need ≡ wanted →
        meets_bit old head.line head.need ≡ true
    by_head reads same Write writes = write_head reads writes same
    by_head reads same Read read = read_head reads same read

    by_need : head.line ≡ line → (mine : Need) → need ≡ mine → meets_bit old head.line head.need ≡ true
    by_need same Read reads = by_head reads same head.need refl
    by_need same Write writes =
        clash (asked_not (λ request. true) state.order h line head
        (subst (λ n. is_wanted state h line n ≡ false) writes unwanted)
        (subst (λ l. first_of state.order l ≡ Some head) same is) apart) refl

    by : (head.line ≡ line) ⊎ (head.line ≡ line → ⊥) → meets_bit old head.line head.need ≡ true
    by (inl same) = by_need same need refl
    by (inr other) =
        meets_no_more old new head.line head.need
        (subst (λ c. no_more_in c) (sym cache)
        (no_more_twice (way_of old.cache head.line) (way_of (marked old.cache line need) head.line) _
        (no_more_marked old.cache line head.line need other)
        (no_more_touched (marked old.cache line need) line head.line))) bit
      where
        no_more_in : List (List Way) → Type 0
        no_more_in c = NoBitMore old.cache c head.line

-- without marks no request is met
bare : (hart : Hart) (line : ℕ) (need : Need) → has_marks hart.cache ≡ false → meets_bit hart line need ≡ false
bare hart line Write none = no_marks hart.cache line none
bare hart line Read none =
    second_not (read_bit hart.cache line) (write_bit hart.cache line) (no_marks hart.cache line none)

head_by : {X : Type 0} (state : ModelState) (g line : ℕ) (hart : Hart) →
    conflicts_with (head_of state line) g hart ≡ true →
    ((head : Request) → head_of state line ≡ Some head → head_of state head.line ≡ Some head → Meets head g hart → X) →
    X
head_by {X} state g line hart is shows = by (head_of state line) refl is
  where
    by : (found : Option Request) → head_of state line ≡ found → conflicts_with found g hart ≡ true → X
    by None none is = absurd (cc)
    by (Some head) found is =
        shows head found (ap (head_of state) (head_line state line head found) ∙ found) (meets head g hart is)

-- a deed of a hart that waits for nothing
free_stepped : (state : ModelState) (h : ℕ) (new : Hart) → has_request state h ≡ false →
    new.raised ≡ raised_of state h →
    ((line : ℕ) → conflicts_with (head_of state line) h new ≡ true →
    (conflicts_with (head_of state line) h (hart_of state h) ≡ true)
    × Retained (hart_of state h) new) → Stepped state h new
free_stepped state h new free raised retained =
    let none = no_request state h free in
    record {
      retained = retained;
      raised = λ request is live bit. some_none (sym is ∙ raised ∙ none.not_raised);
      ordered = λ request is live bit. some_none (sym is ∙ none.not_ordered);
    }

-- an instruction of a section: no bit, or one that nobody else waits for
buffered_retains : (state : ModelState) (h line : ℕ) (section next : Section) (cache : List (List Way)) →
    (hart_of state h).section ≡ Some section →
    ((head : Request) → head_of state head.line ≡ Some head → head.hart ≢ h →
    meets_bit (record (hart_of state h) { section = Some next; cache = cache; held_line = None }) head.line head.need
    ≡ true → meets_bit (hart_of state h) head.line head.need ≡ true) →
    conflicts_with (head_of state line) h (record (hart_of state h) {
      section = Some next;
      cache = cache;
      held_line = None;
    }) ≡ true → (conflicts_with (head_of state line) h (hart_of state h) ≡ true)
    × Retained (hart_of state h) (record (hart_of state h) { section = Some next; cache = cache; held_line = None })
buffered_retains state h line section next cache live bits is = (
  head_by state h line (record (hart_of state h) { section = Some next; cache = cache; held_line = None }) is
      (λ head found own it.
      subst (λ h0. conflicts_with h0 h (hart_of state h) ≡ true) (sym found)
      (in_the_way head h (hart_of state h)
      (record { other = it.other; live = ap is_some live; bit = bits head own it.other it.bit }))),
  record { attempt = refl; seen = le_refl (hart_of state h).seen },
)

touch_bits : (state : ModelState) (h : ℕ) (section next : Section) (touch : Option Touch) →
    IsCoverable state h section touch → (head : Request) → head_of state head.line ≡ Some head → head.hart ≢ h →
    meets_bit (record (hart_of state h) {
      section = Some next;
      cache = covered (hart_of state h).cache touch;
      held_line = None;
    })
    head.line head.need ≡ true →
    meets_bit (hart_of state h) head.line head.need ≡ true
touch_bits state h section next None coverable head is apart bit =
    meets_no_more (hart_of state h) (record (hart_of state h) { section = Some next; held_line = None })
    head.line head.need
    (record { read = λ r. r; write = λ w. w }) bit
touch_bits state h section next (Some touch) (inl has) head is apart bit =
    let cache = (hart_of state h).cache in
    meets_no_more (hart_of state h)
    (record (hart_of state h) { section = Some next; cache = touched cache touch.line; held_line = None })
    head.line head.need
    (no_more_touched cache touch.line head.line)
    (subst
    (λ b. meets_bit (record (hart_of state h) {
      section = Some next;
      cache = touched (if b then cache else marked cache touch.line touch.need) touch.line;
      held_line = None;
    }) head.line head.need ≡ true) has bit)
touch_bits state h section next (Some touch) (inr (room, granted)) head is apart bit =
    let cache = (hart_of state h).cache in
    wanted_bit state h touch.line touch.need (hart_of state h)
    (record (hart_of state h) {
      section = Some next;
      cache = touched (marked cache touch.line touch.need) touch.line;
      held_line = None;
    }) head
    (second_not (not (permits state h touch)) (is_wanted state h touch.line touch.need) granted) refl is apart
    (subst
    (λ b. meets_bit (record (hart_of state h) {
      section = Some next;
      cache = touched (if b then cache else marked cache touch.line touch.need) touch.line;
      held_line = None;
    }) head.line head.need ≡ true) room.wants.uncovered bit)

-- what is missed on a line with a bit is missed to write
missed_write : (cache : List (List Way)) (line : ℕ) (need : Need) → is_covered cache line need ≡ false →
    has_bit cache line ≡ true → need ≡ Write
missed_write cache line Write uncovered bit = refl
missed_write cache line Read uncovered bit = clash uncovered bit

missed_aside : (head : Option Request) (g : ℕ) (hart : Hart) (raised : Option Request) →
    conflicts_with head g (record hart { held_line = None; raised = raised }) ≡ true →
    conflicts_with head g hart ≡ true
missed_aside None g hart raised is = is
missed_aside (Some request) g hart raised is = is

-- the one bit of an armed section is a read bit on a line that no other hart waits to write, and so it meets no head
reads_unmet : {X : Type 0} (state : ModelState) (h word : ℕ) (hart : Hart) (head : Request) →
    HasNoOtherBit word hart.cache → is_wanted_to_write state h (line_number word) ≡ false →
    head_of state head.line ≡ Some head → head.hart ≢ h → (need : Need) → head.need ≡ need →
    meets_bit hart head.line need ≡ true → X
reads_unmet state h word hart head reads unwanted is apart Read need bit = clash (reads.unwritten head.line) bit
reads_unmet {X} state h word hart head reads unwanted is apart Write need bit =
    by (or_cases (read_bit hart.cache head.line) (write_bit hart.cache head.line) bit)
    (cases_eq head.line (line_number word))
  where
    by : (read_bit hart.cache head.line ≡ true) ⊎ (write_bit hart.cache head.line ≡ true) →
        (head.line ≡ line_number word) ⊎ (head.line ≡ line_number word → ⊥) → X
    by (inr written) where_it = clash (reads.unwritten head.line) written
    by (inl read) (inr other) = clash (reads.alone head.line other) read
    by (inl read) (inl same) =
        clash (asked_not is_write state.order h (line_number word) head unwanted
        (subst (λ l. first_of state.order l ≡ Some head) same is) apart)
        (ap (λ n. is_write (record head { need = n })) need)

elided_stepped : (state : ModelState) (h : ℕ) (armed : Armed) (swap : Swap) → MayElide state h armed swap →
    Grounds state → Stepped state h (hart_after state h (Elides armed swap) (hart_of state h))
elided_stepped state h armed swap does grounds =
    let old = hart_of state h in
    let reads = ((grounds.clean h).1 armed does.is_armed.armed_is).no_other in
    let it = completing state h armed swap does.completing in
    free_stepped state h _ does.is_armed.free refl
    (λ l is.
    head_by state h l (hart_after state h (Elides armed swap) old) is
    (λ head found own it_meets.
    reads_unmet state h armed.word old head reads it.unwanted own it_meets.other head.need refl
    (wanted_bit state h (line_number swap.word) Read old (hart_after state h (Elides armed swap) old) head
    (ap (λ word. is_wanted_to_write state h (line_number word)) it.same ∙ it.unwanted) refl own
    it_meets.other it_meets.bit)))

deed_stepped : (state : ModelState) (h : ℕ) (deed : Deed) → DoesWhere state h deed → Grounds state → Standing state →
    Stepped state h (hart_after state h deed (hart_of state h))
deed_stepped state h Rests does grounds standing = unchanged state h standing
deed_stepped state h Waits does grounds standing = unchanged state h standing
deed_stepped state h (Misses line need) (inl misses) grounds standing =
    outside_stepped state h _ misses.outside.no_section
deed_stepped state h (Misses line need) (inr misses) grounds standing =
    let none = no_request state h misses.room.wants.goes.goes_on.is_short.inside.free in
    record {
      retained =
          λ l is. (
            missed_aside (head_of state l) h (hart_of state h) _ is,
            record { attempt = refl; seen = le_refl (hart_of state h).seen },
          );
      raised = λ request is live bit.
          let e = same_Some _ _ is in
          subst (λ r. r.need ≡ Write) e
          (missed_write (hart_of state h).cache line need misses.room.wants.uncovered
          (subst (λ r. has_bit (hart_of state h).cache r.line ≡ true) (sym e) bit));
      ordered = λ request is live bit. some_none (sym is ∙ none.not_ordered);
    }
deed_stepped state h (Runs touch) does grounds standing =
    outside_stepped state h _ (candidate_section _ _ (candidate_of state h) _ ∙ does.outside.no_section)
deed_stepped state h (Begins swap) does grounds standing =
    let old = hart_of state h in
    let line = line_number swap.word in
    free_stepped state h _ does.outside.free refl
    (λ l is.
    head_by state h l (hart_after state h (Begins swap) old) is
    (λ head found own it.
    clash (bare old head.line head.need ((grounds.clean h).0 does.outside.no_section does.outside.unarmed))
    (wanted_bit state h line Read old (hart_after state h (Begins swap) old) head does.unwanted refl own
    it.other it.bit)))
deed_stepped state h (Buffers section touch) does grounds standing =
    let inside = does.goes.goes_on.is_short.inside in
    free_stepped state h _ inside.free refl
    (λ l is.
    buffered_retains state h l section (record section { count = section.count + 1 })
    (covered (hart_of state h).cache touch) inside.live
    (touch_bits state h section (record section { count = section.count + 1 }) touch does.coverable) is)
deed_stepped state h (Commits section) does grounds standing = outside_stepped state h _ refl
deed_stepped state h (RollsBack section cause) does grounds standing = outside_stepped state h _ refl
deed_stepped state h (Arms word) does grounds standing = outside_stepped state h _ does.outside.no_section
deed_stepped state h (Elides armed swap) does grounds standing = elided_stepped state h armed swap does grounds
deed_stepped state h (Continues armed) does grounds standing = outside_stepped state h _ does.is_armed.no_section
deed_stepped state h (LetsGo armed) does grounds standing = outside_stepped state h _ does.is_armed.no_section

-- a hart past the last one
done_stepped : (state : ModelState) (h : ℕ) (deed : Deed) → DoesWhere state h deed → Grounds state → Standing state →
    Each (Stepped state) (done state h deed).state
done_stepped state h deed does grounds standing =
    each_but (Stepped state) state h (hart_after state h deed (hart_of state h))
    (deed_stepped state h deed does grounds standing)
    (λ g apart. unchanged state g standing)
    (λ past. subst (Stepped state h) (hart_of-past state h past) (unchanged state h standing))

done_stands : (state : ModelState) (h : ℕ) (deed : Deed) → DoesWhere state h deed → Grounds state → Standing state →
    Standing (done state h deed).state
done_stands state h deed does grounds standing =
    let new = (done state h deed).state in
    let same : (g : ℕ) → contents (hart_of new g) ≡ contents (hart_of state g) =
    with_hart_kept contents state h (hart_after state h deed (hart_of state h))
    (deed_contents state h deed (hart_of state h)) in
    let moved = moved_aside state new refl (length-set state.harts h _) same in
    let stepped = done_stepped state h deed does grounds standing in
    record {
      messages = messages_moved Everywhere state new moved standing.messages;
      retaining = record {
        may = λ g line on is.
            let kept = (stepped g).retained line is in
            may_kept state new g line refl (λ origin request told waits. waits)
            (λ head is_head link. moved.links head.hart g link)
            (record {
              attempt = kept.1.attempt;
              told = λ origin told. subst (λ all. has all.told origin ≡ true) (same g) told;
              seen = kept.1.seen;
            })
            (standing.retaining.may g line tt kept.0);
        raised = λ g request is live bit. (stepped g).raised request is live bit;
        ordered = λ g request is live bit. ((stepped g).ordered request is live bit).0;
        first = λ g request on is live bit. ((stepped g).ordered request is live bit).1;
      };
    }

pub step_stands : (state : ModelState) (h : ℕ) → Grounds state → Standing state → Standing (step_turn state h).state
step_stands state h grounds standing =
    let step = step_deed state h in
    rw step.turn_is (done_stands state h step.deed step.where_it grounds standing)
