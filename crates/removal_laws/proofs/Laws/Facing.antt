-- a head is faced, in lock removal: what becomes of each section, and what may retain the line from then on
use Rattle.std.proofs.Common.{◌≡◌, ◌∙◌, ◌<◌, ◌≤◌, ◌+◌, ◌==◌, ◌&&◌, ℕ, zero, suc, Bool, true, false, List, [], ◌∷◌}
use Rattle.std.proofs.Common.{length, filter, Option, None, Some}
use Rattle.std.proofs.Common.{is_some, refl, ap, sym, inl, inr, ◌⊎◌, arith, subst, if◌then◌else◌}
use Rattle.std.specs.Prelude.{nat_lt}
use Rattle.std.proofs.lemmas.Bool.{ltb-true, ltb-false}
use Rattle.std.proofs.lemmas.Option.{same_Some}
use Rattle.bus_order.specs.Order.{Request}
use Rattle.defer_list.specs.HartSet.{has}
use Rattle.el_base.specs.declared.config.Mode.TheVariants.{Tlr}
use Rattle.el_base.proofs.Laws.Cases.{clash, false_true, some_none}
use Rattle.el_base.proofs.Laws.Tests.{number_of_test, own_test}
use Rattle.el_model.specs.Attempts.{see, seen_after}
use Rattle.el_model.specs.Conflicts.{conflicts, conflicts_with, earlier, least_such, retains, stamp_in, told_winner}
use Rattle.el_model.specs.Conflicts.{wins_over}
use Rattle.el_model.specs.Face.{Fate, LosesTo, Stays, Unmet, after_fate, deferring, deferring_fate, faced, faced_hart}
use Rattle.el_model.specs.Face.{fate_at, fate_of, markers_for}
use Rattle.el_model.specs.Face.{stays, told_fate, winning_stamp}
use Rattle.el_model.specs.RollBack.{beaten, out_of_section}
use Rattle.el_model.specs.State.{Hart, ModelState, count_up, for_line, hart_of, head_of, numbers_of, ordered_of}
use Rattle.el_model.specs.State.{ordered_on, post_all}
use Rattle.el_model.proofs.Laws.Harts.{hart_of-each_hart, hart_of-each_hart_past}
use Rattle.el_model.proofs.Laws.Tests.{by_test}
use Rattle.removal_laws.specs.Facts.{IsLinked, IsWaiting, MayPrecede, MayRetain}
use Rattle.section_laws.proofs.Laws.Bits.{meets}
use Rattle.section_laws.proofs.Laws.NewHarts.{live_below}
use Rattle.removal_laws.proofs.Posting.{Posted, all_linked, all_marked, losing, posted_twice, seeing, unchanged}
use Rattle.el_model.proofs.Laws.EachHart.{Each, each_after}
use Rattle.stamp.specs.Stamps.{Stamp, is_before}

-- the numbers of the harts
numbered : (from number k : ℕ) (harts : List Hart) → k < length harts → number ≡ from + k →
    has (count_up from harts) number ≡ true
numbered from number k [] below is = absurd (omega arith)
numbered from number zero (hart ∷ harts) below is = let e : number ≡ from = omega arith in
    rw e (rw (own_test from) refl)
numbered from number (suc k) (hart ∷ harts) below is =
    by_test (λ b. b ≡ true) (from == number) true (has (count_up (suc from) harts) number) (λ same. refl)
    (λ apart. numbered (suc from) number k harts (omega arith) (omega arith))

pub has_number : (state : ModelState) (h : ℕ) → h < length state.harts → has (numbers_of state) h ≡ true
has_number state h below = numbered 0 h h state.harts below (omega arith)

-- a list of those of which a test holds
pub passed : (test : ℕ → Bool) (harts : List ℕ) (h : ℕ) → has (filter test harts) h ≡ true → test h ≡ true
passed test [] h is = absurd (cc)
passed test (first ∷ others) h is = by (passed test others h) (test first) refl is
  where
    here : (has (filter test others) h ≡ true → test h ≡ true) → test first ≡ true → (same : Bool) →
        (first == h) ≡ same → (if same then true else has (filter test others) h) ≡ true → test h ≡ true
    here rest holds true same is = rw (sym (number_of_test first h same)) holds
    here rest holds false apart is = rest is

    by : (has (filter test others) h ≡ true → test h ≡ true) → (taken : Bool) → test first ≡ taken →
        has (if taken then first ∷ filter test others else filter test others) h ≡ true → test h ≡ true
    by rest true holds is = here rest holds (first == h) refl is
    by rest false fails is = rest is

pub passes : (test : ℕ → Bool) (harts : List ℕ) (h : ℕ) → has harts h ≡ true → test h ≡ true →
    has (filter test harts) h ≡ true
passes test [] h is holds = absurd (cc)
passes test (first ∷ others) h is holds =
    by (λ later. passes test others h later holds) (test first) refl (first == h) refl is
  where
    by : (has others h ≡ true → has (filter test others) h ≡ true) → (taken : Bool) → test first ≡ taken →
        (same : Bool) → (first == h) ≡ same →
        (if same then true else has others h) ≡ true →
        has (if taken then first ∷ filter test others else filter test others) h ≡ true
    by rest true first_holds true same is = rw same refl
    by rest false fails true same is = clash (ap test (sym (number_of_test first h same)) ∙ fails) holds
    by rest true first_holds false apart is = rw apart (rest is)
    by rest false fails false apart is = rest is

-- where there is no least one, the test holds of none
none_least : (test : ℕ → Bool) (stamp : ℕ → Option Stamp) (harts : List ℕ) (h : ℕ) →
    least_such test stamp harts ≡ None → has harts h ≡ true →
    test h ≡ false
none_least test stamp [] h none is = absurd (cc)
none_least test stamp (first ∷ others) h none is = by (none_least test stamp others h) (test first) refl none
  where
    one : {X : Type 0} (less : Bool) (other : ℕ) → (if less then Some other else Some first) ≡ None → X
    one true other wrong = some_none wrong
    one false other wrong = some_none wrong

    found : {X : Type 0} (other : Option ℕ) → earlier stamp (Some first) other ≡ None → X
    found None wrong = absurd (cc)
    found (Some other) wrong = one (is_before (stamp other) (stamp first)) other wrong

    here : (least_such test stamp others ≡ None → has others h ≡ true → test h ≡ false) → test first ≡ false →
        least_such test stamp others ≡ None → (same : Bool) → (first == h) ≡ same →
        (if same then true else has others h) ≡ true → test h ≡ false
    here rest fails none true same is = rw (sym (number_of_test first h same)) fails
    here rest fails none false apart is = rest none is

    by : (least_such test stamp others ≡ None → has others h ≡ true → test h ≡ false) → (taken : Bool) →
        test first ≡ taken →
        (if taken then earlier stamp (Some first) (least_such test stamp others) else least_such test stamp others)
        ≡ None → test h ≡ false
    by rest true holds none = found (least_such test stamp others) none
    by rest false fails none = here rest fails none (first == h) refl is

-- and the least one passes the test
pub least_passes : (test : ℕ → Bool) (stamp : ℕ → Option Stamp) (harts : List ℕ) (h : ℕ) →
    least_such test stamp harts ≡ Some h → test h ≡ true
least_passes test stamp [] h is = absurd (cc)
least_passes test stamp (first ∷ others) h is = by (least_passes test stamp others h) (test first) refl is
  where
    one : (less : Bool) (other : ℕ) → (least_such test stamp others ≡ Some h → test h ≡ true) →
        least_such test stamp others ≡ Some other → test first ≡ true →
        (if less then Some other else Some first) ≡ Some h → test h ≡ true
    one true other rest found holds is = rest (found ∙ is)
    one false other rest found holds is = subst (λ k. test k ≡ true) (same_Some _ _ is) holds

    taken : (least_such test stamp others ≡ Some h → test h ≡ true) → test first ≡ true → (other : Option ℕ) →
        least_such test stamp others ≡ other →
        earlier stamp (Some first) other ≡ Some h → test h ≡ true
    taken rest holds None found is = subst (λ k. test k ≡ true) (same_Some _ _ is) holds
    taken rest holds (Some other) found is = one (is_before (stamp other) (stamp first)) other rest found holds is

    by : (least_such test stamp others ≡ Some h → test h ≡ true) → (chosen : Bool) → test first ≡ chosen →
        (if chosen then earlier stamp (Some first) (least_such test stamp others) else least_such test stamp others)
        ≡ Some h → test h ≡ true
    by rest true holds is = taken rest holds (least_such test stamp others) refl is
    by rest false fails is = rest is

-- what a fate says of a section
pub record Stayed (state : ModelState) (head : Request) (g : ℕ) (hart : Hart) : Type 0 where
  pub meets_it : conflicts head g hart ≡ true
  pub not_after : is_before head.stamp hart.attempt ≡ false
  pub none_told : told_winner state hart head.line ≡ None

pub record Lost (state : ModelState) (head : Request) (g : ℕ) (hart : Hart) (winner : ℕ) : Type 0 where
  pub meets_it : conflicts head g hart ≡ true
  pub why : ((winner ≡ head.hart) × (is_before head.stamp hart.attempt ≡ true))
      ⊎ (told_winner state hart head.line ≡ Some winner)

abbrev pub FateIs : ModelState → Request → ℕ → Hart → Fate → Type 0
FateIs state head g hart Unmet = conflicts head g hart ≡ false
FateIs state head g hart Stays = Stayed state head g hart
FateIs state head g hart (LosesTo winner) = Lost state head g hart winner

told_is : (state : ModelState) (head : Request) (g : ℕ) (hart : Hart) → conflicts head g hart ≡ true →
    is_before head.stamp hart.attempt ≡ false → (winner : Option ℕ) → told_winner state hart head.line ≡ winner →
    FateIs state head g hart (told_fate winner)
told_is state head g hart meets_it not_after None is =
    record { meets_it = meets_it; not_after = not_after; none_told = is }
told_is state head g hart meets_it not_after (Some winner) is = record { meets_it = meets_it; why = inr is }

pub fate_is : (state : ModelState) (head : Request) (g : ℕ) (hart : Hart) → state.config.mode ≡ Tlr →
    FateIs state head g hart (fate_of state head g hart)
fate_is state head g hart mode =
    by_test (FateIs state head g hart) (conflicts head g hart) _ Unmet
    (λ meets_it.
    by_test (FateIs state head g hart) (wins_over state.config.mode head.stamp hart) (LosesTo head.hart)
    (deferring_fate state.config.mode state head hart)
    (λ wins.
    record { meets_it = meets_it; why = inl (refl, subst (λ m. wins_over m head.stamp hart ≡ true) mode wins) })
    (λ not_won.
    subst (λ m. FateIs state head g hart (deferring_fate m state head hart)) (sym mode)
    (told_is state head g hart meets_it (subst (λ m. wins_over m head.stamp hart ≡ false) mode not_won) _ refl)))
    (λ apart. apart)

-- what becomes of each hart
fate_posts : (state : ModelState) (head : Request) (g : ℕ) (hart : Hart) (fate : Fate) → state.config.mode ≡ Tlr →
    Posted state g hart (after_fate state head fate hart)
fate_posts state head g hart Unmet mode = unchanged state g hart
fate_posts state head g hart Stays mode =
    subst (λ m. Posted state g hart (deferring m head.stamp hart)) (sym mode) (seeing state g head.stamp hart)
fate_posts state head g hart (LosesTo winner) mode =
    let stamp = winning_stamp state head.line winner in
    subst (λ m. Posted state g hart (beaten m stamp hart)) (sym mode)
    (posted_twice state g hart (out_of_section hart) (see stamp (out_of_section hart)) (losing state g hart)
    (seeing state g stamp (out_of_section hart)))

-- the sections that stay
abbrev pub stays_at : ModelState → Request → ℕ → Bool
stays_at state head g = is_some (stays (fate_at state head g))

stayed_at : (state : ModelState) (head : Request) (g : ℕ) → state.config.mode ≡ Tlr → stays_at state head g ≡ true →
    Stayed state head g (hart_of state g)
stayed_at state head g mode = by (fate_at state head g) (fate_is state head g (hart_of state g) mode)
  where
    by : (fate : Fate) → FateIs state head g (hart_of state g) fate → is_some (stays fate) ≡ true →
        Stayed state head g (hart_of state g)
    by Unmet says is = absurd (cc)
    by Stays says is = says
    by (LosesTo winner) says is = absurd (cc)

stayed_precedes : (state : ModelState) (head : Request) (g : ℕ) → IsWaiting state head.hart →
    Stayed state head g (hart_of state g) → MayPrecede state head.hart g
stayed_precedes state head g waits stayed =
    let it = meets head g (hart_of state g) stayed.meets_it in
    record { waits = waits; other = λ same. it.other (sym same); exists = live_below state g it.live }

pub face_posts : (state : ModelState) (head : Request) → state.config.mode ≡ Tlr → IsWaiting state head.hart →
    Each (λ g hart. Posted state g (hart_of state g) hart) (faced state head)
unfolding faced
face_posts state head mode waits =
    each_after (λ g hart. Posted state g (hart_of state g) hart) state (faced_hart state head)
    (λ g now.
    by_test (Posted state g (hart_of state g)) (g == head.hart)
    (post_all (hart_of state g) (markers_for state.config.mode state head))
    (after_fate state head (fate_of state head g (hart_of state g)) (hart_of state g))
    (λ own.
    subst (λ m. Posted state g (hart_of state g) (post_all (hart_of state g) (markers_for m state head))) (sym mode)
    (all_marked state g (filter (stays_at state head) (numbers_of state)) (hart_of state g)
    (λ sender is.
    subst (λ k. MayPrecede state k sender) (sym (number_of_test g head.hart own))
    (stayed_precedes state head sender waits
    (stayed_at state head sender mode (passed (stays_at state head) (numbers_of state) sender is))))))
    (λ other. fate_posts state head g (hart_of state g) (fate_of state head g (hart_of state g)) mode))
    (λ g. unchanged state g (hart_of state g))

-- a section that conflicts with the head once it was faced
pub record Retains (state : ModelState) (head : Request) (g : ℕ) (new : Hart) : Type 0 where
  pub stayed : Stayed state head g (hart_of state g)
  pub hart_is : new ≡ see head.stamp (hart_of state g)

after_fate_retains : (state : ModelState) (head : Request) (g : ℕ) (fate : Fate) → state.config.mode ≡ Tlr →
    FateIs state head g (hart_of state g) fate →
    conflicts head g (after_fate state head fate (hart_of state g)) ≡ true →
    Retains state head g (after_fate state head fate (hart_of state g))
after_fate_retains state head g Unmet mode says is = clash says is
after_fate_retains state head g Stays mode says is =
    record { stayed = says; hart_is = ap (λ m. deferring m head.stamp (hart_of state g)) mode }
after_fate_retains state head g (LosesTo winner) mode says is =
    let stamp = winning_stamp state head.line winner in
    let it =
    meets head g (see stamp (out_of_section (hart_of state g)))
    (subst (λ m. conflicts head g (beaten m stamp (hart_of state g)) ≡ true) mode is) in
    false_true it.live

pub faced_retains : (state : ModelState) (head : Request) (g : ℕ) → state.config.mode ≡ Tlr →
    conflicts head g (hart_of (faced state head) g) ≡ true → Retains state head g (hart_of (faced state head) g)
unfolding faced
faced_retains state head g mode is = by (nat_lt g (length state.harts)) refl
  where
    new : Hart
    new = hart_of (faced state head) g

    own_not : {X : Type 0} (hart : Hart) → g ≡ head.hart → conflicts head g hart ≡ true → X
    own_not hart same is = absurd ((meets head g hart is).other (sym same))

    at : (own : Bool) → (g == head.hart) ≡ own →
        conflicts head g (if own then post_all (hart_of state g) (markers_for state.config.mode state head)
        else after_fate state head (fate_of state head g (hart_of state g)) (hart_of state g)) ≡ true →
        Retains state head g (if own then post_all (hart_of state g) (markers_for state.config.mode state head)
        else after_fate state head (fate_of state head g (hart_of state g)) (hart_of state g))
    at true own is =
        own_not (post_all (hart_of state g) (markers_for state.config.mode state head))
        (number_of_test g head.hart own) is
    at false other is =
        after_fate_retains state head g (fate_of state head g (hart_of state g)) mode
        (fate_is state head g (hart_of state g) mode) is

    by : (below : Bool) → nat_lt g (length state.harts) ≡ below → Retains state head g (hart_of (faced state head) g)
    by true below =
        let e = hart_of-each_hart state (faced_hart state head) g (ltb-true g (length state.harts) below) in
        subst (Retains state head g) (sym e)
        (at (g == head.hart) refl (subst (λ hart. conflicts head g hart ≡ true) e is))
    by false past =
        let e = hart_of-each_hart_past state (faced_hart state head) g (ltb-false g (length state.harts) past) in
        clash (ap (λ hart. is_some hart.section) e) (meets head g (hart_of (faced state head) g) is).live

-- the head's hart has the markers
face_links : (state : ModelState) (head : Request) (g : ℕ) → state.config.mode ≡ Tlr → head.hart < length state.harts →
    g < length state.harts → stays_at state head g ≡ true → IsLinked (hart_of (faced state head) head.hart) g
unfolding faced
face_links state head g mode exists below is =
    rw (hart_of-each_hart state (faced_hart state head) head.hart exists)
    (rw (own_test head.hart)
    (subst (λ m. IsLinked (post_all (hart_of state head.hart) (markers_for m state head)) g) (sym mode)
    (all_linked (filter (stays_at state head) (numbers_of state)) (hart_of state head.hart) g
    (inl (passes (stays_at state head) (numbers_of state) g (has_number state g below) is)))))

stays_if : (state : ModelState) (head : Request) (g : ℕ) → state.config.mode ≡ Tlr →
    Stayed state head g (hart_of state g) → stays_at state head g ≡ true
stays_if state head g mode stayed = by (fate_at state head g) (fate_is state head g (hart_of state g) mode)
  where
    told : (winner : ℕ) → ((winner ≡ head.hart) × (is_before head.stamp (hart_of state g).attempt ≡ true))
        ⊎ (told_winner state (hart_of state g) head.line ≡ Some winner) → is_some (stays (LosesTo winner)) ≡ true
    told winner (inl (same, wins)) = clash stayed.not_after wins
    told winner (inr found) = some_none (sym found ∙ stayed.none_told)

    by : (fate : Fate) → FateIs state head g (hart_of state g) fate → is_some (stays fate) ≡ true
    by Unmet says = clash says stayed.meets_it
    by Stays says = refl
    by (LosesTo winner) says = told winner says.why

-- what may retain the line
pub saw_clock : (seen : ℕ) (stamp : Option Stamp) (at : Stamp) → stamp ≡ Some at → at.clock ≤ seen_after seen stamp
saw_clock seen None at is = absurd (cc)
saw_clock seen (Some stamp) at is = let e : stamp ≡ at = cc in rw (sym e) (omega arith)

pub face_may : (state : ModelState) (head : Request) (g : ℕ) → state.config.mode ≡ Tlr →
    head_of state head.line ≡ Some head →
    ((h : ℕ) (request : Request) → ordered_of state h ≡ Some request → h < length state.harts) →
    head.hart < length state.harts → retains (faced state head) g head.line ≡ true →
    MayRetain (faced state head) g head.line
unfolding faced
face_may state head g mode first exists exists_head is =
    let now =
    faced_retains state head g mode
    (subst (λ found. conflicts_with found g (hart_of (faced state head) g) ≡ true) first is) in
    let it = meets head g (hart_of state g) now.stayed.meets_it in
    record {
      link = λ other is_head.
          subst (λ r. IsLinked (hart_of (faced state head) r.hart) g) (same_Some _ _ (sym first ∙ is_head))
          (face_links state head g mode exists_head (live_below state g it.live)
          (stays_if state head g mode now.stayed));
      seen = λ other stamp is_head stamp_is.
          rw now.hart_is
          (saw_clock _ head.stamp stamp (ap (λ r. r.stamp) (same_Some _ _ (sym first ∙ is_head)) ∙ stamp_is));
      not_after_head = λ other is_head.
          rw now.hart_is
          (subst (λ r. is_before r.stamp (hart_of state g).attempt ≡ false) (same_Some _ _ (sym first ∙ is_head))
          now.stayed.not_after);
      not_after_told = λ origin request told on.
          rw now.hart_is
          (told_before origin request now.stayed (subst (λ hart. has hart.told origin ≡ true) now.hart_is told) on
          (some_below origin request on));
    }
  where
    for_some : (found : Option Request) (request : Request) → for_line head.line found ≡ Some request →
        found ≡ Some request
    for_some None request is = absurd (cc)
    for_some (Some own) request is =
        by_test (λ chosen. chosen ≡ Some request → Some own ≡ Some request) (own.line == head.line) (Some own)
        None (λ same is. is)
        (λ apart wrong. absurd (cc)) is

    some_below : (origin : ℕ) (request : Request) → ordered_on state origin head.line ≡ Some request →
        origin < length state.harts
    some_below origin request on = exists origin request (for_some (ordered_of state origin) request on)

    told_before : (origin : ℕ) (request : Request) → Stayed state head g (hart_of state g) →
        has (hart_of state g).told origin ≡ true → ordered_on state origin head.line ≡ Some request →
        origin < length state.harts → is_before request.stamp (hart_of state g).attempt ≡ false
    told_before origin request stayed told on below =
        by (has (hart_of state g).told origin) told
        (none_least
        (λ o. has (hart_of state g).told o && is_before (stamp_in (ordered_on state o head.line))
        (hart_of state g).attempt)
        (λ o. stamp_in (ordered_on state o head.line)) (numbers_of state) origin stayed.none_told
        (has_number state origin below))
      where
        by : (known : Bool) → known ≡ true →
            (known && is_before (stamp_in (ordered_on state origin head.line)) (hart_of state g).attempt) ≡ false →
            is_before request.stamp (hart_of state g).attempt ≡ false
        by true is not_less = subst (λ r. is_before (stamp_in r) (hart_of state g).attempt ≡ false) on not_less
        by false is not_less = absurd (cc)
