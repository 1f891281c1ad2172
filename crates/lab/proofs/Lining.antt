-- lines that are put behind others, and what an event tells of lines
use Rattle.std.proofs.Common.{◌≡◌, ◌∙◌, ℕ, suc, ◌+◌, ◌<◌, ◌≤◌, ◌==◌, ◌||◌, nat_eq, Bool, true, false, cond, List, []}
use Rattle.std.proofs.Common.{◌∷◌, ◌++◌, Option, Some, None}
use Rattle.std.proofs.Common.{length, take, get_or, refl, ap, subst, sym, arith, append-nil, append_assoc, eq-eqb}
use Rattle.std.specs.Prelude.{filter_map}
use Rattle.std.specs.Cmp.{IsEquivalence}
use Rattle.cache_sets.specs.Slotted.{Slotted}
use Rattle.coherence.specs.Lent.{slotted_at}
use Rattle.std.specs.HashSet.{HashSet, contains}
use Rattle.std.specs.List.{IsDistinct, flat_map, list_any, range_with_len}
use Rattle.std.specs.Option.{option_map}
use Rattle.std.proofs.lemmas.Bool.Decides.{nat_tests}
use Rattle.std.proofs.lemmas.Grind.{flat_map-append}
use Rattle.std.proofs.lemmas.List.{take_all, take_more}
use Rattle.std.proofs.lemmas.List.Elements.{filter_map-append}
use Rattle.std.proofs.lemmas.List.Folds.{list_any-append, list_any_more}
use Rattle.std.proofs.lemmas.Map.Keys.{IsDistinct-push}
use Rattle.std.proofs.Math.Bool.{or-false}
use Rattle.el_base.proofs.Laws.HartIds.{hart_id-of_hart}
use Rattle.el_base.proofs.Laws.Lines.{line_addr-of_line}
use Rattle.el_base.specs.HartId.{hart_id}
use Rattle.el_base.specs.LineAddr.{line_addr}
use Rattle.el_base.specs.declared.events.Event.{Event}
use Rattle.el_base.specs.declared.events.Kind.{Kind}
use Rattle.el_base.specs.declared.events.Kind.TheVariants as kinds
use Rattle.el_base.specs.declared.hart_id.HartId.{HartId}
use Rattle.el_base.specs.declared.line.LineAddr.{LineAddr}
use Rattle.el_base.specs.declared.losers.Losers.{Losers}
use Rattle.el_base.specs.declared.freed.Freed.{Freed}
use Rattle.el_base.specs.declared.outcomes.Outcome.{Outcome}
use Rattle.el_base.specs.declared.outcomes.Outcome.TheVariants as outcomes
use Rattle.el_base.proofs.Laws.Tests.{number_of_test}
use Rattle.el_base.proofs.Laws.ListLaws.{range_more}
use Rattle.el_model.proofs.Laws.Coming.{by_their_rules}
use Rattle.el_model.specs.Next.{next}
use Rattle.el_model.specs.State.{ModelState, cache_of, ordered_of}
use Rattle.machine.specs.EngineMemory.{back_by, back_for, if_dirty, leaving_line, line_written_back}
use Rattle.lab.proofs.Firsting.{firsts_push, or_flip}
use Rattle.lab.proofs.Noting.{line_back}
use Rattle.lab.specs.Firsts.{firsts}
use Rattle.lab.specs.LineRows.{AreLinesOf, AreSeenLines, all_lines, has_line, is_line, is_on, same_line, with_line}
use Rattle.lab.specs.Lines.{Asking, asked_in, back_facts, facts_by, facts_in, if_served, loss_facts, losses_below}
use Rattle.lab.specs.Lines.{owner_facts, same_owner}
use Rattle.lab.specs.Tries.{line_waited_for}
use Rattle.lab.specs.declared.lines.Fact.{Fact}
use Rattle.lab.specs.declared.lines.LineFact.TheVariants.{Lost, Owner}
use Rattle.machine.proofs.Laws.Continued.{state_of_continued}
use Rattle.machine.specs.Story.{Story, continued, state_of}
use Rattle.snoop.specs.Shows.{BusState, Shows}

-- a line that was new is seen from then on
pub line_seen_more : {S : Type 0} (lines : List LineAddr) (old new : HashSet ℕ S) (line : LineAddr) (number : ℕ) →
    AreSeenLines lines old → contains nat_eq new number ≡ cond (nat_eq line.number number) true
    (contains nat_eq old number) → contains nat_eq new number ≡ has_line (lines ++ line ∷ []) number
line_seen_more lines old new line number seen updated =
    let test : LineAddr → Bool = λ other. other.number == number in
    updated
    ∙ ap (cond (nat_eq line.number number) true) (seen number)
    ∙ sym (or_flip (list_any test lines) (test line))
    ∙ sym (list_any-append test lines (line ∷ []))

turned : (a b : ℕ) → (a == b) ≡ (b == a)
turned a b = grind (arith, nat_tests)

same_line_is : IsEquivalence same_line
same_line_is = record {
  refl = λ x. eq-eqb x.number x.number refl;
  symm = λ x y. turned x.number y.number;
  congr = λ x y z same. ap (λ n. n == z.number) (number_of_test x.number y.number same);
}

has_turned : (line : LineAddr) (lines : List LineAddr) → list_any (same_line line) lines ≡ has_line lines line.number
has_turned line [] = refl
has_turned line (other ∷ lines) =
    ap (λ b. b || list_any (same_line line) lines) (turned line.number other.number)
    ∙ ap (λ b. (other.number == line.number) || b) (has_turned line lines)

or_known : (a b : Bool) → (b ≡ true → a ≡ true) → a ≡ (a || b)
or_known true b known = refl
or_known false true known = known refl
or_known false false known = refl

-- what lines have after one more was put
has_with : (line : LineAddr) (lines : List LineAddr) (number : ℕ) →
    has_line (with_line line lines) number ≡ (has_line lines number || (line.number == number))
has_with line lines number = by (has_line lines line.number) refl
  where
    test : LineAddr → Bool
    test other = other.number == number

    by : (b : Bool) → has_line lines line.number ≡ b →
        has_line (cond b lines (lines ++ line ∷ [])) number ≡ (has_line lines number || (line.number == number))
    by true e =
        or_known (has_line lines number) (line.number == number)
        (λ same. ap (has_line lines) (sym (number_of_test line.number number same)) ∙ e)
    by false e =
        list_any-append test lines (line ∷ [])
        ∙ ap (λ b. has_line lines number || b) (or-false (line.number == number))

once_with : (line : LineAddr) (lines : List LineAddr) → IsDistinct same_line lines →
    IsDistinct same_line (with_line line lines)
once_with line lines once = by (has_line lines line.number) refl
  where
    by : (b : Bool) → has_line lines line.number ≡ b → IsDistinct same_line (cond b lines (lines ++ line ∷ []))
    by true e = once
    by false e = IsDistinct-push same_line_is lines line once (has_turned line lines ∙ e)

pub no_line_yet : AreLinesOf [] []
unfolding IsDistinct
no_line_yet = record { once = tt; each = λ number. refl }

-- one fact more
pub line_put : (facts : List Fact) (place : ℕ) (fact : Fact) (line : LineAddr) (lines : List LineAddr) →
    place < length facts → fact ≡ get_or facts place fact → fact.line ≡ Some line →
    AreLinesOf (take place facts) lines → AreLinesOf (take (place + 1) facts) (with_line line lines)
line_put facts place fact line lines below here is are = record {
  once = once_with line lines are.once;
  each = λ number.
      has_with line lines number
      ∙ ap (λ b. b || (line.number == number)) (are.each number)
      ∙ ap (λ o. list_any (is_on number) (take place facts) || is_line number o) (sym is)
      ∙ ap (λ (f : Fact). list_any (is_on number) (take place facts) || is_on number f) here
      ∙ sym (list_any_more (is_on number) facts place fact below);
}

pub line_passed : (facts : List Fact) (place : ℕ) (fact : Fact) (lines : List LineAddr) → place < length facts →
    fact ≡ get_or facts place fact → fact.line ≡ None → AreLinesOf (take place facts) lines →
    AreLinesOf (take (place + 1) facts) lines
line_passed facts place fact lines below here is are = record {
  once = are.once;
  each = λ number.
      are.each number
      ∙ sym (or-false (list_any (is_on number) (take place facts)))
      ∙ ap (λ o. list_any (is_on number) (take place facts) || is_line number o) (sym is)
      ∙ ap (λ (f : Fact). list_any (is_on number) (take place facts) || is_on number f) here
      ∙ sym (list_any_more (is_on number) facts place fact below);
}

-- in the order of their first facts
line_pushed : (told : List LineAddr) (line : LineAddr) (lines : List LineAddr) → lines ≡ firsts same_line told →
    with_line line lines ≡ firsts same_line (told ++ line ∷ [])
line_pushed told line lines order =
    ap (λ b. cond b lines (lines ++ line ∷ [])) (sym (has_turned line lines))
    ∙ ap (λ l. cond (list_any (same_line line) l) l (l ++ line ∷ [])) order
    ∙ sym (firsts_push same_line_is told line)

-- one fact more
one_told : (facts : List Fact) (place : ℕ) (fact : Fact) (line : Option LineAddr) → place < length facts →
    fact ≡ get_or facts place fact → fact.line ≡ line →
    all_lines (take (place + 1) facts) ≡ all_lines (take place facts) ++ filter_map (λ o. o) (line ∷ [])
one_told facts place fact line below here is =
    ap all_lines (take_more facts place fact below)
    ∙ filter_map-append (λ (f : Fact). f.line) (take place facts) (get_or facts place fact ∷ [])
    ∙ ap (λ (f : Fact). all_lines (take place facts) ++ filter_map (λ o. o) (f.line ∷ [])) (sym here)
    ∙ ap (λ o. all_lines (take place facts) ++ filter_map (λ o. o) (o ∷ [])) is

pub line_in_order : (facts : List Fact) (place : ℕ) (fact : Fact) (line : LineAddr) (lines : List LineAddr) →
    place < length facts → fact ≡ get_or facts place fact → fact.line ≡ Some line →
    lines ≡ firsts same_line (all_lines (take place facts)) →
    with_line line lines ≡ firsts same_line (all_lines (take (place + 1) facts))
line_in_order facts place fact line lines below here is order =
    line_pushed (all_lines (take place facts)) line lines order
    ∙ sym (ap (firsts same_line) (one_told facts place fact (Some line) below here is))

pub order_stays : (facts : List Fact) (place : ℕ) (fact : Fact) (lines : List LineAddr) → place < length facts →
    fact ≡ get_or facts place fact → fact.line ≡ None → lines ≡ firsts same_line (all_lines (take place facts)) →
    lines ≡ firsts same_line (all_lines (take (place + 1) facts))
order_stays facts place fact lines below here is order =
    order
    ∙ ap (firsts same_line) (sym (append-nil (all_lines (take place facts))))
    ∙ sym (ap (firsts same_line) (one_told facts place fact None below here is))

pub lines_in_order : (facts : List Fact) (place : ℕ) (lines : List LineAddr) → length facts ≤ place →
    lines ≡ firsts same_line (all_lines (take place facts)) → lines ≡ firsts same_line (all_lines facts)
lines_in_order facts place lines past order =
    order ∙ ap (λ (l : List Fact). firsts same_line (all_lines l)) (take_all place facts past)

-- what a loss tells
losses_below-more : (place : ℕ) (after : ModelState) (winner : ℕ → Option ℕ) (n : ℕ) →
    losses_below place after winner (n + 1) ≡ losses_below place after winner n ++ loss_facts place after n (winner n)
losses_below-more place after winner n =
    let f : ℕ → List Fact = λ h. loss_facts place after h (winner h) in
    let next : n + 1 ≡ suc n = omega arith in
    ap (losses_below place after winner) next
    ∙ ap (flat_map f) (range_more 0 n n (omega arith))
    ∙ flat_map-append f (range_with_len 0 n) (n ∷ [])
    ∙ ap (λ (l : List Fact). losses_below place after winner n ++ l) (append-nil (f n))

-- a hart more that lost
pub loss_told : (place : ℕ) (after : ModelState) (winners : ℕ → Option ℕ) (loser winner : HartId)
    (line : Option LineAddr)
    (before now later : List Fact) → now ≡ before ++ losses_below place after winners loser.number →
    Some winner.number ≡ winners loser.number →
    option_map (λ (l : LineAddr). l.number) line ≡ line_waited_for after winner.number →
    later ≡ now ++ record { place = place; line = line; what = Lost winner loser } ∷ [] →
    later ≡ before ++ losses_below place after winners (loser.number + 1)
loss_told place after winners loser winner line before now later reached is waits more =
    let told : record { place = place; line = line; what = Lost winner loser } ∷ []
    ≡ loss_facts place after loser.number (winners loser.number) =
    ap (λ l. record { place = place; line = l; what = Lost winner loser } ∷ [])
    (sym (line_back line) ∙ ap (option_map line_addr) waits)
    ∙ ap
    (λ w. record {
      place = place;
      line = option_map line_addr (line_waited_for after winner.number);
      what = Lost w loser;
    } ∷ [])
    (sym (hart_id-of_hart winner))
    ∙ ap
    (λ l. record {
      place = place;
      line = option_map line_addr (line_waited_for after winner.number);
      what = Lost (hart_id winner.number) l;
    } ∷ [])
    (sym (hart_id-of_hart loser))
    ∙ ap (loss_facts place after loser.number) is in
    more
    ∙ ap (λ t. now ++ t) told
    ∙ ap (λ l. l ++ loss_facts place after loser.number (winners loser.number)) reached
    ∙ append_assoc before (losses_below place after winners loser.number)
    (loss_facts place after loser.number (winners loser.number))
    ∙ ap (λ l. before ++ l) (sym (losses_below-more place after winners loser.number))

-- a hart more that did not
pub none_told : (place : ℕ) (after : ModelState) (winners : ℕ → Option ℕ) (n : ℕ) (before now : List Fact) →
    now ≡ before ++ losses_below place after winners n → winners n ≡ None →
    now ≡ before ++ losses_below place after winners (n + 1)
none_told place after winners n before now reached none =
    reached
    ∙ ap (λ l. before ++ l)
    (sym (append-nil (losses_below place after winners n))
    ∙ ap (λ w. losses_below place after winners n ++ loss_facts place after n w) (sym none)
    ∙ sym (losses_below-more place after winners n))

-- an owner comes back
pub owner_back : (owner : Option HartId) → option_map hart_id (option_map (λ (h : HartId). h.number) owner) ≡ owner
owner_back None = refl
owner_back (Some hart) = ap Some (hart_id-of_hart hart)

-- what was asked counts only where a request was served
pub facts_by-same : (place : ℕ) (hart : HartId) (a b : Option Asking) (after : ModelState) (outcome : Outcome) →
    ((losers : Losers) (freed : Freed) → outcome ≡ outcomes.Served losers freed → a ≡ b) →
    facts_by place hart a after outcome ≡ facts_by place hart b after outcome
facts_by-same place hart a b after (outcomes.Served losers freed) same =
    ap (λ asked. facts_by place hart asked after (outcomes.Served losers freed)) (same losers freed refl)
facts_by-same place hart a b after _ same = refl

-- what is served is served in an event of this kind
pub served_is_serve : (state : ModelState) (event : Event) (losers : Losers) (freed : Freed) →
    (next state event).outcome ≡ outcomes.Served losers freed → event.kind ≡ kinds.Serve
served_is_serve state event losers freed is = ((by_their_rules state event (outcomes.Served losers freed)).0 is).serve

-- what an event tells of lines, without the one that it writes back
abbrev pub without_back : ModelState → ℕ → Event → List Fact
without_back state place event =
    facts_by place event.hart (asked_in state event.hart.number) (next state event).state (next state event).outcome

-- what an event tells of lines, by what was asked for before it
pub lines_told : (before after : Story) (event : Event) (outcome : Outcome) (place : ℕ) (asked : Option Asking)
    (old later : List Fact) → after ≡ continued before (event ∷ []) → outcome ≡ (next (state_of before) event).outcome →
    place ≡ length before.entries → (event.kind ≡ kinds.Serve → asked ≡ asked_in (state_of before) event.hart.number) →
    later ≡ old ++ facts_by place event.hart asked (state_of after) outcome →
    later ≡ old ++ without_back (state_of before) (length before.entries) event
lines_told before after event outcome place asked old later goes told at was is =
    let new : state_of after ≡ (next (state_of before) event).state =
    ap state_of goes ∙ state_of_continued before (event ∷ []) in
    let now = (next (state_of before) event).state in
    is
    ∙ ap (λ s. old ++ facts_by place event.hart asked s outcome) new
    ∙ ap (λ o. old ++ facts_by place event.hart asked now o) told
    ∙ ap (λ p. old ++ facts_by p event.hart asked now (next (state_of before) event).outcome) at
    ∙ ap (λ l. old ++ l)
    (facts_by-same (length before.entries) event.hart asked (asked_in (state_of before) event.hart.number) now
    (next (state_of before) event).outcome
    (λ losers freed served. was (served_is_serve (state_of before) event losers freed served)))

-- what would leave a hart's cache, as the machine shows it
pub leaving_told : (bus : BusState) (state : ModelState) (sets : Slotted) (h line : ℕ) → Shows bus state →
    sets ≡ slotted_at bus.copies.caches h → h < length bus.agents →
    if_dirty sets.residency (leaving_line sets.ways sets.residency line)
    ≡ if_dirty (cache_of state h) (leaving_line state.config.ways (cache_of state h) line)
leaving_told bus state sets h line shows is below =
    let there : h < length state.harts = subst (λ n. h < n) shows.agent_each below in
    ap (λ (c : Slotted). if_dirty c.residency (leaving_line c.ways c.residency line)) is
    ∙ ap (λ w. if_dirty (slotted_at bus.copies.caches h).residency
    (leaving_line w (slotted_at bus.copies.caches h).residency line)) (shows.ways h there)
    ∙ ap (λ r. if_dirty r (leaving_line state.config.ways r line)) (shows.caches h)

-- where nothing was served, nothing is written back
none_back : (state : ModelState) (h : ℕ) (back : Option ℕ) (outcome : Outcome) (kind : Kind) →
    ((losers : Losers) (freed : Freed) → outcome ≡ outcomes.Served losers freed → (kind ≡ kinds.Serve) ×
    (back ≡ back_for state h (ordered_of state h))) →
    if_served outcome back ≡ back_by state h outcome kind
none_back state h back (outcomes.Served losers freed) kind of =
    (of losers freed refl).1 ∙ ap (back_by state h (outcomes.Served losers freed)) (sym (of losers freed refl).0)
none_back state h back _ kinds.Step of = refl
none_back state h back _ kinds.Order of = refl
none_back state h back _ kinds.Serve of = refl
none_back state h back _ kinds.Deliver of = refl

-- the line that an event writes back, by what would leave the cache of its hart
back_is : (state : ModelState) (event : Event) (back : Option ℕ) →
    (event.kind ≡ kinds.Serve → back ≡ back_for state event.hart.number (ordered_of state event.hart.number)) →
    if_served (next state event).outcome back ≡ line_written_back state event
unfolding line_written_back
back_is state event back was =
    none_back state event.hart.number back (next state event).outcome event.kind
    (λ losers freed served. let serves = served_is_serve state event losers freed served in (serves, was serves))

-- what an event tells of lines, with the one that it writes back
pub back_told : (before : Story) (event : Event) (outcome : Outcome) (place : ℕ) (back : Option ℕ)
    (old now later : List Fact) → outcome ≡ (next (state_of before) event).outcome → place ≡ length before.entries →
    (event.kind ≡ kinds.Serve →
    back ≡ back_for (state_of before) event.hart.number (ordered_of (state_of before) event.hart.number)) →
    now ≡ old ++ without_back (state_of before) (length before.entries) event →
    later ≡ now ++ back_facts place event.hart (if_served outcome back) →
    later ≡ old ++ facts_in (state_of before) (length before.entries) event
back_told before event outcome place back old now later told at was is more =
    let facts = without_back (state_of before) (length before.entries) event in
    more
    ∙ ap (λ l. l ++ back_facts place event.hart (if_served outcome back)) is
    ∙ append_assoc old facts (back_facts place event.hart (if_served outcome back))
    ∙ ap (λ p. old ++ (facts ++ back_facts p event.hart (if_served outcome back))) at
    ∙ ap (λ o. old ++ (facts ++ back_facts (length before.entries) event.hart (if_served o back))) told
    ∙ ap (λ b. old ++ (facts ++ back_facts (length before.entries) event.hart b))
    (back_is (state_of before) event back was)

-- a change of owner, told
pub owner_told : (place : ℕ) (line : LineAddr) (from to : Option HartId) →
    same_owner (option_map (λ (h : HartId). h.number) from) (option_map (λ (h : HartId). h.number) to) ≡ false →
    record { place = place; line = Some line; what = Owner from to } ∷ []
    ≡ owner_facts place line.number (option_map (λ (h : HartId). h.number) from)
    (option_map (λ (h : HartId). h.number) to)
owner_told place line from to other =
    let number : HartId → ℕ = λ h. h.number in
    ap (λ o. record { place = place; line = Some line; what = Owner o to } ∷ []) (sym (owner_back from))
    ∙ ap (λ o. record { place = place; line = Some line; what = Owner (option_map hart_id (option_map number from)) o }
    ∷ []) (sym (owner_back to))
    ∙ ap (λ l. record {
      place = place;
      line = Some l;
      what =
          Owner (option_map hart_id (option_map number from)) (option_map hart_id (option_map number to));
    } ∷ [])
    (sym (line_addr-of_line line))
    ∙ ap (λ b. cond b []
    (record {
      place = place;
      line = Some (line_addr line.number);
      what =
          Owner (option_map hart_id (option_map number from)) (option_map hart_id (option_map number to));
    } ∷ []))
    (sym other)

-- where no line is told, there is none
pub no_line : (line : Option LineAddr) → ((found : LineAddr) → line ≡ Some found → ⊥) → line ≡ None
no_line None none = refl
no_line (Some line) none = absurd (none line refl)
