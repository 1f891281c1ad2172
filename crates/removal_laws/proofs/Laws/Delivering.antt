-- what holds still holds after a message is delivered
use Rattle.std.proofs.Common.{◌≡◌, ◌≢◌, ◌∙◌, ◌<◌, ◌==◌, ◌&&◌, ℕ, Bool, true, false, not, List, ◌∷◌, length, map, Option}
use Rattle.std.proofs.Common.{None, Some, is_some, refl}
use Rattle.std.proofs.Common.{ap, sym, inl, inr, ◌⊎◌, arith, subst, if◌then◌else◌}
use Rattle.std.proofs.Math.ListN.{length-set}
use Rattle.std.proofs.lemmas.Bool.{cases_eq, and_from}
use Rattle.std.proofs.lemmas.Option.{same_Some}
use Rattle.bus_order.specs.Order.{Request}
use Rattle.defer_list.specs.HartSet.{has, included}
use Rattle.defer_list.proofs.Laws.LookUps.{has_included_other, has_included_own}
use Rattle.el_model.specs.Deliver.{taken, told_on}
use Rattle.el_model.specs.State.{Hart, ModelState, for_line, hart_of, numbers_of, ordered_of, ordered_on, post_all}
use Rattle.el_model.specs.State.{with_hart}
use Rattle.el_model.proofs.Laws.Harts.{hart_of-with_hart_other, hart_of-with_hart_same}
use Rattle.mail.specs.Mailbox.{Marker, Message, Probe, has_message}
use Rattle.mail.proofs.Laws.OnceEach.{first_there}
use Rattle.removal_laws.specs.Facts.{IsLinked, IsWaiting, Knows, MayBeKnown, MayPrecede}
use Rattle.section_laws.proofs.Laws.Bits.{fewer_same}
use Rattle.removal_laws.proofs.Laws.Facing.{has_number, passed, passes}
use Rattle.removal_laws.proofs.Grounds.{Grounds, Standing}
use Rattle.removal_laws.proofs.Kept.{Owed}
use Rattle.removal_laws.proofs.Probing.{Took, all_known, all_probed, debts_stand, first_or_later}
use Rattle.section_laws.proofs.Laws.Mailboxes.{later_there}
use Rattle.removal_laws.proofs.Probing.{took_nothing}
use Rattle.el_model.proofs.Laws.EachHart.{Each, each_but, each_with}
use Rattle.el_base.proofs.Laws.Tests.{first_of_both, number_of_test, other_test, own_test, second_of_both}
use Rattle.el_base.proofs.Laws.Cases.{clash}
use Rattle.el_model.proofs.Laws.BusEvents.{with_mail}

-- a set with one hart more
pub more_has : (harts : List ℕ) (new hart : ℕ) → has harts hart ≡ true → has (included harts new) hart ≡ true
more_has harts new hart is = by (cases_eq new hart)
  where
    by : (new ≡ hart) ⊎ (new ≡ hart → ⊥) → has (included harts new) hart ≡ true
    by (inl same) = subst (λ h. has (included harts new) h ≡ true) same (has_included_own harts new)
    by (inr apart) = has_included_other harts new hart apart ∙ is

pub new_or_had : (harts : List ℕ) (new hart : ℕ) → has (included harts new) hart ≡ true →
    (hart ≡ new) ⊎ (has harts hart ≡ true)
new_or_had harts new hart is = by (cases_eq new hart)
  where
    by : (new ≡ hart) ⊎ (new ≡ hart → ⊥) → (hart ≡ new) ⊎ (has harts hart ≡ true)
    by (inl same) = inl (sym same)
    by (inr apart) = inr (sym (has_included_other harts new hart apart) ∙ is)

-- the entry that is new
abbrev pub Entry : ℕ → ℕ → ℕ → ℕ → Type 0
Entry h new g hart = (g ≡ h) × (hart ≡ new)

abbrev pub NoEntry : ℕ → ℕ → Type 0
NoEntry g hart = ⊥

-- an ordered request that is one of a line
pub own_line : (line : ℕ) (found : Option Request) (request : Request) → for_line line found ≡ Some request →
    (found ≡ Some request) × (request.line ≡ line)
own_line line None request is = absurd (cc)
own_line line (Some own) request is = by (own.line == line) refl is
  where
    by : (same : Bool) → (own.line == line) ≡ same → (if same then Some own else None) ≡ Some request →
        (Some own ≡ Some request) × (request.line ≡ line)
    by true same is = (is, ap (λ r. r.line) (sym (same_Some _ _ is)) ∙ number_of_test own.line line same)
    by false apart is = absurd (cc)

module _ (state : ModelState) (h sender : ℕ) (others : List Message)
    (mail : (hart_of state h).mail ≡ Marker sender ∷ others) (grounds : Grounds state)
    (standing : Standing state) where
  abbrev Took_marker : ℕ → Hart → Type 0
  Took_marker g hart = Took (Entry h sender) NoEntry state g (hart_of state g) hart

  exists : h < length state.harts
  exists = with_mail state h (Marker sender) others mail

  may : MayPrecede state h sender
  may =
      standing.messages.before h sender
      (inl (subst (λ box. has_message box (Marker sender) ≡ true) (sym mail) (first_there (Marker sender) others)))

  took : Took_marker h
      (record (hart_of state h) { mail = others; upstream = included (hart_of state h).upstream sender })
  took = record {
    raised = refl;
    attempt = refl;
    seen = omega arith;
    links = λ before is. links before is;
    linked = λ before is. linked before is;
    knows = λ origin is. knows origin is;
    known = λ origin is. inl (known origin is);
    upstream = λ before is. up before (new_or_had (hart_of state h).upstream sender before is);
    told = λ origin is. inl is;
    fewer = λ line. fewer_same line (hart_of state h) new refl refl;
  }
    where
      new : Hart
      new = record (hart_of state h) { mail = others; upstream = included (hart_of state h).upstream sender }

      of_mail : (before : ℕ) → (Marker sender ≡ Marker before) ⊎ (has_message others (Marker before) ≡ true) →
          IsLinked new before
      of_mail before (inl same) =
          let e : sender ≡ before = cc in
          inr (subst (λ k. has (included (hart_of state h).upstream sender) k ≡ true) e
          (has_included_own (hart_of state h).upstream sender))
      of_mail before (inr later) = inl later

      links : (before : ℕ) → IsLinked (hart_of state h) before → IsLinked new before
      links before (inl sent) =
          of_mail before
          (first_or_later (Marker sender) others (Marker before)
          (subst (λ box. has_message box (Marker before) ≡ true) mail sent))
      links before (inr is) = inr (more_has (hart_of state h).upstream sender before is)

      of_up : (before : ℕ) → (before ≡ sender) ⊎ (has (hart_of state h).upstream before ≡ true) →
          IsLinked (hart_of state h) before
      of_up before (inl same) =
          inl (subst (λ box. has_message box (Marker before) ≡ true) (sym mail)
          (subst (λ k. has_message (Marker k ∷ others) (Marker before) ≡ true) same
          (first_there (Marker before) others)))
      of_up before (inr was) = inr was

      linked : (before : ℕ) → IsLinked new before → IsLinked (hart_of state h) before
      linked before (inl sent) =
          inl (subst (λ box. has_message box (Marker before) ≡ true) (sym mail)
          (later_there (Marker sender) others (Marker before) sent))
      linked before (inr is) = of_up before (new_or_had (hart_of state h).upstream sender before is)

      of_probe : (origin : ℕ) → (Marker sender ≡ Probe origin) ⊎ (has_message others (Probe origin) ≡ true) →
          Knows new origin
      of_probe origin (inl wrong) = absurd (cc)
      of_probe origin (inr later) = inl later

      knows : (origin : ℕ) → Knows (hart_of state h) origin → Knows new origin
      knows origin (inl sent) =
          of_probe origin
          (first_or_later (Marker sender) others (Probe origin)
          (subst (λ box. has_message box (Probe origin) ≡ true) mail sent))
      knows origin (inr is) = inr is

      known : (origin : ℕ) → Knows new origin → Knows (hart_of state h) origin
      known origin (inl sent) =
          inl (subst (λ box. has_message box (Probe origin) ≡ true) (sym mail)
          (later_there (Marker sender) others (Probe origin) sent))
      known origin (inr is) = inr is

      up : (before : ℕ) → (before ≡ sender) ⊎ (has (hart_of state h).upstream before ≡ true) →
          (has (hart_of state h).upstream before ≡ true) ⊎ Entry h sender h before
      up before (inl same) = inr (refl, same)
      up before (inr was) = inl was

  abbrev first : ModelState
  first = taken state h others

  at_first : hart_of first h ≡ record (hart_of state h) { mail = others }
  at_first = hart_of-with_hart_same state h (record (hart_of state h) { mail = others }) exists

  first_count : length first.harts ≡ length state.harts
  first_count = length-set state.harts h (record (hart_of state h) { mail = others })

  abbrev preceded : ModelState
  preceded = with_hart first h (record (hart_of first h) { upstream = included (hart_of first h).upstream sender })

  preceded_count : length preceded.harts ≡ length state.harts
  preceded_count = length-set first.harts h _ ∙ first_count

  preceded_took : Each Took_marker preceded
  preceded_took =
      each_but Took_marker first h (record (hart_of first h) { upstream = included (hart_of first h).upstream sender })
      (subst (λ hart. Took_marker h (record hart { upstream = included hart.upstream sender })) (sym at_first) took)
      (λ g apart.
      subst (Took_marker g) (sym (hart_of-with_hart_other state h g (record (hart_of state h) { mail = others }) apart))
      (took_nothing (Entry h sender) NoEntry state g (hart_of state g)))
      (λ past. let here = exists in absurd (omega (arith, past, here, first_count)))

  -- who is told of
  abbrev origins : List ℕ
  origins = h ∷ told_on first h sender (ordered_of first h)

  told_here : (origin : ℕ) → has (hart_of first h).told origin ≡ true → has (hart_of state h).told origin ≡ true
  told_here origin is = subst (λ hart. has hart.told origin ≡ true) at_first is

  told_known : (found : Option Request) (origin : ℕ) → has (told_on first h sender found) origin ≡ true →
      MayBeKnown state sender origin
  told_known None origin is = absurd (cc)
  told_known (Some own) origin is =
      let test =
      passed (λ o. not (o == sender) && has (hart_of first h).told o && is_some (ordered_on first o own.line))
      (numbers_of first) origin is in
      let told_and = first_of_both (not (origin == sender) && has (hart_of first h).told origin) _ test in
      record {
        waits =
            (standing.messages.known h origin
            (inr (told_here origin (second_of_both (not (origin == sender)) _ told_and)))).waits;
        other = λ same.
            clash (ap not (own_test sender))
            (subst (λ o. not (o == sender) ≡ true) same (first_of_both (not (origin == sender)) _ told_and));
      }

  may_know : (origin : ℕ) → has origins origin ≡ true → MayBeKnown state sender origin
  may_know origin is = by (h == origin) refl is
    where
      by : (same : Bool) → (h == origin) ≡ same →
          (if same then true else has (told_on first h sender (ordered_of first h)) origin) ≡ true →
          MayBeKnown state sender origin
      by true same is =
          let e = number_of_test h origin same in
          record { waits = subst (IsWaiting state) e may.waits; other = λ own. may.other (sym own ∙ sym e) }
      by false apart is = told_known (ordered_of first h) origin is

  abbrev marker_final : ModelState
  marker_final = with_hart preceded sender (post_all (hart_of preceded sender) (map Probe origins))

  final_took : Each Took_marker marker_final
  final_took =
      each_with Took_marker preceded sender (post_all (hart_of preceded sender) (map Probe origins))
      (all_probed (Entry h sender) NoEntry state sender origins (hart_of state sender) (hart_of preceded sender)
      may_know (preceded_took sender))
      preceded_took

  at_sender : hart_of marker_final sender ≡ post_all (hart_of preceded sender) (map Probe origins)
  at_sender =
      let here = may.exists in
      hart_of-with_hart_same preceded sender (post_all (hart_of preceded sender) (map Probe origins))
      (rw preceded_count here)

  told_member : (found : Option Request) (own request : Request) (origin line : ℕ) → found ≡ Some own →
      own.line ≡ line → has (hart_of state h).told origin ≡ true → sender ≢ origin →
      ordered_on state origin line ≡ Some request → origin < length state.harts →
      has (told_on first h sender found) origin ≡ true
  told_member None own request origin line is on told apart waits below = absurd (cc)
  told_member (Some mine) own request origin line is on told apart waits below =
      let line_is : line ≡ mine.line = sym on ∙ ap (λ r. r.line) (sym (same_Some _ _ is)) in
      passes (λ o. not (o == sender) && has (hart_of first h).told o && is_some (ordered_on first o mine.line))
      (numbers_of first) origin
      (has_number first origin (rw first_count below))
      (and_from _ _
      (and_from _ _ (ap not (other_test origin sender (λ same. apart (sym same))))
      (subst (λ hart. has hart.told origin ≡ true) (sym at_first) told))
      (subst (λ l. is_some (ordered_on first origin l) ≡ true) line_is (ap is_some waits)))

  marker_owed : Owed marker_final h sender
  marker_owed = record {
    own =
        rw at_sender
        (all_known origins (hart_of preceded sender) h
        (inl (ap (λ b. if b then true else has (told_on first h sender (ordered_of first h)) h) (own_test h))));
    others =
        λ origin line own request told apart on waits. owed origin line own request
        ((final_took h).told origin told) apart on waits;
  }
    where
      owed : (origin line : ℕ) (own request : Request) → (has (hart_of state h).told origin ≡ true) ⊎ ⊥ →
          sender ≢ origin → ordered_on marker_final h line ≡ Some own →
          ordered_on marker_final origin line ≡ Some request → Knows (hart_of marker_final sender) origin
      owed origin line own request (inr none) apart on waits = elim none [ ]
      owed origin line own request (inl told) apart on waits =
          let mine = own_line line (ordered_of state h) own on in
          let its = own_line line (ordered_of state origin) request waits in
          let member =
          told_member (ordered_of first h) own request origin line mine.0 mine.1 told apart waits
          (grounds.below origin request its.0) in
          rw at_sender (all_known origins (hart_of preceded sender) origin (inl (behind member)))
        where
          behind : has (told_on first h sender (ordered_of first h)) origin ≡ true → has origins origin ≡ true
          behind member = by (h == origin)
            where
              by : (same : Bool) →
                  (if same then true else has (told_on first h sender (ordered_of first h)) origin) ≡ true
              by true = refl
              by false = member

  pub marker_stands : Standing marker_final
  marker_stands =
      debts_stand (Entry h sender) NoEntry state marker_final
      (record {
        order = refl;
        count = length-set preceded.harts sender _ ∙ preceded_count;
        each_took = final_took;
        owed =
            λ g before new. subst (λ k. Owed marker_final k before) (sym new.0)
            (subst (Owed marker_final h) (sym new.1) marker_owed);
        owed_of = λ g origin none. elim none [ ];
        safe = λ g origin none line request waits meets. elim none [ ];
      }) standing
