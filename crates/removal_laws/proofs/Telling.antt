-- what holds still holds after a probe is delivered, and so after any message
use Rattle.std.proofs.Common.{◌≡◌, ◌≢◌, ◌∙◌, ◌<◌, ◌==◌, ◌&&◌, ℕ, Bool, true, false, not, List, [], ◌∷◌, length, Option}
use Rattle.std.proofs.Common.{None, Some, is_some, refl, ap}
use Rattle.std.proofs.Common.{sym, inl, inr, ◌⊎◌, arith, subst}
use Rattle.std.proofs.Math.ListN.{length-set}
use Rattle.std.proofs.lemmas.Option.{same_Some}
use Rattle.std.proofs.lemmas.Bool.{and_from}
use Rattle.bus_order.specs.Order.{Request}
use Rattle.defer_list.specs.HartSet.{has, included}
use Rattle.defer_list.proofs.Laws.LookUps.{has_included_own}
use Rattle.el_base.specs.declared.config.Mode.{Mode}
use Rattle.el_base.specs.declared.config.Mode.TheVariants.{Plain, Sle, Tlr}
use Rattle.el_base.proofs.Laws.Tests.{first_of_both, other_test, own_test}
use Rattle.el_base.proofs.Laws.Cases.{clash}
use Rattle.el_model.specs.Attempts.{see}
use Rattle.el_model.specs.Conflicts.{conflicts_with, retains, stamp_in}
use Rattle.el_model.specs.Deliver.{after_probe, deliver_next, deliver_turn, delivered, forwarded, forwards_on}
use Rattle.el_model.specs.Deliver.{loses_to_origin, taken, told_of}
use Rattle.el_model.specs.RollBack.{beaten, out_of_section}
use Rattle.el_model.specs.State.{Hart, ModelState, hart_of, head_of, ordered_of, ordered_on, with_hart}
use Rattle.el_model.proofs.Laws.Conflicts.{loser_lives}
use Rattle.el_model.proofs.Laws.Harts.{each_hart_kept, hart_of-each_hart, hart_of-with_hart_other}
use Rattle.el_model.proofs.Laws.Harts.{hart_of-with_hart_same}
use Rattle.el_model.proofs.Laws.Keeps.{length-each_from}
use Rattle.el_model.proofs.Laws.Tests.{by_test}
use Rattle.mail.specs.Mailbox.{Marker, Message, Probe, has_message, posted}
use Rattle.mail.proofs.Laws.LookUps.{has_posted_own}
use Rattle.mail.proofs.Laws.OnceEach.{first_there}
use Rattle.removal_laws.specs.Facts.{IsLinked, Knows, MayBeKnown}
use Rattle.section_laws.proofs.Laws.Bits.{fewer_ended, fewer_same, meets}
use Rattle.removal_laws.proofs.Laws.Delivering.{Entry, NoEntry, marker_stands, more_has, new_or_had, own_line}
use Rattle.removal_laws.proofs.Grounds.{Grounds, Standing}
use Rattle.removal_laws.proofs.Kept.{OwedOf, retained_before}
use Rattle.removal_laws.proofs.Probing.{Took, debts_stand, first_or_later, probed, took_nothing}
use Rattle.section_laws.proofs.Laws.Mailboxes.{later_there}
use Rattle.el_model.proofs.Laws.EachHart.{Each, each_after, each_but}
use Rattle.el_model.proofs.Laws.Orders.{head_line}
use Rattle.el_model.proofs.Laws.BusEvents.{with_mail}
use Rattle.section_laws.proofs.Laws.Moves.{seen_grows}
use Rattle.stamp.specs.Stamps.{Stamp, is_before}

-- a section that is lost by the way
took_lost : (Up Told : ℕ → ℕ → Type 0) (state : ModelState) (g : ℕ) (stamp : Option Stamp) (old hart : Hart) →
    Took Up Told state g old hart → Took Up Told state g old (see stamp (out_of_section hart))
took_lost Up Told state g stamp old hart now = record {
  raised = now.raised;
  attempt = now.attempt;
  seen = let was = now.seen in let more = seen_grows hart.seen stamp in omega (arith, was, more);
  links = now.links;
  linked = now.linked;
  knows = now.knows;
  known = now.known;
  upstream = now.upstream;
  told = now.told;
  fewer = λ line. fewer_ended line old (see stamp (out_of_section hart)) refl;
}

module _ (state : ModelState) (h origin : ℕ) (others : List Message)
    (mail : (hart_of state h).mail ≡ Probe origin ∷ others) (grounds : Grounds state)
    (standing : Standing state) where
  exists : h < length state.harts
  exists = with_mail state h (Probe origin) others mail

  was_known : MayBeKnown state h origin
  was_known =
      standing.messages.known h origin
      (inl (subst (λ box. has_message box (Probe origin) ≡ true) (sym mail) (first_there (Probe origin) others)))

  abbrev first : ModelState
  first = taken state h others

  at_first : hart_of first h ≡ record (hart_of state h) { mail = others }
  at_first = hart_of-with_hart_same state h (record (hart_of state h) { mail = others }) exists

  first_count : length first.harts ≡ length state.harts
  first_count = length-set state.harts h (record (hart_of state h) { mail = others })

  -- the mailbox without the probe
  in_box : (message : Message) → has_message (hart_of state h).mail message ≡ true →
      (Probe origin ≡ message) ⊎ (has_message others message ≡ true)
  in_box message sent =
      first_or_later (Probe origin) others message (subst (λ box. has_message box message ≡ true) mail sent)

  still_in : (message : Message) → has_message others message ≡ true → has_message (hart_of state h).mail message ≡ true
  still_in message sent =
      subst (λ box. has_message box message ≡ true) (sym mail) (later_there (Probe origin) others message sent)

  -- it is linked as before, whatever it has been told
  abbrev without_probe : List ℕ → Hart
  without_probe told = record (hart_of state h) { mail = others; told = told }

  links : (told : List ℕ) (before : ℕ) → IsLinked (hart_of state h) before → IsLinked (without_probe told) before
  links told before (inl sent) = of_marker (in_box (Marker before) sent)
    where
      of_marker : (Probe origin ≡ Marker before) ⊎ (has_message others (Marker before) ≡ true) →
          IsLinked (without_probe told) before
      of_marker (inl wrong) = absurd (cc)
      of_marker (inr later) = inl later
  links told before (inr is) = inr is

  linked : (told : List ℕ) (before : ℕ) → IsLinked (without_probe told) before → IsLinked (hart_of state h) before
  linked told before (inl sent) = inl (still_in (Marker before) sent)
  linked told before (inr is) = inr is

  -- an origin that the hart was told of already
  took_known : has (hart_of state h).told origin ≡ true →
      Took NoEntry NoEntry state h (hart_of state h) (record (hart_of state h) { mail = others })
  took_known told = record {
    raised = refl;
    attempt = refl;
    seen = omega arith;
    links = links (hart_of state h).told;
    linked = linked (hart_of state h).told;
    knows = λ other is. knows other is;
    known = λ other is. inl (known other is);
    upstream = λ before is. inl is;
    told = λ other is. inl is;
    fewer = λ line. fewer_same line (hart_of state h) new refl refl;
  }
    where
      new : Hart
      new = record (hart_of state h) { mail = others }

      of_probe : (other : ℕ) → (Probe origin ≡ Probe other) ⊎ (has_message others (Probe other) ≡ true) →
          Knows new other
      of_probe other (inl same) = let e : origin ≡ other =
          cc in inr (subst (λ o. has (hart_of state h).told o ≡ true) e told)
      of_probe other (inr later) = inl later

      knows : (other : ℕ) → Knows (hart_of state h) other → Knows new other
      knows other (inl sent) = of_probe other (in_box (Probe other) sent)
      knows other (inr is) = inr is

      known : (other : ℕ) → Knows new other → Knows (hart_of state h) other
      known other (inl sent) = inl (still_in (Probe other) sent)
      known other (inr is) = inr is

  known_stands : has (hart_of first h).told origin ≡ true → Standing first
  known_stands told =
      debts_stand NoEntry NoEntry state first
      (record {
        order = refl;
        count = first_count;
        each_took =
            each_but (λ g hart. Took NoEntry NoEntry state g (hart_of state g) hart) state h
            (record (hart_of state h) { mail = others })
            (took_known (subst (λ hart. has hart.told origin ≡ true) at_first told))
            (λ g apart. took_nothing NoEntry NoEntry state g (hart_of state g))
            (λ past. let here = exists in absurd (omega (arith, past, here)));
        owed = λ g before none. elim none [ ];
        owed_of = λ g other none. elim none [ ];
        safe = λ g other none line request waits meets. elim none [ ];
      }) standing

  -- one that is new
  abbrev Took_probe : ℕ → Hart → Type 0
  Took_probe g hart = Took NoEntry (Entry h origin) state g (hart_of state g) hart

  took_told : Took_probe h (record (hart_of state h) { mail = others; told = included (hart_of state h).told origin })
  took_told = record {
    raised = refl;
    attempt = refl;
    seen = omega arith;
    links = links (included (hart_of state h).told origin);
    linked = linked (included (hart_of state h).told origin);
    knows = λ other is. knows other is;
    known = λ other is. inl (known other is);
    upstream = λ before is. inl is;
    told = λ other is. told other (new_or_had (hart_of state h).told origin other is);
    fewer = λ line. fewer_same line (hart_of state h) new refl refl;
  }
    where
      new : Hart
      new = record (hart_of state h) { mail = others; told = included (hart_of state h).told origin }

      of_probe : (other : ℕ) → (Probe origin ≡ Probe other) ⊎ (has_message others (Probe other) ≡ true) →
          Knows new other
      of_probe other (inl same) =
          let e : origin ≡ other = cc in
          inr (subst (λ o. has (included (hart_of state h).told origin) o ≡ true) e
          (has_included_own (hart_of state h).told origin))
      of_probe other (inr later) = inl later

      knows : (other : ℕ) → Knows (hart_of state h) other → Knows new other
      knows other (inl sent) = of_probe other (in_box (Probe other) sent)
      knows other (inr is) = inr (more_has (hart_of state h).told origin other is)

      of_told : (other : ℕ) → (other ≡ origin) ⊎ (has (hart_of state h).told other ≡ true) →
          Knows (hart_of state h) other
      of_told other (inl same) =
          inl (subst (λ box. has_message box (Probe other) ≡ true) (sym mail)
          (subst (λ o. has_message (Probe o ∷ others) (Probe other) ≡ true) same (first_there (Probe other) others)))
      of_told other (inr was) = inr was

      known : (other : ℕ) → Knows new other → Knows (hart_of state h) other
      known other (inl sent) = inl (still_in (Probe other) sent)
      known other (inr is) = of_told other (new_or_had (hart_of state h).told origin other is)

      told : (other : ℕ) → (other ≡ origin) ⊎ (has (hart_of state h).told other ≡ true) →
          (has (hart_of state h).told other ≡ true) ⊎ Entry h origin h other
      told other (inl same) = inr (refl, same)
      told other (inr was) = inl was

  abbrev request : Option Request
  request = ordered_of first origin

  abbrev loses : Bool
  loses = loses_to_origin first h request

  abbrev told_hart : Hart → Hart
  told_hart hart = record hart { told = included hart.told origin }

  took_beaten : Took_probe h
      (beaten state.config.mode (stamp_in request) (told_hart (record (hart_of state h) { mail = others })))
  took_beaten =
      subst (λ m. Took_probe h (beaten m (stamp_in request) (told_hart (record (hart_of state h) { mail = others }))))
      (sym grounds.opened.mode)
      (took_lost NoEntry (Entry h origin) state h (stamp_in request) (hart_of state h)
      (told_hart (record (hart_of state h) { mail = others })) took_told)

  took_new : Took_probe h (told_of first h origin request)
  took_new =
      by_test (Took_probe h) loses (beaten state.config.mode (stamp_in request) (told_hart (hart_of first h)))
      (told_hart (hart_of first h))
      (λ lost. subst (λ hart. Took_probe h (beaten state.config.mode (stamp_in request) (told_hart hart)))
      (sym at_first) took_beaten)
      (λ kept. subst (λ hart. Took_probe h (told_hart hart)) (sym at_first) took_told)

  abbrev told : ModelState
  told = with_hart first h (told_of first h origin request)

  told_count : length told.harts ≡ length state.harts
  told_count = length-set first.harts h _ ∙ first_count

  told_took : Each Took_probe told
  told_took =
      each_but Took_probe first h (told_of first h origin request) took_new
      (λ g apart.
      subst (Took_probe g) (sym (hart_of-with_hart_other state h g (record (hart_of state h) { mail = others }) apart))
      (took_nothing NoEntry (Entry h origin) state g (hart_of state g)))
      (λ past. let here = exists in absurd (omega (arith, past, here, first_count)))

  forwards_other : (found : Option Request) (g : ℕ) → forwards_on first h origin found g ≡ true → origin ≢ g
  forwards_other None g is same = absurd (cc)
  forwards_other (Some own) g is same =
      let other =
      first_of_both (not (g == origin)) _
      (first_of_both (not (g == origin) && has (hart_of first h).upstream g) _ is) in
      clash (ap not (own_test g)) (subst (λ o. not (g == o) ≡ true) same other)

  abbrev probe_final : ModelState
  probe_final = after_probe first h origin request

  probe_took : Each Took_probe probe_final
  probe_took =
      each_after Took_probe told (forwarded first h origin request)
      (λ g now.
      by_test (Took_probe g) (forwards_on first h origin request g)
      (record (hart_of told g) { mail = posted (hart_of told g).mail (Probe origin) })
      (hart_of told g)
      (λ sent.
      probed NoEntry (Entry h origin) state g origin (hart_of state g) (hart_of told g)
      (record { waits = was_known.waits; other = forwards_other request g sent }) now)
      (λ kept. now))
      told_took

  -- a probe goes on to each hart that is before this one
  forwarded_knows : (g : ℕ) → forwards_on first h origin request g ≡ true → g < length state.harts →
      Knows (hart_of probe_final g) origin
  forwarded_knows g forwards below =
      rw (hart_of-each_hart told (forwarded first h origin request) g (rw told_count below))
      (by_test (λ hart. Knows hart origin) (forwards_on first h origin request g)
      (record (hart_of told g) { mail = posted (hart_of told g).mail (Probe origin) }) (hart_of told g)
      (λ sent. inl (has_posted_own (hart_of told g).mail (Probe origin))) (λ kept. clash kept forwards))

  forwards_if : (found : Option Request) (waiting own : Request) (g line : ℕ) → found ≡ Some waiting →
      waiting.line ≡ line → g ≢ origin → has (hart_of state h).upstream g ≡ true → ordered_on state h line ≡ Some own →
      forwards_on first h origin found g ≡ true
  forwards_if None waiting own g line found on apart up mine = absurd (cc)
  forwards_if (Some asked) waiting own g line found on apart up mine =
      let line_is : line ≡ asked.line = sym on ∙ ap (λ r. r.line) (sym (same_Some _ _ found)) in
      and_from _ _
      (and_from _ _ (ap not (other_test g origin apart))
      (subst (λ hart. has hart.upstream g ≡ true) (sym at_first) up))
      (subst (λ l. is_some (ordered_on first h l) ≡ true) line_is (ap is_some mine))

  probe_owed : OwedOf probe_final h origin
  probe_owed before line own waiting up apart mine waits = by ((probe_took h).upstream before up)
    where
      by : (has (hart_of state h).upstream before ≡ true) ⊎ ⊥ → Knows (hart_of probe_final before) origin
      by (inr none) = elim none [ ]
      by (inl was) =
          let its = own_line line (ordered_of state origin) waiting waits in
          forwarded_knows before (forwards_if request waiting own before line its.0 its.1 apart was mine)
          (standing.messages.before h before (inr was)).exists

  -- where the hart retains the line of the origin it loses to a less stamp
  final_section : (hart_of probe_final h).section ≡ (hart_of told h).section
  final_section =
      each_hart_kept (λ hart. hart.section) told (forwarded first h origin request)
      (λ g hart.
      by_test (λ new. new.section ≡ hart.section) (forwards_on first h origin request g)
      (record hart { mail = posted hart.mail (Probe origin) }) hart
      (λ sent. refl) (λ kept. refl)) h

  told_section : loses ≡ true → (hart_of told h).section ≡ None
  told_section lost =
      let here = exists in
      ap (λ hart. hart.section) (hart_of-with_hart_same first h (told_of first h origin request) (rw first_count here))
      ∙ by_test (λ hart. hart.section ≡ None) loses
      (beaten state.config.mode (stamp_in request) (told_hart (hart_of first h)))
      (told_hart (hart_of first h))
      (λ is. ended state.config.mode grounds.opened.mode) (λ kept. clash kept lost)
    where
      ended : (mode : Mode) → mode ≡ Tlr → (beaten mode (stamp_in request) (told_hart (hart_of first h))).section ≡ None
      ended Tlr is = refl
      ended Sle is = absurd (cc)
      ended Plain is = absurd (cc)

  no_section_meets : {X : Type 0} (head : Option Request) (g : ℕ) (hart : Hart) → hart.section ≡ None →
      conflicts_with head g hart ≡ true → X
  no_section_meets head g hart none is = clash (ap is_some none) (loser_lives head g hart is)

  mail_aside : (head : Option Request) → conflicts_with head h (hart_of state h) ≡ true →
      conflicts_with head h (record (hart_of state h) { mail = others }) ≡ true
  mail_aside None is = is
  mail_aside (Some asked) is = is

  not_less : (found : Option Request) (waiting : Request) (line : ℕ) → found ≡ Some waiting → waiting.line ≡ line →
      conflicts_with (head_of state line) h (hart_of state h) ≡ true → loses_to_origin first h found ≡ false →
      is_before waiting.stamp (hart_of state h).attempt ≡ false
  not_less None waiting line found on here kept = absurd (cc)
  not_less (Some asked) waiting line found on here kept =
      let line_is : line ≡ asked.line = sym on ∙ ap (λ r. r.line) (sym (same_Some _ _ found)) in
      let same : asked ≡ waiting = same_Some _ _ found in
      subst (λ r. is_before r.stamp (hart_of state h).attempt ≡ false) same
      (subst (λ hart. is_before asked.stamp hart.attempt ≡ false) at_first
      (second_is (retains first h asked.line) (is_before asked.stamp (hart_of first h).attempt)
      (subst (λ hart. conflicts_with (head_of state asked.line) h hart ≡ true) (sym at_first)
      (mail_aside (head_of state asked.line)
      (subst (λ l. conflicts_with (head_of state l) h (hart_of state h) ≡ true) line_is here))) kept))
    where
      second_is : (a b : Bool) → a ≡ true → (a && b) ≡ false → b ≡ false
      second_is true b is none = none
      second_is false b is none = absurd (cc)

  probe_safe : (line : ℕ) (waiting : Request) → ordered_on state origin line ≡ Some waiting →
      conflicts_with (head_of state line) h (hart_of probe_final h) ≡ true →
      is_before waiting.stamp (hart_of state h).attempt ≡ false
  probe_safe line waiting waits meets = by loses refl
    where
      by : (lost : Bool) → loses ≡ lost → is_before waiting.stamp (hart_of state h).attempt ≡ false
      by true is =
          no_section_meets (head_of state line) h (hart_of probe_final h) (final_section ∙ told_section is) meets
      by false is =
          let its = own_line line (ordered_of state origin) waiting waits in
          not_less request waiting line its.0 its.1
          (retained_before line h (head_of state line) (hart_of state h) (hart_of probe_final h) (head_line state line)
          ((probe_took h).fewer line) meets) is

  probe_stands : Standing probe_final
  probe_stands =
      debts_stand NoEntry (Entry h origin) state probe_final
      (record {
        order = refl;
        count = length-each_from 0 (forwarded first h origin request) told.harts ∙ told_count;
        each_took = probe_took;
        owed = λ g before none. elim none [ ];
        owed_of =
            λ g other new. subst (λ k. OwedOf probe_final k other) (sym new.0)
            (subst (OwedOf probe_final h) (sym new.1) probe_owed);
        safe = λ g other new line waiting waits meets.
            subst (λ k. is_before waiting.stamp (hart_of state k).attempt ≡ false) (sym new.0)
            (probe_safe line waiting (subst (λ o. ordered_on state o line ≡ Some waiting) new.1 waits)
            (subst (λ k. conflicts_with (head_of state line) k (hart_of probe_final k) ≡ true) new.0 meets));
      }) standing

-- whatever the message
message_stands : (state : ModelState) (h : ℕ) (message : Message) (others : List Message) →
    (hart_of state h).mail ≡ message ∷ others → Grounds state →
    Standing state → Standing (delivered (taken state h others) h message)
unfolding delivered
message_stands state h (Marker sender) others mail grounds standing =
    marker_stands state h sender others mail grounds standing
message_stands state h (Probe origin) others mail grounds standing =
    by_test Standing (has (hart_of (taken state h others) h).told origin) (taken state h others)
    (after_probe (taken state h others) h origin (ordered_of (taken state h others) origin))
    (λ told. known_stands state h origin others mail grounds standing told)
    (λ new. probe_stands state h origin others mail grounds standing)

mail_stands : (state : ModelState) (h : ℕ) (mail : List Message) → (hart_of state h).mail ≡ mail → Grounds state →
    Standing state → Standing (deliver_next state h mail).state
mail_stands state h [] is grounds standing = standing
mail_stands state h (message ∷ others) is grounds standing = message_stands state h message others is grounds standing

pub delivered_stands : (state : ModelState) (h : ℕ) → Grounds state → Standing state →
    Standing (deliver_turn state h).state
unfolding deliver_turn
delivered_stands state h grounds standing = mail_stands state h (hart_of state h).mail refl grounds standing
