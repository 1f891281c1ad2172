-- noting one event
use Rattle.std.proofs.Common.{◌≡◌, ◌∙◌, ℕ, ◌+◌, ◌<◌, ◌==◌, nat_lt, Bool, true, false, cond, List, [], ◌∷◌, ◌++◌, Option}
use Rattle.std.proofs.Common.{Some, None, map, refl, ap, sym, arith}
use Rattle.std.specs.Option.{option_map}
use Rattle.std.proofs.lemmas.Bool.Decides.{nat_tests}
use Rattle.std.proofs.lemmas.List.{append-nil}
use Rattle.el_base.proofs.Laws.HartIds.{hart_id-of_hart}
use Rattle.el_base.proofs.Laws.Lines.{line_addr-of_line}
use Rattle.el_base.specs.HartId.{hart_id}
use Rattle.el_base.specs.LineAddr.{line_addr}
use Rattle.el_base.specs.Winners.{winner_over}
use Rattle.el_base.specs.declared.hart_id.HartId.{HartId}
use Rattle.el_base.specs.declared.line.LineAddr.{LineAddr}
use Rattle.el_base.specs.declared.events.Event.{Event}
use Rattle.el_base.specs.declared.outcomes.Outcome.{Outcome}
use Rattle.el_model.specs.State.{ModelState, Section}
use Rattle.lab.proofs.Ends.{first_end-live}
use Rattle.lab.specs.Tries.{Moment, begun_as, begun_in, end_in, ended_by, ended_for, first_end, line_waited_for}
use Rattle.lab.specs.Tries.{lost_by, lost_end, noted, of_section, own_end}
use Rattle.lab.specs.declared.tries.Ended.{Ended}
use Rattle.lab.specs.declared.tries.Ended.TheVariants.{Live, LostTo}
use Rattle.lab.specs.declared.tries.Try.{Try}
use Rattle.rv_alu.specs.declared.view.HartView.{HartView}
use Rattle.rv_flat.specs.FlatState.{view_of}
use Rattle.machine.specs.SectionState as sections
use Rattle.machine.specs.LiveSection as lives

pub map_same : (f g : Try → Try) → ((try : Try) → f try ≡ g try) → (tries : List Try) → map f tries ≡ map g tries
map_same f g same [] = refl
map_same f g same (try ∷ tries) = ap (λ t. t ∷ map f tries) (same try) ∙ ap (λ ts. g try ∷ ts) (map_same f g same tries)

pub map_still : (f : Try → Try) → ((try : Try) → f try ≡ try) → (tries : List Try) → map f tries ≡ tries
map_still f same [] = refl
map_still f same (try ∷ tries) = ap (λ t. t ∷ map f tries) (same try) ∙ ap (λ ts. try ∷ ts) (map_still f same tries)

pub map_twice : (f g h : Try → Try) → ((try : Try) → f (g try) ≡ h try) → (tries : List Try) →
    map f (map g tries) ≡ map h tries
map_twice f g h same [] = refl
map_twice f g h same (try ∷ tries) =
    ap (λ t. t ∷ map f (map g tries)) (same try) ∙ ap (λ ts. h try ∷ ts) (map_twice f g h same tries)

either_live : (b : Bool) → cond b Live Live ≡ Live
either_live true = refl
either_live false = refl

-- an event of a hart's own, in which none lost and none began
module _ (moment : Moment) (unlost : (h : ℕ) → winner_over moment.outcome h ≡ None) where
  end_own : (h : ℕ) →
      end_in moment h ≡ cond (moment.event.hart.number == h) (own_end moment.place (moment.ran h) moment.outcome) Live
  end_own h =
      ap
      (λ winner.
      first_end (cond (moment.event.hart.number == h) (own_end moment.place (moment.ran h) moment.outcome) Live)
      (lost_end moment.place (moment.ran h) moment.after winner)) (unlost h)
      ∙ first_end-live (cond (moment.event.hart.number == h) (own_end moment.place (moment.ran h) moment.outcome) Live)

  own_ended : (try : Try) →
      ended_for moment.event.hart.number (own_end moment.place (moment.ran moment.event.hart.number) moment.outcome) try
      ≡ ended_by moment try
  own_ended try =
      by (moment.event.hart.number == try.hart.number) refl
      ∙ ap (λ ended. record try { ended = first_end try.ended ended }) (sym (end_own try.hart.number))
    where
      by : (b : Bool) → (moment.event.hart.number == try.hart.number) ≡ b →
          cond b
          (record try {
            ended = first_end try.ended
                (own_end moment.place (moment.ran moment.event.hart.number) moment.outcome);
          }) try
          ≡ record try {
            ended = first_end try.ended
                (cond b (own_end moment.place (moment.ran try.hart.number) moment.outcome) Live);
          }
      by true e =
          let same : moment.event.hart.number ≡ try.hart.number = grind (arith, nat_tests) in
          ap (λ h. record try { ended = first_end try.ended (own_end moment.place (moment.ran h) moment.outcome) }) same
      by false e = ap (λ ended. record try { ended = ended }) (sym (first_end-live try.ended))

  pub noted_own : (tries : List Try) (ended : Ended) →
      own_end moment.place (moment.ran moment.event.hart.number) moment.outcome ≡ ended →
      ((begun : List Try) → begun_as moment.outcome begun ≡ []) →
      map (ended_for moment.event.hart.number ended) tries ≡ noted moment tries
  noted_own tries ended is begins =
      ap (λ e. map (ended_for moment.event.hart.number e) tries) (sym is)
      ∙ map_same _ (ended_by moment) own_ended tries
      ∙ sym (append-nil (map (ended_by moment) tries))
      ∙ ap (λ begun. map (ended_by moment) tries ++ begun) (sym (begins _))

  still : ((h : ℕ) → own_end moment.place (moment.ran h) moment.outcome ≡ Live) → (try : Try) →
      ended_by moment try ≡ try
  still lives try =
      ap (λ ended. record try { ended = first_end try.ended ended })
      (end_own try.hart.number
      ∙ ap (λ ended. cond (moment.event.hart.number == try.hart.number) ended Live) (lives try.hart.number)
      ∙ either_live (moment.event.hart.number == try.hart.number))
      ∙ ap (λ ended. record try { ended = ended }) (first_end-live try.ended)

  -- one that ends nothing
  pub noted_still : (tries : List Try) → ((h : ℕ) → own_end moment.place (moment.ran h) moment.outcome ≡ Live) →
      tries ++ begun_in moment Live ≡ noted moment tries
  noted_still tries lives =
      ap (λ list. list ++ begun_in moment Live) (sym (map_still (ended_by moment) (still lives) tries))

-- one that begins and ends nothing
pub noted_nothing : (place : ℕ) (ran : ℕ → ℕ) (event : Event) (after : ModelState) (tries : List Try)
    (outcome known : Outcome) → outcome ≡ known → ((h : ℕ) → winner_over known h ≡ None) →
    ((h : ℕ) → own_end place (ran h) known ≡ Live) → ((begun : List Try) → begun_as known begun ≡ []) →
    tries ≡ noted (record { place = place; ran = ran; event = event; outcome = outcome; after = after }) tries
noted_nothing place ran event after tries outcome known is unlost lives begins =
    let of : Outcome → Moment = λ o. record { place = place; ran = ran; event = event; outcome = o; after = after } in
    sym (append-nil tries)
    ∙ ap (λ begun. tries ++ begun) (sym (begins _))
    ∙ noted_still (of known) unlost tries lives
    ∙ ap (λ o. noted (of o) tries) (sym is)

-- an event in which harts lost, and which is otherwise nothing to sections
pub noted_losses : (moment : Moment) (winner : ℕ → Option ℕ) (tries : List Try) →
    ((h : ℕ) → winner_over moment.outcome h ≡ winner h) →
    ((h : ℕ) → own_end moment.place (moment.ran h) moment.outcome ≡ Live) →
    ((begun : List Try) → begun_as moment.outcome begun ≡ []) →
    map (lost_by moment.place moment.ran moment.after winner) tries ≡ noted moment tries
noted_losses moment winner tries winners lives begins =
    map_same (lost_by moment.place moment.ran moment.after winner) (ended_by moment) same tries
    ∙ sym (append-nil (map (ended_by moment) tries))
    ∙ ap (λ begun. map (ended_by moment) tries ++ begun) (sym (begins _))
  where
    same : (try : Try) → lost_by moment.place moment.ran moment.after winner try ≡ ended_by moment try
    same try =
        let h = try.hart.number in
        let lost = lost_end moment.place (moment.ran h) moment.after (winner h) in
        ap (λ own. record try { ended = first_end try.ended (first_end own lost) })
        (sym (ap (λ ended. cond (moment.event.hart.number == h) ended Live) (lives h)
        ∙ either_live (moment.event.hart.number == h)))
        ∙ ap (λ w. record try {
          ended = first_end try.ended (first_end
              (cond (moment.event.hart.number == h) (own_end moment.place (moment.ran h) moment.outcome) Live)
              (lost_end moment.place (moment.ran h) moment.after w));
        }) (sym (winners h))

-- the losers among the first harts
abbrev pub lost_below : ℕ → (ℕ → ℕ) → ModelState → (ℕ → Option ℕ) → ℕ → Try → Try
lost_below place ran after winner k try =
    cond (nat_lt try.hart.number k) (lost_by place ran after winner try) try

module _ (place : ℕ) (ran : ℕ → ℕ) (after : ModelState) (winner : ℕ → Option ℕ) where
  lost_here : (k : ℕ) (try : Try) →
      ended_for k (lost_end place (ran k) after (winner k)) (lost_below place ran after winner k try)
      ≡ lost_below place ran after winner (k + 1) try
  lost_here k try = by (nat_lt try.hart.number k) (nat_lt try.hart.number (k + 1)) (k == try.hart.number) refl refl refl
    where
      by : (below more same : Bool) → nat_lt try.hart.number k ≡ below → nat_lt try.hart.number (k + 1) ≡ more →
          (k == try.hart.number) ≡ same →
          ended_for k (lost_end place (ran k) after (winner k)) (cond below (lost_by place ran after winner try) try)
          ≡ cond more (lost_by place ran after winner try) try
      by true true true a b c = absurd (grind (arith, nat_tests))
      by true true false a b c = ap (λ t. cond t (record (lost_by place ran after winner try) {
        ended =
            first_end (lost_by place ran after winner try).ended (lost_end place (ran k) after (winner k));
      }) (lost_by place ran after winner try)) c
      by true false same a b c = absurd (grind (arith, nat_tests))
      by false true true a b c =
          let is : k ≡ try.hart.number = grind (arith, nat_tests) in
          ap (λ t. cond t (record try { ended = first_end try.ended (lost_end place (ran k) after (winner k)) }) try) c
          ∙ ap (λ h. record try { ended = first_end try.ended (lost_end place (ran h) after (winner h)) }) is
      by false true false a b c = absurd (grind (arith, nat_tests))
      by false false true a b c = absurd (grind (arith, nat_tests))
      by false false false a b c =
          ap (λ t. cond t (record try { ended = first_end try.ended (lost_end place (ran k) after (winner k)) }) try) c

  pub loser_passed : (k : ℕ) (before now later : List Try) → now ≡ map (lost_below place ran after winner k) before →
      later ≡ map (ended_for k (lost_end place (ran k) after (winner k))) now →
      later ≡ map (lost_below place ran after winner (k + 1)) before
  loser_passed k before now later is ended =
      ended ∙ ap (map (ended_for k (lost_end place (ran k) after (winner k)))) is ∙ map_twice _ _ _ (lost_here k) before

  ended_live : (k : ℕ) (try : Try) → ended_for k Live try ≡ try
  ended_live k try = by (k == try.hart.number)
    where
      by : (b : Bool) → cond b (record try { ended = first_end try.ended Live }) try ≡ try
      by true = ap (λ ended. record try { ended = ended }) (first_end-live try.ended)
      by false = refl

  pub winner_passed : (k : ℕ) (before now : List Try) → now ≡ map (lost_below place ran after winner k) before →
      winner k ≡ None → now ≡ map (lost_below place ran after winner (k + 1)) before
  winner_passed k before now is none =
      loser_passed k before now now is
      (sym (ap (λ w. map (ended_for k (lost_end place (ran k) after w)) now) none
      ∙ map_still (ended_for k Live) (ended_live k) now))

  pub none_lost : (before : List Try) → before ≡ map (lost_below place ran after winner 0) before
  none_lost before =
      sym (map_still (lost_below place ran after winner 0) (λ try. by try (nat_lt try.hart.number 0) refl) before)
    where
      by : (try : Try) (b : Bool) → nat_lt try.hart.number 0 ≡ b → cond b (lost_by place ran after winner try) try ≡ try
      by try true e = absurd (grind (arith, nat_tests))
      by try false e = refl

  pub all_lost : (k : ℕ) (before now : List Try) → k ≡ 8 → now ≡ map (lost_below place ran after winner k) before →
      now ≡ map (lost_by place ran after winner) before
  all_lost k before now whole is =
      is ∙ ap (λ n. map (lost_below place ran after winner n) before) whole
      ∙ map_same _ _ (λ try. by try (nat_lt try.hart.number 8) refl) before
    where
      by : (try : Try) (b : Bool) → nat_lt try.hart.number 8 ≡ b →
          cond b (lost_by place ran after winner try) try ≡ lost_by place ran after winner try
      by try true e = refl
      by try false e = let small : try.hart.number < 8 = try.hart.small in absurd (grind (arith, nat_tests))

-- a loss, told
pub line_back : (line : Option LineAddr) → option_map line_addr (option_map (λ (l : LineAddr). l.number) line) ≡ line
line_back None = refl
line_back (Some line) = ap Some (line_addr-of_line line)

pub loss_is : (place ran : ℕ) (after : ModelState) (winner : HartId) (line : Option LineAddr) (beaten : Option ℕ) →
    Some winner.number ≡ beaten → option_map (λ (l : LineAddr). l.number) line ≡ line_waited_for after winner.number →
    LostTo place ran winner line ≡ lost_end place ran after beaten
loss_is place ran after winner line beaten is waits =
    ap (λ w. LostTo place ran w line) (sym (hart_id-of_hart winner))
    ∙ ap (LostTo place ran (hart_id winner.number)) (sym (line_back line) ∙ ap (option_map line_addr) waits)
    ∙ ap (lost_end place ran after) is

-- where no winner is told, there is none
pub unbeaten : (told : Option HartId) (beaten : Option ℕ) → option_map (λ (h : HartId). h.number) told ≡ beaten →
    ((winner : HartId) → told ≡ Some winner → ⊥) → beaten ≡ None
unbeaten None beaten is none = sym is
unbeaten (Some winner) beaten is none = absurd (none winner refl)

-- a section that began, told
pub begun_is : (after : ModelState) (place : ℕ) (hart : HartId) (live : lives.Live) (view : HartView)
    (section : Option Section) → option_map sections.section_of (Some live) ≡ section →
    view ≡ view_of after.committed hart.number → record {
      hart = hart;
      acquire = record { pc = view.pc; word = live.word };
      old = live.old;
      new = live.new;
      first = place;
      ended = Live;
    } ∷ [] ≡ of_section after place hart section Live
begun_is after place hart live view section is seen =
    ap (λ (v : HartView). begun v) seen ∙ ap (λ s. of_section after place hart s Live) is
  where
    begun : HartView → List Try
    begun v = record {
      hart = hart;
      acquire = record { pc = v.pc; word = live.word };
      old = live.old;
      new = live.new;
      first = place;
      ended = Live;
    } ∷ []
