-- what holds still holds after a request is ordered, with its marker and its face
use Rattle.std.proofs.Common.{◌≡◌, ◌≢◌, ◌∙◌, ◌<◌, ◌++◌, ◌&&◌, ℕ, true, false, [], ◌∷◌, length, Option, None, Some}
use Rattle.std.proofs.Common.{is_some, refl, ap, sym, inl, inr}
use Rattle.std.proofs.Common.{◌⊎◌, subst, if◌then◌else◌}
use Rattle.std.specs.Option.{option_or}
use Rattle.std.proofs.Math.ListN.{length-set}
use Rattle.std.proofs.lemmas.Bool.{and_from, cases_eq}
use Rattle.std.proofs.lemmas.Option.{same_Some}
use Rattle.bus_order.specs.Order.{Request, appended, first_of, queue_of, request_of, tail_of}
use Rattle.bus_order.proofs.Laws.LookUps.{first_of_appended_other, first_of_appended_own, first_of_in_front_of_other}
use Rattle.bus_order.proofs.Laws.LookUps.{first_of_in_front_of_own}
use Rattle.bus_order.proofs.Laws.Queues.{hart_of_request_of, queue_of_appended_other, queue_of_appended_own}
use Rattle.bus_order.proofs.Laws.Queues.{queue_of_in_front_of_other}
use Rattle.bus_order.proofs.Laws.Queues.{queue_of_in_front_of_own, request_of_first_of, request_of_tail_of}
use Rattle.residency.specs.Cache.{has_bit}
use Rattle.el_base.specs.declared.config.Mode.{Mode}
use Rattle.el_base.specs.declared.config.Mode.TheVariants.{Plain, Sle, Tlr}
use Rattle.el_base.specs.declared.outcomes.Need.{Need}
use Rattle.el_base.specs.declared.outcomes.Need.TheVariants.{Read, Write}
use Rattle.el_base.proofs.Laws.Cases.{clash, some_none}
use Rattle.el_base.proofs.Laws.Tests.{first_of_both, second_of_both}
use Rattle.el_base.proofs.Laws.Options.{none_from}
use Rattle.el_model.specs.Conflicts.{conflicts_with, meets_bit, retains}
use Rattle.el_model.specs.Armed.{let_go}
use Rattle.el_model.specs.Face.{met}
use Rattle.el_model.specs.Order.{Alone, Behind, InFront, marked_by, marked_from, marking, order_raised, place_for}
use Rattle.el_model.specs.Order.{placed}
use Rattle.el_model.specs.State.{Hart, ModelState, cache_of, hart_of, head_of, is_live, ordered_of, raised_of}
use Rattle.el_model.proofs.Laws.Harts.{hart_of-with_hart_same}
use Rattle.el_model.proofs.Laws.Keeps.{frame_let_go, keeps_marking}
use Rattle.el_model.proofs.Laws.Tests.{by_test}
use Rattle.removal_laws.specs.Facts.{Everywhere, IsChained, IsLinked, MayPrecede, Messages}
use Rattle.section_laws.proofs.Laws.Bits.{Fewer, fewer_bit, fewer_twice, in_the_way}
use Rattle.removal_laws.proofs.Faced.{Facing, FirstOn, Other, all_let_go, met_fewer, met_stands}
use Rattle.removal_laws.proofs.Laws.Facing.{faced_retains}
use Rattle.removal_laws.proofs.Grounds.{Grounds, Standing}
use Rattle.removal_laws.proofs.Kept.{AllPosted, chained_kept, messages_moved, moved_by_post, retaining_posted}
use Rattle.removal_laws.proofs.Ordering.{Ordering, base, base_below, base_messages, base_retaining, linked_still, mask}
use Rattle.removal_laws.proofs.Ordering.{other_ordered, own_ordered}
use Rattle.removal_laws.proofs.Ordering.{same_bits, same_count, waits_still}
use Rattle.removal_laws.proofs.Posting.{Posted, is_marked, marked, unchanged}
use Rattle.removal_laws.proofs.Queues.{chained_before, chained_more, head_is, no_queue, tail_is}
use Rattle.removal_laws.proofs.Requests.{raised_own}
use Rattle.el_model.proofs.Laws.EachHart.{each_with}
use Rattle.section_laws.proofs.Laws.FreeLines.{has_head}
use Rattle.section_laws.proofs.Laws.Numbered.{raised_exists}
use Rattle.section_laws.proofs.Laws.Waiting.{free_of_order}
use Rattle.stamp.specs.Stamps.{Stamp, is_before}
use Rattle.stamp.proofs.Laws.StampOrder.{less_strict}

-- nobody was posted anything, or one hart a marker
pub posted_none : (state : ModelState) → AllPosted state state
posted_none state = record { order = refl; count = refl; each_posted = λ g. unchanged state g (hart_of state g) }

posted_one : (mode : Mode) (state : ModelState) (sender h : ℕ) → mode ≡ Tlr → MayPrecede state h sender →
    AllPosted state (marked_from mode state sender h)
posted_one Tlr state sender h mode may = record {
  order = refl;
  count = length-set state.harts h _;
  each_posted =
      each_with (λ g hart. Posted state g (hart_of state g) hart) state h _
      (marked state h sender (hart_of state h) may)
      (λ g. unchanged state g (hart_of state g));
}
posted_one Sle state sender h mode may = absurd (cc)
posted_one Plain state sender h mode may = absurd (cc)

linked_one : (mode : Mode) (state : ModelState) (sender h : ℕ) → mode ≡ Tlr → h < length state.harts →
    IsLinked (hart_of (marked_from mode state sender h) h) sender
linked_one Tlr state sender h mode exists =
    rw (hart_of-with_hart_same state h _ exists) (is_marked (hart_of state h) sender)
linked_one Sle state sender h mode exists = absurd (cc)
linked_one Plain state sender h mode exists = absurd (cc)

posted_by : (state : ModelState) (last : Option Request) (h : ℕ) → state.config.mode ≡ Tlr →
    ((found : Request) → last ≡ Some found → MayPrecede state h found.hart) → AllPosted state (marked_by state last h)
posted_by state None h mode may = posted_none state
posted_by state (Some last) h mode may = posted_one state.config.mode state last.hart h mode (may last refl)

linked_by : (state : ModelState) (last : Option Request) (h : ℕ) (found : Request) → state.config.mode ≡ Tlr →
    last ≡ Some found → h < length state.harts →
    IsLinked (hart_of (marked_by state last h) h) found.hart
linked_by state None h found mode is exists = absurd (cc)
linked_by state (Some last) h found mode is exists =
    rw (ap (λ r. r.hart) (sym (same_Some _ _ is))) (linked_one state.config.mode state last.hart h mode exists)

posted_to : (state : ModelState) (h : ℕ) (former : Option Request) → state.config.mode ≡ Tlr →
    ((found : Request) → former ≡ Some found → MayPrecede state found.hart h) → AllPosted state (marking state h former)
posted_to state h None mode may = posted_none state
posted_to state h (Some former) mode may = posted_one state.config.mode state h former.hart mode (may former refl)

linked_to : (state : ModelState) (h : ℕ) (former : Option Request) (found : Request) → state.config.mode ≡ Tlr →
    former ≡ Some found → found.hart < length state.harts → IsLinked (hart_of (marking state h former) found.hart) h
linked_to state h None found mode is exists = absurd (cc)
linked_to state h (Some former) found mode is exists =
    subst (λ r. IsLinked (hart_of (marked_from state.config.mode state h former.hart) r.hart) h) (same_Some _ _ is)
    (linked_one state.config.mode state h former.hart mode
    (subst (λ r. r.hart < length state.harts) (sym (same_Some _ _ is)) exists))

-- what is said of the other lines and of one is said of all
pub all_chained : (state : ModelState) (line : ℕ) → Messages (Other line) state →
    IsChained state (queue_of state.order line) → Messages Everywhere state
all_chained state line others own = record {
  before = others.before;
  known = others.known;
  chained = λ l on. by l (cases_eq l line);
  told_own = others.told_own;
  told_on = others.told_on;
}
  where
    by : (l : ℕ) → (l ≡ line) ⊎ (l ≡ line → ⊥) → IsChained state (queue_of state.order l)
    by l (inl same) = rw same own
    by l (inr apart) = others.chained l apart

-- of the attempts of two harts one is before the other
no_tie : {X : Type 0} (a b : Option Stamp) (g h : ℕ) → g ≢ h → ((stamp : Stamp) → a ≡ Some stamp → stamp.hart ≡ g) →
    ((stamp : Stamp) → b ≡ Some stamp → stamp.hart ≡ h) → is_some a ≡ true → is_some b ≡ true →
    is_before a b ≡ false → is_before b a ≡ false → X
no_tie None b g h apart own_a own_b some_a some_b one other = absurd (cc)
no_tie (Some a) None g h apart own_a own_b some_a some_b one other = absurd (cc)
no_tie (Some a) (Some b) g h apart own_a own_b some_a some_b one other =
    let same = less_strict.total a b one other in
    absurd (apart (sym (own_a a refl) ∙ ap (λ s. s.hart) same ∙ own_b b refl))

module _ (state : ModelState) (request : Request) (grounds : Grounds state) (ordering : Ordering state request)
    (standing : Standing state) where
  -- behind the other requests of its line
  behind_posts : AllPosted (base state request Behind)
      (marked_by (base state request Behind) (tail_of state.order request.line) request.hart)
  behind_posts =
      posted_by (base state request Behind) (tail_of state.order request.line) request.hart grounds.opened.mode
      (λ last is.
      let found = request_of_tail_of state.order request.line last grounds.once.once is in
      record {
        waits = ap is_some (own_ordered state request Behind grounds ordering standing);
        other = λ same. some_none (sym found ∙ ap (request_of state.order) same ∙ ordering.free);
        exists = rw (same_count state request Behind grounds ordering standing) (grounds.below last.hart last found);
      })

  behind_head : is_some (head_of state request.line) ≡ true → (line : ℕ) →
      head_of (base state request Behind) line ≡ head_of state line
  behind_head has_head line = by (cases_eq line request.line)
    where
      first : (found : Option Request) → is_some found ≡ true → option_or found (Some request) ≡ found
      first None none = absurd (cc)
      first (Some found) is = refl

      by : (line ≡ request.line) ⊎ (line ≡ request.line → ⊥) →
          first_of (appended state.order request) line ≡ first_of state.order line
      by (inl same) = rw same (first_of_appended_own state.order request ∙ first (head_of state request.line) has_head)
      by (inr apart) = first_of_appended_other state.order request line (λ same. apart (sym same))

  pub behind_stands : (is_live state request.hart && has_bit (cache_of state request.hart) request.line) ≡ false →
      is_some (head_of state request.line) ≡ true → Standing (placed state request Behind)
  unfolding placed
  behind_stands no_bit has_head =
      let posts = behind_posts in
      let final = marked_by (base state request Behind) (tail_of state.order request.line) request.hart in
      record {
        messages =
            all_chained final request.line
            (messages_moved (Other request.line) (base state request Behind) final
            (moved_by_post (base state request Behind) final posts)
            (base_messages state request Behind grounds ordering standing (Other request.line)
            (λ line apart. queue_of_appended_other state.order request line (λ same. apart (sym same)))))
            (subst (λ o. IsChained final (queue_of o request.line)) (sym posts.order)
            (subst (IsChained final) (sym (queue_of_appended_own state.order request))
            (chained_more final (queue_of state.order request.line) request (tail_of state.order request.line)
            (chained_kept state final
            (λ g before is. (posts.each_posted g).links before
            (linked_still state request Behind grounds ordering standing g before is))
            (queue_of state.order request.line) (standing.messages.chained request.line tt))
            (tail_is state.order request.line)
            (λ last is.
            linked_by (base state request Behind) (tail_of state.order request.line) request.hart last
            grounds.opened.mode is
            (rw (same_count state request Behind grounds ordering standing) ordering.exists)))));
        retaining =
            retaining_posted Everywhere (base state request Behind) final posts
            (base_retaining state request Behind grounds ordering standing Everywhere
            (λ line on. behind_head has_head line)
            (λ on live bit. clash no_bit (and_from _ _ live bit)));
      }

  -- alone on its line
  pub alone_facing : head_of state request.line ≡ None → Facing (base state request Alone) request
  alone_facing no_head = record {
    mode = grounds.opened.mode;
    below = base_below state request Alone grounds ordering standing;
    first = first_of_appended_own state.order request ∙ ap (λ first. option_or first (Some request)) no_head;
    ordered = own_ordered state request Alone grounds ordering standing;
    messages =
        all_chained (base state request Alone) request.line
        (base_messages state request Alone grounds ordering standing (Other request.line)
        (λ line apart. queue_of_appended_other state.order request line (λ same. apart (sym same))))
        (subst (IsChained (base state request Alone))
        (sym (queue_of_appended_own state.order request ∙ ap (λ queue. queue ++ request ∷ [])
        (no_queue state.order request.line no_head))) tt);
    retaining =
        base_retaining state request Alone grounds ordering standing (Other request.line)
        (λ line apart. first_of_appended_other state.order request line (λ same. apart (sym same)))
        (λ on live bit. absurd (on refl));
  }

  pub alone_stands : head_of state request.line ≡ None → Standing (placed state request Alone)
  unfolding placed
  alone_stands no_head = met_stands (base state request Alone) request (alone_facing no_head) first
    where
      first : FirstOn (base state request Alone) (met (base state request Alone) request) request.line
      first h found line is live bit = by (cases_eq h request.hart)
        where
          by : (h ≡ request.hart) ⊎ (h ≡ request.hart → ⊥) → head_of (base state request Alone) found.line ≡ Some found
          by (inl same) =
              let mine = own_ordered state request Alone grounds ordering standing in
              let e : request ≡ found =
              same_Some _ _ (sym mine ∙ ap (ordered_of (base state request Alone)) (sym same) ∙ is) in
              subst (λ r. head_of (base state request Alone) r.line ≡ Some r) e
              (first_of_appended_own state.order request ∙ ap (λ first. option_or first (Some request)) no_head)
          by (inr apart) =
              absurd
              (has_head state.order h found
              (sym (other_ordered state request Alone grounds ordering standing h apart) ∙ is)
              (ap (head_of state) line ∙ no_head))

  -- in front of the other requests of its line, where its hart's section has a bit there
  abbrev pub front : ModelState
  front = marking (base state request InFront) request.hart (head_of state request.line)

  former_is : (former : Request) → head_of state request.line ≡ Some former → ordered_of state former.hart ≡ Some former
  former_is former is = request_of_first_of state.order request.line former grounds.once.once is

  front_posts : AllPosted (base state request InFront) front
  front_posts =
      posted_to (base state request InFront) request.hart (head_of state request.line) grounds.opened.mode
      (λ former is.
      let found = former_is former is in
      record {
        waits = waits_still state request InFront grounds ordering standing former.hart (ap is_some found);
        other = λ same. some_none (sym found ∙ ap (request_of state.order) (sym same) ∙ ordering.free);
        exists = rw (same_count state request InFront grounds ordering standing) ordering.exists;
      })

  front_chained : IsChained front (request ∷ queue_of state.order request.line)
  front_chained =
      let posts = front_posts in
      chained_before front (queue_of state.order request.line) request (head_of state request.line)
      (chained_kept state front
      (λ g before is. (posts.each_posted g).links before
      (linked_still state request InFront grounds ordering standing g before is))
      (queue_of state.order request.line) (standing.messages.chained request.line tt))
      (head_is state.order request.line)
      (λ former is.
      linked_to (base state request InFront) request.hart (head_of state request.line) former grounds.opened.mode is
      (rw (same_count state request InFront grounds ordering standing)
      (grounds.below former.hart former (former_is former is))))

  pub front_facing : Facing front request
  front_facing =
      let posts = front_posts in
      record {
        mode =
            ap (λ c. c.mode)
            (keeps_marking (base state request InFront) request.hart (head_of state request.line)).config
            ∙ grounds.opened.mode;
        below = λ h found is.
            rw posts.count
            (base_below state request InFront grounds ordering standing h found
            (subst (λ o. request_of o h ≡ Some found) posts.order is));
        first =
            subst (λ o. first_of o request.line ≡ Some request) (sym posts.order)
            (first_of_in_front_of_own state.order request);
        ordered =
            subst (λ o. request_of o request.hart ≡ Some request) (sym posts.order)
            (own_ordered state request InFront grounds ordering standing);
        messages =
            all_chained front request.line
            (messages_moved (Other request.line) (base state request InFront) front
            (moved_by_post (base state request InFront) front posts)
            (base_messages state request InFront grounds ordering standing (Other request.line)
            (λ line apart. queue_of_in_front_of_other state.order request line (λ same. apart (sym same)))))
            (subst (λ o. IsChained front (queue_of o request.line)) (sym posts.order)
            (subst (IsChained front) (sym (queue_of_in_front_of_own state.order request)) front_chained));
        retaining =
            retaining_posted (Other request.line) (base state request InFront) front posts
            (base_retaining state request InFront grounds ordering standing (Other request.line)
            (λ line apart. first_of_in_front_of_other state.order request line (λ same. apart (sym same)))
            (λ on live bit. absurd (on refl)));
      }

  -- the section of the former head, if it has a bit there, has the greater stamp and loses
  meets_write : (hart : Hart) (line : ℕ) (need : Need) → need ≡ Write → has_bit hart.cache line ≡ true →
      meets_bit hart line need ≡ true
  meets_write hart line Write is bit = bit
  meets_write hart line Read is bit = absurd (cc)

  front_first : is_live state request.hart ≡ true → has_bit (cache_of state request.hart) request.line ≡ true →
      FirstOn front (met front request) request.line
  front_first own_live own_bit h found line is live bit = by (cases_eq h request.hart)
    where
      posts : AllPosted (base state request InFront) front
      posts = front_posts

      freed : AllPosted front (let_go front request)
      freed = all_let_go front request

      fewer : Fewer found.line (hart_of state h) (hart_of (met front request) h)
      fewer =
          fewer_twice found.line (hart_of state h) (hart_of front h) (hart_of (met front request) h)
          (fewer_twice found.line (hart_of state h) (hart_of (base state request InFront) h) (hart_of front h)
          (same_bits state request InFront grounds ordering standing found.line h)
          ((posts.each_posted h).fewer found.line))
          (met_fewer front request front_facing h found.line)

      in_base : ordered_of (base state request InFront) h ≡ Some found
      in_base = subst (λ o. request_of o h ≡ Some found) posts.order is

      old_live : is_live state h ≡ true
      old_live = fewer.live live

      old_bit : has_bit (cache_of state h) found.line ≡ true
      old_bit = fewer_bit found.line (hart_of state h) (hart_of (met front request) h) fewer live bit

      own_need : request.need ≡ Write
      own_need = standing.retaining.raised request.hart request ordering.raised own_live own_bit

      -- the section of the request's hart retained the line
      retained : h ≢ request.hart → ordered_of state h ≡ Some found → head_of state found.line ≡ Some found →
          retains state request.hart found.line ≡ true
      retained apart was first =
          subst (λ head. conflicts_with head request.hart (hart_of state request.hart) ≡ true) (sym first)
          (in_the_way found request.hart (hart_of state request.hart)
          (record {
            other = λ same. apart (sym (hart_of_request_of state.order h found was) ∙ same);
            live = own_live;
            bit =
                meets_write (hart_of state request.hart) found.line found.need
                (standing.retaining.ordered h found was old_live old_bit)
                (rw line own_bit);
          }))

      freed_mode : (let_go front request).config.mode ≡ Tlr
      freed_mode = ap (λ config. config.mode) (frame_let_go front request).config ∙ front_facing.mode

      stayed : h ≢ request.hart → is_before request.stamp (hart_of (let_go front request) h).attempt ≡ false
      stayed apart =
          (faced_retains (let_go front request) request h freed_mode
          (in_the_way request h (hart_of (met front request) h)
          (record {
            other = λ same. apart (sym same);
            live = live;
            bit = meets_write (hart_of (met front request) h) request.line request.need own_need
                (subst (λ l. has_bit (cache_of (met front request) h) l ≡ true) line bit);
          }))).stayed.not_after

      same_attempt : (hart_of (let_go front request) h).attempt ≡ (hart_of state h).attempt
      same_attempt =
          (freed.each_posted h).attempt ∙ (posts.each_posted h).attempt
          ∙ ap (λ hart. hart.attempt) (mask state request InFront h)

      tie : {X : Type 0} → h ≢ request.hart → ordered_of state h ≡ Some found → X
      tie apart was =
          let first = standing.retaining.first h found tt was old_live old_bit in
          let may = standing.retaining.may request.hart found.line tt (retained apart was first) in
          let own_stamp = (grounds.stamped request.hart).raised_is request ordering.raised in
          let its_stamp = (grounds.stamped h).ordered_is found was in
          no_tie (hart_of state h).attempt (hart_of state request.hart).attempt h request.hart apart
          (λ stamp is. (grounds.own h stamp is).hart) (λ stamp is. (grounds.own request.hart stamp is).hart)
          (grounds.opened.open_each h old_live) (grounds.opened.open_each request.hart own_live)
          (subst (λ s. is_before s (hart_of state request.hart).attempt ≡ false) its_stamp
          (may.not_after_head found first))
          (subst (λ s. is_before s (hart_of state h).attempt ≡ false) own_stamp
          (subst (λ s. is_before request.stamp s ≡ false) same_attempt (stayed apart)))

      by : (h ≡ request.hart) ⊎ (h ≡ request.hart → ⊥) → head_of front found.line ≡ Some found
      by (inl same) =
          let e : request ≡ found = same_Some _ _ (sym front_facing.ordered ∙ ap (ordered_of front) (sym same) ∙ is) in
          subst (λ r. head_of front r.line ≡ Some r) e front_facing.first
      by (inr apart) = tie apart (sym (other_ordered state request InFront grounds ordering standing h apart) ∙ in_base)

  pub front_stands : is_live state request.hart ≡ true → has_bit (cache_of state request.hart) request.line ≡ true →
      Standing (placed state request InFront)
  unfolding placed
  front_stands own_live own_bit = met_stands front request front_facing (front_first own_live own_bit)

  -- wherever it goes
  pub placed_stands : Standing (placed state request (place_for state request))
  placed_stands =
      by_test (λ place. Standing (placed state request place))
      (is_live state request.hart && has_bit (cache_of state request.hart) request.line)
      InFront (if is_some (head_of state request.line) then Behind else Alone)
      (λ bit. front_stands (first_of_both (is_live state request.hart) _ bit)
      (second_of_both (is_live state request.hart) _ bit))
      (λ no_bit.
      by_test (λ place. Standing (placed state request place)) (is_some (head_of state request.line)) Behind Alone
      (λ has_head. behind_stands no_bit has_head)
      (λ no_head. alone_stands (none_from (head_of state request.line) no_head)))

-- a hart orders the request that it has raised, if it has one
pub ordered_stands : (state : ModelState) (h : ℕ) (raised : Option Request) → raised_of state h ≡ raised →
    Grounds state → Standing state → Standing (order_raised state raised).state
ordered_stands state h None is grounds standing = standing
ordered_stands state h (Some request) is grounds standing =
    let sound = grounds.once.sound in
    let mine = raised_own state h request sound is in
    placed_stands state request grounds
    (record {
      raised = mine;
      exists = raised_exists state h request sound is;
      free = free_of_order state request.hart request sound mine;
    }) standing
