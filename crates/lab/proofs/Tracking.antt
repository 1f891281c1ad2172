-- which sections are live, as one ends and as one begins
use Rattle.std.proofs.Common.{◌≡◌, ◌≢◌, ◌∙◌, ℕ, ◌+◌, ◌<◌, ◌==◌, ◌⊎◌, inl, inr, Bool, true, false, cond, List, [], ◌∷◌}
use Rattle.std.proofs.Common.{◌++◌, Option, Some, None}
use Rattle.std.proofs.Common.{length, map, set, get_or, refl, ap, sym, subst, eq-eqb, arith, length-set}
use Rattle.std.proofs.lemmas.Bool.{cases_lt}
use Rattle.std.proofs.lemmas.Bool.Decides.{nat_tests}
use Rattle.std.proofs.lemmas.Grind.{get_or-set_at}
use Rattle.std.proofs.lemmas.List.{ext_get_or, get_or-map, get_or-set_other, get_or_append_left, get_or_push}
use Rattle.std.proofs.lemmas.List.{length-map, length_push}
use Rattle.el_base.specs.declared.config.TheConstants.{MAX_STEPS}
use Rattle.lab.specs.Tracked.{Tracks, live_at, no_try, try_at}
use Rattle.lab.specs.Tries.{HasNone, ended_for, first_end}
use Rattle.lab.specs.declared.tries.Ended.{Ended}
use Rattle.lab.specs.declared.tries.Ended.TheVariants.{Live, Committed, LostTo, RolledBack}
use Rattle.lab.specs.declared.tries.Try.{Try}

-- a number is another, or not
pub equal_or : (a b : ℕ) → (a ≡ b) ⊎ (a ≢ b)
equal_or a b = by (a == b) refl
  where
    by : (c : Bool) → (a == b) ≡ c → (a ≡ b) ⊎ (a ≢ b)
    by true e = inl (grind (arith, nat_tests))
    by false e = inr (grind (arith, nat_tests))

pub none_at : (found : Option ℕ) → ((place : ℕ) → found ≡ Some place → ⊥) → found ≡ None
none_at None none = refl
none_at (Some place) none = absurd (none place refl)

first_end-over : (ended later : Ended) → ended ≢ Live → first_end ended later ≡ ended
first_end-over Live later over = absurd (over refl)
first_end-over (Committed at count) later over = refl
first_end-over (LostTo at ran winner line) later over = refl
first_end-over (RolledBack at ran cause) later over = refl

-- one section of a hart that is live ends, and each other stays
ended_live : (h : ℕ) (ended : Ended) (try : Try) → try.hart.number ≡ h → try.ended ≡ Live →
    ended_for h ended try ≡ record try { ended = ended }
ended_live h ended try own live =
    ap (λ b. cond b (record try { ended = first_end try.ended ended }) try) (eq-eqb h try.hart.number (sym own))
    ∙ ap (λ e. record try { ended = first_end e ended }) live

ended_other : (h : ℕ) (ended : Ended) (try : Try) → (try.hart.number ≡ h → try.ended ≢ Live) →
    ended_for h ended try ≡ try
ended_other h ended try other = by (h == try.hart.number) refl
  where
    by : (b : Bool) → (h == try.hart.number) ≡ b → cond b (record try { ended = first_end try.ended ended }) try ≡ try
    by true e =
        let own : try.hart.number ≡ h = grind (arith, nat_tests) in
        ap (λ e. record try { ended = e }) (first_end-over try.ended ended (other own))
    by false e = refl

module _ (tries : List Try) (live : List (Option ℕ)) (h : ℕ) (tracks : Tracks tries live) where
  -- no other section of the hart is live
  others_over : (place k : ℕ) → live_at live h ≡ Some place → k < length tries → k ≢ place →
      (try_at tries k).hart.number ≡ h → (try_at tries k).ended ≢ Live
  others_over place k here below other own is =
      let there = tracks.all k below is in
      let same : Some k ≡ Some place = sym there ∙ ap (live_at live) own ∙ here in
      other cc

  pub one_ended : (place : ℕ) (ended : Ended) → live_at live h ≡ Some place →
      set tries place (record (try_at tries place) { ended = ended }) ≡ map (ended_for h ended) tries
  one_ended place ended here =
      let changed = record (try_at tries place) { ended = ended } in
      ext_get_or no_try (set tries place changed) (map (ended_for h ended) tries)
      (length-set tries place changed ∙ sym (length-map tries (ended_for h ended)))
      (λ k below. at k (subst (λ n. k < n) (length-set tries place changed) below))
    where
      at : (k : ℕ) → k < length tries →
          get_or (set tries place (record (try_at tries place) { ended = ended })) k no_try
          ≡ get_or (map (ended_for h ended) tries) k no_try
      at k below =
          elim (equal_or k place) [
            | inl same ↦ get_or-set_at tries place k (record (try_at tries place) { ended = ended }) no_try same
                (tracks.there h place here)
                ∙ sym (ended_live h ended (try_at tries place) (tracks.own h place here) (tracks.lives h place here))
                ∙ ap (λ p. ended_for h ended (try_at tries p)) (sym same)
                ∙ sym (get_or-map (ended_for h ended) tries k no_try no_try below)
            | inr other ↦ get_or-set_other tries place k (record (try_at tries place) { ended = ended }) no_try other
                ∙ sym (ended_other h ended (try_at tries k) (others_over place k here below other))
                ∙ sym (get_or-map (ended_for h ended) tries k no_try no_try below)
          ]

  pub none_ended : (ended : Ended) → live_at live h ≡ None → tries ≡ map (ended_for h ended) tries
  none_ended ended none =
      ext_get_or no_try tries (map (ended_for h ended) tries) (sym (length-map tries (ended_for h ended)))
      (λ k below.
      sym (ended_other h ended (try_at tries k) (λ own is. gone k below own is))
      ∙ sym (get_or-map (ended_for h ended) tries k no_try no_try below))
    where
      gone : (k : ℕ) → k < length tries → (try_at tries k).hart.number ≡ h → (try_at tries k).ended ≡ Live → ⊥
      gone k below own is =
          let there = tracks.all k below is in
          let same : Some k ≡ None = sym there ∙ ap (live_at live) own ∙ none in
          cc

  -- what is noted after one of them has ended
  pub tracks_end : (place : ℕ) (ended : Ended) → live_at live h ≡ Some place → ended ≢ Live → h < length live →
      Tracks (set tries place (record (try_at tries place) { ended = ended })) (set live h None)
  tracks_end place ended here over within = record {
    eight = length-set live h None ∙ tracks.eight;
    few = let few = tracks.few in omega (arith, length-set tries place changed);
    there = λ g p e.
        let old = was g p e in
        subst (λ n. p < n) (sym (length-set tries place changed)) (tracks.there g p old.0);
    own = λ g p e. let old = was g p e in ap (λ t. t.hart.number) (same p old.2) ∙ tracks.own g p old.0;
    lives = λ g p e. let old = was g p e in ap (λ t. t.ended) (same p old.2) ∙ tracks.lives g p old.0;
    all = λ p below is. found p (subst (λ n. p < n) (length-set tries place changed) below) is;
  }
    where
      changed : Try
      changed = record (try_at tries place) { ended = ended }

      same : (p : ℕ) → p ≢ place → try_at (set tries place (record (try_at tries place) { ended = ended })) p
          ≡ try_at tries p
      same p other = get_or-set_other tries place p (record (try_at tries place) { ended = ended }) no_try other

      -- another hart's is as it was
      was : (g p : ℕ) → live_at (set live h None) g ≡ Some p → (live_at live g ≡ Some p) × (g ≢ h) × (p ≢ place)
      was g p e =
          elim (equal_or g h) [
            | inl is ↦
                let none : Some p ≡ None = sym e ∙ get_or-set_at live h g None None is within in
                absurd cc
            | inr other ↦
                let old : live_at live g ≡ Some p = sym (get_or-set_other live h g None None other) ∙ e in (
                  old,
                  other,
                  λ at. other (sym (tracks.own g p old) ∙ ap (λ k. (try_at tries k).hart.number) at
                      ∙ tracks.own h place here),
                )
          ]

      found : (p : ℕ) → p < length tries →
          (try_at (set tries place (record (try_at tries place) { ended = ended })) p).ended ≡ Live →
          live_at (set live h None)
          (try_at (set tries place (record (try_at tries place) { ended = ended })) p).hart.number ≡ Some p
      found p below is =
          elim (equal_or p place) [
            | inl at ↦ absurd (over
                (sym (ap (λ t. t.ended) (get_or-set_at tries place p (record (try_at tries place) { ended = ended })
                no_try at (tracks.there h place here))) ∙ is))
            | inr other ↦
                let live_there : (try_at tries p).ended ≡ Live = sym (ap (λ t. t.ended) (same p other)) ∙ is in
                let apart : (try_at tries p).hart.number ≢ h =
                λ own. others_over place p here below other own live_there in
                ap (λ t. live_at (set live h None) t.hart.number) (same p other)
                ∙ get_or-set_other live h (try_at tries p).hart.number None None apart
                ∙ tracks.all p below live_there
          ]

-- one more section, of a hart of which none is live
pub tracks_push : (tries : List Try) (live : List (Option ℕ)) (begun : Try) → Tracks tries live → begun.ended ≡ Live →
    HasNone begun.hart.number tries → begun.hart.number < length live → length tries < MAX_STEPS →
    Tracks (tries ++ begun ∷ []) (set live begun.hart.number (Some (length tries)))
tracks_push tries live begun tracks lives none within room = record {
  eight = length-set live begun.hart.number (Some (length tries)) ∙ tracks.eight;
  few = omega (arith, longer);
  there = λ g p e. there g p e;
  own = λ g p e. own g p e;
  lives = λ g p e. still g p e;
  all = λ p below is. found p below is;
}
  where
    longer : length (tries ++ begun ∷ []) ≡ length tries + 1
    longer = length_push tries begun

    -- at the hart the new place, and at each other the old one
    cases : (g p : ℕ) → live_at (set live begun.hart.number (Some (length tries))) g ≡ Some p →
        ((g ≡ begun.hart.number) × (p ≡ length tries)) ⊎ (live_at live g ≡ Some p)
    cases g p e =
        elim (equal_or g begun.hart.number) [
          | inl is ↦
              let same : Some p ≡ Some (length tries) =
              sym e ∙ get_or-set_at live begun.hart.number g (Some (length tries)) None is within in
              inl (is, cc)
          | inr other ↦ inr (sym (get_or-set_other live begun.hart.number g (Some (length tries)) None other) ∙ e)
        ]

    new : (p : ℕ) → p ≡ length tries → try_at (tries ++ begun ∷ []) p ≡ begun
    new p at = get_or_push tries begun no_try p (sym at)

    old : (p : ℕ) → p < length tries → try_at (tries ++ begun ∷ []) p ≡ try_at tries p
    old p below = get_or_append_left tries (begun ∷ []) no_try p below

    there : (g p : ℕ) → live_at (set live begun.hart.number (Some (length tries))) g ≡ Some p →
        p < length (tries ++ begun ∷ [])
    there g p e =
        elim (cases g p e) [
          | inl (is, at) ↦ omega (arith, longer)
          | inr was ↦ let below = tracks.there g p was in omega (arith, longer, below)
        ]

    own : (g p : ℕ) → live_at (set live begun.hart.number (Some (length tries))) g ≡ Some p →
        (try_at (tries ++ begun ∷ []) p).hart.number ≡ g
    own g p e =
        elim (cases g p e) [
          | inl (is, at) ↦ ap (λ t. t.hart.number) (new p at) ∙ sym is
          | inr was ↦ ap (λ t. t.hart.number) (old p (tracks.there g p was)) ∙ tracks.own g p was
        ]

    still : (g p : ℕ) → live_at (set live begun.hart.number (Some (length tries))) g ≡ Some p →
        (try_at (tries ++ begun ∷ []) p).ended ≡ Live
    still g p e =
        elim (cases g p e) [
          | inl (is, at) ↦ ap (λ t. t.ended) (new p at) ∙ lives
          | inr was ↦ ap (λ t. t.ended) (old p (tracks.there g p was)) ∙ tracks.lives g p was
        ]

    found : (p : ℕ) → p < length (tries ++ begun ∷ []) → (try_at (tries ++ begun ∷ []) p).ended ≡ Live →
        live_at (set live begun.hart.number (Some (length tries))) (try_at (tries ++ begun ∷ []) p).hart.number ≡ Some p
    found p below is =
        elim (cases_lt p (length tries)) [
          | inl inside ↦
              let live_there : (try_at tries p).ended ≡ Live = sym (ap (λ t. t.ended) (old p inside)) ∙ is in
              let apart : (try_at tries p).hart.number ≢ begun.hart.number =
              λ same. none p no_try inside same live_there in
              ap (λ t. live_at (set live begun.hart.number (Some (length tries))) t.hart.number) (old p inside)
              ∙ get_or-set_other live begun.hart.number (try_at tries p).hart.number (Some (length tries)) None apart
              ∙ tracks.all p inside live_there
          | inr past ↦
              let at : p ≡ length tries = omega (arith, longer) in
              ap (λ t. live_at (set live begun.hart.number (Some (length tries))) t.hart.number) (new p at)
              ∙ get_or-set_at live begun.hart.number begun.hart.number (Some (length tries)) None refl within
              ∙ ap Some (sym at)
        ]
