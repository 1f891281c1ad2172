-- A pass that is split, joined and told what its other half has seen keeps the rule.
use Rattle.std.proofs.Common.{◌≡◌, ◌≢◌, ℕ, zero, suc, ◌+◌, ◌-◌, ◌<◌, ◌≤◌, ◌⊎◌, Bool, true, false, nat_lt, Option, List}
use Rattle.std.proofs.Common.{[], ◌∷◌, ◌++◌, length, take, set, sym, refl, ap, ◌∙◌, subst, inl, inr, ⊎_elim, arith}
use Rattle.std.proofs.Common.{length-append, true≢false}
use Rattle.std.proofs.Math.Seq.{take-append_seam}
use Rattle.std.proofs.lemmas.Bool.Decides.{nat_tests}
use mathlib.Core.List.{IsPrefix}
use mathlib.Core.Logic.{dite}
use mathlib.Core.Option.{none, some, some-injective, some-ne-none}
use native.Mathlib.Decide.{ℕ_discrete}
use lib.ListN.{get_elem?}
use lib.Seq.{set-get_or}
use Rattle.atomic_table.proofs.Lists.{at_longer, at_set, set_else, set_here}
use Rattle.atomic_table.specs.Table.{Allows, Joins, Splits, State, keeps, step}
use Rattle.el_base.specs.declared.entries.Entry.{Entry}
use Rattle.bus_lock.specs.declared.view.View.{View}
use Rattle.bus_lock.specs.Passes.{below, longer}
use Rattle.bus_lock.specs.Rule.{Fits, IsKnown, IsOut, Ticketed, apart, made, total}
use Rattle.bus_lock.specs.Steps.{joined, learned, left_half, right_half, spent}
use Rattle.bus_lock.proofs.Laws.Beginnings.{prefix_self, prefix_shorter, prefix_whole}
use Rattle.bus_lock.proofs.Keeps.{inside, moved, value_stays}
use Rattle.bus_lock.proofs.Shares.{apart_halves, apart_more, apart_swap, apart_whole}
use Rattle.bus_lock.proofs.Sums.{below_one, times_append, total_holds, total_last, total_set}

-- what is in a list with one more at its end
at_end : {A : Type 0} (l : List A) (a b : A) (j : ℕ) → get_elem? (l ++ a ∷ []) j ≡ some b →
    (get_elem? l j ≡ some b) ⊎ ((j ≡ length l) × (a ≡ b))
at_end [] a b zero e = inr (refl, some-injective a b e)
at_end [] a b (suc j) e = absurd (some-ne-none b (sym e))
at_end (x ∷ xs) a b zero e = inl e
at_end (x ∷ xs) a b (suc j) e = ⊎_elim inl (λ (t : (j ≡ length xs) × (a ≡ b)). inr (ap suc t.0, t.1))
    (at_end xs a b j e)

apart_from_more : (left right more : List Bool) → apart left right ≡ true → apart left (right ++ more) ≡ true
apart_from_more left right more a = apart_swap left (right ++ more)
    ∙ apart_more right left more (apart_swap right left ∙ a)

longer_cases : (a b : List Entry) → ((longer a b ≡ b) × (length a ≤ length b))
    ⊎ ((longer a b ≡ a) × (length b ≤ length a))
longer_cases a b = chosen (nat_lt (length a) (length b)) refl where
  chosen : (test : Bool) → nat_lt (length a) (length b) ≡ test →
      ((longer a b ≡ b) × (length a ≤ length b)) ⊎ ((longer a b ≡ a) × (length b ≤ length a))
  chosen true is = inl (grind (arith, nat_tests, is), grind (arith, nat_tests, is))
  chosen false is = inr (grind (arith, nat_tests, is), grind (arith, nat_tests, is))

-- the longer of two beginnings is the whole where one of them is
longer_whole : (a b log : List Entry) → IsPrefix a log → IsPrefix b log → (a ≡ log) ⊎ (b ≡ log) → longer a b ≡ log
longer_whole a b log p q whole = ⊎_elim
    (λ second. ⊎_elim (λ (is : a ≡ log). second.0 ∙ prefix_whole b log q
    (let s = second.1 in let e = ap length is in omega (arith, s, e)))
    (λ (is : b ≡ log). second.0 ∙ is) whole)
    (λ first. ⊎_elim (λ (is : a ≡ log). first.0 ∙ is)
    (λ (is : b ≡ log). first.0 ∙ prefix_whole a log p
    (let s = first.1 in let e = ap length is in omega (arith, s, e))) whole)
    (longer_cases a b)

longer_begins : (a b log : List Entry) → IsPrefix a log → IsPrefix b log → IsPrefix (longer a b) log
longer_begins a b log p q = ⊎_elim (λ t. subst (λ (l : List Entry). IsPrefix l log) (sym t.0) q)
    (λ t. subst (λ (l : List Entry). IsPrefix l log) (sym t.0) p) (longer_cases a b)

left_begins : (a b log : List Entry) → IsPrefix a log → IsPrefix b log → IsPrefix a (longer a b)
left_begins a b log p q = ⊎_elim (λ t. subst (IsPrefix a) (sym t.0) (prefix_shorter a b log p q t.1))
    (λ t. subst (IsPrefix a) (sym t.0) (prefix_self a)) (longer_cases a b)

right_begins : (a b log : List Entry) → IsPrefix a log → IsPrefix b log → IsPrefix b (longer a b)
right_begins a b log p q = ⊎_elim (λ t. subst (IsPrefix b) (sym t.0) (prefix_self b))
    (λ t. subst (IsPrefix b) (sym t.0) (prefix_shorter b a log q p t.1)) (longer_cases a b)

-- who knows the whole history with nothing beside, has seen it
pub seen_alone : (seen beside log : List Entry) → beside ≡ [] → IsPrefix seen log → (seen ≡ log) ⊎ (beside ≡ log) →
    seen ≡ log
seen_alone seen beside log nothing p whole = ⊎_elim (λ is. is)
    (λ (is : beside ≡ log). prefix_whole seen log p (let e = ap length (sym is ∙ nothing) in omega (arith, e))) whole

module _ {M : Type 0} (entries : M → List Entry) (opening : M → List ℕ) (begins : List ℕ) (begun : ℕ) where
  abbrev Rule : State (Option M) View → Type 0
  Rule = Ticketed entries opening begins begun

  pub learns : (slots id : ℕ) (v : View) (c : List (ℕ × Option M)) → v.turn ≡ false → v.live ≡ true →
      Allows Rule slots id (v, c) 2 (λ n. n) (learned (step slots 2 0 0 none) (v, c))
  learns slots id v c idle live s r long at small = let f = r.fits id v at in
      let w : View = record v { seen = longer v.seen v.beside; beside = [] } in (
        w,
        keeps,
        tt,
        subst (λ (ws : List ℕ). Rule record { words = ws; homes = s.homes; views = set s.views id w })
            (sym (set-get_or s.words 2 0))
            (moved entries opening begins begun s r id v w at r.log r.next r.serving record {
              goes_on = prefix_self r.log;
              drawn = omega arith;
              behind = r.behind;
              served = inl (refl, refl);
              fits = record {
                opening = f.opening;
                seen = longer_begins v.seen v.beside r.log f.seen f.beside;
                beside = (r.log, refl);
                waits = f.waits;
                turn = λ turn. absurd (true≢false (sym turn ∙ idle));
                spent = f.spent;
              };
              ticket = λ _. inl refl;
              live = refl;
              share = refl;
              knows = inr (refl, λ k. inl (longer_whole v.seen v.beside r.log f.seen f.beside k));
              placed = λ place. refl;
            }
            s.words s.homes r.words (value_stays entries opening begins begun s r id v w at refl)),
        record {
          view = refl;
          holds = refl;
          seen = left_begins v.seen v.beside r.log f.seen f.beside;
          beside = right_begins v.seen v.beside r.log f.seen f.beside;
          distinct = λ place. let a = total_holds (made place) s.views id v at in let b = r.placed place in
              let one = below_one place (length r.log) in omega (arith, a, b, one);
        },
      )

  -- a split
  module _ (s : State (Option M) View) (r : Rule s) (id : ℕ) (v : View) (at : get_elem? s.views id ≡ some v)
      (idle : v.turn ≡ false)
      (rests : v.ticket ≡ 0) where
    abbrev old : List View
    old = set s.views id (left_half v)

    abbrev parted : List View
    parted = old ++ right_half v ∷ []

    abbrev Part : ℕ → View → Type 0
    Part j u = ((j ≢ id) × (get_elem? s.views j ≡ some u))
        ⊎ (((j ≡ id) × (left_half v ≡ u)) ⊎ ((j ≡ length old) × (right_half v ≡ u)))

    part : (j : ℕ) (u : View) → get_elem? parted j ≡ some u → Part j u
    part j u there = ⊎_elim
        (λ (before : get_elem? old j ≡ some u). ⊎_elim (λ (here : (j ≡ id) × (left_half v ≡ u)). inr (inl here))
        (λ other. inl other) (at_set s.views id j (left_half v) u before))
        (λ last. inr (inr last)) (at_end old (right_half v) u j there)

    part_fits : (j : ℕ) (u : View) → get_elem? parted j ≡ some u → Fits begins r.log r.next r.serving u
    part_fits j u there = let f = r.fits id v at in ⊎_elim (λ other. r.fits j u other.1)
        (λ half. ⊎_elim
        (λ here. subst (Fits begins r.log r.next r.serving) here.1 record {
          opening = f.opening;
          seen = f.seen;
          beside = f.beside;
          waits = f.waits;
          turn = f.turn;
          spent = f.spent;
        })
        (λ last. subst (Fits begins r.log r.next r.serving) last.1 record {
          opening = f.opening;
          seen = f.seen;
          beside = f.beside;
          waits = f.waits;
          turn = f.turn;
          spent = λ _. refl;
        })
        half)
        (part j u there)

    -- who waits did so before
    part_waits : (j : ℕ) (u : View) → get_elem? parted j ≡ some u → 0 < u.ticket → get_elem? s.views j ≡ some u
    part_waits j u there waits = ⊎_elim (λ other. other.1)
        (λ half. ⊎_elim
        (λ here. let e = ap (λ (z : View). z.ticket) here.1 in absurd (let z = waits in omega (arith, z, e, rests)))
        (λ last. let e = ap (λ (z : View). z.ticket) last.1 in absurd (let z = waits in omega (arith, z, e, rests)))
        half)
        (part j u there)

    abbrev Apart : View → View → Type 0
    Apart a b = apart a.share b.share ≡ true

    apart_back : (a b : View) → Apart a b → Apart b a
    apart_back a b p = apart_swap b.share a.share ∙ p

    live_of : (a b : View) → a ≡ b → b.live ≡ true → a.live ≡ true
    live_of a b e live = ap (λ (z : View). z.live) e ∙ live

    -- a half and a seat that was there before
    half_apart : (half : View) (more : List Bool) → half.share ≡ v.share ++ more → half.live ≡ v.live →
        (j : ℕ) (u : View) → j ≢ id →
        get_elem? s.views j ≡ some u → half.live ≡ true → u.live ≡ true → Apart half u
    half_apart half more share alive j u other there live live_u =
        subst (λ (z : List Bool). apart z u.share ≡ true) (sym share)
        (apart_more v.share u.share more (r.shares id j v u at there (λ e. other (sym e)) (sym alive ∙ live) live_u))

    part_shares : (i j : ℕ) (a b : View) → get_elem? parted i ≡ some a → get_elem? parted j ≡ some b → i ≢ j →
        a.live ≡ true → b.live ≡ true → Apart a b
    part_shares i j a b at_i at_j other live_a live_b =
        let l : View = left_half v in let g : View = right_half v in
        let left_old : (k : ℕ) (u : View) → k ≢ id → get_elem? s.views k ≡ some u → v.live ≡ true → u.live ≡ true →
        Apart l u =
        half_apart l (false ∷ []) refl refl in
        let right_old : (k : ℕ) (u : View) → k ≢ id → get_elem? s.views k ≡ some u → v.live ≡ true → u.live ≡ true →
        Apart g u =
        half_apart g (true ∷ []) refl refl in
        let both : Apart l g = apart_halves v.share in
        ⊎_elim
        (λ old_a. ⊎_elim (λ old_b. r.shares i j a b old_a.1 old_b.1 other live_a live_b)
        (λ half. ⊎_elim
        (λ left. subst (Apart a) left.1 (apart_back l a
        (left_old i a old_a.0 old_a.1 (live_of l b left.1 live_b) live_a)))
        (λ right. subst (Apart a) right.1 (apart_back g a
        (right_old i a old_a.0 old_a.1 (live_of g b right.1 live_b) live_a)))
        half)
        (part j b at_j))
        (λ half_a. ⊎_elim
        (λ left_a. subst (λ (z : View). Apart z b) left_a.1 (⊎_elim
        (λ old_b. left_old j b old_b.0 old_b.1 (live_of l a left_a.1 live_a) live_b)
        (λ half_b. ⊎_elim (λ left_b. absurd (other (left_a.0 ∙ sym left_b.0)))
        (λ right_b. subst (Apart l) right_b.1 both) half_b)
        (part j b at_j)))
        (λ right_a. subst (λ (z : View). Apart z b) right_a.1 (⊎_elim
        (λ old_b. right_old j b old_b.0 old_b.1 (live_of g a right_a.1 live_a) live_b)
        (λ half_b. ⊎_elim (λ left_b. subst (Apart g) left_b.1 (apart_back l g both))
        (λ right_b. absurd (other (right_a.0 ∙ sym right_b.0))) half_b)
        (part j b at_j)))
        half_a)
        (part i a at_i)

    part_known : IsKnown r.log parted
    part_known = let k = r.known in dite (ℕ_discrete k.0 id)
        (λ is. let e : k.1 ≡ v = some-injective k.1 v (sym k.2 ∙ (ap (get_elem? s.views) is ∙ at)) in (
          id,
          left_half v,
          at_longer old (right_half v ∷ []) id (left_half v)
              (set_here s.views id (left_half v) (inside s.views id v at)),
          ap (λ (z : View). z.live) (sym e) ∙ k.3,
          subst (λ (z : View). (z.seen ≡ r.log) ⊎ (z.beside ≡ r.log)) e k.4,
        ))
        (λ other. (
          k.0,
          k.1,
          at_longer old (right_half v ∷ []) k.0 k.1
              (set_else s.views id k.0 (left_half v) other ∙ k.2),
          k.3,
          k.4,
        ))

    part_placed : (place : ℕ) → total (made place) parted + below place begun ≡ below place (length r.log)
    part_placed place =
        let last = total_last (made place) old (right_half v) in
        let sum = total_set (made place) s.views id v (left_half v) at in
        let was = r.placed place in omega (arith, last, sum, was)

    part_out : IsOut s.views → IsOut parted
    part_out out = let other : out.0 ≢ id = λ is.
        let e : out.1 ≡ v = some-injective out.1 v (sym out.2 ∙ (ap (get_elem? s.views) is ∙ at)) in
        true≢false (sym out.3 ∙ (ap (λ (z : View). z.turn) e ∙ idle)) in (
          out.0,
          out.1,
          at_longer old (right_half v ∷ []) out.0 out.1
              (set_else s.views id out.0 (left_half v) other ∙ out.2),
          out.3,
        )

    parts : Rule record { words = s.words; homes = s.homes; views = parted }
    parts = record {
      log = r.log;
      next = r.next;
      serving = r.serving;
      words = r.words;
      behind = r.behind;
      fits = part_fits;
      tickets = λ i j a b at_i at_j waits same. r.tickets i j a b (part_waits i a at_i waits)
          (part_waits j b at_j (let z = waits in let e = same in omega (arith, z, e))) waits same;
      shares = part_shares;
      known = part_known;
      placed = part_placed;
      value = ⊎_elim inl (λ out. inr (part_out out)) r.value;
    }

  pub splits : (id : ℕ) (v : View) → v.turn ≡ false → v.ticket ≡ 0 → Splits Rule id v (left_half v) (right_half v)
  splits id v idle rests s r at = parts s r id v at idle rests

  -- a join
  module _ (s : State (Option M) View) (r : Rule s) (id other : ℕ) (v w : View) (at : get_elem? s.views id ≡ some v)
      (there : get_elem? s.views other ≡ some w) (two : other ≢ id) (share : List Bool)
      (left : v.share ≡ share ++ false ∷ []) (right : w.share ≡ share ++ true ∷ []) (live : v.live ≡ true)
      (alive : w.live ≡ true) (rests : v.ticket ≡ 0) (idle : v.turn ≡ false)
      (away : w.turn ≡ false) (alone : v.beside ≡ []) (lonely : w.beside ≡ []) where
    abbrev both : View
    both = joined v w

    abbrev first : List View
    first = set s.views id both

    abbrev united : List View
    united = set first other spent

    whole_share : both.share ≡ share
    whole_share = ap (λ (z : List Bool). take (length z - 1) z) left
        ∙ (ap (λ (n : ℕ). take n (share ++ false ∷ [])) (let e = length-append share (false ∷ []) in omega (arith, e))
        ∙ take-append_seam share (false ∷ []))

    abbrev Unit' : ℕ → View → Type 0
    Unit' j u = ((j ≢ id) × (j ≢ other) × (get_elem? s.views j ≡ some u)) ⊎ (((j ≡ id) × (both ≡ u)) ⊎ (spent ≡ u))

    one : (j : ℕ) (u : View) → get_elem? united j ≡ some u → Unit' j u
    one j u found = ⊎_elim (λ (here : (j ≡ other) × (spent ≡ u)). inr (inr here.1))
        (λ (more : (j ≢ other) × (get_elem? first j ≡ some u)).
        ⊎_elim (λ (here : (j ≡ id) × (both ≡ u)). inr (inl here))
        (λ (before : (j ≢ id) × (get_elem? s.views j ≡ some u)). inl (before.0, more.0, before.1))
        (at_set s.views id j both u more.1))
        (at_set first other j spent u found)

    -- who lives or waits after the join is the joined pass, or was there before
    lives : (j : ℕ) (u : View) → get_elem? united j ≡ some u → u.live ≡ true →
        ((j ≢ id) × (j ≢ other) × (get_elem? s.views j ≡ some u)) ⊎ ((j ≡ id) × (both ≡ u))
    lives j u found living = ⊎_elim inl (λ t. ⊎_elim inr
        (λ (dead : spent ≡ u). absurd (true≢false (sym living ∙ ap (λ (z : View). z.live) (sym dead)))) t)
        (one j u found)

    waiting_before : (j : ℕ) (u : View) → get_elem? united j ≡ some u → 0 < u.ticket → get_elem? s.views j ≡ some u
    waiting_before j u found waits = ⊎_elim (λ old. old.2)
        (λ t. ⊎_elim
        (λ here. let e = ap (λ (z : View). z.ticket) here.1 in absurd (let z = waits in omega (arith, z, e, rests)))
        (λ dead. let e = ap (λ (z : View). z.ticket) dead in absurd (let z = waits in omega (arith, z, e)))
        t)
        (one j u found)

    joined_fits : (j : ℕ) (u : View) → get_elem? united j ≡ some u → Fits begins r.log r.next r.serving u
    joined_fits j u found = let f = r.fits id v at in let h = r.fits other w there in ⊎_elim (λ old. r.fits j u old.2)
        (λ t. ⊎_elim
        (λ here. subst (Fits begins r.log r.next r.serving) here.1 record {
          opening = f.opening;
          seen = f.seen;
          beside = h.seen;
          waits = f.waits;
          turn = f.turn;
          spent = λ dead. absurd (true≢false (sym live ∙ dead));
        })
        (λ dead. subst (Fits begins r.log r.next r.serving) dead record {
          opening = λ no. absurd (true≢false (sym no));
          seen = (r.log, refl);
          beside = (r.log, refl);
          waits = λ no. absurd (omega arith);
          turn = λ no. absurd (true≢false (sym no));
          spent = λ _. refl;
        })
        t)
        (one j u found)

    both_apart : (j : ℕ) (u : View) → j ≢ id → j ≢ other → get_elem? s.views j ≡ some u → u.live ≡ true →
        apart both.share u.share ≡ true
    both_apart j u first second found living = subst (λ (z : List Bool). apart z u.share ≡ true) (sym whole_share)
        (apart_whole share u.share
        (subst (λ (z : List Bool). apart z u.share ≡ true) left
        (r.shares id j v u at found (λ e. first (sym e)) live living))
        (subst (λ (z : List Bool). apart z u.share ≡ true) right
        (r.shares other j w u there found (λ e. second (sym e)) alive living)))

    joined_shares : (i j : ℕ) (a b : View) → get_elem? united i ≡ some a → get_elem? united j ≡ some b → i ≢ j →
        a.live ≡ true → b.live ≡ true →
        apart a.share b.share ≡ true
    joined_shares i j a b at_i at_j differ live_a live_b = ⊎_elim
        (λ old_a. ⊎_elim (λ old_b. r.shares i j a b old_a.2 old_b.2 differ live_a live_b)
        (λ here. subst (λ (z : View). apart a.share z.share ≡ true) here.1
        (apart_swap a.share both.share ∙ both_apart i a old_a.0 old_a.1 old_a.2 live_a))
        (lives j b at_j live_b))
        (λ here. ⊎_elim (λ old_b. subst (λ (z : View). apart z.share b.share ≡ true) here.1
        (both_apart j b old_b.0 old_b.1 old_b.2 live_b))
        (λ too. absurd (differ (here.0 ∙ sym too.0)))
        (lives j b at_j live_b))
        (lives i a at_i live_a)

    stays : (j : ℕ) (u : View) → j ≢ id → j ≢ other → get_elem? s.views j ≡ some u → get_elem? united j ≡ some u
    stays j u one two found = set_else first other j spent two ∙ (set_else s.views id j both one ∙ found)

    both_at : get_elem? united id ≡ some both
    both_at = set_else first other id spent (λ e. two (sym e)) ∙ set_here s.views id both (inside s.views id v at)

    joined_known : IsKnown r.log united
    joined_known = let k = r.known in let f = r.fits id v at in let h = r.fits other w there in dite (ℕ_discrete k.0 id)
        (λ is. let e : k.1 ≡ v = some-injective k.1 v (sym k.2 ∙ (ap (get_elem? s.views) is ∙ at)) in (
          id,
          both,
          both_at,
          live,
          inl (seen_alone v.seen v.beside r.log alone f.seen
              (subst (λ (z : View). (z.seen ≡ r.log) ⊎ (z.beside ≡ r.log)) e k.4)),
        ))
        (λ one. dite (ℕ_discrete k.0 other)
        (λ is. let e : k.1 ≡ w = some-injective k.1 w (sym k.2 ∙ (ap (get_elem? s.views) is ∙ there)) in (
          id,
          both,
          both_at,
          live,
          inr (seen_alone w.seen w.beside r.log lonely h.seen
              (subst (λ (z : View). (z.seen ≡ r.log) ⊎ (z.beside ≡ r.log)) e k.4)),
        ))
        (λ two. (k.0, k.1, stays k.0 k.1 one two k.2, k.3, k.4)))

    joined_placed : (place : ℕ) → total (made place) united + below place begun ≡ below place (length r.log)
    joined_placed place =
        let a = total_set (made place) s.views id v both at in
        let b = total_set (made place) first other w spent (set_else s.views id other both two ∙ there) in
        let c = times_append place v.places w.places in let was = r.placed place in omega (arith, a, b, c, was)

    joined_out : IsOut s.views → IsOut united
    joined_out out =
        let one : out.0 ≢ id = λ is. let e : out.1 ≡ v =
        some-injective out.1 v (sym out.2 ∙ (ap (get_elem? s.views) is ∙ at)) in
        true≢false (sym out.3 ∙ (ap (λ (z : View). z.turn) e ∙ idle)) in
        let more : out.0 ≢ other = λ is. let e : out.1 ≡ w =
        some-injective out.1 w (sym out.2 ∙ (ap (get_elem? s.views) is ∙ there)) in
        true≢false (sym out.3 ∙ (ap (λ (z : View). z.turn) e ∙ away)) in
        (out.0, out.1, stays out.0 out.1 one more out.2, out.3)

    unites : Rule record { words = s.words; homes = s.homes; views = united }
    unites = record {
      log = r.log;
      next = r.next;
      serving = r.serving;
      words = r.words;
      behind = r.behind;
      fits = joined_fits;
      tickets = λ i j a b at_i at_j waits same. r.tickets i j a b (waiting_before i a at_i waits)
          (waiting_before j b at_j (let z = waits in let e = same in omega (arith, z, e))) waits same;
      shares = joined_shares;
      known = joined_known;
      placed = joined_placed;
      value = ⊎_elim inl (λ out. inr (joined_out out)) r.value;
    }

  pub joins : (id other : ℕ) (v w : View) (share : List Bool) → v.share ≡ share ++ false ∷ [] →
      w.share ≡ share ++ true ∷ [] →
      v.live ≡ true → w.live ≡ true → v.ticket ≡ 0 → v.turn ≡ false → w.turn ≡ false → v.beside ≡ [] → w.beside ≡ [] →
      Joins Rule id v other w (joined v w) spent
  joins id other v w share left right live alive rests idle away alone lonely s r at two there =
      unites s r id other v w at (sym (set_else s.views id other (joined v w) two) ∙ there)
      two share left right live alive rests idle away alone lonely
