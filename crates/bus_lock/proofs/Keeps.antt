-- Each step of the lock keeps its rule.
use Rattle.std.proofs.Common.{◌≡◌, ◌≢◌, ℕ, zero, suc, ◌+◌, ◌==◌, ◌<◌, ◌≤◌, ◌⊎◌, Bool, true, false, Option, Some, List}
use Rattle.std.proofs.Common.{[], ◌∷◌, ◌++◌, length, get_or, set, sym, refl, ap, ◌∙◌, subst, inl, inr, ⊎_elim, arith}
use Rattle.std.proofs.Common.{length-append, true≢false}
use Rattle.std.proofs.lemmas.Option.{same_Some}
use mathlib.Core.List.{IsPrefix}
use mathlib.Core.Logic.{dite}
use mathlib.Core.Option.{none, some, some-injective, some-ne-none}
use mathlib.Core.Option as maybe
use native.Mathlib.Decide.{ℕ_discrete}
use lib.ListN.{get_elem?}
use lib.Seq.{set-get_or}
use prog.Atomic.{either}
use Rattle.atomic_table.proofs.Lists.{at_set, exchanged, set_again, set_else, set_here}
use Rattle.atomic_table.specs.Table.{Allows, Me, State, gives, keeps, step, stepped, takes}
use Rattle.el_base.specs.declared.entries.Entry.{Entry}
use Rattle.bus_lock.specs.declared.view.View.{View}
use Rattle.bus_lock.specs.Passes.{below}
use Rattle.bus_lock.specs.Rule.{Fits, IsHome, IsKnown, IsOut, Ticketed, apart, made, total}
use Rattle.bus_lock.specs.Steps.{drawn, looked, noted, opened}
use Rattle.bus_lock.proofs.Laws.Beginnings.{prefix_onward, prefix_self}
use Rattle.bus_lock.proofs.Sums.{below_one_more, times_append, total_set}

pub inside : {A : Type 0} (l : List A) (i : ℕ) (a : A) → get_elem? l i ≡ some a → i < length l
inside [] i a at = absurd (some-ne-none a (sym at))
inside (x ∷ xs) zero a at = omega arith
inside (x ∷ xs) (suc i) a at = let rest = inside xs i a at in omega (arith, rest)

module _ {M : Type 0} (entries : M → List Entry) (opening : M → List ℕ) (begins : List ℕ) (begun : ℕ) where
  abbrev pub Rule : State (Option M) View → Type 0
  Rule = Ticketed entries opening begins begun

  abbrev pub Homes : Type 0
  Homes = List (maybe.Option (Option M))

  -- where one seat has stepped: the tickets, the history and the seat's view go on
  pub record Goes (log log' : List Entry) (next next' serving serving' : ℕ) (v w : View) : Type 0 where
    pub goes_on : IsPrefix log log'
    pub drawn : next ≤ next'
    pub behind : serving' ≤ next'
    -- only the pass that is served ends a turn or adds to the history
    pub served : ((serving' ≡ serving) × (log' ≡ log)) ⊎ ((v.ticket ≡ serving + 1) × (serving' ≤ serving + 1))
    pub fits : Fits begins log' next' serving' w
    pub ticket : 0 < w.ticket → (w.ticket ≡ v.ticket) ⊎ (next < w.ticket)
    pub live : w.live ≡ v.live
    pub share : w.share ≡ v.share
    pub knows : ((w.live ≡ true) × (w.seen ≡ log'))
        ⊎ ((log' ≡ log) × ((v.seen ≡ log) ⊎ (v.beside ≡ log) → (w.seen ≡ log) ⊎ (w.beside ≡ log)))
    pub placed : (place : ℕ) → made place w + below place (length log) ≡ made place v + below place (length log')

  module _ (s : State (Option M) View) (r : Rule s) (id : ℕ) (v w : View) (at : get_elem? s.views id ≡ some v)
      (log' : List Entry) (next' serving' : ℕ) (g : Goes r.log log' r.next next' r.serving serving' v w) where
    -- the ticket of another seat is not the one that steps
    others_wait : (j : ℕ) (u : View) → j ≢ id → get_elem? s.views j ≡ some u → 0 < u.ticket → u.ticket ≢ v.ticket
    others_wait j u other there waits same = other (r.tickets j id u v there at waits same)

    others_fit : (j : ℕ) (u : View) → j ≢ id → get_elem? s.views j ≡ some u → Fits begins log' next' serving' u
    others_fit j u other there =
        let f = r.fits j u there in let more = g.drawn in record {
          opening = f.opening;
          seen = prefix_onward u.seen r.log log' f.seen g.goes_on;
          beside = prefix_onward u.beside r.log log' f.beside g.goes_on;
          waits = λ waits. let h = f.waits waits in ⊎_elim
              (λ same. let e = same.0 in (omega (arith, h.0, e), omega (arith, h.1, more)))
              (λ ours. let a = ours.0 in let b = ours.1 in
              let apart : u.ticket ≢ v.ticket = others_wait j u other there waits in
              (omega (arith, h.0, a, b, apart), omega (arith, h.1, more)))
              g.served;
          turn = λ turn. let t = f.turn turn in ⊎_elim
              (λ same. (t.0, t.1 ∙ ap (λ (n : ℕ). n + 1) (sym same.0), t.2 ∙ sym same.1))
              (λ ours. absurd (others_wait j u other there (let e = t.1 in omega (arith, e)) (t.1 ∙ sym ours.0)))
              g.served;
          spent = f.spent;
        }

    fit : (j : ℕ) (u : View) → get_elem? (set s.views id w) j ≡ some u → Fits begins log' next' serving' u
    fit j u there = ⊎_elim (λ (here : (j ≡ id) × (w ≡ u)). subst (Fits begins log' next' serving') here.1 g.fits)
        (λ (other : (j ≢ id) × (get_elem? s.views j ≡ some u)). others_fit j u other.0 other.1)
        (at_set s.views id j w u there)

    -- the seat's new ticket is no other seat's
    own_ticket : (j : ℕ) (u : View) → j ≢ id → get_elem? s.views j ≡ some u → 0 < w.ticket → w.ticket ≢ u.ticket
    own_ticket j u other there waits same = ⊎_elim
        (λ kept. others_wait j u other there (let z = waits in omega (arith, z, same)) (sym same ∙ kept))
        (λ fresh. let h = (r.fits j u there).waits (let z = waits in omega (arith, z, same)) in let e = h.1 in
        omega (arith, e, fresh, same))
        (g.ticket waits)

    tickets : (i j : ℕ) (a b : View) → get_elem? (set s.views id w) i ≡ some a →
        get_elem? (set s.views id w) j ≡ some b → 0 < a.ticket →
        a.ticket ≡ b.ticket → i ≡ j
    tickets i j a b at_i at_j waits same = ⊎_elim
        (λ (here : (i ≡ id) × (w ≡ a)). ⊎_elim
        (λ (too : (j ≡ id) × (w ≡ b)). here.0 ∙ sym too.0)
        (λ (other : (j ≢ id) × (get_elem? s.views j ≡ some b)). let e = ap (λ (z : View). z.ticket) here.1 in
        absurd (own_ticket j b other.0 other.1 (let z = waits in omega (arith, z, e)) (e ∙ same)))
        (at_set s.views id j w b at_j))
        (λ (other : (i ≢ id) × (get_elem? s.views i ≡ some a)). ⊎_elim
        (λ (too : (j ≡ id) × (w ≡ b)). let e = ap (λ (z : View). z.ticket) too.1 in
        absurd (own_ticket i a other.0 other.1 (let z = waits in omega (arith, z, e, same)) (e ∙ sym same)))
        (λ (more : (j ≢ id) × (get_elem? s.views j ≡ some b)). r.tickets i j a b other.1 more.1 waits same)
        (at_set s.views id j w b at_j))
        (at_set s.views id i w a at_i)

    -- the share and the life of each seat are as they were
    before : (j : ℕ) (u : View) → get_elem? (set s.views id w) j ≡ some u →
        (x : View) × (get_elem? s.views j ≡ some x) × (x.live ≡ u.live) × (x.share ≡ u.share)
    before j u there = ⊎_elim
        (λ (here : (j ≡ id) × (w ≡ u)). (
          v,
          ap (get_elem? s.views) here.0 ∙ at,
          sym g.live ∙ ap (λ (z : View). z.live) here.1,
          sym g.share ∙ ap (λ (z : View). z.share) here.1,
        ))
        (λ (other : (j ≢ id) × (get_elem? s.views j ≡ some u)). (u, other.1, refl, refl))
        (at_set s.views id j w u there)

    shares : (i j : ℕ) (a b : View) → get_elem? (set s.views id w) i ≡ some a →
        get_elem? (set s.views id w) j ≡ some b → i ≢ j →
        a.live ≡ true → b.live ≡ true → apart a.share b.share ≡ true
    shares i j a b at_i at_j other live_a live_b =
        let x = before i a at_i in let y = before j b at_j in
        subst (λ (z : List Bool). apart z b.share ≡ true) x.3
        (subst (λ (z : List Bool). apart x.0.share z ≡ true) y.3
        (r.shares i j x.0 y.0 x.1 y.1 other (x.2 ∙ live_a) (y.2 ∙ live_b)))

    known : IsKnown log' (set s.views id w)
    known = ⊎_elim
        (λ knows. (id, w, set_here s.views id w (inside s.views id v at), knows.0, inl knows.1))
        (λ same. let k = r.known in
        let now : (u : View) → (u.seen ≡ r.log) ⊎ (u.beside ≡ r.log) → (u.seen ≡ log') ⊎ (u.beside ≡ log') =
        λ u. subst (λ (l : List Entry). (u.seen ≡ r.log) ⊎ (u.beside ≡ r.log) → (u.seen ≡ l) ⊎ (u.beside ≡ l))
        (sym same.0) (λ x. x) in
        dite (ℕ_discrete k.0 id)
        (λ is. let e : k.1 ≡ v = some-injective k.1 v (sym k.2 ∙ (ap (get_elem? s.views) is ∙ at)) in (
          id,
          w,
          set_here s.views id w (inside s.views id v at),
          g.live ∙ (ap (λ (z : View). z.live) (sym e) ∙ k.3),
          now w (same.1 (subst (λ (z : View). (z.seen ≡ r.log) ⊎ (z.beside ≡ r.log)) e k.4)),
        ))
        (λ other. (k.0, k.1, set_else s.views id k.0 w other ∙ k.2, k.3, now k.1 k.4)))
        g.knows

    placed : (place : ℕ) → total (made place) (set s.views id w) + below place begun ≡ below place (length log')
    placed place =
        let sum = total_set (made place) s.views id v w at in let was = r.placed place in let p = g.placed place in
        omega (arith, sum, was, p)

    -- one seat has stepped
    pub moved : (words : List ℕ) (homes : Homes) → words ≡ next' ∷ serving' ∷ length log' ∷ [] →
        IsHome entries opening begins log' homes ⊎ IsOut (set s.views id w) →
        Rule record { words = words; homes = homes; views = set s.views id w }
    moved words homes is value = record {
      log = log';
      next = next';
      serving = serving';
      words = is;
      behind = g.behind;
      fits = fit;
      tickets = tickets;
      shares = shares;
      known = known;
      placed = placed;
      value = value;
    }

  -- a step that changes nothing
  pub unmoved : (s : State (Option M) View) (r : Rule s) (id : ℕ) (v : View) (at : get_elem? s.views id ≡ some v)
      (c : List (ℕ × Option M)) (i : ℕ) →
      Rule (stepped s i (get_or s.words i 0) id c v keeps)
  unmoved s r id v at c i =
      subst (λ (ws : List ℕ). Rule record { words = ws; homes = s.homes; views = set s.views id v })
      (sym (set-get_or s.words i 0))
      (subst (λ (vs : List View). Rule record { words = s.words; homes = s.homes; views = vs })
      (sym (set_again s.views id v at)) r)

  -- where the value was out, it still is
  out_stays : (views : List View) (id : ℕ) (v w : View) → get_elem? views id ≡ some v → w.turn ≡ v.turn →
      IsOut views → IsOut (set views id w)
  out_stays views id v w at turn out = dite (ℕ_discrete out.0 id)
      (λ is. let e : out.1 ≡ v = some-injective out.1 v (sym out.2 ∙ (ap (get_elem? views) is ∙ at)) in
      (id, w, set_here views id w (inside views id v at), turn ∙ (ap (λ (z : View). z.turn) (sym e) ∙ out.3)))
      (λ other. (out.0, out.1, set_else views id out.0 w other ∙ out.2, out.3))

  pub value_stays : (s : State (Option M) View) (r : Rule s) (id : ℕ) (v w : View) → get_elem? s.views id ≡ some v →
      w.turn ≡ v.turn →
      IsHome entries opening begins r.log s.homes ⊎ IsOut (set s.views id w)
  value_stays s r id v w at turn = ⊎_elim inl (λ out. inr (out_stays s.views id v w at turn out)) r.value

  word0 : (s : State (Option M) View) (r : Rule s) → get_or s.words 0 0 ≡ r.next
  word0 s r = ap (λ (l : List ℕ). get_or l 0 0) r.words

  word1 : (s : State (Option M) View) (r : Rule s) → get_or s.words 1 0 ≡ r.serving
  word1 s r = ap (λ (l : List ℕ). get_or l 1 0) r.words

  word2 : (s : State (Option M) View) (r : Rule s) → get_or s.words 2 0 ≡ length r.log
  word2 s r = ap (λ (l : List ℕ). get_or l 2 0) r.words

  pub draws : (slots id : ℕ) (v : View) (c : List (ℕ × Option M)) (next new : ℕ) → new ≡ next + 1 → v.turn ≡ false →
      Allows Rule slots id (v, c) 0 (λ n. either (n == next) new n) (drawn (step slots 0 next new none) (v, c))
  draws slots id v c next new one_more idle s r long at small = let n : ℕ = get_or s.words 0 0 in
      let is : n ≡ r.next = word0 s r in
      let w : View = record v { ticket = n + 1 } in let f = r.fits id v at in
      dite (ℕ_discrete n next)
      (λ hit. (
        w,
        keeps,
        tt,
        exchanged n next new (λ m. Rule (stepped s 0 m id c w keeps))
            (λ _. moved s r id v w at r.log (r.next + 1) r.serving record {
              goes_on = prefix_self r.log;
              drawn = omega arith;
              behind = let b = r.behind in omega (arith, b);
              served = inl (refl, refl);
              fits = record {
                opening = f.opening;
                seen = f.seen;
                beside = f.beside;
                waits = λ _. let b = r.behind in (omega (arith, b, is), omega (arith, is));
                turn = λ turn. absurd (true≢false (sym turn ∙ idle));
                spent = f.spent;
              };
              ticket = λ _. inr (omega (arith, is));
              live = refl;
              share = refl;
              knows = inr (refl, λ k. k);
              placed = λ place. refl;
            }
            (set s.words 0 new) s.homes (ap (λ (l : List ℕ). set l 0 new) r.words
            ∙ ap (λ (m : ℕ). m ∷ r.serving ∷ length r.log ∷ []) (one_more ∙ ap (λ (m : ℕ). m + 1) (sym hit ∙ is)))
            (value_stays s r id v w at refl))
            (λ miss. absurd (miss hit)),
        (λ _. refl, λ miss. absurd (miss hit)),
      ))
      (λ miss. (
        v,
        keeps,
        tt,
        exchanged n next new (λ m. Rule (stepped s 0 m id c v keeps)) (λ hit. absurd (miss hit))
            (λ _. unmoved s r id v at c 0),
        (λ hit. absurd (miss hit), λ _. refl),
      ))

  -- whose ticket is served, and who has not its turn yet, finds the value in the lock
  home_of : (s : State (Option M) View) (r : Rule s) (id : ℕ) (v : View) → get_elem? s.views id ≡ some v →
      v.turn ≡ false →
      v.ticket ≡ r.serving + 1 → IsHome entries opening begins r.log s.homes
  home_of s r id v at idle served = ⊎_elim (λ home. home)
      (λ out. let t = (r.fits out.0 out.1 out.2).turn out.3 in
      let is : out.0 ≡ id = r.tickets out.0 id out.1 v out.2 at (let e = t.1 in omega (arith, e)) (t.1 ∙ sym served) in
      let e : out.1 ≡ v = some-injective out.1 v (sym out.2 ∙ (ap (get_elem? s.views) is ∙ at)) in
      absurd (true≢false (sym out.3 ∙ (ap (λ (z : View). z.turn) e ∙ idle))))
      r.value

  takes_turn : (s : State (Option M) View) (r : Rule s) (id : ℕ) (v : View) (c : List (ℕ × Option M)) →
      get_elem? s.views id ≡ some v → v.live ≡ true →
      v.ticket ≡ r.serving + 1 → (h : IsHome entries opening begins r.log s.homes) →
      Rule (stepped s 1 (get_or s.words 1 0) id c (record v { turn = true; seen = entries h.0 }) (takes 0 (Some h.0)))
  takes_turn s r id v c at live served h =
      let w : View = record v { turn = true; seen = entries h.0 } in let f = r.fits id v at in
      let log : entries h.0 ≡ r.log = h.2 in
      subst (λ (ws : List ℕ). Rule record { words = ws; homes = set s.homes 0 maybe.none; views = set s.views id w })
      (sym (set-get_or s.words 1 0))
      (moved s r id v w at r.log r.next r.serving record {
        goes_on = prefix_self r.log;
        drawn = omega arith;
        behind = r.behind;
        served = inl (refl, refl);
        fits = record {
          opening = f.opening;
          seen = subst (λ (l : List Entry). IsPrefix l r.log) (sym log) (prefix_self r.log);
          beside = f.beside;
          waits = f.waits;
          turn = λ _. (live, served, log);
          spent = f.spent;
        };
        ticket = λ _. inl refl;
        live = refl;
        share = refl;
        knows = inl (live, log);
        placed = λ place. refl;
      }
      s.words (set s.homes 0 maybe.none) r.words (inr (id, w, set_here s.views id w (inside s.views id v at), refl)))

  pub looks : (slots id : ℕ) (v : View) (c : List (ℕ × Option M)) → v.live ≡ true → v.turn ≡ false →
      Allows Rule slots id (v, c) 1 (λ n. n) (looked entries opening (step slots 1 0 0 none) (v, c))
  looks slots id v c live idle s r long at small = let n : ℕ = get_or s.words 1 0 in
      let is : n ≡ r.serving = word1 s r in let f = r.fits id v at in
      dite (ℕ_discrete (n + 1) v.ticket)
      (λ served. let ours : v.ticket ≡ r.serving + 1 = sym served ∙ ap (λ (m : ℕ). m + 1) is in
      let h = home_of s r id v at idle ours in (
        record v { turn = true; seen = entries h.0 },
        takes 0 (Some h.0),
        h.1,
        takes_turn s r id v c at live ours h,
        (
          λ _. record {
            value = h.0;
            view = refl;
            holds = refl;
            opening_kept = h.3 ∙ sym (f.opening live);
            begins = subst (IsPrefix v.seen) (sym h.2) f.seen;
          },
          λ other. absurd (other served),
        ),
      ))
      (λ other. (v, keeps, tt, unmoved s r id v at c 1, (λ served. absurd (other served), λ _. refl)))

  pub notes : (slots id : ℕ) (v : View) (c : List (ℕ × Option M)) (value : M) (entry : Entry) (place new : ℕ)
      (said : Option M) → new ≡ place + 1 → said ≡ Some value →
      v.turn ≡ true → entries value ≡ v.seen ++ entry ∷ [] → place ≡ length v.seen →
      Allows Rule slots id (v, c) 2 (λ n. either (n == place) new n)
      (noted entries (step slots 2 place new (some said)) (v, c))
  notes slots id v c value entry place new said next_place is_said turn longer at_end s r long at small =
      let n : ℕ = get_or s.words 2 0 in let f = r.fits id v at in let t = f.turn turn in
      let seen : v.seen ≡ r.log = t.2 in let log : List Entry = entries value in
      let w : View = record v { seen = log; places = v.places ++ length v.seen ∷ [] } in
      let hit : n ≡ place = word2 s r ∙ (ap length (sym seen) ∙ sym at_end) in
      let one_more : length log ≡ length v.seen + 1 = ap length longer ∙ length-append v.seen (entry ∷ []) in
      let on : IsPrefix r.log log = subst (λ (l : List Entry). IsPrefix l log) seen (entry ∷ [], sym longer) in (
        w,
        keeps,
        tt,
        exchanged n place new (λ m. Rule (stepped s 2 m id c w keeps))
            (λ _. moved s r id v w at log r.next r.serving record {
              goes_on = on;
              drawn = omega arith;
              behind = r.behind;
              served = inr (t.1, omega arith);
              fits = record {
                opening = f.opening;
                seen = prefix_self log;
                beside = prefix_onward v.beside r.log log f.beside on;
                waits = f.waits;
                turn = λ _. (t.0, t.1, refl);
                spent = λ dead. absurd (true≢false (sym t.0 ∙ dead));
              };
              ticket = λ _. inl refl;
              live = refl;
              share = refl;
              knows = inl (t.0, refl);
              placed = λ p. let sum = times_append p v.places (length v.seen ∷ []) in
                  let more = below_one_more p (length v.seen) in
                  let same : length r.log ≡ length v.seen = ap length (sym seen) in
                  let a : below p (length r.log) ≡ below p (length v.seen) = ap (below p) same in
                  let b : below p (length log) ≡ below p (length v.seen + 1) = ap (below p) one_more in
                  omega (arith, sum, more, a, b);
            }
            (set s.words 2 new) s.homes
            (ap (λ (l : List ℕ). set l 2 new) r.words ∙ ap (λ (m : ℕ). r.next ∷ r.serving ∷ m ∷ [])
            (next_place ∙ (ap (λ (m : ℕ). m + 1) at_end ∙ sym one_more)))
            (inr (id, w, set_here s.views id w (inside s.views id v at), turn)))
            (λ miss. absurd (miss hit)),
        λ (x : M) is. let e : value ≡ x = same_Some value x (sym is_said ∙ some-injective said (Some x) is) in
            ap (λ (x : M). (record v { seen = entries x; places = v.places ++ length v.seen ∷ [] }, c)) e,
      )

  opens_at : (slots id : ℕ) (v : View) (value : M) (new : ℕ) → slots ≡ 1 → v.turn ≡ true → entries value ≡ v.seen →
      opening value ≡ v.opening → new ≡ v.ticket →
      Allows Rule slots id (v, (0, Some value) ∷ []) 1 (λ _. new)
      (λ _. opened (step slots 1 new 0 none) (v, (0, Some value) ∷ []) new)
  opens_at slots id v value new one turn same begun_so is s r long at small = let f = r.fits id v at in
      let t = f.turn turn in
      let w : View = record v { ticket = 0; turn = false } in let served : new ≡ r.serving + 1 = is ∙ t.1 in
      let below_next = (f.waits (let e = t.1 in omega (arith, e))).1 in (
        w,
        gives,
        tt,
        moved s r id v w at r.log r.next (r.serving + 1) record {
          goes_on = prefix_self r.log;
          drawn = omega arith;
          behind = let e = t.1 in omega (arith, e, below_next);
          served = inr (t.1, omega arith);
          fits = record {
            opening = f.opening;
            seen = f.seen;
            beside = f.beside;
            waits = λ none. absurd (omega arith);
            turn = λ no. absurd (true≢false (sym no));
            spent = f.spent;
          };
          ticket = λ none. absurd (omega arith);
          live = refl;
          share = refl;
          knows = inr (refl, λ k. k);
          placed = λ place. refl;
        }
            (set s.words 1 new) (set s.homes 0 (some (Some value)))
            (ap (λ (l : List ℕ). set l 1 new) r.words ∙ ap (λ (m : ℕ). r.next ∷ m ∷ length r.log ∷ []) served)
            (inl (
              value,
              set_here s.homes 0 (some (Some value)) (omega (arith, long, one)),
              same ∙ t.2,
              begun_so ∙ f.opening t.0,
            )),
        refl,
      )

  pub opens : (slots id : ℕ) (m : Me (Option M) View) (v : View) (value : M) (new : ℕ) →
      m ≡ (v, (0, Some value) ∷ []) → slots ≡ 1 → v.turn ≡ true →
      entries value ≡ v.seen → opening value ≡ v.opening → new ≡ v.ticket →
      Allows Rule slots id m 1 (λ _. new) (λ _. opened (step slots 1 new 0 none) m new)
  opens slots id m v value new me one turn same begun_so is =
      subst (λ (x : Me (Option M) View). Allows Rule slots id x 1 (λ _. new)
      (λ _. opened (step slots 1 new 0 none) x new)) (sym me)
      (opens_at slots id v value new one turn same begun_so is)
