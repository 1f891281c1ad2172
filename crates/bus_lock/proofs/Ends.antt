-- The rule holds of a new lock, and what it says of one that is closed.
use Rattle.std.proofs.Common.{◌≡◌, ◌≢◌, ℕ, zero, suc, ◌⊎◌, Bool, true, false, Option, Some, List, [], ◌∷◌, length, sym}
use Rattle.std.proofs.Common.{refl, ap, ◌∙◌, subst, inl, ⊎_elim, arith, true≢false}
use mathlib.Core.Logic.{dite}
use mathlib.Core.Option.{some, some-injective, some-ne-none}
use native.Mathlib.Decide.{ℕ_discrete}
use lib.ListN.{get_elem?}
use Rattle.atomic_table.specs.Table.{Final, Seen, opening}
use Rattle.el_base.specs.declared.entries.Entry.{Entry}
use Rattle.bus_lock.specs.declared.view.View.{View}
use Rattle.bus_lock.specs.Passes.{Account, AreThePlaces, below, times}
use Rattle.bus_lock.specs.Rule.{Fits, Ticketed, apart, made}
use Rattle.bus_lock.specs.Steps.{at_first, at_rest}
use Rattle.bus_lock.proofs.Laws.Beginnings.{prefix_self}
use Rattle.bus_lock.proofs.Parts.{seen_alone}
use Rattle.bus_lock.proofs.Sums.{total_alone}

only_one : {A : Type 0} (a b : A) (j : ℕ) → get_elem? (a ∷ []) j ≡ some b → (j ≡ 0) × (a ≡ b)
only_one a b zero e = (refl, some-injective a b e)
only_one a b (suc j) e = absurd (some-ne-none b (sym e))

module _ {M : Type 0} (entries : M → List Entry) (starts : M → List ℕ) where
  begins : (value : M) → Ticketed entries starts (starts value) (length (entries value))
      (opening (0 ∷ 0 ∷ length (entries value) ∷ []) (Some value ∷ []) (at_first (starts value) (entries value)))
  begins value = let v : View = at_first (starts value) (entries value) in record {
    log = entries value;
    next = 0;
    serving = 0;
    words = refl;
    behind = omega arith;
    fits = λ j u at. subst (Fits (starts value) (entries value) 0 0) (only_one v u j at).1 record {
      opening = λ _. refl;
      seen = prefix_self (entries value);
      beside = (entries value, refl);
      waits = λ no. absurd (omega arith);
      turn = λ no. absurd (true≢false (sym no));
      spent = λ _. refl;
    };
    tickets = λ i j a b at_i at_j _ _. (only_one v a i at_i).0 ∙ sym (only_one v b j at_j).0;
    shares = λ i j a b at_i at_j other _ _. absurd (other ((only_one v a i at_i).0 ∙ sym (only_one v b j at_j).0));
    known = (0, v, refl, refl, inl refl);
    placed = λ place. omega arith;
    value = inl (value, refl, refl, refl);
  }

  pub begins_with : (value : M) (started : List ℕ) (log : List Entry) (count : ℕ) (slots : List (Option M)) →
      started ≡ starts value → log ≡ entries value → count ≡ length (entries value) → slots ≡ Some value ∷ [] →
      Ticketed entries starts started (length log) (opening (0 ∷ 0 ∷ count ∷ []) slots (at_first started log))
  begins_with value started log count slots from same is full = rw (from, same, is, full) (begins value)

  -- what the last state of a lock says to the only pass, of the value that comes out
  pub record Ends (begun : ℕ) (pass : Account) (value : M) : Type 0 where
    pub entries_seen : entries value ≡ pass.seen
    pub opening_kept : starts value ≡ pass.opening
    pub places : AreThePlaces pass.places begun (length (entries value))

  ends : (started : List ℕ) (begun id : ℕ) (pass : Account) (words : List ℕ) (slots : List (Option M)) →
      pass.share ≡ [] →
      Final (Seen (Ticketed entries starts started begun) id (at_rest pass)) words slots →
      (value : M) × (get_elem? slots 0 ≡ some (Some value)) × Ends begun pass value
  ends started begun id pass words slots whole last = let v : View = at_rest pass in
      let s = last.0 in let r = last.1.0 in let at = last.1.1 in let f = r.fits id v at in
      let others : (j : ℕ) (u : View) → get_elem? s.views j ≡ some u → j ≢ id → u.live ≡ true → ⊥ =
      λ j u there other living. let p = r.shares id j v u at there (λ e. other (sym e)) refl living in
      true≢false (sym p ∙ ap (λ (z : List Bool). apart z u.share) whole) in
      let mine : (j : ℕ) (u : View) → get_elem? s.views j ≡ some u → u.live ≡ true → u ≡ v =
      λ j u there living. dite (ℕ_discrete j id)
      (λ is. some-injective u v (sym there ∙ (ap (get_elem? s.views) is ∙ at)))
      (λ other. absurd (others j u there other living)) in
      let seen : v.seen ≡ r.log = let k = r.known in
      seen_alone v.seen v.beside r.log refl f.seen (subst (λ (z : View). (z.seen ≡ r.log) ⊎ (z.beside ≡ r.log))
      (mine k.0 k.1 k.2 k.3) k.4) in
      let none_else : (place j : ℕ) (u : View) → get_elem? s.views j ≡ some u → j ≢ id → made place u ≡ 0 =
      λ place j u there other. ap (times place) ((r.fits j u there).spent (dead u.live (others j u there other))) in
      ⊎_elim
      (λ home. (
        home.0,
        last.4 0 (Some home.0) home.1,
        record {
          entries_seen = home.2 ∙ sym seen;
          opening_kept = home.3 ∙ sym (f.opening refl);
          places = λ place. let a = total_alone (made place) s.views id v at (none_else place) in
              let was = r.placed place in
              let e : below place (length (entries home.0)) ≡ below place (length r.log) =
              ap (λ (l : List Entry). below place (length l)) home.2 in
              omega (arith, a, was, e);
        },
      ))
      (λ out. let t = (r.fits out.0 out.1 out.2).turn out.3 in
      absurd (true≢false (sym out.3 ∙ (ap (λ (z : View). z.turn) (mine out.0 out.1 out.2 t.0)))))
      r.value
    where
      dead : (b : Bool) → (b ≡ true → ⊥) → b ≡ false
      dead true never = absurd (never refl)
      dead false never = refl

  -- what was taken out of the slot is a value, and ends the lock
  pub closes : (started : List ℕ) (begun id : ℕ) (view : View) (pass : Account) (words : List ℕ)
      (slots : List (Option M)) (taken : Option M) →
      view ≡ at_rest pass → pass.share ≡ [] → Final (Seen (Ticketed entries starts started begun) id view) words slots →
      get_elem? slots 0 ≡ some taken → (value : M) × (taken ≡ Some value) × Ends begun pass value
  closes started begun id view pass words slots taken is whole last found =
      let e = ends started begun id pass words slots whole
      (subst (λ (v : View). Final (Seen (Ticketed entries starts started begun) id v) words slots) is last) in
      (e.0, some-injective taken (Some e.0) (sym found ∙ e.1), e.2)
