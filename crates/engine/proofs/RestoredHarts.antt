-- the harts and their pool as an event of the bus goes through them
use Rattle.std.proofs.Common.{◌≡◌, ◌≢◌, ◌∙◌, ℕ, ◌+◌, ◌≤◌, ◌<◌, ◌==◌, Bool, true, false, if◌then◌else◌, List, Option}
use Rattle.std.proofs.Common.{Some, None, length, refl, ap}
use Rattle.std.proofs.Common.{sym, subst, inl, inr, arith}
use Rattle.std.specs.Prelude.{slice_set}
use Rattle.std.proofs.lemmas.Bool.{cases_eq}
use Rattle.std.proofs.lemmas.List.{get_or-set_other, get_or-set_same, length-set}
use Rattle.coherence.proofs.Laws.Offered.{leaves_owner, leaves_owner-same, leaves_owner-then}
use Rattle.coherence.specs.Lent.{LeavesOwner}
use Rattle.el_base.specs.declared.config.Mode.{Mode}
use Rattle.engine.proofs.Framed.{hold_lent}
use Rattle.engine.specs.Lent.{LeavesKeptBelow, LendsHold, LendsHolds}
use Rattle.engine.specs.Parts.{hold_owner, own_at}
use Rattle.engine.specs.Restored.{AreRestored, AreRestoredBelow, own_after}
use Rattle.hart_state.specs.Own.{OwnState, new_own}
use Rattle.line_pool.specs.Others.{LeavesOthers}
use Rattle.line_pool.specs.Pooled.{Pooled}
use Rattle.rv_flat.specs.FlatState.{no_hart}
use Rattle.write_hold.specs.Slotted.{IsLent}

-- so are those below a number, and the pool has changed for those that lost alone
pub record IsRestoredBelow (below : ℕ) (mode : Mode) (winner : ℕ → Option ℕ) (count : ℕ → ℕ) (before pool :
    Pooled) (old new : List OwnState) : Type 0 where
  pub harts : AreRestoredBelow below mode winner count old new
  pub lent : LendsHolds pool new
  pub kept : LeavesKeptBelow below winner before pool

-- what an event leaves to a hart
pub record IsRestoredAs (mode : Mode) (winner : Option ℕ) (count : ℕ) (before pool : Pooled)
    (old new : OwnState) : Type 0 where
  pub own : new ≡ own_after mode winner count old
  pub lent : IsLent pool new.section.hold
  pub others : LeavesOthers old.section.hold.owner before pool
  pub kept : winner ≡ None → pool ≡ before

same_owner : (mode : Mode) (winner : Option ℕ) (count : ℕ) (own : OwnState) →
    (own_after mode winner count own).section.hold.owner ≡ own.section.hold.owner
same_owner mode (Some winner) count own = refl
same_owner mode None count own = by (count == 0)
  where
    by : (none : Bool) → (if none then own else own_after mode None 1 own).section.hold.owner ≡ own.section.hold.owner
    by true = refl
    by false = refl

module _ (below : ℕ) (mode : Mode) (winner : ℕ → Option ℕ) (count : ℕ → ℕ) (first before pool : Pooled)
    (old new : List OwnState) (own : OwnState)
    (so_far : IsRestoredBelow below mode winner count first before old new) (inside : below < length new)
    (few : length new ≤ 8)
    (is : IsRestoredAs mode (winner below) (count below) before pool (own_at new below) own) where
  was : own_at new below ≡ own_at old below
  was = so_far.harts.above below (omega arith)

  hold : LendsHold before below (own_at new below)
  hold = so_far.lent below inside

  others : LeavesOthers (hold_owner below) before pool
  others = subst (λ owner. LeavesOthers owner before pool) hold.owner is.others

  abbrev next : List OwnState
  next = slice_set new below own

  here : own_at next below ≡ own
  here = get_or-set_same new below own (new_own no_hart 0 0) inside

  elsewhere : (g : ℕ) → g ≢ below → own_at next g ≡ own_at new g
  elsewhere g other = get_or-set_other new below g own (new_own no_hart 0 0) other

  still : (owner : ℕ) → owner ≢ hold_owner below → LeavesOwner owner before pool
  still owner apart = leaves_owner (hold_owner below) owner before pool others apart

  then_hart : (g : ℕ) → LeavesOwner (hold_owner g) first before → g ≢ below → LeavesOwner (hold_owner g) first pool
  then_hart g left apart =
      leaves_owner-then (hold_owner g) first before pool left
      (still (hold_owner g) (λ same. apart (omega (arith, same))))

  kept_holds : (g : ℕ) → winner g ≡ None → LeavesOwner (hold_owner g) first pool
  kept_holds g none = elim (cases_eq g below) [
    | inl same ↦
        let unchanged : pool ≡ before = is.kept (ap winner (sym same) ∙ none) in
        subst (λ p. LeavesOwner (hold_owner g) first p) (sym unchanged) (so_far.kept.kept.holds g none)
    | inr other ↦ then_hart g (so_far.kept.kept.holds g none) other
  ]

  pub restored_more : IsRestoredBelow (below + 1) mode winner count first pool old (slice_set new below own)
  restored_more = record {
    harts = record {
      number = length-set new below own ∙ so_far.harts.number;
      done = λ g within. elim (cases_eq g below) [
        | inl same ↦
            subst (λ k. own_at next k ≡ own_after mode (winner k) (count k) (own_at old k)) (sym same)
            (here ∙ is.own ∙ ap (own_after mode (winner below) (count below)) was)
        | inr other ↦ elsewhere g other ∙ so_far.harts.done g (omega (arith, within, other))
      ];
      above =
          λ g from. elsewhere g (λ same. absurd (omega (arith, same, from)))
          ∙ so_far.harts.above g (omega (arith, from));
    };
    lent = λ g within. elim (cases_eq g below) [
      | inl same ↦
          subst (λ k. LendsHold pool k (own_at next k)) (sym same)
          (subst (LendsHold pool below) (sym here)
          (record {
            owner =
                ap (λ (o : OwnState). o.section.hold.owner) is.own ∙ same_owner mode (winner below) (count below)
                (own_at new below) ∙ hold.owner;
            lent = is.lent;
          }))
      | inr other ↦
          let keeps = so_far.lent g (subst (λ n. g < n) (length-set new below own) within) in
          subst (LendsHold pool g) (sym (elsewhere g other))
          (record {
            owner = keeps.owner;
            lent =
                hold_lent before pool (own_at new g).section.hold
                (subst (λ owner. LeavesOwner owner before pool) (sym keeps.owner)
                (still (hold_owner g) (λ same. other (omega (arith, same))))) keeps.lent;
          })
    ];
    kept = record {
      kept = record {
        caches = λ owner less.
            leaves_owner-then owner first before pool (so_far.kept.kept.caches owner less)
            (still owner (λ same. absurd (omega (arith, same, less))));
        holds = kept_holds;
      };
      above =
          λ g from. then_hart g (so_far.kept.above g (omega (arith, from)))
          (λ same. absurd (omega (arith, same, from)));
    };
  }

-- before the first of them, and after the last
pub restored_none : (mode : Mode) (winner : ℕ → Option ℕ) (count : ℕ → ℕ) (pool : Pooled) (harts : List OwnState) →
    LendsHolds pool harts → IsRestoredBelow 0 mode winner count pool pool harts harts
restored_none mode winner count pool harts lent = record {
  harts = record { number = refl; done = λ g within. absurd (omega (arith, within)); above = λ g from. refl };
  lent = lent;
  kept = record {
    kept =
        record {
          caches = λ owner less. leaves_owner-same owner pool;
          holds = λ g none. leaves_owner-same (hold_owner g) pool;
        };
    above = λ g from. leaves_owner-same (hold_owner g) pool;
  };
}

pub restored_all : (below : ℕ) (mode : Mode) (winner : ℕ → Option ℕ) (count : ℕ → ℕ) (before pool : Pooled)
    (old new : List OwnState) → length new ≤ below → IsRestoredBelow below mode winner count before pool old new →
    AreRestored mode winner count old new
restored_all below mode winner count before pool old new all done = record {
  number = done.harts.number;
  each = λ g within. done.harts.done g (omega (arith, within, all, done.harts.number));
}
