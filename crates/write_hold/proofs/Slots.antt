-- The slots of a hold's entries: each is out, of the hold's owner and of one line, and what a hold
-- owes its pool after each call.
use Rattle.std.proofs.Common.{◌≡◌, ◌≢◌, ℕ, ◌+◌, ◌≤◌, ◌<◌, if◌then◌else◌, Bool, true, false, List, [], ◌∷◌, ◌++◌, length}
use Rattle.std.proofs.Common.{get_or, map, set, Some, refl}
use Rattle.std.proofs.Common.{ap, sym, subst, ◌∙◌, arith}
use Rattle.std.specs.List.{remove, sum_by}
use Rattle.std.specs.Prelude.{slice_index}
use Rattle.std.proofs.Math.Seq.{map-set_same}
use Rattle.std.proofs.lemmas.Bool.Decides.{nat_tests}
use Rattle.std.proofs.lemmas.List.{length-map, length_push}
use Rattle.std.proofs.lemmas.List.Edits.{length-remove}
use Rattle.std.proofs.lemmas.List.Folds.{fold-map}
use Rattle.std.proofs.lemmas.List.Sums.{sum_by-cons, sum_by-remove, sum_by_push}
use Rattle.line_pool.specs.declared.slot.Slot.{Slot}
use Rattle.line_pool.specs.Calls.{IsGiven, IsTaken, IsWritten}
use Rattle.line_pool.specs.Keeping.{Keeps, same_slot, times_among}
use Rattle.line_pool.specs.Others.{LeavesOthers}
use Rattle.line_pool.specs.Pooled.{Pooled, is_out, out_of, owner_of}
use Rattle.line_pool.proofs.Laws.{has-out, keeps-given, keeps-permuted, keeps-taken, keeps-written, kept-out}
use Rattle.line_pool.proofs.Laws.{kept-owner, stays_out}
use Rattle.line_pool.proofs.Laws.OtherLaws.{leaves-given, leaves-taken, leaves-then, leaves-written}
use Rattle.write_hold.specs.declared.entry.Entry as code
use Rattle.write_hold.specs.Entries.{hold_of, seen_entry}
use Rattle.write_hold.specs.Slotted.{IsLent, Place, slots_of}
use Rattle.write_hold.proofs.Shown.{StayBeside}
use Rattle.write_hold.proofs.Steps.{found}

-- what is found has its part in a sum, and two that are found have theirs
part_found : (f : code.Entry → ℕ) (entries : List code.Entry) (line : ℕ) (x : code.Entry) →
    found entries line ≡ Some x → f x ≤ sum_by f entries
part_found f [] line x is = absurd cc
part_found f (z ∷ entries) line x is = grind (arith, nat_tests, sum_by-cons f z entries, part_found f entries line x)

two_found : (f : code.Entry → ℕ) (entries : List code.Entry) (line l : ℕ) (x y : code.Entry) → l ≢ line →
    found entries line ≡ Some x
    → found entries l ≡ Some y → f x + f y ≤ sum_by f entries
two_found f [] line l x y apart is there = absurd cc
two_found f (z ∷ entries) line l x y apart is there =
    grind (
      arith,
      nat_tests,
      sum_by-cons f z entries,
      part_found f entries line x,
      part_found f entries l y,
      two_found f entries line l x y apart,
    )

-- a sum over the slots of a hold, which says how often a slot is among them, and how many there are
pub slot-sum : (g : Slot → ℕ) (entries : List code.Entry)
    → sum_by g (map (λ (place : Place). place.slot) (map seen_entry entries)) ≡ sum_by (λ e. g e.slot) entries
slot-sum g entries =
    fold-map (λ total s. total + g s) (λ (place : Place). place.slot) 0 (map seen_entry entries)
    ∙ fold-map (λ total (place : Place). total + g place.slot) seen_entry 0 entries

slots_are : (entries : List code.Entry) →
    map (λ (place : Place). place.slot) (map seen_entry entries) ≡ map (λ (e : code.Entry). e.slot) entries
slots_are [] = refl
slots_are (e ∷ entries) = ap (λ rest. e.slot ∷ rest) (slots_are entries)

abbrev pub one_at : Slot → Slot → ℕ
one_at slot other = if same_slot other slot then 1 else 0

pub count-shown : (limit owner : ℕ) (entries : List code.Entry) →
    length (slots_of (hold_of limit owner entries)) ≡ length entries
count-shown limit owner entries =
    length-map (map seen_entry entries) (λ (place : Place). place.slot) ∙ length-map entries seen_entry

module _ (pool : Pooled) (limit owner : ℕ) (entries : List code.Entry)
    (owes : IsLent pool (hold_of limit owner entries)) where
  -- as many are out as there are lines, and no more than there may be
  pub out-counted : out_of pool owner ≡ length entries
  out-counted = sym owes.keeps.all ∙ count-shown limit owner entries

  module _ (line : ℕ) (x : code.Entry) (is : found entries line ≡ Some x) where
    among : 1 ≤ times_among (slots_of (hold_of limit owner entries)) x.slot
    among =
        grind (
          arith,
          nat_tests,
          slot-sum (one_at x.slot) entries,
          part_found (λ e. one_at x.slot e.slot) entries line x is,
        )

    pub entry-out : is_out pool x.slot ≡ true
    entry-out = kept-out pool owner (slots_of (hold_of limit owner entries)) x.slot owes.keeps among

    pub entry-owner : owner_of x.slot ≡ owner
    entry-owner = kept-owner pool owner (slots_of (hold_of limit owner entries)) x.slot owes.keeps among

    pub entries-apart : (l : ℕ) (y : code.Entry) → l ≢ line → found entries l ≡ Some y → y.slot ≢ x.slot
    entries-apart l y apart there same =
        let parts = two_found (λ e. one_at x.slot e.slot) entries line l x y apart is there in
        let its : one_at x.slot y.slot ≡ one_at x.slot x.slot = ap (one_at x.slot) same in
        let few = at_most (is_out pool x.slot) (owes.keeps.out x.slot) in
        grind (arith, nat_tests, parts, its, few, slot-sum (one_at x.slot) entries)
      where
        at_most : (out : Bool) → times_among (slots_of (hold_of limit owner entries)) x.slot ≤ (if out then 1 else 0)
            → times_among (slots_of (hold_of limit owner entries)) x.slot ≤ 1
        at_most true few = few
        at_most false few = omega (arith, few)

    -- its slot was written, or given back
    pub stay-written : (after : Pooled) (bytes : List ℕ) → IsWritten pool after x.slot bytes →
        StayBeside pool after entries line
    stay-written after bytes written l y apart there =
        written.others y.slot
        (has-out pool y.slot (kept-out pool owner (slots_of (hold_of limit owner entries)) y.slot owes.keeps
        (grind (
          arith,
          nat_tests,
          slot-sum (one_at y.slot) entries,
          part_found (λ e. one_at y.slot e.slot) entries l y there,
        ))))
        (entries-apart l y apart there)

    pub leaves-written_entry : (after : Pooled) (bytes : List ℕ) → IsWritten pool after x.slot bytes →
        LeavesOthers owner pool after
    leaves-written_entry after bytes written =
        subst (λ o. LeavesOthers o pool after) entry-owner (leaves-written pool after x.slot bytes written)

    pub leaves-given_entry : (after : Pooled) → IsGiven pool after x.slot → LeavesOthers owner pool after
    leaves-given_entry after given =
        subst (λ o. LeavesOthers o pool after) entry-owner (leaves-given pool after x.slot given)

  -- an entry was stored in at a place: it has the slot that it had
  pub lent-written : (after : Pooled) (place : ℕ) (x y : code.Entry) (bytes : List ℕ) →
      x ≡ get_or entries place x → y.slot ≡ x.slot
      → IsWritten pool after x.slot bytes → IsLent after (hold_of limit owner (set entries place y))
  lent-written after place x y bytes read same written = record {
    there = subst (λ quotas. owner < length quotas) (sym written.quotas) owes.there;
    quota = ap (λ quotas. slice_index quotas owner) written.quotas ∙ owes.quota;
    keeps =
        keeps-written pool after owner (slots_of (hold_of limit owner (set entries place y))) x.slot bytes
        (subst (Keeps pool owner) (sym slots) owes.keeps) written;
  }
    where
      slots : slots_of (hold_of limit owner (set entries place y)) ≡ slots_of (hold_of limit owner entries)
      slots =
          slots_are (set entries place y) ∙ map-set_same (λ (e : code.Entry). e.slot) entries place y x
          (same ∙ ap (λ (e : code.Entry). e.slot) read)
          ∙ sym (slots_are entries)

  -- an entry came, with a slot that was taken, and was stored in
  module _ (between after : Pooled) (y : code.Entry) (slot : Slot) (bytes : List ℕ)
      (taken : IsTaken pool between owner slot)
      (written : IsWritten between after slot bytes) (same : y.slot ≡ slot) where
    pub stay-taken : (line : ℕ) → StayBeside pool after entries line
    stay-taken line l e apart there =
        let out = entry-out l e there in
        written.others e.slot (has-out between e.slot (stays_out pool between owner slot e.slot taken out))
        (λ is. let never = sym (ap (is_out pool) is) ∙ out in grind (arith, nat_tests, never, taken.was_free))
        ∙ taken.bytes e.slot

    pub leaves-stored : LeavesOthers owner pool after
    leaves-stored =
        leaves-then owner pool between after (leaves-taken owner pool between slot taken)
        (subst (λ o. LeavesOthers o between after) taken.owned (leaves-written between after slot bytes written))

    pub lent-stored : IsLent after (hold_of limit owner (entries ++ y ∷ []))
    lent-stored = record {
      there = subst (λ quotas. owner < length quotas) (sym (written.quotas ∙ taken.quotas)) owes.there;
      quota = ap (λ quotas. slice_index quotas owner) (written.quotas ∙ taken.quotas) ∙ owes.quota;
      keeps =
          keeps-written between after owner (slots_of (hold_of limit owner (entries ++ y ∷ []))) slot bytes
          (keeps-permuted between owner (slot ∷ slots_of (hold_of limit owner entries))
          (slots_of (hold_of limit owner (entries ++ y ∷ [])))
          (keeps-taken pool between owner (slots_of (hold_of limit owner entries)) slot owes.keeps taken)
          (omega (
            arith,
            count-shown limit owner (entries ++ y ∷ []),
            count-shown limit owner entries,
            length_push entries y,
          ))
          (λ s. omega (
            arith,
            slot-sum (one_at s) (entries ++ y ∷ []),
            slot-sum (one_at s) entries,
            sum_by_push (λ (e : code.Entry). one_at s e.slot) entries y,
            sum_by-cons (one_at s) slot (slots_of (hold_of limit owner entries)),
            ap (one_at s) same,
          )))
          written;
    }

  -- an entry left from a place, and its slot was given back
  pub lent-given : (after : Pooled) (place : ℕ) (x : code.Entry) → place < length entries → x ≡ get_or entries place x →
      IsGiven pool after x.slot
      → IsLent after (hold_of limit owner (remove entries place))
  lent-given after place x within read given = record {
    there = subst (λ quotas. owner < length quotas) (sym given.quotas) owes.there;
    quota = ap (λ quotas. slice_index quotas owner) given.quotas ∙ owes.quota;
    keeps =
        keeps-given pool after owner (slots_of (hold_of limit owner (remove entries place))) x.slot
        (keeps-permuted pool owner (slots_of (hold_of limit owner entries))
        (x.slot ∷ slots_of (hold_of limit owner (remove entries place)))
        owes.keeps
        (omega (
          arith,
          count-shown limit owner (remove entries place),
          count-shown limit owner entries,
          length-remove entries place within,
        ))
        (λ s. omega (
          arith,
          slot-sum (one_at s) (remove entries place),
          slot-sum (one_at s) entries,
          sum_by-remove (λ (e : code.Entry). one_at s e.slot) entries place x within,
          sum_by-cons (one_at s) x.slot (slots_of (hold_of limit owner (remove entries place))),
          ap (λ (e : code.Entry). one_at s e.slot) read,
        )))
        given;
  }

  -- the last entry left, and its slot was given back
  module _ (rest : List code.Entry) (x : code.Entry) (is : entries ≡ rest ++ x ∷ []) where
    less : (f : code.Entry → ℕ) → sum_by f rest + f x ≡ sum_by f entries
    less f = sym (sum_by_push f rest x) ∙ ap (sum_by f) (sym is)

    pub popped-out : is_out pool x.slot ≡ true
    popped-out =
        kept-out pool owner (slots_of (hold_of limit owner entries)) x.slot owes.keeps
        (grind (arith, nat_tests, slot-sum (one_at x.slot) entries, less (λ e. one_at x.slot e.slot)))

    popped-owner : owner_of x.slot ≡ owner
    popped-owner =
        kept-owner pool owner (slots_of (hold_of limit owner entries)) x.slot owes.keeps
        (grind (arith, nat_tests, slot-sum (one_at x.slot) entries, less (λ e. one_at x.slot e.slot)))

    module _ (after : Pooled) (given : IsGiven pool after x.slot) where
      pub leaves-popped : LeavesOthers owner pool after
      leaves-popped = subst (λ o. LeavesOthers o pool after) popped-owner (leaves-given pool after x.slot given)

      pub lent-popped : IsLent after (hold_of limit owner rest)
      lent-popped = record {
        there = subst (λ quotas. owner < length quotas) (sym given.quotas) owes.there;
        quota = ap (λ quotas. slice_index quotas owner) given.quotas ∙ owes.quota;
        keeps =
            keeps-given pool after owner (slots_of (hold_of limit owner rest)) x.slot
            (keeps-permuted pool owner (slots_of (hold_of limit owner entries))
            (x.slot ∷ slots_of (hold_of limit owner rest)) owes.keeps
            (omega (
              arith,
              count-shown limit owner rest,
              count-shown limit owner entries,
              ap length is,
              length_push rest x,
            ))
            (λ s. omega (
              arith,
              slot-sum (one_at s) rest,
              slot-sum (one_at s) entries,
              less (λ e. one_at s e.slot),
              sum_by-cons (one_at s) x.slot (slots_of (hold_of limit owner rest)),
            )))
            given;
      }
