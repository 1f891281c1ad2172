-- What rows keep, as rows and outcomes are added.
use Rattle.std.proofs.Common.{◌≡◌, ◌∙◌, ℕ, suc, refl, ap, ap₂, sym, arith}
use Rattle.std.specs.Prelude.{List, [], ◌∷◌, ◌++◌, All, length, map}
use Rattle.std.proofs.lemmas.List.{get_or_append_left, get_or_push, map-append}
use Rattle.el_base.specs.declared.entries.Entry.{Entry}
use Rattle.el_base.specs.declared.events.Event.{Event}
use Rattle.el_base.specs.declared.outcomes.Outcome.{Outcome}
use Rattle.el_base.specs.declared.outcomes.Outcome.TheVariants as outcomes
use Rattle.chronicle.specs.Chronicle.{Chronicle}
use Rattle.chronicle.specs.Rows.{IsAmong, entry_of}
use Rattle.chronicle.specs.declared.rows.Row.{Row}
use Rattle.chronicle.specs.declared.rows.Row.TheVariants.{Listed, Short}

-- another outcome in the list leaves the entries of rows as they are
entry_stays : (long : List Outcome) (outcome : Outcome) (row : Row) → IsAmong (length long) row →
    entry_of (long ++ outcome ∷ []) row ≡ entry_of long row
entry_stays long outcome (Short event brief) among = refl
entry_stays long outcome (Listed event place) among =
    ap (λ o. record { event = event; outcome = o }) (get_or_append_left long (outcome ∷ []) _ place among)

entries_stay : (long : List Outcome) (outcome : Outcome) (rows : List Row) → All (IsAmong (length long)) rows →
    map (entry_of (long ++ outcome ∷ [])) rows ≡ map (entry_of long) rows
entries_stay long outcome [] among = refl
entries_stay long outcome (row ∷ rows) among =
    ap₂ (λ (x : Entry) (xs : List Entry). x ∷ xs)
    (entry_stays long outcome row (among 0 row (omega arith)))
    (entries_stay long outcome rows (λ k d below. among (suc k) d (omega (arith, below))))

-- an outcome put behind all others, and a row with its place
listed : (long : List Outcome) (outcome : Outcome) (rows : List Row) (event : Event) (place : ℕ) →
    length long ≡ place → All (IsAmong (length long)) rows →
    map (entry_of (long ++ outcome ∷ [])) (rows ++ Listed event place ∷ [])
    ≡ map (entry_of long) rows ++ record { event = event; outcome = outcome } ∷ []
listed long outcome rows event place here among =
    map-append (entry_of (long ++ outcome ∷ [])) rows (Listed event place ∷ [])
    ∙ ap₂ (λ (xs : List Entry) (o : Outcome). xs ++ record { event = event; outcome = o } ∷ [])
    (entries_stay long outcome rows among) (get_or_push long outcome outcomes.Idle place here)

pub entry_listed : (old : Chronicle) (long longer : List Outcome) (rows more : List Row) (places : ℕ) (entry : Entry)
    (place : ℕ) →
    longer ≡ long ++ entry.outcome ∷ [] → more ≡ rows ++ Listed entry.event place ∷ [] →
    old ≡ record { entries = map (entry_of long) rows; places = places } → place ≡ length long →
    All (IsAmong (length long)) rows →
    ◌≡◌ {A = Chronicle} (record { entries = map (entry_of longer) more; places = places })
    (record { entries = old.entries ++ entry ∷ []; places = old.places })
entry_listed old long longer rows more places entry place outcome row before here among =
    ap {B = Chronicle} (λ (es : List Entry). record { entries = es; places = places })
    (ap₂ (λ (os : List Outcome) (rs : List Row). map (entry_of os) rs) outcome row
    ∙ listed long entry.outcome rows entry.event place (sym here) among)
    ∙ ap {B = Chronicle} (λ (c : Chronicle). record { entries = c.entries ++ entry ∷ []; places = c.places })
    (sym before)
