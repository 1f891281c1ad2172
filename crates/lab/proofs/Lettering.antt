-- the letters of a line, one hart after another, and places in the order
use Rattle.std.proofs.Common.{◌≡◌, ◌∙◌, ◌==◌, ℕ, ◌+◌, ◌<◌, ◌≤◌, List, length, map, not, set, get_or, ap, arith, inl}
use Rattle.std.proofs.Common.{inr, length-set, refl, subst}
use Rattle.std.proofs.lemmas.Grind.{get_or-set_at}
use Rattle.std.proofs.lemmas.List.{get_or-set_other, length-map}
use Rattle.std.specs.List.{position}
use Rattle.bus_order.specs.Order.{Request, numbered}
use Rattle.bus_order.specs.declared.request.Request as requests
use Rattle.el_base.proofs.Laws.ListLaws.{prefix_of_map}
use Rattle.lab.proofs.Tracking.{equal_or}
use Rattle.moesi.specs.declared.letter.Letter.{Letter}
use Rattle.moesi.specs.declared.letter.Letter.TheVariants.{I}

-- the letters of the first harts are those that are wanted
abbrev pub AreBelow : (ℕ → Letter) → ℕ → List Letter → ℕ → Type 0
AreBelow wanted harts letters k =
    (length letters ≡ 8) × ((h : ℕ) → h < k → h < harts → get_or letters h I ≡ wanted h)

pub letter_put : (wanted : ℕ → Letter) (harts : ℕ) (letters : List Letter) (k place : ℕ) (letter : Letter) → k < 8 →
    place ≡ k → letter ≡ wanted k → AreBelow wanted harts letters k →
    AreBelow wanted harts (set letters place letter) (k + 1)
letter_put wanted harts letters k place letter below at is before =
    (length-set letters place letter ∙ before.0, λ h inside there. by h inside there)
  where
    by : (h : ℕ) → h < k + 1 → h < harts → get_or (set letters place letter) h I ≡ wanted h
    by h inside there =
        elim (equal_or h k) [
          | inl same ↦
              let size = before.0 in
              get_or-set_at letters place h letter I (omega arith) (omega arith) ∙ is ∙ ap wanted (omega arith)
          | inr other ↦ get_or-set_other letters place h letter I (omega arith) ∙ before.1 h (omega arith) there
        ]

pub letter_passed : (wanted : ℕ → Letter) (harts : ℕ) (letters : List Letter) (k : ℕ) → harts ≤ k →
    AreBelow wanted harts letters k → AreBelow wanted harts letters (k + 1)
letter_passed wanted harts letters k past before = (before.0, λ h inside there. before.1 h (omega arith) there)

-- a hart's request has one place, whether its order is told in numbers or not
pub place_of_numbered : (list : List requests.Request) (order : List Request) (h : ℕ) → map numbered list ≡ order →
    position (λ request. request.hart.number == h) list ≡ position (λ request. request.hart == h) order
place_of_numbered list order h is =
    subst (λ other. position (λ request. request.hart.number == h) list ≡ position (λ request. request.hart == h) other)
    is
    (rw (prefix_of_map numbered (λ request. not (request.hart == h)) list) (rw (length-map list numbered) refl))
