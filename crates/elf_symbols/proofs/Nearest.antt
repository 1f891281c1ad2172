-- the nearest symbol of a list
use Rattle.std.proofs.lemmas.List.{append_assoc}
use Rattle.std.proofs.lemmas.List.Elements.{All-push, Contains-append_left, Contains-append_right}
use Rattle.std.proofs.Common.{◌≡◌, ℕ, zero, ◌<◌, ◌≤◌, List, [], ◌∷◌, ◌++◌, true, false, Option, Some, None, refl, sym}
use Rattle.std.proofs.Common.{arith, append-nil}
use Rattle.std.specs.Prelude.{All, Contains, MatchOption, fold, ◌||◌, if◌then◌else◌}
use Rattle.elf_symbols.specs.declared.entries.Symbol.{Symbol}
use Rattle.elf_symbols.specs.Known.{IsNearest, nearer, nearest}

-- what is known of the nearest symbol of a list
abbrev pub Holds : ℕ → List Symbol → Option Symbol → Type 0
Holds address symbols best =
    MatchOption best (All (λ symbol. address < symbol.value) symbols) (IsNearest address symbols)

-- the last symbol of a list is in it
pub last_is_known : (done : List Symbol) (symbol : Symbol) → Contains (done ++ symbol ∷ []) symbol
last_is_known done symbol = Contains-append_right done (symbol ∷ []) symbol (0, omega arith, refl)

-- a symbol that every other one is above is the nearest
pub first_found : (address : ℕ) (done : List Symbol) (symbol : Symbol) →
    All (λ other. address < other.value) done → symbol.value ≤ address → IsNearest address (done ++ symbol ∷ []) symbol
first_found address done symbol above within = record {
  known = last_is_known done symbol;
  not_above = within;
  none_nearer =
      All-push (λ other. other.value ≤ address → other.value ≤ symbol.value) done symbol
      (λ k d inside below. absurd (omega (arith, above k d inside, below))) (λ below. omega arith);
}

-- a symbol that is not nearer leaves the nearest one
pub kept : (address : ℕ) (done : List Symbol) (held symbol : Symbol) →
    IsNearest address done held → (symbol.value ≤ address → symbol.value ≤ held.value) →
    IsNearest address (done ++ symbol ∷ []) held
kept address done held symbol nearest farther = record {
  known = Contains-append_left done (symbol ∷ []) held nearest.known;
  not_above = nearest.not_above;
  none_nearer =
      All-push (λ other. other.value ≤ address → other.value ≤ held.value) done symbol nearest.none_nearer farther;
}

-- a symbol that is nearer takes its place
pub replaced : (address : ℕ) (done : List Symbol) (held symbol : Symbol) →
    IsNearest address done held → symbol.value ≤ address → held.value ≤ symbol.value →
    IsNearest address (done ++ symbol ∷ []) symbol
replaced address done held symbol nearest within nearer_yet = record {
  known = last_is_known done symbol;
  not_above = within;
  none_nearer =
      All-push (λ other. other.value ≤ address → other.value ≤ symbol.value) done symbol
      (λ k d inside below. omega (arith, nearest.none_nearer k d inside below, nearer_yet)) (λ below. omega arith);
}

pub one_more : (address : ℕ) (done : List Symbol) (best : Option Symbol) (symbol : Symbol) →
    Holds address done best → Holds address (done ++ symbol ∷ []) (nearer address best symbol)
one_more address done None symbol held =
    grind (arith, All-push (λ other. address < other.value) done symbol held, first_found address done symbol held)
one_more address done (Some best) symbol held =
    grind (arith, kept address done best symbol held, replaced address done best symbol held)

pub all_more : (address : ℕ) (done rest : List Symbol) (best : Option Symbol) →
    Holds address done best → Holds address (done ++ rest) (fold (nearer address) best rest)
all_more address done [] best held = rw (append-nil done) held
all_more address done (symbol ∷ rest) best held =
    rw (sym (append_assoc done (symbol ∷ []) rest))
    (all_more address (done ++ symbol ∷ []) rest (nearer address best symbol) (one_more address done best symbol held))

pub nearest_is_nearest : (address : ℕ) (symbols : List Symbol) → Holds address symbols (nearest address symbols)
unfolding nearest
nearest_is_nearest address symbols = all_more address [] symbols None (λ k d inside. absurd (omega (arith, inside)))
