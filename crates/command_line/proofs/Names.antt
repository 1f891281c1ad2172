-- the word that names a command
use Rattle.std.proofs.Common.{◌≡◌, ◌∙◌, ℕ, Bool, true, false, List, ◌∷◌, None, String, refl, ap, sym, bytes_eq, codes}
use Rattle.std.proofs.Common.{string_bytes}
use Rattle.std.specs.Global.{Global}
use Rattle.std.proofs.lemmas.Slice.Eq.{bytes_eq-Decides}
use Rattle.command_line.specs.Words.{job_of, texts}

differs : (word other : List ℕ) → (word ≡ other → ⊥) → bytes_eq word other ≡ false
differs word other apart = go (bytes_eq word other) refl
  where
    go : (b : Bool) → bytes_eq word other ≡ b → bytes_eq word other ≡ false
    go true e = absurd (apart ((bytes_eq-Decides word other).0 e))
    go false e = e

-- a word that names none
pub no_command : (words : List (String Global)) (name : String Global) (rest : List (String Global)) (word : List ℕ)
    → words ≡ name ∷ rest → word ≡ string_bytes name → (word ≡ codes "run" → ⊥) → (word ≡ codes "replay" → ⊥)
    → (word ≡ codes "look" → ⊥) → (word ≡ codes "find" → ⊥) → (word ≡ codes "check" → ⊥) → (word ≡ codes "gen" → ⊥) →
    job_of (texts words) ≡ None
no_command words name rest word first is run replay look find check gen =
    ap (λ (all : List (String Global)). job_of (texts all)) first
    ∙ ap (λ (text : List ℕ). job_of (text ∷ texts rest)) (sym is)
    ∙ rw (
      differs word (codes "run") run,
      differs word (codes "replay") replay,
      differs word (codes "look") look,
      differs word (codes "find") find,
      differs word (codes "check") check,
      differs word (codes "gen") gen,
    ) refl
