-- The lines of a text that lists events.
use Rattle.std.specs.Prelude.{ℕ, ◌≡◌, ◌≢◌, ◌+◌, ◌-◌, ◌<◌, ◌==◌, List, [], ◌∷◌, ◌++◌, codes, length, position, slice_get}
use Rattle.std.specs.Prelude.{take, Option, Some, None}
use Rattle.std.specs.Prelude.{◌≤◌}
use Rattle.std.specs.List.{suffix_len}
use Rattle.std.specs.Char.{is_ascii_whitespace}
use Rattle.std.proofs.Common.{Bor}
use Rattle.el_base.specs.declared.events.Kind.{Kind}
use Rattle.el_base.specs.declared.events.Kind.TheVariants.{Step, Order, Serve, Deliver}
use Rattle.schedule.specs.declared.line.Line.{Line}
use Rattle.schedule.specs.declared.line.Line.TheVariants.{Nothing, Makes, Bad}

abbrev pub kind_name : Kind → List ℕ
kind_name Step = codes "step"
kind_name Order = codes "order"
kind_name Serve = codes "serve"
kind_name Deliver = codes "deliver"

-- how an event is written: its kind, a space and the digit of its hart
abbrev pub spelled : Kind → ℕ → List ℕ
spelled kind hart = kind_name kind ++ 0x20 ∷ (0x30 + hart) ∷ []

-- where the comment of a line begins, by a '#'
abbrev pub comment_at : List ℕ → Option ℕ
comment_at line = position (λ byte. byte == 0x23) line

abbrev pub cut_at : List ℕ → Option ℕ → List ℕ
cut_at line None = line
cut_at line (Some end) = take end line

-- a line without its comment
abbrev pub uncommented : List ℕ → List ℕ
uncommented line = cut_at line (comment_at line)

-- a text without the white space at its end
abbrev pub trimmed : List ℕ → List ℕ
trimmed text = take (length text - suffix_len is_ascii_whitespace text) text

unfoldable pub stripped : List ℕ → List ℕ
stripped line = trimmed (uncommented line)

-- the text is no event of so many harts
abbrev pub IsNoEvent : ℕ → List ℕ → Type 0
IsNoEvent harts text = (kind : Kind) (hart : ℕ) → hart < harts → text ≢ spelled kind hart

-- what a line says, of so many harts
abbrev pub Says : ℕ → List ℕ → Line → Type 0
Says harts line Nothing = stripped line ≡ []
Says harts line (Makes event) = (stripped line ≡ spelled event.kind event.hart.number) × (event.hart.number < harts)
Says harts line Bad = (stripped line ≢ []) × IsNoEvent harts (stripped line)

-- the line of a number, from 1 on, is neither blank nor an event
pub record IsBadLine (harts : ℕ) (lines : List (Bor (List ℕ))) (number : ℕ) : Type 0 where
  pub line : Bor (List ℕ)
  pub counted : 1 ≤ number
  pub found : slice_get lines (number - 1) ≡ Some line
  pub bad : Says harts line.now Bad
