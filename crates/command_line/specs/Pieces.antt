-- the words after a command's name, piece by piece: options with their values, and positional words
use Rattle.std.specs.Prelude.{ℕ, ◌==◌, ◌&&◌, Bool, List, [], ◌∷◌, map, drop, codes, bytes_eq, nat_eq, not}
use Rattle.std.specs.Prelude.{if◌then◌else◌, Option, None, Some, option_map}
use Rattle.std.specs.List.{after_first, before_first, list_any, starts_with}

-- how a word looks: `--` alone, which ends the options; `--NAME` or `--NAME=VALUE`; any other word that begins with
-- '-' and goes on; any other word, among them `-` alone and the empty one
pub data Look : Type 0 where
  End : Look
  Long : (name : List ℕ) → (value : Option (List ℕ)) → Look
  Short : Look
  Plain : Look

abbrev pub is_equals_sign : ℕ → Bool
is_equals_sign code = code == 61

-- what stands before the first '=', and where there is one what stands after it
abbrev pub name_and_value : List ℕ → Look
name_and_value text =
    Long (before_first is_equals_sign text)
    (if list_any is_equals_sign text then Some (after_first is_equals_sign text) else None)

abbrev pub look_of : List ℕ → Look
look_of word =
    if bytes_eq word (codes "--") then End
    else if starts_with nat_eq word (codes "--") then name_and_value (drop 2 word)
    else if starts_with nat_eq word (codes "-") && not (bytes_eq word (codes "-")) then Short
    else Plain

-- an option with its value, a flag, or a positional word
pub data Piece : Type 0 where
  OptionWith : (name value : List ℕ) → Piece
  Flag : (name : List ℕ) → Piece
  Positional : (word : List ℕ) → Piece

abbrev pub and_then : Piece → Option (List Piece) → Option (List Piece)
and_then piece pieces = option_map (λ rest. piece ∷ rest) pieces

abbrev pub is_among : List ℕ → List (List ℕ) → Bool
is_among name names = list_any (λ other. bytes_eq other name) names

-- a word by its look, with the words after it; `options` want a value, and `rest` has the pieces of the words after it,
-- where an option wants its value or none does
abbrev pub piece_then : List (List ℕ) → List ℕ → List (List ℕ) → (Option (List ℕ) → Option (List Piece)) → Look
    → Option (List Piece)
piece_then options word words rest End = Some (map Positional words)
piece_then options word words rest (Long name (Some value)) = and_then (OptionWith name value) (rest None)
piece_then options word words rest (Long name None) =
    if is_among name options then rest (Some name) else and_then (Flag name) (rest None)
piece_then options word words rest Short = None
piece_then options word words rest Plain = and_then (Positional word) (rest None)

-- a word that an option wants as its value: it is a plain one
abbrev pub value_then : List ℕ → List ℕ → (Option (List ℕ) → Option (List Piece)) → Look → Option (List Piece)
value_then name word rest Plain = and_then (OptionWith name word) (rest None)
value_then name word rest look = None

-- the pieces of words, where an option before them wants its value or none does
abbrev pub pieces_after : List (List ℕ) → List (List ℕ) → Option (List ℕ) → Option (List Piece)
pieces_after options [] None = Some []
pieces_after options [] (Some name) = None
pieces_after options (word ∷ words) None = piece_then options word words (pieces_after options words) (look_of word)
pieces_after options (word ∷ words) (Some name) = value_then name word (pieces_after options words) (look_of word)

-- the pieces of words, where these options want a value and any other is a flag; or none where an option has no value
-- or a word is none that a command can take
abbrev pub pieces_of : List (List ℕ) → List (List ℕ) → Option (List Piece)
pieces_of options words = pieces_after options words None
