-- What is known of a file's symbols.
use Rattle.std.specs.Prelude.{◌≡◌, ◌≤◌, ◌<◌, ℕ, List, [], All, Contains, take, drop, fold, nat_lt, nat_le, ◌||◌}
use Rattle.std.specs.Prelude.{if◌then◌else◌, Option, Some, None}
use Rattle.std.specs.List.{filter_map, range_with_len}
use Rattle.elf_symbols.specs.declared.entries.Symbol.{Symbol}
use Rattle.elf_symbols.specs.declared.location.Location.{Location}
use Rattle.elf_symbols.specs.declared.location.Location.TheVariants.{Nothing, Broken, At}
use Rattle.elf_symbols.specs.Sections.{located}
use Rattle.elf_symbols.specs.Entries.{symbol_at}

-- the symbols of a table in its order, and its strings
pub record SymbolTable : Type 0 where
  pub symbols : List Symbol
  pub names : List ℕ

abbrev pub table_at : List ℕ → Location → SymbolTable
table_at file Nothing = record { symbols = []; names = [] }
table_at file Broken = record { symbols = []; names = [] }
table_at file (At place) = record {
  symbols = filter_map (symbol_at file place) (range_with_len 0 place.count);
  names = take place.names_len (drop place.names file);
}

-- the symbol table of a file
abbrev pub table_of : List ℕ → SymbolTable
table_of file = table_at file (located file)

-- a symbol of the list is at or below an address, and none is nearer
pub record IsNearest (address : ℕ) (symbols : List Symbol) (symbol : Symbol) : Type 0 where
  pub known : Contains symbols symbol
  pub not_above : symbol.value ≤ address
  pub none_nearer : All (λ other. other.value ≤ address → other.value ≤ symbol.value) symbols

-- the nearer one of two symbols to an address: the first of two that have one value
abbrev pub nearer : ℕ → Option Symbol → Symbol → Option Symbol
nearer address None symbol = if nat_lt address symbol.value then None else Some symbol
nearer address (Some held) symbol =
    if nat_lt address symbol.value || nat_le symbol.value held.value then Some held else Some symbol

-- the nearest symbol of a list to an address: the first of several that have one value
unfoldable pub nearest : ℕ → List Symbol → Option Symbol
nearest address symbols = fold (nearer address) None symbols
