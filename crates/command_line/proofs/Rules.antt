-- what `clap` makes of a form's arguments, and which of them it finds
use Rattle.std.proofs.Common.{◌≡◌, ◌∙◌, ℕ, ◌+◌, ◌<◌, ◌≤◌, ◌||◌, min, Bool, cond, true, false, List, [], ◌∷◌, ◌++◌, map}
use Rattle.std.proofs.Common.{length, append_assoc, Option, None, Some, refl, ap, sym, arith, bytes_eq, codes, eqb}
use Rattle.std.proofs.lemmas.Bool.Decides.{nat_tests}
use Rattle.std.proofs.lemmas.Slice.Eq.{bytes_eq-Decides}
use Rattle.clap.specs.Lexer.{usize_max}
use Rattle.clap.specs.Simple.{filled_from}
use Rattle.clap.specs.Walk.{Rule, Text, arg_by_id, arg_by_index, arg_by_long, arg_by_short}
use Rattle.clap.specs.declared.builder.action.ArgAction.TheVariants.{Set, SetTrue}
use Rattle.clap.specs.declared.builder.value_parser.ValueParser.TheVariants as parser
use Rattle.command_line.specs.Fields.{Form}
use Rattle.command_line.specs.Pieces.{is_among}
use Rattle.command_line.specs.Simple.{flag_rule, option_rule, positional_rule, rules_of}

-- an argument of one value, once it is built
abbrev pub single : Text → Option Text → Option ℕ → Bool → Rule
single id long index required = record {
  id = id;
  long = long;
  aliases = [];
  short = None;
  short_aliases = [];
  index = index;
  action = Some Set;
  range = Some (record { start_inclusive = 1; end_inclusive = 1 });
  value_names = 0;
  defaults = [];
  missing = [];
  trailing_var_arg = false;
  parser = Some parser.String;
  ignore_case = false;
  required = required;
  is_simple = true;
  is_free = true;
}

abbrev pub built_option : Text → Rule
built_option name = single name (Some name) None false

-- a flag, once it is built
abbrev pub built_flag : Text → Rule
built_flag name = record (built_option name) {
  action = Some SetTrue;
  range = Some (record { start_inclusive = 0; end_inclusive = 0 });
  defaults = codes "false" ∷ [];
  missing = codes "true" ∷ [];
  parser = Some parser.Bool;
}

-- the place after a place
abbrev pub next_place : ℕ → ℕ
next_place place = min (place + 1) usize_max

-- the positional words, numbered from a place on
abbrev pub numbered : ℕ → List Text → List Rule
numbered place [] = []
numbered place (name ∷ names) = single name None (Some place) true ∷ numbered (next_place place) names

-- what is no positional word
abbrev pub named_rules : List Text → List Text → List Rule
named_rules options flags = map built_option options ++ map built_flag flags

abbrev pub built_rules : Form → List Rule
built_rules form = numbered 1 form.positionals ++ named_rules form.options form.flags

filled_flags : (place : ℕ) (flags : List Text) → filled_from place (map flag_rule flags) ≡ map built_flag flags
filled_flags place [] = refl
filled_flags place (name ∷ flags) = ap (λ rest. built_flag name ∷ rest) (filled_flags place flags)

filled_named : (place : ℕ) (options flags : List Text)
    → filled_from place (map option_rule options ++ map flag_rule flags) ≡ named_rules options flags
filled_named place [] flags = filled_flags place flags
filled_named place (name ∷ options) flags = ap (λ rest. built_option name ∷ rest) (filled_named place options flags)

filled_rules : (place : ℕ) (names options flags : List Text)
    → filled_from place (map positional_rule names ++ (map option_rule options ++ map flag_rule flags))
    ≡ numbered place names ++ named_rules options flags
filled_rules place [] options flags = filled_named place options flags
filled_rules place (name ∷ names) options flags =
    ap (λ rest. single name None (Some place) true ∷ rest) (filled_rules (next_place place) names options flags)

pub filled_form : (form : Form) → filled_from 1 (rules_of form) ≡ built_rules form
filled_form form = filled_rules 1 form.positionals form.options form.flags

-- ---- the argument of a long name

no_long : (place : ℕ) (names : List Text) (rest : List Rule) (name : Text) →
    arg_by_long (numbered place names ++ rest) name ≡ arg_by_long rest name
no_long place [] rest name = refl
no_long place (other ∷ names) rest name = no_long (next_place place) names rest name

long_flag : (flags : List Text) (name : Text)
    → arg_by_long (map built_flag flags) name ≡ cond (is_among name flags) (Some (built_flag name)) None
long_flag [] name = refl
long_flag (other ∷ flags) name = go (bytes_eq other name) refl (long_flag flags name)
  where
    go : (same : Bool) → bytes_eq other name ≡ same
        → arg_by_long (map built_flag flags) name ≡ cond (is_among name flags) (Some (built_flag name)) None
        → arg_by_long (map built_flag (other ∷ flags)) name
        ≡ cond (is_among name (other ∷ flags)) (Some (built_flag name)) None
    go true e later = rw (e, (bytes_eq-Decides other name).0 e) refl
    go false e later = rw e later

-- an option or a flag of a name; where there are both, the option
abbrev pub named_rule : Text → List Text → List Text → Option Rule
named_rule name options flags =
    cond (is_among name options) (Some (built_option name)) (cond (is_among name flags) (Some (built_flag name)) None)

long_named : (options flags : List Text) (name : Text)
    → arg_by_long (named_rules options flags) name ≡ named_rule name options flags
long_named [] flags name = long_flag flags name
long_named (other ∷ options) flags name = go (bytes_eq other name) refl (long_named options flags name)
  where
    go : (same : Bool) → bytes_eq other name ≡ same
        → arg_by_long (named_rules options flags) name ≡ named_rule name options flags
        → arg_by_long (named_rules (other ∷ options) flags) name ≡ named_rule name (other ∷ options) flags
    go true e later = rw (e, (bytes_eq-Decides other name).0 e) refl
    go false e later = rw e later

pub long_of_form : (form : Form) (name : Text)
    → arg_by_long (built_rules form) name ≡ named_rule name form.options form.flags
long_of_form form name =
    no_long 1 form.positionals (named_rules form.options form.flags) name ∙ long_named form.options form.flags name

-- no argument has a short name
no_short_flag : (flags : List Text) (x : ℕ) → arg_by_short (map built_flag flags) x ≡ None
no_short_flag [] x = refl
no_short_flag (name ∷ flags) x = no_short_flag flags x

no_short_named : (options flags : List Text) (x : ℕ) → arg_by_short (named_rules options flags) x ≡ None
no_short_named [] flags x = no_short_flag flags x
no_short_named (name ∷ options) flags x = no_short_named options flags x

no_short : (place : ℕ) (names options flags : List Text) (x : ℕ)
    → arg_by_short (numbered place names ++ named_rules options flags) x ≡ None
no_short place [] options flags x = no_short_named options flags x
no_short place (name ∷ names) options flags x = no_short (next_place place) names options flags x

pub short_of_form : (form : Form) (x : ℕ) → arg_by_short (built_rules form) x ≡ None
short_of_form form x = no_short 1 form.positionals form.options form.flags x

-- ---- the argument of an id

pub record IsKnown (rules : List Rule) (id : Text) : Type 0 where
  pub long : Option Text
  pub index : Option ℕ
  pub required : Bool
  pub found : arg_by_id rules id ≡ Some (single id long index required)

known_first : (long : Option Text) (index : Option ℕ) (required : Bool) (other id : Text) (rest : List Rule)
    → (bytes_eq other id ≡ false → IsKnown rest id) → IsKnown (single other long index required ∷ rest) id
known_first long index required other id rest later = go (bytes_eq other id) refl
  where
    go : (same : Bool) → bytes_eq other id ≡ same → IsKnown (single other long index required ∷ rest) id
    go true e =
        record { long = long; index = index; required = required; found = rw (e, (bytes_eq-Decides other id).0 e) refl }
    go false e = let known =
        later e in
        record { long = known.long; index = known.index; required = known.required; found = rw e known.found }

known_option : (options flags : List Text) (id : Text) → is_among id options ≡ true
    → IsKnown (named_rules options flags) id
known_option [] flags id among = cc
known_option (other ∷ options) flags id among =
    known_first (Some other) None false other id (named_rules options flags)
    (λ differs. known_option options flags id (rw differs at among))

known_after : (place : ℕ) (names : List Text) (rest : List Rule) (id : Text) → IsKnown rest id →
    IsKnown (numbered place names ++ rest) id
known_after place [] rest id known = known
known_after place (other ∷ names) rest id known =
    known_first None (Some place) true other id (numbered (next_place place) names ++ rest)
    (λ differs. known_after (next_place place) names rest id known)

known_word : (place : ℕ) (names : List Text) (rest : List Rule) (id : Text) → is_among id names ≡ true →
    IsKnown (numbered place names ++ rest) id
known_word place [] rest id among = cc
known_word place (other ∷ names) rest id among =
    known_first None (Some place) true other id (numbered (next_place place) names ++ rest)
    (λ differs. known_word (next_place place) names rest id (rw differs at among))

pub option_known : (form : Form) (id : Text) → is_among id form.options ≡ true → IsKnown (built_rules form) id
option_known form id among =
    known_after 1 form.positionals (named_rules form.options form.flags) id
    (known_option form.options form.flags id among)

-- ---- the argument of a place

-- the positional words from a place on are these
abbrev pub Reads : List Rule → ℕ → List Text → Type 0
Reads rules place [] = arg_by_index rules place ≡ None
Reads rules place (name ∷ names) =
    (arg_by_index rules place ≡ Some (single name None (Some place) true)) × IsKnown rules name
    × Reads rules (next_place place) names

-- none of the rules has this place or one after it
abbrev Below : List Rule → ℕ → Type 0
Below rules place = (at : ℕ) (rest : List Rule) → place ≤ at → arg_by_index (rules ++ rest) at ≡ arg_by_index rest at

below_more : (rules : List Rule) (place : ℕ) (name : Text) → Below rules place →
    Below (rules ++ single name None (Some place) true ∷ []) (place + 1)
below_more rules place name below at rest le =
    ap (λ all. arg_by_index all at) (append_assoc rules (single name None (Some place) true ∷ []) rest)
    ∙ below at (single name None (Some place) true ∷ rest) (omega arith) ∙ rw (differs place at (omega arith)) refl
  where
    differs : (m n : ℕ) → m < n → eqb m n ≡ false
    differs m n lt = grind (arith, nat_tests)

no_index_flag : (flags : List Text) (at : ℕ) → arg_by_index (map built_flag flags) at ≡ None
no_index_flag [] at = refl
no_index_flag (name ∷ flags) at = no_index_flag flags at

no_index : (options flags : List Text) (at : ℕ) → arg_by_index (named_rules options flags) at ≡ None
no_index [] flags at = no_index_flag flags at
no_index (name ∷ options) flags at = no_index options flags at

reads : (rules before : List Rule) (place : ℕ) (names : List Text) (others : List Rule)
    → place + length names ≤ usize_max → Below before place
    → ((at : ℕ) → arg_by_index others at ≡ None) → rules ≡ before ++ (numbered place names ++ others)
    → ((id : Text) → is_among id names ≡ true → IsKnown rules id) → Reads rules place names
reads rules before place [] others few below none is known =
    ap (λ all. arg_by_index all place) is ∙ below place others (omega arith) ∙ none place
reads rules before place (name ∷ names) others few below none is known =
    let next : next_place place ≡ place + 1 = omega arith in
    let first = single name None (Some place) true in
    let rest = numbered (next_place place) names ++ others in (
      ap (λ all. arg_by_index all place) is ∙ below place (first ∷ rest) (omega arith) ∙ rw (same place) refl,
      known name (rw ((bytes_eq-Decides name name).1 refl) refl),
      rw next (reads rules (before ++ first ∷ []) (place + 1) names others (omega arith)
          (below_more before place name below) none
          (is ∙ rw next (sym (append_assoc before (first ∷ []) _)))
          (λ id among. known id (either (bytes_eq name id) _ among))),
    )
  where
    same : (n : ℕ) → eqb n n ≡ true
    same n = grind (arith, nat_tests)

    either : (a b : Bool) → b ≡ true → (a || b) ≡ true
    either true b e = refl
    either false b e = e

pub form_reads : (form : Form) → length form.positionals < usize_max → Reads (built_rules form) 1 form.positionals
form_reads form few =
    let others = named_rules form.options form.flags in
    reads (built_rules form) [] 1 form.positionals others (omega arith) (λ at rest le. refl)
    (no_index form.options form.flags) refl
    (λ id among. known_word 1 form.positionals others id among)
