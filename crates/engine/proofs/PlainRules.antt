-- the rule of a step outside of a section, by what it touches and by the swap or the LR that it is
use Rattle.std.proofs.Common.{◌≡◌, ◌∙◌, ℕ, ◌<◌, Bool, true, false, List, length, Option, Some, None, refl, ap, sym}
use Rattle.std.proofs.Common.{subst}
use Rattle.std.specs.Prelude.{◌&&◌, if◌then◌else◌, not}
use Rattle.residency.specs.Cache.{letter_of}
use Rattle.cache_sets.specs.Cached.{Cached}
use Rattle.residency.specs.Residency.{Way}
use Rattle.cached_step.specs.CacheRun.{permitted}
use Rattle.core_step.specs.Run.{lacking}
use Rattle.el_base.specs.Line.{line_number}
use Rattle.el_base.specs.LineAddr.{line_addr}
use Rattle.el_base.specs.declared.outcomes.Need.{Need}
use Rattle.el_base.specs.declared.outcomes.Need.TheVariants.{Read, Write}
use Rattle.el_model.specs.Conflicts.{is_wanted_to_write}
use Rattle.el_model.specs.Plain.{Arms, Begins, Misses, PlainRule, Runs, elidable_reserve, elidable_swap, may_elide}
use Rattle.el_model.specs.Plain.{plain_rule, reserve_rule}
use Rattle.el_model.specs.Plain.{swap_rule}
use Rattle.el_model.specs.State.{ModelState, cache_of}
use Rattle.el_model.specs.Upcoming.{Swap, Touch, changes_word, next_reserved, next_swap, next_touch, touch_of}
use Rattle.engine.proofs.Misses.{freed_here}
use Rattle.engine.specs.Acting.{freed}
use Rattle.moesi.specs.Letters.{may_of, may_read}
use Rattle.rv_alu.specs.declared.footprint.Access.{Access}
use Rattle.rv_alu.specs.declared.footprint.Access.TheVariants as accesses
use Rattle.rv_flat.specs.FlatState.{view_of}
use Rattle.step_rules.proofs.Laws.Begins.{touching_same}
use Rattle.step_rules.specs.Rules.{touching_rule}

-- the same by a cache, and by which lines another hart waits to write
abbrev pub reserving_rule : List (List Way) → (ℕ → Bool) → Option Touch → Option ℕ → PlainRule
reserving_rule cache wanted touch None = touching_rule cache touch
reserving_rule cache wanted touch (Some word) =
    if may_read (letter_of cache (line_number word)) && not (wanted (line_number word)) then Arms word
    else touching_rule cache touch

abbrev pub swapping_rule : List (List Way) → (ℕ → Bool) → Option Touch → Option ℕ → Option Swap → PlainRule
swapping_rule cache wanted touch reserve None = reserving_rule cache wanted touch reserve
swapping_rule cache wanted touch reserve (Some swap) =
    if not (may_read (letter_of cache (line_number swap.word))) then Misses (line_number swap.word) Read
    else if not (changes_word swap) then touching_rule cache touch
    else if wanted (line_number swap.word) then Misses (line_number swap.word) Read
    else Begins swap

reserving_same : (state : ModelState) (h : ℕ) (reserve : Option ℕ) →
    reserve_rule state h reserve
    ≡ reserving_rule (cache_of state h) (λ line. is_wanted_to_write state h line) (next_touch state.committed h) reserve
reserving_same state h None = sym (touching_same state h (next_touch state.committed h))
reserving_same state h (Some word) =
    ap (λ rule. if may_read (letter_of (cache_of state h) (line_number word))
    && not (is_wanted_to_write state h (line_number word)) then Arms word
    else rule) (sym (touching_same state h (next_touch state.committed h)))

pub swapping_same : (state : ModelState) (h : ℕ) (swap : Option Swap) →
    swap_rule state h swap
    ≡ swapping_rule (cache_of state h) (λ line. is_wanted_to_write state h line) (next_touch state.committed h)
    (elidable_reserve state h) swap
swapping_same state h None = reserving_same state h (elidable_reserve state h)
swapping_same state h (Some swap) =
    ap (λ rule. if not (may_read (letter_of (cache_of state h) (line_number swap.word)))
    then Misses (line_number swap.word) Read
    else if not (changes_word swap) then rule
    else if is_wanted_to_write state h (line_number swap.word) then Misses (line_number swap.word) Read
    else Begins swap) (sym (touching_same state h (next_touch state.committed h)))

-- it is the same once the hart has given up what it held
pub freed_rule : (state : ModelState) (h : ℕ) → h < length state.harts →
    plain_rule (freed state h) h ≡ plain_rule state h
freed_rule state h below =
    swapping_same (freed state h) h (elidable_swap (freed state h) h)
    ∙ ap (λ hart.
    let trusted = may_elide state.config.mode hart (view_of state.committed h).pc in
    swapping_rule hart.cache (λ line. is_wanted_to_write state h line) (next_touch state.committed h)
    (if trusted then next_reserved state.committed h else None) (if trusted then next_swap state.committed h else None))
    (freed_here state h below)
    ∙ sym (swapping_same state h (elidable_swap state h))

-- where an LR runs as any instruction, what it touches may be touched
reserving_runs : (cache : List (List Way)) (wanted : ℕ → Bool) (touch : Option Touch) (reserve : Option ℕ)
    (t : Option Touch) → reserving_rule cache wanted touch reserve ≡ Runs t → touching_rule cache touch ≡ Runs t
reserving_runs cache wanted touch None t is = is
reserving_runs cache wanted touch (Some word) t is =
    by (may_read (letter_of cache (line_number word)) && not (wanted (line_number word))) is
  where
    by : (arms : Bool) → (if arms then Arms word else touching_rule cache touch) ≡ Runs t →
        touching_rule cache touch ≡ Runs t
    by true is = absurd (cc)
    by false is = is

-- where it runs, what it touches may be touched
pub runs_touch : (cache : List (List Way)) (wanted : ℕ → Bool) (touch : Option Touch) (reserve : Option ℕ)
    (swap : Option Swap) (t : Option Touch) → swapping_rule cache wanted touch reserve swap ≡ Runs t →
    touching_rule cache touch ≡ Runs t
runs_touch cache wanted touch reserve None t is = reserving_runs cache wanted touch reserve t is
runs_touch cache wanted touch reserve (Some swap) t is =
    by (may_read (letter_of cache (line_number swap.word))) (changes_word swap) (wanted (line_number swap.word)) is
  where
    by : (may changes waits : Bool) →
        (if not may then Misses (line_number swap.word) Read
        else if not changes then touching_rule cache touch
        else if waits then Misses (line_number swap.word) Read
        else Begins swap)
        ≡ Runs t →
        touching_rule cache touch ≡ Runs t
    by false changes waits is = absurd (cc)
    by true false waits is = is
    by true true true is = absurd (cc)
    by true true false is = absurd (cc)

pub same_touch : (cache : List (List Way)) (touch t : Option Touch) → touching_rule cache touch ≡ Runs t → t ≡ touch
same_touch cache None t is = of is
  where
    of : Runs None ≡ Runs t → t ≡ None
    of is = cc
same_touch cache (Some touch) t is = by (may_of (letter_of cache touch.line) touch.need) is
  where
    by : (may : Bool) → (if may then Runs (Some touch) else Misses touch.line touch.need) ≡ Runs t → t ≡ Some touch
    by true is = cc
    by false is = absurd (cc)

lacks_by : {A : Type 0} (may : Bool) (touch : Touch) (t : Option Touch) (want : A) →
    (if may then Runs (Some touch) else Misses touch.line touch.need) ≡ Runs t →
    (if may then None else Some want) ≡ None
lacks_by true touch t want is = refl
lacks_by false touch t want is = absurd (cc)

pub lacks_none : (cache : Cached) (access : Access) (t : Option Touch) →
    touching_rule cache.residency (touch_of access) ≡ Runs t → lacking (permitted cache) access ≡ None
lacks_none cache (accesses.Read from len) t is =
    lacks_by (permitted cache (line_number from) Read) (record { line = line_number from; need = Read }) t
    (record { line = line_addr (line_number from); need = Read }) is
lacks_none cache (accesses.Write from len) t is =
    lacks_by (permitted cache (line_number from) Write) (record { line = line_number from; need = Write }) t
    (record { line = line_addr (line_number from); need = Write }) is
lacks_none cache accesses.Nothing t is = refl
lacks_none cache (accesses.Trap cause) t is = refl
lacks_none cache (accesses.Exit code) t is = refl

-- where it misses, the line is the one that it touches, of which a swap touches its word's
abbrev pub TouchesWord : Option Swap → Option Touch → Type 0
TouchesWord None touch = Unit {0}
TouchesWord (Some swap) touch = touch ≡ Some (record { line = line_number swap.word; need = Write })

abbrev pub TouchesLine : Option Touch → ℕ → Type 0
TouchesLine None line = ⊥
TouchesLine (Some touch) line = touch.line ≡ line

touch_missed : (cache : List (List Way)) (touch : Option Touch) (line : ℕ) (need : Need) →
    touching_rule cache touch ≡ Misses line need → TouchesLine touch line
touch_missed cache None line need is = absurd (of is)
  where
    of : Runs None ≡ Misses line need → ⊥
    of is = cc
touch_missed cache (Some touch) line need is = by (may_of (letter_of cache touch.line) touch.need) is
  where
    by : (may : Bool) → (if may then Runs (Some touch) else Misses touch.line touch.need) ≡ Misses line need →
        touch.line ≡ line
    by true is = absurd (cc)
    by false is = cc

reserve_missed : (cache : List (List Way)) (wanted : ℕ → Bool) (touch : Option Touch) (reserve : Option ℕ) (line : ℕ)
    (need : Need) → reserving_rule cache wanted touch reserve ≡ Misses line need → TouchesLine touch line
reserve_missed cache wanted touch None line need is = touch_missed cache touch line need is
reserve_missed cache wanted touch (Some word) line need is =
    by (may_read (letter_of cache (line_number word)) && not (wanted (line_number word))) is
  where
    by : (arms : Bool) → (if arms then Arms word else touching_rule cache touch) ≡ Misses line need →
        TouchesLine touch line
    by true is = absurd (cc)
    by false is = touch_missed cache touch line need is

pub misses_touch : (cache : List (List Way)) (wanted : ℕ → Bool) (touch : Option Touch) (reserve : Option ℕ)
    (swap : Option Swap)
    (line : ℕ) (need : Need) →
    TouchesWord swap touch → swapping_rule cache wanted touch reserve swap ≡ Misses line need → TouchesLine touch line
misses_touch cache wanted touch reserve None line need word is = reserve_missed cache wanted touch reserve line need is
misses_touch cache wanted touch reserve (Some swap) line need word is =
    by (may_read (letter_of cache (line_number swap.word))) (changes_word swap) (wanted (line_number swap.word)) is
  where
    own : Misses (line_number swap.word) Read ≡ Misses line need → TouchesLine touch line
    own is = subst (λ t. TouchesLine t line) (sym word) (of is)
      where
        of : Misses (line_number swap.word) Read ≡ Misses line need → line_number swap.word ≡ line
        of is = cc

    by : (may changes waits : Bool) →
        (if not may then Misses (line_number swap.word) Read
        else if not changes then touching_rule cache touch
        else if waits then Misses (line_number swap.word) Read
        else Begins swap)
        ≡ Misses line need →
        TouchesLine touch line
    by false changes waits is = own is
    by true false waits is = touch_missed cache touch line need is
    by true true true is = own is
    by true true false is = absurd (cc)

-- where a section begins, it does so at the swap, whose line may be read
pub record BeginsAt (cache : List (List Way)) (found : Option Swap) (swap : Swap) : Type 0 where
  pub found_is : found ≡ Some swap
  pub may : may_read (letter_of cache (line_number swap.word)) ≡ true

-- what only touches a line neither begins nor arms
pub data IsPlainDeed : PlainRule → Type 0 where
  RunsSo : (touch : Option Touch) → IsPlainDeed (Runs touch)
  MissesSo : (line : ℕ) (need : Need) → IsPlainDeed (Misses line need)

touching_plain : (cache : List (List Way)) (touch : Option Touch) → IsPlainDeed (touching_rule cache touch)
touching_plain cache None = RunsSo None
touching_plain cache (Some touch) = by (may_of (letter_of cache touch.line) touch.need)
  where
    by : (may : Bool) → IsPlainDeed (if may then Runs (Some touch) else Misses touch.line touch.need)
    by true = RunsSo (Some touch)
    by false = MissesSo touch.line touch.need

never_begins : (cache : List (List Way)) (touch : Option Touch) (swap : Swap) →
    touching_rule cache touch ≡ Begins swap → ⊥
never_begins cache touch swap is = by (touching_rule cache touch) (touching_plain cache touch) is
  where
    by : (rule : PlainRule) → IsPlainDeed rule → rule ≡ Begins swap → ⊥
    by (Runs touch) plain is = cc
    by (Misses line need) plain is = cc
    by (Begins swap) plain is = elim plain [ ]
    by (Arms word) plain is = elim plain [ ]

never_arms : (cache : List (List Way)) (touch : Option Touch) (word : ℕ) → touching_rule cache touch ≡ Arms word → ⊥
never_arms cache touch word is = by (touching_rule cache touch) (touching_plain cache touch) is
  where
    by : (rule : PlainRule) → IsPlainDeed rule → rule ≡ Arms word → ⊥
    by (Runs touch) plain is = cc
    by (Misses line need) plain is = cc
    by (Begins swap) plain is = elim plain [ ]
    by (Arms word) plain is = elim plain [ ]

reserve_never_begins : (cache : List (List Way)) (wanted : ℕ → Bool) (touch : Option Touch) (reserve : Option ℕ)
    (swap : Swap) → reserving_rule cache wanted touch reserve ≡ Begins swap → ⊥
reserve_never_begins cache wanted touch None swap is = never_begins cache touch swap is
reserve_never_begins cache wanted touch (Some word) swap is =
    by (may_read (letter_of cache (line_number word)) && not (wanted (line_number word))) is
  where
    by : (arms : Bool) → (if arms then Arms word else touching_rule cache touch) ≡ Begins swap → ⊥
    by true is = cc
    by false is = never_begins cache touch swap is

pub begins_swap : (cache : List (List Way)) (wanted : ℕ → Bool) (touch : Option Touch) (reserve : Option ℕ)
    (found : Option Swap) (swap : Swap) → swapping_rule cache wanted touch reserve found ≡ Begins swap →
    BeginsAt cache found swap
begins_swap cache wanted touch reserve None swap is = absurd (reserve_never_begins cache wanted touch reserve swap is)
begins_swap cache wanted touch reserve (Some found) swap is =
    by (may_read (letter_of cache (line_number found.word))) (changes_word found)
    (wanted (line_number found.word)) refl is
  where
    by : (may changes waits : Bool) → may_read (letter_of cache (line_number found.word)) ≡ may →
        (if not may then Misses (line_number found.word) Read
        else if not changes then touching_rule cache touch
        else if waits then Misses (line_number found.word) Read
        else Begins found)
        ≡ Begins swap →
        BeginsAt cache (Some found) swap
    by false changes waits readable is = absurd (cc)
    by true false waits readable is = absurd (never_begins cache touch swap is)
    by true true true readable is = absurd (cc)
    by true true false readable is =
        let same = of is in
        record {
          found_is = ap Some same;
          may = ap (λ s. may_read (letter_of cache (line_number s.word))) (sym same) ∙ readable;
        }
      where
        of : Begins found ≡ Begins swap → found ≡ swap
        of is = cc

-- where a hart arms, it does so at the LR, whose line may be read
pub record ArmsAt (cache : List (List Way)) (reserve : Option ℕ) (word : ℕ) : Type 0 where
  pub reserve_is : reserve ≡ Some word
  pub may : may_read (letter_of cache (line_number word)) ≡ true

reserve_arms : (cache : List (List Way)) (wanted : ℕ → Bool) (touch : Option Touch) (reserve : Option ℕ) (word : ℕ) →
    reserving_rule cache wanted touch reserve ≡ Arms word → ArmsAt cache reserve word
reserve_arms cache wanted touch None word is = absurd (never_arms cache touch word is)
reserve_arms cache wanted touch (Some found) word is =
    by (may_read (letter_of cache (line_number found))) (not (wanted (line_number found))) refl is
  where
    of : Arms found ≡ Arms word → found ≡ word
    of is = cc

    by : (may unwanted : Bool) → may_read (letter_of cache (line_number found)) ≡ may →
        (if may && unwanted then Arms found else touching_rule cache touch) ≡ Arms word → ArmsAt cache (Some found) word
    by true true readable is =
        let same = of is in
        record {
          reserve_is = ap Some same;
          may = ap (λ w. may_read (letter_of cache (line_number w))) (sym same) ∙ readable;
        }
    by true false readable is = absurd (never_arms cache touch word is)
    by false unwanted readable is = absurd (never_arms cache touch word is)

pub arms_word : (cache : List (List Way)) (wanted : ℕ → Bool) (touch : Option Touch) (reserve : Option ℕ)
    (found : Option Swap) (word : ℕ) → swapping_rule cache wanted touch reserve found ≡ Arms word →
    ArmsAt cache reserve word
arms_word cache wanted touch reserve None word is = reserve_arms cache wanted touch reserve word is
arms_word cache wanted touch reserve (Some found) word is =
    by (may_read (letter_of cache (line_number found.word))) (changes_word found) (wanted (line_number found.word)) is
  where
    by : (may changes waits : Bool) →
        (if not may then Misses (line_number found.word) Read
        else if not changes then touching_rule cache touch
        else if waits then Misses (line_number found.word) Read
        else Begins found)
        ≡ Arms word →
        ArmsAt cache reserve word
    by false changes waits is = absurd (cc)
    by true false waits is = absurd (never_arms cache touch word is)
    by true true true is = absurd (cc)
    by true true false is = absurd (cc)
