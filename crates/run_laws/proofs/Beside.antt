-- what the steps of one hart change beside another: a step of its own, and a section that commits
use Rattle.std.proofs.Common.{◌≡◌, ◌≢◌, ◌≤◌, ◌<◌, ◌+◌, ◌-◌, ◌∙◌, ℕ, zero, suc, Bool, true, false, List, [], Some}
use Rattle.std.proofs.Common.{length, arith, refl, ap, sym, subst}
use Rattle.std.proofs.Common.{inl, inr, ◌⊎◌}
use Rattle.std.specs.Prelude.{nat_lt, slice_index}
use Rattle.std.proofs.lemmas.Bool.{ltb-false, ltb-true}
use Rattle.residency.specs.Cache.{has_bit, write_bit}
use Rattle.residency.specs.Residency.{Way}
use Rattle.el_base.specs.Line.{line_number}
use Rattle.el_base.specs.declared.outcomes.Need.TheVariants as needs
use Rattle.el_base.proofs.Laws.Cases.{not_both}
use Rattle.el_model.specs.State.{Armed, Section}
use Rattle.el_model.specs.Upcoming.{next_touch}
use Rattle.rv_alu.specs.Loaded.{loaded}
use Rattle.rv_alu.specs.declared.footprint.Access.{Access}
use Rattle.rv_alu.specs.declared.footprint.Access.TheVariants.{Nothing, Read, Write, Trap, Exit}
use Rattle.rv_alu.specs.declared.view.HartStatus.TheVariants.{Running}
use Rattle.rv_alu.specs.declared.view.HartView.{HartView}
use Rattle.rv_flat.proofs.Laws.StepLaws.{keeps_others, keeps_shape}
use Rattle.rv_flat.specs.FlatState.{FlatState, status_of, view_of}
use Rattle.rv_flat.specs.Laws.{footprint_of, seen_after}
use Rattle.rv_flat.specs.Memory.{AreBytes, byte_in, put_bytes}
use Rattle.rv_flat.specs.Run.{alone}
use Rattle.rv_flat.specs.Step.{flat}
use Rattle.run_laws.proofs.Laws.Bits.{KeepsBits, covered_kept, same_bits}
use Rattle.run_laws.proofs.Laws.Restored.{put_back}
use Rattle.run_laws.proofs.Laws.Shown.{keeps_line, keeps_outside, puts_word, unwritten_shown, word_there}
use Rattle.run_laws.proofs.Laws.Alike.{alone_base, alone_more}
use Rattle.run_laws.proofs.Laws.Reserving.{acquires_at, armed_memory}
use Rattle.run_laws.proofs.Laws.WordStores.{StoresWord}
use Rattle.run_laws.specs.PrivateRun.{IsArmedRun, IsOutsideWord, IsChangeBeside, IsCoveredRun}

-- where no line has a bit, a change beside a hart is one of its reservation alone
abbrev IsSeenBeside : ℕ → FlatState → FlatState → Type 0
IsSeenBeside g old new = IsChangeBeside g [] old new

seen_shape : (access : Access) (view : HartView) →
    seen_after access view ≡ record view { reserved = (seen_after access view).reserved }
seen_shape (Write from len) view = refl
seen_shape (Read from len) view = refl
seen_shape Nothing view = refl
seen_shape (Trap cause) view = refl
seen_shape (Exit code) view = refl

pub same_beside : (g : ℕ) (cache : List (List Way)) (state : FlatState) → IsChangeBeside g cache state state
same_beside g cache state =
    record { base = refl; code = refl; size = refl; harts = refl; view = refl; bytes = λ place bit. refl }

seen_flat : (state : FlatState) (h g : ℕ) → g ≢ h → IsSeenBeside g state (flat state h)
seen_flat state h g apart =
    let shape = keeps_shape state h in
    let seen = keeps_others state h g apart in
    record {
      base = shape.base;
      code = shape.code;
      size = shape.length_of_bytes;
      harts = shape.harts;
      view =
          seen ∙ seen_shape (footprint_of state h) (view_of state g)
          ∙ ap {A = HartView} (λ view. record (view_of state g) { reserved = view.reserved }) (sym seen);
      bytes = λ place bit. absurd (cc);
    }

-- one change after another, where the bits that there were are kept
pub beside_twice : (g : ℕ) (cache later : List (List Way)) (one two three : FlatState) → KeepsBits cache later →
    IsChangeBeside g cache one two → IsChangeBeside g later two three → IsChangeBeside g cache one three
beside_twice g cache later one two three keeps first second = record {
  base = second.base ∙ first.base;
  code = second.code ∙ first.code;
  size = second.size ∙ first.size;
  harts = second.harts ∙ first.harts;
  view = second.view ∙ ap {A = HartView} (λ view. record view { reserved = (view_of three g).reserved }) first.view;
  bytes = λ place bit.
      second.bytes place
      (ap (λ base. has_bit later (line_number (base + place))) first.base
      ∙ covered_kept cache later (line_number (one.base + place)) needs.Read
      (keeps (line_number (one.base + place))) bit)
      ∙ first.bytes place bit;
}

seen_alone : (state : FlatState) (h g n : ℕ) → g ≢ h → IsSeenBeside g state (alone state h n)
seen_alone state h g zero apart = same_beside g [] state
seen_alone state h g (suc n) apart =
    beside_twice g [] [] state (flat state h) (alone state h (suc n)) (same_bits []) (seen_flat state h g apart)
    (seen_alone (flat state h) h g n apart)

-- the bytes on the lines with bits, beside all that
with_bytes : (g : ℕ) (cache : List (List Way)) (old new : FlatState) → IsSeenBeside g old new →
    ((place : ℕ) → has_bit cache (line_number (old.base + place)) ≡ true →
    slice_index new.bytes place ≡ slice_index old.bytes place) → IsChangeBeside g cache old new
with_bytes g cache old new seen bytes = record {
  base = seen.base;
  code = seen.code;
  size = seen.size;
  harts = seen.harts;
  view = seen.view;
  bytes = bytes;
}

-- a step writes no line with a bit of the other hart
abbrev pub WritesElsewhere : FlatState → ℕ → List (List Way) → Type 0
WritesElsewhere state h cache =
    (line : ℕ) → next_touch state h ≡ Some (record { line = line; need = needs.Write }) → has_bit cache line ≡ false

pub step_beside : (state : FlatState) (h g : ℕ) (cache : List (List Way)) → g ≢ h → status_of state h ≡ Running →
    WritesElsewhere state h cache → IsChangeBeside g cache state (flat state h)
step_beside state h g cache apart runs elsewhere =
    with_bytes g cache state (flat state h) (seen_flat state h g apart)
    (λ place bit. keeps_line state h place runs
    (λ touch. not_both bit (elsewhere (line_number (state.base + place)) touch)))

-- an armed run that takes effect, or part of it, changes no memory
pub armed_beside : (state : FlatState) (h g : ℕ) (own other : List (List Way)) (armed : Armed) (n : ℕ) → g ≢ h →
    IsArmedRun state h own armed → n ≤ armed.count → IsChangeBeside g other state (alone state h n)
armed_beside state h g own other armed n apart run within =
    with_bytes g other state (alone state h n) (seen_alone state h g n apart)
    (λ place bit. ap (λ bytes. slice_index bytes place) (armed_memory state h own armed run n within))

in_word : (word address : ℕ) → ((word ≤ address) × (address < word + 4)) ⊎ IsOutsideWord word address
in_word word address = by (nat_lt address word) (nat_lt address (word + 4)) refl refl
  where
    by : (below within : Bool) → nat_lt address word ≡ below → nat_lt address (word + 4) ≡ within →
        ((word ≤ address) × (address < word + 4)) ⊎ IsOutsideWord word address
    by true within is_below is_within =
        let less = ltb-true address word is_below in inr (λ low high. absurd (omega arith))
    by false true is_below is_within = inl (ltb-false address word is_below, ltb-true address (word + 4) is_within)
    by false false is_below is_within =
        let past = ltb-false address (word + 4) is_within in inr (λ low high. absurd (omega arith))

-- the release of a section leaves in the lock word what was there before the acquire
module _ (committed : FlatState) (h g : ℕ) (own other : List (List Way)) (section : Section) (apart : g ≢ h)
    (run : IsCoveredRun committed h own section)
    (release : StoresWord (alone committed h section.count) h section.word section.old)
    (bytes : AreBytes committed.bytes)
    (separate : (line : ℕ) → write_bit own line ≡ true → has_bit other line ≡ false) where
  old_is : section.old ≡ loaded (byte_in committed.base committed.bytes) section.word 4
  old_is = (acquires_at committed h own run.before _ run.acquire).old

  released_bytes : (flat (alone committed h section.count) h).bytes
      ≡ put_bytes (alone committed h section.count).bytes (section.word - committed.base) 4
      (loaded (byte_in committed.base committed.bytes) section.word 4)
  released_bytes =
      let before = alone committed h section.count in
      puts_word before h section.word section.old (run.running section.count (omega arith)) release
      ∙ ap (λ base. put_bytes before.bytes (section.word - base) 4 section.old) (alone_base committed h section.count)
      ∙ ap (put_bytes before.bytes (section.word - committed.base) 4) old_is

  unwritten : (line : ℕ) (wrote : Bool) → write_bit own line ≡ wrote → has_bit other line ≡ true → wrote ≡ false
  unwritten line true is bit = not_both bit (separate line is)
  unwritten line false is bit = refl

  final : (place : ℕ) → has_bit other (line_number (committed.base + place)) ≡ true →
      ((section.word ≤ committed.base + place) × (committed.base + place < section.word + 4))
      ⊎ IsOutsideWord section.word (committed.base + place) →
      slice_index (flat (alone committed h section.count) h).bytes place ≡ slice_index committed.bytes place
  final place bit (inl (low, high)) =
      let piece = word_there committed h own section run in
      let base : committed.base ≤ section.word = piece.from_base in
      let end : section.word + 4 ≤ committed.base + length committed.bytes = piece.before_end in
      let size = (seen_alone committed h g section.count apart).size in
      ap (λ bytes. slice_index bytes place) released_bytes
      ∙ put_back (alone committed h section.count).bytes committed.bytes committed.base section.word
      (section.word - committed.base) 4 place
      (omega arith) bytes size (omega (arith, size)) (omega arith) (omega arith)
  final place bit (inr outside) =
      let line = line_number (committed.base + place) in
      keeps_outside (alone committed h section.count) h section.word section.old place
      (run.running section.count (omega arith)) release
      (subst (λ base. IsOutsideWord section.word (base + place)) (sym (alone_base committed h section.count)) outside)
      ∙ unwritten_shown committed h own section run place (unwritten line (write_bit own line) refl bit) outside

  pub commit_beside : IsChangeBeside g other committed (alone committed h (section.count + 1))
  commit_beside =
      with_bytes g other committed (alone committed h (section.count + 1))
      (seen_alone committed h g (section.count + 1) apart)
      (λ place bit. rw (alone_more committed h section.count)
      (final place bit (in_word section.word (committed.base + place))))
