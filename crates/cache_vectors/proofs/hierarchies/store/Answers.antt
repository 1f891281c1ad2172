use Rattle.std.proofs.Common.{◌≡◌, ◌∙◌, ◌<◌, ◌%◌, ℕ, List, None, Option, Some, ap, arith, length, refl, subst, sym}
use Rattle.std.proofs.Common.{true}
use Rattle.std.specs.Prelude.{IfSome, IsNone, slice_index, slice_set}
use Rattle.std.proofs.lemmas.Bool.{eq-eqb}
use Rattle.std.proofs.lemmas.List.{get_or-set_same}
use Rattle.residency.specs.Cache.{is_resident}
use Rattle.cache_sets.specs.Cached.{Cached, bytes_of}
use Rattle.cache_sets.specs.Slotted.{lent}
use Rattle.coherence.specs.Caches.{cache_at}
use Rattle.coherence.specs.GivenBack.{bytes_with}
use Rattle.coherence.specs.Lent.{slotted_at}
use Rattle.coherence.specs.Served.{HasLine, shown_copies}
use Rattle.coherence.proofs.Laws.GivenBackLaws.{copy_tells, writable_there}
use Rattle.coherence.proofs.Laws.Offered.{lent_at}
use Rattle.cache_vectors.proofs.hierarchies.store.Goals as goal
use Rattle.el_base.specs.Line.{line_number}

-- the byte that was put is found again
put_and_found : (result : Option ℕ) (row : List ℕ) (at byte : ℕ) → (IsNone result → ⊥) →
    IfSome result (λ found. found ≡ slice_index (slice_set row at byte) at) → at < length row → result ≡ Some byte
put_and_found None row at byte some is within = absurd (some refl)
put_and_found (Some found) row at byte some is within = ap Some (is ∙ get_or-set_same row at byte 0 within)

bytes_there : (bytes : ℕ → List ℕ) (line l : ℕ) (new : List ℕ) → l ≡ line → bytes_with bytes line new l ≡ new
bytes_there bytes line l new same = rw (eq-eqb l line same) refl

pub returns-clause-there : goal.returns-clause-there
returns-clause-there c =
    let coherent = c.requires.coherent in
    let memory = c.args.memory.now in
    let caches = memory.hierarchy.caches.items in
    let old = shown_copies memory.pool memory.hierarchy in
    let h = c.args.hart.number in
    let cache = cache_at old.caches h in
    let here = line_number c.args.address in
    let line = c.line_of.result.number in
    let at = c.args.address % 64 in
    let new = slice_set (coherent.bytes line) at c.args.byte in
    let is : lent memory.pool (slotted_at caches h) ≡ cache = sym (lent_at memory.pool caches h) in
    let resident : is_resident cache.residency here ≡ true =
    subst (λ (cached : Cached). is_resident cached.residency here ≡ true) is
    (writable_there (lent memory.pool (slotted_at caches h)) here c.requires.may) in
    let has : HasLine (shown_copies c.put.new.memory.pool c.put.new.memory.hierarchy) here =
    rw (c.put.ensures.place.0, c.put.ensures.place.1) (coherent.tells.inside h here resident) in
    let told =
    ap (λ cached. bytes_of cached line) is
    ∙ copy_tells old h line coherent.bytes coherent.tells (rw c.line_of.ensures resident) in
    put_and_found c.byte.result (coherent.bytes line) at c.args.byte
    (λ none. c.byte.ensures.none_exactly_outside.0 none has)
    (subst (λ row. IfSome c.byte.result (λ found. found ≡ slice_index row at))
    (bytes_there coherent.bytes line here new (sym c.line_of.ensures))
    (c.byte.ensures.exact _ (c.put.ensures.tells coherent.bytes coherent.tells)))
    (omega (arith, c.put.ensures.long, ap length told))
