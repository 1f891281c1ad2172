-- The bytes of the entries of a history.
use Rattle.std.proofs.Common.{◌≡◌, ◌<◌, ◌≤◌, ℕ, suc, ◌+◌, ◌*◌, ◌-◌, List, [], ◌∷◌, ◌++◌, length, take, drop, Some, refl}
use Rattle.std.proofs.Common.{sym, ap, ◌∙◌, append_assoc, arith}
use Rattle.std.specs.List.{slice_get}
use Rattle.std.proofs.lemmas.List.{append-nil, drop-append-le, drop_all, length-append, length-drop, length-take-le}
use Rattle.std.proofs.lemmas.List.{take-append-drop, take-take, take_all}
use Rattle.std.proofs.lemmas.Option.{slice_get_within}
use Rattle.el_base.specs.declared.entries.Entry.{Entry}
use Rattle.el_base.specs.declared.outcomes.Outcome.{Outcome}
use Rattle.el_base.specs.declared.outcomes.Outcome.TheVariants.{Idle, Stalled, Missed, Ran, Began, Buffered, Committed}
use Rattle.el_base.specs.declared.outcomes.Outcome.TheVariants.{RolledBack, Ordered, Served}
use Rattle.el_base.specs.declared.outcomes.Outcome.TheVariants.{Blocked, Delivered, Armed, LetGo}
use Rattle.el_base.proofs.Laws.ListLaws.{take_next}
use Rattle.trace_file.specs.Outcomes.{outcome_spelling}
use Rattle.trace_file.specs.Spelling.{entry_bytes}
use Rattle.trace_file.specs.Stretches.{between, bytes_of}

bytes-append : (front back : List Entry) → bytes_of (front ++ back) ≡ bytes_of front ++ bytes_of back
bytes-append [] back = refl
bytes-append (first ∷ front) back =
    ap (λ (l : List ℕ). entry_bytes first.event first.outcome ++ l) (bytes-append front back)
    ∙ sym (append_assoc (entry_bytes first.event first.outcome) (bytes_of front) (bytes_of back))

-- ---- between two places

-- there is nothing between a place and itself
pub none_between : (from : ℕ) (entries : List Entry) → from ≤ length entries →
    bytes_of (between from from entries) ≡ []
none_between from entries inside =
    ap bytes_of (drop_all from (take from entries) (omega (arith, length-take-le from entries inside)))

-- the bytes of one more entry
pub one_more : (from place : ℕ) (entries : List Entry) (entry : Entry) →
    slice_get entries place ≡ Some entry → from ≤ place →
    bytes_of (between from (place + 1) entries)
    ≡ bytes_of (between from place entries) ++ entry_bytes entry.event entry.outcome
one_more from place entries entry found behind =
    let next : place + 1 ≡ suc place = omega arith in
    let within = slice_get_within entries place entry found in
    let long = length-take-le place entries (omega (arith, within)) in
    ap (λ (n : ℕ). bytes_of (between from n entries)) next
    ∙ ap (λ (l : List Entry). bytes_of (drop from l)) (take_next entries place entry found)
    ∙ ap bytes_of (drop-append-le from (take place entries) (entry ∷ []) (omega (arith, long)))
    ∙ bytes-append (drop from (take place entries)) (entry ∷ [])
    ∙ ap (λ (l : List ℕ). bytes_of (between from place entries) ++ l)
    (append-nil (entry_bytes entry.event entry.outcome))

-- two stretches, one behind the other
pub joined : (from middle to : ℕ) (entries : List Entry) → from ≤ middle → middle ≤ to → to ≤ length entries →
    bytes_of (between from to entries) ≡ bytes_of (between from middle entries) ++ bytes_of (between middle to entries)
joined from middle to entries first second inside =
    let parts = take-append-drop middle (take to entries) in
    let front = take-take middle to entries second in
    let long = length-take-le middle entries (omega arith) in
    ap (λ (l : List Entry). bytes_of (drop from l)) (sym parts)
    ∙ ap (λ (l : List Entry). bytes_of (drop from (l ++ between middle to entries))) front
    ∙ ap bytes_of (drop-append-le from (take middle entries) (between middle to entries) (omega (arith, long)))
    ∙ bytes-append (between from middle entries) (between middle to entries)

-- ---- lengths

pub longer : (from place : ℕ) (entries : List Entry) (entry : Entry) (before after : ℕ) →
    slice_get entries place ≡ Some entry → from ≤ place →
    before ≡ length (bytes_of (between from place entries)) →
    after ≡ before + (1 + length (outcome_spelling entry.outcome)) →
    after ≡ length (bytes_of (between from (place + 1) entries))
longer from place entries entry before after found behind is next =
    let more = ap length (one_more from place entries entry found behind) in
    let parts = length-append (bytes_of (between from place entries)) (entry_bytes entry.event entry.outcome) in
    omega (arith, is, next, more, parts)

-- the bytes between two places have room for those before a third one between them, and for those of the entry there
pub has_room : (from place to : ℕ) (entries : List Entry) (entry : Entry) → slice_get entries place ≡ Some entry →
    from ≤ place → place < to → to ≤ length entries →
    length (bytes_of (between from place entries)) + length (entry_bytes entry.event entry.outcome)
    ≤ length (bytes_of (between from to entries))
has_room from place to entries entry found behind before inside =
    let more = ap length (one_more from place entries entry found behind) in
    let parts = length-append (bytes_of (between from place entries)) (entry_bytes entry.event entry.outcome) in
    let whole = ap length (joined from (place + 1) to entries (omega arith) (omega arith) inside) in
    let rest =
    length-append (bytes_of (between from (place + 1) entries)) (bytes_of (between (place + 1) to entries)) in
    omega (arith, more, parts, whole, rest)

one_at_least : (outcome : Outcome) → 1 ≤ length (outcome_spelling outcome)
one_at_least Idle = omega arith
one_at_least Stalled = omega arith
one_at_least (Missed line need) = omega arith
one_at_least Ran = omega arith
one_at_least Began = omega arith
one_at_least Buffered = omega arith
one_at_least (Committed count) = omega arith
one_at_least (RolledBack cause) = omega arith
one_at_least (Ordered losers freed) = omega arith
one_at_least (Served losers freed) = omega arith
one_at_least (Blocked why by) = omega arith
one_at_least (Delivered losers) = omega arith
one_at_least Armed = omega arith
one_at_least (LetGo count) = omega arith

two_each : (entries : List Entry) → 2 * length entries ≤ length (bytes_of entries)
two_each [] = omega arith
two_each (first ∷ entries) =
    let parts = length-append (entry_bytes first.event first.outcome) (bytes_of entries) in
    omega (arith, parts, one_at_least first.outcome, two_each entries)

two_each_between : (from to : ℕ) (entries : List Entry) → from ≤ to → to ≤ length entries →
    2 * (to - from) ≤ length (bytes_of (between from to entries))
two_each_between from to entries order inside =
    let long = length-drop from (take to entries) in
    let front = length-take-le to entries inside in
    omega (arith, long, front, two_each (between from to entries))

-- where the bytes are two for each entry, each outcome is its code alone
pub is_brief : (from place to : ℕ) (entries : List Entry) (entry : Entry) → slice_get entries place ≡ Some entry →
    from ≤ place → place < to → to ≤ length entries → length (bytes_of (between from to entries)) ≡ 2 * (to - from) →
    length (outcome_spelling entry.outcome) ≡ 1
is_brief from place to entries entry found behind before inside brief =
    let more = ap length (one_more from place entries entry found behind) in
    let parts = length-append (bytes_of (between from place entries)) (entry_bytes entry.event entry.outcome) in
    let whole = ap length (joined from (place + 1) to entries (omega arith) (omega arith) inside) in
    let rest =
    length-append (bytes_of (between from (place + 1) entries)) (bytes_of (between (place + 1) to entries)) in
    let front = two_each_between from place entries behind (omega arith) in
    let back = two_each_between (place + 1) to entries (omega arith) inside in
    let some = one_at_least entry.outcome in
    omega (arith, more, parts, whole, rest, front, back, some)

-- the bytes of all entries
pub whole : (entries : List Entry) → bytes_of (between 0 (length entries) entries) ≡ bytes_of entries
whole entries = ap bytes_of (take_all (length entries) entries (omega arith))

-- the bytes of all entries have room for those before a place and for those of a stretch from there on
pub has_room_for : (middle to : ℕ) (entries : List Entry) → middle ≤ to → to ≤ length entries →
    length (bytes_of (between 0 middle entries)) + length (bytes_of (between middle to entries))
    ≤ length (bytes_of entries)
has_room_for middle to entries order inside =
    let front = ap length (joined 0 middle to entries (omega arith) order inside) in
    let parts = length-append (bytes_of (between 0 middle entries)) (bytes_of (between middle to entries)) in
    let all = ap length (joined 0 to (length entries) entries (omega arith) inside (omega arith)) in
    let rest = length-append (bytes_of (between 0 to entries)) (bytes_of (between to (length entries) entries)) in
    let same = ap length (whole entries) in
    omega (arith, front, parts, all, rest, same)

-- ---- bytes that stood before

-- what stood before, and the entries so far with the next one
pub grown : (front before after : List ℕ) (from place : ℕ) (entries : List Entry) (entry : Entry) →
    slice_get entries place ≡ Some entry → from ≤ place →
    before ≡ front ++ bytes_of (between from place entries) →
    after ≡ before ++ entry_bytes entry.event entry.outcome →
    after ≡ front ++ bytes_of (between from (place + 1) entries)
grown front before after from place entries entry found behind so-far next =
    next
    ∙ ap (λ (l : List ℕ). l ++ entry_bytes entry.event entry.outcome) so-far
    ∙ append_assoc front (bytes_of (between from place entries)) (entry_bytes entry.event entry.outcome)
    ∙ ap (λ (l : List ℕ). front ++ l) (sym (one_more from place entries entry found behind))

-- what stood before, and two stretches, one behind the other
pub grown_by : (front before after : List ℕ) (from middle to : ℕ) (entries : List Entry) →
    from ≤ middle → middle ≤ to → to ≤ length entries →
    before ≡ front ++ bytes_of (between from middle entries) →
    after ≡ before ++ bytes_of (between middle to entries) →
    after ≡ front ++ bytes_of (between from to entries)
grown_by front before after from middle to entries first second inside so-far next =
    next
    ∙ ap (λ (l : List ℕ). l ++ bytes_of (between middle to entries)) so-far
    ∙ append_assoc front (bytes_of (between from middle entries)) (bytes_of (between middle to entries))
    ∙ ap (λ (l : List ℕ). front ++ l) (sym (joined from middle to entries first second inside))
