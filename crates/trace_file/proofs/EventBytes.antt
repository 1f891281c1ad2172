-- Events as bytes.
use Rattle.std.proofs.Common.{◌≡◌, ℕ, zero, suc, ◌-◌, ◌≤◌, Bool, not, List, length, take, drop, get_or, ap, sym, ◌∙◌}
use Rattle.std.proofs.Common.{None, IsTrue, refl, arith}
use Rattle.std.specs.Prelude.{All, nat_lt}
use Rattle.std.specs.List.{position, position_or_len}
use Rattle.std.proofs.lemmas.List.Sums.{fails_before_first}
use Rattle.std.proofs.lemmas.Bool.{ltb-false, not-false}
use Rattle.std.proofs.lemmas.List.{take_rest}
use Rattle.std.proofs.Math.Seq.{take-length}
use Rattle.el_base.specs.Kinds.{kind_number}
use Rattle.el_base.specs.declared.events.Kind.{Kind}
use Rattle.el_base.specs.declared.events.Kind.TheVariants.{Step, Order, Serve, Deliver}
use Rattle.el_base.proofs.Laws.Options.{cond_none}
use Rattle.trace_file.specs.Codes.{kind_at}

-- where no element fails a test, each passes it
pub none_fails : (test : ℕ → Bool) (xs : List ℕ) → position (λ x. not (test x)) xs ≡ None →
    All (λ x. IsTrue (test x)) xs
none_fails test xs none k d within =
    let apart = cond_none (nat_lt (position_or_len (λ x. not (test x)) xs) (length xs)) _ _ none in
    let past : length xs ≤ position_or_len (λ x. not (test x)) xs = ltb-false _ _ apart.0 in
    not-false (test (get_or xs k d)) (fails_before_first (λ x. not (test x)) xs k d (omega arith))

pub all_taken : (count : ℕ) (xs : List ℕ) → length xs ≡ count → take count xs ≡ xs
all_taken count xs is = ap (λ (n : ℕ). take n xs) (sym is) ∙ take-length xs

-- a kind is that of its number
pub kind_back : (kind : Kind) → kind_at (kind_number kind) ≡ kind
unfolding kind_at
kind_back Step = refl
kind_back Order = refl
kind_back Serve = refl
kind_back Deliver = refl

-- a number up to 3 is that of its kind
pub kind_again : (n : ℕ) → n ≤ 3 → kind_number (kind_at n) ≡ n
unfolding kind_at
kind_again zero small = refl
kind_again (suc zero) small = refl
kind_again (suc (suc zero)) small = refl
kind_again (suc (suc (suc zero))) small = refl
kind_again (suc (suc (suc (suc n)))) small = absurd (omega arith)

-- all that is behind so many bytes
pub all_behind : (bytes : List ℕ) (count : ℕ) → take (length bytes - count) (drop count bytes) ≡ drop count bytes
all_behind bytes count = take_rest bytes count
