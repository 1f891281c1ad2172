use Rattle.std.proofs.Common.{◌≡◌, ◌≢◌, Some, refl, arith}
use Rattle.rv_word.specs.declared.insn.AmoOp.{AmoOp}
use Rattle.rv_word.specs.declared.insn.AmoOp.TheVariants.{Swap, Add, Xor, And, Or, Min, Max, Minu, Maxu}
use Rattle.rv_word.specs.declared.insn.LoadWidth.{LoadWidth}
use Rattle.rv_word.specs.declared.insn.LoadWidth.TheVariants.{Byte, Half, Word, ByteU, HalfU}
use Rattle.rv_word.specs.declared.insn.StoreWidth.{StoreWidth}
use Rattle.rv_word.specs.declared.insn.StoreWidth.TheVariants.{Byte as StoreByte, Half as StoreHalf, Word as StoreWord}
use Rattle.rv_word.specs.declared.insn.Test.{Test}
use Rattle.rv_word.specs.declared.insn.Test.TheVariants.{Eq, Ne, Lt, Ge, Ltu, Geu}
use Rattle.rv_word.specs.Atomic.{amo_code, amo_at}
use Rattle.rv_word.specs.Comparison.{test_code, test_at}
use Rattle.rv_word.specs.Load.{load_code, load_width_at}
use Rattle.rv_word.specs.Store.{store_code, store_width_at}

-- each code is that of one operation
pub test_at-code : (test : Test) → test_at (test_code test) ≡ Some test
unfolding test_at
test_at-code Eq = refl
test_at-code Ne = refl
test_at-code Lt = refl
test_at-code Ge = refl
test_at-code Ltu = refl
test_at-code Geu = refl

pub load_width_at-code : (width : LoadWidth) → load_width_at (load_code width) ≡ Some width
unfolding load_width_at
load_width_at-code Byte = refl
load_width_at-code Half = refl
load_width_at-code Word = refl
load_width_at-code ByteU = refl
load_width_at-code HalfU = refl

pub store_width_at-code : (width : StoreWidth) → store_width_at (store_code width) ≡ Some width
unfolding store_width_at
store_width_at-code StoreByte = refl
store_width_at-code StoreHalf = refl
store_width_at-code StoreWord = refl

pub amo_at-code : (op : AmoOp) → amo_at (amo_code op) ≡ Some op
unfolding amo_at
amo_at-code Swap = refl
amo_at-code Add = refl
amo_at-code Xor = refl
amo_at-code And = refl
amo_at-code Or = refl
amo_at-code Min = refl
amo_at-code Max = refl
amo_at-code Minu = refl
amo_at-code Maxu = refl

-- and none is that of LR
pub amo_code-ne-lr : (op : AmoOp) → amo_code op ≢ 0b00010
amo_code-ne-lr Swap = omega arith
amo_code-ne-lr Add = omega arith
amo_code-ne-lr Xor = omega arith
amo_code-ne-lr And = omega arith
amo_code-ne-lr Or = omega arith
amo_code-ne-lr Min = omega arith
amo_code-ne-lr Max = omega arith
amo_code-ne-lr Minu = omega arith
amo_code-ne-lr Maxu = omega arith

-- and none is that of SC
pub amo_code-ne-sc : (op : AmoOp) → amo_code op ≢ 0b00011
amo_code-ne-sc Swap = omega arith
amo_code-ne-sc Add = omega arith
amo_code-ne-sc Xor = omega arith
amo_code-ne-sc And = omega arith
amo_code-ne-sc Or = omega arith
amo_code-ne-sc Min = omega arith
amo_code-ne-sc Max = omega arith
amo_code-ne-sc Minu = omega arith
amo_code-ne-sc Maxu = omega arith
