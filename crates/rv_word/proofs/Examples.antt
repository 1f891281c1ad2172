use Rattle.std.proofs.Common.{◌≡◌, pos, negsuc, None, refl}
use Rattle.rv_word.specs.Decoding.{decoded}
use Rattle.rv_word.specs.Field.{rd_of, rs1_of, rs2_of, funct5_of, reg_field}
use Rattle.rv_word.specs.Immediate.{imm_i, imm_s, imm_b, imm_u, imm_j}

-- words of the assembler, with the fields that it was given

-- jalr x1, -2048(x5)
jalr_offset : imm_i 0x800280e7 ≡ negsuc 2047
jalr_offset = refl

-- sw x15, -32(x2)
store_offset : imm_s 0xfef12023 ≡ negsuc 31
store_offset = refl

-- beq x10, x11, .+4094 and .-4096
branch_forwards : imm_b 0x7eb50fe3 ≡ pos 4094
branch_forwards = refl

branch_backwards : imm_b 0x80b50063 ≡ negsuc 4095
branch_backwards = refl

-- lui x31, 0xfffff
upper : imm_u 0xffffffb7 ≡ 0xfffff000
upper = refl

-- jal x1, .+349524 and .-1048576
jump_forwards : imm_j 0x554550ef ≡ pos 349524
jump_forwards = refl

jump_backwards : imm_j 0x800000ef ≡ negsuc 1048575
jump_backwards = refl

-- amomin.w x10, x25, (x26)
amo_target : (rd_of 0x819d252f).number ≡ 10
unfolding reg_field
amo_target = refl

amo_address : (rs1_of 0x819d252f).number ≡ 26
unfolding reg_field
amo_address = refl

amo_source : (rs2_of 0x819d252f).number ≡ 25
unfolding reg_field
amo_source = refl

amo_function : funct5_of 0x819d252f ≡ 0b10000
amo_function = refl

-- fence.i
fence_i : decoded 0x0000100f ≡ None
unfolding decoded
fence_i = refl
