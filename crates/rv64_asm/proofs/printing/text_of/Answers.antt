use Rattle.rv64_asm.specs.Shown.{shown}
use Rattle.rv64_asm.proofs.printing.text_of.Goals as goal

pub returns-in-Lui-clause-text : goal.returns-in-Lui-clause-text
unfolding shown
returns-in-Lui-clause-text g c = rw (c.in-Lui.is, ← c.value.ensures.same, ← c.into.ensures) c.with_hex.ensures.text

pub returns-in-Lui-clause-ranged : goal.returns-in-Lui-clause-ranged
returns-in-Lui-clause-ranged g c = rw c.in-Lui.is (c.with_hex.ensures.a, rw c.value.ensures.same at c.value.ensures.in_range)

pub returns-in-Auipc-clause-text : goal.returns-in-Auipc-clause-text
unfolding shown
returns-in-Auipc-clause-text g c = rw (c.in-Auipc.is, ← c.value-in-Auipc.ensures.same, ← c.into-in-Auipc.ensures) c.with_hex-in-Auipc.ensures.text

pub returns-in-Auipc-clause-ranged : goal.returns-in-Auipc-clause-ranged
returns-in-Auipc-clause-ranged g c = rw c.in-Auipc.is (c.with_hex-in-Auipc.ensures.a, rw c.value-in-Auipc.ensures.same at c.value-in-Auipc.ensures.in_range)

pub returns-in-Jalr-clause-text : goal.returns-in-Jalr-clause-text
unfolding shown
returns-in-Jalr-clause-text g c = rw c.in-Jalr.is c.with_place.ensures.text

pub returns-in-Jalr-clause-ranged : goal.returns-in-Jalr-clause-ranged
returns-in-Jalr-clause-ranged g c = rw c.in-Jalr.is (c.with_place.ensures.a, c.with_place.ensures.base, (c.with_place.ensures.low, c.with_place.ensures.high))

pub returns-in-Load-clause-text : goal.returns-in-Load-clause-text
unfolding shown
returns-in-Load-clause-text g c = rw (c.in-Load.is, ← c.load_name.ensures) c.with_place-in-Load.ensures.text

pub returns-in-Load-clause-ranged : goal.returns-in-Load-clause-ranged
returns-in-Load-clause-ranged g c = rw c.in-Load.is (c.with_place-in-Load.ensures.a, c.with_place-in-Load.ensures.base, (c.with_place-in-Load.ensures.low, c.with_place-in-Load.ensures.high))

pub returns-in-Store-clause-text : goal.returns-in-Store-clause-text
unfolding shown
returns-in-Store-clause-text g c = rw (c.in-Store.is, ← c.store_name.ensures) c.with_place-in-Store.ensures.text

pub returns-in-Store-clause-ranged : goal.returns-in-Store-clause-ranged
returns-in-Store-clause-ranged g c = rw c.in-Store.is (c.with_place-in-Store.ensures.base, c.with_place-in-Store.ensures.a, (c.with_place-in-Store.ensures.low, c.with_place-in-Store.ensures.high))

pub returns-in-Imm-clause-text : goal.returns-in-Imm-clause-text
unfolding shown
returns-in-Imm-clause-text g c = rw (c.in-Imm.is, ← c.imm_name.ensures) c.with_number.ensures.text

pub returns-in-Imm-clause-ranged : goal.returns-in-Imm-clause-ranged
returns-in-Imm-clause-ranged g c = rw c.in-Imm.is (c.with_number.ensures.a, c.with_number.ensures.b, (c.with_number.ensures.low, c.with_number.ensures.high))

pub returns-in-ShiftImm-clause-text : goal.returns-in-ShiftImm-clause-text
unfolding shown
returns-in-ShiftImm-clause-text g c = rw (c.in-ShiftImm.is, ← c.shift_name.ensures, ← c.value-in-ShiftImm.ensures.same) c.with_amount.ensures.text

pub returns-in-ShiftImm-clause-ranged : goal.returns-in-ShiftImm-clause-ranged
returns-in-ShiftImm-clause-ranged g c = rw c.in-ShiftImm.is (c.with_amount.ensures.a, c.with_amount.ensures.b, rw c.value-in-ShiftImm.ensures.same at c.value-in-ShiftImm.ensures.in_range)

pub returns-in-ShiftImmWord-clause-text : goal.returns-in-ShiftImmWord-clause-text
unfolding shown
returns-in-ShiftImmWord-clause-text g c = rw (c.in-ShiftImmWord.is, ← c.shift_word_name.ensures, ← c.value-in-ShiftImmWord.ensures.same) c.with_amount-in-ShiftImmWord.ensures.text

pub returns-in-ShiftImmWord-clause-ranged : goal.returns-in-ShiftImmWord-clause-ranged
returns-in-ShiftImmWord-clause-ranged g c = rw c.in-ShiftImmWord.is (c.with_amount-in-ShiftImmWord.ensures.a, c.with_amount-in-ShiftImmWord.ensures.b, rw c.value-in-ShiftImmWord.ensures.same at c.value-in-ShiftImmWord.ensures.in_range)

pub returns-in-Alu-clause-text : goal.returns-in-Alu-clause-text
unfolding shown
returns-in-Alu-clause-text g c = rw (c.in-Alu.is, ← c.alu_name.ensures) c.three_registers.ensures.text

pub returns-in-Alu-clause-ranged : goal.returns-in-Alu-clause-ranged
returns-in-Alu-clause-ranged g c = rw c.in-Alu.is (c.three_registers.ensures.a, c.three_registers.ensures.b, c.three_registers.ensures.c)

pub returns-in-AddImmWord-clause-text : goal.returns-in-AddImmWord-clause-text
unfolding shown
returns-in-AddImmWord-clause-text g c = rw c.in-AddImmWord.is c.with_number-in-AddImmWord.ensures.text

pub returns-in-AddImmWord-clause-ranged : goal.returns-in-AddImmWord-clause-ranged
returns-in-AddImmWord-clause-ranged g c = rw c.in-AddImmWord.is (c.with_number-in-AddImmWord.ensures.a, c.with_number-in-AddImmWord.ensures.b, (c.with_number-in-AddImmWord.ensures.low, c.with_number-in-AddImmWord.ensures.high))

pub returns-in-AluWord-clause-text : goal.returns-in-AluWord-clause-text
unfolding shown
returns-in-AluWord-clause-text g c = rw (c.in-AluWord.is, ← c.word_name.ensures) c.three_registers-in-AluWord.ensures.text

pub returns-in-AluWord-clause-ranged : goal.returns-in-AluWord-clause-ranged
returns-in-AluWord-clause-ranged g c = rw c.in-AluWord.is (c.three_registers-in-AluWord.ensures.a, c.three_registers-in-AluWord.ensures.b, c.three_registers-in-AluWord.ensures.c)

pub returns-in-Fence-clause-text : goal.returns-in-Fence-clause-text
unfolding shown
returns-in-Fence-clause-text g c = rw c.in-Fence.is c.fence.ensures.text

pub returns-in-Fence-clause-ranged : goal.returns-in-Fence-clause-ranged
returns-in-Fence-clause-ranged g c = rw c.in-Fence.is c.fence.ensures.ranged
