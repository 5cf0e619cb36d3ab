use Rattle.std.proofs.Common.{refl, sym, ◌∙◌}
use Rattle.rv64_decode.proofs.encoding.word.Goals as goal

pub returns-in-Lui : goal.returns-in-Lui
returns-in-Lui c = rw c.in-Lui.is (c.upper_form.ensures.opcode, sym c.upper_form.ensures.rd, sym (c.upper_form.ensures.bits ∙ c.value.ensures.same))

pub returns-in-Auipc : goal.returns-in-Auipc
returns-in-Auipc c = rw c.in-Auipc.is (c.upper_form-in-Auipc.ensures.opcode, sym c.upper_form-in-Auipc.ensures.rd, sym (c.upper_form-in-Auipc.ensures.bits ∙ c.value-in-Auipc.ensures.same))

pub returns-in-Jal : goal.returns-in-Jal
returns-in-Jal c = rw c.in-Jal.is (c.jump_form.ensures.opcode, sym c.jump_form.ensures.rd, c.jump_form.ensures.offset)

pub returns-in-Jalr : goal.returns-in-Jalr
returns-in-Jalr c = rw c.in-Jalr.is (c.immediate_form.ensures.opcode, c.immediate_form.ensures.funct3, sym c.immediate_form.ensures.rd, sym c.immediate_form.ensures.rs1, c.immediate_form.ensures.immediate)

pub returns-in-Branch : goal.returns-in-Branch
returns-in-Branch c = rw c.in-Branch.is (c.branch_form.ensures.opcode, c.branch_form.ensures.funct3, sym c.branch_form.ensures.rs1, sym c.branch_form.ensures.rs2, c.branch_form.ensures.offset)

pub returns-in-Load : goal.returns-in-Load
returns-in-Load c = rw c.in-Load.is (c.immediate_form-in-Load.ensures.opcode, c.immediate_form-in-Load.ensures.funct3 ∙ c.load_bits.ensures.code, sym c.immediate_form-in-Load.ensures.rd, sym c.immediate_form-in-Load.ensures.rs1, c.immediate_form-in-Load.ensures.immediate)

pub returns-in-Store : goal.returns-in-Store
returns-in-Store c = rw c.in-Store.is (c.store_form.ensures.opcode, c.store_form.ensures.funct3, sym c.store_form.ensures.rs1, sym c.store_form.ensures.rs2, c.store_form.ensures.immediate)

pub returns-in-Imm : goal.returns-in-Imm
returns-in-Imm c = rw c.in-Imm.is (c.immediate_form-in-Imm.ensures.opcode, c.immediate_form-in-Imm.ensures.funct3 ∙ c.imm_bits.ensures.code, sym c.immediate_form-in-Imm.ensures.rd, sym c.immediate_form-in-Imm.ensures.rs1, c.immediate_form-in-Imm.ensures.immediate)

pub returns-in-Alu : goal.returns-in-Alu
returns-in-Alu c = rw c.in-Alu.is (c.register_form.ensures.opcode, c.register_form.ensures.funct3 ∙ c.alu_bits.ensures.code, rw c.alu_bits.ensures.top at c.register_form.ensures.funct7, sym c.register_form.ensures.rd, sym c.register_form.ensures.rs1, sym c.register_form.ensures.rs2)

pub returns-in-AddImmWord : goal.returns-in-AddImmWord
returns-in-AddImmWord c = rw c.in-AddImmWord.is (c.immediate_form-in-AddImmWord.ensures.opcode, c.immediate_form-in-AddImmWord.ensures.funct3, sym c.immediate_form-in-AddImmWord.ensures.rd, sym c.immediate_form-in-AddImmWord.ensures.rs1, c.immediate_form-in-AddImmWord.ensures.immediate)

pub returns-in-AluWord : goal.returns-in-AluWord
returns-in-AluWord c = rw c.in-AluWord.is (c.register_form-in-AluWord.ensures.opcode, c.register_form-in-AluWord.ensures.funct3 ∙ c.word_bits.ensures.code, rw c.word_bits.ensures.top at c.register_form-in-AluWord.ensures.funct7, sym c.register_form-in-AluWord.ensures.rd, sym c.register_form-in-AluWord.ensures.rs1, sym c.register_form-in-AluWord.ensures.rs2)

pub returns-in-Fence : goal.returns-in-Fence
returns-in-Fence c = rw c.in-Fence.is (c.fence_form.ensures.opcode, c.fence_form.ensures.funct3, sym c.fence_form.ensures.rd, sym c.fence_form.ensures.rs1, sym c.fence_form.ensures.bits)

pub returns-in-Ecall : goal.returns-in-Ecall
returns-in-Ecall c = rw c.in-Ecall.is refl

pub returns-in-Ebreak : goal.returns-in-Ebreak
returns-in-Ebreak c = rw c.in-Ebreak.is refl
