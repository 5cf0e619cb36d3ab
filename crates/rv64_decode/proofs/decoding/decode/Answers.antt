use Rattle.std.proofs.Common.{◌∙◌}
use Rattle.rv64_decode.proofs.TableLemmas.{instruction_spelled}
use Rattle.rv64_decode.proofs.decoding.decode.Goals as goal

pub returns-clause-instruction : goal.returns-clause-instruction
returns-clause-instruction c = c.by_opcode.ensures.exact

pub returns-clause-spelled : goal.returns-clause-spelled
returns-clause-spelled c = c.by_opcode.ensures.spelled

pub returns-clause-only : goal.returns-clause-only
returns-clause-only c = λ insn s. c.by_opcode.ensures.exact ∙ instruction_spelled c.args.word insn s
