use Rattle.rv64_asm.proofs.Appended.{nothing, an_instruction, a_word, a_number, some_zeros}
use Rattle.rv64_asm.proofs.writing.write.Goals as goal

pub returns-in-Nothing : goal.returns-in-Nothing
returns-in-Nothing g c =
    nothing c.args.item c.args.words.now.items c.args.words.now.items c.args.bytes.now.items c.args.bytes.now.items c.in-Nothing.is

pub returns-in_ok-push-in-Instruction : goal.returns-in_ok-push-in-Instruction
returns-in_ok-push-in-Instruction g c =
    an_instruction c.args.item c.args.words.now.items c.push.new.self.items c.args.bytes.now.items c.args.bytes.now.items c.in-Instruction.insn c.encode.result c.in-Instruction.is c.encode.type_inv c.encode.ensures.spells c.in_ok-push-in-Instruction.ensures.items

pub returns-in_ok-push-in-Word : goal.returns-in_ok-push-in-Word
returns-in_ok-push-in-Word g c =
    a_word c.args.item c.args.words.now.items c.push-in-Word.new.self.items c.args.bytes.now.items c.args.bytes.now.items c.in-Word.bits c.in-Word.is c.in_ok-push-in-Word.ensures.items

pub returns-in_ok-write_number-in-Number : goal.returns-in_ok-write_number-in-Number
returns-in_ok-write_number-in-Number g c =
    a_number c.args.item c.args.words.now.items c.args.words.now.items c.args.bytes.now.items c.write_number.new.bytes.items c.in-Number.width c.in-Number.bits c.in-Number.is c.in_ok-write_number-in-Number.ensures

pub returns-in_ok-write_zeros-in-Zeros : goal.returns-in_ok-write_zeros-in-Zeros
returns-in_ok-write_zeros-in-Zeros g c =
    some_zeros c.args.item c.args.words.now.items c.args.words.now.items c.args.bytes.now.items c.write_zeros.new.bytes.items c.in-Zeros.count c.in-Zeros.is c.in_ok-write_zeros-in-Zeros.ensures
