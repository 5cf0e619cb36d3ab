use Rattle.std.proofs.Common.{◌≡◌, ◌∙◌, sym, false}
use Rattle.rv64_asm.specs.Shown.{shown, fence_word, is_full_fence}
use Rattle.rv64_asm.proofs.Fences.{fence_fits, fence_spelled}
use Rattle.rv64_asm.proofs.printing.fence.Goals as goal

pub returns-clause-text : goal.returns-clause-text
unfolding shown
returns-clause-text g c =
    let r = c.is_full_fence.ensures.ranged in
    let w : fence_word c.args.rd c.args.rs1 c.args.bits ≡ c.encode.result = c.encode.ensures.only (fence_word c.args.rd c.args.rs1 c.args.bits) (fence_fits c.args.rd c.args.rs1 c.args.bits r.0 r.1 r.2) (fence_spelled c.args.rd c.args.rs1 c.args.bits r.0 r.1 r.2) in
    let f : is_full_fence c.args.rd c.args.rs1 c.args.bits ≡ false = sym c.is_full_fence.ensures.full ∙ c.if-is_full_fence.false in
    rw (f, w) c.word_line.ensures
