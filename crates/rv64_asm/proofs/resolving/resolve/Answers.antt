use Rattle.std.proofs.Common.{◌≡◌, Err, pos, negsuc, refl, sym, ◌∙◌}
use Rattle.rv64_asm.specs.Written.{resolve, offset_to}
use Rattle.rv64_asm.specs.Returned.{target_named}
use Rattle.rv64_asm.proofs.Passed.{passed}
use Rattle.rv64_asm.proofs.resolving.resolve.Goals as goal

pub returns-in_err-offset-in-Branch : goal.returns-in_err-offset-in-Branch
unfolding resolve
returns-in_err-offset-in-Branch g c =
    let e : offset_to c.args.labels.now c.args.pc (negsuc 4095) (pos 4094) (target_named c.in-Branch.target) ≡ Err c.in_err-offset-in-Branch.field-0.0 = sym c.branch_offset.ensures ∙ c.in_err-offset-in-Branch.was in
    passed c.from_residual.result c.in_err-offset-in-Branch.field-0.0 c.from_residual.ensures ∙ sym (rw (c.in-Branch.is, e) refl)

pub returns-in_err-offset-in-Jump : goal.returns-in_err-offset-in-Jump
unfolding resolve
returns-in_err-offset-in-Jump g c =
    let e : offset_to c.args.labels.now c.args.pc (negsuc 1048575) (pos 1048574) (target_named c.in-Jump.target) ≡ Err c.in_err-offset-in-Jump.field-0.0 = sym c.jump_offset.ensures ∙ c.in_err-offset-in-Jump.was in
    passed c.from_residual-in_err-offset-in-Jump.result c.in_err-offset-in-Jump.field-0.0 c.from_residual-in_err-offset-in-Jump.ensures ∙ sym (rw (c.in-Jump.is, e) refl)
