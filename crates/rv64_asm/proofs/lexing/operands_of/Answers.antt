use Rattle.std.proofs.Common.{refl}
use Rattle.rv64_asm.proofs.Splits.{one_part, first_part, operands_are, parts_some, more_than_three}
use Rattle.rv64_asm.proofs.lexing.operands_of.Goals as goal

pub returns-in_default : goal.returns-in_default
returns-in_default c =
    let e = one_part c.args.s.now c.in_default.ensures in
    rw (operands_are c.args.s.now c.if-is_empty.ensures, e, c.trim.ensures) refl

pub returns-in_default-cut : goal.returns-in_default-cut
returns-in_default-cut c =
    let e = first_part c.args.s.now c.in-Some.first.now c.in-Some.rest.now c.in-Some.ensures in
    let f = one_part c.in-Some.rest.now c.in_default-cut.ensures in
    rw (operands_are c.args.s.now c.if-is_empty.ensures, e, f, c.trim-in_default-cut.ensures, c.trim-in_default-cut-2.ensures) refl

pub returns-in-None : goal.returns-in-None
returns-in-None c =
    let e = first_part c.args.s.now c.in-Some.first.now c.in-Some.rest.now c.in-Some.ensures in
    let f = first_part c.in-Some.rest.now c.in-Some-cut.second.now c.in-Some-cut.rest.now c.in-Some-cut.ensures in
    let g = one_part c.in-Some-cut.rest.now c.in-None.ensures in
    rw (operands_are c.args.s.now c.if-is_empty.ensures, e, f, g, c.trim-in-None.ensures, c.trim-in-None-2.ensures, c.trim-in-None-3.ensures) refl

pub returns-in-Some-cut-2 : goal.returns-in-Some-cut-2
returns-in-Some-cut-2 c =
    let e = first_part c.args.s.now c.in-Some.first.now c.in-Some.rest.now c.in-Some.ensures in
    let f = first_part c.in-Some.rest.now c.in-Some-cut.second.now c.in-Some-cut.rest.now c.in-Some-cut.ensures in
    let g = first_part c.in-Some-cut.rest.now c.in-Some-cut-2.field-0.0.now c.in-Some-cut-2.field-0.1.now c.in-Some-cut-2.ensures in
    rw (operands_are c.args.s.now c.if-is_empty.ensures, e, f, g) (more_than_three _ _ _ _ (parts_some c.in-Some-cut-2.field-0.1.now))
