-- The predictor's table, worked by hand.
use Rattle.std.proofs.Common.{◌≡◌, ◌∷◌, [], refl}
use Rattle.std.specs.Prelude.{pos, negsuc}
use Rattle.rv64_decode.specs.declared.insn.Insn.{Insn}
use Rattle.rv64_decode.specs.declared.insn.Insn.TheVariants.{Jal, Jalr, Branch}
use Rattle.rv64_decode.specs.declared.insn.BranchCondition.TheVariants.{NotEqual}
use Rattle.branch_predict.specs.Predictor.{untrained, guessed, after_fetch, after_retirement, after_push, new_predictors, guessed_in, after_retirement_in}

-- bne x5, x0, -8; jal x1, 64; jalr x0, 0(x1), which is a return; jalr x0, 0(x5), which is none
abbrev bne : Insn
bne = Branch NotEqual 5 0 (negsuc 7)

abbrev call : Insn
call = Jal 1 (pos 64)

abbrev return : Insn
return = Jalr 0 1 (pos 0)

abbrev jump : Insn
jump = Jalr 0 5 (pos 0)

-- ---- counters

-- a branch that was never seen is guessed to fall through; taken once, it is guessed taken; then not taken, it falls through again
pub unseen_falls_through : guessed untrained 0x10008 bne ≡ 0x1000c
unfolding untrained
unseen_falls_through = refl

pub taken_once : guessed (after_retirement untrained 0x10008 bne 0x10000) 0x10008 bne ≡ 0x10000
unfolding untrained
taken_once = refl

pub taken_and_not : guessed (after_retirement (after_retirement untrained 0x10008 bne 0x10000) 0x10008 bne 0x1000c) 0x10008 bne ≡ 0x1000c
unfolding untrained
taken_and_not = refl

-- a branch 1024 bytes away has the same counter
pub counter_shared : guessed (after_retirement untrained 0x10008 bne 0x10000) 0x10408 bne ≡ 0x10400
unfolding untrained
counter_shared = refl

-- ---- the return stack

-- a return goes behind the newest call, and behind none to the next instruction
pub return_after_call : guessed (after_fetch untrained 0x10000 call) 0x10040 return ≡ 0x10004
unfolding untrained
return_after_call = refl

pub return_after_none : guessed untrained 0x10040 return ≡ 0x10044
unfolding untrained
return_after_none = refl

-- a second return finds the stack empty
pub second_return : guessed (after_fetch (after_fetch untrained 0x10000 call) 0x10040 return) 0x10040 return ≡ 0x10044
unfolding untrained
second_return = refl

-- the ninth address takes the oldest one's room
pub ninth_address : after_push (1 ∷ 2 ∷ 3 ∷ 4 ∷ 5 ∷ 6 ∷ 7 ∷ 8 ∷ []) 9 ≡ 2 ∷ 3 ∷ 4 ∷ 5 ∷ 6 ∷ 7 ∷ 8 ∷ 9 ∷ []
ninth_address = refl

-- ---- last targets

-- another JALR goes where the last one of its place went; a place never written gives the next instruction
pub jump_unseen : guessed untrained 0x10000 jump ≡ 0x10004
unfolding untrained
jump_unseen = refl

pub jump_learned : guessed (after_retirement untrained 0x10000 jump 0x10200) 0x10100 jump ≡ 0x10200
unfolding untrained
jump_learned = refl

-- a return writes no target
pub return_writes_none : after_retirement untrained 0x10000 return 0x10200 ≡ untrained
unfolding untrained
return_writes_none = refl

-- ---- the eight contexts

-- what context 3 learns, context 4 doesn't
pub learned_by_one : guessed_in (after_retirement_in new_predictors 3 0x10008 bne 0x10000) 3 0x10008 bne ≡ 0x10000
unfolding untrained
learned_by_one = refl

pub learned_by_no_other : guessed_in (after_retirement_in new_predictors 3 0x10008 bne 0x10000) 4 0x10008 bne ≡ 0x1000c
unfolding untrained
learned_by_no_other = refl
