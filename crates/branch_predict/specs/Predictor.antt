-- What one context's predictor has learned, what it guesses, and what a fetch and a retirement change.
use Rattle.std.specs.Prelude.{ℕ, ℤ, ◌+◌, ◌-◌, ◌/◌, ◌%◌, ◌==◌, ◌&&◌, not, min, Bool, List, [], ◌∷◌, ◌++◌, length, take, drop, replicate, Option, Some, None, unwrap_or, nat_le, slice_get, slice_index, slice_index_or, slice_set, if◌then◌else◌}
use Rattle.rv64_decode.specs.declared.insn.Insn.{Insn}
use Rattle.rv64_decode.specs.declared.insn.Insn.TheVariants.{Jal, Jalr, Branch}
use Rattle.hart_step.specs.State.{following}
use Rattle.hart_step.specs.Values.{offset_from}

-- 256 counters from 0 to 3; at most 8 return addresses, the newest last; and 64 last targets, each None until it is written
pub record Predictor : Type 0 where
  pub counters : List ℕ
  pub returns : List ℕ
  pub targets : List (Option ℕ)

-- one that has seen nothing: each counter is 1
unfoldable pub untrained : Predictor
untrained = record { counters = replicate 256 1; returns = []; targets = replicate 64 None }

-- where a branch goes when it is taken, and a JAL always: RISC-V Unprivileged ISA 20191213, 2.5
abbrev pub target : ℕ → ℤ → ℕ
target pc offset = offset_from pc offset

-- a jump that writes x1 is a call, a JALR that reads x1 and writes x0 is a return: the hints of 2.5, but that x5, the
-- alternate link register there, isn't a link register here
abbrev pub is_call : ℕ → Bool
is_call rd = rd == 1

abbrev pub is_return : ℕ → ℕ → Bool
is_return rd rs1 = (rd == 0) && (rs1 == 1)

-- the counter of the branch at a pc, and the last target of the JALR there
abbrev pub counter_at : Predictor → ℕ → ℕ
counter_at p pc = slice_index p.counters (pc / 4 % 256)

abbrev pub target_at : Predictor → ℕ → Option ℕ
target_at p pc = slice_index_or p.targets (pc / 4 % 64) None

-- a counter from 2 on says taken
abbrev pub says_taken : ℕ → Bool
says_taken counter = nat_le 2 counter

-- a counter after a branch: raised to at most 3 where it was taken, else lowered to at least 0
abbrev pub trained_counter : ℕ → Bool → ℕ
trained_counter counter taken = if taken then min 3 (counter + 1) else counter - 1

-- the newest n of a list
abbrev pub newest : ℕ → List ℕ → List ℕ
newest n xs = drop (length xs - n) xs

-- a stack of 8 after a push: the oldest falls out
abbrev pub after_push : List ℕ → ℕ → List ℕ
after_push returns address = newest 8 (returns ++ address ∷ [])

-- a stack's newest address, and the stack without it
abbrev pub top_of : List ℕ → Option ℕ
top_of returns = slice_get returns (length returns - 1)

abbrev pub after_pop : List ℕ → List ℕ
after_pop returns = take (length returns - 1) returns

-- where a JALR goes on by the guess
abbrev pub guessed_jalr : Predictor → ℕ → ℕ → ℕ → ℕ
guessed_jalr p pc rd rs1 = unwrap_or (if is_return rd rs1 then top_of p.returns else target_at p pc) (following pc)

-- where an instruction goes on by the guess
abbrev pub guessed : Predictor → ℕ → Insn → ℕ
guessed p pc (Jal rd offset) = target pc offset
guessed p pc (Jalr rd rs1 immediate) = guessed_jalr p pc rd rs1
guessed p pc (Branch condition rs1 rs2 offset) = if says_taken (counter_at p pc) then target pc offset else following pc
guessed p pc _ = following pc

-- a jump that writes rd was fetched: a call pushes the address after it
abbrev pub after_call : Predictor → ℕ → ℕ → Predictor
after_call p pc rd = if is_call rd then record p { returns = after_push p.returns (following pc) } else p

-- a JALR was fetched: a return pops
abbrev pub after_jalr : Predictor → ℕ → ℕ → ℕ → Predictor
after_jalr p pc rd rs1 = if is_return rd rs1 then record p { returns = after_pop p.returns } else after_call p pc rd

-- an instruction was fetched: a call pushes the address after it, a return pops
abbrev pub after_fetch : Predictor → ℕ → Insn → Predictor
after_fetch p pc (Jal rd offset) = after_call p pc rd
after_fetch p pc (Jalr rd rs1 immediate) = after_jalr p pc rd rs1
after_fetch p pc _ = p

-- an instruction retired and went on at `next`: a branch trains its counter, a JALR that is no return writes its target
abbrev pub after_retirement : Predictor → ℕ → Insn → ℕ → Predictor
after_retirement p pc (Branch condition rs1 rs2 offset) next =
    record p { counters = slice_set p.counters (pc / 4 % 256) (trained_counter (counter_at p pc) (not (next == following pc))) }
after_retirement p pc (Jalr rd rs1 immediate) next =
    if is_return rd rs1 then p else record p { targets = slice_set p.targets (pc / 4 % 64) (Some next) }
after_retirement p pc _ next = p

-- the predictor of a context
abbrev pub predictor_of : List Predictor → ℕ → Predictor
predictor_of predictors context = slice_index_or predictors context untrained

-- ---- the predictors of the eight contexts, each its own

-- as they are made: none has seen anything
abbrev pub new_predictors : List Predictor
new_predictors = replicate 8 untrained

-- where an instruction of a context goes on by the guess
abbrev pub guessed_in : List Predictor → ℕ → ℕ → Insn → ℕ
guessed_in predictors context pc insn = guessed (predictor_of predictors context) pc insn

-- an instruction of a context was fetched
abbrev pub after_fetch_in : List Predictor → ℕ → ℕ → Insn → List Predictor
after_fetch_in predictors context pc insn = slice_set predictors context (after_fetch (predictor_of predictors context) pc insn)

-- an instruction of a context retired and went on at `next`
abbrev pub after_retirement_in : List Predictor → ℕ → ℕ → Insn → ℕ → List Predictor
after_retirement_in predictors context pc insn next = slice_set predictors context (after_retirement (predictor_of predictors context) pc insn next)
