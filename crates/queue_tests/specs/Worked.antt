-- The flow that the tests work through.
use Rattle.std.specs.Prelude.{ℕ, Bool, true, false, [], ◌∷◌, ◌++◌}
use Rattle.data_flow.specs.declared.operands.Operands.{Operands}
use Rattle.data_flow.specs.Flow.{Flow, lane, with_lane, with_register, with_node, with_result, first_flow}

-- the registers of an instruction, by their numbers
abbrev pub named : ℕ → ℕ → ℕ → ℕ → Operands
named stamp destination first second = record { stamp = stamp; destination = destination; first = first; second = second }

-- contexts 0 and 1 hold 10 and 20 in x1
abbrev pub set_x1 : Flow → ℕ → ℕ → Flow
set_x1 f c value = with_lane f c (with_register (lane f c) 1 value)

abbrev pub with_x1 : Flow
with_x1 = set_x1 (set_x1 (first_flow 32 4 8) 0 10) 1 20

-- an instruction has its result
abbrev pub given : Flow → ℕ → ℕ → ℕ → Flow
given f c i value = with_lane f c (with_result (lane f c) i value)

-- one of context 0 makes x5 of x1, and has its result
abbrev pub with_x5 : Flow
with_x5 = given (with_lane with_x1 0 (with_node (lane with_x1 0) (named 1 5 1 0))) 0 0 15

-- one more instruction, which waits
abbrev pub entered : Flow → ℕ → Operands → Bool → Bool → Flow
entered f c o guessed load = record (with_lane f c (with_node (lane f c) o)) { waiters = f.waiters ++ record { stamp = o.stamp; context = c; guessed = guessed; load = load; speculative = false; held = false } ∷ [] }

-- one of context 0 makes x5 of x1
abbrev pub of_one : Flow
of_one = entered with_x1 0 (named 1 5 1 0) false false

-- the next makes x5 of that
abbrev pub of_two : Flow
of_two = entered of_one 0 (named 2 5 5 1) true false

-- a load of context 1 makes x6 of x1
abbrev pub of_three : Flow
of_three = entered of_two 1 (named 3 6 1 1) false true

-- both of context 0
abbrev pub finished : Flow
finished = given (given of_three 0 0 15) 0 1 25
