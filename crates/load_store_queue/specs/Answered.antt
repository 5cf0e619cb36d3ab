-- The number that a load gets.
use Rattle.std.specs.Prelude.{ℕ, Option, Some, None}
use Rattle.load_store_queue.specs.declared.answer.LoadAnswer.{LoadAnswer}
use Rattle.load_store_queue.specs.declared.answer.LoadAnswer.TheVariants.{Ready, Wait}

-- None where the load waits
abbrev pub number_answered : LoadAnswer → Option ℕ
number_answered (Ready value) = Some value
number_answered Wait = None
