-- What an origin is: an environment, and for each context a program or none.
use Rattle.std.specs.Prelude.{Option}
use Rattle.hart_step.specs.declared.environment.Environment.{Environment}
use Rattle.join_law.specs.declared.places.Eight.{Eight}
use Rattle.rv64_asm.specs.ProgramValue.{ProgramValue}

-- the environment, and the programs of contexts 0 to 7
pub record OriginValue : Type 0 where
  pub environment : Environment
  pub programs : Eight (Option ProgramValue)
