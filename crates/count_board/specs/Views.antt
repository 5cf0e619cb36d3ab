-- What a seat knows: for how many seats it stands, and what these raised and saw.
use Rattle.std.specs.Prelude.{ℕ, ◌+◌, ◌-◌, max, [], ◌∷◌, ◌++◌}
use Rattle.count_board.specs.declared.known.Known.{Known}

-- so many seats, which raised and saw nothing
abbrev pub fresh : ℕ → Known
fresh parts = record { parts = parts; raised = []; seen = [] }

-- no seat
abbrev pub spent : Known
spent = fresh 0

-- one seat is cut off, and what is known stays
abbrev pub rest : Known → Known
rest v = record { parts = v.parts - 1; raised = v.raised; seen = v.seen }

-- the seat that is cut off
abbrev pub one : Known → Known
one v = fresh 1

-- the seats of two views
abbrev pub both : Known → Known → Known
both v w = record { parts = v.parts + w.parts; raised = v.raised ++ w.raised; seen = v.seen ++ w.seen }

-- a count was raised at the context i, where another was found
abbrev pub raise : ℕ → ℕ → ℕ → Known → Known
raise i count found v = record { parts = v.parts; raised = v.raised ++ (i, count) ∷ []; seen = v.seen ++ (i, max found count) ∷ [] }

-- a count was found at the context i
abbrev pub look : ℕ → ℕ → Known → Known
look i found v = record { parts = v.parts; raised = v.raised; seen = v.seen ++ (i, found) ∷ [] }
