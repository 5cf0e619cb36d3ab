-- What a seat knows: the calls of each pass that it stands for, and while it holds the page the history that it found.
use Rattle.std.specs.Prelude.{ℕ, zero, suc, ◌+◌, true, false, None, List, [], ◌∷◌, ◌++◌, length, map, take, drop}
use Rattle.checkpoint.specs.MarkValue.{MarkValue}
use Rattle.hart_step.specs.declared.environment.Environment.TheVariants.{One}
use Rattle.checkpoint_book.specs.declared.call.Call.{Call}
use Rattle.checkpoint_book.specs.declared.known.Known.{Known}
use Rattle.checkpoint_book.specs.History.{own}

-- a pass, by its number, and its calls
abbrev pub PassCalls : Type 0
PassCalls = ℕ × List Call

-- the passes below a number, with no calls
abbrev pub passes_below : ℕ → List PassCalls
passes_below zero = []
passes_below (suc n) = (n, []) ∷ passes_below n

-- a seat that stands for these passes and doesn't hold the page
abbrev pub idle_view : MarkValue → List PassCalls → Known
idle_view opening passes = record { opening = opening; passes = passes; holds = false; found = [] }

-- the mark of no book
abbrev pub no_mark : MarkValue
no_mark = record { origin = record { environment = One; programs = record { c0 = None; c1 = None; c2 = None; c3 = None; c4 = None; c5 = None; c6 = None; c7 = None } }; context = 0; count = 0 }

-- a seat that stands for no pass
abbrev pub spent_view : Known
spent_view = idle_view no_mark []

-- the seat of the first pass alone
abbrev pub first_view : Known → Known
first_view v = idle_view v.opening (take 1 v.passes)

-- the seat of the other passes
abbrev pub rest_view : Known → Known
rest_view v = idle_view v.opening (drop 1 v.passes)

-- one seat for the passes of two
abbrev pub joint_view : Known → Known → Known
joint_view v w = idle_view w.opening (v.passes ++ w.passes)

-- the seat holds the page, in which it found this history
abbrev pub holder_view : List Call → Known → Known
holder_view found v = record { opening = v.opening; passes = v.passes; holds = true; found = found }

-- each pass's own calls of a history
abbrev pub own_calls : List Call → List PassCalls → List PassCalls
own_calls history = map (λ p. (p.0, own p.0 history))

-- the seat gave the page back with this history
abbrev pub released_view : List Call → Known → Known
released_view history v = idle_view v.opening (own_calls history v.passes)

-- for how many passes these views stand
abbrev pub pass_count : List Known → ℕ
pass_count [] = 0
pass_count (v ∷ vs) = length v.passes + pass_count vs
