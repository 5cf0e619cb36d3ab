-- Calls in their order, what they lead to, and which readings are right.
use Rattle.std.specs.Prelude.{◌≡◌, ◌⊎◌, ℕ, max, Bool, true, ◌==◌, ◌&&◌, if◌then◌else◌, List, [], ◌∷◌, ◌++◌}
use Rattle.checkpoint_book.specs.declared.call.Call.{Call}
use Rattle.checkpoint_book.specs.declared.call.Call.TheVariants.{Merge, Read}

-- the greatest of the opening count and the merges
abbrev pub best : ℕ → List Call → ℕ
best n [] = n
best n (Merge p k ∷ cs) = best (max n k) cs
best n (Read p k ∷ cs) = best n cs

-- each reading is the greatest of the opening count and the merges before it
abbrev pub is_legal : ℕ → List Call → Bool
is_legal n [] = true
is_legal n (Merge p k ∷ cs) = is_legal (max n k) cs
is_legal n (Read p k ∷ cs) = (k == n) && is_legal n cs

-- whose call it is
abbrev pub by : Call → ℕ
by (Merge p k) = p
by (Read p k) = p

-- a history without the calls of other passes
abbrev pub own : ℕ → List Call → List Call
own p [] = []
own p (c ∷ cs) = if by c == p then c ∷ own p cs else own p cs

-- the greatest count of calls, merges and readings
abbrev pub greatest : List Call → ℕ
greatest [] = 0
greatest (Merge p k ∷ cs) = max k (greatest cs)
greatest (Read p k ∷ cs) = max k (greatest cs)

-- a history is what it was, or has one call of the pass more
abbrev pub AddsAtMostOne : ℕ → List Call → List Call → Type 0
AddsAtMostOne p old new = (new ≡ old) ⊎ ((c : Call) × (by c ≡ p) × (new ≡ old ++ c ∷ []))
