-- The stages along a flight, after a change.
use Rattle.std.proofs.Common.{◌≡◌, ℕ, zero, suc, ◌+◌, ◌<◌, true, false, List, [], ◌∷◌, length, get_or, take, drop, map, refl, sym, ap, subst, ◌∙◌, arith}
use Rattle.std.specs.Prelude.{set}
use Rattle.core_view.specs.declared.entry.Entry.{Entry}
use Rattle.core_view.specs.Queues.{is_renamed, AllRenamed}
use Rattle.core_view.specs.View.{no_entry}
use Rattle.core_context.specs.Cores.{node_of_entry, AllFetched}

-- ---- renamed entries

-- an entry that isn't as it was fetched is one of the renamed
pub renamed_place : (r : ℕ) (es : List Entry) (i : ℕ) → AllFetched (drop r es) → i < length es → is_renamed (get_or es i no_entry).stage ≡ true → i < r
renamed_place (suc r) [] i a lt h = absurd (omega arith)
renamed_place (suc r) (e ∷ es) zero a lt h = omega arith
renamed_place (suc r) (e ∷ es) (suc i) a lt h = let ih = renamed_place r es i a (omega arith) h in omega (arith, ih)
renamed_place zero [] i a lt h = absurd (omega arith)
renamed_place zero (e ∷ es) zero a lt h = absurd (let bad : false ≡ true = ap is_renamed (sym a.0) ∙ h in cc)
renamed_place zero (e ∷ es) (suc i) a lt h = absurd (let ih = renamed_place zero es i a.1 (omega arith) h in omega (arith, ih))

pub renamed_set : (r : ℕ) (es : List Entry) (i : ℕ) (e : Entry) → is_renamed e.stage ≡ true → AllRenamed (take r es) → AllRenamed (take r (set es i e))
renamed_set zero es i e h a = tt
renamed_set (suc r) [] i e h a = tt
renamed_set (suc r) (x ∷ es) zero e h a = (h, a.1)
renamed_set (suc r) (x ∷ es) (suc i) e h a = (a.0, renamed_set r es i e h a.1)

pub renamed_take : (r n : ℕ) (es : List Entry) → AllRenamed (take r es) → AllRenamed (take r (take n es))
renamed_take zero n es a = tt
renamed_take (suc r) zero es a = tt
renamed_take (suc r) (suc n) [] a = tt
renamed_take (suc r) (suc n) (e ∷ es) a = (a.0, renamed_take r n es a.1)

-- the oldest renamed entry goes
pub renamed_drop : (n : ℕ) (es : List Entry) → AllRenamed (take (n + 1) es) → AllRenamed (take n (drop 1 es))
renamed_drop zero es a = tt
renamed_drop (suc n) [] a = tt
renamed_drop (suc n) (e ∷ es) a = let one : suc n + 1 ≡ suc (suc n) = omega arith in let b : AllRenamed (take (suc (suc n)) (e ∷ es)) = subst (λ m. AllRenamed (take m (e ∷ es))) one a in b.1

-- ---- fetched entries

pub fetched_take : (n : ℕ) (es : List Entry) → AllFetched es → AllFetched (take n es)
fetched_take zero es a = tt
fetched_take (suc n) [] a = tt
fetched_take (suc n) (e ∷ es) a = (a.0, fetched_take n es a.1)

pub fetched_drop_take : (r n : ℕ) (es : List Entry) → AllFetched (drop r es) → AllFetched (drop r (take n es))
fetched_drop_take zero n es a = fetched_take n es a
fetched_drop_take (suc r) zero es a = tt
fetched_drop_take (suc r) (suc n) [] a = tt
fetched_drop_take (suc r) (suc n) (e ∷ es) a = fetched_drop_take r n es a

-- ---- instructions of the data flow

pub nodes_drop : (n : ℕ) (es : List Entry) → drop 1 (map node_of_entry (take (n + 1) es)) ≡ map node_of_entry (take n (drop 1 es))
nodes_drop n [] = go n
  where
    go : (n : ℕ) → drop 1 (map node_of_entry (take (n + 1) [])) ≡ map node_of_entry (take n [])
    go zero = refl
    go (suc n) = let one : suc n + 1 ≡ suc (suc n) = omega arith in rw one refl
nodes_drop n (e ∷ es) = let one : n + 1 ≡ suc n = omega arith in rw one refl
