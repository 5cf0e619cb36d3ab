-- The starts of an origin's contexts.
use Rattle.std.proofs.Common.{◌≡◌, ℕ, List, [], ◌∷◌, get_or, refl, sym, subst}
use Rattle.checkpoint.specs.Aligned.{AreMarksOf, IsAligned, IsMarkOf}
use Rattle.checkpoint.specs.MarkValue.{MarkValue}
use Rattle.checkpoint.specs.Starts.{start_of, starts_of}
use Rattle.join_law.proofs.Laws.{each_place}
use Rattle.join_law.specs.Eight.{place_of, same_places}
use Rattle.join_law.specs.declared.places.Eight.{Eight}
use Rattle.origin_set.specs.OriginValue.{OriginValue}

abbrev pub contexts : List ℕ
contexts = 0 ∷ 1 ∷ 2 ∷ 3 ∷ 4 ∷ 5 ∷ 6 ∷ 7 ∷ []

-- a start whose context is read from the list of all
pub start_at : (origin : OriginValue) (all : List ℕ) (i d : ℕ) (mark : MarkValue) → all ≡ contexts → mark ≡ start_of origin (get_or all i d) → mark ≡ start_of origin (get_or contexts i d)
start_at origin all i d mark e h = subst (λ (xs : List ℕ). mark ≡ start_of origin (get_or xs i d)) e h

module _ (origin : OriginValue) (marks : Eight MarkValue) where
  pub are_starts : marks.c0 ≡ start_of origin 0 → marks.c1 ≡ start_of origin 1 → marks.c2 ≡ start_of origin 2 → marks.c3 ≡ start_of origin 3 → marks.c4 ≡ start_of origin 4 → marks.c5 ≡ start_of origin 5 → marks.c6 ≡ start_of origin 6 → marks.c7 ≡ start_of origin 7 → marks ≡ starts_of origin
  are_starts e0 e1 e2 e3 e4 e5 e6 e7 = same_places marks (starts_of origin) (each_place (λ i. place_of marks i ≡ place_of (starts_of origin) i) e0 e1 e2 e3 e4 e5 e6 e7)

starts_are_marks : (origin : OriginValue) → AreMarksOf origin (starts_of origin)
starts_are_marks origin =
    let here : (i : ℕ) → IsMarkOf origin i (start_of origin i) = λ i. record { of_origin = refl; of_context = refl } in
    each_place (λ i. IsMarkOf origin i (place_of (starts_of origin) i)) (here 0) (here 1) (here 2) (here 3) (here 4) (here 5) (here 6) (here 7)

-- so the starts are aligned
pub starts_are_aligned : (origin : OriginValue) (marks : Eight MarkValue) → marks ≡ starts_of origin → IsAligned marks
starts_are_aligned origin marks e = subst IsAligned (sym e) (starts_are_marks origin)
