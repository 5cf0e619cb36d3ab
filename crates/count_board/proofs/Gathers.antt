-- What many seats know, put together one by one.
use Rattle.std.proofs.Common.{◌≡◌, ℕ, zero, suc, ◌<◌, ◌≤◌, max, map, slice_index_or, List, [], ◌∷◌, length, All, get_or, refl, sym, arith, append_assoc, append-nil}
use mathlib.Core.Option.{some, some-injective, some-ne-none}
use lib.ListN.{get_elem?}
use Rattle.count_board.specs.declared.known.Known.{Known}
use Rattle.count_board.specs.declared.board.Board.{Board}
use Rattle.count_board.specs.declared.board.Seat.{Seat}
use Rattle.count_board.proofs.Greatest.{greatest_at-append}
use Rattle.count_board.specs.Counts.{greatest, greatest_at}
use Rattle.count_board.specs.Views.{spent, both}
use Rattle.count_board.specs.Seats.{IsSeatOf, known, raised_at, seen_at, gathered}

pub same : (p q : ℕ) (xs ys zs ws : List (ℕ × ℕ)) → p ≡ q → xs ≡ ys → zs ≡ ws → ◌≡◌ {A = Known} (record { parts = p; raised = xs; seen = zs }) (record { parts = q; raised = ys; seen = ws })
same p q xs ys zs ws e f g = rw (e, f, g) refl

pub both_assoc : (u v w : Known) → both (both u v) w ≡ both u (both v w)
both_assoc u v w = same _ _ _ _ _ _ (omega arith) (append_assoc u.raised v.raised w.raised) (append_assoc u.seen v.seen w.seen)

pub both_spent : (u : Known) → both u spent ≡ u
both_spent u = same _ _ _ _ _ _ (omega arith) (append-nil u.raised) (append-nil u.seen)

-- how many they are
pub gathered_parts : (b : Board) (ss : List Seat) → All (IsSeatOf b) ss → (gathered ss).parts ≡ length ss
gathered_parts b [] all = refl
gathered_parts b (s ∷ ss) all =
    let r = gathered_parts b ss (λ k d l. all (suc k) d (omega arith)) in
    let part = (all 0 s (omega arith)).part in
    omega arith

-- the greatest count that they raised
pub gathered_raised : (n i : ℕ) (ss : List Seat) → max n (greatest_at i (gathered ss).raised) ≡ greatest n (map (raised_at i) ss)
gathered_raised n i [] = omega arith
gathered_raised n i (s ∷ ss) =
    let r = gathered_raised n i ss in
    let m = greatest_at-append i (known s).raised (gathered ss).raised in
    omega arith

-- none has seen more than all
pub gathered_seen : (n i : ℕ) (ss : List Seat) → greatest_at i (gathered ss).seen ≤ n → All (λ s. seen_at i s ≤ n) ss
gathered_seen n i [] within = λ k d l. absurd (omega arith)
gathered_seen n i (s ∷ ss) within =
    let m = greatest_at-append i (known s).seen (gathered ss).seen in
    let here : seen_at i s ≤ n = omega arith in
    let rest = gathered_seen n i ss (omega arith) in λ k d l. at k d l here rest
  where
    at : (k : ℕ) (d : Seat) → k < length (s ∷ ss) → seen_at i s ≤ n → All (λ s. seen_at i s ≤ n) ss → seen_at i (slice_index_or (s ∷ ss) k d) ≤ n
    at zero d l here rest = here
    at (suc k) d l here rest = rest k d (omega arith)

pub spent_both : (v : Known) → both spent v ≡ v
spent_both v = same _ _ _ _ _ _ (omega arith) refl refl

pub none_left : (xs : List Seat) → length xs ≡ 0 → xs ≡ []
none_left [] e = refl
none_left (x ∷ xs) e = absurd (omega arith)

slice_none : (xs : List ℕ) → length xs ≡ 0 → xs ≡ []
slice_none [] e = refl
slice_none (x ∷ xs) e = absurd (omega arith)

at : (xs : List ℕ) (i x : ℕ) → get_elem? xs i ≡ some x → get_or xs i 0 ≡ x
at [] i x e = absurd (some-ne-none x (sym e))
at (y ∷ ys) zero x e = some-injective y x e
at (y ∷ ys) (suc i) x e = at ys i x e

-- the eight words of a board
pub eight_of : (ws : List ℕ) (a b c d e f g h : ℕ) → length ws ≡ 8 → get_elem? ws 0 ≡ some a → get_elem? ws 1 ≡ some b → get_elem? ws 2 ≡ some c → get_elem? ws 3 ≡ some d → get_elem? ws 4 ≡ some e → get_elem? ws 5 ≡ some f → get_elem? ws 6 ≡ some g → get_elem? ws 7 ≡ some h
    → a ∷ b ∷ c ∷ d ∷ e ∷ f ∷ g ∷ h ∷ [] ≡ ws
eight_of (a' ∷ b' ∷ c' ∷ d' ∷ e' ∷ f' ∷ g' ∷ h' ∷ rest) a b c d e f g h wide pa pb pc pd pe pf pg ph =
    rw (some-injective a' a pa, some-injective b' b pb, some-injective c' c pc, some-injective d' d pd, some-injective e' e pe, some-injective f' f pf, some-injective g' g pg, some-injective h' h ph, slice_none' rest (omega arith)) refl
  where
    slice_none' : (xs : List ℕ) → length xs ≡ 0 → xs ≡ []
    slice_none' [] e = refl
    slice_none' (x ∷ xs) e = absurd (omega arith)
eight_of ws a b c d e f g h wide pa pb pc pd pe pf pg ph = absurd (omega arith)
