-- Owners of which one changed.
use Rattle.std.proofs.Common.{◌≡◌, ℕ, zero, suc, ◌+◌, ◌<◌, ◌≤◌, List, [], ◌∷◌, ◌++◌, length, get_or, set, take, drop, refl, sym, ap, ap₂, ◌∙◌, subst, arith, All, get_or-set_same, get_or-set_other, length-drop}
use Rattle.std.proofs.lemmas.List.{map-append, get_or-map, length-map}
use mathlib.Core.Logic.{dite}
use native.Mathlib.Decide.{ℕ_discrete}
use Rattle.std.specs.List.{sum_by}
use Rattle.std.specs.declared.alloc.Global.{Global}
use Rattle.std.proofs.lemmas.List.Sums.{sum_by-set, sum_by_push}
use Rattle.std.proofs.Math.Seq.{map-set_same}
use Rattle.atomic_blocks.specs.Lent.{RowsId}
use Rattle.crossbeam_deque.specs.Handles.{worker_view, worker_deque, worker_flavor, stealer_deque}
use Rattle.worker_pool.specs.declared.thief.Thief.{Thief}
use Rattle.worker_pool.specs.Thieves.{deques_of}
use Rattle.worker_pool.proofs.Thieves.{length-deques_of}
use Rattle.worker_pool.specs.Owners.{Owner, IsOwner, parts, dealt_in, taken_by, owned}
use Rattle.worker_pool.specs.Numbers.{numbers}

pub numbers_push : (a n : ℕ) → numbers a (suc n) ≡ numbers a n ++ (a + n) ∷ []
numbers_push a zero = ap (λ (k : ℕ). k ∷ []) (omega arith)
numbers_push a (suc n) = ap (λ (l : List ℕ). a ∷ l) (numbers_push (suc a) n ∙ ap (λ (k : ℕ). numbers (suc a) n ++ k ∷ []) (omega arith))

pub sum_numbers : (h : ℕ → ℕ) (n : ℕ) → sum_by h (numbers 0 (n + 1)) ≡ sum_by h (numbers 0 n) + h n
sum_numbers h n =
    let one : n + 1 ≡ suc n = omega arith in
    let last : 0 + n ≡ n = omega arith in
    ap (λ (k : ℕ). sum_by h (numbers 0 k)) one ∙ (ap (sum_by h) (numbers_push 0 n ∙ ap (λ (k : ℕ). numbers 0 n ++ k ∷ []) last) ∙ sum_by_push h (numbers 0 n) n)

pub dealt_set : (h : ℕ → ℕ) (os : List Owner) (i : ℕ) (old o : Owner) → i < length os → old ≡ get_or os i old → dealt_in h (set os i o) + sum_by h (worker_view old).dealt ≡ dealt_in h os + sum_by h (worker_view o).dealt
dealt_set h os i old o l is =
    let s = sum_by-set (λ (u : Owner). sum_by h (worker_view u).dealt) os i o old l in
    let e = ap (λ (u : Owner). sum_by h (worker_view u).dealt) is in omega arith

pub taken_by_set : (h : ℕ → ℕ) (os : List Owner) (i : ℕ) (old o : Owner) → i < length os → old ≡ get_or os i old → taken_by h (set os i o) + sum_by h (worker_view old).taken ≡ taken_by h os + sum_by h (worker_view o).taken
taken_by_set h os i old o l is =
    let s = sum_by-set (λ (u : Owner). sum_by h (worker_view u).taken) os i o old l in
    let e = ap (λ (u : Owner). sum_by h (worker_view u).taken) is in omega arith

pub owned_set : (os : List Owner) (i : ℕ) (old o : Owner) → old ≡ get_or os i old → worker_deque o ≡ worker_deque old → owned (set os i o) ≡ owned os
owned_set os i old o is same = map-set_same (λ (u : Owner). worker_deque u) os i o old (same ∙ ap (λ (u : Owner). worker_deque u) is)

-- of owners of which those before the next are done, the next is done too
pub done_set : (F : Owner → Type 0) (os : List Owner) (next k : ℕ) (o d : Owner) → next < length os → F o → (k < next → F (get_or os k d)) → k < next + 1 → F (get_or (set os next o) k d)
done_set F os next k o d l mine before few = dite (ℕ_discrete k next)
    (λ e. subst F (sym (ap (λ (j : ℕ). get_or (set os next o) j d) e ∙ get_or-set_same os next o d l)) mine)
    (λ ne. subst F (sym (get_or-set_other os next k o d ne)) (before (omega arith)))

pub left_set : (os init : List Owner) (next k : ℕ) (o d : Owner) → get_or os k d ≡ get_or init k d → next + 1 ≤ k → get_or (set os next o) k d ≡ get_or init k d
left_set os init next k o d same l = get_or-set_other os next k o d (λ e. omega arith) ∙ same

pub take_next : {X : Type 0} (ds : List X) (k : ℕ) (d : X) → k < length ds → take (k + 1) ds ≡ take k ds ++ get_or ds k d ∷ []
take_next ds k d l = let one : k + 1 ≡ suc k = omega arith in ap (λ (j : ℕ). take j ds) one ∙ taken ds k d l
  where
    taken : {X : Type 0} (ds : List X) (k : ℕ) (d : X) → k < length ds → take (suc k) ds ≡ take k ds ++ get_or ds k d ∷ []
    taken [] k d l = absurd (omega arith)
    taken {X} (x ∷ xs) zero d l = refl
    taken {X} (x ∷ xs) (suc k) d l = ap (λ (ys : List X). x ∷ ys) (taken xs k d (omega arith))

pub record IsHead {X : Type 0} (ds : List X) (k : ℕ) (x : X) (xs : List X) : Type 0 where
  pub within : k < length ds
  pub head : (d : X) → get_or ds k d ≡ x
  pub rest : xs ≡ drop (k + 1) ds

pub drop_head : {X : Type 0} (ds : List X) (k : ℕ) (x : X) (xs : List X) → x ∷ xs ≡ drop k ds → IsHead ds k x xs
drop_head ds k x xs e = let one : suc k ≡ k + 1 = omega arith in let h = at ds k x xs e in record { within = h.0; head = h.1; rest = h.2 ∙ ap (λ (j : ℕ). drop j ds) one }
  where
    at : {X : Type 0} (ds : List X) (k : ℕ) (x : X) (xs : List X) → x ∷ xs ≡ drop k ds → (k < length ds) × ((d : X) → get_or ds k d ≡ x) × (xs ≡ drop (suc k) ds)
    at [] zero x xs e = let l = ap length e in absurd (omega arith)
    at [] (suc k) x xs e = let l = ap length e in absurd (omega arith)
    at {X} (y ∷ ys) zero x xs e = (omega arith, (λ d. ap (λ (zs : List X). get_or zs 0 x) (sym e)), ap (λ (zs : List X). drop 1 zs) e)
    at (y ∷ ys) (suc k) x xs e = let h = at ys k x xs e in ((let l = h.0 in omega arith), h.1, h.2)

place_of : (os init : List Owner) (n : ℕ) (now : Owner) → owned os ≡ owned init → n < length os → now ≡ get_or os n now → worker_deque now ≡ get_or (owned init) n (worker_deque now)
place_of os init n now same l is = ap (λ (o : Owner). worker_deque o) is ∙ (sym (get_or-map (λ (o : Owner). worker_deque o) os n now (worker_deque now) l) ∙ ap (λ (ds : List (RowsId × Global)). get_or ds n (worker_deque now)) same)

-- the next owner's thief joins the row
pub row_next : (row : List Thief) (t : Thief) (os init : List Owner) (n : ℕ) (now : Owner) → deques_of row ≡ take n (owned init) → owned os ≡ owned init → n < length os → now ≡ get_or os n now → stealer_deque t.stealer ≡ worker_deque now → deques_of (row ++ t ∷ []) ≡ take (n + 1) (owned init)
row_next row t os init n now row_is same l is own =
    let at = own ∙ place_of os init n now same l is in
    let len : n < length (owned init) = let a = ap length same in let b = length-map os (λ (o : Owner). worker_deque o) in omega arith in
    map-append (λ (u : Thief). stealer_deque u.stealer) row (t ∷ [])
    ∙ (ap₂ (λ (a : List (RowsId × Global)) (b : RowsId × Global). a ++ b ∷ []) row_is at ∙ sym (take_next (owned init) n (worker_deque now) len))

-- the next thief of a row is the next owner's
pub thief_next : (rest rest' : List Thief) (t : Thief) (os init : List Owner) (n : ℕ) (now : Owner) → deques_of rest ≡ drop n (owned init) → rest ≡ t ∷ rest' → owned os ≡ owned init → n < length os → now ≡ get_or os n now
    → (stealer_deque t.stealer ≡ worker_deque now) × (deques_of rest' ≡ drop (n + 1) (owned init))
thief_next rest rest' t os init n now row e same l is =
    let h = drop_head (owned init) n (stealer_deque t.stealer) (deques_of rest') (sym (ap deques_of e) ∙ row) in
    (sym (h.head (worker_deque now)) ∙ sym (place_of os init n now same l is), h.rest)

-- an owner with one part less, or one more
pub fewer : (p : ℕ) (old new : Owner) → worker_flavor new ≡ worker_flavor old → parts new + 1 ≡ parts old → IsOwner (suc p) old → IsOwner p new
fewer p old new flavor part h = record { fifo = flavor ∙ h.fifo; has = (let a = h.has in omega arith) }

pub more : (p : ℕ) (old new : Owner) → worker_flavor new ≡ worker_flavor old → parts new ≡ parts old + 1 → IsOwner p old → IsOwner (suc p) new
more p old new flavor part h = record { fifo = flavor ∙ h.fifo; has = (let a = h.has in omega arith) }

-- the owner at a place that is as it was at the beginning
pub still : (F : Owner → Type 0) (os init : List Owner) (n : ℕ) (now : Owner) → All F init → length os ≡ length init → n < length os → now ≡ get_or os n now → get_or os n now ≡ get_or init n now → F now
still F os init n now all many l is same = subst F (sym (is ∙ same)) (all n now (omega arith))

pub within_next : (rest rest' : List Thief) (t : Thief) (os init : List Owner) (n : ℕ) → deques_of rest ≡ drop n (owned init) → rest ≡ t ∷ rest' → length os ≡ length init → n < length os
within_next rest rest' t os init n row e many =
    let h = drop_head (owned init) n (stealer_deque t.stealer) (deques_of rest') (sym (ap deques_of e) ∙ row) in
    let w = h.within in let b = length-map init (λ (o : Owner). worker_deque o) in omega arith

-- with no thief left, all owners are done
pub all_done : (rest : List Thief) (os init : List Owner) (n k : ℕ) → deques_of rest ≡ drop n (owned init) → length rest ≡ 0 → length os ≡ length init → k < length os → k < n
all_done rest os init n k row none many l =
    let a = ap length row in let b = length-deques_of rest in let d = length-drop n (owned init) in let m = length-map init (λ (o : Owner). worker_deque o) in omega arith

pub numbers_next : (n : ℕ) → numbers 0 (n + 1) ≡ numbers 0 n ++ n ∷ []
numbers_next n =
    let one : n + 1 ≡ suc n = omega arith in
    let last : 0 + n ≡ n = omega arith in
    ap (numbers 0) one ∙ (numbers_push 0 n ∙ ap (λ (k : ℕ). numbers 0 n ++ k ∷ []) last)
