-- What holds of the leaves of two trees holds of those of a tree that merges them.
use Rattle.std.specs.Prelude.{◌≡◌, ◌∷◌, ◌++◌, [], List, All}
use Rattle.std.proofs.Common.{refl, sym, ◌∙◌}
use Rattle.std.proofs.lemmas.List.Elements.{All-append, All-cons, All-contains, All-nil}
use Rattle.join_law.specs.declared.merges.Tree.{Tree}
use Rattle.checkpoint.proofs.Laws.{AreMarksOf-kin}
use Rattle.checkpoint.specs.Aligned.{AreMarksOf}
use Rattle.checkpoint.specs.Further.{MarkKin}
use Rattle.checkpoint.specs.MarkValue.{MarkValue}
use Rattle.join_law.specs.Eight.{EightKin}
use Rattle.join_law.specs.JoinOf.{AllKin}
use Rattle.join_law.specs.declared.places.Eight.{Eight}
use Rattle.join_law.specs.Tree.{leaves}
use Rattle.origin_set.specs.OriginValue.{OriginValue}

pub all_merged : {J A : Type 0} (P : J → Type 0) (left right result : Tree J A) →
    leaves result ≡ leaves left ++ leaves right →
    All P (leaves left) → All P (leaves right) → All P (leaves result)
all_merged P left right result e l r = rw e (All-append P (leaves left) (leaves right) l r)

-- what holds of two values holds of the list of both
all_listed : {A : Type 0} (P : A → Type 0) (x y : A) (ys : List A) → P x → P y → ys ≡ y ∷ [] → All P (x ∷ ys)
all_listed P x y ys a b are = All-cons P x ys a (rw are (All-cons P y [] b (All-nil P)))

-- eights of marks of one origin are kin
pub kin_of_eights : (origin : OriginValue) (x y : Eight MarkValue) (ys : List (Eight MarkValue)) →
    AreMarksOf origin x → AreMarksOf origin y → ys ≡ y ∷ [] → AllKin (EightKin MarkKin) (x ∷ ys)
kin_of_eights origin x y ys a b are = AreMarksOf-kin origin (x ∷ ys) (all_listed (AreMarksOf origin) x y ys a b are)

-- so are marks of one origin and context
pub kin_of_marks : (origin : OriginValue) (x y : MarkValue) (ys : List MarkValue) →
    x.origin ≡ origin → y.origin ≡ origin → x.context ≡ y.context → ys ≡ y ∷ [] → AllKin MarkKin (x ∷ ys)
kin_of_marks origin x y ys a b same are u v i j =
    let P = λ (m : MarkValue). (m.origin ≡ origin) × (m.context ≡ x.context) in
    let all = all_listed P x y ys (a, refl) (b, sym same) are in
    let left = All-contains P (x ∷ ys) u all i in
    let right = All-contains P (x ∷ ys) v all j in
    record { origin = left.0 ∙ sym right.0; context = left.1 ∙ sym right.1 }
