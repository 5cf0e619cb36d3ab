-- The labels in a map.
use Rattle.std.proofs.Common.{◌≡◌, ℕ, Bool, true, false, cond, List, [], ◌∷◌, ◌++◌, Some, None, map, refl, ap, Vec}
use Rattle.std.specs.Map.{lookup}
use Rattle.std.specs.Str.{bytes_eq}
use Rattle.indexmap.specs.IndexMap.{insert_entry}
use Rattle.rv64_asm.specs.Label.{Label, address_of}

abbrev pub labels_of : {A : Type 0} → List (Vec ℕ A × ℕ) → List Label
labels_of entries = map (λ e. (e.0.items, e.1)) entries

-- what the map finds by a name is what the list has
pub found : {A : Type 0} (name : List ℕ) (entries : List (Vec ℕ A × ℕ)) → lookup (λ k. bytes_eq name k.items) entries ≡ address_of (labels_of entries) name
found name [] = refl
found name (e ∷ es) = ap (λ r. cond (bytes_eq name e.0.items) (Some e.1) r) (found name es)

-- a label that is not there goes last
inserted : {A : Type 0} (k : Vec ℕ A) (v : ℕ) (es : List (Vec ℕ A × ℕ)) → address_of (labels_of es) k.items ≡ None → labels_of (insert_entry (λ a b. bytes_eq a.items b.items) es k v) ≡ labels_of es ++ (k.items, v) ∷ []
inserted k v [] h = refl
inserted {A} k v (e ∷ es) h = by (bytes_eq k.items e.0.items) refl (inserted k v es)
  where
    by : (b : Bool) → bytes_eq k.items e.0.items ≡ b → (address_of (labels_of es) k.items ≡ None → labels_of (insert_entry (λ a b. bytes_eq a.items b.items) es k v) ≡ labels_of es ++ (k.items, v) ∷ []) → labels_of (insert_entry (λ a b. bytes_eq a.items b.items) (e ∷ es) k v) ≡ labels_of (e ∷ es) ++ (k.items, v) ∷ []
    by true q more = absurd (let g : Some e.1 ≡ None = rw q at h in cc)
    by false q more = let g : address_of (labels_of es) k.items ≡ None = rw q at h in rw q (ap (λ r. (e.0.items, e.1) ∷ r) (more g))

pub added : {A : Type 0} (k : Vec ℕ A) (v : ℕ) (es : List (Vec ℕ A × ℕ)) (name : List ℕ) → k.items ≡ name → address_of (labels_of es) name ≡ None → labels_of (insert_entry (λ a b. bytes_eq a.items b.items) es k v) ≡ labels_of es ++ (name, v) ∷ []
added k v es name e h = rw (← e) (inserted k v es (rw e h))
