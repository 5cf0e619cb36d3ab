-- Items of an array, one by one.
use Rattle.std.proofs.Common.{◌≡◌, ℕ, zero, suc, ◌+◌, ◌<◌, ◌≤◌, Bool, ◌&&◌, true, List, [], ◌∷◌, ◌++◌, length, map, get_or, drop, Option, Some, None, option_map, unwrap_or, Bor, refl, sym, ap, subst, ◌∙◌, arith}
use Rattle.std.proofs.lemmas.List.{append_assoc, length-map, map-append}
use Rattle.std.specs.Option.{MatchOption, IfSome, option_and_then}
use Rattle.std.specs.List.{HoldsAt}
use Rattle.toml.proofs.Views.{items_view-drop, get_item_within, get_item_past}
use Rattle.toml.specs.Data.{Data, Items, no_items, item, no_members, as_table, get_item}
use Rattle.lab_plan.specs.declared.job.Job.{Job}
use Rattle.toml.specs.View.{view, items_view}
use Rattle.toml.specs.declared.value.Value.{Value}
use Rattle.lab_plan.specs.Form.{all_items}
use Rattle.lab_plan.specs.Jobs.{AreFaultlessBelow, fields_of_value, job_fields, jobs_of, table_of}
use Rattle.lab_plan.specs.Parts.{count_of, table_of_item}

-- an item at an index, and those after it
pub all_items_drop : (p : Data → Bool) (vs : List Value) (i : ℕ) (d : Value) → i < length vs → all_items p (items_view (drop i vs)) ≡ (p (view (get_or vs i d)) && all_items p (items_view (drop (i + 1) vs)))
all_items_drop p vs i d h = ap (all_items p) (items_view-drop vs i d h)

-- no item is left
pub items_end : (vs : List Value) (i : ℕ) → length vs ≤ i → drop i vs ≡ []
items_end [] zero h = refl
items_end [] (suc i) h = refl
items_end (v ∷ vs) zero h = absurd (omega arith)
items_end (v ∷ vs) (suc i) h = items_end vs i (omega arith)

pub all_items_end : (p : Data → Bool) (vs : List Value) (i : ℕ) → length vs ≤ i → all_items p (items_view (drop i vs)) ≡ true
all_items_end p vs i h = ap (λ rest. all_items p (items_view rest)) (items_end vs i h)

pub jobs_drop : (vs : List Value) (i : ℕ) (d : Value) → i < length vs → jobs_of (items_view (drop i vs)) ≡ fields_of_value (view (get_or vs i d)) ∷ jobs_of (items_view (drop (i + 1) vs))
jobs_drop vs i d h = ap jobs_of (items_view-drop vs i d h)

pub jobs_end : (vs : List Value) (i : ℕ) → length vs ≤ i → jobs_of (items_view (drop i vs)) ≡ []
jobs_end vs i h = ap (λ rest. jobs_of (items_view rest)) (items_end vs i h)

-- as many items as values
pub count_of_view : (vs : List Value) → count_of (items_view vs) ≡ length vs
count_of_view [] = refl
count_of_view (v ∷ vs) = omega (arith, count_of_view vs)

-- what a slice has at an index, for callers of its `get`
pub item_found : (r : Option (Bor Value)) (vs : List Value) (i : ℕ) → MatchOption r (length vs ≤ i) (λ x. (i < length vs) × HoldsAt (λ y. x.now ≡ y) vs i) → IfSome r (λ x. x.now ≡ get_or vs i x.now) → option_map (λ x. view x.now) r ≡ get_item i (items_view vs)
item_found None vs i past is = get_item_past vs i past
item_found (Some x) vs i within is = ap (λ v. Some (view v)) is ∙ get_item_within vs i x.now within.0

-- the table at an index is that of the value there
pub table_within : (vs : List Value) (i : ℕ) (v : Value) → i < length vs → v ≡ get_or vs i v → table_of (view v) ≡ table_of_item (items_view vs) i
table_within vs i v h is = ap (λ w. table_of (view w)) is ∙ ap (λ o. unwrap_or (option_and_then as_table o) no_members) (get_item_within vs i v h)

-- as many jobs as items
jobs_of_length : (ds : Items) → length (jobs_of ds) ≡ count_of ds
jobs_of_length no_items = refl
jobs_of_length (item d ds) = omega (arith, jobs_of_length ds)

pub job_count_is : (jobs : List Job) (ds : Items) → map job_fields jobs ≡ jobs_of ds → length jobs ≡ count_of ds
job_count_is jobs ds e = sym (length-map jobs job_fields) ∙ ap length e ∙ jobs_of_length ds

-- one more job
pub jobs_more : (before after : List Job) (job : Job) (vs : List Value) (i : ℕ) (v : Value) → after ≡ before ++ job ∷ [] → i < length vs → v ≡ get_or vs i v → job_fields job ≡ fields_of_value (view v)
    → map job_fields before ++ jobs_of (items_view (drop i vs)) ≡ jobs_of (items_view vs) → map job_fields after ++ jobs_of (items_view (drop (i + 1) vs)) ≡ jobs_of (items_view vs)
jobs_more before after job vs i v e within is same h =
    let rest = jobs_of (items_view (drop (i + 1) vs)) in
    ap (λ js. map job_fields js ++ rest) e
    ∙ ap (λ fs. fs ++ rest) (map-append job_fields before (job ∷ []))
    ∙ append_assoc (map job_fields before) (job_fields job ∷ []) rest
    ∙ ap (λ f. map job_fields before ++ f ∷ rest) (same ∙ ap (λ w. fields_of_value (view w)) is)
    ∙ ap (λ fs. map job_fields before ++ fs) (sym (jobs_drop vs i v within))
    ∙ h

-- the jobs of all values
pub faultless_all : (ds : Items) (vs : List Value) → items_view vs ≡ ds → AreFaultlessBelow (items_view vs) (length vs) → AreFaultlessBelow ds (count_of ds)
faultless_all ds vs e h = subst (λ ds. AreFaultlessBelow ds (count_of ds)) e (subst (AreFaultlessBelow (items_view vs)) (sym (count_of_view vs)) h)
