-- What is selected from entries is selected from them as they are shown.
use Rattle.std.proofs.Common.{◌≡◌, ℕ, ◌<◌, Bool, true, false, not, cond, List, Option, Some, None, [], ◌∷◌, length, get_or, map, refl, sym, ap, ◌∙◌, arith}
use Rattle.std.specs.Prelude.{All, AllPairs, Contains, filter, count_by, nat_lt, min, ◌==◌, option_map}
use Rattle.std.specs.List.{reduce}
use Rattle.std.proofs.lemmas.List.{length-map}
use Rattle.std.proofs.lemmas.List.Sums.{sum_by-cons}
use Rattle.std.proofs.lemmas.List.Elements.{All-weaker, All-map, All-contains, All-filter, All-same}
use Rattle.issue_queue.specs.declared.entry.QueueView.{QueueView}
use Rattle.core_view.specs.declared.note.EntryId.{EntryId}
use Rattle.issue_queue.specs.Entry.{Entry, IsReady, AreDistinct}
use Rattle.issue_queue.specs.Views.{view_of, name_of}
use Rattle.issue_queue.specs.Stamps.{place_of_oldest, stamps_of}
use Rattle.issue_queue.specs.IsSelected.{IsInOrder, is_among, IsSelected}
use Rattle.data_flow.specs.Flow.{Lane, queued_waiter}
use Rattle.data_flow.specs.Wired.{waiter_of}
use Rattle.data_flow.proofs.Ties.{get_or-map}
use Rattle.data_flow.proofs.Ready.{shown_entry, IsFaithful}

-- all entries as they are shown
pub shown_entries : (lanes : List Lane) (es : List Entry) → map (queued_waiter lanes) (map waiter_of es) ≡ map (shown_entry lanes) es
shown_entries lanes [] = refl
shown_entries lanes (e ∷ es) = ap (λ (fs : List Entry). shown_entry lanes e ∷ fs) (shown_entries lanes es)

-- a relation that holds of each two entries as they are shown
AllPairs-shown : (R : Entry → Entry → Type 0) (f : Entry → Entry) → ((x y : Entry) → R x y → R (f x) (f y)) → (xs : List Entry) → AllPairs R xs → AllPairs R (map f xs)
AllPairs-shown R f keeps xs h i j d below within =
    let lt : j < length xs = omega (arith, within, length-map xs f) in
    rw (get_or-map f xs i d d (omega arith), get_or-map f xs j d d lt) (keeps (get_or xs i d) (get_or xs j d) (h i j d below lt))

Contains-shown : (f : Entry → Entry) (xs : List Entry) (x : Entry) → Contains xs x → Contains (map f xs) (f x)
Contains-shown f xs x h = (h.0, omega (arith, h.1, length-map xs f), get_or-map f xs h.0 x (f x) h.1 ∙ ap f h.2)

names_shown : (lanes : List Lane) (es : List Entry) → map name_of (map (shown_entry lanes) es) ≡ map name_of es
names_shown lanes [] = refl
names_shown lanes (e ∷ es) = ap (λ (ns : List EntryId). name_of e ∷ ns) (names_shown lanes es)

filter_shown : (lanes : List Lane) (selected : List EntryId) (es : List Entry) → map (shown_entry lanes) (filter (λ e. not (is_among selected e)) es) ≡ filter (λ e. not (is_among selected e)) (map (shown_entry lanes) es)
filter_shown lanes selected [] = refl
filter_shown lanes selected (e ∷ es) = at_test (not (is_among selected e)) refl (filter_shown lanes selected es)
  where
    at_test : (b : Bool) → not (is_among selected e) ≡ b → map (shown_entry lanes) (filter (λ e. not (is_among selected e)) es) ≡ filter (λ e. not (is_among selected e)) (map (shown_entry lanes) es)
        → map (shown_entry lanes) (filter (λ e. not (is_among selected e)) (e ∷ es)) ≡ filter (λ e. not (is_among selected e)) (map (shown_entry lanes) (e ∷ es))
    at_test true is rest = rw is (ap (λ (fs : List Entry). shown_entry lanes e ∷ fs) rest)
    at_test false is rest = rw is rest

-- ---- counts and places go by stamps

count_shown : (lanes : List Lane) (test : ℕ → Bool) (es : List Entry) → count_by (λ e. test e.stamp) (map (shown_entry lanes) es) ≡ count_by (λ e. test e.stamp) es
count_shown lanes test [] = refl
count_shown lanes test (e ∷ es) =
    let one : Entry → ℕ = λ x. cond (test x.stamp) 1 0 in
    omega (arith, sum_by-cons one (shown_entry lanes e) (map (shown_entry lanes) es), sum_by-cons one e es, count_shown lanes test es)

stamps_shown : (lanes : List Lane) (c : ℕ) (es : List Entry) → stamps_of c (map (shown_entry lanes) es) ≡ stamps_of c es
stamps_shown lanes c [] = refl
stamps_shown lanes c (e ∷ es) = at_test (e.context == c) refl (stamps_shown lanes c es)
  where
    at_test : (b : Bool) → (e.context == c) ≡ b → stamps_of c (map (shown_entry lanes) es) ≡ stamps_of c es → stamps_of c (map (shown_entry lanes) (e ∷ es)) ≡ stamps_of c (e ∷ es)
    at_test true is rest = rw is (ap (λ (ks : List ℕ). e.stamp ∷ ks) rest)
    at_test false is rest = rw is rest

same_option : (g h : ℕ → ℕ) (o : Option ℕ) → ((k : ℕ) → g k ≡ h k) → option_map g o ≡ option_map h o
same_option g h None same = refl
same_option g h (Some k) same = ap (λ (n : ℕ). Some n) (same k)

pub place_shown : (lanes : List Lane) (c : ℕ) (es : List Entry) → place_of_oldest c (map (queued_waiter lanes) (map waiter_of es)) ≡ place_of_oldest c es
place_shown lanes c es =
    ap (place_of_oldest c) (shown_entries lanes es)
    ∙ same_option (λ oldest. count_by (λ e. nat_lt e.stamp oldest) (map (shown_entry lanes) es)) (λ oldest. count_by (λ e. nat_lt e.stamp oldest) es) (reduce min (stamps_of c (map (shown_entry lanes) es)))
    (λ oldest. count_shown lanes (λ k. nat_lt k oldest) es)
    ∙ ap (λ (ks : List ℕ). option_map (λ oldest. count_by (λ e. nat_lt e.stamp oldest) es) (reduce min ks)) (stamps_shown lanes c es)

-- ---- what is selected

pub carried : (key : QueueView → ℕ) (width : ℕ) (lanes : List Lane) (old rest : List Entry) (selected : List EntryId) → All (IsFaithful (shown_entry lanes)) old
    → IsSelected (λ e. key (view_of e)) width old rest selected → IsSelected (λ e. key (view_of e)) width (map (shown_entry lanes) old) (map (shown_entry lanes) rest) selected
carried key width lanes old rest selected h s =
    let f : Entry → Entry = shown_entry lanes in
    let order : Entry → ℕ = λ e. key (view_of e) in
    let kept : All (IsFaithful f) rest = All-same (IsFaithful f) rest (filter (λ e. not (is_among selected e)) old) s.others (All-filter (λ e. not (is_among selected e)) (IsFaithful f) old h) in
    record {
      chosen = map f s.chosen;
      names = s.names ∙ sym (names_shown lanes s.chosen);
      queued = All-map (Contains (map f old)) f s.chosen (All-weaker (Contains old) (λ e. Contains (map f old) (f e)) (Contains-shown f old) s.chosen s.queued);
      once = AllPairs-shown AreDistinct f (λ x y apart. apart) s.chosen s.once;
      ready = All-map IsReady f s.chosen (λ i d lt. (All-contains (IsFaithful f) old (get_or s.chosen i d) h (s.queued i d lt)).there (s.ready i d lt));
      in_order = AllPairs-shown (IsInOrder order) f (λ x y below. below) s.chosen s.in_order;
      at_most = omega (arith, s.at_most, length-map s.chosen f);
      exhausted = λ fewer. All-map (λ e. ¬ (IsReady e)) f rest (λ i d lt ready. s.exhausted (omega (arith, fewer, length-map s.chosen f)) i d lt ((kept i d lt).back ready));
      first = All-map (λ e. All (λ g. IsReady g → IsInOrder order e g) (map f rest)) f s.chosen
          (λ i d lt. All-map (λ g. IsReady g → IsInOrder order (f (get_or s.chosen i d)) g) f rest (λ j x within ready. s.first i d lt j x within ((kept j x within).back ready)));
      others = ap (map f) s.others ∙ filter_shown lanes selected old;
    }
