-- The guess is queried of each entry that is fetched, pick by pick.
use Rattle.std.proofs.Common.{◌≡◌, ℕ, suc, ◌+◌, ◌<◌, List, [], ◌∷◌, length, get_or, sym, ap, ◌∙◌, subst, arith, inl, inr}
use Rattle.std.specs.Prelude.{Bool, drop}
use Rattle.std.specs.List.{range_with_len}
use Rattle.std.proofs.lemmas.Bool.{cases_eq}
use Rattle.std.proofs.lemmas.List.{length-drop, get_or-drop, get_or-take, get_or-set_other}
use Rattle.rv64_decode.specs.declared.insn.Insn.{Insn}
use Rattle.core_view.specs.declared.entry.Entry.{Entry}
use Rattle.core_view.specs.declared.note.EntryId.{EntryId}
use Rattle.core_view.specs.View.{Context, View, no_entry, entry_at}
use Rattle.lawful_cycle.specs.Views.{context_in}
use Rattle.lawful_cycle.specs.Steps.{GoesBy, IsFollowedAt, OfNamed}
use Rattle.lawful_cycle.proofs.Laws.{goes_on}
use Rattle.core_back.specs.Machine.{Machine, context_at, no_context}
use Rattle.core_back.specs.Fetched.{ids_of, IsPickTurn}

module _ {S : Type 0} (answer : S → ℕ → ℕ → Insn → ℕ) (queried : S → ℕ → ℕ → Insn → S) where
  -- entries that stay where they are
  abbrev Stays : View → View → Type 0
  Stays v w = (c i : ℕ) → i < length (context_in v c).flight → (i < length (context_in w c).flight) × (entry_at (context_in w c) i ≡ entry_at (context_in v c) i)

  queries_after : (v w : View) → Stays v w → (ids : List EntryId) (s t : S) → GoesBy (OfNamed (IsFollowedAt answer queried) v) ids s t → GoesBy (OfNamed (IsFollowedAt answer queried) w) ids s t
  queries_after v w stays [] s t h = h
  queries_after v w stays (n ∷ ids) s t h =
      let o = h.1 in
      let p = stays n.context o.place o.within in
      (h.0, record { place = o.place; within = p.0; stamp = ap (λ (e : Entry). e.stamp) p.1 ∙ o.stamp; goes = subst (λ e. IsFollowedAt answer queried n.context e s h.0) (sym p.1) o.goes }, queries_after v w stays ids h.0 t h.2)

  -- the entries of a block, which stand from a place on
  abbrev Stand : View → ℕ → ℕ → List ℕ → List Entry → Type 0
  Stand v c from ks es = (j : ℕ) → j < length es → (from + j < length (context_in v c).flight) × (entry_at (context_in v c) (from + j) ≡ get_or es j no_entry) × ((get_or es j no_entry).stamp ≡ get_or ks j 0)

  queries_block : (v : View) (c from : ℕ) (ks : List ℕ) (es : List Entry) (s t : S) → length es ≡ length ks → Stand v c from ks es → GoesBy (IsFollowedAt answer queried c) es s t → GoesBy (OfNamed (IsFollowedAt answer queried) v) (ids_of c ks) s t
  queries_block v c from [] [] s t long stand h = h
  queries_block v c from [] (e ∷ es) s t long stand h = absurd (omega (arith, long))
  queries_block v c from (k ∷ ks) [] s t long stand h = absurd (omega (arith, long))
  queries_block v c from (k ∷ ks) (e ∷ es) s t long stand h =
      let first = stand 0 (omega arith) in (
        h.0,
        record { place = from + 0; within = first.0; stamp = ap (λ (f : Entry). f.stamp) first.1 ∙ first.2; goes = subst (λ f. IsFollowedAt answer queried c f s h.0) (sym first.1) h.1 },
        queries_block v c (from + 1) ks es h.0 t (omega (arith, long)) (λ j lt. subst (λ n. (n < length (context_in v c).flight) × (entry_at (context_in v c) n ≡ get_or es j no_entry) × ((get_or es j no_entry).stamp ≡ get_or ks j 0)) (next j) (stand (suc j) (omega (arith, lt)))) h.2,
      )
    where
      next : (j : ℕ) → from + suc j ≡ from + 1 + j
      next j = omega arith

  -- one more turn
  module _ (guesses : ℕ → ℕ → Insn → ℕ → Bool) (num2 : ℕ) (n u : Machine) (ids new : List EntryId) (c : ℕ) (now : IsPickTurn guesses n u c num2 ids new) where
    abbrev x : Context
    x = context_at n c

    abbrev y : Context
    y = context_at u c

    abbrev ss : List ℕ
    ss = range_with_len n.view.stamp now.number

    stays : Stays n.view u.view
    stays d i lt = elim (cases_eq c d) [
      | inl same ↦ subst (λ e. i < length (context_at n e).flight → (i < length (context_at u e).flight) × (entry_at (context_at u e) i ≡ entry_at (context_at n e) i)) same here lt
      | inr ne ↦ other (ap (λ (q : Machine). context_at q d) now.is ∙ get_or-set_other n.view.contexts c d (context_at u c) no_context (λ e. ne (sym e)))
    ]
      where
        here : i < length x.flight → (i < length y.flight) × (entry_at y i ≡ entry_at x i)
        here less =
            let count = now.block.count in
            (omega (arith, less, count), sym (get_or-take (length x.flight) y.flight i no_entry less) ∙ ap (λ (es : List Entry). get_or es i no_entry) now.block.kept)

        other : context_at u d ≡ context_at n d → (i < length (context_at u d).flight) × (entry_at (context_at u d) i ≡ entry_at (context_at n d) i)
        other is = (subst (λ (z : Context). i < length z.flight) (sym is) lt, ap (λ z. entry_at z i) is)

    long : length (drop (length x.flight) y.flight) ≡ length ss
    long =
        let gone = length-drop (length x.flight) y.flight in
        let count = now.block.count in
        omega (arith, gone, count)

    stand : Stand u.view c (length x.flight) ss (drop (length x.flight) y.flight)
    stand j lt =
        let count = now.block.count in
        let within : j < length ss = omega (arith, lt, long) in
        let at : get_or (drop (length x.flight) y.flight) j no_entry ≡ entry_at y (length x.flight + j) = get_or-drop (length x.flight) y.flight j no_entry in
        (omega (arith, count, within), sym at, ap (λ (e : Entry). e.stamp) (at ∙ (now.block.entries j within).is))

    pub queries_next : (s r t : S) → GoesBy (IsFollowedAt answer queried c) (drop (length x.flight) y.flight) r t → GoesBy (OfNamed (IsFollowedAt answer queried) n.view) ids s r → GoesBy (OfNamed (IsFollowedAt answer queried) u.view) new s t
    queries_next s r t block before =
        subst (λ ns. GoesBy (OfNamed (IsFollowedAt answer queried) u.view) ns s t) (sym now.listed)
        (goes_on (OfNamed (IsFollowedAt answer queried) u.view) ids (ids_of c ss) s r t (queries_after n.view u.view stays ids s r before) (queries_block u.view c (length x.flight) ss (drop (length x.flight) y.flight) r t long stand block))
