-- There is a place for one more of an operation where fewer of its kind are renamed than there may be.
use Rattle.std.proofs.Common.{◌≡◌, ◌↔◌, ℕ, zero, suc, ◌<◌, ◌≤◌, true, false, List, take, count_by, sym, ap, ◌∙◌, arith, true≢false, length-take}
use Rattle.std.specs.Prelude.{◌==◌, nat_lt, slice_index_or}
use Rattle.std.proofs.lemmas.Bool.{lt-ltb, ltb-true}
use Rattle.std.proofs.lemmas.List.Sums.{count_by-le-length}
use Rattle.core_view.specs.declared.operation.Operation.{Operation}
use Rattle.core_view.specs.declared.entry.Entry.{Entry}
use Rattle.core_view.specs.declared.decoded.OperationKind.{OperationKind}
use Rattle.core_view.specs.Kinds.{kind_index, kind_of}
use Rattle.core_view.specs.Operations.{is_load, is_store}
use Rattle.core_view.proofs.KindTests.{load-kind, store-kind}
use Rattle.flight.specs.Marked.{is_of_kind}
use Rattle.load_store_queue.specs.Queues.{Places, HasPlace, limits_of}
use Rattle.load_store_queue.proofs.SlotKinds.{AreOldest, loads-counted, stores-counted}

module _ (q : Places) (renamed : ℕ) (es : List Entry) (o : Operation) (few : renamed ≤ 64) (oldest : AreOldest renamed es) where
  abbrev of_kind : ℕ → ℕ
  of_kind k = count_by (is_of_kind k) (take renamed es)

  -- what is neither a load nor a store needs no place, and fewer than 65 are renamed
  neither : (k : ℕ) → false ≡ is_load o → false ≡ is_store o → (nat_lt (of_kind k) 65 ≡ true) ↔ HasPlace q es o
  neither k load store = (
    λ below. record { load = λ is. absurd (true≢false (sym is ∙ sym load)); store = λ is. absurd (true≢false (sym is ∙ sym store)) },
    λ has. lt-ltb (of_kind k) 65 (omega (arith, few, count_by-le-length (is_of_kind k) (take renamed es), length-take renamed es)),
  )

  limit : (k : ℕ) → k < 6 → (k == 3) ≡ is_load o → (k == 4) ≡ is_store o → (nat_lt (of_kind k) (slice_index_or (limits_of q.load_places q.store_places) k 0) ≡ true) ↔ HasPlace q es o
  limit zero lt load store = neither 0 load store
  limit (suc zero) lt load store = neither 1 load store
  limit (suc (suc zero)) lt load store = neither 2 load store
  limit (suc (suc (suc zero))) lt load store = (
    λ below. record { load = λ is. omega (arith, loads-counted renamed es oldest, ltb-true (of_kind 3) q.load_places below); store = λ is. absurd (true≢false (sym is ∙ sym store)) },
    λ has. lt-ltb (of_kind 3) q.load_places (omega (arith, loads-counted renamed es oldest, has.load (sym load))),
  )
  limit (suc (suc (suc (suc zero)))) lt load store = (
    λ below. record { load = λ is. absurd (true≢false (sym is ∙ sym load)); store = λ is. omega (arith, stores-counted renamed es oldest, ltb-true (of_kind 4) q.store_places below) },
    λ has. lt-ltb (of_kind 4) q.store_places (omega (arith, stores-counted renamed es oldest, has.store (sym store))),
  )
  limit (suc (suc (suc (suc (suc zero))))) lt load store = neither 5 load store
  limit (suc (suc (suc (suc (suc (suc k)))))) lt load store = absurd (omega arith)

  pub place-below-limit : (limits : List ℕ) (kind : OperationKind) (k n : ℕ) → limits ≡ limits_of q.load_places q.store_places → kind ≡ kind_of o → k ≡ kind_index kind → k < 6 →
      n ≡ count_by (is_of_kind (kind_index kind)) (take renamed es) → (nat_lt n (slice_index_or limits k 0) ≡ true) ↔ HasPlace q es o
  place-below-limit limits kind k n limits_are kind_is index lt counted =
      let of : k ≡ kind_index (kind_of o) = index ∙ ap kind_index kind_is in
      rw (limits_are, counted, ← index) (limit k lt (ap (λ j. j == 3) of ∙ load-kind o) (ap (λ j. j == 4) of ∙ store-kind o))
