use Rattle.std.proofs.Common.{arith, sym, ap, ◌∙◌, subst, ◌≡◌, ◌∷◌, Option, Some, ℕ, eqb, List, inl, refl}
use Rattle.checkpoint_book.specs.Among.{In}
use mathlib.Core.Option.{none}
use prog.Atomic.{either}
use Rattle.atomic_table.specs.Table.{Allows, step, rest}
use Rattle.checkpoint_book.specs.declared.page.Page.{Page}
use Rattle.checkpoint_book.specs.History.{own}
use Rattle.checkpoint_book.specs.OneHistory.{HasOneHistory}
use Rattle.checkpoint_book.specs.Steps.{SeatState, TakesPage}
use Rattle.checkpoint_book.specs.LockSeats.{calls_of, first_calls}
use Rattle.checkpoint_book.specs.declared.call.Call.{Call}
use Rattle.checkpoint_book.proofs.Kept.{takes_page, page_of}
use Rattle.checkpoint_book.proofs.lock.Lock.take.Goals as goal

pub compare_exchange-requires : goal.compare_exchange-requires
compare_exchange-requires g c =
    let key = c.args.self.now.table.shared.key in
    let slots = c.args.self.now.table.shared.table_id.slots in
    let sized = c.args.self.now.sized.0 in
    let i = c.loop.invariant in (
      i.lock ∙ c.requires.own.lock,
      omega arith,
      subst (λ (m : SeatState). Allows (HasOneHistory key) slots c.loop.seat.place.id m 0 (λ n. either (eqb n 0) 1 n) (TakesPage (step slots 0 0 1 none) m)) (sym (i.me ∙ c.requires.own.state)) (takes_page key slots c.loop.seat.place.id key.opening.value (c.args.pass, calls_of c.args.seat.now)),
    )

pub exchange-requires : goal.exchange-requires
exchange-requires g c =
    let i = c.loop.invariant in
    let now = c.compare_exchange.ensures in
    let t = now.2.0 c.if-compare_exchange-eq0.true in
    let held = ap (λ m. m.1) t.1.0 in
    (now.0 ∙ (i.lock ∙ c.requires.own.lock), (Some t.0, held ∙ ap (λ (l : List (ℕ × Option Page)). (0, Some t.0) ∷ rest l) (sym held)))

pub returns-then-compare_exchange-eq0-clause-calls : goal.returns-then-compare_exchange-eq0-clause-calls
returns-then-compare_exchange-eq0-clause-calls g c =
    let i = c.loop.invariant in
    let t = c.compare_exchange.ensures.2.0 c.if-compare_exchange-eq0.true in
    let mine = t.1.2 (c.args.pass, calls_of c.args.seat.now) (subst (λ (m : SeatState). In m.0.passes (c.args.pass, calls_of c.args.seat.now)) (sym (i.me ∙ c.requires.own.state)) (inl refl)) in
    let before = c.compare_exchange.new.seat.me.1 in
    let same : t.0 ≡ c.unwrap.result = ap (page_of t.0) (sym (ap (λ m. m.1) t.1.0) ∙ (c.exchange.ensures.2 ∙ ap (λ (o : Option Page). (0, o) ∷ rest before) c.unwrap.ensures)) in
    let calls : SeatState → List Call = λ m. first_calls m.0.passes in
    (ap calls c.exchange.ensures.3 ∙ (ap calls t.1.0 ∙ ap calls i.me), mine ∙ ap (λ (q : Page). own c.args.pass q.history.items) same)
