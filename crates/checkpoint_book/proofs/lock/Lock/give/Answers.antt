use Rattle.std.proofs.Common.{arith, sym, ap, ◌∙◌, subst, ◌≡◌, [], ◌∷◌, Some, None, ℕ, List}
use mathlib.Core.Option.{none}
use Rattle.atomic_table.specs.Table.{Allows, step, rest}
use Rattle.checkpoint_book.specs.declared.call.Call.{Call}
use Rattle.checkpoint_book.specs.declared.page.Page.{Page}
use Rattle.checkpoint.specs.MarkValue.{MarkValue}
use Rattle.checkpoint_book.specs.History.{own}
use Rattle.checkpoint_book.specs.Views.{holder_view, idle_view, released_view}
use Rattle.checkpoint_book.specs.OneHistory.{HasOneHistory}
use Rattle.checkpoint_book.specs.Steps.{GivesPage, SeatState}
use Rattle.checkpoint_book.specs.LockSeats.{calls_of, first_calls, found_history}
use Rattle.checkpoint_book.proofs.Kept.{gives_page}
use Rattle.checkpoint_book.proofs.lock.Lock.give.Goals as goal

-- what the seat knows and holds before it gives the page back
ready : (opening : MarkValue) (pass : ℕ) (calls found : List Call) (page : Page) (me now : SeatState) → me ≡ (holder_view found (idle_view opening ((pass, calls) ∷ [])), (0, None) ∷ []) → now ≡ (me.0, (0, Some page) ∷ rest me.1)
    → now ≡ (holder_view found (idle_view opening ((pass, calls) ∷ [])), (0, Some page) ∷ [])
ready opening pass calls found page me now was is = is ∙ ap (λ (m : SeatState). (m.0, (0, Some page) ∷ rest m.1)) was

pub store-requires : goal.store-requires
store-requires c =
    let key = c.args.self.now.table.shared.key in
    let slots = c.args.self.now.table.shared.table_id.slots in
    let sized = c.args.self.now.sized.0 in (
      c.exchange.ensures.0 ∙ c.requires.held.lock,
      omega arith,
      subst (λ (m : SeatState). Allows (HasOneHistory key) slots c.exchange.new.seat.id m 0 (λ _. 0) (λ _. GivesPage (step slots 0 0 0 none) m 0)) (sym (ready key.opening.value c.args.pass (calls_of c.args.seat.now) (found_history c.args.seat.now) c.args.page c.args.seat.now.place.me c.exchange.new.seat.me c.requires.held.state c.exchange.ensures.3))
          (gives_page key slots c.exchange.new.seat.id key.opening.value c.args.pass (calls_of c.args.seat.now) (found_history c.args.seat.now) c.args.page c.args.self.now.sized.1 c.requires.opening c.requires.adds),
    )

-- what it knows after
done : (c : goal.After-store) → c.store.new.seat.me ≡ (idle_view c.args.self.now.table.shared.key.opening.value ((c.args.pass, own c.args.pass c.args.page.history.items) ∷ []), [])
done c =
    let key = c.args.self.now.table.shared.key in
    let r = ready key.opening.value c.args.pass (calls_of c.args.seat.now) (found_history c.args.seat.now) c.args.page c.args.seat.now.place.me c.exchange.new.seat.me c.requires.held.state c.exchange.ensures.3 in
    c.store.ensures.2 c.args.page (ap (λ (m : SeatState). m.1) r) ∙ ap (λ (m : SeatState). (released_view c.args.page.history.items m.0, [])) r

pub returns-clause-own : goal.returns-clause-own
returns-clause-own c = record { lock = c.store.ensures.0 ∙ (c.exchange.ensures.0 ∙ c.requires.held.lock); state = done c ∙ ap (λ (m : SeatState). (idle_view c.args.self.now.table.shared.key.opening.value ((c.args.pass, first_calls m.0.passes) ∷ []), [])) (sym (done c)) }

pub returns-clause-calls : goal.returns-clause-calls
returns-clause-calls c = ap (λ (m : SeatState). first_calls m.0.passes) (done c)
