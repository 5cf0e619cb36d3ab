use Rattle.std.proofs.Common.{sym, ap, ◌∙◌, subst, ◌≡◌, Option, Some, None, refl}
use Rattle.atomic_table.specs.Table.{Seen, Final}
use Rattle.checkpoint_book.specs.declared.page.Page.{Page}
use Rattle.checkpoint_book.specs.History.{own}
use Rattle.checkpoint_book.specs.OneHistory.{HasOneHistory}
use Rattle.checkpoint_book.specs.Steps.{SeatState}
use Rattle.checkpoint_book.specs.LockSeats.{seat_passes}
use Rattle.std.specs.Slots.{slots_items}
use Rattle.std.proofs.Common.{IsSome}
use Rattle.checkpoint_book.specs.Among.{In}
use Rattle.checkpoint_book.specs.declared.known.Start.{Start}
use mathlib.Core.Option.{some-injective}
use Rattle.checkpoint_book.proofs.Kept.{settles, Settled}
use Rattle.checkpoint_book.proofs.lock.Lock.close.Goals as goal
use Rattle.checkpoint_book.proofs.lock.Lock.close.Goals.{After-take, After-free}

abbrev key_of : After-take → Start
key_of c = c.args.self.table.shared.key

settled : (c : After-take) → Settled (key_of c) (seat_passes c.args.all) (slots_items c.close_with-closed.result.slots)
settled c =
    settles (key_of c) c.args.all.place.id c.args.all.place.me.0.opening (seat_passes c.args.all) (slots_items c.close_with-closed.result.words) (slots_items c.close_with-closed.result.slots) c.requires.all
    (subst (λ (m : SeatState). Final (Seen (HasOneHistory (key_of c)) c.args.all.place.id m.0) (slots_items c.close_with-closed.result.words) (slots_items c.close_with-closed.result.slots)) c.requires.own.state c.close_with-closed.ensures.values.2)

taken : (c : After-take) → c.take.result ≡ Some (settled c).page
taken c = some-injective _ _ (sym c.take.ensures.value ∙ (settled c).there)

is_some : (o : Option Page) (page : Page) → o ≡ Some page → IsSome o
is_some o page e = subst IsSome (sym e) refl

pub unwrap-page-requires : goal.unwrap-page-requires
unwrap-page-requires c = is_some c.take.result (settled c).page (taken c)

abbrev page_in : Page → Option Page → Page
page_in d (Some page) = page
page_in d None = d

same : (o : Option Page) (p q : Page) → o ≡ Some p → o ≡ Some q → p ≡ q
same o p q e f = ap (page_in p) (sym e ∙ f)

abbrev back : After-free → After-take
back c = (goal.at.returns-clause-opening c).After-take

pub returns-clause-opening : goal.returns-clause-opening
returns-clause-opening c = ap (λ (p : Page). p.opening.value) (sym (same c.take.result (settled (back c)).page c.unwrap-page.result (taken (back c)) c.unwrap-page.ensures)) ∙ (settled (back c)).opening

pub returns-clause-calls : goal.returns-clause-calls
returns-clause-calls c =
    let e = same c.take.result (settled (back c)).page c.unwrap-page.result (taken (back c)) c.unwrap-page.ensures in
    λ x i. (settled (back c)).calls x i ∙ ap (λ (p : Page). own x.0 p.history.items) e

pub returns-clause-no_others : goal.returns-clause-no_others
returns-clause-no_others c =
    let e = same c.take.result (settled (back c)).page c.unwrap-page.result (taken (back c)) c.unwrap-page.ensures in
    λ d i. (settled (back c)).no_others d (subst (λ (p : Page). In p.history.items d) (sym e) i)
