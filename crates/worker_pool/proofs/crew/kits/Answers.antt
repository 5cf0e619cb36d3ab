use Rattle.std.proofs.Common.{arith, ap, refl, sym, subst, ◌≡◌, ◌∙◌, ◌++◌, All, List, length, append-nil}
use Rattle.std.proofs.lemmas.List.{length-map, nil_from_length}
use Rattle.std.proofs.lemmas.List.Elements.{All-push}
use Rattle.crossbeam_deque.specs.Handles.{worker_deque}
use Rattle.worker_pool.specs.declared.kit.Kit.{Kit}
use Rattle.worker_pool.specs.Owners.{Owner, IsOwner, owned}
use Rattle.worker_pool.specs.Thieves.{IsNewRow}
use Rattle.worker_pool.specs.Kits.{IsKit, seats_of, owners_of}
use Rattle.worker_pool.proofs.Steps.{All-first, All-rest, All-middle, map_next, all_ended}
use Rattle.worker_pool.proofs.Thieves.{length-deques_of}
use Rattle.worker_pool.proofs.crew.kits.Given.{Over}
use Rattle.worker_pool.proofs.crew.kits.Goals as goal
use Rattle.worker_pool.proofs.crew.kits.Goals.{In-Some, In-None}

this_row : (g : Over) (c : In-Some g) → IsNewRow (owned c.args.owners.items) c.in-Some.row
this_row g c = All-first (IsNewRow (owned c.args.owners.items)) _ _ _ c.in-Some.ensures.steps.1.1.0 c.loop-seat.invariant.rows

this_owner : (g : Over) (c : In-Some g) → IsOwner c.requires.owners.0 c.in-Some.owner
this_owner g c = All-middle (IsOwner c.requires.owners.0) (owners_of c.loop-seat.kits.items) c.next.new.self.b.a.rest.items c.args.owners.items c.in-Some.owner
    (ap (λ (os : List Owner). owners_of c.loop-seat.kits.items ++ os) (sym c.in-Some.ensures.steps.1.0.0) ∙ c.loop-seat.invariant.owners) c.requires.owners.2

pub invariant_of-supply : goal.invariant_of-supply
invariant_of-supply g c =
    let at = (goal.at.invariant_of-supply g c).In-Some in
    let row = this_row g at in
    let owner = this_owner g at in
    let few = c.requires.owners.1 in
    let has = owner.has in
    let l = ap length row.is_row in
    let d = length-deques_of c.in-Some.row.items in
    let o = length-map c.args.owners.items (λ (u : Owner). worker_deque u) in
    let ok = c.args.owners.ok.0 in
    let many = c.requires.many in let m = many.0 in
    let n = c.loop-seat.invariant.count in
    let s = ap length c.in-Some.ensures.steps.0.0 in
    let own = c.len-own.ensures in
    record { fifo = owner.fifo; part = omega arith; place = omega arith }

pub loop-seat-preserved : goal.loop-seat-preserved
loop-seat-preserved g c =
    let at = (goal.at.loop-seat-preserved g c).In-Some in
    let i = c.loop-seat.invariant in
    let steps = c.in-Some.ensures.steps in
    let push = c.push_reserved.ensures in
    let s = ap length steps.0.0 in
    let o = ap length steps.1.0.0 in
    let r = ap length steps.1.1.0 in
    let m = i.many in let m0 = m.0 in let m1 = m.1 in
    record {
      room = (let a = push.capacity in let b = i.room in omega arith);
      count = (let a = push.len in let b = i.count in omega arith);
      many = (omega arith, omega arith);
      seats = map_next (λ (k : Kit g.row.S.Denot). k.seat) c.loop-seat.kits.items c.push_reserved.new.self.items _ c.loop-seat.seat-iterator.a.rest.items c.next.new.self.a.rest.items c.args.seats.items c.in-Some.seat push.items refl steps.0.0 i.seats;
      owners = map_next (λ (k : Kit g.row.S.Denot). k.supply.owner) c.loop-seat.kits.items c.push_reserved.new.self.items _ c.loop-seat.seat-iterator.b.a.rest.items c.next.new.self.b.a.rest.items c.args.owners.items c.in-Some.owner push.items refl steps.1.0.0 i.owners;
      rows = All-rest (IsNewRow (owned c.args.owners.items)) _ _ _ steps.1.1.0 i.rows;
      kits = subst (All (IsKit (owned c.args.owners.items))) (sym push.items) (All-push (IsKit (owned c.args.owners.items)) c.loop-seat.kits.items _ i.kits (this_row g at));
    }

none_left : (g : Over) (c : In-None g) → length c.loop-seat.seat-iterator.a.rest.items ≡ 0
none_left g c =
    let m = c.loop-seat.invariant.many in let m0 = m.0 in let m1 = m.1 in
    let a = c.loop-seat.seat-iterator.a.rest.ok.0 in
    let b = c.loop-seat.seat-iterator.b.a.rest.ok.0 in
    let d = c.loop-seat.seat-iterator.b.b.rest.ok.0 in
    let z = all_ended c.loop-seat.seat-iterator.a.rest.len c.loop-seat.seat-iterator.b.a.rest.len c.loop-seat.seat-iterator.b.b.rest.len (omega arith) (omega arith) c.in-None.ensures.steps in omega arith

pub returns-clause-seats : goal.returns-clause-seats
returns-clause-seats g c =
    let none = none_left g (goal.at.returns-clause-seats g c).In-None in
    sym (append-nil (seats_of c.loop-seat.kits.items)) ∙ (ap (λ (l : List g.row.S.Denot). seats_of c.loop-seat.kits.items ++ l) (sym (nil_from_length c.loop-seat.seat-iterator.a.rest.items none)) ∙ c.loop-seat.invariant.seats)

pub returns-clause-owners : goal.returns-clause-owners
returns-clause-owners g c =
    let none = none_left g (goal.at.returns-clause-owners g c).In-None in
    let m = c.loop-seat.invariant.many in let m0 = m.0 in
    sym (append-nil (owners_of c.loop-seat.kits.items)) ∙ (ap (λ (l : List Owner). owners_of c.loop-seat.kits.items ++ l) (sym (nil_from_length c.loop-seat.seat-iterator.b.a.rest.items (omega arith))) ∙ c.loop-seat.invariant.owners)
