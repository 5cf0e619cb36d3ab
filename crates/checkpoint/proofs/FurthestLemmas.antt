-- How far counts lead: from a start, and by the further of two marks.
use Rattle.std.proofs.Common.{◌≡◌, ℕ, max, Option, Some, refl, ap, subst, arith}
use Rattle.checkpoint.proofs.Trajectory.{Ran-max}
use Rattle.checkpoint.specs.Further.{further}
use Rattle.checkpoint.specs.Furthest.{IsFurthest}
use Rattle.checkpoint.specs.MarkValue.{MarkValue, Advances, state_of}
use Rattle.hart_step.specs.Next.{after, Ran}
use Rattle.hart_step.specs.declared.stop.Stop.{Stop}
use Rattle.origin_set.specs.OriginValue.{OriginValue}
use Rattle.origin_set.specs.Start.{start}

-- a mark that has gone on from count 0
pub IsFurthest-started : (n k : ℕ) (why : Option Stop) (old new : MarkValue) → Advances n old k why new → old.count ≡ 0 → IsFurthest old.origin old.context n new
IsFurthest-started n k why old new a none =
    let begin = start old.origin old.context in
    let here : state_of old ≡ Some begin = ap (λ (count : ℕ). after count begin) none in
    let r = a.ran begin here in
    let as_many : k ≡ new.count = omega (arith, a.count, none) in
    record {
      of_origin = a.origin;
      of_context = a.context;
      state = r.0;
      why = why;
      is_state = r.1;
      ran = subst (λ (x : ℕ). Ran n begin x why r.0) as_many r.2;
    }

-- a mark that has gone on from the start
pub IsFurthest-advanced : (origin : OriginValue) (context n k : ℕ) (why : Option Stop) (mark : MarkValue) → Advances n (record { origin = origin; context = context; count = 0 }) k why mark → IsFurthest origin context n mark
IsFurthest-advanced origin context n k why mark a =
    IsFurthest-started n k why (record { origin = origin; context = context; count = 0 }) mark a refl

-- the further of two marks is as far as the greater count leads
pub IsFurthest-further : (origin : OriginValue) (context n m : ℕ) (a b : MarkValue) → IsFurthest origin context n a → IsFurthest origin context m b → IsFurthest origin context (max n m) (further a b)
IsFurthest-further origin context n m a b p q =
    let r = Ran-max n m (start origin context) a.count b.count p.why q.why p.state q.state p.ran q.ran in
    record {
      of_origin = p.of_origin;
      of_context = p.of_context;
      state = r.1;
      why = r.0;
      is_state = rw (p.of_origin, p.of_context) r.2.reached;
      ran = r.2;
    }
