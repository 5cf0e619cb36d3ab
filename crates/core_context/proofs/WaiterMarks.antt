-- Marks of what waits for issue, and one more that waits.
use Rattle.std.proofs.Common.{◌≡◌, ℕ, zero, suc, ◌-◌, ◌<◌, Bool, true, false, List, [], ◌∷◌, ◌++◌, length, get_or, refl, sym, ap, ap₂, ◌∙◌, arith, length-append}
use Rattle.std.specs.Prelude.{set, if◌then◌else◌}
use Rattle.std.proofs.lemmas.List.{get_or_at}
use Rattle.core_view.specs.declared.entry.Entry.{Entry}
use Rattle.core_view.specs.Operations.{stops_at_fetch, is_load, is_guessed}
use Rattle.data_flow.specs.declared.operands.Operands.{Operands}
use Rattle.data_flow.specs.Flow.{Node, Lane, Flow, no_node, no_lane, lane, with_lane, with_node}
use Rattle.core_context.specs.Steps.{IsRemarked, renamed_flow}
use Rattle.core_context.specs.Cores.{operands_of}

-- ---- marks

pub remark_none : (f : Flow) → IsRemarked f f
remark_none f = record { flow = refl; waits = refl }

-- ---- one more instruction

lane_here : (ls : List Lane) (c : ℕ) (l : Lane) → length (get_or ls c no_lane).nodes < (get_or ls c no_lane).room → get_or (set ls c l) c no_lane ≡ l
lane_here [] c l lt = absurd (omega arith)
lane_here (x ∷ ls) zero l lt = refl
lane_here (x ∷ ls) (suc c) l lt = lane_here ls c l lt

newest_at : (ns : List Node) (n : Node) → get_or (ns ++ n ∷ []) (length (ns ++ n ∷ []) - 1) no_node ≡ n
newest_at ns n =
    let len : length (ns ++ n ∷ []) - 1 ≡ length ns = omega (arith, length-append ns (n ∷ [])) in
    ap (λ i. get_or (ns ++ n ∷ []) i no_node) len ∙ get_or_at ns n [] no_node (length ns) refl

-- one more instruction that stops at fetch doesn't wait
pub renamed_stops : (f h : Flow) (c : ℕ) (e : Entry) (o : Operands) (speculative : Bool) → o ≡ operands_of e → h ≡ with_lane f c (with_node (lane f c) o) → stops_at_fetch e.operation ≡ true → h ≡ renamed_flow f c e speculative
renamed_stops f h c e o speculative is renamed stops =
    renamed ∙ ap (λ (p : Operands). with_lane f c (with_node (lane f c) p)) is
    ∙ sym (ap (λ (b : Bool). if b then g else record g { waiters = f.waiters ++ record { stamp = e.stamp; context = c; guessed = is_guessed e.operation; load = is_load e.operation; speculative = speculative; held = false } ∷ [] }) stops)
  where
    g : Flow
    g = with_lane f c (with_node (lane f c) (operands_of e))

-- one more instruction that waits, in one step
pub renamed_waiting : (f h : Flow) (c : ℕ) (e : Entry) (o : Operands) (speculative guessed load : Bool) → o ≡ operands_of e → stops_at_fetch e.operation ≡ false → guessed ≡ is_guessed e.operation → load ≡ is_load e.operation
    → h ≡ record (with_lane f c (with_node (lane f c) o)) { waiters = f.waiters ++ record { stamp = o.stamp; context = c; guessed = guessed; load = load; speculative = speculative; held = false } ∷ [] } → h ≡ renamed_flow f c e speculative
renamed_waiting f h c e o speculative guessed load is stops guess loads waits =
    waits ∙ ap₂ (more o) guess loads ∙ ap (λ (p : Operands). more p (is_guessed e.operation) (is_load e.operation)) is
    ∙ sym (ap (λ (b : Bool). if b then with_lane f c (with_node (lane f c) (operands_of e)) else more (operands_of e) (is_guessed e.operation) (is_load e.operation)) stops)
  where
    more : Operands → Bool → Bool → Flow
    more p guessed load = record (with_lane f c (with_node (lane f c) p)) { waiters = f.waiters ++ record { stamp = p.stamp; context = c; guessed = guessed; load = load; speculative = speculative; held = false } ∷ [] }
