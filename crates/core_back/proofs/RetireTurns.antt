-- The contexts' turns to retire, one after another.
use Rattle.std.proofs.Common.{◌≡◌, ◌≢◌, ℕ, ◌+◌, ◌<◌, ◌≤◌, ◌⊎◌, inl, inr, Bool, true, false, cond, List, [], ◌∷◌, ◌++◌, length, take, map, All, refl, sym, ap, ◌∙◌, subst, arith, append-nil, append_assoc}
use Rattle.std.specs.Prelude.{◌==◌, AllPairs, filter}
use Rattle.std.proofs.lemmas.Bool.Decides.{nat_tests}
use Rattle.std.proofs.lemmas.List.{length-append, length-map, length-take, length-set, get_or-set_other}
use Rattle.std.proofs.lemmas.List.Elements.{All-push, All-append}
use Rattle.std.proofs.lemmas.List.Quantifiers.{all_pairs_push}
use Rattle.hart_step.specs.State.{State}
use Rattle.hart_step.specs.Next.{after}
use Rattle.checkpoint.proofs.Laws.{after-+}
use Rattle.origin_set.specs.Start.{start}
use Rattle.fetch_policy.specs.Lawful.{turn}
use Rattle.core_view.specs.declared.entry.Entry.{Entry}
use Rattle.core_view.specs.declared.note.EntryId.{EntryId}
use Rattle.core_view.specs.declared.status.Status.{Status}
use Rattle.core_view.specs.declared.status.Status.TheVariants.{Running, Parked, Stopped}
use Rattle.core_view.specs.View.{Context, IsLive}
use Rattle.lawful_cycle.specs.Views.{stamps_in, number_in, stamps_of}
use Rattle.lawful_cycle.specs.Retire.{RetiresBy, KeepsDone, IsRetire}
use Rattle.core_back.specs.Machine.{Machine, context_at, with_context, with_contexts, no_context}
use Rattle.core_back.specs.Turn.{TurnsBy, IsTurn, id_of}

-- ---- stamps of a context

stamps_append : (c : ℕ) (xs ys : List EntryId) → stamps_in c (xs ++ ys) ≡ stamps_in c xs ++ stamps_in c ys
stamps_append c [] ys = refl
stamps_append c (x ∷ xs) ys = go (x.context == c) (stamps_append c xs ys)
  where
    go : (b : Bool) → stamps_in c (xs ++ ys) ≡ stamps_in c xs ++ stamps_in c ys → map (λ (n : EntryId). n.stamp) (cond b (x ∷ filter (λ n. n.context == c) (xs ++ ys)) (filter (λ n. n.context == c) (xs ++ ys)))
        ≡ map (λ (n : EntryId). n.stamp) (cond b (x ∷ filter (λ n. n.context == c) xs) (filter (λ n. n.context == c) xs)) ++ stamps_in c ys
    go true h = ap (λ ks. x.stamp ∷ ks) h
    go false h = h

stamps_own : (c : ℕ) (es : List Entry) → stamps_in c (map (id_of c) es) ≡ stamps_of es
stamps_own c [] = refl
stamps_own c (e ∷ es) = let same : (c == c) ≡ true = grind (arith, nat_tests) in rw same (ap (λ ks. e.stamp ∷ ks) (stamps_own c es))

stamps_other : (c d : ℕ) (es : List Entry) → c ≢ d → stamps_in d (map (id_of c) es) ≡ []
stamps_other c d [] ne = refl
stamps_other c d (e ∷ es) ne = let other : (c == d) ≡ false = grind (arith, nat_tests, ne) in rw other (stamps_other c d es ne)

-- ---- turns

-- two contexts of one turn are one
pub one_turn : (cycle c d : ℕ) → c < 8 → d < 8 → turn cycle c ≡ turn cycle d → c ≡ d
one_turn cycle c d lc ld e = omega (arith, e)

turn_small : (cycle c : ℕ) → turn cycle c < 8
turn_small cycle c = omega arith

in_turns_append : (cycle c : ℕ) (es : List Entry) (ids : List EntryId) → All (λ (n : EntryId). turn cycle n.context ≤ turn cycle c) ids
    → AllPairs (λ (n m : EntryId). turn cycle n.context ≤ turn cycle m.context) ids → AllPairs (λ (n m : EntryId). turn cycle n.context ≤ turn cycle m.context) (ids ++ map (id_of c) es)
in_turns_append cycle c [] ids below pairs = rw (append-nil ids) pairs
in_turns_append cycle c (e ∷ es) ids below pairs =
    let n = id_of c e in
    let R : EntryId → EntryId → Type 0 = λ n m. turn cycle n.context ≤ turn cycle m.context in
    let P : EntryId → Type 0 = λ n. turn cycle n.context ≤ turn cycle c in
    subst (AllPairs R) (append_assoc ids (n ∷ []) (map (id_of c) es))
    (in_turns_append cycle c es (ids ++ n ∷ []) (All-push P ids n below (omega arith)) (all_pairs_push R ids n pairs below))

all_of : (P : EntryId → Type 0) (c : ℕ) (es : List Entry) → ((e : Entry) → P (id_of c e)) → All P (map (id_of c) es)
all_of P c [] h = λ k d lt. absurd (omega (arith, lt))
all_of P c (e ∷ es) h = All-append P (id_of c e ∷ []) (map (id_of c) es) (All-push P [] (id_of c e) (λ k d lt. absurd (omega (arith, lt))) (h e)) (all_of P c es h)

-- ---- some turns are over

pub record HasTurned (x y : Context) (c : ℕ) (ids : List EntryId) : Type 0 where
  pub turned : TurnsBy (number_in c ids) x y x.status
  pub listed : stamps_in c ids ≡ stamps_of (take (number_in c ids) x.flight)

pub record NotYet (x y : Context) (c : ℕ) (ids : List EntryId) : Type 0 where
  pub same : y ≡ x
  pub none : stamps_in c ids ≡ []

-- the first t turns are over
pub record Turned (width t : ℕ) (m n : Machine) (left : ℕ) (ids : List EntryId) : Type 0 where
  pub count_first : length m.view.contexts ≡ 8
  pub frame : n ≡ with_contexts m n.view.contexts
  pub count : length n.view.contexts ≡ 8
  pub sum : left + length ids ≡ width
  pub over : (c : ℕ) → c < 8 → turn m.view.cycle c < t → HasTurned (context_at m c) (context_at n c) c ids
  pub not_yet : (c : ℕ) → c < 8 → t ≤ turn m.view.cycle c → NotYet (context_at m c) (context_at n c) c ids
  pub within : All (λ (i : EntryId). i.context < 8) ids
  pub past : All (λ (i : EntryId). turn m.view.cycle i.context < t) ids
  pub in_turns : AllPairs (λ (i j : EntryId). turn m.view.cycle i.context ≤ turn m.view.cycle j.context) ids
  pub used_up : (c : ℕ) → c < 8 → turn m.view.cycle c < t → KeepsDone (context_at n c) → left ≡ 0
  pub none_after : (c d : ℕ) → c < 8 → d < 8 → turn m.view.cycle c < t → KeepsDone (context_at n c) → turn m.view.cycle c < turn m.view.cycle d → stamps_in d ids ≡ []

pub turned_none : (width left : ℕ) (m : Machine) (ids : List EntryId) → length m.view.contexts ≡ 8 → ids ≡ [] → left ≡ width → Turned width 0 m m left ids
turned_none width left m ids count none whole = rw none (record {
  count_first = count;
  frame = refl;
  count = count;
  sum = omega (arith, whole);
  over = λ c lc lt. absurd (omega (arith, lt));
  not_yet = λ c lc le. record { same = refl; none = refl };
  within = λ k d lt. absurd (omega (arith, lt));
  past = λ k d lt. absurd (omega (arith, lt));
  in_turns = λ i j d lt over. absurd (omega (arith, over));
  used_up = λ c lc lt. absurd (omega (arith, lt));
  none_after = λ c d lc ld lt. absurd (omega (arith, lt));
})

turns_front : (k : ℕ) (x y : Context) (s : Status) → TurnsBy k x y s → k ≤ length x.flight
turns_front k x y Running h = h.front
turns_front k x y Parked h = omega (arith, h.0)
turns_front k x y (Stopped why) h = omega (arith, h.0)

-- one more turn
module _ (width t : ℕ) (m n u : Machine) (left more : ℕ) (ids new : List EntryId) (c : ℕ) (before : Turned width t m n left ids) (lc : c < 8) (at : turn m.view.cycle c ≡ t) (now : IsTurn n u c left more ids new) where
  abbrev es : List Entry
  es = take now.number (context_at n c).flight

  long : length es ≡ now.number
  long = let f = turns_front now.number (context_at n c) (context_at u c) (context_at n c).status now.turned in omega (arith, length-take now.number (context_at n c).flight, f)

  stamps_here : stamps_in c new ≡ stamps_of es
  stamps_here =
      ap (stamps_in c) now.listed ∙ stamps_append c ids (map (id_of c) es) ∙ ap (λ ks. ks ++ stamps_in c (map (id_of c) es)) (before.not_yet c lc (omega (arith, at))).none ∙ stamps_own c es

  stamps_there : (d : ℕ) → c ≢ d → stamps_in d new ≡ stamps_in d ids
  stamps_there d ne =
      ap (stamps_in d) now.listed ∙ stamps_append d ids (map (id_of c) es) ∙ ap (λ ks. stamps_in d ids ++ ks) (stamps_other c d es ne) ∙ append-nil (stamps_in d ids)

  there : (d : ℕ) → c ≢ d → context_at u d ≡ context_at n d
  there d ne = ap (λ (k : Machine). context_at k d) now.after ∙ get_or-set_other n.view.contexts c d (context_at u c) no_context (λ e. ne (sym e))

  other : (d : ℕ) → turn m.view.cycle d ≢ t → c ≢ d
  other d ne same = ne (ap (turn m.view.cycle) (sym same) ∙ at)

  pub turned_next : Turned width (t + 1) m u more new
  turned_next = record {
    count_first = before.count_first;
    frame = now.after ∙ ap (λ (k : Machine). with_context k c (context_at u c)) before.frame ∙ ap (with_contexts m) (sym (ap (λ (k : Machine). k.view.contexts) now.after));
    count = ap (λ (k : Machine). length k.view.contexts) now.after ∙ length-set n.view.contexts c (context_at u c) ∙ before.count;
    sum = (let h = before.sum in let k = now.taken in let all = ap (λ (is : List EntryId). length is) now.listed in
        omega (arith, h, k, all, length-append ids (map (id_of c) es), length-map es (id_of c), long));
    over = over_next;
    not_yet = λ d ld le. (let ne = other d (λ e. absurd (omega (arith, e, le))) in let h = before.not_yet d ld (omega (arith, le)) in
        record { same = there d ne ∙ h.same; none = stamps_there d ne ∙ h.none });
    within = subst (λ (is : List EntryId). All (λ (i : EntryId). i.context < 8) is) (sym now.listed)
        (All-append (λ (i : EntryId). i.context < 8) ids (map (id_of c) es) before.within (all_of (λ (i : EntryId). i.context < 8) c es (λ e. lc)));
    past = subst (λ (is : List EntryId). All (λ (i : EntryId). turn m.view.cycle i.context < t + 1) is) (sym now.listed)
        (All-append (λ (i : EntryId). turn m.view.cycle i.context < t + 1) ids (map (id_of c) es)
        (λ k d lt. let h = before.past k d lt in omega (arith, h))
        (all_of (λ (i : EntryId). turn m.view.cycle i.context < t + 1) c es (λ e. omega (arith, at))));
    in_turns = subst (λ (is : List EntryId). AllPairs (λ (i j : EntryId). turn m.view.cycle i.context ≤ turn m.view.cycle j.context) is) (sym now.listed)
        (in_turns_append m.view.cycle c es ids (λ k d lt. let h = before.past k d lt in omega (arith, h, at)) before.in_turns);
    used_up = used_next;
    none_after = none_next;
  }
    where
      -- a context's turn is this one, or an earlier one
      which : (d : ℕ) → d < 8 → turn m.view.cycle d < t + 1 → (c ≡ d) ⊎ (turn m.view.cycle d < t)
      which d ld lt = by (turn m.view.cycle d == t) refl
        where
          by : (b : Bool) → (turn m.view.cycle d == t) ≡ b → (c ≡ d) ⊎ (turn m.view.cycle d < t)
          by true q = let e : turn m.view.cycle d ≡ t = grind (arith, nat_tests, q) in inl (one_turn m.view.cycle c d lc ld (at ∙ sym e))
          by false q = let ne : turn m.view.cycle d ≢ t = λ e. absurd (grind (arith, nat_tests, q, e)) in inr (omega (arith, ne, lt))

      over_next : (d : ℕ) → d < 8 → turn m.view.cycle d < t + 1 → HasTurned (context_at m d) (context_at u d) d new
      over_next d ld lt = by (which d ld lt)
        where
          by : (c ≡ d) ⊎ (turn m.view.cycle d < t) → HasTurned (context_at m d) (context_at u d) d new
          by (inl e) = subst (λ j. HasTurned (context_at m j) (context_at u j) j new) e here
            where
              number-is : number_in c new ≡ now.number
              number-is = ap (λ ks. length ks) stamps_here ∙ length-map es (λ f. f.stamp) ∙ long

              same : context_at n c ≡ context_at m c
              same = (before.not_yet c lc (omega (arith, at))).same

              here : HasTurned (context_at m c) (context_at u c) c new
              here = record {
                turned = subst (λ k. TurnsBy k (context_at m c) (context_at u c) (context_at m c).status) (sym number-is)
                    (subst (λ (x : Context). TurnsBy now.number x (context_at u c) x.status) same now.turned);
                listed = stamps_here ∙ ap (λ (x : Context). stamps_of (take now.number x.flight)) same ∙ ap (λ k. stamps_of (take k (context_at m c).flight)) (sym number-is);
              }
          by (inr below) =
              let ne = other d (λ e. absurd (omega (arith, e, below))) in
              let h = before.over d ld below in
              let keeps : stamps_in d ids ≡ stamps_in d new = sym (stamps_there d ne) in
              subst (λ (y : Context). HasTurned (context_at m d) y d new) (sym (there d ne)) (record {
                turned = subst (λ ks. TurnsBy (length ks) (context_at m d) (context_at n d) (context_at m d).status) keeps h.turned;
                listed = sym keeps ∙ h.listed ∙ ap (λ ks. stamps_of (take (length ks) (context_at m d).flight)) keeps;
              })

      used_next : (d : ℕ) → d < 8 → turn m.view.cycle d < t + 1 → KeepsDone (context_at u d) → more ≡ 0
      used_next d ld lt keeps = by (which d ld lt)
        where
          by : (c ≡ d) ⊎ (turn m.view.cycle d < t) → more ≡ 0
          by (inl e) = now.kept (subst (λ j. KeepsDone (context_at u j)) (sym e) keeps)
          by (inr below) =
              let h : left ≡ 0 = before.used_up d ld below (subst KeepsDone (there d (other d (λ e. absurd (omega (arith, e, below))))) keeps) in
              let k = now.taken in omega (arith, h, k)

      none_next : (d f : ℕ) → d < 8 → f < 8 → turn m.view.cycle d < t + 1 → KeepsDone (context_at u d) → turn m.view.cycle d < turn m.view.cycle f → stamps_in f new ≡ []
      none_next d f ld lf lt keeps later = by (which d ld lt)
        where
          by : (c ≡ d) ⊎ (turn m.view.cycle d < t) → stamps_in f new ≡ []
          by (inl e) =
              let past_t : t < turn m.view.cycle f = omega (arith, at, ap (turn m.view.cycle) e, later) in
              stamps_there f (other f (λ q. absurd (omega (arith, q, past_t)))) ∙ (before.not_yet f lf (omega (arith, past_t))).none
          by (inr below) =
              let kept : KeepsDone (context_at n d) = subst KeepsDone (there d (other d (λ e. absurd (omega (arith, e, below))))) keeps in
              let h : left ≡ 0 = before.used_up d ld below kept in
              let taken = now.taken in
              let zero_taken : now.number ≡ 0 = omega (arith, h, taken) in
              let same : new ≡ ids = now.listed ∙ ap (λ k. ids ++ map (id_of c) (take k (context_at n c).flight)) zero_taken ∙ append-nil ids in
              ap (stamps_in f) same ∙ before.none_after d f ld lf below kept later

-- ---- all turns are over

-- each context is live before and after
abbrev pub AllLive : Machine → Type 0
AllLive m = (c : ℕ) → c < 8 → IsLive (start m.origin c) m.view.stamp (context_at m c)

-- so what each turn makes of a context is what plain RV64I makes of its state
retires_by : (x y : Context) (s : State) (k i j : ℕ) (status : Status) → IsLive s i x → IsLive s j y → TurnsBy k x y status → RetiresBy k x y status
retires_by x y s k i j Running a b h =
    let count-is : x.count + k ≡ y.count = sym (ap (λ (z : Context). z.count) h.is) in
    record { front = h.front; done = h.done; within = h.within; state = sym (after-+ x.count k s x.state a.reached) ∙ ap (λ n. after n s) count-is ∙ b.reached; is = h.is }
retires_by x y s k i j Parked a b h = h
retires_by x y s k i j (Stopped why) a b h = h

pub retire_lawful : (left : ℕ) (m n : Machine) (ids : List EntryId) → AllLive m → AllLive n → Turned m.view.profile.retire_width 8 m n left ids → IsRetire m.view n.view ids
retire_lawful left m n ids live later all =
    let cycle = m.view.cycle in
    let alike = all.frame in
    record {
      contexts = record {
        contexts = record {
          count_before = all.count_first;
          count_after = all.count;
          each = λ c lc. retires_by (context_at m c) (context_at n c) (start m.origin c) (number_in c ids) m.view.stamp n.view.stamp (context_at m c).status (live c lc)
              (subst (λ o. IsLive (start o c) n.view.stamp (context_at n c)) (ap (λ (k : Machine). k.origin) alike) (later c lc)) (all.over c lc (turn_small cycle c)).turned;
        };
        profile = ap (λ (k : Machine). k.view.profile) alike;
        cycle = ap (λ (k : Machine). k.view.cycle) alike;
        stamp = ap (λ (k : Machine). k.view.stamp) alike;
      };
      fronts = λ c lc. (all.over c lc (turn_small cycle c)).listed;
      turns = record { within = all.within; in_turns = all.in_turns };
      most = (let h = all.sum in omega (arith, h));
      used_up = λ c lc keeps. (let z : left ≡ 0 = all.used_up c lc (turn_small cycle c) keeps in let h = all.sum in omega (arith, z, h));
      none_after = λ c d lc ld keeps later. ap (λ ks. length ks) (all.none_after c d lc ld (turn_small cycle c) keeps later);
    }
