-- Pages with one more behind them.
use Rattle.std.proofs.Common.{◌≡◌, ℕ, ◌+◌, ◌<◌, List, [], ◌∷◌, ◌++◌, length, arith, ap, sym, subst, ◌∙◌, inl, inr}
use Rattle.std.proofs.lemmas.Bool.{cases_lt}
use Rattle.std.proofs.lemmas.Grind.{common_steps}
use Rattle.paged_memory.specs.Pages.{PageValue}
use Rattle.paged_memory.specs.Layout.{page_in}

earlier : (ps : List PageValue) (page : PageValue) (p : ℕ) → p < length ps → page_in (ps ++ page ∷ []) p ≡ page_in ps p
earlier ps page p within = grind (arith, common_steps)

last : (ps : List PageValue) (page : PageValue) (p : ℕ) → p ≡ length ps → page_in (ps ++ page ∷ []) p ≡ page
last ps page p here = grind (arith, common_steps)

-- those before stay
pub pages_kept : (ps new : List PageValue) (page : PageValue) (p : ℕ) → new ≡ ps ++ page ∷ [] → p < length ps → page_in new p ≡ page_in ps p
pages_kept ps new page p grown within = ap (λ (xs : List PageValue). page_in xs p) grown ∙ earlier ps page p within

-- what holds of each page holds of each with the new one
pub pages_more : (P : ℕ → PageValue → Type 0) (ps new : List PageValue) (n : ℕ) (page : PageValue) → new ≡ ps ++ page ∷ [] → length ps ≡ n → P n page → ((p : ℕ) → p < n → P p (page_in ps p)) → (p : ℕ) → p < n + 1 → P p (page_in new p)
pages_more P ps new n page grown long here before p below =
    elim (cases_lt p n) [
      | inl less ↦ subst (P p) (sym (pages_kept ps new page p grown (omega (arith, less)))) (before p less)
      | inr most ↦
          let same : p ≡ n = omega (arith, most, below) in
          let read : page_in new n ≡ page = ap (λ (xs : List PageValue). page_in xs n) grown ∙ last ps page n (sym long) in
          subst (λ (m : ℕ). P m (page_in new m)) (sym same) (subst (P n) (sym read) here)
    ]
