use Rattle.std.proofs.Common.{◌≡◌, ◌++◌, ◌∙◌, List, ℕ, ap, arith, false, sym, true}
use Rattle.std.specs.Prelude.{nat_le}
use Rattle.std.proofs.lemmas.Grind.{common_steps}
use Rattle.checkpoint_file.proofs.LineLemmas.{page_alone, page_none}
use Rattle.paged_memory.specs.Regions.{data_start}
use Rattle.checkpoint_file.proofs.matching.after_if_data.Goals as goal

pub returns-then-address-lt-DATA_START-clause-found : goal.returns-then-address-lt-DATA_START-clause-found
returns-then-address-lt-DATA_START-clause-found c =
    let none : nat_le data_start c.args.page.now.address ≡ false = grind (arith, common_steps) in
    ap (λ (t : List ℕ). t ++ c.args.bytes.now) (page_none c.args.page.now none)

pub returns-then-address-lt-DATA_START-clause-only : goal.returns-then-address-lt-DATA_START-clause-only
returns-then-address-lt-DATA_START-clause-only c rest e =
    let none : nat_le data_start c.args.page.now.address ≡ false = grind (arith, common_steps) in
    e ∙ ap (λ (t : List ℕ). t ++ rest) (sym (page_none c.args.page.now none))

pub returns-in_err-rest-clause-only : goal.returns-in_err-rest-clause-only
returns-in_err-rest-clause-only c rest e =
    let there : nat_le data_start c.args.page.now.address ≡ true = grind (arith, common_steps) in
    absurd (c.in_err-rest.ensures.only rest (e ∙ ap (λ (t : List ℕ). t ++ rest) (sym (page_alone c.args.page.now there))))

pub returns-clause-found : goal.returns-clause-found
returns-clause-found c =
    let there : nat_le data_start c.args.page.now.address ≡ true = grind (arith, common_steps) in
    c.in_ok-rest.ensures.found ∙ ap (λ (t : List ℕ). t ++ c.in_ok-rest.rest.now) (page_alone c.args.page.now there)

pub returns-clause-only : goal.returns-clause-only
returns-clause-only c rest e =
    let there : nat_le data_start c.args.page.now.address ≡ true = grind (arith, common_steps) in
    c.in_ok-rest.ensures.only rest (e ∙ ap (λ (t : List ℕ). t ++ rest) (sym (page_alone c.args.page.now there)))
