use Rattle.std.proofs.Common.{◌≡◌, ℕ, ◌+◌, ◌-◌, ◌≤◌, arith}
use Rattle.std.specs.Prelude.{◌↔◌, IsTrue, leb}
use Rattle.std.proofs.lemmas.Bool.Decides.{nat_tests}
use Rattle.entry_stages.proofs.renaming.is_past_front.Goals as goal

at-latest : (fetched delay n cycle latest : ℕ) → n ≡ delay → (n ≤ cycle) × (latest ≡ cycle - n) → IsTrue (leb fetched latest) ↔ (fetched + delay ≤ cycle)
at-latest fetched delay n cycle latest is past = grind (arith, nat_tests, past.0, past.1, is)

pub returns-in-Some : goal.returns-in-Some
returns-in-Some c = at-latest c.args.entry.now.fetched c.args.profile.now.front_delay c.from.result c.args.cycle c.in-Some.latest c.from.ensures c.in-Some.ensures
