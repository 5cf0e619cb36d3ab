use Rattle.std.proofs.Common.{◌≡◌, List, ℕ, subst, option_map}
use Rattle.toml.proofs.Views.{table_get}
use Rattle.toml.specs.Data.{get_member}
use Rattle.toml.specs.View.{table_view, view}
use Rattle.core_profile.proofs.table.value_at.Goals as goal

pub returns : goal.returns
returns c =
    let P : List ℕ → Type 0 = λ k. option_map (λ v. view v.now) c.get.result ≡ get_member k (table_view c.args.table.now) in
    subst P c.name.ensures (table_get c.get.result c.name.result.now c.args.table.now.entries c.get.ensures.value)
